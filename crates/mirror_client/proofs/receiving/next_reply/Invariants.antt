use Rattle.std.proofs.Common.{◌≡◌, ◌-◌, length}
use Rattle.std.specs.Io.KnownBytes.{Consumes, prepend_known}
use Rattle.mirror_client.specs.Readers.{IsBegun}
use Rattle.mirror_client.proofs.receiving.next_reply.Given as goal

-- what the reader keeps was consumed from what was owed, no response was complete, nothing was written, and no error
-- was counted
abbrev pub invariant-loop-incoming : goal.invariant-loop-incoming
invariant-loop-incoming g l = record {
  begun : IsBegun l.reader;
  read :
      Consumes (prepend_known l.initial.incoming.unused (g.K.Source.left l.initial.link)) (prepend_known l.incoming.unused (g.K.Source.left l.link))
      l.reader.kept;
  used : l.incoming.used ≡ l.initial.incoming.used;
  taken : g.K.Sink.taken l.link ≡ g.K.Sink.taken l.initial.link;
  faultless : g.K.Faulted.faults l.link ≡ g.K.Faulted.faults l.initial.link;
}

-- each chunk lengthens what is kept, which has a maximum
abbrev pub decreases-loop-incoming : goal.decreases-loop-incoming
decreases-loop-incoming g l = 1073758217 - length l.reader.kept
