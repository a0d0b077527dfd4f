-- What is read of the arguments is in the ranges that the commands require.
use Rattle.std.proofs.lemmas.Bool.{leb-true}
use Rattle.relay_command.specs.Terms.{MayRelay}
use Rattle.serve_command.specs.Terms.{MayServe}
use Rattle.daapshare_words.specs.Relay.{AreRelayWords}
use Rattle.daapshare_words.specs.Serve.{AreServeWords}
use Rattle.daapshare_words.specs.declared.relay.RelayWords.{RelayWords}
use Rattle.daapshare_words.specs.declared.serve.ServeWords.{ServeWords}
use Rattle.command_runs.specs.Table.{relaying_of, serving_of}

pub may_serve : (words : ServeWords) → AreServeWords words → MayServe (serving_of words)
may_serve words h = record {
  name = leb-true _ _ h.name;
  some_kept = h.keep.0;
  few_kept = h.keep.1;
  some_workers = h.workers.0;
  few_workers = h.workers.1;
  some_editors = h.editors.0;
  few_editors = h.editors.1;
  one_editor = h.one_editor;
}

pub may_relay : (words : RelayWords) → AreRelayWords words → MayRelay (relaying_of words)
may_relay words h = record {
  name = leb-true _ _ h.name;
  some_kept = h.keep.0;
  few_kept = h.keep.1;
  some_workers = h.workers.0;
  few_workers = h.workers.1;
  some_rounds = h.rounds.0;
  few_rounds = h.rounds.1;
}
