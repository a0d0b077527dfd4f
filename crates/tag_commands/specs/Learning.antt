-- What was read of a response of content codes before it is whole.
use Rattle.std.specs.Prelude.{◌≡◌, ◌≢◌, ◌++◌, ◌&&◌, nat_le, ℕ, List, length, take, drop, Bool}
use Rattle.std.specs.Io.KnownBytes.{Consumes}
use Rattle.dmap_stream.specs.Walk.{told_length, broken}
use Rattle.code_table.specs.declared.reply.CodeError.TheVariants as table
use Rattle.code_table.specs.declared.row.CodeRow.{CodeRow}
use Rattle.dmap_stream.specs.declared.refusal.StreamError.TheVariants as stream
use Rattle.command_core.specs.declared.fault.Fault.{Fault}
use Rattle.command_core.specs.declared.fault.Fault.TheVariants.{Own, Read, Memory}
use Rattle.command_core.specs.Seen.{InputSeen}
use Rattle.tag_commands.specs.declared.learn.LearnFault.{LearnFault}
use Rattle.tag_commands.specs.declared.learn.LearnFault.TheVariants.{Broken, Table}
use Rattle.tag_commands.specs.declared.learn.Learner.{Learner}
use Rattle.tag_commands.specs.TopTags.{walk_of_tags}
use Rattle.tag_commands.specs.Counting.{IsCounted}
use Rattle.tag_commands.specs.LearnCodes.{HasNoTag, HasNoReply, IsReply, IsReplyRefused}

-- a whole head, and after it as many bytes as it states
abbrev pub is_whole : List ℕ → Bool
is_whole bytes = nat_le 8 (length bytes) && nat_le (told_length (take 8 bytes)) (length (drop 8 bytes))

-- the learner has these bytes, which begin with no whole tag, and its reader was fed them
pub record IsLearning (fed : List ℕ) (learner : Learner) : Type 0 where
  pub bytes : learner.bytes.items ≡ fed
  pub counted : IsCounted fed learner.counter
  pub open_ : HasNoTag fed

-- the bytes that were read are a reply, whose table has these rows
abbrev pub HasReadReply : List CodeRow → InputSeen → InputSeen → Type 0
HasReadReply rows before after = (fed : List ℕ) × IsReply rows fed × Consumes before.left after.left fed

-- the error of just these bytes
abbrev pub IsRefusal : List ℕ → Fault LearnFault → Type 0
IsRefusal bytes (Own (Broken error)) = HasNoTag bytes × ((error ≢ stream.Memory) × ((walk_of_tags bytes).ending ≡ broken error))
IsRefusal bytes (Own (Table error)) = (error ≢ table.Memory) × IsReplyRefused error bytes
IsRefusal bytes Read = ⊥
IsRefusal bytes Memory = Unit {0}

-- the error of all bytes that begin with these
abbrev pub LearnStops : List ℕ → Fault LearnFault → Type 0
LearnStops bytes (Own (Broken error)) = (error ≢ stream.Memory) × ((rest : List ℕ) → HasNoReply error (bytes ++ rest))
LearnStops bytes (Own (Table error)) = (error ≢ table.Memory) × ((rest : List ℕ) → IsReplyRefused error (bytes ++ rest))
LearnStops bytes Read = ⊥
LearnStops bytes Memory = Unit {0}
