-- What is promised of every run, if enough is known of the outside.
use Rattle.std.specs.Prelude.{ℕ, List, Bool, Option}
use Rattle.outside_net.specs.Counts.{Rose}
use Rattle.item_model.specs.declared.request.Target.{Target}
use Rattle.command_core.specs.Seen.{Run}
use Rattle.link_commands.specs.Decided.{DecidesEdit, DecidesFollow, IsOrMemory, IsTextRefused}
use Rattle.link_commands.specs.Meanings.{KeepsNet}

-- no error was counted on the input, the output and the network
pub record IsFaultless (told : Run) : Type 0 where
  pub input : Rose told.before.input.faults told.after.input.faults → ⊥
  pub output : Rose told.output_before.faults told.output_after.faults → ⊥
  pub net : Rose told.before.around.net.faults told.after.around.net.faults → ⊥

pub record FollowPromises (host : List ℕ) (rounds : ℕ) (query meta : Option (List ℕ)) (target : Target) (told : Run) (status : ℕ) : Type 0 where
  pub net : KeepsNet host told status
  -- refused texts decide the status if the output did not fail
  pub refused : (Rose told.output_before.faults told.output_after.faults → ⊥) → IsTextRefused query meta → IsOrMemory 3 status
  pub decided : IsFaultless told → DecidesFollow host rounds query meta target told status

pub record EditPromises (host : List ℕ) (stop : Bool) (told : Run) (status : ℕ) : Type 0 where
  pub net : KeepsNet host told status
  pub decided : IsFaultless told → DecidesEdit stop told status
