-- The specification of each command is sensible, a line for each.
use Rattle.std.proofs.Common.{Bool, true, false, refl}
use Rattle.command_core.specs.declared.fault.Fault.{Fault}
use Rattle.command_core.specs.declared.fault.Fault.TheVariants.{Own, Read, Memory}
use Rattle.command_core.specs.Seen.{Seen, IsUnread}
use Rattle.command_core.specs.Meanings.{IsCause}
use Rattle.command_core.proofs.Sensible.{IsSensible, WritesOnce}
use Rattle.json_commands.proofs.Senses.{json_sense, json_back_sense}
use Rattle.share_commands.proofs.ReplaySense.{replay_sense}
use Rattle.tag_commands.proofs.Senses.{check_sense, show_sense, show_back_sense, codes_sense, learn_sense}
use Rattle.share_commands.proofs.Senses.{list_sense, rehearse_sense}
use Rattle.daapshare_words.specs.declared.command.LocalCommand.{LocalCommand}
use Rattle.daapshare_words.specs.declared.command.LocalCommand.TheVariants as local
use Rattle.command_runs.specs.declared.usage.UsageFault.{UsageFault}
use Rattle.command_runs.specs.Usage.{usage_meaning}
use Rattle.command_runs.specs.Table.{show_meaning_of, json_meaning_of, codes_meaning_of, target_of, meaning_of}

-- arguments that are not a command's leave the input unchanged
untouched : (before after : Seen) (fault : Fault UsageFault) → IsCause usage_meaning before after fault → IsUnread before.input after.input
untouched before after (Own own) cause = cause.1
untouched before after Read cause = absurd cause.on
untouched before after Memory cause = cause

pub usage_sense : WritesOnce usage_meaning
usage_sense = record {
  sensible = record {
    wants = untouched;
    wants_front = λ before after fault front h. h;
    wants_share = λ before after fault share h. h;
    idle = λ seen. record { left = refl; faults = refl };
    idle_front = λ seen. refl;
    idle_share = λ seen. refl;
    idle_always = λ told outcome same t. tt;
    one_status = λ input one other says said. refl;
    not_both = λ input own says gives. gives;
    given = λ input before after share output told done. done;
  };
  begun = λ before after share output done. done;
  front = λ before after fault. refl;
  unopened = λ before after fault. refl;
  always = λ told outcome. tt;
}

show_senses : (back : Bool) → IsSensible (show_meaning_of back)
show_senses true = show_back_sense.sensible
show_senses false = show_sense

json_senses : (back : Bool) → IsSensible (json_meaning_of back)
json_senses true = json_back_sense.sensible
json_senses false = json_sense.sensible

codes_senses : (learn : Bool) → IsSensible (codes_meaning_of learn)
codes_senses true = learn_sense.sensible
codes_senses false = codes_sense.sensible

pub sense_of : (command : LocalCommand) → IsSensible (meaning_of command)
sense_of (local.List words) = (list_sense words.query words.meta (target_of words.list)).sensible
sense_of (local.Show words) = show_senses words.back
sense_of local.Check = check_sense.sensible
sense_of (local.Codes words) = codes_senses words.learn
sense_of (local.Replay words) = replay_sense words.keep words.name
sense_of (local.Rehearse words) = (rehearse_sense words.number words.batches words.size words.keep).sensible
sense_of (local.Json words) = json_senses words.back
