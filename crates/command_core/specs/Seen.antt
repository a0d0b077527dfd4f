-- What is known at a moment of the input, output, files and network of a run, and of the share that it opened.
use Rattle.std.specs.Prelude.{◌≡◌, ℕ, Bool, List, Option, Some, None}
use Rattle.outside_net.specs.Places.{Contents}
pub use Rattle.outside_net.specs.Bounds.{InputSeen, OutputSeen, NetSeen, FilesSeen, input_of, output_of, net_of, files_of}
use Rattle.item_model.specs.declared.changes.Entry.{Entry}

pub record Around : Type 0 where
  pub files : FilesSeen
  pub net : NetSeen

-- all of these except the output
pub record Seen : Type 0 where
  pub input : InputSeen
  pub around : Around

-- of the share: its history, if the command opened one
pub record ShareSeen : Type 0 where
  pub history : Option (List Entry)

abbrev pub no_share : ShareSeen
no_share = record { history = None }

abbrev pub share_with : List Entry → ShareSeen
share_with history = record { history = Some history }

-- no byte of the input was read, and no error of it counted
pub record IsUnread (before after : InputSeen) : Type 0 where
  pub left : after.left ≡ before.left
  pub faults : after.faults ≡ before.faults

-- a run: what is known before it and after it
pub record Run : Type 0 where
  pub before : Seen
  pub after : Seen
  pub output_before : OutputSeen
  pub output_after : OutputSeen

abbrev pub input_seen : Option (List ℕ) → ℕ → InputSeen
input_seen left faults = record { left = left; faults = faults }

abbrev pub output_seen : Option (List ℕ) → ℕ → OutputSeen
output_seen taken faults = record { taken = taken; faults = faults }

abbrev pub files_seen : Option (List (List ℕ)) → Option Contents → ℕ → FilesSeen
files_seen asked contents faults = record { asked = asked; contents = contents; faults = faults }

abbrev pub net_seen : Option (List (List ℕ × ℕ)) → Option (List (List ℕ × Bool)) → Option (List (List (List ℕ))) → Option (List ℕ) → ℕ → NetSeen
net_seen asked written listener_links next_input faults =
    record { asked = asked; written = written; listener_links = listener_links; next_input = next_input; faults = faults }

-- all of these at a moment
abbrev pub seen_of : InputSeen → FilesSeen → NetSeen → Seen
seen_of input files net = record { input = input; around = record { files = files; net = net } }

abbrev pub run_of : (before after : Seen) (output_before output_after : OutputSeen) → Run
run_of before after output_before output_after = record { before = before; after = after; output_before = output_before; output_after = output_after }

-- a run that leaves files unchanged
abbrev pub run_over_net : FilesSeen → (input_before input_after : InputSeen) (net_before net_after : NetSeen) (output_before output_after : OutputSeen) → Run
run_over_net files input_before input_after net_before net_after output_before output_after = record {
  before = record { input = input_before; around = record { files = files; net = net_before } };
  after = record { input = input_after; around = record { files = files; net = net_after } };
  output_before = output_before;
  output_after = output_after;
}

-- .. and the network too
abbrev pub run_over_streams : Around → (input_before input_after : InputSeen) (output_before output_after : OutputSeen) → Run
run_over_streams around input_before input_after output_before output_after = record {
  before = record { input = input_before; around = around };
  after = record { input = input_after; around = around };
  output_before = output_before;
  output_after = output_after;
}
