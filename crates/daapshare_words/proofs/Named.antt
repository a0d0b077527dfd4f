-- A name that is not that of a local command may be that of one over the network.
use Rattle.std.proofs.Common.{◌≡◌, List, Result, false, codes}
use Rattle.std.specs.Str.{bytes_eq}
use Rattle.clap.specs.Words.{Text}
use Rattle.daapshare_words.specs.Words.{Reads, command_named, net_command_named}
use Rattle.daapshare_words.specs.declared.command.Command.{Command}
use Rattle.daapshare_words.specs.declared.command.WordsError.{WordsError}

pub over_net : (name : Text) (words : List Text) (read : Result Command WordsError)
    → bytes_eq name (codes "list") ≡ false → bytes_eq name (codes "show") ≡ false → bytes_eq name (codes "check") ≡ false
    → bytes_eq name (codes "codes") ≡ false → bytes_eq name (codes "replay") ≡ false → bytes_eq name (codes "rehearse") ≡ false
    → bytes_eq name (codes "json") ≡ false
    → Reads (net_command_named name words) read → Reads (command_named name words) read
over_net name words read list show check told replay rehearse json h = rw (list, show, check, told, replay, rehearse, json) h
