use Rattle.std.proofs.Common.{rules, ◌≡◌, false, codes}
use Rattle.std.specs.Str.{bytes_eq}
use Rattle.daapshare_words.specs.Grammar.{texts_of}
use Rattle.daapshare_words.proofs.Named.{over_net}
use Rattle.daapshare_words.proofs.command.read_named_words.Goals as goal

pub returns-else-eq-7-clause-read : goal.returns-else-eq-7-clause-read
returns-else-eq-7-clause-read c =
    let list : bytes_eq c.args.name.now (codes "list") ≡ false = search rules in
    let show : bytes_eq c.args.name.now (codes "show") ≡ false = search rules in
    let check : bytes_eq c.args.name.now (codes "check") ≡ false = search rules in
    let told : bytes_eq c.args.name.now (codes "codes") ≡ false = search rules in
    let replay : bytes_eq c.args.name.now (codes "replay") ≡ false = search rules in
    let rehearse : bytes_eq c.args.name.now (codes "rehearse") ≡ false = search rules in
    let json : bytes_eq c.args.name.now (codes "json") ≡ false = search rules in
    over_net c.args.name.now (texts_of c.args.words.now) c.read_net_words.result list show check told replay rehearse json c.read_net_words.ensures.read
