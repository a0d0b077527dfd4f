-- The text of a tag that fits is read as the tag.
use Rattle.std.proofs.Common.{sym, ◌∙◌}
use Rattle.std.proofs.lemmas.Bool.{leb-true}
use Rattle.dmap_tags.specs.Tree.{levels}
use Rattle.dmap_json.proofs.Written.{reads_of}
use Rattle.dmap_json.proofs.writing.to_json.Goals as goal

pub returns-clause-reads_back : goal.returns-clause-reads_back
returns-clause-reads_back c =
    reads_of c.args.table.now c.args.tag.now c.written.result c.written.ensures.text c.written.ensures.tag
    (sym c.fits.ensures ∙ c.if-not-fits.false) (leb-true (levels c.args.tag.now) 32 (sym c.if-not-has_levels.ensures))
