use Rattle.std.proofs.Common.{sym, ap, ◌∙◌}
use Rattle.dmap_stream.specs.declared.refusal.StreamError.TheVariants.{Truncated}
use Rattle.dmap_stream.specs.Reader.{Reader}
use Rattle.dmap_stream.specs.Reading.{bytes_taken, is_between}
use Rattle.dmap_stream.proofs.Readings.{ending_told, count_told}
use Rattle.dmap_stream.proofs.reader.DmapReader.finish.Goals as goal

pub returns-then-is_between-clause-told : goal.returns-then-is_between-clause-told
returns-then-is_between-clause-told c =
    λ fed handed h goes.
    ending_told fed handed c.args.self _ h goes (ap (λ (r : Reader). is_between r.position) (sym c.self.view_is) ∙ sym c.is_between.ensures ∙ c.if-is_between.true)

pub returns-clause-told : goal.returns-clause-told
returns-clause-told c =
    λ fed handed h goes. (
      ending_told fed handed c.args.self _ h goes (ap (λ (r : Reader). is_between r.position) (sym c.self.view_is) ∙ sym c.is_between.ensures ∙ c.if-is_between.false),
      ap Truncated (c.taken.ensures ∙ ap (λ (r : Reader). bytes_taken r.position) c.self.view_is ∙ count_told fed handed c.args.self h goes),
    )
