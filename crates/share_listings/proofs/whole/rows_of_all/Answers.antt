use Rattle.std.proofs.Common.{option_copied, refl, ap, subst, ◌∙◌, arith}
use Rattle.listing_plan.specs.Plans.{keyed}
use Rattle.share_history.specs.Histories.{edits}
use Rattle.share_listings.specs.Answers.{StartFrom, looked_at}
use Rattle.share_listings.proofs.AnswerFacts.{candidates_start, rows_from, looked_at-some}
use Rattle.share_listings.proofs.LibraryFacts.{library_len, selected}
use Rattle.share_listings.proofs.OnSuccess.{if_ok}
use Rattle.share_listings.proofs.whole.rows_of_all.Goals as goal

pub returns-in-Some : goal.returns-in-Some
returns-in-Some g c =
    let t = c.args.target in
    let q = option_copied c.args.query in
    let ids = c.in-Some.ids.now in
    record {
      rows =
          if_ok c.rows_at.result
          (λ found rows bs stands all.
          rows bs (record { stands = stands; members = all })
          ∙ rows_from (edits bs) t q ids (candidates_start (edits bs) t q ids all (subst (StartFrom (edits bs) q) (ap option_copied c.in-Some.is) (c.requires.start bs stands))))
          c.rows_at.ensures.rows;
      members = c.rows_at.ensures.members;
      cost = λ bs stands all. omega (arith, c.rows_at.ensures.cost, looked_at-some (edits bs) t ids (option_copied c.args.candidates) (ap option_copied c.in-Some.is) all);
    }

pub returns-in-None : goal.returns-in-None
returns-in-None g c =
    let t = c.args.target in
    let q = option_copied c.args.query in
    let all_rows = c.rows.result.now in
    record {
      rows = if_ok c.rows_asked.result (λ found rows bs stands all. selected (edits bs) t q q all_rows (keyed found.items) all (c.rows.ensures bs stands) refl rows) c.rows_asked.ensures.rows;
      members = c.rows_asked.ensures.members;
      cost = λ bs stands all.
          omega (arith, c.rows_asked.ensures.cost, library_len (edits bs) t all_rows all (c.rows.ensures bs stands), ap (looked_at (edits bs) t) (ap option_copied c.in-None.is));
    }
