use Rattle.std.proofs.Common.{◌≡◌, List, None, map, option_copied, ap, sym, ◌∙◌, arith, rules}
use Rattle.item_model.specs.declared.changes.Edit.{Edit}
use Rattle.item_model.specs.declared.request.Target.TheVariants.{Container}
use Rattle.item_store.specs.Stands.{StandsFor}
use Rattle.playlist_store.specs.Stands as lists_stand
use Rattle.playlist_store.specs.Words.{pair_of}
use Rattle.share_history.specs.Histories.{edits}
use Rattle.share_history.specs.Rows.{rows}
use Rattle.share_listings.proofs.AnswerFacts.{members_start, members_are, members_count, rows_from}
use Rattle.share_listings.proofs.OnSuccess.{if_ok}
use Rattle.share_listings.proofs.whole.rows_of_list.Goals as goal

pub members_of-requires : goal.members_of-requires
members_of-requires g c = record { beside = c.requires.beside }

pub returns-in_err-members : goal.returns-in_err-members
returns-in_err-members g c = search rules

pub returns : goal.returns
returns g c =
    let t = c.args.target in
    let q = option_copied c.args.query in
    let members = c.as_slice.result.now in
    let told : (bs : List (List Edit)) → StandsFor bs c.args.items.now → lists_stand.StandsFor bs c.args.lists.now → t ≡ Container c.args.list
    → map pair_of members ≡ map (λ row. (row.0, row.1.id)) (rows (edits bs) t None) =
    λ bs items lists is.
    ap (map pair_of) c.as_slice.ensures.value ∙ c.in_ok-members.ensures bs items lists ∙ ap (λ t. map (λ row. (row.0, row.1.id)) (rows (edits bs) t None)) (sym is) in
    record {
      rows =
          if_ok c.rows_of.result
          (λ found rows bs items lists is.
          rows bs items (members_are (edits bs) t members (told bs items lists is))
          ∙ rows_from (edits bs) t q (map (λ member. member.key) members) (members_start (edits bs) t q members (told bs items lists is)))
          c.rows_of.ensures.rows;
      members = c.rows_of.ensures.members;
      cost = λ bs items lists is. omega (arith, c.rows_of.ensures.cost, members_count members (rows (edits bs) t None) (told bs items lists is));
    }
