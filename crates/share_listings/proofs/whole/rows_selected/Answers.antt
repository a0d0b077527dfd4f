use Rattle.std.proofs.Common.{option_copied, subst, arith}
use Rattle.share_history.specs.Histories.{edits}
use Rattle.share_listings.specs.Memberships.{IsBeside, IsMembership}
use Rattle.share_listings.proofs.AnswerFacts.{looked_at-list}
use Rattle.share_listings.proofs.OnSuccess.{if_ok}
use Rattle.share_listings.proofs.whole.rows_selected.Goals as goal

pub rows_of_all-requires : goal.rows_of_all-requires
rows_of_all-requires g c = record { start = c.requires.start }

pub rows_of_list-requires : goal.rows_of_list-requires
rows_of_list-requires g c = record { beside = subst IsBeside c.in-Members.is c.requires.beside }

pub returns-in-Library : goal.returns-in-Library
returns-in-Library g c =
    let keep = c.args.items.now.keep in
    let t = c.args.target in
    record {
      rows = if_ok c.rows_of_all.result (λ found rows bs tells. rows bs tells.stands (subst (IsMembership keep bs t) c.in-Library.is tells.members)) c.rows_of_all.ensures.rows;
      members = c.rows_of_all.ensures.members;
      cost = λ bs tells. c.rows_of_all.ensures.cost bs tells.stands (subst (IsMembership keep bs t) c.in-Library.is tells.members);
    }

pub returns-in-Members : goal.returns-in-Members
returns-in-Members g c =
    let keep = c.args.items.now.keep in
    let t = c.args.target in
    record {
      rows =
          if_ok c.rows_of_list.result
          (λ found rows bs tells.
          let told = subst (IsMembership keep bs t) c.in-Members.is tells.members in
          rows bs tells.stands told.stands told.container)
          c.rows_of_list.ensures.rows;
      members = c.rows_of_list.ensures.members;
      cost = λ bs tells.
          let told = subst (IsMembership keep bs t) c.in-Members.is tells.members in
          omega (
            arith,
            c.rows_of_list.ensures.cost bs tells.stands told.stands told.container,
            looked_at-list (edits bs) t c.in-Members.list (option_copied c.args.candidates) told.container told.beside,
          );
    }
