use Rattle.std.proofs.Common.{◌≡◌, IfOk, sym, subst}
use Rattle.std.specs.List.{filter}
use Rattle.row_sheets.specs.Held.{is_held}
use Rattle.row_sheets.proofs.HeldFacts.{order_is}
use Rattle.row_sheets.proofs.held.held_properties.Goals as goal

pub returns : goal.returns
returns c = subst (λ ps. IfOk c.held_among.result (λ held. held.items ≡ filter (is_held c.args.rows.now) ps)) (sym order_is) c.held_among.ensures
