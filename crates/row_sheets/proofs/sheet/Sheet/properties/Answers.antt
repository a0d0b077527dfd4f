use Rattle.std.proofs.Common.{◌≡◌, All, sym, subst}
use Rattle.item_model.specs.Projection.{first_mentions}
use Rattle.row_sheets.specs.Held.{held_properties}
use Rattle.row_sheets.specs.Cells.{HasNoOther}
use Rattle.row_sheets.proofs.HeldFacts.{held_once, held_others}
use Rattle.row_sheets.proofs.sheet.Sheet.properties.Goals as goal

pub returns-clause-held : goal.returns-clause-held
returns-clause-held c = subst (λ sheet. sheet.properties ≡ held_properties sheet.rows) c.self.view_is c.self.invariant.held

pub returns-clause-once : goal.returns-clause-once
returns-clause-once c =
    subst (λ sheet. first_mentions sheet.properties ≡ sheet.properties) c.self.view_is
    (subst (λ ps. first_mentions ps ≡ ps) (sym c.self.invariant.held) (held_once c.self.inside.rows.items))

pub returns-clause-others : goal.returns-clause-others
returns-clause-others c =
    subst (λ sheet. All (HasNoOther sheet.properties) sheet.rows) c.self.view_is
    (subst (λ ps. All (HasNoOther ps) c.self.inside.rows.items) (sym c.self.invariant.held) (held_others c.self.inside.rows.items))
