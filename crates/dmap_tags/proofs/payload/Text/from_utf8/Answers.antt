use Rattle.std.proofs.Common.{ap, subst, ◌∙◌, Vec, ℕ, Global}
use Rattle.std.proofs.lemmas.Str.{is_utf8-from_IsUtf8, IsUtf8-from_is_utf8, IsUtf8-had}
use Rattle.std.proofs.lemmas.Bool.{false_from_ne_true}
use Rattle.std.specs.Str.{IsUtf8}
use Rattle.dmap_tags.proofs.payload.Text.from_utf8.Goals as goal

pub returns-in-Ok : goal.returns-in-Ok
returns-in-Ok c =
    let same = ap (λ (v : Vec ℕ Global). v.items) c.in-Ok.ensures.ok in
    (same, is_utf8-from_IsUtf8 _ (subst IsUtf8 same (IsUtf8-had _ c.in-Ok.text.ok)))

pub returns-in-Err : goal.returns-in-Err
returns-in-Err c = (
  ap (λ (v : Vec ℕ Global). v.items) (c.into_bytes.ensures.value ∙ c.in-Err.ensures.err),
  false_from_ne_true _ (λ h. let e = c.in-Err.ensures.succeeds (IsUtf8-from_is_utf8 _ h) in cc),
)
