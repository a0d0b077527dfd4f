-- At which places bytes are malformed, and how.
use Rattle.std.specs.Prelude.{◌≡◌, ◌+◌, ◌<◌, ◌≤◌, ℕ, List, [], ◌∷◌, length}
use Rattle.code_table.specs.declared.row.CodeRow.{CodeRow}
use Rattle.dmap_stream.specs.declared.containers.Container.{Container}
use Rattle.dmap_stream.specs.declared.refusal.StreamError.{StreamError}
use Rattle.dmap_stream.specs.declared.refusal.StreamError.TheVariants.{TooLarge, TooDeep, Overrun, ShortHead, Truncated, Memory}
use Rattle.tag_laws.specs.Places.{Place, IsPlace, HasHead, code_at, length_at}

-- 1 to 7 bytes are left in the innermost list
abbrev pub IsShort : ℕ → List Container → Type 0
IsShort at [] = ⊥
IsShort at (c ∷ around) = (at < c.end) × (c.end < at + 8)

-- a tag that ends there passes the end of the innermost list
abbrev pub Passes : ℕ → List Container → Type 0
Passes end [] = ⊥
Passes end (c ∷ around) = c.end < end

-- the place has that fault: a top tag longer than the limit, a tag inside 32 lists, a tag of at most 32 levels that
-- passes the end of its list, or too few bytes for a head in the list
abbrev pub HasFault : ℕ → List ℕ → Place → StreamError → Type 0
HasFault limit bytes p (TooLarge at) = (at ≡ p.at) × HasHead bytes p × (p.around ≡ []) × (limit < length_at bytes p)
HasFault limit bytes p (TooDeep at) = (at ≡ p.at) × HasHead bytes p × (32 ≤ length p.around)
HasFault limit bytes p (Overrun at c) =
    (at ≡ p.at) × HasHead bytes p × (c ≡ code_at bytes p) × (length p.around < 32) × Passes (p.at + 8 + length_at bytes p) p.around
HasFault limit bytes p (ShortHead at) = (at ≡ p.at) × IsShort p.at p.around
HasFault limit bytes p (Truncated at) = ⊥
HasFault limit bytes p Memory = ⊥

-- a place of the bytes has that fault, and no place before it has a fault
pub record IsFirstFault (rows : List CodeRow) (limit : ℕ) (bytes : List ℕ) (e : StreamError) : Type 0 where
  pub place : Place
  pub reached : IsPlace rows bytes place
  pub fault : HasFault limit bytes place e
  pub first : (q : Place) (f : StreamError) → IsPlace rows bytes q → HasFault limit bytes q f → place.at ≤ q.at

abbrev pub HasNoFault : List CodeRow → ℕ → List ℕ → Type 0
HasNoFault rows limit bytes = (q : Place) (f : StreamError) → IsPlace rows bytes q → HasFault limit bytes q f → ⊥
