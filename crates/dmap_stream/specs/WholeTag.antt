-- Reading one whole tag at the beginning of bytes: which tags are accepted, and what a refusal means.
use Rattle.std.specs.Prelude.{◌≡◌, ◌≢◌, ℕ, ◌+◌, ◌<◌, ◌≤◌, ◌^◌, List, [], ◌∷◌, ◌++◌, length, Bool, true, ◌&&◌, nat_le, Some, None}
use Rattle.std.specs.List.{AllByRecursion}
use Rattle.dmap_tags.specs.Codes.{Four}
use Rattle.dmap_tags.specs.Tree.{Tree, Trees, tree_code, levels, levels_in}
use Rattle.dmap_tags.specs.Proper.{IsProperTag, AreProperTags}
use Rattle.dmap_tags.specs.Spelling.{payload, spelling, spellings}
use Rattle.code_table.specs.declared.row.CodeRow.{CodeRow}
use Rattle.code_table.specs.Fits.{fits, all_fit}
use Rattle.dmap_stream.specs.declared.containers.Container.{Container}
use Rattle.dmap_stream.specs.declared.refusal.StreamError.{StreamError}
use Rattle.dmap_stream.specs.declared.refusal.StreamError.TheVariants.{Truncated, Memory}
use Rattle.dmap_stream.specs.Walk.{Ending, between, inside, broken, parent_of, fault_at, at_head, walk_from}

-- a top tag that is accepted: it fits the table, has at most 32 levels, and its payload is within the limit
abbrev pub is_accepted : List CodeRow → ℕ → Tree → Bool
is_accepted rows limit t = fits rows None t && (nat_le (levels t) 32 && nat_le (length (payload t)) limit)

-- top tags that are accepted, each with values as a program has them
abbrev pub AreAccepted : List CodeRow → ℕ → List Tree → Type 0
AreAccepted rows limit ts = AllByRecursion (λ t. (is_accepted rows limit t ≡ true) × IsProperTag t) ts

-- the error of bytes of that number that end so, if their first tag is not whole
abbrev pub refusal : ℕ → Ending → StreamError
refusal total between = Truncated total
refusal total inside = Truncated total
refusal total (broken e) = e

-- where the innermost list ends
abbrev pub end_of : List Container → ℕ
end_of [] = 0
end_of (c ∷ around) = c.end

-- a tag that is accepted with its head at that place
pub record IsRoomFor (rows : List CodeRow) (limit at : ℕ) (around : List Container) (t : Tree) : Type 0 where
  pub fit : fits rows (parent_of around) t ≡ true
  pub proper : IsProperTag t
  pub deep : length around + levels t ≤ 32
  pub told : length (payload t) < 2 ^ 32
  pub room : fault_at limit at around (tree_code t) (length (payload t)) ≡ None

-- tags that are accepted from that place on, up to the end of the list there
pub record AreRest (rows : List CodeRow) (at : ℕ) (around : List Container) (c : Four) (ts : Trees) : Type 0 where
  pub list : parent_of around ≡ Some c
  pub fit : all_fit rows c ts ≡ true
  pub proper : AreProperTags ts
  pub deep : length around + levels_in ts ≤ 32
  pub told : length (spellings ts) < 2 ^ 32
  pub ends : at + length (spellings ts) ≡ end_of around

-- the tag whose head is expected at that place was read, and those bytes are left
pub record ReadsTag (rows : List CodeRow) (limit at : ℕ) (around : List Container) (bytes : List ℕ) (t : Tree) (rest : List ℕ) : Type 0 where
  pub spelled : bytes ≡ spelling t ++ rest
  pub fit : fits rows (parent_of around) t ≡ true
  pub proper : IsProperTag t
  pub deep : length around + levels t ≤ 32
  pub room : fault_at limit at around (tree_code t) (length (payload t)) ≡ None
  pub goes : (at_head (walk_from rows limit) rows limit at around bytes).ending ≡ (walk_from rows limit (at + length (spelling t)) around rest).ending
  pub only : (u : Tree) (more : List ℕ) → IsRoomFor rows limit at around u → bytes ≡ spelling u ++ more → (u ≡ t) × (more ≡ rest)

-- it was refused
pub record RefusesTag (rows : List CodeRow) (limit total at : ℕ) (around : List Container) (bytes : List ℕ) (e : StreamError) : Type 0 where
  pub tells : e ≢ Memory → e ≡ refusal total (at_head (walk_from rows limit) rows limit at around bytes).ending
  pub never : (u : Tree) (more : List ℕ) → IsRoomFor rows limit at around u → bytes ≡ spelling u ++ more → e ≡ Memory

-- the tags from that place up to the end of the list there were read, and those bytes are left
pub record ReadsRest (rows : List CodeRow) (limit at : ℕ) (around : List Container) (bytes : List ℕ) (ts : Trees) (rest : List ℕ) : Type 0 where
  pub spelled : bytes ≡ spellings ts ++ rest
  pub fit : (c : Four) → parent_of around ≡ Some c → all_fit rows c ts ≡ true
  pub proper : AreProperTags ts
  pub deep : length around + levels_in ts ≤ 32
  pub ends : at + length (spellings ts) ≡ end_of around
  pub goes : (walk_from rows limit at around bytes).ending ≡ (walk_from rows limit (end_of around) around rest).ending
  pub only : (c : Four) (us : Trees) (more : List ℕ) → AreRest rows at around c us → bytes ≡ spellings us ++ more → (us ≡ ts) × (more ≡ rest)

pub record RefusesRest (rows : List CodeRow) (limit total at : ℕ) (around : List Container) (bytes : List ℕ) (e : StreamError) : Type 0 where
  pub tells : e ≢ Memory → e ≡ refusal total (walk_from rows limit at around bytes).ending
  pub never : (c : Four) (us : Trees) (more : List ℕ) → AreRest rows at around c us → bytes ≡ spellings us ++ more → e ≡ Memory
