-- Lists of tags, and folds over what is left of a list.
use Rattle.std.proofs.Common.{◌≡◌, ℕ, ◌+◌, ◌<◌, List, [], ◌∷◌, map, fold, drop, length, get_or, refl, sym, ap}
use Rattle.dmap_tags.specs.Codes.{Four}
use Rattle.dmap_tags.specs.Seen.{tree_with}
use Rattle.dmap_tags.specs.Tree.{Tree, trees_of, tree_list, tree_code}
use Rattle.dmap_tags.specs.declared.tree.Value.{Value}
use Rattle.dmap_tags.specs.declared.tree.Value.TheVariants.{U8, I8, U16, I16, U32, I32, U64, I64, Text, Date, Version, List as Members, Opaque}
use Rattle.share_history.proofs.EditFacts.{drop_more}

pub listed_again : (ts : List Tree) → tree_list (trees_of ts) ≡ ts
listed_again [] = refl
listed_again (t ∷ ts) = ap (λ rest. t ∷ rest) (listed_again ts)

-- one more of a map's values is folded before those of the items that are left
pub folded_left : {A B C : Type 0} (f : B → C → B) (g : A → C) (b : B) (xs : List A) (i : ℕ) (x : A) → i < length xs → x ≡ get_or xs i x
    → fold f (f b (g x)) (map g (drop (i + 1) xs)) ≡ fold f b (map g (drop i xs))
folded_left f g b xs i x lt is = sym (ap (λ ys. fold f b (map g ys)) (drop_more xs i x lt is))

-- the code of a tag of the program is the one that its tree begins with
pub code_seen : (c : Four) (v : Value) (t : Tree) → tree_with c v ≡ t → c ≡ tree_code t
code_seen c (U8 n) t e = ap tree_code e
code_seen c (I8 n) t e = ap tree_code e
code_seen c (U16 n) t e = ap tree_code e
code_seen c (I16 n) t e = ap tree_code e
code_seen c (U32 n) t e = ap tree_code e
code_seen c (I32 n) t e = ap tree_code e
code_seen c (U64 n) t e = ap tree_code e
code_seen c (I64 n) t e = ap tree_code e
code_seen c (Text bytes) t e = ap tree_code e
code_seen c (Date n) t e = ap tree_code e
code_seen c (Version n) t e = ap tree_code e
code_seen c (Members ts) t e = ap tree_code e
code_seen c (Opaque bytes) t e = ap tree_code e
