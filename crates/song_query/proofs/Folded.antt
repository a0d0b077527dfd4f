-- Folded texts: the test on their bytes decides the relation on their characters, and lowering finds them.
use Rattle.std.proofs.Common.{◌≡◌, ℕ, Bool, List, [], ◌∷◌, map, refl, ap, ap₂, sym, ◌∙◌, Decides}
use Rattle.std.proofs.lemmas.Bool.Decides.{Decides-at}
use Rattle.std.proofs.lemmas.Str.Ascii.{IsAscii-nil}
use lib.Utf8.{encodes}
use Rattle.item_model.specs.Folding.{folded, folded_chars, lowered, IsSearchedFor}
use Rattle.item_model.proofs.FoldLaws.{folded_ascii, lowered_folded}
use Rattle.song_query.specs.Glob.{joins, glob, Glob}
use Rattle.song_query.proofs.Joining.{joins_decides}
use Rattle.song_query.proofs.Characters.{by_chars}

folded_pieces : (ps : List (List ℕ)) → map folded ps ≡ map encodes (map folded_chars ps)
unfolding folded
folded_pieces [] = refl
folded_pieces (p ∷ ps) = ap (λ xs. folded p ∷ xs) (folded_pieces ps)

glob_by_chars : (pieces : List (List ℕ)) (text : List ℕ) → glob pieces text ≡ joins (map folded_chars pieces) (folded_chars text)
unfolding folded
glob_by_chars pieces text =
    ap (λ ps. joins ps (folded text)) (folded_pieces pieces) ∙ by_chars (map folded_chars pieces) (folded_chars text)

-- the test decides whether the pattern matches the text
pub glob_is_Glob : (pieces : List (List ℕ)) (text : List ℕ) → Decides (glob pieces text) (Glob pieces text)
glob_is_Glob pieces text =
    Decides-at _ _ (glob_by_chars pieces text) (joins_decides (map folded_chars pieces) (folded_chars text))

lowered_pieces : (ps : List (List ℕ)) → map lowered (map folded ps) ≡ map folded ps
lowered_pieces [] = refl
lowered_pieces (p ∷ ps) = ap₂ ◌∷◌ (lowered_folded p) (lowered_pieces ps)

-- folded parts are found in the lowered searched text exactly if they are found in the folded text
pub searched_is_glob : (pieces : List (List ℕ)) (text searched : List ℕ) (r : Bool) → IsSearchedFor text searched → r ≡ joins (map lowered (map folded pieces)) (lowered searched) → r ≡ glob pieces text
searched_is_glob pieces text searched r h e = e ∙ ap₂ joins (lowered_pieces pieces) h

pub searched_decides : (pieces : List (List ℕ)) (text searched : List ℕ) (r : Bool) → IsSearchedFor text searched → r ≡ joins (map lowered (map folded pieces)) (lowered searched) → Decides r (Glob pieces text)
searched_decides pieces text searched r h e =
    Decides-at r _ (searched_is_glob pieces text searched r h e) (glob_is_Glob pieces text)

-- the empty text may be searched for itself
pub nothing_searched : IsSearchedFor [] []
nothing_searched = sym (folded_ascii [] IsAscii-nil)
