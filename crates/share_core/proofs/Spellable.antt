-- Tags of few bytes can be encoded, and so can a listing of short entries.
use Rattle.std.proofs.Common.{◌≡◌, ◌≤◌, ◌+◌, ◌*◌, ◌++◌, ℕ, true, false, List, [], ◌∷◌, length, refl, ap, subst, sym, length-append, arith}
use Rattle.std.specs.List.{AllByRecursion}
use Rattle.dmap_tags.specs.Codes.{Four, code}
use Rattle.dmap_tags.specs.Tree.{Tree, leaf, list, trees_of, U8, U32, Version, Text}
use Rattle.dmap_tags.specs.Spelling.{spelling, spellings, is_spellable}
use Rattle.code_table.specs.Standard.{standard_rows}
use Rattle.code_table.specs.Reply.{table_reply}
use Rattle.share_history.specs.Bodies.{start_tags}
use Rattle.share_replies.specs.SmallBodies.{server_info_body}
use Rattle.listing_plan.proofs.Spelled.{spellings_append, framed_length, more_length, short_spellable}
use Rattle.share_core.specs.Short.{IsShort, AreShort}

-- short entries have few bytes together
pub entries_length : (entries : List Tree) → AreShort entries → length (spellings (trees_of entries)) ≤ 320 * length entries
entries_length [] short = omega arith
entries_length (t ∷ entries) short = omega (arith, more_length t (trees_of entries), short.0, entries_length entries short.1)

start_length : (revision total listed : ℕ) → length (spellings (trees_of (start_tags false revision total listed))) ≡ 57
start_length revision total listed = omega arith

whole_length : (of entries_of : Four) (revision total listed : ℕ) (entries : List Tree)
    → length (spelling (list of (trees_of (start_tags false revision total listed ++ list entries_of (trees_of entries) ∷ [])))) ≡ 73 + length (spellings (trees_of entries))
whole_length of entries_of revision total listed entries =
    let start : List Tree = start_tags false revision total listed in
    let rest : List Tree = list entries_of (trees_of entries) ∷ [] in
    omega (
      arith,
      framed_length of (spellings (trees_of (start ++ rest))),
      ap length (spellings_append start rest),
      length-append (spellings (trees_of start)) (spellings (trees_of rest)),
      start_length revision total listed,
      more_length (list entries_of (trees_of entries)) (trees_of []),
      framed_length entries_of (spellings (trees_of entries)),
    )

-- a listing of at most `entries_limit` short entries can be encoded
pub whole_spellable : (of entries_of : Four) (revision total listed : ℕ) (entries tags : List Tree) → tags ≡ start_tags false revision total listed ++ list entries_of (trees_of entries) ∷ []
    → AreShort entries → length entries ≤ 262145 → is_spellable (list of (trees_of tags)) ≡ true
whole_spellable of entries_of revision total listed entries tags is short few =
    subst (λ ts. is_spellable (list of (trees_of ts)) ≡ true) (sym is)
    (short_spellable (list of (trees_of (start_tags false revision total listed ++ list entries_of (trees_of entries) ∷ [])))
    (omega (arith, whole_length of entries_of revision total listed entries, entries_length entries short, few)))

-- the tags before the name, and after it
abbrev before_name : List Tree
before_name = leaf (code "mstt") (U32 200) ∷ leaf (code "mpro") (Version 131072) ∷ leaf (code "apro") (Version 196608) ∷ []

abbrev behind_name : List Tree
behind_name =
    leaf (code "mslr") (U8 1) ∷ leaf (code "msau") (U8 0) ∷ leaf (code "mstm") (U32 1800) ∷ leaf (code "msup") (U8 1) ∷ leaf (code "msix") (U8 1)
    ∷ leaf (code "msbr") (U8 1) ∷ leaf (code "msqy") (U8 1) ∷ leaf (code "msdc") (U32 1) ∷ []

before_length : length (spellings (trees_of before_name)) ≡ 36
before_length = refl

behind_length : length (spellings (trees_of behind_name)) ≡ 78
behind_length = refl

info_length : (name : List ℕ) → length (spelling (list (code "msrv") (trees_of (before_name ++ leaf (code "minm") (Text name) ∷ behind_name)))) ≡ 130 + length name
info_length name =
    let named : Tree = leaf (code "minm") (Text name) in
    omega (
      arith,
      framed_length (code "msrv") (spellings (trees_of (before_name ++ named ∷ behind_name))),
      ap length (spellings_append before_name (named ∷ behind_name)),
      length-append (spellings (trees_of before_name)) (spellings (trees_of (named ∷ behind_name))),
      more_length named (trees_of behind_name),
      framed_length (code "minm") name,
      before_length,
      behind_length,
    )

pub server_info_spellable : (name : List ℕ) → length name ≤ 255 → is_spellable (server_info_body name) ≡ true
server_info_spellable name short =
    short_spellable (list (code "msrv") (trees_of (before_name ++ leaf (code "minm") (Text name) ∷ behind_name))) (omega (arith, info_length name, short))

pub table_spellable : is_spellable (table_reply standard_rows) ≡ true
table_spellable = refl

pub spellable_as : (t u : Tree) → u ≡ t → is_spellable t ≡ true → is_spellable u ≡ true
spellable_as t u is spellable = subst (λ tag. is_spellable tag ≡ true) (sym is) spellable
