-- The body of a listing is made of its parts, and is short.
use Rattle.std.proofs.Common.{◌≡◌, ◌<◌, ◌≤◌, ◌+◌, ◌*◌, ◌++◌, ℕ, zero, suc, Bool, true, false, List, [], ◌∷◌, length, drop, get_or, map, All, refl, sym, ap, ◌∙◌, append_assoc, append-nil, length-append, if◌then◌else◌, arith}
use Rattle.std.proofs.lemmas.List.{at_drop_more}
use Rattle.std.specs.Int.{w32, to_be_bytes}
use Rattle.dmap_tags.specs.Codes.{Four, code, code_bytes}
use Rattle.dmap_tags.specs.Tree.{Tree, Trees, none, leaf, list, trees_of, U8, U32}
use Rattle.dmap_tags.specs.Spelling.{spelling, spellings}
use Rattle.item_model.specs.declared.item.Row.{Row}
use Rattle.item_model.specs.declared.property.Property.{Property}
use Rattle.item_model.specs.declared.request.Meta.{Meta}
use Rattle.item_model.specs.declared.request.Target.{Target}
use Rattle.item_model.specs.Items.{is_item}
use Rattle.item_model.specs.Projection.{asked, projection}
use Rattle.share_history.specs.Listings.{member_of, shown_rows}
use Rattle.share_history.specs.Bodies.{start_tags, body_code, key_code, gone_tags, body_tree}
use Rattle.listing_plan.specs.declared.row.PlanRow.{PlanRow}
use Rattle.listing_plan.specs.declared.plan.Scope.{Scope}
use Rattle.listing_plan.specs.Laws.{ListingsAreShort}
use Rattle.listing_plan.specs.Plans.{key_of, keyed}
use Rattle.listing_plan.specs.Held.{row_tree, row_trees, rows_length, rows_held, rest_of, is_delta_of, total_of, gone_of, listing_held}
use Rattle.listing_plan.proofs.Short.{row_short}
use Rattle.listing_plan.proofs.Spelled.{spellings_append, framed_length, more_length}

-- each key has a tag of twelve bytes
pub keys_length : (c : Four) (keys : List ℕ) → length (spellings (trees_of (map (λ key. leaf c (U32 key)) keys))) ≡ 12 * length keys
keys_length c [] = refl
keys_length c (key ∷ keys) = omega (arith, keys_length c keys)

-- the deleted keys have a head and a tag each
pub gone_length : (target : Target) (keys : List ℕ) → length (spellings (trees_of (gone_tags target true keys))) ≡ 8 + 12 * length keys
gone_length target keys =
    let tags : Trees = trees_of (map (λ key. leaf (key_code target) (U32 key)) keys) in
    omega (arith, more_length (list (code "mudl") tags) none, framed_length (code "mudl") (spellings tags), keys_length (key_code target) keys)

-- a head with that length and the keys are their list
pub gone_spelled : (target : Target) (keys : List ℕ) (c : Four) (n : ℕ) → c ≡ key_code target → n ≡ 12 * length keys → (code_bytes (code "mudl") ++ to_be_bytes w32 n) ++ spellings (trees_of (map (λ key. leaf c (U32 key)) keys)) ≡ spellings (trees_of (gone_tags target true keys))
gone_spelled target keys c n of e =
    let tags : Trees = trees_of (map (λ key. leaf (key_code target) (U32 key)) keys) in
    ap (λ d. (code_bytes (code "mudl") ++ to_be_bytes w32 n) ++ spellings (trees_of (map (λ key. leaf d (U32 key)) keys))) of
    ∙ ap (λ m. (code_bytes (code "mudl") ++ to_be_bytes w32 m) ++ spellings tags) (e ∙ sym (keys_length (key_code target) keys))
    ∙ sym (append-nil (spelling (list (code "mudl") tags)))

-- the rows that are left have the length of the next one and of the others
pub rows_at : (ps : List Property) (rows : List PlanRow) (i : ℕ) (d : PlanRow) → i < length rows → rows_length ps (drop i rows) ≡ length (spelling (row_tree ps (get_or rows i d))) + rows_length ps (drop (i + 1) rows)
rows_at ps rows i d h =
    at_drop_more (rows_length ps) rows i d h ∙ more_length (row_tree ps (get_or rows i d)) (trees_of (row_trees ps (drop (i + 1) rows)))

-- and its encoding comes before those of the others
pub trees_at : {A : Type 0} (f : A → Tree) (xs : List A) (i : ℕ) (d : A) → i < length xs → spellings (trees_of (map f (drop i xs))) ≡ spelling (f (get_or xs i d)) ++ spellings (trees_of (map f (drop (i + 1) xs)))
trees_at f xs i d h = at_drop_more (λ ys. spellings (trees_of (map f ys))) xs i d h

-- the rows are shown as a listing shows them
pub same_rows : (target : Target) (meta : Meta) (rows : List PlanRow) → All (λ row. row.member ≡ member_of target (key_of row)) rows → rows_held (asked meta) rows ≡ shown_rows target meta (keyed rows)
same_rows target meta [] h = refl
same_rows target meta (r ∷ rows) h =
    let e : r.member ≡ member_of target (key_of r) = h zero r (omega arith) in
    ap (λ m. (key_of r, projection r.row m meta) ∷ rows_held (asked meta) rows) e
    ∙ ap (λ rs. (key_of r, projection r.row (member_of target (key_of r)) meta) ∷ rs) (same_rows target meta rows (λ k d lt. h (suc k) d (omega arith)))

held_trees : (ps : List Property) (rows : List PlanRow) → map (λ row. row.1) (rows_held ps rows) ≡ row_trees ps rows
held_trees ps [] = refl
held_trees ps (r ∷ rows) = ap (λ ts. row_tree ps r ∷ ts) (held_trees ps rows)

pub held_length : (ps : List Property) (rows : List PlanRow) → length (spellings (trees_of (map (λ row. row.1) (rows_held ps rows)))) ≡ rows_length ps rows
held_length ps rows = ap (λ ts. length (spellings (trees_of ts))) (held_trees ps rows)

-- after the head of the rows come their tags and the deleted keys
pub rest_is : (target : Target) (revision : ℕ) (scope : Scope) (rows : List PlanRow) (ps : List Property) → rest_of (record { target = target; listing = listing_held revision scope rows ps }) ≡ spellings (trees_of (row_trees ps rows)) ++ spellings (trees_of (gone_tags target (is_delta_of scope) (gone_of scope)))
rest_is target revision scope rows ps =
    ap (λ ts. spellings (trees_of ts) ++ spellings (trees_of (gone_tags target (is_delta_of scope) (gone_of scope)))) (held_trees ps rows)

held_count : (ps : List Property) (rows : List PlanRow) → length (rows_held ps rows) ≡ length rows
held_count ps [] = refl
held_count ps (r ∷ rows) = ap suc (held_count ps rows)

start_length : (is_delta : Bool) (revision total listed : ℕ) → length (spellings (trees_of (start_tags is_delta revision total listed))) ≡ 57
start_length is_delta revision total listed = refl

-- the parts of a body and their lengths
pub parts_length : (is_delta : Bool) (revision total listed : ℕ) (rows gone : List Tree) → length (spellings (trees_of (start_tags is_delta revision total listed ++ list (code "mlcl") (trees_of rows) ∷ gone))) ≡ 65 + length (spellings (trees_of rows)) + length (spellings (trees_of gone))
parts_length is_delta revision total listed rows gone =
    let rest : List Tree = list (code "mlcl") (trees_of rows) ∷ gone in
    omega (arith, ap length (spellings_append (start_tags is_delta revision total listed) rest), start_length is_delta revision total listed, length-append (spellings (trees_of (start_tags is_delta revision total listed))) (spellings (trees_of rest)), more_length (list (code "mlcl") (trees_of rows)) (trees_of gone), framed_length (code "mlcl") (spellings (trees_of rows)))

-- the members of the tag of a listing that is held
members : (revision : ℕ) (scope : Scope) (rows : List PlanRow) (ps : List Property) (gone : List Tree) → List Tree
members revision scope rows ps gone =
    start_tags (is_delta_of scope) revision (total_of scope (length rows)) (length rows) ++ list (code "mlcl") (trees_of (row_trees ps rows)) ∷ gone

same_members : (target : Target) (revision : ℕ) (scope : Scope) (rows : List PlanRow) (ps : List Property) → body_tree target (listing_held revision scope rows ps) ≡ list (body_code target) (trees_of (members revision scope rows ps (gone_tags target (is_delta_of scope) (gone_of scope))))
unfolding members
same_members target revision scope rows ps =
    let gone : List Tree = gone_tags target (is_delta_of scope) (gone_of scope) in
    ap (λ n. list (body_code target) (trees_of (start_tags (is_delta_of scope) revision (total_of scope (length rows)) n ++ list (code "mlcl") (trees_of (map (λ row. row.1) (rows_held ps rows))) ∷ gone))) (held_count ps rows)
    ∙ ap (λ ts. list (body_code target) (trees_of (start_tags (is_delta_of scope) revision (total_of scope (length rows)) (length rows) ++ list (code "mlcl") (trees_of ts) ∷ gone))) (held_trees ps rows)

members_length : (target : Target) (revision : ℕ) (scope : Scope) (rows : List PlanRow) (ps : List Property) (gone : List Tree) → length (spellings (trees_of (members revision scope rows ps gone))) ≡ 65 + rows_length ps rows + length (spellings (trees_of gone))
unfolding members
members_length target revision scope rows ps gone =
    parts_length (is_delta_of scope) revision (total_of scope (length rows)) (length rows) (row_trees ps rows) gone

-- how many bytes a body has
pub body_length : (target : Target) (revision : ℕ) (scope : Scope) (rows : List PlanRow) (ps : List Property) (n : ℕ) → n ≡ 65 + rows_length ps rows + length (spellings (trees_of (gone_tags target (is_delta_of scope) (gone_of scope)))) → 8 + n ≡ length (spelling (body_tree target (listing_held revision scope rows ps)))
body_length target revision scope rows ps n e =
    let gone : List Tree = gone_tags target (is_delta_of scope) (gone_of scope) in
    omega (arith, e, members_length target revision scope rows ps gone, framed_length (body_code target) (spellings (trees_of (members revision scope rows ps gone))), ap (λ t. length (spelling t)) (same_members target revision scope rows ps))

-- five slices, one after the other
five : (old a b c d e : List ℕ) → ((((old ++ a) ++ b) ++ c) ++ d) ++ e ≡ old ++ (a ++ (b ++ (c ++ (d ++ (e ++ [])))))
five old a b c d e = simp (append_assoc, append-nil)

-- the five tags of the start were put
pub start_put : (is_delta : Bool) (mark revision total listed : ℕ) (o a b c d e : List ℕ) → mark ≡ (if is_delta then 1 else 0) → a ≡ o ++ spelling (leaf (code "mstt") (U32 200)) → b ≡ a ++ spelling (leaf (code "muty") (U8 mark)) → c ≡ b ++ spelling (leaf (code "musr") (U32 revision)) → d ≡ c ++ spelling (leaf (code "mtco") (U32 total)) → e ≡ d ++ spelling (leaf (code "mrco") (U32 listed)) → e ≡ o ++ spellings (trees_of (start_tags is_delta revision total listed))
start_put is_delta mark revision total listed o a b c d e m ha hb hc hd he =
    let sa : List ℕ = spelling (leaf (code "mstt") (U32 200)) in
    let sb : List ℕ = spelling (leaf (code "muty") (U8 (if is_delta then 1 else 0))) in
    let sc : List ℕ = spelling (leaf (code "musr") (U32 revision)) in
    let sd : List ℕ = spelling (leaf (code "mtco") (U32 total)) in
    let se : List ℕ = spelling (leaf (code "mrco") (U32 listed)) in
    let hm : b ≡ a ++ sb = hb ∙ ap (λ n. a ++ spelling (leaf (code "muty") (U8 n))) m in
    he ∙ ap (λ bytes. bytes ++ se) (hd ∙ ap (λ bytes. bytes ++ sd) (hc ∙ ap (λ bytes. bytes ++ sc) (hm ∙ ap (λ bytes. bytes ++ sb) ha)))
    ∙ five o sa sb sc sd se

four : (head a b c d : List ℕ) → ((head ++ a) ++ b) ++ (c ++ d) ≡ head ++ (a ++ ((b ++ c) ++ d))
four head a b c d = simp append_assoc

-- a body's head, the start, the head of the rows and the rest are the body
pub front_put : (target : Target) (revision : ℕ) (scope : Scope) (rows : List PlanRow) (ps : List Property) (n m : ℕ) (o a b c : List ℕ)
    → n ≡ 65 + rows_length ps rows + length (spellings (trees_of (gone_tags target (is_delta_of scope) (gone_of scope)))) → m ≡ rows_length ps rows
    → o ≡ [] → a ≡ o ++ (code_bytes (body_code target) ++ to_be_bytes w32 n)
    → b ≡ a ++ spellings (trees_of (start_tags (is_delta_of scope) revision (total_of scope (length rows)) (length rows)))
    → c ≡ b ++ (code_bytes (code "mlcl") ++ to_be_bytes w32 m)
    → c ++ rest_of (record { target = target; listing = listing_held revision scope rows ps }) ≡ spelling (body_tree target (listing_held revision scope rows ps))
unfolding members
front_put target revision scope rows ps n m o a b c en em ho ha hb hc =
    let gone : List Tree = gone_tags target (is_delta_of scope) (gone_of scope) in
    let start : List Tree = start_tags (is_delta_of scope) revision (total_of scope (length rows)) (length rows) in
    let tags : List ℕ = spellings (trees_of (row_trees ps rows)) in
    let deleted : List ℕ = spellings (trees_of gone) in
    let head : ℕ → List ℕ = λ k. code_bytes (body_code target) ++ to_be_bytes w32 k in
    let inner : ℕ → List ℕ = λ k. code_bytes (code "mlcl") ++ to_be_bytes w32 k in
    ap (λ ts. c ++ (spellings (trees_of ts) ++ deleted)) (held_trees ps rows)
    ∙ ap (λ xs. xs ++ (tags ++ deleted)) (hc ∙ ap (λ xs. xs ++ inner m) (hb ∙ ap (λ xs. xs ++ spellings (trees_of start)) (ha ∙ ap (λ xs. xs ++ head n) ho)))
    ∙ ap (λ k. ((head k ++ spellings (trees_of start)) ++ inner m) ++ (tags ++ deleted)) (en ∙ sym (members_length target revision scope rows ps gone))
    ∙ ap (λ k. ((head (length (spellings (trees_of (members revision scope rows ps gone)))) ++ spellings (trees_of start)) ++ inner k) ++ (tags ++ deleted)) em
    ∙ four (head (length (spellings (trees_of (members revision scope rows ps gone))))) (spellings (trees_of start)) (inner (rows_length ps rows)) tags deleted
    ∙ ap (λ xs. head (length (spellings (trees_of (members revision scope rows ps gone)))) ++ xs) (sym (spellings_append start (list (code "mlcl") (trees_of (row_trees ps rows)) ∷ gone)))
    ∙ ap spelling (sym (same_members target revision scope rows ps))

-- ---- all listings are short

shown_length : (target : Target) (meta : Meta) (rows : List (ℕ × Row)) → All (λ row. is_item row.1.item ≡ true) rows → length (spellings (trees_of (map (λ row. row.1) (shown_rows target meta rows)))) ≤ 2581 * length rows
shown_length target meta [] h = omega arith
shown_length target meta (r ∷ rows) h =
    omega (arith, more_length (projection r.1 (member_of target r.0) meta) (trees_of (map (λ row. row.1) (shown_rows target meta rows))), row_short r.1 (member_of target r.0) meta (h zero r (omega arith)), shown_length target meta rows (λ k d lt. h (suc k) d (omega arith)))

gone_short : (target : Target) (is_delta : Bool) (gone : List ℕ) → length (spellings (trees_of (gone_tags target is_delta gone))) ≤ 8 + 12 * length gone
gone_short target true gone = omega (arith, gone_length target gone)
gone_short target false gone = omega arith

pub listings_are_short : ListingsAreShort
listings_are_short target is_delta revision total rows meta gone items few some =
    let shown = shown_rows target meta rows in
    omega (arith, parts_length is_delta revision total (length shown) (map (λ row. row.1) shown) (gone_tags target is_delta gone), shown_length target meta rows items, gone_short target is_delta gone, few, some)
