-- The places in a tag's JSON value, and how far reading comes among those in any value.
use Rattle.std.proofs.Common.{◌≡◌, ◌≤◌, ◌<◌, ◌+◌, ℕ, zero, suc, true, List, [], ◌∷◌, ◌++◌, length, get_or, drop, Option, Some, None, Result, Ok, Err, MatchResult, IfOk, IfErr, codes, inl, inr, refl, sym, ap, ap₂, ◌∙◌, subst, arith, append_assoc, append-nil, length-append, drop-cons}
use Rattle.std.proofs.lemmas.Bool.{and_parts, and_from}
use Rattle.std.specs.List.{AllByRecursion}
use Rattle.serde_json.specs.Data.{Data, array, Items, no_items, item}
use Rattle.serde_json.specs.Read.{read}
use Rattle.serde_json.specs.View.{view, items_view}
use Rattle.serde_json.specs.declared.value.Value.{Value}
use Rattle.dmap_tags.specs.Codes.{Four}
use Rattle.dmap_tags.specs.Tree.{Leaf, U8, I8, U16, I16, U32, I32, U64, I64, Text, Date, Version, Opaque, Tree, leaf, list, Trees, none, more, trees_of, levels, levels_in}
use Rattle.code_table.specs.declared.row.CodeRow.{CodeRow}
use Rattle.code_table.specs.Fits.{fits, all_fit}
use Rattle.dmap_show.specs.Readable.{IsCode, IsTag, AreTags}
use Rattle.dmap_show.specs.Shown.{shown_code}
use Rattle.dmap_json.specs.TagObject.{tag_object, json_items, json_of}
use Rattle.dmap_json.specs.Reads.{Reads}
use Rattle.dmap_json.specs.Faults.{Explains}
use Rattle.dmap_json.specs.Places.{Place, below, all_below, places, IsLeafObject, IsListObject, HasObject, IsTagObject, IsFirstFault}
use Rattle.dmap_json.specs.Walk.{IsHeld, IsRead, AreRead, Stops, HasNoObject}
use Rattle.dmap_json.specs.declared.error.JsonError.{JsonError}
use Rattle.dmap_json.specs.declared.error.JsonError.TheVariants.{Unfit, Syntax, Shape, Memory}
use Rattle.dmap_json.specs.declared.head.Held.{Held}
use Rattle.dmap_json.specs.declared.head.Held.TheVariants as held
use Rattle.dmap_json.proofs.Hexed.{code_again, one_code}
use Rattle.dmap_json.proofs.Heads.{same_parts, leaf_no_list, one_leaf}

-- there is no place in a leaf's object, and those in a list's object are those of its members
pub below_leaf : (level : ℕ) (c : Four) (l : Leaf) → below level (json_of (leaf c l)) ≡ []
below_leaf level c (U8 n) = refl
below_leaf level c (I8 z) = refl
below_leaf level c (U16 n) = refl
below_leaf level c (I16 z) = refl
below_leaf level c (U32 n) = refl
below_leaf level c (I32 z) = refl
below_leaf level c (U64 n) = refl
below_leaf level c (I64 z) = refl
below_leaf level c (Text bytes) = refl
below_leaf level c (Date n) = refl
below_leaf level c (Version n) = refl
below_leaf level c (Opaque bytes) = refl

pub below_list : (level : ℕ) (c : Four) (ds : Items) → IsCode c → below level (tag_object (shown_code c) (codes "list") (array ds)) ≡ all_below (suc level) c ds
below_list level c ds bytes = ap (λ x. all_below (suc level) x ds) (code_again c bytes)

-- the first malformed place in two lists of places joined
abbrev pub AreObjects : List CodeRow → List Place → Type 0
AreObjects rows ps = AllByRecursion (λ p. IsTagObject rows p) ps

append_objects : (rows : List CodeRow) (ps qs : List Place) → AreObjects rows ps → AreObjects rows qs → AreObjects rows (ps ++ qs)
append_objects rows [] qs h k = k
append_objects rows (p ∷ ps) qs h k = (h.0, append_objects rows ps qs h.1 k)

pub earlier : (rows : List CodeRow) (ps qs : List Place) (k : ℕ) → IsFirstFault rows ps k → IsFirstFault rows (ps ++ qs) k
earlier rows [] qs k h = absurd h
earlier rows (p ∷ ps) qs zero h = h
earlier rows (p ∷ ps) qs (suc k) h = (h.0, earlier rows ps qs k h.1)

pub later : (rows : List CodeRow) (ps qs : List Place) (k : ℕ) → AreObjects rows ps → IsFirstFault rows qs k → IsFirstFault rows (ps ++ qs) (length ps + k)
later rows [] qs k h f = let e : 0 + k ≡ k = omega arith in subst (λ n. IsFirstFault rows qs n) (sym e) f
later rows (p ∷ ps) qs k h f =
    let e : suc (length ps) + k ≡ suc (length ps + k) = omega arith in
    let found : IsFirstFault rows (p ∷ (ps ++ qs)) (suc (length ps + k)) = (h.0, later rows ps qs k h.1 f) in
    subst (λ n. IsFirstFault rows (p ∷ (ps ++ qs)) n) (sym e) found

pub faultless : (rows : List CodeRow) (ps : List Place) (k : ℕ) → AreObjects rows ps → IsFirstFault rows ps k → ⊥
faultless rows [] k h f = f
faultless rows (p ∷ ps) zero h f = f h.0
faultless rows (p ∷ ps) (suc k) h f = faultless rows ps k h.1 f.1

pub one_fault : (rows : List CodeRow) (ps : List Place) (i k : ℕ) → IsFirstFault rows ps i → IsFirstFault rows ps k → i ≡ k
one_fault rows [] i k f g = absurd f
one_fault rows (p ∷ ps) zero zero f g = refl
one_fault rows (p ∷ ps) zero (suc k) f g = absurd (f g.0)
one_fault rows (p ∷ ps) (suc i) zero f g = absurd (g f.0)
one_fault rows (p ∷ ps) (suc i) (suc k) f g = ap suc (one_fault rows ps i k f.1 g.1)

-- each place in the JSON value of a tag has a tag's object
mutual
  pub sound_tag : (rows : List CodeRow) (parent : Option Four) (level : ℕ) (t : Tree) → IsTag t → fits rows parent t ≡ true → level + levels t ≤ 33 → AreObjects rows (places level parent (json_of t))
  sound_tag rows parent level (leaf c l) h fit shallow =
      let here : IsTagObject rows (record { level = level; parent = parent; value = json_of (leaf c l) }) =
      record { shallow = omega arith; object = inl (c, l, record { tag = h; fits = fit; object = refl }) } in
      (here, subst (AreObjects rows) (sym (below_leaf level c l)) tt)
  sound_tag rows parent level (list c ts) h fit shallow =
      let parts = and_parts _ _ fit in
      let here : IsTagObject rows (record { level = level; parent = parent; value = json_of (list c ts) }) =
      record { shallow = omega arith; object = inr (c, json_items ts, record { bytes = h.0; fits = parts.0; object = refl }) } in
      (here, subst (AreObjects rows) (sym (below_list level c (json_items ts) h.0)) (sound_tags rows c (suc level) ts h.1 parts.1 (omega arith)))

  pub sound_tags : (rows : List CodeRow) (parent : Four) (level : ℕ) (ts : Trees) → AreTags ts → all_fit rows parent ts ≡ true → level + levels_in ts ≤ 33 → AreObjects rows (all_below level parent (json_items ts))
  sound_tags rows parent level none h fit shallow = tt
  sound_tags rows parent level (more t ts) h fit shallow =
      let parts = and_parts _ _ fit in
      append_objects rows (places level (Some parent) (json_of t)) (all_below level parent (json_items ts))
      (sound_tag rows (Some parent) level t h.0 parts.0 (omega arith)) (sound_tags rows parent level ts h.1 parts.1 (omega arith))

pub read_sound : (rows : List CodeRow) (parent : Option Four) (level : ℕ) (d : Data) (t : Tree) → IsRead rows parent level d t → AreObjects rows (places level parent d)
read_sound rows parent level d t h = subst (λ x. AreObjects rows (places level parent x)) (sym h.object) (sound_tag rows parent level t h.tag h.fits h.shallow)

one_array : (a b : Items) → array a ≡ array b → a ≡ b
one_array a b e = cc

one_item : (d e : Data) (a b : Items) → item d a ≡ item e b → (d ≡ e) × (a ≡ b)
one_item d e a b same = (cc, cc)

-- a JSON value is one tag's
mutual
  pub one_tag : (t u : Tree) → IsTag t → IsTag u → json_of t ≡ json_of u → t ≡ u
  one_tag (leaf c l) (leaf e m) h k same =
      let parts = same_parts _ _ _ _ _ _ same in
      ap₂ leaf (one_code c e h.0 k.0 parts.0) (one_leaf l m h.1 k.1 parts.1.0 parts.1.1)
  one_tag (leaf c l) (list e us) h k same = absurd (leaf_no_list l (same_parts _ _ _ _ _ _ same).1.0)
  one_tag (list c ts) (leaf e m) h k same = absurd (leaf_no_list m (sym (same_parts _ _ _ _ _ _ same).1.0))
  one_tag (list c ts) (list e us) h k same =
      let parts = same_parts _ _ _ _ _ _ same in
      ap₂ list (one_code c e h.0 k.0 parts.0) (one_list ts us h.1 k.1 (one_array _ _ parts.1.1))

  one_list : (ts us : Trees) → AreTags ts → AreTags us → json_items ts ≡ json_items us → ts ≡ us
  one_list none none h k same = refl
  one_list none (more u us) h k same = absurd (cc)
  one_list (more t ts) none h k same = absurd (cc)
  one_list (more t ts) (more u us) h k same =
      let parts = one_item _ _ _ _ same in
      ap₂ more (one_tag t u h.0 k.0 parts.0) (one_list ts us h.1 k.1 parts.1)

-- the parts of an object are those of a tag
pub head_object : (rows : List CodeRow) (parent : Option Four) (d : Data) (c : Four) (h : Held) → IsHeld rows parent d c h → HasObject rows parent d
head_object rows parent d c (held.Leaf v) h = inl (c, h.0, h.1.1)
head_object rows parent d c (held.List items) h = inr (c, items_view items.now, h)

pub no_tag_object : (rows : List CodeRow) (level : ℕ) (parent : Option Four) (d : Data) → HasNoObject rows parent d → IsTagObject rows (record { level = level; parent = parent; value = d }) → ⊥
no_tag_object rows level parent d nothing h = elim h.object [ inl o ↦ nothing.no_leaf o.0 o.1 o.2 | inr o ↦ nothing.no_list o.0 o.1 o.2 ]

-- a malformed place below an object, counted from the object
pub stops_below : (rows : List CodeRow) (start next : ℕ) (p : Place) (ps : List Place) (e : JsonError) → next ≡ start + 1 → IsTagObject rows p → Stops rows next ps e → Stops rows start (p ∷ ps) e
stops_below rows start next p ps Unfit counted object h = h
stops_below rows start next p ps Syntax counted object h = h
stops_below rows start next p ps (Shape index) counted object h =
    let at : index ≡ next + h.0 = h.1 in
    let place : index ≡ start + suc h.0 = omega arith in
    (suc h.0, place, (object, h.2))
stops_below rows start next p ps Memory counted object h = tt

-- a leaf is read at once, and a list with its members
pub leaf_read : (rows : List CodeRow) (parent : Option Four) (level : ℕ) (d : Data) (c : Four) (l : Leaf) → level ≤ 32 → IsLeafObject rows parent d c l → IsRead rows parent level d (leaf c l)
leaf_read rows parent level d c l shallow h = record { object = h.object; tag = h.tag; fits = h.fits; shallow = omega arith }

pub leaf_below : (rows : List CodeRow) (parent : Option Four) (level : ℕ) (d : Data) (c : Four) (l : Leaf) → IsLeafObject rows parent d c l → below level d ≡ []
leaf_below rows parent level d c l h = ap (below level) h.object ∙ below_leaf level c l

pub list_read : (rows : List CodeRow) (parent : Option Four) (level : ℕ) (d : Data) (c : Four) (ds : Items) (ts : Trees) → IsListObject rows parent d c ds → AreRead rows c (level + 1) ds ts → IsRead rows parent level d (list c ts)
list_read rows parent level d c ds ts h members =
    let deep : level + 1 + levels_in ts ≤ 33 = members.shallow in
    record {
      object = h.object ∙ ap (λ x. tag_object (shown_code c) (codes "list") (array x)) members.objects;
      tag = (h.bytes, members.tags);
      fits = and_from _ _ h.fits members.fit;
      shallow = omega arith;
    }

pub list_below : (rows : List CodeRow) (parent : Option Four) (level : ℕ) (d : Data) (c : Four) (ds : Items) → IsListObject rows parent d c ds → below level d ≡ all_below (level + 1) c ds
list_below rows parent level d c ds h =
    let deeper : suc level ≡ level + 1 = omega arith in
    ap (below level) h.object ∙ below_list level c ds h.bytes ∙ ap (λ n. all_below n c ds) deeper

-- how far the walk over a list's values has come: what was read, and what an error among those left says of all
pub record IsAt (rows : List CodeRow) (parent : Four) (level start now : ℕ) (all left : Items) (done : List Tree) : Type 0 where
  pub seen : ℕ
  pub counted : now ≡ start + seen
  pub total : seen + length (all_below level parent left) ≡ length (all_below level parent all)
  pub fault : (k : ℕ) → IsFirstFault rows (all_below level parent left) k → IsFirstFault rows (all_below level parent all) (seen + k)
  pub rest : (ts : List Tree) → AreRead rows parent level left (trees_of ts) → AreRead rows parent level all (trees_of (done ++ ts))

pub at_start : (rows : List CodeRow) (parent : Four) (level start : ℕ) (all : Items) → IsAt rows parent level start start all all []
at_start rows parent level start all = record {
  seen = 0;
  counted = omega arith;
  total = omega arith;
  fault = λ k f. (let e : 0 + k ≡ k = omega arith in subst (λ n. IsFirstFault rows (all_below level parent all) n) (sym e) f);
  rest = λ ts h. h;
}

item_read : (rows : List CodeRow) (parent : Four) (level : ℕ) (d : Data) (left : Items) (t : Tree) (ts : List Tree) → IsRead rows (Some parent) level d t → AreRead rows parent level left (trees_of ts) → AreRead rows parent level (item d left) (trees_of (t ∷ ts))
item_read rows parent level d left t ts first others =
    let deep : level + levels t ≤ 33 = first.shallow in
    let deeper : level + levels_in (trees_of ts) ≤ 33 = others.shallow in
    record {
      objects = ap₂ item first.object others.objects;
      tags = (first.tag, others.tags);
      fit = and_from _ _ first.fits others.fit;
      shallow = omega arith;
    }

pub at_next : (rows : List CodeRow) (parent : Four) (level start now next : ℕ) (all left : Items) (d : Data) (t : Tree) (done : List Tree)
    → IsAt rows parent level start now all (item d left) done → IsRead rows (Some parent) level d t → next ≡ now + length (places level (Some parent) d)
    → IsAt rows parent level start next all left (done ++ t ∷ [])
at_next rows parent level start now next all left d t done at first counted =
    let here = places level (Some parent) d in
    let others = all_below level parent left in
    let sum : length (here ++ others) ≡ length here + length others = length-append here others in
    let so_far : at.seen + length (here ++ others) ≡ length (all_below level parent all) = at.total in
    let before : now ≡ start + at.seen = at.counted in
    record {
      seen = at.seen + length here;
      counted = omega arith;
      total = omega arith;
      fault = λ k f. (let e : at.seen + (length here + k) ≡ at.seen + length here + k = omega arith in
          subst (λ n. IsFirstFault rows (all_below level parent all) n) e (at.fault (length here + k) (later rows here others k (read_sound rows (Some parent) level d t first) f)));
      rest = λ ts h. subst (λ us. AreRead rows parent level all (trees_of us)) (sym (append_assoc done (t ∷ []) ts)) (at.rest (t ∷ ts) (item_read rows parent level d left t ts first h));
    }

pub at_stop : (rows : List CodeRow) (parent : Four) (level start now : ℕ) (all left : Items) (d : Data) (done : List Tree) (e : JsonError)
    → IsAt rows parent level start now all (item d left) done → Stops rows now (places level (Some parent) d) e → Stops rows start (all_below level parent all) e
at_stop rows parent level start now all left d done Unfit at h = h
at_stop rows parent level start now all left d done Syntax at h = h
at_stop rows parent level start now all left d done (Shape index) at h =
    let before : now ≡ start + at.seen = at.counted in
    let found : index ≡ now + h.0 = h.1 in
    let place : index ≡ start + (at.seen + h.0) = omega arith in
    (at.seen + h.0, place, at.fault h.0 (earlier rows (places level (Some parent) d) (all_below level parent left) h.0 h.2))
at_stop rows parent level start now all left d done Memory at h = tt

pub at_end : (rows : List CodeRow) (parent : Four) (level start now : ℕ) (all : Items) (done : List Tree) → level ≤ 33 → IsAt rows parent level start now all no_items done
    → AreRead rows parent level all (trees_of done) × (now ≡ start + length (all_below level parent all))
at_end rows parent level start now all done shallow at =
    let before : now ≡ start + at.seen = at.counted in
    let total : at.seen + 0 ≡ length (all_below level parent all) = at.total in
    (subst (λ us. AreRead rows parent level all (trees_of us)) (append-nil done) (at.rest [] (record { objects = refl; tags = tt; fit = refl; shallow = omega arith })), omega arith)

-- the value at an index, before those after it
pub left_item : (vs : List Value) (i : ℕ) (v : Value) → i < length vs → v ≡ get_or vs i v → items_view (drop i vs) ≡ item (view v) (items_view (drop (i + 1) vs))
left_item vs i v within is = ap items_view (drop-cons vs i v within) ∙ ap₂ (λ x n. item (view x) (items_view (drop n vs))) (sym is) (let e : suc i ≡ i + 1 = omega arith in e)

pub none_left : (vs : List Value) → items_view (drop (length vs) vs) ≡ no_items
none_left [] = refl
none_left (v ∷ vs) = none_left vs

-- texts and their tags
same_value : {d e : Data} → Some d ≡ Some e → d ≡ e
same_value e = cc

pub one_reading : (rows : List CodeRow) (text : List ℕ) (t u : Tree) → Reads rows text t → Reads rows text u → t ≡ u
one_reading rows text t u a b = one_tag t u a.readable.tag b.readable.tag (same_value (sym a.value ∙ b.value))

none_some : {d : Data} → None ≡ Some d → ⊥
none_some e = cc

pub no_fault : (rows : List CodeRow) (text : List ℕ) (t : Tree) (e : JsonError) → Reads rows text t → Explains rows text e → e ≡ Memory
no_fault rows text t Unfit a f = absurd f
no_fault rows text t Syntax a f = absurd (none_some (sym f ∙ a.value))
no_fault rows text t (Shape index) a f =
    let shallow : 1 + levels t ≤ 33 = (let low = a.readable.shallow in omega arith) in
    let sound = sound_tag rows None 1 t a.readable.tag a.readable.fits shallow in
    absurd (faultless rows (places 1 None f.0) index (subst (λ d. AreObjects rows (places 1 None d)) (same_value (sym a.value ∙ f.1)) sound) f.2)
no_fault rows text t Memory a f = refl

pub one_cause : (rows : List CodeRow) (text : List ℕ) (e f : JsonError) → Explains rows text e → Explains rows text f → (e ≡ Memory → ⊥) → (f ≡ Memory → ⊥) → e ≡ f
one_cause rows text Unfit f a b p q = absurd a
one_cause rows text Memory f a b p q = absurd (p refl)
one_cause rows text Syntax Unfit a b p q = absurd b
one_cause rows text Syntax Syntax a b p q = refl
one_cause rows text Syntax (Shape k) a b p q = absurd (none_some (sym a ∙ b.1))
one_cause rows text Syntax Memory a b p q = absurd (q refl)
one_cause rows text (Shape i) Unfit a b p q = absurd b
one_cause rows text (Shape i) Syntax a b p q = absurd (none_some (sym b ∙ a.1))
one_cause rows text (Shape i) (Shape k) a b p q =
    ap Shape (one_fault rows (places 1 None b.0) i k (subst (λ d. IsFirstFault rows (places 1 None d) i) (same_value (sym a.1 ∙ b.1)) a.2) b.2)
one_cause rows text (Shape i) Memory a b p q = absurd (q refl)

-- the tag that is read is the only one
pub judged : (rows : List CodeRow) (text : List ℕ) (t : Tree) (r : Result Tree JsonError) → IfOk r (λ u. Reads rows text u) → IfErr r (λ e. Explains rows text e) → Reads rows text t → MatchResult r (λ u. u ≡ t) (λ e. e ≡ Memory)
judged rows text t (Ok u) good bad h = one_reading rows text u t good h
judged rows text t (Err e) good bad h = no_fault rows text t e h bad

pub explained : (rows : List CodeRow) (text : List ℕ) (d : Data) (e : JsonError) → read text ≡ Some d → Stops rows 0 (places 1 None d) e → Explains rows text e
explained rows text d Unfit is h = h
explained rows text d Syntax is h = absurd h
explained rows text d (Shape index) is h =
    let place : index ≡ 0 + h.0 = h.1 in
    let same : h.0 ≡ index = omega arith in
    (d, is, subst (λ k. IsFirstFault rows (places 1 None d) k) same h.2)
explained rows text d Memory is h = tt

pub top_reads : (rows : List CodeRow) (text : List ℕ) (d : Data) (t : Tree) → read text ≡ Some d → IsRead rows None 1 d t → Reads rows text t
top_reads rows text d t is h =
    let deep : 1 + levels t ≤ 33 = h.shallow in
    record { value = is ∙ ap Some h.object; readable = record { tag = h.tag; fits = h.fits; shallow = omega arith } }
