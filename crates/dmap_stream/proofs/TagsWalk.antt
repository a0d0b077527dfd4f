-- The walk over encodings of tags has the tags' events.
use Rattle.std.proofs.Common.{◌≡◌, ℕ, ◌+◌, ◌<◌, ◌≤◌, ◌^◌, List, [], ◌∷◌, ◌++◌, length, Bool, true, false, ◌&&◌, ◌==◌, nat_lt, if◌then◌else◌, refl, sym, ap, ◌∙◌, arith, length-append, append_assoc}
use Rattle.std.specs.Int.{w32, to_be_bytes}
use Rattle.std.proofs.lemmas.List.{append-nil}
use Rattle.std.proofs.lemmas.Nat.{from_be_bytes-to_be_bytes_4}
use Rattle.std.proofs.lemmas.Bool.{lt-ltb, le-ltb, eq-eqb, ne_eqb, cond-false, and_parts}
use Rattle.dmap_tags.specs.Codes.{code_bytes}
use Rattle.dmap_tags.specs.Tree.{Leaf, Tree, leaf, list, Trees, none, more, trees_of, tree_code}
use Rattle.dmap_tags.specs.Typed.{value_of}
use Rattle.dmap_tags.specs.Spelling.{leaf_payload, payload, spelling, spellings}
use Rattle.dmap_tags.specs.declared.kinds.Kind.{Kind}
use Rattle.dmap_tags.specs.Kinds.{is_list}
use Rattle.dmap_tags.specs.Proper.{IsProperTag}
use Rattle.code_table.specs.declared.row.CodeRow.{CodeRow}
use Rattle.code_table.specs.Rows.{kind_in}
use Rattle.code_table.specs.Fits.{leaf_fits}
use Rattle.dmap_stream.specs.declared.containers.Container.{Container}
use Rattle.dmap_stream.specs.declared.event.Event.{Event}
use Rattle.dmap_stream.specs.declared.event.Event.TheVariants.{Open, Close}
use Rattle.dmap_stream.specs.declared.refusal.StreamError.TheVariants.{ShortHead}
use Rattle.dmap_stream.specs.Walk.{Walk, between, broken, ends, behind, closes, open_after, is_short, parent_of, container, at_head, at_place, walk_from, walk_of}
use Rattle.dmap_stream.specs.WholeTag.{is_accepted, AreAccepted, IsRoomFor, AreRest}
use Rattle.dmap_stream.specs.Events.{events_of, events_of_all}
use Rattle.dmap_stream.proofs.Heads.{IsHead, head_list, head_value}
use Rattle.dmap_stream.proofs.Members.{next_room, next_rest}
use Rattle.dmap_stream.proofs.Onward.{walk_on}
use Rattle.dmap_stream.proofs.Values.{leaf_again}
use Rattle.dmap_stream.proofs.WholeTags.{list_kind, no_value, room_at_top}
use Rattle.dmap_stream.proofs.Wholes.{payload_done}

-- events, and others after them
behind_more : (es fs : List Event) (w : Walk) → behind es (behind fs w) ≡ behind (es ++ fs) w
behind_more es fs w = ap (λ (xs : List Event). record { events = xs; ending = w.ending }) (sym (append_assoc es fs w.events))

mutual
  events_before : (at : ℕ) (t : Tree) (rest : List Event) → events_of at t rest ≡ events_of at t [] ++ rest
  events_before at (leaf c l) rest = refl
  events_before at (list c ts) rest =
      ap (λ es. Open c (length (spellings ts)) at ∷ es)
      (all_events_before (at + 8) ts (Close c at ∷ rest)
      ∙ sym (append_assoc (events_of_all (at + 8) ts []) (Close c at ∷ []) rest)
      ∙ ap (λ es. es ++ rest) (sym (all_events_before (at + 8) ts (Close c at ∷ []))))

  all_events_before : (at : ℕ) (ts : Trees) (rest : List Event) → events_of_all at ts rest ≡ events_of_all at ts [] ++ rest
  all_events_before at none rest = refl
  all_events_before at (more t ts) rest =
      let next = at + 8 + length (payload t) in
      events_before at t (events_of_all next ts rest)
      ∙ ap (λ es. events_of at t [] ++ es) (all_events_before next ts rest)
      ∙ sym (append_assoc (events_of at t []) (events_of_all next ts []) rest)
      ∙ ap (λ es. es ++ rest) (sym (events_before at t (events_of_all next ts [])))

-- the first eight bytes of an encoding
abbrev pub head_of : Tree → List ℕ
head_of t = code_bytes (tree_code t) ++ to_be_bytes w32 (length (payload t))

spelled_head : (t : Tree) → length (payload t) < 2 ^ 32 → IsHead (head_of t) (tree_code t) (length (payload t))
spelled_head t small = record { count = refl; code = refl; told = sym (from_be_bytes-to_be_bytes_4 (length (payload t)) small) }

-- a value's kind is not a list's
value_kind : (k : Kind) (l : Leaf) → leaf_fits k l ≡ true → is_list k ≡ false
value_kind k l fit = by (is_list k) refl
  where
    by : (b : Bool) → is_list k ≡ b → b ≡ false
    by false is = refl
    by true is = absurd (let bad : false ≡ true = sym (no_value l) ∙ ap (λ j. leaf_fits j l) (sym (list_kind k is)) ∙ fit in cc)

-- a place in a list, by whether the list ends there
abbrev place_by : List CodeRow → ℕ → ℕ → Container → List Container → List ℕ → Bool → Walk
place_by rows limit at k around bytes b =
    behind (if b then Close k.code k.at ∷ closes at around else [])
    (if is_short at (if b then open_after at around else k ∷ around) then ends (broken (ShortHead at))
    else at_head (walk_from rows limit) rows limit at (if b then open_after at around else k ∷ around) bytes)

place_in_list : (rows : List CodeRow) (limit at : ℕ) (k : Container) (around : List Container) (bytes : List ℕ) (b : Bool) → (k.end == at) ≡ b →
    walk_from rows limit at (k ∷ around) bytes ≡ place_by rows limit at k around bytes b
unfolding at_place
place_in_list rows limit at k around bytes b is = walk_on rows limit at (k ∷ around) bytes ∙ ap (place_by rows limit at k around bytes) is

-- if a tag fits in the innermost list, its head is expected
head_due : (rows : List CodeRow) (limit at : ℕ) (k : Container) (around : List Container) (bytes : List ℕ) → at + 8 ≤ k.end →
    walk_from rows limit at (k ∷ around) bytes ≡ at_head (walk_from rows limit) rows limit at (k ∷ around) bytes
head_due rows limit at k around bytes room =
    place_in_list rows limit at k around bytes false (ne_eqb k.end at (λ is. absurd (omega arith)))
    ∙ cond-false (is_short at (k ∷ around)) _ _ (ap (λ b. b && nat_lt k.end (at + 8)) (lt-ltb at k.end (omega arith)) ∙ le-ltb k.end (at + 8) room)

-- a list that ends at the place is closed
list_closed : (rows : List CodeRow) (limit at : ℕ) (k : Container) (around : List Container) (bytes : List ℕ) → k.end ≡ at →
    walk_from rows limit at (k ∷ around) bytes ≡ behind (Close k.code k.at ∷ []) (walk_from rows limit at around bytes)
unfolding at_place
list_closed rows limit at k around bytes is =
    place_in_list rows limit at k around bytes true (eq-eqb k.end at is)
    ∙ ap (behind (Close k.code k.at ∷ [])) (sym (walk_on rows limit at around bytes))

-- the events of a tag and of those after it are the events of all
then_tags : (rows : List CodeRow) (limit at : ℕ) (around : List Container) (t : Tree) (ts : Trees) (rest : List ℕ) →
    behind (events_of at t []) (behind (events_of_all (at + length (spelling t)) ts []) (walk_from rows limit (at + length (spelling t) + length (spellings ts)) around rest))
    ≡ behind (events_of_all at (more t ts) []) (walk_from rows limit (at + length (spellings (more t ts))) around rest)
then_tags rows limit at around t ts rest =
    let here = at + length (spelling t) in
    let next = at + 8 + length (payload t) in
    behind_more (events_of at t []) (events_of_all here ts []) (walk_from rows limit (here + length (spellings ts)) around rest)
    ∙ ap (λ es. behind es (walk_from rows limit (here + length (spellings ts)) around rest)) (sym (events_before at t (events_of_all here ts [])))
    ∙ ap (λ n. behind (events_of at t (events_of_all n ts [])) (walk_from rows limit (here + length (spellings ts)) around rest)) (omega arith)
    ∙ ap (λ n. behind (events_of at t (events_of_all next ts [])) (walk_from rows limit n around rest)) (omega (arith, length-append (spelling t) (spellings ts)))

mutual
  -- the walk over an accepted tag has all of its events, and then those of what follows it
  tag_goes : (rows : List CodeRow) (limit at : ℕ) (around : List Container) (t : Tree) (rest : List ℕ) → IsRoomFor rows limit at around t →
      at_head (walk_from rows limit) rows limit at around (spelling t ++ rest) ≡ behind (events_of at t []) (walk_from rows limit (at + length (spelling t)) around rest)
  tag_goes rows limit at around (leaf c l) rest room =
      let kind = kind_in rows (parent_of around) c in
      let onward = walk_from rows limit in
      head_value onward rows limit at around (head_of (leaf c l)) (leaf_payload l ++ rest) c (length (leaf_payload l)) (parent_of around) kind
      (spelled_head (leaf c l) room.told) (sym room.room) refl refl (value_kind kind l room.fit)
      ∙ payload_done onward at around c kind (leaf_payload l) rest (value_of l) (length (leaf_payload l)) (ap value_of (sym (leaf_again kind l room.fit room.proper))) refl
      ∙ ap (λ n. behind (events_of at (leaf c l) []) (walk_from rows limit n around rest)) (omega arith)
  tag_goes rows limit at around (list c ts) rest room =
      let kind = kind_in rows (parent_of around) c in
      let onward = walk_from rows limit in
      let inner : Container = container c at (length (spellings ts)) in
      let parts = and_parts _ _ room.fit in
      let deep = room.deep in
      head_list onward rows limit at around (head_of (list c ts)) (spellings ts ++ rest) c (length (spellings ts)) (parent_of around) kind
      (spelled_head (list c ts) room.told) (sym room.room) refl refl parts.0
      ∙ ap (behind (Open c (length (spellings ts)) at ∷ []))
      (tags_go rows limit (at + 8) inner around ts rest
      (record { list = refl; fit = parts.1; proper = room.proper; deep = omega arith; told = room.told; ends = refl })
      ∙ ap (behind (events_of_all (at + 8) ts [])) (list_closed rows limit inner.end inner around rest refl)
      ∙ behind_more (events_of_all (at + 8) ts []) (Close c at ∷ []) (walk_from rows limit inner.end around rest)
      ∙ ap (λ es. behind es (walk_from rows limit inner.end around rest)) (sym (all_events_before (at + 8) ts (Close c at ∷ []))))
      ∙ ap (λ n. behind (events_of at (list c ts) []) (walk_from rows limit n around rest)) (omega arith)

  -- so are the tags up to the end of the innermost list
  tags_go : (rows : List CodeRow) (limit at : ℕ) (k : Container) (around : List Container) (ts : Trees) (rest : List ℕ) → AreRest rows at (k ∷ around) k.code ts →
      walk_from rows limit at (k ∷ around) (spellings ts ++ rest) ≡ behind (events_of_all at ts []) (walk_from rows limit (at + length (spellings ts)) (k ∷ around) rest)
  tags_go rows limit at k around none rest r = ap (λ n. walk_from rows limit n (k ∷ around) rest) (omega arith)
  tags_go rows limit at k around (more t ts) rest r =
      let is = r.ends in
      ap (walk_from rows limit at (k ∷ around)) (append_assoc (spelling t) (spellings ts) rest)
      ∙ head_due rows limit at k around (spelling t ++ (spellings ts ++ rest)) (omega arith)
      ∙ tag_goes rows limit at (k ∷ around) t (spellings ts ++ rest) (next_room rows limit at (k ∷ around) k.code t ts r)
      ∙ ap (behind (events_of at t [])) (tags_go rows limit (at + length (spelling t)) k around ts rest (next_rest rows at (k ∷ around) k.code t ts r))
      ∙ then_tags rows limit at (k ∷ around) t ts rest

-- at the top a head is expected at once
pub top_due : (rows : List CodeRow) (limit at : ℕ) (bytes : List ℕ) → walk_from rows limit at [] bytes ≡ at_head (walk_from rows limit) rows limit at [] bytes
unfolding at_place
top_due rows limit at bytes = walk_on rows limit at [] bytes

-- the walk over a top tag has all of its events, and then those of what follows it
pub top_tag : (rows : List CodeRow) (limit at : ℕ) (t : Tree) (rest : List ℕ) → limit < 2 ^ 32 → is_accepted rows limit t ≡ true → IsProperTag t →
    walk_from rows limit at [] (spelling t ++ rest) ≡ behind (events_of at t []) (walk_from rows limit (at + length (spelling t)) [] rest)
top_tag rows limit at t rest small accepted proper =
    top_due rows limit at (spelling t ++ rest) ∙ tag_goes rows limit at [] t rest (room_at_top rows limit at t small accepted proper)

pub tag_in_front : (rows : List CodeRow) (limit : ℕ) (t : Tree) (rest : List ℕ) → limit < 2 ^ 32 → is_accepted rows limit t ≡ true → IsProperTag t →
    walk_of rows limit (spelling t ++ rest) ≡ behind (events_of 0 t []) (walk_from rows limit (length (spelling t)) [] rest)
tag_in_front rows limit t rest small accepted proper =
    top_tag rows limit 0 t rest small accepted proper ∙ ap (λ n. behind (events_of 0 t []) (walk_from rows limit n [] rest)) (omega arith)

-- so are top tags, one after another
pub top_tags : (rows : List CodeRow) (limit at : ℕ) (ts : List Tree) (rest : List ℕ) → limit < 2 ^ 32 → AreAccepted rows limit ts →
    walk_from rows limit at [] (spellings (trees_of ts) ++ rest) ≡ behind (events_of_all at (trees_of ts) []) (walk_from rows limit (at + length (spellings (trees_of ts))) [] rest)
top_tags rows limit at [] rest small each = ap (λ n. walk_from rows limit n [] rest) (omega arith)
top_tags rows limit at (t ∷ ts) rest small each =
    ap (walk_from rows limit at []) (append_assoc (spelling t) (spellings (trees_of ts)) rest)
    ∙ top_tag rows limit at t (spellings (trees_of ts) ++ rest) small each.0.0 each.0.1
    ∙ ap (behind (events_of at t [])) (top_tags rows limit (at + length (spelling t)) ts rest small each.1)
    ∙ then_tags rows limit at [] t (trees_of ts) rest

pub tags_read : (rows : List CodeRow) (limit : ℕ) (ts : List Tree) → limit < 2 ^ 32 → AreAccepted rows limit ts →
    walk_of rows limit (spellings (trees_of ts)) ≡ record { events = events_of_all 0 (trees_of ts) []; ending = between }
unfolding at_head
tags_read rows limit ts small each =
    ap (walk_from rows limit 0 []) (sym (append-nil (spellings (trees_of ts))))
    ∙ top_tags rows limit 0 ts [] small each
    ∙ ap (behind (events_of_all 0 (trees_of ts) [])) (top_due rows limit (0 + length (spellings (trees_of ts))) [])
    ∙ ap (λ (es : List Event). record { events = es; ending = between }) (append-nil (events_of_all 0 (trees_of ts) []))
