-- Bytes whose walk ends between two top tags are encodings of tags.
use Rattle.std.proofs.Common.{◌≡◌, ℕ, zero, suc, ◌+◌, ◌<◌, ◌≤◌, List, [], ◌∷◌, ◌++◌, length, take, drop, Bool, true, false, not, ◌&&◌, nat_lt, if◌then◌else◌, Option, Some, None, refl, sym, ap, subst, ◌∙◌, arith, length-append}
use Rattle.std.specs.List.{AllByRecursion}
use Rattle.std.proofs.Math.Seq.{drop-append_seam}
use Rattle.std.proofs.lemmas.List.{take-append-drop, length-drop}
use Rattle.std.proofs.lemmas.Bool.{ltb-false, cond-true}
use Rattle.dmap_tags.specs.Codes.{Four, code_of}
use Rattle.dmap_tags.specs.Tree.{Tree, list, Trees, trees_of}
use Rattle.dmap_tags.specs.Typed.{leaf_at, value_of}
use Rattle.dmap_tags.specs.Seen.{tree_with}
use Rattle.dmap_tags.specs.Spelling.{payload, spelling, spellings}
use Rattle.dmap_tags.specs.declared.kinds.Kind.{Kind}
use Rattle.dmap_tags.specs.Kinds.{is_list}
use Rattle.code_table.specs.declared.row.CodeRow.{CodeRow}
use Rattle.code_table.specs.Rows.{kind_in}
use Rattle.dmap_stream.specs.declared.containers.Container.{Container}
use Rattle.dmap_stream.specs.declared.refusal.StreamError.{StreamError}
use Rattle.dmap_stream.specs.declared.refusal.StreamError.TheVariants.{ShortHead}
use Rattle.dmap_stream.specs.Walk.{Walk, between, inside, broken, ends, is_empty, closes, open_after, is_short, parent_of, fault_at, told_length, container, at_payload, at_body, unless_fault, at_head, walk_from, walk_of}
use Rattle.dmap_stream.specs.WholeTag.{AreAccepted, ReadsTag, ReadsRest}
use Rattle.dmap_stream.proofs.Heads.{head_fault, head_list, head_value}
use Rattle.dmap_stream.proofs.Members.{Passed, none_passed, more_passed, all_passed, IsDue, due_goes}
use Rattle.dmap_stream.proofs.TagsWalk.{top_due}
use Rattle.dmap_stream.proofs.Values.{AreBytes, bytes_take, bytes_drop}
use Rattle.dmap_stream.proofs.WholeTags.{Opens, Enters, opening, not_deep, value_read, list_read, place_ends, accepted}

-- a tag that was read, and the bytes after it
abbrev pub SomeTag : List CodeRow → ℕ → ℕ → List Container → List ℕ → Type 0
SomeTag rows limit at around bytes = (t : Tree) × (later : List ℕ) × ReadsTag rows limit at around bytes t later

-- the tags up to the end of the innermost list, and the bytes after them
abbrev pub SomeRest : List CodeRow → ℕ → ℕ → List Container → List ℕ → Type 0
SomeRest rows limit at around bytes = (ts : Trees) × (later : List ℕ) × ReadsRest rows limit at around bytes ts later

-- if the walk ends between two top tags
abbrev pub EndsBetween : Walk → Type 0
EndsBetween w = w.ending ≡ between

-- the rest of a list is read, wherever fewer than n bytes are left
abbrev pub ReadsLists : List CodeRow → ℕ → ℕ → Type 0
ReadsLists rows limit n =
    (at : ℕ) (around : List Container) (bytes : List ℕ) → is_empty around ≡ false → length around ≤ 32 → length bytes < n → AreBytes bytes →
    EndsBetween (walk_from rows limit at around bytes) → SomeRest rows limit at around bytes

-- a place where a whole head is, and the walk that continues after it
pub record HasHead (rows : List CodeRow) (limit at : ℕ) (around : List Container) (bytes head rest : List ℕ) (c : Four) (len : ℕ) : Type 0 where
  pub opens : Opens bytes head rest c len
  pub small : AreBytes rest
  pub ending : EndsBetween (at_head (walk_from rows limit) rows limit at around (head ++ rest))

list_found : (rows : List CodeRow) (limit n at : ℕ) (around : List Container) (bytes head rest : List ℕ) (c : Four) (len : ℕ) (kind : Kind) → ReadsLists rows limit n → length rest < n →
    HasHead rows limit at around bytes head rest c len → Enters rows limit at around c len (parent_of around) kind → is_list kind ≡ true → SomeTag rows limit at around bytes
list_found rows limit n at around bytes head rest c len kind lists less h i holds =
    let deep = not_deep limit at around c len i.fault in
    let goes = head_list (walk_from rows limit) rows limit at around head rest c len (parent_of around) kind h.opens.whole i.fault i.inside i.told holds in
    let r = lists (at + 8) (container c at len ∷ around) rest refl (omega arith) less h.small (sym (ap (λ (w : Walk). w.ending) goes) ∙ h.ending) in
    (list c r.0, r.1, list_read rows limit at around bytes head rest r.1 c len (parent_of around) kind r.0 h.opens i holds r.2)

value_found : (rows : List CodeRow) (limit at : ℕ) (around : List Container) (bytes head rest : List ℕ) (c : Four) (len : ℕ) (kind : Kind) →
    HasHead rows limit at around bytes head rest c len → Enters rows limit at around c len (parent_of around) kind → is_list kind ≡ false → SomeTag rows limit at around bytes
value_found rows limit at around bytes head rest c len kind h i value = by (nat_lt (length rest) len) refl
  where
    part : List ℕ
    part = take len rest

    goes : EndsBetween (at_payload (walk_from rows limit) at around c kind len rest)
    goes = sym (ap (λ (w : Walk). w.ending) (head_value (walk_from rows limit) rows limit at around head rest c len (parent_of around) kind h.opens.whole i.fault i.inside i.told value)) ∙ h.ending

    by : (b : Bool) → nat_lt (length rest) len ≡ b → SomeTag rows limit at around bytes
    by true less = absurd (let bad : inside ≡ between = sym (ap (λ (w : Walk). w.ending) (cond-true (nat_lt (length rest) len) (ends inside) _ less)) ∙ goes in cc)
    by false long = (
      tree_with c (value_of (leaf_at kind part)),
      drop len rest,
      value_read rows limit at around bytes head rest part (drop len rest) c len (parent_of around) kind (value_of (leaf_at kind part))
          h.opens i value refl refl (ltb-false (length rest) len long) (bytes_take len rest h.small) refl,
    )

tag_found : (rows : List CodeRow) (limit n at : ℕ) (around : List Container) (bytes : List ℕ) → ReadsLists rows limit n → length bytes ≤ n → 8 ≤ length bytes → AreBytes bytes →
    EndsBetween (at_head (walk_from rows limit) rows limit at around bytes) → SomeTag rows limit at around bytes
tag_found rows limit n at around bytes lists less long small h = by_fault (fault_at limit at around c len) refl
  where
    head : List ℕ
    head = take 8 bytes

    rest : List ℕ
    rest = drop 8 bytes

    c : Four
    c = code_of head

    len : ℕ
    len = told_length head

    kind : Kind
    kind = kind_in rows (parent_of around) c

    has : HasHead rows limit at around bytes head rest c len
    has = record {
      opens = opening bytes head rest c len refl refl long small refl refl;
      small = bytes_drop 8 bytes small;
      ending = ap (λ b. (at_head (walk_from rows limit) rows limit at around b).ending) (take-append-drop 8 bytes) ∙ h;
    }

    by_kind : Enters rows limit at around c len (parent_of around) kind → (b : Bool) → is_list kind ≡ b → SomeTag rows limit at around bytes
    by_kind i true holds = list_found rows limit n at around bytes head rest c len kind lists (omega (arith, length-drop 8 bytes)) has i holds
    by_kind i false value = value_found rows limit at around bytes head rest c len kind has i value

    by_fault : (o : Option StreamError) → fault_at limit at around c len ≡ o → SomeTag rows limit at around bytes
    by_fault None is = by_kind (record { fault = sym is; inside = refl; told = refl }) (is_list kind) refl
    by_fault (Some e) is =
        let goes = head_fault (walk_from rows limit) rows limit at around head rest c len has.opens.whole ∙ ap (λ o. unless_fault o (at_body (walk_from rows limit) at around c kind len rest)) is in
        absurd (let bad : broken e ≡ between = sym (ap (λ (w : Walk). w.ending) goes) ∙ has.ending in cc)

-- what follows a tag is shorter, and bytes too
behind_tag : (bytes : List ℕ) (t : Tree) (later : List ℕ) → bytes ≡ spelling t ++ later → AreBytes bytes → (length later < length bytes) × AreBytes later
behind_tag bytes t later is small = (
  (let long : length bytes ≡ length (spelling t ++ later) = ap length is in omega (arith, length-append (payload t) later)),
  subst AreBytes (ap (drop (length (spelling t))) is ∙ drop-append_seam (spelling t) later) (bytes_drop (length (spelling t)) bytes small),
)

-- too few bytes for a head
few_end : (rows : List CodeRow) (limit at : ℕ) (around : List Container) (bytes : List ℕ) → nat_lt (length bytes) 8 ≡ true →
    (at_head (walk_from rows limit) rows limit at around bytes).ending ≡ (if is_empty around && is_empty bytes then between else inside)
unfolding at_head
few_end rows limit at around bytes few = ap (λ (w : Walk). w.ending) (cond-true (nat_lt (length bytes) 8) _ _ few)

-- further tags are read up to the list's end, wherever fewer than n bytes are left
abbrev pub ReadsMembers : List CodeRow → ℕ → ℕ → Type 0
ReadsMembers rows limit n =
    (at : ℕ) (around : List Container) (bytes : List ℕ) (front : List Tree) (here : ℕ) (rest : List ℕ) → Passed rows limit at around bytes front here rest → is_empty around ≡ false → length around ≤ 32 →
    length rest < n → AreBytes rest → EndsBetween (walk_from rows limit here around rest) → SomeRest rows limit at around bytes

lists_read : (rows : List CodeRow) (limit n : ℕ) → ReadsMembers rows limit n → ReadsLists rows limit n
lists_read rows limit n members at around bytes listed deep less small h =
    members at around bytes [] at bytes (none_passed rows limit at around bytes deep) listed deep less small h

members_more : (rows : List CodeRow) (limit n : ℕ) → ReadsMembers rows limit n → ReadsMembers rows limit (suc n)
members_more rows limit n members at around bytes front here rest p listed deep less small h = by_end (not (is_empty (closes here around))) refl
  where
    by_head : IsDue here around → EndsBetween (at_head (walk_from rows limit) rows limit here around rest) → (b : Bool) → nat_lt (length rest) 8 ≡ b → SomeRest rows limit at around bytes
    by_head due ends_there true few =
        absurd (let bad : inside ≡ between = sym (ap (λ b. if b && is_empty rest then between else inside) listed) ∙ sym (few_end rows limit here around rest few) ∙ ends_there in cc)
    by_head due ends_there false long =
        let r = tag_found rows limit n here around rest (lists_read rows limit n members) (omega arith) (ltb-false (length rest) 8 long) small ends_there in
        let left = behind_tag rest r.0 r.1 r.2.spelled small in
        members at around bytes (front ++ r.0 ∷ []) (here + length (spelling r.0)) r.1 (more_passed rows limit at around bytes front here rest r.0 r.1 p due r.2) listed deep
        (let shorter = left.0 in omega arith) left.1 (sym r.2.goes ∙ ends_there)

    by_short : not (is_empty (closes here around)) ≡ false → (b : Bool) → is_short here (open_after here around) ≡ b → SomeRest rows limit at around bytes
    by_short going true short =
        absurd (let bad : broken (ShortHead here) ≡ between = sym (place_ends rows limit here around rest ∙ ap (λ (w : Walk). w.ending) (cond-true (is_short here (open_after here around)) _ _ short)) ∙ h in cc)
    by_short going false long =
        let due : IsDue here around = record { going = going; long = long } in
        by_head due (sym (due_goes rows limit here around rest due) ∙ h) (nat_lt (length rest) 8) refl

    by_end : (b : Bool) → not (is_empty (closes here around)) ≡ b → SomeRest rows limit at around bytes
    by_end true over = (trees_of front, rest, all_passed rows limit at around bytes front here rest p over)
    by_end false going = by_short going (is_short here (open_after here around)) refl

members_read : (rows : List CodeRow) (limit n : ℕ) → ReadsMembers rows limit n
members_read rows limit zero at around bytes front here rest p listed deep less small h = absurd (omega arith)
members_read rows limit (suc n) at around bytes front here rest p listed deep less small h =
    members_more rows limit n (members_read rows limit n) at around bytes front here rest p listed deep less small h

-- tags that the bytes are
abbrev pub SomeTags : List CodeRow → ℕ → List ℕ → Type 0
SomeTags rows limit bytes = (ts : List Tree) × (bytes ≡ spellings (trees_of ts)) × AreAccepted rows limit ts

one_more : (rows : List CodeRow) (limit at : ℕ) (bytes : List ℕ) (t : Tree) (later : List ℕ) → ReadsTag rows limit at [] bytes t later → SomeTags rows limit later → SomeTags rows limit bytes
one_more rows limit at bytes t later r behind = (
  t ∷ behind.0,
  r.spelled ∙ ap (λ l. spelling t ++ l) behind.1,
  ((accepted rows limit at bytes t later r, r.proper), behind.2),
)

-- top tags are read, wherever fewer than n bytes are left
abbrev pub ReadsTops : List CodeRow → ℕ → ℕ → Type 0
ReadsTops rows limit n = (at : ℕ) (bytes : List ℕ) → length bytes < n → AreBytes bytes → EndsBetween (walk_from rows limit at [] bytes) → SomeTags rows limit bytes

tops_more : (rows : List CodeRow) (limit n : ℕ) → ReadsTops rows limit n → ReadsTops rows limit (suc n)
tops_more rows limit n tops at bytes less small h = by_head (nat_lt (length bytes) 8) refl
  where
    ends_there : EndsBetween (at_head (walk_from rows limit) rows limit at [] bytes)
    ends_there = sym (ap (λ (w : Walk). w.ending) (top_due rows limit at bytes)) ∙ h

    empty : (bs : List ℕ) → (if is_empty bs then between else inside) ≡ between → bs ≡ []
    empty [] is = refl
    empty (b ∷ bs) is = absurd (cc)

    by_head : (b : Bool) → nat_lt (length bytes) 8 ≡ b → SomeTags rows limit bytes
    by_head true few = ([], empty bytes (sym (few_end rows limit at [] bytes few) ∙ ends_there), tt)
    by_head false long =
        let r = tag_found rows limit n at [] bytes (lists_read rows limit n (members_read rows limit n)) (omega arith) (ltb-false (length bytes) 8 long) small ends_there in
        let left = behind_tag bytes r.0 r.1 r.2.spelled small in
        one_more rows limit at bytes r.0 r.1 r.2 (tops (at + length (spelling r.0)) r.1 (let shorter = left.0 in omega arith) left.1 (sym r.2.goes ∙ ends_there))

tops_read : (rows : List CodeRow) (limit n : ℕ) → ReadsTops rows limit n
tops_read rows limit zero at bytes less small h = absurd (omega arith)
tops_read rows limit (suc n) at bytes less small h = tops_more rows limit n (tops_read rows limit n) at bytes less small h

each_byte : (bytes : List ℕ) → AllByRecursion (λ b. b < 256) bytes → AreBytes bytes
each_byte [] each i = omega arith
each_byte (b ∷ bytes) each zero = each.0
each_byte (b ∷ bytes) each (suc i) = each_byte bytes each.1 i

pub tags_found : (rows : List CodeRow) (limit : ℕ) (bytes : List ℕ) → AllByRecursion (λ b. b < 256) bytes → (walk_of rows limit bytes).ending ≡ between →
    (ts : List Tree) × (bytes ≡ spellings (trees_of ts)) × AreAccepted rows limit ts
tags_found rows limit bytes each h = tops_read rows limit (suc (length bytes)) 0 bytes (omega arith) (each_byte bytes each) h
