-- What becomes of a tag whose head is expected at a place.
use Rattle.std.proofs.Common.{◌≡◌, ◌≢◌, ℕ, ◌+◌, ◌-◌, ◌<◌, ◌≤◌, ◌^◌, List, [], ◌∷◌, ◌++◌, length, take, drop, Bool, true, false, ◌&&◌, ◌==◌, nat_lt, nat_le, if◌then◌else◌, Option, Some, None, refl, sym, ap, subst, ◌∙◌, arith, length-append}
use Rattle.std.proofs.Math.Seq.{take-append_seam, drop-append_seam}
use Rattle.std.proofs.lemmas.List.{take-append-drop, length-take}
use Rattle.std.proofs.lemmas.Bool.{lt-ltb, le-ltb, ltb-false, le-leb, leb-true, leb-false, cond-true, cond-false, and_parts, and_from, eq-eqb}
use Rattle.dmap_tags.specs.Codes.{Four, code_of}
use Rattle.dmap_tags.specs.Tree as tree
use Rattle.dmap_tags.specs.Tree.{Leaf, Tree, leaf, list, Trees, tree_code, levels}
use Rattle.dmap_tags.specs.Typed.{leaf_at, value_of}
use Rattle.dmap_tags.specs.Seen.{tree_with}
use Rattle.dmap_tags.specs.Spelling.{leaf_payload, payload, spelling}
use Rattle.dmap_tags.specs.declared.kinds.Kind.{Kind}
use Rattle.dmap_tags.specs.declared.kinds.Kind.TheVariants as kind
use Rattle.dmap_tags.specs.declared.tree.Value.{Value}
use Rattle.dmap_tags.specs.Kinds.{is_list}
use Rattle.dmap_tags.specs.Proper.{IsProperTag}
use Rattle.code_table.specs.declared.row.CodeRow.{CodeRow}
use Rattle.code_table.specs.Rows.{kind_in}
use Rattle.code_table.specs.Fits.{fits, leaf_fits}
use Rattle.dmap_stream.specs.declared.containers.Container.{Container}
use Rattle.dmap_stream.specs.declared.refusal.StreamError.{StreamError}
use Rattle.dmap_stream.specs.declared.refusal.StreamError.TheVariants.{TooLarge, TooDeep, Overrun, ShortHead, Truncated, Memory}
use Rattle.dmap_stream.specs.Walk.{Walk, Ending, between, inside, broken, ends, is_empty, open_after, is_short, parent_of, fault_at, passes, told_length, container, at_payload, at_body, unless_fault, at_head, at_place, walk_from}
use Rattle.dmap_stream.specs.WholeTag.{is_accepted, refusal, IsRoomFor, AreRest, ReadsTag, RefusesTag, ReadsRest, RefusesRest}
use Rattle.dmap_stream.proofs.Heads.{IsHead, head_fault, head_list, head_value}
use Rattle.dmap_stream.proofs.Onward.{walk_on}
use Rattle.dmap_stream.proofs.Spelled.{Begins, begins, spelled}
use Rattle.dmap_stream.proofs.Values.{AreBytes, bytes_take, leaf_again, leaf_fit, leaf_proper, payload_back, seen_leaf}
use Rattle.dmap_stream.proofs.Wholes.{payload_done}

-- the bytes begin with a whole head
pub record Opens (bytes head rest : List ℕ) (c : Four) (len : ℕ) : Type 0 where
  pub split : bytes ≡ head ++ rest
  pub whole : IsHead head c len
  pub small : AreBytes head

-- the head has no fault, and its tag has that kind
pub record Enters (rows : List CodeRow) (limit at : ℕ) (around : List Container) (c : Four) (len : ℕ) (parent : Option Four) (kind : Kind) : Type 0 where
  pub fault : None ≡ fault_at limit at around c len
  pub inside : parent ≡ parent_of around
  pub told : kind ≡ kind_in rows parent c

pub opening : (bytes head rest : List ℕ) (c : Four) (len : ℕ) → head ≡ take 8 bytes → rest ≡ drop 8 bytes → 8 ≤ length bytes → AreBytes bytes → c ≡ code_of head → len ≡ told_length head → Opens bytes head rest c len
opening bytes head rest c len front back within small code told = record {
  split = sym (take-append-drop 8 bytes) ∙ ap (λ l. l ++ drop 8 bytes) (sym front) ∙ ap (λ l. head ++ l) (sym back);
  whole = record { count = ap length front ∙ length-take 8 bytes ∙ (omega arith); code = code; told = told };
  small = subst AreBytes (sym front) (bytes_take 8 bytes small);
}

opened : {bytes head rest : List ℕ} {c : Four} {len : ℕ} (u : Tree) (more : List ℕ) → Opens bytes head rest c len → length (payload u) < 2 ^ 32 → bytes ≡ spelling u ++ more → Begins c len rest more u
opened {bytes} {head} {rest} {c} {len} u more o less is = begins head rest more c len u o.whole less (sym o.split ∙ is)

early : (total : ℕ) (b : Bool) → refusal total (if b then between else inside) ≡ Truncated total
early total true = refl
early total false = refl

pub no_head : (rows : List CodeRow) (limit total at : ℕ) (around : List Container) (bytes : List ℕ) → length bytes < 8 → RefusesTag rows limit total at around bytes (Truncated total)
unfolding at_head
no_head rows limit total at around bytes less = record {
  tells = λ _.
      sym (
      ap (λ (w : Walk). refusal total w.ending) (cond-true (nat_lt (length bytes) 8) _ _ (lt-ltb (length bytes) 8 less))
      ∙ early total (is_empty around && is_empty bytes)
      );
  never = λ u more room is. absurd (let long : length bytes ≡ length (spelling u ++ more) = ap length is in omega arith);
}

pub faulty : (rows : List CodeRow) (limit total at : ℕ) (around : List Container) (bytes head rest : List ℕ) (c : Four) (len : ℕ) (e : StreamError) →
    Opens bytes head rest c len → Some e ≡ fault_at limit at around c len → RefusesTag rows limit total at around bytes e
faulty rows limit total at around bytes head rest c len e o fault = record {
  tells = λ _.
      sym (
      ap (λ b. refusal total (at_head (walk_from rows limit) rows limit at around b).ending) o.split
      ∙ ap (λ (w : Walk). refusal total w.ending) (head_fault (walk_from rows limit) rows limit at around head rest c len o.whole)
      ∙ ap (λ f. refusal total (unless_fault f (at_body (walk_from rows limit) at around c (kind_in rows (parent_of around) c) len rest)).ending) (sym fault)
      );
  never = λ u more room is.
      let b = opened u more o room.told is in
      let none : Some e ≡ None = fault ∙ ap (λ x. fault_at limit at around x len) b.code ∙ ap (fault_at limit at around (tree_code u)) b.count ∙ room.room in absurd (cc);
}

pub cut_short : (rows : List CodeRow) (limit total at : ℕ) (around : List Container) (bytes head rest : List ℕ) (c : Four) (len : ℕ) (parent : Option Four) (kind : Kind) →
    Opens bytes head rest c len → Enters rows limit at around c len parent kind → is_list kind ≡ false → length rest < len → RefusesTag rows limit total at around bytes (Truncated total)
cut_short rows limit total at around bytes head rest c len parent kind o i value less = record {
  tells = λ _.
      sym (
      ap (λ b. refusal total (at_head (walk_from rows limit) rows limit at around b).ending) o.split
      ∙ ap (λ (w : Walk). refusal total w.ending)
      (head_value (walk_from rows limit) rows limit at around head rest c len parent kind o.whole i.fault i.inside i.told value
      ∙ cond-true (nat_lt (length rest) len) _ _ (lt-ltb (length rest) len less))
      );
  never = λ u more room is.
      let b = opened u more o room.told is in
      absurd (let count : len ≡ length (payload u) = b.count in let long : length rest ≡ length (payload u ++ more) = ap length b.left in omega (arith, length-append (payload u) more));
}

kind_of : {rows : List CodeRow} {limit at : ℕ} {around : List Container} {c : Four} {len : ℕ} {parent : Option Four} {kind : Kind} (u : Tree) → Enters rows limit at around c len parent kind → c ≡ tree_code u → kind_in rows (parent_of around) (tree_code u) ≡ kind
kind_of {rows} {limit} {at} {around} {c} {len} {parent} {kind} u i same =
    sym (i.told ∙ ap (λ p. kind_in rows p c) i.inside ∙ ap (kind_in rows (parent_of around)) same)

-- a tag that fits, if the kind is not a list's, is the value in its payload
value_only : (rows : List CodeRow) (parent : Option Four) (kind : Kind) (u : Tree) → kind_in rows parent (tree_code u) ≡ kind → is_list kind ≡ false → fits rows parent u ≡ true → IsProperTag u →
    u ≡ leaf (tree_code u) (leaf_at kind (payload u))
value_only rows parent kind (leaf c l) told value fit proper = ap (leaf c) (sym (leaf_again kind l (ap (λ k. leaf_fits k l) (sym told) ∙ fit) proper))
value_only rows parent kind (list c ts) told value fit proper =
    absurd (let bad : true ≡ false = sym (and_parts _ _ fit).0 ∙ ap is_list told ∙ value in cc)

-- the levels that are there already
pub not_deep : (limit at : ℕ) (around : List Container) (c : Four) (len : ℕ) → None ≡ fault_at limit at around c len → length around < 32
not_deep limit at around c len h = first (is_empty around && nat_lt limit len) h
  where
    second : (b : Bool) → nat_le 32 (length around) ≡ b → None ≡ (if b then Some (TooDeep at) else (if passes (at + 8 + len) around then Some (Overrun at c) else None)) → length around < 32
    second true is h = absurd (cc)
    second false is h = leb-false 32 (length around) is

    first : (b : Bool) → None ≡ (if b then Some (TooLarge at) else (if nat_le 32 (length around) then Some (TooDeep at) else (if passes (at + 8 + len) around then Some (Overrun at c) else None))) → length around < 32
    first true h = absurd (cc)
    first false h = second (nat_le 32 (length around)) refl h

pub value_read : (rows : List CodeRow) (limit at : ℕ) (around : List Container) (bytes head rest part later : List ℕ) (c : Four) (len : ℕ) (parent : Option Four) (kind : Kind) (v : Value) →
    Opens bytes head rest c len → Enters rows limit at around c len parent kind → is_list kind ≡ false → part ≡ take len rest → later ≡ drop len rest → len ≤ length rest → AreBytes part →
    v ≡ value_of (leaf_at kind part) → ReadsTag rows limit at around bytes (tree_with c v) later
value_read rows limit at around bytes head rest part later c len parent kind v o i value front back within small is =
    subst (λ t. ReadsTag rows limit at around bytes t later) (sym (ap (tree_with c) is ∙ seen_leaf c l)) (record {
      spelled = o.split ∙ spelled head rest later c len t o.whole o.small refl count left;
      fit = ap (λ k. leaf_fits k l) (kind_of t i refl) ∙ leaf_fit kind part value;
      proper = leaf_proper kind part small;
      deep = let d = not_deep limit at around c len i.fault in omega arith;
      room = ap (fault_at limit at around c) (sym count) ∙ sym i.fault;
      goes = ap (λ b. (at_head (walk_from rows limit) rows limit at around b).ending) o.split
          ∙ ap (λ (w : Walk). w.ending) (
          head_value (walk_from rows limit) rows limit at around head rest c len parent kind o.whole i.fault i.inside i.told value
          ∙ ap (λ n. at_payload (walk_from rows limit) at around c kind n rest) long
          ∙ ap (at_payload (walk_from rows limit) at around c kind (length part)) joined
          ∙ payload_done (walk_from rows limit) at around c kind part later v (length part) is refl
          )
          ∙ ap (λ n. (walk_from rows limit n around later).ending) (let same : length (leaf_payload l) ≡ length part = ap length again in omega arith);
      only = λ u more room said.
          let b = opened u more o room.told said in
          let mine : part ≡ payload u = front ∙ ap (take len) b.left ∙ ap (λ n. take n (payload u ++ more)) b.count ∙ take-append_seam (payload u) more in (
            value_only rows (parent_of around) kind u (kind_of u i b.code) value room.fit room.proper
                ∙ ap (λ x. leaf x (leaf_at kind (payload u))) (sym b.code) ∙ ap (λ p. leaf c (leaf_at kind p)) (sym mine),
            sym (back ∙ ap (drop len) b.left ∙ ap (λ n. drop n (payload u ++ more)) b.count ∙ drop-append_seam (payload u) more),
          );
    })
  where
    l : Leaf
    l = leaf_at kind part

    t : Tree
    t = leaf c l

    again : leaf_payload l ≡ part
    again = payload_back kind part small

    long : len ≡ length part
    long = sym (ap length front ∙ length-take len rest ∙ (omega arith))

    count : len ≡ length (payload t)
    count = long ∙ ap length (sym again)

    joined : rest ≡ part ++ later
    joined = sym (take-append-drop len rest) ∙ ap (λ p. p ++ drop len rest) (sym front) ∙ ap (λ p. part ++ p) (sym back)

    left : rest ≡ payload t ++ later
    left = joined ∙ ap (λ p. p ++ later) (sym again)

-- how the walk from a place on ends, by the lists that are open after it
abbrev pub ending_in : List CodeRow → ℕ → ℕ → List ℕ → List Container → Ending
ending_in rows limit at bytes around = (if is_short at around then ends (broken (ShortHead at)) else at_head (walk_from rows limit) rows limit at around bytes).ending

pub place_ends : (rows : List CodeRow) (limit at : ℕ) (around : List Container) (bytes : List ℕ) → (walk_from rows limit at around bytes).ending ≡ ending_in rows limit at bytes (open_after at around)
unfolding at_place
place_ends rows limit at around bytes = ap (λ (w : Walk). w.ending) (walk_on rows limit at around bytes)

-- a list that ends at the place is closed there
pub closed : (rows : List CodeRow) (limit at : ℕ) (c : Container) (around : List Container) (bytes : List ℕ) → at ≡ c.end → (walk_from rows limit at (c ∷ around) bytes).ending ≡ (walk_from rows limit at around bytes).ending
closed rows limit at c around bytes is =
    place_ends rows limit at (c ∷ around) bytes
    ∙ ap (ending_in rows limit at bytes) (cond-true (c.end == at) _ _ (eq-eqb c.end at (sym is)))
    ∙ sym (place_ends rows limit at around bytes)

pub list_kind : (k : Kind) → is_list k ≡ true → k ≡ kind.List
list_kind kind.U8 h = absurd (cc)
list_kind kind.I8 h = absurd (cc)
list_kind kind.U16 h = absurd (cc)
list_kind kind.I16 h = absurd (cc)
list_kind kind.U32 h = absurd (cc)
list_kind kind.I32 h = absurd (cc)
list_kind kind.U64 h = absurd (cc)
list_kind kind.I64 h = absurd (cc)
list_kind kind.Text h = absurd (cc)
list_kind kind.Date h = absurd (cc)
list_kind kind.Version h = absurd (cc)
list_kind kind.List h = refl
list_kind kind.Opaque h = absurd (cc)

-- no value has a list's kind
pub no_value : (l : Leaf) → leaf_fits kind.List l ≡ false
no_value (tree.U8 n) = refl
no_value (tree.I8 z) = refl
no_value (tree.U16 n) = refl
no_value (tree.I16 z) = refl
no_value (tree.U32 n) = refl
no_value (tree.I32 z) = refl
no_value (tree.U64 n) = refl
no_value (tree.I64 z) = refl
no_value (tree.Text bytes) = refl
no_value (tree.Date n) = refl
no_value (tree.Version n) = refl
no_value (tree.Opaque bytes) = refl

-- a tag that fits, if the kind is a list's, is a list of the tags in its payload
list_only : (rows : List CodeRow) (limit at : ℕ) (around : List Container) (kind : Kind) (u : Tree) → kind_in rows (parent_of around) (tree_code u) ≡ kind → is_list kind ≡ true → IsRoomFor rows limit at around u →
    (us : Trees) × (u ≡ list (tree_code u) us) × AreRest rows (at + 8) (container (tree_code u) at (length (payload u)) ∷ around) (tree_code u) us
list_only rows limit at around kind (leaf c l) told holds room =
    absurd (let bad : false ≡ true = sym (no_value l) ∙ ap (λ k. leaf_fits k l) (sym (list_kind kind holds) ∙ sym told) ∙ room.fit in cc)
list_only rows limit at around kind (list c ts) told holds room = (
  ts,
  refl,
  record {
    list = refl;
    fit = (and_parts _ _ room.fit).1;
    proper = room.proper;
    deep = let d = room.deep in omega arith;
    told = room.told;
    ends = refl;
  },
)

pub list_read : (rows : List CodeRow) (limit at : ℕ) (around : List Container) (bytes head rest later : List ℕ) (c : Four) (len : ℕ) (parent : Option Four) (kind : Kind) (ts : Trees) →
    Opens bytes head rest c len → Enters rows limit at around c len parent kind → is_list kind ≡ true →
    ReadsRest rows limit (at + 8) (container c at len ∷ around) rest ts later → ReadsTag rows limit at around bytes (list c ts) later
list_read rows limit at around bytes head rest later c len parent kind ts o i holds r =
    record {
      spelled = o.split ∙ spelled head rest later c len t o.whole o.small refl count r.spelled;
      fit = and_from _ _ (ap is_list (kind_of t i refl) ∙ holds) (r.fit c refl);
      proper = r.proper;
      deep = let d = r.deep in omega arith;
      room = ap (fault_at limit at around c) (sym count) ∙ sym i.fault;
      goes = ap (λ b. (at_head (walk_from rows limit) rows limit at around b).ending) o.split
          ∙ ap (λ (w : Walk). w.ending) (head_list (walk_from rows limit) rows limit at around head rest c len parent kind o.whole i.fault i.inside i.told holds)
          ∙ r.goes
          ∙ closed rows limit (at + 8 + len) (container c at len) around later refl
          ∙ ap (λ n. (walk_from rows limit n around later).ending) (omega arith);
      only = λ u more room said.
          let b = opened u more o room.told said in
          let n = list_only rows limit at around kind u (kind_of u i b.code) holds room in
          let mine : AreRest rows (at + 8) (container c at len ∷ around) c n.0 = subst (λ x. AreRest rows (at + 8) (container x at len ∷ around) x n.0) (sym b.code) (subst (λ x. AreRest rows (at + 8) (container (tree_code u) at x ∷ around) (tree_code u) n.0) (sym b.count) n.2) in
          let same = r.only c n.0 more mine (b.left ∙ ap (λ x. payload x ++ more) n.1) in (
            n.1 ∙ ap (λ x. list x n.0) (sym b.code) ∙ ap (list c) same.0,
            same.1,
          );
    }
  where
    t : Tree
    t = list c ts

    count : len ≡ length (payload t)
    count = let e = r.ends in omega arith

pub list_refused : (rows : List CodeRow) (limit total at : ℕ) (around : List Container) (bytes head rest : List ℕ) (c : Four) (len : ℕ) (parent : Option Four) (kind : Kind) (e : StreamError) →
    Opens bytes head rest c len → Enters rows limit at around c len parent kind → is_list kind ≡ true →
    RefusesRest rows limit total (at + 8) (container c at len ∷ around) rest e → RefusesTag rows limit total at around bytes e
list_refused rows limit total at around bytes head rest c len parent kind e o i holds r = record {
  tells = λ known.
      r.tells known
      ∙ sym (
      ap (λ b. refusal total (at_head (walk_from rows limit) rows limit at around b).ending) o.split
      ∙ ap (λ (w : Walk). refusal total w.ending) (head_list (walk_from rows limit) rows limit at around head rest c len parent kind o.whole i.fault i.inside i.told holds)
      );
  never = λ u more room said.
      let b = opened u more o room.told said in
      let n = list_only rows limit at around kind u (kind_of u i b.code) holds room in
      let mine : AreRest rows (at + 8) (container c at len ∷ around) c n.0 = subst (λ x. AreRest rows (at + 8) (container x at len ∷ around) x n.0) (sym b.code) (subst (λ x. AreRest rows (at + 8) (container (tree_code u) at x ∷ around) (tree_code u) n.0) (sym b.count) n.2) in
      r.never c n.0 more mine (b.left ∙ ap (λ x. payload x ++ more) n.1);
}

-- at the beginning of all bytes
top_ends : (rows : List CodeRow) (limit : ℕ) (bytes : List ℕ) → (walk_from rows limit 0 [] bytes).ending ≡ (at_head (walk_from rows limit) rows limit 0 [] bytes).ending
top_ends rows limit bytes = place_ends rows limit 0 [] bytes

within_limit : (limit at len : ℕ) (b : Bool) → nat_lt limit len ≡ b → (if b then Some (TooLarge at) else None) ≡ None → len ≤ limit
within_limit limit at len true is h = absurd (cc)
within_limit limit at len false is h = ltb-false limit len is

-- a top tag that was read is accepted
pub accepted : (rows : List CodeRow) (limit at : ℕ) (bytes : List ℕ) (t : Tree) (rest : List ℕ) → ReadsTag rows limit at [] bytes t rest → is_accepted rows limit t ≡ true
accepted rows limit at bytes t rest r =
    and_from _ _ r.fit (and_from _ _ (le-leb (levels t) 32 (let d = r.deep in omega arith)) (le-leb (length (payload t)) limit (within_limit limit at (length (payload t)) _ refl r.room)))

-- the first top tag, and the number of its bytes
pub record IsFound (rows : List CodeRow) (limit : ℕ) (bytes : List ℕ) (t : Tree) (n : ℕ) : Type 0 where
  pub within : n ≤ length bytes
  pub spells : take n bytes ≡ spelling t
  pub fine : is_accepted rows limit t ≡ true
  pub proper : IsProperTag t

pub count : (bytes : List ℕ) (t : Tree) (rest : List ℕ) → bytes ≡ spelling t ++ rest → length bytes - length rest ≡ length (spelling t)
count bytes t rest is = let long : length bytes ≡ length (spelling t ++ rest) = ap length is in omega (arith, length-append (payload t) rest)

pub found : (rows : List CodeRow) (limit : ℕ) (bytes : List ℕ) (t : Tree) (rest : List ℕ) → ReadsTag rows limit 0 [] bytes t rest → IsFound rows limit bytes t (length bytes - length rest)
found rows limit bytes t rest r = record {
  within = omega arith;
  spells = ap (λ n. take n bytes) (count bytes t rest r.spelled) ∙ ap (take (length (spelling t))) r.spelled ∙ take-append_seam (spelling t) rest;
  proper = r.proper;
  fine = accepted rows limit 0 bytes t rest r;
}

pub room_at_top : (rows : List CodeRow) (limit at : ℕ) (t : Tree) → limit < 2 ^ 32 → is_accepted rows limit t ≡ true → IsProperTag t → IsRoomFor rows limit at [] t
room_at_top rows limit at t small h proper =
    let parts = and_parts (fits rows None t) (nat_le (levels t) 32 && nat_le (length (payload t)) limit) h in
    let rest = and_parts (nat_le (levels t) 32) (nat_le (length (payload t)) limit) parts.1 in
    let deep : levels t ≤ 32 = leb-true (levels t) 32 rest.0 in
    let less : length (payload t) ≤ limit = leb-true (length (payload t)) limit rest.1 in
    record {
      fit = parts.0;
      proper = proper;
      deep = omega arith;
      told = omega arith;
      room = cond-false (nat_lt limit (length (payload t))) _ _ (le-ltb limit (length (payload t)) less);
    }

pub top_refused : (rows : List CodeRow) (limit total : ℕ) (bytes : List ℕ) (e : StreamError) → RefusesTag rows limit total 0 [] bytes e → e ≢ Memory → e ≡ refusal total (walk_from rows limit 0 [] bytes).ending
top_refused rows limit total bytes e r known = r.tells known ∙ sym (ap (refusal total) (top_ends rows limit bytes))
