-- Loops over lists and their keys, and what is taken back.
use Rattle.std.proofs.Common.{◌≡◌, ◌≤◌, ◌<◌, ◌+◌, ◌-◌, ℕ, Bool, true, false, cond, ◌||◌, ◌&&◌, ◌==◌, List, [], ◌∷◌, length, take, get_or, Option, Some, None, min, refl, sym, ap, subst, ◌∙◌, ⊎_elim, true≢false, eqb-true, arith}
use Rattle.std.specs.Prelude.{IfNone}
use Rattle.std.specs.List.{list_any}
use Rattle.std.proofs.lemmas.Bool.{cases_Bool, cases_lt}
use Rattle.std.proofs.lemmas.List.{take_more}
use Rattle.std.proofs.lemmas.List.Folds.{list_any-append}
use Rattle.std.proofs.Math.Nat.{min-le_right, min-eq_left}
use Rattle.std.proofs.Math.Bool.{or-false}
use Rattle.key_versions.specs.Held.{at, value_at, is_among, behind}
use Rattle.playlist_store.specs.declared.kept.ListVersion.{ListVersion}
use Rattle.playlist_store.specs.declared.kept.ListHistory.{ListHistory}
use Rattle.playlist_store.specs.Names.{Names}
use Rattle.playlist_store.specs.Lists.{Lists, top, list_in, since_of, has_rule}
use Rattle.playlist_store.specs.Changes.{InPlace, ChangesOne, Everywhere, ReturnsAt, Returns, ReturnsMembers, ReturnsItems, ReturnsNamed, Pops, PopsOne, TakesBack, found_of, now_of, is_member_among}
use Rattle.playlist_store.proofs.KeptFacts.{in_place_refl, in_place_then, in_place_from, in_place_to}

-- ---- lists by their ids in turn

apart : (a b : ℕ) → a < b → (b == a) ≡ false
apart a b h = ⊎_elim (λ same. absurd (let e : b ≡ a = eqb-true b a same in omega (arith, h, e))) (λ other. other) (cases_Bool (b == a))

apart_up : (a b : ℕ) → a < b → (a == b) ≡ false
apart_up a b h = ⊎_elim (λ same. absurd (let e : a ≡ b = eqb-true a b same in omega (arith, h, e))) (λ other. other) (cases_Bool (a == b))

module _ (R : ListVersion → ListVersion → Type 0) (old mid : Lists) (last : Option ℕ) (passed : (c : ℕ) → c < behind last → InPlace R (at c old) (at c mid))
    (rest : (c : ℕ) → behind last ≤ c → at c mid ≡ at c old) where
  pub passed_more : (new : Lists) (id : ℕ) → behind last ≤ id → ((q : ℕ) → behind last ≤ q → q < id → at q mid ≡ None) → ChangesOne id R mid new
      → (c : ℕ) → c < behind (Some id) → InPlace R (at c old) (at c new)
  passed_more new id up between one c lt =
      ⊎_elim
      (λ before. in_place_to R (at c old) (at c mid) (at c new) (one.others c (apart c id (omega (arith, before, up)))) (passed c before))
      (λ from.
      ⊎_elim
      (λ short.
      let none : at c mid ≡ None = between c from short in
      subst (λ x. InPlace R x (at c new)) (sym none ∙ rest c from) (one.others c (apart c id short) ∙ none))
      (λ here.
      let is : id ≡ c = omega (arith, lt, here) in
      in_place_from R (at c old) (at c mid) (at c new) (rest c from) (subst (λ k. InPlace R (at k mid) (at k new)) is one.here))
      (cases_lt c id))
      (cases_lt c (behind last))

  pub rest_more : (new : Lists) (id : ℕ) → behind last ≤ id → ChangesOne id R mid new → (c : ℕ) → behind (Some id) ≤ c → at c new ≡ at c old
  rest_more new id up one c le = one.others c (apart_up id c (omega (arith, le))) ∙ rest c (omega (arith, le, up))

  pub passed_all : ((q : ℕ) → behind last ≤ q → at q mid ≡ None) → Everywhere R old mid
  passed_all none c =
      ⊎_elim
      (λ before. passed c before)
      (λ from. subst (λ x. InPlace R x (at c mid)) (sym (none c from) ∙ rest c from) (none c from))
      (cases_lt c (behind last))

-- a change of each list, and then of one
pub everywhere_then : (R : ListVersion → ListVersion → Type 0) → ((k : ListVersion) → R k k) → ((a b c : ListVersion) → R a b → R b c → R a c) → (c : ℕ) (old mid new : Lists) → Everywhere R old mid → ChangesOne c R mid new
    → Everywhere R old new
everywhere_then R same join c old mid new p one q =
    ⊎_elim
    (λ is. in_place_then {R = R} {S = R} {T = R} join (at q old) (at q mid) (at q new) (p q) (subst (λ k. InPlace R (at k mid) (at k new)) (eqb-true c q is) one.here))
    (λ other. in_place_to R (at q old) (at q mid) (at q new) (one.others q other) (p q))
    (cases_Bool (c == q))

-- ---- keys among some

pub any_next : {X : Type 0} (p : X → Bool) (xs : List X) (i : ℕ) (x : X) → i < length xs → x ≡ get_or xs i x → list_any p (take (i + 1) xs) ≡ (list_any p (take i xs) || p x)
any_next p xs i x lt is =
    ap (list_any p) (take_more xs i x lt) ∙ list_any-append p (take i xs) (get_or xs i x ∷ [])
    ∙ ap (λ y. list_any p (take i xs) || (p y || false)) (sym is) ∙ ap (λ b. list_any p (take i xs) || b) (or-false (p x))

-- ---- keys that are as they were

pub returns_same : (n : ℕ) (picks : ℕ → Bool) (k : ListVersion) → ((key : ℕ) → picks key ≡ false) → Returns n picks k k
returns_same n picks k none = record {
  since = refl;
  head = refl;
  near = λ item key. refl;
  members = λ key base. sym (ap (λ b. value_at k.members key (cond b (min base (n - 1)) base)) (none key));
}

pub returns_then : (n : ℕ) (p q r : ℕ → Bool) (a b c : ListVersion) → ((key : ℕ) → r key ≡ (p key || q key)) → Returns n p a b → Returns n q b c → Returns n r a c
returns_then n p q r a b c both s t = record {
  since = t.since ∙ s.since;
  head = t.head ∙ s.head;
  near = λ item key. t.near item key ∙ s.near item key;
  members = λ key base.
      t.members key base ∙ s.members key (cond (q key) (min base (n - 1)) base)
      ∙ ap (value_at a.members key) (twice (p key) (q key) base ∙ ap (λ b. cond b (min base (n - 1)) base) (sym (both key)));
}
  where
    twice : (x y : Bool) (base : ℕ) → cond x (min (cond y (min base (n - 1)) base) (n - 1)) (cond y (min base (n - 1)) base) ≡ cond (x || y) (min base (n - 1)) base
    twice true true base = min-eq_left (min-le_right base (n - 1))
    twice true false base = refl
    twice false y base = refl

member_next : (c k q key : ℕ) → (c == q) ≡ true → ((c == q) && (k == key)) ≡ (k == key)
member_next c k q key is = ap (λ b. b && (k == key)) is

-- one member more is as it was
pub members_more : (n : ℕ) (members : List (ℕ × ℕ)) (i c key : ℕ) (m : ℕ × ℕ) (old mid new : Lists) → i < length members → m ≡ get_or members i m → m.0 ≡ c → m.1 ≡ key
    → ReturnsAt (ReturnsMembers n (take i members)) old mid → ChangesOne c (λ a b. Returns n (λ k. key == k) a b) mid new
    → ReturnsAt (ReturnsMembers n (take (i + 1) members)) old new
members_more n members i c key m old mid new lt is list at_key p one q =
    let next : (k : ℕ) → is_member_among q k (take (i + 1) members) ≡ (is_member_among q k (take i members) || ((c == q) && (key == k))) = λ k.
    any_next (λ m. (m.0 == q) && (m.1 == k)) members i m lt is ∙ ap (λ x. is_member_among q k (take i members) || ((x == q) && (m.1 == k))) list
    ∙ ap (λ x. is_member_among q k (take i members) || ((c == q) && (x == k))) at_key in
    ⊎_elim
    (λ here.
    in_place_then {R = ReturnsMembers n (take i members) q} {S = λ a b. Returns n (λ k. key == k) a b} {T = ReturnsMembers n (take (i + 1) members) q}
    (λ a b d s t. returns_then n (λ k. is_member_among q k (take i members)) (λ k. key == k) (λ k. is_member_among q k (take (i + 1) members)) a b d
    (λ k. next k ∙ ap (λ x. is_member_among q k (take i members) || x) (member_next c key q k here)) s t)
    (at q old) (at q mid) (at q new) (p q) (subst (λ k. InPlace (λ a b. Returns n (λ k. key == k) a b) (at k mid) (at k new)) (eqb-true c q here) one.here))
    (λ other.
    in_place_then {R = ReturnsMembers n (take i members) q} {S = λ a b. b ≡ a} {T = ReturnsMembers n (take (i + 1) members) q}
    (λ a b d s t.
    returns_then n (λ k. is_member_among q k (take i members)) (λ k. false) (λ k. is_member_among q k (take (i + 1) members)) a b d
    (λ k. next k ∙ ap (λ x. is_member_among q k (take i members) || (x && (key == k))) other) s
    (subst (λ d. Returns n (λ k. false) b d) (sym t) (returns_same n (λ k. false) b (λ k. refl))))
    (at q old) (at q mid) (at q new) (p q) (in_place_to (λ a b. b ≡ a) (at q mid) (at q mid) (at q new) (one.others q other) (in_place_refl (λ a b. b ≡ a) (λ k. refl) (at q mid))))
    (cases_Bool (c == q))

-- members, and then items
pub named_both : (n : ℕ) (names : Names) (old mid new : Lists) → ReturnsAt (ReturnsMembers n names.members) old mid → Everywhere (ReturnsItems n names.items) mid new
    → ReturnsAt (ReturnsNamed n names) old new
named_both n names old mid new p q c =
    in_place_then {R = ReturnsMembers n names.members c} {S = ReturnsItems n names.items} {T = ReturnsNamed n names c}
    (λ a b d s t.
    returns_then n (λ k. is_member_among c k names.members) (λ k. has_rule b.head && is_among k names.items) (λ k. is_member_among c k names.members || (has_rule a.head && is_among k names.items)) a b d
    (λ k. ap (λ h. is_member_among c k names.members || (has_rule h && is_among k names.items)) (sym s.head)) s t)
    (at c old) (at c mid) (at c new) (p c) (q c)

pub named_members : (n : ℕ) (names : Names) (old mid : Lists) → names.items ≡ [] → ReturnsAt (ReturnsMembers n names.members) old mid → ReturnsAt (ReturnsNamed n names) old mid
named_members n names old mid none p c =
    in_place_then {R = ReturnsMembers n names.members c} {S = λ a b. b ≡ a} {T = ReturnsNamed n names c}
    (λ a b d s t.
    subst (λ d. ReturnsNamed n names c a d) (sym t)
    (returns_then n (λ k. is_member_among c k names.members) (λ k. false) (λ k. is_member_among c k names.members || (has_rule a.head && is_among k names.items)) a b b
    (λ k. ap (λ items. is_member_among c k names.members || (has_rule a.head && is_among k items)) none ∙ ap (λ x. is_member_among c k names.members || x) (nothing (has_rule a.head)))
    s (returns_same n (λ k. false) b (λ k. refl))))
    (at c old) (at c mid) (at c mid) (p c) (in_place_refl (λ a b. b ≡ a) (λ k. refl) (at c mid))
  where
    nothing : (b : Bool) → (b && false) ≡ false
    nothing true = refl
    nothing false = refl

-- ---- lists that are taken back

pub pops_none : (n : ℕ) (old : Lists) → Pops n [] old old
pops_none n old = record { below = λ c v lt. refl; popped = λ c named. absurd (true≢false (sym named)); others = λ c un. refl }

pub pops_more : (n : ℕ) (ids : List ℕ) (i id : ℕ) (old mid new : Lists) → 1 ≤ n → i < length ids → id ≡ get_or ids i id → Pops n (take i ids) old mid
    → PopsOne n (at id mid) (at id new) → ((q : ℕ) → (id == q) ≡ false → at q new ≡ at q mid) → Pops n (take (i + 1) ids) old new
pops_more n ids i id old mid new some lt is p here others = record {
  below = λ c v less.
      ⊎_elim
      (λ same. subst (λ k. list_in new k v ≡ list_in mid k v) (eqb-true id c same) (seen (at id mid) (at id new) here v less))
      (λ other. ap (λ x. found_of x v) (others c other))
      (cases_Bool (id == c))
      ∙ p.below c v less;
  popped = λ c named.
      ⊎_elim
      (λ same. subst (λ k. since_of (top new k) < n) (eqb-true id c same) (gone (at id mid) (at id new) here))
      (λ other.
      subst (λ x. since_of (now_of x) < n) (sym (others c other))
      (p.popped c (first (is_among c (take i ids)) (id == c) other (sym (any_next (λ k. k == c) ids i id lt is) ∙ named))))
      (cases_Bool (id == c));
  others = λ c un.
      let parts = sym (any_next (λ k. k == c) ids i id lt is) ∙ un in
      others c (second (is_among c (take i ids)) (id == c) parts) ∙ p.others c (neither (is_among c (take i ids)) (id == c) parts);
}
  where
    seen : (x y : Option ListHistory) → PopsOne n x y → (v : ℕ) → v < n → found_of y v ≡ found_of x v
    seen x None h v less = sym (h v less)
    seen x (Some l) h v less = sym (h.0 v less)

    gone : (x y : Option ListHistory) → PopsOne n x y → since_of (now_of y) < n
    gone x None h = omega (arith, some)
    gone x (Some l) h = h.1

    first : (a b : Bool) → b ≡ false → (a || b) ≡ true → a ≡ true
    first true b un h = refl
    first false b un h = absurd (true≢false (sym h ∙ un))

    second : (a b : Bool) → (a || b) ≡ false → b ≡ false
    second true b h = absurd (true≢false h)
    second false b h = h

    neither : (a b : Bool) → (a || b) ≡ false → a ≡ false
    neither true b h = absurd (true≢false h)
    neither false b h = refl

-- for the case of no next list
pub none_of : (o : Option ℕ) (P : Type 0) → ((x : ℕ) → o ≡ Some x → ⊥) → IfNone o P → P
none_of None P none h = h
none_of (Some x) P none h = absurd (none x refl)

-- ---- what a batch names, taken back whole

no_items : (items : List ℕ) (len : ℕ) (empty : Bool) → length items ≡ len → empty ≡ (len == 0) → empty ≡ true → items ≡ []
no_items [] len empty counted is none = refl
no_items (x ∷ xs) len empty counted is none = absurd (let e : len ≡ 0 = eqb-true len 0 (sym is ∙ none) in omega (arith, counted, e))

module _ (n : ℕ) (names : Names) (old mid members : Lists) (ids : List ℕ) (keys : List (ℕ × ℕ)) (lists_are : ids ≡ names.lists) (members_are : keys ≡ names.members)
    (pops : Pops n ids old mid) (returns : ReturnsAt (ReturnsMembers n keys) mid members) where
  pub members_back : (items : List ℕ) (len : ℕ) (empty : Bool) → items ≡ names.items → length items ≡ len → empty ≡ (len == 0) → empty ≡ true → TakesBack n names old members
  members_back items len empty same counted is none = record {
    mid = mid;
    pops = subst (λ xs. Pops n xs old mid) lists_are pops;
    returns = named_members n names mid members (sym same ∙ no_items items len empty counted is none) (subst (λ xs. ReturnsAt (ReturnsMembers n xs) mid members) members_are returns);
  }

  pub all_back : (new : Lists) (items : List ℕ) → items ≡ names.items → Everywhere (ReturnsItems n items) members new → TakesBack n names old new
  all_back new items same back = record {
    mid = mid;
    pops = subst (λ xs. Pops n xs old mid) lists_are pops;
    returns =
        named_both n names mid members new (subst (λ xs. ReturnsAt (ReturnsMembers n xs) mid members) members_are returns)
        (subst (λ xs. Everywhere (ReturnsItems n xs) members new) same back);
  }
