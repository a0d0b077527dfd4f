-- What is shown of batches if other versions are read.
use Rattle.std.proofs.Common.{◌≡◌, ◌≤◌, ◌-◌, ℕ, Bool, true, false, ◌&&◌, List, [], ◌∷◌, ◌++◌, drop, Option, Some, None, min, refl, sym, ap, subst, ◌∙◌, ⊎_elim, true≢false, arith}
use Rattle.std.specs.Prelude.{nat_lt}
use Rattle.std.specs.Option.{option_map}
use Rattle.std.specs.List.{list_any}
use Rattle.std.proofs.lemmas.Bool.{cases_Bool, cases_lt, le-ltb, ltb-false}
use Rattle.std.proofs.lemmas.List.{drop_all, drop-append-le}
use Rattle.std.proofs.Math.Nat.{min-eq_left, le-min}
use Rattle.std.proofs.Math.Bool.{and-false}
use Rattle.item_model.specs.declared.changes.Edit.{Edit}
use Rattle.share_history.specs.Numbers.{first_revision}
use Rattle.share_history.specs.Histories.{edits, revision, up_to, later}
use Rattle.share_history.specs.LastSaid.{Playlist, Plain, Ruled, list_at, member_at}
use Rattle.share_history.specs.Named.{names_list}
use Rattle.share_history.proofs.EditFacts.{edits_more, up_to-all}
use Rattle.playlist_store.specs.declared.kept.ListVersion.{ListVersion}
use Rattle.playlist_store.specs.Words.{head_of, standing}
use Rattle.playlist_store.specs.Lists.{head_in, since_of, member_in, near_in, names_key}
use Rattle.playlist_store.specs.Stands.{Shows}
use Rattle.playlist_store.specs.Changes.{is_plain, Prunes}

-- ---- batches up to a revision

pub later_none : (bs : List (List Edit)) (v : ℕ) → revision bs ≤ v → later bs v ≡ []
later_none bs v h = ap edits (drop_all (v - first_revision) bs (omega (arith, h)))

pub later_more : (bs : List (List Edit)) (batch : List Edit) (v : ℕ) → v ≤ revision bs → later (bs ++ batch ∷ []) v ≡ later bs v ++ batch
later_more bs batch v h = ap edits (drop-append-le (v - first_revision) bs (batch ∷ []) (omega (arith, h))) ∙ edits_more (drop (v - first_revision) bs) batch

pub up_to_least : (bs : List (List Edit)) (base v : ℕ) → revision bs ≤ v → up_to bs (min base v) ≡ up_to bs base
up_to_least bs base v le =
    ⊎_elim
    (λ below. ap (up_to bs) (min-eq_left (let le : base ≤ v = omega (arith, below) in le)))
    (λ above. up_to-all bs (min base v) (omega (arith, le, le-min {k = v} {a = base} {b = v} above (omega arith))) ∙ sym (up_to-all bs base (omega (arith, le, above))))
    (cases_lt base v)

-- ---- the items under the keys of each kind of list

pub plain_is : (l : Option Playlist) → is_plain (option_map head_of l) ≡ true → (name : List ℕ) × (l ≡ Some (Plain name))
plain_is None h = absurd (true≢false (sym h))
plain_is (Some (Plain name)) h = (name, refl)
plain_is (Some (Ruled name rule)) h = absurd (true≢false (sym h))

pub standing_plain : (l : Option Playlist) (es : List Edit) (c key : ℕ) → is_plain (option_map head_of l) ≡ true → standing l es c key ≡ member_at es c key
standing_plain l es c key h = ap (λ o. standing o es c key) (plain_is l h).1

pub no_head : (l : Option Playlist) → option_map head_of l ≡ None → l ≡ None
no_head None h = refl
no_head (Some l) h = absurd (cc)

-- ---- readings

-- from which earlier value a value is read
pub record Source (bs : List (List Edit)) (more : List Edit) (low c key base : ℕ) (new old : Option ListVersion) : Type 0 where
  pub from : ℕ
  pub same : member_in new key base ≡ member_in old key from
  pub reached : low ≤ from
  pub since : since_of old ≤ from
  pub left : (nat_lt (revision bs) from && list_any (names_key (head_in old) c key) more) ≡ false
  pub until : up_to bs from ≡ up_to bs base

-- other versions with the same reads show the same batches
pub shows_moved : (bs : List (List Edit)) (more more' : List Edit) (low : ℕ) (read read' : ℕ → Option ListVersion) → Shows bs more low read
    → ((c : ℕ) → head_in (read' c) ≡ head_in (read c)) → ((c : ℕ) → since_of (read' c) ≡ since_of (read c))
    → ((c item key : ℕ) → near_in (read c) item key ≡ true → near_in (read' c) item key ≡ true)
    → ((c key base : ℕ) → low ≤ base → since_of (read c) ≤ base → (nat_lt (revision bs) base && list_any (names_key (head_in (read c)) c key) more') ≡ false
    → Source bs more low c key base (read' c) (read c))
    → Shows bs more' low read'
shows_moved bs more more' low read read' h head since near moved = record {
  heads = λ c. head c ∙ h.heads c;
  since = λ c base le. h.since c base le ∙ ap (nat_lt base) (sym (since c));
  members = λ c key base le put left.
      let s = moved c key base le (subst (λ n. n ≤ base) (since c) put) (ap (λ x. nat_lt (revision bs) base && list_any (names_key x c key) more') (sym (head c)) ∙ left) in
      s.same ∙ h.members c key s.from s.reached s.since s.left ∙ ap (λ cs. standing (list_at (edits bs) c) (edits cs) c key) s.until;
  near = λ c key item name is member. near c item key (h.near c key item name is member);
}

-- a list came by the last revision
pub since_shown : (bs : List (List Edit)) (more : List Edit) (low : ℕ) (read : ℕ → Option ListVersion) → Shows bs more low read → low ≤ revision bs → (c : ℕ) → since_of (read c) ≤ revision bs
since_shown bs more low read h le c =
    ltb-false (revision bs) (since_of (read c)) (sym (h.since c (revision bs) le) ∙ ap (list_any (names_list c)) (later_none bs (revision bs) (omega arith)))

-- one that edits since a revision don't name came by the revision
pub since_by : (bs : List (List Edit)) (more : List Edit) (low : ℕ) (read : ℕ → Option ListVersion) → Shows bs more low read → (c base : ℕ) → low ≤ base
    → list_any (names_list c) (later bs base) ≡ false → since_of (read c) ≤ base
since_by bs more low read h c base le un = ltb-false base (since_of (read c)) (sym (h.since c base le) ∙ un)

pub left_at_once : (v base : ℕ) (b : Bool) → base ≤ v → (nat_lt v base && b) ≡ false
left_at_once v base b le = ap (λ x. x && b) (le-ltb v base le)

pub left_unnamed : (v base : ℕ) (b : Bool) → b ≡ false → (nat_lt v base && b) ≡ false
left_unnamed v base b un = ap (λ x. nat_lt v base && x) un ∙ and-false (nat_lt v base)

-- what is left at a base is left at a lower one
pub left_below : (v base lower : ℕ) (b : Bool) → lower ≤ base → (nat_lt v base && b) ≡ false → (nat_lt v lower && b) ≡ false
left_below v base lower b le h =
    ⊎_elim
    (λ named. left_at_once v lower b (let le' : lower ≤ v = omega (arith, le, ltb-false v base (sym (and_true (nat_lt v base)) ∙ ap (λ x. nat_lt v base && x) (sym named) ∙ h)) in le'))
    (λ un. left_unnamed v lower b un)
    (cases_Bool b)
  where
    and_true : (x : Bool) → (x && true) ≡ x
    and_true true = refl
    and_true false = refl

-- what is pruned shows the same from the low revision on
pub shows_pruned : (bs : List (List Edit)) (more : List Edit) (low low' : ℕ) (read read' : ℕ → Option ListVersion) → low ≤ low' → low' ≤ revision bs → Shows bs more low read
    → ((c : ℕ) → Prunes low' (read c) (read' c)) → Shows bs more low' read'
shows_pruned bs more low low' read read' le few h p = record {
  heads = λ c. (p c).head ∙ h.heads c;
  since = λ c base from. h.since c base (omega (arith, le, from)) ∙ sym ((p c).since base from);
  members = λ c key base from put left.
      let was : since_of (read c) ≤ base = ltb-false base (since_of (read c)) (sym ((p c).since base from) ∙ le-ltb base (since_of (read' c)) put) in
      let left' : (nat_lt (revision bs) base && list_any (names_key (head_in (read c)) c key) more) ≡ false =
      ap (λ x. nat_lt (revision bs) base && list_any (names_key x c key) more) (sym (p c).head) ∙ left in
      ⊎_elim
      (λ same. same ∙ h.members c key base (omega (arith, le, from)) was left')
      (λ gone. gone.0 ∙ sym (ap (λ o. standing o (edits (up_to bs base)) c key) (no_head (list_at (edits bs) c) (sym (h.heads c) ∙ gone.1))))
      ((p c).members key base from);
  near = λ c key item name is member.
      let plain : is_plain (head_in (read c)) ≡ true = ap is_plain (h.heads c) ∙ ap (λ o. is_plain (option_map head_of o)) is in
      let now : member_in (read c) key (revision bs) ≡ Some item =
      h.members c key (revision bs) (omega (arith, le, few)) (since_shown bs more low read h (omega (arith, le, few)) c)
      (left_at_once (revision bs) (revision bs) (list_any (names_key (head_in (read c)) c key) more) (omega arith))
      ∙ ap (λ o. standing o (edits (up_to bs (revision bs))) c key) is
      ∙ ap (λ cs. member_at (edits cs) c key) (up_to-all bs (revision bs) (omega arith))
      ∙ member in
      (p c).near item key (revision bs) few plain now (h.near c key item name is member);
}
