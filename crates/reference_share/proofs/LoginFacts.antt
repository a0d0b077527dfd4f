-- The login of a session among the remaining entries, and the bounds of a history within its limits.
use Rattle.std.proofs.Common.{◌≡◌, true, nat_lt, nat_le, ltb-true, leb-true, arith, ℕ, Bool, ◌+◌, ◌<◌, ◌++◌, append_assoc, take, [], ◌∷◌, sym, ◌∙◌, length, get_or, drop, cond, count_by, List, ap, Some}
use Rattle.item_model.specs.declared.changes.Entry.{Entry}
use Rattle.share_history.specs.Histories.{batches, all_edits, revision}
use Rattle.share_history.specs.Limits.{is_limited, is_below_entry_limit, has_room_for}
use Rattle.share_history.specs.Numbers.{most_entries, most_edits}
use Rattle.share_history.specs.Marks.{until_login}
use Rattle.share_history.specs.Sessions.{is_login_of, after_login}
use Rattle.std.proofs.lemmas.List.{take_more}
use Rattle.share_history.proofs.EditFacts.{drop_more}
use Rattle.share_history.proofs.FoldFacts.{fold-append}
use Rattle.share_history.proofs.SessionFacts.{few_batches}

pub login_left : (id : ℕ) (h : List Entry) (i : ℕ) (e : Entry) → i < length h → e ≡ get_or h i e
    → after_login id (drop i h) ≡ cond (is_login_of id e) (Some (drop (i + 1) h)) (after_login id (drop (i + 1) h))
login_left id h i e lt is = ap (after_login id) (drop_more h i e lt is)

-- what was passed, and of what is left the part up to the login
pub until_login_left : (id : ℕ) (h : List Entry) (i : ℕ) (e : Entry) → i < length h → e ≡ get_or h i e
    → take i h ++ until_login id (drop i h) ≡ take (i + 1) h ++ cond (is_login_of id e) [] (until_login id (drop (i + 1) h))
until_login_left id h i e lt is =
    ap (λ rest. take i h ++ until_login id rest) (drop_more h i e lt is)
    ∙ sym (append_assoc (take i h) (e ∷ []) (cond (is_login_of id e) [] (until_login id (drop (i + 1) h))))
    ∙ ap (λ front. front ++ cond (is_login_of id e) [] (until_login id (drop (i + 1) h))) (sym (take_more h i e lt ∙ ap (λ x. take i h ++ x ∷ []) (sym is)))

-- how many of the entries pass a test, after one more
pub count_more : (p : Entry → Bool) (h : List Entry) (i : ℕ) (e : Entry) → i < length h → e ≡ get_or h i e
    → count_by p (take (i + 1) h) ≡ count_by p (take i h) + cond (p e) 1 0
count_more p h i e lt is =
    ap (count_by p) (take_more h i e lt) ∙ fold-append (λ n x. n + cond (p x) 1 0) 0 (take i h) (get_or h i e ∷ [])
    ∙ ap (λ x. count_by p (take i h) + cond (p x) 1 0) (sym is)

-- a history within the limit on entries has few revisions
pub few_revisions : (h : List Entry) (b : Bool) → b ≡ is_below_entry_limit h → b ≡ true → revision (batches h) < 4294967296
few_revisions h b is t = let place : nat_lt (count_by is_limited h) most_entries ≡ true = sym is ∙ t in omega (arith, few_batches h, ltb-true _ _ place)

-- a history within the limit on edits has few edits
pub few_edits : (h : List Entry) (b : Bool) → b ≡ has_room_for h 0 → b ≡ true → length (all_edits h) + 1 < 4294967296
few_edits h b is t = let room : nat_le (length (all_edits h) + 0) most_edits ≡ true = sym is ∙ t in omega (arith, leb-true _ _ room)
