-- The status that an edit gets, and the entry that it adds.
use Rattle.std.proofs.Common.{◌≡◌, ◌⊎◌, ℕ, List, [], ◌∷◌, ◌==◌, Bool, true, false, cond, not, Option, Some, None, is_some, MatchBool, refl, sym, ap, ◌∙◌, subst, inl, inr, arith}
use Rattle.std.proofs.lemmas.Bool.{eqb-true}
use Rattle.std.specs.Option.{option_or, option_map_or, option_to_list}
use Rattle.std.specs.Prelude.{Ok}
use Rattle.item_model.specs.declared.changes.Edit.{Edit as OneEdit}
use Rattle.item_model.specs.declared.changes.Entry.{Entry}
use Rattle.item_model.specs.declared.changes.Entry.TheVariants as entry
use Rattle.share_asks.specs.declared.ask.Want.{Want}
use Rattle.share_asks.specs.declared.ask.Want.TheVariants.{Edit}
use Rattle.share_history.specs.LastSaid.{only_if}
use Rattle.share_history.specs.Limits.{takes_batch}
use Rattle.share_history.specs.Sessions.{is_stopped}
use Rattle.share_replies.specs.Added.{adds}
use Rattle.share_replies.specs.Replies.{Answer, Body, Holds, Nothing, Replies, Reply, answer_to, reply_with, success}
use Rattle.share_replies.specs.Settings.{Settings}
use Rattle.share_server.specs.declared.report.Served.{Served}
use Rattle.share_server.specs.Served.{IsGivenUp, IsReplied, IsServed, added_part, answered_on, at_point}
use Rattle.relay_share.specs.Rounds.{made_status}

-- an edit was made, or the share was stopped or at a limit, or an allocation failed
abbrev pub IsStatus : List OneEdit → ℕ → Type 0
IsStatus batch status = (status ≡ made_status batch) ⊎ ((status ≡ 503) ⊎ ((status ≡ 507) ⊎ (status ≡ 500)))

-- the entry of an edit, if it has records
abbrev pub entry_of : ℕ → List OneEdit → List Entry
entry_of by [] = []
entry_of by (e ∷ es) = entry.Edits by (e ∷ es) ∷ []

abbrev status_in : Answer → ℕ
status_in (Replies reply) = reply.status
status_in Holds = 0

module _ (h : List Entry) (want : Want) (granted : ℕ × Body) where
  -- what is replied by whether the share was stopped, and whether a limit is met
  abbrev refused : Bool → Bool → Option (ℕ × Body)
  refused stopped limited = option_or (only_if stopped (503, Nothing)) (option_or (only_if limited (507, Nothing)) None)

  abbrev replied : Bool → Bool → Answer
  replied stopped limited = option_map_or (reply_with h want) (refused stopped limited) (reply_with h want granted)

  by_refusal : (stopped limited : Bool) (reply : Reply) → replied stopped limited ≡ Replies reply
      → (reply.status ≡ granted.0) ⊎ ((reply.status ≡ 503) ⊎ ((reply.status ≡ 507) ⊎ (reply.status ≡ 500)))
  by_refusal true limited reply is = inr (inl (sym (ap status_in is)))
  by_refusal false true reply is = inr (inr (inl (sym (ap status_in is))))
  by_refusal false false reply is = inl (sym (ap status_in is))

  -- one that got the status of a success was not refused
  granted_one : (stopped limited : Bool) (reply : Reply) → (granted.0 ≡ 503 → ⊥) → (granted.0 ≡ 507 → ⊥) → replied stopped limited ≡ Replies reply
      → reply.status ≡ granted.0 → (new : Option Entry) → cond (is_some (refused stopped limited)) None new ≡ new
  granted_one true limited reply no503 no507 is made new = absurd (no503 (sym made ∙ sym (ap status_in is)))
  granted_one false true reply no503 no507 is made new = absurd (no507 (sym made ∙ sym (ap status_in is)))
  granted_one false false reply no503 no507 is made new = refl

  -- and one that got another status adds nothing
  refused_one : (stopped limited : Bool) (reply : Reply) → replied stopped limited ≡ Replies reply → (reply.status ≡ granted.0 → ⊥) → (new : Option Entry)
      → cond (is_some (refused stopped limited)) None new ≡ None
  refused_one true limited reply is other new = refl
  refused_one false true reply is other new = refl
  refused_one false false reply is other new = absurd (other (sym (ap status_in is)))

  -- only a share that was stopped answers with 503
  stopped_one : (stopped limited : Bool) (reply : Reply) → (granted.0 ≡ 503 → ⊥) → replied stopped limited ≡ Replies reply → reply.status ≡ 503 → stopped ≡ true
  stopped_one true limited reply no503 is got = refl
  stopped_one false true reply no503 is got = absurd (let e : 507 ≡ 503 = ap status_in is ∙ got in omega (arith, e))
  stopped_one false false reply no503 is got = absurd (no503 (ap status_in is ∙ got))

status_replied : (settings : Settings) (h : List Entry) (batch : List OneEdit) (reply : Reply) → answer_to settings h (Edit (Ok batch)) ≡ Replies reply → IsStatus batch reply.status
status_replied settings h [] reply is = by_refusal h (Edit (Ok [])) (success settings h (Edit (Ok []))) (is_stopped h) false reply is
status_replied settings h (e ∷ es) reply is =
    by_refusal h (Edit (Ok (e ∷ es))) (success settings h (Edit (Ok (e ∷ es)))) (is_stopped h) (not (takes_batch h (e ∷ es))) reply is

entry_replied : (settings : Settings) (h : List Entry) (by : ℕ) (batch : List OneEdit) (reply : Reply) → answer_to settings h (Edit (Ok batch)) ≡ Replies reply
    → reply.status ≡ made_status batch → option_to_list (adds h by (Edit (Ok batch))) ≡ entry_of by batch
entry_replied settings h by [] reply is made =
    ap option_to_list
    (granted_one h (Edit (Ok [])) (success settings h (Edit (Ok []))) (is_stopped h) false reply (λ (e : 204 ≡ 503). omega (arith, e)) (λ (e : 204 ≡ 507). omega (arith, e)) is made None)
entry_replied settings h by (e ∷ es) reply is made =
    ap option_to_list
    (granted_one h (Edit (Ok (e ∷ es))) (success settings h (Edit (Ok (e ∷ es)))) (is_stopped h) (not (takes_batch h (e ∷ es))) reply (λ (e : 200 ≡ 503). omega (arith, e))
    (λ (e : 200 ≡ 507). omega (arith, e)) is made (Some (entry.Edits by (e ∷ es))))

nothing_replied : (settings : Settings) (h : List Entry) (by : ℕ) (batch : List OneEdit) (reply : Reply) → answer_to settings h (Edit (Ok batch)) ≡ Replies reply
    → (reply.status ≡ made_status batch → ⊥) → option_to_list (adds h by (Edit (Ok batch))) ≡ []
nothing_replied settings h by [] reply is other =
    ap option_to_list (refused_one h (Edit (Ok [])) (success settings h (Edit (Ok []))) (is_stopped h) false reply is other None)
nothing_replied settings h by (e ∷ es) reply is other =
    ap option_to_list
    (refused_one h (Edit (Ok (e ∷ es))) (success settings h (Edit (Ok (e ∷ es)))) (is_stopped h) (not (takes_batch h (e ∷ es))) reply is other (Some (entry.Edits by (e ∷ es))))

stopped_replied : (settings : Settings) (h : List Entry) (batch : List OneEdit) (reply : Reply) → answer_to settings h (Edit (Ok batch)) ≡ Replies reply → reply.status ≡ 503
    → is_stopped h ≡ true
stopped_replied settings h [] reply is got =
    stopped_one h (Edit (Ok [])) (success settings h (Edit (Ok []))) (is_stopped h) false reply (λ (e : 204 ≡ 503). omega (arith, e)) is got
stopped_replied settings h (e ∷ es) reply is got =
    stopped_one h (Edit (Ok (e ∷ es))) (success settings h (Edit (Ok (e ∷ es)))) (is_stopped h) (not (takes_batch h (e ∷ es))) reply (λ (e : 200 ≡ 503). omega (arith, e)) is got

-- ---- a request that was served

pub edit_status : (settings : Settings) (by : ℕ) (h : List Entry) (batch : List OneEdit) (s : Served) → IsServed settings by h (Edit (Ok batch)) s → IsStatus batch s.status
edit_status settings by h batch s is = by_failure (s.status == 500) refl is.how
  where
    by_failure : (b : Bool) → (s.status == 500) ≡ b → MatchBool b (IsGivenUp s) (IsReplied settings by (at_point h s) (Edit (Ok batch)) s) → IsStatus batch s.status
    by_failure true failed how = inr (inr (inr (eqb-true s.status 500 failed)))
    by_failure false failed how =
        subst (IsStatus batch) (sym how.status) (status_replied settings (answered_on s.added (at_point h s)) batch how.reply how.replies)

not_failed : (batch : List OneEdit) → (made_status batch == 500) ≡ false
not_failed [] = refl
not_failed (e ∷ es) = refl

-- what an edit added that was made
pub edit_entry : (settings : Settings) (by : ℕ) (h : List Entry) (batch : List OneEdit) (s : Served) → IsServed settings by h (Edit (Ok batch)) s
    → s.status ≡ made_status batch → added_part s.added (at_point h s) ≡ entry_of by batch
edit_entry settings by h batch s is made =
    let fine : (s.status == 500) ≡ false = ap (λ n. n == 500) made ∙ not_failed batch in
    let how : IsReplied settings by (at_point h s) (Edit (Ok batch)) s =
    subst (λ b. MatchBool b (IsGivenUp s) (IsReplied settings by (at_point h s) (Edit (Ok batch)) s)) fine is.how in
    how.adds_it ∙ entry_replied settings (answered_on s.added (at_point h s)) by batch how.reply how.replies (sym how.status ∙ made)

-- and one that got another status added nothing
pub refused_entry : (settings : Settings) (by : ℕ) (h : List Entry) (batch : List OneEdit) (s : Served) → IsServed settings by h (Edit (Ok batch)) s
    → (s.status ≡ made_status batch → ⊥) → added_part s.added (at_point h s) ≡ []
refused_entry settings by h batch s is other = by_failure (s.status == 500) is.how
  where
    by_failure : (b : Bool) → MatchBool b (IsGivenUp s) (IsReplied settings by (at_point h s) (Edit (Ok batch)) s) → added_part s.added (at_point h s) ≡ []
    by_failure true how = ap (λ (b : Bool). added_part b (at_point h s)) how.added
    by_failure false how =
        how.adds_it
        ∙ nothing_replied settings (answered_on s.added (at_point h s)) by batch how.reply how.replies (λ (made : how.reply.status ≡ made_status batch). other (how.status ∙ made))

-- one that got 503 found the share stopped
pub stopped_edit : (settings : Settings) (by : ℕ) (h : List Entry) (batch : List OneEdit) (s : Served) → IsServed settings by h (Edit (Ok batch)) s → s.status ≡ 503
    → is_stopped (answered_on s.added (at_point h s)) ≡ true
stopped_edit settings by h batch s is got = by_failure (s.status == 500) (ap (λ (n : ℕ). n == 500) got) is.how
  where
    by_failure : (b : Bool) → b ≡ (503 == 500) → MatchBool b (IsGivenUp s) (IsReplied settings by (at_point h s) (Edit (Ok batch)) s)
        → is_stopped (answered_on s.added (at_point h s)) ≡ true
    by_failure true other how = let no : true ≡ false = other in absurd (cc)
    by_failure false other how = stopped_replied settings (answered_on s.added (at_point h s)) batch how.reply how.replies (sym how.status ∙ got)
