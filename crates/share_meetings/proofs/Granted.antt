-- What a success says of its request: no refusal applied, it was not held, and the history has what it adds.
use Rattle.std.proofs.Common.{◌≡◌, ◌⊎◌, ◌-◌, ◌++◌, ◌&&◌, ◌==◌, ℕ, List, length, Bool, true, false, cond, not, is_some, Option, Some, None, refl, sym, ap, ◌∙◌, inl, inr, true≢false, append-nil}
use Rattle.std.proofs.lemmas.List.{take-append-drop}
use Rattle.std.specs.Option.{option_map_or, option_to_list}
use Rattle.item_model.specs.declared.changes.Entry.{Entry}
use Rattle.share_asks.specs.declared.ask.Want.{Want}
use Rattle.share_replies.specs.Added.{made_by}
use Rattle.share_replies.specs.Replies.{Answer, Body, Holds, Replies, Reply, is_held, refusal, reply_with, success}
use Rattle.share_replies.specs.Settings.{Settings}
use Rattle.share_replies.proofs.ReplyCases.{HaveRefusals, all_have, refusals_have}
use Rattle.share_server.specs.declared.report.Served.{Served}
use Rattle.share_server.specs.Served.{IsReplied, added_part, answered_on}

-- The request was granted on the history `point`, which is then `now`, and its report says whether it added an entry.
pub record Goes (by : ℕ) (w : Want) (point now : List Entry) (added : Bool) : Type 0 where
  pub granted : refusal point w ≡ None
  pub replied : is_held point w ≡ false
  pub grows : now ≡ point ++ option_to_list (made_by by point w)
  pub adds : added ≡ is_some (made_by by point w)

is_bad : ℕ × Body → Bool
is_bad told = not (told.0 == 200) && not (told.0 == 204)

bad_refusals : HaveRefusals is_bad
unfolding is_bad
bad_refusals = record { line = λ text. refl; session = refl; place = refl; method = λ allow. refl; stopped = refl; limit = refl }

good_status : (status : ℕ) (body : Body) → (status ≡ 200) ⊎ (status ≡ 204) → is_bad (status, body) ≡ false
unfolding is_bad
good_status status body (inl e) = rw e refl
good_status status body (inr e) = rw e refl

told_in : Answer → ℕ × Body → ℕ × Body
told_in (Replies reply) other = (reply.status, reply.body)
told_in Holds other = other

by_found : (h : List Entry) (w : Want) (found : Option (ℕ × Body)) (held : Bool) (told : ℕ × Body) (reply : Reply)
    → option_map_or (reply_with h w) found (cond held Holds (reply_with h w told)) ≡ Replies reply → all_have is_bad found ≡ true
    → is_bad (reply.status, reply.body) ≡ false → (found ≡ None) × (held ≡ false)
unfolding told_in is_bad
by_found h w (Some t) held told reply is bad good =
    let same : t ≡ (reply.status, reply.body) = ap (λ (a : Answer). told_in a t) is in
    absurd (true≢false (sym bad ∙ ap is_bad same ∙ good))
by_found h w None true told reply is bad good = absurd (cc)
by_found h w None false told reply is bad good = (refl, refl)

both_parts : (added : Bool) (p : List Entry) → p ≡ answered_on added p ++ added_part added p
both_parts true p = sym (take-append-drop (length p - 1) p)
both_parts false p = sym (append-nil p)

-- a request with a success was granted
pub goes_so : (s : Settings) (by : ℕ) (p : List Entry) (w : Want) (v : Served) → (how : IsReplied s by p w v) → (how.reply.status ≡ 200) ⊎ (how.reply.status ≡ 204)
    → Goes by w (answered_on v.added p) p v.added
goes_so s by p w v how good =
    let q : List Entry = answered_on v.added p in
    let both = by_found q w (refusal q w) (is_held q w) (success s q w) how.reply how.replies (refusals_have is_bad q w bad_refusals) (good_status how.reply.status how.reply.body good) in
    record {
      granted = both.0;
      replied = both.1;
      grows =
          both_parts v.added p
          ∙ ap (λ (more : List Entry). answered_on v.added p ++ more)
          (how.adds_it ∙ ap (λ (found : Option (ℕ × Body)). option_to_list (cond {A = Option Entry} (is_some found) None (made_by by (answered_on v.added p) w))) both.0);
      adds = how.added ∙ ap (λ (found : Option (ℕ × Body)). is_some (cond {A = Option Entry} (is_some found) None (made_by by (answered_on v.added p) w))) both.0;
    }
