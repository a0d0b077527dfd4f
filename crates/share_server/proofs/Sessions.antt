-- The session of a reply: one that is live, or that logs in.
use Rattle.std.proofs.Common.{◌≡◌, ◌⊎◌, ◌<◌, ℕ, List, Bool, true, false, cond, not, ◌&&◌, ◌==◌, Option, Some, None, MatchBool, refl, sym, ap, ◌∙◌, subst, inl, inr, arith}
use Rattle.std.specs.Option.{option_map_or}
use Rattle.item_model.specs.declared.changes.Entry.{Entry}
use Rattle.share_asks.specs.declared.ask.Want.{Want}
use Rattle.share_asks.specs.declared.ask.Want.TheVariants.{ServerInfo, Codes, Login, Logout, Update, Databases, Rows, Lists, Values, Edit, Stop, Bad}
use Rattle.share_history.specs.Sessions.{is_live, is_stopped}
use Rattle.share_replies.specs.Replies.{Body, Answer, Replies, Holds, refusal, success, is_held, reply_with, session_of}
use Rattle.share_server.specs.Served.{at_point, answered_on, IsGivenUp, IsReplied}
use Rattle.share_server.specs.Laws.{SessionsAreLive}

none : {A : Type 0} → 0 < 0 → A
none lt = absurd (omega (arith, lt))

live : (h : List Entry) (session : ℕ) → 0 < cond (not (is_stopped h) && is_live h session) session 0 → is_live h (cond (not (is_stopped h) && is_live h session) session 0) ≡ true
live h session lt = by_case (is_stopped h) (is_live h session) refl lt
  where
    by_case : (b c : Bool) → is_live h session ≡ c → 0 < cond (not b && c) session 0 → is_live h (cond (not b && c) session 0) ≡ true
    by_case true c is lt = none lt
    by_case false true is lt = is
    by_case false false is lt = none lt

logs_in_or_lives : (h : List Entry) (want : Want) → 0 < session_of h want → (want ≡ Login) ⊎ (is_live h (session_of h want) ≡ true)
logs_in_or_lives h ServerInfo lt = none lt
logs_in_or_lives h Codes lt = none lt
logs_in_or_lives h Login lt = inl refl
logs_in_or_lives h (Logout session) lt = inr (live h session lt)
logs_in_or_lives h (Update session number) lt = inr (live h session lt)
logs_in_or_lives h (Databases session) lt = inr (live h session lt)
logs_in_or_lives h (Rows session target look) lt = inr (live h session lt)
logs_in_or_lives h (Lists session) lt = inr (live h session lt)
logs_in_or_lives h (Values session browse query) lt = inr (live h session lt)
logs_in_or_lives h (Edit body) lt = none lt
logs_in_or_lives h Stop lt = none lt
logs_in_or_lives h (Bad fault) lt = none lt

-- the session of an answer, or `n` if it is pending
abbrev whose : ℕ → Answer → ℕ
whose n (Replies reply) = reply.session
whose n Holds = n

is_session_of : (found : Option (ℕ × Body)) (held : Bool) (told : ℕ × Body) (h : List Entry) (want : Want)
    → whose (session_of h want) (option_map_or (reply_with h want) found (cond held Holds (reply_with h want told))) ≡ session_of h want
is_session_of (Some refused) held told h want = refl
is_session_of None true told h want = refl
is_session_of None false told h want = refl

pub sessions_are_live : SessionsAreLive
sessions_are_live settings by h want s is above = by_case (s.status == 500) is.how
  where
    p : List Entry
    p = answered_on s.added (at_point h s)

    replied : IsReplied settings by (at_point h s) want s → (want ≡ Login) ⊎ (is_live p s.session ≡ true)
    replied r =
        let same : s.session ≡ session_of p want = r.session ∙ (ap (whose (session_of p want)) (sym r.replies)
        ∙ is_session_of (refusal p want) (is_held p want) (success settings p want) p want) in
        subst (λ n. (want ≡ Login) ⊎ (is_live p n ≡ true)) (sym same) (logs_in_or_lives p want (subst (λ n. 0 < n) same above))

    by_case : (b : Bool) → MatchBool b (IsGivenUp s) (IsReplied settings by (at_point h s) want s) → (want ≡ Login) ⊎ (is_live p s.session ≡ true)
    by_case true gave = none (subst (λ n. 0 < n) gave.session above)
    by_case false r = replied r
