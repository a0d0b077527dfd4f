-- The laws of replies, by cases on what is wanted.
use Rattle.std.proofs.Common.{◌≡◌, ℕ, Bool, true, false, cond, ◌&&◌, ◌==◌, not, List, [], ◌∷◌, refl, sym, ap, ◌∙◌, true≢false, Option, Some, None, is_some, Ok, Err}
use Rattle.std.specs.Option.{option_or, option_map_or}
use Rattle.item_model.specs.declared.changes.Entry.{Entry}
use Rattle.share_history.specs.LastSaid.{only_if}
use Rattle.share_history.specs.Sessions.{is_live, is_stop, is_stopped}
use Rattle.share_asks.specs.declared.ask.Want.{Want}
use Rattle.share_asks.specs.declared.ask.Want.TheVariants.{ServerInfo, Codes, Login, Logout, Update, Databases, Rows, Lists, Values, Edit, Stop, Bad}
use Rattle.share_replies.specs.Settings.{Settings}
use Rattle.share_replies.specs.Replies.{Body, Nothing, Answer, Replies, Holds, needed, request_fault, lacks_session, lacks_container, records_fault, meets_limit, first_of, refusal, success, is_held, session_of, reply_with}
use Rattle.share_replies.specs.Added.{made_by}
use Rattle.share_replies.proofs.ReplyCases.{replies_have}
use Rattle.share_replies.specs.Laws.{NoReplyIsAFailure, StoppedSharesRefuse, OthersAreForbidden, EntriesAreTheAskers, ReadersChangeNothing, HeldWantsAddNothing, SmallBodiesByTheByte, maker, is_edit, is_change}

-- ---- no status is 500

abbrev is_other : ℕ × Body → Bool
is_other told = not (told.0 == 500)

not_is : (b : Bool) → not b ≡ true → b ≡ false
not_is true h = absurd (true≢false (sym h))
not_is false h = refl

pub no_reply_is_a_failure : NoReplyIsAFailure
no_reply_is_a_failure s h want reply is =
    not_is (reply.status == 500)
    (replies_have is_other s h want reply
    (record { line = λ text. refl; session = refl; place = refl; method = λ allow. refl; stopped = refl; limit = refl })
    (record { tag = λ tag. refl; nothing = refl }) is)

-- ---- a share that was stopped

-- the session of a reply, by whether the share is stopped
nobody : (h : List Entry) (want : Want) → is_stopped h ≡ true → session_of h want ≡ 0
nobody h Login is = rw is refl
nobody h ServerInfo is = refl
nobody h Codes is = refl
nobody h (Logout session) is = rw is refl
nobody h (Update session number) is = rw is refl
nobody h (Databases session) is = rw is refl
nobody h (Rows session target look) is = rw is refl
nobody h (Lists session) is = rw is refl
nobody h (Values session browse query) is = rw is refl
nobody h (Edit body) is = refl
nobody h Stop is = refl
nobody h (Bad fault) is = refl

stopped_refusal : (h : List Entry) (want : Want) → is_stopped h ≡ true → refusal h want ≡ Some (503, Nothing)
stopped_refusal h want is =
    ap (λ b. option_or (only_if {A = ℕ × Body} b (503, Nothing))
    (first_of
    (request_fault want ∷ only_if (lacks_session h want) (403, Nothing) ∷ only_if (lacks_container h want) (404, Nothing) ∷ records_fault want
    ∷ only_if (meets_limit h want) (507, Nothing) ∷ []))) is

pub stopped_shares_refuse : StoppedSharesRefuse
stopped_shares_refuse s h by want is = (
  ap (λ found. option_map_or (reply_with h want) found (cond (is_held h want) Holds (reply_with h want (success s h want)))) (stopped_refusal h want is)
      ∙ ap (λ n. Replies (record { status = 503; body = Nothing; session = n })) (nobody h want is),
  ap (λ found. cond {A = Option Entry} (is_some found) None (made_by by h want)) (stopped_refusal h want is),
)

-- ---- sessions that are not live

forbidden : (h : List Entry) (want : Want) (session : ℕ) → is_stopped h ≡ false → needed want ≡ Some session → is_live h session ≡ false
    → lacks_session h want ≡ true
forbidden h want session goes_on is dead = ap (λ n. option_map_or (λ id. not (is_live h id)) n false) is ∙ ap not dead

no_session : (h : List Entry) (want : Want) (session : ℕ) → needed want ≡ Some session → is_live h session ≡ false
    → option_map_or (λ id. cond (not (is_stopped h) && is_live h id) id 0) (needed want) 0 ≡ 0
no_session h want session is dead =
    ap (λ n. option_map_or (λ id. cond (not (is_stopped h) && is_live h id) id 0) n 0) is ∙ ap (λ b. cond (not (is_stopped h) && b) session 0) dead
    ∙ both_false (not (is_stopped h)) session
  where
    both_false : (b : Bool) (n : ℕ) → cond (b && false) n 0 ≡ 0
    both_false true n = refl
    both_false false n = refl

forbidden_refusal : (h : List Entry) (want : Want) → is_stopped h ≡ false → request_fault want ≡ None → lacks_session h want ≡ true
    → refusal h want ≡ Some (403, Nothing)
forbidden_refusal h want goes_on fine lacks = rw (goes_on, fine, lacks) refl

-- a request that needs a session is not malformed, and its reply is for that session or for none
needs_one : (h : List Entry) (want : Want) (session : ℕ) → needed want ≡ Some session
    → (request_fault want ≡ None) × (session_of h want ≡ option_map_or (λ id. cond (not (is_stopped h) && is_live h id) id 0) (needed want) 0)
needs_one h ServerInfo session is = absurd (true≢false (sym (ap is_some is)))
needs_one h Codes session is = absurd (true≢false (sym (ap is_some is)))
needs_one h Login session is = absurd (true≢false (sym (ap is_some is)))
needs_one h (Logout id) session is = (refl, refl)
needs_one h (Update id number) session is = (refl, refl)
needs_one h (Databases id) session is = (refl, refl)
needs_one h (Rows id target look) session is = (refl, refl)
needs_one h (Lists id) session is = (refl, refl)
needs_one h (Values id browse query) session is = (refl, refl)
needs_one h (Edit body) session is = absurd (true≢false (sym (ap is_some is)))
needs_one h Stop session is = absurd (true≢false (sym (ap is_some is)))
needs_one h (Bad fault) session is = absurd (true≢false (sym (ap is_some is)))

pub others_are_forbidden : OthersAreForbidden
others_are_forbidden s h want session goes_on is dead =
    let one : (request_fault want ≡ None) × (session_of h want ≡ option_map_or (λ id. cond (not (is_stopped h) && is_live h id) id 0) (needed want) 0) =
    needs_one h want session is in
    ap (λ found. option_map_or (reply_with h want) found (cond (is_held h want) Holds (reply_with h want (success s h want))))
    (forbidden_refusal h want goes_on one.0 (forbidden h want session goes_on is dead))
    ∙ ap (λ n. Replies (record { status = 403; body = Nothing; session = n })) (one.1 ∙ no_session h want session is dead)

-- ---- what is added

-- the added entry is the one that a success makes
was_made : (refused : Bool) (made : Option Entry) (e : Entry) → cond refused None made ≡ Some e → made ≡ Some e
was_made true made e is = absurd (true≢false (sym (ap is_some is)))
was_made false made e is = is

made_maker : (by : ℕ) (h : List Entry) (want : Want) → option_map_or maker (made_by by h want) by ≡ by
made_maker by h ServerInfo = refl
made_maker by h Codes = refl
made_maker by h Login = refl
made_maker by h (Logout session) = refl
made_maker by h (Update session number) = refl
made_maker by h (Databases session) = refl
made_maker by h (Rows session target look) = refl
made_maker by h (Lists session) = refl
made_maker by h (Values session browse query) = refl
made_maker by h (Edit (Ok [])) = refl
made_maker by h (Edit (Ok (e ∷ es))) = refl
made_maker by h (Edit (Err error)) = refl
made_maker by h Stop = refl
made_maker by h (Bad fault) = refl

pub entries_are_the_askers : EntriesAreTheAskers
entries_are_the_askers h by want e is =
    sym (ap (λ made. option_map_or maker made by) (was_made (is_some (refusal h want)) (made_by by h want) e is)) ∙ made_maker by h want

made_quietly : (by : ℕ) (h : List Entry) (want : Want) → is_change want ≡ false
    → (option_map_or is_edit (made_by by h want) false ≡ false) × (option_map_or is_stop (made_by by h want) false ≡ false)
made_quietly by h ServerInfo quiet = (refl, refl)
made_quietly by h Codes quiet = (refl, refl)
made_quietly by h Login quiet = (refl, refl)
made_quietly by h (Logout session) quiet = (refl, refl)
made_quietly by h (Update session number) quiet = (refl, refl)
made_quietly by h (Databases session) quiet = (refl, refl)
made_quietly by h (Rows session target look) quiet = (refl, refl)
made_quietly by h (Lists session) quiet = (refl, refl)
made_quietly by h (Values session browse query) quiet = (refl, refl)
made_quietly by h (Edit body) quiet = absurd (true≢false quiet)
made_quietly by h Stop quiet = absurd (true≢false quiet)
made_quietly by h (Bad fault) quiet = (refl, refl)

pub readers_change_nothing : ReadersChangeNothing
readers_change_nothing h by want e quiet is =
    let made : made_by by h want ≡ Some e = was_made (is_some (refusal h want)) (made_by by h want) e is in
    let none : (option_map_or is_edit (made_by by h want) false ≡ false) × (option_map_or is_stop (made_by by h want) false ≡ false) = made_quietly by h want quiet in
    (sym (ap (λ o. option_map_or is_edit o false) made) ∙ none.0, sym (ap (λ o. option_map_or is_stop o false) made) ∙ none.1)

-- ---- pending updates

abbrev holds_on : Answer → Bool
holds_on (Replies reply) = false
holds_on Holds = true

-- only an update is pending, and it makes no entry
held_made : (s : Settings) (by : ℕ) (h : List Entry) (want : Want) → cond (is_held h want) Holds (reply_with h want (success s h want)) ≡ Holds
    → made_by by h want ≡ None
held_made s by h ServerInfo is = refl
held_made s by h Codes is = refl
held_made s by h Login is = absurd (true≢false (sym (ap holds_on is)))
held_made s by h (Logout session) is = absurd (true≢false (sym (ap holds_on is)))
held_made s by h (Update session number) is = refl
held_made s by h (Databases session) is = refl
held_made s by h (Rows session target look) is = refl
held_made s by h (Lists session) is = refl
held_made s by h (Values session browse query) is = refl
held_made s by h (Edit (Ok [])) is = refl
held_made s by h (Edit (Ok (e ∷ es))) is = absurd (true≢false (sym (ap holds_on is)))
held_made s by h (Edit (Err error)) is = refl
held_made s by h Stop is = absurd (true≢false (sym (ap holds_on is)))
held_made s by h (Bad fault) is = refl

held_adds : (found : Option (ℕ × Body)) (s : Settings) (by : ℕ) (h : List Entry) (want : Want)
    → option_map_or (reply_with h want) found (cond (is_held h want) Holds (reply_with h want (success s h want))) ≡ Holds
    → cond (is_some found) None (made_by by h want) ≡ None
held_adds (Some told) s by h want is = refl
held_adds None s by h want is = held_made s by h want is

pub held_wants_add_nothing : HeldWantsAddNothing
held_wants_add_nothing s h by want is = held_adds (refusal h want) s by h want is

-- ---- small bodies

pub small_bodies_by_the_byte : SmallBodiesByTheByte
small_bodies_by_the_byte = (refl, refl, refl)
