-- The laws of replies as bytes, by cases on what is wanted.
use Rattle.std.proofs.Common.{◌≡◌, ℕ, Bool, true, false, cond, ◌&&◌, ◌||◌, ◌==◌, not, List, [], ◌∷◌, refl, sym, ap, ◌∙◌, true≢false, Option, Some, None, is_some, Ok, Err}
use Rattle.item_model.specs.declared.changes.Entry.{Entry}
use Rattle.http_heads.specs.declared.refusal.HeadError.TheVariants.{Head, Length, BodyTooLarge, HeadTooLarge, Memory}
use Rattle.share_asks.specs.declared.ask.Want.{Want}
use Rattle.share_replies.specs.Settings.{Settings}
use Rattle.share_replies.specs.Replies.{Body, Nothing, Allowed, Line, Tagged, Reply, Replies, answer_to}
use Rattle.share_replies.proofs.ReplyCases.{replies_have}
use Rattle.http_front.specs.ReplyHeads.{reason_of}
use Rattle.reply_bytes.specs.ReplyBytes.{body_bytes}
use Rattle.reply_bytes.specs.Laws.{RepliesHaveReasons, RefusalsHaveReasons, EmptyRepliesAreEmpty}

abbrev is_nothing : Body → Bool
is_nothing Nothing = true
is_nothing (Allowed verb) = false
is_nothing (Line text) = false
is_nothing (Tagged tag) = false

-- the status has a reason, and a 204 has no body
abbrev is_fine : ℕ × Body → Bool
is_fine told = is_some (reason_of told.0) && (not (told.0 == 204) || is_nothing told.1)

-- so each reply is fine
replies_fine : (s : Settings) (h : List Entry) (want : Want) (reply : Reply) → answer_to s h want ≡ Replies reply → is_fine (reply.status, reply.body) ≡ true
replies_fine s h want reply is =
    replies_have is_fine s h want reply
    (record { line = λ text. refl; session = refl; place = refl; method = λ allow. refl; stopped = refl; limit = refl })
    (record { tag = λ tag. refl; nothing = refl }) is

first_of_both : (a b : Bool) → a && b ≡ true → a ≡ true
first_of_both true b h = refl
first_of_both false b h = h

second_of_both : (a b : Bool) → a && b ≡ true → b ≡ true
second_of_both true b h = h
second_of_both false b h = absurd (true≢false (sym h))

pub replies_have_reasons : RepliesHaveReasons
replies_have_reasons s h want reply is = first_of_both (is_some (reason_of reply.status)) _ (replies_fine s h want reply is)

nothing_empty : (body : Body) → is_nothing body ≡ true → body_bytes body ≡ []
nothing_empty Nothing is = refl
nothing_empty (Allowed verb) is = absurd (true≢false (sym is))
nothing_empty (Line text) is = absurd (true≢false (sym is))
nothing_empty (Tagged tag) is = absurd (true≢false (sym is))

pub empty_replies_are_empty : EmptyRepliesAreEmpty
empty_replies_are_empty s h want reply is no_content =
    nothing_empty reply.body
    (sym (ap (λ n. not (n == 204) || is_nothing reply.body) no_content)
    ∙ second_of_both (is_some (reason_of reply.status)) (not (reply.status == 204) || is_nothing reply.body) (replies_fine s h want reply is))

pub refusals_have_reasons : RefusalsHaveReasons
refusals_have_reasons Head = refl
refusals_have_reasons Length = refl
refusals_have_reasons BodyTooLarge = refl
refusals_have_reasons HeadTooLarge = refl
refusals_have_reasons Memory = refl
