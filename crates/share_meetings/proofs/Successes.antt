-- What a client reads if a share answers with a success.
use Rattle.std.proofs.Common.{◌≡◌, ◌≤◌, ◌++◌, [], ℕ, List, Bool, ◌⊎◌, inl, inr, true, false, cond, ◌&&◌, ◌==◌, not, length, refl, sym, ap, ◌∙◌, true≢false, Option, Some, None}
use Rattle.std.specs.Option.{option_map_or}
use Rattle.dmap_tags.specs.Spelling.{spelling}
use Rattle.dmap_tags.specs.Tree.{Tree}
use Rattle.item_model.specs.declared.changes.Entry.{Entry}
use Rattle.share_asks.specs.declared.ask.Want.{Want}
use Rattle.share_asks.specs.declared.ask.Want.TheVariants.{ServerInfo, Codes, Login, Logout, Update, Databases, Rows, Lists, Values, Edit, Stop, Bad}
use Rattle.share_asks.specs.declared.form.BodyForm.TheVariants.{Dmap, NoBody}
use Rattle.share_replies.specs.Settings.{Settings}
use Rattle.share_replies.specs.Replies.{Answer, Body, Holds, Nothing, Replies, Reply, Tagged, answer_to, is_held, refusal, reply_with, success}
use Rattle.share_replies.proofs.ReplyCases.{HaveRefusals, all_have, refusals_have}
use Rattle.http_front.specs.ReplyHeads.{reply_head_text}
use Rattle.http_heads.specs.Limits.{reply_limit}
use Rattle.link_commands.proofs.FirstReply.{Begins}
use Rattle.reply_bytes.specs.ReplyBytes.{body_bytes, form_of, reply_bytes, with_head}
use Rattle.share_meetings.specs.ServedRuns.{Serves, due_status}
use Rattle.share_meetings.proofs.HeadsRead.{empty_read, tag_read}

-- ---- refusals have other statuses

pub is_bad : ℕ × Body → Bool
is_bad told = not (told.0 == 200) && not (told.0 == 204)

bad_refusals : HaveRefusals is_bad
unfolding is_bad
bad_refusals = record { line = λ text. refl; session = refl; place = refl; method = λ allow. refl; stopped = refl; limit = refl }

told_in : Answer → ℕ × Body → ℕ × Body
told_in (Replies reply) other = (reply.status, reply.body)
told_in Holds other = other

by_found : (h : List Entry) (want : Want) (found : Option (ℕ × Body)) (held : Bool) (told : ℕ × Body) (reply : Reply)
    → option_map_or (reply_with h want) found (cond held Holds (reply_with h want told)) ≡ Replies reply → all_have is_bad found ≡ true
    → is_bad (reply.status, reply.body) ≡ false → (reply.status, reply.body) ≡ told
unfolding told_in is_bad
by_found h want (Some t) held told reply is bad good =
    let same : t ≡ (reply.status, reply.body) = ap (λ (a : Answer). told_in a t) is in
    absurd (true≢false (sym bad ∙ ap is_bad same ∙ good))
by_found h want None true told reply is bad good = absurd (cc)
by_found h want None false told reply is bad good = sym (ap (λ (a : Answer). told_in a told) is)

pub success_is : (s : Settings) (h : List Entry) (want : Want) (reply : Reply) → answer_to s h want ≡ Replies reply → is_bad (reply.status, reply.body) ≡ false
    → (reply.status, reply.body) ≡ success s h want
success_is s h want reply is good = by_found h want (refusal h want) (is_held h want) (success s h want) reply is (refusals_have is_bad h want bad_refusals) good

due_good : (want : Want) (status : ℕ) (body : Body) → status ≡ due_status want → is_bad (status, body) ≡ false
unfolding is_bad
due_good ServerInfo status body e = rw e refl
due_good Codes status body e = rw e refl
due_good Login status body e = rw e refl
due_good (Logout session) status body e = rw e refl
due_good (Update session number) status body e = rw e refl
due_good (Databases session) status body e = rw e refl
due_good (Rows session target look) status body e = rw e refl
due_good (Lists session) status body e = rw e refl
due_good (Values session browse query) status body e = rw e refl
due_good (Edit body') status body e = rw e refl
due_good Stop status body e = rw e refl
due_good (Bad fault) status body e = rw e refl

-- a reply that is not a refusal is the success, byte by byte
pub success_bytes : (s : Settings) (h : List Entry) (want : Want) (reply : Reply) (last : Bool) (status : ℕ) (body : Body) → answer_to s h want ≡ Replies reply
    → is_bad (reply.status, reply.body) ≡ false → success s h want ≡ (status, body) → reply_bytes reply last ≡ with_head status (form_of body) (body_bytes body) last
success_bytes s h want reply last status body answers good is =
    ap (λ (t : ℕ × Body). with_head t.0 (form_of t.1) (body_bytes t.1) last) (success_is s h want reply answers good ∙ is)

pub good_status : (status : ℕ) (body : Body) → (status ≡ 200) ⊎ (status ≡ 204) → is_bad (status, body) ≡ false
unfolding is_bad
good_status status body (inl e) = rw e refl
good_status status body (inr e) = rw e refl

served_as : (s : Settings) (want : Want) (h : List Entry) (bytes rest : List ℕ) (status : ℕ) (body : Body) (x : Serves s want h bytes rest) → success s h want ≡ (status, body)
    → bytes ≡ with_head status (form_of body) (body_bytes body) x.last ++ rest
served_as s want h bytes rest status body x is =
    x.spelled
    ∙ ap (λ (text : List ℕ). text ++ rest)
    (success_bytes s h want x.reply x.last status body x.answers (due_good want x.reply.status x.reply.body x.succeeds) is)

-- ---- what is read

pub tag_served : (s : Settings) (want : Want) (h : List Entry) (bytes rest : List ℕ) (tag : Tree) → Serves s want h bytes rest → success s h want ≡ (200, Tagged tag)
    → length (spelling tag) ≤ reply_limit → Begins bytes rest (200, spelling tag)
tag_served s want h bytes rest tag x is few = record {
  message = record { head = reply_head_text 200 Dmap (length (spelling tag)) x.last; body = spelling tag };
  is = tag_read (spelling tag) x.last few;
  split = served_as s want h bytes rest 200 (Tagged tag) x is;
}

pub empty_served : (s : Settings) (want : Want) (h : List Entry) (bytes rest : List ℕ) → Serves s want h bytes rest → success s h want ≡ (204, Nothing) → Begins bytes rest (204, [])
empty_served s want h bytes rest x is = record {
  message = record { head = reply_head_text 204 NoBody 0 x.last; body = [] };
  is = empty_read x.last;
  split = served_as s want h bytes rest 204 Nothing x is;
}
