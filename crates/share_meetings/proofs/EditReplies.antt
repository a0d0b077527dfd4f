-- What a client reads if a share applies an edit or a stop.
use Rattle.std.proofs.Common.{◌≡◌, ◌⊎◌, ◌<◌, ◌^◌, ◌++◌, ◌∷◌, ℕ, List, [], length, Ok, Bool, refl, sym, ◌∙◌, inl, inr, append-nil, length-append, arith}
use Rattle.dmap_tags.specs.Spelling.{spelling}
use Rattle.dmap_tags.specs.Tree.{Tree}
use Rattle.code_table.specs.Standard.{standard_rows}
use Rattle.item_model.specs.declared.changes.Edit.{Edit}
use Rattle.item_model.specs.declared.changes.Entry.{Entry}
use Rattle.share_history.specs.Histories.{batches, revision}
use Rattle.share_history.proofs.SessionFacts.{few_batches}
use Rattle.share_asks.specs.declared.ask.Want.TheVariants as want
use Rattle.share_asks.specs.declared.form.BodyForm.TheVariants.{Dmap, NoBody}
use Rattle.share_replies.specs.Settings.{Settings}
use Rattle.share_replies.specs.SmallBodies.{revision_body}
use Rattle.share_replies.specs.Replies.{Nothing, Replies, Reply as share_reply, Tagged, answer_to}
use Rattle.http_front.specs.ReplyHeads.{reply_head_text}
use Rattle.http_client.specs.Replies.{Reply}
use Rattle.reply_bytes.specs.ReplyBytes.{reply_bytes}
use Rattle.share_history.specs.Whole.{IsWhole}
use Rattle.share_meetings.proofs.FilterShown.{few, number_tag}
use Rattle.share_meetings.proofs.HeadsRead.{empty_read, tag_read}
use Rattle.link_commands.proofs.FirstReply.{Begins}
use Rattle.share_meetings.proofs.Successes.{good_status, success_bytes}

-- nothing, or the revision that the edit made
abbrev pub IsEditReply : Reply → Type 0
IsEditReply told = (told ≡ (204, [])) ⊎ ((v : ℕ) × (told ≡ (200, spelling (revision_body v))) × (v < 2 ^ 32))

pub stop_begins : (s : Settings) (h : List Entry) (reply : share_reply) (last : Bool) → answer_to s h want.Stop ≡ Replies reply → reply.status ≡ 204
    → Begins (reply_bytes reply last) [] (204, [])
stop_begins s h reply last is status = record {
  message = record { head = reply_head_text 204 NoBody 0 last; body = [] };
  is = empty_read last;
  split = success_bytes s h want.Stop reply last 204 Nothing is (good_status reply.status reply.body (inr status)) refl ∙ sym (append-nil (reply_head_text 204 NoBody 0 last ++ []));
}

small_next : (h : List Entry) (batch : List Edit) → IsWhole h → revision (batches h ++ batch ∷ []) < 2 ^ 32
small_next h batch whole = let few = whole.few_entries in omega (arith, few, few_batches h, length-append (batches h) (batch ∷ []))

pub edit_begins : (s : Settings) (h : List Entry) (batch : List Edit) (reply : share_reply) (last : Bool) → IsWhole h → answer_to s h (want.Edit (Ok batch)) ≡ Replies reply
    → (reply.status ≡ 200) ⊎ (reply.status ≡ 204) → (told : Reply) × Begins (reply_bytes reply last) [] told × IsEditReply told
edit_begins s h [] reply last whole is status = (
  (204, []),
  record {
    message = record { head = reply_head_text 204 NoBody 0 last; body = [] };
    is = empty_read last;
    split = success_bytes s h (want.Edit (Ok [])) reply last 204 Nothing is (good_status reply.status reply.body status) refl ∙ sym (append-nil (reply_head_text 204 NoBody 0 last ++ []));
  },
  inl refl,
)
edit_begins s h (e ∷ es) reply last whole is status =
    let v : ℕ = revision (batches h ++ (e ∷ es) ∷ []) in
    let body : Tree = revision_body v in
    let text : List ℕ = spelling body in (
      (200, text),
      record {
        message = record { head = reply_head_text 200 Dmap (length text) last; body = text };
        is = tag_read text last (few standard_rows body (number_tag v (small_next h (e ∷ es) whole)));
        split = success_bytes s h (want.Edit (Ok (e ∷ es))) reply last 200 (Tagged body) is (good_status reply.status reply.body status) refl
            ∙ sym (append-nil (reply_head_text 200 Dmap (length text) last ++ text));
      },
      inr (v, refl, small_next h (e ∷ es) whole),
    )
