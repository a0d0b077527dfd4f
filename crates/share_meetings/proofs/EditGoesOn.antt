-- A run of `edit` whose connection has one success of a share succeeds.
use Rattle.std.proofs.Common.{◌≡◌, Bool, true, false, List, [], refl, sym, ap, subst, inl, inr}
use Rattle.dmap_tags.specs.Tree.{Tree}
use Rattle.code_table.specs.Standard.{standard_rows}
use Rattle.item_model.specs.declared.changes.Entry.{Entry}
use Rattle.share_asks.specs.declared.ask.Want.{Want}
use Rattle.share_replies.specs.Settings.{Settings}
use Rattle.share_replies.specs.SmallBodies.{revision_body}
use Rattle.share_replies.specs.Replies.{Replies, answer_to}
use Rattle.http_client.specs.Replies.{Reply}
use Rattle.reply_bytes.specs.ReplyBytes.{reply_bytes}
use Rattle.command_core.specs.Seen.{Run}
use Rattle.mirror_client.specs.Tellings.{IsTag}
use Rattle.share_meetings.proofs.EditReplies.{IsEditReply, edit_begins, stop_begins}
use Rattle.share_meetings.proofs.FilterShown.{number_tag}
use Rattle.link_commands.specs.Decided.{BeginsDue, IsDueAnswer, IsSendable}
use Rattle.share_meetings.specs.CommandLaws.{EditGoesOn, ServesPush}
use Rattle.link_commands.proofs.EditDecided.{edit_decided}

-- a share's success is an expected reply
edit_reply_due : (told : Reply) → IsEditReply told → IsDueAnswer false told
edit_reply_due told (inl none) = inl (ap (λ (a : Reply). a.0) none)
edit_reply_due told (inr made) =
    let body : Tree = revision_body made.0 in
    let is : IsTag standard_rows told.1 body = subst (λ (a : Reply). IsTag standard_rows a.1 body) (sym made.1) (number_tag made.0 made.2) in
    inr (made.0, (body, (ap (λ (a : Reply). a.0) made.1, is), refl))

success_due : (s : Settings) (h : List Entry) (stop : Bool) (told : Run) (p : ServesPush s h stop told) → BeginsDue stop (reply_bytes p.reply p.last)
success_due s h true told p =
    let begins = stop_begins s h p.reply p.last (subst (λ (w : Want). answer_to s h w ≡ Replies p.reply) p.want_is p.answers) p.succeeds in
    record { message = begins.message; answer = (204, []); rest = []; is = begins.is; split = begins.split; due = refl }
success_due s h false told p =
    let x = edit_begins s h p.want_is.0 p.reply p.last p.few (subst (λ (w : Want). answer_to s h w ≡ Replies p.reply) p.want_is.1 p.answers) p.succeeds in
    record { message = x.1.message; answer = x.0; rest = []; is = x.1.is; split = x.1.split; due = edit_reply_due x.0 x.2 }

sendable : (s : Settings) (h : List Entry) (stop : Bool) (told : Run) → ServesPush s h stop told → IsSendable stop told.before.input.left
sendable s h true told p = tt
sendable s h false told p = (p.input, p.input_is refl, p.within refl)

pub edit_goes_on : EditGoesOn
edit_goes_on host stop told status s h ends p faultless =
    (edit_decided host stop told status ends faultless).due (sendable s h stop told p) (reply_bytes p.reply p.last) p.next (success_due s h stop told p)
