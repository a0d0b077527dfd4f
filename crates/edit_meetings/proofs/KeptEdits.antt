-- What a reply to a pushed edit or a stop says of the history.
use Rattle.std.proofs.Common.{◌≡◌, ◌≤◌, ◌⊎◌, ◌+◌, ◌-◌, ℕ, List, [], ◌∷◌, ◌++◌, take, drop, length, Some, Result, Ok, Err, refl, sym, ap, ◌∙◌, subst, inl, inr, append_assoc, arith}
use Rattle.std.proofs.Math.Seq.{take-append-add}
use Rattle.std.proofs.lemmas.List.{take-append-drop}
use Rattle.dmap_tags.specs.Codes.{code}
use Rattle.dmap_tags.specs.Spelling.{spelling}
use Rattle.dmap_tags.specs.Tree.{Tree}
use Rattle.code_table.specs.Standard.{standard_rows}
use Rattle.item_model.specs.declared.changes.Edit.{Edit}
use Rattle.item_model.specs.declared.changes.Entry.{Entry}
use Rattle.item_model.specs.declared.changes.Entry.TheVariants.{Edits, Stop}
use Rattle.records_import.specs.Records.{BatchReads}
use Rattle.records_import.specs.Table.{table_of}
use Rattle.records_import.specs.declared.refusal.RecordError.{RecordError}
use Rattle.fault_lines.specs.Records.{records_line}
use Rattle.http_heads.specs.Messages.{Message, print_message}
use Rattle.http_heads.specs.Limits.{reply_limit}
use Rattle.http_front.specs.ReplyHeads.{reply_head_text}
use Rattle.reply_bytes.specs.ReplyBytes.{body_bytes, form_of, with_head}
use Rattle.http_front.specs.Wants.{BodyReads}
use Rattle.http_client.specs.Replies.{IsReply, Reply}
use Rattle.share_asks.specs.declared.ask.Role.{Role}
use Rattle.share_asks.specs.declared.ask.Role.TheVariants as role
use Rattle.share_asks.specs.declared.ask.Want.{Want}
use Rattle.share_asks.specs.declared.ask.Want.TheVariants as want
use Rattle.share_asks.specs.declared.form.BodyForm.TheVariants.{Dmap, Plain}
use Rattle.share_history.specs.Histories.{batches, revision}
use Rattle.share_history.specs.Whole.{IsWhole}
use Rattle.share_history.proofs.EditFacts.{batches-append}
use Rattle.share_history.proofs.WholeFacts.{point_whole}
use Rattle.share_replies.specs.Replies.{Body, Line, Nothing, Tagged, success}
use Rattle.share_replies.specs.Settings.{Settings}
use Rattle.share_replies.specs.SmallBodies.{revision_body}
use Rattle.share_server.specs.declared.report.Served.{Served}
use Rattle.share_server.specs.Served.{answered_on, at_point}
use Rattle.mirror_client.specs.Tellings.{IsTag, TellsNumber, number_told}
use Rattle.mirror_client.proofs.TellingFacts.{tags_once}
use Rattle.share_meetings.proofs.FilterShown.{few, revision_tag}
use Rattle.share_meetings.proofs.HeadsRead.{tag_read}
use Rattle.link_commands.proofs.FirstReply.{answer_is}
use Rattle.share_meetings.proofs.Successes.{good_status, success_bytes, success_is}
use Rattle.share_meetings.proofs.Granted.{Goes, goes_so}
use Rattle.share_meetings.proofs.Sends.{IsGranted}
use Rattle.edit_meetings.specs.EditMeetings.{KeptEditsStay}
use Rattle.edit_meetings.proofs.LinesRead.{line_read}
use Rattle.edit_meetings.proofs.OneReply.{HasReply}
use Rattle.edit_meetings.proofs.PushBack.{edit_want, stop_want}

-- ---- a reply that is a success

module _ (s : Settings) (by : ℕ) (h : List Entry) (reports : List Served) (w : Want) (bytes : List ℕ) (answer : Reply) (r : HasReply s by h reports w bytes answer) (good : IsGranted answer) where
  granted : (r.how.reply.status ≡ 200) ⊎ (r.how.reply.status ≡ 204)
  granted = subst (λ (n : ℕ). (n ≡ 200) ⊎ (n ≡ 204)) r.status good

  pub goes : Goes by w (answered_on r.one.added (at_point h r.one)) (at_point h r.one) r.one.added
  goes = goes_so s by (at_point h r.one) w r.one r.how granted

  -- so its status is that of the success
  pub told : (r.how.reply.status, r.how.reply.body) ≡ success s (answered_on r.one.added (at_point h r.one)) w
  told = success_is s (answered_on r.one.added (at_point h r.one)) w r.how.reply r.how.replies (good_status r.how.reply.status r.how.reply.body granted)

  pub status_is : (status : ℕ) (body : Body) → success s (answered_on r.one.added (at_point h r.one)) w ≡ (status, body) → answer.0 ≡ status
  status_is status body is = r.status ∙ ap (λ (t : ℕ × Body). t.0) (told ∙ is)

  -- and a tag's bytes are those of the success
  pub tag_is : (m : Message) (more : List ℕ) (tag : Tree) → bytes ≡ print_message m ++ more → IsReply m answer → IsTag standard_rows (spelling tag) tag
      → success s (answered_on r.one.added (at_point h r.one)) w ≡ (200, Tagged tag) → answer ≡ (200, spelling tag)
  tag_is m more tag split is read success_tag =
      (answer_is m answer (200, spelling tag) bytes more r.rest is split
      (record {
        message = record { head = reply_head_text 200 Dmap (length (spelling tag)) r.last; body = spelling tag };
        is = tag_read (spelling tag) r.last (few standard_rows tag read);
        split = r.spelled
            ∙ ap (λ (text : List ℕ). text ++ r.rest)
            (success_bytes s (answered_on r.one.added (at_point h r.one)) w r.how.reply r.last 200 (Tagged tag) r.how.replies (good_status r.how.reply.status r.how.reply.body granted) success_tag);
      })).0

-- ---- a reply that tells an error of records

pub line_told : (s : Settings) (by : ℕ) (h : List Entry) (reports : List Served) (w : Want) (bytes : List ℕ) (answer : Reply) (r : HasReply s by h reports w bytes answer)
    (m : Message) (more line : List ℕ) → bytes ≡ print_message m ++ more → IsReply m answer → r.how.reply.status ≡ 400 → r.how.reply.body ≡ Line line → length line ≤ reply_limit → answer.1 ≡ line
line_told s by h reports w bytes answer r m more line split is status body short =
    ap (λ (a : Reply). a.1)
    (answer_is m answer (400, line) bytes more r.rest is split
    (record {
      message = record { head = reply_head_text 400 Plain (length line) r.last; body = line };
      is = line_read line r.last short;
      split = r.spelled
          ∙ ap (λ (n : ℕ). with_head n (form_of r.how.reply.body) (body_bytes r.how.reply.body) r.last ++ r.rest) status
          ∙ ap (λ (b : Body). with_head 400 (form_of b) (body_bytes b) r.last ++ r.rest) body;
    })).0

-- ---- an edit

-- the only report is of a request that added the batch that the bytes read as
pub record Keeps (by : ℕ) (h : List Entry) (reports : List Served) (body : List ℕ) (n : ℕ) : Type 0 where
  pub batch : List Edit
  pub reads : BatchReads (table_of body) (Ok batch)
  pub one : Served
  pub only : reports ≡ one ∷ []
  pub within : one.point ≤ length h
  pub before : List Entry
  pub added : at_point h one ≡ before ++ Edits by batch ∷ []
  pub made : n ≡ revision (batches (at_point h one))

at_whole : (n : ℕ) (h : List Entry) → IsWhole h → IsWhole (take n h)
at_whole n h whole = point_whole (take n h) (drop n h) (subst IsWhole (sym (take-append-drop n h)) whole)

module _ (s : Settings) (by : ℕ) (h : List Entry) (reports : List Served) (body bytes : List ℕ) (m : Message) (answer : Reply) (more : List ℕ) (whole : IsWhole h)
    (split : bytes ≡ print_message m ++ more) (is : IsReply m answer) where
  pub kept_by : (r : Role) (read : Result (List Edit) RecordError) (n : ℕ) → BodyReads body read → HasReply s by h reports (edit_want r read) bytes answer
      → TellsNumber (code "musr") standard_rows answer n → Keeps by h reports body n
  kept_by role.Listen read n reads x tells =
      let bad : answer.0 ≡ 404 = status_is s by h reports (edit_want role.Listen read) bytes answer x (inl tells.1.0) 404 Nothing refl in
      absurd (omega (arith, bad, tells.1.0))
  kept_by role.Edit (Err error) n reads x tells =
      let bad : answer.0 ≡ 400 = status_is s by h reports (want.Edit (Err error)) bytes answer x (inl tells.1.0) 400 (Line (records_line error)) refl in
      absurd (omega (arith, bad, tells.1.0))
  kept_by role.Edit (Ok []) n reads x tells =
      let bad : answer.0 ≡ 204 = status_is s by h reports (want.Edit (Ok [])) bytes answer x (inl tells.1.0) 204 Nothing refl in
      absurd (omega (arith, bad, tells.1.0))
  kept_by role.Edit (Ok (e ∷ es)) n reads x tells =
      let batch : List Edit = e ∷ es in
      let w : Want = want.Edit (Ok (e ∷ es)) in
      let point : List Entry = answered_on x.one.added (at_point h x.one) in
      let v : ℕ = revision (batches point ++ (e ∷ es) ∷ []) in
      let grows : at_point h x.one ≡ point ++ Edits by (e ∷ es) ∷ [] = (goes s by h reports w bytes answer x (inl tells.1.0)).grows in
      let same : revision (batches (at_point h x.one)) ≡ v =
      ap (λ (k : List Entry). revision (batches k)) grows ∙ ap revision (batches-append point (Edits by (e ∷ es) ∷ [])) in
      let read : IsTag standard_rows (spelling (revision_body v)) (revision_body v) =
      subst (λ (k : ℕ). IsTag standard_rows (spelling (revision_body k)) (revision_body k)) same (revision_tag (at_point h x.one) (at_whole x.one.point h whole)) in
      let told : answer ≡ (200, spelling (revision_body v)) =
      tag_is s by h reports w bytes answer x (inl tells.1.0) m more (revision_body v) split is read refl in
      let tag : tells.0 ≡ revision_body v =
      tags_once standard_rows (spelling (revision_body v)) tells.0 (revision_body v) (subst (λ (a : Reply). IsTag standard_rows a.1 tells.0) told tells.1.1) read in
      let number : Some n ≡ Some v = sym tells.2 ∙ ap (number_told (code "musr")) tag in
      let made : n ≡ v = cc in
      record {
        batch = e ∷ es;
        reads = reads;
        one = x.one;
        only = x.only;
        within = x.within;
        before = point;
        added = grows;
        made = made ∙ sym same;
      }

  -- the bytes have no edits if there is no revision
  pub none_by : (r : Role) (read : Result (List Edit) RecordError) → BodyReads body read → HasReply s by h reports (edit_want r read) bytes answer
      → answer.0 ≡ 204 → BatchReads (table_of body) (Ok [])
  none_by role.Listen read reads x no_content =
      let bad : answer.0 ≡ 404 = status_is s by h reports (edit_want role.Listen read) bytes answer x (inr no_content) 404 Nothing refl in
      absurd (omega (arith, bad, no_content))
  none_by role.Edit (Err error) reads x no_content =
      let bad : answer.0 ≡ 400 = status_is s by h reports (want.Edit (Err error)) bytes answer x (inr no_content) 400 (Line (records_line error)) refl in
      absurd (omega (arith, bad, no_content))
  none_by role.Edit (Ok []) reads x no_content = reads
  none_by role.Edit (Ok (e ∷ es)) reads x no_content =
      let point : List Entry = answered_on x.one.added (at_point h x.one) in
      let bad : answer.0 ≡ 200 =
      status_is s by h reports (want.Edit (Ok (e ∷ es))) bytes answer x (inr no_content) 200 (Tagged (revision_body (revision (batches point ++ (e ∷ es) ∷ [])))) refl in
      absurd (omega (arith, bad, no_content))

  -- ---- a stop

  pub stopped_by : (r : Role) → (x : HasReply s by h reports (stop_want r) bytes answer) → answer.0 ≡ 204
      → at_point h x.one ≡ answered_on x.one.added (at_point h x.one) ++ Stop by ∷ []
  stopped_by role.Listen x no_content =
      let bad : answer.0 ≡ 404 = status_is s by h reports (stop_want role.Listen) bytes answer x (inr no_content) 404 Nothing refl in
      absurd (omega (arith, bad, no_content))
  stopped_by role.Edit x no_content = (goes s by h reports want.Stop bytes answer x (inr no_content)).grows

-- ---- what stays

taken_past : (xs ys : List (List Edit)) (k : ℕ) → length xs ≤ k → take k (xs ++ ys) ≡ xs ++ take (k - length xs) ys
taken_past xs ys k h =
    let same : k ≡ length xs + (k - length xs) = omega (arith, h) in
    ap (λ (n : ℕ). take n (xs ++ ys)) same ∙ take-append-add xs ys (k - length xs)

pub kept_edits_stay : KeptEditsStay
kept_edits_stay report h bytes n v kept later =
    let front : List (List Edit) = batches kept.before in
    let upto : batches (at_point h kept.served) ≡ front ++ kept.batch ∷ [] =
    ap batches kept.added ∙ batches-append kept.before (Edits report.number kept.batch ∷ []) in
    let whole : batches h ≡ (front ++ kept.batch ∷ []) ++ batches kept.later =
    ap batches kept.begins ∙ batches-append (at_point h kept.served) kept.later ∙ ap (λ (bs : List (List Edit)). bs ++ batches kept.later) upto in
    let made : n ≡ revision (front ++ kept.batch ∷ []) = kept.made ∙ ap revision upto in
    let rest : List (List Edit) = take ((v - 2) - length (front ++ kept.batch ∷ [])) (batches kept.later) in (
      front,
      rest,
      ap (λ (bs : List (List Edit)). take (v - 2) bs) whole
          ∙ taken_past (front ++ kept.batch ∷ []) (batches kept.later) (v - 2) (omega (arith, made, later)) ∙ append_assoc front (kept.batch ∷ []) rest,
      made,
    )
