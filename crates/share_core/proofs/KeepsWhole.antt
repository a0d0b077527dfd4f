-- What an answer adds keeps a whole history whole: a login or a batch is added only within all limits.
use Rattle.std.proofs.Common.{◌≡◌, ℕ, Bool, true, false, cond, not, List, [], ◌∷◌, ◌++◌, Option, Some, None, is_some, Ok, Err, refl, sym, subst, append-nil, append_assoc, true≢false}
use Rattle.std.specs.Option.{option_or, option_to_list}
use Rattle.item_model.specs.declared.changes.Entry.{Entry}
use Rattle.item_model.specs.declared.changes.Entry.TheVariants as entry
use Rattle.share_history.specs.LastSaid.{only_if}
use Rattle.share_history.specs.Limits.{is_below_entry_limit, takes_batch}
use Rattle.share_history.specs.Sessions.{is_stopped, next_session}
use Rattle.share_history.specs.Whole.{IsWhole}
use Rattle.share_history.proofs.WholeFacts.{whole_batch, whole_login, whole_logout, whole_stop}
use Rattle.share_asks.specs.declared.ask.Want.{Want}
use Rattle.share_asks.specs.declared.ask.Want.TheVariants.{ServerInfo, Codes, Login, Logout, Update, Databases, Rows, Lists, Values, Edit as Change, Stop, Bad}
use Rattle.share_replies.specs.Added.{adds, made_by}
use Rattle.share_replies.specs.Replies.{Body, Nothing, lacks_container, lacks_session, meets_limit, records_fault, refusal, request_fault}
use Rattle.share_core.specs.Laws.{AnswersKeepWhole, BringsWhole, IsAdded}

-- ---- what is granted meets no limit

second_none : {A : Type 0} (a b : Option A) → is_some (option_or a b) ≡ false → is_some b ≡ false
second_none None b is = is
second_none (Some x) b is = absurd (true≢false is)

not_met : (b : Bool) (told : ℕ × Body) → is_some (option_or (only_if b told) None) ≡ false → b ≡ false
not_met true told is = absurd (true≢false is)
not_met false told is = refl

meets_none : (h : List Entry) (want : Want) → is_some (refusal h want) ≡ false → meets_limit h want ≡ false
meets_none h want is =
    let limit : Option (ℕ × Body) = option_or (only_if (meets_limit h want) (507, Nothing)) None in
    let records : Option (ℕ × Body) = option_or (records_fault want) limit in
    let container : Option (ℕ × Body) = option_or (only_if (lacks_container h want) (404, Nothing)) records in
    let session : Option (ℕ × Body) = option_or (only_if (lacks_session h want) (403, Nothing)) container in
    let request : Option (ℕ × Body) = option_or (request_fault want) session in
    not_met (meets_limit h want) (507, Nothing)
    (second_none (records_fault want) limit
    (second_none (only_if (lacks_container h want) (404, Nothing)) records
    (second_none (only_if (lacks_session h want) (403, Nothing)) container
    (second_none (request_fault want) session
    (second_none (only_if (is_stopped h) (503, Nothing)) request is)))))

not_not : (b : Bool) → not b ≡ false → b ≡ true
not_not true is = refl
not_not false is = absurd (true≢false is)

-- ---- what is made

unchanged : (h : List Entry) → IsWhole h → IsWhole (h ++ [])
unchanged h whole = subst IsWhole (sym (append-nil h)) whole

made_whole : (h : List Entry) (by : ℕ) (want : Want) → BringsWhole want → meets_limit h want ≡ false → IsWhole h → IsWhole (h ++ option_to_list (made_by by h want))
made_whole h by ServerInfo brings fits whole = unchanged h whole
made_whole h by Codes brings fits whole = unchanged h whole
made_whole h by Login brings fits whole = whole_login h by (next_session h) (not_not (is_below_entry_limit h) fits) whole
made_whole h by (Logout session) brings fits whole = whole_logout h by session whole
made_whole h by (Update session number) brings fits whole = unchanged h whole
made_whole h by (Databases session) brings fits whole = unchanged h whole
made_whole h by (Rows session target look) brings fits whole = unchanged h whole
made_whole h by (Lists session) brings fits whole = unchanged h whole
made_whole h by (Values session browse query) brings fits whole = unchanged h whole
made_whole h by (Change (Ok [])) brings fits whole = unchanged h whole
made_whole h by (Change (Ok (e ∷ es))) brings fits whole = whole_batch h by (e ∷ es) (not_not (takes_batch h (e ∷ es)) fits) brings whole
made_whole h by (Change (Err error)) brings fits whole = unchanged h whole
made_whole h by Stop brings fits whole = whole_stop h by whole
made_whole h by (Bad fault) brings fits whole = unchanged h whole

-- ---- what is added

added_whole : (refused : Bool) (h : List Entry) (by : ℕ) (want : Want) → is_some (refusal h want) ≡ refused → BringsWhole want → IsWhole h
    → IsWhole (h ++ option_to_list (cond refused None (made_by by h want)))
added_whole true h by want is brings whole = unchanged h whole
added_whole false h by want is brings whole = made_whole h by want brings (meets_none h want is) whole

pub one_keeps : (h : List Entry) (e : Entry) → IsAdded h e → IsWhole h → IsWhole (h ++ e ∷ [])
one_keeps h e added whole =
    subst (λ o. IsWhole (h ++ option_to_list o)) added.added (added_whole (is_some (refusal h added.want)) h added.by added.want refl added.whole whole)

pub answers_keep_whole : AnswersKeepWhole
answers_keep_whole h [] whole added = unchanged h whole
answers_keep_whole h (e ∷ es) whole added = subst IsWhole (append_assoc h (e ∷ []) es) (answers_keep_whole (h ++ e ∷ []) es (one_keeps h e added.0 whole) added.1)
