-- The reply to an operation that changes nothing, if the share is not stopped and the needed session is live.
use Rattle.std.proofs.Common.{◌≡◌, ℕ, Bool, true, false, cond, not, List, refl, sym, ap, ◌∙◌, subst, Option, Some, None, unwrap_or, Result, IfOk}
use Rattle.std.specs.Option.{option_or}
use Rattle.code_table.specs.Standard.{standard_rows}
use Rattle.code_table.specs.Reply.{table_reply}
use Rattle.item_model.specs.declared.changes.Entry.{Entry}
use Rattle.item_model.specs.declared.query.Query.{Query}
use Rattle.item_model.specs.declared.request.Browse.{Browse}
use Rattle.item_model.specs.declared.request.Look.{Look}
use Rattle.item_model.specs.declared.request.Target.{Target}
use Rattle.share_history.specs.Bodies.{listing_body}
use Rattle.share_history.specs.BrowseListings.{browse_body}
use Rattle.share_history.specs.Databases.{databases_body, containers_body}
use Rattle.share_history.specs.Histories.{all_edits}
use Rattle.share_history.specs.LastSaid.{only_if}
use Rattle.share_history.specs.Rows.{is_there}
use Rattle.share_history.specs.Sessions.{is_stopped}
use Rattle.share_asks.specs.declared.ask.AskError.{AskError}
use Rattle.share_asks.specs.declared.ask.Want.{Want}
use Rattle.share_asks.specs.declared.ask.Want.TheVariants.{ServerInfo, Codes, Databases, Rows, Lists, Values, Bad}
use Rattle.share_replies.specs.Settings.{Settings}
use Rattle.share_replies.specs.SmallBodies.{server_info_body}
use Rattle.share_replies.specs.Replies.{Body, Nothing, Tagged, fault_reply, lacks_session, refusal, success}
use Rattle.share_core.specs.declared.answer.ReplyContent.{ReplyContent}
use Rattle.share_core.specs.Listed.{rows_content}
use Rattle.share_core.specs.Contents.{IsContent}

abbrev pub content_to : Settings → List Entry → Want → ℕ × Body
content_to s h want = unwrap_or (refusal h want) (success s h want)

-- the reply is the one to the operation
content_as : {E : Type 0} (s : Settings) (h : List Entry) (want : Want) (told : ℕ × Body) (r : Result ReplyContent E) → content_to s h want ≡ told
    → IfOk r (λ content. IsContent told content) → IfOk r (λ content. IsContent (unwrap_or (refusal h want) (success s h want)) content)
content_as s h want told r is ok = subst (λ (t : ℕ × Body). IfOk r (λ content. IsContent t content)) (sym is) ok

pub info_content : {E : Type 0} (s : Settings) (h : List Entry) (want : Want) (r : Result ReplyContent E) → want ≡ ServerInfo → is_stopped h ≡ false
    → IfOk r (λ content. IsContent (200, Tagged (server_info_body s.name)) content) → IfOk r (λ content. IsContent (unwrap_or (refusal h want) (success s h want)) content)
info_content s h want r is going ok = content_as s h want (200, Tagged (server_info_body s.name)) r (ap (content_to s h) is ∙ rw going refl) ok

pub codes_content : {E : Type 0} (s : Settings) (h : List Entry) (want : Want) (r : Result ReplyContent E) → want ≡ Codes → is_stopped h ≡ false
    → IfOk r (λ content. IsContent (200, Tagged (table_reply standard_rows)) content) → IfOk r (λ content. IsContent (unwrap_or (refusal h want) (success s h want)) content)
codes_content s h want r is going ok = content_as s h want (200, Tagged (table_reply standard_rows)) r (ap (content_to s h) is ∙ rw going refl) ok

pub bad_content : {E : Type 0} (s : Settings) (h : List Entry) (want : Want) (fault : AskError) (r : Result ReplyContent E) → want ≡ Bad fault → is_stopped h ≡ false
    → IfOk r (λ content. IsContent (fault_reply fault) content) → IfOk r (λ content. IsContent (unwrap_or (refusal h want) (success s h want)) content)
bad_content s h want fault r is going ok = content_as s h want (fault_reply fault) r (ap (content_to s h) is ∙ rw going refl) ok

lives : (h : List Entry) (want known : Want) → want ≡ known → lacks_session h want ≡ false → lacks_session h known ≡ false
lives h want known is lacks = sym (ap (lacks_session h) is) ∙ lacks

pub databases_content : {E : Type 0} (s : Settings) (h : List Entry) (want : Want) (session : ℕ) (r : Result ReplyContent E) → want ≡ Databases session → is_stopped h ≡ false → lacks_session h want ≡ false
    → IfOk r (λ content. IsContent (200, Tagged (databases_body s.name h)) content) → IfOk r (λ content. IsContent (unwrap_or (refusal h want) (success s h want)) content)
databases_content s h want session r is going lacks ok =
    content_as s h want (200, Tagged (databases_body s.name h)) r (ap (content_to s h) is ∙ rw (going, lives h want (Databases session) is lacks) refl) ok

pub lists_content : {E : Type 0} (s : Settings) (h : List Entry) (want : Want) (session : ℕ) (r : Result ReplyContent E) → want ≡ Lists session → is_stopped h ≡ false → lacks_session h want ≡ false
    → IfOk r (λ content. IsContent (200, Tagged (containers_body s.name h)) content) → IfOk r (λ content. IsContent (unwrap_or (refusal h want) (success s h want)) content)
lists_content s h want session r is going lacks ok =
    content_as s h want (200, Tagged (containers_body s.name h)) r (ap (content_to s h) is ∙ rw (going, lives h want (Lists session) is lacks) refl) ok

pub values_content : {E : Type 0} (s : Settings) (h : List Entry) (want : Want) (session : ℕ) (browse : Browse) (query : Option Query) (r : Result ReplyContent E)
    → want ≡ Values session browse query → is_stopped h ≡ false → lacks_session h want ≡ false
    → IfOk r (λ content. IsContent (200, Tagged (browse_body h browse query)) content) → IfOk r (λ content. IsContent (unwrap_or (refusal h want) (success s h want)) content)
values_content s h want session browse query r is going lacks ok =
    content_as s h want (200, Tagged (browse_body h browse query)) r (ap (content_to s h) is ∙ rw (going, lives h want (Values session browse query) is lacks) refl) ok

there_or_not : (there : Bool) (listed : ℕ × Body)
    → unwrap_or (option_or (only_if {A = ℕ × Body} (not there) (404, Nothing)) None) listed ≡ cond there listed (404, Nothing)
there_or_not true listed = refl
there_or_not false listed = refl

pub rows_told : {E : Type 0} (s : Settings) (h : List Entry) (want : Want) (session keep : ℕ) (target : Target) (look : Look) (r : Result ReplyContent E)
    → want ≡ Rows session target look → is_stopped h ≡ false → lacks_session h want ≡ false → keep ≡ s.keep
    → IfOk r (λ content. IsContent (rows_content keep h target look) content) → IfOk r (λ content. IsContent (unwrap_or (refusal h want) (success s h want)) content)
rows_told s h want session keep target look r is going lacks same ok =
    content_as s h want (rows_content keep h target look) r
    (ap (content_to s h) is ∙ rw (going, lives h want (Rows session target look) is lacks) (there_or_not (is_there (all_edits h) target) (200, Tagged (listing_body s.keep h target look)))
    ∙ ap (λ n. rows_content n h target look) (sym same)) ok
