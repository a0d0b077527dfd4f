-- The requests of a client that follows a listing: each reads back, and each has a reply that a client reads as it was meant.
use Rattle.std.proofs.Common.{◌≡◌, ℕ, List, [], Option, Some, refl, sym, ap, ◌∙◌, subst, arith}
use Rattle.dmap_tags.specs.Codes.{code}
use Rattle.dmap_tags.specs.Spelling.{spelling}
use Rattle.dmap_tags.specs.Tree.{Tree}
use Rattle.code_table.specs.declared.row.CodeRow.{CodeRow}
use Rattle.code_table.specs.Reply.{table_reply}
use Rattle.code_table.specs.Standard.{standard_rows}
use Rattle.item_model.specs.declared.changes.Entry.{Entry}
use Rattle.item_model.specs.declared.query.Query.{Query}
use Rattle.item_model.specs.declared.request.Meta.{Meta}
use Rattle.item_model.specs.declared.request.Target.{Target}
use Rattle.share_asks.specs.declared.ask.Role.{Role}
use Rattle.share_asks.specs.declared.ask.Role.TheVariants as role
use Rattle.share_asks.specs.declared.ask.Want.{Want}
use Rattle.share_asks.specs.declared.ask.Want.TheVariants as want
use Rattle.share_history.specs.Bodies.{listing_body}
use Rattle.share_history.specs.Histories.{batches, revision}
use Rattle.share_history.specs.Mirror.{mirror_look}
use Rattle.share_history.specs.Sessions.{next_session}
use Rattle.share_history.proofs.SessionFacts.{few_logins}
use Rattle.share_replies.specs.Replies.{Tagged, success}
use Rattle.share_replies.specs.Settings.{Settings}
use Rattle.share_replies.specs.SmallBodies.{login_body, revision_body}
use Rattle.http_client.specs.Replies.{Reply}
use Rattle.http_client.specs.Requests.{IsHost, IsTaken, IsWord}
use Rattle.http_client.proofs.RequestBack.{requests_read_back}
use Rattle.mirror_core.specs.Mirrored.{Mirrored}
use Rattle.mirror_client.specs.Tellings.{IsTag, TellsNumber, number_told}
use Rattle.mirror_client.proofs.TellingFacts.{tags_once}
use Rattle.share_history.specs.Whole.{IsWhole}
use Rattle.share_meetings.proofs.BodiesRead.{listing_body_read}
use Rattle.share_meetings.proofs.FilterShown.{few, login_tag, revision_tag, table_tag}
use Rattle.share_meetings.proofs.Successes.{empty_served, tag_served}
use Rattle.share_meetings.specs.Mirrors.{CanBeAsked}
use Rattle.share_meetings.proofs.Answering.{ReadsBack, Says, open_ask}

-- ---- requests read back

taken_codes : (r : Role) → IsTaken r want.Codes
taken_codes role.Listen = tt
taken_codes role.Edit = tt

taken_login : (r : Role) → IsTaken r want.Login
taken_login role.Listen = tt
taken_login role.Edit = tt

taken_rows : (r : Role) (session : ℕ) (target : Target) (query : Option Query) (meta : Meta) (base : ℕ) → IsTaken r (want.Rows session target (mirror_look query meta base))
taken_rows role.Listen session target query meta base = tt
taken_rows role.Edit session target query meta base = tt

taken_update : (r : Role) (session revision : ℕ) → IsTaken r (want.Update session revision)
taken_update role.Listen session revision = tt
taken_update role.Edit session revision = tt

taken_logout : (r : Role) (session : ℕ) → IsTaken r (want.Logout session)
taken_logout role.Listen session = tt
taken_logout role.Edit session = tt

pub codes_back : (r : Role) (host : List ℕ) → IsHost host → ReadsBack r host want.Codes
codes_back r host is =
    requests_read_back (open_ask r want.Codes) host tt tt tt tt (record { host_is = is; stays = refl; taken = taken_codes r; small = tt })

pub login_back : (r : Role) (host : List ℕ) → IsHost host → ReadsBack r host want.Login
login_back r host is =
    requests_read_back (open_ask r want.Login) host tt tt tt tt (record { host_is = is; stays = refl; taken = taken_login r; small = tt })

pub rows_back : (r : Role) (host : List ℕ) (m : Mirrored) (session base : ℕ) → CanBeAsked host m → IsWord session → IsWord base
    → ReadsBack r host (want.Rows session m.target (mirror_look m.query m.meta base))
rows_back r host m session base can a b =
    requests_read_back (open_ask r (want.Rows session m.target (mirror_look m.query m.meta base))) host can.proper (a, can.list, b, tt) can.text tt
    (record { host_is = can.host_is; stays = refl; taken = taken_rows r session m.target m.query m.meta base; small = (can.short, can.named) })

pub update_back : (r : Role) (host : List ℕ) (session base : ℕ) → IsHost host → IsWord session → IsWord base → ReadsBack r host (want.Update session base)
update_back r host session base is a b =
    requests_read_back (open_ask r (want.Update session base)) host tt (a, b) tt tt (record { host_is = is; stays = refl; taken = taken_update r session base; small = tt })

pub logout_back : (r : Role) (host : List ℕ) (session : ℕ) → IsHost host → IsWord session → ReadsBack r host (want.Logout session)
logout_back r host session is a =
    requests_read_back (open_ask r (want.Logout session)) host tt a tt tt (record { host_is = is; stays = refl; taken = taken_logout r session; small = tt })

-- ---- what their replies say

-- a success with a tag that a client reads
says_tag : (s : Settings) (w : Want) (tag : List Entry → Tree) → ((p : List Entry) → success s p w ≡ (200, Tagged (tag p)))
    → ((p : List Entry) → IsWhole p → IsTag standard_rows (spelling (tag p)) (tag p)) → Says s w (λ p. (200, spelling (tag p)))
says_tag s w tag is read p bytes rest whole serves = tag_served s w p bytes rest (tag p) serves (is p) (few standard_rows (tag p) (read p whole))

pub codes_say : (s : Settings) → Says s want.Codes (λ p. (200, spelling (table_reply standard_rows)))
codes_say s = says_tag s want.Codes (λ p. table_reply standard_rows) (λ p. refl) (λ p whole. table_tag)

pub login_says : (s : Settings) → Says s want.Login (λ p. (200, spelling (login_body (next_session p))))
login_says s = says_tag s want.Login (λ p. login_body (next_session p)) (λ p. refl) login_tag

pub rows_say : (s : Settings) (session : ℕ) (target : Target) (query : Option Query) (meta : Meta) (base : ℕ)
    → Says s (want.Rows session target (mirror_look query meta base)) (λ p. (200, spelling (listing_body s.keep p target (mirror_look query meta base))))
rows_say s session target query meta base =
    says_tag s (want.Rows session target (mirror_look query meta base)) (λ p. listing_body s.keep p target (mirror_look query meta base)) (λ p. refl)
    (λ p whole. listing_body_read s.keep p target query meta base whole)

pub update_says : (s : Settings) (session base : ℕ) → Says s (want.Update session base) (λ p. (200, spelling (revision_body (revision (batches p)))))
update_says s session base = says_tag s (want.Update session base) (λ p. revision_body (revision (batches p))) (λ p. refl) revision_tag

pub logout_says : (s : Settings) (session : ℕ) → Says s (want.Logout session) (λ p. (204, []))
logout_says s session p bytes rest whole serves = empty_served s (want.Logout session) p bytes rest serves refl

-- ---- the session of a login

pub told_session : (rows : List CodeRow) (answer : Reply) (session : ℕ) (p : List Entry) → rows ≡ standard_rows → IsWhole p
    → answer ≡ (200, spelling (login_body (next_session p))) → TellsNumber (code "mlid") rows answer session → IsWord session
told_session rows answer session p standard whole is tells =
    let body : Tree = login_body (next_session p) in
    let read : IsTag standard_rows (spelling (login_body (next_session p))) tells.0 =
    subst (λ (r : List CodeRow). IsTag r (spelling (login_body (next_session p))) tells.0) standard (subst (λ (a : Reply). IsTag rows a.1 tells.0) is tells.1.1) in
    let same : tells.0 ≡ body = tags_once standard_rows (spelling body) tells.0 body read (login_tag p whole) in
    let told : Some session ≡ Some (next_session p) = sym tells.2 ∙ ap (number_told (code "mlid")) same in
    let sessions : session ≡ next_session p = cc in
    let few_entries = whole.few_entries in
    omega (arith, sessions, few_entries, few_logins p)
