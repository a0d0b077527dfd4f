-- A client that followed a share got what the share has, and so holds it.
use Rattle.std.proofs.Common.{rules, ◌≡◌, ◌≤◌, ◌<◌, ◌^◌, ℕ, ◌==◌, List, [], ◌∷◌, ◌++◌, take, length, map, Bool, true, false, ◌&&◌, nat_le, nat_lt, Option, None, Result, Ok, Err, All, refl, sym, ap, ◌∙◌, subst, append_assoc, arith}
use Rattle.std.specs.List.{AllByRecursion, list_all}
use Rattle.std.specs.Str.{is_utf8}
use Rattle.std.proofs.lemmas.Str.{IsUtf8-from_ascii, is_utf8-from_IsUtf8}
use Rattle.std.proofs.lemmas.Str.Ascii.{IsAscii-from_all}
use Rattle.std.proofs.lemmas.Bool.{and_parts, leb-true, ltb-true}
use Rattle.std.proofs.lemmas.List.Elements.{All-nil, All-cons}
use Rattle.dmap_tags.specs.Spelling.{payload, spelling}
use Rattle.dmap_tags.specs.Tree.{Tree, levels, trees_of}
use Rattle.dmap_tags.specs.Proper.{AreProperTags}
use Rattle.listing_plan.proofs.Spelled.{payload_length}
use Rattle.code_table.specs.declared.row.CodeRow.{CodeRow}
use Rattle.code_table.specs.declared.reply.CodeError.{CodeError}
use Rattle.code_table.specs.Reply.{entry_of, number_of, table_of, table_reply, type_of}
use Rattle.code_table.specs.Fits.{fits}
use Rattle.code_table.specs.Standard.{standard_rows}
use Rattle.code_table.proofs.ReadsBack.{ReadsBack, table_back}
use Rattle.item_model.specs.declared.changes.Edit.{Edit}
use Rattle.item_model.specs.declared.changes.Entry.{Entry}
use Rattle.item_model.specs.declared.query.Query.{Query}
use Rattle.item_model.specs.declared.request.Meta.{Meta}
use Rattle.item_model.specs.declared.request.Target.{Target}
use Rattle.share_history.specs.Bodies.{listing_body}
use Rattle.share_history.specs.Histories.{at_revision, batches, edits, revision, up_to}
use Rattle.share_history.specs.Listings.{Listing, listing, shown_rows}
use Rattle.share_history.specs.Mirror.{Held, mirror_after, mirror_look, mirrored}
use Rattle.share_history.specs.Rows.{rows}
use Rattle.share_history.specs.Sessions.{next_session}
use Rattle.share_history.proofs.EditFacts.{batches-append, batches-at_revision}
use Rattle.share_history.proofs.DeltaFacts.{listing_revision}
use Rattle.share_history.proofs.SessionFacts.{few_logins}
use Rattle.share_asks.specs.declared.ask.Want.TheVariants as want
use Rattle.share_replies.specs.Settings.{Settings}
use Rattle.share_replies.specs.SmallBodies.{login_body, revision_body}
use Rattle.http_heads.specs.Limits.{reply_limit}
use Rattle.http_heads.specs.Messages.{print_message}
use Rattle.http_client.specs.Replies.{Reply}
use Rattle.mirror_core.specs.Bodies.{IsListing}
use Rattle.mirror_core.specs.Mirrored.{Mirrored}
use Rattle.mirror_core.proofs.AfterFacts.{answer_is_listing}
use Rattle.mirror_core.proofs.LawFacts.{listings_are_one}
use Rattle.mirror_client.specs.Exchanges.{AreAnswered, Exchange, messages}
use Rattle.mirror_client.specs.Laws.{AreTold, NeverFall, each_second, last_point, rounds_in}
use Rattle.mirror_client.specs.Stages.{Asking, Begun, Closed, Holding, LeadsOn, Learned, Path, Stage}
use Rattle.mirror_client.specs.Steps.{Known, TellsListing, TellsTable, all_applied, held_after}
use Rattle.mirror_client.specs.Tellings.{IsTag, Tells}
use Rattle.mirror_client.proofs.ServedFacts.{followers_hold_what_the_share_has}
use Rattle.mirror_client.proofs.TellingFacts.{tags_once}
use Rattle.share_meetings.specs.FollowerLaws.{FollowersHoldTheRows, last_revision, rows_at}
use Rattle.share_meetings.specs.ServedRuns.{Rise, Round, ServesRounds, ServesRun, first_of, points_of}
use Rattle.share_history.specs.Whole.{IsWhole}
use Rattle.share_meetings.proofs.BodiesRead.{listing_body_read, small_revision}
use Rattle.link_commands.proofs.FirstReply.{answer_is, owed_split, split_on}
use Rattle.share_meetings.proofs.Successes.{empty_served, tag_served}
use Rattle.share_history.proofs.WholeFacts.{point_whole}

-- ---- histories

first_whole : (ps : List (List Entry)) (h : List Entry) → Rise ps h → IsWhole h → IsWhole (first_of ps h)
first_whole [] h rise whole = whole
first_whole (p ∷ ps) h rise whole = point_whole p rise.0.0 (subst IsWhole rise.0.1 (first_whole ps h rise.1 whole))

pub each_whole : (ps : List (List Entry)) (h : List Entry) → Rise ps h → IsWhole h → AllByRecursion IsWhole ps
each_whole [] h rise whole = tt
each_whole (p ∷ ps) h rise whole = (first_whole (p ∷ ps) h rise whole, each_whole ps h rise.1 whole)

-- the histories of the listings
listing_points : List Round → List (List Entry)
listing_points rs = map (λ (r : Round). r.0) rs

never_fall : (r : Round) (rs : List Round) (h : List Entry) → Rise (points_of (r ∷ rs)) h → NeverFall r.0 (listing_points rs)
unfolding listing_points
never_fall r [] h rise = tt
never_fall r (q ∷ rs) h rise =
    ((rise.0.0 ++ rise.1.0.0, rise.1.0.1 ∙ ap (λ (x : List Entry). x ++ rise.1.0.0) rise.0.1 ∙ append_assoc r.0 rise.0.0 rise.1.0.0), never_fall q rs h rise.1.1)

-- the last of them begins the history
last_begins : (r : Round) (rs : List Round) (h : List Entry) → Rise (points_of (r ∷ rs)) h → (later : List Entry) × (h ≡ last_point r.0 (listing_points rs) ++ later)
unfolding listing_points
last_begins r [] h rise = (rise.0.0 ++ rise.1.0.0, rise.1.0.1 ∙ ap (λ (x : List Entry). x ++ rise.1.0.0) rise.0.1 ∙ append_assoc r.0 rise.0.0 rise.1.0.0)
last_begins r (q ∷ rs) h rise = last_begins q rs h rise.1.1

-- ---- the table

each_row : List CodeRow → Type 0
each_row rows = AllByRecursion ReadsBack rows

all_of : {A : Type 0} (P : A → Type 0) (xs : List A) → AllByRecursion P xs → All P xs
all_of P [] h = All-nil P
all_of P (x ∷ xs) h = All-cons P x xs h.0 (all_of P xs h.1)

pub standard_back : table_of (table_reply standard_rows) ≡ Ok standard_rows
standard_back = table_back standard_rows refl (all_of ReadsBack standard_rows rows_back)
  where
    rows_back : AllByRecursion ReadsBack standard_rows
    rows_back = search rules

-- names are ASCII, and numbers small
is_plain : CodeRow → Bool
is_plain row = list_all (λ b. nat_lt b 128) row.name && (nat_lt (number_of row.code) (2 ^ 32) && nat_lt (type_of row.kind) (2 ^ 16))

ascii_of : (bytes : List ℕ) → list_all (λ b. nat_lt b 128) bytes ≡ true → All (λ b. b < 128) bytes
ascii_of [] h = All-nil (λ b. b < 128)
ascii_of (b ∷ bs) h =
    let is = and_parts (nat_lt b 128) (list_all (λ c. nat_lt c 128) bs) h in All-cons (λ c. c < 128) b bs (ltb-true b 128 is.0) (ascii_of bs is.1)

name_text : (name : List ℕ) → list_all (λ b. nat_lt b 128) name ≡ true → is_utf8 name ≡ true
name_text name h = is_utf8-from_IsUtf8 name (IsUtf8-from_ascii name (IsAscii-from_all name (ascii_of name h)))

entries_proper : (table : List CodeRow) → list_all is_plain table ≡ true → AreProperTags (trees_of (map entry_of table))
unfolding is_plain
entries_proper [] h = tt
entries_proper (row ∷ table) h =
    let here = and_parts (is_plain row) (list_all is_plain table) h in
    let plain = and_parts (list_all (λ b. nat_lt b 128) row.name) (nat_lt (number_of row.code) (2 ^ 32) && nat_lt (type_of row.kind) (2 ^ 16)) here.0 in
    let numbers = and_parts (nat_lt (number_of row.code) (2 ^ 32)) (nat_lt (type_of row.kind) (2 ^ 16)) plain.1 in
    ((ltb-true (number_of row.code) (2 ^ 32) numbers.0, (name_text row.name plain.0, (ltb-true (type_of row.kind) (2 ^ 16) numbers.1, tt))), entries_proper table here.1)

standard_plain : list_all is_plain standard_rows ≡ true
unfolding is_plain
standard_plain = refl

pub table_tag : IsTag standard_rows (spelling (table_reply standard_rows)) (table_reply standard_rows)
table_tag = record { spelled = refl; accepted = refl; proper = (omega arith, entries_proper standard_rows standard_plain) }

rows_or : Result (List CodeRow) CodeError → List CodeRow → List CodeRow
rows_or (Ok rows) other = rows
rows_or (Err e) other = other

abbrev read_as : List CodeRow → Result (List CodeRow) CodeError
read_as rows = Ok rows

ok_rows : (a b : List CodeRow) → read_as a ≡ read_as b → a ≡ b
unfolding rows_or
ok_rows a b same = ap (λ (r : Result (List CodeRow) CodeError). rows_or r a) same

pub learned : (answer : Reply) (rows : List CodeRow) → answer ≡ (200, spelling (table_reply standard_rows)) → TellsTable answer rows → rows ≡ standard_rows
learned answer rows same t =
    let body : List ℕ = spelling (table_reply standard_rows) in
    let tag : t.0 ≡ table_reply standard_rows =
    tags_once standard_rows body t.0 (table_reply standard_rows) (subst (λ (a : Reply). IsTag standard_rows a.1 t.0) same t.1.1) table_tag in
    ok_rows rows standard_rows (sym t.2 ∙ ap table_of tag ∙ standard_back)

-- ---- small bodies

pub login_tag : (h : List Entry) → IsWhole h → IsTag standard_rows (spelling (login_body (next_session h))) (login_body (next_session h))
login_tag h whole = record {
  spelled = refl;
  accepted = refl;
  proper = (omega arith, (let few = whole.few_entries in omega (arith, few, few_logins h), tt));
}

pub number_tag : (v : ℕ) → v < 2 ^ 32 → IsTag standard_rows (spelling (revision_body v)) (revision_body v)
number_tag v small = record { spelled = refl; accepted = refl; proper = (omega arith, (small, tt)) }

pub revision_tag : (h : List Entry) → IsWhole h → IsTag standard_rows (spelling (revision_body (revision (batches h)))) (revision_body (revision (batches h)))
revision_tag h whole = number_tag (revision (batches h)) (small_revision h whole)

-- the listing that was applied is that of the share that answered
pub listing_same : (keep : ℕ) (rows : List CodeRow) (m : Mirrored) (answer : Reply) (l : Listing) (h : List Entry) → TellsListing rows m answer l
    → Tells rows answer (listing_body keep h m.target (mirror_look m.query m.meta m.held.revision))
    → l ≡ listing keep (batches h) m.target (mirror_look m.query m.meta m.held.revision)
listing_same keep rows m answer l h t share =
    let body : Tree = listing_body keep h m.target (mirror_look m.query m.meta m.held.revision) in
    let same : t.tag ≡ body = tags_once rows answer.1 t.tag body t.told.1 share.1 in
    listings_are_one m.target m.held.revision l (listing keep (batches h) m.target (mirror_look m.query m.meta m.held.revision)) body
    (subst (λ (tag : Tree). IsListing m.target m.held.revision l tag) same t.is) (answer_is_listing keep (batches h) m.target m.query m.meta m.held.revision)

-- so it has the revision of that share
pub listing_is : (keep : ℕ) (rows : List CodeRow) (m : Mirrored) (answer : Reply) (l : Listing) (h : List Entry) → TellsListing rows m answer l
    → Tells rows answer (listing_body keep h m.target (mirror_look m.query m.meta m.held.revision)) → l.revision ≡ revision (batches h)
listing_is keep rows m answer l h t share =
    ap (λ (x : Listing). x.revision) (listing_same keep rows m answer l h t share)
    ∙ listing_revision keep (batches h) m.target (mirror_look m.query m.meta m.held.revision)

-- ---- rounds

known_of : Known → Stage → Known
known_of other (Closed known listings) = known
known_of other stage = other

ended : (host : List ℕ) (m : Mirrored) (rounds : ℕ) (k last : Known) (ls ms : List Listing) (xs : List Exchange) → Path host m rounds (Closed k ls) xs (Closed last ms)
    → (xs ≡ []) × (last ≡ k)
unfolding known_of
ended host m rounds k last ls ms [] path = (refl, ap (known_of k) path)
ended host m rounds k last ls ms (x ∷ xs) path = absurd (cc)

-- if a round is the last, the logout is answered, otherwise the next revision
behind_last : (host : List ℕ) (m : Mirrored) (rounds : ℕ) (k last : Known) (ls ms : List Listing) (answer : Reply) (v : Stage) (xs : List Exchange) (b : Bool)
    → answer ≡ (204, []) → LeadsOn b k ls answer v → Path host m rounds v xs (Closed last ms) → (xs ≡ []) × (last ≡ k)
behind_last host m rounds k last ls ms answer v xs true is leads path =
    ended host m rounds k last ls ms xs (subst (λ (s : Stage). Path host m rounds s xs (Closed last ms)) leads.1 path)
behind_last host m rounds k last ls ms answer v xs false is leads path =
    absurd (omega (arith, ap (λ (a : Reply). a.0) is, leads.0.1.1.0))

behind_other : (host : List ℕ) (m : Mirrored) (rounds : ℕ) (k last : Known) (ls ms : List Listing) (answer : Reply) (body : List ℕ) (v : Stage) (xs : List Exchange) (b : Bool)
    → answer ≡ (200, body) → LeadsOn b k ls answer v → Path host m rounds v xs (Closed last ms) → Path host m rounds (Asking k ls) xs (Closed last ms)
behind_other host m rounds k last ls ms answer body v xs true is leads path =
    absurd (omega (arith, ap (λ (a : Reply). a.0) is, leads.0))
behind_other host m rounds k last ls ms answer body v xs false is leads path =
    subst (λ (s : Stage). Path host m rounds s xs (Closed last ms)) leads.1 path

pub few : (table : List CodeRow) (tag : Tree) → IsTag table (spelling tag) tag → length (spelling tag) ≤ reply_limit
few table tag is =
    let limits = (and_parts (fits table None tag) (nat_le (levels tag) 32 && nat_le (length (payload tag)) 1073741824) is.accepted).1 in
    let short = leb-true (length (payload tag)) 1073741824 (and_parts (nat_le (levels tag) 32) (nat_le (length (payload tag)) 1073741824) limits).1 in
    omega (arith, payload_length tag, short)

pub tells : (rows : List CodeRow) (answer : Reply) (tag : Tree) → rows ≡ standard_rows → answer ≡ (200, spelling tag) → IsTag standard_rows (spelling tag) tag → Tells rows answer tag
tells rows answer tag standard is read =
    subst (λ (a : Reply). Tells rows a tag) (sym is) (refl, subst (λ (r : List CodeRow). IsTag r (spelling tag) tag) (sym standard) read)

-- the answers in rounds; the table stays
record TellsRounds (keep : ℕ) (target : Target) (query : Option Query) (meta : Meta) (base : ℕ) (k last : Known) (hs : List (List Entry)) (xs : List Exchange) : Type 0 where
  stays : last ≡ k
  told : AreTold keep k.rows target query meta base hs (each_second xs)

rounds_tell : (host : List ℕ) (m : Mirrored) (rounds : ℕ) (s : Settings) (session : ℕ) (target : Target) (query : Option Query) (meta : Meta) (k last : Known) (ls ms : List Listing)
    (base : ℕ) (r : Round) (rs : List Round) (xs : List Exchange) (bytes more : List ℕ) → k.rows ≡ standard_rows → Path host m rounds (Asking k ls) xs (Closed last ms)
    → AreAnswered xs → bytes ≡ messages xs ++ more → ServesRounds s session target query meta base (r ∷ rs) bytes → AllByRecursion IsWhole (points_of (r ∷ rs))
    → TellsRounds s.keep target query meta base k last (listing_points (r ∷ rs)) xs
unfolding listing_points
rounds_tell host m rounds s session target query meta k last ls ms base r rs [] bytes more standard path are same serves whole = absurd (cc)
rounds_tell host m rounds s session target query meta k last ls ms base r rs (x ∷ []) bytes more standard path are same serves whole =
    let bad : Closed last ms ≡ Holding k (ls ++ path.1.1.0 ∷ []) = path.1.2 ∙ path.1.1.2 in absurd (cc)
rounds_tell host m rounds s session target query meta k last ls ms base r [] (x ∷ y ∷ xs) bytes more standard path are same serves whole =
    let tag : Tree = listing_body s.keep r.0 target (mirror_look query meta base) in
    let read = listing_body_read s.keep r.0 target query meta base whole.0 in
    let first = answer_is x.message x.answer (200, spelling tag) bytes (messages (y ∷ xs) ++ more) serves.0 are.0 (split_on x (y ∷ xs) bytes more same)
    (tag_served s (want.Rows session target (mirror_look query meta base)) r.0 bytes serves.0 tag serves.2 refl (few standard_rows tag read)) in
    let second = answer_is y.message y.answer (204, []) serves.0 (messages xs ++ more) serves.1 are.1.0
    (sym first.1 ∙ append_assoc (print_message y.message) (messages xs) more) (empty_served s (want.Logout session) r.1 serves.0 serves.1 serves.3 refl) in
    let rest : Path host m rounds (Holding k (ls ++ path.1.1.0 ∷ [])) (y ∷ xs) (Closed last ms) =
    subst (λ (t : Stage). Path host m rounds t (y ∷ xs) (Closed last ms)) path.1.1.2 path.1.2 in
    let end = behind_last host m rounds k last (ls ++ path.1.1.0 ∷ []) ms y.answer rest.1.0 xs (length (ls ++ path.1.1.0 ∷ []) == rounds) second.0 rest.1.1 rest.1.2 in
    record {
      stays = end.1;
      told = (
        tells k.rows x.answer tag standard first.0 read,
        subst (λ (ys : List Exchange). AreTold s.keep k.rows target query meta (revision (batches r.0)) [] (each_second ys)) (sym end.0) tt,
      );
    }
rounds_tell host m rounds s session target query meta k last ls ms base r (q ∷ rs) (x ∷ y ∷ xs) bytes more standard path are same serves whole =
    let tag : Tree = listing_body s.keep r.0 target (mirror_look query meta base) in
    let read = listing_body_read s.keep r.0 target query meta base whole.0 in
    let first = answer_is x.message x.answer (200, spelling tag) bytes (messages (y ∷ xs) ++ more) serves.0 are.0 (split_on x (y ∷ xs) bytes more same)
    (tag_served s (want.Rows session target (mirror_look query meta base)) r.0 bytes serves.0 tag serves.2 refl (few standard_rows tag read)) in
    let next : Tree = revision_body (revision (batches r.1)) in
    let second = answer_is y.message y.answer (200, spelling next) serves.0 (messages xs ++ more) serves.1 are.1.0
    (sym first.1 ∙ append_assoc (print_message y.message) (messages xs) more)
    (tag_served s (want.Update session (revision (batches r.0))) r.1 serves.0 serves.1 next serves.3 refl (few standard_rows next (revision_tag r.1 whole.1.0))) in
    let rest : Path host m rounds (Holding k (ls ++ path.1.1.0 ∷ [])) (y ∷ xs) (Closed last ms) =
    subst (λ (t : Stage). Path host m rounds t (y ∷ xs) (Closed last ms)) path.1.1.2 path.1.2 in
    let on = behind_other host m rounds k last (ls ++ path.1.1.0 ∷ []) ms y.answer (spelling next) rest.1.0 xs (length (ls ++ path.1.1.0 ∷ []) == rounds) second.0 rest.1.1 rest.1.2 in
    let later = rounds_tell host m rounds s session target query meta k last (ls ++ path.1.1.0 ∷ []) ms (revision (batches r.0)) q rs xs serves.1 more standard on are.1.1 (sym second.1)
    serves.4 whole.1.1 in
    record { stays = later.stays; told = (tells k.rows x.answer tag standard first.0 read, later.told) }

-- ---- from the beginning on

run_tells : (host : List ℕ) (m : Mirrored) (rounds : ℕ) (s : Settings) (h : List Entry) (last : Known) (ms : List Listing) (xs : List Exchange) (bytes more : List ℕ)
    → Path host m rounds Begun xs (Closed last ms) → AreAnswered xs → bytes ≡ messages xs ++ more → (run : ServesRun s m.target m.query m.meta h bytes) → IsWhole h
    → AreTold s.keep last.rows m.target m.query m.meta 0 (listing_points (run.first ∷ run.others)) (rounds_in xs)
unfolding listing_points
run_tells host m rounds s h last ms [] bytes more path are same run whole = absurd (cc)
run_tells host m rounds s h last ms (x ∷ []) bytes more path are same run whole = let bad : Closed last ms ≡ Learned path.1.1.0 = path.1.2 ∙ path.1.1.2 in absurd (cc)
run_tells host m rounds s h last ms (x ∷ y ∷ xs) bytes more path are same run whole =
    let points = each_whole (run.table ∷ run.login ∷ points_of (run.first ∷ run.others)) h run.rise whole in
    let table = answer_is x.message x.answer (200, spelling (table_reply standard_rows)) bytes (messages (y ∷ xs) ++ more) run.behind_table are.0 (split_on x (y ∷ xs) bytes more same)
    (tag_served s want.Codes run.table bytes run.behind_table (table_reply standard_rows) run.told refl (few standard_rows (table_reply standard_rows) table_tag)) in
    let standard : path.1.1.0 ≡ standard_rows = learned x.answer path.1.1.0 table.0 path.1.1.1 in
    let login = answer_is y.message y.answer (200, spelling (login_body (next_session run.login))) run.behind_table (messages xs ++ more) run.behind_login are.1.0
    (sym table.1 ∙ append_assoc (print_message y.message) (messages xs) more)
    (tag_served s want.Login run.login run.behind_table run.behind_login (login_body (next_session run.login)) run.entered refl (few standard_rows (login_body (next_session run.login)) (login_tag run.login points.1.0))) in
    let second : Path host m rounds (Learned path.1.1.0) (y ∷ xs) (Closed last ms) =
    subst (λ (t : Stage). Path host m rounds t (y ∷ xs) (Closed last ms)) path.1.1.2 path.1.2 in
    let k : Known = record { session = second.1.1.0; rows = path.1.1.0 } in
    let third : Path host m rounds (Asking k []) xs (Closed last ms) =
    subst (λ (t : Stage). Path host m rounds t xs (Closed last ms)) second.1.1.2 second.1.2 in
    let told = rounds_tell host m rounds s (next_session run.login) m.target m.query m.meta k last [] ms 0 run.first run.others xs run.behind_login more standard third are.1.1 (sym login.1)
    run.rounds points.1.1 in
    subst (λ (o : Known). AreTold s.keep o.rows m.target m.query m.meta 0 (listing_points (run.first ∷ run.others)) (each_second xs)) (sym told.stays) told.told

-- ---- the rows

last_told : (held : Held) (l : Listing) (ls : List Listing) → last_revision (all_applied held (l ∷ ls)) ≡ (held_after held (l ∷ ls)).revision
last_told held l [] = refl
last_told held l (k ∷ ls) = last_told (mirror_after held l) k ls

pub held_last : (held : Held) (ls : List Listing) → 1 ≤ length ls → last_revision (all_applied held ls) ≡ (held_after held ls).revision
held_last held [] some = absurd (omega (arith, some))
held_last held (l ∷ ls) some = last_told held l ls

-- the history at the revision of one of its prefixes has the batches of that prefix
pub point_batches : (h point later : List Entry) → h ≡ point ++ later → batches (at_revision h (revision (batches point))) ≡ batches point
point_batches h point later same =
    batches-at_revision h (revision (batches point)) ∙ ap (λ (bs : List (List Edit)). up_to bs (revision (batches point))) (ap batches same ∙ batches-append point later)
    ∙ taken (batches point) (batches later)
  where
    take-front : (xs ys : List (List Edit)) → take (length xs) (xs ++ ys) ≡ xs
    take-front [] ys = refl
    take-front (x ∷ xs) ys = ap (λ (l : List (List Edit)). x ∷ l) (take-front xs ys)

    taken : (xs ys : List (List Edit)) → up_to (xs ++ ys) (revision xs) ≡ xs
    taken xs ys = ap (λ (n : ℕ). take n (xs ++ ys)) (omega arith) ∙ take-front xs ys

pub followers_hold_the_rows : FollowersHoldTheRows
unfolding listing_points
followers_hold_the_rows host m rounds p taken applied now s h bytes f positive nothing whole owed run =
    let split = owed_split p.owed f.there.owed bytes (messages f.walks.exchanges) owed f.walks.went.read in
    let told = run_tells host m rounds s h f.known f.listings f.walks.exchanges bytes split.0 f.walks.path f.walks.went.answered split.1 run whole in
    let last : List Entry = last_point run.first.0 (listing_points run.others) in
    let rise : Rise (points_of (run.first ∷ run.others)) h = run.rise.1.1 in
    let held : now.held ≡ mirrored (batches last) m.target m.query m.meta =
    followers_hold_what_the_share_has host m rounds p taken applied now s.keep run.first.0 (listing_points run.others) f nothing (never_fall run.first run.others h rise) told in
    let begins = last_begins run.first run.others h rise in
    let v : last_revision applied ≡ revision (batches last) =
    ap last_revision f.told ∙ held_last m.held f.listings some ∙ sym (ap (λ (n : Mirrored). n.held.revision) f.holds) ∙ ap (λ (x : Held). x.revision) held in
    ap (λ (x : Held). x.rows) held
    ∙ ap (λ (bs : List (List Edit)). shown_rows m.target m.meta (rows (edits bs) m.target m.query)) (sym (point_batches h last begins.0 begins.1))
    ∙ ap (λ (n : ℕ). rows_at h m.target m.query m.meta n) (sym v)
  where
    some : 1 ≤ length f.listings
    some = let each = f.one_each in omega (arith, each, positive)
