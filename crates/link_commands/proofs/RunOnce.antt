-- The bytes of a connection lead a client in one way only: if they have the replies of a whole run, it stops at none of
-- them.
use Rattle.std.proofs.Common.{◌≡◌, ◌≤◌, ◌==◌, ◌++◌, ◌∷◌, ℕ, List, [], length, Bool, true, false, Option, Some, None, Result, Ok, Err, refl, sym, ap, ◌∙◌, subst, inl, inr, arith}
use Rattle.dmap_tags.specs.Codes.{Four, code}
use Rattle.dmap_tags.specs.Tree.{Tree}
use Rattle.code_table.specs.declared.reply.CodeError.{CodeError}
use Rattle.code_table.specs.declared.row.CodeRow.{CodeRow}
use Rattle.code_table.specs.Reply.{table_of}
use Rattle.code_table.specs.Standard.{standard_rows}
use Rattle.share_history.specs.Listings.{Listing}
use Rattle.http_client.specs.Replies.{Reply}
use Rattle.mirror_core.specs.Bodies.{IsListing}
use Rattle.mirror_core.specs.declared.mirror.MirrorError.{MirrorError}
use Rattle.mirror_core.specs.declared.mirror.MirrorError.TheVariants as mirror
use Rattle.mirror_core.specs.Mirrored.{Mirrored}
use Rattle.mirror_core.proofs.LawFacts.{listings_are_not_stuck, listings_are_one}
use Rattle.mirror_client.specs.declared.refusal.FollowError.{FollowError}
use Rattle.mirror_client.specs.declared.refusal.FollowError.TheVariants.{Refused, BadReply, Ended, Listing as not_taken, Codes, LinkFault, Memory}
use Rattle.mirror_client.specs.Exchanges.{AreAnswered, Exchange, messages}
use Rattle.mirror_client.specs.Points.{Point}
use Rattle.mirror_client.specs.Stages.{Asking, Begun, Closed, Holding, Leads, LeadsOn, Learned, Path, Stage, StopsFrom, UnexpectedAfter, UnexpectedIn, due}
use Rattle.mirror_client.specs.Steps.{IsRefusedBy, Known, TellsListing, TellsTable, UnexpectedEnd, UnexpectedListing, UnexpectedTable, with_listings}
use Rattle.mirror_client.specs.Stopping.{Stops}
use Rattle.mirror_client.specs.Tellings.{TellsNumber, UnexpectedNumber, number_told}
use Rattle.mirror_client.proofs.TellingFacts.{tags_once}
use Rattle.link_commands.proofs.FirstReply.{Begins, IsOutside, answer_is, left_owed, owed_split, split_on, stops_outside}
use Rattle.link_commands.specs.Decided.{BeginsRun}

-- ---- a reply has one content

some_or : Option ℕ → ℕ → ℕ
some_or None n = n
some_or (Some k) n = k

number_once : (c : Four) (rows : List CodeRow) (answer : Reply) (n k : ℕ) → TellsNumber c rows answer n → TellsNumber c rows answer k → n ≡ k
unfolding some_or
number_once c rows answer n k a b =
    let same : Some n ≡ Some k = sym a.2 ∙ ap (number_told c) (tags_once rows answer.1 a.0 b.0 a.1.1 b.1.1) ∙ b.2 in
    ap (λ (o : Option ℕ). some_or o n) same

rows_or : Result (List CodeRow) CodeError → List CodeRow → List CodeRow
rows_or (Err error) rows = rows
rows_or (Ok found) rows = found

abbrev found : List CodeRow → Result (List CodeRow) CodeError
found rows = Ok rows

table_once : (answer : Reply) (rows others : List CodeRow) → TellsTable answer rows → TellsTable answer others → rows ≡ others
unfolding rows_or
table_once answer rows others a b =
    let same : found rows ≡ found others = sym a.2 ∙ ap table_of (tags_once standard_rows answer.1 a.0 b.0 a.1.1 b.1.1) ∙ b.2 in
    ap (λ (r : Result (List CodeRow) CodeError). rows_or r rows) same

listing_once : (rows : List CodeRow) (m : Mirrored) (answer : Reply) (l k : Listing) → TellsListing rows m answer l → TellsListing rows m answer k → l ≡ k
listing_once rows m answer l k a b =
    listings_are_one m.target m.held.revision l k b.tag
    (subst (λ (tag : Tree). IsListing m.target m.held.revision l tag) (tags_once rows answer.1 a.tag b.tag a.told.1 b.told.1) a.is) b.is

leads_on_once : (last : Bool) (known : Known) (ls : List Listing) (answer : Reply) (u v : Stage) → LeadsOn last known ls answer u → LeadsOn last known ls answer v → u ≡ v
leads_on_once true known ls answer u v a b = a.1 ∙ sym b.1
leads_on_once false known ls answer u v a b = a.1 ∙ sym b.1

-- a reply leads to one stage
leads_once : (m : Mirrored) (rounds : ℕ) (s : Stage) (answer : Reply) (u v : Stage) → Leads m rounds s answer u → Leads m rounds s answer v → u ≡ v
leads_once m rounds Begun answer u v a b = a.2 ∙ ap (λ (rows : List CodeRow). Learned rows) (table_once answer a.0 b.0 a.1 b.1) ∙ sym b.2
leads_once m rounds (Learned rows) answer u v a b =
    a.2 ∙ ap (λ (n : ℕ). Asking (record { session = n; rows = rows }) []) (number_once (code "mlid") rows answer a.0 b.0 a.1 b.1) ∙ sym b.2
leads_once m rounds (Asking known ls) answer u v a b =
    a.2 ∙ ap (λ (l : Listing). Holding known (ls ++ l ∷ [])) (listing_once known.rows (with_listings m ls) answer a.0 b.0 a.1 b.1) ∙ sym b.2
leads_once m rounds (Holding known ls) answer u v a b = leads_on_once (length ls == rounds) known ls answer u v a b
leads_once m rounds (Closed known ls) answer u v a b = absurd a

-- ---- a reply that leads on is not unexpected

table_or_none : (rows : List CodeRow) (error : CodeError) (r : Result (List CodeRow) CodeError) → r ≡ Ok rows → r ≡ Err error → ⊥
table_or_none rows error r some none = let bad : found rows ≡ Err error = sym some ∙ none in absurd (cc)

table_due : (answer : Reply) (rows : List CodeRow) (used : ℕ) (e : FollowError) → TellsTable answer rows → UnexpectedTable used answer e → IsOutside e
table_due answer rows used (Refused status) a h = absurd (h.1 a.1.0)
table_due answer rows used (BadReply at) a h = absurd (h.1 a.0 a.1.1)
table_due answer rows used (Ended at) a h = absurd h
table_due answer rows used (not_taken error) a h = absurd h
table_due answer rows used (Codes error) a h =
    absurd (table_or_none rows error (table_of h.0) (ap table_of (tags_once standard_rows answer.1 h.0 a.0 h.1.1 a.1.1) ∙ a.2) h.2.1)
table_due answer rows used LinkFault a h = inl refl
table_due answer rows used Memory a h = inr refl

number_due : (c : Four) (rows : List CodeRow) (answer : Reply) (n used : ℕ) (e : FollowError) → TellsNumber c rows answer n → UnexpectedNumber c rows used answer e → IsOutside e
number_due c rows answer n used (Refused status) a h = absurd (h.1 a.1.0)
number_due c rows answer n used (BadReply at) a h = let bad : Some n ≡ None = sym a.2 ∙ h.1 a.0 a.1.1 in absurd (cc)
number_due c rows answer n used (Ended at) a h = absurd h
number_due c rows answer n used (not_taken error) a h = absurd h
number_due c rows answer n used (Codes error) a h = absurd h
number_due c rows answer n used LinkFault a h = inl refl
number_due c rows answer n used Memory a h = inr refl

taken_or_refused : (m : Mirrored) (tag : Tree) (l : Listing) (error : MirrorError) → IsListing m.target m.held.revision l tag → m.held.revision ≤ l.revision
    → IsRefusedBy m tag error → ⊥
taken_or_refused m tag l (mirror.NotListing index) is later refused = listings_are_not_stuck m.target m.held.revision l tag index is refused
taken_or_refused m tag l (mirror.Backwards held told) is later refused =
    omega (
      arith,
      later,
      ap (λ (k : Listing). k.revision) (listings_are_one m.target m.held.revision refused.0 l tag refused.1 is),
      refused.2,
      refused.3,
      refused.4,
    )
taken_or_refused m tag l mirror.Memory is later refused = refused

listing_due : (rows : List CodeRow) (m : Mirrored) (answer : Reply) (l : Listing) (used : ℕ) (e : FollowError) → TellsListing rows m answer l → UnexpectedListing rows m used answer e
    → IsOutside e
listing_due rows m answer l used (Refused status) a h = absurd (h.1 a.told.0)
listing_due rows m answer l used (BadReply at) a h = absurd (h.1 a.tag a.told.1)
listing_due rows m answer l used (Ended at) a h = absurd h
listing_due rows m answer l used (not_taken error) a h =
    let same : a.tag ≡ h.0 = tags_once rows answer.1 a.tag h.0 a.told.1 h.1.1 in
    absurd (taken_or_refused m h.0 l error (subst (λ (tag : Tree). IsListing m.target m.held.revision l tag) same a.is) a.later h.2)
listing_due rows m answer l used (Codes error) a h = absurd h
listing_due rows m answer l used LinkFault a h = inl refl
listing_due rows m answer l used Memory a h = inr refl

end_due : (answer : Reply) (used : ℕ) (e : FollowError) → answer.0 ≡ 204 → UnexpectedEnd used answer e → IsOutside e
end_due answer used (Refused status) a h = absurd (h.1 a)
end_due answer used (BadReply at) a h = absurd h
end_due answer used (Ended at) a h = absurd h
end_due answer used (not_taken error) a h = absurd h
end_due answer used (Codes error) a h = absurd h
end_due answer used LinkFault a h = inl refl
end_due answer used Memory a h = inr refl

behind_due : (last : Bool) (known : Known) (ls : List Listing) (answer : Reply) (u : Stage) (used : ℕ) (e : FollowError) → LeadsOn last known ls answer u
    → UnexpectedAfter last known used answer e → IsOutside e
behind_due true known ls answer u used e a h = end_due answer used e a.0 h
behind_due false known ls answer u used e a h = number_due (code "musr") known.rows answer a.0.0 used e a.0.1 h

leads_due : (m : Mirrored) (rounds : ℕ) (s : Stage) (answer : Reply) (u : Stage) (used : ℕ) (e : FollowError) → Leads m rounds s answer u → UnexpectedIn m rounds s used answer e
    → IsOutside e
leads_due m rounds Begun answer u used e a h = table_due answer a.0 used e a.1 h
leads_due m rounds (Learned rows) answer u used e a h = number_due (code "mlid") rows answer a.0 used e a.1 h
leads_due m rounds (Asking known ls) answer u used e a h = listing_due known.rows (with_listings m ls) answer a.0 used e a.1 h
leads_due m rounds (Holding known ls) answer u used e a h = behind_due (length ls == rounds) known ls answer u used e a h
leads_due m rounds (Closed known ls) answer u used e a h = absurd a

-- ---- one way

-- at the end no further request is sent
none_due : (host : List ℕ) (m : Mirrored) (rounds : ℕ) (s : Stage) (known : Known) (ls : List Listing) (request : List ℕ) → s ≡ Closed known ls → due host m rounds s ≡ Some request → ⊥
none_due host m rounds s known ls request closed asked =
    let bad : None ≡ Some request = ap (λ (t : Stage). due host m rounds t) (sym closed) ∙ asked in absurd (cc)

begins_with : (x : Exchange) (xs : List Exchange) (bytes rest : List ℕ) → AreAnswered (x ∷ xs) → bytes ≡ messages (x ∷ xs) ++ rest → Begins bytes (messages xs ++ rest) x.answer
begins_with x xs bytes rest answered split = record { message = x.message; is = answered.0; split = split_on x xs bytes rest split }

stops_not : (host : List ℕ) (m : Mirrored) (rounds : ℕ) (s t : Stage) (known : Known) (ls : List Listing) (xs ys : List Exchange) (bytes rest more request : List ℕ) (p : Point)
    (taken : Option (List ℕ)) (e : FollowError) → Path host m rounds s xs (Closed known ls) → AreAnswered xs → bytes ≡ messages xs ++ rest → Path host m rounds s ys t → AreAnswered ys
    → bytes ≡ messages ys ++ more → due host m rounds t ≡ Some request → p.owed ≡ Some more → Stops request (UnexpectedIn m rounds t) p taken e → IsOutside e
stops_not host m rounds s t known ls [] [] bytes rest more request p taken e whole answered split path answers on asked owed stops =
    absurd (none_due host m rounds t known ls request (path ∙ sym whole) asked)
stops_not host m rounds s t known ls [] (y ∷ ys) bytes rest more request p taken e whole answered split path answers on asked owed stops =
    absurd (none_due host m rounds s known ls y.request (sym whole) path.0)
stops_not host m rounds s t known ls (x ∷ xs) [] bytes rest more request p taken e whole answered split path answers on asked owed stops =
    stops_outside request (UnexpectedIn m rounds s) p taken e bytes (messages xs ++ rest) x.answer (owed ∙ ap (λ (l : List ℕ). Some l) (sym on)) (begins_with x xs bytes rest answered split)
    (λ used h. leads_due m rounds s x.answer whole.1.0 used e whole.1.1 h) (subst (λ (stage : Stage). Stops request (UnexpectedIn m rounds stage) p taken e) path stops)
stops_not host m rounds s t known ls (x ∷ xs) (y ∷ ys) bytes rest more request p taken e whole answered split path answers on asked owed stops =
    let first = answer_is y.message y.answer x.answer bytes (messages ys ++ more) (messages xs ++ rest) answers.0 (split_on y ys bytes more on) (begins_with x xs bytes rest answered split) in
    let same : path.1.0 ≡ whole.1.0 =
    leads_once m rounds s x.answer path.1.0 whole.1.0 (subst (λ (answer : Reply). Leads m rounds s answer path.1.0) first.0 path.1.1) whole.1.1 in
    stops_not host m rounds whole.1.0 t known ls xs ys (messages xs ++ rest) rest more request p taken e whole.1.2 answered.1 refl
    (subst (λ (stage : Stage). Path host m rounds stage ys t) same path.1.2) answers.1 (sym first.1) asked owed stops

-- a whole run is not stopped by what the peer sends
pub whole_run_goes_on : (host : List ℕ) (m now : Mirrored) (rounds : ℕ) (p : Point) (taken : Option (List ℕ)) (e : FollowError) (bytes : List ℕ) → p.owed ≡ Some bytes
    → BeginsRun host m rounds bytes → StopsFrom host m rounds Begun p taken e now → IsOutside e
whole_run_goes_on host m now rounds p taken e bytes owed run x =
    let split = owed_split p.owed x.there.owed bytes (messages x.walks.exchanges) owed x.walks.went.read in
    stops_not host m rounds Begun x.stage run.known run.listings run.exchanges x.walks.exchanges bytes run.rest split.0 x.request x.there taken e run.path run.answered run.split
    x.walks.path x.walks.went.answered split.1 x.is_due (left_owed p.owed x.there.owed bytes (messages x.walks.exchanges) owed x.walks.went.read) x.stops
