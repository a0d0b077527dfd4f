-- A mirror that followed a share applied the share's listings, and so holds what the share has.
use Rattle.std.proofs.Common.{◌≡◌, ℕ, ◌==◌, List, [], ◌∷◌, ◌++◌, length, Bool, true, false, cond, refl, sym, ap, ◌∙◌, subst, append_assoc, append-nil}
use Rattle.code_table.specs.declared.row.CodeRow.{CodeRow}
use Rattle.item_model.specs.declared.changes.Edit.{Edit}
use Rattle.item_model.specs.declared.changes.Entry.{Entry}
use Rattle.item_model.specs.declared.request.Look.{Look}
use Rattle.item_model.specs.declared.request.Target.{Target}
use Rattle.share_history.specs.Bodies.{listing_body}
use Rattle.share_history.specs.Histories.{batches, revision}
use Rattle.share_history.specs.Kept.{is_kept}
use Rattle.share_history.specs.Listings.{Listing, delta_listing, full_listing, listing}
use Rattle.share_history.specs.Mirror.{Held, mirror_look}
use Rattle.mirror_core.specs.Bodies.{IsListing}
use Rattle.mirror_core.specs.Mirrored.{Mirrored}
use Rattle.mirror_core.proofs.AfterFacts.{answer_is_listing}
use Rattle.mirror_core.proofs.LawFacts.{listings_are_one}
use Rattle.http_client.specs.Replies.{Reply}
use Rattle.mirror_client.specs.Exchanges.{Exchange}
use Rattle.mirror_client.specs.Laws.{AreAnswers, AreTold, FollowersHoldWhatTheShareHas, each_second, rounds_in}
use Rattle.mirror_client.specs.Stages.{Asking, Begun, Closed, Holding, LeadsOn, Learned, Path, Stage, listings_in}
use Rattle.mirror_client.specs.Steps.{Known, TellsListing, held_after, with_listings}
use Rattle.mirror_client.specs.Tellings.{Tells}
use Rattle.mirror_client.proofs.FilterFacts.{followers_hold_the_filter}
use Rattle.mirror_client.proofs.StageFacts.{held_more}
use Rattle.mirror_client.proofs.TellingFacts.{tags_once}

by_kept : (b : Bool) (bs : List (List Edit)) (target : Target) (look : Look) (base : ℕ)
    → (cond b (delta_listing bs target look base) (full_listing bs target look)).revision ≡ revision bs
by_kept true bs target look base = refl
by_kept false bs target look base = refl

listing_revision : (keep : ℕ) (bs : List (List Edit)) (target : Target) (look : Look) → (listing keep bs target look).revision ≡ revision bs
listing_revision keep bs target look = by_kept (is_kept keep bs target look.base) bs target look look.base

-- the listing that was applied is the one that the share answered with
pub told_listing : (keep : ℕ) (rows : List CodeRow) (m : Mirrored) (answer : Reply) (l : Listing) (h : List Entry) → TellsListing rows m answer l
    → Tells rows answer (listing_body keep h m.target (mirror_look m.query m.meta m.held.revision))
    → l ≡ listing keep (batches h) m.target (mirror_look m.query m.meta m.held.revision)
told_listing keep rows m answer l h t share =
    let same = tags_once rows answer.1 t.tag (listing_body keep h m.target (mirror_look m.query m.meta m.held.revision)) t.told.1 share.1 in
    listings_are_one m.target m.held.revision l (listing keep (batches h) m.target (mirror_look m.query m.meta m.held.revision))
    (listing_body keep h m.target (mirror_look m.query m.meta m.held.revision))
    (subst (λ tag. IsListing m.target m.held.revision l tag) same t.is)
    (answer_is_listing keep (batches h) m.target m.query m.meta m.held.revision)

known_of : Known → Stage → Known
known_of other (Closed known listings) = known
known_of other stage = other

-- at the end there is no request
ended : (host : List ℕ) (m : Mirrored) (rounds : ℕ) (k last : Known) (ls ms : List Listing) (xs : List Exchange) → Path host m rounds (Closed k ls) xs (Closed last ms)
    → (xs ≡ []) × (last ≡ k) × (ms ≡ ls)
unfolding known_of
ended host m rounds k last ls ms [] path = (refl, ap (known_of k) path, ap listings_in path)
ended host m rounds k last ls ms (x ∷ xs) path = absurd (cc)

-- what follows the answer after a round, by what follows a further round
behind : (host : List ℕ) (m : Mirrored) (rounds : ℕ) (k last : Known) (ls ms : List Listing) (answer : Reply) (v : Stage) (xs : List Exchange) (G : Type 0) (b : Bool)
    → LeadsOn b k ls answer v → Path host m rounds v xs (Closed last ms) → ((xs ≡ []) × (last ≡ k) × (ms ≡ ls) → G)
    → (Path host m rounds (Asking k ls) xs (Closed last ms) → G) → G
behind host m rounds k last ls ms answer v xs G true leads path done again =
    done (ended host m rounds k last ls ms xs (subst (λ (s : Stage). Path host m rounds s xs (Closed last ms)) leads.1 path))
behind host m rounds k last ls ms answer v xs G false leads path done again =
    again (subst (λ (s : Stage). Path host m rounds s xs (Closed last ms)) leads.1 path)

-- the table and the session stay
known_stays : (host : List ℕ) (m : Mirrored) (rounds : ℕ) (k last : Known) (ls ms : List Listing) (xs : List Exchange) → Path host m rounds (Asking k ls) xs (Closed last ms)
    → last ≡ k
known_stays host m rounds k last ls ms [] path = absurd (cc)
known_stays host m rounds k last ls ms (x ∷ []) path = let bad : Closed last ms ≡ Holding k (ls ++ path.1.1.0 ∷ []) = path.1.2 ∙ path.1.1.2 in absurd (cc)
known_stays host m rounds k last ls ms (x ∷ y ∷ xs) path =
    let l : Listing = path.1.1.0 in
    let rest : Path host m rounds (Holding k (ls ++ path.1.1.0 ∷ [])) (y ∷ xs) (Closed last ms) =
    subst (λ (s : Stage). Path host m rounds s (y ∷ xs) (Closed last ms)) path.1.1.2 path.1.2 in
    behind host m rounds k last (ls ++ path.1.1.0 ∷ []) ms y.answer rest.1.0 xs (last ≡ k) (length (ls ++ path.1.1.0 ∷ []) == rounds) rest.1.1 rest.1.2
    (λ end. end.1) (λ more. known_stays host m rounds k last (ls ++ path.1.1.0 ∷ []) ms xs more)

-- the listings that are applied from here are the share's answers
abbrev Serves : ℕ → Mirrored → List Listing → List (List Entry) → List Listing → Type 0
Serves keep m ls hs ms = (ns : List Listing) × (ms ≡ ls ++ ns) × AreAnswers keep m.target m.query m.meta (held_after m.held ls).revision hs ns

none_more : (keep : ℕ) (rows : List CodeRow) (m : Mirrored) (ls ms : List Listing) (base : ℕ) (hs : List (List Entry)) (xs : List Exchange) → xs ≡ [] → ms ≡ ls
    → AreTold keep rows m.target m.query m.meta base hs (each_second xs) → (hs ≡ []) × (ms ≡ ls)
none_more keep rows m ls ms base [] xs none same told = (refl, same)
none_more keep rows m ls ms base (h ∷ hs) [] none same told = absurd told
none_more keep rows m ls ms base (h ∷ hs) (x ∷ xs) none same told = absurd (cc)

serves_none : (keep : ℕ) (m : Mirrored) (ls ms : List Listing) (hs : List (List Entry)) → hs ≡ [] → ms ≡ ls → Serves keep m ls hs ms
serves_none keep m ls ms hs none same =
    ([], same ∙ sym (append-nil ls), subst (λ (k : List (List Entry)). AreAnswers keep m.target m.query m.meta (held_after m.held ls).revision k []) (sym none) tt)

serves_one : (keep : ℕ) (m : Mirrored) (ls ms : List Listing) (l : Listing) (h : List Entry) (hs : List (List Entry))
    → l ≡ listing keep (batches h) m.target (mirror_look m.query m.meta (held_after m.held ls).revision)
    → (held_after m.held (ls ++ l ∷ [])).revision ≡ revision (batches h) → Serves keep m (ls ++ l ∷ []) hs ms → Serves keep m ls (h ∷ hs) ms
serves_one keep m ls ms l h hs is base s = (
  l ∷ s.0,
  s.1 ∙ append_assoc ls (l ∷ []) s.0,
  (is, subst (λ (b : ℕ). AreAnswers keep m.target m.query m.meta b hs s.0) base s.2),
)

serves : (host : List ℕ) (m : Mirrored) (rounds keep : ℕ) (k last : Known) (ls ms : List Listing) (hs : List (List Entry)) (xs : List Exchange)
    → Path host m rounds (Asking k ls) xs (Closed last ms)
    → AreTold keep k.rows m.target m.query m.meta (held_after m.held ls).revision hs (each_second xs) → Serves keep m ls hs ms
serves host m rounds keep k last ls ms hs [] path told = absurd (cc)
serves host m rounds keep k last ls ms hs (x ∷ []) path told =
    let bad : Closed last ms ≡ Holding k (ls ++ path.1.1.0 ∷ []) = path.1.2 ∙ path.1.1.2 in absurd (cc)
serves host m rounds keep k last ls ms [] (x ∷ y ∷ xs) path told = absurd told
serves host m rounds keep k last ls ms (h ∷ hs) (x ∷ y ∷ xs) path told =
    let rest : Path host m rounds (Holding k (ls ++ path.1.1.0 ∷ [])) (y ∷ xs) (Closed last ms) =
    subst (λ (s : Stage). Path host m rounds s (y ∷ xs) (Closed last ms)) path.1.1.2 path.1.2 in
    let is = told_listing keep k.rows (with_listings m ls) x.answer path.1.1.0 h path.1.1.1 told.0 in
    let base : (held_after m.held (ls ++ path.1.1.0 ∷ [])).revision ≡ revision (batches h) =
    ap (λ (held : Held). held.revision) (held_more m.held ls path.1.1.0) ∙ ap (λ (l : Listing). l.revision) is
    ∙ listing_revision keep (batches h) m.target (mirror_look m.query m.meta (held_after m.held ls).revision) in
    let later : AreTold keep k.rows m.target m.query m.meta (held_after m.held (ls ++ path.1.1.0 ∷ [])).revision hs (each_second xs) =
    subst (λ (b : ℕ). AreTold keep k.rows m.target m.query m.meta b hs (each_second xs)) (sym base) told.1 in
    serves_one keep m ls ms path.1.1.0 h hs is base
    (behind host m rounds k last (ls ++ path.1.1.0 ∷ []) ms y.answer rest.1.0 xs (Serves keep m (ls ++ path.1.1.0 ∷ []) hs ms)
    (length (ls ++ path.1.1.0 ∷ []) == rounds) rest.1.1 rest.1.2
    (λ end. let done = none_more keep k.rows m (ls ++ path.1.1.0 ∷ []) ms (held_after m.held (ls ++ path.1.1.0 ∷ [])).revision hs xs end.0 end.2 later in
    serves_none keep m (ls ++ path.1.1.0 ∷ []) ms hs done.0 done.1)
    (λ more. serves host m rounds keep k last (ls ++ path.1.1.0 ∷ []) ms hs xs more later))

-- from the beginning on
begins : (host : List ℕ) (m : Mirrored) (rounds keep : ℕ) (last : Known) (ms : List Listing) (hs : List (List Entry)) (xs : List Exchange)
    → Path host m rounds Begun xs (Closed last ms) → AreTold keep last.rows m.target m.query m.meta m.held.revision hs (rounds_in xs) → Serves keep m [] hs ms
begins host m rounds keep last ms hs [] path told = absurd (cc)
begins host m rounds keep last ms hs (x ∷ []) path told = let bad : Closed last ms ≡ Learned path.1.1.0 = path.1.2 ∙ path.1.1.2 in absurd (cc)
begins host m rounds keep last ms hs (x ∷ y ∷ xs) path told =
    let second : Path host m rounds (Learned path.1.1.0) (y ∷ xs) (Closed last ms) =
    subst (λ (s : Stage). Path host m rounds s (y ∷ xs) (Closed last ms)) path.1.1.2 path.1.2 in
    let k : Known = record { session = second.1.1.0; rows = path.1.1.0 } in
    let third : Path host m rounds (Asking (record { session = second.1.1.0; rows = path.1.1.0 }) []) xs (Closed last ms) =
    subst (λ (s : Stage). Path host m rounds s xs (Closed last ms)) second.1.1.2 second.1.2 in
    let same : last ≡ record { session = second.1.1.0; rows = path.1.1.0 } =
    known_stays host m rounds (record { session = second.1.1.0; rows = path.1.1.0 }) last [] ms xs third in
    serves host m rounds keep (record { session = second.1.1.0; rows = path.1.1.0 }) last [] ms hs xs third
    (subst (λ (x : Known). AreTold keep x.rows m.target m.query m.meta m.held.revision hs (each_second xs)) same told)

pub followers_hold_what_the_share_has : FollowersHoldWhatTheShareHas
followers_hold_what_the_share_has host m rounds p taken applied now keep h hs f nothing fall told =
    let s : Serves keep m [] (h ∷ hs) f.listings =
    begins host m rounds keep f.known f.listings (h ∷ hs) f.walks.exchanges f.walks.path
    (subst (λ (b : ℕ). AreTold keep f.known.rows m.target m.query m.meta b (h ∷ hs) (rounds_in f.walks.exchanges)) (sym nothing) told) in
    ap (λ (n : Mirrored). n.held) f.holds ∙ ap (held_after m.held) s.1
    ∙ followers_hold_the_filter keep m.target m.query m.meta m.held h hs s.0 fall
    (subst (λ (b : ℕ). AreAnswers keep m.target m.query m.meta b (h ∷ hs) s.0) nothing s.2)
