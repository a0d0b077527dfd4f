-- A mirror that applied the answers of a share, one after another, holds what the share has.
use Rattle.std.proofs.Common.{◌≡◌, ℕ, List, [], ◌∷◌, ◌++◌, Option, sym, ap, ◌∙◌}
use Rattle.item_model.specs.declared.changes.Entry.{Entry}
use Rattle.item_model.specs.declared.query.Query.{Query}
use Rattle.item_model.specs.declared.request.Meta.{Meta}
use Rattle.item_model.specs.declared.request.Target.{Target}
use Rattle.share_history.specs.Histories.{batches, revision}
use Rattle.share_history.specs.Listings.{Listing, listing}
use Rattle.share_history.specs.Mirror.{Held, mirror_after, mirrored, mirror_look}
use Rattle.share_history.proofs.EditFacts.{batches-append}
use Rattle.share_history.proofs.MirrorFacts.{full_listings_suffice, mirrors_catch_up}
use Rattle.mirror_client.specs.Laws.{AreAnswers, FollowersHoldTheFilter, NeverFall, last_point}
use Rattle.mirror_client.specs.Steps.{held_after}

-- one more answer
pub caught_up : (keep : ℕ) (target : Target) (query : Option Query) (meta : Meta) (h later k : List Entry) (held : Held) (l : Listing) → k ≡ h ++ later
    → held ≡ mirrored (batches h) target query meta → l ≡ listing keep (batches k) target (mirror_look query meta (revision (batches h)))
    → mirror_after held l ≡ mirrored (batches k) target query meta
caught_up keep target query meta h later k held l further holds is =
    let both : batches k ≡ batches h ++ batches later = ap batches further ∙ batches-append h later in
    ap (λ (x : Held). mirror_after x l) holds ∙ ap (λ (x : Listing). mirror_after (mirrored (batches h) target query meta) x) is
    ∙ ap (λ bs. mirror_after (mirrored (batches h) target query meta) (listing keep bs target (mirror_look query meta (revision (batches h))))) both
    ∙ mirrors_catch_up keep (batches h) (batches later) target query meta
    ∙ ap (λ bs. mirrored bs target query meta) (sym both)

follows : (keep : ℕ) (target : Target) (query : Option Query) (meta : Meta) (h : List Entry) (hs : List (List Entry)) (ls : List Listing) (held : Held)
    → held ≡ mirrored (batches h) target query meta → NeverFall h hs → AreAnswers keep target query meta (revision (batches h)) hs ls
    → held_after held ls ≡ mirrored (batches (last_point h hs)) target query meta
follows keep target query meta h [] [] held holds fall are = holds
follows keep target query meta h [] (l ∷ ls) held holds fall are = absurd are
follows keep target query meta h (k ∷ hs) [] held holds fall are = absurd are
follows keep target query meta h (k ∷ hs) (l ∷ ls) held holds fall are =
    follows keep target query meta k hs ls (mirror_after held l) (caught_up keep target query meta h fall.0.0 k held l fall.0.1 holds are.0) fall.1 are.1

pub followers_hold_the_filter : FollowersHoldTheFilter
followers_hold_the_filter keep target query meta nothing h hs [] fall are = absurd are
followers_hold_the_filter keep target query meta nothing h hs (l ∷ ls) fall are =
    follows keep target query meta h hs ls (mirror_after nothing l)
    (ap (λ (x : Listing). mirror_after nothing x) are.0 ∙ full_listings_suffice nothing (batches h) target query meta 0) fall are.1
