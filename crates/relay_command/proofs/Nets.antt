-- What a connection, a listener and workers leave of a network.
use Rattle.std.proofs.Common.{◌≡◌, ◌≤◌, ◌<◌, ◌||◌, ℕ, ◌+◌, List, [], ◌∷◌, ◌++◌, map, length, take, Bool, true, false, MatchBool, Option, None, Some, Err, refl, sym, ap, ◌∙◌, subst, inl, inr, arith, append-nil, nat_lt, option_map}
use Rattle.std.proofs.lemmas.List.{length-map, take-append-le, map-append}
use Rattle.outside_net.specs.Counts.{RisesWith, Rose}
use Rattle.outside_net.specs.NetCounts.{CountsNetFaults}
use Rattle.outside_net.specs.Places.{Returned, returned}
use Rattle.outside_net.specs.Told.{BeginsEmpty, Grows, GrowsByTold}
use Rattle.outside_net.specs.declared.net.NetError.{NetError}
use Rattle.outside_net.specs.declared.net.NetError.TheVariants as nets
use Rattle.share_crew.specs.Listeners.{HaveLinks}
use Rattle.share_crew.proofs.Nets.{grows_none, grows_then, grows_told, rose_then, stood_then}
use Rattle.relay_command.specs.Faults.{net_fault}
use Rattle.relay_command.specs.Places.{StopsOpening, unused_link}

-- a connection that had taken nothing was closed
pub unused_back : (w w' : Option (List Returned)) (taken : Option (List ℕ)) (faults : ℕ) → BeginsEmpty w taken → faults ≡ 0 → GrowsByTold w w' (returned taken faults)
    → Grows w w' unused_link
unused_back None None taken faults begun none grows = tt
unused_back None (Some now) None faults begun none grows = absurd (cc)
unused_back None (Some now) (Some bytes) faults begun none grows = grows
unused_back (Some kept) w' taken faults begun none grows =
    subst (λ (n : ℕ). Grows (Some kept) w' (([], nat_lt 0 n) ∷ [])) none
    (subst (λ (t : Option (List ℕ)). GrowsByTold (Some kept) w' (returned t faults)) begun grows)

-- a connection that was closed after others
pub linked_behind : (start w w' : Option (List Returned)) (front : List Returned) (taken : Option (List ℕ)) (faults : ℕ) → Grows start w front
    → GrowsByTold w w' (returned taken faults) → GrowsByTold start w' (option_map (λ bytes. front ++ (bytes, nat_lt 0 faults) ∷ []) taken)
linked_behind start w w' front None faults g h = h
linked_behind start w w' front (Some bytes) faults g h = grows_then start w w' front ((bytes, nat_lt 0 faults) ∷ []) g h

-- a listener at which no worker has accepted
pub shut_behind : (start w w' told : Option (List Returned)) (front : List Returned) → BeginsEmpty start told → Grows start w front → GrowsByTold w w' told → Grows start w' front
shut_behind start w w' told front begun g h =
    subst (Grows start w') (append-nil front) (grows_told start told told w w' front [] begun (grows_none told) g h)

-- the error counter after workers, a listener and a connection
pub counts_all : (a b : Bool) (n0 n1 n2 n3 f0 f : ℕ) → MatchBool a (Rose n0 n1) (n1 ≡ n0) → n2 ≡ n1 → f0 ≡ 0 → MatchBool b (Rose f0 f) (f ≡ f0) → RisesWith n2 n3 f
    → MatchBool (a || b) (Rose n0 n3) (n3 ≡ n0)
counts_all true true n0 n1 n2 n3 f0 f crew same none link rises =
    let more : Rose n2 n3 = rises.faulty (let r = link.1 in omega (arith, r)) in
    rose_then n0 n1 n3 crew (let r = more.0 in omega (arith, r, same))
counts_all true false n0 n1 n2 n3 f0 f crew same none link rises =
    rose_then n0 n1 n3 crew (let is = rises.faultless (link ∙ none) in omega (arith, is, same))
counts_all false true n0 n1 n2 n3 f0 f crew same none link rises =
    stood_then n0 n2 n3 (same ∙ crew) (rises.faulty (let r = link.1 in omega (arith, r)))
counts_all false false n0 n1 n2 n3 f0 f crew same none link rises = rises.faultless (link ∙ none) ∙ same ∙ crew

pub stops_opening : (T : Type 0) (before mid after : ℕ) (e : NetError) → mid ≡ before → CountsNetFaults {T = T} mid after (Err e) → StopsOpening before after (net_fault e)
stops_opening T before mid after nets.Failed is count = inl (refl, subst (λ n. Rose n after) is count)
stops_opening T before mid after nets.Memory is count = inr (refl, count ∙ is)

-- the listeners except the last have their connections, too
front_links : (xs : List (Option (List (List ℕ)))) (y : Option (List (List ℕ))) (inputs : List (List (List ℕ)))
    → xs ++ y ∷ [] ≡ map (λ i. Some i) (take (length (xs ++ y ∷ [])) inputs) → xs ≡ map (λ i. Some i) (take (length xs) inputs)
front_links [] y inputs is = refl
front_links (x ∷ xs) y [] is = absurd (cc)
front_links (x ∷ xs) y (i ∷ inputs) is =
    let head : x ≡ Some i = (cc) in
    let rest : xs ++ y ∷ [] ≡ map (λ i. Some i) (take (length (xs ++ y ∷ [])) inputs) = (cc) in
    λ j. head j ∷ front_links xs y inputs rest j

pub have_front : (links : Option (List (List (List ℕ)))) (xs : List (Option (List (List ℕ)))) (y : Option (List (List ℕ))) → HaveLinks links (xs ++ y ∷ []) → HaveLinks links xs
have_front None xs y h = tt
have_front (Some inputs) xs y h = front_links xs y inputs h
