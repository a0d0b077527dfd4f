-- Addresses that are opened, or not.
use Rattle.std.proofs.Common.{◌≡◌, ◌+◌, ℕ, List, ◌++◌, length, map, take, drop, Option, None, Some, Err, refl, sym, subst, ap, ◌∙◌, inl, inr, length-append}
use Rattle.std.proofs.lemmas.List.{map-append}
use Rattle.std.proofs.Math.Seq.{take-add}
use Rattle.outside_net.specs.NetCounts.{CountsNetFaults}
use Rattle.outside_net.specs.Places.{OpensListeners}
use Rattle.outside_net.specs.declared.net.NetError.{NetError}
use Rattle.outside_net.specs.declared.net.NetError.TheVariants as nets
use Rattle.serve_command.specs.Faults.{net_fault}
use Rattle.share_crew.specs.Listeners.{HaveLinks}
use Rattle.serve_command.specs.Places.{StopsOpening}

-- an address that was not opened
pub stops_opening : (T : Type 0) (before after : ℕ) (e : NetError) → CountsNetFaults {T = T} before after (Err e) → StopsOpening before after (net_fault e)
stops_opening T before after nets.Failed count = inl (refl, count)
stops_opening T before after nets.Memory count = inr (refl, count)

pub stops_behind : (T : Type 0) (before mid after : ℕ) (e : NetError) → mid ≡ before → CountsNetFaults {T = T} mid after (Err e) → StopsOpening before after (net_fault e)
stops_behind T before mid after e is count = stops_opening T before after e (subst (λ n. CountsNetFaults {T = T} n after (Err e)) is count)

-- the listeners of the two addresses, in order, have the first connections
pub have_links : {D : Type 0} (coming : D → Option (List (List ℕ))) (before mid after : Option (List (List (List ℕ)))) (listen edit : List D)
    → OpensListeners before mid (map coming listen) → OpensListeners mid after (map coming edit) → HaveLinks before (map coming (listen ++ edit))
have_links coming None mid after listen edit first second = tt
have_links coming (Some links) mid after listen edit first second =
    let second' : OpensListeners (Some (drop (length (map coming listen)) links)) after (map coming edit) = subst (λ m. OpensListeners m after (map coming edit)) first.1 second in
    let m = length (map coming listen) in
    let n = length (map coming edit) in
    let both : map coming (listen ++ edit) ≡ map coming listen ++ map coming edit = map-append coming listen edit in
    let count : length (map coming (listen ++ edit)) ≡ m + n = ap length both ∙ length-append (map coming listen) (map coming edit) in
    both
    ∙ (λ i. first.0 i ++ second'.0 i)
    ∙ sym (map-append (λ inputs. Some inputs) (take m links) (take n (drop m links)))
    ∙ ap (map (λ inputs. Some inputs)) (sym (take-add m n links))
    ∙ ap (λ k. map (λ inputs. Some inputs) (take k links)) (sym count)
