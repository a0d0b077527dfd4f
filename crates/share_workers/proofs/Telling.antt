-- What is known of listeners and connections after one connection more.
use Rattle.std.proofs.Common.{◌≡◌, ℕ, ◌+◌, ◌-◌, ◌≤◌, ◌^◌, min, List, [], ◌∷◌, ◌++◌, sym, ap, ◌∙◌, subst, Bool, true, false, nat_lt, Option, Some, None, MatchBool, IfSome, append_assoc, arith}
use Rattle.std.proofs.lemmas.Bool.{lt-ltb}
use Rattle.std.specs.Io.KnownBytes.{Appends}
use Rattle.outside_net.specs.Counts.{Rose}
use Rattle.outside_net.specs.Places.{Accepts, Returned, returned}
use Rattle.outside_net.specs.Told.{BeginsEmpty, Grows, GrowsByTold}
use Rattle.share_server.specs.declared.report.LinkEnd.{LinkEnd}
use Rattle.share_server.specs.Serving.{is_fault, CountsEnd}
use Rattle.share_workers.specs.Works.{Came, IsOver}

-- if the connections to come are known, one more is the first of the rest
pub came_more : {L : Type 0} (left taken : L → Option (List ℕ)) (link : L) (coming before now : Option (List (List ℕ))) (inputs : List (List ℕ)) (input : List ℕ) → Came coming before inputs
    → Accepts left taken before now (Some link) → IfSome (left link) (λ bytes. bytes ≡ input) → Came coming now (inputs ++ input ∷ [])
came_more left taken link None before now inputs input came accepts told = tt
came_more left taken link (Some all) None now inputs input came accepts told = absurd came
came_more left taken link (Some all) (Some []) None inputs input came accepts told = absurd accepts
came_more left taken link (Some all) (Some []) (Some now) inputs input came accepts told = absurd accepts
came_more left taken link (Some all) (Some (first ∷ rest)) None inputs input came accepts told = absurd accepts
came_more left taken link (Some all) (Some (first ∷ rest)) (Some now) inputs input came accepts told =
    let is : first ≡ input = subst (λ l. IfSome l (λ bytes. bytes ≡ input)) accepts.1 told in
    came ∙ (ap (λ bytes. inputs ++ bytes ∷ rest) is ∙ (ap (λ r. inputs ++ input ∷ r) (sym accepts.0) ∙ sym (append_assoc inputs (input ∷ []) now)))

-- if none comes, none is left
pub is_over : {L : Type 0} (left taken : L → Option (List ℕ)) (coming before now : Option (List (List ℕ))) (inputs : List (List ℕ)) → Came coming before inputs → Accepts left taken before now None
    → IsOver coming now × Came coming now inputs
is_over left taken None before now inputs came accepts = (tt, tt)
is_over left taken (Some all) None now inputs came accepts = absurd came
is_over left taken (Some all) (Some []) None inputs came accepts = absurd accepts
is_over left taken (Some all) (Some []) (Some now) inputs came accepts = (ap Some accepts, came ∙ ap (λ l. inputs ++ l) (sym accepts))
is_over left taken (Some all) (Some (first ∷ rest)) None inputs came accepts = absurd accepts
is_over left taken (Some all) (Some (first ∷ rest)) (Some now) inputs came accepts = absurd accepts

-- the known list of returned connections grows by what was written on one more
pub grown_more : (written before now : Option (List Returned)) (taken taken' : Option (List ℕ)) (returns : List Returned) (output : List ℕ) (faults : ℕ) → Grows written before returns
    → BeginsEmpty before taken → Appends taken taken' output → GrowsByTold before now (returned taken' faults) → Grows written now (returns ++ (output, nat_lt 0 faults) ∷ [])
grown_more None None now taken None returns output faults grows begins appends given = subst (λ l. Grows None l (returns ++ (output, nat_lt 0 faults) ∷ [])) (sym given) tt
grown_more None None None taken (Some bytes) returns output faults grows begins appends given = tt
grown_more None None (Some now) taken (Some bytes) returns output faults grows begins appends given = absurd given
grown_more None (Some before) now taken taken' returns output faults grows begins appends given = absurd grows
grown_more (Some written) before None taken taken' returns output faults grows begins appends given = tt
grown_more (Some written) None (Some now) taken None returns output faults grows begins appends given = absurd (cc)
grown_more (Some written) None (Some now) taken (Some bytes) returns output faults grows begins appends given = absurd given
grown_more (Some written) (Some before) (Some now) taken taken' returns output faults grows begins appends given =
    told taken' (subst (λ t. Appends t taken' output) begins appends) given
  where
    told : (t : Option (List ℕ)) → Appends (Some []) t output → GrowsByTold (Some before) (Some now) (returned t faults) → now ≡ written ++ (returns ++ (output, nat_lt 0 faults) ∷ [])
    told None lost grown = absurd lost
    told (Some bytes) is grown =
        grown ∙ (ap (λ b. before ++ (b, nat_lt 0 faults) ∷ []) is ∙ (ap (λ l. l ++ (output, nat_lt 0 faults) ∷ []) grows ∙ append_assoc written returns ((output, nat_lt 0 faults) ∷ [])))

-- a connection's error counter is above 0 exactly if an error ended it
pub counted : (faults : ℕ) (end : LinkEnd) → CountsEnd 0 faults end → nat_lt 0 faults ≡ is_fault end
counted faults end counts = by_fault (is_fault end) counts
  where
    by_fault : (b : Bool) → MatchBool b (Rose 0 faults) (faults ≡ 0) → nat_lt 0 faults ≡ b
    by_fault true rose = lt-ltb 0 faults (let most : min (0 + 1) (2 ^ 64 - 1) ≤ faults = rose.1 in omega arith)
    by_fault false same = ap (nat_lt 0) same
