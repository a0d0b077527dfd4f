-- A reader of one response: what it keeps, and what it returns or refuses.
use Rattle.std.proofs.Common.{◌≡◌, ◌≢◌, ℕ, ◌+◌, ◌<◌, ◌≤◌, List, [], ◌∷◌, ◌++◌, length, take, drop, Option, None, Some, option_to_list, refl, sym, ap, ◌∙◌, inl, inr, subst, append_assoc, append-nil, length-append, arith}
use Rattle.std.proofs.lemmas.Bool.{cases_lt}
use Rattle.std.proofs.lemmas.List.{length-take-le, take_all, drop_all}
use Rattle.std.specs.List.{flat_map, AllZip}
use Rattle.std.specs.Io.KnownBytes.{Consumes, IsAtEnd, prepend_known}
use Rattle.std.proofs.KnownBytes.{Consumes-trans}
use Rattle.http_heads.specs.Messages.{Message, print_message}
use Rattle.http_client.specs.declared.refusal.ReplyError.{ReplyError}
use Rattle.http_client.specs.declared.refusal.ReplyError.TheVariants as reply
use Rattle.http_client.specs.Replies.{AreReplies, Explains, HasRead, IsReply, Joins, ReadAs, Reader, Reply, waiting}
use Rattle.mirror_client.specs.declared.refusal.FollowError.{FollowError}
use Rattle.mirror_client.specs.declared.refusal.FollowError.TheVariants.{Refused, BadReply, Ended, Listing, Codes, LinkFault, Memory}
use Rattle.mirror_client.specs.Exchanges.{Replied}
use Rattle.mirror_client.specs.Points.{Point, ReadAhead, point}
use Rattle.mirror_client.specs.Readers.{ComesWhole, GoesOn, IsBegun, refused_by}
use Rattle.mirror_client.specs.Stopping.{EndsEarly, NoReply}
use Rattle.mirror_client.proofs.PointFacts.{front_used, owed_all, owed_front}

none_zip : (ms : List Message) → AllZip IsReply ms [] → flat_map print_message ms ≡ []
none_zip [] h = refl
none_zip (m ∷ ms) h = absurd h

one_zip : (ms : List Message) (answer : Reply) → AllZip IsReply ms (answer ∷ []) → (m : Message) × IsReply m answer × (flat_map print_message ms ≡ print_message m)
one_zip [] answer h = absurd h
one_zip (m ∷ []) answer h = (m, h.0, append-nil (print_message m))
one_zip (m ∷ n ∷ ms) answer h = absurd h.1

no_replies : (fed rest : List ℕ) → Joins fed [] rest → fed ≡ rest
no_replies fed rest j = j.joined ∙ ap (λ bytes. bytes ++ rest) (none_zip j.messages j.are)

as_replies : (fed : List ℕ) (handed : List Reply) (r : Reader) → r.error ≡ None → HasRead fed handed r → AreReplies fed (handed ++ waiting r) r.kept
as_replies fed handed r fine h = (subst (λ (o : Option ReplyError). ReadAs fed handed r o) fine h).0

-- a reader that has no reply keeps all that it was fed
fed_kept : (fed : List ℕ) (r : Reader) → r.ready ≡ None → r.error ≡ None → HasRead fed [] r → fed ≡ r.kept
fed_kept fed r none fine h =
    no_replies fed r.kept (subst (λ (xs : List Reply). AreReplies fed xs r.kept) (ap (λ (o : Option Reply). option_to_list o) none) (as_replies fed [] r fine h)).joins

all_taken : (unused : List ℕ) (n : ℕ) (o : Option Reply) → n ≤ length unused → (n < length unused → o ≢ None) → None ≡ o → n ≡ length unused
all_taken unused n o within took none = elim (cases_lt n (length unused)) [
  | inl less ↦ absurd (took less (sym none))
  | inr all ↦ omega (arith, within, all)
]

pub goes_on : (old fed_to new : Reader) (before now : ReadAhead) (piece : List ℕ) (n : ℕ) → piece ≡ before.unused → IsBegun old → n ≤ length piece
    → (n < length piece → fed_to.ready ≢ None) → fed_to.error ≡ None → None ≡ fed_to.ready → new ≡ record fed_to { ready = None }
    → HasRead (old.kept ++ take n piece) [] new → now ≡ record before { unused = drop n before.unused } → GoesOn old new before now
goes_on old fed_to new before now piece n same begun within took fine none is read left =
    let ready : new.ready ≡ None = ap (λ (r : Reader). r.ready) is in
    let right : new.error ≡ None = ap (λ (r : Reader). r.error) is ∙ fine in
    let keeps : old.kept ++ take n piece ≡ new.kept = fed_kept (old.kept ++ take n piece) new ready right read in
    let all : n ≡ length piece = all_taken piece n fed_to.ready within took none in
    let none_left : length before.unused ≤ n = omega (arith, all, ap length same) in
    record {
      begun = record { ready = ready; fine = right; read = subst (λ (fed : List ℕ). HasRead fed [] new) keeps read };
      kept = sym keeps ∙ ap (λ (bytes : List ℕ). old.kept ++ bytes) (take_all n piece (omega (arith, all)) ∙ same);
      left = left ∙ ap (λ (bytes : List ℕ). record { unused = bytes; used = before.used }) (drop_all n before.unused none_left);
    }

pub comes_whole : (old fed_to new : Reader) (before now : ReadAhead) (piece : List ℕ) (n held : ℕ) (answer : Reply) → piece ≡ before.unused → n ≤ length piece
    → fed_to.error ≡ None → new ≡ record fed_to { ready = None } → new.kept ≡ [] → HasRead (old.kept ++ take n piece) (answer ∷ []) new
    → held ≡ length old.kept → held ≤ 1073758216 → length piece ≤ 8192
    → now ≡ record { unused = drop n before.unused; used = before.used + (held + n) } → ComesWhole old before now answer
comes_whole old fed_to new before now piece n held answer same within fine is empty read held_is few short left =
    let ready : new.ready ≡ None = ap (λ (r : Reader). r.ready) is in
    let right : new.error ≡ None = ap (λ (r : Reader). r.error) is ∙ fine in
    let fed : List ℕ = old.kept ++ take n piece in
    let are : AreReplies (old.kept ++ take n piece) (answer ∷ []) [] =
    subst (λ (rest : List ℕ). AreReplies (old.kept ++ take n piece) (answer ∷ []) rest) empty
    (subst (λ (o : Option Reply). AreReplies (old.kept ++ take n piece) (answer ∷ option_to_list o) new.kept) ready
    (as_replies (old.kept ++ take n piece) (answer ∷ []) new right read)) in
    let one = one_zip are.joins.messages answer are.joins.are in
    let spelled : old.kept ++ take n piece ≡ print_message one.0 = are.joins.joined ∙ append-nil (flat_map print_message are.joins.messages) ∙ one.2 in
    let took : length (take n piece) ≡ n = length-take-le n piece within in
    let count : held + n ≡ length (print_message one.0) = omega (arith, ap length spelled, length-append old.kept (take n piece), took, held_is) in
    record {
      message = one.0;
      is = one.1;
      count = n;
      within = omega (arith, within, ap length same);
      spelled = ap (λ (bytes : List ℕ). old.kept ++ take n bytes) (sym same) ∙ spelled;
      left = left ∙ ap (λ (m : ℕ). record { unused = drop n before.unused; used = before.used + m }) count;
      few = omega (arith, count, few, within, short);
    }

-- ---- refusals

refused_at : (fed rest : List ℕ) (used : ℕ) (e : ReplyError) (more : List ℕ) → fed ≡ rest → Explains fed rest e → NoReply (record { taken = None; owed = Some (fed ++ more); used = used }) (refused_by used e)
refused_at fed rest used (reply.Bad at) more same h = record {
  front = h.front;
  more = h.more ++ more;
  cause = h.cause;
  split = ap (λ (bytes : List ℕ). bytes ++ more) (same ∙ h.split) ∙ append_assoc h.front h.more more;
  refused = h.refused;
  counted = omega (arith, h.counted, ap length (same ∙ h.split), length-append h.front h.more);
}
refused_at fed rest used reply.Memory more same h = tt

unknown_at : (taken : Option (List ℕ)) (used : ℕ) (e : ReplyError) → NoReply (record { taken = taken; owed = None; used = used }) (refused_by used e)
unknown_at taken used (reply.Bad at) = tt
unknown_at taken used reply.Memory = tt

no_taken : (taken owed : Option (List ℕ)) (used : ℕ) (e : FollowError) → NoReply (record { taken = None; owed = owed; used = used }) e
    → NoReply (record { taken = taken; owed = owed; used = used }) e
no_taken taken owed used (Refused status) h = h
no_taken taken owed used (BadReply at) h = h
no_taken taken owed used (Ended at) h = h
no_taken taken owed used (Listing error) h = h
no_taken taken owed used (Codes error) h = h
no_taken taken owed used LinkFault h = h
no_taken taken owed used Memory h = h

refusal_read : (fed : List ℕ) (r : Reader) (e : ReplyError) → r.error ≡ Some e → HasRead fed [] r → ReadAs fed [] r (Some e)
refusal_read fed r e is h = subst (λ (o : Option ReplyError). ReadAs fed [] r o) is h

-- a refused response, by what was kept and read ahead, whatever is left on the connection
pub refusal : (kept unused : List ℕ) (used : ℕ) (r : Reader) (e : ReplyError) (taken left : Option (List ℕ)) → r.error ≡ Some e → HasRead (kept ++ unused) [] r
    → NoReply (point taken left (kept ++ unused) used) (refused_by used e)
refusal kept unused used r e taken None is h = unknown_at taken used e
refusal kept unused used r e taken (Some more) is h =
    let read = refusal_read (kept ++ unused) r e is h in
    no_taken taken (Some ((kept ++ unused) ++ more)) used (refused_by used e)
    (refused_at (kept ++ unused) read.0 used e more (no_replies (kept ++ unused) read.0 read.1) read.3)

at_within : (fed rest : List ℕ) (at : ℕ) → Explains fed rest (reply.Bad at) → at ≤ length fed
at_within fed rest at h = omega (arith, h.counted)

pub bad_within : (fed : List ℕ) (r : Reader) (e : ReplyError) (at : ℕ) → r.error ≡ Some e → e ≡ reply.Bad at → HasRead fed [] r → at ≤ length fed
bad_within fed r e at is bad h =
    let read = refusal_read fed r (reply.Bad at) (is ∙ ap (λ (x : ReplyError). Some x) bad) h in
    at_within fed read.0 at read.3

-- ---- with a connection

no_owed : (taken : Option (List ℕ)) (used : ℕ) (q : Point) (e : FollowError) → NoReply q e → NoReply (record { taken = taken; owed = None; used = used }) e
no_owed taken used q (Refused status) h = h
no_owed taken used q (BadReply at) h = tt
no_owed taken used q (Ended at) h = tt
no_owed taken used q (Listing error) h = h
no_owed taken used q (Codes error) h = h
no_owed taken used q LinkFault h = h
no_owed taken used q Memory h = h

-- the cause by what was kept and read ahead is that by all that was owed
pub cause_owed : (taken owed left : Option (List ℕ)) (kept unused : List ℕ) (used : ℕ) (e : FollowError) → Consumes owed (prepend_known unused left) kept
    → ((t l : Option (List ℕ)) → NoReply (point t l (kept ++ unused) used) e) → NoReply (record { taken = taken; owed = owed; used = used }) e
cause_owed taken None left kept unused used e read cause = no_owed taken used (point taken left (kept ++ unused) used) e (cause taken left)
cause_owed taken (Some bytes) left kept unused used e read cause =
    let front = owed_front bytes left kept unused read in
    subst (λ (all : List ℕ). NoReply (record { taken = taken; owed = Some all; used = used }) e) (sym front.2) (cause taken (Some front.0))

-- a reader that keeps all that was owed has no whole reply
pub ended : (taken owed left : Option (List ℕ)) (kept unused : List ℕ) (used held : ℕ) (r : Reader) → IsBegun r → r.kept ≡ kept → unused ≡ [] → IsAtEnd left
    → held ≡ length kept → Consumes owed (prepend_known unused left) kept → NoReply (record { taken = taken; owed = owed; used = used }) (Ended (used + held))
ended taken None left kept unused used held r begun keeps none end held_is read = tt
ended taken (Some bytes) left kept unused used held r begun keeps none end held_is read =
    let are = as_replies r.kept [] r begun.fine begun.read in
    let all : r.kept ≡ bytes = keeps ∙ sym (owed_all bytes left kept unused none end read) in
    subst (λ (all : List ℕ). EndsEarly all used (used + held)) all
    (record { partial = are.last; goes = are.goes; counted = ap (λ (n : ℕ). used + n) (held_is ∙ ap length (sym keeps)) })

-- the reply that came whole
pub replied : (p : Point) (taken left : Option (List ℕ)) (old : Reader) (before now : ReadAhead) (answer : Reply) → ComesWhole old before now answer
    → taken ≡ p.taken → p.used ≡ before.used → Consumes p.owed (prepend_known before.unused left) old.kept → Replied p (point taken left now.unused now.used) answer
replied p taken left old before now answer w taken_is used_is read = record {
  message = w.message;
  is = w.is;
  taken = taken_is;
  read =
      subst (λ (r : ReadAhead). Consumes p.owed (prepend_known r.unused left) (print_message w.message)) (sym w.left)
      (subst (Consumes p.owed (prepend_known (drop w.count before.unused) left)) w.spelled
      (Consumes-trans p.owed (prepend_known before.unused left) (prepend_known (drop w.count before.unused) left) old.kept (take w.count before.unused) read
      (front_used left before.unused w.count)));
  counted = ap (λ (r : ReadAhead). r.used) w.left ∙ ap (λ (n : ℕ). n + length (print_message w.message)) (sym used_is);
}
