-- What a reader of replies has read after a further chunk, over plain variables.
use Rattle.std.proofs.Common.{◌≡◌, ℕ, ◌+◌, ◌-◌, ◌≤◌, List, [], ◌∷◌, ◌++◌, length, take, is_some, true, false, Option, Some, None, Ok, Err, option_to_list, refl, sym, ap, ◌∙◌, inl, inr, subst, append_assoc, append-nil, length-append, arith}
use Rattle.std.proofs.lemmas.Bool.{cases_lt}
use Rattle.std.proofs.lemmas.List.{length-take-le, take_all}
use Rattle.std.specs.List.{flat_map}
use Rattle.http_heads.specs.declared.kind.Kind.{Kind}
use Rattle.http_heads.specs.declared.kind.Kind.TheVariants as kind
use Rattle.http_heads.specs.declared.refusal.HeadError.{HeadError}
use Rattle.http_heads.specs.Gathering.{Gathered, IsAt, IsStopped, Stands, TakesSome, is_whole, kept}
use Rattle.http_heads.specs.Messages.{IsRefused, Message, print_message}
use Rattle.http_heads.proofs.Messages.{moves, open_goes, open_none}
use Rattle.http_client.specs.declared.refusal.ReplyError.{ReplyError}
use Rattle.http_client.specs.declared.refusal.ReplyError.TheVariants.{Bad, Memory}
use Rattle.http_client.specs.Gathers.{Behind, Gathers, GivesReply}
use Rattle.http_client.specs.Replies.{AreReplies, Explains, HasRead, IsReply, Joins, ReadAs, Reader, Reply}
use Rattle.http_client.proofs.ReplyLaws.{flat_both, joins_stay, none_in_nothing, nothing_goes, zip_both}

-- ---- one chunk

all_taken : (old mid : Gathered) (piece : List ℕ) (n : ℕ) → TakesSome old piece mid n → is_whole mid.phase ≡ false → n ≡ length piece
all_taken old mid piece n h open_ = elim (cases_lt n (length piece)) [
  | inl less ↦ (let whole : is_whole mid.phase ≡ true = h.all less in absurd (cc))
  | inr all ↦ (let within : n ≤ length piece = h.within in omega arith)
]

going : (taken : ℕ) (old mid : Gathered) (piece : List ℕ) (n : ℕ) → mid.kind ≡ old.kind → IsAt old → is_whole old.phase ≡ false → TakesSome old piece mid n
    → is_whole mid.phase ≡ false → Gathers taken old piece mid (Ok (n, None))
going taken old mid piece n kind_is at partial h open_ =
    let all : n ≡ length piece = all_taken old mid piece n h open_ in (
      all,
      h.kept ∙ ap (λ b. kept old ++ b) (take_all n piece (omega arith)),
      h.stands,
      open_,
      moves old mid piece n kind_is at partial h,
    )

-- the bytes taken are a reply, or it stays incomplete
pub gathered : (taken : ℕ) (old mid new : Gathered) (piece : List ℕ) (n : ℕ) (o : Option Reply) → mid.kind ≡ old.kind → IsAt old → is_whole old.phase ≡ false
    → TakesSome old piece mid n → GivesReply mid new o → Gathers taken old piece new (Ok (n, o))
gathered taken old mid new piece n None kind_is at partial h (same, open_) =
    subst (λ (g : Gathered). Gathers taken old piece g (Ok (n, None))) (sym same) (going taken old mid piece n kind_is at partial h open_)
gathered taken old mid new piece n (Some reply) kind_is at partial h (idle, whole, is) =
    (h.within, idle, moves old mid piece n kind_is at partial h, (mid.message, sym h.kept, is))

-- the lengths of a refused chunk
pub stopped_counts : (old new : Gathered) (piece : List ℕ) (e : HeadError) → (h : IsStopped old piece new e)
    → (length (kept new) - length (kept old)) + length h.more ≡ length piece
stopped_counts old new piece e h =
    let longer : length (kept old) ≤ length (kept new) = h.longer in
    omega (arith, ap length h.spelled, length-append (kept old) piece, length-append (kept new) h.more)

pub stopped_behind : (taken : ℕ) (old new : Gathered) (piece : List ℕ) (e : HeadError) (at : ℕ) → old.kind ≡ kind.Reply → IsStopped old piece new e
    → at ≡ taken + (length (kept new) - length (kept old)) → Behind taken old piece at
stopped_behind taken old new piece e at kind_is h is = record {
  front = kept new;
  more = h.more;
  cause = e;
  split = h.spelled;
  refused = subst (λ (k : Kind). IsRefused k (kept new) e) kind_is h.refused;
  counted = omega (arith, stopped_counts old new piece e h);
}

-- ---- readers

as_reply : (g : Gathered) → g.kind ≡ kind.Reply → IsAt g → Stands kind.Reply g.message g.phase
as_reply g kind_is at = subst (λ (k : Kind). Stands k g.message g.phase) kind_is at

goes_on : (fed : List ℕ) (handed : List Reply) (old new : Gathered) (piece : List ℕ) → AreReplies fed handed (kept old) → new.kind ≡ kind.Reply
    → kept new ≡ kept old ++ piece → IsAt new → is_whole new.phase ≡ false → AreReplies (fed ++ piece) handed (kept new)
goes_on fed handed old new piece h kind_is more at partial = record {
  joins = subst (λ (rest : List ℕ). Joins (fed ++ piece) handed rest) (sym more) (joins_stay fed piece handed (kept old) h.joins);
  last = open_none kind.Reply new.message new.phase (as_reply new kind_is at) partial;
  goes = λ e. open_goes kind.Reply new.message new.phase e (as_reply new kind_is at) partial;
}

comes_whole : (fed : List ℕ) (handed : List Reply) (rest piece : List ℕ) (m : Message) (reply : Reply) → AreReplies fed handed rest
    → rest ++ piece ≡ print_message m → IsReply m reply → AreReplies (fed ++ piece) (handed ++ reply ∷ []) []
comes_whole fed handed rest piece m reply h whole is = record {
  joins = record {
    messages = h.joins.messages ++ m ∷ [];
    are = zip_both h.joins.messages (m ∷ []) handed (reply ∷ []) h.joins.are (is, tt);
    joined =
        ap (λ b. b ++ piece) h.joins.joined ∙ append_assoc (flat_map print_message h.joins.messages) rest piece
        ∙ ap (λ b. flat_map print_message h.joins.messages ++ b) (whole ∙ sym (append-nil (print_message m)))
        ∙ sym (flat_both h.joins.messages (m ∷ [])) ∙ sym (append-nil (flat_map print_message (h.joins.messages ++ m ∷ [])));
  };
  last = none_in_nothing;
  goes = nothing_goes;
}

pub no_some : (o : Option Reply) → is_some o ≡ false → o ≡ None
no_some None e = refl
no_some (Some reply) e = absurd (cc)

as_none : (fed : List ℕ) (handed : List Reply) (r : Reader) → r.error ≡ None → r.ready ≡ None → HasRead fed handed r
    → AreReplies fed handed r.kept × (r.taken ≡ length fed)
as_none fed handed r fine none h =
    let k : ReadAs fed handed r None = subst (λ (o : Option ReplyError). ReadAs fed handed r o) fine h in (
      subst (λ (xs : List Reply). AreReplies fed xs r.kept) (ap (λ (o : Option Reply). handed ++ option_to_list o) none ∙ append-nil handed) k.0,
      k.1,
    )

more_bytes : (fed piece : List ℕ) (taken n : ℕ) → taken ≡ length fed → n ≤ length piece → taken + n ≡ length (fed ++ take n piece)
more_bytes fed piece taken n is within = omega (arith, length-append fed (take n piece), length-take-le n piece within)

-- a reader without an error has read the bytes that it took
pub read_more : (fed : List ℕ) (handed : List Reply) (r : Reader) (old new : Gathered) (piece : List ℕ) (n : ℕ) (ready : Option Reply) → r.kept ≡ kept old
    → r.error ≡ None → r.ready ≡ None → new.kind ≡ kind.Reply → Gathers r.taken old piece new (Ok (n, ready)) → HasRead fed handed r
    → AreReplies (fed ++ take n piece) (handed ++ option_to_list ready) (kept new) × (r.taken + n ≡ length (fed ++ take n piece))
read_more fed handed r old new piece n None keeps fine none kind_is (all, more, at, partial, some) h =
    let k = as_none fed handed r fine none h in
    let before : AreReplies fed handed (kept old) = subst (λ (rest : List ℕ). AreReplies fed handed rest) keeps k.0 in
    let whole : take n piece ≡ piece = take_all n piece (omega arith) in (
      subst (λ (bytes : List ℕ). AreReplies (fed ++ bytes) (handed ++ []) (kept new)) (sym whole)
          (subst (λ (xs : List Reply). AreReplies (fed ++ piece) xs (kept new)) (sym (append-nil handed))
          (goes_on fed handed old new piece before kind_is more at partial)),
      more_bytes fed piece r.taken n k.1 (omega arith),
    )
read_more fed handed r old new piece n (Some reply) keeps fine none kind_is (within, idle, some, (m, whole, is)) h =
    let k = as_none fed handed r fine none h in
    let before : AreReplies fed handed (kept old) = subst (λ (rest : List ℕ). AreReplies fed handed rest) keeps k.0 in
    let nothing : [] ≡ kept new = sym (ap print_message idle.0) in (
      subst (λ (rest : List ℕ). AreReplies (fed ++ take n piece) (handed ++ reply ∷ []) rest) nothing
          (comes_whole fed handed (kept old) (take n piece) m reply before whole is),
      more_bytes fed piece r.taken n k.1 within,
    )

explained : (fed : List ℕ) (taken : ℕ) (old new : Gathered) (piece : List ℕ) (e : ReplyError) → taken ≡ length fed → Gathers taken old piece new (Err e)
    → Explains (fed ++ piece) (kept old ++ piece) e
explained fed taken old new piece (Bad at) is h = record {
  front = h.front;
  more = h.more;
  cause = h.cause;
  split = h.split;
  refused = h.refused;
  counted = omega (arith, h.counted, length-append fed piece);
}
explained fed taken old new piece Memory is h = tt

-- a reader that is refused has read no more replies
pub read_error : (fed : List ℕ) (handed : List Reply) (r s : Reader) (old new : Gathered) (piece : List ℕ) (e : ReplyError) → r.kept ≡ kept old
    → r.error ≡ None → r.ready ≡ None → s.ready ≡ None → Gathers r.taken old piece new (Err e) → HasRead fed handed r → ReadAs (fed ++ piece) handed s (Some e)
read_error fed handed r s old new piece e keeps fine none idle refused h =
    let k = as_none fed handed r fine none h in
    let before : AreReplies fed handed (kept old) = subst (λ (rest : List ℕ). AreReplies fed handed rest) keeps k.0 in
    (kept old ++ piece, joins_stay fed piece handed (kept old) before.joins, idle, explained fed r.taken old new piece e k.1 refused)

explains_more : (fed rest piece : List ℕ) (e : ReplyError) → Explains fed rest e → Explains (fed ++ piece) (rest ++ piece) e
explains_more fed rest piece (Bad at) h = record {
  front = h.front;
  more = h.more ++ piece;
  cause = h.cause;
  split = ap (λ b. b ++ piece) h.split ∙ append_assoc h.front h.more piece;
  refused = h.refused;
  counted = omega (arith, h.counted, length-append fed piece, length-append h.more piece);
}
explains_more fed rest piece Memory h = tt

stays_read : (fed : List ℕ) (handed : List Reply) (r : Reader) (piece : List ℕ) (e : ReplyError) (error : Option ReplyError) → error ≡ Some e
    → ReadAs fed handed r error → ReadAs (fed ++ piece) handed r error
stays_read fed handed r piece e None same h = absurd (cc)
stays_read fed handed r piece e (Some f) same (rest, joins, none, explains) =
    (rest ++ piece, joins_stay fed piece handed rest joins, none, explains_more fed rest piece f explains)

pub read_stays : (fed : List ℕ) (handed : List Reply) (r : Reader) (piece : List ℕ) (e : ReplyError) → r.error ≡ Some e → HasRead fed handed r
    → HasRead (fed ++ piece) handed r
read_stays fed handed r piece e is h = stays_read fed handed r piece e r.error is h
