-- One more chunk of the bytes of a connection.
use Rattle.std.proofs.Common.{◌≡◌, ◌≢◌, ◌⊎◌, ℕ, ◌+◌, List, [], ◌∷◌, ◌++◌, take, drop, refl, sym, ap, ◌∙◌, subst, inl, inr, Option, Some, None, append_assoc, append-nil, take-append-drop, take-add}
use Rattle.std.specs.Option.{option_to_list}
use Rattle.http_heads.specs.declared.refusal.HeadError.{HeadError}
use Rattle.http_heads.specs.declared.refusal.HeadError.TheVariants as error
use Rattle.share_asks.specs.declared.ask.Ask.{Ask}
use Rattle.share_asks.specs.declared.ask.Role.{Role}
use Rattle.http_front.specs.Readers.{HasRead, Reader}
use Rattle.http_front.specs.Readings.{IsReading, Joins, reading}
use Rattle.http_front.proofs.ReadingLaws.{handed_join, joins_stay, reads_refused, reads_waiting}
use Rattle.reply_bytes.specs.ReplyBytes.{refusal_bytes}
use Rattle.share_server.specs.declared.report.Served.{Served}
use Rattle.share_server.specs.declared.report.LinkEnd.{LinkEnd}
use Rattle.share_server.specs.declared.report.LinkEnd.TheVariants.{Closed, Cut, Refused, Spent, Stopped, LinkFault, FileFault, Memory}
use Rattle.share_server.specs.Replies.{replies}
use Rattle.share_server.specs.Passes.{Pass}
use Rattle.share_server.specs.Ends.{EndsInside, all_told, refusing}
use Rattle.share_server.proofs.Endings.{ends_stay}
use Rattle.share_server.proofs.Losing.{loses_longer}
use Rattle.share_server.specs.Written.{Got500, IsRefused}
use Rattle.share_server.specs.Progress.{RequestsServed, Ends, ExchangeDone, BytesServed}
use Rattle.share_server.proofs.Outcomes.{cut_behind, ended_with, up_given}

-- a connection that ended inside bytes ended inside all that begin with them
pub ends_longer : (role : Role) (bytes more : List ℕ) (limit : ℕ) (k k' : Pass) (taken taken' : Option (List ℕ)) (served : List Served) (end : LinkEnd)
    → Ends role bytes limit k k' taken taken' served end → Ends role (bytes ++ more) limit k k' taken taken' served end
ends_longer role bytes more limit k k' taken taken' served end ends = record {
  asks = ends.asks;
  rest = ends.rest ++ more;
  joins = joins_stay role bytes more ends.asks ends.rest ends.joins;
  lost = ends.lost;
  serves = ends.serves;
  loses = loses_longer role ends.asks k k' served end bytes more ends.lost ends.loses;
  output = ends.output;
  written = ends.written;
  how =
      subst (λ h. EndsInside role (bytes ++ more) k.settings limit h ends.asks served (ends.rest ++ more) ends.output end) (append-nil k'.seen)
      (ends_stay role bytes more k.settings k.number limit k'.seen [] ends.asks served ends.rest ends.output end ends.serves.are_served ends.how);
}

-- and inside the whole chunk, if it ended in a prefix of it
ends_in_piece : (role : Role) (bytes piece : List ℕ) (n limit : ℕ) (k k' : Pass) (taken taken' : Option (List ℕ)) (served : List Served) (end : LinkEnd)
    → Ends role (bytes ++ take n piece) limit k k' taken taken' served end → Ends role (bytes ++ piece) limit k k' taken taken' served end
ends_in_piece role bytes piece n limit k k' taken taken' served end ends =
    subst (λ b. Ends role b limit k k' taken taken' served end)
    (append_assoc bytes (take n piece) (drop n piece) ∙ ap (λ b. bytes ++ b) (take-append-drop n piece))
    (ends_longer role (bytes ++ take n piece) (drop n piece) limit k k' taken taken' served end ends)

-- a prefix of the chunk, and a prefix of the rest after it
pub front_behind : (bytes piece rest : List ℕ) (d n : ℕ) → rest ≡ drop d piece → (bytes ++ take d piece) ++ take n rest ≡ bytes ++ take (d + n) piece
front_behind bytes piece rest d n is =
    append_assoc bytes (take d piece) (take n rest)
    ∙ ap (λ (b : List ℕ). bytes ++ b) (ap (λ (b : List ℕ). take d piece ++ take n b) is ∙ sym (take-add d n piece))

-- and the whole rest
pub rest_behind : (bytes piece rest : List ℕ) (d : ℕ) → rest ≡ drop d piece → (bytes ++ take d piece) ++ rest ≡ bytes ++ piece
rest_behind bytes piece rest d is =
    append_assoc bytes (take d piece) rest ∙ ap (λ (b : List ℕ). bytes ++ b) (ap (λ (b : List ℕ). take d piece ++ b) is ∙ take-append-drop d piece)

-- ---- the reader took a prefix of the chunk

module _ (role : Role) (bytes piece : List ℕ) (n limit : ℕ) (k k' : Pass) (taken taken' : Option (List ℕ)) (r r1 r2 : Reader) (served : List Served) (o : Option Ask)
    (midway : BytesServed role bytes limit k k' taken taken' r served) (role_stays : r1.role ≡ r.role) (fine : r1.error ≡ None)
    (read : (fed : List ℕ) (handed : List Ask) → HasRead fed handed r → HasRead (fed ++ take n piece) handed r1) (waits : o ≡ r1.ready)
    (handed_out : r2 ≡ record r1 { ready = None })
    (next : (fed : List ℕ) (handed : List Ask) → HasRead fed handed r1 → HasRead fed (handed ++ option_to_list o) r2) where
  abbrev fed_now : List ℕ
  fed_now = bytes ++ take n piece

  fed_read : HasRead fed_now midway.asks r1
  fed_read = read bytes midway.asks midway.read

  same_role : r1.role ≡ role
  same_role = role_stays ∙ midway.role_is

  -- no request is whole yet
  pub took_none : o ≡ None → BytesServed role fed_now limit k k' taken taken' r2 served
  took_none none = record {
    role_is = ap (λ (x : Reader). x.role) handed_out ∙ same_role;
    idle = ap (λ (x : Reader). x.ready) handed_out;
    fine = ap (λ (x : Reader). x.error) handed_out ∙ fine;
    asks = midway.asks;
    read =
        subst (λ (asks : List Ask). HasRead fed_now asks r2) (ap (λ (x : Option Ask). midway.asks ++ option_to_list x) none ∙ append-nil midway.asks)
        (next fed_now midway.asks fed_read);
    goes = midway.goes;
  }

  -- it is complete and was served, and the connection stays open after it or ends
  pub took_one : (ask : Ask) (k2 : Pass) (taken2 : Option (List ℕ)) (served2 : List Served) → o ≡ Some ask
      → ((start : Pass) (first : Option (List ℕ)) (asks : List Ask) → RequestsServed limit start k' first taken' asks served
      → ExchangeDone limit start k2 first taken2 asks ask served2 None)
      → BytesServed role fed_now limit k k2 taken taken2 r2 served2
  took_one ask k2 taken2 served2 some exchanges = record {
    role_is = ap (λ (x : Reader). x.role) handed_out ∙ same_role;
    idle = ap (λ (x : Reader). x.ready) handed_out;
    fine = ap (λ (x : Reader). x.error) handed_out ∙ fine;
    asks = midway.asks ++ ask ∷ [];
    read =
        subst (λ (x : Option Ask). HasRead fed_now (midway.asks ++ option_to_list x) r2) some
        (next fed_now midway.asks fed_read);
    goes = exchanges k taken midway.asks midway.goes;
  }

  pub ended_at_one : (ask : Ask) (k2 : Pass) (taken2 : Option (List ℕ)) (served2 : List Served) (end : LinkEnd) → o ≡ Some ask
      → ((start : Pass) (first : Option (List ℕ)) (asks : List Ask) → RequestsServed limit start k' first taken' asks served
      → ExchangeDone limit start k2 first taken2 asks ask served2 (Some end))
      → Ends role (bytes ++ piece) limit k k2 taken taken2 served2 end
  ended_at_one ask k2 taken2 served2 end some exchanges =
      let first = handed_join fed_now midway.asks r1 fed_read in
      ends_in_piece role bytes piece n limit k k2 taken taken2 served2 end
      (exchanges k taken midway.asks midway.goes role fed_now
      (record {
        behind = first.0;
        first = subst (λ (x : Role). Joins x fed_now midway.asks first.0) same_role first.1;
        rest = r1.kept;
        all =
            subst (λ (x : Role). Joins x fed_now (midway.asks ++ ask ∷ []) r1.kept) same_role
            (reads_waiting fed_now midway.asks r1 ask fed_read (sym waits ∙ some));
      }))

-- ---- the reader refused

is_memory : (e : HeadError) → (e ≡ error.Memory) ⊎ (e ≢ error.Memory)
is_memory error.Memory = inl refl
is_memory error.Head = inr (λ h. cc)
is_memory error.Length = inr (λ h. cc)
is_memory error.BodyTooLarge = inr (λ h. cc)
is_memory error.HeadTooLarge = inr (λ h. cc)

module _ (role : Role) (bytes : List ℕ) (limit : ℕ) (k k' : Pass) (taken taken' taken'' : Option (List ℕ)) (asks : List Ask) (served : List Served)
    (goes : RequestsServed limit k k' taken taken' asks served) where
  abbrev base : List ℕ
  base = replies k.settings limit k'.seen asks served

  without_memory : (rest : List ℕ) (end : LinkEnd) → Joins role bytes asks rest → Got500 taken' taken'' end → Ends role bytes limit k k' taken taken'' served end
  without_memory rest end joins up =
      up_given role bytes limit k k' taken taken' taken'' asks served rest base joins goes.serves goes.written end (inl goes.goes_on) (all_told refl) up

  refused_by : (rest : List ℕ) (e : HeadError) (end : LinkEnd) → IsReading role bytes (reading asks rest (Some e)) → IsRefused e taken' taken'' end
      → Ends role bytes limit k k' taken taken'' served end
  refused_by rest e Closed reads refused = absurd refused
  refused_by rest e (Cut at) reads refused = absurd refused
  refused_by rest e Spent reads refused = absurd refused
  refused_by rest e Stopped reads refused = absurd refused
  refused_by rest e (Refused status) reads refused =
      ended_with role bytes limit k k' taken taken' taken'' asks served rest base reads.joins goes.serves goes.written (refusal_bytes e) (Refused status)
      refl refused.1 (e, record { goes_on = goes.goes_on; reads = reads }, refused.0, refl)
  refused_by rest e LinkFault reads (inl part) =
      ended_with role bytes limit k k' taken taken' taken'' asks served rest base reads.joins goes.serves goes.written (take part.0 (refusal_bytes e)) LinkFault
      refl part.2 (refusing e (record { goes_on = goes.goes_on; reads = reads }) (cut_behind base (refusal_bytes e) part.0))
  refused_by rest e LinkFault reads (inr part) = without_memory rest LinkFault reads.joins part
  refused_by rest e FileFault reads refused = absurd refused
  refused_by rest e Memory reads refused = without_memory rest Memory reads.joins refused

pub was_unread : (role : Role) (bytes piece : List ℕ) (limit : ℕ) (k k' : Pass) (taken taken' taken'' : Option (List ℕ)) (r r' : Reader) (served : List Served) (e : HeadError) (end : LinkEnd)
    → BytesServed role bytes limit k k' taken taken' r served → r'.role ≡ r.role → r'.error ≡ Some e
    → ((fed : List ℕ) (handed : List Ask) → HasRead fed handed r → HasRead (fed ++ piece) handed r')
    → (e ≡ error.Memory → Got500 taken' taken'' end) → (e ≢ error.Memory → IsRefused e taken' taken'' end)
    → Ends role (bytes ++ piece) limit k k' taken taken'' served end
was_unread role bytes piece limit k k' taken taken' taken'' r r' served e end midway role_stays is read memory refused = by_error (is_memory e)
  where
    same_role : r'.role ≡ role
    same_role = role_stays ∙ midway.role_is

    has_read : HasRead (bytes ++ piece) midway.asks r'
    has_read = read bytes midway.asks midway.read

    by_error : (e ≡ error.Memory) ⊎ (e ≢ error.Memory) → Ends role (bytes ++ piece) limit k k' taken taken'' served end
    by_error (inl wants) =
        let joins = handed_join (bytes ++ piece) midway.asks r' has_read in
        without_memory role (bytes ++ piece) limit k k' taken taken' taken'' midway.asks served midway.goes joins.0 end
        (subst (λ (x : Role). Joins x (bytes ++ piece) midway.asks joins.0) same_role joins.1) (memory wants)
    by_error (inr other) =
        let reads = reads_refused (bytes ++ piece) midway.asks r' e has_read is other in
        refused_by role (bytes ++ piece) limit k k' taken taken' taken'' midway.asks served midway.goes reads.0 e end
        (subst (λ (x : Role). IsReading x (bytes ++ piece) (reading midway.asks reads.0 (Some e))) same_role reads.1) (refused other)
