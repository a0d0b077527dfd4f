-- A reader that was fed bytes chunk by chunk, and what it found in them.
use Rattle.std.proofs.Common.{◌≡◌, ◌≢◌, ◌<◌, ◌≤◌, ◌++◌, ◌∷◌, [], ℕ, List, length, take, drop, None, Some, Result, Ok, Err, IfErr, MatchResult, inl, inr, refl, sym, ap, ◌∙◌, subst, arith, append_assoc, append-nil}
use Rattle.std.proofs.lemmas.List.{take-append-drop, length-drop}
use Rattle.code_table.specs.Standard.{standard_rows}
use Rattle.dmap_stream.specs.Reader.{Reader, ready, taken, HasRead, ReadAs, Tells, TellsAs}
use Rattle.dmap_stream.specs.Walk.{Walk, between, inside, walk_of}
use Rattle.dmap_stream.specs.declared.event.Event.{Event}
use Rattle.dmap_stream.specs.declared.refusal.StreamError.{StreamError}
use Rattle.dmap_stream.specs.declared.refusal.StreamError.TheVariants as stream
use Rattle.tag_commands.proofs.FewEvents.{takes_some}
use Rattle.json_commands.specs.Whole.{json_limit}
use Rattle.json_commands.specs.Json.{HasTagsFault, walk_of_bytes}
use Rattle.json_commands.specs.Fed.{HasFed, IsFed, HasFedAllBut}

-- it counts the bytes that it was fed
pub fed_taken : (fed : List ℕ) (r : Reader) → IsFed fed r → taken r ≡ length fed
fed_taken fed r h = let read : ReadAs fed h.read.0 r None = subst (ReadAs fed h.read.0 r) h.going h.read.1 in read.1

walked_by : (bytes : List ℕ) (r : Reader) → r.rows ≡ standard_rows → r.limit ≡ json_limit → walk_of r.rows r.limit bytes ≡ walk_of_bytes bytes
walked_by bytes r rows limit = ap (λ rs. walk_of rs r.limit bytes) rows ∙ ap (λ l. walk_of standard_rows l bytes) limit

-- the error that it found is that of the bytes
pub fed_fault : (bytes : List ℕ) (handed : List Event) (r : Reader) (e : StreamError) → r.rows ≡ standard_rows → r.limit ≡ json_limit → r.error ≡ Some e → Tells bytes handed r
    → e ≢ stream.Memory → HasTagsFault e bytes
fed_fault bytes handed r e rows limit failed tells known =
    let found : TellsAs bytes handed r (Some e) = subst (TellsAs bytes handed r) failed tells in
    inl (ap (λ (w : Walk). w.ending) (sym (walked_by bytes r rows limit) ∙ found.1 known))

-- at the end they stop between two tags or inside one
pub fed_end : (bytes : List ℕ) (r : Reader) (result : Result (Unit {0}) StreamError) → IsFed bytes r
    → MatchResult result (λ _. (walk_of r.rows r.limit bytes).ending ≡ between) (λ e. ((walk_of r.rows r.limit bytes).ending ≡ inside) × (e ≡ stream.Truncated (length bytes)))
    → IfErr result (λ e. e ≢ stream.Memory → HasTagsFault e bytes)
fed_end bytes r (Ok x) h told = tt
fed_end bytes r (Err e) h told = λ known. inr (ap (λ (w : Walk). w.ending) (sym (walked_by bytes r h.rows h.limit)) ∙ told.0, told.1)

some_left : (bytes : List ℕ) → bytes ≢ [] → 0 < length bytes
some_left [] h = absurd (h refl)
some_left (b ∷ bytes) h = omega arith

-- the bytes that were left were fed, and the reader stopped at an error
pub feeds_fault : (all left : List ℕ) (old new : Reader) (e : StreamError) → HasFedAllBut all left old → new.rows ≡ old.rows → new.limit ≡ old.limit → new.error ≡ Some e
    → ((fed : List ℕ) (handed : List Event) → HasRead fed handed old → Tells (fed ++ left) handed new) → e ≢ stream.Memory → HasTagsFault e all
feeds_fault all left old new e h rows limit failed tells known =
    subst (HasTagsFault e) (sym h.split)
    (fed_fault (h.front ++ left) h.fed.read.0 new e (rows ∙ h.fed.rows) (limit ∙ h.fed.limit) failed (tells h.front h.fed.read.0 h.fed.read.1) known)

-- it took some of them, and their events were dropped
pub feeds_on : (all left rest : List ℕ) (old mid new : Reader) (n : ℕ) → HasFedAllBut all left old → left ≢ [] → rest ≡ drop n left → n ≤ length left
    → mid.rows ≡ old.rows → mid.limit ≡ old.limit → mid.error ≡ None → (n < length left → ready mid ≢ [])
    → ((fed : List ℕ) (handed : List Event) → HasRead fed handed old → HasRead (fed ++ take n left) handed mid)
    → new.rows ≡ mid.rows → new.limit ≡ mid.limit → new.error ≡ mid.error → ((fed : List ℕ) → HasFed fed mid → HasFed fed new) → ready new ≡ []
    → HasFedAllBut all rest new × (length rest < length left)
feeds_on all left rest old mid new n h some rest_is within rows limit going more read rows_after limit_after going_after read_after quiet =
    let now : HasRead (h.front ++ take n left) h.fed.read.0 mid = read h.front h.fed.read.0 h.fed.read.1 in
    let took : 0 < n = takes_some h.front left h.fed.read.0 old mid n h.fed.read.1 h.fed.going h.quiet now going rows limit more (some_left left some) in
    let fewer : length rest ≡ length (drop n left) = ap length rest_is in (
      record {
        front = h.front ++ take n left;
        split =
            h.split ∙ ap (λ x. h.front ++ x) (sym (take-append-drop n left)) ∙ sym (append_assoc h.front (take n left) (drop n left))
            ∙ ap (λ x. (h.front ++ take n left) ++ x) (sym rest_is);
        fed = record {
          read = read_after (h.front ++ take n left) (h.fed.read.0, now);
          going = going_after ∙ going;
          rows = rows_after ∙ (rows ∙ h.fed.rows);
          limit = limit_after ∙ (limit ∙ h.fed.limit);
        };
        quiet = quiet;
      },
      omega (arith, took, fewer, within, length-drop n left),
    )

pub nothing_left : (left : List ℕ) → length left ≡ 0 → left ≡ []
nothing_left [] h = refl
nothing_left (b ∷ left) h = absurd (cc)

-- no bytes are left, and the reader was finished
pub feeds_end : (all left : List ℕ) (r : Reader) (result : Result (Unit {0}) StreamError) → HasFedAllBut all left r → left ≡ []
    → ((fed : List ℕ) (handed : List Event) → HasRead fed handed r → r.error ≡ None
    → MatchResult result (λ _. (walk_of r.rows r.limit fed).ending ≡ between) (λ e. ((walk_of r.rows r.limit fed).ending ≡ inside) × (e ≡ stream.Truncated (length fed))))
    → IfErr result (λ e. e ≢ stream.Memory → HasTagsFault e all)
feeds_end all left r result h nothing told =
    let whole : all ≡ h.front = h.split ∙ ap (λ x. h.front ++ x) nothing ∙ append-nil h.front in
    subst (λ (bytes : List ℕ). IfErr result (λ e. e ≢ stream.Memory → HasTagsFault e bytes)) (sym whole)
    (fed_end h.front r result h.fed (told h.front h.fed.read.0 h.fed.read.1 h.fed.going))
