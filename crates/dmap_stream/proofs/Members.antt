-- Going through the tags of a list, one after another.
use Rattle.std.proofs.Common.{◌≡◌, ◌≢◌, ℕ, ◌+◌, ◌-◌, ◌<◌, ◌≤◌, List, [], ◌∷◌, ◌++◌, length, Bool, true, false, not, ◌==◌, nat_lt, if◌then◌else◌, Some, None, refl, sym, ap, subst, ◌∙◌, arith, length-append, append_assoc}
use Rattle.std.proofs.lemmas.List.{append-nil}
use Rattle.std.proofs.lemmas.Bool.{le-ltb, lt-leb, cond-false, cond-true, and_parts, and_from, eq-eqb, eqb-true, ltb-true}
use Rattle.dmap_tags.specs.Codes.{Four}
use Rattle.dmap_tags.specs.Tree.{Tree, leaf, list, Trees, none, more, trees_of, levels, levels_in}
use Rattle.dmap_tags.specs.Spelling.{payload, spelling, spellings}
use Rattle.dmap_tags.specs.Proper.{IsProperTag, AreProperTags}
use Rattle.code_table.specs.declared.row.CodeRow.{CodeRow}
use Rattle.code_table.specs.Fits.{fits, all_fit}
use Rattle.dmap_stream.specs.declared.containers.Container.{Container}
use Rattle.dmap_stream.specs.declared.event.Event.{Event}
use Rattle.dmap_stream.specs.declared.event.Event.TheVariants.{Close}
use Rattle.dmap_stream.specs.declared.refusal.StreamError.{StreamError}
use Rattle.dmap_stream.specs.declared.refusal.StreamError.TheVariants.{ShortHead, Memory}
use Rattle.dmap_stream.specs.Walk.{Walk, is_empty, closes, open_after, is_short, parent_of, at_head, walk_from}
use Rattle.dmap_stream.specs.WholeTag.{refusal, end_of, IsRoomFor, AreRest, ReadsTag, RefusesTag, ReadsRest, RefusesRest}
use Rattle.dmap_stream.proofs.Settled.{none_end}
use Rattle.dmap_stream.proofs.WholeTags.{place_ends, count}

-- tags followed by others
abbrev pub joined : List Tree → Trees → Trees
joined [] us = us
joined (t ∷ ts) us = more t (joined ts us)

joined_none : (ts : List Tree) → joined ts none ≡ trees_of ts
joined_none [] = refl
joined_none (t ∷ ts) = ap (more t) (joined_none ts)

joined_more : (ts : List Tree) (u : Tree) (us : Trees) → joined ts (more u us) ≡ joined (ts ++ u ∷ []) us
joined_more [] u us = refl
joined_more (t ∷ ts) u us = ap (more t) (joined_more ts u us)

spellings_more : (ts : List Tree) (u : Tree) → spellings (trees_of (ts ++ u ∷ [])) ≡ spellings (trees_of ts) ++ spelling u
spellings_more [] u = append-nil (spelling u)
spellings_more (t ∷ ts) u = ap (λ l. spelling t ++ l) (spellings_more ts u) ∙ sym (append_assoc (spelling t) (spellings (trees_of ts)) (spelling u))

fit_more : (rows : List CodeRow) (c : Four) (ts : List Tree) (u : Tree) → all_fit rows c (trees_of ts) ≡ true → fits rows (Some c) u ≡ true → all_fit rows c (trees_of (ts ++ u ∷ [])) ≡ true
fit_more rows c [] u h k = and_from _ _ k refl
fit_more rows c (t ∷ ts) u h k = and_from _ _ (and_parts _ _ h).0 (fit_more rows c ts u (and_parts _ _ h).1 k)

proper_more : (ts : List Tree) (u : Tree) → AreProperTags (trees_of ts) → IsProperTag u → AreProperTags (trees_of (ts ++ u ∷ []))
proper_more [] u h k = (k, tt)
proper_more (t ∷ ts) u h k = (h.0, proper_more ts u h.1 k)

deep_more : (n : ℕ) (ts : List Tree) (u : Tree) → n + levels_in (trees_of ts) ≤ 32 → n + levels u ≤ 32 → n + levels_in (trees_of (ts ++ u ∷ [])) ≤ 32
deep_more n [] u h k = omega arith
deep_more n (t ∷ ts) u h k = let later = deep_more n ts u (omega arith) k in omega arith

some_level : (u : Tree) → 1 ≤ levels u
some_level (leaf c l) = omega arith
some_level (list c ts) = omega arith

-- the tags that were read from a place on, and what is left of the bytes there
pub record Passed (rows : List CodeRow) (limit at : ℕ) (around : List Container) (bytes : List ℕ) (front : List Tree) (here : ℕ) (rest : List ℕ) : Type 0 where
  pub spelled : bytes ≡ spellings (trees_of front) ++ rest
  pub fit : (c : Four) → parent_of around ≡ Some c → all_fit rows c (trees_of front) ≡ true
  pub proper : AreProperTags (trees_of front)
  pub deep : length around + levels_in (trees_of front) ≤ 32
  pub place : here ≡ at + length (spellings (trees_of front))
  pub goes : (walk_from rows limit at around bytes).ending ≡ (walk_from rows limit here around rest).ending
  pub only : (c : Four) (us : Trees) (more : List ℕ) → AreRest rows at around c us → bytes ≡ spellings us ++ more →
      (vs : Trees) × (us ≡ joined front vs) × AreRest rows here around c vs × (rest ≡ spellings vs ++ more)

pub none_passed : (rows : List CodeRow) (limit at : ℕ) (around : List Container) (bytes : List ℕ) → length around ≤ 32 → Passed rows limit at around bytes [] at bytes
none_passed rows limit at around bytes within = record {
  spelled = refl;
  fit = λ c inside. refl;
  proper = tt;
  deep = omega arith;
  place = omega arith;
  goes = refl;
  only = λ c us more rest said. (us, refl, rest, said);
}

-- a place where no list ends and there is space for a head
pub record IsDue (here : ℕ) (around : List Container) : Type 0 where
  pub going : not (is_empty (closes here around)) ≡ false
  pub long : is_short here (open_after here around) ≡ false

none_closes : (here : ℕ) (around : List Container) → not (is_empty (closes here around)) ≡ false → open_after here around ≡ around
none_closes here around h = none_end here around (empty (closes here around) h)
  where
    empty : (es : List Event) → not (is_empty es) ≡ false → es ≡ []
    empty [] h = refl
    empty (e ∷ es) h = absurd (cc)

pub due_goes : (rows : List CodeRow) (limit here : ℕ) (around : List Container) (rest : List ℕ) → IsDue here around →
    (walk_from rows limit here around rest).ending ≡ (at_head (walk_from rows limit) rows limit here around rest).ending
due_goes rows limit here around rest due =
    place_ends rows limit here around rest
    ∙ ap (λ (w : Walk). w.ending) (cond-false (is_short here (open_after here around)) _ _ due.long)
    ∙ ap (λ l. (at_head (walk_from rows limit) rows limit here l rest).ending) (none_closes here around due.going)

-- the place is the end of no list
not_end : (here : ℕ) (around : List Container) (c : Four) → parent_of around ≡ Some c → not (is_empty (closes here around)) ≡ false → here ≢ end_of around
not_end here [] c inside going is = absurd (cc)
not_end here (k ∷ around) c inside going is = absurd (let bad : true ≡ false = sym (ap (λ b. not (is_empty (if b then Close k.code k.at ∷ closes here around else []))) (eq-eqb k.end here (sym is))) ∙ going in cc)

-- the next of the tags that are accepted up to the list's end is accepted
pub next_room : (rows : List CodeRow) (limit here : ℕ) (around : List Container) (c : Four) (u : Tree) (us : Trees) → AreRest rows here around c (more u us) → IsRoomFor rows limit here around u
next_room rows limit here [] c u us r = absurd (let bad : None ≡ Some c = r.list in cc)
next_room rows limit here (k ∷ around) c u us r =
    let long : length (payload u ++ spellings us) ≡ length (payload u) + length (spellings us) = length-append (payload u) (spellings us) in
    let less = r.told in
    let deep = r.deep in
    let level = some_level u in
    let is = r.ends in
    record {
      fit = ap (λ p. fits rows p u) r.list ∙ (and_parts _ _ r.fit).0;
      proper = r.proper.0;
      deep = omega arith;
      told = omega arith;
      room = cond-false _ _ _ (lt-leb 32 (length (k ∷ around)) (omega arith)) ∙ cond-false _ _ _ (le-ltb k.end (here + 8 + length (payload u)) (omega arith));
    }

pub next_rest : (rows : List CodeRow) (here : ℕ) (around : List Container) (c : Four) (u : Tree) (us : Trees) → AreRest rows here around c (more u us) → AreRest rows (here + length (spelling u)) around c us
next_rest rows here around c u us r =
    let long : length (payload u ++ spellings us) ≡ length (payload u) + length (spellings us) = length-append (payload u) (spellings us) in
    let less = r.told in
    let deep = r.deep in
    let is = r.ends in
    record {
      list = r.list;
      fit = (and_parts _ _ r.fit).1;
      proper = r.proper.1;
      deep = omega arith;
      told = omega arith;
      ends = omega arith;
    }

pub more_passed : (rows : List CodeRow) (limit at : ℕ) (around : List Container) (bytes : List ℕ) (front : List Tree) (here : ℕ) (rest : List ℕ) (t : Tree) (later : List ℕ) →
    Passed rows limit at around bytes front here rest → IsDue here around → ReadsTag rows limit here around rest t later →
    Passed rows limit at around bytes (front ++ t ∷ []) (here + length (spelling t)) later
more_passed rows limit at around bytes front here rest t later p due r = record {
  spelled = p.spelled ∙ ap (λ l. spellings (trees_of front) ++ l) r.spelled
      ∙ sym (append_assoc (spellings (trees_of front)) (spelling t) later)
      ∙ ap (λ l. l ++ later) (sym (spellings_more front t));
  fit = λ c inside. fit_more rows c front t (p.fit c inside) (ap (λ o. fits rows o t) (sym inside) ∙ r.fit);
  proper = proper_more front t p.proper r.proper;
  deep = deep_more (length around) front t p.deep r.deep;
  place = let is = p.place in let long : length (spellings (trees_of (front ++ t ∷ []))) ≡ length (spellings (trees_of front)) + length (spelling t) = ap length (spellings_more front t) ∙ length-append (spellings (trees_of front)) (spelling t) in omega arith;
  goes = p.goes ∙ due_goes rows limit here around rest due ∙ r.goes;
  only = λ c us after accepted said.
      let o = p.only c us after accepted said in
      let n = next c o.0 after o.2 o.3 in
      (n.0, o.1 ∙ ap (joined front) n.1 ∙ joined_more front t n.0, n.2, n.3);
}
  where
    next : (c : Four) (vs : Trees) (after : List ℕ) → AreRest rows here around c vs → rest ≡ spellings vs ++ after →
        (ws : Trees) × (vs ≡ more t ws) × AreRest rows (here + length (spelling t)) around c ws × (later ≡ spellings ws ++ after)
    next c none after a said = absurd (not_end here around c a.list due.going (let is = a.ends in omega arith))
    next c (more u us) after a said =
        let same = r.only u (spellings us ++ after) (next_room rows limit here around c u us a) (said ∙ append_assoc (spelling u) (spellings us) after) in (
          us,
          ap (λ x. more x us) same.0,
          subst (λ x. AreRest rows (here + length (spelling x)) around c us) same.0 (next_rest rows here around c u us a),
          sym same.1,
        )

pub all_passed : (rows : List CodeRow) (limit at : ℕ) (around : List Container) (bytes : List ℕ) (front : List Tree) (here : ℕ) (rest : List ℕ) →
    Passed rows limit at around bytes front here rest → not (is_empty (closes here around)) ≡ true → ReadsRest rows limit at around bytes (trees_of front) rest
all_passed rows limit at around bytes front here rest p over =
    let is : here ≡ end_of around = ended here around over in
    let place = p.place in
    record {
      spelled = p.spelled;
      fit = p.fit;
      proper = p.proper;
      deep = p.deep;
      ends = omega arith;
      goes = p.goes ∙ ap (λ n. (walk_from rows limit n around rest).ending) is;
      only = λ c us after accepted said.
          let o = p.only c us after accepted said in
          let n = last c o.0 after is o.2 o.3 in
          (o.1 ∙ ap (joined front) n.0 ∙ joined_none front, n.1);
    }
  where
    ended : (here : ℕ) (around : List Container) → not (is_empty (closes here around)) ≡ true → here ≡ end_of around
    ended here [] h = absurd (cc)
    ended here (k ∷ around) h = by (k.end == here) refl h
      where
        by : (b : Bool) → (k.end == here) ≡ b → not (is_empty (if b then Close k.code k.at ∷ closes here around else [])) ≡ true → here ≡ k.end
        by true e h = sym (eqb-true k.end here e)
        by false e h = absurd (cc)

    last : (c : Four) (vs : Trees) (after : List ℕ) → here ≡ end_of around → AreRest rows here around c vs → rest ≡ spellings vs ++ after → (vs ≡ none) × (after ≡ rest)
    last c none after is a said = (refl, sym said)
    last c (more u us) after is a said = absurd (let e = a.ends in omega arith)

pub short_refused : (rows : List CodeRow) (limit total at : ℕ) (around : List Container) (bytes : List ℕ) (front : List Tree) (here : ℕ) (rest : List ℕ) →
    Passed rows limit at around bytes front here rest → not (is_empty (closes here around)) ≡ false → is_short here (open_after here around) ≡ true → RefusesRest rows limit total at around bytes (ShortHead here)
short_refused rows limit total at around bytes front here rest p going short = record {
  tells = λ _.
      sym (
      ap (refusal total) (p.goes ∙ place_ends rows limit here around rest)
      ∙ ap (λ (w : Walk). refusal total w.ending) (cond-true (is_short here (open_after here around)) _ _ short)
      );
  never = λ c us after accepted said. let o = p.only c us after accepted said in absurd (no_room c o.0 o.2);
}
  where
    no_room : (c : Four) (vs : Trees) → AreRest rows here around c vs → ⊥
    no_room c none a = not_end here around c a.list going (let is = a.ends in omega arith)
    no_room c (more u us) a = room around a.list a.ends (ap (is_short here) (sym (none_closes here around going)) ∙ short)
      where
        room : (around : List Container) → parent_of around ≡ Some c → here + length (spellings (more u us)) ≡ end_of around → is_short here around ≡ true → ⊥
        room [] inside is short = absurd (cc)
        room (k ∷ around) inside is short =
            let parts = and_parts (nat_lt here k.end) (nat_lt k.end (here + 8)) short in
            absurd (let less : k.end < here + 8 = ltb-true k.end (here + 8) parts.1 in let long : length (payload u ++ spellings us) ≡ length (payload u) + length (spellings us) = length-append (payload u) (spellings us) in omega arith)

pub tag_refused : (rows : List CodeRow) (limit total at : ℕ) (around : List Container) (bytes : List ℕ) (front : List Tree) (here : ℕ) (rest : List ℕ) (e : StreamError) →
    Passed rows limit at around bytes front here rest → IsDue here around → RefusesTag rows limit total here around rest e → RefusesRest rows limit total at around bytes e
tag_refused rows limit total at around bytes front here rest e p due r = record {
  tells = λ known. r.tells known ∙ sym (ap (refusal total) (p.goes ∙ due_goes rows limit here around rest due));
  never = λ c us after accepted said. let o = p.only c us after accepted said in next c o.0 after o.2 o.3;
}
  where
    next : (c : Four) (vs : Trees) (after : List ℕ) → AreRest rows here around c vs → rest ≡ spellings vs ++ after → e ≡ Memory
    next c none after a said = absurd (not_end here around c a.list due.going (let is = a.ends in omega arith))
    next c (more u us) after a said = r.never u (spellings us ++ after) (next_room rows limit here around c u us a) (said ∙ append_assoc (spelling u) (spellings us) after)

-- `Memory` may be returned at any time
pub memory_tag : (rows : List CodeRow) (limit total at : ℕ) (around : List Container) (bytes : List ℕ) (e : StreamError) → e ≡ Memory → RefusesTag rows limit total at around bytes e
memory_tag rows limit total at around bytes e is = record { tells = λ known. absurd (known is); never = λ u more room said. is }

pub memory_rest : (rows : List CodeRow) (limit total at : ℕ) (around : List Container) (bytes : List ℕ) (e : StreamError) → e ≡ Memory → RefusesRest rows limit total at around bytes e
memory_rest rows limit total at around bytes e is = record { tells = λ known. absurd (known is); never = λ c us more rest said. is }

-- a place in a list, by the results of the calls that check it
pub due : (here : ℕ) (around around' : List Container) (ended short : Bool) → around ≡ around' → ended ≡ not (is_empty (closes here around)) → ended ≡ false → short ≡ is_short here (open_after here around) → short ≡ false → IsDue here around'
due here around around' ended short same is not_ended tells long = subst (IsDue here) same (record { going = sym is ∙ not_ended; long = sym tells ∙ long })

pub stepped : (rows : List CodeRow) (limit at : ℕ) (around around' : List Container) (bytes : List ℕ) (front front' : List Tree) (here : ℕ) (rest : List ℕ) (t : Tree) (later : List ℕ) →
    around' ≡ around → front' ≡ front ++ t ∷ [] → Passed rows limit at around bytes front here rest → IsDue here around → ReadsTag rows limit here around' rest t later →
    Passed rows limit at around bytes front' (here + (length rest - length later)) later
stepped rows limit at around around' bytes front front' here rest t later same new p is r =
    let read : ReadsTag rows limit here around rest t later = subst (λ a. ReadsTag rows limit here a rest t later) same r in
    subst (λ l. Passed rows limit at around bytes l (here + (length rest - length later)) later) (sym new)
    (subst (λ n. Passed rows limit at around bytes (front ++ t ∷ []) (here + n) later) (sym (count rest t later read.spelled)) (more_passed rows limit at around bytes front here rest t later p is read))

-- what is left is shorter
pub left_over : (rest : List ℕ) (t : Tree) (later : List ℕ) → rest ≡ spelling t ++ later → length later ≤ length rest
left_over rest t later is = let long : length rest ≡ length (spelling t ++ later) = ap length is in omega (arith, length-append (payload t) later)
