-- Tags read off bytes and lines read as tags, one after another.
use Rattle.std.proofs.Common.{◌≡◌, ◌≤◌, ◌<◌, ◌+◌, ◌++◌, ◌∷◌, [], ℕ, zero, suc, Bool, List, length, take, drop, true, false, ◌==◌, ◌||◌, if◌then◌else◌, refl, sym, ap, ap₂, ◌∙◌, subst, arith, append_assoc, append-nil, length-append}
use Rattle.std.proofs.lemmas.List.{take-append-drop}
use Rattle.std.specs.Int.{w32, to_be_bytes}
use Rattle.dmap_tags.specs.Proper.{IsProperTag}
use Rattle.dmap_tags.specs.Spelling.{payload, spelling, spellings}
use Rattle.dmap_tags.specs.Tree.{Tree, trees_of}
use Rattle.code_table.specs.Standard.{standard_rows}
use Rattle.dmap_show.specs.TextLines.{behind, has}
use Rattle.dmap_stream.specs.WholeTag.{is_accepted, AreAccepted}
use Rattle.json_commands.specs.Whole.{json_limit}
use Rattle.json_commands.specs.Json.{json_line, json_lines, GivesJson, TakesTag}
use Rattle.json_commands.specs.JsonBack.{AreJsonLines, StopsAfter, StopsOn, GivesTags, TakesLine}

-- one tag more
pub spellings_more : (ts : List Tree) (t : Tree) → spellings (trees_of (ts ++ t ∷ [])) ≡ spellings (trees_of ts) ++ spelling t
spellings_more [] t = append-nil (spelling t)
spellings_more (u ∷ ts) t = ap (λ s. spelling u ++ s) (spellings_more ts t) ∙ sym (append_assoc (spelling u) (spellings (trees_of ts)) (spelling t))

lines_more : (ts : List Tree) (t : Tree) → json_lines (ts ++ t ∷ []) ≡ json_lines ts ++ json_line t
lines_more [] t = append-nil (json_line t)
lines_more (u ∷ ts) t = ap (λ s. json_line u ++ s) (lines_more ts t) ∙ sym (append_assoc (json_line u) (json_lines ts) (json_line t))

accepted_more : (ts : List Tree) (t : Tree) → AreAccepted standard_rows json_limit ts → is_accepted standard_rows json_limit t ≡ true → IsProperTag t → AreAccepted standard_rows json_limit (ts ++ t ∷ [])
accepted_more [] t h accepted proper = ((accepted, proper), tt)
accepted_more (u ∷ ts) t h accepted proper = (h.0, accepted_more ts t h.1 accepted proper)

-- what was read of the bytes so far, and its lines
pub record HasRead (bytes left lines : List ℕ) : Type 0 where
  pub done : List Tree
  pub spelled : bytes ≡ spellings (trees_of done) ++ left
  pub accepted : AreAccepted standard_rows json_limit done
  pub lines_are : lines ≡ json_lines done

pub read_none : (bytes : List ℕ) → HasRead bytes bytes []
read_none bytes = record { done = []; spelled = refl; accepted = tt; lines_are = refl }

pub read_more : (bytes left rest lines more : List ℕ) → HasRead bytes left lines → TakesTag left rest lines more → HasRead bytes rest more
read_more bytes left rest lines more h k = record {
  done = h.done ++ k.tag ∷ [];
  spelled =
      h.spelled ∙ ap (λ x. spellings (trees_of h.done) ++ x) k.split ∙ sym (append_assoc (spellings (trees_of h.done)) (spelling k.tag) rest)
      ∙ ap (λ x. x ++ rest) (sym (spellings_more h.done k.tag));
  accepted = accepted_more h.done k.tag h.accepted k.accepted k.proper;
  lines_are = k.added ∙ ap (λ x. x ++ json_line k.tag) h.lines_are ∙ sym (lines_more h.done k.tag);
}

pub read_all : (bytes left lines : List ℕ) → left ≡ [] → HasRead bytes left lines → GivesJson bytes lines
read_all bytes left lines nothing h = record {
  tags = h.done;
  spelled = h.spelled ∙ ap (λ x. spellings (trees_of h.done) ++ x) nothing ∙ append-nil (spellings (trees_of h.done));
  accepted = h.accepted;
  lines = h.lines_are;
}

-- the first tag was read and removed
pub takes_tag : (bytes rest lines more : List ℕ) (t : Tree) (n : ℕ) → take n bytes ≡ spelling t → rest ≡ drop n bytes → is_accepted standard_rows json_limit t ≡ true
    → IsProperTag t → more ≡ lines ++ json_line t → TakesTag bytes rest lines more
takes_tag bytes rest lines more t n front behind_is accepted proper added = record {
  tag = t;
  split = sym (take-append-drop n bytes) ∙ ap₂ (λ (x y : List ℕ). x ++ y) front (sym behind_is);
  accepted = accepted;
  proper = proper;
  added = added;
}

-- a tag has at least the bytes of its code
some_bytes : (t : Tree) → 0 < length (spelling t)
some_bytes t =
    let all : length (spelling t) ≡ suc (suc (suc (suc (length (to_be_bytes w32 (length (payload t)) ++ payload t))))) = refl in
    omega arith

pub fewer_bytes : (bytes rest lines more : List ℕ) → TakesTag bytes rest lines more → length rest < length bytes
fewer_bytes bytes rest lines more h =
    let is : length bytes ≡ length (spelling h.tag ++ rest) = ap length h.split in
    omega (arith, some_bytes h.tag, length-append (spelling h.tag) rest)

-- what was read of the lines so far, and the bytes of their tags
pub record HasTags (text left bytes : List ℕ) (count : ℕ) : Type 0 where
  pub done : List Tree
  pub spelled : bytes ≡ spellings (trees_of done)
  pub lines : (more : List Tree) → AreJsonLines more left → AreJsonLines (done ++ more) text
  pub stops : (n : ℕ) → StopsAfter n left → (m : ℕ) × ((m ≡ count + n) × StopsAfter m text)
  pub few : count + length left ≤ length text

pub tags_none : (text : List ℕ) → HasTags text text [] 0
tags_none text = record {
  done = [];
  spelled = refl;
  lines = λ more h. h;
  stops = λ n h. (n, (omega arith, h));
  few = omega arith;
}

shorter_by : (text : List ℕ) (is : Bool) → (has 10 text ≡ true → suc (length (behind 10 text)) ≤ length text) → (is || has 10 text) ≡ true
    → suc (length (if is then text else behind 10 text)) ≤ suc (length text)
shorter_by text true rest h = omega arith
shorter_by text false rest h = let fewer = rest h in omega arith

shorter : (text : List ℕ) → has 10 text ≡ true → suc (length (behind 10 text)) ≤ length text
shorter [] h = absurd (cc)
shorter (b ∷ text) h = shorter_by text (b == 10) (λ some. shorter text some) h

pub fewer_lines : (text rest bytes more : List ℕ) → TakesLine text rest bytes more → length rest < length text
fewer_lines text rest bytes more h =
    let same : length rest ≡ length (behind 10 text) = ap length h.rest_is in
    let fewer : suc (length (behind 10 text)) ≤ length text = shorter text h.ended in
    omega arith

pub tags_more : (text left rest bytes more : List ℕ) (count : ℕ) → HasTags text left bytes count → TakesLine left rest bytes more → HasTags text rest more (count + 1)
tags_more text left rest bytes more count h k =
    let so_far : count + length left ≤ length text = h.few in
    let fewer : length rest < length left = fewer_lines left rest bytes more k in
    record {
      done = h.done ++ k.tag ∷ [];
      spelled = k.added ∙ ap (λ x. x ++ spelling k.tag) h.spelled ∙ sym (spellings_more h.done k.tag);
      lines = λ others l. subst (λ ts. AreJsonLines ts text) (sym (append_assoc h.done (k.tag ∷ []) others))
          (h.lines (k.tag ∷ others) (k.ended, (k.line, subst (AreJsonLines others) k.rest_is l)));
      stops = λ n l.
          (let later = h.stops (suc n) (k.ended, ((k.tag, k.line), subst (StopsAfter n) k.rest_is l)) in
          let place : later.0 ≡ count + suc n = later.1.0 in
          (later.0, (omega arith, later.1.1)));
      few = omega arith;
    }

pub tags_all : (text left bytes : List ℕ) (count : ℕ) → left ≡ [] → HasTags text left bytes count → GivesTags text bytes
tags_all text left bytes count nothing h = record {
  tags = h.done;
  lines = subst (λ ts. AreJsonLines ts text) (append-nil h.done) (h.lines [] nothing);
  spelled = h.spelled;
}

pub tags_stop : (text left bytes : List ℕ) (count line : ℕ) → HasTags text left bytes count → line ≡ count + 1 → StopsAfter zero left → StopsOn line text
tags_stop text left bytes count line h is stop =
    let here = h.stops zero stop in
    let place : here.0 ≡ count + 0 = here.1.0 in
    (here.0, (omega arith, here.1.1))
