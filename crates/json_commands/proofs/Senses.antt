-- The specifications are sensible: an input has one status, and no error if the command succeeds.
use Rattle.std.proofs.Common.{◌≡◌, ℕ, zero, suc, List, [], ◌∷◌, Some, inl, inr, refl, sym, subst, ap, ◌∙◌, arith}
use Rattle.std.proofs.lemmas.Bool.{true≢false}
use Rattle.code_table.specs.Standard.{standard_rows}
use Rattle.dmap_tags.specs.Tree.{Tree}
use Rattle.dmap_json.proofs.Walked.{no_fault}
use Rattle.dmap_show.specs.TextLines.{before, behind, has}
use Rattle.dmap_stream.proofs.TagsWalk.{tags_read}
use Rattle.dmap_stream.specs.Walk.{Walk, between, inside, broken}
use Rattle.dmap_stream.specs.declared.refusal.StreamError.{StreamError}
use Rattle.command_core.specs.Causes.{HasCause}
use Rattle.command_core.proofs.Reading.{read_whole}
use Rattle.command_core.proofs.Sensible.{WritesOnce}
use Rattle.tag_commands.specs.declared.tags_fault.TagsFault.{TagsFault}
use Rattle.tag_commands.specs.declared.tags_fault.TagsFault.TheVariants as tags
use Rattle.tag_commands.specs.TopTags.{tags_status}
use Rattle.tag_commands.proofs.Senses.{reads_once}
use Rattle.json_commands.specs.declared.json_back.LineFault.{LineFault}
use Rattle.json_commands.specs.declared.json_back.LineFault.TheVariants.{Line, TooLong}
use Rattle.json_commands.specs.Whole.{json_limit, IsWithin}
use Rattle.json_commands.specs.Json.{GivesJson, HasTagsFault, walk_of_bytes, json_cause, json_meaning}
use Rattle.json_commands.specs.JsonBack.{GivesTags, AreJsonLines, IsJsonLine, IsNoTag, StopsAfter, line_status, line_cause, json_back_meaning}

-- ---- json

one_tags_status : (input : List ℕ) (one other : TagsFault) → HasCause (json_cause one) input → HasCause (json_cause other) input → tags_status one ≡ tags_status other
one_tags_status input (tags.Broken error) (tags.Broken more) says said = refl
one_tags_status input (tags.Broken error) tags.TooLong says said = absurd (let within = says.1.within in let long = said.1 in omega arith)
one_tags_status input tags.TooLong (tags.Broken error) says said = absurd (let within = said.1.within in let long = says.1 in omega arith)
one_tags_status input tags.TooLong tags.TooLong says said = refl

ends_between : (input output : List ℕ) → GivesJson input output → (walk_of_bytes input).ending ≡ between
ends_between input output h = ap (λ bytes. (walk_of_bytes bytes).ending) h.spelled ∙ ap (λ (w : Walk). w.ending) (tags_read standard_rows json_limit h.tags (omega arith) h.accepted)

tags_or_fault : (input output : List ℕ) (error : StreamError) → GivesJson input output → HasTagsFault error input → ⊥
tags_or_fault input output error h (inl shown) = absurd (let ending : between ≡ broken error = sym (ends_between input output h) ∙ shown in cc)
tags_or_fault input output error h (inr cut) = absurd (let ending : between ≡ inside = sym (ends_between input output h) ∙ cut.0 in cc)

no_tags_fault : (input : List ℕ) (own : TagsFault) → HasCause (json_cause own) input → (IsWithin input × ((output : List ℕ) × GivesJson input output)) → ⊥
no_tags_fault input (tags.Broken error) says given = tags_or_fault input given.1.0 error given.1.1 says.1.broken
no_tags_fault input tags.TooLong says given = absurd (let within = given.0 in let long = says.1 in omega arith)

pub json_sense : WritesOnce json_meaning
json_sense = reads_once json_meaning one_tags_status no_tags_fault (λ input before after share output told done.
    let same = read_whole input done.bytes before.input.left after.input.left told done.read done.end in
    subst (λ bytes. IsWithin bytes × ((output : List ℕ) × GivesJson bytes output)) (sym same) (done.within, (output, done.given)))

-- ---- json --back

one_line_status : (input : List ℕ) (one other : LineFault) → HasCause (line_cause one) input → HasCause (line_cause other) input → line_status one ≡ line_status other
one_line_status input (Line line) (Line more) says said = refl
one_line_status input (Line line) TooLong says said = absurd (let within = says.1.within in let long = said.1 in omega arith)
one_line_status input TooLong (Line line) says said = absurd (let within = said.1.within in let long = says.1 in omega arith)
one_line_status input TooLong TooLong says said = refl

line_or_none : (line : List ℕ) (t : Tree) → IsJsonLine line t → IsNoTag line → ⊥
line_or_none line t h (inl bad) = true≢false (sym h.0 ∙ bad)
line_or_none line t h (inr bad) = bad.1.1.0 (no_fault standard_rows line t bad.1.0 h.1 bad.1.1.1)

lines_or_stop : (n : ℕ) (ts : List Tree) (text : List ℕ) → AreJsonLines ts text → StopsAfter n text → ⊥
lines_or_stop zero [] text h stop = stop.0 h
lines_or_stop zero (t ∷ ts) text h (some, inl bad) = true≢false (sym h.0 ∙ bad)
lines_or_stop zero (t ∷ ts) text h (some, inr bad) = line_or_none (before 10 text) t h.1.0 bad.1
lines_or_stop (suc n) [] text h stop = true≢false (sym stop.0 ∙ ap (has 10) h)
lines_or_stop (suc n) (t ∷ ts) text h stop = lines_or_stop n ts (behind 10 text) h.1.1 stop.1.1

no_line_fault : (input : List ℕ) (own : LineFault) → HasCause (line_cause own) input → (IsWithin input × ((output : List ℕ) × GivesTags input output)) → ⊥
no_line_fault input (Line line) says given = let stops = says.1.stops in lines_or_stop stops.0 given.1.1.tags input given.1.1.lines stops.1.1
no_line_fault input TooLong says given = absurd (let within = given.0 in let long = says.1 in omega arith)

pub json_back_sense : WritesOnce json_back_meaning
json_back_sense = reads_once json_back_meaning one_line_status no_line_fault (λ input before after share output told done.
    let same = read_whole input done.bytes before.input.left after.input.left told done.read done.end in
    subst (λ text. IsWithin text × ((output : List ℕ) × GivesTags text output)) (sym same) (done.within, (output, done.given)))
