-- The lines of listings that a share gave at histories that rise, and the rows at the last one.
use Rattle.std.proofs.Common.{◌≡◌, ℕ, List, [], ◌∷◌, ◌++◌, length, Option, refl, sym, ap, ◌∙◌, append_assoc, append-nil}
use Rattle.item_model.specs.declared.changes.Edit.{Edit}
use Rattle.item_model.specs.declared.changes.Entry.{Entry}
use Rattle.item_model.specs.declared.query.Query.{Query}
use Rattle.item_model.specs.declared.request.Meta.{Meta}
use Rattle.item_model.specs.declared.request.Target.{Target}
use Rattle.share_history.specs.Histories.{batches, revision, up_to}
use Rattle.share_history.specs.Listings.{Listing, listing}
use Rattle.share_history.specs.Mirror.{Held, mirror_after, mirror_look, mirrored}
use Rattle.mirror_client.specs.Laws.{AreAnswers, last_point}
use Rattle.mirror_client.specs.Steps.{all_applied, applied_by}
use Rattle.mirror_client.proofs.FilterFacts.{caught_up, followers_hold_the_filter}
use Rattle.link_commands.specs.RoundLines.{round_line, round_lines, shown_rows}
use Rattle.share_meetings.specs.ServedRuns.{Rise}
use Rattle.share_meetings.proofs.Prefixes.{IsPrefix}
use Rattle.share_meetings.specs.Texts.{last_of, line_at, lines_at, rows_text, told_of}
use Rattle.share_meetings.proofs.Points.{first_begins, revisions_of, up_to_point}

module _ (keep : ℕ) (target : Target) (query : Option Query) (meta : Meta) (h : List Entry) where
  -- the line of a listing after which the mirror holds what the share has
  line_shown : (base : ℕ) (p : List Entry) (l : Listing) (held : Held) → IsPrefix p h → l ≡ listing keep (batches p) target (mirror_look query meta base)
      → mirror_after held l ≡ mirrored (batches p) target query meta → round_line (applied_by held l) ≡ line_at keep target query meta base (up_to (batches h) (revision (batches p)))
  line_shown base p l held begins is holds =
      ap (λ (k : Held). round_line (told_of l (length k.rows))) holds
      ∙ ap (λ (x : Listing). round_line (told_of x (length (mirrored (batches p) target query meta).rows))) is
      ∙ ap (λ (bs : List (List Edit)). line_at keep target query meta base bs) (sym (up_to_point p h begins))

  lines_further : (q : List Entry) (points : List (List Entry)) (ls : List Listing) (held : Held) → held ≡ mirrored (batches q) target query meta → Rise (q ∷ points) h
      → AreAnswers keep target query meta (revision (batches q)) points ls
      → round_lines (all_applied held ls) ≡ lines_at keep target query meta (batches h) (revision (batches q)) (revisions_of points)
  lines_further q [] [] held holds rise are = refl
  lines_further q [] (l ∷ ls) held holds rise are = absurd are
  lines_further q (p ∷ points) [] held holds rise are = absurd are
  lines_further q (p ∷ points) (l ∷ ls) held holds rise are =
      let holds' = caught_up keep target query meta q rise.0.0 p held l rise.0.1 holds are.0 in
      both_lines (round_line (applied_by held l)) (line_at keep target query meta (revision (batches q)) (up_to (batches h) (revision (batches p))))
      (round_lines (all_applied (mirror_after held l) ls)) (lines_at keep target query meta (batches h) (revision (batches p)) (revisions_of points))
      (line_shown (revision (batches q)) p l held (first_begins p points h rise.1) are.0 holds')
      (lines_further p points ls (mirror_after held l) holds' rise.1 are.1)
    where
      both_lines : (a b c d : List ℕ) → a ≡ b → c ≡ d → a ++ c ≡ b ++ d
      both_lines a b c d x y = ap (λ (t : List ℕ). t ++ c) x ∙ ap (λ (t : List ℕ). b ++ t) y

  -- from the first one on, which has all rows
  pub lines_shown : (points : List (List Entry)) (ls : List Listing) (held : Held) → Rise points h → AreAnswers keep target query meta 0 points ls
      → round_lines (all_applied held ls) ≡ lines_at keep target query meta (batches h) 0 (revisions_of points)
  lines_shown [] [] held rise are = refl
  lines_shown [] (l ∷ ls) held rise are = absurd are
  lines_shown (p ∷ points) [] held rise are = absurd are
  lines_shown (p ∷ points) (l ∷ ls) held rise are =
      let holds : mirror_after held l ≡ mirrored (batches p) target query meta = followers_hold_the_filter keep target query meta held p [] (l ∷ []) tt (are.0, tt) in
      ap (λ (t : List ℕ). t ++ round_lines (all_applied (mirror_after held l) ls)) (line_shown 0 p l held (first_begins p points h rise) are.0 holds)
      ∙ ap (λ (t : List ℕ). line_at keep target query meta 0 (up_to (batches h) (revision (batches p))) ++ t)
      (lines_further p points ls (mirror_after held l) holds rise are.1)

  pub rows_shown : (p : List Entry) (points : List (List Entry)) (held : Held) → Rise (p ∷ points) h → held ≡ mirrored (batches (last_point p points)) target query meta
      → shown_rows held.rows ≡ rows_text target query meta (batches h) (revisions_of (p ∷ points))
  rows_shown p [] held rise holds =
      ap (λ (k : Held). shown_rows k.rows) holds
      ∙ ap (λ (bs : List (List Edit)). shown_rows (mirrored bs target query meta).rows) (sym (up_to_point p h (first_begins p [] h rise)))
  rows_shown p (q ∷ points) held rise holds = rows_shown q points held rise.1 holds

  -- the line of one more revision
  pub lines_more : (base : ℕ) (vs : List ℕ) (v : ℕ)
      → lines_at keep target query meta (batches h) base (vs ++ v ∷ [])
      ≡ lines_at keep target query meta (batches h) base vs ++ line_at keep target query meta (last_of base vs) (up_to (batches h) v)
  lines_more base [] v = append-nil (line_at keep target query meta base (up_to (batches h) v))
  lines_more base (w ∷ vs) v =
      ap (λ (text : List ℕ). line_at keep target query meta base (up_to (batches h) w) ++ text) (lines_more w vs v)
      ∙ sym (append_assoc (line_at keep target query meta base (up_to (batches h) w)) (lines_at keep target query meta (batches h) w vs)
      (line_at keep target query meta (last_of w vs) (up_to (batches h) v)))
