use Rattle.std.proofs.Common.{◌≡◌, ◌≤◌, ◌++◌, List, ℕ, length, subst, sym, ap, ◌∙◌, Ok}
use Rattle.item_model.specs.QuerySeen.{tree_of}
use Rattle.song_query.specs.Answers.{Answers}
use Rattle.song_query.specs.Nesting.{deepest}
use Rattle.song_query.specs.Printing.{printed}
use Rattle.song_query.specs.Reading.{QueryReads}
use Rattle.song_query.proofs.Forms.{prints}
use Rattle.song_query.proofs.Least.{text_least}
use Rattle.song_query.proofs.MachineLaws.{one_reading}
use Rattle.song_query.proofs.Peaks.{text_shallowest}
use Rattle.song_query.proofs.ReadAgain.{read_again}
use Rattle.song_query.proofs.printing.print.Goals as goal

pub returns-clause-reads : goal.returns-clause-reads
returns-clause-reads c =
    let q = tree_of c.args.query.now in
    let e : c.in_ok-text.text ≡ printed q = c.in_ok-text.ensures ∙ c.as_str.ensures.value ∙ c.in_ok-push_query.ensures ∙ ap (λ s. s ++ printed q) c.new-out.ensures.bytes in
    subst (λ t. QueryReads t q) (sym e) (prints q c.requires)

pub returns-clause-only : goal.returns-clause-only
returns-clause-only c =
    let q = tree_of c.args.query.now in
    let e : c.in_ok-text.text ≡ printed q = c.in_ok-text.ensures ∙ c.as_str.ensures.value ∙ c.in_ok-push_query.ensures ∙ ap (λ s. s ++ printed q) c.new-out.ensures.bytes in
    λ other reads. one_reading c.in_ok-text.text other q reads (subst (λ t. QueryReads t q) (sym e) (prints q c.requires))

pub returns-clause-least : goal.returns-clause-least
returns-clause-least c =
    let q = tree_of c.args.query.now in
    let e : c.in_ok-text.text ≡ printed q = c.in_ok-text.ensures ∙ c.as_str.ensures.value ∙ c.in_ok-push_query.ensures ∙ ap (λ s. s ++ printed q) c.new-out.ensures.bytes in
    λ other r. subst (λ (t : List ℕ). length t ≤ length other) (sym e) (text_least other q r)

pub returns-clause-shallowest : goal.returns-clause-shallowest
returns-clause-shallowest c =
    let q = tree_of c.args.query.now in
    let e : c.in_ok-text.text ≡ printed q = c.in_ok-text.ensures ∙ c.as_str.ensures.value ∙ c.in_ok-push_query.ensures ∙ ap (λ s. s ++ printed q) c.new-out.ensures.bytes in
    λ other r. subst (λ (t : List ℕ). deepest t ≤ deepest other) (sym e) (text_shallowest other q c.requires r)

pub returns-clause-read_again : goal.returns-clause-read_again
returns-clause-read_again c =
    let q = tree_of c.args.query.now in
    let e : c.in_ok-text.text ≡ printed q = c.in_ok-text.ensures ∙ c.as_str.ensures.value ∙ c.in_ok-push_query.ensures ∙ ap (λ s. s ++ printed q) c.new-out.ensures.bytes in
    λ other answered. subst (λ (t : List ℕ). Answers t (Ok c.args.query.now)) (sym e) (read_again c.args.query.now other answered)
