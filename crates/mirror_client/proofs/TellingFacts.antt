-- What bodies contain: at most one tag, and so at most one number.
use Rattle.std.proofs.Common.{◌≡◌, ◌≢◌, ◌≤◌, ℕ, List, [], ◌++◌, length, take, true, Option, None, Some, sym, ap, ◌∙◌, subst, append-nil, arith}
use Rattle.std.proofs.lemmas.List.{take_all}
use Rattle.dmap_tags.specs.Codes.{Four}
use Rattle.dmap_tags.specs.Tree.{Tree}
use Rattle.dmap_tags.specs.Proper.{IsProperTag}
use Rattle.dmap_tags.specs.Spelling.{spelling}
use Rattle.code_table.specs.declared.row.CodeRow.{CodeRow}
use Rattle.std.specs.Prelude.{MatchOption}
use Rattle.dmap_stream.specs.declared.refusal.StreamError.{StreamError}
use Rattle.dmap_stream.specs.declared.refusal.StreamError.TheVariants as stream
use Rattle.dmap_stream.specs.WholeTag.{is_accepted}
use Rattle.dmap_stream.proofs.OneTag.{one_tag}
use Rattle.mirror_client.specs.Tellings.{HasNoNumber, HasNoTag, IsTag, body_limit, number_told}

pub tag_is : (rows : List CodeRow) (body : List ℕ) (tag : Tree) (n : ℕ) → n ≡ length body → take n body ≡ spelling tag → is_accepted rows body_limit tag ≡ true
    → IsProperTag tag → IsTag rows body tag
tag_is rows body tag n all spelled accepted proper = record {
  spelled = sym (take_all n body (omega (arith, all))) ∙ spelled;
  accepted = accepted;
  proper = proper;
}

-- the bytes of a whole tag are those of the tag and nothing after it
pub spelled_alone : (rows : List CodeRow) (body : List ℕ) (tag : Tree) → IsTag rows body tag → body ≡ spelling tag ++ []
spelled_alone rows body tag is = is.spelled ∙ sym (append-nil (spelling tag))

pub tags_once : (rows : List CodeRow) (body : List ℕ) (t u : Tree) → IsTag rows body t → IsTag rows body u → t ≡ u
tags_once rows body t u a b =
    (one_tag rows body_limit t u [] [] (omega arith) a.accepted a.proper b.accepted b.proper
    (sym (spelled_alone rows body t a) ∙ spelled_alone rows body u b)).0

pub no_number : (c : Four) (rows : List CodeRow) (body : List ℕ) (tag : Tree) → IsTag rows body tag → number_told c tag ≡ None → HasNoNumber c rows body
no_number c rows body tag is none = λ u too. ap (number_told c) (tags_once rows body u tag too is) ∙ none

-- the tag that was read from a prefix of a body, if that is all of it
pub whole : (rows : List CodeRow) (body bytes : List ℕ) (tag : Tree) (n total : ℕ) (o : Option Tree) → bytes ≡ body → total ≡ length bytes
    → (n ≤ length bytes) × (take n bytes ≡ spelling tag) × (is_accepted rows body_limit tag ≡ true) × IsProperTag tag
    → ((t : Tree) (rest : List ℕ) → is_accepted rows body_limit t ≡ true → IsProperTag t → bytes ≡ spelling t ++ rest → (tag ≡ t) × (n ≡ length (spelling t)))
    → MatchOption o (n ≢ total) (λ t. (t ≡ tag) × (n ≡ total)) → MatchOption o (HasNoTag rows body) (λ t. IsTag rows body t)
whole rows body bytes tag n total None same all found only h =
    λ t is. h ((only t [] is.accepted is.proper (same ∙ spelled_alone rows body t is)).1 ∙ ap length (sym (same ∙ is.spelled)) ∙ sym all)
whole rows body bytes tag n total (Some t) same all found only h =
    subst (λ (u : Tree). IsTag rows body u) (sym h.0)
    (subst (λ (b : List ℕ). IsTag rows b tag) same (tag_is rows bytes tag n (h.1 ∙ all) found.1 found.2 found.3))

-- bytes that are refused for another cause than memory are not a tag
pub none_read : (rows : List CodeRow) (body bytes : List ℕ) (e : StreamError) → bytes ≡ body → e ≢ stream.Memory
    → ((t : Tree) (rest : List ℕ) → is_accepted rows body_limit t ≡ true → IsProperTag t → bytes ≡ spelling t ++ rest → e ≡ stream.Memory) → HasNoTag rows body
none_read rows body bytes e same other only = λ t is. other (only t [] is.accepted is.proper (same ∙ spelled_alone rows body t is))
