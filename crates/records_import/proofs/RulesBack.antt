-- The printed text of a rule that was read is within the limits, and reads back as the rule.
use Rattle.std.proofs.Common.{◌≡◌, ◌∷◌, ◌++◌, [], ℕ, List, None, true, false, Ok, IsUtf8, refl, sym, subst}
use Rattle.std.proofs.lemmas.Bool.{and_parts}
use Rattle.std.proofs.lemmas.Str.{is_utf8-from_IsUtf8}
use Rattle.std.specs.Str.{is_utf8}
use Rattle.item_model.specs.Proper.{are_proper, have_two, is_proper}
use Rattle.item_model.specs.QuerySeen.{tree_of}
use Rattle.item_model.specs.QueryTree.{QueryTree, condition, and_of, or_of, QueryTrees, no_queries, more_queries}
use Rattle.item_model.specs.declared.query.Query.{Query}
use Rattle.song_query.specs.Printing.{printed, printed_and, printed_and_more, printed_member, printed_or, printed_or_more, printed_unit}
use Rattle.records_import.specs.Rules.{RuleReads}
use Rattle.records_import.specs.Values.{ReadFlaw, RuleFlaw, TextFlaw, is_empty}
use Rattle.song_query.proofs.ReadAgain.{read_again}
use Rattle.song_query.proofs.ReadLaws.{reads_proper}

-- the printed text of a rule reads as the rule, if some text does
pub rule_back : (rule : Query) (text : List ℕ) → RuleReads text (Ok rule) → RuleReads (printed (tree_of rule)) (Ok rule)
rule_back rule text reads = (λ e. absurd (cc e), read_again rule text reads.1)

filled_front : (a b : List ℕ) → is_empty a ≡ false → is_empty (a ++ b) ≡ false
filled_front [] b h = absurd (cc h)
filled_front (c ∷ cs) b h = refl

filled_unit : (q : QueryTree) → is_empty (printed_unit q) ≡ false
filled_unit (condition c) = refl
filled_unit (and_of qs) = refl
filled_unit (or_of qs) = refl

filled_and : (qs : QueryTrees) → have_two qs ≡ true → is_empty (printed_and qs) ≡ false
filled_and no_queries h = absurd (cc h)
filled_and (more_queries q qs) h = filled_front (printed_unit q) (printed_and_more qs) (filled_unit q)

filled_member : (q : QueryTree) → is_proper q ≡ true → is_empty (printed_member q) ≡ false
filled_member (condition c) h = refl
filled_member (and_of qs) h = filled_and qs (and_parts (have_two qs) (are_proper qs) h).0
filled_member (or_of qs) h = refl

filled_or : (qs : QueryTrees) → have_two qs ≡ true → are_proper qs ≡ true → is_empty (printed_or qs) ≡ false
filled_or no_queries h k = absurd (cc h)
filled_or (more_queries q qs) h k = filled_front (printed_member q) (printed_or_more qs) (filled_member q (and_parts (is_proper q) (are_proper qs) k).0)

-- a printed query is not empty
filled_query : (q : QueryTree) → is_proper q ≡ true → is_empty (printed q) ≡ false
filled_query (condition c) h = refl
filled_query (and_of qs) h = filled_and qs (and_parts (have_two qs) (are_proper qs) h).0
filled_query (or_of qs) h = let parts = and_parts (have_two qs) (are_proper qs) h in filled_or qs parts.0 parts.1

sound_cell : (cell : List ℕ) → is_empty cell ≡ false → is_utf8 cell ≡ true → ReadFlaw cell None → RuleFlaw cell None
sound_cell [] some utf8 flaw = absurd (cc some)
sound_cell (b ∷ bytes) some utf8 flaw = subst (λ t. TextFlaw t (b ∷ bytes) None) (sym utf8) flaw

-- so as a cell it is not malformed
pub rule_sound : (rule : Query) (text : List ℕ) → RuleReads text (Ok rule) → IsUtf8 (printed (tree_of rule)) → RuleFlaw (printed (tree_of rule)) None
rule_sound rule text reads utf8 =
    sound_cell (printed (tree_of rule)) (filled_query (tree_of rule) (reads_proper text (tree_of rule) reads.1.1)) (is_utf8-from_IsUtf8 _ utf8) (rule, rule_back rule text reads)
