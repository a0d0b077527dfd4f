-- What was added was kept in the same turn, or lost, and the share stopped.
use Rattle.std.proofs.Common.{rules, ◌≡◌, true, false, subst, refl}
use Rattle.std.specs.Prelude.{is_ok}
use Rattle.share_server.specs.Answering.{HasAdded, has_added, loses_in}
use Rattle.share_server.specs.Kept.{IsReadyFor, edits_wanted}
use Rattle.share_server.proofs.Kept.{goes_on_behind, grows_twice, is_lost_in_turn, kept_in_turn, lost_in_turn, unready_in_turn}
use Rattle.share_server.proofs.turns.keeping.ask_share.Goals as goal

-- what was answered is returned
pub returns-in_default-clause-grows : goal.returns-in_default-clause-grows
returns-in_default-clause-grows g c = c.answer_ask-outcome.ensures.grows

pub returns-in_default-clause-looked : goal.returns-in_default-clause-looked
returns-in_default-clause-looked g c = c.answer_ask-outcome.ensures.looked

pub returns-then-is_ok-clause-grows : goal.returns-then-is_ok-clause-grows
returns-then-is_ok-clause-grows g c = c.answer_ask-outcome.ensures.grows

pub returns-then-is_ok-clause-looked : goal.returns-then-is_ok-clause-looked
returns-then-is_ok-clause-looked g c = c.answer_ask-outcome.ensures.looked

-- it brings no edits
pub returns-in_default-clause-keeping : goal.returns-in_default-clause-keeping
returns-in_default-clause-keeping g c = λ k own found.
    let added : has_added c.answer_ask-outcome.result ≡ true = search rules in
    unready_in_turn k c.args.share.now c.args.by c.args.ask.now.want (has_added c.answer_ask-outcome.result) c.answer_ask-outcome.new.share.history
    (record { own = own; found = found; adds_it = c.answer_ask-outcome.ensures.added; is_added = added })
    (g.F.Keeps.keeps c.args.keeper.now) (g.F.Keeps.is_lost c.args.keeper.now) (g.F.Keeps.faults c.args.keeper.now) (loses_in c.answer_ask-outcome.result) c.requires.going
    c.answer_ask-outcome.ensures.goes_on (subst (λ ready. IsReadyFor g.F.Keeps.is_for (edits_wanted c.args.ask.now.want) ready) c.in_default.is c.requires.made)

-- it was kept
pub returns-then-is_ok-clause-keeping : goal.returns-then-is_ok-clause-keeping
returns-then-is_ok-clause-keeping g c = λ k own found.
    let added : has_added c.answer_ask-outcome.result ≡ true = search rules in
    let ok : is_ok c.keep.result ≡ true = search rules in
    kept_in_turn k c.args.share.now c.args.by c.args.ask.now.want (has_added c.answer_ask-outcome.result) c.answer_ask-outcome.new.share.history
    (record { own = own; found = found; adds_it = c.answer_ask-outcome.ensures.added; is_added = added })
    _ g.F.Keeps.is_for c.in-Some.ready (subst (λ ready. IsReadyFor g.F.Keeps.is_for (edits_wanted c.args.ask.now.want) ready) c.in-Some.is c.requires.made)
    (g.F.Keeps.keeps c.args.keeper.now) (g.F.Keeps.keeps c.keep.new.self) (g.F.Keeps.is_lost c.keep.new.self) (g.F.Keeps.faults c.args.keeper.now)
    (g.F.Keeps.faults c.keep.new.self) c.keep.result c.keep.ensures.lost c.keep.ensures.count (loses_in c.answer_ask-outcome.result) c.answer_ask-outcome.ensures.goes_on ok
    c.keep.ensures.acknowledged

-- it was lost
pub stop-requires : goal.stop-requires
stop-requires g c =
    let added : has_added c.answer_ask-outcome.result ≡ true = search rules in record {
      going =
          goes_on_behind c.args.share.now.settings c.args.share.now.history c.answer_ask-outcome.new.share.history c.args.by c.args.ask.now.want
          (subst (λ b. HasAdded b c.args.share.now.history c.args.by c.args.ask.now.want c.answer_ask-outcome.new.share.history) added c.answer_ask-outcome.ensures.added)
          (subst (λ ready. IsReadyFor g.F.Keeps.is_for (edits_wanted c.args.ask.now.want) ready) c.in-Some.is c.requires.made).0;
    }

pub returns-clause-grows : goal.returns-clause-grows
returns-clause-grows g c =
    grows_twice c.args.share.now c.answer_ask-outcome.new.share c.stop.new.share c.args.by c.answer_ask-outcome.ensures.grows c.stop.ensures.settings c.stop.ensures.stopped

pub returns-clause-looked : goal.returns-clause-looked
returns-clause-looked g c = λ k own found.
    let added : has_added c.answer_ask-outcome.result ≡ true = search rules in
    is_lost_in_turn k c.args.share.now c.args.by c.args.ask.now.want (has_added c.answer_ask-outcome.result) c.answer_ask-outcome.new.share.history
    (record { own = own; found = found; adds_it = c.answer_ask-outcome.ensures.added; is_added = added })
    _ g.F.Keeps.is_for c.in-Some.ready (subst (λ ready. IsReadyFor g.F.Keeps.is_for (edits_wanted c.args.ask.now.want) ready) c.in-Some.is c.requires.made)
    (g.F.Keeps.keeps c.args.keeper.now) (g.F.Keeps.keeps c.keep.new.self) (g.F.Keeps.is_lost c.keep.new.self) (g.F.Keeps.faults c.args.keeper.now)
    (g.F.Keeps.faults c.keep.new.self) c.keep.result c.keep.ensures.lost c.keep.ensures.count c.stop.new.share.history c.stop.ensures.stopped c.args.ask.now refl

pub returns-clause-keeping : goal.returns-clause-keeping
returns-clause-keeping g c = λ k own found.
    let added : has_added c.answer_ask-outcome.result ≡ true = search rules in
    let lost : is_ok c.keep.result ≡ false = search rules in
    lost_in_turn k c.args.share.now c.args.by c.args.ask.now.want (has_added c.answer_ask-outcome.result) c.answer_ask-outcome.new.share.history
    (record { own = own; found = found; adds_it = c.answer_ask-outcome.ensures.added; is_added = added })
    _ g.F.Keeps.is_for c.in-Some.ready (subst (λ ready. IsReadyFor g.F.Keeps.is_for (edits_wanted c.args.ask.now.want) ready) c.in-Some.is c.requires.made)
    (g.F.Keeps.keeps c.args.keeper.now) (g.F.Keeps.keeps c.keep.new.self) (g.F.Keeps.is_lost c.keep.new.self) (g.F.Keeps.faults c.args.keeper.now)
    (g.F.Keeps.faults c.keep.new.self) c.keep.result c.keep.ensures.lost c.keep.ensures.count c.stop.new.share.history c.stop.ensures.stopped lost c.keep.ensures.kept
