use Rattle.std.proofs.Common.{◌≡◌, ◌≢◌, ℕ, [], length, Some, true, false, rules, sym, ap, ◌∙◌}
use Rattle.share_replay.specs.Connections.{Connection, end_if_idle}
use Rattle.share_replay.specs.Intakes.{Stands}
use Rattle.share_replay.specs.declared.ends.End.TheVariants.{Cut}
use Rattle.share_replay.proofs.ConnectionFacts.{ends_between, ends_inside, reads_on, waits_asked, waits_refused}
use Rattle.share_replay.proofs.connection.Connection.end_if_idle.Goals as goal
use Rattle.share_replay.proofs.connection.Connection.end_if_idle.Goals.{then-is_some-via-then-is_some, then-is_some-via-else-is_some+then-is_some-2}

pub returns-then-is_some : goal.returns-then-is_some
returns-then-is_some c =
    let a = c.self.inside in
    let stands : Stands a.intake a.served = c.self.invariant (ap (λ (x : Connection). x.is_ended) c.self.view_is ∙ c.requires) in
    elim c.then-is_some.branch [
      | then-is_some-via-then-is_some w ↦
          waits_asked a.intake a.served a.is_closed a.is_ended stands (sym c.is_some.ensures ∙ w.if-is_some.true) ∙ ap end_if_idle c.self.view_is
      | then-is_some-via-else-is_some+then-is_some-2 w ↦
          waits_refused a.intake a.served a.is_closed a.is_ended stands (sym c.is_some.ensures ∙ w.if-is_some.false)
          (sym w.is_some-else-is_some.ensures ∙ w.if-is_some-2.true) ∙ ap end_if_idle c.self.view_is
    ]

pub returns-then-between : goal.returns-then-between
returns-then-between c =
    let a = c.self.inside in
    let stands : Stands a.intake a.served = c.self.invariant (ap (λ (x : Connection). x.is_ended) c.self.view_is ∙ c.requires) in
    ends_between a.intake a.served a.is_closed a.is_ended stands (sym c.is_some.ensures ∙ c.if-is_some.false)
    (sym c.is_some-else-is_some.ensures ∙ c.if-is_some-2.false) (c.between.ensures.0 c.if-between.true).0 ∙ ap end_if_idle c.self.view_is

pub returns : goal.returns
returns c =
    let a = c.self.inside in
    let stands : Stands a.intake a.served = c.self.invariant (ap (λ (x : Connection). x.is_ended) c.self.view_is ∙ c.requires) in
    let fine = sym c.is_some-else-is_some.ensures ∙ c.if-is_some-2.false in
    let inside : a.intake.reader.kept ≢ [] = λ none.
    let between : c.between.result ≡ true = c.between.ensures.1 (none, reads_on a.intake a.served stands fine) in
    let other : c.between.result ≡ false = c.if-between.false in absurd (cc) in
    let count : c.len.result ≡ length a.intake.bytes.items = search rules in
    ap (λ (n : ℕ). Some (Cut n)) count
    ∙ ends_inside a.intake a.served a.is_closed a.is_ended stands (sym c.is_some.ensures ∙ c.if-is_some.false) fine inside ∙ ap end_if_idle c.self.view_is
