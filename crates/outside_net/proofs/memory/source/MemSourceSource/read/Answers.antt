use Rattle.std.proofs.Common.{◌≡◌, ◌≤◌, ◌+◌, drop, length, length-drop, arith, ap, rules, ◌∙◌}
use Rattle.std.proofs.lemmas.List.{nil_from_length}
use Rattle.outside_net.proofs.Moving.{moved_front}
use Rattle.outside_net.proofs.memory.source.MemSourceSource.read.Goals as goal

-- One search proves all clauses of a return. A search for each clause, as without an answer, takes far longer.
pub returns-then-contains : goal.returns-then-contains
returns-then-contains c = search rules

-- the bytes that were copied are the first that were left, and there are none only if none were left
pub returns-clause-moved : goal.returns-clause-moved
returns-clause-moved c =
    let rest : c.split_at.result.1.now ≡ drop c.args.self.now.given c.args.self.now.bytes.items =
    c.split_at.ensures.back ∙ ap (drop c.args.self.now.given) c.as_slice.ensures.value in
    let within : c.min-n.result ≤ length (drop c.args.self.now.given c.args.self.now.bytes.items) =
    omega (arith, ap length rest) in (
      moved_front _ _ (drop c.min-n.result c.args.room.now) _ _ within (rw (← rest) c.copy_from_slice.ensures.after),
      λ none room. nil_from_length (drop (c.args.self.now.given + c.min-n.result) c.args.self.now.bytes.items)
          (omega (
            arith,
            ap length rest,
            length-drop (c.args.self.now.given + c.min-n.result) c.args.self.now.bytes.items,
            length-drop c.args.self.now.given c.args.self.now.bytes.items,
          )),
    )
