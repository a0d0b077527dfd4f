use Rattle.std.proofs.Common.{◌≡◌, ◌∙◌, ◌≤◌, ap, sym, length, take, drop, take-append-drop, arith}
use Rattle.std.proofs.lemmas.List.{length-take-le}
use Rattle.std.proofs.lemmas.List.Elements.{All-take, All-drop}
use Rattle.outside_net.specs.MemListener.{IsNew, coming_of}
use Rattle.outside_net.proofs.Opening.{opens_first}
use Rattle.outside_net.proofs.memory.net.take_first.Goals as goal

-- the first `number` listeners are returned, and the others are left
pub returns : goal.returns
returns c =
    let n = c.args.number in
    let listeners = c.args.listeners.now.items in
    let within : n ≤ length listeners = omega (arith, c.requires, c.args.listeners.now.ok.0) in
    let taken : c.replace.result.items ≡ take n listeners = ap (λ v. v.items) c.replace.ensures.value ∙ c.in_ok-later.ensures.items in
    let left : c.replace.new.dest.items ≡ drop n listeners = ap (λ v. v.items) c.replace.ensures.after ∙ c.in_ok-later.ensures.tail in
    record {
      as_many = ap length taken ∙ length-take-le n listeners within;
      first = rw (taken, left) (sym (take-append-drop n listeners));
      links = rw (taken, left) (opens_first coming_of n listeners);
      new_rest = λ all. rw left (All-drop IsNew n listeners all);
      new_first = λ all. rw taken (All-take IsNew n listeners all);
      err = tt;
    }
