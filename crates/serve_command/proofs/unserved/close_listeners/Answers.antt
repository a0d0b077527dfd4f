use Rattle.std.proofs.Common.{◌∙◌, arith}
use Rattle.serve_command.proofs.unserved.close_listeners.Goals as goal

pub returns-clause-back : goal.returns-clause-back
returns-clause-back g c = λ start listen edit. record {
  asked = c.close_all-2.ensures.asked ∙ c.close_all.ensures.asked;
  written = λ grows. c.close_all-2.ensures.written start.written edit (c.close_all.ensures.written start.written listen grows);
  faultless = c.close_all-2.ensures.count start.written edit ∙ c.close_all.ensures.count start.written listen;
}

pub returns-clause-closes : goal.returns-clause-closes
returns-clause-closes g c = let listen = c.close_all.ensures.closes in let edit = c.close_all-2.ensures.closes in omega (arith, listen, edit)
