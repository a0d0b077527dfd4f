use Rattle.std.proofs.Common.{◌≡◌, ◌++◌, [], List, ℕ, None, sym, ap, subst}
use Rattle.http_heads.specs.Messages.{Message}
use Rattle.http_front.specs.Readings.{IsReading, reading}
use Rattle.http_front.proofs.ReadingLaws.{nothing_read}
use Rattle.http_front.proofs.reader.HeadReader.new.Goals as goal

pub returns-clause-begins : goal.returns-clause-begins
returns-clause-begins c =
    let none : [] ≡ c.new.result.message.head ++ c.new.result.message.body = sym (ap (λ (m : Message). m.head ++ m.body) c.new.ensures.idle.0) in
    subst (λ (rest : List ℕ). IsReading c.args.role [] (reading [] rest None)) none (nothing_read c.args.role)
