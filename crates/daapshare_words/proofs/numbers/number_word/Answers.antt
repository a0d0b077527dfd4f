use Rattle.std.proofs.Common.{◌∙◌, ap, arith, sym}
use Rattle.std.specs.Char.{is_ascii_digit}
use Rattle.std.specs.List.{list_all}
use Rattle.daapshare_words.proofs.Digits.{parsed}
use Rattle.daapshare_words.proofs.numbers.number_word.Goals as goal

pub returns : goal.returns
returns c = c.ok.ensures.value ∙ parsed c.args.word.now c.parse.result (omega arith)
    (ap (list_all is_ascii_digit) (sym c.as_bytes.ensures.value) ∙ sym c.if-not-are_digits.ensures) c.parse.ensures.value.0
