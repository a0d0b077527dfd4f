use Rattle.std.proofs.Common.{subst}
use Rattle.item_model.specs.declared.item.Row.{Row}
use Rattle.item_model.specs.Folds.{IsSought}
use Rattle.song_query.specs.Holds.{is_met, named_value}
use Rattle.song_query.proofs.Asked.{number_met, text_met}
use Rattle.song_query.proofs.matching.does_meet.Goals as goal

pub returns-in-Number : goal.returns-in-Number
returns-in-Number g c =
    let row : Row = g.R.Searched.represents c.args.row.now in
    let value = named_value c.args.cond.now.name row in
    let handed : IsSought value c.sought.result = subst (λ name. IsSought (named_value name row) c.sought.result) c.as_str.ensures c.sought.ensures in
    number_met (is_met c.args.cond.now.op c.args.cond.now.pattern) value c.in-Number.n _
    (subst (IsSought value) c.in-Number.is handed) c.is_met_by_number.ensures

pub returns-in-Text : goal.returns-in-Text
returns-in-Text g c =
    let row : Row = g.R.Searched.represents c.args.row.now in
    let value = named_value c.args.cond.now.name row in
    let handed : IsSought value c.sought.result = subst (λ name. IsSought (named_value name row) c.sought.result) c.as_str.ensures c.sought.ensures in
    text_met (is_met c.args.cond.now.op c.args.cond.now.pattern) value c.in-Text.text _
    (subst (IsSought value) c.in-Text.is handed) c.is_met_by_text.ensures
