use Rattle.std.proofs.Common.{◌≡◌, true, false, Some, None, codes, subst, rules}
use Rattle.std.specs.Str.{bytes_eq}
use Rattle.item_model.specs.Properties.{property_named}
use Rattle.item_model.specs.Items.{value_of}
use Rattle.item_model.specs.declared.item.Row.{Row}
use Rattle.item_model.specs.Folds.{IsSought, IsSoughtIfAny}
use Rattle.song_query.specs.Holds.{absent}
use Rattle.song_query.proofs.Folded.{nothing_searched}
use Rattle.song_query.proofs.Asked.{named_id, named_other, found_sought, absent_sought}
use Rattle.song_query.proofs.matching.sought.Goals as goal

pub returns-then-eq : goal.returns-then-eq
returns-then-eq g c =
    let row : Row = g.R.Searched.represents c.args.row.now in
    let e : bytes_eq c.args.name.now (codes "dmap.itemid") ≡ true = search rules in
    let id : c.from.result ≡ row.id = search rules in
    rw (named_id c.args.name.now row e) id

pub returns-in_default : goal.returns-in_default
returns-in_default g c =
    let row : Row = g.R.Searched.represents c.args.row.now in
    let e : bytes_eq c.args.name.now (codes "dmap.itemid") ≡ false = search rules in
    let none : property_named c.args.name.now ≡ None = search rules in
    rw (named_other c.args.name.now row e, none) nothing_searched

pub returns-in-Some-sought : goal.returns-in-Some-sought
returns-in-Some-sought g c =
    let row : Row = g.R.Searched.represents c.args.row.now in
    let e : bytes_eq c.args.name.now (codes "dmap.itemid") ≡ false = search rules in
    let some : property_named c.args.name.now ≡ Some c.in-Some.property = search rules in
    let has : IsSoughtIfAny (value_of c.in-Some.property row.item) (Some c.in-Some-sought.sought) = search rules in
    rw (named_other c.args.name.now row e, some) (found_sought _ _ _ has)

pub returns-in-None : goal.returns-in-None
returns-in-None g c =
    let row : Row = g.R.Searched.represents c.args.row.now in
    let e : bytes_eq c.args.name.now (codes "dmap.itemid") ≡ false = search rules in
    let some : property_named c.args.name.now ≡ Some c.in-Some.property = search rules in
    let lacks : IsSoughtIfAny (value_of c.in-Some.property row.item) None = search rules in
    rw (named_other c.args.name.now row e, some)
    (absent_sought _ _ _ lacks (subst (λ kind. IsSought (absent kind) c.absent.result) c.kind.ensures c.absent.ensures))
