-- Rows under their own ids.
use Rattle.std.proofs.Common.{◌≡◌, ◌==◌, ℕ, List, [], ◌∷◌, Bool, true, false, Option, Some, None, unwrap_or, All, eqb-true, refl, subst, arith}
use Rattle.std.specs.List.{cons_option}
use Rattle.std.specs.Option.{option_map, option_or, option_and_then}
use Rattle.std.proofs.lemmas.List.Elements.{All-cons}
use Rattle.item_model.specs.declared.changes.Edit.{Edit}
use Rattle.item_model.specs.declared.changes.Edit.TheVariants.{PutItem, DropItem, PutList, PutRule, DropList, PutMember, DropMember}
use Rattle.item_model.specs.declared.item.Row.{Row}
use Rattle.item_model.specs.declared.query.Query.{Query}
use Rattle.item_model.specs.declared.request.Target.{Target}
use Rattle.item_model.specs.declared.request.Target.TheVariants.{Items, Container}
use Rattle.share_history.specs.Keyed.{ascending, pairs_at}
use Rattle.share_history.specs.LastSaid.{last_said, says_item, item_at, only_if}
use Rattle.share_history.specs.Named.{named_keys}
use Rattle.share_history.specs.Rows.{rows, row_at, is_selected, if_selected}

-- a row that is found under an id has that id
abbrev HasId : ℕ → Option Row → Type 0
HasId id None = Unit {0}
HasId id (Some row) = row.id ≡ id

abbrev SaysId : ℕ → Option (Option Row) → Type 0
SaysId id None = Unit {0}
SaysId id (Some found) = HasId id found

put_id : (id : ℕ) (row : Row) (b : Bool) → (row.id == id) ≡ b → SaysId id (only_if b (Some row))
put_id id row true is = eqb-true row.id id is
put_id id row false is = tt

drop_id : (id : ℕ) (b : Bool) → SaysId id (only_if {A = Option Row} b None)
drop_id id true = tt
drop_id id false = tt

said_id : (id : ℕ) (e : Edit) → SaysId id (says_item id e)
said_id id (PutItem row) = put_id id row (row.id == id) refl
said_id id (DropItem dropped) = drop_id id (dropped == id)
said_id id (PutList list name) = tt
said_id id (PutRule list name rule) = tt
said_id id (DropList list) = tt
said_id id (PutMember list member item) = tt
said_id id (DropMember list member) = tt

later_id : (id : ℕ) (later now : Option (Option Row)) → SaysId id later → SaysId id now → SaysId id (option_or later now)
later_id id None now h k = k
later_id id (Some found) now h k = h

last_id : (id : ℕ) (es : List Edit) → SaysId id (last_said (says_item id) es)
last_id id [] = tt
last_id id (e ∷ es) = later_id id (last_said (says_item id) es) (says_item id e) (last_id id es) (said_id id e)

found_id : (id : ℕ) (said : Option (Option Row)) → SaysId id said → HasId id (unwrap_or said None)
found_id id None h = tt
found_id id (Some found) h = h

-- the row of an item has the item's id
pub item_id : (es : List Edit) (id : ℕ) (row : Row) → item_at es id ≡ Some row → row.id ≡ id
item_id es id row is = subst (HasId id) is (found_id id (last_said (says_item id) es) (last_id id es))

pub selected_some : (q : Option Query) (found : Option Row) (row : Row) → option_and_then (if_selected q) found ≡ Some row → found ≡ Some row
selected_some q None row is = absurd (cc)
selected_some q (Some other) row is = kept (is_selected q other) is
  where
    kept : (b : Bool) → only_if b other ≡ Some row → Some other ≡ Some row
    kept true is = is
    kept false is = absurd (cc)

-- each row of the items is under its own id; in a container this says nothing
abbrev pub IsOwn : Target → ℕ × Row → Type 0
IsOwn Items row = row.1.id ≡ row.0
IsOwn (Container c) row = Unit {0}

own_more : (k : ℕ) (found : Option Row) (rest : List (ℕ × Row)) → ((row : Row) → found ≡ Some row → row.id ≡ k) → All (IsOwn Items) rest
    → All (IsOwn Items) (cons_option (option_map (λ row. (k, row)) found) rest)
own_more k None rest own all = all
own_more k (Some row) rest own all = All-cons (IsOwn Items) (k, row) rest (own row refl) all

own_pairs : (es : List Edit) (q : Option Query) (ks : List ℕ) → All (IsOwn Items) (pairs_at (row_at es Items q) ks)
own_pairs es q [] = λ i d lt. absurd (omega arith)
own_pairs es q (k ∷ ks) =
    own_more k (row_at es Items q k) (pairs_at (row_at es Items q) ks) (λ row is. item_id es k row (selected_some q (item_at es k) row is)) (own_pairs es q ks)

pub own_rows : (es : List Edit) (t : Target) (q : Option Query) → All (IsOwn t) (rows es t q)
own_rows es Items q = own_pairs es q (ascending (named_keys es))
own_rows es (Container c) q = λ i d lt. tt
