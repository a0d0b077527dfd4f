-- Edits that were lost: what is known of them after one more connection.
use Rattle.std.proofs.Common.{◌≡◌, ℕ, List, [], ◌∷◌, ◌++◌, refl, sym, ap, ◌∙◌, subst, Bool, true, false, ◌||◌, MatchBool}
use Rattle.std.specs.List.{list_any}
use Rattle.item_model.specs.declared.changes.Entry.{Entry}
use Rattle.share_asks.specs.declared.ask.Ask.{Ask}
use Rattle.share_asks.specs.declared.ask.Role.{Role}
use Rattle.share_history.specs.Sessions.{is_stop, is_stopped}
use Rattle.share_server.specs.declared.report.LinkReport.{LinkReport}
use Rattle.share_server.specs.declared.report.Served.{Served}
use Rattle.share_server.specs.Losses.{is_loss, LosesEdit}
use Rattle.share_server.specs.Passes.{Pass}
use Rattle.share_server.proofs.InTurn.{lost_before}
use Rattle.share_workers.specs.Works.{loses_any, IsLostBy}

-- ---- whether one was lost

none_or : (a b c d : Bool) → (a || b) ≡ false → (b ≡ false → c ≡ d) → (a || c) ≡ d
none_or true b c d none rest = absurd (cc none)
none_or false b c d none rest = rest none

or_none : (b : Bool) → (b || false) ≡ b
or_none true = refl
or_none false = refl

pub loses_more : (reports : List LinkReport) (report : LinkReport) → loses_any reports ≡ false → loses_any (reports ++ report ∷ []) ≡ is_loss report.end
loses_more [] report none = or_none (is_loss report.end)
loses_more (r ∷ reports) report none =
    none_or (is_loss r.end) (loses_any reports) (loses_any (reports ++ report ∷ [])) (is_loss report.end) none (loses_more reports report)

pub loses_last : (reports reports' : List LinkReport) (report : LinkReport) (lost : Bool) → loses_any reports ≡ false → reports' ≡ reports ++ report ∷ [] → is_loss report.end ≡ lost
    → loses_any reports' ≡ lost
loses_last reports reports' report lost none are is = ap loses_any are ∙ loses_more reports report none ∙ is

-- ---- which entries were lost

-- nothing if no connection lost any
pub none_lost : (k k' : Pass) (served : List Served) (lost : List Entry) (loses : Bool) → loses ≡ false → IsLostBy k k' served loses lost → lost ≡ []
none_lost k k' served lost loses none is = subst (λ (b : Bool). IsLostBy k k' served b lost) none is

pub is_nothing : (k k' : Pass) (served : List Served) (loses : Bool) → loses ≡ false → IsLostBy k k' served loses []
is_nothing k k' served loses none = subst (λ (b : Bool). IsLostBy k k' served b []) (sym none) refl

-- the end of a connection shows what its handle lost, also at a later turn of it
pub link_loses : (role : Role) (input : List ℕ) (asks : List Ask) (k k' k'' : Pass) (served : List Served) (lost more : List Entry) (loses : Bool)
    → MatchBool loses (LosesEdit role input asks k k' served lost) (lost ≡ []) → k''.seen ≡ k'.seen ++ more → IsLostBy k k'' served loses lost
link_loses role input asks k k' k'' served lost more true made longer = (made.batch, lost_before k k' k'' more served made.batch lost longer made.made)
link_loses role input asks k k' k'' served lost more false none longer = none

-- and a stop was seen after it
any_behind : (p : Entry → Bool) (front others : List Entry) → list_any p others ≡ true → list_any p (front ++ others) ≡ true
any_behind p [] others some = some
any_behind p (e ∷ front) others some = or_some (p e) (list_any p (front ++ others)) (any_behind p front others some)
  where
    or_some : (a b : Bool) → b ≡ true → (a || b) ≡ true
    or_some true b some = refl
    or_some false b some = some

pub lost_stops : (k k' : Pass) (served : List Served) (lost : List Entry) (loses : Bool) → loses ≡ true → IsLostBy k k' served loses lost → is_stopped k'.seen ≡ true
lost_stops k k' served lost loses some is =
    let made = (subst (λ (b : Bool). IsLostBy k k' served b lost) some is).1 in
    let batch = (subst (λ (b : Bool). IsLostBy k k' served b lost) some is).0 in
    let is_there : list_any is_stop (lost ++ made.later) ≡ true = subst (λ (l : List Entry). list_any is_stop (l ++ made.later) ≡ true) (sym made.lost_is) refl in
    ap is_stopped made.stand ∙ any_behind is_stop made.earlier (lost ++ made.later) is_there
