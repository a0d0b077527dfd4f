-- What the reports of connections claim remains true when the history grows.
use Rattle.std.proofs.Common.{◌⊎◌, ℕ, List, [], ◌∷◌, ◌++◌, length, ◌+◌, ◌-◌, ◌≡◌, sym, ◌∙◌, subst, inl, inr, append-nil, length-append, None, arith}
use Rattle.item_model.specs.declared.changes.Entry.{Entry}
use Rattle.outside_net.specs.Places.{Returned}
use Rattle.share_asks.specs.declared.ask.Ask.{Ask}
use Rattle.share_asks.specs.declared.ask.Role.{Role}
use Rattle.share_replies.specs.Settings.{Settings}
use Rattle.share_server.specs.declared.report.Served.{Served}
use Rattle.share_server.specs.declared.report.LinkReport.{LinkReport}
use Rattle.share_server.specs.declared.report.LinkEnd.{LinkEnd}
use Rattle.share_server.specs.declared.report.LinkEnd.TheVariants.{Closed, Cut, Refused, Spent, Stopped, LinkFault, FileFault, Memory}
use Rattle.share_server.specs.Served.{AreServed}
use Rattle.share_server.specs.Ends.{Idles, EndsInside, EndsAtEnd}
use Rattle.share_server.specs.Laws.{Stays}
use Rattle.share_server.proofs.Longer.{stays}
use Rattle.share_server.proofs.Endings.{ends_stay}
use Rattle.share_server.proofs.InTurn.{rises_wider}
use Rattle.share_server.specs.Serving.{limit_of}
use Rattle.share_workers.specs.Works.{LinkAt, LinksAt}

module _ (settings : Settings) (by limit : ℕ) (h later : List Entry) where
  same : (asks : List Ask) (served : List Served) → AreServed settings by h asks served → Stays settings by limit h later 1 asks served
  same asks served are = stays settings by limit h later 1 asks served are

  idles : (role : Role) (input : List ℕ) (asks : List Ask) (served : List Served) (rest : List ℕ) → AreServed settings by h asks served
      → Idles role input limit h asks served rest None → Idles role input limit (h ++ later) asks served rest None
  idles role input asks served rest are idle = record { goes_on = (same asks served are).goes_on idle.goes_on; reads = idle.reads }

  at_end : (role : Role) (input : List ℕ) (asks : List Ask) (served : List Served) (rest output : List ℕ) (end : LinkEnd) → AreServed settings by h asks served
      → EndsAtEnd role input settings limit h asks served rest output end → EndsAtEnd role input settings limit (h ++ later) asks served rest output end
  at_end role input asks served rest output Closed are ends =
      (idles role input asks served rest are ends.0, ends.1, ends.2 ∙ sym (same asks served are).bytes)
  at_end role input asks served rest output (Cut at) are ends =
      (idles role input asks served rest are ends.0, ends.1, ends.2, ends.3 ∙ sym (same asks served are).bytes)
  at_end role input asks served rest output (Refused status) are ends = ends
  at_end role input asks served rest output Spent are ends = ends
  at_end role input asks served rest output Stopped are ends = ends
  at_end role input asks served rest output LinkFault are ends = ends
  at_end role input asks served rest output FileFault are ends = ends
  at_end role input asks served rest output Memory are ends = ends

  inside : (role : Role) (input : List ℕ) (asks : List Ask) (served : List Served) (rest output : List ℕ) (end : LinkEnd) → AreServed settings by h asks served
      → EndsInside role input settings limit h asks served rest output end → EndsInside role input settings limit (h ++ later) asks served rest output end
  inside role input asks served rest output end are ends =
      subst (λ bytes. EndsInside role bytes settings limit (h ++ later) asks served rest output end) (append-nil input)
      (subst (λ r. EndsInside role (input ++ []) settings limit (h ++ later) asks served r output end) (append-nil rest)
      (ends_stay role input [] settings by limit h later asks served rest output end are ends))

  pub link_later : (role : Role) (input : List ℕ) (report : LinkReport) (returned : Returned) → LinkAt settings by limit role h input report returned
      → LinkAt settings by limit role (h ++ later) input report returned
  link_later role input report returned link = record {
    at_once = link.at_once;
    number = link.number;
    asks = link.asks;
    rest = link.rest;
    joins = link.joins;
    are_served = (same link.asks report.served link.are_served).served_too;
    rises = rises_wider 0 0 (length h) (length (h ++ later)) report.served (omega arith) (let len : length (h ++ later) ≡ length h + length later = length-append h later in omega arith) link.rises;
    how = by_end link.how;
    faulted = link.faulted;
    unlost = link.unlost;
  }
    where
      by_end : EndsInside role input settings limit h link.asks report.served link.rest returned.0 report.end
          ⊎ EndsAtEnd role input settings limit h link.asks report.served link.rest returned.0 report.end
          → EndsInside role input settings limit (h ++ later) link.asks report.served link.rest returned.0 report.end
          ⊎ EndsAtEnd role input settings limit (h ++ later) link.asks report.served link.rest returned.0 report.end
      by_end (inl ends) = inl (inside role input link.asks report.served link.rest returned.0 report.end link.are_served ends)
      by_end (inr ends) = inr (at_end role input link.asks report.served link.rest returned.0 report.end link.are_served ends)

pub links_later : (settings : Settings) (by : ℕ) (role : Role) (budget : ℕ) (h later : List Entry) (inputs : List (List ℕ)) (reports : List LinkReport) (returns : List Returned)
    → LinksAt settings by role budget h inputs reports returns → LinksAt settings by role budget (h ++ later) inputs reports returns
links_later settings by role budget h later [] [] [] links = links
links_later settings by role budget h later [] [] (returned ∷ returns) links = links
links_later settings by role budget h later [] (report ∷ reports) returns links = links
links_later settings by role budget h later (input ∷ inputs) [] returns links = links
links_later settings by role budget h later (input ∷ inputs) (report ∷ reports) [] links = links
links_later settings by role budget h later (input ∷ inputs) (report ∷ reports) (returned ∷ returns) links = (
  link_later settings by (limit_of budget) h later role input report returned links.0,
  links_later settings by role (budget - length report.served) h later inputs reports returns links.1,
)
