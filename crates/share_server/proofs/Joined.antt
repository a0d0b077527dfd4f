-- One more request after those that were served.
use Rattle.std.proofs.Common.{◌≡◌, ℕ, ◌+◌, List, [], ◌∷◌, ◌++◌, length, sym, ap, ◌∙◌, subst, is_some, None, append_assoc, append-nil, arith}
use Rattle.item_model.specs.declared.changes.Entry.{Entry}
use Rattle.share_asks.specs.declared.ask.Ask.{Ask}
use Rattle.share_replies.specs.Settings.{Settings}
use Rattle.share_server.specs.declared.report.Served.{Served}
use Rattle.share_server.specs.Served.{at_point}
use Rattle.share_server.specs.Replies.{GoOn, due, replies_from, served_bytes}

module _ (limit : ℕ) (h : List Entry) (ask : Ask) (s : Served) where
  -- if there is no end after one more request, the connection stays open after all
  pub goes_on_joined : (n : ℕ) (asks : List Ask) (served : List Served) → GoOn limit h n asks served → due limit (n + length served) ask (at_point h s) ≡ None
      → GoOn limit h n (asks ++ ask ∷ []) (served ++ s ∷ [])
  goes_on_joined n [] [] on none = let same : n + 0 ≡ n = omega arith in (subst (λ m. due limit m ask (at_point h s) ≡ None) same none, tt)
  goes_on_joined n [] (t ∷ served) on none = absurd on
  goes_on_joined n (a ∷ asks) [] on none = absurd on
  goes_on_joined n (a ∷ asks) (t ∷ served) on none =
      let same : n + length (t ∷ served) ≡ (n + 1) + length served = omega arith in
      (on.0, goes_on_joined (n + 1) asks served on.1 (subst (λ m. due limit m ask (at_point h s) ≡ None) same none))

  -- its bytes follow those of the others
  pub replies_joined : (settings : Settings) (n : ℕ) (asks : List Ask) (served : List Served) → GoOn limit h n asks served
      → replies_from settings limit h n (asks ++ ask ∷ []) (served ++ s ∷ [])
      ≡ replies_from settings limit h n asks served ++ served_bytes settings (at_point h s) ask s (is_some (due limit (n + length served) ask (at_point h s)))
  replies_joined settings n [] [] on =
      let same : n ≡ n + 0 = omega arith in
      append-nil (served_bytes settings (at_point h s) ask s (is_some (due limit n ask (at_point h s))))
      ∙ ap (λ m. served_bytes settings (at_point h s) ask s (is_some (due limit m ask (at_point h s)))) same
  replies_joined settings n [] (t ∷ served) on = absurd on
  replies_joined settings n (a ∷ asks) [] on = absurd on
  replies_joined settings n (a ∷ asks) (t ∷ served) on =
      let same : (n + 1) + length served ≡ n + length (t ∷ served) = omega arith in
      let first : List ℕ = served_bytes settings (at_point h t) a t (is_some (due limit n a (at_point h t))) in
      ap (λ bytes. first ++ bytes) (replies_joined settings (n + 1) asks served on.1)
      ∙ (sym (append_assoc first (replies_from settings limit h (n + 1) asks served)
      (served_bytes settings (at_point h s) ask s (is_some (due limit ((n + 1) + length served) ask (at_point h s)))))
      ∙ ap (λ m. (first ++ replies_from settings limit h (n + 1) asks served) ++ served_bytes settings (at_point h s) ask s (is_some (due limit m ask (at_point h s)))) same)
