use Rattle.std.proofs.Common.{◌≡◌, ◌++◌, ap, ◌∙◌}
use Rattle.std.specs.Prelude.{codes, decimal}
use Rattle.http_client.proofs.Pushes.{kept_ok, on_ok, three_pushed}
use Rattle.http_client.proofs.requests.push_list_path.Goals as goal

pub returns : goal.returns
returns c =
    let front : c.extend_from_slice.new.self.items ≡ c.args.text.now.items ++ codes "/databases/1/containers/" = c.in_ok-extend_from_slice.ensures.items in
    let number : c.extend_from_slice-2.new.self.items ≡ c.extend_from_slice.new.self.items ++ decimal c.args.list =
    c.in_ok-extend_from_slice-2.ensures.items ∙ ap (λ l. c.extend_from_slice.new.self.items ++ l) (c.as_bytes.ensures.value ∙ c.format.ensures.text) in
    let before = c.extend_from_slice-2.new.self.items in
    let last = c.extend_from_slice-3.new.self.items in
    on_ok c.extend_from_slice-3.result
    (λ (behind : last ≡ before ++ codes "/items"). three_pushed c.args.text.now.items (codes "/databases/1/containers/") (decimal c.args.list) (codes "/items") c.extend_from_slice.new.self.items before last front number behind)
    (kept_ok c.extend_from_slice-3.result last (before ++ codes "/items") before c.extend_from_slice-3.ensures.items)
