use Rattle.std.proofs.Common.{◌≡◌, ◌++◌, ap, ◌∙◌, length}
use Rattle.std.specs.Prelude.{codes}
use Rattle.http_front.specs.ReplyHeads.{field}
use Rattle.http_client.specs.Requests.{length_line}
use Rattle.http_client.proofs.Pushes.{kept_ok, on_ok, six_pushed}
use Rattle.http_client.proofs.requests.push_rest.Goals as goal

pub returns : goal.returns
returns c =
    let version : c.extend_from_slice.new.self.items ≡ c.args.text.now.items ++ codes " HTTP/1.1\r\n" = c.in_ok-extend_from_slice.ensures.items in
    let host : c.push_field.new.text.items ≡ c.extend_from_slice.new.self.items ++ field (codes "Host") c.args.host.now =
    c.in_ok-push_field.ensures ∙ ap (λ h. c.extend_from_slice.new.self.items ++ field (codes "Host") h) c.as_bytes.ensures.value in
    let daap : c.push_field-2.new.text.items ≡ c.push_field.new.text.items ++ field (codes "Client-DAAP-Version") (codes "3.0") = c.in_ok-push_field-2.ensures in
    let len : c.push_length.new.text.items ≡ c.push_field-2.new.text.items ++ length_line c.args.verb (length c.args.body.now) = c.in_ok-push_length.ensures in
    let end : c.extend_from_slice-2.new.self.items ≡ c.push_length.new.text.items ++ codes "\r\n" = c.in_ok-extend_from_slice-2.ensures.items in
    on_ok c.extend_from_slice-3.result
    (λ (body : c.extend_from_slice-3.new.self.items ≡ c.extend_from_slice-2.new.self.items ++ c.args.body.now).
    six_pushed c.args.text.now.items (codes " HTTP/1.1\r\n") (field (codes "Host") c.args.host.now) (field (codes "Client-DAAP-Version") (codes "3.0"))
    (length_line c.args.verb (length c.args.body.now)) (codes "\r\n") c.args.body.now
    c.extend_from_slice.new.self.items c.push_field.new.text.items c.push_field-2.new.text.items c.push_length.new.text.items c.extend_from_slice-2.new.self.items
    c.extend_from_slice-3.new.self.items version host daap len end body)
    (kept_ok c.extend_from_slice-3.result c.extend_from_slice-3.new.self.items (c.extend_from_slice-2.new.self.items ++ c.args.body.now)
    c.extend_from_slice-2.new.self.items c.extend_from_slice-3.ensures.items)
