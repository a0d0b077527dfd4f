use Rattle.std.proofs.Common.{◌≡◌, ◌++◌, ap, ◌∙◌}
use Rattle.std.specs.Prelude.{codes}
use Rattle.http_front.specs.Routes.{verb_text}
use Rattle.share_asks.specs.declared.ask.Verb.TheVariants as verb
use Rattle.http_client.specs.Requests.{fields_and_body, message_text}
use Rattle.http_client.proofs.Pushes.{message_pushed}
use Rattle.http_client.proofs.requests.post.Goals as goal

pub returns : goal.returns
unfolding message_text
returns c =
    let path : c.extend_from_slice.new.self.items ≡ c.push_method.new.text.items ++ c.args.path.now =
    c.in_ok-extend_from_slice.ensures.items ∙ ap (λ p. c.push_method.new.text.items ++ p) c.as_bytes.ensures.value in
    c.from.ensures
    ∙ message_pushed (verb_text verb.Post) (codes " ") c.args.path.now (codes " HTTP/1.1") (codes "\r\n") (fields_and_body verb.Post c.args.host.now c.args.body.now)
    c.new-text.result.items c.push_method.new.text.items c.extend_from_slice.new.self.items c.push_rest.new.text.items c.new-text.ensures.items c.in_ok-push_method.ensures path c.in_ok-push_rest.ensures
