use Rattle.std.proofs.Common.{◌≡◌, ◌++◌, List, ℕ, ap, ap₂, ◌∙◌}
use Rattle.std.specs.Prelude.{codes}
use Rattle.http_front.specs.Routes.{verb_text}
use Rattle.share_asks.specs.declared.ask.Verb.{Verb}
use Rattle.http_client.specs.Requests.{fields_and_body, message_text, request_text, sent_body, verb_for}
use Rattle.http_client.specs.Targets.{target_of}
use Rattle.http_client.proofs.Pushes.{message_pushed}
use Rattle.http_client.proofs.requests.message_of.Goals as goal

pub returns : goal.returns
unfolding request_text message_text
returns c =
    let method : c.push_method.new.text.items ≡ c.new-text.result.items ++ (verb_text (verb_for c.args.want.now) ++ codes " ") =
    c.in_ok-push_method.ensures ∙ ap (λ (v : Verb). c.new-text.result.items ++ (verb_text v ++ codes " ")) c.verb_for.ensures in
    let rest : c.push_rest.new.text.items ≡ c.push_target.new.text.items ++ (codes " HTTP/1.1\r\n" ++ fields_and_body (verb_for c.args.want.now) c.args.host.now (sent_body c.args.want.now)) =
    c.in_ok-push_rest.ensures
    ∙ ap₂ (λ (v : Verb) (b : List ℕ). c.push_target.new.text.items ++ (codes " HTTP/1.1\r\n" ++ fields_and_body v c.args.host.now b)) c.verb_for-2.ensures c.requires.body in
    c.from.ensures
    ∙ message_pushed (verb_text (verb_for c.args.want.now)) (codes " ") (target_of c.args.want.now) (codes " HTTP/1.1") (codes "\r\n")
    (fields_and_body (verb_for c.args.want.now) c.args.host.now (sent_body c.args.want.now))
    c.new-text.result.items c.push_method.new.text.items c.push_target.new.text.items c.push_rest.new.text.items c.new-text.ensures.items method c.in_ok-push_target.ensures rest
