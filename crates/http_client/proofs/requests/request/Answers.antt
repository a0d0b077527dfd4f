use Rattle.http_client.proofs.RequestBack.{if_all, request_read}
use Rattle.http_client.proofs.requests.request.Goals as goal

pub returns-clause-reads : goal.returns-clause-reads
returns-clause-reads c =
    if_all c.text_of.result
    (λ text is utf8 read sent. request_read c.args.ask.now c.args.host.now text is c.requires c.know_numbers.ensures utf8 read sent)
    c.text_of.ensures.text c.text_of.ensures.utf8 c.text_of.ensures.read
