use Rattle.http_client.proofs.RequestBack.{requests_read_back}
use Rattle.http_client.proofs.laws.requests_read_back.Goals as goal

pub returns : goal.returns
returns c = requests_read_back
