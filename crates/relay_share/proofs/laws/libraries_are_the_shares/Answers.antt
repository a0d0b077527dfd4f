use Rattle.relay_share.proofs.ShareLibraries.{libraries_are_the_shares}
use Rattle.relay_share.proofs.laws.libraries_are_the_shares.Goals as goal

pub returns : goal.returns
returns c = libraries_are_the_shares
