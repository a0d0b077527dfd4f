-- The line and the status of an error that ends an exchange with a share.
use Rattle.std.specs.Prelude.{ℕ, List, [], ◌∷◌, ◌++◌, codes, decimal}
use Rattle.mirror_client.specs.declared.refusal.FollowError.{FollowError}
use Rattle.mirror_client.specs.declared.refusal.FollowError.TheVariants.{Refused, BadReply, Ended, Listing, Codes, LinkFault, Memory}

abbrev pub link_line : FollowError → List ℕ
link_line (Refused status) = codes "peer: refused " ++ (decimal status ++ 10 ∷ [])
link_line (BadReply at) = codes "peer: bad reply at " ++ (decimal at ++ 10 ∷ [])
link_line (Ended at) = codes "peer: ended at " ++ (decimal at ++ 10 ∷ [])
link_line (Listing error) = codes "peer: listing" ++ 10 ∷ []
link_line (Codes error) = codes "peer: codes" ++ 10 ∷ []
link_line LinkFault = codes "network failed" ++ 10 ∷ []
link_line Memory = codes "memory" ++ 10 ∷ []

-- the peer did not answer as it should, or the connection failed
abbrev pub link_status : FollowError → ℕ
link_status (Refused status) = 7
link_status (BadReply at) = 7
link_status (Ended at) = 7
link_status (Listing error) = 7
link_status (Codes error) = 7
link_status LinkFault = 6
link_status Memory = 9
