-- A push is one exchange on a connection of which nothing was read.
use Rattle.std.proofs.Common.{◌≡◌, ℕ, List, Option, inl, subst}
use Rattle.http_client.specs.Replies.{Reply}
use Rattle.mirror_client.specs.declared.refusal.FollowError.{FollowError}
use Rattle.mirror_client.specs.Exchanges.{Exchanged}
use Rattle.mirror_client.specs.Points.{Point, ReadAhead, nothing_read, place}
use Rattle.mirror_client.specs.Stopping.{Stops, StopsShort}

pub asked_as : (request text : List ℕ) (taken left : Option (List ℕ)) (ahead : ReadAhead) (q : Point) (answer : Reply) → request ≡ text → ahead ≡ nothing_read
    → Exchanged request (place taken left ahead) q answer → Exchanged text (place taken left nothing_read) q answer
asked_as request text taken left ahead q answer same begun x =
    subst (λ (bytes : List ℕ). Exchanged bytes (place taken left nothing_read) q answer) same
    (subst (λ (a : ReadAhead). Exchanged request (place taken left a) q answer) begun x)

pub stopped_as : (request text : List ℕ) (Unexpected : ℕ → Reply → FollowError → Type 0) (taken left now : Option (List ℕ)) (ahead : ReadAhead) (e : FollowError)
    → request ≡ text → ahead ≡ nothing_read → StopsShort request (place taken left ahead) now e → Stops text Unexpected (place taken left nothing_read) now e
stopped_as request text Unexpected taken left now ahead e same begun s =
    inl (subst (λ (bytes : List ℕ). StopsShort bytes (place taken left nothing_read) now e) same
    (subst (λ (a : ReadAhead). StopsShort request (place taken left a) now e) begun s))
