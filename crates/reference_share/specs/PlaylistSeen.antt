-- The list behind a `PlaylistRef`, and with its id.
use Rattle.std.specs.Prelude.{ℕ}
use Rattle.share_history.specs.LastSaid as last
use Rattle.reference_share.specs.declared.lists.PlaylistRef.{PlaylistRef}
use Rattle.reference_share.specs.declared.lists.PlaylistRef.TheVariants.{Plain, Ruled}

abbrev pub playlist_of : PlaylistRef → last.Playlist
playlist_of (Plain name) = last.Plain name.now
playlist_of (Ruled name rule) = last.Ruled name.now rule.now

abbrev pub listed_of : ℕ × PlaylistRef → ℕ × last.Playlist
listed_of found = (found.0, playlist_of found.1)
