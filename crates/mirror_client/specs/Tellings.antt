-- What answers contain: tags by a table of content codes, and numbers in them; and which answers contain none.
use Rattle.std.specs.Prelude.{◌≡◌, ◌≢◌, ⊤, ℕ, List, true, Option, Some, None}
use Rattle.dmap_tags.specs.Codes.{Four}
use Rattle.dmap_tags.specs.Tree.{Tree, leaf, list}
use Rattle.dmap_tags.specs.Proper.{IsProperTag}
use Rattle.dmap_tags.specs.Spelling.{spelling}
use Rattle.code_table.specs.declared.row.CodeRow.{CodeRow}
use Rattle.code_table.specs.Reply.{first_in, number_in}
use Rattle.dmap_stream.specs.WholeTag.{is_accepted}
use Rattle.http_client.specs.Replies.{Reply}
use Rattle.mirror_client.specs.declared.refusal.FollowError.{FollowError}
use Rattle.mirror_client.specs.declared.refusal.FollowError.TheVariants.{Refused, BadReply, Ended, Listing, Codes, LinkFault, Memory}

-- Most payload bytes of the tag of a body.
abbrev pub body_limit : ℕ
body_limit = 1073741824

-- The body is exactly this tag.
pub record IsTag (rows : List CodeRow) (body : List ℕ) (tag : Tree) : Type 0 where
  pub spelled : body ≡ spelling tag
  pub accepted : is_accepted rows body_limit tag ≡ true
  pub proper : IsProperTag tag

abbrev pub HasNoTag : List CodeRow → List ℕ → Type 0
HasNoTag rows body = (tag : Tree) → IsTag rows body tag → ⊥

-- A success with this tag.
abbrev pub Tells : List CodeRow → Reply → Tree → Type 0
Tells rows answer tag = (answer.0 ≡ 200) × IsTag rows answer.1 tag

-- The number in the first member with the code.
abbrev pub number_told : Four → Tree → Option ℕ
number_told c (leaf d value) = None
number_told c (list d members) = number_in (first_in c members)

abbrev pub TellsNumber : Four → List CodeRow → Reply → ℕ → Type 0
TellsNumber c rows answer n = (tag : Tree) × Tells rows answer tag × (number_told c tag ≡ Some n)

abbrev pub HasNoNumber : Four → List CodeRow → List ℕ → Type 0
HasNoNumber c rows body = (tag : Tree) → IsTag rows body tag → number_told c tag ≡ None

-- Another status than the expected one.
abbrev pub IsOther : ℕ → Reply → ℕ → Type 0
IsOther due answer status = (status ≡ answer.0) × (answer.0 ≢ due)

-- A success with a bad body; the offset is the end of the response.
abbrev pub IsBadBody : ℕ → Reply → ℕ → Type 0
IsBadBody used answer at = (answer.0 ≡ 200) × (at ≡ used)

-- An answer without a tag.
abbrev pub UnexpectedTag : List CodeRow → ℕ → Reply → FollowError → Type 0
UnexpectedTag rows used answer (Refused status) = IsOther 200 answer status
UnexpectedTag rows used answer (BadReply at) = IsBadBody used answer at × HasNoTag rows answer.1
UnexpectedTag rows used answer (Ended at) = ⊥
UnexpectedTag rows used answer (Listing error) = ⊥
UnexpectedTag rows used answer (Codes error) = ⊥
UnexpectedTag rows used answer LinkFault = ⊥
UnexpectedTag rows used answer Memory = ⊤

-- An answer without such a number.
abbrev pub UnexpectedNumber : Four → List CodeRow → ℕ → Reply → FollowError → Type 0
UnexpectedNumber c rows used answer (Refused status) = IsOther 200 answer status
UnexpectedNumber c rows used answer (BadReply at) = IsBadBody used answer at × HasNoNumber c rows answer.1
UnexpectedNumber c rows used answer (Ended at) = ⊥
UnexpectedNumber c rows used answer (Listing error) = ⊥
UnexpectedNumber c rows used answer (Codes error) = ⊥
UnexpectedNumber c rows used answer LinkFault = ⊥
UnexpectedNumber c rows used answer Memory = ⊤
