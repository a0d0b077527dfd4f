-- The errors of the texts that say what is mirrored.
use Rattle.std.specs.Prelude.{◌≡◌, ◌≢◌, ℕ, List, Option, None}
use Rattle.item_model.specs.declared.names.MetaError.{MetaError}
use Rattle.item_model.specs.declared.names.MetaError.TheVariants as meta
use Rattle.item_model.specs.declared.query.Query.{Query as query_type}
use Rattle.item_model.specs.declared.refusal.QueryError.{QueryError}
use Rattle.item_model.specs.declared.refusal.QueryError.TheVariants as query
use Rattle.command_core.specs.declared.fault.Fault.{Fault}
use Rattle.command_core.specs.declared.fault.Fault.TheVariants.{Own, Read, Memory}
use Rattle.link_commands.specs.declared.follow.FollowFault.{FollowFault}
use Rattle.link_commands.specs.declared.follow.FollowFault.TheVariants.{Query, Meta, Unreached, Link}
use Rattle.link_commands.specs.Looks.{AsksQuery, HasRefusal, meta_or_default}

-- the query's text is refused; or the query is read, and there are too many names
abbrev pub IsLookFault : (query meta : Option (List ℕ)) → Fault FollowFault → Type 0
IsLookFault query_text meta_text (Own (Query error)) = (error ≢ query.Memory) × HasRefusal query_text error
IsLookFault query_text meta_text (Own Meta) = ((asked : Option query_type) × AsksQuery query_text asked) × (meta_or_default meta_text ≡ None)
IsLookFault query_text meta_text (Own Unreached) = ⊥
IsLookFault query_text meta_text (Own (Link error)) = ⊥
IsLookFault query_text meta_text Read = ⊥
IsLookFault query_text meta_text Memory = Unit {0}

-- the errors of `follow` if the texts are refused
abbrev pub query_fault : QueryError → Fault FollowFault
query_fault query.TooLong = Own (Query query.TooLong)
query_fault (query.TooDeep place) = Own (Query (query.TooDeep place))
query_fault (query.At place reason) = Own (Query (query.At place reason))
query_fault query.Memory = Memory

abbrev pub meta_fault : MetaError → Fault FollowFault
meta_fault meta.TooMany = Own Meta
meta_fault meta.Memory = Memory
