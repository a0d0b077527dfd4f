-- The errors of the texts that say what `list` shows, each text by itself.
use Rattle.std.specs.Prelude.{◌≡◌, ℕ, List, Option, None}
use Rattle.item_model.specs.declared.names.MetaError.{MetaError}
use Rattle.item_model.specs.declared.names.MetaError.TheVariants as meta
use Rattle.item_model.specs.declared.refusal.QueryError.{QueryError}
use Rattle.item_model.specs.declared.refusal.QueryError.TheVariants as query
use Rattle.command_core.specs.declared.fault.Fault.{Fault}
use Rattle.command_core.specs.declared.fault.Fault.TheVariants.{Own, Read, Memory}
use Rattle.share_commands.specs.declared.list.ListFault.{ListFault}
use Rattle.share_commands.specs.declared.list.ListFault.TheVariants.{Query, Meta, TooLong, Records, TooManyLists, NoList}
use Rattle.share_commands.specs.Looks.{IsQueryRefused, meta_or_default}

abbrev pub IsQueryFault : Option (List ℕ) → Fault ListFault → Type 0
IsQueryFault text (Own (Query error)) = IsQueryRefused text error
IsQueryFault text (Own Meta) = ⊥
IsQueryFault text (Own TooLong) = ⊥
IsQueryFault text (Own (Records error)) = ⊥
IsQueryFault text (Own TooManyLists) = ⊥
IsQueryFault text (Own NoList) = ⊥
IsQueryFault text Read = ⊥
IsQueryFault text Memory = Unit {0}

abbrev pub IsMetaFault : Option (List ℕ) → Fault ListFault → Type 0
IsMetaFault text (Own (Query error)) = ⊥
IsMetaFault text (Own Meta) = meta_or_default text ≡ None
IsMetaFault text (Own TooLong) = ⊥
IsMetaFault text (Own (Records error)) = ⊥
IsMetaFault text (Own TooManyLists) = ⊥
IsMetaFault text (Own NoList) = ⊥
IsMetaFault text Read = ⊥
IsMetaFault text Memory = Unit {0}

-- the errors of `list` if the texts are refused
abbrev pub query_fault : QueryError → Fault ListFault
query_fault query.TooLong = Own (Query query.TooLong)
query_fault (query.TooDeep place) = Own (Query (query.TooDeep place))
query_fault (query.At place reason) = Own (Query (query.At place reason))
query_fault query.Memory = Memory

abbrev pub meta_fault : MetaError → Fault ListFault
meta_fault meta.TooMany = Own Meta
meta_fault meta.Memory = Memory
