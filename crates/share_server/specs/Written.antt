-- The output of a connection after a write, by the write's outcome.
use Rattle.std.specs.Prelude.{◌≡◌, ◌⊎◌, ℕ, List, Bool, true, false, Option, Some, None}
use Rattle.std.specs.Io.KnownBytes.{Appends}
use Rattle.outside_net.specs.Told.{AppendsPrefix}
use Rattle.http_front.specs.ReplyHeads.{HasReason}
use Rattle.http_heads.specs.declared.refusal.HeadError.{HeadError}
use Rattle.listing_plan.specs.Plans.{IsWritable, plan_bytes}
use Rattle.reply_bytes.specs.ReplyBytes.{with_head, failure_bytes, refusal_bytes, status_of}
use Rattle.share_core.specs.declared.answer.ReplyContent.{ReplyContent}
use Rattle.share_server.specs.declared.report.LinkEnd.{LinkEnd}
use Rattle.share_server.specs.declared.report.LinkEnd.TheVariants.{Refused, LinkFault, Memory}
use Rattle.share_server.specs.Serving.{CountsEnd}

-- It got the 500, or failed while it was written.
abbrev pub Got500 : (taken taken' : Option (List ℕ)) → LinkEnd → Type 0
Got500 taken taken' LinkFault = AppendsPrefix taken taken' (failure_bytes true)
Got500 taken taken' Memory = Appends taken taken' (failure_bytes true)
Got500 taken taken' other = ⊥

-- It got the refusal of its bytes; or the 500, because allocating the refusal failed; or it failed meanwhile.
abbrev pub IsRefused : HeadError → (taken taken' : Option (List ℕ)) → LinkEnd → Type 0
IsRefused error taken taken' (Refused status) = (status ≡ status_of error) × Appends taken taken' (refusal_bytes error)
IsRefused error taken taken' LinkFault = AppendsPrefix taken taken' (refusal_bytes error) ⊎ AppendsPrefix taken taken' (failure_bytes true)
IsRefused error taken taken' Memory = Appends taken taken' (failure_bytes true)
IsRefused error taken taken' other = ⊥

-- An answer that can be written, if there is one.
abbrev pub IsWritableReply : Option ReplyContent → Type 0
IsWritableReply None = Unit {0}
IsWritableReply (Some said) = HasReason said.status × IsWritable said.plan

-- The bytes of an answer; those of the 500 if allocating it failed.
abbrev pub said_bytes : Option ReplyContent → Bool → List ℕ
said_bytes None last = failure_bytes last
said_bytes (Some said) last = with_head said.status said.form (plan_bytes said.plan) last

-- What happened to a reply of these bytes, with the end `due` after it, if any. All of it was written. Or the
-- connection failed after a prefix. Or an allocation failed, and nothing or a 500 was written instead.
pub data WasWritten (bytes : List ℕ) (added : Bool) (due : Option LinkEnd) (taken taken' : Option (List ℕ)) (end : Option LinkEnd) : Type 0 where
  whole : Appends taken taken' bytes → end ≡ due → WasWritten bytes added due taken taken' end
  broken : AppendsPrefix taken taken' bytes → end ≡ Some LinkFault → WasWritten bytes added due taken taken' end
  left_out : taken' ≡ taken → end ≡ Some Memory → WasWritten bytes added due taken taken' end
  replaced : added ≡ false → (e : LinkEnd) → Got500 taken taken' e → end ≡ Some e → WasWritten bytes added due taken taken' end

-- The error counter of a connection that may end or stay open.
abbrev pub CountsMaybe : (before now : ℕ) → Option LinkEnd → Type 0
CountsMaybe before now None = now ≡ before
CountsMaybe before now (Some end) = CountsEnd before now end

-- An end that is not a failure.
abbrev pub IsNoError : Option LinkEnd → Type 0
IsNoError due = (n : ℕ) → CountsMaybe n n due
