-- What is at the offset, by the five bytes there and the payload after them.
use Rattle.std.proofs.Common.{rules, ◌≡◌, ◌≢◌, ℕ, List, ◌∷◌, ◌+◌, ◌^◌, ◌<◌, ◌≤◌, length, take, drop, get_or, option_map, ◌∙◌, subst, length-drop, arith}
use Rattle.std.proofs.lemmas.Result.{IfOk-from_err}
use Rattle.std.proofs.lemmas.Grind.{common_steps}
use Rattle.edit_file.specs.Reading.{IsPayload, IsBatchIn}
use Rattle.edit_file.specs.Standing.{opened, IsFrame, EndsBadly}
use Rattle.edit_file.proofs.Headed.{heads, nothing_there, closed_there, few_there, short_there, past_there, unread_there, frame_there}
use Rattle.edit_file.proofs.Quiet.{if_told, told_of, ok_is_no_err, quiet_then}
use Rattle.edit_file.proofs.reading.read_frame.Goals as goal

pub returns-in-Some-3-clause-exact : goal.returns-in-Some-3-clause-exact
returns-in-Some-3-clause-exact g c = if_told (g.D.Disk.bytes c.args.disk.now)
    (λ b. length b ≡ c.args.len → IsFrame (take (c.count_in-count.result + 5) (drop c.args.at b)) c.in-Some-3.batch × (c.count_in-count.result + 5 ≤ length (drop c.args.at b)))
    (λ b told same.
    let whole : 5 ≤ c.in_ok-n.n = grind (arith, common_steps) in
    let first : get_or c.read_fully.new.room 0 0 ≡ opened = grind (arith, common_steps) in
    let inside : c.args.at + 5 + c.count_in-count.result ≤ c.args.len = grind (arith, common_steps) in
    let small : c.count_in-count.result < 2 ^ 32 = grind (arith, common_steps) in
    let exact = told_of _ _ b (c.in_ok-n.ensures.stays.bytes_stay ∙ told) c.in_ok-payload.ensures.exact in
    let text = subst (λ o. IsPayload b (c.args.at + 5) c.count_in-count.result (option_map (λ v. v.items) o)) c.in-Some-2.is exact in
    let read = subst (λ o. IsBatchIn c.as_slice.result.now o) c.in-Some-3.is c.in_ok-batch.ensures.read in
    frame_there b c.read_fully.new.room c.as_slice.result.now c.args.at c.in_ok-n.n c.count_in-count.result c.in-Some-3.batch
    (heads b c.read_fully.new.room c.args.at c.in_ok-n.n (told_of _ _ b told c.in_ok-n.ensures.reads) c.in_ok-n.ensures.size)
    whole first c.count_in-count.ensures.spelled small (c.as_slice.ensures.value ∙ text) (omega (arith, inside, same)) read.0 read.1)

pub returns-clause-exact : goal.returns-clause-exact
returns-clause-exact g c = if_told (g.D.Disk.bytes c.args.disk.now) (λ b. length b ≡ c.args.len → EndsBadly (drop c.args.at b)) (λ b told same.
    let whole : 5 ≤ c.in_ok-n.n = grind (arith, common_steps) in
    let first : get_or c.read_fully.new.room 0 0 ≡ opened = grind (arith, common_steps) in
    let exact = told_of _ _ b (c.in_ok-n.ensures.stays.bytes_stay ∙ told) c.in_ok-payload.ensures.exact in
    let text = subst (λ o. IsPayload b (c.args.at + 5) c.count_in-count.result (option_map (λ v. v.items) o)) c.in-Some-2.is exact in
    unread_there b c.read_fully.new.room c.as_slice.result.now c.args.at c.in_ok-n.n c.count_in-count.result
    (heads b c.read_fully.new.room c.args.at c.in_ok-n.n (told_of _ _ b told c.in_ok-n.ensures.reads) c.in_ok-n.ensures.size)
    whole first c.count_in-count.ensures.value (c.as_slice.ensures.value ∙ text)
    (subst (λ o. IsBatchIn c.as_slice.result.now o) c.in-None.is c.in_ok-batch.ensures.read))

pub returns-then-n-eq0-clause-whole : goal.returns-then-n-eq0-clause-whole
returns-then-n-eq0-clause-whole g c at' e = ok_is_no_err _ _ e

pub returns-then-n-eq0-clause-unchanged : goal.returns-then-n-eq0-clause-unchanged
returns-then-n-eq0-clause-unchanged g c error e other = absurd (ok_is_no_err _ error e)

pub returns-then-n-eq0-clause-stays : goal.returns-then-n-eq0-clause-stays
returns-then-n-eq0-clause-stays g c = record {
  bytes_stay = c.in_ok-n.ensures.stays.bytes_stay;
  quiet = c.in_ok-n.ensures.stays.quiet;
  named = c.in_ok-n.ensures.stays.named;
}

pub returns-then-n-eq0-clause-count : goal.returns-then-n-eq0-clause-count
returns-then-n-eq0-clause-count g c = c.in_ok-n.ensures.count

pub returns-then-head-ne1-clause-whole : goal.returns-then-head-ne1-clause-whole
returns-then-head-ne1-clause-whole g c at' e = ok_is_no_err _ _ e

pub returns-then-head-ne1-clause-unchanged : goal.returns-then-head-ne1-clause-unchanged
returns-then-head-ne1-clause-unchanged g c error e other = absurd (ok_is_no_err _ error e)

pub returns-then-head-ne1-clause-stays : goal.returns-then-head-ne1-clause-stays
returns-then-head-ne1-clause-stays g c = record {
  bytes_stay = c.in_ok-n.ensures.stays.bytes_stay;
  quiet = c.in_ok-n.ensures.stays.quiet;
  named = c.in_ok-n.ensures.stays.named;
}

pub returns-then-head-ne1-clause-count : goal.returns-then-head-ne1-clause-count
returns-then-head-ne1-clause-count g c = c.in_ok-n.ensures.count

pub returns-then-n-lt5-clause-whole : goal.returns-then-n-lt5-clause-whole
returns-then-n-lt5-clause-whole g c at' e = ok_is_no_err _ _ e

pub returns-then-n-lt5-clause-unchanged : goal.returns-then-n-lt5-clause-unchanged
returns-then-n-lt5-clause-unchanged g c error e other = absurd (ok_is_no_err _ error e)

pub returns-then-n-lt5-clause-stays : goal.returns-then-n-lt5-clause-stays
returns-then-n-lt5-clause-stays g c = record {
  bytes_stay = c.in_ok-n.ensures.stays.bytes_stay;
  quiet = c.in_ok-n.ensures.stays.quiet;
  named = c.in_ok-n.ensures.stays.named;
}

pub returns-then-n-lt5-clause-count : goal.returns-then-n-lt5-clause-count
returns-then-n-lt5-clause-count g c = c.in_ok-n.ensures.count

pub returns-in_default-clause-whole : goal.returns-in_default-clause-whole
returns-in_default-clause-whole g c at' e = ok_is_no_err _ _ e

pub returns-in_default-clause-unchanged : goal.returns-in_default-clause-unchanged
returns-in_default-clause-unchanged g c error e other = absurd (ok_is_no_err _ error e)

pub returns-in_default-clause-stays : goal.returns-in_default-clause-stays
returns-in_default-clause-stays g c = record {
  bytes_stay = c.in_ok-n.ensures.stays.bytes_stay;
  quiet = c.in_ok-n.ensures.stays.quiet;
  named = c.in_ok-n.ensures.stays.named;
}

pub returns-in_default-clause-count : goal.returns-in_default-clause-count
returns-in_default-clause-count g c = c.in_ok-n.ensures.count

pub returns-then-count-left-clause-whole : goal.returns-then-count-left-clause-whole
returns-then-count-left-clause-whole g c at' e = ok_is_no_err _ _ e

pub returns-then-count-left-clause-unchanged : goal.returns-then-count-left-clause-unchanged
returns-then-count-left-clause-unchanged g c error e other = absurd (ok_is_no_err _ error e)

pub returns-then-count-left-clause-stays : goal.returns-then-count-left-clause-stays
returns-then-count-left-clause-stays g c = record {
  bytes_stay = c.in_ok-n.ensures.stays.bytes_stay;
  quiet = c.in_ok-n.ensures.stays.quiet;
  named = c.in_ok-n.ensures.stays.named;
}

pub returns-then-count-left-clause-count : goal.returns-then-count-left-clause-count
returns-then-count-left-clause-count g c = c.in_ok-n.ensures.count

pub returns-in_default-2-clause-whole : goal.returns-in_default-2-clause-whole
returns-in_default-2-clause-whole g c at' e = ok_is_no_err _ _ e

pub returns-in_default-2-clause-unchanged : goal.returns-in_default-2-clause-unchanged
returns-in_default-2-clause-unchanged g c error e other = absurd (ok_is_no_err _ error e)

pub returns-in_default-2-clause-stays : goal.returns-in_default-2-clause-stays
returns-in_default-2-clause-stays g c = record {
  bytes_stay = c.in_ok-payload.ensures.stays.bytes_stay ∙ c.in_ok-n.ensures.stays.bytes_stay;
  quiet = quiet_then g.D.Disk _ _ _ c.in_ok-n.ensures.stays.quiet c.in_ok-payload.ensures.stays.quiet;
  named = record {
    told_stays = c.in_ok-payload.ensures.stays.named.told_stays ∙ c.in_ok-n.ensures.stays.named.told_stays;
    name_stays = c.in_ok-payload.ensures.stays.named.name_stays ∙ c.in_ok-n.ensures.stays.named.name_stays;
  };
}

pub returns-in_default-2-clause-count : goal.returns-in_default-2-clause-count
returns-in_default-2-clause-count g c = c.in_ok-payload.ensures.count ∙ c.in_ok-n.ensures.count

pub returns-in-Some-3-clause-whole : goal.returns-in-Some-3-clause-whole
returns-in-Some-3-clause-whole g c at' e = ok_is_no_err _ _ e

pub returns-in-Some-3-clause-unchanged : goal.returns-in-Some-3-clause-unchanged
returns-in-Some-3-clause-unchanged g c error e other = absurd (ok_is_no_err _ error e)

pub returns-in-Some-3-clause-stays : goal.returns-in-Some-3-clause-stays
returns-in-Some-3-clause-stays g c = record {
  bytes_stay = c.in_ok-payload.ensures.stays.bytes_stay ∙ c.in_ok-n.ensures.stays.bytes_stay;
  quiet = quiet_then g.D.Disk _ _ _ c.in_ok-n.ensures.stays.quiet c.in_ok-payload.ensures.stays.quiet;
  named = record {
    told_stays = c.in_ok-payload.ensures.stays.named.told_stays ∙ c.in_ok-n.ensures.stays.named.told_stays;
    name_stays = c.in_ok-payload.ensures.stays.named.name_stays ∙ c.in_ok-n.ensures.stays.named.name_stays;
  };
}

pub returns-in-Some-3-clause-count : goal.returns-in-Some-3-clause-count
returns-in-Some-3-clause-count g c = c.in_ok-payload.ensures.count ∙ c.in_ok-n.ensures.count

pub returns-clause-whole : goal.returns-clause-whole
returns-clause-whole g c at' e = ok_is_no_err _ _ e

pub returns-clause-unchanged : goal.returns-clause-unchanged
returns-clause-unchanged g c error e other = absurd (ok_is_no_err _ error e)

pub returns-clause-stays : goal.returns-clause-stays
returns-clause-stays g c = record {
  bytes_stay = c.in_ok-payload.ensures.stays.bytes_stay ∙ c.in_ok-n.ensures.stays.bytes_stay;
  quiet = quiet_then g.D.Disk _ _ _ c.in_ok-n.ensures.stays.quiet c.in_ok-payload.ensures.stays.quiet;
  named = record {
    told_stays = c.in_ok-payload.ensures.stays.named.told_stays ∙ c.in_ok-n.ensures.stays.named.told_stays;
    name_stays = c.in_ok-payload.ensures.stays.named.name_stays ∙ c.in_ok-n.ensures.stays.named.name_stays;
  };
}

pub returns-clause-count : goal.returns-clause-count
returns-clause-count g c = c.in_ok-payload.ensures.count ∙ c.in_ok-n.ensures.count

pub returns-in_err-n-clause-exact : goal.returns-in_err-n-clause-exact
returns-in_err-n-clause-exact g c = IfOk-from_err _ _ c.from_residual.ensures.0

pub returns-in_err-n-clause-within : goal.returns-in_err-n-clause-within
returns-in_err-n-clause-within g c = IfOk-from_err _ _ c.from_residual.ensures.0

pub returns-in_err-n-clause-usable : goal.returns-in_err-n-clause-usable
returns-in_err-n-clause-usable g c = IfOk-from_err _ _ c.from_residual.ensures.0

pub returns-in_err-payload-clause-exact : goal.returns-in_err-payload-clause-exact
returns-in_err-payload-clause-exact g c = IfOk-from_err _ _ c.from_residual-in_err-payload.ensures.0

pub returns-in_err-payload-clause-within : goal.returns-in_err-payload-clause-within
returns-in_err-payload-clause-within g c = IfOk-from_err _ _ c.from_residual-in_err-payload.ensures.0

pub returns-in_err-payload-clause-usable : goal.returns-in_err-payload-clause-usable
returns-in_err-payload-clause-usable g c = IfOk-from_err _ _ c.from_residual-in_err-payload.ensures.0

pub returns-in_err-batch-clause-exact : goal.returns-in_err-batch-clause-exact
returns-in_err-batch-clause-exact g c = IfOk-from_err _ _ c.from_residual-in_err-batch.ensures.0

pub returns-in_err-batch-clause-within : goal.returns-in_err-batch-clause-within
returns-in_err-batch-clause-within g c = IfOk-from_err _ _ c.from_residual-in_err-batch.ensures.0

pub returns-in_err-batch-clause-usable : goal.returns-in_err-batch-clause-usable
returns-in_err-batch-clause-usable g c = IfOk-from_err _ _ c.from_residual-in_err-batch.ensures.0

pub returns-then-n-eq0-clause-exact : goal.returns-then-n-eq0-clause-exact
returns-then-n-eq0-clause-exact g c = if_told (g.D.Disk.bytes c.args.disk.now) (λ b. length b ≡ c.args.len → EndsBadly (drop c.args.at b)) (λ b told same.
    nothing_there b c.read_fully.new.room c.args.at c.in_ok-n.n (heads b c.read_fully.new.room c.args.at c.in_ok-n.n (told_of _ _ b told c.in_ok-n.ensures.reads) c.in_ok-n.ensures.size) c.if-n-eq0.true)

pub returns-then-head-ne1-clause-exact : goal.returns-then-head-ne1-clause-exact
returns-then-head-ne1-clause-exact g c = if_told (g.D.Disk.bytes c.args.disk.now) (λ b. length b ≡ c.args.len → (closing : ℕ) × (behind : List ℕ) × (drop c.args.at b ≡ closing ∷ behind) × (closing ≢ opened)) (λ b told same.
    let shut : get_or c.read_fully.new.room 0 0 ≢ opened = search rules in
    closed_there b c.read_fully.new.room c.args.at c.in_ok-n.n (heads b c.read_fully.new.room c.args.at c.in_ok-n.n (told_of _ _ b told c.in_ok-n.ensures.reads) c.in_ok-n.ensures.size) (omega (arith, c.if-n-eq0.false)) shut)

pub returns-then-n-lt5-clause-exact : goal.returns-then-n-lt5-clause-exact
returns-then-n-lt5-clause-exact g c = if_told (g.D.Disk.bytes c.args.disk.now) (λ b. length b ≡ c.args.len → EndsBadly (drop c.args.at b)) (λ b told same.
    let first : get_or c.read_fully.new.room 0 0 ≡ opened = grind (arith, common_steps) in
    few_there b c.read_fully.new.room c.args.at c.in_ok-n.n (heads b c.read_fully.new.room c.args.at c.in_ok-n.n (told_of _ _ b told c.in_ok-n.ensures.reads) c.in_ok-n.ensures.size) (omega (arith, c.if-n-eq0.false)) first c.if-n-lt5.true)

pub returns-in_default-clause-exact : goal.returns-in_default-clause-exact
returns-in_default-clause-exact g c = if_told (g.D.Disk.bytes c.args.disk.now) (λ b. length b ≡ c.args.len → EndsBadly (drop c.args.at b)) (λ b told same.
    let whole : 5 ≤ c.in_ok-n.n = grind (arith, common_steps) in
    let first : get_or c.read_fully.new.room 0 0 ≡ opened = grind (arith, common_steps) in
    let short : c.args.len < c.args.at + 5 = grind (arith, common_steps) in
    short_there b c.read_fully.new.room c.args.at c.in_ok-n.n (heads b c.read_fully.new.room c.args.at c.in_ok-n.n (told_of _ _ b told c.in_ok-n.ensures.reads) c.in_ok-n.ensures.size) (omega (arith, whole)) first (omega (arith, short, same, length-drop c.args.at b)))

pub returns-then-count-left-clause-exact : goal.returns-then-count-left-clause-exact
returns-then-count-left-clause-exact g c = if_told (g.D.Disk.bytes c.args.disk.now) (λ b. length b ≡ c.args.len → EndsBadly (drop c.args.at b)) (λ b told same.
    let whole : 5 ≤ c.in_ok-n.n = grind (arith, common_steps) in
    let first : get_or c.read_fully.new.room 0 0 ≡ opened = grind (arith, common_steps) in
    let past : c.args.len < c.args.at + 5 + c.count_in-count.result = grind (arith, common_steps) in
    past_there b c.read_fully.new.room c.args.at c.in_ok-n.n c.count_in-count.result (heads b c.read_fully.new.room c.args.at c.in_ok-n.n (told_of _ _ b told c.in_ok-n.ensures.reads) c.in_ok-n.ensures.size) whole first c.count_in-count.ensures.value (omega (arith, past, same)))

pub returns-in_default-2-clause-exact : goal.returns-in_default-2-clause-exact
returns-in_default-2-clause-exact g c = if_told (g.D.Disk.bytes c.args.disk.now) (λ b. length b ≡ c.args.len → EndsBadly (drop c.args.at b)) (λ b told same.
    let whole : 5 ≤ c.in_ok-n.n = grind (arith, common_steps) in
    let first : get_or c.read_fully.new.room 0 0 ≡ opened = grind (arith, common_steps) in
    let exact = told_of _ _ b (c.in_ok-n.ensures.stays.bytes_stay ∙ told) c.in_ok-payload.ensures.exact in
    let past = subst (λ o. IsPayload b (c.args.at + 5) c.count_in-count.result (option_map (λ v. v.items) o)) c.in_default-2.is exact in
    past_there b c.read_fully.new.room c.args.at c.in_ok-n.n c.count_in-count.result (heads b c.read_fully.new.room c.args.at c.in_ok-n.n (told_of _ _ b told c.in_ok-n.ensures.reads) c.in_ok-n.ensures.size) whole first c.count_in-count.ensures.value past)
