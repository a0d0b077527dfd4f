use Rattle.std.proofs.Common.{rules, ◌≡◌, ◌≢◌, ◌++◌, [], ℕ, List, IfErr, IfOk, MatchOption, false, sym, subst, ap, ◌∙◌, append-nil}
use Rattle.dmap_stream.specs.Walk.{broken}
use Rattle.dmap_stream.specs.declared.refusal.StreamError.TheVariants as stream
use Rattle.tag_commands.specs.TopTags.{walk_of_tags}
use Rattle.tag_commands.specs.LearnCodes.{IsUnfinished, IsReply}
use Rattle.tag_commands.specs.Learning.{is_whole, IsRefusal}
use Rattle.tag_commands.proofs.Counted.{unbroken}
use Rattle.tag_commands.proofs.Learned.{none_yet, told_broken, all_stop, broken_whole}
use Rattle.tag_commands.proofs.learn.Learner.take.Goals as goal

pub returns-in-Ok-clause-took : goal.returns-in-Ok-clause-took
returns-in-Ok-clause-took c =
    let piece = c.args.piece.now in
    λ fed h.
    let bytes : c.extend_from_slice.new.self.items ≡ fed ++ piece = c.in_ok-extend_from_slice.ensures.items ∙ ap (λ l. l ++ piece) h.bytes in
    let short : is_whole (fed ++ piece) ≡ false = sym (ap is_whole (c.as_slice.ensures.value ∙ bytes)) ∙ sym c.is_whole.ensures ∙ c.if-not-is_whole.true in
    record { bytes = bytes; counted = c.in-Ok.ensures.fed fed h.counted; open_ = none_yet (fed ++ piece) short }

pub returns-in-Ok-2-clause-stopped : goal.returns-in-Ok-2-clause-stopped
returns-in-Ok-2-clause-stopped c =
    let piece = c.args.piece.now in
    λ fed h.
    let bytes : c.as_slice-in-Ok-2.result.now ≡ fed ++ piece = c.as_slice-in-Ok-2.ensures.value ∙ c.in_ok-extend_from_slice.ensures.items ∙ ap (λ l. l ++ piece) h.bytes in
    all_stop (fed ++ piece) c.table_in.result
    (λ e is. absurd (unbroken (fed ++ piece) c.feed.new.self.reader c.feed.new.self.tops e (c.in-Ok-2.ensures.fed fed h.counted).counted is))
    (subst (λ (l : List ℕ). IfErr c.table_in.result (IsRefusal l)) bytes c.table_in.ensures.refused)

pub returns-in-Err : goal.returns-in-Err
returns-in-Err c =
    let piece = c.args.piece.now in
    let known : c.in-Err.field-0 ≢ stream.Memory = search rules in
    record {
      took = λ fed h.
          let bytes : c.as_slice-in-Err.result.now ≡ fed ++ piece = c.as_slice-in-Err.ensures.value ∙ c.in_ok-extend_from_slice.ensures.items ∙ ap (λ l. l ++ piece) h.bytes in
          let broke : (walk_of_tags (fed ++ piece)).ending ≡ broken c.in-Err.field-0 = ap (λ l. (walk_of_tags l).ending) (sym (append-nil (fed ++ piece))) ∙ c.in-Err.ensures.stopped fed h.counted known [] in
          told_broken _ (fed ++ piece) c.table_in-in-Err.result (λ begun. begun.sound c.in-Err.field-0 broke)
          (subst (λ (l : List ℕ). IfOk c.table_in-in-Err.result (λ learned. MatchOption learned (IsUnfinished l) (λ rows. IsReply rows l))) bytes c.table_in-in-Err.ensures.told);
      stopped = λ fed h.
          let bytes : c.as_slice-in-Err.result.now ≡ fed ++ piece = c.as_slice-in-Err.ensures.value ∙ c.in_ok-extend_from_slice.ensures.items ∙ ap (λ l. l ++ piece) h.bytes in
          all_stop (fed ++ piece) c.table_in-in-Err.result
          (λ e is. broken_whole (fed ++ piece) c.in-Err.field-0 e (c.in-Err.ensures.stopped fed h.counted) known is)
          (subst (λ (l : List ℕ). IfErr c.table_in-in-Err.result (IsRefusal l)) bytes c.table_in-in-Err.ensures.refused);
    }
