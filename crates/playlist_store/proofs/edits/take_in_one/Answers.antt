use Rattle.std.proofs.Common.{Some, None, [], ◌∷◌, true≢false, refl, sym, ap, ◌∙◌}
use Rattle.item_model.specs.declared.changes.Edit.TheVariants.{PutList, PutRule, DropList, PutMember, DropMember}
use Rattle.share_history.specs.LastSaid.{Plain, Ruled}
use Rattle.playlist_store.specs.Lists.{has_rule}
use Rattle.playlist_store.proofs.FrameFacts.{frames_same, put_frames, member_frames}
use Rattle.playlist_store.proofs.TellFacts.{put_told, member_told, item_told}
use Rattle.playlist_store.proofs.edits.take_in_one.Goals as goal

pub returns-in-Ok : goal.returns-in-Ok
returns-in-Ok c =
    let list = c.in-PutList.list in
    let name = c.in-PutList.name in
    let is = c.in-PutList.is in
    let head = c.fresh.ensures.head ∙ ap Some c.in-Ok.ensures in
    rw is
    (record {
      tells =
          put_told c.put.result c.args.revision list (PutList list name) c.fresh.result (Some (Plain name)) c.args.lists.now.entries c.put.new.lists.entries (λ q. refl) (λ q k. refl) (λ q. refl)
          c.fresh.ensures.since head c.fresh.ensures.members (λ rule. absurd (true≢false (sym rule ∙ ap has_rule head))) c.put.ensures;
      frames = put_frames c.args.revision list (PutList list name) c.fresh.result c.put.result c.args.lists.now.entries c.put.new.lists.entries c.requires c.fresh.ensures.since (λ q. refl) c.put.ensures;
    })

pub returns-in-Ok-ruled_head : goal.returns-in-Ok-ruled_head
returns-in-Ok-ruled_head c =
    let list = c.in-PutRule.list in
    let name = c.in-PutRule.name in
    let rule = c.in-PutRule.rule in
    let is = c.in-PutRule.is in
    let fresh = c.fresh-in-Ok-ruled_head in
    let put = c.put-in-Ok-ruled_head in
    rw is
    (record {
      tells =
          put_told put.result c.args.revision list (PutRule list name rule) fresh.result (Some (Ruled name rule)) c.args.lists.now.entries put.new.lists.entries (λ q. refl) (λ q k. refl) (λ q. refl)
          fresh.ensures.since (fresh.ensures.head ∙ ap Some c.in-Ok-ruled_head.ensures) fresh.ensures.members (λ _. refl) put.ensures;
      frames = put_frames c.args.revision list (PutRule list name rule) fresh.result put.result c.args.lists.now.entries put.new.lists.entries c.requires fresh.ensures.since (λ q. refl) put.ensures;
    })

pub returns-in-DropList : goal.returns-in-DropList
returns-in-DropList c =
    let list = c.in-DropList.list in
    let is = c.in-DropList.is in
    let fresh = c.fresh-in-DropList in
    let put = c.put-in-DropList in
    rw is
    (record {
      tells =
          put_told put.result c.args.revision list (DropList list) fresh.result None c.args.lists.now.entries put.new.lists.entries (λ q. refl) (λ q k. refl) (λ q. refl)
          fresh.ensures.since fresh.ensures.head fresh.ensures.members (λ rule. absurd (true≢false (sym rule ∙ ap has_rule fresh.ensures.head))) put.ensures;
      frames = put_frames c.args.revision list (DropList list) fresh.result put.result c.args.lists.now.entries put.new.lists.entries c.requires fresh.ensures.since (λ q. refl) put.ensures;
    })

pub returns-in-PutMember : goal.returns-in-PutMember
returns-in-PutMember c =
    let list = c.in-PutMember.list in
    let member = c.in-PutMember.member in
    let item = c.in-PutMember.item in
    let is = c.in-PutMember.is in
    let set = c.set_member in
    rw is
    (record {
      tells =
          member_told set.result c.args.revision list member (PutMember list member item) (Some item) c.args.lists.now.entries set.new.lists.entries (λ q. refl) (λ q k. refl) (λ q. refl) set.ensures.sets;
      frames = member_frames c.args.revision list member (PutMember list member item) c.args.lists.now.entries set.new.lists.entries (λ q k. refl) set.ensures.leaves;
    })

pub returns-in-DropMember : goal.returns-in-DropMember
returns-in-DropMember c =
    let list = c.in-DropMember.list in
    let member = c.in-DropMember.member in
    let is = c.in-DropMember.is in
    let set = c.set_member-in-DropMember in
    rw is
    (record {
      tells = member_told set.result c.args.revision list member (DropMember list member) None c.args.lists.now.entries set.new.lists.entries (λ q. refl) (λ q k. refl) (λ q. refl) set.ensures.sets;
      frames = member_frames c.args.revision list member (DropMember list member) c.args.lists.now.entries set.new.lists.entries (λ q k. refl) set.ensures.leaves;
    })

pub returns-in_default : goal.returns-in_default
returns-in_default c = record {
  tells = item_told c.args.revision c.args.edit.now c.args.lists.now.entries c.in_default.not-PutList c.in_default.not-PutRule c.in_default.not-DropList c.in_default.not-PutMember c.in_default.not-DropMember;
  frames = frames_same c.args.revision (c.args.edit.now ∷ []) c.args.lists.now.entries;
}

pub returns-in-Err : goal.returns-in-Err
returns-in-Err c = record { tells = tt; frames = frames_same c.args.revision (c.args.edit.now ∷ []) c.args.lists.now.entries }

pub returns-in-Err-ruled_head : goal.returns-in-Err-ruled_head
returns-in-Err-ruled_head c = record { tells = tt; frames = frames_same c.args.revision (c.args.edit.now ∷ []) c.args.lists.now.entries }
