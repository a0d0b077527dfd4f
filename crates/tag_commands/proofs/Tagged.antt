-- Bytes that are tags: the events of the walk over them, and how many top tags it counts.
use Rattle.std.proofs.Common.{◌≡◌, ◌+◌, ◌-◌, ◌<◌, ℕ, suc, List, [], ◌∷◌, ◌++◌, length, take, drop, get_or, fold, if◌then◌else◌, refl, sym, ap, ◌∙◌, arith, append-nil, append_assoc, add-one}
use Rattle.std.proofs.lemmas.Bool.{ne_eqb}
use Rattle.std.proofs.lemmas.List.{take-append-drop}
use Rattle.dmap_tags.specs.Spelling.{payload}
use Rattle.dmap_tags.specs.Tree.{Tree, leaf, list, Trees, none, more, trees_of}
use Rattle.code_table.specs.Standard.{standard_rows}
use Rattle.dmap_show.proofs.EventLines.{all_events_show}
use Rattle.dmap_show.specs.Events.{shown_events}
use Rattle.dmap_show.specs.Readable.{AreBytes}
use Rattle.dmap_show.specs.Shown.{shown_tags}
use Rattle.dmap_stream.proofs.Sound.{tags_found}
use Rattle.dmap_stream.proofs.TagsWalk.{tags_read}
use Rattle.dmap_stream.specs.Events.{events_of, events_of_all}
use Rattle.dmap_stream.specs.Walk.{Walk, between}
use Rattle.dmap_stream.specs.declared.event.Event.{Event}
use Rattle.dmap_stream.specs.declared.event.Event.TheVariants.{Close}
use Rattle.tag_commands.specs.TopTags.{walk_of_tags, AreTopTags}
use Rattle.tag_commands.specs.Counting.{with_tag, after_event, top_tags}
use Rattle.tag_commands.specs.TopTags.{tag_limit}
use Rattle.tag_commands.specs.declared.tops.Tops.{Tops}

-- the bytes of a slice
pub each_small : (bytes : List ℕ) → ((i : ℕ) → get_or bytes i 0 < 256) → AreBytes bytes
each_small [] h = tt
each_small (b ∷ bytes) h = (h 0, each_small bytes (λ i. h (suc i)))

-- a longer prefix of a chunk was taken, and less is left
pub taken_more : (piece front rest left : List ℕ) (taken : ℕ) → piece ≡ front ++ rest → left ≡ drop taken rest → piece ≡ (front ++ take taken rest) ++ left
taken_more piece front rest left taken split is =
    split ∙ ap (λ l. front ++ l) (sym (take-append-drop taken rest)) ∙ sym (append_assoc front (take taken rest) (drop taken rest))
    ∙ ap (λ l. (front ++ take taken rest) ++ l) (sym is)

-- two runs of bytes, one after the other
pub both_small : (xs ys : List ℕ) → AreBytes xs → AreBytes ys → AreBytes (xs ++ ys)
both_small [] ys h k = k
both_small (x ∷ xs) ys h k = (h.0, both_small xs ys h.1 k)

-- the counts if that many lists are open
abbrev counts : ℕ → ℕ → Tops
counts depth ended = record { depth = depth; ended = ended }

-- in a list no top tag ends
none_ends : (depth ended : ℕ) → with_tag (suc depth) ended ≡ counts (suc depth) ended
none_ends depth ended = ap (λ b. counts (suc depth) (if b then ended + 1 else ended)) (ne_eqb (suc depth) 0 (λ is. absurd (omega arith)))

-- a tag ends one if no list is open, and what is in a list ends none
mutual
  one_counted : (depth ended at : ℕ) (t : Tree) (rest : List Event) → fold after_event (counts depth ended) (events_of at t rest) ≡ fold after_event (with_tag depth ended) rest
  one_counted depth ended at (leaf c l) rest = refl
  one_counted depth ended at (list c ts) rest =
      let behind = events_of_all (at + 8) ts (Close c at ∷ rest) in
      ap (λ n. fold after_event (counts n ended) behind) (add-one depth)
      ∙ members_counted depth ended (at + 8) ts (Close c at ∷ rest)
      ∙ ap (λ n. fold after_event (with_tag n ended) rest) (let same : suc depth - 1 ≡ depth = omega arith in same)

  members_counted : (depth ended at : ℕ) (ts : Trees) (rest : List Event)
      → fold after_event (counts (suc depth) ended) (events_of_all at ts rest) ≡ fold after_event (counts (suc depth) ended) rest
  members_counted depth ended at none rest = refl
  members_counted depth ended at (more t ts) rest =
      let next = at + 8 + length (payload t) in
      one_counted (suc depth) ended at t (events_of_all next ts rest)
      ∙ ap (λ tops. fold after_event tops (events_of_all next ts rest)) (none_ends depth ended)
      ∙ members_counted depth ended next ts rest

-- tags at the top end as many as they are
all_counted : (ended at : ℕ) (ts : List Tree) → (fold after_event (counts 0 ended) (events_of_all at (trees_of ts) [])).ended ≡ ended + length ts
all_counted ended at [] = omega arith
all_counted ended at (t ∷ ts) =
    let next = at + 8 + length (payload t) in
    ap (λ (tops : Tops). tops.ended) (one_counted 0 ended at t (events_of_all next (trees_of ts) []))
    ∙ all_counted (ended + 1) next ts
    ∙ (omega arith)

-- bytes that end between two top tags are tags
pub some_tags : (bytes : List ℕ) → AreBytes bytes → (walk_of_tags bytes).ending ≡ between → (tags : List Tree) × AreTopTags tags bytes
some_tags bytes small is =
    let found = tags_found standard_rows tag_limit bytes small is in
    (found.0, record { spelled = found.1; accepted = found.2 })

-- the walk over tags has their events, and ends between two
pub tags_walked : (tags : List Tree) (bytes : List ℕ) → AreTopTags tags bytes → walk_of_tags bytes ≡ record { events = events_of_all 0 (trees_of tags) []; ending = between }
tags_walked tags bytes h = ap walk_of_tags h.spelled ∙ tags_read standard_rows tag_limit tags (omega arith) h.accepted

-- it counts as many top tags
pub tags_counted : (tags : List Tree) (bytes : List ℕ) → AreTopTags tags bytes → top_tags (walk_of_tags bytes).events ≡ length tags
tags_counted tags bytes h = ap (λ (w : Walk). top_tags w.events) (tags_walked tags bytes h) ∙ all_counted 0 0 tags ∙ (omega arith)

-- its lines are those of the tags
pub tags_shown : (tags : List Tree) (bytes : List ℕ) → AreTopTags tags bytes → shown_events 0 (walk_of_tags bytes).events ≡ shown_tags 0 (trees_of tags)
tags_shown tags bytes h =
    ap (λ (w : Walk). shown_events 0 w.events) (tags_walked tags bytes h) ∙ all_events_show 0 0 (trees_of tags) [] ∙ append-nil (shown_tags 0 (trees_of tags))
