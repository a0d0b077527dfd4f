-- What follows for stores with few edits: the store of items has few, and both keep as many revisions.
use Rattle.std.proofs.Common.{◌≡◌, sym}
use Rattle.item_store.specs.Store.{Store}
use Rattle.playlist_store.specs.Store as lists_kept
use Rattle.share_listings.specs.Answers.{HasFew, HaveFew}

pub few_items : (items : Store) (lists : lists_kept.Store) → HaveFew items lists → HasFew items
few_items items lists had = record { bs = had.bs; stands = had.of_items; few = had.few }

pub same_window : (items : Store) (lists : lists_kept.Store) → HaveFew items lists → items.keep ≡ lists.keep
same_window items lists had = sym had.keep
