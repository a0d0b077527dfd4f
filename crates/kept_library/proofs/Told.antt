-- What is known of a file under its name, when it is opened and when it is closed.
use Rattle.std.proofs.Common.{◌≡◌, ◌⊎◌, ℕ, true, false, List, [], ◌∷◌, ◌++◌, Option, Some, None, is_some, IfSome, MatchBool, if◌then◌else◌, ap, ◌∙◌, sym, subst, append_assoc, refl, inl, inr}
use Rattle.item_model.specs.declared.changes.Edit.{Edit}
use Rattle.outside_disks.specs.Contents.{Contents, OpensFile, ClosesFile}
use Rattle.outside_disks.specs.Disks.{Only}
use Rattle.outside_disks.specs.declared.disk.Disk.{Ghosts}
use Rattle.outside_disks.specs.declared.faulted.Faulted as faulted
use Rattle.edit_file.specs.Files.{AtRest, HasBatches, StandsForOrOneMore, StandsWithOrWithout, is_broken, place_of}
use Rattle.edit_file.specs.Moments.{Holds, LeavesOnly}
use Rattle.edit_file.specs.Standing.{opened, signature, FileStands}
use Rattle.edit_file.specs.declared.file.EditFile.{EditFile}
use Rattle.share_core.specs.Opened.{if_filled}
use Rattle.kept_library.specs.Closing.{LeavesAt, LeavesOrOneMore, PutsBytes, PutsBatches}
use Rattle.kept_library.specs.Opening.{LeavesStanding, LosesFirst, StandsWithFirst, bytes_at}

-- what holds of the bytes of its disk holds of those under its name
pub told_at : (P : List ℕ → Type 0) (contents : Option Contents) (path : List ℕ) (opened_as bytes : Option (List ℕ)) → OpensFile contents path opened_as bytes → IfSome bytes P
    → IfSome contents (λ c. P (bytes_at c path))
told_at P None path opened_as bytes opens here = tt
told_at P (Some c) path opened_as bytes opens here = subst (λ (o : Option (List ℕ)). IfSome o P) opens.1 here

-- a disk that is closed unchanged leaves its bytes
pub same_at : (contents now : Option Contents) (path : List ℕ) (opened_as bytes opened_as' bytes' : Option (List ℕ)) → OpensFile contents path opened_as bytes
    → opened_as' ≡ opened_as → bytes' ≡ bytes → ClosesFile contents now opened_as' bytes' → IfSome contents (λ c. PutsBytes path (bytes_at c path) c now)
same_at None now path opened_as bytes opened_as' bytes' opens name same closes = tt
same_at (Some c) now path opened_as bytes opened_as' bytes' opens name same closes =
    subst (λ b. ClosesFile (Some c) now (Some path) b) (same ∙ opens.1) (subst (λ n. ClosesFile (Some c) now n bytes') (name ∙ opens.0) closes)

-- the bytes of a file without a pending change represent its batches
pub rest_stands : (bytes : List ℕ) (closing : ℕ) (batches : List (List Edit)) → AtRest bytes closing batches → FileStands bytes batches
rest_stands bytes closing batches rest = inr (record {
  frames = rest.frames;
  closing = rest.shut;
  behind = [];
  bytes_are = rest.bytes_are ∙ append_assoc (opened ∷ signature) rest.frames (rest.shut ∷ []);
  framed = rest.framed;
  shut = rest.closed;
})

-- what is known of a disk that has a name
pub of_named : (X : Type 0) (bytes name : Option (List ℕ)) (path : List ℕ) → (if is_some bytes then name else None) ≡ Some path → IfSome bytes (λ _. X) → X
of_named X None name path none known = absurd (cc)
of_named X (Some b) name path named known = known

module _ {D : Type 0} (g : Ghosts D) where
  -- the bytes of a disk are what a crash may leave
  abbrev pub BytesCount : Type 0
  BytesCount = (disk : D) (told : List ℕ) → g.bytes disk ≡ Some told → g.images disk told

  -- the name of a disk, if its bytes are known
  abbrev pub name_of : D → Option (List ℕ)
  name_of disk = if is_some (g.bytes disk) then g.opened_as disk else None

  -- the disk has the name by which it was opened
  pub named_at : (contents : Option Contents) (path : List ℕ) (opened_as bytes : Option (List ℕ)) (disk : D) → OpensFile contents path opened_as bytes
      → is_some (g.bytes disk) ≡ is_some bytes → g.opened_as disk ≡ opened_as → IfSome contents (λ _. name_of disk ≡ Some path)
  named_at None path opened_as bytes disk opens told name = tt
  named_at (Some c) path opened_as bytes disk opens told name = λ i. if (told ∙ ap is_some opens.1) i then (name ∙ opens.0) i else None

  -- a disk that is closed leaves bytes that have what each of its images has
  pub leaves_image : BytesCount → (path : List ℕ) (c : Contents) (now : Option Contents) (disk : D) (P : List ℕ → Type 0) → name_of disk ≡ Some path
      → ((image : List ℕ) → g.images disk image → P image) → ClosesFile (Some c) now (g.opened_as disk) (g.bytes disk) → (bytes : List ℕ) × P bytes × PutsBytes path bytes c now
  leaves_image counts path c now disk P place images closes = by_bytes (g.bytes disk) (g.opened_as disk) refl place closes
    where
      by_bytes : (bytes name : Option (List ℕ)) → g.bytes disk ≡ bytes → (if is_some bytes then name else None) ≡ Some path → ClosesFile (Some c) now name bytes
          → (b : List ℕ) × P b × PutsBytes path b c now
      by_bytes None name same none closed = absurd (cc)
      by_bytes (Some b) name same is closed = (b, images b (counts disk b same), subst (λ n. ClosesFile (Some c) now n (Some b)) is closed)

  -- a disk that was opened with nothing pending holds the bytes under its name
  holds_opened : (c : Contents) (path : List ℕ) (disk : D) → OpensFile (Some c) path (g.opened_as disk) (g.bytes disk) → Only (g.bytes disk) (g.images disk)
      → Holds g disk (bytes_at c path)
  holds_opened c path disk opens only = record { told = opens.1; alone = λ image is. some_same image (bytes_at c path) (sym (only image is) ∙ opens.1) }
    where
      some_same : (x y : List ℕ) → Some x ≡ Some y → x ≡ y
      some_same x y same = cc

  -- an open call that keeps to the batches leaves them, if its disk is closed
  pub leaves_kept : BytesCount → (before now : Option Contents) (path : List ℕ) (disk disk' : D) → OpensFile before path (g.opened_as disk) (g.bytes disk) → Only (g.bytes disk) (g.images disk)
      → ((bytes : List ℕ) (bs : List (List Edit)) → FileStands bytes bs → Holds g disk bytes → LeavesOnly g disk disk' (λ image. FileStands image bs))
      → is_some (g.bytes disk') ≡ is_some (g.bytes disk) → g.opened_as disk' ≡ g.opened_as disk → ClosesFile before now (g.opened_as disk') (g.bytes disk') → LeavesStanding path before now
  leaves_kept counts None now path disk disk' opens only crash told name closes bs stood = tt
  leaves_kept counts (Some c) now path disk disk' opens only crash told name closes bs stood =
      let run = crash (bytes_at c path) bs stood (holds_opened c path disk opens only) in
      let left = leaves_image counts path c now disk' (λ image. FileStands image bs) (named_at (Some c) path _ _ disk' opens told name) run.now closes in
      record { bytes = left.0; stands = left.1; told = left.2 }

  -- what a failed append of a batch may leave
  pub loses_first : (old new : D) (bs : List (List Edit)) (frame first : List Edit) → frame ∷ [] ≡ if_filled first
      → IfSome (g.bytes old) (λ _. LeavesOnly g old new (StandsWithOrWithout bs frame)) → IfSome (g.bytes old) (λ _. (image : List ℕ) → g.images new image → StandsWithFirst bs first image)
  loses_first old new bs frame first is = by_bytes (g.bytes old)
    where
      by_bytes : (o : Option (List ℕ)) → IfSome o (λ _. LeavesOnly g old new (StandsWithOrWithout bs frame)) → IfSome o (λ _. (image : List ℕ) → g.images new image → StandsWithFirst bs first image)
      by_bytes None run = tt
      by_bytes (Some b) run = λ image left. subst (λ more. FileStands image bs ⊎ FileStands image (bs ++ more)) is (run.now image left)

module _ {D : Type 0} (g : Ghosts D) {f : faulted.Ghosts D} where
  -- the file has the name by which its disk was opened
  pub placed_at : (contents : Option Contents) (path : List ℕ) (opened_as bytes : Option (List ℕ)) (file : EditFile D g f) → OpensFile contents path opened_as bytes
      → is_some (g.bytes file.disk) ≡ is_some bytes → g.opened_as file.disk ≡ opened_as → IfSome contents (λ _. place_of g file ≡ Some path)
  placed_at contents path opened_as bytes file = named_at g contents path opened_as bytes file.disk

  -- a file that is closed leaves its batches
  pub leaves_at : (path : List ℕ) (bs : List (List Edit)) (before now : Option Contents) (file : EditFile D g f) → is_broken g file ≡ false → HasBatches g file bs
      → IfSome before (λ _. place_of g file ≡ Some path) → ClosesFile before now (g.opened_as file.disk) (g.bytes file.disk) → LeavesAt path bs before now
  leaves_at path bs None now file sound has place closes = tt
  leaves_at path bs (Some c) now file sound has place closes =
      by_bytes (g.bytes file.disk) (g.opened_as file.disk) place
      (subst (λ b. MatchBool b (IfSome (g.bytes file.disk) (λ _. (image : List ℕ) → g.images file.disk image → StandsForOrOneMore bs image)) (IfSome (g.bytes file.disk) (λ bytes. AtRest bytes file.closing bs × Holds g file.disk bytes))) sound has)
      closes
    where
      by_bytes : (bytes name : Option (List ℕ)) → (if is_some bytes then name else None) ≡ Some path → IfSome bytes (λ b. AtRest b file.closing bs × Holds g file.disk b)
          → ClosesFile (Some c) now name bytes → PutsBatches path bs c now
      by_bytes None name none rest closed = absurd (cc)
      by_bytes (Some b) name is rest closed =
          record { bytes = b; stands = rest_stands b file.closing bs rest.0; told = subst (λ n. ClosesFile (Some c) now n (Some b)) is closed }

  -- a file whose append failed leaves its batches, or one more
  pub leaves_broken : BytesCount g → (path : List ℕ) (bs : List (List Edit)) (before now : Option Contents) (file : EditFile D g f) → is_broken g file ≡ true → HasBatches g file bs
      → IfSome before (λ _. place_of g file ≡ Some path) → ClosesFile before now (g.opened_as file.disk) (g.bytes file.disk) → LeavesOrOneMore path bs before now
  leaves_broken counts path bs None now file broken has place closes = inl tt
  leaves_broken counts path bs (Some c) now file broken has place closes =
      let known = subst (λ b. MatchBool b (IfSome (g.bytes file.disk) (λ _. (image : List ℕ) → g.images file.disk image → StandsForOrOneMore bs image)) (IfSome (g.bytes file.disk) (λ bytes. AtRest bytes file.closing bs × Holds g file.disk bytes))) broken has in
      let images = of_named ((image : List ℕ) → g.images file.disk image → StandsForOrOneMore bs image) (g.bytes file.disk) (g.opened_as file.disk) path place known in
      let left = leaves_image g counts path c now file.disk (StandsForOrOneMore bs) place images closes in elim left.1 [
        | inl same ↦ inl (record { bytes = left.0; stands = same; told = left.2 })
        | inr more ↦ inr (more.0, record { bytes = left.0; stands = more.1; told = left.2 })
      ]

  -- a file whose first append failed leaves its batches, or these and the one that was appended
  pub leaves_lost : BytesCount g → (path : List ℕ) (bs : List (List Edit)) (first : List Edit) (before now : Option Contents) (file file' : EditFile D g f)
      → IfSome before (λ _. place_of g file ≡ Some path) → place_of g file' ≡ place_of g file → HasBatches g file bs → LosesFirst g file file' bs first
      → ClosesFile before now (g.opened_as file'.disk) (g.bytes file'.disk) → LeavesAt path bs before now ⊎ LeavesAt path (bs ++ if_filled first) before now
  leaves_lost counts path bs first None now file file' place stays has loses closes = inl tt
  leaves_lost counts path bs first (Some c) now file file' place stays has loses closes =
      let images = of_named ((image : List ℕ) → g.images file'.disk image → StandsWithFirst bs first image) (g.bytes file.disk) (g.opened_as file.disk) path place (loses has) in
      let left = leaves_image g counts path c now file'.disk (StandsWithFirst bs first) (stays ∙ place) images closes in elim left.1 [
        | inl same ↦ inl (record { bytes = left.0; stands = same; told = left.2 })
        | inr more ↦ inr (record { bytes = left.0; stands = more; told = left.2 })
      ]

  -- what a file leaves that was opened, but whose share was not
  pub leaves_unopened : BytesCount g → (path : List ℕ) (bs : List (List Edit)) (first : List Edit) (before now : Option Contents) (file file' : EditFile D g f) (P : Type 0)
      → is_broken g file ≡ false → HasBatches g file bs → IfSome before (λ _. place_of g file ≡ Some path) → place_of g file' ≡ place_of g file
      → ClosesFile before now (g.opened_as file'.disk) (g.bytes file'.disk) → (file' ≡ file) ⊎ (P × LosesFirst g file file' bs first)
      → LeavesAt path bs before now ⊎ (P × (LeavesAt path bs before now ⊎ LeavesAt path (bs ++ if_filled first) before now))
  leaves_unopened counts path bs first before now file file' P sound has place stays closes (inl same) =
      inl (leaves_at path bs before now file sound has place (subst (λ (f : EditFile D g f). ClosesFile before now (g.opened_as f.disk) (g.bytes f.disk)) same closes))
  leaves_unopened counts path bs first before now file file' P sound has place stays closes (inr failed) =
      inr (failed.0, leaves_lost counts path bs first before now file file' place stays has failed.1 closes)
