-- What the closures of a find and of a recovery of a container are called with, and what a recovery leaves.
use Rattle.std.specs.Prelude.{◌≡◌, ℕ, ◌==◌, Bool, Some, None, List, filter, fold, slice_index, slice_index_or, slice_set}
use Rattle.std.specs.List.{FoldsTo}
use Rattle.steps.specs.Indices.Robust.Parts.{one_more}
use Rattle.steps.specs.Objects.Owners.{Owned, given_back, to_recover}
use Rattle.steps.specs.declared.enums.CallbackProgression.{CallbackProgression}
use Rattle.steps.specs.declared.container.handle.ContainerHandle.{ContainerHandle}
use Rattle.steps.specs.declared.indices.enums.ReleaseMode.{ReleaseMode}
use Rattle.plain.specs.Callable.{Asked, questions, agreed, asks}
use Rattle.plain.specs.Contents.{Contents, count_without}

module _ {V : Type 0} where
  -- the value stands at the index
  abbrev pub Stands : Contents V → ℕ → V → Type 0
  Stands s index value = slice_index_or s.values index None ≡ Some value

  -- ---- find

  -- the handle of an index of this owner
  abbrev pub handle_of : Contents V → (owner index : ℕ) → ContainerHandle
  handle_of s owner index = record { index = index; owner = owner; container = s.container }

  -- the closure may be called with the value that stands at the index, and its handle
  abbrev pub MaySee : {F : Type 0} → (F → V → ContainerHandle → Type 0) → Contents V → ℕ → F → ℕ → Type 0
  MaySee pre s owner p index =
      (value : V) → Stands s index value → pre p value (handle_of s owner index)

  -- the closure was called with the value that stands at the index and its handle, and answered `said`
  abbrev pub Sees : {F : Type 0} → (F → V → ContainerHandle → CallbackProgression → F → Type 0) → Contents V
      → ℕ → F → ℕ → CallbackProgression → F → Type 0
  Sees step s owner p index said q =
      (value : V) × Stands s index value × step p value (handle_of s owner index) said q

  -- ---- recover

  -- the indices of the owner, ascending, each with its owner; none once the container is locked
  abbrev pub to_ask : Contents V → ℕ → List Owned
  to_ask s owner = filter (λ (o : Owned). o.owner == owner) (to_recover s.owners)

  -- the closure may be asked about the value that stands at the index
  abbrev pub MayAsk : {F : Type 0} → (F → V → Type 0) → Contents V → F → ℕ → ℕ → Type 0
  MayAsk pre s p owner index = (value : V) → Stands s index value → pre p value

  -- the closure was asked about the value that stands at the index, and answered `said`
  abbrev pub Says : {F : Type 0} → (F → V → Bool → F → Type 0) → Contents V → F → ℕ → ℕ → Bool → F → Type 0
  Says step s p owner index said q =
      (value : V) × Stands s index value × step p value said q

  -- the contents once the index is given back and its value is gone
  abbrev pub freed : ReleaseMode → Contents V → ℕ → Contents V
  freed mode s index =
      record {
        container = s.container;
        owners = given_back mode s.owners index;
        values = slice_set s.values index None;
        counts = slice_set s.counts index (count_without (slice_index s.counts index));
        changes = s.changes;
      }

  -- the contents once all of these indices were freed, one after another
  abbrev pub all_freed : ReleaseMode → Contents V → List Owned → Contents V
  all_freed mode s which = fold (λ t (o : Owned). freed mode t o.index) s which

  -- the contents with one change more
  abbrev pub one_change : Contents V → Contents V
  one_change s = record s { changes = one_more s.changes }

  -- What a recovery has done: the closure was asked about the value at each index of `to_ask`, in order, and
  -- those of a yes were freed, as one change. These calls led the closure from its state f to `last`.
  pub record HasRecovered {F : Type 0} (step : F → V → Bool → F → Type 0) (owner : ℕ) (mode : ReleaseMode)
      (old new : Contents V) (f last : F) : Type 0 where
    pub asked : List Asked
    -- it was asked about all of the owner's values
    pub all : questions asked ≡ to_ask old owner
    pub answers : FoldsTo (asks (Says step old)) f asked last
    -- those of a yes were freed, as one change
    pub next : new ≡ one_change (all_freed mode old (agreed asked))
