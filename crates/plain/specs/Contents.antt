-- A container of one caller: a map from index to owner, and at each index a value or none.
use Rattle.std.specs.Prelude.{◌≡◌, ◌≤◌, ◌<◌, ◌&&◌, ◌==◌, ℕ, ◌+◌, ◌^◌, Bool, Option, Some, None, Result, Ok, Err, List}
use Rattle.std.specs.Prelude.{length, map, take, replicate, slice_index, slice_index_or, slice_set, if◌then◌else◌}
use Rattle.std.specs.List.{range_with_len}
use Rattle.steps.specs.Indices.Robust.Parts.{one_more}
use Rattle.steps.specs.Container.Enums.{add_failure}
use Rattle.steps.specs.Container.Layout.{change_word, count_word, element_word, total_words, is_even}
use Rattle.steps.specs.Objects.Owners as owners
use Rattle.steps.specs.Objects.Owners.{Owners}
use Rattle.steps.specs.declared.indices.enums.ReleaseMode.{ReleaseMode}
use Rattle.steps.specs.declared.indices.enums.ReleaseState.{ReleaseState}
use Rattle.steps.specs.declared.indices.enums.UniqueIndexSetAcquireFailure.{UniqueIndexSetAcquireFailure}
use Rattle.steps.specs.declared.container.enums.ContainerAddFailure.{ContainerAddFailure}
use Rattle.steps.specs.declared.container.enums.ContainerRemoveError.{ContainerRemoveError}
use Rattle.steps.specs.declared.container.enums.ContainerRemoveError.TheVariants.{ContainerHandleNotOwnedByContainer}
use Rattle.steps.specs.declared.container.handle.ContainerHandle.{ContainerHandle}
use Rattle.plain_queues.specs.Queues.{words_from}
use Rattle.plain.specs.Robust.{owners_in}

-- what a container has at one moment
pub record Contents (V : Type 0) : Type 0 where
  -- the number that its handles name it by
  pub container : ℕ
  -- whose each index is, with the lock and the generation
  pub owners : Owners
  -- the value at each index, if there is one
  pub values : List (Option V)
  -- a number for each index, odd while a value stands there; a value that comes or goes adds 1, modulo 2^64
  pub counts : List ℕ
  -- how often a value was added, replaced or removed, or an owner recovered, modulo 2^64
  pub changes : ℕ

-- the number of an index once what stood there has gone
abbrev pub count_without : ℕ → ℕ
count_without count = if is_even count then count else one_more count

module _ {V : Type 0} where
  -- no owner and no value at any index
  abbrev pub opened : ℕ → ℕ → Contents V
  opened capacity container =
      record {
        container = container;
        owners = owners.opened_at capacity 0;
        values = replicate capacity None;
        counts = replicate capacity 0;
        changes = 0;
      }

  -- how many places it has
  abbrev pub capacity : Contents V → ℕ
  capacity s = owners.capacity s.owners

  -- whether it is locked
  abbrev pub is_locked : Contents V → Bool
  is_locked s = owners.is_locked s.owners

  -- how many indices have an owner, none once it is locked
  abbrev pub number : Contents V → ℕ
  number s = owners.borrowed s.owners

  -- each index that has an owner has a value
  abbrev pub IsFilled : Contents V → Type 0
  IsFilled s =
      (index : ℕ) → slice_index_or s.values index None ≡ None
      → slice_index_or s.owners.owners index None ≡ None

  -- the contents after a call on the length, which raises the generation
  abbrev pub counted : Contents V → Contents V
  counted s = record s { owners = owners.raised s.owners }

  -- the number of an index once this value has come, or what stood there has gone
  abbrev pub count_with : Option V → ℕ → ℕ
  count_with None count = count_without count
  count_with (Some value) count = one_more (count_without count)

  -- the contents after a change, with these owners, and this value or none at the index
  abbrev pub changed : Contents V → Owners → ℕ → Option V → Contents V
  changed s set index value =
      record {
        container = s.container;
        owners = set;
        values = slice_set s.values index value;
        counts = slice_set s.counts index (count_with value (slice_index s.counts index));
        changes = one_more s.changes;
      }

  -- ---- add

  -- the handle that an add answers where it has acquired an index, or else its failure
  abbrev pub handle_at : Contents V → ℕ → Result ℕ UniqueIndexSetAcquireFailure
      → Result ContainerHandle ContainerAddFailure
  handle_at s owner (Ok index) =
      Ok (record { index = index; owner = owner; container = s.container })
  handle_at s owner (Err failure) = Err (add_failure failure)

  -- what an add answers: a handle of the lowest index without an owner, or why there is none
  abbrev pub added : Contents V → ℕ → Result ContainerHandle ContainerAddFailure
  added s owner = handle_at s owner (owners.acquired s.owners)

  -- the contents after an add: the value stands at the index that was acquired, and where none was, nothing changes
  abbrev pub put_at : Contents V → ℕ → V → Result ℕ UniqueIndexSetAcquireFailure → Contents V
  put_at s owner value (Ok index) =
      changed s (owners.granted s.owners owner (Ok index)) index (Some value)
  put_at s owner value (Err failure) = s

  -- the contents after an add for this owner
  abbrev pub after_add : Contents V → ℕ → V → Contents V
  after_add s owner value = put_at s owner value (owners.acquired s.owners)

  -- ---- remove and replace

  -- it is a handle of this container, and its index is that of its owner
  abbrev pub names : Contents V → ContainerHandle → Bool
  names s handle =
      (handle.container == s.container) && owners.has s.owners handle.index handle.owner

  -- what a remove answers: the state that the set is left in, or that the handle names nothing in this container
  abbrev pub removed : Contents V → ContainerHandle → ReleaseMode
      → Result ReleaseState ContainerRemoveError
  removed s handle mode =
      if names s handle
      then Ok (owners.release_state mode (owners.given_back mode s.owners handle.index))
      else Err ContainerHandleNotOwnedByContainer

  -- the contents after a remove, which changes nothing where the handle names nothing in this container
  abbrev pub after_remove : Contents V → ContainerHandle → ReleaseMode → Contents V
  after_remove s handle mode =
      if names s handle
      then changed s (owners.given_back mode s.owners handle.index) handle.index None
      else s

  -- what a replace answers: whether the handle names a value here
  abbrev pub replaced : Contents V → ContainerHandle → Result (Unit {0}) ContainerRemoveError
  replaced s handle =
      if names s handle then Ok tt else Err ContainerHandleNotOwnedByContainer

  -- the contents after a replace, which changes nothing where the handle names nothing here
  abbrev pub after_replace : Contents V → ContainerHandle → V → Contents V
  after_replace s handle value =
      if names s handle then changed s s.owners handle.index (Some value) else s

-- ---- the words

module _ {V : Type 0} (value_of : List ℕ → V) (size capacity : ℕ) where
  -- a value stands under an odd number
  abbrev pub value_at : List ℕ → ℕ → Option V
  value_at words index =
      if is_even (slice_index words (count_word capacity index))
      then None
      else Some (value_of (words_from words (element_word capacity size index 0) size))

  -- the value at each index by these words
  abbrev pub values_in : List ℕ → List (Option V)
  values_in words = map (value_at words) (range_with_len 0 capacity)

  -- the number of each index by these words
  abbrev pub counts_in : List ℕ → List ℕ
  counts_in words = map (λ i. slice_index words (count_word capacity i)) (range_with_len 0 capacity)

  -- the words of a robust set, then the changes, the numbers and the values
  abbrev pub contents_in : ℕ → List ℕ → Contents V
  contents_in container words =
      record {
        container = container;
        owners = owners_in (take (1 + capacity) words);
        values = values_in words;
        counts = counts_in words;
        changes = slice_index words (change_word capacity);
      }

-- the words are those of a container of this capacity, whose values have `size` words
pub record Represents (size capacity : ℕ) (words : List ℕ) : Type 0 where
  pub long : length words ≡ total_words capacity size
  pub some : 1 ≤ capacity
  pub few : capacity < 2 ^ 32
  pub small : slice_index words 0 < 2 ^ 64

-- the words of a container, where each index that has an owner has a value
abbrev pub Holds : {V : Type 0} → (List ℕ → V) → ℕ → ℕ → ℕ → List ℕ → Type 0
Holds value_of size capacity container words =
    Represents size capacity words × IsFilled (contents_in value_of size capacity container words)
