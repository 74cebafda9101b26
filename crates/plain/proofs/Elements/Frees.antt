-- What a recovery of a container does to the words once it was told to free an index: the value is hidden,
-- the cell emptied, the counter raised and perhaps the set locked, and in the end the change counted.
use Rattle.std.proofs.Common.{◌≡◌, ◌≢◌, ℕ, zero, suc, ◌+◌, ◌^◌, ◌<◌, ◌≤◌, false, List, [], ◌∷◌, length, take, None}
use Rattle.std.proofs.Common.{refl, sym, ap, subst, ◌∙◌, arith, slice_index, slice_set, length-set, get_or-set_same}
use Rattle.std.proofs.Common.{get_or-set_other, get_or-take, if◌then◌else◌}
use Rattle.plain.proofs.Names.{take-set-le, change_word, count_word, is_even, ReleaseMode, ReleaseState, Unlocked}
use Rattle.steps.specs.Indices.Robust.Parts.{cell_word, empty, locked, one_more, raise_want, raise_after, lock_want, lock_after, first_lock}
use Rattle.steps.specs.Objects.Owners.{Owners, next_generation, given_back}
use Rattle.steps.specs.declared.indices.robust.parts.Raise.TheVariants as raises
use Rattle.plain.specs.Robust as robust
use Rattle.plain.specs.Robust.{owners_in}
use Rattle.plain.specs.Contents.{Contents, value_at, contents_in, changed, IsFilled, Represents, Holds}
use Rattle.plain.specs.Visited.{freed, one_change}
use Rattle.plain.proofs.Walks.{plus, Walks, OnEnd, any_low}
use Rattle.plain.proofs.Fronts.{Behind, stays, take_set, front_walks}
use Rattle.plain.proofs.Places.Flags.{map_same}
use Rattle.plain.proofs.Robust.Parts.{next_set, raise_walks, lock_walks, locking}
use Rattle.plain.proofs.Robust.Releases.{counter_then, counter_small, given_back_is}
use Rattle.plain.proofs.Elements.Sets.{raise_below, LockLow, lock_goes_low, lock_below}
use Rattle.plain.proofs.Elements.Filled.{filled_gone, given_owners}
use Rattle.plain.proofs.Elements.Finds.{counter, cells, front, cells_long}
use Rattle.plain.proofs.Elements.Values.{value_same, behind_contents, behind_fits, hidden, hides, gone, after_change, change_contents}

-- ---- raise and lock, where more words stand behind those of the set

module _ (capacity : ℕ) {g : ℕ} {cells : List ℕ} (ws : List ℕ) (small : g < 2 ^ 64) (front : take (1 + capacity) ws ≡ g ∷ cells) where
  -- a raise over all the words raises the set's counter as it would alone, and leaves the
  -- words behind the set's
  pub raise_over : g ≢ locked → (Q : ReleaseState → List ℕ → Type 0)
      → ((last : List ℕ) → Behind (1 + capacity) ws last → take (1 + capacity) last ≡ next_generation g ∷ cells → Q Unlocked last)
      → Walks raise_want raise_after 2 (OnEnd Q) raises.LoadsCounter ws
  raise_over = grind (arith, front_walks, raise_below, any_low, cells, stays, front, raise_walks)

  -- a lock over all the words locks the set's words as it would alone, and leaves those behind them
  pub lock_over : length cells ≡ capacity → capacity < 2 ^ 32 → (Q : ReleaseState → List ℕ → Type 0)
      → ((state : ReleaseState) (last : List ℕ) → Behind (1 + capacity) ws last → take (1 + capacity) last ≡ locking g cells ∷ cells → Q state last)
      → Walks lock_want (lock_after capacity) (plus (suc (suc (suc (length cells)))) 1) (OnEnd Q) first_lock ws
  lock_over long few Q holds =
      front_walks lock_want (lock_after capacity) (1 + capacity) (LockLow capacity) (lock_below capacity) (λ l old low. lock_goes_low capacity l old) ws
      (λ e last. last ≡ locking g cells ∷ cells) Q holds
      (plus (suc (suc (suc (length cells)))) 1) first_lock ws tt (stays (1 + capacity) ws)
      (subst (λ vs. Walks lock_want (lock_after capacity) (plus (suc (suc (suc (length cells)))) 1)
      (OnEnd (λ e last. last ≡ locking g cells ∷ cells)) first_lock vs)
      (sym front)
      (lock_walks capacity g cells small long few (λ e last. last ≡ locking g cells ∷ cells) refl))

-- two words at different places can be set in either order
set_swap : (l : List ℕ) (i j x y : ℕ) → i ≢ j → slice_set (slice_set l i x) j y ≡ slice_set (slice_set l j y) i x
set_swap [] i j x y ne = refl
set_swap (z ∷ l) zero zero x y ne = absurd (ne refl)
set_swap (z ∷ l) zero (suc j) x y ne = refl
set_swap (z ∷ l) (suc i) zero x y ne = refl
set_swap (z ∷ l) (suc i) (suc j) x y ne = ap (λ t. z ∷ t) (set_swap l i j x y (λ e. ne (ap suc e)))

-- The words are those of a container, whose number is `container`.
module _ {V : Type 0} (value_of : List ℕ → V) {size capacity : ℕ} (container : ℕ) {words : List ℕ}
    (holds : Holds value_of size capacity container words) where
  -- the words are those of a container
  fits : Represents size capacity words
  fits = holds.0

  -- the contents of the words
  abbrev s : Contents V
  s = contents_in value_of size capacity container words

  -- the counter of the set
  abbrev g : ℕ
  g = counter value_of container holds

  -- the cells of the owners
  abbrev its_cells : List ℕ
  its_cells = cells value_of container holds

  -- the first word is the counter
  pub head_is : slice_index words 0 ≡ g
  head_is = grind (arith, get_or-take, front)

  -- the generation of the contents is the counter
  pub generation_is : s.owners.generation ≡ g
  generation_is = grind (arith, front)

  -- the counter has 64 bits
  pub counter_low : g < 2 ^ 64
  counter_low = subst (λ n. n < 2 ^ 64) head_is fits.small

  -- ---- the change is counted

  -- the words with 1 added to the number of changes
  abbrev pub counted : List ℕ
  counted = slice_set words (change_word capacity) (one_more (slice_index words (change_word capacity)))

  -- their contents are those before with one change more
  counted_is : contents_in value_of size capacity container counted ≡ one_change s
  counted_is = grind (arith, one_more, take, take-set-le, map_same, value_at, value_same, get_or-set_other, get_or-set_same)

  -- these are the words of a container whose contents are those before with one change more
  pub record Counted (last : List ℕ) : Type 0 where
    pub fit : Holds value_of size capacity container last
    pub is : contents_in value_of size capacity container last ≡ one_change s

  -- to add 1 to the number of changes counts one change more
  pub counts_so : Counted counted
  counts_so = grind (arith, length-set, get_or-set_other, counted_is)

  -- ---- an index is freed

  module _ (wide : size ≤ 128) (mode : ReleaseMode) (index : ℕ) (near : index < capacity)
      (odd : is_even (slice_index words (count_word capacity index)) ≡ false) where
    -- the number of the index, which is odd
    abbrev n : ℕ
    n = slice_index words (count_word capacity index)

    -- the words with the value hidden: the number of the index is one more
    abbrev hid : List ℕ
    hid = slice_set words (count_word capacity index) (one_more n)

    -- the words with the value hidden and the cell emptied
    abbrev pub bare : List ℕ
    bare = slice_set (slice_set words (cell_word index) empty) (count_word capacity index) (one_more n)

    -- the cells with this one emptied
    abbrev pub emptied : List ℕ
    emptied = slice_set its_cells index empty

    -- the order of hiding and emptying does not matter
    bare_is : bare ≡ slice_set hid (cell_word index) empty
    bare_is = grind (arith, set_swap, empty, one_more)

    -- the cells with this one emptied are as many as before
    pub emptied_long : length emptied ≡ capacity
    emptied_long = length-set its_cells index empty ∙ cells_long value_of container holds

    -- to hide the value leaves the words of the set
    hid_front : take (1 + capacity) hid ≡ take (1 + capacity) words
    hid_front = take-set-le (1 + capacity) words (count_word capacity index) (one_more n) (omega arith)

    -- the words of the set are then its counter as it was, and the cells with this one emptied
    pub bare_front : take (1 + capacity) bare ≡ g ∷ emptied
    bare_front =
        ap (take (1 + capacity)) bare_is
        ∙ (sym (take_set (1 + capacity) (cell_word index) empty hid (omega arith))
        ∙ (ap (λ ws. slice_set ws (cell_word index) empty) (hid_front ∙ front value_of container holds)
        ∙ next_set g index empty its_cells))

    -- to empty the cell leaves the words behind the set's
    pub bare_behind : Behind (1 + capacity) hid bare
    bare_behind = grind (arith, bare_is, length-set, empty, get_or-set_other)

    -- the words with the value hidden are those of `hidden`, since the number is odd
    hid_is : hidden value_of fits index near wide ≡ hid
    hid_is = ap (λ b. if b then words else hid) odd

    -- the words with the value hidden are those of a container
    hid_fits : Represents size capacity hid
    hid_fits = grind (arith, length-set, one_more, get_or-set_other)

    -- the contents without the value of this index, and no change counted
    abbrev without_value : Contents V
    without_value = record (changed s s.owners index None) { changes = s.changes }

    -- the words with the value hidden, as a remove leaves them before it counts the change
    abbrev both : List ℕ
    both = hidden value_of fits index near wide

    -- the contents of these words are those without the value, and no change counted
    hidden_contents : contents_in value_of size capacity container both ≡ without_value
    hidden_contents =
        let there = hides value_of fits index near wide in
        -- with the change counted the contents would be those without the value
        let changed_is =
        change_contents value_of fits index near wide container there.writes
        (gone value_of fits index near wide there) in
        -- the number of changes is no part of the values and the numbers, so these are the
        -- same without the count
        let later = after_change value_of fits index near wide both in
        let c = one_more (slice_index both (change_word capacity)) in
        let values = map_same (value_at value_of size capacity both) (value_at value_of size capacity later) capacity 0
        (λ j low high. value_same value_of size capacity both later j
        (get_or-set_other both (change_word capacity) (count_word capacity j) c 0 (λ e. absurd (omega arith)))
        (λ k from below. get_or-set_other both (change_word capacity) k c 0 (λ e. absurd (omega arith)))) in
        let counts = map_same (λ j. slice_index both (count_word capacity j)) (λ j. slice_index later (count_word capacity j)) capacity 0
        (λ j low high. get_or-set_other both (change_word capacity) (count_word capacity j) c 0 (λ e. absurd (omega arith))) in
        let v = sym values ∙ ap (λ (t : Contents V). t.values) changed_is in
        let k = sym counts ∙ ap (λ (t : Contents V). t.counts) changed_is in
        let front_same = there.writes.front in
        let changes = there.writes.changes in
        λ i. record { container = container; owners = owners_in (front_same i); values = v i; counts = k i; changes = changes i }

    -- the contents of the words with the value hidden are those without the value
    hid_contents : contents_in value_of size capacity container hid ≡ without_value
    hid_contents = ap (contents_in value_of size capacity container) (sym hid_is) ∙ hidden_contents

    -- these are the words of a container whose contents are those before with this index freed
    pub record Freed (last : List ℕ) : Type 0 where
      pub fit : Holds value_of size capacity container last
      pub is : contents_in value_of size capacity container last ≡ freed mode s index

    -- where the value is hidden, the cell emptied and the counter the one of this mode, the contents are
    -- those before with this index freed
    pub frees_so : {last : List ℕ} → Behind (1 + capacity) hid last → take (1 + capacity) last ≡ counter_then mode g emptied ∷ emptied → Freed last
    frees_so {last} behind front_is =
        let set : owners_in (take (1 + capacity) last) ≡ given_back mode s.owners index =
        ap owners_in front_is
        ∙ (sym (given_back_is mode g its_cells index)
        ∙ ap (λ ws. given_back mode (owners_in ws) index) (sym (front value_of container holds))) in
        let is : contents_in value_of size capacity container last ≡ freed mode s index =
        behind_contents value_of size capacity container hid last behind
        ∙ (ap (λ (o : Owners). record (contents_in value_of size capacity container hid) { owners = o }) set
        ∙ ap (λ (t : Contents V). record t { owners = given_back mode s.owners index }) hid_contents) in
        let long = emptied_long in
        record {
          fit = (
            behind_fits value_of size capacity hid last behind hid_fits
                (subst (robust.Represents capacity) (sym front_is)
                (record {
                  long = (let e : suc (length emptied) ≡ 1 + capacity = omega arith in e);
                  some = fits.some;
                  few = fits.few;
                  small = counter_small mode g emptied counter_low;
                })),
            subst IsFilled (sym is) (filled_gone s (freed mode s index) index refl (given_owners mode s.owners index) holds.1),
          );
          is = is;
        }
