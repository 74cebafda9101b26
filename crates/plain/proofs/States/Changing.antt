-- After each call on a container of one caller, each state that followed it follows it still: the laws
-- `adds`, `removes`, `replaces`, `counts` and `recovers`.
use Rattle.plain.specs.Contents.{Contents, capacity, count_without, count_with, changed, names, put_at, after_add, after_remove, after_replace}
use Rattle.plain.specs.States.{Snapshot}
use Rattle.std.proofs.Common.{◌≡◌, ◌⊎◌, ⊎_elim, inl, inr, ℕ, ◌+◌, ◌-◌, ◌^◌, ◌%◌, ◌<◌, ◌≤◌, ◌==◌, ◌&&◌, Bool, true}
use Rattle.std.proofs.Common.{false, not, Option, Some, None, Result, Ok, Err, List, [], ◌∷◌, length, fold, get_or}
use Rattle.std.proofs.Common.{if◌then◌else◌, refl, sym, ap, subst, ◌∙◌, arith}
use Rattle.std.proofs.lemmas.Bool.{cases_eq, cases_lt}
use Rattle.std.proofs.lemmas.Bool.Decides.{nat_tests}
use Rattle.std.proofs.lemmas.List.{get_or-set_same, set_past, length-set}
use Rattle.steps.specs.Container.Layout.{is_even}
use Rattle.steps.specs.Indices.Robust.Parts.{one_more}
use Rattle.steps.specs.declared.container.handle.ContainerHandle.{ContainerHandle}
use Rattle.steps.specs.declared.indices.enums.ReleaseMode.{ReleaseMode}
use Rattle.steps.specs.declared.indices.enums.ReleaseMode.TheVariants.{LockIfLastIndex, Default}
use Rattle.std.proofs.lemmas.List.{get_or-set_other}
use Rattle.steps.specs.Objects.Owners as owners
use Rattle.steps.specs.Objects.Owners.{Owners, Owned}
use Rattle.steps.specs.declared.indices.enums.UniqueIndexSetAcquireFailure.{UniqueIndexSetAcquireFailure}
use Rattle.plain.specs.Contents.{counted}
use Rattle.plain.specs.Visited.{freed, all_freed, one_change}
use Rattle.plain.specs.Following.{MayChange, IsCounted, Follows, Keeps}

-- ---- numbers

-- a number that is not even leaves 1 when divided by 2
is_odd : (n : ℕ) → is_even n ≡ false → n % 2 ≡ 1
is_odd n odd =
    let other : n % 2 ≡ 0 → ⊥ = grind (arith, nat_tests) in
    omega arith

-- an even number leaves 0 when divided by 2
even_is : (n : ℕ) → is_even n ≡ true → n % 2 ≡ 0
even_is n tested_even = grind (arith, nat_tests)

-- a number that leaves 0 when divided by 2 is even
is_even_so : (n : ℕ) → n % 2 ≡ 0 → is_even n ≡ true
is_even_so n even = grind (arith, nat_tests)

module _ {V : Type 0} where
  -- the number of an index
  abbrev count_at : Contents V → ℕ → ℕ
  count_at s i = get_or s.counts i 0

  -- the value of an index, if there is one
  abbrev value_at : Contents V → ℕ → Option V
  value_at s i = get_or s.values i None

  -- ---- what a change leaves of an index

  -- the index has the same number and value in t as in s
  abbrev IsSame : Contents V → Contents V → ℕ → Type 0
  IsSame s t i = (count_at t i ≡ count_at s i) × (value_at t i ≡ value_at s i)

  -- the index's number is greater in t than in s, by at most 2, and no value stands there if it is even
  pub record HasMoved (s t : Contents V) (i : ℕ) : Type 0 where
    pub more : count_at s i < count_at t i
    pub few : count_at t i ≤ count_at s i + 2
    pub even : is_even (count_at t i) ≡ true → value_at t i ≡ None

  -- from s to t one change is counted, and each index is the same or has moved
  pub record Moves (s t : Contents V) : Type 0 where
    pub counts : length t.counts ≡ length s.counts
    pub values : length t.values ≡ length s.values
    pub places : capacity t ≡ capacity s
    pub changes : t.changes ≡ s.changes + 1
    pub at : (i : ℕ) → IsSame s t i ⊎ HasMoved s t i

  module _ (s t : Contents V) (is_counted : IsCounted s) (moves : Moves s t) where
    -- after such a change the numbers are still as `IsCounted` says
    counted_then : IsCounted t
    counted_then =
        record {
          counts = moves.counts ∙ (is_counted.counts ∙ sym moves.places);
          values = moves.values ∙ (is_counted.values ∙ sym moves.places);
          few = λ i.
              let more = moves.changes in
              let was = is_counted.few i in
              ⊎_elim (λ same. omega (arith, same.0)) (λ moved. omega (arith, moved.few)) (moves.at i);
          even = λ i e. ⊎_elim (λ same. same.1 ∙ is_counted.even i (subst (λ n. is_even n ≡ true) same.0 e)) (λ moved. moved.even e) (moves.at i);
        }

    -- after such a change a state that followed still follows
    follows_then : (seen : Snapshot V) → Follows s seen → Follows t seen
    follows_then seen follows =
        record {
          counted = counted_then;
          counts = follows.counts ∙ sym moves.places;
          values = follows.values ∙ sym moves.places;
          fewer = omega (arith, follows.fewer, moves.changes);
          numbers = λ i.
              let low = follows.numbers i in
              ⊎_elim (λ same. omega (arith, same.0)) (λ moved. omega (arith, moved.more)) (moves.at i);
          same = λ i e.
              let low = follows.numbers i in
              ⊎_elim (λ same. follows.same i (sym same.0 ∙ e) ∙ sym same.1) (λ moved. absurd (omega (arith, moved.more))) (moves.at i);
          all = λ e. absurd (omega (arith, follows.fewer, moves.changes));
        }

  -- a call that moves the contents keeps what states have seen
  moves_keep : (s t : Contents V) → (IsCounted s → Moves s t) → Keeps s t
  moves_keep s t moves = record { counts = λ c. counted_then s t c (moves c); follows = λ seen f. follows_then s t f.counted (moves f.counted) seen f }

  -- a call that changes nothing keeps what states have seen
  keeps_same : (s : Contents V) → Keeps s s
  keeps_same s = record { counts = λ c. c; follows = λ seen f. f }

  -- ---- a value comes or goes at an index

  module _ (s : Contents V) (counted : IsCounted s) (may : MayChange s) where
    -- each number can go up by 2 without coming to its end
    small : (i : ℕ) → count_at s i < 2 ^ 64 - 2
    small i = omega (arith, counted.few i, may)

    module _ (set_now : Owners) (places : owners.capacity set_now ≡ capacity s) (index : ℕ) (value : Option V) where
      -- the contents after the change at this index
      abbrev t : Contents V
      t = changed s set_now index value

      -- the number of the index before it
      abbrev n : ℕ
      n = count_at s index

      -- at the index, number and value stay, or the number grows by one or two, and no value stands where it is even
      here : (v : Option V) (b : Bool) → is_even n ≡ b → (count : ℕ) → count ≡ count_with v n → (w : Option V) → w ≡ v
          → ((count ≡ n) × (w ≡ value_at s index)) ⊎ ((n < count) × (count ≤ n + 2) × (is_even count ≡ true → w ≡ None))
      here v b parity count count_is w w_is_v = grind (arith, count_with, one_more, inl, small, inr, even_is, is_odd)

      -- an index below the capacity, where the change was, is the same or has moved
      within : index < capacity s → (i : ℕ) → i ≡ index → IsSame s t i ⊎ HasMoved s t i
      within index_below i i_is_index = grind (arith, inl, inr, here, get_or-set_same, count_with)

      -- a change at an index past the capacity leaves each index
      beyond : capacity s ≤ index → (i : ℕ) → IsSame s t i
      beyond past i =
          let counts = counted.counts in
          let values = counted.values in (
            ap (λ l. get_or l i 0) (set_past s.counts index (count_with value n) (omega arith)),
            ap (λ l. get_or l i None) (set_past s.values index value (omega arith)),
          )

      -- each other index is the same
      there : (i : ℕ) → (i ≡ index → ⊥) → IsSame s t i
      there i not_i_is_index = grind (arith, get_or-set_other, count_with)

      -- contents that were changed at one index have moved as `Moves` says: each other index is the same
      changed_moves : Moves s t
      changed_moves =
          let far = may in
          record {
            counts = length-set s.counts index (count_with value n);
            values = length-set s.values index value;
            places = places;
            changes = omega arith;
            at =
                λ i. ⊎_elim (λ below. ⊎_elim (within below i) (λ ne. inl (there i ne)) (cases_eq i index))
                (λ past. inl (beyond past i)) (cases_lt index (capacity s));
          }

  -- a change at one index keeps what states have seen
  changed_keeps : (s : Contents V) → MayChange s → (set_now : Owners) → owners.capacity set_now ≡ capacity s
      → (index : ℕ) (value : Option V) → Keeps s (changed s set_now index value)
  changed_keeps s may set_now places index value = moves_keep s (changed s set_now index value) (λ c. changed_moves s c may set_now places index value)

-- ---- how many owners there are

-- to give an index back leaves the number of indices; the cases are whether that locks the set
given_back_long : (mode : ReleaseMode) (s : Owners) (index : ℕ) → owners.capacity (owners.given_back mode s index) ≡ owners.capacity s
given_back_long Default s index = length-set s.owners index None
given_back_long LockIfLastIndex s index =
    go
    ((length (owners.taken (owners.without s index)) == 0) && not ((owners.raised (owners.without s index)).generation == owners.the_end))
    ∙ length-set s.owners index None
  where
    -- the cases: the release has locked the set, or it has not
    go : (b : Bool) → owners.capacity
        (if b then record (owners.without s index) { generation = owners.the_lock } else owners.raised (owners.without s index))
        ≡ owners.capacity (owners.without s index)
    go true = refl
    go false = refl

module _ {V : Type 0} where
  -- ---- each call

  -- an add keeps the numbers as they must be, and each state that follows; the cases are
  -- what the acquire answers
  pub adds : (s : Contents V) (owner : ℕ) (value : V) → MayChange s → Keeps s (after_add s owner value)
  adds s owner value may = go (owners.acquired s.owners)
    where
      -- the cases: the acquire has answered an index, or a failure
      go : (r : Result ℕ UniqueIndexSetAcquireFailure) → Keeps s (put_at s owner value r)
      go (Ok index) = changed_keeps s may (owners.granted s.owners owner (Ok index)) (length-set s.owners.owners index (Some owner)) index (Some value)
      go (Err failure) = keeps_same s

  -- a remove keeps the numbers as they must be, and each state that follows; the cases are whether the handle
  -- names a value
  pub removes : (s : Contents V) (handle : ContainerHandle) (mode : ReleaseMode) → MayChange s → Keeps s (after_remove s handle mode)
  removes s handle mode may = go (names s handle)
    where
      -- the cases: the handle names a value, or it does not
      go : (b : Bool) → Keeps s (if b then changed s (owners.given_back mode s.owners handle.index) handle.index None else s)
      go true = changed_keeps s may (owners.given_back mode s.owners handle.index) (given_back_long mode s.owners handle.index) handle.index None
      go false = keeps_same s

  -- a replace keeps the numbers as they must be, and each state that follows; the cases are whether the
  -- handle names a value
  pub replaces : (s : Contents V) (handle : ContainerHandle) (value : V) → MayChange s → Keeps s (after_replace s handle value)
  replaces s handle value may = go (names s handle)
    where
      -- the cases: the handle names a value, or it does not
      go : (b : Bool) → Keeps s (if b then changed s s.owners handle.index (Some value) else s)
      go true = changed_keeps s may s.owners refl handle.index (Some value)
      go false = keeps_same s

  -- a count changes no number and no value, so each state that follows still follows
  pub counts : (s : Contents V) → Keeps s (counted s)
  counts s = grind (arith, counted)

  -- ---- indices are freed, as one change

  -- the index is freed in t: its number is one more than in s and even, and it has no value
  pub record IsFreed (s t : Contents V) (i : ℕ) : Type 0 where
    pub next : count_at t i ≡ count_at s i + 1
    pub even : is_even (count_at t i) ≡ true
    pub none : value_at t i ≡ None

  -- from s to t no change is counted, and each index is the same or is freed
  pub record Frees (s t : Contents V) : Type 0 where
    pub counts : length t.counts ≡ length s.counts
    pub values : length t.values ≡ length s.values
    pub places : capacity t ≡ capacity s
    pub changes : t.changes ≡ s.changes
    pub at : (i : ℕ) → IsSame s t i ⊎ IsFreed s t i

  module _ (s : Contents V) (counted : IsCounted s) (may : MayChange s) (mode : ReleaseMode) where
    module _ (t : Contents V) (frees : Frees s t) (index : ℕ) where
      -- the contents with this index freed too
      abbrev u : Contents V
      u = freed mode t index

      -- at the index that is freed, number and value stay, or the number is one more and even, and no value stands
      gone : (b : Bool) → is_even (count_at t index) ≡ b → (count : ℕ) → count ≡ count_without (count_at t index) → (w : Option V) → w ≡ None
          → ((count ≡ count_at s index) × (w ≡ value_at s index)) ⊎ ((count ≡ count_at s index + 1) × (is_even count ≡ true) × (w ≡ None))
      gone true even_is count count_is w none =
          let stays : count ≡ count_at t index = count_is ∙ ap (λ b. if b then count_at t index else one_more (count_at t index)) even_is in
          ⊎_elim
          (λ same. inl (stays ∙ same.0, none ∙ sym (counted.even index (subst (λ n. is_even n ≡ true) same.0 even_is))))
          (λ went. inr (stays ∙ went.next, subst (λ n. is_even n ≡ true) (sym stays) even_is, none)) (frees.at index)
      gone false even_is count count_is w none =
          let goes : count ≡ one_more (count_at t index) = count_is ∙ ap (λ b. if b then count_at t index else one_more (count_at t index)) even_is in
          ⊎_elim
          (λ same.
          let few = counted.few index in
          let far = may in
          let n = same.0 in
          let next : one_more (count_at t index) ≡ count_at t index + 1 = omega arith in
          let was = is_odd (count_at t index) even_is in
          inr (goes ∙ (next ∙ ap (λ m. m + 1) same.0), is_even_so count (omega arith), none))
          (λ went. both_so went.even even_is) (frees.at index)
        where
          -- a number is not even and odd
          both_so : {A : Type 0} → is_even (count_at t index) ≡ true → is_even (count_at t index) ≡ false → A
          both_so yes_so no_so = let same : true ≡ false = sym yes_so ∙ no_so in absurd (cc)

      -- an index below the capacity that is freed now is the same or is freed
      freed_here : index < capacity s → (i : ℕ) → i ≡ index → IsSame s u i ⊎ IsFreed s u i
      freed_here index_below i i_is_index = grind (arith, inl, inr, gone, get_or-set_same)

      -- an index that is the same in u as in t is the same or is freed
      by_last : (i : ℕ) → IsSame t u i → IsSame s u i ⊎ IsFreed s u i
      by_last i same = grind (arith, inl, inr)

      -- freeing an index past the capacity changes nothing
      freed_beyond : capacity s ≤ index → (i : ℕ) → IsSame t u i
      freed_beyond past i =
          let a = frees.counts in
          let b = frees.values in
          let counts = counted.counts in
          let values = counted.values in (
            ap (λ l. get_or l i 0) (set_past t.counts index (count_without (count_at t index)) (omega arith)),
            ap (λ l. get_or l i None) (set_past t.values index None (omega arith)),
          )

      -- each other index is the same in u as in t
      freed_there : (i : ℕ) → (i ≡ index → ⊥) → IsSame t u i
      freed_there i not_i_is_index = grind (arith, get_or-set_other)

      -- with one index more freed each index is the same or is freed
      frees_more : Frees s u
      frees_more = grind (arith, counts, length-set, given_back_long, freed_here, by_last, freed_there, cases_eq, freed_beyond, capacity)

    -- with all of these indices freed each index is the same or is freed
    all_frees : (which : List Owned) (t : Contents V) → Frees s t → Frees s (fold (λ u (o : Owned). freed mode u o.index) t which)
    all_frees [] t frees = frees
    all_frees (o ∷ which) t frees = all_frees which (freed mode t o.index) (frees_more t frees o.index)

    -- some indices freed as one change move the contents
    recovered_moves : (which : List Owned) → Moves s (one_change (all_freed mode s which))
    recovered_moves which =
        let f = all_frees which s (record { counts = refl; values = refl; places = refl; changes = refl; at = λ i. inl (refl, refl) }) in
        let same = f.changes in
        let far = may in
        record {
          counts = f.counts;
          values = f.values;
          places = f.places;
          changes = omega arith;
          at = λ i.
              ⊎_elim (λ stays. inl stays) (λ went. let n = went.next in inr (record { more = omega arith; few = omega arith; even = λ e. went.none })) (f.at i);
        }

  -- a recovery keeps the numbers as they must be, and each state that follows
  pub recovers : (s : Contents V) (mode : ReleaseMode) (which : List Owned) → MayChange s → Keeps s (one_change (all_freed mode s which))
  recovers s mode which may = moves_keep s (one_change (all_freed mode s which)) (λ c. recovered_moves s c may mode which)
