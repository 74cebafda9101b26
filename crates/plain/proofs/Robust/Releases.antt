-- A release of a robust set that runs alone, in either mode: within how many steps it ends, and that it gives
-- the index back where it is the owner's.
use Rattle.std.proofs.Common.{◌≡◌, ℕ, suc, ◌+◌, ◌^◌, ◌<◌, ◌≤◌, Bool, true, false, ◌==◌, List, [], ◌∷◌}
use Rattle.std.proofs.Common.{length, map, Option, Ok, Err, refl, sym, ap, subst, ◌∙◌, arith, slice_index}
use Rattle.std.proofs.Common.{slice_set, length-set, eq-eqb, ne_eqb, if◌then◌else◌}
use Rattle.plain.proofs.Names.{map-set, get_or-map, by_eq, After, GoOn, Done, ReleaseMode, LockIfLastIndex, Default, GiveBack}
use Rattle.plain.proofs.Names.{ReleaseState, Locked, Unlocked}
use Rattle.steps.specs.Indices.Robust.Parts.{cell_word, empty, locked, greatest, raise_want, raise_after, lock_want, lock_after, first_lock}
use Rattle.steps.specs.Indices.Robust.Release.{Released, first_release, at_release, release_raised, release_locked, release_want, release_after}
use Rattle.steps.specs.declared.indices.enums.RobustUniqueIndexSetReleaseError.TheVariants.{IndexIsNotOwnedByProvidedOwner}
use Rattle.steps.specs.declared.indices.robust.parts.Raise.TheVariants as raises
use Rattle.steps.specs.declared.indices.robust.release.Release.{Release}
use Rattle.steps.specs.declared.indices.robust.release.ReleaseStage.TheVariants as releases
use Rattle.plain_queues.specs.Alone.{BehavesAs}
use Rattle.steps.specs.Objects.Owners.{Owners, next_generation, has, owns, without, given_back, release_state, released, after_release}
use Rattle.plain.specs.Robust.{owner_in, owners_in, Represents}
use Rattle.plain_queues.proofs.Alone.{Runs}
use Rattle.plain.proofs.Walks.{plus, plus_sum, Walks, WalksOn, OnEnd, part_walks, runs, any_low}
use Rattle.plain.proofs.Robust.Parts.{number, next_cell, next_set, raise_walks, next_small, lock_walks, locking, locking_small, owner_free}

-- ---- what giving an index back makes of the counter

-- the counter once an index was given back in this mode
abbrev pub counter_then : ReleaseMode → ℕ → List ℕ → ℕ
counter_then Default g cells = next_generation g
counter_then LockIfLastIndex g cells = locking (next_generation g) cells

-- two maps that differ in the generation alone, picked by a test, are the map with the picked generation
pick_generation : (b : Bool) (os : List (Option ℕ)) (m n : ℕ)
    → ◌≡◌ {A = Owners} (if b then record { owners = os; generation = m } else record { owners = os; generation = n })
    (record { owners = os; generation = if b then m else n })
pick_generation true os m n = refl
pick_generation false os m n = refl

-- a map without an index's owner is that of the cells with its cell emptied, one generation further
without_is : (g : ℕ) (cells : List ℕ) (index : ℕ)
    → without (owners_in (g ∷ cells)) index
    ≡ owners_in (next_generation g ∷ slice_set cells index empty)
without_is = grind (arith, map, empty, owner_free, map-set)

-- a map with an index given back in this mode is that of the cells with its cell emptied and
-- the counter of that mode
pub given_back_is : (mode : ReleaseMode) (g : ℕ) (cells : List ℕ) (index : ℕ)
    → given_back mode (owners_in (g ∷ cells)) index
    ≡ owners_in (counter_then mode g (slice_set cells index empty) ∷ slice_set cells index empty)
given_back_is = grind (arith, without_is, pick_generation, number, empty, greatest, map, locked)

-- the counter once an index was given back has 64 bits
pub counter_small : (mode : ReleaseMode) (g : ℕ) (cells : List ℕ) → g < 2 ^ 64 → counter_then mode g cells < 2 ^ 64
counter_small = grind (arith, next_small, locking_small)

module _ (capacity index owner g : ℕ) (cells : List ℕ) (small : g < 2 ^ 64) (long : length cells ≡ capacity) (few : capacity < 2 ^ 32)
    (lives : owner < empty) (near : index < capacity) where
  -- what the release is given
  abbrev given : ReleaseMode → GiveBack
  given mode = record { index = index; owner = owner; mode = mode }

  -- the release, run alone from these words, ends within n steps, and P holds of its
  -- answer and the last words
  abbrev ReleaseEnds : ReleaseMode → ℕ → (Released → List ℕ → Type 0) → Release → List ℕ → Type 0
  ReleaseEnds mode n P call words = Walks (λ c. release_want c (given mode)) (λ c old. release_after c (given mode) old) n (OnEnd P) call words

  -- what a step of the release has answered ends at once or within n steps more, and P holds of the answer
  -- and the last words
  abbrev ReleaseEndsFrom : ReleaseMode → ℕ → (Released → List ℕ → Type 0) → After Release Released → List ℕ → Type 0
  ReleaseEndsFrom mode n P a words = WalksOn (λ c. release_want c (given mode)) (λ c old. release_after c (given mode) old) n (OnEnd P) a words

  -- a release that has taken no step
  abbrev first : Release
  first = first_release capacity

  -- the map before the release
  abbrev old : Owners
  old = owners_in (g ∷ cells)

  -- the cells with this one emptied
  abbrev emptied : List ℕ
  emptied = slice_set cells index empty

  -- the cells with this one emptied are as many as before
  emptied_long : length emptied ≡ capacity
  emptied_long = length-set cells index empty ∙ long

  -- the greatest number of steps of a lock over these cells
  abbrev fuel : ℕ
  fuel = plus (plus (suc (suc (suc (length emptied)))) 1) 0

  -- what the release answers where the index is the owner's
  abbrev answer : ReleaseMode → Released
  answer mode = Ok (release_state mode (owners_in (counter_then mode g emptied ∷ emptied)))

  -- Once the counter is raised, the release tries to lock the set in the mode that locks, and ends with the answer of
  -- its mode, whatever the raise has answered.
  on_raised : (mode : ReleaseMode) (P : Released → List ℕ → Type 0) → P (answer mode) (counter_then mode g emptied ∷ emptied) → (state : ReleaseState)
      → ReleaseEndsFrom mode fuel P (release_raised first mode (Done state)) (next_generation g ∷ emptied)
  on_raised Default P holds state = holds
  on_raised LockIfLastIndex P holds state =
      part_walks
      (record {
        want = λ c. release_want c (given LockIfLastIndex);
        after = λ c old. release_after c (given LockIfLastIndex) old;
        part_want = lock_want;
        part_after = lock_after capacity;
        within = λ l. at_release first (releases.Locks l);
        lift = release_locked first;
        Low = λ d. Unit {0};
        low_on = λ d old low. any_low ((lock_after capacity) d old);
        wants_so = λ d. refl;
        goes_so = λ d old low. refl;
        lifts = λ d. refl;
      })
      (plus (suc (suc (suc (length emptied)))) 1) 0 (OnEnd P) first_lock (next_generation g ∷ emptied) tt
      (lock_walks capacity (next_generation g) emptied (next_small g small) emptied_long few _ holds)

  -- once the cell is emptied, the release raises the counter, tries to lock in the mode that locks, and ends with its mode's answer
  raises_on : (mode : ReleaseMode) (P : Released → List ℕ → Type 0) → P (answer mode) (counter_then mode g emptied ∷ emptied)
      → ReleaseEnds mode (suc (suc fuel)) P (at_release first (releases.Raises raises.LoadsCounter)) (g ∷ emptied)
  raises_on mode P holds =
      part_walks
      (record {
        want = λ c. release_want c (given mode);
        after = λ c old. release_after c (given mode) old;
        part_want = raise_want;
        part_after = raise_after;
        within = λ r. at_release first (releases.Raises r);
        lift = release_raised first mode;
        Low = λ d. Unit {0};
        low_on = λ d old low. any_low (raise_after d old);
        wants_so = λ d. refl;
        goes_so = λ d old low. refl;
        lifts = λ d. refl;
      })
      2 fuel (OnEnd P) raises.LoadsCounter (g ∷ emptied) tt
      (raise_walks g emptied small _ (λ _. on_raised mode P holds Locked) (λ _. on_raised mode P holds Unlocked))

  -- ---- what it makes of the map

  -- the release has done what a release in this mode does to the map, with this answer and these last words
  abbrev pub GaveBack : ReleaseMode → Released → List ℕ → Type 0
  GaveBack mode end last =
      BehavesAs (Represents capacity) owners_in (λ s. released s index owner mode) (λ s. after_release s index owner mode) (g ∷ cells) end last

  -- a cell's owner is this one where the cell has its number
  owns_is : (w : ℕ) → owns (owner_in w) owner ≡ (w == owner)
  owns_is = grind (arith, by_eq, owns, empty, ne_eqb)

  -- the index is the owner's where its cell has the owner's number
  has_is : has old index owner ≡ (slice_index (g ∷ cells) (cell_word index) == owner)
  has_is = grind (arith, owns, get_or-map, owns_is, next_cell)

  -- A release that has taken no step does what a release does to the map. The cases are whether the
  -- index is the owner's.
  pub give_walks : (mode : ReleaseMode) → 1 ≤ capacity → ReleaseEnds mode (suc (suc (suc fuel))) (GaveBack mode) first (g ∷ cells)
  give_walks mode some =
      by_eq (λ a. ReleaseEndsFrom mode (suc (suc fuel)) (GaveBack mode) a
      (if slice_index (g ∷ cells) (cell_word index) == owner then slice_set (g ∷ cells) (cell_word index) empty else g ∷ cells))
      (slice_index (g ∷ cells) (cell_word index)) owner _ _
      -- the cell has the owner: it is emptied, and the release goes on to raise the counter
      (λ e. let hit : has old index owner ≡ true = has_is ∙ eq-eqb (slice_index (g ∷ cells) (cell_word index)) owner e in
      subst (λ ws. ReleaseEndsFrom mode (suc (suc fuel)) (GaveBack mode) (GoOn (at_release first (releases.Raises raises.LoadsCounter))) ws)
      (sym (ap (λ b. if b then slice_set (g ∷ cells) (cell_word index) empty else g ∷ cells)
      (eq-eqb (slice_index (g ∷ cells) (cell_word index)) owner e)
      ∙ next_set g index empty cells))
      (raises_on mode (GaveBack mode) (
        let same = emptied_long in record { long = omega arith; some = some; few = few; small = counter_small mode g emptied small },
        sym (ap (λ b. if b then Ok (release_state mode (given_back mode old index)) else Err IndexIsNotOwnedByProvidedOwner) hit
            ∙ ap (λ s. Ok (release_state mode s)) (given_back_is mode g cells index)),
        sym (ap (λ b. if b then given_back mode old index else old) hit ∙ given_back_is mode g cells index),
      )))
      -- the cell has another owner or none: the release fails, and the map stays
      (λ other. let miss : has old index owner ≡ false = has_is ∙ ne_eqb (slice_index (g ∷ cells) (cell_word index)) owner other in
      subst (λ ws. GaveBack mode (Err IndexIsNotOwnedByProvidedOwner) ws)
      (sym (ap (λ b. if b then slice_set (g ∷ cells) (cell_word index) empty else g ∷ cells)
      (ne_eqb (slice_index (g ∷ cells) (cell_word index)) owner other))) (
        record { long = omega arith; some = some; few = few; small = small },
        sym (ap (λ b. if b then Ok (release_state mode (given_back mode old index)) else Err IndexIsNotOwnedByProvidedOwner) miss),
        sym (ap (λ b. if b then given_back mode old index else old) miss),
      ))

  -- a release, run alone over a counter and cells, does what a release does to the map
  pub give_runs : (mode : ReleaseMode) → 1 ≤ capacity
      → Runs release_want release_after (λ c (room : Unit {0}) old. room) (given mode) (λ e room ws. GaveBack mode e ws) first tt (g ∷ cells)
  give_runs mode some =
      runs (suc (suc (suc fuel))) (GaveBack mode)
      (omega (arith, plus_sum (plus (suc (suc (suc (length emptied)))) 1) 0, plus_sum (suc (suc (suc (length emptied)))) 1, emptied_long))
      (give_walks mode some)

-- a release, run alone over any words of a robust set, does what a release does to the map
pub give_at : (capacity index owner : ℕ) (mode : ReleaseMode) (number : ℕ) → number ≡ owner → number < empty → (call : Release)
    → call ≡ first_release capacity → (words : List ℕ) → Represents capacity words → index < capacity
    → Runs release_want release_after (λ c (room : Unit {0}) old. room) (record { index = index; owner = owner; mode = mode })
    (λ e room ws. BehavesAs (Represents capacity) owners_in (λ s. released s index owner mode) (λ s. after_release s index owner mode) words e ws) call tt words
give_at capacity index owner mode number same lives call at_first [] fits near = let e : 0 ≡ 1 + capacity = fits.long in absurd (omega arith)
give_at capacity index owner mode number same lives call at_first (g ∷ cells) fits near =
    subst (λ c. Runs release_want release_after (λ c (room : Unit {0}) old. room) (record { index = index; owner = owner; mode = mode })
    (λ e room ws. BehavesAs (Represents capacity) owners_in (λ s. released s index owner mode)
    (λ s. after_release s index owner mode) (g ∷ cells) e ws)
    c tt (g ∷ cells))
    (sym at_first)
    (give_runs capacity index owner g cells fits.small
    (let e : suc (length cells) ≡ 1 + capacity = fits.long in omega arith) fits.few (omega arith) near mode
    fits.some)
