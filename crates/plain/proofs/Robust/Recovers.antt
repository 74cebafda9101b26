-- A recovery of a robust set that runs alone: from one question to the next, or to its end.
use Rattle.std.proofs.Common.{◌≡◌, ◌≢◌, ℕ, suc, ◌+◌, ◌^◌, ◌<◌, ◌≤◌, nat_lt, List, [], ◌∷◌, length, drop, map}
use Rattle.std.proofs.Common.{refl, sym, ap, ◌∙◌, arith, slice_index, slice_set, length-set, eq-eqb}
use Rattle.plain.proofs.Names.{nat_tests, drop-set-lt, by_test, by_eq, Question, Want, After, Done, ReleaseMode}
use Rattle.plain.proofs.Names.{LockIfLastIndex, Default, ReleaseState, Unlocked}
use Rattle.steps.specs.Indices.Robust.Parts.{cell_word, empty, locked, raise_want, raise_after, lock_want, lock_after, first_lock}
use Rattle.steps.specs.Indices.Robust.Recover.{at_recover, first_recover, recover_comes_to, recover_raised, recover_locked, recover_want, recover_after}
use Rattle.steps.specs.declared.ask.Question.TheVariants as questions
use Rattle.steps.specs.declared.indices.robust.parts.Raise.TheVariants as raises
use Rattle.steps.specs.declared.indices.robust.recover.Recover.{Recover}
use Rattle.steps.specs.declared.indices.robust.recover.RecoverStage.{RecoverStage}
use Rattle.steps.specs.declared.indices.robust.recover.RecoverStage.TheVariants as recovers
use Rattle.steps.specs.Objects.Owners.{Owned, taken_from, next_generation}
use Rattle.plain_queues.specs.declared.drive.Stop.{Stop}
use Rattle.plain_queues.specs.declared.drive.Stop.TheVariants.{Asked, Ended}
use Rattle.plain.specs.Robust.{owner_in}
use Rattle.plain.proofs.Walks.{plus, Walks, WalksOn, goes_longer, part_walks, any_low}
use Rattle.plain.proofs.Robust.Parts.{here, past, next_cell, next_set, next_small, owner_free, owner_some, raise_walks, lock_walks, locking, state_number}
use Rattle.plain.proofs.Robust.Releases.{counter_then}

-- the recovery has stopped at a question about the first index that is left, and the words are g and cells
pub record AsksAt (capacity g : ℕ) (cells : List ℕ) (left : List Owned) (question : Question (Unit {0})) (call : Recover) (last : List ℕ) : Type 0 where
  -- the index that is asked about, its owner and the cells behind it, and what is left
  pub index : ℕ
  pub owner : ℕ
  pub rest : List ℕ
  pub left_is : left ≡ record { owner = owner; index = index } ∷ taken_from (index + 1) (map owner_in rest)
  pub rest_is : drop (index + 1) cells ≡ rest
  pub word_is : slice_index (g ∷ cells) (cell_word index) ≡ owner
  pub near : index < capacity
  -- the question, the stage of the call, and the words, which are g and the cells
  pub asks : question ≡ questions.Owned owner index
  pub stands : call ≡ at_recover (first_recover capacity) (recovers.Asks index owner)
  pub same : last ≡ g ∷ cells

-- the recovery has ended with the state of the counter and nothing is left, or asks about the first index
-- that is left
abbrev pub StopsAt : ℕ → ℕ → List ℕ → List Owned → Stop Recover ReleaseState → List ℕ → Type 0
StopsAt capacity g cells left (Ended state) last = (left ≡ []) × (state ≡ state_number g) × (last ≡ g ∷ cells)
StopsAt capacity g cells left (Asked question call) last = AsksAt capacity g cells left question call last

module _ (capacity : ℕ) (mode : ReleaseMode) where
  -- what the recovery asks for next
  abbrev want : Recover → Want (Unit {0})
  want c = recover_want c

  -- what an old value makes of the recovery, in this mode
  abbrev after : Recover → ℕ → After Recover ReleaseState
  after c old = recover_after c mode old

  -- a recovery that has taken no step
  abbrev first : Recover
  first = first_recover capacity

  -- From this index on, with these cells left, the recovery stops at the next index that has an owner, or at
  -- its end. The cases are whether a cell is left, and whether it is empty.
  pub recovers_on : (g : ℕ) (cells : List ℕ) → length cells ≡ capacity → (rest : List ℕ) (index : ℕ) {left : List Owned}
      → drop index cells ≡ rest → left ≡ taken_from index (map owner_in rest)
      → WalksOn want after (suc (suc (length rest))) (StopsAt capacity g cells left) (recover_comes_to first index) (g ∷ cells)
  recovers_on g cells long [] index {left} dropped all = grind (arith, past, by_test, at_recover, nat_lt, nat_tests)
  -- a cell is left: the recovery loads it
  recovers_on g cells long (c ∷ rest) index {left} dropped all =
      let at = here cells index c rest dropped in
      let near = at.near in
      let word = next_cell g index cells ∙ at.word_is in
      by_test
      (λ stage. Walks want after (suc (suc (suc (length rest)))) (StopsAt capacity g cells left) (at_recover first stage) (g ∷ cells))
      (nat_lt index capacity) _ _
      (λ _. by_eq (λ a. WalksOn want after (suc (suc (length rest))) (StopsAt capacity g cells left) a (g ∷ cells))
      (slice_index (g ∷ cells) (cell_word index)) empty _ _
      -- the cell is empty: the recovery goes on to the next one
      (λ e. recovers_on g cells long rest (index + 1) at.rest_is
      (all ∙ ap (λ o. taken_from index (o ∷ map owner_in rest)) (owner_free c (sym word ∙ e))))
      -- the cell has an owner: the recovery asks about it
      (λ n. record {
        index = index;
        owner = slice_index (g ∷ cells) (cell_word index);
        rest = rest;
        left_is = all ∙ (ap (λ o. taken_from index (o ∷ map owner_in rest)) (owner_some c (λ e. n (word ∙ e)))
            ∙ ap (λ w. record { owner = w; index = index } ∷ taken_from (index + 1) (map owner_in rest)) (sym word));
        rest_is = at.rest_is;
        word_is = refl;
        near = omega arith;
        asks = refl;
        stands = refl;
        same = refl;
      }))
      (λ t. let far : capacity ≤ index = grind (arith, nat_tests) in absurd (omega arith))

-- ---- an index is given back

-- The words are a counter of 64 bits that is not locked, and as many cells as the capacity; `rest` are the cells behind the index.
module _ {capacity g : ℕ} (cells : List ℕ) (small : g < 2 ^ 64) (long : length cells ≡ capacity) (few : capacity < 2 ^ 32) (opens : g ≢ locked)
    (index : ℕ) {rest : List ℕ} (rest_is : drop (index + 1) cells ≡ rest) where
  -- the cells with this one emptied
  abbrev pub emptied : List ℕ
  emptied = slice_set cells index empty

  -- the indices that are left after this one, with their owners
  abbrev pub left_then : List Owned
  left_then = taken_from (index + 1) (map owner_in rest)

  -- the cells with this one emptied are as many as before
  emptied_long : length emptied ≡ capacity
  emptied_long = length-set cells index empty ∙ long

  -- the recovery, run alone from these words, stops within n steps at the first index that is left after this
  -- one, or at its end, over this counter
  abbrev RecoveryStops : ReleaseMode → ℕ → ℕ → Recover → List ℕ → Type 0
  RecoveryStops mode n counter call words =
      Walks (λ c. recover_want c) (λ c old. recover_after c mode old) n (StopsAt capacity counter emptied left_then) call words

  -- the recovery at this stage
  abbrev at : RecoverStage → Recover
  at stage = at_recover (first_recover capacity) stage

  -- the greatest number of steps over the cells that are left
  abbrev scan : ℕ
  scan = suc (suc (length rest))

  -- the greatest number of steps of a lock and of the cells that are left
  abbrev pub rounds : ℕ
  rounds = plus (plus (suc (suc (suc (length emptied)))) 1) scan

  -- with the cell emptied the recovery goes on from the next index
  then_on : (mode : ReleaseMode) (n : ℕ)
      → WalksOn (λ c. recover_want c) (λ c old. recover_after c mode old) scan (StopsAt capacity n emptied left_then)
      (recover_comes_to (first_recover capacity) (index + 1)) (n ∷ emptied)
  then_on = grind (arith, recovers_on, emptied_long, drop-set-lt, empty)

  -- in the mode that locks the recovery locks the set, or finds that it cannot, and goes on
  -- to where it stops next
  locks_on : (counter : ℕ) → counter < 2 ^ 64
      → RecoveryStops LockIfLastIndex rounds (locking counter emptied) (at (recovers.Locks index first_lock)) (counter ∷ emptied)
  locks_on counter low =
      part_walks
      (record {
        want = λ c. recover_want c;
        after = λ c old. recover_after c LockIfLastIndex old;
        part_want = lock_want;
        part_after = lock_after capacity;
        within = λ l. at (recovers.Locks index l);
        lift = recover_locked (first_recover capacity) index;
        Low = λ d. Unit {0};
        low_on = λ d old low. any_low ((lock_after capacity) d old);
        wants_so = λ d. refl;
        goes_so = λ d old low. refl;
        lifts = λ d. refl;
      })
      (plus (suc (suc (suc (length emptied)))) 1) scan (StopsAt capacity (locking counter emptied) emptied left_then) first_lock (counter ∷ emptied) tt
      (lock_walks capacity counter emptied low emptied_long few _ (then_on LockIfLastIndex (locking counter emptied)))

  -- once the counter is raised, the recovery goes on to where it stops next, in the mode that locks after it has tried to lock
  on_raised : (mode : ReleaseMode) → WalksOn (λ c. recover_want c) (λ c old. recover_after c mode old) rounds
      (StopsAt capacity (counter_then mode g emptied) emptied left_then) (recover_raised (first_recover capacity) index mode (Done Unlocked))
      (next_generation g ∷ emptied)
  on_raised Default =
      goes_longer (λ c. recover_want c) (λ c old. recover_after c Default old) (plus (suc (suc (suc (length emptied)))) 1) scan
      (StopsAt capacity (next_generation g) emptied left_then) (recover_comes_to (first_recover capacity) (index + 1)) (next_generation g ∷ emptied)
      (then_on Default (next_generation g))
  on_raised LockIfLastIndex = locks_on (next_generation g) (next_small g small)

  -- in either mode the recovery raises the counter, in the mode that locks also tries to lock, and goes on to where it stops next
  raises_on : (mode : ReleaseMode)
      → RecoveryStops mode (suc (suc rounds)) (counter_then mode g emptied) (at (recovers.Raises index raises.LoadsCounter)) (g ∷ emptied)
  raises_on mode =
      part_walks
      (record {
        want = λ c. recover_want c;
        after = λ c old. recover_after c mode old;
        part_want = raise_want;
        part_after = raise_after;
        within = λ r. at (recovers.Raises index r);
        lift = recover_raised (first_recover capacity) index mode;
        Low = λ d. Unit {0};
        low_on = λ d old low. any_low (raise_after d old);
        wants_so = λ d. refl;
        goes_so = λ d old low. refl;
        lifts = λ d. refl;
      })
      2 rounds (StopsAt capacity (counter_then mode g emptied) emptied left_then) raises.LoadsCounter (g ∷ emptied) tt
      (raise_walks g emptied small _ (λ e. absurd (opens e)) (λ _. on_raised mode))

  -- after a yes the recovery empties the cell, raises the counter and goes on to where it stops next
  pub frees_on : (mode : ReleaseMode) {owner : ℕ} → slice_index (g ∷ cells) (cell_word index) ≡ owner
      → RecoveryStops mode (suc (suc (suc rounds))) (counter_then mode g emptied) (at (recovers.EmptiesCell index owner)) (g ∷ cells)
  frees_on = grind (arith, by_eq, suc, empty, eq-eqb, next_set, raises_on)
