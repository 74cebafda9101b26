-- The calls of the unique index set, run whole, are those of a stack of free indices.
use Rattle.std.proofs.Common.{◌≡◌, ℕ, zero, suc, ◌+◌, ◌-◌, ◌/◌, ◌^◌, ◌<◌, ◌≤◌, Bool, true, false, not, Option, Some, None, is_some, List, [], ◌∷◌, ◌++◌, length}
use Rattle.std.proofs.Common.{get_or, nat_le, replicate, slice_index, slice_index_or, refl, sym, ap, subst, ◌∙◌, arith, length-append}
use Rattle.std.proofs.lemmas.List.{length-replicate}
use Rattle.std.proofs.lemmas.List.FromFn.{length-range_with_len}
use Rattle.std.specs.List.{range_with_len}
use Rattle.steps.specs.Indices.Unique.{first_acquire, acquire_want, acquire_after, first_release, release_want, release_after, borrowed_after, locked_after}
use Rattle.steps.specs.Objects.Stacks.{Stack, IsOut, is_free}
use Rattle.steps.specs.Queues.Ring.{load}
use Rattle.steps.specs.declared.indices.enums.ReleaseMode.{ReleaseMode}
use Rattle.steps.specs.declared.indices.enums.ReleaseMode.TheVariants.{Default, LockIfLastIndex}
use Rattle.steps.specs.declared.indices.looks.BorrowedIndices.{BorrowedIndices}
use Rattle.steps.specs.declared.indices.looks.IsLocked.{IsLocked}
use Rattle.steps.specs.declared.indices.unique.Acquire.{Acquire}
use Rattle.steps.specs.declared.indices.unique.DefaultMode.{DefaultMode}
use Rattle.steps.specs.declared.indices.unique.LockMode.{LockMode}
use Rattle.model.specs.declared.event.Answer.TheVariants as answers
use Rattle.model.specs.declared.event.Start.{Start}
use Rattle.model.specs.declared.event.Start.TheVariants as starts
use Rattle.model.specs.declared.families.Flight.{Flight}
use Rattle.model.specs.declared.families.Flight.TheVariants as flights
use Rattle.model.specs.declared.families.Registry.{Registry}
use Rattle.model.specs.declared.families.Registry.TheVariants as registries
use Rattle.model.specs.declared.families.indices.IndexStart.{IndexStart}
use Rattle.model.specs.declared.families.indices.IndexStart.TheVariants as calls
use Rattle.model.specs.declared.families.indices.calls.IndexFlight.TheVariants as under_way
use Rattle.model.specs.declared.turn.Kind.TheVariants as kinds
use Rattle.model.specs.declared.turn.Refusal.TheVariants.{NotHeld, BadIndex}
use Rattle.model.specs.declared.turn.Turn.TheVariants.{Begin}
use Rattle.model.specs.Coding.{Coding}
use Rattle.model.specs.Families.{first_of}
use Rattle.model.specs.Families.Indices.Calls.{first, acquire_answer}
use Rattle.model.specs.Families.Indices.Opening.{opening_words, flag_words, kept_rows}
use Rattle.model.specs.Families.Indices.Promises.{IsIndexSet, KeepsHolders}
use Rattle.model.specs.Families.Queues.Opening.{holds}
use Rattle.model.specs.Promises.Families.{promise_of}
use Rattle.model.specs.Refusals.{refusal_of}
use Rattle.model.specs.Rows.{first_row}
use Rattle.model.specs.Turns.{IsReached}
use Rattle.model.specs.World.{Trace, capacity_error}
use Rattle.model.proofs.Frame.{is_true}
use Rattle.model.proofs.Orders.{reached_kept}
use Rattle.model.proofs.Rows.{passes, may_begin, row_passed}
use Rattle.machine.proofs.Laws.{laws_of}
use Rattle.plain.specs.Unique.{stack_in, claimed, Represents}
use Rattle.plain.proofs.Stacks.Acquires.{take_runs}
use Rattle.plain.proofs.Stacks.Looks.{count_runs, look_runs}
use Rattle.plain.proofs.Stacks.Opened.{Linked, all_free}
use Rattle.plain.proofs.Stacks.Releases.{give_runs, lock_runs}
use Rattle.headline_whole.specs.Objects.{whole_stack}
use Rattle.headline_whole.proofs.Agree.{Agree}
use Rattle.headline_whole.proofs.Flights.{FlightRuns, same_flight, family_runs}
use Rattle.headline_whole.proofs.Law.{IsMadeSo, Reading, Answers, BeginsSo, Law}
use Rattle.headline_whole.proofs.Owners.{not_past}

-- ---- the opening

-- A list of zeros has a 0 at each place, and so past its end.
pub zeros_at : (n i : ℕ) → get_or (replicate {A = ℕ} n 0) i 0 ≡ 0
zeros_at zero i = refl
zeros_at (suc n) zero = refl
zeros_at (suc n) (suc i) = zeros_at n i

-- The list that counts up from a has a + i at place i.
counted_at : (a n i : ℕ) (ys : List ℕ) → i < n → get_or (range_with_len a n ++ ys) i 0 ≡ a + i
counted_at a zero i ys below = absurd (omega arith)
counted_at a (suc n) zero ys below = omega arith
counted_at a (suc n) (suc i) ys below = counted_at (a + 1) n i ys (omega arith) ∙ omega arith

-- Behind the numbers that count up the words are 0.
behind_at : (a n j k : ℕ) → n ≤ j → get_or (range_with_len a n ++ replicate {A = ℕ} k 0) j 0 ≡ 0
behind_at a zero j k past = zeros_at k j
behind_at a (suc n) zero k past = absurd (omega arith)
behind_at a (suc n) (suc j) k past = behind_at (a + 1) n j k (omega arith)

-- A unique index set of capacity c has 1 + c + (c + 63) / 64 words.
opening_long : (c : ℕ) → length (opening_words c) ≡ 1 + c + (c + 63) / 64
opening_long = grind (arith, length-append, length-range_with_len, length-replicate)

-- At the opening the word of index i names index i + 1.
after_index : (c i : ℕ) → i < c → slice_index (opening_words c) (1 + i) ≡ i + 1
after_index c i below =
    let place : 1 + i ≡ suc i = omega arith in
    ap (slice_index (opening_words c)) place ∙ (counted_at 1 c i (replicate (flag_words c) 0) below ∙ omega arith)

-- Behind the words of the indices all words are 0 at the opening.
past_indices : (c j : ℕ) → c < j → slice_index (opening_words c) j ≡ 0
past_indices c zero below = absurd (omega arith)
past_indices c (suc j) below = behind_at 1 c j (flag_words c) (omega arith)

-- A unique index set opens with a capacity from 1 to 2 ^ 24 - 2.
pub admitted : (c : ℕ) → capacity_error kinds.Indices c ≡ None → (1 ≤ c) × (c ≤ 2 ^ 24 - 2)
admitted = grind arith

-- At the opening the head is index 0, each index is followed by the next one, and no flag stands.
linked : (c : ℕ) → Linked c c (opening_words c)
linked c = record { long = opening_long c; head = refl; next = after_index c; flags = past_indices c }

-- An index that the party holds has a holder.
some_held : (o : Option ℕ) (p : ℕ) → holds o p ≡ true → is_some o ≡ true
some_held None p it_holds = absurd (cc)
some_held (Some q) p it_holds = refl

not_free : (b : Bool) → true ≡ not b → b ≡ false
not_free true e = absurd (cc)
not_free false e = refl

module _ {T : Type 0} where
  -- a unique index set as an object: the stack of its free indices, which its words represent
  abbrev pub reading : ℕ → Reading T
  reading capacity =
      record {
        State = Stack;
        spec = whole_stack capacity;
        Holds = λ turns words. Represents capacity words;
        read = stack_in capacity;
      }

  -- ---- the holder of an index alone releases it, and his index is out

  -- the rows of a release
  record MayRelease (capacity : ℕ) (kept : Registry T) (p index : ℕ) : Type 0 where
    pub holders : List (Option ℕ)
    pub is : kept ≡ registries.Indices holders
    pub below : index < capacity
    pub mine : is_some (slice_index_or holders index None) ≡ true

  -- the rows of a release say that the index is below the capacity, and has a holder
  may_release : (capacity : ℕ) (kept : Registry T) (p index : ℕ) (mode : ReleaseMode)
      → first_row (kept_rows capacity (calls.Release index mode) kept p) ≡ None → MayRelease capacity kept p index
  may_release capacity (registries.Indices holders) p index mode rows_passed =
      let held : Bool = not (holds (slice_index_or holders index None) p) in
      let low : (nat_le capacity index ≡ false) × (first_row ((held, NotHeld) ∷ []) ≡ None) =
      row_passed (nat_le capacity index) BadIndex (first_row ((held, NotHeld) ∷ [])) rows_passed in
      let own : (not (holds (slice_index_or holders index None) p) ≡ false) × (first_row [] ≡ None) =
      row_passed (not (holds (slice_index_or holders index None) p)) NotHeld None low.1 in
      record {
        holders = holders;
        is = refl;
        below = not_past capacity index low.0;
        mine = some_held (slice_index_or holders index None) p (is_true (holds (slice_index_or holders index None) p) own.0);
      }
  may_release capacity kept p index mode rows_passed = absurd (cc)

  -- an index whose release is not refused is out
  is_out : (t : Trace T) (p index : ℕ) (mode : ReleaseMode) → IsReached t → t.world.kind ≡ kinds.Indices
      → refusal_of t.world (Begin p (starts.Indices (calls.Release index mode))) ≡ None → Represents t.world.capacity t.world.words
      → IsOut (stack_in t.world.capacity t.world.words) index
  is_out t p index mode reached of_kind free fits =
      let rows =
      (may_begin t.world p (starts.Indices (calls.Release index mode))
      (passes t.world (Begin p (starts.Indices (calls.Release index mode))) free).on).rows in
      let may = may_release t.world.capacity t.world.kept p index mode rows in
      let set : IsIndexSet t = subst (λ k. (promise_of {T = T} k).holds t) of_kind (reached_kept laws_of t reached).promised in
      let kept : KeepsHolders (registries.Indices may.holders) t.events = subst (λ k. KeepsHolders k t.events) may.is set.holders in
      let held : claimed t.world.capacity t.world.words index ≡ true =
      set.flags index may.below ∙ (ap is_some (sym (kept index)) ∙ may.mine) in
      (may.below, not_free (is_free (stack_in t.world.capacity t.world.words) index) (sym held ∙ fits.flags index may.below))

  -- ---- each call

  module _ (code : Coding T) (capacity turns : ℕ) (words : List ℕ) (fits : Represents capacity words) where
    -- The call of the unique index set, run alone from these words, answers and leaves what the stack does.
    abbrev RunsAsStack : IndexStart → Type 0
    RunsAsStack start = FlightRuns code (Answers (reading capacity) turns words (starts.Indices start)) (flights.Indices (first capacity start)) words

    -- an acquire, run alone, answers and leaves what the stack does
    acquires : RunsAsStack calls.Acquire
    acquires =
        family_runs code
        (record {
          want = λ (c : Acquire) (given : Unit {0}). acquire_want c;
          after = λ c given old. acquire_after c old;
          given = tt;
          outer = flights.Indices;
          wrap = under_way.Acquire;
          answer = acquire_answer;
          wants = λ c room. refl;
          goes = λ c room old. refl;
        })
        (take_runs capacity (first_acquire capacity) refl words fits)
        (λ e room last h. record { said = λ is. ap acquire_answer h.1; holds = h.0; object = h.2 })

    -- a release that never locks, run alone, answers and leaves what the stack does
    releases : (index : ℕ) → IsOut (stack_in capacity words) index → RunsAsStack (calls.Release index Default)
    releases index out =
        family_runs code
        (record {
          want = release_want {M = DefaultMode} false;
          after = λ c given old. release_after false c old;
          given = index;
          outer = flights.Indices;
          wrap = under_way.ReleaseDefault;
          answer = answers.State;
          wants = λ c room. refl;
          goes = λ c room old. refl;
        })
        (give_runs DefaultMode capacity index words fits out (first_release capacity) refl)
        (λ e room last h. record { said = λ is. ap answers.State h.1; holds = h.0; object = h.2 })

    -- a release that may lock, run alone, answers and leaves what the stack does
    locks : (index : ℕ) → IsOut (stack_in capacity words) index → RunsAsStack (calls.Release index LockIfLastIndex)
    locks index out =
        family_runs code
        (record {
          want = release_want {M = LockMode} true;
          after = λ c given old. release_after true c old;
          given = index;
          outer = flights.Indices;
          wrap = under_way.ReleaseLock;
          answer = answers.State;
          wants = λ c room. refl;
          goes = λ c room old. refl;
        })
        (lock_runs LockMode capacity index words fits out (first_release capacity) refl)
        (λ e room last h. record { said = λ is. ap answers.State h.1; holds = h.0; object = h.2 })

    -- a count of the indices that are out, run alone, answers and leaves what the stack does
    counts : RunsAsStack calls.BorrowedIndices
    counts =
        family_runs code
        (record {
          want = λ (c : BorrowedIndices) (given : Unit {0}). load 0;
          after = λ c given old. borrowed_after c old;
          given = tt;
          outer = flights.Indices;
          wrap = under_way.BorrowedIndices;
          answer = answers.Number;
          wants = λ c room. refl;
          goes = λ c room old. refl;
        })
        (count_runs capacity words (record {}) fits)
        (λ e room last h. record { said = λ is. ap answers.Number h.1; holds = h.0; object = h.2 })

    -- a look whether the set is locked, run alone, answers and leaves what the stack does
    looks : RunsAsStack calls.IsLocked
    looks =
        family_runs code
        (record {
          want = λ (c : IsLocked) (given : Unit {0}). load 0;
          after = λ c given old. locked_after c old;
          given = tt;
          outer = flights.Indices;
          wrap = under_way.IsLocked;
          answer = answers.Truth;
          wants = λ c room. refl;
          goes = λ c room old. refl;
        })
        (look_runs capacity words (record {}) fits)
        (λ e room last h. record { said = λ is. ap answers.Truth h.1; holds = h.0; object = h.2 })

  -- ---- the law

  -- A call of the unique index set that is let begin is named as one of its family, and the
  -- machine keeps who holds what.
  has_registry : (capacity p : ℕ) (start : IndexStart) (kept : Registry T) → first_row (kept_rows capacity start kept p) ≡ None
      → Agree (starts.Indices start) (flights.Indices (first capacity start)) kept
  has_registry capacity p start (registries.Indices holders) rows_passed = tt
  has_registry capacity p start kept rows_passed = absurd (cc)

  module _ (code : Coding T) (capacity : ℕ) where
    -- each call that the set lets begin, run alone, answers and leaves what the stack does
    begins : (t : Trace T) (p : ℕ) (start : Start T) (flight : Flight T) → IsReached t → IsMadeSo code kinds.Indices capacity t
        → refusal_of t.world (Begin p start) ≡ None → Represents capacity t.world.words
        → first_of kinds.Indices capacity start t.world.kept ≡ Some flight → BeginsSo (reading capacity) code t p start flight
    begins t p (starts.Indices start) flight reached made free fits named =
        let rows = (may_begin t.world p (starts.Indices start) (passes t.world (Begin p (starts.Indices start)) free).on).rows in
        subst (BeginsSo (reading capacity) code t p (starts.Indices start)) (same_flight (flights.Indices (first capacity start)) flight named)
        (record {
          agrees = has_registry capacity p start t.world.kept (subst (λ n. first_row (kept_rows n start t.world.kept p) ≡ None) made.capacity rows);
          runs = runs start free;
        })
      where
        -- An index whose release is let begin is not on the stack of free indices.
        out : (index : ℕ) (mode : ReleaseMode) → refusal_of t.world (Begin p (starts.Indices (calls.Release index mode))) ≡ None
            → IsOut (stack_in capacity t.world.words) index
        out index mode allowed =
            subst (λ n. IsOut (stack_in n t.world.words) index) made.capacity
            (is_out t p index mode reached made.kind allowed (subst (λ n. Represents n t.world.words) (sym made.capacity) fits))

        -- it does, whichever call begins
        runs : (s : IndexStart) → refusal_of t.world (Begin p (starts.Indices s)) ≡ None → RunsAsStack code capacity t.world.turns t.world.words fits s
        runs calls.Acquire allowed = acquires code capacity t.world.turns t.world.words fits
        runs (calls.Release index Default) allowed = releases code capacity t.world.turns t.world.words fits index (out index Default allowed)
        runs (calls.Release index LockIfLastIndex) allowed =
            locks code capacity t.world.turns t.world.words fits index (out index LockIfLastIndex allowed)
        runs calls.BorrowedIndices allowed = counts code capacity t.world.turns t.world.words fits
        runs calls.IsLocked allowed = looks code capacity t.world.turns t.world.words fits
    begins t p start flight reached made free fits named = absurd (cc)

    -- a unique index set whose calls run whole is a stack of free indices
    pub law : capacity_error kinds.Indices capacity ≡ None → Law (reading capacity) code kinds.Indices capacity
    law may =
        let some = (admitted capacity may).0 in
        let few = (admitted capacity may).1 in
        let first = all_free capacity (opening_words capacity) some few (linked capacity) in
        record {
          later = λ m n words less h. h;
          opens = λ queue. (first.0, first.1);
          begins = begins;
        }
