-- The unique index set is lock-free: the measure of a call falls with each of its steps, while no other
-- party changes the head or sets a flag.
use Rattle.std.proofs.Common.{◌≡◌, ◌≢◌, ℕ, ◌+◌, ◌-◌, ◌<◌, ◌≤◌, ◌==◌, inl, inr, nat_lt, min, ⊎_elim, Bool, true, false, cond}
use Rattle.std.proofs.Common.{Option, Some, List, length, get_or, set, bit_and, bit_or, ◌^◌, refl, sym, subst, ◌∙◌, arith}
use Rattle.laws_indices.proofs.Names.{nat_tests, cases_eq, flag_word, flag, borrowed, proposed, says_locked}
use Rattle.laws_indices.proofs.Names.{LockIfLastIndex, Default, AcquireStage, ReleaseStage, Start, Indices, Flight, IndexStart, IndexFlight}
use Rattle.laws_indices.proofs.Names.{Party, Coding, party_of, Trace}
use Rattle.model.specs.declared.party.Doing.TheVariants.{Going}
use Rattle.steps.specs.Indices.Head.{next_word}
use Rattle.steps.specs.Indices.Unique.{acquire_sees, head_taken, Acquired}
use Rattle.steps.specs.Routine.{went_on}
use Rattle.steps.specs.declared.ask.After.{After}
use Rattle.steps.specs.declared.indices.unique.Acquire as acquiring
use Rattle.steps.specs.declared.indices.unique.AcquireStage.TheVariants as acquires
use Rattle.steps.specs.declared.indices.unique.ReleaseStage.TheVariants as releases
use Rattle.model.specs.declared.event.Answer.{Answer}
use Rattle.model.specs.declared.families.Flight.TheVariants as flights
use Rattle.model.specs.declared.families.indices.IndexStart.TheVariants as starts
use Rattle.model.specs.declared.families.indices.calls.IndexFlight.TheVariants as calls
use Rattle.model.specs.declared.turn.Kind.TheVariants as kinds
use Rattle.model.specs.Families.{want_of, ask_of, after_of, is_question}
use Rattle.model.specs.Families.Indices.Calls.{acquire_answer}
use Rattle.model.specs.Families.Queues.Calls.{as_it_is}
use Rattle.model.specs.LockFree.{KeepsEnding, stretch}
use Rattle.model.specs.Parties.{doing_of, flight_of}
use Rattle.model.specs.Step.{as_call}
use Rattle.model.specs.Turns.{step_in, old_of, words_after, step_count}
use Rattle.model.proofs.Family.{scene_of}
use Rattle.model.proofs.Frame.{Sound}
use Rattle.model.proofs.LockFree.Falls.{same_is, load_leaves, falls_by, FallsIn, LeavesAll, StepFalls}
use Rattle.model.proofs.LockFree.Framed.{FramedLaws, framed_keep_ending}
use Rattle.model.proofs.LockFree.Measure.{WordMeasure, of_words, FallsBy}
use Rattle.model.proofs.Scenes.{stands_there}
use Rattle.laws_indices.proofs.Core.{head_of, is_claimed, flag_within, claims_stay, claim_leaves, clear_clears, clear_leaves, head_stays, Good}
use Rattle.laws_indices.proofs.Invariant.{FlightAt, outline, family}
use Rattle.laws_indices.proofs.Knows.{acquire_at, default_at, lock_at, counts, AcquireAt, At}
use Rattle.laws_indices.proofs.Moves.{some_free}
use Rattle.laws_indices.proofs.Scans.{scan, scan_few, scan_wraps, scan_on, scan_fewer}
use Rattle.laws_indices.proofs.Sound.{orders_of, reached_on_sound}
use Rattle.laws_indices.proofs.Stages.{busy, busy_here}

module _ (c : ℕ) where
  -- ---- how many steps a call takes at most before its last one, while the head stays and no flag more stands

  -- how many flags a scan at the index `i` passes at most before it finds a free one
  abbrev scans : List ℕ → ℕ → ℕ
  scans words i = min (c - 1) (scan c words i)

  -- the steps that an acquire has left at most before its last
  abbrev acquire_left : List ℕ → AcquireStage → ℕ
  acquire_left words acquires.LoadsHead = c + 3
  acquire_left words (acquires.LoadsNext head) = cond (head_of words == head) (c + 2) (c + 4)
  acquire_left words (acquires.ExchangesHead head next) = cond (head_of words == head) (c + 1) (c + 3)
  acquire_left words (acquires.Claims i) = cond (is_claimed c words i) (scans words 0 + 1) 0
  acquire_left words (acquires.Scans i) = scans words i

-- ---- how many changes it makes at most before its last step that can add to the steps of others

-- an acquire makes one change that can add to the steps of others: it moves the head
abbrev acquire_pays : AcquireStage → ℕ
acquire_pays (acquires.Claims i) = 0
acquire_pays (acquires.Scans i) = 0
acquire_pays stage = 1

-- the steps that a release in mode Default has left at most before its last
abbrev default_left : ReleaseStage → ℕ
default_left releases.ClearsFlag = 4
default_left releases.LoadsHead = 3
default_left (releases.StoresNext head) = 2
default_left (releases.ExchangesHead head) = 1
default_left releases.Subtracts = 0

-- the steps that a release that may lock has left, by whether the head `now` is the one that it has found
abbrev lock_left : ℕ → ReleaseStage → ℕ
lock_left now releases.ClearsFlag = 3
lock_left now releases.LoadsHead = 2
lock_left now (releases.StoresNext head) = cond (now == head) 1 3
lock_left now (releases.ExchangesHead head) = cond (now == head) 0 2
lock_left now releases.Subtracts = 0

-- the steps that any call has left at most before its last
abbrev call_left : ℕ → List ℕ → IndexFlight → ℕ
call_left c words (calls.Acquire run) = acquire_left c words run.call.stage
call_left c words (calls.ReleaseDefault run) = default_left run.call.stage
call_left c words (calls.ReleaseLock run) = lock_left (head_of words) run.call.stage
call_left c words (calls.BorrowedIndices run) = 0
call_left c words (calls.IsLocked run) = 0

-- how many changes a call has to make (`pays` of the measure), by its stage
abbrev call_pays : IndexFlight → ℕ
call_pays (calls.Acquire run) = acquire_pays run.call.stage
call_pays flight = 0

module _ {T : Type 0} where
  -- how many steps a call of a machine has left
  abbrev left : ℕ → List ℕ → Flight T → ℕ
  left c words (flights.Indices flight) = call_left c words flight
  left c words flight = 0

  -- how many changes a call of a machine has to make
  abbrev pays : Flight T → ℕ
  pays (flights.Indices flight) = call_pays flight
  pays flight = 0

  -- the measure by which a set of indices is lock-free
  abbrev measure : ℕ → WordMeasure T
  measure c = record { left = left c; pays = pays; alone = c + 4; changes = 1 }

-- ---- words in which the head is the same and no flag more stands cost nobody a step

-- `c` is the capacity
module _ (c : ℕ) (old new : List ℕ) (same : head_of new ≡ head_of old) (fewer : (j : ℕ) → is_claimed c new j ≡ true → is_claimed c old j ≡ true) where
  -- a scan passes no more flags in words with the same head and no further flag
  scans_fewer : (i : ℕ) → scans c new i ≤ scans c old i
  scans_fewer i = let fewer = scan_fewer c old new fewer i in grind arith

  -- an acquire has no more steps left in words with the same head and no further flag
  acquire_fewer : (stage : AcquireStage) → acquire_left c new stage ≤ acquire_left c old stage
  acquire_fewer acquires.LoadsHead = omega arith
  acquire_fewer (acquires.LoadsNext head) = rw same (omega arith)
  acquire_fewer (acquires.ExchangesHead head next) = rw same (omega arith)
  acquire_fewer (acquires.Claims i) = go (is_claimed c new i) refl
    where
      -- the cases are whether the index is claimed
      go : (t : Bool) → is_claimed c new i ≡ t → cond t (scans c new 0 + 1) 0 ≤ acquire_left c old (acquires.Claims i)
      go true claimed =
          let stood = fewer i claimed in
          let rest = scans_fewer 0 in
          rw stood (omega arith)
      go false unclaimed = omega arith
  acquire_fewer (acquires.Scans i) = scans_fewer i

  -- no call has more steps left in words with the same head and no further flag
  leaves : {T : Type 0} → LeavesAll (measure {T = T} c) old new
  leaves (flights.Indices (calls.Acquire run)) = acquire_fewer run.call.stage
  leaves (flights.Indices (calls.ReleaseDefault run)) = omega arith
  leaves (flights.Indices (calls.ReleaseLock run)) = rw same (omega arith)
  leaves (flights.Indices (calls.BorrowedIndices run)) = omega arith
  leaves (flights.Indices (calls.IsLocked run)) = omega arith
  leaves flight = omega arith

-- ---- the measure falls with each step

-- where each of two numbers is less than its bound, the number that a test chooses is less than the bound that the test chooses
one_less : (t : Bool) (a b more_a more_b : ℕ) → a + 1 ≤ more_a → b + 1 ≤ more_b → cond t a b + 1 ≤ cond t more_a more_b
one_less true a b more_a more_b first second = first
one_less false a b more_a more_b first second = second

module _ {T : Type 0} (code : Coding T) (c : ℕ) (words : List ℕ) where
  abbrev M : WordMeasure T
  M = measure c

  -- the measure falls with the next step of this call
  abbrev NextStepFalls : IndexFlight → Type 0
  NextStepFalls flight = StepFalls M code words (flights.Indices flight)

  -- the head before the step
  abbrev now : ℕ
  now = head_of words

  -- ---- an acquire

  abbrev as_acquire : After acquiring.Acquire Acquired → After (Flight T) (Answer T)
  as_acquire after =
      as_call flights.Indices (λ answer. answer)
      (as_call calls.Acquire acquire_answer (went_on as_it_is tt tt after))

  -- the measure falls with a step that finds a head and leaves the words
  sees_falls : {new : List ℕ} (was : Flight T) (stage : AcquireStage) → new ≡ words → c + 3 ≤ left c words was → 1 ≤ pays was
      → FallsIn M words new 1 was (as_acquire (acquire_sees (record { capacity = c; stage = stage }) now))
  sees_falls {new} was stage same enough one = go (says_locked now) refl (borrowed now == c) refl (nat_lt (proposed now) c) refl
    where
      -- the cases are whether the head is locked, whether all indices are borrowed, and whether the head
      -- proposes an index within the capacity
      go : (t : Bool) → says_locked now ≡ t → (u : Bool) → (borrowed now == c) ≡ u → (v : Bool) → nat_lt (proposed now) c ≡ v
          → FallsIn M words new 1 was (as_acquire (acquire_sees (record { capacity = c; stage = stage }) now))
      go true is_locked u borrowed_test v proposed_test = rw is_locked tt
      go false not_locked true all_borrowed v proposed_test = rw (not_locked, all_borrowed) tt
      go false not_locked false some_left true proposed_fits =
          let self = same_is now in rw (not_locked, some_left, proposed_fits) (inl (same, rw self (omega arith), one))
      go false not_locked false some_left false none_proposed =
          let self = same_is now in rw (not_locked, some_left, none_proposed) (inl (same, rw self (omega arith), one))

  -- a claim has no more steps left than the capacity
  claims_most : 1 ≤ c → (new : List ℕ) (i : ℕ) → acquire_left c new (acquires.Claims i) ≤ c
  claims_most some new i = go (is_claimed c new i)
    where
      -- the cases are whether the flag of the index stands
      go : (t : Bool) → cond t (scans c new 0 + 1) 0 ≤ c
      go true = grind arith
      go false = omega arith

  -- a scan has no more steps left than the capacity
  scans_most : 1 ≤ c → (new : List ℕ) (i : ℕ) → scans c new i + 1 ≤ c
  scans_most = grind arith

  -- the measure falls with the exchange of the head by an acquire
  exchange_falls : 1 ≤ c → (head next : ℕ) → NextStepFalls (acquire_at c (acquires.ExchangesHead head next))
  exchange_falls some head next = go (now == head) refl (nat_lt (proposed head) c) refl
    where
      -- the stage at which the acquire tries to move the head
      stage : AcquireStage
      stage = acquires.ExchangesHead head next

      -- the cases are whether the head is still what was read, and whether it proposes an
      -- index within the capacity
      go : (t : Bool) → (now == head) ≡ t → (u : Bool) → nat_lt (proposed head) c ≡ u → NextStepFalls (acquire_at c stage)
      go true head_same true proposed_fits = let most = claims_most some (set words 0 (head_taken head next)) (proposed head) in
          rw (head_same, proposed_fits) (inr (rw head_same (omega arith), inr (omega arith)))
      go true head_same false none_proposed =
          let most = scans_most some (set words 0 (head_taken head next)) 0 in
          rw (head_same, none_proposed) (inr (rw head_same (omega arith), inr (omega arith)))
      go false head_moved u proposed_test =
          rw head_moved (sees_falls (flights.Indices (acquire_at c stage)) stage (load_leaves words 0) (rw head_moved (omega arith)) (omega arith))

  -- the words after a claim of a flag that stands already
  module _ {holders : List (Option ℕ)} {busy_calls : ℕ} (set_good : Good c words holders busy_calls) (i : ℕ)
      (below : i < c) (stood : is_claimed c words i ≡ true) where
    -- the words once the flag of index `i` is set
    abbrev tried : List ℕ
    tried = set words (flag_word c i) (bit_or (get_or words (flag_word c i) 0) (flag i))

    -- the claim leaves the head
    tried_head : head_of tried ≡ now
    tried_head = head_stays c words (flag_word c i) _ (omega arith)

    -- after a claim of a flag that stood no flag more stands
    tried_fewer : (j : ℕ) → is_claimed c tried j ≡ true → is_claimed c words j ≡ true
    tried_fewer j claimed = ⊎_elim here there (cases_eq j i)
      where
        -- the flag of the index itself was claimed before
        here : j ≡ i → is_claimed c words j ≡ true
        here same_index = rw same_index stood

        -- the flag of any other index was claimed before
        there : j ≢ i → is_claimed c words j ≡ true
        there ne =
            let wide = set_good.wide in
            let within = flag_within c i below in
            sym (claim_leaves c words i (omega arith) j ne) ∙ claimed

    -- the measure falls with the claim of the proposed index, where its flag stands
    claims_fall : NextStepFalls (acquire_at c (acquires.Claims i))
    claims_fall =
        let rest = scans_fewer c words tried tried_head tried_fewer 0 in
        rw stood (inr (rw stood (omega arith), inl (leaves c words tried tried_head tried_fewer, omega arith)))

    module _ (free : ((j : ℕ) → j < c → is_claimed c words j ≡ true) → ⊥) where
      -- a scan with fewer flags ahead has fewer ahead also where both numbers are cut to `c - 1`
      one_on : (next here : ℕ) → next + 1 ≤ here → here ≤ c - 1 → min (c - 1) next + 1 ≤ min (c - 1) here
      one_on = grind arith

      -- the measure falls with each step of a scan, while a flag is free
      scans_fall : NextStepFalls (acquire_at c (acquires.Scans i))
      scans_fall = go (nat_lt (i + 1) c) refl
        where
          -- a scan passes at most `c - 1` flags, since one is free
          most : scan c words i ≤ c - 1
          most = scan_few c words free i below

          -- the cases are whether a further index follows
          go : (t : Bool) → nat_lt (i + 1) c ≡ t → NextStepFalls (acquire_at c (acquires.Scans i))
          go true has_next =
              let more : i + 1 < c = grind (arith, nat_tests) in
              let rest = scans_fewer c words tried tried_head tried_fewer (i + 1) in
              let on = one_on (scan c words (i + 1)) (scan c words i) (scan_on c words i more stood) most in
              rw (stood, has_next) (inr (omega arith, inl (leaves c words tried tried_head tried_fewer, omega arith)))
          go false is_last =
              let last : c ≤ i + 1 = grind (arith, nat_tests) in
              let rest = scans_fewer c words tried tried_head tried_fewer 0 in
              let on = one_on (scan c words 0) (scan c words i) (scan_wraps c words free i below last stood) most in
              rw (stood, is_last) (inr (omega arith, inl (leaves c words tried tried_head tried_fewer, omega arith)))

  -- the measure falls with each step of an acquire
  acquire_falls : (holders : List (Option ℕ)) (busy_calls : ℕ) → Good c words holders busy_calls → (stage : AcquireStage) → AcquireAt c stage
      → counts (acquire_at c stage) ≤ busy_calls → NextStepFalls (acquire_at c stage)
  acquire_falls holders busy_calls good acquires.LoadsHead at heavy =
      sees_falls (flights.Indices (acquire_at c acquires.LoadsHead)) acquires.LoadsHead (load_leaves words 0)
      (omega arith) (omega arith)
  acquire_falls holders busy_calls good (acquires.LoadsNext head) at heavy =
      inl (load_leaves words (next_word (proposed head)), one_less (now == head) _ _ _ _ (omega arith) (omega arith), omega arith)
  acquire_falls holders busy_calls good (acquires.ExchangesHead head next) at heavy = exchange_falls good.some head next
  acquire_falls holders busy_calls good (acquires.Claims i) at heavy = go (is_claimed c words i) refl
    where
      -- the cases are whether the flag of the index stands
      go : (t : Bool) → is_claimed c words i ≡ t → NextStepFalls (acquire_at c (acquires.Claims i))
      go true claimed = claims_fall good i at claimed
      go false unclaimed = rw unclaimed tt
  acquire_falls holders busy_calls good (acquires.Scans i) at heavy = go (is_claimed c words i) refl
    where
      -- the cases are whether the flag of the index stands
      go : (t : Bool) → is_claimed c words i ≡ t → NextStepFalls (acquire_at c (acquires.Scans i))
      go true claimed = scans_fall good i at claimed (some_free c words holders busy_calls good heavy)
      go false unclaimed = rw unclaimed tt

  -- ---- a release

  -- the words after a release has cleared its flag, or stored a next index
  module _ {holders : List (Option ℕ)} {busy_calls : ℕ} (set_good : Good c words holders busy_calls) (index : ℕ) (below : index < c) where
    -- the words once the flag of the index is cleared
    abbrev cleared : List ℕ
    cleared = set words (flag_word c index) (bit_and (get_or words (flag_word c index) 0) (2 ^ 64 - 1 - flag index))

    -- the clear of a flag leaves the head
    cleared_head : head_of cleared ≡ now
    cleared_head = head_stays c words (flag_word c index) _ (omega arith)

    -- after a flag is cleared no flag more stands
    cleared_fewer : (j : ℕ) → is_claimed c cleared j ≡ true → is_claimed c words j ≡ true
    cleared_fewer j claimed = ⊎_elim here there (cases_eq j index)
      where
        -- the word of the flag is one of the set's
        within : flag_word c index < length words
        within = let wide = set_good.wide in let low = flag_within c index below in omega arith

        -- the cleared index itself is not claimed afterwards
        here : j ≡ index → is_claimed c words j ≡ true
        here same_index =
            let clear = clear_clears c words index within in
            let stood : is_claimed c cleared index ≡ true = subst (λ k. is_claimed c cleared k ≡ true) same_index claimed in
            absurd (cc)

        -- the flag of any other index was claimed before
        there : j ≢ index → is_claimed c words j ≡ true
        there ne = sym (clear_leaves c words index within j ne) ∙ claimed

    -- the words once the index proposes what the head proposed
    abbrev stored : ℕ → List ℕ
    stored head = set words (next_word index) (proposed head)

    -- the store of the next index leaves the head
    stored_head : (head : ℕ) → head_of (stored head) ≡ now
    stored_head head = head_stays c words (next_word index) (proposed head) (omega arith)

    -- a flag that is claimed after the store of the next index was claimed before
    stored_fewer : (head j : ℕ) → is_claimed c (stored head) j ≡ true → is_claimed c words j ≡ true
    stored_fewer head j claimed = sym (claims_stay c words (next_word index) (proposed head) j (omega arith)) ∙ claimed

    -- the measure falls with each step of a release in mode Default
    default_falls : (stage : ReleaseStage) → NextStepFalls (default_at c index stage)
    default_falls releases.ClearsFlag = inr (omega arith, inl (leaves c words cleared cleared_head cleared_fewer, omega arith))
    default_falls releases.LoadsHead = inl (load_leaves words 0, omega arith, omega arith)
    default_falls (releases.StoresNext head) =
        inr (omega arith, inl (leaves c words (stored head) (stored_head head) (stored_fewer head), omega arith))
    default_falls (releases.ExchangesHead head) = go (now == head) refl
      where
        -- the cases are whether the head is still what was read
        go : (t : Bool) → (now == head) ≡ t → NextStepFalls (default_at c index (releases.ExchangesHead head))
        go true head_same = rw head_same tt
        go false head_moved = rw head_moved (inl (load_leaves words 0, omega arith, omega arith))
    default_falls releases.Subtracts = tt

    -- the measure falls with each step of a release that may lock
    lock_falls : (stage : ReleaseStage) → NextStepFalls (lock_at c index stage)
    lock_falls releases.ClearsFlag = inr (omega arith, inl (leaves c words cleared cleared_head cleared_fewer, omega arith))
    lock_falls releases.LoadsHead = let self = same_is now in inl (load_leaves words 0, rw self (omega arith), omega arith)
    lock_falls (releases.StoresNext head) =
        let same = stored_head head in
        inr (rw same (one_less (now == head) _ _ _ _ (omega arith) (omega arith)), inl (leaves c words (stored head) same (stored_fewer head), omega arith))
    lock_falls (releases.ExchangesHead head) = go (now == head) refl
      where
        -- the cases are whether the head is still what was read
        go : (t : Bool) → (now == head) ≡ t → NextStepFalls (lock_at c index (releases.ExchangesHead head))
        go true head_same = rw head_same tt
        go false head_moved = let self = same_is now in rw head_moved (inl (load_leaves words 0, rw (self, head_moved) (omega arith), omega arith))
    lock_falls releases.Subtracts = tt

  -- the measure falls with each step of any call of the set
  call_falls : (holders : List (Option ℕ)) (busy_calls p : ℕ) → Good c words holders busy_calls → (start : IndexStart) (flight : IndexFlight)
      → At c holders p start flight → counts flight ≤ busy_calls → NextStepFalls flight
  call_falls holders busy_calls p good starts.Acquire (calls.Acquire run) at heavy =
      subst (λ n. counts (acquire_at n run.call.stage) ≤ busy_calls → NextStepFalls (acquire_at n run.call.stage)) (sym at.0)
      (λ h. acquire_falls holders busy_calls good run.call.stage at.1 h) heavy
  call_falls holders busy_calls p good (starts.Release index Default) (calls.ReleaseDefault run) at heavy =
      rw (at.0, at.1) (default_falls good index at.2 run.call.stage)
  call_falls holders busy_calls p good (starts.Release index LockIfLastIndex) (calls.ReleaseLock run) at heavy =
      rw (at.0, at.1) (lock_falls good index at.2 run.call.stage)
  call_falls holders busy_calls p good starts.BorrowedIndices (calls.BorrowedIndices run) at heavy = tt
  call_falls holders busy_calls p good starts.IsLocked (calls.IsLocked run) at heavy = tt
  call_falls holders busy_calls p good start flight at heavy = absurd at

-- ---- no call has more than the capacity and four steps left

module _ (c : ℕ) (some : 1 ≤ c) (words : List ℕ) where
  -- at a scan the measure is at most `c + 3`
  scans_low : (i : ℕ) → scans c words i ≤ c + 3
  scans_low = grind arith

  -- an acquire has no more steps left than the capacity and four
  acquire_most : (stage : AcquireStage) → acquire_left c words stage ≤ c + 4
  acquire_most = grind (arith, scans_low)

  -- no call has more steps left than the capacity and four, or more than one change to make
  most : {T : Type 0} → (flight : Flight T) → (left c words flight ≤ c + 4) × (pays flight ≤ 1)
  most (flights.Indices (calls.Acquire run)) = (acquire_most run.call.stage, grind arith)
  most (flights.Indices (calls.ReleaseDefault run)) = (grind arith, omega arith)
  most (flights.Indices (calls.ReleaseLock run)) = (grind arith, omega arith)
  most (flights.Indices (calls.BorrowedIndices run)) = (omega arith, omega arith)
  most (flights.Indices (calls.IsLocked run)) = (omega arith, omega arith)
  most flight = (omega arith, omega arith)

-- ---- of each machine that turns have reached

-- party `p`, whose call is `x`, takes a step of the run `t`
module _ {T : Type 0} (t : Trace T) (sound : Sound (family t.world.coding t.world.capacity) t) (p : ℕ) (x : Party T) (since : ℕ) where
  -- the set is good with the calls of the run, as the invariant says
  good : Good t.world.capacity t.world.words sound.state.holders (busy (scene_of outline t.world.coding t.world.capacity t sound p x.steps x.backs since))
  good =
      rw sound.fit.words sound.holds.good

  -- the measure falls with each step of a call, on a machine that turns have reached
  flight_falls : (start : Start T) {flight : Flight T} → FlightAt t.world.capacity sound.state.holders p start flight
      → party_of p t.world.latest ≡ Some x → x.doing ≡ Going flight since → flight_of (doing_of (party_of p t.world.latest)) ≡ Some flight
      → FallsBy (of_words (measure t.world.capacity)) t.world p x flight (ask_of (want_of t.world.coding flight))
      (old_of t.world.words (ask_of (want_of t.world.coding flight)))
  flight_falls (Indices start) {flight = (flights.Indices flight)} at found doing flight_is next e =
      let world = t.world in
      let any : Flight T = flights.Indices flight in
      let heavy =
      busy_here (scene_of outline world.coding world.capacity t sound p x.steps x.backs since) {flight = flight}
      (record { seat = sound.holds.bounded p x found; under = flight_is }) in
      let ask = ask_of (want_of world.coding any) in
      let old = old_of world.words ask in
      let goes = (orders_of world.coding world.capacity).after t p x any since old sound found doing in
      falls_by (measure world.capacity) world p (words_after world.words ask) (step_in world p x any old).kept
      (step_count ask) any (after_of world.coding any old)
      (call_falls world.coding world.capacity world.words sound.state.holders _ p good start flight at heavy) next (sym goes ∙ e)
  flight_falls start at found doing flight_is next e = absurd at

module _ {T : Type 0} where
  -- no call on indices asks a question
  never_asks : (code : Coding T) (c : ℕ) (holders : List (Option ℕ)) (p : ℕ) (start : Start T) (flight : Flight T)
      → FlightAt c holders p start flight → is_question (want_of code flight) ≡ false
  never_asks = grind arith

  -- the measure has the laws that are asked of one
  laws : FramedLaws kinds.Indices (family {T = T}) (λ c. of_words (measure c))
  laws =
      record {
        sound = reached_on_sound;
        most = λ t s p x flight since found doing. (let some = s.holds.good.some in most t.world.capacity some t.world.words flight);
        begins = λ t s p start e q ne other is. omega arith;
        dies = λ t s owner e q other is. omega arith;
        step = λ t s p x flight since found doing.
            (let there = stands_there (family t.world.coding t.world.capacity) t s p x since flight found doing in
            flight_falls t s p x since x.start there.at found doing there.found);
        decision = λ t s p x flight since said found doing asks.
            (let there = stands_there (family t.world.coding t.world.capacity) t s p x since flight found doing in
            let none = never_asks t.world.coding t.world.capacity s.state.holders p x.start flight there.at in
            absurd (cc));
      }

  -- between two ends of calls at most so many steps are taken: sets of indices are lock-free
  pub indices_keep_ending : KeepsEnding T kinds.Indices (λ n capacity size. stretch n 1 (capacity + 4))
  indices_keep_ending =
      framed_keep_ending kinds.Indices family (λ c. of_words (measure c)) laws (λ n capacity size. stretch n 1 (capacity + 4)) (λ c n size. refl)
