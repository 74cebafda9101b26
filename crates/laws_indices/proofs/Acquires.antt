-- Each step of an acquire keeps the invariant.
use Rattle.std.proofs.Common.{◌≡◌, ◌≢◌, ℕ, ◌+◌, ◌*◌, ◌<◌, ◌≤◌, ◌==◌, ⊎_elim, inl, nat_lt, Bool, true, false}
use Rattle.std.proofs.Common.{bit_or, Some, List, get_or, set, refl, sym, ap, subst, ◌∙◌, arith}
use Rattle.std.specs.Prelude.{max, Ok, Err}
use Rattle.laws_indices.proofs.Names.{nat_tests, set-get_or, Ask, After, GoOn, Done, AcquireStage, next_word, flag_word}
use Rattle.laws_indices.proofs.Names.{flag, has_flag, proposed, borrowed, locked, says_locked, Index, NoIndex, Finished}
use Rattle.laws_indices.proofs.Names.{Indices, words_after, Scene, Inv}
use Rattle.steps.specs.declared.ask.Op.TheVariants.{Load, Or, Exchange}
use Rattle.steps.specs.declared.indices.enums.UniqueIndexSetAcquireFailure.{UniqueIndexSetAcquireFailure}
use Rattle.steps.specs.declared.indices.enums.UniqueIndexSetAcquireFailure.TheVariants as failures
use Rattle.steps.specs.declared.indices.unique.Acquire as calls
use Rattle.steps.specs.declared.indices.unique.AcquireStage.TheVariants as acquires
use Rattle.steps.specs.Indices.Unique.{Acquired, at_acquire, acquire_sees, head_taken, first_claim}
use Rattle.steps.specs.Picks.{by_test, by_eq}
use Rattle.steps.specs.Routine.{went_on}
use Rattle.model.specs.Step.{as_call}
use Rattle.model.specs.declared.families.indices.IndexStart.TheVariants.{Acquire}
use Rattle.model.specs.declared.families.indices.calls.IndexFlight.TheVariants as flights
use Rattle.model.specs.Families.Indices.Calls.{acquire_answer, after, goes_back}
use Rattle.model.specs.Families.Indices.Reading.{is_locked, tally_of, in_use}
use Rattle.model.specs.Families.Queues.Calls.{as_it_is}
use Rattle.laws_indices.proofs.Core.{head_of, counted_in, is_claimed, head_stays, Good}
use Rattle.laws_indices.proofs.Invariant.{IndexSet, AnswersFew, outline}
use Rattle.laws_indices.proofs.Knows.{acquire_at, acquire_number, acquire_counts, AcquireAt, AcquireKnows, IsOpen, IsPaid, PaidUnless, AllClaimed}
use Rattle.laws_indices.proofs.Moves.{takes, counts_right, unlocked_for, some_free, was_free, still_claimed, claims, claims_again}
use Rattle.laws_indices.proofs.Stages.{busy, IsHere, busy_here, all_in_use, Comes, StepOf, since_then, changes_then}
use Rattle.laws_indices.proofs.Stages.{backs_then, paid_of, unless_then, goes_on, claims_index, open_says}

-- The party `p` has an acquire under way. `c` is the capacity, `ws` the words and `hs` the holders of the
-- indices before the step.
module _ {T : Type 0} (scene : Scene T IndexSet) (inv : Inv outline scene) where
  open scene use {capacity as c, party as p, steps, backs, since, changes, latest, events}
  open scene.state use {words as ws, holders as hs}

  good_before : Good c ws hs (busy scene)
  good_before = inv.holds.good

  -- a step with the operation `ask`, after which the acquire is as `a` says, keeps the invariant; `back` is
  -- whether it turns back
  abbrev StepKeeps : AcquireStage → Ask → Bool → After calls.Acquire Acquired → Type 0
  StepKeeps stage ask back a =
      Comes scene Acquire (acquire_at c stage) (Some ask) back (as_call flights.Acquire acquire_answer (went_on as_it_is tt tt a))

  -- the acquire at a stage
  abbrev call_at : AcquireStage → calls.Acquire
  call_at stage = record { capacity = c; stage = stage }

  -- ---- the acquire has found a head, by a load or by an exchange that failed

  -- the step leaves the words as they are, and `paid` says that the turns back so far are each paid by a
  -- change of a word
  module _ (stage : AcquireStage) (here : IsHere scene (acquire_at c stage)) (light : acquire_counts stage ≡ 0)
      (ask : Ask) (back : Bool) (same : words_after ws (Some ask) ≡ ws)
      (low : steps + 1 ≤ 1 + backs_then scene back * max 2 c)
      (paid : IsPaid since changes (backs_then scene back)) where
    -- an acquire that has found a head ends with this failure
    fails : (failure : UniqueIndexSetAcquireFailure)
        → AnswersFew c events (Finished p (Indices Acquire) (NoIndex failure))
        → StepKeeps stage ask back (Done (Err failure))
    fails = grind arith

    -- an acquire that has found a head goes on to a stage before its exchange
    goes_to : (stage' : AcquireStage) → acquire_counts stage' ≡ 0 → AcquireAt c stage'
        → steps + 1 ≤ acquire_number c stage' (backs_then scene back)
        → AcquireKnows c (words_after ws (Some ask)) (since_then scene (Some ask)) (changes_then scene (Some ask))
        (backs_then scene back) stage'
        → StepKeeps stage ask back (GoOn (at_acquire (call_at stage) stage'))
    goes_to = grind arith

    -- where the head counts the capacity and is not locked, more indices are in use than the capacity, this
    -- call's own included
    out_of : borrowed (head_of ws) ≢ locked → borrowed (head_of ws) ≡ c → (c + 1 ≤ in_use (tally_of events)) × (is_locked events ≡ false)
    out_of unlocked full =
        let count_right = counts_right c ws hs (busy scene) good_before unlocked in
        let number = count_right.0 in
        let all = all_in_use scene here in
        (rw inv.holds.tally (omega arith), inv.holds.lock ∙ open_says (head_of ws) unlocked)

    -- an acquire fails if the head that it has found is locked or counts the capacity, and else goes on
    -- from that head
    pub sees : StepKeeps stage ask back (acquire_sees (call_at stage) (head_of ws))
    sees =
        by_test (StepKeeps stage ask back) (says_locked (head_of ws)) (Done (Err failures.IsLocked)) _
        (λ t. fails failures.IsLocked (inv.holds.lock ∙ t))
        (λ t.
        let unlocked : borrowed (head_of ws) ≢ locked = grind (arith, nat_tests) in
        by_eq (StepKeeps stage ask back) (borrowed (head_of ws)) c (Done (Err failures.OutOfIndices)) _
        (λ full. fails failures.OutOfIndices (out_of unlocked full))
        (λ less. by_test (StepKeeps stage ask back) (nat_lt (proposed (head_of ws)) c)
        (GoOn (at_acquire (call_at stage) (acquires.LoadsNext (head_of ws))))
        (GoOn (at_acquire (call_at stage) (acquires.ExchangesHead (head_of ws) (proposed (head_of ws)))))
        (λ own. goes_to (acquires.LoadsNext (head_of ws)) refl (unlocked, less) low (inl (ap head_of same, omega arith)))
        (λ none. goes_to (acquires.ExchangesHead (head_of ws) (proposed (head_of ws))) refl
        (unlocked, less) (omega arith) (inl (ap head_of same, omega arith)))))

  -- ---- the load of the head

  -- a load of a word
  abbrev loads : ℕ → Ask
  loads word = record { word = word; op = Load }

  -- the load of the head keeps the invariant
  loads_head : IsHere scene (acquire_at c acquires.LoadsHead) → IsPaid since changes backs → steps ≤ 0
      → StepOf scene Acquire (acquire_at c acquires.LoadsHead)
  loads_head here paid few_steps =
      sees acquires.LoadsHead here refl (loads 0) false (set-get_or ws 0 0) (omega arith) (omega arith)

  -- ---- the load of the next index

  -- the load of the next index keeps the invariant, and leads on to the exchange of the head
  loads_next : (head : ℕ) → IsOpen c head → PaidUnless (head_of ws ≡ head) since changes backs
      → steps ≤ 1 + backs * max 2 c → StepOf scene Acquire (acquire_at c (acquires.LoadsNext head))
  loads_next = grind (arith, next_word, set-get_or, goes_on, false, busy, good_before, head_of, unless_then)

  -- ---- the exchange of the head

  module _ (head next : ℕ) (open_head : IsOpen c head) (knows : PaidUnless (head_of ws ≡ head) since changes backs)
      (few_steps : steps ≤ 2 + backs * max 2 c) where
    -- the stage at which the acquire tries to move the head
    abbrev exchanging : AcquireStage
    exchanging = acquires.ExchangesHead head next

    -- the exchange of the head by which the acquire takes the proposed index
    abbrev exchange : Ask
    exchange = record { word = 0; op = Exchange head (head_taken head next) }

    -- the turn-backs so far are paid for by changes by others
    paid : IsPaid since changes backs
    paid = paid_of scene (head_of ws ≡ head) knows

    -- the exchange finds the head that the acquire has read, and so takes place
    module _ (head_is : head_of ws ≡ head) (new : words_after ws (Some exchange) ≡ set ws 0 (head_taken (head_of ws) next)) where
      -- the head is not locked, since it is open
      not_locked : counted_in ws ≢ locked
      not_locked e = open_head.0 (ap borrowed (sym head_is) ∙ e)

      -- after the exchange the words are right, with one more call that takes an index
      good_taken : (busy' : ℕ) → busy' ≡ busy scene + 1 → Good c (words_after ws (Some exchange)) hs busy'
      good_taken busy' busy_is =
          rw (busy_is, new) (takes c ws hs (busy scene) next good_before not_locked (λ full. open_head.1 (ap borrowed (sym head_is) ∙ full)))

      -- the exchange neither locks nor unlocks the set
      lock_same : says_locked (head_of (words_after ws (Some exchange))) ≡ says_locked (head_of ws)
      lock_same = grind (arith, open_says, head_of, unlocked_for, busy, good_taken, not_locked)

      -- after its exchange an acquire goes on to a claim or to a scan
      goes_to_claim : (stage : AcquireStage) → acquire_counts stage ≡ 1 → AcquireAt c stage
          → steps + 1 ≤ acquire_number c stage (backs_then scene false)
          → AcquireKnows c (words_after ws (Some exchange)) (since_then scene (Some exchange))
          (changes_then scene (Some exchange)) (backs_then scene false) stage
          → StepKeeps exchanging exchange false (GoOn (at_acquire (call_at exchanging) stage))
      goes_to_claim = grind (arith, goes_on, false, good_taken, lock_same)

      -- the exchange of the head leads to the claim of the index that it proposed, or to a
      -- scan from index 0 on
      exchange_succeeds : StepKeeps exchanging exchange false (GoOn (at_acquire (call_at exchanging) (first_claim c head)))
      exchange_succeeds =
          by_test (λ stage. StepKeeps exchanging exchange false (GoOn (at_acquire (call_at exchanging) stage)))
          (nat_lt (proposed head) c) (acquires.Claims (proposed head)) (acquires.Scans 0)
          (λ own. let below : proposed head < c = grind (arith, nat_tests) in
          goes_to_claim (acquires.Claims (proposed head)) refl below (omega arith) (omega arith))
          (λ none. let some = good_before.some in
          goes_to_claim (acquires.Scans 0) refl (omega arith) (omega arith)
          (inl (λ i below. absurd (omega arith), omega arith)))

    -- the exchange of the head leads on to a claim or a scan, or, where the head has moved, back to the
    -- head that it finds
    pub exchanges : IsHere scene (acquire_at c exchanging) → StepOf scene Acquire (acquire_at c exchanging)
    exchanges here = go (head_of ws == head) refl
      where
        -- the cases are whether the head is the one that was read
        go : (b : Bool) → (head_of ws == head) ≡ b → StepOf scene Acquire (acquire_at c exchanging)
        -- the head is the same: the exchange succeeds, and the acquire goes on to a claim or a scan
        go true t =
            let same_head : head_of ws ≡ head = grind (arith, nat_tests) in
            let goes : after {T = T} (acquire_at c exchanging) (head_of ws) ≡ GoOn (acquire_at c (first_claim c head)) = rw t refl in
            let back : goes_back (acquire_at c exchanging) (head_of ws) ≡ false = rw t refl in
            let new : words_after ws (Some exchange) ≡ set ws 0 (head_taken (head_of ws) next) =
            rw t (ap (λ h. set ws 0 (head_taken h next)) (sym same_head)) in
            rw (goes, back) (exchange_succeeds same_head new)
        -- the head has moved: the acquire looks at the head that it has found
        go false t =
            let other : head_of ws ≢ head = grind (arith, nat_tests) in
            let more : backs + since + 1 ≤ changes = ⊎_elim (λ k. absurd (other k.0)) (λ k. k) knows in
            let goes : after {T = T} (acquire_at c exchanging) (head_of ws)
            ≡ as_call flights.Acquire acquire_answer (went_on as_it_is tt tt (acquire_sees (call_at exchanging) (head_of ws))) =
            rw t refl in
            let back : goes_back (acquire_at c exchanging) (head_of ws) ≡ true = rw t refl in
            let same : words_after ws (Some exchange) ≡ ws = rw t (set-get_or ws 0 0) in
            rw (goes, back) (sees exchanging here refl exchange true same (omega arith) (omega arith))

  -- ---- the claim of a flag

  -- the acquire is at a stage that sets the flag of the index `i`, after its exchange
  module _ (stage : AcquireStage) (i : ℕ) (below : i < c) (here : IsHere scene (acquire_at c stage))
      (heavy : acquire_counts stage ≡ 1) (paid : IsPaid since changes backs) where
    -- the `or` by which the acquire claims the flag of index `i`
    abbrev claim : Ask
    claim = record { word = flag_word c i; op = Or (flag i) }

    -- the word of the flag before the claim
    abbrev old : ℕ
    old = get_or ws (flag_word c i) 0

    -- the acquire is counted among the calls at work
    at_work : 1 ≤ busy scene
    at_work = let mine = busy_here scene here in omega arith

    -- the claim of the flag leaves the head
    head_same : head_of (words_after ws (Some claim)) ≡ head_of ws
    head_same = head_stays c ws (flag_word c i) (bit_or old (flag i)) (omega arith)

    -- where the flag was clear, the acquire has claimed the index and ends with it
    claim_succeeds : has_flag old i ≡ false → steps + 1 ≤ 4 + c + backs_then scene false * max 2 c → StepKeeps stage claim false (Done (Ok i))
    claim_succeeds clear low =
        claims_index inv i (Some claim) (record {
          below = below;
          none = was_free c ws hs i below (busy scene) clear good_before;
          unlocked = unlocked_for c ws hs (busy scene) good_before at_work;
          good = λ busy' e. let busy_is : busy scene ≡ busy' + 1 = omega arith in claims c ws hs i below p busy' clear (rw (← busy_is) good_before);
          head_same = head_same;
          takes_before = refl;
          gives_before = refl;
          wrote_before = refl;
          steps = low;
          paid = paid;
        })

    -- where the flag stood already, the acquire goes on to another stage
    tries_on : has_flag old i ≡ true → (back : Bool) (stage' : AcquireStage) → acquire_counts stage' ≡ 1
        → AcquireAt c stage' → steps + 1 ≤ acquire_number c stage' (backs_then scene back)
        → AcquireKnows c (words_after ws (Some claim)) (since_then scene (Some claim)) (changes_then scene (Some claim))
        (backs_then scene back) stage'
        → StepKeeps stage claim back (GoOn (at_acquire (call_at stage) stage'))
    tries_on stood back stage' heavy' at low knows =
        goes_on inv Acquire (acquire_at c stage) (acquire_at c stage') (Some claim) back (record {
          good = λ busy' e. let busy_is : busy scene ≡ busy' = omega arith in claims_again c ws hs i below busy' stood (rw (← busy_is) good_before);
          takes_same = refl;
          gives_same = refl;
          wrote_same = refl;
          lock_same = ap says_locked head_same;
          straight = tt;
          steps = low;
          at = (refl, at);
          knows = knows;
        })

  -- the claim of the proposed index ends the acquire, or leads to a scan from index 0 on
  -- where that flag stands
  claims_proposed : (i : ℕ) → i < c → IsHere scene (acquire_at c (acquires.Claims i))
      → IsPaid since changes backs → steps ≤ 3 + backs * max 2 c
      → StepOf scene Acquire (acquire_at c (acquires.Claims i))
  claims_proposed i below here paid few_steps =
      let stage : AcquireStage = acquires.Claims i in
      let some = good_before.some in
      by_test (StepKeeps stage (claim stage i below here refl paid) false) (has_flag (get_or ws (flag_word c i) 0) i)
      (GoOn (at_acquire (call_at stage) (acquires.Scans 0))) (Done (Ok i))
      (λ stood.
      let from_here = tries_on stage i below here refl paid in
      from_here stood false (acquires.Scans 0) refl (omega arith) (omega arith) (inl (λ j less. absurd (omega arith), omega arith)))
      (λ clear. claim_succeeds stage i below here refl paid clear (omega arith))

  -- the acquire scans the flags, and is at the index `i`
  module _ (i : ℕ) (below : i < c) (here : IsHere scene (acquire_at c (acquires.Scans i)))
      (knows : PaidUnless (AllClaimed c ws i) since changes backs) (few_steps : steps ≤ 4 + i + backs * max 2 c) where
    -- the stage at which the acquire scans at index `i`
    abbrev scanning : AcquireStage
    scanning = acquires.Scans i

    -- the `or` on the flag of index `i` by which the acquire scans
    abbrev scan : Ask
    scan = record { word = flag_word c i; op = Or (flag i) }

    -- the words after the scan of this flag
    abbrev flags_then : List ℕ
    flags_then = words_after ws (Some scan)

    -- the turn-backs so far are paid for by changes by others
    scan_paid : IsPaid since changes backs
    scan_paid = paid_of scene (AllClaimed c ws i) knows

    -- a further claimed flag makes all flags up to it claimed
    one_more : is_claimed c ws i ≡ true → AllClaimed c ws i → AllClaimed c ws (i + 1)
    one_more = grind arith

    -- where the flag stood and indices follow, the scan goes on to the next index
    scans_on : is_claimed c ws i ≡ true → i + 1 < c → StepKeeps scanning scan false (GoOn (at_acquire (call_at scanning) (acquires.Scans (i + 1))))
    scans_on stood more =
        let from_here = tries_on scanning i below here refl scan_paid in
        from_here stood false (acquires.Scans (i + 1)) refl more (omega arith)
        (unless_then scene (Some scan) (AllClaimed c ws i) (AllClaimed c flags_then (i + 1))
        (λ all j less. still_claimed c ws hs i below (busy scene) j good_before (one_more stood all j less)) knows)

    -- where the last flag stood as well, the scan turns back to index 0; some flag was free at each moment,
    -- so another party has changed a word since
    scans_again : is_claimed c ws i ≡ true → c ≤ i + 1 → StepKeeps scanning scan true (GoOn (at_acquire (call_at scanning) (acquires.Scans 0)))
    scans_again stood last =
        let end : i + 1 ≡ c = omega arith in
        let some = good_before.some in
        let more : backs + since + 1 ≤ changes =
        ⊎_elim (λ k. absurd (some_free c ws hs (busy scene) good_before (at_work scanning i below here refl scan_paid)
        (subst (AllClaimed c ws) end (one_more stood k.0))))
        (λ k. k) knows in
        let from_here = tries_on scanning i below here refl scan_paid in
        from_here stood true (acquires.Scans 0) refl (omega arith) (omega arith) (inl (λ j less. absurd (omega arith), omega arith))

    -- the step in which an acquire scans a flag leads to its end, to the next flag, or back to the first flag
    pub scans : StepOf scene Acquire (acquire_at c scanning)
    scans = go (has_flag (get_or ws (flag_word c i) 0) i) refl (nat_lt (i + 1) c) refl
      where
        -- the cases are whether the flag stands, and whether it is the last
        go : (b : Bool) → has_flag (get_or ws (flag_word c i) 0) i ≡ b → (d : Bool) → nat_lt (i + 1) c ≡ d → StepOf scene Acquire (acquire_at c scanning)
        -- the flag stands and a further one follows: the scan goes on to it
        go true t true u =
            let more : i + 1 < c = grind (arith, nat_tests) in
            let goes : after {T = T} (acquire_at c scanning) (get_or ws (flag_word c i) 0)
            ≡ GoOn (acquire_at c (acquires.Scans (i + 1))) =
            rw (t, u) refl in
            let back : goes_back (acquire_at c scanning) (get_or ws (flag_word c i) 0) ≡ false = rw (t, u) refl in
            rw (goes, back) (scans_on t more)
        -- the last flag stands: the scan turns back to index 0
        go true t false u =
            let last : c ≤ i + 1 = grind (arith, nat_tests) in
            let goes : after {T = T} (acquire_at c scanning) (get_or ws (flag_word c i) 0)
            ≡ GoOn (acquire_at c (acquires.Scans 0)) =
            rw (t, u) refl in
            let back : goes_back (acquire_at c scanning) (get_or ws (flag_word c i) 0) ≡ true = rw (t, u) refl in
            rw (goes, back) (scans_again t last)
        -- the flag was clear: the acquire has claimed the index, and ends with it
        go false t d u =
            let goes : after {T = T} (acquire_at c scanning) (get_or ws (flag_word c i) 0) ≡ Done (Index i) = rw t refl in
            let back : goes_back (acquire_at c scanning) (get_or ws (flag_word c i) 0) ≡ false = rw t refl in
            rw (goes, back) (claim_succeeds scanning i below here refl scan_paid t (omega arith))

  -- ---- any step

  -- any step of an acquire keeps the invariant, where the acquire stands at its stage and
  -- knows what the stage says
  pub acquire_step : (stage : AcquireStage) → IsHere scene (acquire_at c stage) → AcquireAt c stage
      → AcquireKnows c ws since changes backs stage → steps ≤ acquire_number c stage backs
      → StepOf scene Acquire (acquire_at c stage)
  acquire_step acquires.LoadsHead here at knows few_steps = loads_head here knows few_steps
  acquire_step (acquires.LoadsNext head) here at knows few_steps = loads_next head at knows few_steps
  acquire_step (acquires.ExchangesHead head next) here at knows few_steps = exchanges head next at knows few_steps here
  acquire_step (acquires.Claims i) here at knows few_steps = claims_proposed i at here knows few_steps
  acquire_step (acquires.Scans i) here at knows few_steps = scans i at here knows few_steps
