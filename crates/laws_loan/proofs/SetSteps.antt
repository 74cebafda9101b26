-- What a step of the sender's call does to the words of the indices, to who has claimed them, and to
-- whether its call is counted in the head. No other party takes an index or gives one back, so the head
-- stays as the call has loaded it.
use Rattle.laws_loan.proofs.Names.{◌≡◌, ◌≢◌, ℕ, ◌+◌, ◌-◌, ◌%◌, ◌^◌, ◌<◌, ◌≤◌, ◌==◌, ⊎_elim, Bool, true, false, bit_or}
use Rattle.laws_loan.proofs.Names.{Option, Some, None, List, length, get_or, set, refl, sym, ap, subst, ◌∙◌, Ok, Err}
use Rattle.laws_loan.proofs.Names.{cases_lt, nat_tests, set-get_or, Ask, Or, After, GoOn, ReleaseState, AcquireStage}
use Rattle.laws_loan.proofs.Names.{DefaultMode, Release, ReleaseStage, next_word, flag_word, flag, has_flag, proposed}
use Rattle.laws_loan.proofs.Names.{borrowed, locked, Acquired, acquire_asks, acquire_takes, acquire_sees}
use Rattle.laws_loan.proofs.Names.{acquire_goes_back, head_taken, head_given_back, back_asks, back_takes, by_test}
use Rattle.laws_loan.proofs.Names.{by_eq, ask_of, old_of, words_after, head_of, counted_in, holder, one_held}
use Rattle.laws_loan.proofs.Names.{held_below, flag_within, is_claimed, head_stays, acquire_counts, acquire_number}
use Rattle.laws_loan.proofs.Names.{release_counts, release_number, ReleaseAt, AllClaimed}
use Rattle.std.proofs.Common.{arith}
use Rattle.std.proofs.Common.{get_or-set_same}
use Rattle.steps.specs.declared.ask.After.TheVariants.{Done}
use Rattle.steps.specs.declared.indices.enums.UniqueIndexSetAcquireFailure.TheVariants as failures
use Rattle.steps.specs.declared.indices.unique.Acquire as acquire_calls
use Rattle.steps.specs.declared.indices.unique.AcquireStage.TheVariants as acquires
use Rattle.steps.specs.declared.indices.unique.ReleaseStage.TheVariants as releases
use Rattle.laws_indices.proofs.Core.{Good}
use Rattle.laws_indices.proofs.Count.{given_number, less_number}
use Rattle.laws_indices.proofs.Knows.{IsOpen}
use Rattle.laws_indices.proofs.Moves.{counts_right, unlocked_for, stores_next, some_counted, gives, subtracts, frees}
use Rattle.laws_indices.proofs.Moves.{takes, some_free, was_free, still_claimed, claims, claims_again}
use Rattle.laws_loan.proofs.Cuts.{IsOn}
use Rattle.laws_loan.proofs.Lists.{sum_less}

-- ---- a release, in mode Default

-- who has claimed each index after a step of a release: its first step clears the flag
abbrev pub claims_then : ℕ → ReleaseStage → List (Option ℕ) → List (Option ℕ)
claims_then index releases.ClearsFlag hs = set hs index None
claims_then index releases.LoadsHead hs = hs
claims_then index (releases.StoresNext head) hs = hs
claims_then index (releases.ExchangesHead head) hs = hs
claims_then index releases.Subtracts hs = hs

-- a stage at which a release still counts leaves the claims
pub claims_for : (index : ℕ) (claims : List (Option ℕ)) (stage : ReleaseStage) → release_counts stage ≡ 1 → claims_then index stage claims ≡ claims
claims_for = grind arith

-- A release that goes on is counted in the head, and its stage is a step further. One that has ended is not counted, and
-- has taken 5 steps at most.
abbrev pub ReleaseLeads : ℕ → ReleaseStage → List ℕ → List (Option ℕ) → After (Release DefaultMode) ReleaseState → Type 0
ReleaseLeads c stage ws hs (GoOn release) =
    Good c ws hs 1 × (release_counts release.stage ≡ 1) × (release_number stage 0 + 1 ≤ release_number release.stage 0)
ReleaseLeads c stage ws hs (Done state) = Good c ws hs 0 × (release_number stage 0 + 1 ≤ 5)

-- of `c` indices, in the words `ws`, of which `hs` says who has claimed each
module _ (c index : ℕ) (below : index < c) (ws : List ℕ) (hs : List (Option ℕ)) where
  -- the operation of the next step of a release
  abbrev pub released_by : ReleaseStage → Option Ask
  released_by stage = ask_of (back_asks c index stage)

  -- a step of a release is on a word of the indices, has the result that `ReleaseLeads` says, and leaves
  -- the set unlocked
  pub record ReleaseStep (stage : ReleaseStage) : Type 0 where
    pub on : IsOn ws (back_asks c index stage)
    pub leads : ReleaseLeads c stage (words_after ws (released_by stage)) (claims_then index stage hs) (back_takes c stage (old_of ws (released_by stage)))
    pub unlocked : counted_in (words_after ws (released_by stage)) ≢ locked

  -- the clear of the flag of an index that the sender has claimed makes it free, and the release is counted
  -- in the head from then on
  clears : holder hs index ≡ Some 0 → Good c ws hs 0 → ReleaseStep releases.ClearsFlag
  clears holds was_good =
      let wide = was_good.wide in
      let low = flag_within c index below in
      let good : Good c (words_after ws (released_by releases.ClearsFlag)) (set hs index None) 1 = frees c ws hs index below 0 0 holds was_good in
      let unlocked = unlocked_for c (words_after ws (released_by releases.ClearsFlag)) (set hs index None) 1 good (omega arith) in
      grind arith

  -- while the release is counted in the head, the set is not locked
  module _ (set_good : Good c ws hs 1) where
    -- the head counts the release, so at least 1, and at most the capacity
    counted : (1 ≤ counted_in ws) × (counted_in ws ≤ c)
    counted = let one_counted = some_counted c ws hs 0 set_good in (one_counted.0, one_counted.2)

    -- a head that counts one less is not locked
    less_unlocked : (x : ℕ) → borrowed x + 1 ≡ counted_in ws → counted_in (set ws 0 x) ≢ locked
    less_unlocked = grind (arith, set, borrowed, get_or-set_same)

    -- the load of the head has the result that `ReleaseLeads` says
    loads : ReleaseStep releases.LoadsHead
    loads = grind (arith, set-get_or, unlocked_for)

    -- the store of the next index has the result that `ReleaseLeads` says
    stores : (head : ℕ) → ReleaseStep (releases.StoresNext head)
    stores head =
        let wide = set_good.wide in
        let good : Good c (words_after ws (released_by (releases.StoresNext head))) hs 1 = stores_next c ws hs index (proposed head) 1 below set_good in
        let unlocked = unlocked_for c (words_after ws (released_by (releases.StoresNext head))) hs 1 good (omega arith) in
        grind arith

    -- the exchange of the head has the result that `ReleaseLeads` says, whether it finds the head that was
    -- loaded or another one
    exchanges : (head : ℕ) → ReleaseStep (releases.ExchangesHead head)
    exchanges head = go (head_of ws == head) refl
      where
        -- the cases are whether the head is still what was read
        go : (b : Bool) → (head_of ws == head) ≡ b → ReleaseStep (releases.ExchangesHead head)
        go true head_test =
            let wide = set_good.wide in
            let same_head : head_of ws ≡ head = grind (arith, nat_tests) in
            let new : words_after ws (released_by (releases.ExchangesHead head))
            ≡ set ws 0 (head_given_back (head_of ws) index) =
            rw head_test (ap (λ h. set ws 0 (head_given_back h index)) (sym same_head)) in
            let good : Good c (words_after ws (released_by (releases.ExchangesHead head))) hs 0 =
            subst (λ w. Good c w hs 0) (sym new) (gives c ws hs 0 set_good index) in
            let unlocked =
            subst (λ w. counted_in w ≢ locked) (sym new)
            (less_unlocked (head_given_back (head_of ws) index) (given_number (head_of ws) index counted.0)) in
            grind arith
        go false head_moved =
            let wide = set_good.wide in
            let same : words_after ws (released_by (releases.ExchangesHead head)) ≡ ws = rw head_moved (set-get_or ws 0 0) in
            let good : Good c (words_after ws (released_by (releases.ExchangesHead head))) hs 1 = subst (λ w. Good c w hs 1) (sym same) set_good in
            let unlocked = unlocked_for c (words_after ws (released_by (releases.ExchangesHead head))) hs 1 good (omega arith) in
            grind arith

    -- the subtraction from the head ends the release, which is not counted any more
    subtracts_one : ReleaseStep releases.Subtracts
    subtracts_one =
        let wide = set_good.wide in
        let good = subtracts c ws hs 0 set_good in
        let unlocked = less_unlocked ((head_of ws + (2 ^ 64 - 1)) % 2 ^ 64) (less_number (head_of ws) counted.0) in
        grind arith

  -- each step of a release has the result that `ReleaseLeads` says, where the release stands at its stage
  pub release_step : (stage : ReleaseStage) → ReleaseAt hs 0 index stage → Good c ws hs (release_counts stage) → ReleaseStep stage
  release_step releases.ClearsFlag at good = clears at good
  release_step releases.LoadsHead at good = loads good
  release_step (releases.StoresNext head) at good = stores good head
  release_step (releases.ExchangesHead head) at good = exchanges good head
  release_step releases.Subtracts at good = subtracts_one good

-- ---- an acquire

-- what an acquire knows at its stage: the head is still the one that it loaded, and the flags
-- that it has tried stand
abbrev pub TakesAt : ℕ → List ℕ → AcquireStage → Type 0
TakesAt c ws acquires.LoadsHead = Unit {0}
TakesAt c ws (acquires.LoadsNext head) =
    IsOpen c head × (head_of ws ≡ head) × (proposed head < c)
TakesAt c ws (acquires.ExchangesHead head next) = IsOpen c head × (head_of ws ≡ head)
TakesAt c ws (acquires.Claims i) = i < c
TakesAt c ws (acquires.Scans i) = (i < c) × AllClaimed c ws i

-- an acquire goes on, claims an index that nobody has claimed, or fails where each index is claimed
abbrev pub AcquireLeads : ℕ → AcquireStage → List ℕ → List ℕ → List (Option ℕ) → After acquire_calls.Acquire Acquired → Type 0
AcquireLeads c stage ws ws' hs (GoOn acquire) =
    Good c ws' hs (acquire_counts acquire.stage) × (acquire.capacity ≡ c) × TakesAt c ws' acquire.stage
    × (acquire_number c stage 0 + 1 ≤ acquire_number c acquire.stage 0)
AcquireLeads c stage ws ws' hs (Done (Ok i)) =
    Good c ws' (set hs i (Some 0)) 0 × (i < c) × (holder hs i ≡ None) × (acquire_number c stage 0 + 1 ≤ 4 + c)
AcquireLeads c stage ws ws' hs (Done (Err failures.OutOfIndices)) =
    Good c ws' hs 0 × ((i : ℕ) → i < c → holder hs i ≢ None) × (acquire_number c stage 0 + 1 ≤ 4 + c)
AcquireLeads c stage ws ws' hs (Done (Err failures.IsLocked)) = ⊥

-- one index has at most one holder
one_held_most : (o : Option ℕ) → one_held o ≤ 1
one_held_most = grind arith

-- where as many indices are held as there are, each is held
all_held : (hs : List (Option ℕ)) (c i : ℕ) → held_below hs c ≡ c → i < c → holder hs i ≢ None
all_held hs c i full below none =
    let less = sum_less (λ j. one_held (holder hs j)) c i (λ j. one_held_most (holder hs j)) below (ap one_held none) in
    absurd (omega arith)

-- of `c` indices, in the words `ws`, of which `hs` says who has claimed each
module _ (c : ℕ) (ws : List ℕ) (hs : List (Option ℕ)) (opened : counted_in ws ≢ locked) where
  -- the operation of the next step of an acquire
  abbrev pub acquired_by : AcquireStage → Option Ask
  acquired_by stage = ask_of (acquire_asks c stage)

  abbrev call_at : AcquireStage → acquire_calls.Acquire
  call_at stage = record { capacity = c; stage = stage }

  -- the acquire comes to `a` by the step at this stage, as `AcquireLeads` says
  abbrev StageLeads : AcquireStage → After acquire_calls.Acquire Acquired → Type 0
  StageLeads stage a = AcquireLeads c stage ws (words_after ws (acquired_by stage)) hs a

  -- a step of an acquire is on a word of the indices, has the result that `AcquireLeads` says without a
  -- turn back, and leaves the set unlocked
  pub record AcquireStep (stage : AcquireStage) : Type 0 where
    pub on : IsOn ws (acquire_asks c stage)
    pub leads : StageLeads stage (acquire_takes (call_at stage) stage (old_of ws (acquired_by stage)))
    pub stays : acquire_goes_back c stage (old_of ws (acquired_by stage)) ≡ false
    pub unlocked : counted_in (words_after ws (acquired_by stage)) ≢ locked

  -- ---- the load of the head

  module _ (set_good : Good c ws hs 0) where
    -- the load leaves the words
    loaded : words_after ws (acquired_by acquires.LoadsHead) ≡ ws
    loaded = set-get_or ws 0 0

    -- the load of the head leaves the set right
    good_loaded : Good c (words_after ws (acquired_by acquires.LoadsHead)) hs 0
    good_loaded = rw loaded set_good

    -- where the head counts the capacity, each index is claimed
    full : borrowed (head_of ws) ≡ c → (i : ℕ) → i < c → holder hs i ≢ None
    full = grind (arith, counts_right, all_held)

    -- an acquire that sees the head goes on, or fails where each index is claimed
    sees : StageLeads acquires.LoadsHead (acquire_sees (call_at acquires.LoadsHead) (head_of ws))
    sees = grind (arith, by_test, head_of, borrowed, locked, by_eq, good_loaded, full, loaded, nat_tests)

    -- the load of the head has the result that `AcquireLeads` says
    loads_head : AcquireStep acquires.LoadsHead
    loads_head = grind (arith, sees, locked, loaded)

    -- ---- the load of the next index

    -- the load of the next index has the result that `AcquireLeads` says
    loads_next : (head : ℕ) → IsOpen c head → head_of ws ≡ head → proposed head < c → AcquireStep (acquires.LoadsNext head)
    loads_next = grind (arith, set-get_or, next_word, head_of, locked)

    -- ---- the exchange of the head, which finds it as it was

    -- the exchange of the head, which is still the one that was loaded, has the result
    -- that `AcquireLeads` says
    exchanges_head : (head next : ℕ) → IsOpen c head → head_of ws ≡ head → AcquireStep (acquires.ExchangesHead head next)
    exchanges_head head next at head_is =
        let wide = set_good.wide in
        let some = set_good.some in
        let is_same : (head_of ws == head) ≡ true = grind (arith, nat_tests) in
        let new : words_after ws (acquired_by (acquires.ExchangesHead head next))
        ≡ set ws 0 (head_taken (head_of ws) next) =
        rw is_same (ap (λ h. set ws 0 (head_taken h next)) (sym head_is)) in
        let good : Good c (words_after ws (acquired_by (acquires.ExchangesHead head next))) hs 1 =
        rw new (takes c ws hs 0 next set_good opened (λ all. at.1 (ap borrowed (sym head_is) ∙ all))) in
        let unlocked = unlocked_for c (words_after ws (acquired_by (acquires.ExchangesHead head next))) hs 1 good (omega arith) in
        grind (arith, nat_tests, by_test)

  -- ---- the claim of a flag

  module _ (good : Good c ws hs 1) (i : ℕ) (below : i < c) where
    -- the `or` that claims the flag of index `i`
    abbrev claims_by : Option Ask
    claims_by = Some (record { word = flag_word c i; op = Or (flag i) })

    -- the word of the flag before the claim
    abbrev old : ℕ
    old = get_or ws (flag_word c i) 0

    -- where the flag was clear, the index is claimed and the acquire is not counted any more
    claimed : has_flag old i ≡ false → Good c (words_after ws claims_by) (set hs i (Some 0)) 0
    claimed clear = claims c ws hs i below 0 0 clear good

    -- where the flag stood, the words are right for the same claims
    stood_good : has_flag old i ≡ true → Good c (words_after ws claims_by) hs 1
    stood_good stood = claims_again c ws hs i below 1 stood good

    -- the claim of the flag leaves the head
    head_same : head_of (words_after ws claims_by) ≡ head_of ws
    head_same = head_stays c ws (flag_word c i) (bit_or old (flag i)) (omega arith)

    -- the claim leaves the set unlocked
    still_unlocked : counted_in (words_after ws claims_by) ≢ locked
    still_unlocked shut = opened (ap borrowed (sym head_same) ∙ shut)

    -- the word of the flag is one of the set's
    is_on : flag_word c i < length ws
    is_on = let wide = good.wide in let low = flag_within c i below in omega arith

    -- the claim of the proposed index has the result that `AcquireLeads` says
    claims_proposed : AcquireStep (acquires.Claims i)
    claims_proposed = grind (arith, is_on, by_test, has_flag, stood_good, claimed, was_free, still_unlocked)

    module _ (all : AllClaimed c ws i) where
      -- a further claimed flag makes all flags up to it claimed
      one_more : is_claimed c ws i ≡ true → AllClaimed c ws (i + 1)
      one_more = grind arith

      -- some flag is free, so a scan whose flag stands is not at the last index
      not_last : has_flag old i ≡ true → i + 1 < c
      not_last stood = ⊎_elim (λ (less : i + 1 < c). less) past (cases_lt (i + 1) c)
        where
          -- the scan is not at its end, since some flag is free
          past : c ≤ i + 1 → i + 1 < c
          past more =
              let end : i + 1 ≡ c = omega arith in
              absurd (some_free c ws hs 1 good (omega arith) (subst (AllClaimed c ws) end (one_more stood)))

      -- a step of a scan has the result that `AcquireLeads` says
      scans : AcquireStep (acquires.Scans i)
      scans = go (has_flag old i) refl
        where
          -- the cases are whether the flag stood
          go : (b : Bool) → has_flag old i ≡ b → AcquireStep (acquires.Scans i)
          go = grind (arith, not_last, is_on, stood_good, still_claimed, one_more, still_unlocked, claimed, was_free, nat_tests)

  -- each step of an acquire has the result that `AcquireLeads` says, where the acquire stands at its stage
  pub acquire_step : (stage : AcquireStage) → TakesAt c ws stage → Good c ws hs (acquire_counts stage) → AcquireStep stage
  acquire_step = grind (arith, loads_head, loads_next, exchanges_head, claims_proposed, scans)
