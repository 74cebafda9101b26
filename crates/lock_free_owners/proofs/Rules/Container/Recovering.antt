-- What the closure of a recovery of a container was asked at each stage (`SoFar`), and that each step
-- and answer keeps it.
use Rattle.lock_free_owners.proofs.Names.{◌≡◌, ℕ, ◌+◌, ◌<◌, ◌≤◌, nat_lt, Bool, true, false, true≢false, ◌==◌, Some}
use Rattle.lock_free_owners.proofs.Names.{None, List, [], ◌∷◌, ◌++◌, length, append-nil, refl, sym, ap, ◌∙◌, subst}
use Rattle.lock_free_owners.proofs.Names.{arith, if◌then◌else◌, length-append, All, FoldsTo, FoldsTo-push}
use Rattle.lock_free_owners.proofs.Names.{All-push, All-weaker, all_pairs_push, by_test, by_eq, After, GoOn, Done}
use Rattle.lock_free_owners.proofs.Names.{ReleaseMode, ReleaseState, DeadOwner, Coding, View, is_locked}
use Rattle.lock_free_owners.proofs.Names.{locked, raise_after, first_lock, lock_after, is_even, goes_to, recover_sees}
use Rattle.lock_free_owners.proofs.Names.{recover_ends, recover_raises, recover_keeps, HasFound, MayCome, with_last}
use Rattle.lock_free_owners.proofs.Names.{told, freed, hides, came_locked, seen_under, IsToFree, IsFreed, by_bool}
use Rattle.steps.specs.declared.indices.enums.ReleaseState.TheVariants.{Locked}
use Rattle.steps.specs.declared.indices.robust.parts.Raise as raises
use Rattle.steps.specs.declared.indices.robust.parts.Lock.{Lock}
use Rattle.steps.specs.declared.indices.robust.parts.Lock.TheVariants as locks
use Rattle.steps.specs.declared.container.recover.Recover.{Recover}
use Rattle.steps.specs.declared.container.recover.RecoverStage.{RecoverStage}
use Rattle.steps.specs.declared.container.recover.RecoverStage.TheVariants as recovers
use Rattle.steps.specs.Container.Recover.{recover_comes_to, recover_raised}
use Rattle.steps.specs.Container.Recover.{recover_locked, recover_takes}
use Rattle.history_owners.specs.ContainerRecovery.{RecoverIn, Came, HasFreed}
use Rattle.history_owners.specs.ContainerRecovery.{visits_after}
use Rattle.history_owners.specs.ContainerRecovery as came
use Rattle.lock_free_owners.specs.Container.Questions.{Answered, AnswersAscend, asks, TakesValues}
use Rattle.lock_free_owners.specs.Container.RecoverContract.{question_at, questions_of, AreVisits}
use Rattle.lock_free_owners.specs.Container.RecoverTurns.{RecoverAsks}

-- A recovery of a container: its closure, the container, the dead owner, and the view in which it began.
pub record RecoveryCase (T F : Type 0) : Type 1 where
  -- how a value is coded in words
  pub code : Coding T
  -- how the closure answers when it is asked about a value, and what becomes of it
  pub step : F → T → Bool → F → Type 0
  -- how many indices the container has, and whose indices are freed, in which mode
  pub capacity : ℕ
  pub given : DeadOwner
  -- the view in which the recovery began, and the closure as it was then
  pub base : View T
  pub predicate : F

module _ {T F : Type 0} (recovery : RecoveryCase T F) where
  open recovery use {code, step, capacity as cap, given, base, predicate as f}

  -- The container was seen locked when the recovery began.
  abbrev shut : Bool
  shut = is_locked base.seen

  -- what the recovery did at the indices that it came to, the last one first
  abbrev Visits : Type 0
  Visits = List (ℕ × Came T)

  -- the questions are about indices below this one
  abbrev Below : ℕ → List (Answered T) → Type 0
  Below low xs = All (λ (a : Answered T). a.index < low) xs

  -- The questions at these visits, which are at indices below `low`, led the closure from f to p. They
  -- ascend, and there are none if the container was locked at first.
  pub record Asked (low : ℕ) (visits : Visits) (p : F) : Type 0 where
    pub are : AreVisits given.mode low visits
    pub questions : FoldsTo (asks step) f (questions_of visits) p
    pub ascend : AnswersAscend cap (questions_of visits)
    pub below : Below low (questions_of visits)
    pub few : length (questions_of visits) ≤ low
    pub nothing : shut ≡ true → questions_of visits ≡ []

  -- No answers ascend.
  no_answers : AnswersAscend {T = T} cap []
  no_answers = grind arith

  -- At first no visit was made, and the closure is f.
  none : (low : ℕ) (p : F) → p ≡ f → Asked low [] p
  none low p p_is_f = grind (arith, no_answers)

  -- Visits below an index are below each higher one.
  higher : (low high : ℕ) → low ≤ high → (visits : Visits) → AreVisits given.mode low visits → AreVisits given.mode high visits
  higher low high up [] h = tt
  higher low high up (visit ∷ before) h = ((let l = h.0 in omega arith), h.1, h.2)

  -- What the closure was asked about indices below one, it was asked about indices below each higher one.
  pub widen : {low high : ℕ} {visits : Visits} {p : F} → Asked low visits p → low ≤ high → Asked high visits p
  widen {visits} asked low_up_to_high = grind (arith, higher, questions_of)

  -- other visits with the same questions led the closure to p too
  with_same : (low : ℕ) (xs ys : Visits) (p : F) → questions_of xs ≡ questions_of ys → AreVisits given.mode low ys → Asked low xs p → Asked low ys p
  with_same low xs ys p questions_of_is visits asked = grind (arith, asks, length)

  -- A recovery comes further at the index of its last visit, and asks the closure nothing anew.
  further : (index : ℕ) (came next : Came T) (before : Visits) (p : F) → question_at index came ≡ question_at index next → MayCome given.mode next
      → Asked (index + 1) ((index, came) ∷ before) p → Asked (index + 1) ((index, next) ∷ before) p
  further index was next before p same_question may_come asked = grind (arith, with_same, questions_of)

  -- A visit of an index at which no value stands asks the closure nothing.
  comes_none : (index : ℕ) (before : Visits) (p : F) → Asked index before p → Asked (index + 1) ((index, HasFound None) ∷ before) p
  comes_none index before p asked = grind (arith, widen, with_same, append-nil, questions_of)

  -- A visit whose value the closure was asked about adds one question with its answer, and the closure
  -- goes from p to q.
  more : (index : ℕ) (came : Came T) {value : T} {answer : Bool} {before : Visits} {p q : F}
      → question_at index came ≡ record { index = index; value = value; yes = answer } ∷ [] → MayCome given.mode came → shut ≡ false → index < cap
      → step p value answer q → Asked index before p → Asked (index + 1) ((index, came) ∷ before) q
  more index came {value} {answer} {before} {p} {q} is may free within hit h =
      let a : Answered T = record { index = index; value = value; yes = answer } in
      let asked : List (Answered T) = questions_of before in
      let longer = length-append asked (a ∷ []) in
      let l = h.few in
      let same : asked ++ a ∷ [] ≡ questions_of ((index, came) ∷ before) = ap (λ qs. asked ++ qs) (sym is) in
      record {
        are = (omega arith, may, h.are);
        questions = subst (λ qs. FoldsTo (asks step) f qs q) same (FoldsTo-push (asks step) f asked p a q h.questions hit);
        ascend = subst (λ qs. AnswersAscend cap qs) same (
          all_pairs_push (λ (x y : Answered T). x.index < y.index) asked a h.ascend.0 h.below,
          All-push (λ (x : Answered T). x.index < cap) asked a h.ascend.1 within,
        );
        below = subst (λ qs. Below (index + 1) qs) same (All-push (λ (x : Answered T). x.index < index + 1) asked a
            (All-weaker (λ (x : Answered T). x.index < index) (λ (x : Answered T). x.index < index + 1) (λ x l. omega arith) asked h.below) (omega arith));
        few = subst (λ qs. length qs ≤ index + 1) same (omega arith);
        nothing = λ t. absurd (true≢false (sym t ∙ free));
      }

  -- What the closure was asked at each stage of the recovery, with these visits and with
  -- this value in the room.
  abbrev pub SoFar : RecoverStage → Visits → T → F → Type 0
  SoFar recovers.LoadsCounter visits value p = (p ≡ f) × (visits ≡ [])
  SoFar (recovers.LoadsCell index) visits value p = Asked index visits p
  SoFar (recovers.LoadsCount index) visits value p = Asked index visits p
  SoFar (recovers.LoadsWord index count at) visits value p = Asked index visits p
  SoFar (recovers.ChecksCount index count) visits value p = Asked index visits p
  SoFar (recovers.Asks index count) visits value p =
      (before : Visits) × (visits ≡ (index, came.HasAsked value) ∷ before) × Asked index before p
  SoFar (recovers.EmptiesCell index count) visits value p =
      (now : Came T) × (before : Visits) × (visits ≡ (index, now) ∷ before) × IsToFree count now
      × Asked (index + 1) ((index, told now) ∷ before) p
  SoFar (recovers.Hides index count) visits value p =
      (gone : T) × (before : Visits) × (visits ≡ (index, HasFreed (Some gone) false false) ∷ before) × Asked (index + 1) visits p
  SoFar (recovers.Raises index raise) visits value p = IsFreed index visits × Asked (index + 1) visits p
  SoFar (recovers.Locks index lock) visits value p = IsFreed index visits × Asked (index + 1) visits p
  SoFar recovers.LoadsCounterAgain visits value p = Asked cap visits p
  SoFar (recovers.AddsChange state) visits value p = Asked cap visits p

  -- where it asks the container was not locked when it began
  abbrev pub Knows : RecoverStage → Type 0
  Knows (recovers.Asks index count) = shut ≡ false
  Knows stage = Unit {0}

  -- the closure may be asked about the value
  pub may_ask : {pre : F → T → Type 0} → (shut ≡ false → TakesValues pre step cap f) → (stage : RecoverStage)
      → RecoverIn code.size cap given.mode stage → Knows stage
      → (visits : Visits) (value : T) (p : F) → SoFar stage visits value p → RecoverAsks pre stage value p
  may_ask takes stage at free visits value p so = grind arith

  -- The recovery stands at a word of the container, not at a question, so its step calls no closure.
  abbrev pub IsQuiet : RecoverStage → Type 0
  IsQuiet (recovers.Asks index count) = ⊥
  IsQuiet stage = Unit {0}

  module _ {R : Type 0} where
    -- what the closure was asked where the recovery goes on; once it has ended, with all its visits
    abbrev pub Onward : After (Recover T R) ReleaseState → Visits → T → F → Type 0
    Onward (GoOn d) visits value p = SoFar d.stage visits value p
    Onward (Done state) visits value p = Asked cap visits p

    module _ (c : Recover T R) where
      -- `Onward` holds of an equal next stage and equal visits too.
      so_then : (value : T) (p : F) (r s : After (Recover T R) ReleaseState) (xs ys : Visits) → r ≡ s → xs ≡ ys → Onward s ys value p → Onward r xs value p
      so_then value p r s xs ys r_is_s xs_are_ys onward = grind arith

      -- A recovery that comes to an index, or behind the last one, has asked the closure about indices
      -- below it only.
      comes : (index : ℕ) (visits : Visits) (value : T) (p : F) → index ≤ cap → Asked index visits p → Onward (recover_comes_to c index) visits value p
      comes index visits value p within h =
          by_test (λ stage. Onward (goes_to c stage) visits value p) (nat_lt index c.capacity) (recovers.LoadsCell index)
          recovers.LoadsCounterAgain
          (λ t. h)
          (λ t. widen h within)

      -- When the recovery sees the change number of an index, it has asked the closure about
      -- lower indices only.
      sees_count : (index count : ℕ) (visits : Visits) (value : T) (p : F) → Asked index visits p
          → Onward (recover_sees c index count) (seen_under index count visits) value p
      sees_count index count visits value p h =
          by_bool (is_even count)
          (λ e. so_then value p (recover_sees c index count) (goes_to c (recovers.EmptiesCell index count)) (seen_under index count visits)
          ((index, HasFound None) ∷ visits) (rw e refl) (rw e refl) (HasFound None, visits, refl, e, comes_none index visits p h))
          (λ e. so_then value p (recover_sees c index count) (goes_to c (recovers.LoadsWord index count 0)) (seen_under index count visits) visits
          (rw e refl) (rw e refl) h)

      -- A step of a raise of the counter asks the closure nothing.
      raised : (index : ℕ) (by : ReleaseMode) (visits : Visits) (value : T) (p : F) (a : After raises.Raise ReleaseState) → index < cap → IsFreed index visits
          → Asked (index + 1) visits p → Onward (recover_raised c index by a) visits value p
      raised index by visits value p a index_below_cap is_freed asked = grind (arith, widen, comes)

      -- A step of the lock asks the closure nothing.
      locking : (index : ℕ) (visits : Visits) (value : T) (p : F) (a : After Lock ReleaseState) → index < cap → IsFreed index visits
          → Asked (index + 1) visits p → Onward (recover_locked c index a) visits value p
      locking index visits value p a index_below_cap is_freed asked = grind (arith, comes)

      -- After the exchange that freed the index the recovery goes on as `Onward` says. A value stood
      -- there if the element's number was odd.
      freed_on : (index count : ℕ) (now : Came T) (before : Visits) (value : T) (p : F) → IsToFree count now → Asked (index + 1) ((index, told now) ∷ before) p
          → Onward (if is_even count then recover_raises c index else goes_to c (recovers.Hides index count)) ((index, freed now) ∷ before) value p
      freed_on index count now before value p to_free asked = grind (arith, so_then, is_even, recover_raises, goes_to, further)

      module _ (value_of : R → T) (with_word : R → ℕ → ℕ → R) where
        -- after the answer k the closure was asked as the recovery's next stage, or its end, says
        abbrev pub StepsOnward : RecoverStage → Visits → R → ℕ → F → Type 0
        StepsOnward stage visits room k p =
            Onward (recover_takes code.size c stage given k) (visits_after given.owner stage k (value_of room) visits)
            (value_of (recover_keeps with_word stage room k)) p

        -- a step at a word leaves what the closure was asked
        pub quietly : (stage : RecoverStage) → IsQuiet stage → RecoverIn code.size cap given.mode stage → (visits : Visits) (room : R) (p : F) (k : ℕ)
            → SoFar stage visits (value_of room) p → StepsOnward stage visits room k p
        quietly recovers.LoadsCounter still at visits room p k so =
            by_eq (λ z. Onward z visits (value_of room) p) k locked (recover_ends c Locked) (recover_comes_to c 0)
            (λ e. begun cap)
            (λ ne. comes 0 visits (value_of room) p (omega arith) (begun 0))
          where
            -- as it begins nothing was visited, and the closure was not asked
            begun : (low : ℕ) → Asked low visits p
            begun low = subst (λ vs. Asked low vs p) (sym so.1) (none low p so.0)
        -- at a cell: it is the owner's, or the recovery goes on to the next one
        quietly (recovers.LoadsCell index) still at visits room p k so =
            by_eq (λ z. Onward z visits (value_of room) p) k given.owner (goes_to c (recovers.LoadsCount index)) (recover_comes_to c (index + 1))
            (λ e. so)
            (λ ne. comes (index + 1) visits (value_of room) p (omega arith) (widen so (omega arith)))
        quietly (recovers.LoadsCount index) still at visits room p k so = sees_count index k visits (value_of room) p so
        -- at a word of the value: the room has one word more
        quietly (recovers.LoadsWord index count place) still at visits room p k so =
            by_test (λ z. Onward z visits (value_of (with_word room place k)) p) (nat_lt (place + 1) code.size)
            (goes_to c (recovers.LoadsWord index count (place + 1))) (goes_to c (recovers.ChecksCount index count)) (λ t. so) (λ t. so)
        -- at the check of the number: it has stayed, so the recovery asks about the copied
        -- value, or it copies again
        quietly (recovers.ChecksCount index count) still at visits room p k so =
            by_bool (k == count)
            (λ e. so_then (value_of room) p (recover_takes code.size c (recovers.ChecksCount index count) given k)
            (goes_to c (recovers.Asks index count))
            (visits_after given.owner (recovers.ChecksCount index count) k (value_of room) visits) ((index, came.HasAsked (value_of room)) ∷ visits)
            (rw e refl) (rw e refl) (visits, refl, so))
            (λ e. so_then (value_of room) p (recover_takes code.size c (recovers.ChecksCount index count) given k) (recover_sees c index k)
            (visits_after given.owner (recovers.ChecksCount index count) k (value_of room) visits) (seen_under index k visits)
            (rw e refl) (rw e refl) (sees_count index k visits (value_of room) p so))
        quietly (recovers.Asks index count) still at visits room p k so = absurd still
        -- at the exchange of the cell: it frees the index, or the owner has it no more
        quietly (recovers.EmptiesCell index count) still at visits room p k so =
            let now = so.0 in
            let before = so.1 in
            by_bool (k == given.owner)
            (λ e. so_then (value_of room) p (recover_takes code.size c (recovers.EmptiesCell index count) given k)
            (if is_even count then recover_raises c index else goes_to c (recovers.Hides index count))
            (visits_after given.owner (recovers.EmptiesCell index count) k (value_of room) visits) ((index, freed now) ∷ before)
            (rw e refl) (rw e (ap (with_last freed) so.2)) (freed_on index count now before (value_of room) p so.3 so.4))
            (λ e. so_then (value_of room) p (recover_takes code.size c (recovers.EmptiesCell index count) given k) (recover_comes_to c (index + 1))
            (visits_after given.owner (recovers.EmptiesCell index count) k (value_of room) visits) ((index, told now) ∷ before)
            (rw e refl) (rw e (ap (with_last told) so.2)) (comes (index + 1) ((index, told now) ∷ before) (value_of room) p (omega arith) so.4))
        -- at the exchange that hides the value, which asks nothing
        quietly (recovers.Hides index count) still at visits room p k so =
            let gone = so.0 in
            let before = so.1 in
            let first : Came T = HasFreed (Some gone) false false in
            let next : Came T = HasFreed (Some gone) (k == count) false in
            so_then (value_of room) p (recover_raises c index) (recover_raises c index) (with_last (hides (k == count)) visits) ((index, next) ∷ before) refl
            (ap (with_last (hides (k == count))) so.2) (
              (Some gone, (k == count), before, refl, λ e. absurd (cc)),
              further index first next before p refl ((λ e. absurd (cc)), (λ e. absurd (cc))) (subst (λ vs. Asked (index + 1) vs p) so.2 so.3),
            )
        -- at the raise of the counter, and at the lock, which ask nothing
        quietly (recovers.Raises index raise) still at visits room p k so =
            raised index given.mode visits (value_of room) p (raise_after raise k) at so.0 so.1
        quietly (recovers.Locks index (locks.Counts count)) still at visits room p k so =
            locking index visits (value_of room) p (lock_after c.capacity (locks.Counts count) k) at.1 so.0 so.1
        -- at the exchange that locks: it locks, or the lock counts again
        quietly (recovers.Locks index (locks.ExchangesCounter counter)) still at visits room p k so =
            let found = so.0.0 in
            let hid = so.0.1 in
            let before = so.0.2 in
            let next : Came T = HasFreed found hid true in
            by_bool (k == counter)
            (λ e. so_then (value_of room) p (recover_takes code.size c (recovers.Locks index (locks.ExchangesCounter counter)) given k)
            (recover_comes_to c (index + 1))
            (visits_after given.owner
            (recovers.Locks index (locks.ExchangesCounter counter)) k (value_of room)
            visits)
            ((index, next) ∷ before)
            (rw e refl) (rw e (ap (with_last came_locked) so.0.3))
            (comes (index + 1) ((index, next) ∷ before) (value_of room) p (omega arith)
            (further index (HasFreed found hid false) next before p refl (so.0.4, (λ t. at.0)) (subst (λ vs. Asked (index + 1) vs p) so.0.3 so.1))))
            (λ e. so_then (value_of room) p (recover_takes code.size c (recovers.Locks index (locks.ExchangesCounter counter)) given k)
            (recover_locked c index (GoOn first_lock))
            (visits_after given.owner (recovers.Locks index (locks.ExchangesCounter counter)) k (value_of room) visits) visits
            (rw e refl) (rw e refl) so)
        quietly recovers.LoadsCounterAgain still at visits room p k so = so
        quietly (recovers.AddsChange state) still at visits room p k so = so

      -- An answer of the closure adds one question to the visits, and the recovery goes on with the
      -- closure at q: to free the index after a yes, past it after a no.
      pub answered : (index count : ℕ) {visits : Visits} {value : T} (answer : Bool) {p q : F} → shut ≡ false → (index < cap) × (is_even count ≡ false)
          → step p value answer q → SoFar (recovers.Asks index count) visits value p
          → Onward (recover_takes code.size c (recovers.Asks index count) given (if answer then 1 else 0)) visits value q
      answered index count {value} true free at hit so =
          (came.HasAsked value, so.0, so.1, at.1, more index (HasFound (Some value)) refl tt free at.0 hit so.2)
      answered index count {visits} {value} false {q} free at hit so =
          let low = at.0 in
          comes (index + 1) visits value q (omega arith)
          (subst (λ vs. Asked (index + 1) vs q) (sym so.1) (more index (came.HasAsked value) refl tt free at.0 hit so.2))
