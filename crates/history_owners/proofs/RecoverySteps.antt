-- The steps of a recovery of a container, by its visits: at each stage and after each step it has written
-- what its visits tell.
use Rattle.history.proofs.Names.{◌≡◌, ℕ, ◌+◌, ◌<◌, ◌≤◌, ◌==◌, Bool, true, false, Option, Some, None, List, []}
use Rattle.history.proofs.Names.{◌∷◌, ◌++◌, if◌then◌else◌, append_assoc, append-nil, refl, sym, ap, ◌∙◌, arith}
use Rattle.history.proofs.Names.{nat_tests, is_even, total_words, goes_to, recover_sees, locked}
use Rattle.history.proofs.Names.{first_lock, by_test}
use Rattle.steps.specs.declared.ask.Ask.{Ask}
use Rattle.steps.specs.declared.ask.After.{After}
use Rattle.steps.specs.declared.ask.After.TheVariants.{GoOn}
use Rattle.steps.specs.declared.container.recover.DeadOwner.{DeadOwner}
use Rattle.steps.specs.declared.indices.enums.ReleaseMode.{ReleaseMode}
use Rattle.steps.specs.declared.indices.enums.ReleaseMode.TheVariants.{LockIfLastIndex}
use Rattle.steps.specs.declared.indices.enums.ReleaseState.{ReleaseState}
use Rattle.steps.specs.declared.indices.robust.parts.Lock.{Lock}
use Rattle.steps.specs.declared.indices.robust.parts.Raise.{Raise}
use Rattle.model.specs.declared.event.Event.{Event}
use Rattle.model.specs.declared.event.Event.TheVariants.{FreedOf}
use Rattle.history.proofs.Names.{Coding, is_question, hidden, question_of}
use Rattle.model.specs.declared.event.Event.TheVariants.{Shown}
use Rattle.history.proofs.Names.{answered}
use Rattle.laws_container.proofs.Core.{data_within}
use Rattle.steps.specs.Container.Recover.{recover_asks, recover_want, recover_comes_to, recover_raised}
use Rattle.steps.specs.Container.Recover.{recover_locked, recover_takes}
use Rattle.steps.specs.declared.ask.After.TheVariants.{Done}
use Rattle.steps.specs.declared.ask.Want.TheVariants as wants
use Rattle.steps.specs.declared.container.recover.Recover.{Recover as Recovering}
use Rattle.steps.specs.declared.container.recover.RecoverStage.{RecoverStage}
use Rattle.steps.specs.declared.container.recover.RecoverStage.TheVariants as recovers
use Rattle.steps.specs.declared.indices.robust.parts.Lock.TheVariants as locks
use Rattle.steps.specs.declared.indices.robust.parts.Raise.TheVariants as raises
use Rattle.model.specs.declared.event.Event.TheVariants.{Told, Locked}
use Rattle.model.specs.Families.Container.Steps.{recover_effects}
use Rattle.history_owners.specs.ContainerRecovery.{RecoverIn, Came, HasAsked, HasFound, HasFreed, wrote_of}
use Rattle.history_owners.specs.ContainerRecovery.{wrote_visits, with_last, told, freed, hides, came_locked, seen_under}
use Rattle.history_owners.specs.ContainerRecovery.{visits_after, IsToFree, IsFreed, VisitsAt, told_yet, recovers_values}
use Rattle.history.proofs.CallsIn.{by_bool, AsksFor}
use Rattle.history_owners.proofs.ContainerCalls.{set_words, change_low, count_low}
use Rattle.history_owners.proofs.Containers.{fewer}
use Rattle.history_owners.proofs.RobustParts.{raise_asks, lock_asks, LockOn, lock_on}

-- ---- what a recovery asks for

-- a recovery asks for a word of the container at each stage but its questions
pub recover_words : (size capacity : ℕ) (given : DeadOwner) (stage : RecoverStage) → RecoverIn size capacity given.mode stage
    → is_question (recover_asks size capacity stage given.owner) ≡ false → AsksFor (total_words capacity size) (recover_asks size capacity stage given.owner)
recover_words size capacity given recovers.LoadsCounter recover_in still = (_, omega arith, refl)
recover_words size capacity given (recovers.LoadsCell index) recover_in still = (_, omega arith, refl)
recover_words size capacity given (recovers.LoadsCount index) recover_in still = (_, count_low capacity size index recover_in, refl)
recover_words size capacity given (recovers.LoadsWord index count at) recover_in still = (_, data_within capacity size index at recover_in.0 recover_in.2, refl)
recover_words size capacity given (recovers.ChecksCount index count) recover_in still = (_, count_low capacity size index recover_in.0, refl)
recover_words size capacity given (recovers.Asks index count) recover_in still = absurd (cc)
recover_words size capacity given (recovers.EmptiesCell index count) recover_in still = (_, omega arith, refl)
recover_words size capacity given (recovers.Hides index count) recover_in still = (_, count_low capacity size index recover_in, refl)
recover_words size capacity given (recovers.Raises index raise) recover_in still = grind (arith, fewer, set_words, raise_asks)
recover_words size capacity given (recovers.Locks index lock) recover_in still = grind (arith, fewer, set_words, lock_asks)
recover_words size capacity given recovers.LoadsCounterAgain recover_in still = (_, omega arith, refl)
recover_words size capacity given (recovers.AddsChange state) recover_in still = (_, change_low capacity size, refl)

-- what a recovery hears of an operation is what the word was before it
pub recover_found : (size capacity : ℕ) (given : DeadOwner) (stage : RecoverStage) (a : Ask) (n : ℕ)
    → recover_asks size capacity stage given.owner ≡ wants.Ask a → answered a.op n ≡ n
recover_found = grind arith

module _ {T R : Type 0} (size : ℕ) (c : Recovering T R) (given : DeadOwner) where
  -- the recovery goes on after an answer, at a stage that is no question
  abbrev pub AnswersOn : After (Recovering T R) ReleaseState → Type 0
  AnswersOn (GoOn d) = is_question (recover_want size d given) ≡ false
  AnswersOn (Done e) = ⊥

  -- a Bool is not false and true
  pub no_answer : {A : Type 0} (b : Bool) → b ≡ false → b ≡ true → A
  no_answer b still due = (let both : false ≡ true = sym still ∙ due in absurd (cc))

  -- an answer to its question leads a recovery to a stage that is no question
  pub answers_on : (stage : RecoverStage) (n : ℕ) → is_question (recover_asks size c.capacity stage given.owner) ≡ true
      → AnswersOn (recover_takes size c stage given n)
  answers_on = grind arith

-- ---- where a recovery goes on after a step, and what it has written then

-- at the check of the element's number the value in the room is the one that stays; at other
-- stages it may change
abbrev pub Keeps : {T : Type 0} → RecoverStage → T → T → Type 0
Keeps (recovers.ChecksCount index count) value now = now ≡ value
Keeps stage value now = Unit {0}

-- A recovery at a stage, as a party makes it for a dead owner on a container, with the words of its room.
pub record RecoveryCase (T R : Type 0) : Type 0 where
  pub code : Coding T
  pub some : 0 < code.size
  pub words_in : R → List ℕ
  pub capacity : ℕ  -- of the container
  pub c : Recovering T R
  pub same : c.capacity ≡ capacity
  pub p : ℕ  -- the party
  pub given : DeadOwner

module _ {T R : Type 0} (case : RecoveryCase T R) where
  open case use {code, some, words_in, capacity, c, same, p, given}

  -- whether the recovery may lock
  abbrev pub mode : ReleaseMode
  mode = given.mode

  -- the visits of the recovery, of which the last one comes first
  abbrev Visits : Type 0
  Visits = List (ℕ × Came T)

  -- what these visits tell was written
  abbrev pub written : Visits → List (Event T)
  written visits = wrote_visits p given.owner visits

  -- what the visit of this index tells was written
  abbrev of_one : ℕ → Came T → List (Event T)
  of_one index came = wrote_of p given.owner index came

  -- after a step a recovery stands within the container and has written what its visits tell, or has ended
  -- and written just that
  abbrev pub RecoverGoes : T → Visits → List (Event T) → After (Recovering T R) ReleaseState → Type 0
  RecoverGoes now visits es (GoOn d) =
      (recovers_values code words_in given).stands capacity d
      × (VisitsAt d.stage now visits × (es ≡ written visits ++ told_yet p given.owner d.stage))
  RecoverGoes now visits es (Done e) = es ≡ written visits

  -- a step that writes nothing leaves what the recovery has written
  quiet : (now : T) (visits : Visits) (es : List (Event T)) (r : After (Recovering T R) ReleaseState) → RecoverGoes now visits es r
      → RecoverGoes now visits (es ++ []) r
  quiet now visits es r recover_goes = grind (arith, append-nil)

  -- at a stage that adds nothing to its visits a recovery has written just what they tell
  bare : (es : List (Event T)) (visits : Visits) → es ≡ written visits ++ [] → es ≡ written visits
  bare es visits es_is = es_is ∙ append-nil (written visits)

  -- a recovery that has written just what its visits tell has written that at a stage that adds nothing
  clothed : (es : List (Event T)) (visits : Visits) → es ≡ written visits → es ≡ written visits ++ []
  clothed es visits es_is = es_is ∙ sym (append-nil (written visits))

  -- what holds of a step after which all is equal holds of this one
  so_then : (now : T) {r s : After (Recovering T R) ReleaseState} {xs ys : Visits} {es fs : List (Event T)} → r ≡ s → xs ≡ ys → es ≡ fs
      → RecoverGoes now ys fs s → RecoverGoes now xs es r
  so_then = grind arith

  -- a recovery that comes to an index, or behind the last one, has written what its visits tell
  comes_to : (now : T) (index : ℕ) → index ≤ capacity → (visits : Visits) (es : List (Event T)) → es ≡ written visits
      → RecoverGoes now visits es (recover_comes_to c index)
  comes_to = grind (arith, by_test, goes_to, clothed, nat_tests)

  -- a recovery that goes on behind an index has written what its visits tell
  next_to : (now : T) (index : ℕ) → index < capacity → (visits : Visits) (es : List (Event T)) → es ≡ written visits
      → RecoverGoes now visits es (recover_comes_to c (index + 1))
  next_to now index low visits es es_is = comes_to now (index + 1) (omega arith) visits es es_is

  -- the recovery has come further with its last visit, and has written more of that index
  further : (index : ℕ) (came next : Came T) (before : Visits) (es more : List (Event T)) → es ≡ written ((index, came) ∷ before)
      → of_one index came ++ more ≡ of_one index next → es ++ more ≡ written ((index, next) ∷ before)
  further = grind (arith, append_assoc)

  -- a yes is told with the next step
  told_even : (index count : ℕ) → is_even count ≡ true → told_yet {T = T} p given.owner (recovers.EmptiesCell index count) ≡ []
  told_even index count even = rw even refl

  told_odd : (index count : ℕ) → is_even count ≡ false → told_yet {T = T} p given.owner (recovers.EmptiesCell index count) ≡ Told p index given.owner ∷ []
  told_odd index count odd = rw odd refl

  -- once its question was answered yes, the last visit tells of the answer
  told_then : (index count : ℕ) (came : Came T) → IsToFree count came
      → of_one index came ++ told_yet p given.owner (recovers.EmptiesCell index count) ≡ of_one index (told came)
  told_then = grind arith

  -- once its cell is empty, the last visit tells that the index is free
  freed_then : (index count : ℕ) (came : Came T) → IsToFree count came
      → of_one index (told came) ++ FreedOf p index given.owner ∷ [] ≡ of_one index (freed came)
  freed_then = grind arith

  -- once it has locked the container, the last visit tells of the lock
  locked_then : (index : ℕ) (found : Option T) (hid : Bool) → of_one index (HasFreed found hid false) ++ Locked p ∷ [] ≡ of_one index (HasFreed found hid true)
  locked_then = grind arith

  -- under the number that was loaded, the recovery copies a value, or finds that nothing stands there
  sees : (now : T) (index count : ℕ) → index < capacity → (visits : Visits) (es : List (Event T)) → es ≡ written visits
      → RecoverGoes now (seen_under index count visits) (es ++ (if is_even count then Shown p index ∷ [] else [])) (recover_sees c index count)
  sees = grind (arith, by_bool, so_then, goes_to, append-nil, told_even, clothed)

  -- after a raise of the counter the recovery goes on, also to the lock, and has written what its visits tell
  raised : (now : T) (index : ℕ) → index < capacity → (by : ReleaseMode) → mode ≡ by → (visits : Visits) (es : List (Event T)) → IsFreed index visits
      → es ≡ written visits ++ [] → (r : After Raise ReleaseState) → RecoverGoes now visits es (recover_raised c index by r)
  raised = grind arith

  -- after a step of its lock the recovery goes on, and has written what its visits tell
  counted : (now : T) (index : ℕ) → index < capacity → mode ≡ LockIfLastIndex → (visits : Visits) (es : List (Event T)) → IsFreed index visits
      → es ≡ written visits ++ [] → (r : After Lock ReleaseState) → LockOn capacity r → RecoverGoes now visits es (recover_locked c index r)
  counted = grind arith

  -- what a step writes: its effects, and its question where it comes to one
  abbrev pub wrote : T → RecoverStage → ℕ → List (Event T)
  wrote value stage k = recover_effects p given value stage k ++ question_of p given stage k

  -- after a step the recovery stands, or has ended, and has written what the visits after the step tell
  abbrev StepLeads : T → T → RecoverStage → ℕ → Visits → List (Event T) → Type 0
  StepLeads value now stage k visits es =
      RecoverGoes now (visits_after given.owner stage k value visits) (es ++ wrote value stage k) (recover_takes code.size c stage given k)

  -- the recovery has emptied the cell of the index: where the number was odd, it goes on to hide the value
  -- that stood there
  freed_here : (now : T) (index count : ℕ) → index < capacity → (came : Came T) (before : Visits) (es : List (Event T)) → IsToFree count came
      → es ≡ written ((index, freed came) ∷ before)
      → RecoverGoes now ((index, freed came) ∷ before) es
      (if is_even count then goes_to c (recovers.Raises index raises.LoadsCounter) else goes_to c (recovers.Hides index count))
  freed_here now index count low (HasAsked value) before es odd es_is =
      let visits : Visits = (index, HasFreed (Some value) false false) ∷ before in
      so_then now {r = if is_even count then goes_to c (recovers.Raises index raises.LoadsCounter) else goes_to c (recovers.Hides index count)}
      {s = goes_to c (recovers.Hides index count)} {xs = visits} {ys = visits} {es = es} {fs = es} (rw odd refl) refl refl
      ((same, low), ((value, before, refl), clothed es visits es_is))
  freed_here now index count low (HasFound None) before es even es_is =
      let visits : Visits = (index, HasFreed None false false) ∷ before in
      so_then now {r = if is_even count then goes_to c (recovers.Raises index raises.LoadsCounter) else goes_to c (recovers.Hides index count)}
      {s = goes_to c (recovers.Raises index raises.LoadsCounter)} {xs = visits} {ys = visits} {es = es} {fs = es} (rw even refl) refl refl
      ((same, low), ((None, false, before, refl, λ e. refl), clothed es visits es_is))
  freed_here now index count low (HasFound (Some value)) before es never es_is = absurd never
  freed_here now index count low (HasFreed found hid lock) before es never es_is = absurd never

  -- after each step a recovery goes on or ends, and has written what its visits tell
  pub recovers_so : (value now : T) (stage : RecoverStage) (k : ℕ) (visits : Visits) {es : List (Event T)} → Keeps stage value now
      → RecoverIn code.size capacity mode stage → VisitsAt stage value visits × (es ≡ written visits ++ told_yet p given.owner stage)
      → StepLeads value now stage k visits es
  -- at its first loads a recovery writes nothing, or what it sees under the number of an element
  recovers_so value now recovers.LoadsCounter k visits {es} keeps recover_in (visits_at, es_is) = grind (arith, quiet, by_test, locked, comes_to, bare)
  recovers_so value now (recovers.LoadsCell index) k visits {es} keeps recover_in (visits_at, es_is) = grind (arith, quiet, by_test, next_to, bare)
  recovers_so value now (recovers.LoadsCount index) k visits {es} keeps recover_in (visits_at, es_is) = grind (arith, append-nil, sees, bare)
  recovers_so value now (recovers.LoadsWord index count place) k visits {es} keeps recover_in (visits_at, es_is) = grind (arith, quiet, by_test, nat_tests)
  recovers_so value now (recovers.ChecksCount index count) k visits {es} keeps recover_in (visits_at, es_is) =
      grind (arith, by_bool, so_then, goes_to, clothed, bare, append-nil, sees)
  recovers_so value now (recovers.Asks index count) k visits {es} keeps recover_in (visits_at, es_is) =
      grind (arith, by_bool, so_then, append-nil, next_to, bare, goes_to, told_odd)
  -- it empties the cell of the index: with the owner still there the index is freed, else the recovery goes
  -- on behind it
  recovers_so value now (recovers.EmptiesCell index count) k visits {es} keeps recover_in (visits_at, es_is) =
      let came = visits_at.0 in
      let before = visits_at.1 in
      let visits_told : es ≡ written ((index, told came) ∷ before) = es_is
      ∙ (ap (λ vs. written vs ++ told_yet p given.owner (recovers.EmptiesCell index count)) visits_at.2
      ∙ (append_assoc (written before) (of_one index came) (told_yet p given.owner (recovers.EmptiesCell index count))
      ∙ ap (λ zs. written before ++ zs) (told_then index count came visits_at.3))) in
      -- the cell had the owner: the index is freed, and its value is hidden next, where one stood there
      by_bool (k == given.owner)
      (λ e. so_then now {r = recover_takes code.size c (recovers.EmptiesCell index count) given k}
      {s = if is_even count then goes_to c (recovers.Raises index raises.LoadsCounter) else goes_to c (recovers.Hides index count)}
      {xs = visits_after given.owner (recovers.EmptiesCell index count) k value visits} {ys = (index, freed came) ∷ before}
      {es = es ++ wrote value (recovers.EmptiesCell index count) k} {fs = es ++ FreedOf p index given.owner ∷ []}
      (rw e refl) (rw e (ap (with_last freed) visits_at.2)) (rw e refl)
      (freed_here now index count recover_in came before (es ++ FreedOf p index given.owner ∷ []) visits_at.3
      (further index (told came) (freed came) before es (FreedOf p index given.owner ∷ []) visits_told (freed_then index count came visits_at.3))))
      -- the cell had another number: the answer yes is told, and nothing more is written of the index
      (λ e. so_then now {r = recover_takes code.size c (recovers.EmptiesCell index count) given k} {s = recover_comes_to c (index + 1)}
      {xs = visits_after given.owner (recovers.EmptiesCell index count) k value visits} {ys = (index, told came) ∷ before}
      {es = es ++ wrote value (recovers.EmptiesCell index count) k} {fs = es}
      (rw e refl) (rw e (ap (with_last told) visits_at.2)) (rw e (append-nil es))
      (next_to now index recover_in ((index, told came) ∷ before) es visits_told))
  -- it hides the value, unless the element's number has changed since
  recovers_so value now (recovers.Hides index count) k visits {es} keeps recover_in (visits_at, es_is) =
      let gone = visits_at.0 in
      let before = visits_at.1 in
      let first : Came T = HasFreed (Some gone) false false in
      let next : Came T = HasFreed (Some gone) (k == count) false in
      so_then now {r = goes_to c (recovers.Raises index raises.LoadsCounter)} {s = goes_to c (recovers.Raises index raises.LoadsCounter)}
      {xs = with_last (hides (k == count)) visits} {ys = (index, next) ∷ before}
      {es = es ++ (hidden p index count k ++ [])} {fs = es ++ (hidden p index count k ++ [])} refl
      (ap (with_last (hides (k == count))) visits_at.2) refl (
        (same, recover_in),
        (
          (Some gone, (k == count), before, refl, λ e. absurd (cc)),
          clothed (es ++ (hidden p index count k ++ [])) ((index, next) ∷ before)
              (further index first next before es (hidden p index count k ++ []) (bare es visits es_is ∙ ap written visits_at.2) refl),
        ),
      )
  -- a raise and a count of the lock write nothing
  recovers_so value now (recovers.Raises index raise) k visits {es} keeps recover_in (visits_at, es_is) = grind (arith, quiet, raised)
  recovers_so value now (recovers.Locks index (locks.Counts count)) k visits {es} keeps recover_in (visits_at, es_is) = grind (arith, quiet, counted, lock_on)
  -- with the exchange of the counter the last visit has locked the container, unless the
  -- counter has changed since
  recovers_so value now (recovers.Locks index (locks.ExchangesCounter counter)) k visits {es} keeps recover_in (visits_at, es_is) =
      let found = visits_at.0 in
      let hid = visits_at.1 in
      let before = visits_at.2 in
      let visits_then : Visits = (index, HasFreed found hid true) ∷ before in
      by_bool (k == counter)
      (λ e. so_then now {r = recover_takes code.size c (recovers.Locks index (locks.ExchangesCounter counter)) given k} {s = recover_comes_to c (index + 1)}
      {xs = visits_after given.owner (recovers.Locks index (locks.ExchangesCounter counter)) k value visits} {ys = visits_then}
      {es = es ++ wrote value (recovers.Locks index (locks.ExchangesCounter counter)) k} {fs = es ++ Locked p ∷ []}
      (rw e refl) (rw e (ap (with_last came_locked) visits_at.3)) (rw e refl)
      (next_to now index recover_in.1 visits_then (es ++ Locked p ∷ [])
      (further index (HasFreed found hid false) (HasFreed found hid true) before es (Locked p ∷ [])
      (bare es visits es_is ∙ ap written visits_at.3) (locked_then index found hid))))
      (λ e. so_then now {r = recover_takes code.size c (recovers.Locks index (locks.ExchangesCounter counter)) given k}
      {s = recover_locked c index (GoOn first_lock)}
      {xs = visits_after given.owner (recovers.Locks index (locks.ExchangesCounter counter)) k value visits} {ys = visits}
      {es = es ++ wrote value (recovers.Locks index (locks.ExchangesCounter counter)) k} {fs = es}
      (rw e refl) (rw e refl) (rw e (append-nil es)) ((same, (recover_in.0, recover_in.1, tt)), (visits_at, es_is)))
  -- at the end a recovery has written what its visits tell
  recovers_so value now recovers.LoadsCounterAgain k visits {es} keeps recover_in (visits_at, es_is) =
      quiet now visits es (recover_takes code.size c recovers.LoadsCounterAgain given k) ((same, tt), (tt, es_is))
  recovers_so value now (recovers.AddsChange state) k visits {es} keeps recover_in (visits_at, es_is) = append-nil es ∙ bare es visits es_is

  -- at each stage there are visits that a recovery may have there
  pub some_visits : (stage : RecoverStage) (value : T) → (visits : Visits) × VisitsAt stage value visits
  some_visits recovers.LoadsCounter value = ([], refl)
  some_visits (recovers.LoadsCell index) value = ([], tt)
  some_visits (recovers.LoadsCount index) value = ([], tt)
  some_visits (recovers.LoadsWord index count at) value = ([], tt)
  some_visits (recovers.ChecksCount index count) value = ([], tt)
  some_visits (recovers.Asks index count) value = ((index, HasAsked value) ∷ [], ([], refl))
  some_visits (recovers.EmptiesCell index count) value =
      by_bool (is_even count) (λ t. ((index, HasFound None) ∷ [], (HasFound None, [], refl, t)))
      (λ t. ((index, HasAsked value) ∷ [], (HasAsked value, [], refl, t)))
  some_visits (recovers.Hides index count) value = ((index, HasFreed (Some value) false false) ∷ [], (value, [], refl))
  some_visits (recovers.Raises index raise) value = ((index, HasFreed None false false) ∷ [], (None, false, [], refl, λ e. refl))
  some_visits (recovers.Locks index lock) value = ((index, HasFreed None false false) ∷ [], (None, false, [], refl, λ e. refl))
  some_visits recovers.LoadsCounterAgain value = ([], tt)
  some_visits (recovers.AddsChange state) value = ([], tt)
