-- Every step of a call under way, and every decision that one waits for, keeps the invariant: from what is
-- shown of each call at each of its stages.
use Rattle.laws_container.proofs.Names.{◌≡◌, ℕ, ◌+◌, ◌*◌, ◌<◌, ◌≤◌, Bool, true, false, None, [], sym, ap, subst, ◌∙◌}
use Rattle.laws_container.proofs.Names.{arith, AddStage, FindStage, LookStage, DeadOwner, RecoverStage, RemoveStage}
use Rattle.laws_container.proofs.Names.{ReplaceStage, Replacement, ReleaseMode, Counting, GiveBack, add_asks}
use Rattle.laws_container.proofs.Names.{look_asks, remove_asks, replace_asks, empty, raise_want, lock_want}
use Rattle.laws_container.proofs.Names.{ContainerStart, ContainerFlight, CountOf, LookOf, Coding, is_question}
use Rattle.laws_container.proofs.Names.{place_of, want, acts_for_dead, has_died, is_dead, said_is, both_ways}
use Rattle.laws_container.proofs.Names.{raise_asks_none, count_asks_none, lock_asks_none, count_number, CountAt}
use Rattle.steps.specs.declared.container.add.Owned.{Owned}
use Rattle.steps.specs.declared.container.find.FindStage.TheVariants as finds
use Rattle.steps.specs.declared.container.recover.RecoverStage.TheVariants as recovers
use Rattle.steps.specs.declared.copied.Buffer as buffers
use Rattle.model.specs.declared.families.container.ContainerStart.TheVariants as starts
use Rattle.model.specs.declared.families.container.calls.ContainerFlight.TheVariants as calls
use Rattle.model.specs.declared.families.container.calls.CountOf.TheVariants as counts
use Rattle.model.specs.declared.families.container.calls.LookOf.TheVariants as kinds
use Rattle.laws_container.proofs.Counts.{counts_as}
use Rattle.laws_container.specs.Gone.{acts_for_gone}
use Rattle.laws_container.proofs.Invariant.{Scene, Inv, ActsFor}
use Rattle.laws_container.proofs.Knows.{AddKnows, RemoveKnows, ReplacesKnow, Knows}
use Rattle.laws_container.proofs.Looks.{looks_as}
use Rattle.laws_container.proofs.Stages.{IsUnderWay, all, done, sees_now, StepOf, AnswerOf, DecisionOf}
use Rattle.laws_container.proofs.CallProgress.{add_at, remove_at, replace_at, find_at, recover_at, look_at, count_at}
use Rattle.laws_container.proofs.CallProgress.{lock_at, add_number, remove_number, replace_number, find_number}
use Rattle.laws_container.proofs.CallProgress.{recover_number, look_number, number_of, AddAt, RemoveAt, ReplaceAt, FindAt}
use Rattle.laws_container.proofs.CallProgress.{RecoverAt, LookAt, At}
use Rattle.laws_container.proofs.Terms.{Keeps}

-- ---- what is shown of each call

module _ {T : Type 0} (scene : Scene T) where
  open scene use {coding as code, capacity as c, steps as steps, backs as backs, events as events}

  -- what is shown of the calls in the turn of the scene: each step of each call, and each decision that a
  -- find or a recovery is told, keeps the invariant
  pub record CallSteps : Type 0 where
    pub add : (value : T) (owner : ℕ) → owner < empty → ActsFor scene owner → (stage : AddStage)
        → IsUnderWay scene (starts.Add value owner) (add_at c value owner stage)
        → AddAt c code.size (all scene) (done scene) owner stage → AddKnows code c value owner stage (sees_now scene)
        → steps ≤ add_number c code.size stage backs → StepOf scene (starts.Add value owner) (add_at c value owner stage)
    pub remove : (index owner : ℕ) (mode : ReleaseMode) → owner < empty → ActsFor scene owner
        → (stage : RemoveStage) → RemoveAt c code.size (all scene) (done scene) index owner mode stage
        → IsUnderWay scene (starts.Remove index owner mode) (remove_at c (place_of c index) owner mode stage)
        → RemoveKnows code c (place_of c index) owner mode stage (sees_now scene)
        → steps ≤ remove_number c (place_of c index) owner mode stage backs
        → StepOf scene (starts.Remove index owner mode) (remove_at c (place_of c index) owner mode stage)
    -- a remove and a replace are under way with the place of their index, which is the capacity for an index
    -- that is not below it
    pub replace : (index : ℕ) (value : T) (owner : ℕ) → owner < empty → ActsFor scene owner → (stage : ReplaceStage)
        → ReplaceAt c code.size (all scene) (done scene) index stage
        → IsUnderWay scene (starts.Replace index value owner) (replace_at c (place_of c index) value owner stage)
        → ReplacesKnow code c (place_of c index) value owner stage (sees_now scene)
        → steps ≤ replace_number code.size stage
        → StepOf scene (starts.Replace index value owner) (replace_at c (place_of c index) value owner stage)
    pub find : (owner : ℕ) → owner < empty → (room : buffers.Buffer 128) (stage : FindStage)
        → FindAt c code.size (all scene) (done scene) stage
        → IsUnderWay scene (starts.Find owner) (find_at c owner room stage)
        → Knows code c (find_at c owner room stage) (sees_now scene)
        → steps ≤ find_number code.size stage → StepOf scene (starts.Find owner) (find_at c owner room stage)
    -- a find, and then a recovery, that waits at its question may be handed any answer
    pub find_decided : (owner : ℕ) → owner < empty → (room : buffers.Buffer 128) (index found : ℕ)
        → FindAt c code.size (all scene) (done scene) (finds.Asks index found)
        → IsUnderWay scene (starts.Find owner) (find_at c owner room (finds.Asks index found))
        → Knows code c (find_at c owner room (finds.Asks index found)) (sees_now scene)
        → steps ≤ find_number code.size (finds.Asks index found) → (answer : ℕ)
        → AnswerOf scene (starts.Find owner) (find_at c owner room (finds.Asks index found)) None answer
    pub recover : (owner : ℕ) (mode : ReleaseMode) → owner < empty
        → (room : buffers.Buffer 128) (stage : RecoverStage)
        → RecoverAt c code.size (all scene) (done scene) owner mode stage
        → IsUnderWay scene (starts.Recover owner mode) (recover_at c owner mode room stage)
        → Knows code c (recover_at c owner mode room stage) (sees_now scene)
        → steps ≤ recover_number c code.size mode stage backs
        → StepOf scene (starts.Recover owner mode) (recover_at c owner mode room stage)
    pub recover_decided : (owner : ℕ) (mode : ReleaseMode) → owner < empty
        → (room : buffers.Buffer 128) (index count : ℕ)
        → RecoverAt c code.size (all scene) (done scene) owner mode (recovers.Asks index count)
        → IsUnderWay scene (starts.Recover owner mode) (recover_at c owner mode room (recovers.Asks index count))
        → Knows code c (recover_at c owner mode room (recovers.Asks index count)) (sees_now scene)
        → steps ≤ recover_number c code.size mode (recovers.Asks index count) backs → (answer : ℕ)
        → AnswerOf scene (starts.Recover owner mode)
        (recover_at c owner mode room (recovers.Asks index count)) None answer
    pub look : (which : LookOf) (stage : LookStage) → LookAt c code.size (all scene) (done scene) stage
        → IsUnderWay scene (looks_as which) (look_at which c stage) → Knows code c (look_at which c stage) (sees_now scene)
        → steps ≤ look_number code.size stage backs → StepOf scene (looks_as which) (look_at which c stage)
    -- a call on the length (`len` or `is_empty`), and a call that asks whether the container is locked
    pub count : (which : CountOf) (count : Counting) → CountAt c count → all scene ≡ []
        → IsUnderWay scene (counts_as which) (count_at which c count)
        → Knows code c (count_at which c count) (sees_now scene) → steps ≤ count_number c count + backs * (c + 2)
        → StepOf scene (counts_as which) (count_at which c count)
    pub lock : all scene ≡ [] → IsUnderWay scene starts.IsLocked lock_at
        → Knows code c lock_at (sees_now scene) → steps ≤ 0 → StepOf scene starts.IsLocked lock_at

-- ---- a call that is no find and no recovery asks no question

module _ {T : Type 0} (code : Coding T) (c : ℕ) where
  -- no step of an add asks a question
  pub add_asks_none : (stage : AddStage) (given : Owned T) → is_question (add_asks code.words_of code.size c stage given) ≡ false
  add_asks_none stage given = grind arith

  -- no step of a replace asks a question
  pub replace_asks_none : (stage : ReplaceStage) (given : Replacement T) → is_question (replace_asks code.words_of code.size c stage given) ≡ false
  replace_asks_none stage given = grind arith

-- no step of a remove asks a question
pub remove_asks_none : (c : ℕ) (stage : RemoveStage) (given : GiveBack) → is_question (remove_asks c stage given) ≡ false
remove_asks_none c stage given = grind arith

-- no step of a look asks a question
pub look_asks_none : (size c : ℕ) (stage : LookStage) → is_question (look_asks size c stage) ≡ false
look_asks_none size c stage = grind arith

-- ---- any call

-- the turn of the scene, where each step of each call keeps the invariant (`CallSteps`)
module _ {T : Type 0} {scene : Scene T} (inv : Inv scene) (shown : CallSteps scene) where
  open scene use {coding as code, capacity as c, steps as steps, backs as backs, events as events}

  -- an owner whom the machine does not keep as dead lives by the events
  lives : (owner : ℕ) → has_died owner scene.dead ≡ false → is_dead owner events ≡ false
  lives owner alive = sym (inv.good.died owner) ∙ alive

  -- the step of this call keeps the invariant, if the call acts for nobody who is gone
  abbrev StepShows : ContainerStart T → ContainerFlight T → Type 0
  StepShows start flight =
      IsUnderWay scene start flight → acts_for_dead scene.dead flight ≡ false
      → (Keeps scene.terms → acts_for_gone scene.terms.by events flight ≡ false)
      → steps ≤ number_of c code.size flight backs → Knows code c flight (sees_now scene)
      → StepOf scene start flight

  -- each step of any call of the container keeps the invariant, if the call acts for nobody who is gone
  pub step_moves : (start : ContainerStart T) (flight : ContainerFlight T) → At c code.size (all scene) (done scene) start flight → StepShows start flight
  -- each call is the one of its name, with the capacity and the arguments that it was begun with,
  -- so its own lemma applies
  step_moves (starts.Add value owner) (calls.Add run) stands =
      subst (StepShows (starts.Add value owner))
      (sym (ap (λ n. add_at n run.given.value run.given.owner run.call.stage) stands.0
      ∙ ap (λ (o : Owned T). add_at c o.value o.owner run.call.stage) stands.1))
      (λ here alive rightly s k. shown.add value owner stands.2 (record { alive = lives owner alive; stays = rightly }) run.call.stage here stands.3 k s)
  step_moves (starts.Remove index owner mode) (calls.Remove run) stands =
      subst (StepShows (starts.Remove index owner mode))
      (sym (ap (λ n. remove_at n run.given.index run.given.owner run.given.mode run.call.stage) stands.0
      ∙ ap (λ (o : GiveBack). remove_at c o.index o.owner o.mode run.call.stage) stands.1))
      (λ here alive rightly s k. shown.remove index owner mode stands.2
      (record { alive = lives owner alive; stays = rightly }) run.call.stage stands.3 here k s)
  step_moves (starts.Replace index value owner) (calls.Replace run) stands =
      subst (StepShows (starts.Replace index value owner))
      (sym (ap (λ n. replace_at n run.given.index run.given.value run.given.owner run.call.stage) stands.0
      ∙ ap (λ (o : Replacement T). replace_at c o.index o.value o.owner run.call.stage) stands.1))
      (λ here alive rightly s k. shown.replace index value owner stands.2
      (record { alive = lives owner alive; stays = rightly }) run.call.stage stands.3 here k s)
  step_moves (starts.Find owner) (calls.Find run) stands =
      subst (StepShows (starts.Find owner))
      (sym (ap (λ n. find_at n run.given run.room run.call.stage) stands.0 ∙ ap (λ o. find_at c o run.room run.call.stage) stands.1))
      (λ here alive rightly s k. shown.find owner stands.2 run.room run.call.stage stands.3 here k s)
  step_moves (starts.Recover owner mode) (calls.Recover run) stands =
      subst (StepShows (starts.Recover owner mode))
      (sym (ap (λ n. recover_at n run.given.owner run.given.mode run.room run.call.stage) stands.0
      ∙ ap (λ (o : DeadOwner). recover_at c o.owner o.mode run.room run.call.stage) stands.1))
      (λ here alive rightly s k. shown.recover owner mode stands.2 run.room run.call.stage stands.3 here k s)
  step_moves starts.GetState (calls.Look which call) stands =
      subst (StepShows starts.GetState) (sym (ap (λ n. look_at which n call.stage) stands.0 ∙ ap (λ w. look_at w c call.stage) stands.1))
      (λ here alive rightly s k. shown.look kinds.GetState call.stage stands.2 here k s)
  step_moves starts.UpdateState (calls.Look which call) stands =
      subst (StepShows starts.UpdateState) (sym (ap (λ n. look_at which n call.stage) stands.0 ∙ ap (λ w. look_at w c call.stage) stands.1))
      (λ here alive rightly s k. shown.look kinds.UpdateState call.stage stands.2 here k s)
  step_moves starts.Len (calls.Count which run) stands =
      subst (StepShows starts.Len) (sym (ap (λ n. count_at which n run.call.count) stands.0 ∙ ap (λ w. count_at w c run.call.count) stands.1))
      (λ here alive rightly s k. shown.count counts.Len run.call.count stands.2 stands.3 here k s)
  step_moves starts.IsEmpty (calls.Count which run) stands =
      subst (StepShows starts.IsEmpty) (sym (ap (λ n. count_at which n run.call.count) stands.0 ∙ ap (λ w. count_at w c run.call.count) stands.1))
      (λ here alive rightly s k. shown.count counts.IsEmpty run.call.count stands.2 stands.3 here k s)
  step_moves starts.IsLocked (calls.IsLocked run) stands = λ here alive rightly s k. shown.lock stands here k s
  step_moves start flight stands = absurd stands

  -- a decision that this call waits for keeps the invariant
  abbrev DecisionShows : Bool → ContainerStart T → ContainerFlight T → Type 0
  DecisionShows said start flight =
      IsUnderWay scene start flight → is_question (want code flight) ≡ true → steps ≤ number_of c code.size flight backs
      → Knows code c flight (sees_now scene) → DecisionOf scene start flight said

  -- a decision that a find waits for keeps the invariant
  find_decides : (said : Bool) (owner : ℕ) → owner < empty → (room : buffers.Buffer 128) (stage : FindStage)
      → FindAt c code.size (all scene) (done scene) stage
      → DecisionShows said (starts.Find owner) (find_at c owner room stage)
  find_decides said owner fits room (finds.LoadsCell index found) stands here asks s k = absurd (cc)
  find_decides said owner fits room (finds.LoadsCount index found) stands here asks s k = absurd (cc)
  find_decides said owner fits room (finds.LoadsWord index found count word) stands here asks s k = absurd (cc)
  find_decides said owner fits room (finds.ChecksCount index found count) stands here asks s k = absurd (cc)
  find_decides said owner fits room (finds.Asks index found) stands here asks s k =
      shown.find_decided owner fits room index found stands here k s (said_is said)

  -- a decision that a recovery waits for keeps the invariant
  recover_decides : (said : Bool) (owner : ℕ) (mode : ReleaseMode) → owner < empty
      → (room : buffers.Buffer 128) (stage : RecoverStage)
      → RecoverAt c code.size (all scene) (done scene) owner mode stage
      → DecisionShows said (starts.Recover owner mode) (recover_at c owner mode room stage)
  recover_decides said owner mode fits room recovers.LoadsCounter stands here asks s k = absurd (cc)
  recover_decides said owner mode fits room (recovers.LoadsCell index) stands here asks s k = absurd (cc)
  recover_decides said owner mode fits room (recovers.LoadsCount index) stands here asks s k = absurd (cc)
  recover_decides said owner mode fits room (recovers.LoadsWord index count word) stands here asks s k = absurd (cc)
  recover_decides said owner mode fits room (recovers.ChecksCount index count) stands here asks s k = absurd (cc)
  recover_decides said owner mode fits room (recovers.Asks index count) stands here asks s k =
      shown.recover_decided owner mode fits room index count stands here k s (said_is said)
  recover_decides said owner mode fits room (recovers.EmptiesCell index count) stands here asks s k = absurd (cc)
  recover_decides said owner mode fits room (recovers.Hides index count) stands here asks s k = absurd (cc)
  recover_decides said owner mode fits room (recovers.Raises index raise) stands here asks s k =
      both_ways (is_question (raise_want raise)) (raise_asks_none raise) asks
  recover_decides said owner mode fits room (recovers.Locks index lock) stands here asks s k =
      both_ways (is_question (lock_want lock)) (lock_asks_none lock) asks
  recover_decides said owner mode fits room recovers.LoadsCounterAgain stands here asks s k = absurd (cc)
  recover_decides said owner mode fits room (recovers.AddsChange state) stands here asks s k = absurd (cc)

  -- a call that asks no question waits for no decision, so there is nothing to show
  undecided : (start : ContainerStart T) (flight : ContainerFlight T) (said : Bool) → is_question (want code flight) ≡ false → DecisionShows said start flight
  undecided start flight said none = λ here asks s k. both_ways (is_question (want code flight)) none asks

  -- a decision that any call of the container waits for keeps the invariant
  pub decision_moves : (said : Bool) (start : ContainerStart T) (flight : ContainerFlight T)
      → At c code.size (all scene) (done scene) start flight → DecisionShows said start flight
  decision_moves said (starts.Add value owner) (calls.Add run) stands =
      undecided (starts.Add value owner) (calls.Add run) said (add_asks_none code run.call.capacity run.call.stage run.given)
  decision_moves said (starts.Remove index owner mode) (calls.Remove run) stands =
      undecided (starts.Remove index owner mode) (calls.Remove run) said (remove_asks_none run.call.capacity run.call.stage run.given)
  decision_moves said (starts.Replace index value owner) (calls.Replace run) stands =
      undecided (starts.Replace index value owner) (calls.Replace run) said
      (replace_asks_none code run.call.capacity run.call.stage run.given)
  decision_moves said (starts.Find owner) (calls.Find run) stands =
      subst (DecisionShows said (starts.Find owner))
      (sym (ap (λ n. find_at n run.given run.room run.call.stage) stands.0 ∙ ap (λ o. find_at c o run.room run.call.stage) stands.1))
      (find_decides said owner stands.2 run.room run.call.stage stands.3)
  decision_moves said (starts.Recover owner mode) (calls.Recover run) stands =
      subst (DecisionShows said (starts.Recover owner mode))
      (sym (ap (λ n. recover_at n run.given.owner run.given.mode run.room run.call.stage) stands.0
      ∙ ap (λ (o : DeadOwner). recover_at c o.owner o.mode run.room run.call.stage) stands.1))
      (recover_decides said owner mode stands.2 run.room run.call.stage stands.3)
  decision_moves said starts.GetState (calls.Look which call) stands =
      undecided starts.GetState (calls.Look which call) said (look_asks_none code.size call.capacity call.stage)
  decision_moves said starts.UpdateState (calls.Look which call) stands =
      undecided starts.UpdateState (calls.Look which call) said (look_asks_none code.size call.capacity call.stage)
  decision_moves said starts.Len (calls.Count which run) stands =
      undecided starts.Len (calls.Count which run) said (count_asks_none run.call.count)
  decision_moves said starts.IsEmpty (calls.Count which run) stands =
      undecided starts.IsEmpty (calls.Count which run) said (count_asks_none run.call.count)
  decision_moves said starts.IsLocked (calls.IsLocked run) stands = λ here asks s k. absurd (cc)
  decision_moves said start flight stands = absurd stands
