-- What a step of a queue's call has to show. `DoesStep` is for a step that writes events of its own party
-- alone, `Moves` for any step; from both it follows that the step keeps the invariant.
use Rattle.laws_queues.proofs.Names.{◌≡◌, ◌≢◌, ℕ, ◌+◌, ◌-◌, ◌*◌, ◌%◌, ◌^◌, ◌<◌, ◌≤◌, Bool, true, false, ◌||◌, ◌⊎◌}
use Rattle.laws_queues.proofs.Names.{Option, Some, None, List, [], ◌∷◌, ◌++◌, fold, length, map, refl}
use Rattle.laws_queues.proofs.Names.{append-nil, Ask, After, GoOn, Done, word_at, Answer, Event, Finished}
use Rattle.laws_queues.proofs.Names.{Queues, Flight, QueueStart, Roles, QueueFlight, Effect, Quiet, Over}
use Rattle.laws_queues.proofs.Names.{Party, QueueKind, Coding, ask_of, most_steps, want, after, goes_back}
use Rattle.laws_queues.proofs.Names.{TellsLength, cells_of, producer_after, consumer_after, GrantsRight, Wrote}
use Rattle.laws_queues.proofs.Names.{pending_at, pending, beside, effect_of, effects_of, roles_after, party_of, put}
use Rattle.laws_queues.proofs.Names.{doing_of, flight_of, Open, span_of, as_call, answer_in, one_if, old_of}
use Rattle.laws_queues.proofs.Names.{words_after, change_of, step_count, party_after, ending_of}
use Rattle.laws_queues.proofs.Names.{Acted, Acts, AnswersRight, list_of, answers_from}
use Rattle.std.proofs.Common.{arith}
use native.Mathlib.Nat.{mul-le-mul_right}
use Rattle.steps.specs.Queues.Ring.{cell_word}
use Rattle.model.specs.declared.families.Flight.TheVariants as flights
use Rattle.model.specs.declared.families.Registry.TheVariants as registries
use Rattle.model.proofs.Frame as frame
use Rattle.laws_queues.proofs.Queues.Core.{Core, Good, cell_within}
use Rattle.laws_queues.proofs.Queues.Invariant.{Scene, Inv, ShowsQueue, Shows, family, owes, queue_part}
use Rattle.laws_queues.proofs.Queues.Knows.{layout, listed, has_written, Hangs, KnowsFlight, At}
use Rattle.laws_queues.proofs.Queues.Values.{Val, encoded, item}
use Rattle.laws_queues.proofs.Queues.Pending.{pending_put, hangs_same}

-- if a disjunction is true, one of its parts is
pub or_true : (a b : Bool) → (a || b) ≡ true → (a ≡ true) ⊎ (b ≡ true)
or_true = grind arith

-- a list that is not empty has a first element
pub first_of_some : {A : Type 0} → (xs : List A) → 0 < length xs → (x : A) × (rest : List A) × (xs ≡ x ∷ rest)
first_of_some [] length_positive = absurd (omega arith)
first_of_some (x ∷ xs) length_positive = (x, xs, refl)

-- if a disjunction is false, each part is
pub or_false : (a b : Bool) → (a || b) ≡ false → (a ≡ false) × (b ≡ false)
or_false = grind arith

-- the place of a cell's first word among the words
pub cell_place : (size c position : ℕ) → 0 < c → cell_word c size position ≡ 4 + size * (position % c)
cell_place = grind arith

-- a word of a cell as a call asks for it, which wraps
abbrev pub cell_asked : ℕ → ℕ → ℕ → ℕ → ℕ
cell_asked size c position at = word_at (cell_word c size position) at

-- the word that the code computes for a place of a cell is the one of the layout
pub asked_place : (size c position at : ℕ) → 0 < c → c < 2 ^ 32 → size ≤ 128 → at < size → cell_asked size c position at ≡ 4 + (size * (position % c) + at)
asked_place = grind (arith, cell_place, cell_within, mul-le-mul_right)

module _ {T : Type 0} where
  -- a queue's call as one of any family
  abbrev pub any_call : After (QueueFlight T) (Answer T) → After (Flight T) (Answer T)
  any_call after = as_call flights.Queues (λ answer. answer) after

  -- the events of a step, the end of the call last
  abbrev pub told_after : ℕ → QueueStart T → Effect T → After (QueueFlight T) (Answer T) → List (Event T)
  told_after p start effect after = effects_of p start effect (answer_in after) ++ ending_of p (Queues start) (answer_in (any_call after))

-- `scene` is the machine of this kind of queue as the party `p` takes a step: `c` its capacity, `ro` the
-- holders of the roles, `k` the core
module _ {T : Type 0} (en : Coding T) (kd : QueueKind) (scene : Scene T kd) where
  open scene use {capacity as c, roles as ro, core as k, party as p}

  -- the words of the queue before the step
  abbrev words : List ℕ
  words = layout scene.roles scene.core

  -- the party as it stands before the step
  abbrev pub party : QueueStart T → Party T
  party start = record { start = Queues start; steps = scene.steps; backs = scene.backs; doing = Over 0 }

  -- the party as it stands after a step that does this operation
  abbrev pub party_then : QueueStart T → Option Ask → Bool → After (QueueFlight T) (Answer T) → Party T
  party_then start ask back after =
      party_after (party start) scene.since scene.changes (step_count ask) (change_of words ask)
      (record { after = any_call after; back = back; wrote = []; kept = registries.Queues ro })

  -- how often words have changed after a step with this operation
  abbrev pub changes_then : Option Ask → ℕ
  changes_then ask = scene.changes + change_of words ask

  -- A step with the operation `ask`, after which the call is `after` and the roles have the holders `ro'`,
  -- leaves some core `k'` and has the fields of `Shows`. `wrote` is what the call has written before it.
  abbrev pub Leaves : Roles → List (Event T) → QueueStart T → Option Ask → Bool → After (QueueFlight T) (Answer T) → Effect T → Type 0
  Leaves ro' wrote start ask back after effect =
      (k' : Core (Val T kd)) × (words_after words ask ≡ layout ro' k')
      × Shows en kd scene ro' k' (Open (Queues start) wrote) (party_then start ask back after) (told_after p start effect after) (changes_then ask)

  -- a step of a call as `Leaves` asks, which leaves the roles as the call's answer says
  abbrev pub DoesStep : List (Event T) → QueueStart T → Option Ask → Bool → After (QueueFlight T) (Answer T) → Effect T → Type 0
  DoesStep wrote start ask back after effect = Leaves (roles_after p start (answer_in after) ro) wrote start ask back after effect

  -- the old value of the word that a call asks for
  abbrev pub old_for : QueueFlight T → ℕ
  old_for flight = old_of words (ask_of (want en flight))

  -- what the next step of the call writes of the queue and of acts
  abbrev pub effect_for : QueueFlight T → Effect T
  effect_for flight = effect_of en words (beside ro words scene.latest p) flight (old_for flight)

  -- the next step of this call keeps the invariant (`Shows`)
  abbrev pub StepOf : QueueStart T → QueueFlight T → Type 0
  StepOf start flight =
      DoesStep (has_written c k p flight) start (ask_of (want en flight)) (goes_back flight (old_for flight))
      (after en flight (old_for flight)) (effect_for flight)

  -- a step as `Leaves` asks, which leaves the roles, of a call that has written nothing
  abbrev pub Stays : QueueStart T → Option Ask → Bool → After (QueueFlight T) (Answer T) → Effect T → Type 0
  Stays start ask back after effect = Leaves ro [] start ask back after effect

  -- the party's call is no push that is about to move the read position on from here
  abbrev pub IsCalm : ℕ → Type 0
  IsCalm position = pending_at position (flight_of (doing_of (party_of p scene.latest))) ≡ None

  -- ---- a step that may also write events of a second party

  -- a step with the operation `ask` leaves some core `k'` of which `ShowsQueue` holds, and gives the frame
  -- what it asks of a turn
  abbrev pub Moves : QueueStart T → Option Ask → Bool → After (QueueFlight T) (Answer T) → Effect T → Type 0
  Moves start ask back after effect =
      (k' : Core (Val T kd)) × (words_after words ask ≡ layout (roles_after p start (answer_in after) ro) k')
      × ShowsQueue en kd scene (roles_after p start (answer_in after) ro) k' (party_then start ask back after)
      (told_after p start effect after) (changes_then ask)
      × frame.Owes (family en kd c) (record { roles = roles_after p start (answer_in after) ro; core = k' }) p
      (party_then start ask back after) scene.latest scene.events (told_after p start effect after)
      (changes_then ask)

  -- the next step of this call keeps the invariant
  abbrev pub MovesOf : QueueStart T → QueueFlight T → Type 0
  MovesOf start flight = Moves start (ask_of (want en flight)) (goes_back flight (old_for flight)) (after en flight (old_for flight)) (effect_for flight)

-- In the core `k'` that a step leaves, the positions and the values that wait are those of the core before it, and the calls of other
-- parties stand where they stood.
pub record SameQueue {T : Type 0} (en : Coding T) (kd : QueueKind) (scene : Scene T kd) (k' : Core (Val T kd)) : Type 0 where
  pub waits : k'.waiting ≡ scene.core.waiting
  pub write : k'.write ≡ scene.core.write
  pub read : k'.read ≡ scene.core.read
  pub good : Good (encoded en kd).size (encoded en kd).words_of (cells_of kd scene.capacity) k'
  pub others : (q : ℕ) → q ≢ scene.party → (s : QueueStart T) (f : QueueFlight T) → At en kd scene.capacity scene.roles scene.core q s f
      → At en kd scene.capacity scene.roles k' q s f × (has_written {T = T} scene.capacity k' q f ≡ has_written scene.capacity scene.core q f)

-- a step that leaves the core `k'`, with which the call goes on and writes nothing
pub record GoesOn {T : Type 0} (en : Coding T) (kd : QueueKind) (scene : Scene T kd) (k' : Core (Val T kd)) : Type 0 where
  pub start : QueueStart T
  pub ask : Option Ask
  pub back : Bool
  pub flight : QueueFlight T  -- the call after the step
  -- the call is then no push that is about to move the read position on from here
  pub calm : pending_at scene.core.read (Some (flights.Queues flight)) ≡ None
  pub words : words_after (layout scene.roles scene.core) ask ≡ layout scene.roles k'
  -- it stands where the family says, and knows what its stage says
  pub here : frame.IsUnderWay (family en kd scene.capacity) (record { roles = scene.roles; core = k' }) scene.party
      (party_then en kd scene start ask back (GoOn flight)) (flights.Queues flight) (Open (Queues start) [])
  pub knows : KnowsFlight scene.capacity k' scene.party scene.events (scene.since + change_of (layout scene.roles scene.core) ask)
      (changes_then en kd scene ask) (scene.backs + one_if back) flight

-- the party's call, which has not turned back and is no pending push, is about to take a step; `inv` holds before it
pub record TakesStep {T : Type 0} (en : Coding T) (kd : QueueKind) (scene : Scene T kd) : Type 0 where
  pub inv : Inv en kd scene
  pub no_backs : scene.backs ≡ 0
  pub before : IsCalm en kd scene scene.core.read

-- a step that ends the call with an answer, leaves the core, and publishes, hands out and acts nothing
pub record Ending {T : Type 0} (en : Coding T) (kd : QueueKind) (scene : Scene T kd) : Type 0 where
  pub start : QueueStart T
  pub answer : Answer T
  pub ask : Option Ask
  pub back : Bool
  -- who holds the roles afterwards, as the end of the call says
  pub roles_then : Roles
  pub written : List (Event T)  -- what the call has written before its end
  pub producers : fold producer_after scene.roles.producer (Finished scene.party (Queues start) answer ∷ []) ≡ roles_then.producer
  pub consumers : fold consumer_after scene.roles.consumer (Finished scene.party (Queues start) answer ∷ []) ≡ roles_then.consumer
  -- the answer is one of a call that has written this, and tells the truth
  pub wrote : Wrote kd scene.capacity start answer written
  pub tells : TellsLength scene.capacity scene.events (Finished scene.party (Queues start) answer)
  pub grants : GrantsRight scene.events (Finished scene.party (Queues start) answer)
  -- the steps and the turns back of the call are within their bounds
  pub steps : scene.steps + step_count ask ≤ most_steps en.size kd start (scene.backs + one_if back)
  pub paid : scene.backs + one_if back ≤ changes_then en kd scene ask - (scene.since + change_of (layout scene.roles scene.core) ask)
  -- more than the capacity wait only while a push is pending, and the calls of other parties stand where they stood
  pub hangs : Hangs T kd scene.capacity scene.core
      (pending scene.core.read roles_then.producer (put scene.party (party_then en kd scene start ask back (Done answer)) scene.latest))
  pub others : (q : ℕ) → q ≢ scene.party → (s : QueueStart T) (f : QueueFlight T) → At en kd scene.capacity scene.roles scene.core q s f
      → At en kd scene.capacity roles_then scene.core q s f
      × (has_written {T = T} scene.capacity scene.core q f ≡ has_written scene.capacity scene.core q f)

-- a step that ends the call with an answer, with which the call acts, and leaves the queue and the roles
pub record Acting {T : Type 0} (en : Coding T) (kd : QueueKind) (scene : Scene T kd) : Type 0 where
  pub start : QueueStart T
  pub answer : Answer T
  pub ask : Option Ask
  pub words : words_after (layout scene.roles scene.core) ask ≡ layout scene.roles scene.core
  pub producers : fold producer_after scene.roles.producer (Finished scene.party (Queues start) answer ∷ []) ≡ scene.roles.producer
  pub consumers : fold consumer_after scene.roles.consumer (Finished scene.party (Queues start) answer ∷ []) ≡ scene.roles.consumer
  -- the answer is one of a call that has written its act, and tells the truth
  pub wrote : Wrote kd scene.capacity start answer (Acted scene.party (Queues start) answer ∷ [])
  pub tells : (before : List (Event T)) → TellsLength scene.capacity before (Finished scene.party (Queues start) answer)
  pub grants : (before : List (Event T)) → GrantsRight before (Finished scene.party (Queues start) answer)
  pub right : AnswersRight scene.capacity scene.events (Acted scene.party (Queues start) answer)
  -- the list that the calls answer as stays, and gives this answer
  pub goes : fold (list_of kd scene.capacity).after (listed kd scene.capacity scene.core.waiting) (Queues start ∷ [])
      ≡ listed kd scene.capacity scene.core.waiting
  pub answers : answers_from (list_of kd scene.capacity) (listed kd scene.capacity scene.core.waiting) (Queues start ∷ []) ≡ answer ∷ []
  -- the steps and the turns back of the call are within their bounds
  pub steps : scene.steps + step_count ask ≤ most_steps en.size kd start (scene.backs + 0)
  pub paid : scene.backs + 0 ≤ changes_then en kd scene ask - (scene.since + change_of (layout scene.roles scene.core) ask)
  -- the call is no pending push
  pub calm : IsCalm en kd scene scene.core.read

module _ {T : Type 0} {en : Coding T} {kd : QueueKind} {scene : Scene T kd} (inv : Inv en kd scene) where
  open scene use {capacity as c, roles as ro, core as k, party as p}

  -- where the party's call is no pending push, before or after, and what waits stays,
  -- `Hangs` holds afterwards
  pub still_hangs : (k' : Core (Val T kd)) (y : Party T) → k'.waiting ≡ k.waiting → k'.read ≡ k.read
      → pending_at k.read (flight_of (Some y.doing)) ≡ None → IsCalm en kd scene k.read
      → Hangs T kd c k' (pending k'.read ro.producer (put p y scene.latest))
  still_hangs = grind (arith, hangs_same, pending, put, pending_put)

  -- a step that leaves the core leaves the queue as `SameQueue` says
  pub same_queue : SameQueue en kd scene k
  same_queue = record { waits = refl; write = refl; read = refl; good = inv.queue.good; others = λ q ne st f h. (h, refl) }

  -- a step with which the call goes on, and which moves no position and writes nothing, keeps the
  -- invariant (`Shows`)
  pub quiet : IsCalm en kd scene k.read → {k' : Core (Val T kd)} → SameQueue en kd scene k' → (on : GoesOn en kd scene k')
      → Stays en kd scene on.start on.ask on.back (GoOn on.flight) Quiet
  quiet = grind (arith, still_hangs, append-nil, map, item, listed)

  -- a step that ends the call, and publishes, hands out and acts nothing, keeps the invariant (`Shows`)
  pub ends : (e : Ending en kd scene)
      → Shows en kd scene e.roles_then k (Open (Queues e.start) e.written) (party_then en kd scene e.start e.ask e.back (Done e.answer))
      (Finished p (Queues e.start) e.answer ∷ []) (changes_then en kd scene e.ask)
  ends = grind (arith, append-nil, map, item)

  -- a step that ends the call, which acts with its answer, keeps the invariant (`Shows`)
  pub acts : (a : Acting en kd scene) → Leaves en kd scene ro [] a.start a.ask false (Done a.answer) Acts
  acts a = (k, a.words, grind (arith, still_hangs, append-nil, map, item))

  -- a step with the fields of `Shows` keeps the invariant
  pub alone : {wrote : List (Event T)} {start : QueueStart T} (ask : Option Ask) (back : Bool)
      (after : After (QueueFlight T) (Answer T)) (effect : Effect T)
      → span_of p scene.events ≡ Open (Queues start) wrote
      → DoesStep en kd scene wrote start ask back after effect → Moves en kd scene start ask back after effect
  alone ask back after effect seen step = (
    step.0,
    step.1,
    queue_part step.2,
    owes step.2 seen inv,
  )

  -- the next step of a call keeps the invariant, where it has the fields of `Shows`
  pub of_step : (start : QueueStart T) (flight : QueueFlight T)
      → span_of p scene.events ≡ Open (Queues start) (has_written c k p flight) → StepOf en kd scene start flight
      → MovesOf en kd scene start flight
  of_step start flight seen step = alone _ _ _ _ seen step
