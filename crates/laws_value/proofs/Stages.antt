-- What a step of a call of the single value has to show (`StepOf`), and two common ways to show it: the call
-- goes on and changes neither the version nor the value (`quiet`), or it ends (`ends`).
use Rattle.std.proofs.Common.{◌≡◌, ◌≢◌, ℕ, ◌+◌, ◌≤◌, Bool, false, Option, List, [], ◌∷◌, ◌++◌, fold, arith}
use Rattle.laws_value.proofs.Names.{Ask, After, GoOn, Done, Answer, Event, Atomic, Flight, AtomicStart, AtomicFlight}
use Rattle.laws_value.proofs.Names.{Party, ask_of, want, after, goes_back, old_of, change_of, Scene, Inv}
use Rattle.model.specs.declared.event.Event.TheVariants.{Finished}
use Rattle.model.specs.declared.families.Flight.TheVariants as flights
use Rattle.model.specs.declared.families.Registry.TheVariants as registries
use Rattle.model.specs.Families.Atomic.Bounds.{most_steps}
use Rattle.model.specs.Families.Atomic.Promises.{AnswersRight}
use Rattle.model.specs.Families.Atomic.Reading.{holder_after}
use Rattle.model.specs.Families.Atomic.Roles.{GrantsRight}
use Rattle.model.specs.Families.Atomic.Spans.{moments_of}
use Rattle.model.specs.Families.Atomic.Steps.{acted, producer_after}
use Rattle.model.specs.Reading.{Open}
use Rattle.model.specs.Step.{as_call, answer_in}
use Rattle.model.specs.Turns.{one_if, words_after, step_count, ending_of}
use Rattle.model.proofs.Family as families
use Rattle.laws_value.proofs.Core.{Core, Good, layout}
use Rattle.laws_value.proofs.Invariant.{Value, Shows, outline, family}
use Rattle.laws_value.proofs.Knows.{At, KnowsFlight}

module _ {T : Type 0} where
  -- what becomes of a call of the value, as what becomes of any call
  abbrev pub any_call : After (AtomicFlight T) (Answer T) → After (Flight T) (Answer T)
  any_call after = as_call flights.Atomic (λ answer. answer) after

  -- the events of a step that ends the call or goes on: its act if it acts, and its end last
  abbrev pub told_after : ℕ → AtomicStart T → After (AtomicFlight T) (Answer T) → List (Event T)
  told_after p start after = acted p start (answer_in after) ++ ending_of p (Atomic start) (answer_in (any_call after))

-- `scene` is a turn of party `p` with the machine before it: `ho` holds the producer's role, and `k` is what
-- the words hold
module _ {T : Type 0} (scene : Scene T Value) where
  open scene use {coding as code, party as p}
  open scene.state use {holder as ho, core as k}

  abbrev words : List ℕ
  words = layout ho k

  -- the party after a step with the operation `ask`, by what becomes of its call
  abbrev pub party_then : AtomicStart T → Option Ask → Bool → After (AtomicFlight T) (Answer T) → Party T
  party_then start ask back after =
      families.party_then outline scene (Atomic start) ask
      (record { after = any_call after; back = back; wrote = []; kept = registries.Atomic ho })

  -- how often words have changed after the step
  abbrev pub changes_then : Option Ask → ℕ
  changes_then ask = scene.changes + change_of words ask

  -- what has to be shown of a step by which the call becomes `after`, that leaves the role with this holder
  -- and writes these events
  abbrev pub StepShowsWith : Option ℕ → List (Event T) → AtomicStart T → Option Ask → Bool → After (AtomicFlight T) (Answer T) → Type 0
  StepShowsWith holder' es start ask back after =
      (k' : Core) × (words_after words ask ≡ layout holder' k')
      × Shows scene (record { holder = holder'; core = k' }) (Open (Atomic start) []) (party_then start ask back after) es (changes_then ask)

  -- the old value of the word that a call asks for
  abbrev pub old_for : AtomicFlight T → ℕ
  old_for flight = old_of words (ask_of (want code flight))

  -- what has to be shown of a step that leaves the role where it is
  abbrev pub StepShowsBy : AtomicStart T → Option Ask → Bool → After (AtomicFlight T) (Answer T) → Type 0
  StepShowsBy start ask back after = StepShowsWith (producer_after p start (answer_in after) ho) (told_after p start after) start ask back after

  -- what has to be shown of a step of this call: it is handed the old value of its word
  abbrev pub StepOf : AtomicStart T → AtomicFlight T → Type 0
  StepOf start flight = StepShowsBy start (ask_of (want code flight)) (goes_back flight (old_for flight)) (after code flight (old_for flight))

  -- a step with which the call goes on to `flight`, and which leaves the core `k'` with the version and the value that stood
  pub record GoesOn (back : Bool) (start : AtomicStart T) (ask : Option Ask) (flight : AtomicFlight T) (k' : Core) : Type 0 where
    pub version : k'.version ≡ k.version
    pub now : k'.now ≡ k.now
    pub good : Good code.size k'
    pub words_then : words_after words ask ≡ layout ho k'
    -- the call is within its bound of steps, stands at its next stage and knows what the stage says
    pub steps : scene.steps + step_count ask ≤ (family code scene.capacity).number [] (flights.Atomic flight) (scene.backs + one_if back)
    pub at : At code ho k' p start flight
    pub knows : KnowsFlight k' (scene.since + change_of words ask) (changes_then ask) (scene.backs + one_if back) flight
    -- the calls of other parties stand where they stood
    pub others : (q : ℕ) → q ≢ p → (s : AtomicStart T) (f : AtomicFlight T) → At code ho k q s f → At code ho k' q s f

  module _ (inv : Inv outline scene) where
    -- a call goes on, and the step leaves the version and the value that stands
    pub quiet : (back : Bool) (start : AtomicStart T) (ask : Option Ask) (flight : AtomicFlight T) (k' : Core) → GoesOn back start ask flight k'
        → StepShowsWith ho [] start ask back (GoOn flight)
    quiet = grind arith

    -- a call ends that does not act on the value
    pub ends :
        (holder' : Option ℕ) (start : AtomicStart T) (answer : Answer T) (ask : Option Ask)
        → [] ≡ moments_of start answer → AnswersRight code scene.events (Finished p (Atomic start) answer)
        → GrantsRight scene.events (Finished p (Atomic start) answer)
        → fold holder_after ho (Finished p (Atomic start) answer ∷ []) ≡ holder'
        → scene.steps + step_count ask ≤ most_steps code.size start (scene.backs + 0) → scene.backs ≡ 0 → words_after words ask ≡ layout holder' k
        → ((q : ℕ) → q ≢ p → (s : AtomicStart T) (f : AtomicFlight T) → At code ho k q s f → At code holder' k q s f)
        → StepShowsWith holder' (Finished p (Atomic start) answer ∷ []) start ask false (Done answer)
    ends = grind arith
