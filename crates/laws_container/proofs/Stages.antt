-- What a step of a call of the container has to show (`StepOf`), and two ways to show it: that the call goes
-- on to a next stage (`goes_on`), or that it ends (`ends`).
use Rattle.laws_container.proofs.Names.{◌≡◌, ℕ, ◌+◌, ◌-◌, ◌≤◌, Bool, true, false, Option, Some, None, List, [], ◌∷◌}
use Rattle.laws_container.proofs.Names.{◌++◌, fold, refl, sym, ap, subst, ◌∙◌, append-nil, arith, flat_map-append}
use Rattle.laws_container.proofs.Names.{fold-append, Ask, After, GoOn, ContainerState, Answer, Event, Finished}
use Rattle.laws_container.proofs.Names.{Container, Flight, ContainerStart, ContainerFlight, Over, Party, ask_of}
use Rattle.laws_container.proofs.Names.{most_steps, want, after, goes_back, states_after, is_looking}
use Rattle.laws_container.proofs.Names.{StandsWellFormed, promise, Act, act, acts, acts_of, state_of, effects}
use Rattle.laws_container.proofs.Names.{questions, SetAct, set_act, set_acts, set_acts_of, party_of, put}
use Rattle.laws_container.proofs.Names.{doing_of, flight_of, Stands, Open, own_after, span_of, as_call, answer_in}
use Rattle.laws_container.proofs.Names.{old_of, words_after, change_of, step_count, number_of, party_after, ending_of}
use Rattle.laws_container.proofs.Names.{one_if, BeginsNone, AreOwn, AllFollow, span_of-own, both_ways, is_seen}
use Rattle.steps.specs.declared.ask.After.TheVariants.{Done}
use Rattle.model.specs.declared.families.Flight.TheVariants as flights
use Rattle.model.specs.declared.families.Registry.TheVariants as registries
use Rattle.model.specs.declared.families.container.ContainerStart.TheVariants as starts
use Rattle.model.specs.declared.families.container.calls.ContainerFlight.TheVariants as calls
use Rattle.laws_robust.proofs.Invariant as set_invariant
use Rattle.laws_container.proofs.Invariant.{Scene, Inv, KeepsInvariant, Shows, AreAllRight, before, wrote_of, view}
use Rattle.laws_container.proofs.Invariant as invariant
use Rattle.laws_container.proofs.Knows.{View, Knows}
use Rattle.laws_container.proofs.WellFormed.{IsWellFormedSoFar, well_formed_before}
use Rattle.laws_container.proofs.StateInvariant.{rests_later}
use Rattle.laws_container.proofs.CallProgress.{At}
use Rattle.laws_container.proofs.CallProgress as standing
use Rattle.laws_container.proofs.Turns.{WellFormed, owes, flight_owes}

module _ {T : Type 0} where
  -- what becomes of a call of the container, as what becomes of any call
  abbrev pub any_call : After (ContainerFlight T) (Answer T) → After (Flight T) (Answer T)
  any_call after = as_call flights.Container (λ answer. answer) after

  -- these events make the span of an open call longer, and do not end it
  abbrev pub Lengthens : List (Event T) → Type 0
  Lengthens es =
      (start : ContainerStart T) (w : List (Event T)) → fold own_after (Open (Container start) w) es ≡ Open (Container start) (w ++ es)

  pub none_lengthens : Lengthens []
  none_lengthens start w = ap (λ es. Open (Container start) es) (sym (append-nil w))

  -- the call is no replace
  abbrev pub NoReplace : ContainerStart T → Type 0
  NoReplace (starts.Replace index value owner) = ⊥
  NoReplace start = Unit {0}

  -- the call is no look
  abbrev pub NoLook : ContainerFlight T → Type 0
  NoLook (calls.Look which call) = ⊥
  NoLook flight = Unit {0}

  no_look : (flight : ContainerFlight T) → NoLook flight → is_looking (Some (flights.Container flight)) ≡ false
  no_look flight is_no_look = grind arith

-- `scene` is a turn of party `p` with the machine before it
module _ {T : Type 0} (scene : Scene T) where
  open scene use {
    coding as code,
    capacity as c,
    party as p,
    steps as steps,
    backs as backs,
    since as since,
    changes as changes,
    latest as latest,
    events as events,
  }

  abbrev pub ws : List ℕ
  ws = scene.words

  -- what the call under way has written, has done to the set, and has done to elements
  abbrev pub wrote : List (Event T)
  wrote = wrote_of p events

  abbrev pub all : List SetAct
  all = set_acts_of p events

  abbrev pub done : List (Act T)
  done = acts_of p events

  -- the party's call under way has this name, is this call, and has taken the steps of the scene
  pub record IsUnderWay (start : ContainerStart T) (flight : ContainerFlight T) : Type 0 where
    pub span : span_of p events ≡ Open (Container start) (wrote_of p events)
    pub party : Party T
    pub found : party_of p latest ≡ Some party
    pub taken : party.steps ≡ steps
    pub flies : flight_of (Some party.doing) ≡ Some (flights.Container flight)

  -- ---- a step

  abbrev party : ContainerStart T → Party T
  party start = record { start = Container start; steps = steps; backs = backs; doing = Over 0 }

  -- the party after a step with the operation `ask`, by what becomes of its call
  abbrev pub party_then : ContainerStart T → Option Ask → Bool → After (ContainerFlight T) (Answer T) → Party T
  party_then start ask back after =
      party_after (party start) since changes (step_count ask) (change_of ws ask)
      (record { after = any_call after; back = back; wrote = []; kept = registries.Container scene.dead scene.states })

  abbrev pub since_then : Option Ask → ℕ
  since_then ask = since + change_of ws ask

  abbrev pub changes_then : Option Ask → ℕ
  changes_then ask = changes + change_of ws ask

  abbrev pub backs_then : Bool → ℕ
  backs_then back = backs + one_if back

  -- what the party sees before the step, and what it sees after a step that leaves these states
  -- and writes these events
  abbrev pub sees_now : View T
  sees_now = view scene.terms ws scene.states latest events p since changes backs

  abbrev pub then_sees : Option Ask → Bool → List (ℕ × ContainerState T) → Party T → List (Event T) → View T
  then_sees ask back states' y es =
      view scene.terms (words_after ws ask) states' (put p y latest) (events ++ es) p (since_then ask) (changes_then ask) (backs_then back)

  -- what it sees after a step that leaves these states and writes nothing
  abbrev pub sees_calmly : Option Ask → Bool → List (ℕ × ContainerState T) → Party T → View T
  sees_calmly ask back states' y =
      view scene.terms (words_after ws ask) states' (put p y latest) events p (since_then ask) (changes_then ask) (backs_then back)

  -- what has to be shown of a step with the operation `ask` that leaves these states and writes the events
  -- `es`, by what becomes of the call
  abbrev pub ShowsThen : ContainerStart T → Option Ask → Bool → List (ℕ × ContainerState T) → List (Event T) → After (ContainerFlight T) (Answer T) → Type 0
  ShowsThen start ask back states' es after =
      Shows scene (words_after ws ask) states' (Open (Container start) (wrote_of p events)) (party_then start ask back after) es (changes + change_of ws ask)

  -- what has to be shown of a step that does `did`, after which the end of the call is written if it ends
  abbrev pub Leads : ContainerStart T → Option Ask → Bool → List (ℕ × ContainerState T) → List (Event T) → After (ContainerFlight T) (Answer T) → Type 0
  Leads start ask back states' did after =
      ShowsThen start ask back states' (did ++ ending_of p (Container start) (answer_in (any_call after))) after

  -- what has to be shown of a call that is handed `answer`
  abbrev pub AnswerOf : ContainerStart T → ContainerFlight T → Option Ask → ℕ → Type 0
  AnswerOf start flight ask answer =
      Leads start ask (goes_back flight answer) (states_after code p flight answer scene.states)
      (effects code p (state_of p scene.states) flight answer ++ questions p flight answer)
      (after code (state_of p scene.states) flight answer)

  -- what has to be shown of a step of this call: it is handed the old value of its word
  abbrev pub StepOf : ContainerStart T → ContainerFlight T → Type 0
  StepOf start flight =
      AnswerOf start flight (ask_of (want code flight)) (old_of ws (ask_of (want code flight)))

  -- what has to be shown of a decision that this call is told
  abbrev pub DecisionOf : ContainerStart T → ContainerFlight T → Bool → Type 0
  DecisionOf start flight said = AnswerOf start flight None (number_of said)

  -- ---- what the party has written

  -- the party writes the events `es` in its call, and does not end it
  module _ (start : ContainerStart T) (span : span_of p events ≡ Open (Container start) (wrote_of p events))
      (es : List (Event T)) (own : AreOwn p es) (longer : Lengthens es) where
    wrote_more : wrote_of p (events ++ es) ≡ wrote_of p events ++ es
    wrote_more = grind (arith, span_of-own, fold)

    pub set_acts_more : set_acts_of p (events ++ es) ≡ set_acts_of p events ++ set_acts es
    set_acts_more = ap set_acts wrote_more ∙ flat_map-append set_act (wrote_of p events) es

    pub acts_more : acts_of p (events ++ es) ≡ acts_of p events ++ acts es
    acts_more = ap acts wrote_more ∙ flat_map-append act (wrote_of p events) es

  -- the events are the party's own, and neither begin nor end a call of it
  pub record AreInCall (es : List (Event T)) : Type 0 where
    pub own : AreOwn p es
    pub fresh : BeginsNone p es
    pub longer : Lengthens es

  -- it holds of the empty list of events
  pub none_in_call : AreInCall []
  none_in_call = record { own = tt; fresh = tt; longer = none_lengthens }

  -- ---- the call goes on, or is done

  -- What has to be shown of a step with the operation `ask` after which the call goes on at the stage of `flight`: it writes the events
  -- `did`, which do not end the call and may stand in it, it keeps the invariant, and after it the call is within its steps, stands at
  -- its stage and knows what that stage tells.
  pub record GoesOn (start : ContainerStart T) (flight : ContainerFlight T) (ask : Option Ask) (back : Bool)
      (states' : List (ℕ × ContainerState T)) (did : List (Event T)) : Type 0 where
    pub longer : Lengthens did
    pub does : KeepsInvariant scene (words_after ws ask) states' (party_then start ask back (GoOn flight)) did
    pub follows : AllFollow (Stands promise c) (Open (Container start) (wrote_of p events)) did
    pub few : steps + step_count ask ≤ standing.number_of c code.size flight (backs_then back)
    pub stands : At c code.size (set_acts_of p events ++ set_acts did) (acts_of p events ++ acts did) start flight
    pub known : Knows code c flight (then_sees ask back states' (party_then start ask back (GoOn flight)) did)

  -- a call goes on to the next stage, where the conditions of that stage hold
  pub goes_on : {start : ContainerStart T} (flight : ContainerFlight T) (ask : Option Ask) (back : Bool)
      {states' : List (ℕ × ContainerState T)} {did : List (Event T)}
      → span_of p events ≡ Open (Container start) (wrote_of p events) → GoesOn start flight ask back states' did
      → ShowsThen start ask back states' did (GoOn flight)
  goes_on {start} flight ask back {did = did} span goes =
      let own = goes.does.set.own in
      record {
        does = goes.does;
        stands = goes.follows;
        here =
            record {
              span =
                  goes.longer start (wrote_of p events)
                  ∙ ap (λ es. Open (Container start) es) (sym (wrote_more start span did own goes.longer));
              steps = goes.few;
              at = subst (λ d. At c code.size d (acts_of p (events ++ did)) start flight) (sym (set_acts_more start span did own goes.longer))
                  (subst (λ a. At c code.size (set_acts_of p events ++ set_acts did) a start flight)
                  (sym (acts_more start span did own goes.longer)) goes.stands);
            };
        knows = goes.known;
        seen = is_seen ws ask changes;
      }

  -- What has to be shown of a step with the operation `ask` that ends the call with `answer`: it writes the events `did` and then the end,
  -- which may stand in the call, it keeps the invariant, and the call is within the steps of its name and has paid for its turns back.
  pub record Ends (start : ContainerStart T) (answer : Answer T) (ask : Option Ask) (back : Bool)
      (states' : List (ℕ × ContainerState T)) (did : List (Event T)) : Type 0 where
    pub longer : Lengthens did
    pub does : KeepsInvariant scene (words_after ws ask) states' (party_then start ask back (Done answer)) (did ++ Finished p (Container start) answer ∷ [])
    pub follows : AllFollow (Stands promise c) (Open (Container start) (wrote_of p events)) (did ++ Finished p (Container start) answer ∷ [])
    pub few : steps + step_count ask ≤ most_steps c code.size start (backs_then back)
    pub paid : backs_then back ≤ changes_then ask - since_then ask

  -- a call ends, and writes its end last, where the conditions of that hold
  pub ends : {start : ContainerStart T} (answer : Answer T) (ask : Option Ask) (back : Bool)
      {states' : List (ℕ × ContainerState T)} {did : List (Event T)}
      → span_of p events ≡ Open (Container start) (wrote_of p events) → Ends start answer ask back states' did
      → ShowsThen start ask back states' (did ++ Finished p (Container start) answer ∷ []) (Done answer)
  ends {start} answer ask back {did = did} span ending =
      record {
        does = ending.does;
        stands = ending.follows;
        here =
            record {
              answer = answer;
              wrote = wrote_of p events ++ did;
              span =
                  fold-append own_after (Open (Container start) (wrote_of p events)) did (Finished p (Container start) answer ∷ [])
                  ∙ ap (λ s. own_after s (Finished p (Container start) answer)) (ending.longer start (wrote_of p events));
              steps = ending.few;
            };
        knows = ending.paid;
        seen = is_seen ws ask changes;
      }

  -- What has to be shown of a step that writes nothing, after which the call goes on at the stage of `flight`. No event is
  -- added here to what the call has done and sees, so this is `GoesOn` without its empty lists.
  pub record GoesCalmly (start : ContainerStart T) (flight : ContainerFlight T) (ask : Option Ask) (back : Bool)
      (states' : List (ℕ × ContainerState T)) : Type 0 where
    pub does : KeepsInvariant scene (words_after ws ask) states' (party_then start ask back (GoOn flight)) []
    pub few : steps + step_count ask ≤ standing.number_of c code.size flight (backs_then back)
    pub stands : At c code.size (set_acts_of p events) (acts_of p events) start flight
    pub known : Knows code c flight (sees_calmly ask back states' (party_then start ask back (GoOn flight)))

  -- a step that writes nothing leads a call to its next stage, where the conditions of that stage hold
  pub goes_calmly : {start : ContainerStart T} (flight : ContainerFlight T) (ask : Option Ask) (back : Bool) {states' : List (ℕ × ContainerState T)}
      → span_of p events ≡ Open (Container start) (wrote_of p events) → GoesCalmly start flight ask back states'
      → ShowsThen start ask back states' [] (GoOn flight)
  goes_calmly {start} flight ask back {states'} span goes =
      goes_on flight ask back span (record {
        longer = none_lengthens;
        does = goes.does;
        follows = tt;
        few = goes.few;
        stands = subst (λ d. At c code.size d (acts_of p events ++ []) start flight) (sym (append-nil (set_acts_of p events)))
            (subst (λ a. At c code.size (set_acts_of p events) a start flight) (sym (append-nil (acts_of p events))) goes.stands);
        known = subst
            (λ es. Knows code c flight
            (view scene.terms (words_after ws ask) states' (put p (party_then start ask back (GoOn flight)) latest) es
            p (since_then ask) (changes_then ask) (backs_then back)))
            (sym (append-nil events)) goes.known;
      })

  -- ---- what it owes the changes

  -- whether the party owes the changes a raise is read from its call under way
  pub owes_is : (start : ContainerStart T) (flight : ContainerFlight T) → IsUnderWay start flight
      → owes (flight_of (doing_of (party_of p latest))) ≡ flight_owes flight
  owes_is = grind (arith, owes)

  -- where the call under way owes no raise, there is none that its party could fail to owe after the step
  pub owes_none : {start : ContainerStart T} {flight : ContainerFlight T} (y : Party T) → IsUnderWay start flight
      → flight_owes flight ≡ false → owes (flight_of (doing_of (party_of p latest))) ≡ true
      → owes (flight_of (Some y.doing)) ≡ true
  owes_none {start} {flight} y here not was = both_ways (flight_owes flight) not (sym (owes_is start flight here) ∙ was)

  -- ---- a turn ago

  -- a party whose call is no replace keeps what a well-formed run asks of its call
  no_replace : (start : ContainerStart T) → NoReplace start
      → span_of p events ≡ Open (Container start) (wrote_of p events) → (o : Option (Party T))
      → StandsWellFormed p o events
  no_replace start none span o = grind arith

  -- the run was well-formed before the turn of a call that is no replace, if it is after it
  pub was_well_formed : (start : ContainerStart T) → NoReplace start
      → span_of p events ≡ Open (Container start) (wrote_of p events)
      → (words' : List ℕ) (y : Party T) (es : List (Event T)) → AreOwn p es
      → WellFormed (invariant.after scene words' y es) → WellFormed (before scene)
  was_well_formed start none span words' y es own =
      well_formed_before scene.terms p y latest events es own (λ h. no_replace start none span (party_of p latest))

  -- the run was well-formed before a turn that writes nothing, of a call that is no
  -- replace, if it is after it
  pub was_well_formed_calmly : (start : ContainerStart T) → NoReplace start
      → span_of p events ≡ Open (Container start) (wrote_of p events) → (y : Party T)
      → IsWellFormedSoFar scene.terms (put p y latest) events → WellFormed (before scene)
  was_well_formed_calmly start none span y well_formed_so_far =
      was_well_formed start none span ws y [] tt (subst (λ es. IsWellFormedSoFar scene.terms (put p y latest) es) (sym (append-nil events)) well_formed_so_far)

-- A call of the container that is no look and is under way in the turn of the scene, with what holds of the machine before the turn.
-- A step of it leaves the states of the parties as they are.
pub record Call (T : Type 0) : Type 0 where
  pub scene : Scene T
  pub inv : Inv scene
  pub start : ContainerStart T
  pub flight : ContainerFlight T
  pub no_look : NoLook flight
  pub here : IsUnderWay scene start flight

module _ {T : Type 0} (call : Call T) where
  open call use {scene, inv, start, flight, here}
  open call.scene use {coding as code, capacity as c, party as p, latest as latest}

  pub is_idle_now : is_looking (flight_of (doing_of (party_of p latest))) ≡ false
  is_idle_now = let not = no_look flight call.no_look in grind arith

  -- a turn that leaves the parties' states keeps the invariant, if it keeps what holds of the set, of the
  -- elements and of the events
  pub does_with : {words' : List ℕ} {y : Party T} {es : List (Event T)} → invariant.KeepsElements scene words' y es
      → set_invariant.Does (invariant.of_set scene) words' es → AreAllRight scene words' y es
      → KeepsInvariant scene words' scene.states y es
  does_with {words'} {y} {es} changes set right =
      record {
        set = set;
        changes = changes;
        right = right;
        others = λ q ne. refl;
        rests =
            λ s idle found. rests_later code c es refl
            changes.passes p s (inv.elements.rests p s is_idle_now found);
      }
