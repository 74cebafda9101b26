-- What a container's state and a look under way know of the number of changes; they still know this after
-- any turn of another party.
use Rattle.laws_machine.proofs.Names.{◌≡◌, ◌≢◌, ℕ, ◌+◌, ◌<◌, ◌≤◌, ◌==◌, Bool, true, false, Option, Some, None, List, []}
use Rattle.laws_machine.proofs.Names.{◌∷◌, ◌++◌, fold, if◌then◌else◌, refl, sym, ap, subst, ◌∙◌, arith, ne_eqb}
use Rattle.laws_machine.proofs.Names.{fold-append, LookStage, ContainerState, AllByRecursion, Answer, Number, Truth}
use Rattle.laws_machine.proofs.Names.{Turn, ContainerStart, IsEffectOf, whose, Event, Begun, Finished, Container}
use Rattle.laws_machine.proofs.Names.{Flight, ContainerFlight, LookOf, AreOwn}
use Rattle.steps.specs.declared.container.look.LookStage.TheVariants as stages
use Rattle.model.specs.declared.families.Flight.TheVariants as flights
use Rattle.model.specs.declared.families.container.ContainerStart.TheVariants.{GetState, UpdateState}
use Rattle.model.specs.declared.families.container.calls.ContainerFlight.TheVariants as calls
use Rattle.model.specs.declared.families.container.calls.LookOf.TheVariants as kinds
use Rattle.laws_machine.specs.Changes.{Seen, change_in, changes_of, seen_after, seen_by}

-- ---- what is known

-- `number` lies between the number of changes as the look began that last brought the state up to date, and
-- the number as that look ended
pub record Within (s : Seen) (number : ℕ) : Type 0 where
  pub least : s.least ≤ number
  pub most : number ≤ s.most
  pub now : s.most ≤ s.changes

-- `number` is a number of changes since the look under way began
abbrev pub Met : Seen → ℕ → Type 0
Met s number = (s.begun ≤ number) × (number ≤ s.changes)

module _ {T : Type 0} where
  -- the number of changes that a state has seen, 0 where there is no state
  abbrev pub seen_number : Option (ContainerState T) → ℕ
  seen_number None = 0
  seen_number (Some state) = state.seen.change

  -- the number of changes that the look under way has found, 0 where there is no state
  abbrev pub found_number : Option (ContainerState T) → ℕ
  found_number None = 0
  found_number (Some state) = state.shown.change

  -- what a look knows that has loaded the number of changes
  abbrev pub HasLoaded : LookOf → Seen → Option (ContainerState T) → Type 0
  HasLoaded kinds.GetState s state = Met s (found_number state)
  HasLoaded kinds.UpdateState s state =
      Within s (seen_number state) × Met s (found_number state) × (s.least < found_number state)

  -- what a look knows that is to load the number of changes
  abbrev pub IsToLoad : LookOf → Seen → Option (ContainerState T) → Type 0
  IsToLoad kinds.GetState s state = (s.begun ≤ s.changes) × (seen_number state ≡ 0)
  IsToLoad kinds.UpdateState s state =
      Within s (seen_number state) × (s.begun ≤ s.changes)

  -- what a look knows at each stage
  abbrev pub LookSees : LookOf → LookStage → Seen → Option (ContainerState T) → Type 0
  LookSees which stages.LoadsChange s state = IsToLoad which s state
  LookSees which (stages.LoadsCount index) s state = HasLoaded which s state
  LookSees which (stages.LoadsWord index count at) s state = HasLoaded which s state
  LookSees which (stages.ChecksCount index count) s state = HasLoaded which s state

  -- what a call of the container knows: a look what its stage says, any other call what the state has seen
  abbrev pub CallSees : ContainerFlight T → Seen → Option (ContainerState T) → Type 0
  CallSees (calls.Look which call) s state = LookSees which call.stage s state
  CallSees flight s state = Within s (seen_number state)

  -- what a call under way, or none, knows of what the party has seen
  abbrev pub FlightSees : Option (Flight T) → Seen → Option (ContainerState T) → Type 0
  FlightSees (Some (flights.Container flight)) s state = CallSees flight s state
  FlightSees flight s state = Within s (seen_number state)

-- ---- after more changes

-- there are no fewer changes, and the other numbers are as they were
pub record Grows (s s' : Seen) : Type 0 where
  pub begun : s'.begun ≡ s.begun
  pub least : s'.least ≡ s.least
  pub most : s'.most ≡ s.most
  pub changes : s.changes ≤ s'.changes

-- what a party has seen grows over two turns if it grows in each
pub grows_by : (s s' s'' : Seen) → Grows s s' → Grows s' s'' → Grows s s''
grows_by = grind arith

-- what is known of what a party has seen is known after it grows
module _ (s s' : Seen) (g : Grows s s') where
  -- a number that is within what was seen is so after a later turn
  pub within_later : (number : ℕ) → Within s number → Within s' number
  within_later = grind arith

  -- a number that was met is so after a later turn
  met_later : (number : ℕ) → Met s number → Met s' number
  met_later = grind arith

  module _ {T : Type 0} (state : Option (ContainerState T)) where
    -- what a look has loaded is right after a later turn
    loaded_later : (which : LookOf) → HasLoaded which s state → HasLoaded which s' state
    loaded_later = grind (arith, met_later, within_later)

    -- what a look is to load is right after a later turn
    to_load_later : (which : LookOf) → IsToLoad which s state → IsToLoad which s' state
    to_load_later = grind (arith, within_later)

    -- what a look has seen it has seen after a later turn
    look_later : (which : LookOf) (stage : LookStage) → LookSees which stage s state → LookSees which stage s' state
    look_later = grind (arith, to_load_later, loaded_later)

    -- what a call of the container has seen it has seen after a later turn
    call_later : (flight : ContainerFlight T) → CallSees flight s state → CallSees flight s' state
    call_later = grind (arith, look_later, within_later)

    -- what a call has seen it has seen after a later turn
    pub sees_later : (o : Option (Flight T)) → FlightSees o s state → FlightSees o s' state
    sees_later = grind (arith, call_later, within_later)

-- an event of another party's look leaves the numbers of this party as they were
kept_by : (q p : ℕ) (s s' : Seen) → q ≢ p → Grows s (if q == p then s' else s)
kept_by = grind (arith, ne_eqb)

-- ---- what events change of it

-- one of two that have counted the same changes has counted these, and none more
either : (b : Bool) (s' s : Seen) → s'.changes ≡ s.changes → (if b then s' else s).changes ≡ s.changes + 0
either true s' s same = omega arith
either false s' s same = omega arith

module _ {T : Type 0} where
  -- each event adds to the number of changes what it counts for
  one_change : (p : ℕ) (s : Seen) (e : Event T) → (seen_after p s e).changes ≡ s.changes + change_in e
  one_change p s (Begun q (Container GetState)) = either (q == p) _ s refl
  one_change p s (Begun q (Container UpdateState)) = either (q == p) _ s refl
  one_change p s (Finished q (Container GetState) (Number number)) = either (q == p) _ s refl
  one_change p s (Finished q (Container UpdateState) (Truth true)) = either (q == p) _ s refl
  one_change p s e = refl

  -- the changes that a party has seen are counted as the events count them
  pub changes_are : (p : ℕ) (events : List (Event T)) → (seen_by p events).changes ≡ changes_of events
  changes_are p events = go events (record { changes = 0; begun = 0; least = 0; most = 0 }) 0 refl
    where
      -- the claim for any numbers at the start, by recursion on the events
      go : (es : List (Event T)) (s : Seen) (n : ℕ) → s.changes ≡ n → (fold (seen_after p) s es).changes ≡ fold (λ m e. m + change_in e) n es
      go [] s n same = same
      go (e ∷ es) s n same = go es (seen_after p s e) (n + change_in e) (one_change p s e ∙ ap (λ m. m + change_in e) same)

  -- ---- events of another party

  -- an event of another party lets what the party has seen grow at most
  other_grows : (p q : ℕ) (s : Seen) (e : Event T) → q ≢ p → whose e ≡ Some q → Grows s (seen_after p s e)
  other_grows = grind (arith, kept_by)

  -- events of another party let what the party has seen grow at most
  pub others_grow : (p q : ℕ) (events es : List (Event T)) → q ≢ p → AreOwn q es → Grows (seen_by p events) (seen_by p (events ++ es))
  others_grow p q events es ne own =
      subst (Grows (seen_by p events))
      (sym (fold-append (seen_after p) (record { changes = 0; begun = 0; least = 0; most = 0 }) events es))
      (go es (seen_by p events) own)
    where
      -- the claim for any numbers at the start, by recursion on the events
      go : (es : List (Event T)) (s : Seen) → AreOwn q es → Grows s (fold (seen_after p) s es)
      go [] s own = record { begun = refl; least = refl; most = refl; changes = omega arith }
      go (e ∷ es) s own =
          grows_by s (seen_after p s e) (fold (seen_after p) (seen_after p s e) es) (other_grows p q s e ne own.0)
          (go es (seen_after p s e) own.1)

  -- ---- effects, and begins and ends of calls that are no looks

  -- an effect leaves what a party has seen
  effect_same : (turn : Turn T) (p : ℕ) (s : Seen) (e : Event T) → IsEffectOf turn e → seen_after p s e ≡ s
  effect_same turn p s (Begun q start) is_effect = absurd is_effect
  effect_same turn p s (Finished q start answer) is_effect = absurd is_effect
  effect_same turn p s e is_effect = ap (λ n. record s { changes = n }) (no_more_changes s.changes)
    where
      -- a turn that changes nothing leaves the number of changes
      no_more_changes : (n : ℕ) → n + 0 ≡ n
      no_more_changes n = omega arith

  -- any number of effects leave what a party has seen
  pub effects_same : (turn : Turn T) (p : ℕ) (events es : List (Event T)) → AllByRecursion (IsEffectOf turn) es → seen_by p (events ++ es) ≡ seen_by p events
  effects_same turn p events es effects_hold =
      fold-append (seen_after p) (record { changes = 0; begun = 0; least = 0; most = 0 }) events es ∙ go es (seen_by p events) effects_hold
    where
      -- the claim for any numbers at the start, by recursion on the events
      go : (es : List (Event T)) (s : Seen) → AllByRecursion (IsEffectOf turn) es → fold (seen_after p) s es ≡ s
      go [] s all_effects = refl
      go (e ∷ es) s all_effects = ap (λ z. fold (seen_after p) z es) (effect_same turn p s e all_effects.0) ∙ go es s all_effects.1

  -- one more event changes what the party has seen as `seen_after` says
  pub one_more : (p : ℕ) (events : List (Event T)) (e : Event T) → seen_by p (events ++ e ∷ []) ≡ seen_after p (seen_by p events) e
  one_more = grind (arith, fold-append, seen_after)

  -- the call is neither `get_state` nor `update_state`
  abbrev pub IsNoLook : ContainerStart T → Type 0
  IsNoLook GetState = ⊥
  IsNoLook UpdateState = ⊥
  IsNoLook start = Unit {0}

  -- a begin of a call that is no look lets what the party has seen grow at most
  pub begun_grows : (p : ℕ) (s : Seen) (q : ℕ) (start : ContainerStart T) → IsNoLook start → Grows s (seen_after p s (Begun q (Container start)))
  begun_grows = grind arith

  -- an end of a call that is no look lets what the party has seen grow at most
  pub ended_grows : (p : ℕ) (s : Seen) (q : ℕ) (start : ContainerStart T) (answer : Answer T) → IsNoLook start
      → Grows s (seen_after p s (Finished q (Container start) answer))
  ended_grows = grind arith
