-- A find of the robust set that loads a cell asks about its index just where the cell holds the owner that
-- it looks for.
use Rattle.laws_machine.proofs.Names.{◌≡◌, ℕ, ◌+◌, ◌<◌, nat_lt, Bool, true, false, Option, Some, None, List, refl}
use Rattle.laws_machine.proofs.Names.{sym, ap, subst, ◌∙◌, if◌then◌else◌, slice_index, arith, ne_eqb, After, GoOn, Done}
use Rattle.laws_machine.proofs.Names.{Ask, cell_word, empty, one_more, went_on, Number, Start, Robust, Flight}
use Rattle.laws_machine.proofs.Names.{RobustStart, RobustFlight, Party, Turn, Next, Coding, goes_of, want_of, ask_of}
use Rattle.laws_machine.proofs.Names.{IsIn, asked_of, cell_of, SetAct, filled_of, ask_of_flight, ask_in}
use Rattle.laws_machine.proofs.Names.{GoesOn, as_it_is, as_call, refusal_of, old_of, after_turn, IsReached, Trace}
use Rattle.laws_machine.proofs.Names.{flight_in, turn_making, StandsThere, cell, robust_keeps, find_at, FindAt}
use Rattle.steps.specs.declared.indices.robust.find.Find as find_calls
use Rattle.steps.specs.declared.indices.robust.find.FindStage.{FindStage}
use Rattle.steps.specs.declared.indices.robust.find.FindStage.TheVariants as finds
use Rattle.steps.specs.Indices.Robust.Find.{at_find, find_comes_to}
use Rattle.model.specs.declared.families.indices.robust.RobustStart.TheVariants as starts
use Rattle.model.specs.declared.families.indices.robust.calls.RobustFlight.TheVariants as calls
use Rattle.model.specs.declared.turn.Kind.TheVariants as kinds
use Rattle.model.specs.Families.Indices.Robust.Calls.{want, after}
use Rattle.model.proofs.Frame as frame
use Rattle.laws_robust.proofs.Invariant.{family}
use Rattle.laws_robust.proofs.Sound.{reached_sound}
use Rattle.laws_robust.proofs.Stages.{any_call}
use Rattle.laws_robust.proofs.CallProgress.{At}
use Rattle.laws_machine.specs.Questions.{FindsAsking, index_if, loads_cell}
use Rattle.laws_machine.proofs.CallTransition.{left_by, next_left, under_way}

module _ {T : Type 0} (code : Coding T) where
  -- the index about which the call asks after this step, if it asks
  abbrev asks_then : RobustFlight → ℕ → Option ℕ
  asks_then flight old = asked_of code (left_by (any_call (after {T = T} flight old)))

  -- ---- a find at a cell

  module _ (c owner i found : ℕ) where
    -- the find at its load of the cell `i`
    abbrev at_cell : find_calls.Find
    at_cell = record { capacity = c; stage = finds.LoadsCell i found }

    -- the index about which a find then asks, if any, where `a` is how it has gone on or ended
    abbrev asks_by : After find_calls.Find ℕ → Option ℕ
    asks_by a = asked_of code (left_by (any_call {T = T} (as_call calls.Find Number (went_on as_it_is owner tt a))))

    -- a find that goes on to the next cell, or ends, asks about no index
    next_asks_none : asks_by (find_comes_to at_cell (i + 1) found) ≡ None
    next_asks_none = go (nat_lt (i + 1) c)
      where
        -- the cases are whether a further index follows
        go : (b : Bool) → asks_by (if b then GoOn (at_find at_cell (finds.LoadsCell (i + 1) found)) else Done found) ≡ None
        go true = refl
        go false = refl

    -- a find asks about the index where the cell holds its owner, and else about none
    by_owner : (b : Bool)
        → asks_by (if b then GoOn (at_find at_cell (finds.Asks i (one_more found))) else find_comes_to at_cell (i + 1) found)
        ≡ (if b then Some i else None)
    by_owner true = refl
    by_owner false = next_asks_none

    -- after its load of a cell, a find asks about the index just where the cell holds its owner
    pub cell_asks : owner < empty → (o : Option ℕ) → asks_then (find_at c owner (finds.LoadsCell i found)) (cell_of o) ≡ index_if owner i o
    cell_asks = grind (arith, by_owner, empty, ne_eqb)

-- in a machine of the robust set that turns have reached
module _ {T : Type 0} (t : Trace T) (kind_is : t.world.kind ≡ kinds.Robust) (reached : IsReached t) where
  abbrev code : Coding T
  code = t.world.coding

  abbrev c : ℕ
  c = t.world.capacity

  -- the invariant of the set of owners holds after the run
  s : frame.Sound (family t.world.coding t.world.capacity) t
  s = reached_sound t kind_is reached

  -- the word of a cell has the owner with whom the events filled it
  pub cell_is : (i : ℕ) → i < c → slice_index t.world.words (cell_word i) ≡ cell_of (filled_of i t.events)
  cell_is i below = ap (λ ws. cell ws i) s.fit.words ∙ s.holds.good.cells i below

  -- ---- a find

  -- two operations that are present and equal as options are equal
  some_ask : (a b : Ask) → ◌≡◌ {A = Option Ask} (Some a) (Some b) → a ≡ b
  some_ask a b e = cc

  module _ (index owner : ℕ) where
    -- if the call's next step loads the cell of `index`, it asks afterwards about that index just where it
    -- is filled with the owner
    abbrev Asks : RobustFlight → Type 0
    Asks flight =
        ask_of (want flight) ≡ Some (loads_cell index)
        → asks_then code flight (old_of t.world.words (ask_of (want flight))) ≡ index_if owner index (filled_of index t.events)

    -- this holds of a find at each stage
    stage_asks : (all : List SetAct) → owner < empty → (stage : FindStage) → FindAt c all stage → Asks (find_at c owner stage)
    stage_asks = grind (arith, some_ask, loads_cell, find_at, cell_is, cell_asks)

    -- this holds of each call that is a find of the owner
    find_asks : (all : List SetAct) (flight : RobustFlight) → At c all (starts.Find owner) flight → Asks flight
    find_asks = grind (arith, find_at, stage_asks)

  -- starts that are equal as those of a machine are equal
  robust_is : (a b : RobustStart) → ◌≡◌ {A = Start T} (Robust a) (Robust b) → a ≡ b
  robust_is a b e = cc

  module _ (p owner index : ℕ) (under : IsIn p (Robust (starts.Find owner)) t) (goes : GoesOn t.world (Next p) (after_turn t (Next p)).world) where
    -- the same claim about a call as one of any family
    abbrev Left : Flight T → Type 0
    Left flight =
        ask_of (want_of code flight) ≡ Some (loads_cell index)
        → asked_of code (left_by (goes_of code p flight (old_of t.world.words (ask_of (want_of code flight))) t.world.kept))
        ≡ index_if owner index (filled_of index t.events)

    -- a find that loads this cell next then asks about the index just if the owner fills it
    by_name : (x : Party T) (since : ℕ) (start : Start T) (flight : Flight T)
        → StandsThere (family t.world.coding t.world.capacity) t s p x since start flight → Left flight
    by_name = grind (arith, find_asks, robust_is)

    -- what the party's call asks after its step is as this claim says, whatever call it is
    by_flight : (o : Option (Flight T)) → flight_in t.world p ≡ o → ask_of_flight code o ≡ Some (loads_cell index)
        → asked_of code (flight_in (after_turn t (Next p)).world p) ≡ index_if owner index (filled_of index t.events)
    by_flight = grind (arith, under_way, family, s, asked_of, next_left, after_turn, by_name)

  -- after each turn, a find that has loaded a cell asks about its index just where the cell holds its owner
  pub finds_asking : (turn : Turn T) → refusal_of t.world turn ≡ None → FindsAsking t turn (after_turn t turn)
  finds_asking turn free p owner index name under asks =
      subst (λ u. asked_of (after_turn t u).world.coding (flight_in (after_turn t u).world p) ≡ index_if owner index (filled_of index t.events)) (sym name)
      (subst (λ z. asked_of z (flight_in (after_turn t (Next p)).world p) ≡ index_if owner index (filled_of index t.events))
      (sym (turn_making t.world (Next p)).coding)
      (by_flight p owner index under
      (robust_keeps.turn t (Next p) kind_is (subst (λ u. refusal_of t.world u ≡ None) name free) reached).call
      (flight_in t.world p) refl (subst (λ u. ask_in t.world u ≡ Some (loads_cell index)) name asks)))
