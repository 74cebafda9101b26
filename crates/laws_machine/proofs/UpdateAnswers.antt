-- In every reached machine, an update of a state that answers true has met a change, and one that answers
-- false has met none.
use Rattle.laws_machine.proofs.Names.{◌≡◌, ◌≢◌, ℕ, ◌==◌, false, Option, Some, None, is_some, is_none, List, [], ◌∷◌}
use Rattle.laws_machine.proofs.Names.{◌++◌, if◌then◌else◌, refl, sym, ap, subst, ◌∙◌, arith, ne_eqb, eq-eqb}
use Rattle.laws_machine.proofs.Names.{ContainerState, Begun, Died, is_look_of, Start, Container, Flight, ContainerStart}
use Rattle.laws_machine.proofs.Names.{Turn, Begin, Next, Decide, Die, first_of, kept_after_begin, first}
use Rattle.laws_machine.proofs.Names.{state_in, state_of, with_state, fresh, Each, after_begin, world_after}
use Rattle.laws_machine.proofs.Names.{after_turn, IsReached, Trace, flight_in, found_put_same, kept_by_runs}
use Rattle.laws_machine.proofs.Names.{reached_more, turn_making, Each-nil, passes, party_put_same, flight_of, doing_of, shown, dying, may_go_on, IsOwn}
use Rattle.laws_machine.proofs.Names.{begins_own, Coding}
use Rattle.model.specs.declared.families.container.ContainerStart.TheVariants as starts
use Rattle.model.specs.declared.turn.Kind.TheVariants as kinds
use Rattle.model.specs.Turns.{party_at_begin}
use Rattle.model.specs.World.{opening}
use Rattle.model.proofs.Frame as frame
use Rattle.laws_container.proofs.Invariant.{family_by}
use Rattle.laws_container.proofs.Sound.{MayGoOn, reached_sound}
use Rattle.laws_container.proofs.Terms.{Terms}
use Rattle.laws_machine.specs.Changes.{Seen, seen_after, seen_by, CountsChanges, MeetsChanges}
use Rattle.laws_machine.proofs.Counting.{counts_changes}
use Rattle.laws_machine.proofs.SeenKnows.{Within, Grows, CallSees, FlightSees, seen_number, one_more, within_later, begun_grows, IsNoLook}
use Rattle.laws_machine.proofs.SeenTurns.{Extra, now_kept, same_kept, other_known, known_by, after_it, next_kept, decision_kept}
use Rattle.laws_machine.proofs.Taken.{IsTaken, taken_by}
use Rattle.model.proofs.Rows.{MayStart}
use Rattle.model.specs.Families.Container.Opening.{states_at_begin}

-- the word counts the changes (`counts`), and `Extra` holds before the turn (`extra`)
module _ {T : Type 0} (terms : Terms) (t : Trace T) (s : frame.Sound (family_by terms t.world.coding t.world.capacity) t)
    (may : MayGoOn terms t) (counts : CountsChanges t) (extra : Extra t) where
  -- ---- a call begins

  module _ {p : ℕ} {start : Start T} (free : MayStart t.world p start) where
    -- what the party's looks have met before its begin
    abbrev seen_now : Seen
    seen_now = seen_by p t.events

    -- the states before, and the party's
    abbrev states : List (ℕ × ContainerState T)
    states = s.state.states

    -- the party's own state
    abbrev own : Option (ContainerState T)
    own = state_of p states

    -- what the party's state has seen is what a look has met
    rests : Within seen_now (seen_number own)
    rests =
        subst (λ o. FlightSees o seen_now own) free.free
        (subst (λ k. FlightSees (flight_in t.world p) seen_now (state_in k p)) (same_kept s may counts extra) (extra.known p))

    -- the first stage of this call knows what the stage says, with this state
    abbrev SeesFirst : ContainerStart T → Option (ContainerState T) → Type 0
    SeesFirst cs state = CallSees (first t.world.capacity cs) (seen_after p seen_now (Begun p (Container cs))) state

    -- the party's look has begun at the changes of now
    begun_now : (if p == p then record seen_now { begun = seen_now.changes } else seen_now) ≡ record seen_now { begun = seen_now.changes }
    begun_now = grind (arith, eq-eqb)

    -- the first stage of an update knows what the stage says, where the party has a state or gets a fresh one
    update_first : (o : Option (ContainerState T)) → own ≡ o
        → SeesFirst starts.UpdateState
        (state_of p (if is_some o then states else with_state p (fresh t.world.coding t.world.capacity) states))
    update_first = grind (arith, rests, found_put_same, fresh, begun_now)

    -- a begin of a call that is no look leaves what the state has seen as what a look has met
    grown : (cs : ContainerStart T) → IsNoLook cs → Within (seen_after p seen_now (Begun p (Container cs))) (seen_number own)
    grown = grind (arith, within_later, seen_after, begun_grows, rests)

    -- the first stage of any call knows what the stage says
    first_sees : (cs : ContainerStart T) → SeesFirst cs (state_of p (states_at_begin t.world.coding t.world.capacity cs p states))
    first_sees = grind (arith, found_put_same, fresh, begun_now, update_first, grown)

    -- a call that has just begun knows what its stage says
    begun_sees : (a : Start T) (flight : Flight T) → IsOwn t.world.capacity a flight
        → FlightSees (Some flight) (seen_by p (t.events ++ Begun p a ∷ []))
        (state_in (kept_after_begin t.world.coding t.world.capacity a p (now_kept s may counts extra)) p)
    begun_sees = grind (arith, one_more, seen_after, first_sees)

    -- a begin is no look of another party
    others_look : (a : Start T) (q : ℕ) → q ≢ p → is_look_of t.world q (Begin p a) ≡ false
    others_look = grind (arith, ne_eqb)

    -- a begin keeps `Extra`; the cases are whether the begin leads to a call
    begin_by : (o : Option (Flight T)) → first_of t.world.kind t.world.capacity start t.world.kept ≡ o → Extra (after_turn t (Begin p start))
    begin_by None first_is = let call = subst (λ o. is_none o ≡ false) first_is free.call in absurd (cc)
    begin_by (Some flight) first_is =
        let flies : flight_in (world_after t.world (Begin p start)) p ≡ Some flight =
        ap (λ o. flight_in (after_begin t.world p start o) p) first_is
        ∙ ap (λ o. flight_of (doing_of o)) (party_put_same p (party_at_begin start flight t.world.changes) t.world.latest)
        in
        let kept : (world_after t.world (Begin p start)).kept ≡ kept_after_begin t.world.coding t.world.capacity start p (now_kept s may counts extra) =
        ap (λ o. (after_begin t.world p start o).kept) first_is
        ∙ ap (kept_after_begin t.world.coding t.world.capacity start p) (same_kept s may counts extra)
        in
        let named : first_of kinds.Container t.world.capacity start t.world.kept ≡ Some flight =
        rw (← s.kind) first_is in
        let sees = begun_sees start flight (begins_own t.world.capacity t.world.kept start flight named) in
        let known = known_by s may counts extra (Begin p start) tt p (Begun p start ∷ []) in
        after_it s may counts extra (Begin p start) tt
        (known (λ q its. its) (others_look start) (refl, tt)
        (rw (flies, kept) sees))
        (tt, tt)

  -- ---- any turn

  -- every turn keeps `Extra`
  pub turn_kept : (turn : Turn T) → IsTaken t.world turn → Extra (after_turn t turn)
  turn_kept (Begin p start) free = begin_by free (first_of t.world.kind t.world.capacity start t.world.kept) refl
  turn_kept (Next p) free = next_kept s may counts extra p free
  turn_kept (Decide p said) free = decision_kept s may counts extra p said free
  turn_kept (Die owner) free =
      let known = other_known s may counts extra (Die owner) tt (Died owner ∷ []) in
      after_it s may counts extra (Die owner) tt
      (λ q. known q (λ none. none) refl
      (subst (Grows (seen_by q t.events)) (sym (one_more q t.events (Died owner)))
      (record { begun = refl; least = refl; most = refl; changes = omega arith })))
      (tt, tt)

-- ---- every run

module _ {T : Type 0} where
  -- the machine is reached, and if it is a container's, `Extra` holds
  abbrev HasMet : Trace T → Type 0
  HasMet t = IsReached t × (t.world.kind ≡ kinds.Container → Extra t)

  -- as the container opens, no party knows anything and no event stands there
  pub first_known : (code : Coding T) (c parties : ℕ) → Extra (opening code kinds.Container c parties)
  first_known code c parties =
      record { known = λ p. record { least = omega arith; most = omega arith; now = omega arith }; right = Each-nil MeetsChanges }

  -- in every reached machine each update that has ended met the changes that its answer tells
  pub meets_changes : (t : Trace T) → t.world.kind ≡ kinds.Container → IsReached t → Each MeetsChanges t.events
  meets_changes t is reached =
      ((kept_by_runs HasMet
      (λ u turn free h. (
        reached_more u turn free h.0,
        λ same.
            let is = sym (turn_making u.world turn).kind ∙ same in
            let sound_there = reached_sound shown u is h.0 in
            let passed = passes u.world turn free in
            turn_kept dying u sound_there (may_go_on dying u.world.coding u.world.capacity u sound_there passed.turns) (counts_changes u is h.0) (h.1 is) turn
            (taken_by u.world turn passed.on),
      ))
      t
      (λ queue queued. (
        record { coded = reached.coded; admitted = reached.admitted; queue = queue; queued = queued; turns = []; is = refl },
        λ same. rw same (first_known t.world.coding t.world.capacity t.world.parties),
      ))
      reached).1 is).right
