-- On an endless schedule on which turns may be refused each party to which it is fair ends its call.
use Rattle.std.specs.Prelude.{IfSome, if◌then◌else◌}
use Rattle.std.proofs.Common.{◌≡◌, ◌≢◌, ◌≤◌, ◌⊎◌, inl, inr, ⊎_elim, ℕ, zero, suc, ◌+◌, ◌==◌, Bool, true, false, Option, Some, None, List, [], ◌∷◌, ◌++◌}
use Rattle.std.proofs.Common.{refl, sym, ap, subst, ◌∙◌, append-nil, arith, length}
use Rattle.std.proofs.lemmas.Bool.{cases_eq}
use Rattle.std.specs.List.{AllByRecursion}
use Rattle.model.specs.declared.turn.Kind.{Kind}
use Rattle.model.specs.declared.turn.Refusal.{Refusal}
use Rattle.model.specs.declared.turn.Turn.{Turn}
use Rattle.model.specs.declared.turn.Turn.TheVariants.{Begin, Next, Decide, Die}
use Rattle.model.specs.Fair.{own_step}
use Rattle.model.specs.Loads.{EndsLoad, begins_in, begun, load, pending}
use Rattle.model.specs.LockFree.{Bound, IsAmong, lock_free_bound, steps_in, steps_of}
use Rattle.model.specs.Refusals.{call_refusal}
use Rattle.model.specs.Turns.{AreAllowedOn, after_turn, after_turns, unless_refused}
use Rattle.model.specs.World.{Trace, World, flight_in}
use Rattle.model.proofs.LockFree.Counted.{begins_are}
use Rattle.model.proofs.LockFree.Measure.{worth}
use Rattle.model.proofs.Reached.{after_turns_more}
use Rattle.machine.proofs.LockFree.{if_some}
use Rattle.machine.proofs.Loads.{load_ends}
use Rattle.headline.specs.Going.{EndsIfFairOn, IsFairOn, IsStepOf, moment_on}

module _ {T : Type 0} where
  -- the steps of one party in a turn are some of all steps in it
  own_of_all : (p : ℕ) (w : World T) (turn : Turn T) → own_step p w turn ≤ steps_of w turn
  own_of_all p w (Begin q start) = omega arith
  own_of_all p w (Next q) = go (q == p)
    where
      -- The cases are whether the turn is of this party.
      go : (b : Bool) → (if b then steps_of w (Next q) else 0) ≤ steps_of w (Next q)
      go true = omega arith
      go false = omega arith
  own_of_all p w (Decide q said) = omega arith
  own_of_all p w (Die owner) = omega arith

  -- One more turn adds its own steps to those of a list of turns.
  one_step_more : (t : Trace T) (xs : List (Turn T)) (x : Turn T) → steps_in t (xs ++ x ∷ []) ≡ steps_in t xs + steps_of (after_turns t xs).world x
  one_step_more t [] x = omega arith
  one_step_more t (y ∷ xs) x = let rest = one_step_more (after_turn t y) xs x in omega arith

  -- What holds of all of a list of turns and of one more holds of the longer list.
  all_more : (P : Turn T → Type 0) (xs : List (Turn T)) (x : Turn T) → AllByRecursion P xs → P x → AllByRecursion P (xs ++ x ∷ [])
  all_more P [] x all here = (here, tt)
  all_more P (y ∷ xs) x all here = (all.0, all_more P xs x all.1 here)

  -- Turns that are not refused, with one more that is not refused after them, are turns that are not refused.
  allowed_more : (u : Trace T) (xs : List (Turn T)) (x : Turn T) → AreAllowedOn u xs → call_refusal (after_turns u xs).world x ≡ None
      → AreAllowedOn u (xs ++ x ∷ [])
  allowed_more u [] x all here = (here, tt)
  allowed_more u (y ∷ xs) x all here = (all.0, allowed_more (after_turn u y) xs x all.1 here)

  -- The turn as a list, or no turn if it was refused.
  abbrev unless : Turn T → Option Refusal → List (Turn T)
  unless turn None = turn ∷ []
  unless turn (Some refusal) = []

  module _ (t : Trace T) (turns : ℕ → Turn T) where
    -- The machine after the first k turns of the schedule.
    abbrev now : ℕ → Trace T
    now k = moment_on t turns k

    -- Why the turn k of the schedule is refused, if it is.
    abbrev refused : ℕ → Option Refusal
    refused k = call_refusal (now k).world (turns k)

    -- The turns among the first k of the schedule that were not refused.
    abbrev taken : ℕ → List (Turn T)
    taken zero = []
    taken (suc k) = taken k ++ unless (turns k) (refused k)

    -- the turns that were not refused lead to where the schedule has come
    reaches : (k : ℕ) → after_turns t (taken k) ≡ now k
    reaches zero = refl
    reaches (suc k) = by (refused k) (reaches k)
      where
        -- The cases are whether the next turn of the schedule is refused.
        by : (o : Option Refusal) → after_turns t (taken k) ≡ now k
            → after_turns t (taken k ++ unless (turns k) o) ≡ unless_refused (now k) (after_turn (now k) (turns k)) o
        by None so_far = after_turns_more t (taken k) (turns k) ∙ ap (λ u. after_turn u (turns k)) so_far
        by (Some refusal) so_far = ap (after_turns t) (append-nil (taken k)) ∙ so_far

    -- None of the turns taken (the first k of the schedule without the refused ones) is refused.
    are_allowed : (k : ℕ) → AreAllowedOn t (taken k)
    are_allowed zero = tt
    are_allowed (suc k) = by (refused k) refl (are_allowed k)
      where
        -- The cases are whether the next turn of the schedule is refused.
        by : (o : Option Refusal) → refused k ≡ o → AreAllowedOn t (taken k) → AreAllowedOn t (taken k ++ unless (turns k) o)
        by None free all = allowed_more t (taken k) (turns k) all (rw (reaches k) free)
        by (Some refusal) free all = subst (AreAllowedOn t) (sym (append-nil (taken k))) all

    -- What holds of each turn of the schedule holds of each turn taken.
    are_such : (P : Turn T → Type 0) → ((k : ℕ) → P (turns k)) → (k : ℕ) → AllByRecursion P (taken k)
    are_such P each zero = tt
    are_such P each (suc k) = by (refused k) (are_such P each k)
      where
        -- The cases are whether the next turn of the schedule is refused.
        by : (o : Option Refusal) → AllByRecursion P (taken k) → AllByRecursion P (taken k ++ unless (turns k) o)
        by None all = all_more P (taken k) (turns k) all (each k)
        by (Some refusal) all = subst (AllByRecursion P) (sym (append-nil (taken k))) all

    -- How many steps are taken in the first k turns of the schedule.
    abbrev steps_by : ℕ → ℕ
    steps_by k = steps_in t (taken k)

    -- A turn of the schedule that is not refused adds its steps to those taken before.
    one_more : (k : ℕ) → refused k ≡ None → steps_by (suc k) ≡ steps_by k + steps_of (now k).world (turns k)
    one_more k free =
        ap (λ o. steps_in t (taken k ++ unless (turns k) o)) free
        ∙ (one_step_more t (taken k) (turns k) ∙ ap (λ (u : Trace T). steps_by k + steps_of u.world (turns k)) (reaches k))

    -- with one turn more of the schedule no fewer steps have been taken
    no_fewer : (k : ℕ) → steps_by k ≤ steps_by (suc k)
    no_fewer k = by (refused k)
      where
        -- The cases are whether the next turn of the schedule is refused.
        by : (o : Option Refusal) → steps_by k ≤ steps_in t (taken k ++ unless (turns k) o)
        by None = let more = one_step_more t (taken k) (turns k) in omega arith
        by (Some refusal) = let same = ap (steps_in t) (append-nil (taken k)) in omega arith

    -- at a later moment no fewer steps have been taken
    steps_up : (k m : ℕ) → k ≤ m → steps_by k ≤ steps_by m
    steps_up k zero le = let same : k ≡ 0 = omega arith in rw same (omega arith)
    steps_up k (suc m) le = ⊎_elim here (λ ne. there ne (steps_up k m)) (cases_eq k (suc m))
      where
        -- The case that the later moment is the next one itself.
        here : k ≡ suc m → steps_by k ≤ steps_by (suc m)
        here same = rw same (omega arith)

        there : k ≢ suc m → (k ≤ m → steps_by k ≤ steps_by m) → steps_by k ≤ steps_by (suc m)
        there ne more = let rest = more (omega (arith, ne, le)) in let last = no_fewer m in omega arith

    module _ (p : ℕ) (fair : IsFairOn t turns p) where
      -- The party has no call under way at some moment of the schedule.
      abbrev IdleAtSome : Type 0
      IdleAtSome = (k : ℕ) × (flight_in (now k).world p ≡ None)

      -- By some moment of the schedule at least j steps are taken.
      abbrev StepsTaken : ℕ → Type 0
      StepsTaken j = (k : ℕ) × (j ≤ steps_by k)

      -- If j steps are taken by some moment, then the party has no call under way at some moment, or j + 1
      -- steps are taken by a later one.
      once : (j : ℕ) → StepsTaken j → IdleAtSome ⊎ StepsTaken (suc j)
      once j (k, took) = ⊎_elim (λ none. inl (fair.at k, none)) (λ one. inr (suc (fair.at k), more one)) (fair.goes k)
        where
          -- the step at the fair moment makes one more step of the party
          more : IsStepOf p (now (fair.at k)).world (turns (fair.at k)) → suc j ≤ steps_by (suc (fair.at k))
          more one =
              let own = own_of_all p (now (fair.at k)).world (turns (fair.at k)) in
              let step = one.1 in
              let last = one_more (fair.at k) one.0 in
              omega (arith, steps_up k (fair.at k) (fair.later k))

      often : (j : ℕ) → IdleAtSome ⊎ StepsTaken j
      often zero = inr (0, omega arith)
      often (suc j) = ⊎_elim (λ rests. inl rests) (λ took. once j took) (often j)

    -- what begins is a part of the load
    few_begin : (calls : ℕ) → ((k : ℕ) → begun (now k).events ≤ begun t.events + calls) → (k : ℕ) → begins_in (taken k) ≤ calls
    few_begin calls few k =
        let most = few k in
        let begins = begins_are t (taken k) in
        let same : begun (after_turns t (taken k)).events ≡ begun (now k).events = ap (λ (u : Trace T). begun u.events) (reaches k) in
        omega arith

    -- A load grows with the number of its calls, so a bound by fewer calls is one by more.
    within : (b under calls k : ℕ) → begins_in (taken k) ≤ calls → steps_by k ≤ load b (under + begins_in (taken k)) → steps_by k ≤ load b (under + calls)
    within b under calls k few steps = omega (arith, worth (under + begins_in (taken k)) (under + calls) (b + 1) (omega arith))

  -- where a finite load ends, each party to which the schedule is fair comes to a moment at which it has no call under
  -- way
  fair_end : (kind : Kind) (bound : Bound) → EndsLoad T kind bound → EndsIfFairOn T kind bound
  fair_end kind bound ends t is r ps calls turns below few p fair = ⊎_elim (λ rests. rests) none
      (often t turns p fair (suc (load (bound (length ps) t.world.capacity t.world.coding.size) (pending ps t.world + calls))))
    where
      -- no moment comes at which more steps have been taken than the load allows
      none : (k : ℕ) × (suc (load (bound (length ps) t.world.capacity t.world.coding.size) (pending ps t.world + calls)) ≤ steps_by t turns k)
          → (k : ℕ) × (flight_in (moment_on t turns k).world p ≡ None)
      none (k, many) =
          let steps = ends t is r ps (taken t turns k) (are_allowed t turns k) (are_such t turns (IsAmong ps) below k) in
          let less =
          within t turns (bound (length ps) t.world.capacity t.world.coding.size) (pending ps t.world) calls k (few_begin t turns calls few k) steps in
          absurd (omega arith)

-- Each kind that is lock-free ends the call of a party to which the schedule is fair.
pub ends_if_fair : (T : Type 0) (kind : Kind) → IfSome (lock_free_bound kind) (EndsIfFairOn T kind)
ends_if_fair T kind = if_some (EndsLoad T kind) (EndsIfFairOn T kind) (lock_free_bound kind) (fair_end kind) (load_ends T kind)
