-- From a weight of machines, which each turn that ends no call lowers by its steps, to a bound of the steps between ends.
use Rattle.model.proofs.Names.{AllByRecursion, AreWithinEnds, Bound, Event, IsAmong, Kind, List, None, Option, Refusal}
use Rattle.model.proofs.Names.{Start, Trace, Turn, World, []}
use Rattle.model.proofs.Names.{after_turn, after_turns, arith, ends, events_of, length, steps_in, sum_by-append, world_after, ℕ}
use Rattle.model.proofs.Names.{◌*◌, ◌++◌, ◌+◌, ◌∷◌, ◌≡◌, ◌≤◌}
use Rattle.model.specs.LockFree.{BeginsSuch, end_of, steps_of}
use Rattle.model.specs.Turns.{AreAllowedBy, IsReachedBy}

pub ended_more : {T : Type 0} (xs ys : List (Event T)) → ends (xs ++ ys) ≡ ends xs + ends ys
ended_more xs ys = sum_by-append end_of xs ys

module _ {T : Type 0} (refuses : World T → Turn T → Option Refusal) (May : Turn T → Type 0) (P : Trace T → Type 0) where
  -- what is owed of the machines of which P speaks, and of the turns that may be taken
  pub record Weighs (weight : World T → ℕ) (bound : ℕ) : Type 0 where
    pub keeps : (t : Trace T) (turn : Turn T) → refuses t.world turn ≡ None → May turn → P t → P (after_turn t turn)
    pub most : (t : Trace T) → P t → weight t.world ≤ bound
    pub shows : (t : Trace T) (turn : Turn T) → refuses t.world turn ≡ None → May turn → P t
        → steps_of t.world turn + weight (world_after t.world turn) ≤ weight t.world + ends (events_of t.world turn) * (bound + 1)

  module _ {weight : World T → ℕ} {bound : ℕ} (W : Weighs weight bound) where
    -- over a list of turns, the weight and the calls that ended pay for all steps
    walks : (t : Trace T) → P t → (turns : List (Turn T)) → AreAllowedBy refuses t turns → AllByRecursion May turns
        → steps_in t turns + weight (after_turns t turns).world + ends t.events * (bound + 1)
        ≤ weight t.world + ends (after_turns t turns).events * (bound + 1)
    walks t h [] allowed may = omega arith
    walks t h (turn ∷ turns) allowed may =
        let next = W.keeps t turn allowed.0 may.0 h in
        let here = W.shows t turn allowed.0 may.0 h in
        let rest = walks (after_turn t turn) next turns allowed.1 may.1 in
        let all = rw (ended_more t.events (events_of t.world turn)) at rest in
        omega arith

    -- where k calls more have ended, at most k + 1 times the bound and k steps were taken
    pub runs_end : (t : Trace T) → P t → (turns : List (Turn T)) → AreAllowedBy refuses t turns → AllByRecursion May turns
        → AreWithinEnds bound (steps_in t turns) (ends t.events) (ends (after_turns t turns).events)
    runs_end t h turns allowed may = omega (arith, walks t h turns allowed may, W.most t h)

-- calls keep ending in runs of turns that these rows do not refuse, and in which no call begins but such ones
abbrev pub KeepsEndingBy : {T : Type 0} (refuses : World T → Turn T → Option Refusal) → Kind → (Start T → Type 0) → Bound → Type 0
KeepsEndingBy {T} refuses kind Such bound =
    (t : Trace T) → t.world.kind ≡ kind → (r : IsReachedBy refuses t) → AllByRecursion (BeginsSuch Such) r.turns
    → (parties : List ℕ) (turns : List (Turn T))
    → AreAllowedBy refuses t turns → AllByRecursion (IsAmong parties) turns → AllByRecursion (BeginsSuch Such) turns
    → AreWithinEnds (bound (length parties) t.world.capacity t.world.coding.size) (steps_in t turns) (ends t.events) (ends (after_turns t turns).events)
