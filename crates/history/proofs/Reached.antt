-- How a machine of a history is reached, by kind: with one turn more, and at its opening. For a robust set or
-- a container (the kinds with owners) the run is open, and threads answer the questions.
use Rattle.std.proofs.Common.{arith}
use Rattle.history.proofs.Names.{Bool, true, ◌≡◌, ℕ, Some, None, [], refl, Start}
use Rattle.history.proofs.Names.{Flight, Registry, QueueKind, Kind, Turn, Next, Decide, Coding}
use Rattle.history.proofs.Names.{IsCoding, begin_rows, want_of, is_question, call_refusal, first_row}
use Rattle.history.proofs.Names.{IsReachedOn, after_turn, World, Trace, capacity_error, flight_in, reached_on_more}
use Rattle.history.proofs.Names.{fresh_more}
use Rattle.model.specs.declared.turn.Kind.TheVariants as kinds
use Rattle.model.specs.World.{opening}
use Rattle.model.specs.Fresh.{IsFreshTurn, IsFreshRun}
use Rattle.model.proofs.Reached.{reached_by_more}
use Rattle.model.specs.Open.{open_refusal}
use Rattle.history.specs.History.{IsReachedAs, IsFreshAs, IsRun, refusal_as}
use Rattle.history.specs.Stages.{rows_as}

-- the kinds whose questions threads answer themselves: robust sets and containers
abbrev pub MayDecide : Kind → Type 0
MayDecide kinds.Robust = Unit {0}
MayDecide kinds.Container = Unit {0}
MayDecide kind = ⊥

module _ {T : Type 0} where
  -- ---- a machine after one turn more

  -- a begin that the machine does not refuse is not refused in a history either, where fewer rows are tested
  pub rows_free : (kind : Kind) (capacity : ℕ) (kept : Registry T) (p : ℕ) (start : Start T) → first_row (begin_rows kind capacity kept p start) ≡ None
      → first_row (rows_as kind capacity kept p start) ≡ None
  rows_free = grind arith

  -- a step that the machine does not refuse is not refused in a history either, whatever the kind
  pub next_as : (kind : Kind) (w : World T) (p : ℕ) → call_refusal w (Next p) ≡ None → refusal_as kind w (Next p) ≡ None
  next_as kinds.Robust w p free = free
  next_as kinds.Container w p free = free
  next_as kind w p free = free

  -- where threads answer the questions, no answer to a question is refused
  pub decide_as : (kind : Kind) → MayDecide kind → (w : World T) (p : ℕ) (said : Bool) (flight : Flight T) → flight_in w p ≡ Some flight
      → is_question (want_of w.coding flight) ≡ true → refusal_as kind w (Decide p said) ≡ None
  decide_as = grind arith

  -- with a turn that is not refused, a machine that is reached stays reached, as its kind asks
  pub reached_as_more : (kind : Kind) (t : Trace T) (turn : Turn T) → refusal_as kind t.world turn ≡ None → IsReachedAs kind t
      → IsReachedAs kind (after_turn t turn)
  reached_as_more kinds.Robust t turn free reached_as = reached_by_more open_refusal t turn free reached_as
  reached_as_more kinds.Container t turn free reached_as = reached_by_more open_refusal t turn free reached_as
  reached_as_more kind t turn free reached_as = reached_on_more t turn free reached_as

  -- with a turn that finds neither the last position nor the last version, a machine stays
  -- fresh, as its kind asks
  pub fresh_as_more : (kind : Kind) (t : Trace T) (turn : Turn T) → refusal_as kind t.world turn ≡ None → IsFreshTurn t turn → IsFreshAs kind t
      → IsFreshAs kind (after_turn t turn)
  fresh_as_more = grind (arith, fresh_more)

  -- ---- the opening

  -- a machine that has just been opened is reached, as its kind asks
  pub reached_as_opening : (code : Coding T) (kind : Kind) (capacity parties : ℕ) → IsCoding code → capacity_error kind capacity ≡ None
      → IsReachedAs kind (opening code kind capacity parties)
  reached_as_opening code kinds.Robust capacity parties coded admitted_here = record { coded = coded; admitted = admitted_here; turns = []; is = refl }
  reached_as_opening code kinds.Container capacity parties coded admitted_here = record { coded = coded; admitted = admitted_here; turns = []; is = refl }
  reached_as_opening code kind capacity parties coded admitted_here = record { coded = coded; admitted = admitted_here; turns = []; is = refl }

  -- a machine that has just been opened is fresh, as its kind says
  pub fresh_as_opening : (code : Coding T) (kind : Kind) (capacity parties : ℕ) → IsFreshAs kind (opening code kind capacity parties)
  fresh_as_opening = grind arith

  -- ---- each kind but robust sets and containers

  -- a run of a machine of a kind without owners, as the laws of that kind have it
  pub record IsRunOn (t : Trace T) : Type 0 where
    pub reached : IsReachedOn t
    pub fresh : IsFreshRun t
