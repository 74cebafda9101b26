-- What is a law of every run is one of every machine, whose runs leave out the turns that it refuses.
use Rattle.std.proofs.Common.{arith}
use Rattle.history.proofs.Names.{◌≡◌, ℕ, None, Coding, IsCoding, refusal_of, after_turn, IsReached}
use Rattle.model.specs.declared.turn.Kind.{Kind}
use Rattle.model.specs.declared.turn.Turn.{Turn}
use Rattle.history.proofs.Names.{IsReachedOn, Trace, opened, capacity_error, turn_making, kept_by_runs}
use Rattle.history.proofs.Names.{reached_on_more, passes}
use Rattle.history_bits.specs.Acts.{ActsByPlace, IsSet}
use Rattle.history_bits.proofs.Acts.Laws.{runs_act}

module _ {T : Type 0} where
  -- a set that has just been opened is reached
  at_opening : (code : Coding T) (kind : Kind) (capacity queue parties : ℕ) → IsCoding code
      → capacity_error kind capacity ≡ None → IsSet kind → IsReachedOn (opened code kind capacity queue parties)
  at_opening = grind arith

  -- a machine of a set of places is reached by turns that are not refused
  abbrev IsReachedSet : Trace T → Type 0
  IsReachedSet u = IsSet u.world.kind → IsReachedOn u

  goes_on : (u : Trace T) (turn : Turn T) → refusal_of u.world turn ≡ None → IsReachedSet u → IsReachedSet (after_turn u turn)
  goes_on u turn free is_reached_set set = grind (arith, reached_on_more, passes, turn_making)

  -- a machine of a set that is reached by any turns, refused or not, is reached by turns that are not refused
  pub reached_is_on : {t : Trace T} → IsReached t → IsSet t.world.kind → IsReachedOn t
  reached_is_on {t} reached set =
      kept_by_runs IsReachedSet goes_on t
      (λ queue queued. at_opening t.world.coding t.world.kind t.world.capacity queue t.world.parties reached.coded reached.admitted)
      reached set

  pub machines_act : {t : Trace T} → IsReached t → IsSet t.world.kind → ActsByPlace t.world.kind t.world.capacity t.events
  machines_act {t} reached set = runs_act t (reached_is_on reached set) set
