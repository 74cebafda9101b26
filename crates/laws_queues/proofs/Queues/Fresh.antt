-- Runs in which no push finds the last position, and no store of the single value the last version.
use Rattle.laws_queues.proofs.Names.{◌≡◌, ℕ, None, List, [], ◌∷◌, ◌++◌, get_or, refl, Flight}
use Rattle.laws_queues.proofs.Names.{QueueFlight, Coding, want_of, ask_of, want, old_of, run_on, attempt_on}
use Rattle.laws_queues.proofs.Names.{after_turn, call_refusal, Kind, Turn, Trace, opening}
use native.Mathlib.Omega.{arith}
use Rattle.model.specs.Fresh.{IsFreshAt, IsFreshCall}
pub use Rattle.model.specs.Fresh.{IsFreshTurn, IsFreshRun}
pub use Rattle.lemmas.proofs.Fresh.{fresh_more, fresh_opening}

-- A push that is to load the write position asks for word 0, so whether a call is fresh can
-- be told from word 0.
module _ {T : Type 0} (z : Coding T) where
  -- a call that is fresh at the value that its step reads is fresh at the write position
  pub fresh_there : (words : List ℕ) (flight : QueueFlight T)
      → IsFreshAt {T = T} (old_of words (ask_of (want z flight))) flight → IsFreshAt {T = T} (get_or words 0 0) flight
  fresh_there = grind arith

  -- a call of any family that is fresh by word 0 is fresh by the word that it asks for
  pub fresh_any : (words : List ℕ) (flight : Flight T) → IsFreshCall (get_or words 0 0) flight → IsFreshCall (old_of words (ask_of (want_of z flight))) flight
  fresh_any = grind arith
