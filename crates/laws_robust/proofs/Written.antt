-- What a step of a call writes apart from an end: events of its party, and `Told` where the call gets a yes
-- to its question.
use Rattle.laws_robust.proofs.Names.{◌≡◌, ◌≢◌, ℕ, ◌==◌, Option, Some, List, [], arith, AllByRecursion, Event, Filled}
use Rattle.laws_robust.proofs.Names.{Granted, FreedOf, Asked, Told, Locked, RobustFlight, Turn, want, owned_by, freed}
use Rattle.laws_robust.proofs.Names.{effects, IsParty, IsEffectOf}
use Rattle.lemmas_owners.proofs.Lists.{all_either}

-- `P` holds of each event that a call of the party `p` may write of the set, except `Told`
pub record HoldsOf {T : Type 0} (P : Event T → Type 0) (p : ℕ) : Type 0 where
  pub filled : (index owner : ℕ) → P (Filled p index owner)
  pub granted_to : (index owner : ℕ) → P (Granted p index owner)
  pub freed_of : (index owner : ℕ) → P (FreedOf p index owner)
  pub asked : (index owner : ℕ) → P (Asked p index owner)
  pub locked : P (Locked p)

module _ {T : Type 0} (P : Event T → Type 0) (p : ℕ) (holds_of : HoldsOf P p) where
  -- `P` holds of each of these events
  abbrev All : List (Event T) → Type 0
  All es = AllByRecursion P es

  -- `P` holds of what an exchange of a cell writes
  pub all_freed : (index owner old : ℕ) → All (freed p index owner old)
  all_freed index owner old = all_either P (old == owner) _ [] (holds_of.freed_of index owner, tt) tt

  -- `P` holds of the event `Told` that the call writes if its answer is a yes
  abbrev MayTell : Option (ℕ × ℕ) → ℕ → Type 0
  MayTell asked old = (index owner : ℕ) → asked ≡ Some (index, owner) → old ≢ 0 → P (Told p index owner)

  -- `P` holds of each event that a step of the call writes of the set
  pub effects_hold : (flight : RobustFlight) (old : ℕ) → MayTell (owned_by (want flight)) old → All (effects p flight old)
  effects_hold flight old told = grind arith

module _ {T : Type 0} (turn : Turn T) (p : ℕ) (mine : IsParty turn p) where
  -- each event that a step writes of the set is an effect of the turn
  pub all_effects : (flight : RobustFlight) (old : ℕ) → AllByRecursion (IsEffectOf turn) (effects p flight old)
  all_effects flight old = grind arith
