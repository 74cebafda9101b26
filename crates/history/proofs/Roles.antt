-- A pass that has a role, by what it made, has a party that holds the role, by the events (`role_by`).
use Rattle.std.proofs.Common.{arith}
use Rattle.history.proofs.Names.{◌≡◌, ℕ, true, Option, Some, None, is_none, List, refl, sym, sum_by, fold}
use Rattle.history.proofs.Names.{Answer, Truth, Event}
use Rattle.history.proofs.Names.{Each, false, not, holds}
use Rattle.steps.specs.declared.queues.roles.Role.{Role}
use Rattle.model.specs.Families.Queues.Roles.{GrantsRight}
use Rattle.history.specs.Known.{owned}
use Rattle.history.specs.Roles.{takes, gives, role_after, HasRole}
use Rattle.history.proofs.Ledger.{Moves, held_by_one}

-- an option of which `is_none` holds is none
nobody : (o : Option ℕ) → is_none o ≡ true → o ≡ None
nobody None none = refl
nobody (Some p) none = absurd (cc)

pub granted : {T : Type 0} (o : Option ℕ) → ◌≡◌ {A = Answer T} (Truth true) (Truth (is_none o)) → o ≡ None
granted o e = nobody o (let b : true ≡ is_none o = cc in sym b)

module _ {T : Type 0} (owner : ℕ → ℕ) (j : ℕ) where
  -- the event moves the role as it is counted: acquired where nobody holds it, given back by its holder
  abbrev MovesIt : Role → List (Event T) → Event T → Type 0
  MovesIt role = Moves (takes role) (gives role) (role_after role) owner j

  -- an event that grants a role rightly moves the role as it is counted
  moves : (role : Role) (before : List (Event T)) (e : Event T) → GrantsRight before e → MovesIt role before e
  moves = grind arith

  -- each event of a history in which roles are granted rightly moves the role as it is counted
  all_move : (role : Role) (all : List (Event T)) → Each GrantsRight all → Each (MovesIt role) all
  all_move role all each before after e is = moves role before e (each before after e is)

  -- a pass that made an acquire of the role more than it gave back has the party that holds the role
  pub role_by : (role : Role) (all made : List (Event T)) → Each GrantsRight all
      → ((f : Event T → ℕ) → sum_by f made ≡ sum_by (owned owner j f) all) → HasRole role made
      → (p : ℕ) × (owner p ≡ j) × (fold (role_after role) None all ≡ Some p)
  role_by role all made each sums has = held_by_one (takes role) (gives role) (role_after role) owner j made (all_move role all each) sums has

-- who holds the role does not lack it
pub holds_it : (o : Option ℕ) (p : ℕ) → o ≡ Some p → not (holds o p) ≡ false
holds_it = grind arith
