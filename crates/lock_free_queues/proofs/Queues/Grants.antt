-- What a party has made that pushes and pops one item again and again: its roles.
use Rattle.lock_free_queues.proofs.Names.{◌≡◌, true, ℕ, zero, suc, List, ◌++◌, sum_by, refl, subst, append_assoc}
use Rattle.lock_free_queues.proofs.Names.{arith, sum_by-append, Role, Producer, Consumer, Answer, Truth, PoppedNone}
use Rattle.lock_free_queues.proofs.Names.{Event, Item, HasRole, takes, gives}
use Rattle.lock_free_queues.specs.Queues.Roles.{LacksRole}
use Rattle.lock_free_queues.specs.Queues.Opened.{pushed_once, popped_once, given_roles, rounds, opened}

module _ {T : Type 0} where
  -- what moves no role leaves it
  pub still_has : (role : Role) (es more : List (Event T)) → sum_by (takes role) more ≡ 0
      → sum_by (gives role) more ≡ 0 → HasRole role es → HasRole role (es ++ more)
  still_has role es more takes_none gives_none has_role = grind (arith, sum_by-append, takes, gives)

  -- Who had the role, and then gave it back once and took it no more, lacks it.
  lacks_after : (role : Role) (es more : List (Event T)) → sum_by (takes role) more ≡ 0
      → sum_by (gives role) more ≡ 1 → HasRole role es → LacksRole role (es ++ more)
  lacks_after role es more takes_none gives_is_one has_role = grind (arith, sum_by-append, takes, gives)

  -- A pop of the item leaves either role with its holder.
  pub after_pop : (role : Role) (x : Item T) (es : List (Event T)) → HasRole role es → HasRole role (es ++ popped_once x)
  after_pop role x es has_role = grind (arith, still_has)

-- a push moves no role: of a bounded queue, and of an overflowing one
module _ {T : Type 0} where
  -- a push with this answer neither takes a role nor gives one back
  abbrev pub IsQuiet : Answer T → Type 0
  IsQuiet answer = (role : Role) (x : Item T) → (sum_by (takes role) (pushed_once answer x) ≡ 0) × (sum_by (gives role) (pushed_once answer x) ≡ 0)

  -- A push of a bounded queue moves no role.
  pub quiet_true : IsQuiet (Truth true)
  quiet_true role x = grind arith

  -- A push of an overflowing queue moves no role.
  pub quiet_none : IsQuiet PoppedNone
  quiet_none role x = grind arith

module _ {T : Type 0} (answer : Answer T) (quiet : IsQuiet answer) where
  -- A push of the item leaves both roles with party 0.
  pub after_push : (role : Role) (x : Item T) (es : List (Event T)) → HasRole role es → HasRole role (es ++ pushed_once answer x)
  after_push role x es has = (let none = quiet role x in still_has role es (pushed_once answer x) none.0 none.1 has)

  -- the party has either role after any number of rounds of a push and a pop
  pub has_it : (x : Item T) (n : ℕ) (role : Role) → HasRole role (rounds answer x n)
  has_it x zero Producer = refl
  has_it x zero Consumer = refl
  has_it x (suc n) role =
      subst (HasRole role) (append_assoc (rounds answer x n) (pushed_once answer x) (popped_once x))
      (after_pop role x (rounds answer x n ++ pushed_once answer x) (after_push role x (rounds answer x n) (has_it x n role)))

  -- the first pass has no role
  pub has_none : (x : Item T) (n : ℕ) → LacksRole Producer (opened answer x n) × LacksRole Consumer (opened answer x n)
  has_none x zero = (refl, refl)
  has_none x (suc n) = (
    lacks_after Producer (rounds answer x (suc n)) given_roles refl refl (has_it x (suc n) Producer),
    lacks_after Consumer (rounds answer x (suc n)) given_roles refl refl (has_it x (suc n) Consumer),
  )
