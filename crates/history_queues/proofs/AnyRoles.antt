-- The calls on the roles and the lengths of a queue begin in the same way on each kind of queue: bounded,
-- overflowing, of indices or of values.
use Rattle.history.proofs.Names.{◌≡◌, ℕ, ◌<◌, ◌≤◌, false, Option, Some, None, List, [], refl, subst, arith}
use Rattle.history.proofs.Names.{first_len}
use Rattle.steps.specs.declared.queues.roles.Role.TheVariants.{Producer, Consumer}
use Rattle.model.specs.declared.event.Event.{Event}
use Rattle.model.specs.declared.event.Start.TheVariants.{Queues}
use Rattle.model.specs.declared.families.Flight.{Flight}
use Rattle.model.specs.declared.families.Registry.{Registry}
use Rattle.history.proofs.Names.{Coding, first_of, opening_of}
use Rattle.model.specs.declared.families.queues.QueueKind.{QueueKind}
use Rattle.model.specs.declared.families.queues.Roles.{Roles}
use Rattle.model.specs.declared.families.queues.calls.LengthOf.{LengthOf}
use Rattle.laws_queues.proofs.Queues.Invariant.{machine_kind}
use Rattle.steps.specs.declared.queues.roles.Role.{Role}
use Rattle.model.specs.Families.Queues.Opening.{lacks_role}
use Rattle.history.specs.declared.view.View.{View}
use Rattle.history_queues.specs.Queues.{takes_role, gives_role, looks_role, length_start, counts_waiting}
use Rattle.history.specs.Roles.{role_word, holder, acquire_start, release_start, look_start, HasRole}
use Rattle.history.specs.Stages.{At}
use Rattle.history.proofs.Beginning.{at_begin}
use Rattle.history.proofs.Drives.{Driven, IsCallBy}
use Rattle.history_queues.proofs.Queues.{plain_begins, role_begins}

-- a call on a structure is one on a structure with more words
pub wider : {T C M E : Type 0} (code : Coding T) (effects : ℕ → Flight T → ℕ → List (Event T)) (some more : ℕ → ℕ)
    (driven : Driven T C M E) → ((n : ℕ) → some n ≤ more n) → IsCallBy code effects some driven → IsCallBy code effects more driven
wider = grind arith

module _ {T : Type 0} where
  -- the model begins an acquire of a role at its only stage, on each kind of queue
  acquire_is : (kd : QueueKind) (r : Role) (c : ℕ) (m : Unit {0}) (kept : Registry T)
      → ◌≡◌ {A = Option (Flight T)} (first_of (machine_kind kd) c (Queues (acquire_start r)) kept)
      (Some ((takes_role r).flight (record { word = role_word r }) m))
  acquire_is = grind arith

  -- the model begins a release of a role at its only stage, on each kind of queue
  release_is : (kd : QueueKind) (r : Role) (c : ℕ) (m : Unit {0}) (kept : Registry T)
      → ◌≡◌ {A = Option (Flight T)} (first_of (machine_kind kd) c (Queues (release_start r)) kept)
      (Some ((gives_role r).flight (record { word = role_word r }) m))
  release_is = grind arith

  -- the model begins a look at a role at its only stage, on each kind of queue
  look_is : (kd : QueueKind) (r : Role) (c : ℕ) (m : Unit {0}) (kept : Registry T)
      → ◌≡◌ {A = Option (Flight T)} (first_of (machine_kind kd) c (Queues (look_start r)) kept)
      (Some ((looks_role r).flight (record { word = role_word r }) m))
  look_is = grind arith

  -- the model begins a call on lengths as one that counts what waits, on each kind of queue
  len_is : (kd : QueueKind) (which : LengthOf) (c : ℕ) (m : Unit {0}) (kept : Registry T)
      → ◌≡◌ {A = Option (Flight T)} (first_of (machine_kind kd) c (Queues (length_start which)) kept)
      (Some ((counts_waiting which c).flight (first_len c) m))
  len_is = grind arith

-- ---- the calls on roles and lengths begin: no party lacks a role for them

acquire_lacks : (T : Type 0) (r : Role) (roles : Roles) (p : ℕ) → lacks_role {T = T} roles p (acquire_start r) ≡ false
acquire_lacks T Producer roles p = refl
acquire_lacks T Consumer roles p = refl

release_lacks : (T : Type 0) (r : Role) (roles : Roles) (p : ℕ) → holder r roles ≡ Some p → lacks_role {T = T} roles p (release_start r) ≡ false
release_lacks = grind arith

look_lacks : (T : Type 0) (r : Role) (roles : Roles) (p : ℕ) → lacks_role {T = T} roles p (look_start r) ≡ false
look_lacks T Producer roles p = refl
look_lacks T Consumer roles p = refl

len_lacks : (T : Type 0) (which : LengthOf) (roles : Roles) (p : ℕ) → lacks_role {T = T} roles p (length_start which) ≡ false
len_lacks = grind arith

-- a pass with a share has no call under way and knows one history alone
module _ {T : Type 0} (code : Coding T) (kd : QueueKind) (x : View T) (m : Unit {0}) (idle : x.going ≡ None)
    (alone : x.other ≡ []) (any : 0 < x.share.part) where
  -- the first step of an acquire of a role, for a pass that needs none
  pub acquire_first_on : (role : Role) → At code (machine_kind kd) (takes_role role) x x (record { word = role_word role }) m
  acquire_first_on role =
      at_begin idle alone any refl (acquire_is kd role x.capacity m ((opening_of (machine_kind kd)).kept x.capacity))
      (plain_begins kd (acquire_start role) refl (acquire_is kd role x.capacity m) (λ o p h. h) (acquire_lacks T role)) (λ p. refl)

  -- the first step of the release of a role, for a pass that has it
  pub release_first_on : (role : Role) → HasRole role x.made → At code (machine_kind kd) (gives_role role) x x (record { word = role_word role }) m
  release_first_on role has =
      at_begin idle alone any refl (release_is kd role x.capacity m ((opening_of (machine_kind kd)).kept x.capacity))
      (role_begins kd (release_start role) refl (release_is kd role x.capacity m) role (λ o p. tt) (release_lacks T role) has) (λ p. refl)

  -- the first step of a look at a role
  pub look_first_on : (role : Role) → At code (machine_kind kd) (looks_role role) x x (record { word = role_word role }) m
  look_first_on role =
      at_begin idle alone any refl (look_is kd role x.capacity m ((opening_of (machine_kind kd)).kept x.capacity))
      (plain_begins kd (look_start role) refl (look_is kd role x.capacity m) (λ o p h. h) (look_lacks T role)) (λ p. refl)

  -- a call on lengths begins on a pass with no call under way
  pub len_first_on : (which : LengthOf) (size : ℕ) → x.capacity ≡ size → At code (machine_kind kd) (counts_waiting which size) x x (first_len size) m
  len_first_on which size same =
      subst (λ n. At code (machine_kind kd) (counts_waiting which n) x x (first_len n) m) same
      (at_begin idle alone any (refl, refl) (len_is kd which x.capacity m ((opening_of (machine_kind kd)).kept x.capacity))
      (plain_begins kd (length_start which) refl (len_is kd which x.capacity m) (λ o p h. h) (len_lacks T which)) (λ p. refl))
