-- The calls on roles and lengths, and what a look tells, of a queue of each kind.
use Rattle.std.proofs.Common.{arith}
use Rattle.lock_free_queues.proofs.Names.{◌≡◌, ℕ, ◌+◌, length, After, Role, Producer}
use Rattle.lock_free_queues.proofs.Names.{Consumer, len_want, len_after}
use Rattle.lock_free_queues.proofs.Names.{QueueKind, IndexQueue, Overflow, Queue, LengthOf, Coding, IsCoding}
use Rattle.lock_free_queues.proofs.Names.{Trace, machine_kind, KeepsRule, View, IsMachine, IsRun, takes_role}
use Rattle.lock_free_queues.proofs.Names.{gives_role, looks_role, counts_waiting, Calling, At, Ends, overflow_owes}
use Rattle.lock_free_queues.proofs.Names.{index_owes, values_owe}
use Rattle.steps.specs.declared.ask.Want.{Want}
use Rattle.steps.specs.Queues.Roles.{acquire_want, acquire_after, release_want, release_after, look_want, look_after}
use Rattle.history_queues.proofs.OverflowRoles.{over_acquire_keeps, over_release_keeps, over_look_keeps, over_lens_keep}
use Rattle.history_queues.proofs.QueueRoles.{acquire_keeps, release_keeps, look_keeps, lens_keep}
use Rattle.history_queues.proofs.ValueQueueRoles.{value_acquire_keeps, value_release_keeps, value_look_keeps, value_lens_keep}
use Rattle.lock_free_queues.specs.Queues.Kinds.{words_in_cells, opened_by}
use Rattle.lock_free_queues.specs.Queues.Opened.{position_at}
use Rattle.lock_free_queues.specs.Queues.Roles.{LacksRole}
use Rattle.lock_free_queues.proofs.Queues.Grants.{has_none, quiet_true, quiet_none}

module _ {T : Type 0} (code : Coding T) where
  -- The machine of a queue has four words and those of the cells.
  pub words_long : (kd : QueueKind) (capacity : ℕ) (t : Trace T) → IsRun code (machine_kind kd) capacity t
      → length t.world.words ≡ 4 + words_in_cells code.size kd capacity
  words_long IndexQueue capacity t run = (index_owes code capacity).size t run
  words_long Overflow capacity t run = (overflow_owes code capacity).size t run
  words_long Queue capacity t run = (values_owe code capacity).size t run

  -- the first pass has no role
  pub opens_bare : (kd : QueueKind) (capacity position : ℕ)
      → LacksRole Producer (opened_by code kd capacity position).made × LacksRole Consumer (opened_by code kd capacity position).made
  opens_bare kd capacity position = grind (arith, has_none, quiet_true, position_at, quiet_none)

module _ {T : Type 0} (code : Coding T) (law : IsCoding code) where
  -- each step of the call keeps the rule of the table of a queue of this kind
  abbrev Keeps : {C M E : Type 0} → QueueKind → Calling T C M E → (C → Want (Unit {0})) → (C → ℕ → After C E) → (C → M → ℕ → M) → Type 0
  Keeps kd call =
      KeepsRule (λ (z : View T). z.asked) (λ (z : View T). z.capacity) (At code (machine_kind kd) call) (Ends code (machine_kind kd) call)
      (λ key. 4 + words_in_cells code.size kd key + 1) (λ key. key) (λ key. IsMachine code (machine_kind kd) key)

  -- Each step of an acquire of a role keeps the rule of the table.
  pub acquires_keep : (kd : QueueKind) (role : Role) → Keeps kd (takes_role role) acquire_want acquire_after (λ c m n. m)
  acquires_keep IndexQueue role = acquire_keeps code role
  acquires_keep Overflow role = over_acquire_keeps code role
  acquires_keep Queue role = value_acquire_keeps code law role

  -- Each step of a release of a role keeps the rule of the table.
  pub releases_keep : (kd : QueueKind) (role : Role) → Keeps kd (gives_role role) release_want release_after (λ c m n. m)
  releases_keep IndexQueue role = release_keeps code role
  releases_keep Overflow role = over_release_keeps code role
  releases_keep Queue role = value_release_keeps code law role

  -- Each step of a look at a role keeps the rule of the table.
  pub looks_keep : (kd : QueueKind) (role : Role) → Keeps kd (looks_role role) look_want look_after (λ c m n. m)
  looks_keep IndexQueue role = look_keeps code role
  looks_keep Overflow role = over_look_keeps code role
  looks_keep Queue role = value_look_keeps code law role

  -- the calls on lengths keep the rule of a table that is a queue of any kind
  pub lengths_keep : (kd : QueueKind) (which : LengthOf)
      → KeepsRule (λ (z : View T). z.asked) (λ (z : View T). z.capacity)
      (λ (base : View T). At code (machine_kind kd) (counts_waiting which base.capacity) base)
      (λ (base : View T). Ends code (machine_kind kd) (counts_waiting which base.capacity) base)
      (λ key. 4 + words_in_cells code.size kd key + 1) (λ key. key) (λ key. IsMachine code (machine_kind kd) key) len_want len_after (λ c m n. m)
  lengths_keep IndexQueue which = lens_keep code which
  lengths_keep Overflow which = over_lens_keep code which
  lengths_keep Queue which = value_lens_keep code law which
