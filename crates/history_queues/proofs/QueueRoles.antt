-- The calls on the roles and the lengths of an index queue are calls of the model, each step of which keeps
-- the rule of the table.
use Rattle.history.proofs.Names.{◌≡◌, ℕ, ◌+◌, ◌<◌, Bool, None}
use Rattle.history.proofs.Names.{[], refl, arith}
use Rattle.steps.specs.declared.ask.Ask.{Ask}
use Rattle.steps.specs.declared.ask.After.TheVariants.{GoOn}
use Rattle.history.proofs.Names.{Coding, after_of, answered, KeepsRule}
use Rattle.history.proofs.Names.{len_asks, len_want, len_takes, len_after}
use Rattle.model.specs.declared.families.queues.calls.LengthOf.{LengthOf}
use Rattle.steps.specs.declared.ask.Op.TheVariants.{Load}
use Rattle.steps.specs.declared.ask.Want.TheVariants as wants
use Rattle.history.specs.Stages.{Calling, At, Ends}
use Rattle.model.specs.declared.turn.Kind.TheVariants as kinds
use Rattle.history.specs.declared.view.View.{View}
use Rattle.history.specs.History.{IsMachine}
use Rattle.history.specs.Roles.{role_word, HasRole}
use Rattle.steps.specs.Queues.Roles.{acquire_want, acquire_after, release_want, release_after, look_want, look_after}
use Rattle.steps.specs.declared.queues.lengths.Len.{Len}
use Rattle.steps.specs.declared.queues.lengths.LenStage.{LenStage}
use Rattle.steps.specs.declared.queues.lengths.LenStage.TheVariants as lengths
use Rattle.steps.specs.declared.queues.roles.AcquireRole.{AcquireRole}
use Rattle.steps.specs.declared.queues.roles.LookRole.{LookRole}
use Rattle.steps.specs.declared.queues.roles.ReleaseRole.{ReleaseRole}
use Rattle.steps.specs.declared.queues.roles.Role.{Role}
use Rattle.model.specs.declared.families.queues.QueueKind.TheVariants.{IndexQueue}
use Rattle.history_queues.specs.Queues.{takes_role, gives_role, looks_role, counts_waiting}
use Rattle.history_queues.proofs.AnyRoles.{acquire_first_on, release_first_on}
use Rattle.history.proofs.Drives.{goes, keeps_sized, keeps_to_end}
use Rattle.history_queues.proofs.Queues.{queue_effects, index_queue_machines}
use Rattle.history.proofs.CallsIn.{Driven, IsCallBy, KeepsEnds}

-- ---- acquires, releases and looks of roles

module _ {T : Type 0} (code : Coding T) (role : Role) where
  -- an acquire of the role, as a call of the model
  abbrev acquiring : Calling T AcquireRole (Unit {0}) Bool
  acquiring = takes_role role

  -- a release of the role, as a call of the model
  abbrev releasing : Calling T ReleaseRole (Unit {0}) (Unit {0})
  releasing = gives_role role

  -- an acquire of a role, as the driver makes it
  abbrev pub acquire_driven : Driven T AcquireRole (Unit {0}) Bool
  acquire_driven = record { want = acquire_want; after = acquire_after; kept = λ c m n. m; call = acquiring }

  -- an acquire of a role is a call of the model
  pub acquire_is_call : IsCallBy code (queue_effects code) (λ capacity. 4 + capacity) acquire_driven
  acquire_is_call = grind arith

  -- each step of an acquire of a role keeps the rule of the table
  pub acquire_keeps : KeepsEnds code kinds.IndexQueue (λ capacity. 4 + capacity) acquire_driven
  acquire_keeps = keeps_to_end (index_queue_machines code) acquire_driven acquire_is_call (λ c n. refl)

  -- an acquire of a role begins on a pass with no call under way
  pub acquire_first : (x : View T) (m : Unit {0}) → x.going ≡ None → x.other ≡ [] → 0 < x.share.part
      → At code kinds.IndexQueue acquiring x x (record { word = role_word role }) m
  acquire_first x m idle alone any = acquire_first_on code IndexQueue x m idle alone any role

  -- a release of a role, as the driver makes it
  abbrev pub release_driven : Driven T ReleaseRole (Unit {0}) (Unit {0})
  release_driven = record { want = release_want; after = release_after; kept = λ c m n. m; call = releasing }

  -- a release of a role is a call of the model
  pub release_is_call : IsCallBy code (queue_effects code) (λ capacity. 4 + capacity) release_driven
  release_is_call = grind arith

  -- each step of a release of a role keeps the rule of the table
  pub release_keeps : KeepsEnds code kinds.IndexQueue (λ capacity. 4 + capacity) release_driven
  release_keeps = keeps_to_end (index_queue_machines code) release_driven release_is_call (λ c n. refl)

  -- a release of a role begins on a pass that has the role and no call under way
  pub release_first : (x : View T) (m : Unit {0}) → x.going ≡ None → x.other ≡ [] → 0 < x.share.part
      → HasRole role x.made → At code kinds.IndexQueue releasing x x (record { word = role_word role }) m
  release_first x m idle alone any has = release_first_on code IndexQueue x m idle alone any role has

  -- the call that tells whether a role is held, as the driver makes it
  abbrev pub look_driven : Driven T LookRole (Unit {0}) Bool
  look_driven = record { want = look_want; after = look_after; kept = λ c m n. m; call = looks_role role }

  -- a look at a role is a call of the model
  pub look_is_call : IsCallBy code (queue_effects code) (λ capacity. 4 + capacity) look_driven
  look_is_call = grind arith

  -- each step of a look at a role keeps the rule of the table
  pub look_keeps : KeepsEnds code kinds.IndexQueue (λ capacity. 4 + capacity) look_driven
  look_keeps = keeps_to_end (index_queue_machines code) look_driven look_is_call (λ c n. refl)

-- ---- the calls on lengths

module _ {T : Type 0} (code : Coding T) (which : LengthOf) (size : ℕ) where
  -- a call on lengths, as a call of the model
  abbrev counting : Calling T Len (Unit {0}) ℕ
  counting = counts_waiting which size

  -- the model's call on lengths goes on as the driver's does
  len_same_after : (c : Len) (m : Unit {0}) (n : ℕ) → c.capacity ≡ size → after_of code (counting.flight c m) n ≡ goes counting (len_after c n) m
  len_same_after = grind arith

  len_stays : (n : ℕ) (c : Len) (k : ℕ) (d : Len) (stage : LenStage) → c.capacity ≡ n → len_takes c stage k ≡ GoOn d → d.capacity ≡ n
  len_stays = grind arith

  -- at each stage a length asks for a word of the queue
  len_asks_for : (capacity : ℕ) (stage : LenStage) → (a : Ask) × (a.word < 4 + capacity) × (len_asks stage ≡ wants.Ask a)
  len_asks_for capacity lengths.LoadsWrite = (record { word = 0; op = Load }, omega arith, refl)
  len_asks_for capacity (lengths.LoadsRead write) = (record { word = 1; op = Load }, omega arith, refl)
  len_asks_for capacity (lengths.LoadsWriteAgain write read) = (record { word = 0; op = Load }, omega arith, refl)
  len_asks_for capacity (lengths.LoadsReadAgain write read) = (record { word = 1; op = Load }, omega arith, refl)

  -- what a call on lengths hears of an operation is what the word was before it
  len_hears : (c : Len) (a : Ask) (n : ℕ) (stage : LenStage) → len_asks stage ≡ wants.Ask a → len_takes c stage (answered a.op n) ≡ len_takes c stage n
  len_hears = grind arith

  -- a call on lengths, as the driver makes it
  abbrev pub len_driven : Driven T Len (Unit {0}) ℕ
  len_driven = record { want = len_want; after = len_after; kept = λ c m n. m; call = counting }

  -- a call on lengths is a call of the model
  pub len_is_call : IsCallBy code (queue_effects code) (λ capacity. 4 + capacity) len_driven
  len_is_call = grind (arith, len_same_after, len_hears, len_stays, len_asks_for)

  -- each step of a call on lengths keeps the rule of the table
  pub len_keeps : KeepsEnds code kinds.IndexQueue (λ capacity. 4 + capacity) len_driven
  len_keeps = keeps_to_end (index_queue_machines code) len_driven len_is_call (λ c n. refl)

-- each step of a call on lengths keeps the rule, for any capacity
pub lens_keep : {T : Type 0} (code : Coding T) (which : LengthOf)
    → KeepsRule (λ (z : View T). z.asked) (λ (z : View T). z.capacity)
    (λ (base : View T). At code kinds.IndexQueue (counts_waiting which base.capacity) base)
    (λ (base : View T). Ends code kinds.IndexQueue (counts_waiting which base.capacity) base) (λ key. 4 + key + 1)
    (λ key. key) (λ key. IsMachine code kinds.IndexQueue key) len_want len_after (λ c m n. m)
lens_keep code which =
    keeps_sized code kinds.IndexQueue (λ capacity. 4 + capacity) len_want len_after (λ c m n. m) (counts_waiting which)
    (λ n. len_keeps code which n)
