-- The calls on the roles and the lengths of a queue of values are those of an index queue, over wider cells;
-- each step keeps the rule of the table.
use Rattle.history.proofs.Names.{◌≡◌, ℕ, ◌+◌, ◌*◌, ◌≤◌, false}
use Rattle.history.proofs.Names.{refl, arith, len_want}
use Rattle.history.proofs.Names.{len_after, Coding, IsCoding, KeepsRule}
use Rattle.model.specs.declared.families.queues.calls.LengthOf.{LengthOf}
use Rattle.steps.specs.declared.queues.roles.Role.{Role}
use Rattle.model.specs.declared.turn.Kind.TheVariants as kinds
use Rattle.history.specs.declared.view.View.{View}
use Rattle.history.specs.History.{IsMachine}
use Rattle.history_queues.specs.Queues.{counts_waiting}
use Rattle.history.specs.Stages.{At, Ends}
use Rattle.history_queues.proofs.AnyRoles.{wider}
use Rattle.history.proofs.Drives.{keeps_sized, keeps_to_end}
use Rattle.history_queues.proofs.QueueRoles.{acquire_driven, release_driven, look_driven, len_driven}
use Rattle.history_queues.proofs.QueueRoles.{acquire_is_call, release_is_call, look_is_call, len_is_call}
use Rattle.history_queues.proofs.Queues.{queue_effects}
use Rattle.history.proofs.CallsIn.{Driven, IsCallBy, KeepsEnds}
use Rattle.history_queues.proofs.Queues.{queue_machines}

module _ {T : Type 0} (code : Coding T) (law : IsCoding code) where
  -- how many words a queue of values has
  abbrev words_of : ℕ → ℕ
  words_of capacity = 4 + code.size * capacity

  -- a queue of values has at least the words of an index queue
  low : (capacity : ℕ) → 4 + capacity ≤ words_of capacity
  low = grind arith

  -- a call of an index queue that no word ends outside the history keeps the rule over wider cells too
  wide_keeps : {C E : Type 0} (driven : Driven T C (Unit {0}) E) → IsCallBy code (queue_effects code) (λ capacity. 4 + capacity) driven
      → ((c : C) (n : ℕ) → driven.call.skips c n ≡ false) → KeepsEnds code kinds.Queue words_of driven
  wide_keeps driven is_call =
      keeps_to_end (queue_machines code) driven (wider code (queue_effects code) (λ capacity. 4 + capacity) words_of driven low is_call)

  module _ (role : Role) where
    -- each step of an acquire of a role keeps the rule
    pub value_acquire_keeps : KeepsEnds code kinds.Queue words_of (acquire_driven code role)
    value_acquire_keeps = wide_keeps (acquire_driven code role) (acquire_is_call code role) (λ c n. refl)

    -- each step of a release of a role keeps the rule
    pub value_release_keeps : KeepsEnds code kinds.Queue words_of (release_driven code role)
    value_release_keeps = wide_keeps (release_driven code role) (release_is_call code role) (λ c n. refl)

    -- each step of a look at a role keeps the rule
    pub value_look_keeps : KeepsEnds code kinds.Queue words_of (look_driven code role)
    value_look_keeps = wide_keeps (look_driven code role) (look_is_call code role) (λ c n. refl)

  -- each step of a call on lengths keeps the rule, for any capacity
  pub value_lens_keep : (which : LengthOf) → KeepsRule (λ (z : View T). z.asked) (λ (z : View T). z.capacity)
      (λ (base : View T). At code kinds.Queue (counts_waiting which base.capacity) base)
      (λ (base : View T). Ends code kinds.Queue (counts_waiting which base.capacity) base)
      (λ key. 4 + code.size * key + 1) (λ key. key) (λ key. IsMachine code kinds.Queue key) len_want len_after
      (λ c m n. m)
  value_lens_keep which =
      keeps_sized code kinds.Queue words_of len_want len_after (λ c m n. m) (counts_waiting which)
      (λ size. wide_keeps (len_driven code which size) (len_is_call code which size) (λ c n. refl))
