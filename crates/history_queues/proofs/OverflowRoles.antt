-- The calls on the roles and the lengths of an overflowing queue are those of an index queue, over one cell
-- more; each step keeps the rule of the table.
use Rattle.history.proofs.Names.{ℕ, ◌+◌, ◌≤◌}
use Rattle.history.proofs.Names.{refl, arith, len_want, len_after, Coding}
use Rattle.model.specs.declared.families.queues.calls.LengthOf.{LengthOf}
use Rattle.history.proofs.Names.{KeepsRule}
use Rattle.steps.specs.declared.queues.roles.Role.{Role}
use Rattle.model.specs.declared.turn.Kind.TheVariants as kinds
use Rattle.history.specs.declared.view.View.{View}
use Rattle.history.specs.History.{IsMachine}
use Rattle.history_queues.specs.Queues.{counts_waiting}
use Rattle.history.specs.Stages.{At, Ends}
use Rattle.history_queues.proofs.AnyRoles.{wider}
use Rattle.history.proofs.Drives.{IsCallIn, KeepsEnds, in_machine, keeps_all_in, keeps_sized}
use Rattle.history_queues.proofs.Overflows.{over_effects, overflow_machines}
use Rattle.history_queues.proofs.QueueRoles.{acquire_driven, release_driven, look_driven, len_driven, len_is_call}
use Rattle.history_queues.proofs.Queues.{queue_effects}

module _ {T : Type 0} (code : Coding T) where
  -- how many words an overflowing queue has
  abbrev words_of : ℕ → ℕ
  words_of capacity = 4 + (capacity + 1)

  -- an overflowing queue has at least the words of an index queue
  low : (capacity : ℕ) → 4 + capacity ≤ words_of capacity
  low capacity = omega arith

  module _ (role : Role) where
    -- an acquire of a role is a call of the model
    acquires : IsCallIn (overflow_machines code) (acquire_driven code role)
    acquires = grind arith

    -- each step of an acquire of a role keeps the rule
    pub over_acquire_keeps : KeepsEnds code kinds.Overflow words_of (acquire_driven code role)
    over_acquire_keeps = keeps_all_in (overflow_machines code) (acquire_driven code role) acquires (λ c n. refl)

    -- a release of a role is a call of the model
    releases : IsCallIn (overflow_machines code) (release_driven code role)
    releases = grind arith

    -- each step of a release of a role keeps the rule
    pub over_release_keeps : KeepsEnds code kinds.Overflow words_of (release_driven code role)
    over_release_keeps = keeps_all_in (overflow_machines code) (release_driven code role) releases (λ c n. refl)

    -- a look at a role is a call of the model
    looks : IsCallIn (overflow_machines code) (look_driven code role)
    looks = grind arith

    -- each step of a look at a role keeps the rule
    pub over_look_keeps : KeepsEnds code kinds.Overflow words_of (look_driven code role)
    over_look_keeps = keeps_all_in (overflow_machines code) (look_driven code role) looks (λ c n. refl)

  module _ (which : LengthOf) where
    -- a call on lengths is a call of the model, on a queue of this capacity
    counts : (size : ℕ) → IsCallIn (overflow_machines code) (len_driven code which size)
    counts size =
        in_machine over_effects (λ c m late h. h) (λ capacity p c m n t run there. refl)
        (wider code (queue_effects code) (λ capacity. 4 + capacity) words_of (len_driven code which size) low (len_is_call code which size))

    -- each step of a call on lengths keeps the rule, on a queue of this capacity
    len_keeps : (size : ℕ) → KeepsEnds code kinds.Overflow words_of (len_driven code which size)
    len_keeps size = keeps_all_in (overflow_machines code) (len_driven code which size) (counts size) (λ c n. refl)

    -- each step of a call on lengths keeps the rule, for any capacity
    pub over_lens_keep : KeepsRule (λ (z : View T). z.asked) (λ (z : View T). z.capacity)
        (λ (base : View T). At code kinds.Overflow (counts_waiting which base.capacity) base)
        (λ (base : View T). Ends code kinds.Overflow (counts_waiting which base.capacity) base)
        (λ key. 4 + (key + 1) + 1) (λ key. key) (λ key. IsMachine code kinds.Overflow key) len_want len_after
        (λ c m n. m)
    over_lens_keep = keeps_sized code kinds.Overflow words_of len_want len_after (λ c m n. m) (counts_waiting which) len_keeps
