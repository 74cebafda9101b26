-- Acts, and turns that decide, which the definitions refuse: each of another step than the one in which it belongs.
use Rattle.model.proofs.Names.{Acted, Ask, Decide, Default, Die, Next, Option, PoppedIndex, PushIndex, QueueKind}
use Rattle.model.proofs.Names.{Queues, Some, Told, Trace, Truth, ap, arith, false, length, one_word, opening, refl}
use Rattle.model.proofs.Names.{true, ℕ, ◌++◌, ◌+◌, ◌∷◌, ◌≡◌}
use Rattle.steps.specs.declared.ask.Op.{Op}
use Rattle.steps.specs.declared.ask.Op.TheVariants as ops
use Rattle.model.specs.declared.event.Answer.TheVariants.{Done}
use Rattle.model.specs.declared.event.Start.TheVariants.{Atomic, Robust}
use Rattle.model.specs.declared.families.atomic.AtomicStart.TheVariants as atomic_starts
use Rattle.model.specs.declared.families.indices.robust.RobustStart.TheVariants.{Acquire, Find, Recover}
use Rattle.model.specs.declared.families.queues.QueueKind.TheVariants.{IndexQueue, Overflow}
use Rattle.model.specs.declared.families.queues.QueueStart.TheVariants.{Pop, Len}
use Rattle.model.specs.declared.turn.Kind.TheVariants as kinds
use Rattle.model.specs.Families.Atomic.Promises as values
use Rattle.model.specs.Families.Indices.Robust.Promises.{FindsUpTo, ToldRight, YesTells}
use Rattle.model.specs.Families.Queues.Promises as queues
use Rattle.model.proofs.Runs.{begins, ran}

same_is_more : (n : ℕ) → n ≡ n + 1 → ⊥
same_is_more n same = absurd (omega arith)

-- ---- queues: both positions are 0

-- An index queue of capacity 1 as it opens.
abbrev fresh : Trace ℕ
fresh = opening one_word kinds.IndexQueue 1 2

-- This operation on this word.
abbrev ask_of : ℕ → Op → Option Ask
ask_of word op = Some (record { word = word; op = op })

-- a push that acts as it stores its cell
pub no_early_push : queues.ActsRight IndexQueue fresh (ask_of 4 (ops.Store 5)) (λ q. q ≡ 0) (Acted 0 (Queues (PushIndex 5)) (Truth true)) → ⊥
no_early_push acts_right = same_is_more 0 acts_right.1

-- a pop that acts as it loads its cell
pub no_early_pop : queues.ActsRight IndexQueue fresh (ask_of 4 ops.Load) (λ q. q ≡ 1) (Acted 1 (Queues Pop) (PoppedIndex 5)) → ⊥
no_early_pop acts_right = same_is_more 0 acts_right.1

-- a push that acts as another party publishes
pub no_push_by_another : queues.ActsRight IndexQueue fresh (ask_of 0 (ops.Store 1)) (λ q. q ≡ 1) (Acted 0 (Queues (PushIndex 5)) (Truth true)) → ⊥
no_push_by_another acts_right = let his = acts_right.0 in absurd (cc)

-- an overflowing push that acts with the value that leaves where its exchange fails
pub no_failed_exchange : queues.ActsRight Overflow fresh (ask_of 1 (ops.Exchange 7 8)) (λ q. q ≡ 0)
    (Acted 0 (Queues (PushIndex 5)) (PoppedIndex 3))
    → ⊥
no_failed_exchange acts_right = same_is_more 0 acts_right.1

-- another call
pub no_act_of_len : (kind : QueueKind) (t : Trace ℕ) (ask : Option Ask) → queues.ActsRight kind t ask (λ q. q ≡ 0) (Acted 0 (Queues Len) Done) → ⊥
no_act_of_len kind t ask acts_right = acts_right

pub no_act_of_role : (t : Trace ℕ) (ask : Option Ask)
    → values.ActsRight t ask (λ q. q ≡ 0) (Acted 0 (Atomic atomic_starts.AcquireProducer) (Truth true)) → ⊥
no_act_of_role t ask acts_right = acts_right

-- ---- decisions: an owner holds an index

-- A find of owner 7, which has index 0, waits at its question.
abbrev held : Trace ℕ
held = ran one_word kinds.Robust 2 2 (begins 0 (Robust (Acquire 7)) 4 ++ begins 0 (Robust (Find 7)) 1)

-- a find that a no does not end
pub no_deaf_find : FindsUpTo held (Decide 0 false) held → ⊥
no_deaf_find found = same_is_more 5 (ap length (found 0 7 refl (refl, tt)).ends)

-- A recovery waits at its question about index 0 of owner 7, who is dead.
abbrev asked : Trace ℕ
asked = ran one_word kinds.Robust 2 2 (begins 0 (Robust (Acquire 7)) 4 ++ Die 7 ∷ begins 1 (Robust (Recover Default)) 2)

-- a recovery that is told nothing by a yes
pub no_deaf_recovery : YesTells asked (Decide 1 true) asked → ⊥
no_deaf_recovery yes_tells = same_is_more 7 (ap length (yes_tells 1 Default refl (refl, tt)).is)

-- a recovery is not told of an index by the next step
pub no_late_told : ToldRight asked (Next 1) (Told 1 0 7) → ⊥
no_late_told told_right = let turn = told_right.0 in absurd (cc)
