-- For each field of what `headline` says of every kind, of the progress of calls and of one turn, what this field refuses.
use Rattle.std.proofs.Common.{◌≡◌, inl, ℕ, true, false, List, [], ◌∷◌, ◌++◌, refl, arith}
use Rattle.steps.specs.declared.indices.enums.ReleaseMode.TheVariants.{Default}
use Rattle.model.specs.declared.event.Event.{Event}
use Rattle.model.specs.declared.event.Event.TheVariants.{Begun, Acted, Asked, Died}
use Rattle.model.specs.declared.event.Answer.TheVariants.{Truth}
use Rattle.model.specs.declared.event.Start.TheVariants.{Queues, Robust, Container}
use Rattle.model.specs.declared.families.Registry.TheVariants as registries
use Rattle.model.specs.declared.families.container.ContainerStart.TheVariants.{Remove}
use Rattle.model.specs.declared.families.indices.robust.RobustStart.TheVariants.{Acquire, Find}
use Rattle.model.specs.declared.families.queues.QueueStart.TheVariants.{Len}
use Rattle.model.specs.declared.party.Doing.TheVariants.{Over}
use Rattle.model.specs.declared.turn.Kind.TheVariants as kinds
use Rattle.model.specs.declared.turn.Turn.TheVariants.{Begin, Next, Decide}
use Rattle.model.specs.Coding.{one_word}
use Rattle.model.specs.Promises.{IsKept, IsTurn}
use Rattle.model.specs.World.{Trace}
use Rattle.model.proofs.Runs.{begins, ran}
use Rattle.headline.specs.Headline.{MakesProgress, Holds, Takes}
use Rattle.wrong_runs.proofs.HeadlineQueues.{full_at_once}
use Rattle.wrong_runs.proofs.Loan.{fresh, still, channel}
use Rattle.wrong_runs.proofs.Machines.{machine}
use Rattle.wrong_runs.proofs.Queues as queues
use Rattle.wrong_runs.proofs.Queues.{queue, push}

-- ---- the progress of calls

-- An index queue in which party 0 has begun a push, with these counts of its steps and turns back.
abbrev went : ℕ → ℕ → Trace ℕ
went steps backs =
    record {
      world =
          record (queue (0 ∷ 0 ∷ 1 ∷ 1 ∷ 0 ∷ 0 ∷ []) []).world {
            latest = (0, record { start = push 7; steps = steps; backs = backs; doing = Over 0 }) ∷ [];
          };
      events = Begun 0 (push 7) ∷ [];
    }

-- a call has turned back, and nobody has changed a word
turns_back : MakesProgress (went 0 1) → ⊥
turns_back progress = absurd (omega (arith, progress.paid 0 _ refl))

-- a push has taken 9 steps
steps_on : MakesProgress (went 9 0) → ⊥
steps_on progress = absurd (omega (arith, progress.bounded 0 (push 7) _ refl refl))

-- A push that has taken 9 steps is not within its guarantee, which is wait-free.
waits_on : MakesProgress (went 9 0) → ⊥
waits_on progress = absurd (omega (arith, progress.guaranteed 0 (push 7) _ refl refl))

-- ---- any kind

-- a push says that an empty queue is full
says_full : Holds 0 (queue (0 ∷ 0 ∷ 1 ∷ 1 ∷ 0 ∷ 0 ∷ []) (Acted 0 (push 7) (Truth false) ∷ [])) → ⊥
says_full all_kept = full_at_once all_kept.runs.list

-- A machine is refused in which a call has turned back, and nobody has changed a word.
not_progressing : Holds 0 (went 0 1) → ⊥
not_progressing all_kept = turns_back all_kept.progress

-- a role is refused that nobody holds
not_kept : IsKept (queue (0 ∷ 0 ∷ 1 ∷ 1 ∷ 0 ∷ 0 ∷ []) queues.refused) → ⊥
not_kept kept = queues.refused_role kept.promised

-- ---- one turn

-- An index queue of capacity 2 as it opens.
abbrev opened : Trace ℕ
opened = ran one_word kinds.IndexQueue 2 2 []

-- a party with no call changes a word
writes_unasked : Takes opened (Next 0) (queue (1 ∷ 0 ∷ 1 ∷ 1 ∷ 0 ∷ 0 ∷ []) []) → ⊥
writes_unasked takes = cc (takes.one_word)

-- another party's call has begun
other : ◌≡◌ {A = ℕ} 1 0 → ⊥
other e = cc

-- A turn of party 0 in which a call of party 1 begins is refused.
moves_another : Takes opened (Next 0) (ran one_word kinds.IndexQueue 2 2 (Begin 1 (Queues Len) ∷ [])) → ⊥
moves_another takes = cc (takes.others_stay 1 other)

-- an event is gone
forgets : Takes (queue (0 ∷ 0 ∷ 1 ∷ 1 ∷ 0 ∷ 0 ∷ []) (Died 0 ∷ [])) (Next 0) opened → ⊥
forgets takes = cc (takes.grows.1)

-- the submission queue has another capacity
grows_longer : Takes (channel still []) (Next 0) (machine kinds.Loan still (registries.Loan (record fresh { queue = 3 })) []) → ⊥
grows_longer takes = cc (takes.keeps_queue)

-- a remove of an index that the container does not have asks for nothing, and does not end
abbrev refusing : Trace ℕ
refusing = ran one_word kinds.Container 1 2 (Begin 0 (Container (Remove 5 7 Default)) ∷ [])

-- A turn in which that remove stays under way is refused.
refuses_on : Takes refusing (Next 0) refusing → ⊥
refuses_on takes = cc (takes.ends 0 refl refl)

-- A robust set of one index, which owner 1 has, and in which party 1 has begun a find for that owner and
-- taken a number of turns.
abbrev finding : ℕ → Trace ℕ
finding steps = ran one_word kinds.Robust 1 2 (begins 0 (Robust (Acquire 1)) 8 ++ begins 1 (Robust (Find 1)) steps)

-- A robust set in whose words owner 7 fills an index, with these events.
abbrev set : List (Event ℕ) → Trace ℕ
set events = machine kinds.Robust (0 ∷ 7 ∷ []) (registries.Owners []) events

-- A turn that writes that a call asks about an index, while no call does, is refused.
asks_nothing : Takes (set []) (Next 0) (set (Asked 0 0 7 ∷ [])) → ⊥
asks_nothing takes = let e = takes.asks refl 0 0 7 (Asked 0 0 7 ∷ []) refl (record { before = []; after = []; is = refl }) in cc

-- a find comes to an index of its owner, and asks nothing
finds_nothing : Takes (finding 0) (Next 1) (set []) → ⊥
finds_nothing takes = cc (takes.finds refl 1 0 1 refl (refl, tt) refl)

-- a find still waits after a decision
waits_still : Takes (finding 1) (Decide 1 true) (finding 1) → ⊥
waits_still takes = cc (takes.answered (inl refl) 1 true refl)

-- a turn is taken, and none is counted
not_counted : IsTurn opened (Next 0) opened → ⊥
not_counted turn = cc (turn.later.turns)
