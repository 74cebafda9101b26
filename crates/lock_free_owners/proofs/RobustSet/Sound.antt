-- What holds of each history of a set: what the laws of its open runs say.
use Rattle.lock_free_owners.proofs.Names.{◌≡◌, inl, inr, ⊎_elim, ℕ, List, slice_index, sym, subst, ◌∙◌, greatest}
use Rattle.lock_free_owners.proofs.Names.{LockIfLastIndex, Unlocked, OutOfIndices, NoIndex, State, Event, Finished}
use Rattle.lock_free_owners.proofs.Names.{Robust, Release, one_word, SetDoes, IsWellFormed, HoldsRight, Each, Word}
use Rattle.lock_free_owners.proofs.Names.{IsHonest, IsHistory, is_open_set}
use Rattle.model.specs.declared.families.indices.robust.RobustStart.TheVariants.{Acquire, Recover}
use Rattle.model.specs.declared.turn.Kind.TheVariants as kinds
use Rattle.laws_robust.specs.Gone.{AsksBy, AnswersBy}
use Rattle.laws_robust.specs.Open.{IsOpenSet}
use Rattle.lock_free_owners.specs.Robust.Contracts.{IsSound}

-- an answer that is right where `worn` excuses it is right where anything that follows from `worn` does
pub worn_on : {worn other : Type 0} → (worn → other) → (capacity : ℕ) (before : List (Event ℕ)) (e : Event ℕ) → AnswersBy Word worn capacity before e
    → AnswersBy Word other capacity before e
worn_on may capacity before (Finished p (Robust (Acquire owner)) (NoIndex OutOfIndices)) h = (h.0, ⊎_elim (λ x. inl (may x)) (λ x. inr x) h.1)
worn_on may capacity before (Finished p (Robust (Release index owner LockIfLastIndex)) (State Unlocked)) h =
    (h.0, ⊎_elim (λ x. inl (may x)) (λ x. inr x) h.1)
worn_on may capacity before (Finished p (Robust (Recover mode)) (State Unlocked)) h = h
worn_on may capacity before e h = h

-- Each history of a robust set is sound: its events do to the set what they may, its questions and answers are right, and
-- if it is well-formed and honest, no index is granted that somebody holds.
pub sound_history : (capacity : ℕ) (events : List (Event ℕ)) → IsHistory one_word kinds.Robust capacity events → IsSound capacity events
sound_history capacity events h =
    let set : IsOpenSet h.trace = is_open_set one_word capacity h.trace h.run in
    record {
      does = subst (λ n. Each (SetDoes n) events) h.run.sized (subst (Each (SetDoes h.trace.world.capacity)) (sym h.is) set.does);
      asks = subst (Each (AsksBy Word)) (sym h.is) set.asks;
      answers = λ before after e is. worn_on (λ worn. record { trace = h.trace; run = h.run; is = h.is; worn = worn }) capacity before e
          (subst (λ n. AnswersBy Word (slice_index h.trace.world.words 0 ≡ greatest) n before e) h.run.sized (set.answers before after e (sym h.is ∙ is)));
      holds = λ well_formed honest. subst (Each HoldsRight) (sym h.is) (set.holds (subst IsWellFormed h.is well_formed) (subst IsHonest h.is honest));
    }
