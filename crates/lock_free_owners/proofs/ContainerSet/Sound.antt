-- What holds of each history of a container: what the laws of its open runs say.
use Rattle.std.proofs.Common.{arith}
use Rattle.lock_free_owners.proofs.Names.{◌≡◌, ℕ, List, slice_index, sym, subst, ◌∙◌, greatest}
use Rattle.lock_free_owners.proofs.Names.{ReleaseMode, Event}
use Rattle.lock_free_owners.proofs.Names.{Coding, SetDoes, IsWellFormed, HoldsRight}
use Rattle.lock_free_owners.proofs.Names.{Each, Word, IsHonest, IsHistory, is_open_container}
use Rattle.model.specs.declared.turn.Kind.TheVariants as kinds
use Rattle.laws_container.specs.Gone.{AsksBy, RecoversBy, AnswersBy, FilledSinceEachBy}
use Rattle.laws_container.specs.Open.{IsOpenContainer}
use Rattle.lock_free_owners.specs.Container.Contracts.{IsSound}

module _ {T : Type 0} {worn other : Type 0} (may : worn → other) where
  -- If a counter that is worn in one sense is so in another (`may`), what is said of each index of an
  -- owner in the one sense holds in the other.
  since_each : (mode : ReleaseMode) (p owner : ℕ) (events : List (Event T)) → FilledSinceEachBy worn mode p owner events
      → FilledSinceEachBy other mode p owner events
  since_each mode p owner events filled_since_each_by = grind arith

  -- what an answer says where its counter may be worn it says where that may be for another reason
  pub worn_on : (capacity : ℕ) (before : List (Event T)) (e : Event T) → AnswersBy Word worn capacity before e → AnswersBy Word other capacity before e
  worn_on capacity before e answers_by = grind (arith, since_each)

-- each history of a container is sound: its events do to the set what they may, and its answers are right
pub sound_history : {T : Type 0} (code : Coding T) (capacity : ℕ) (events : List (Event T)) → IsHistory code kinds.Container capacity events
    → IsSound code capacity events
sound_history code capacity events h =
    let set : IsOpenContainer h.trace h.run.reached = is_open_container code capacity h.trace h.run in
    record {
      does = subst (λ n. Each (SetDoes n) events) h.run.sized (subst (Each (SetDoes h.trace.world.capacity)) (sym h.is) set.does);
      asks = subst (Each (AsksBy Word)) (sym h.is) set.asks;
      recovers = subst (Each (RecoversBy Word)) (sym h.is) set.recovers;
      answers = λ before after e is. worn_on (λ worn. record { trace = h.trace; run = h.run; is = h.is; worn = worn }) capacity before e
          (subst (λ n. AnswersBy Word (slice_index h.trace.world.words 0 ≡ greatest) n before e) h.run.sized (set.answers before after e (sym h.is ∙ is)));
      holds = λ well_formed honest. subst (Each HoldsRight) (sym h.is) (set.holds (subst IsWellFormed h.is well_formed) (subst IsHonest h.is honest));
    }
