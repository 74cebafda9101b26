-- Counting a place: a call of the model in one step, and what it answers.
use Rattle.lock_free_sets.proofs.Names.{◌≡◌, ℕ, ◌+◌, ◌<◌, nat_le, None, [], ◌∷◌, ◌++◌, refl, sym, ap, ◌∙◌}
use Rattle.lock_free_sets.proofs.Names.{arith, nat_tests, Ask, Number, Event, Finished, Bits, Set, one_word}
use Rattle.lock_free_sets.proofs.Names.{answered, View, At, Ends, Driven, IsCallBy, KeepsEnds, keeps_to_end}
use Rattle.steps.specs.Bits.Counts.{set_want, set_after}
use Rattle.steps.specs.declared.ask.Op.TheVariants.{Add}
use Rattle.steps.specs.declared.ask.Want.TheVariants as wants
use Rattle.steps.specs.declared.bits.counting_bit_set.Set as counting
use Rattle.model.specs.declared.event.Event.TheVariants.{Counted}
use Rattle.model.specs.declared.turn.Kind.TheVariants as kinds
use Rattle.history.proofs.CallsIn.{last_tells}
use Rattle.history_bits.proofs.Sets.{counts_starts, set_effects}
use Rattle.lock_free_sets.specs.Driven.{IsIdle}
use Rattle.lock_free_sets.specs.Counts.Stages.{counts_place}
use Rattle.lock_free_sets.specs.Counts.Contracts.{HasCounted, AnswersCount, SetDone}
use Rattle.lock_free_sets.specs.Sets.Kinds.{Counts, words_of}
use Rattle.lock_free_sets.proofs.Sets.Machines.{machines}
use Rattle.lock_free_sets.proofs.Ends.{made_by, to_end}
use Rattle.lock_free_sets.proofs.Sets.Answered.{counts_answer}

module _ (place : ℕ) where
  -- how counting a place is driven
  abbrev driven : Driven ℕ counting.Set (Unit {0}) ℕ
  driven = record { want = λ c. set_want c place; after = λ c n. set_after c n; kept = λ c m n. m; call = counts_place place }

  -- counting a place is a call of the model
  is_call : IsCallBy one_word set_effects (words_of Counts) driven
  is_call =
      record {
        same_want = λ c m. refl;
        same_after = λ capacity c m n h. refl;
        hears = λ c m a n e. (hears c a n e, refl);
        stays = λ capacity c d n stands e. absurd (cc);
        asks = λ capacity c stands. (record { word = place; op = Add 1 }, stands, refl);
        past = λ capacity c d n k h e. refl;
        finds = λ c m n small t. tt;
        leaves = λ c a n t e. absurd (cc);
        tells = λ capacity p from c d m n es stands wrote e. absurd (cc);
        tells_all = last_tells set_effects driven (λ step e skip leads. ap (λ zs. zs ++ Counted step.p place ∷ []) step.wrote);
      }
    where
      -- The call goes on after what the driver hands back of its operation as after the
      -- number that the word had.
      hears : (c : counting.Set) (a : Ask) (n : ℕ) → set_want c place ≡ wants.Ask a → set_after c (answered a.op n) ≡ set_after c n
      hears c a n e =
          let same : record { word = place; op = Add 1 } ≡ a = cc in
          ap (λ (z : Ask). set_after c (answered z.op n)) (sym same)

  -- the step of counting a place keeps the rule of the table, and tells what is known after it
  pub count_keeps : KeepsEnds one_word kinds.Counts (words_of Counts) driven
  count_keeps = keeps_to_end (machines Counts) driven is_call (λ c n. refl)

  -- A count at a place below the capacity is about to begin.
  pub count_first : (v : View ℕ) (c : counting.Set) (m : Unit {0}) → IsIdle v.capacity v → place < v.capacity
      → At one_word kinds.Counts (counts_place place) v v c m
  count_first v c m idle place_below_capacity = grind (arith, nat_le, nat_tests, counts_starts, one_word, counts_place)

  module _ {base w : View ℕ} {number : ℕ} {m : Unit {0}} (idle : base.going ≡ None)
      (ends : Ends one_word kinds.Counts (counts_place place) base number m w) where
    -- The count is a call of the history with its answer.
    counted : HasCounted place number base w
    counted = made_by ends idle (λ by. Counted by place ∷ []) ends.tells

    -- the answer of counting a place is the count just before, modulo 2^64
    answers : AnswersCount place number w
    answers =
        let right = counts_answer ends.history counted.called in
        let last : Event ℕ = Finished counted.by (Bits (Set place)) (Number number) in
        record { by = counted.by; before = right.before; is = to_end counted.called ∙ ap (λ es. es ++ last ∷ []) right.is; count = right.count }

    -- A set that has ended has done what `SetDone` says.
    pub set_done : SetDone place number base w
    set_done = record { counted = counted; answers = answers }
