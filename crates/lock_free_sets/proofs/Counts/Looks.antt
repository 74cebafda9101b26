-- A look at a count: a call of the model in one step, and what it answers.
use Rattle.lock_free_sets.proofs.Names.{◌≡◌, ℕ, ◌+◌, ◌<◌, nat_le, None, List, [], ◌++◌, refl, sym, ap}
use Rattle.lock_free_sets.proofs.Names.{arith, nat_tests, Ask, Number, Event, Bits, one_word}
use Rattle.lock_free_sets.proofs.Names.{answered, View, At, Ends, Driven, IsCallBy, KeepsEnds, keeps_to_end}
use Rattle.steps.specs.Bits.Looks.{count_want, count_after}
use Rattle.steps.specs.declared.ask.Op.TheVariants.{Load}
use Rattle.steps.specs.declared.ask.Want.TheVariants as wants
use Rattle.steps.specs.declared.bits.looks.Count.{Count as Looking}
use Rattle.model.specs.declared.families.bits.BitsStart.TheVariants.{Count}
use Rattle.model.specs.declared.turn.Kind.TheVariants as kinds
use Rattle.history.proofs.CallsIn.{last_tells}
use Rattle.history_bits.proofs.Sets.{counts_starts, set_effects}
use Rattle.lock_free_sets.specs.Driven.{IsIdle, HasMade}
use Rattle.lock_free_sets.specs.Counts.Looks.{looks_at, CountDone}
use Rattle.lock_free_sets.specs.Sets.Kinds.{Counts, words_of}
use Rattle.lock_free_sets.proofs.Sets.Machines.{machines}
use Rattle.lock_free_sets.proofs.Ends.{made_by, before_end, to_end}
use Rattle.lock_free_sets.proofs.Sets.Answered.{counts_answer}

module _ (place : ℕ) where
  -- how a look at a count is driven
  abbrev driven : Driven ℕ Looking (Unit {0}) ℕ
  driven = record { want = λ c. count_want c place; after = λ c n. count_after c n; kept = λ c m n. m; call = looks_at place }

  -- a look at a count is a call of the model
  is_call : IsCallBy one_word set_effects (words_of Counts) driven
  is_call =
      record {
        same_want = λ c m. refl;
        same_after = λ capacity c m n h. refl;
        hears = λ c m a n e. (hears c a n e, refl);
        stays = λ capacity c d n stands e. absurd (cc);
        asks = λ capacity c stands. (record { word = place; op = Load }, stands, refl);
        past = λ capacity c d n k h e. refl;
        finds = λ c m n small t. tt;
        leaves = λ c a n t e. absurd (cc);
        tells = λ capacity p from c d m n es stands wrote e. absurd (cc);
        tells_all = last_tells set_effects driven (λ step e skip leads. ap (λ (zs : List (Event ℕ)). zs ++ []) step.wrote);
      }
    where
      -- The call goes on after what the driver hands back of its load as after the number that the word had.
      hears : (c : Looking) (a : Ask) (n : ℕ) → count_want c place ≡ wants.Ask a → count_after c (answered a.op n) ≡ count_after c n
      hears c a n e =
          let same : record { word = place; op = Load } ≡ a = cc in
          ap (λ (z : Ask). count_after c (answered z.op n)) (sym same)

  -- the step of a look keeps the rule of the table, and tells what is known after it
  pub look_keeps : KeepsEnds one_word kinds.Counts (words_of Counts) driven
  look_keeps = keeps_to_end (machines Counts) driven is_call (λ c n. refl)

  -- A look at a count below the capacity is about to begin.
  pub look_first : (v : View ℕ) (c : Looking) (m : Unit {0}) → IsIdle v.capacity v → place < v.capacity
      → At one_word kinds.Counts (looks_at place) v v c m
  look_first v c m idle place_below_capacity = grind (arith, nat_le, nat_tests, counts_starts, one_word, looks_at)

  module _ {base w : View ℕ} {number : ℕ} {m : Unit {0}} (idle : base.going ≡ None)
      (ends : Ends one_word kinds.Counts (looks_at place) base number m w) where
    -- The look is a call of the history that wrote nothing.
    made : HasMade (Bits (Count place)) (Number number) (λ by. []) base w
    made = made_by ends idle (λ by. []) ends.tells

    -- a look that has ended changed nothing, and answered the count of the place as it ended
    pub looked : CountDone place number base w
    looked =
        record {
          made = made;
          by = made.by;
          before = before_end made.called;
          is = to_end made.called;
          count = (counts_answer ends.history made.called).1;
        }
