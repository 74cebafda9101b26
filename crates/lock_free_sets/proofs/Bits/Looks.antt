-- A look at a place: a call of the model in one step, and what it answers.
use Rattle.lock_free_sets.proofs.Names.{◌≡◌, ℕ, ◌+◌, ◌<◌, nat_le, Bool, None, List, [], ◌++◌, refl, sym, ap}
use Rattle.lock_free_sets.proofs.Names.{arith, nat_tests, Ask, Truth, Event, Bits, one_word, element_of, elements}
use Rattle.lock_free_sets.proofs.Names.{answered, View, At, Ends, Driven, IsCallBy, KeepsEnds, keeps_to_end}
use Rattle.steps.specs.Bits.Looks.{is_set_want, is_set_after}
use Rattle.steps.specs.declared.ask.Op.TheVariants.{Load}
use Rattle.steps.specs.declared.ask.Want.TheVariants as wants
use Rattle.steps.specs.declared.bits.looks.IsSet.{IsSet as Looking}
use Rattle.model.specs.declared.families.bits.BitsStart.TheVariants.{IsSet}
use Rattle.model.specs.declared.turn.Kind.TheVariants as kinds
use Rattle.history.proofs.CallsIn.{last_tells}
use Rattle.history_bits.proofs.Sets.{bits_starts, set_effects}
use Rattle.lock_free_sets.specs.Driven.{IsIdle, HasMade}
use Rattle.lock_free_sets.specs.Bits.Looks.{looks_at, IsSetDone}
use Rattle.lock_free_sets.specs.Sets.Kinds.{Flags, words_of}
use Rattle.lock_free_sets.proofs.Sets.Machines.{machines}
use Rattle.lock_free_sets.proofs.Ends.{made_by, before_end, to_end}
use Rattle.lock_free_sets.proofs.Sets.Answered.{bits_answer}

module _ (place : ℕ) where
  -- how a look at a place is driven
  abbrev driven : Driven ℕ Looking (Unit {0}) Bool
  driven = record { want = λ c. is_set_want c place; after = λ c n. is_set_after c place n; kept = λ c m n. m; call = looks_at place }

  -- a look at a place is a call of the model
  is_call : IsCallBy one_word set_effects (words_of Flags) driven
  is_call =
      record {
        same_want = λ c m. refl;
        same_after = λ capacity c m n h. refl;
        hears = λ c m a n e. (hears c a n e, refl);
        stays = λ capacity c d n stands e. absurd (cc);
        asks = λ capacity c stands. (record { word = element_of place; op = Load }, near capacity stands, refl);
        past = λ capacity c d n k h e. refl;
        finds = λ c m n small t. tt;
        leaves = λ c a n t e. absurd (cc);
        tells = λ capacity p from c d m n es stands wrote e. absurd (cc);
        tells_all = last_tells set_effects driven (λ step e skip leads. ap (λ (zs : List (Event ℕ)). zs ++ []) step.wrote);
      }
    where
      -- The word of a place below the capacity is a word of the set.
      near : (capacity : ℕ) → place < capacity → element_of place < 1 + elements capacity
      near capacity below = omega arith

      -- The call goes on after what the driver hands back of its load as after the number that the word had.
      hears : (c : Looking) (a : Ask) (n : ℕ) → is_set_want c place ≡ wants.Ask a → is_set_after c place (answered a.op n) ≡ is_set_after c place n
      hears c a n e =
          let same : record { word = element_of place; op = Load } ≡ a = cc in
          ap (λ (z : Ask). is_set_after c place (answered z.op n)) (sym same)

  -- the step of a look keeps the rule of the table, and tells what is known after it
  pub look_keeps : KeepsEnds one_word kinds.Bits (words_of Flags) driven
  look_keeps = keeps_to_end (machines Flags) driven is_call (λ c n. refl)

  -- A look at a place below the capacity is about to begin.
  pub look_first : (v : View ℕ) (c : Looking) (m : Unit {0}) → IsIdle v.capacity v → place < v.capacity
      → At one_word kinds.Bits (looks_at place) v v c m
  look_first v c m idle place_below_capacity = grind (arith, nat_le, nat_tests, bits_starts, one_word, looks_at)

  module _ {base w : View ℕ} {answer : Bool} {m : Unit {0}} (idle : base.going ≡ None)
      (ends : Ends one_word kinds.Bits (looks_at place) base answer m w) where
    -- The look is a call of the history that wrote nothing.
    made : HasMade (Bits (IsSet place)) (Truth answer) (λ by. []) base w
    made = made_by ends idle (λ by. []) ends.tells

    -- a look that has ended changed nothing, and answered whether the place stood as it ended
    pub looked : IsSetDone place answer base w
    looked =
        record {
          made = made;
          by = made.by;
          before = before_end made.called;
          is = to_end made.called;
          stood = (bits_answer ends.history made.called).1;
        }
