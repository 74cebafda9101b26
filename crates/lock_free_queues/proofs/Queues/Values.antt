-- The push, the pop and the peek of a queue of values.
use Rattle.lock_free_queues.proofs.Names.{◌≡◌, ℕ, Bool, true, false, Option, Some, None, List, refl, ◌∙◌, option_map}
use Rattle.lock_free_queues.proofs.Names.{Item, Value, Coding, popped_value, value_push_wrote, value_pop_wrote}
use Rattle.lock_free_queues.proofs.Names.{pushes_value, value_there, pops_value, peeks_value}
use Rattle.steps.specs.Queues.Ring.{pop_answer}
use Rattle.lock_free_queues.specs.Queues.Contracts.{push_events, popped_item, pop_events}
use Rattle.lock_free_queues.proofs.Queues.Ended.{IsPush, IsPop}
use Rattle.lock_free_queues.proofs.Queues.Indices.{ends_at}
use Rattle.lock_free_queues.proofs.Queues.Peeks.{IsPeek}

module _ {T : Type 0} (code : Coding T) where
  -- A value as an item.
  abbrev pub value_of : T → Item T
  value_of v = Value v

  -- the call of `steps` that pushes a value is a push of this value
  pub value_push : (v : T) → IsPush code (Value v) (pushes_value code v)
  value_push v =
      record {
        start = refl;
        answer = λ e m. refl;
        tells = λ n p from e m es h. h ∙ told p e;
        left = λ e h. h;
        at_end = λ c m n a skip asks. ends_at code.words_of v n a c.stage skip asks;
      }
    where
      -- What a push of a value writes is what a push of the item writes.
      told : (p : ℕ) (taken : Bool) → value_push_wrote {T = T} p v taken ≡ push_events p (Value v) taken
      told p true = refl
      told p false = refl

  -- The answer of a pop of a value is that of a pop of the item.
  pops_so : (o : Option T) → popped_value o ≡ popped_item (option_map value_of o)
  pops_so None = refl
  pops_so (Some x) = refl

  -- the call of `steps` that pops a value is a pop, by way of a room that has the value's words
  pub value_pop : {R : Type 0} (words_in : R → List ℕ) → IsPop value_of (value_there code words_in) (pops_value code words_in)
  value_pop words_in =
      record {
        start = refl;
        answer = λ e m. pops_so (pop_answer (value_there code words_in m) e);
        tells = λ n p from e m es h. h ∙ told p (value_there code words_in m) e;
      }
    where
      told : (p : ℕ) (x : T) (e : Bool) → value_pop_wrote p x e ≡ pop_events p (option_map value_of (pop_answer x e))
      told p x true = refl
      told p x false = refl

  -- The call of `steps` that peeks at a value is a peek, by way of a room that has the value's words.
  pub value_peek : {R : Type 0} (words_in : R → List ℕ) → IsPeek value_of (value_there code words_in) (peeks_value code words_in)
  value_peek words_in =
      record { start = refl; answer = λ e m. pops_so (pop_answer (value_there code words_in m) e); tells = λ n p from e m es h. h }
