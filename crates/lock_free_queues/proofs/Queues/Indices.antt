-- The push, the pop and the peek of an index queue.
use Rattle.lock_free_queues.proofs.Names.{◌≡◌, ℕ, Bool, true, false, Option, Some, None, List, refl, ◌∙◌}
use Rattle.lock_free_queues.proofs.Names.{◌-◌, ◌^◌, arith, nat_tests, option_map, Ask, OneWord, Item, Index}
use Rattle.lock_free_queues.proofs.Names.{IsCoding, one_word, popped, push_skips, push_wrote, pop_wrote, pushes_index}
use Rattle.lock_free_queues.proofs.Names.{pops_index, peeks_index}
use Rattle.steps.specs.declared.ask.Want.TheVariants as wants
use Rattle.steps.specs.declared.queues.ring.PushStage as pushes
use Rattle.steps.specs.Queues.Ring.{pop_answer, push_asks}
use Rattle.lock_free_queues.specs.Queues.Contracts.{push_events, popped_item, pop_events}
use Rattle.lock_free_queues.proofs.Queues.Ended.{IsPush, IsPop}
use Rattle.lock_free_queues.proofs.Queues.Peeks.{IsPeek}

-- An index is written in one word, itself.
pub is_coding : IsCoding one_word
is_coding = grind arith

-- a push is left out where its first load finds the last position
pub ends_at : {V : Type 0} (words_of : V → List ℕ) (value : V) (n : ℕ) (a : Ask) (stage : pushes.PushStage)
    → push_skips stage n ≡ true → push_asks words_of stage value ≡ wants.Ask a → (a.word ≡ 0) × (n ≡ 2 ^ 64 - 1)
ends_at words_of value n a stage skips push_asks_is = grind (arith, nat_tests)

-- A number as an item.
abbrev pub index_of : ℕ → Item ℕ
index_of v = Index v

-- the call of `steps` that pushes an index is a push of this number
pub index_push : (v : ℕ) → IsPush one_word (Index v) (pushes_index v)
index_push v =
    record {
      start = refl;
      answer = λ e m. refl;
      tells = λ n p from e m es h. h ∙ told p e;
      left = λ e h. h;
      at_end = λ c m n a skip asks. ends_at one_word.words_of v n a c.stage skip asks;
    }
  where
    -- What a push of an index writes is what a push of the item writes.
    told : (p : ℕ) (taken : Bool) → push_wrote {T = ℕ} p v taken ≡ push_events p (Index v) taken
    told p true = refl
    told p false = refl

-- The index in a room of one word.
abbrev pub in_room : OneWord → ℕ
in_room m = m.0

-- The answer of a pop of an index is that of a pop of the item.
pops_so : (o : Option ℕ) → popped {T = ℕ} o ≡ popped_item (option_map index_of o)
pops_so None = refl
pops_so (Some x) = refl

-- the call of `steps` that pops an index is a pop, by way of a room of one word
pub index_pop : IsPop index_of in_room pops_index
index_pop =
    record {
      start = refl;
      answer = λ e m. pops_so (pop_answer m.0 e);
      tells = λ n p from e m es h. h ∙ told p m.0 e;
    }
  where
    -- What a pop of an index writes is what a pop of the item writes.
    told : (p x : ℕ) (e : Bool) → pop_wrote p x e ≡ pop_events p (option_map index_of (pop_answer x e))
    told p x true = refl
    told p x false = refl

-- The call of `steps` that peeks at an index is a peek, by way of a room of one word.
pub index_peek : IsPeek index_of in_room peeks_index
index_peek = record { start = refl; answer = λ e m. pops_so (pop_answer m.0 e); tells = λ n p from e m es h. h }
