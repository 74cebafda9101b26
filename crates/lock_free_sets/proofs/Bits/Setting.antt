-- Setting a place: a call of the model, and what it answers.
use Rattle.lock_free_sets.proofs.Names.{◌≡◌, ℕ, ◌+◌, ◌<◌, ◌==◌, nat_le, Bool, true, false, None, List, [], refl}
use Rattle.lock_free_sets.proofs.Names.{sym, ap, subst, arith, nat_tests, element_of, elements, has_flag, Ask, After}
use Rattle.lock_free_sets.proofs.Names.{Event, Bits, one_word, after_of}
use Rattle.lock_free_sets.proofs.Names.{answered, View, At, Ends, goes, Driven, IsCallBy, KeepsEnds, keeps_to_end}
use Rattle.steps.specs.Bits.BitSet.{first_set, set_want, set_tests, set_after}
use Rattle.steps.specs.Bits.Words.{with_flag}
use Rattle.steps.specs.declared.ask.Op.TheVariants.{Load, Exchange}
use Rattle.steps.specs.declared.ask.After.TheVariants.{GoOn, Done}
use Rattle.steps.specs.declared.ask.Want.TheVariants as wants
use Rattle.steps.specs.declared.bits.bit_set.Set.{Set as Setting}
use Rattle.steps.specs.declared.bits.bit_set.SetStage.{SetStage}
use Rattle.steps.specs.declared.bits.bit_set.SetStage.TheVariants as sets
use Rattle.model.specs.declared.turn.Kind.TheVariants as kinds
use Rattle.history_bits.proofs.Sets.{bits_starts, set_effects}
use Rattle.lock_free_sets.specs.Driven.{IsIdle}
use Rattle.lock_free_sets.specs.Bits.Stages.{set_wrote, sets_place}
use Rattle.lock_free_sets.specs.Bits.Contracts.{HasSet, StoodOnce, SetDone}
use Rattle.lock_free_sets.specs.Sets.Kinds.{Flags, words_of}
use Rattle.lock_free_sets.proofs.Sets.Machines.{machines}
use Rattle.lock_free_sets.proofs.Ends.{made_by, before_end, to_end}
use Rattle.lock_free_sets.proofs.Sets.Answered.{bits_answer}

module _ (place : ℕ) where
  -- The model's call goes on after each number that a step finds just as that of `steps`.
  same_after : (c : Setting) (m : Unit {0}) (n : ℕ)
      → after_of one_word ((sets_place {T = ℕ} place).flight c m) n ≡ goes (sets_place place) (set_after c place n) m
  same_after c m n = at c.stage
    where
      -- After the load, the cases are whether the flag of the place was set.
      tests : (b : Bool) → has_flag n place ≡ b → (k : SetStage)
          → after_of one_word ((sets_place {T = ℕ} place).flight (record { stage = sets.LoadsElement }) m) n
          ≡ goes (sets_place place) (set_tests place n) m
      tests true t k = rw t refl
      tests false t k = rw t refl

      at : (stage : SetStage) → after_of one_word ((sets_place {T = ℕ} place).flight (record { stage = stage }) m) n
          ≡ goes (sets_place place) (set_after (record { stage = stage }) place n) m
      at sets.LoadsElement = tests (has_flag n place) refl sets.LoadsElement
      at (sets.ExchangesElement found) = go (n == found) refl
        where
          -- the model's call goes on after an exchange as that of `steps`, whether it found what
          -- it expected or not
          go : (b : Bool) → (n == found) ≡ b
              → after_of one_word ((sets_place {T = ℕ} place).flight (record { stage = sets.ExchangesElement found }) m) n
              ≡ goes (sets_place place) (set_after (record { stage = sets.ExchangesElement found }) place n) m
          go true t = rw t refl
          go false t = test (has_flag n place) refl
            where
              -- After an exchange that found another number, the cases are whether the flag of the
              -- place is set in it.
              test : (b : Bool) → has_flag n place ≡ b
                  → after_of one_word ((sets_place {T = ℕ} place).flight (record { stage = sets.ExchangesElement found }) m) n
                  ≡ goes (sets_place place) (set_after (record { stage = sets.ExchangesElement found }) place n) m
              test true u = rw (t, u) refl
              test false u = rw (t, u) refl

  -- The call asks for the word of its place at each of its stages.
  asks : (capacity : ℕ) (c : Setting) → place < capacity → (a : Ask) × (a.word < 1 + elements capacity) × (set_want c place ≡ wants.Ask a)
  asks capacity c below = at c.stage
    where
      -- The word of a place below the capacity is a word of the set.
      near : element_of place < 1 + elements capacity
      near = omega arith

      at : (stage : SetStage) → (a : Ask) × (a.word < 1 + elements capacity) × (set_want (record { stage = stage }) place ≡ wants.Ask a)
      at sets.LoadsElement = (record { word = element_of place; op = Load }, near, refl)
      at (sets.ExchangesElement found) = (record { word = element_of place; op = Exchange found (with_flag found place) }, near, refl)

  -- The call goes on after what the driver hands back of an operation just as after the
  -- number that the word had.
  hears : (c : Setting) (a : Ask) (n : ℕ) → set_want c place ≡ wants.Ask a → set_after c place (answered a.op n) ≡ set_after c place n
  hears c a n e = at c.stage e
    where
      -- At each stage of a set, what the driver hands back of its operation leads on as the number that
      -- the word had.
      at : (stage : SetStage) → set_want (record { stage = stage }) place ≡ wants.Ask a
          → set_after (record { stage = stage }) place (answered a.op n) ≡ set_after (record { stage = stage }) place n
      at sets.LoadsElement w =
          let same : record { word = element_of place; op = Load } ≡ a = cc in
          ap (λ (z : Ask). set_after (record { stage = sets.LoadsElement }) place (answered z.op n)) (sym same)
      at (sets.ExchangesElement found) w =
          let same : record { word = element_of place; op = Exchange found (with_flag found place) } ≡ a = cc in
          ap (λ (z : Ask). set_after (record { stage = sets.ExchangesElement found }) place (answered z.op n)) (sym same)

  -- what a step writes, by how it goes on
  abbrev Wrote : ℕ → After Setting Bool → List (Event ℕ) → Type 0
  Wrote p (GoOn d) es = es ≡ []
  Wrote p (Done b) es = es ≡ set_wrote p place b

  -- A test of the flag writes no event: it ends the call with false, or goes on to the exchange.
  tested : (p n : ℕ) → Wrote p (set_tests place n) []
  tested p n = go (has_flag n place) refl
    where
      -- the cases are whether the flag of the place was set already
      go : (b : Bool) → has_flag n place ≡ b → Wrote p (set_tests place n) []
      go true t = rw t refl
      go false t = rw t refl

  -- A step that ends the call writes the event of its answer, and any other step writes none.
  writes : (p : ℕ) (c : Setting) (m : Unit {0}) (n : ℕ) → Wrote p (set_after c place n) (set_effects p ((sets_place place).flight c m) n)
  writes p c m n = at c.stage
    where
      at : (stage : SetStage) → Wrote p (set_after (record { stage = stage }) place n)
          (set_effects p ((sets_place place).flight (record { stage = stage }) m) n)
      at sets.LoadsElement = tested p n
      at (sets.ExchangesElement found) = go (n == found) refl
        where
          -- the cases are whether the word was as the call had found it
          go : (b : Bool) → (n == found) ≡ b
              → Wrote p (set_after (record { stage = sets.ExchangesElement found }) place n)
              (set_effects p ((sets_place place).flight (record { stage = sets.ExchangesElement found }) m) n)
          go true t = rw t refl
          go false t = rw t (tested p n)

  -- how a call that sets a place is driven
  abbrev driven : Driven ℕ Setting (Unit {0}) Bool
  driven = record { want = λ c. set_want c place; after = λ c n. set_after c place n; kept = λ c m n. m; call = sets_place place }

  -- A set is a call of the model.
  is_call : IsCallBy one_word set_effects (words_of Flags) driven
  is_call = grind (arith, same_after, hears, asks, set_effects, sets_place, writes)

  -- each step of a set keeps the rule of the table, and tells what is known after it
  pub set_keeps : KeepsEnds one_word kinds.Bits (words_of Flags) driven
  set_keeps = keeps_to_end (machines Flags) driven is_call (λ c n. refl)

  -- A set at a place below the capacity is about to begin.
  pub set_first : (v : View ℕ) (m : Unit {0}) → IsIdle v.capacity v → place < v.capacity → At one_word kinds.Bits (sets_place place) v v first_set m
  set_first v m idle place_below_capacity = grind (arith, nat_le, nat_tests, bits_starts, one_word, sets_place, first_set)

  -- base and w are what the pass knew before the call and after it, b is its answer
  module _ {base w : View ℕ} {b : Bool} {m : Unit {0}} (idle : base.going ≡ None) (ends : Ends one_word kinds.Bits (sets_place place) base b m w) where
    -- The set is a call of the history with its answer.
    added : HasSet place b base w
    added = made_by ends idle (λ by. set_wrote by place b) ends.tells

    -- a set that answers false met a moment at which the place stood
    stood : b ≡ false → StoodOnce place w
    stood not =
        let made : HasSet place false base w = subst (λ z. HasSet place z base w) not added in
        record { by = made.by; before = before_end made.called; is = to_end made.called; stood = bits_answer ends.history made.called }

    -- A set that has ended has done what `SetDone` says.
    pub set_done : SetDone place b base w
    set_done = record { added = added; stood = stood }
