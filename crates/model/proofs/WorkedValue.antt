-- The definitions of the single value at a worked run, and at histories that they refuse.
use Rattle.model.proofs.Names.{Acted, Ask, Begun, Event, Finished, IsLegal, List, None, Open, Option, Some, Stands}
use Rattle.model.proofs.Names.{Trace, Truth, Turn, [], ap, arith, moments, progress_in, promise_of, refl, true, ℕ, ◌++◌}
use Rattle.model.proofs.Names.{◌<◌, ◌∷◌, ◌≡◌}
use Rattle.steps.specs.declared.ask.Op.TheVariants as ops
use Rattle.model.specs.declared.event.Start.TheVariants.{Atomic}
use Rattle.model.specs.declared.event.Answer.TheVariants.{Loaded}
use Rattle.model.specs.declared.families.atomic.AtomicStart.TheVariants.{AcquireProducer, Store, Load}
use Rattle.model.specs.declared.turn.Kind.TheVariants as kinds
use Rattle.model.specs.Families.Atomic.Promises.{value_of_zeros, value_in, ActsRight, IsValue}
use Rattle.model.proofs.Runs.{two_words, nexts, begins, ran}

-- A value whose two words are 1 and 2.
abbrev first : ℕ
first = 18446744073709551618

-- A value whose two words are 3 and 4.
abbrev second : ℕ
second = 55340232221128654852

-- a load stops within the cell, two stores are made, and then the load goes on
abbrev turns : List (Turn ℕ)
turns =
    begins 0 (Atomic AcquireProducer) 1
    ++ (begins 1 (Atomic Load) 2
    ++ (begins 0 (Atomic (Store first)) 4 ++ (begins 0 (Atomic (Store second)) 4 ++ nexts 1 5)))

-- The events of `turns`: the load answers a value that was stored while the load was under way.
abbrev told : List (Event ℕ)
told =
    Begun 0 (Atomic AcquireProducer)
    ∷ Finished 0 (Atomic AcquireProducer) (Truth true)
    ∷ Begun 1 (Atomic Load)
    ∷ Begun 0 (Atomic (Store first))
    ∷ Acted 0 (Atomic (Store first)) (Truth true)
    ∷ Finished 0 (Atomic (Store first)) (Truth true)
    ∷ Begun 0 (Atomic (Store second))
    ∷ Acted 0 (Atomic (Store second)) (Truth true)
    ∷ Finished 0 (Atomic (Store second)) (Truth true)
    ∷ Acted 1 (Atomic Load) (Loaded second)
    ∷ Finished 1 (Atomic Load) (Loaded second)
    ∷ []

-- The events that the machine writes in `turns` are those of `told`.
pub stopped_load : (ran two_words kinds.Atomic 1 2 turns).events ≡ told
stopped_load = refl

-- After the two stores the version is 3, and the cells hold the second and the first value.
pub stopped_load_words : (ran two_words kinds.Atomic 1 2 turns).world.words ≡ 3 ∷ 0 ∷ 3 ∷ 4 ∷ 1 ∷ 2 ∷ []
stopped_load_words = refl

-- The load has taken 7 steps and begun again once, while the stores changed words six times.
pub stopped_load_counts : progress_in (ran two_words kinds.Atomic 1 2 turns).world 1
    ≡ Some (record { steps = 7; backs = 1; others = 6; finished = true })
stopped_load_counts = refl

-- The load answers the value of the second store, which acted before it.
pub load_after_stores : IsLegal (value_of_zeros two_words) (moments told)
load_after_stores = refl

-- The value that stands after `told` is that of the second store.
pub stands : value_in two_words told ≡ second
stands = refl

-- ---- what they refuse

-- the half of one value and the half of another
no_torn_load : IsLegal (value_of_zeros two_words) ((Atomic (Store first), Truth true) ∷ (Atomic Load, Loaded 2) ∷ []) → ⊥
no_torn_load legal = cc

-- a load that ends and has not acted
no_silent_load : Stands (promise_of kinds.Atomic) 1 (Finished 1 (Atomic Load) (Loaded second)) (Open (Atomic Load) []) → ⊥
no_silent_load stands_so = let none = stands_so.1 in cc

-- a store that acts as it stores a word, and a load that acts as it loads one
abbrev word_of : Option Ask → ℕ
word_of None = 9
word_of (Some ask) = ask.word

not_first : (n : ℕ) → 0 < n → n ≡ 0 → ⊥
not_first n some is_zero = absurd (omega arith)

-- A store does not act in a turn that stores a word of its value.
pub no_early_store : (t : Trace ℕ)
    → ActsRight t (Some (record { word = 4; op = ops.Store 1 })) (λ q. q ≡ 0) (Acted 0 (Atomic (Store first)) (Truth true))
    → ⊥
no_early_store t acts_right = not_first 4 (omega arith) (ap word_of acts_right.1)

pub no_unchecked_load : (t : Trace ℕ) → ActsRight t (Some (record { word = 3; op = ops.Load })) (λ q. q ≡ 1) (Acted 1 (Atomic Load) (Loaded 0)) → ⊥
no_unchecked_load t acts_right = not_first 3 (omega arith) (ap word_of acts_right.1)

-- a store has stored its words, and the events say that it has acted
abbrev stored : Trace ℕ
stored = ran two_words kinds.Atomic 1 2 (begins 0 (Atomic AcquireProducer) 1 ++ begins 0 (Atomic (Store first)) 3)

pub no_act_before_the_add : IsValue (record { world = stored.world; events = stored.events ++ Acted 0 (Atomic (Store first)) (Truth true) ∷ [] }) → ⊥
no_act_before_the_add value = let cell = value.cell in cc
