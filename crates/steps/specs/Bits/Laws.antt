-- What the calls of the bit sets keep to: a store tells them nothing, and those that end by themselves come nearer to
-- their end at each step.
use Rattle.std.specs.Prelude.{◌≡◌, ℕ, ◌+◌, ◌<◌, ◌≤◌, IsTrue, nat_lt, refl}
use Rattle.std.proofs.Common.{arith, ap}
use Rattle.std.proofs.lemmas.Bool.Decides.{nat_tests}
use Rattle.steps.specs.Ask.{is_store}
use Rattle.steps.specs.Laws.{no_store}
use Rattle.steps.specs.Picks.{by_test}
use Rattle.steps.specs.declared.ask.Op.TheVariants.{Swap}
use Rattle.steps.specs.declared.ask.Want.TheVariants as wants
use Rattle.steps.specs.declared.ask.After.{After}
use Rattle.steps.specs.declared.ask.After.TheVariants.{GoOn, Done}
use Rattle.steps.specs.declared.bits.bit_set.SetStage.{SetStage}
use Rattle.steps.specs.declared.bits.bit_set.SetStage.TheVariants as sets
use Rattle.steps.specs.declared.bits.bit_set.ResetNext.{ResetNext}
use Rattle.steps.specs.declared.bits.bit_set.ResetNextStage.{ResetNextStage}
use Rattle.steps.specs.declared.bits.bit_set.ResetNextStage.TheVariants as resets
use Rattle.steps.specs.declared.bits.counting_bit_set.Set as counts
use Rattle.steps.specs.declared.bits.looks.IsSet.{IsSet}
use Rattle.steps.specs.declared.bits.looks.Count.{Count}
use Rattle.steps.specs.declared.bits.reset_all.ResetAll.{ResetAll}
use Rattle.steps.specs.Bits.BitSet.{set_asks, set_takes, reset_asks, reset_takes}
use Rattle.steps.specs.Bits.Counts as counting
use Rattle.steps.specs.Bits.Looks.{is_set_want, is_set_after, count_want, count_after}
use Rattle.steps.specs.Bits.ResetAll.{reset_all_want, reset_all_after, reset_all_kept, reset_all_left}
use Rattle.steps.specs.declared.copied.OneWord.{OneWord}

-- after its store a set goes on in the same way, whatever the word held before: it loads and
-- exchanges, and never stores
pub set_tells : (stage : SetStage) (place : ℕ) (room : Unit {0}) (m n : ℕ)
    → IsTrue (is_store (set_asks stage place))
    → (set_takes stage place m ≡ set_takes stage place n) × (room ≡ room)
set_tells sets.LoadsElement place room m n t = no_store t
set_tells (sets.ExchangesElement found) place room m n t = no_store t

-- after its store a `reset_next` goes on in the same way, whatever the word held before
pub reset_tells : (c : ResetNext) (stage : ResetNextStage) (room : Unit {0}) (m n : ℕ)
    → IsTrue (is_store (reset_asks c.capacity stage))
    → (reset_takes c stage m ≡ reset_takes c stage n) × (room ≡ room)
reset_tells c resets.LoadsPosition room m n t = no_store t
reset_tells c (resets.LoadsElement start passed) room m n t = no_store t
reset_tells c (resets.ExchangesElement start passed found) room m n t = no_store t
reset_tells c (resets.StoresPosition place) room m n t = (refl, refl)

-- a count at a place never stores, so there is no store whose old value it could use
pub count_tells : (c : counts.Set) (place : ℕ) (room : Unit {0}) (m n : ℕ)
    → IsTrue (is_store (counting.set_want c place))
    → (counting.set_after c m ≡ counting.set_after c n) × (room ≡ room)
count_tells c place room m n t = no_store t

-- a count never goes on: it ends with its first step
pub count_fewer : (c d : counts.Set) (n : ℕ) → counting.set_after c n ≡ GoOn d → 0 < 0
count_fewer c d n goes = cc

-- a look at a place never stores, so there is no store whose old value it could use
pub is_set_tells : (c : IsSet) (place : ℕ) (room : Unit {0}) (m n : ℕ)
    → IsTrue (is_store (is_set_want c place))
    → (is_set_after c place m ≡ is_set_after c place n) × (room ≡ room)
is_set_tells c place room m n t = no_store t

-- a look at a place never goes on: it ends with its first step
pub is_set_fewer : (c d : IsSet) (place n : ℕ) → is_set_after c place n ≡ GoOn d → 0 < 0
is_set_fewer c d place n goes = cc

-- a look at a count never stores, so there is no store whose old value it could use
pub look_tells : (c : Count) (place : ℕ) (room : Unit {0}) (m n : ℕ)
    → IsTrue (is_store (count_want c place))
    → (count_after c m ≡ count_after c n) × (room ≡ room)
look_tells c place room m n t = no_store t

-- a look at a count never goes on: it ends with its first step
pub look_fewer : (c d : Count) (n : ℕ) → count_after c n ≡ GoOn d → 0 < 0
look_fewer c d n goes = cc

-- a reset_all swaps, and stores nothing
pub reset_all_tells : (c : ResetAll) (room : OneWord) (m n : ℕ)
    → IsTrue (is_store (reset_all_want c))
    → (reset_all_after c m ≡ reset_all_after c n)
    × (reset_all_kept room m ≡ reset_all_kept room n)
reset_all_tells c room m n =
    by_test (λ w. IsTrue (is_store w) → (reset_all_after c m ≡ reset_all_after c n)
    × (reset_all_kept room m ≡ reset_all_kept room n)) (nat_lt c.word c.end)
    (wants.Ask (record { word = c.word; op = Swap 0 })) wants.Nothing
    (λ h t. no_store t) (λ h t. no_store t)

-- one more than `reset_all_left` of the call, which each step lowers, and 0 once the call has ended
abbrev reset_all_then : After ResetAll (Unit {0}) → ℕ
reset_all_then (GoOn d) = reset_all_left d + 1
reset_all_then (Done e) = 0

-- after each swap of a reset_all, fewer words are left
reset_all_nearer : (c : ResetAll) (n : ℕ)
    → reset_all_then (reset_all_after c n) ≤ reset_all_left c
reset_all_nearer c n =
    by_test (λ a. reset_all_then a ≤ reset_all_left c) (nat_lt (c.word + 1) c.end)
    (GoOn (record { word = c.word + 1; end = c.end })) (Done tt)
    (λ t. let further : c.word + 1 < c.end = grind (arith, nat_tests) in omega arith)
    (λ t. omega arith)

-- where a reset of all places goes on after a step, `reset_all_left` is less
pub reset_all_fewer : (c d : ResetAll) (n : ℕ) → reset_all_after c n ≡ GoOn d
    → reset_all_left d < reset_all_left c
reset_all_fewer c d n goes =
    let e = ap reset_all_then goes in let f = reset_all_nearer c n in omega arith
