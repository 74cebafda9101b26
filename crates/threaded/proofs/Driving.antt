-- What a step owes, for another relation that it tells, or other views.
use Rattle.std.proofs.Common.{◌≡◌, ℕ, ◌<◌, ◌≤◌, nat_lt, List, length, take, replicate, refl, arith}
use Rattle.std.proofs.lemmas.Bool.Decides.{nat_tests}
use Rattle.atomic_table.specs.Table.{State, Me}
use Rattle.steps.specs.Copied.{value_in}
use Rattle.steps.specs.Picks.{by_test}
use Rattle.steps.specs.declared.ask.Op.{Op}
use Rattle.steps.specs.declared.ask.Want.{Want}
use Rattle.steps.specs.declared.ask.Want.TheVariants as wants
use Rattle.threaded.specs.Driver.{OwesAsk, Owes, answered}

-- A table of `words` words and `slots` slots. What one operation on it owes under one promise, it owes under a weaker one.
module _ {V : Type 0} (asked : V → ℕ) (holds : State (Unit {0}) V → Type 0) (words slots id : ℕ) where
  -- One operation may be asked for under a weaker promise where it may be under a stronger one.
  pub weaker : (told more : V → ℕ → V → Type 0) (word : ℕ) (op : Op) (me : Me (Unit {0}) V)
      → ((found : ℕ) → found < 18446744073709551616 → (w : V) → told me.0 (answered op found) w → more me.0 (answered op found) w)
      → OwesAsk asked holds words slots id told word op me → OwesAsk asked holds words slots id more word op me
  weaker told more word op me h owed =
      (owed.0, λ s r long at small. let x = owed.1 s r long at small in (x.0, x.1, x.2, x.3, (h _ small _ x.4.0, x.4.1, x.4.2)))

  -- a step may be made for a weaker promise where it may be made for a stronger one
  pub weaker_owes : (told more : V → ℕ → V → Type 0) (want : Want (Unit {0})) (me : Me (Unit {0}) V)
      → ((n : ℕ) (w : V) → told me.0 n w → more me.0 n w)
      → Owes asked holds words slots id told want me → Owes asked holds words slots id more want me
  weaker_owes told more (wants.Ask a) me h owed = weaker told more a.word a.op me (λ found small w. h _ w) owed
  weaker_owes told more (wants.Question q) me h owed = h 0 me.0 owed
  weaker_owes told more wants.Nothing me h owed = h 0 me.0 owed

-- where there are words enough, the value is that of the first ones
pub enough : {T : Type 0} (value_of : List ℕ → T) (n : ℕ) (ws : List ℕ) → n ≤ length ws → value_in value_of n ws ≡ value_of (take n ws)
enough value_of n ws long =
    by_test (λ a. a ≡ value_of (take n ws)) (nat_lt (length ws) n) (value_of (take n (replicate 128 0))) (value_of (take n ws))
    (λ t. let less : length ws < n = grind (arith, nat_tests) in absurd (omega arith))
    (λ t. refl)
