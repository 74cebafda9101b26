-- What a wrong body of `try_until` would leave or answer (of `put_until` alike), and the clause that refuses it. A name says what the
-- body does. What is tried is here the number of its tries, and the closure how often it was asked.
use Rattle.std.proofs.Common.{◌≡◌, ◌+◌, ℕ, zero, suc, Bool, true, false, ap, arith, sym, true≢false}
use Rattle.lock_free_waits.specs.Waits.{Times, WentOn, CameAfter, WasStopped}

-- one try
abbrev Tried : ℕ → ℕ → Type 0
Tried old new = new ≡ old + 1

-- one question
abbrev Asked : ℕ → Bool → ℕ → Type 0
Asked old answer new = new ≡ old + 1

-- a closure that gives no other answer than this
abbrev AsksFor : Bool → ℕ → Bool → ℕ → Type 0
AsksFor only old answer new = (answer ≡ only) × (new ≡ old + 1)

-- a try that brings its number alone
abbrev Brought : ℕ → ℕ → ℕ → Type 0
Brought x old new = (x ≡ new) × (new ≡ old + 1)

-- there are as many questions as tries
evenly : (n : ℕ) (old new : ℕ × ℕ) → Times n (WentOn Tried Asked) old new → new.0 + old.1 ≡ old.0 + new.1
evenly zero old new same = omega (arith, ap (λ (both : ℕ × ℕ). both.0) same, ap (λ (both : ℕ × ℕ). both.1) same)
evenly (suc n) old new (between, before, (tried, asked)) = omega (arith, evenly n old between before, tried, asked)

stopped_evenly : (old new : ℕ × ℕ) → WasStopped Tried Asked old new → new.0 + old.1 ≡ old.0 + new.1
stopped_evenly old new (n, last, before, tried, asked) = omega (arith, evenly n old last before, tried, asked)

module _ (tries asked : ℕ) where
  -- it asks twice after a try
  pub asks_twice : WasStopped Tried Asked (tries, asked) (tries + 1, asked + 2) → ⊥
  asks_twice wrong = absurd (omega (arith, stopped_evenly (tries, asked) (tries + 1, asked + 2) wrong))

  -- it gives up and has not asked
  pub gives_up_unasked : WasStopped Tried Asked (tries, asked) (tries + 1, asked) → ⊥
  gives_up_unasked wrong = absurd (omega (arith, stopped_evenly (tries, asked) (tries + 1, asked) wrong))

  -- it asks, and has not tried
  pub asks_before_a_try : WasStopped Tried Asked (tries, asked) (tries, asked + 1) → ⊥
  asks_before_a_try wrong = absurd (omega (arith, stopped_evenly (tries, asked) (tries, asked + 1) wrong))

  -- it gives up though the closure says go on
  pub gives_up_too_early : (new : ℕ × ℕ) → WasStopped Tried (AsksFor false) (tries, asked) new → ⊥
  gives_up_too_early new (n, last, before, tried, (is, one)) = true≢false is

  -- it tries once more after the closure said stop, and something comes
  pub tries_after_a_stop : CameAfter Tried (AsksFor true) Brought (tries + 2) (tries, asked) (tries + 2, asked + 1) → ⊥
  tries_after_a_stop (zero, last, same, (is, came), rest) = absurd (omega (arith, ap (λ (both : ℕ × ℕ). both.0) same, came))
  tries_after_a_stop (suc n, last, (between, before, (tried, (is, one))), came, rest) = true≢false (sym is)

  -- it asks though something came
  pub asks_after_it_came : CameAfter Tried Asked Brought (tries + 1) (tries, asked) (tries + 1, asked + 1) → ⊥
  asks_after_it_came (n, last, before, (is, came), rest) = absurd (omega (arith, evenly n (tries, asked) last before, came, rest))

  -- it answers something else than what came
  pub answers_another : (x : ℕ) (new : ℕ × ℕ) → x ≡ new.0 + 1 → CameAfter Tried Asked Brought x (tries, asked) new → ⊥
  answers_another x new other (n, last, before, (is, came), rest) = absurd (omega (arith, other, is))
