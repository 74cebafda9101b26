-- A call whose answer names the capacity is one call for each capacity; together they keep the rule as one
-- family of calls (`keeps_sized`).
use Rattle.std.proofs.Common.{arith}
use Rattle.history.proofs.Names.{◌≡◌, ℕ, ◌+◌, After, Want, Kind, Coding}
use Rattle.history.proofs.Names.{NextKnown, KeepsRule}
use Rattle.threaded.specs.Driver.{Told}
use Rattle.history.specs.declared.view.View.{View}
use Rattle.history.specs.History.{IsMachine}
use Rattle.history.specs.Stages.{Calling, At, Ends}
use Rattle.history.proofs.Telling.{owes_more}

-- a call of the driver is one call of the model for each capacity of a structure
module _ {T C M E : Type 0} (code : Coding T) (kind : Kind) (size_of : ℕ → ℕ) (want : C → Want (Unit {0}))
    (after : C → ℕ → After C E) (kept : C → M → ℕ → M) (call : ℕ → Calling T C M E) where
  -- the call for the capacity of the pass is about to begin, or under way
  abbrev pub AtSized : View T → View T → C → M → Type 0
  AtSized base v c m = At code kind (call base.capacity) base v c m

  -- the call for the capacity of the pass has ended
  abbrev pub EndsSized : View T → E → M → View T → Type 0
  EndsSized base e m w = Ends code kind (call base.capacity) base e m w

  -- the capacity stays while the call is under way
  one_size : (n : ℕ) (base v : View T) (c : C) (m : M) → At code kind (call n) base v c m → v.capacity ≡ base.capacity
  one_size = grind arith

  -- what is known after a step of the call for capacity n is known of the family
  sized_next : (n : ℕ) (base w : View T) (r : After C E) (m : M) → base.capacity ≡ n
      → NextKnown (λ (z : View T). z.capacity) (At code kind (call n)) (Ends code kind (call n)) base r m w
      → NextKnown (λ (z : View T). z.capacity) AtSized EndsSized base r m w
  sized_next = grind arith

  -- what a step of the call for the pass's capacity tells, it tells of the family
  told_sized : (base : View T) (c : C) (m : M) (x : View T) (n : ℕ) (w : View T) → x.capacity ≡ base.capacity
      → Told (λ (z : View T). z.capacity) (At code kind (call base.capacity)) (Ends code kind (call base.capacity)) after kept c m x n w
      → Told (λ (z : View T). z.capacity) AtSized EndsSized after kept c m x n w
  told_sized = grind (arith, one_size, sized_next)

  -- what a step of the call for one capacity tells
  abbrev ToldOne : ℕ → C → M → View T → ℕ → View T → Type 0
  ToldOne n c m = Told (λ (z : View T). z.capacity) (At code kind (call n)) (Ends code kind (call n)) after kept c m

  -- calls that keep the rule for each capacity keep it as one family
  pub keeps_sized : ((n : ℕ)
      → KeepsRule (λ (z : View T). z.asked) (λ (z : View T). z.capacity) (At code kind (call n)) (Ends code kind (call n))
      (λ key. size_of key + 1) (λ key. key) (λ key. IsMachine code kind key) want after kept)
      → KeepsRule (λ (z : View T). z.asked) (λ (z : View T). z.capacity) AtSized EndsSized (λ key. size_of key + 1) (λ key. key)
      (λ key. IsMachine code kind key) want after kept
  keeps_sized keeps_for base v c m key words slots id wide known at₀ =
      let keeps_here = keeps_for base.capacity base v c m key words slots id in
      owes_more (record { key = key; words = words; slots = slots; id = id; v = v; told = ToldOne base.capacity c m })
      (Told (λ (z : View T). z.capacity) AtSized EndsSized after kept c m) (want c) (keeps_here wide known at₀)
      (λ n w. told_sized base c m v n w (one_size base.capacity base v c m at₀))
