-- What a step of the driver owes the rule of its table, and what it tells.
use Rattle.std.specs.Prelude.{◌≡◌, ℕ, ◌<◌, ◌+◌, []}
use Rattle.atomic_table.specs.Table.{State, Me, Allows}
use Rattle.steps.specs.Ask.{written}
use Rattle.steps.specs.declared.ask.Op.{Op}
use Rattle.steps.specs.declared.ask.Op.TheVariants as ops
use Rattle.steps.specs.declared.ask.Want.{Want}
use Rattle.steps.specs.declared.ask.Want.TheVariants as wants
use Rattle.steps.specs.declared.ask.After.{After}
use Rattle.steps.specs.declared.ask.After.TheVariants.{GoOn, Done}

-- What a call is handed by an operation: the word's old value. At a store it is the new one, since a
-- store tells nothing and no call hears it.
abbrev pub answered : Op → ℕ → ℕ
answered ops.Load found = found
answered (ops.Store new) found = new
answered (ops.Swap new) found = found
answered (ops.Add by) found = found
answered (ops.Sub by) found = found
answered (ops.And bits) found = found
answered (ops.Or bits) found = found
answered (ops.Exchange from to) found = found

module _ {V : Type 0} (asked : V → ℕ) where
  -- The view after the operation counts one more and is one that `told` allows, and the seat has as
  -- many slots out as before.
  abbrev pub moves : (V → ℕ → V → Type 0) → Me (Unit {0}) V → ℕ → Me (Unit {0}) V → Type 0
  moves told old n new = told old.0 n new.0 × (asked new.0 ≡ asked old.0 + 1) × (new.1 ≡ old.1)

-- What a step owes at a table with this many words and slots and this rule, at the seat of this number.
-- `asked` is how many operations a view counts.
module _ {V : Type 0} (asked : V → ℕ) (holds : State (Unit {0}) V → Type 0) (words slots id : ℕ) where
  -- What a step with this operation on a word owes. The word is one of the table, the rule allows what
  -- is written, and the view after it counts one operation more and is one that `told` allows.
  abbrev pub OwesAsk : (V → ℕ → V → Type 0) → ℕ → Op → Me (Unit {0}) V → Type 0
  OwesAsk told word op me =
      (word < words) × Allows holds slots id me word (written op)
      (λ found new. moves asked told me (answered op found) new)

  -- what a step owes, by what its call waits for; without an operation it owes only that `told` allows
  -- the view to stay
  abbrev pub Owes : (V → ℕ → V → Type 0) → Want (Unit {0}) → Me (Unit {0}) V → Type 0
  Owes told (wants.Ask a) me = OwesAsk told a.word a.op me
  Owes told (wants.Question q) me = told me.0 0 me.0
  Owes told wants.Nothing me = told me.0 0 me.0

module _ {V C M E : Type 0} (capacity_seen : V → ℕ) (at : V → V → C → M → Type 0)
    (ends : V → E → M → V → Type 0) where
  -- what is known once the call has gone on, at its next stage or its end: of the view with which it
  -- began (`base`) and the view now (`w`)
  abbrev pub Next : V → After C E → M → V → Type 0
  Next base (GoOn c) m w = at base w c m
  Next base (Done e) m w = ends base e m w

  -- What one step of the call tells. The capacity stays, and wherever `at` held at its stage, `at`
  -- holds at its next stage, or `ends` at its end.
  abbrev pub Told : (C → ℕ → After C E) → (C → M → ℕ → M) → C → M → V → ℕ → V → Type 0
  Told after kept c m v n w =
      (capacity_seen w ≡ capacity_seen v)
      × ((base : V) → at base v c m → Next base (after c n) (kept c m n) w)

module _ {V C M E : Type 0} (asked capacity_seen : V → ℕ) (at : V → V → C → M → Type 0)
    (ends : V → E → M → V → Type 0) where
  -- on each table of a key, each step of the call owes only what the rule grants, and tells what `Told` says
  abbrev pub KeepsRule : {K : Type 0} → (K → ℕ) → (K → ℕ) → (K → State (Unit {0}) V → Type 0)
      → (C → Want (Unit {0})) → (C → ℕ → After C E) → (C → M → ℕ → M) → Type 0
  KeepsRule {K} size capacity holds want after kept =
      (base v : V) (c : C) (m : M) (key : K) (words slots id : ℕ) → words ≡ size key
      → capacity_seen v ≡ capacity key → at base v c m
      → Owes asked (holds key) words slots id (Told capacity_seen at ends after kept c m) (want c) (v, [])
