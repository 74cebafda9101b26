-- What an operation makes of a word, and what becomes of a call.
use Rattle.std.specs.Prelude.{◌≡◌, ℕ, ◌+◌, ◌-◌, ◌%◌, ◌^◌, ◌==◌, Bool, true, false, Option, MatchOption, if◌then◌else◌, bit_and, bit_or}
use Rattle.steps.specs.declared.ask.Want.{Want}
use Rattle.steps.specs.declared.ask.Want.TheVariants as wants
use Rattle.steps.specs.declared.ask.After.{After}
use Rattle.steps.specs.declared.ask.After.TheVariants.{GoOn, Done}
use Rattle.steps.specs.declared.ask.Op.{Op}
use Rattle.steps.specs.declared.ask.Op.TheVariants.{Load, Store, Swap, Add, Sub, And, Or, Exchange}

-- the word that an operation leaves where it found this one; sums and differences wrap at 2^64
abbrev pub written : Op → ℕ → ℕ
written Load word = word
written (Store new) word = new
written (Swap new) word = new
written (Add by) word = (word + by) % 2 ^ 64
written (Sub by) word = (word + (2 ^ 64 - by)) % 2 ^ 64
written (And bits) word = bit_and word bits
written (Or bits) word = bit_or word bits
written (Exchange from to) word = if word == from then to else word

-- whether the operation is a plain store, whose old value tells a call nothing
abbrev pub is_store_op : Op → Bool
is_store_op Load = false
is_store_op (Store new) = true
is_store_op (Swap new) = false
is_store_op (Add by) = false
is_store_op (Sub by) = false
is_store_op (And bits) = false
is_store_op (Or bits) = false
is_store_op (Exchange from to) = false

-- whether a store is wanted, of which a call needs to hear nothing
abbrev pub is_store : {V : Type 0} → Want V → Bool
is_store (wants.Ask ask) = is_store_op ask.op
is_store (wants.Question question) = false
is_store wants.Nothing = false

module _ {C A : Type 0} where
  -- a call went on and stands here now, or it was done with this answer
  abbrev pub CameTo : Option A → C → After C A → Type 0
  CameTo done call after = MatchOption done (after ≡ GoOn call) (λ answer. after ≡ Done answer)
