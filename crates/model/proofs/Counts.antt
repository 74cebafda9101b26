-- One turn counts at most one step, one change of a word and one turn back, and an operation changes no
-- number of words.
use Rattle.model.proofs.Names.{Ask, Bool, List, None, Option, Some, arith, change_of, cond, false, length, one_if, refl}
use Rattle.model.proofs.Names.{step_count, true, words_after, ℕ, ◌≡◌, ◌≤◌}
use Rattle.std.proofs.Common.{length-set}

one_at_most : (b : Bool) → cond b 0 1 ≤ 1
one_at_most true = omega arith
one_at_most false = omega arith

pub change_small : (words : List ℕ) (ask : Option Ask) → change_of words ask ≤ 1
change_small = grind (arith, one_at_most)

-- An operation leaves the number of words as it was.
pub as_long : (words : List ℕ) (ask : Option Ask) → length (words_after words ask) ≡ length words
as_long words None = refl
as_long words (Some ask) = length-set words ask.word _

-- A turn counts at most one step.
pub steps_small : (ask : Option Ask) → step_count ask ≤ 1
steps_small None = omega arith
steps_small (Some ask) = omega arith

-- A turn counts at most one turn back.
pub back_small : (b : Bool) → one_if b ≤ 1
back_small true = omega arith
back_small false = omega arith
