-- How many steps a call of a loan channel takes at most, and that each time it turns back is paid by a
-- change of a word.
use Rattle.laws_loan.proofs.Names.{ℕ, ◌≤◌, Coding}
use Rattle.std.proofs.Common.{arith}
use Rattle.model.proofs.Frame as frame
use Rattle.laws_loan.proofs.Invariant.{family}

module _ {T : Type 0} (code : Coding T) (slots queue : ℕ) (some : 1 ≤ slots) where
  abbrev channel : frame.Family T
  channel = family code slots queue

  -- what the family says of the steps and turn-backs of a call under way (`Bounds`)
  pub bounds : frame.Bounds channel
  bounds = grind arith
