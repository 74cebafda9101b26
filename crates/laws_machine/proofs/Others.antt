-- A turn leaves the calls of the parties that do not take it as they were.
use Rattle.std.proofs.Common.{arith}
use Rattle.laws_machine.proofs.Names.{◌≡◌, ◌≢◌, ℕ, Bool, Option, Some, None, refl}
use Rattle.laws_machine.proofs.Names.{Party, Turn, first_of}
use Rattle.laws_machine.proofs.Names.{number_of, after_next, after_decision}
use Rattle.laws_machine.proofs.Names.{world_after, World, flight_in}
use Rattle.model.proofs.LockFree.Stays.{begun, answered}
use Rattle.laws_machine.specs.Others.{OthersStay}

module _ {T : Type 0} where
  -- a step of `p` leaves the calls of other parties
  went : (w : World T) (p : ℕ) (o : Option (Party T)) (q : ℕ) → q ≢ p → flight_in (after_next w p o) q ≡ flight_in w q
  went = grind (arith, answered)

  -- a decision for `p` leaves the calls of other parties
  decided : (w : World T) (p : ℕ) (said : Bool) (o : Option (Party T)) (q : ℕ) → q ≢ p → flight_in (after_decision w p said o) q ≡ flight_in w q
  decided w p said None q ne = refl
  decided w p said (Some x) q ne = answered w p x None (number_of said) x.doing q ne

  -- any turn leaves the calls of other parties
  pub others_stay : (w : World T) (turn : Turn T) → OthersStay w turn (world_after w turn)
  others_stay = grind (arith, begun, first_of, went, decided)
