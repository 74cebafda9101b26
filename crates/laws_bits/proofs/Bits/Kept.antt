-- What the invariant of a bit set says of the events, in the words of the promises.
use Rattle.laws_bits.proofs.Names.{◌≡◌, ℕ, ◌-◌, ◌≤◌, List, subst, Event, BitsStart, BitsFlight, most_bits_steps}
use Rattle.laws_bits.proofs.Names.{IsBitSet, Trace}
use Rattle.std.proofs.Common.{arith}
use Rattle.laws_bits.proofs.Bits.Invariant.{Holds}
use Rattle.laws_bits.proofs.Bits.Knows.{CallAt, KnowsCall, number_of}

module _ {T : Type 0} where
  -- no call has taken more steps than are promised for its name and its turns back
  pub steps_most : (c : ℕ) (wrote : List (Event T)) (backs : ℕ) (start : BitsStart) (flight : BitsFlight)
      → CallAt c wrote start flight → number_of flight backs ≤ most_bits_steps c start backs
  steps_most = grind arith

  -- no call has turned back more often than words have changed since it began
  pub backs_paid : (p : ℕ) (events : List (Event T)) (words : List ℕ) (since changes backs : ℕ) (flight : BitsFlight)
      → KnowsCall p events words since changes backs flight → backs ≤ changes - since
  backs_paid = grind arith

  -- what holds of the machine of a bit set is what is promised of it
  pub bits_kept : {c : ℕ} {t : Trace T} → t.world.capacity ≡ c → Holds c t.world.words t.events → IsBitSet t
  bits_kept same holds =
      record {
        conserved = holds.conserved;
        within = λ b past. holds.within b (subst (λ n. n ≤ b) same past);
        answers = rw same holds.answers;
      }
