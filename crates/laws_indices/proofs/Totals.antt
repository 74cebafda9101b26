-- What the calls under way count for, party by party: in the head, as acquires, and as releases that have freed.
use Rattle.std.proofs.Common.{◌≡◌, ◌≢◌, ℕ, ◌+◌, ◌<◌, ◌≤◌, Option, Some, None, List, ap, arith}
use Rattle.laws_indices.proofs.Names.{Flight, Party, party_of, put, doing_of, flight_of}
use Rattle.model.proofs.Parties.{party_put_same, party_put_other}
use Rattle.laws_indices.proofs.Sums.{sum_below, sum_moved, sum_longer}

-- what a call under way counts for: `weight`, and 0 where no call is under way
module _ {T : Type 0} (weight : Flight T → ℕ) where
  -- the weight of a party's call, or 0 if there is none
  abbrev pub weight_of : Option (Flight T) → ℕ
  weight_of None = 0
  weight_of (Some flight) = weight flight

  -- what the latest call of a party counts for: 0 once it is done
  abbrev pub weight_at : List (ℕ × Party T) → ℕ → ℕ
  weight_at latest p = weight_of (flight_of (doing_of (party_of p latest)))

  -- what the parties below n count for
  abbrev pub total : List (ℕ × Party T) → ℕ → ℕ
  total latest n = sum_below (weight_at latest) n

  -- the latest call of party `p` becomes `y`
  module _ (latest : List (ℕ × Party T)) (p : ℕ) (y : Party T) where
    -- the weight of the party's own call is that of what it does now
    weight_here : weight_at (put p y latest) p ≡ weight_of (flight_of (Some y.doing))
    weight_here = ap (λ o. weight_of (flight_of (doing_of o))) (party_put_same p y latest)

    -- the weight of another party's call stays
    weight_there : (q : ℕ) → q ≢ p → weight_at (put p y latest) q ≡ weight_at latest q
    weight_there q ne = ap (λ o. weight_of (flight_of (doing_of o))) (party_put_other q p y latest ne)

    -- where the call of one party changes, the sum changes by what that call counts for
    pub total_put : (n : ℕ) → p < n → total (put p y latest) n + weight_at latest p ≡ total latest n + weight_of (flight_of (Some y.doing))
    total_put n below =
        let moved = sum_moved (weight_at (put p y latest)) (weight_at latest) n p below weight_there in
        let here = weight_here in
        omega arith

  -- where no party from n on has begun a call, more of them sum to the same
  pub total_longer : (latest : List (ℕ × Party T)) (n m : ℕ) → n ≤ m → ((p : ℕ) → n ≤ p → party_of p latest ≡ None) → total latest m ≡ total latest n
  total_longer = grind (arith, sum_longer)
