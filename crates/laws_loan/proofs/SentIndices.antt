-- What a reclaim meets as it releases indices: which sent index it comes to next; where an index is by the
-- events that the sender's table says is sent, while nothing waits in either queue; and where each index is
-- once none is sent.
use Rattle.laws_loan.proofs.Names.{◌≡◌, ◌≢◌, ℕ, zero, suc, ◌+◌, ◌-◌, ◌<◌, ◌≤◌, ◌⊎◌, inl, inr, ⊎_elim, Bool, true}
use Rattle.laws_loan.proofs.Names.{false, true≢false, Option, Some, None, List, [], refl, sym, ap, ◌∙◌, Place}
use Rattle.laws_loan.proofs.Names.{is_sent, place_at, sent_within, next_sent, by_test, Event, Book, has_died, IsIn}
use Rattle.laws_loan.proofs.Names.{IsReclaiming, MayFree, Spot, Free, Passing, With, Waiting, Returning, spot_of}
use Rattle.laws_loan.proofs.Names.{receiver_of, span_of, one_if}
use Rattle.std.proofs.Common.{arith}
use Rattle.steps.specs.declared.loan.places.Place.TheVariants as places
use Rattle.laws_loan.proofs.Lists.{times, Lists}
use Rattle.laws_loan.proofs.Placed.{IsBy, Placed}
use Rattle.laws_loan.proofs.Spots.{is_waiting, is_returning}

-- ---- the next index that is sent

-- a place whose test is true is that of an index that was sent
sent_is : (place : Place) → is_sent place ≡ true → place ≡ places.Sent
sent_is = grind arith

-- a place whose test is false is not that of an index that was sent
not_sent : (place : Place) → is_sent place ≡ false → place ≢ places.Sent
not_sent place other e = true≢false (sym (ap is_sent e) ∙ other)

-- `Some i` is the first index from `from` on that the table says is sent; `None` says that there is none
abbrev pub ComesTo : List Place → ℕ → ℕ → Option ℕ → Type 0
ComesTo table slots from None = (j : ℕ) → from ≤ j → j < slots → place_at table j ≢ places.Sent
ComesTo table slots from (Some i) =
    (from ≤ i) × (i < slots) × (place_at table i ≡ places.Sent) × ((j : ℕ) → from ≤ j → j < i → place_at table j ≢ places.Sent)

module _ (table : List Place) (slots : ℕ) where
  -- an index that is not sent is passed over
  module _ (from : ℕ) (ne : place_at table from ≢ places.Sent) where
    -- a range without sent indices may start one index earlier, where that one is not sent
    passed : (P : ℕ → Type 0) → ((j : ℕ) → from + 1 ≤ j → P j → place_at table j ≢ places.Sent) → (j : ℕ) → from ≤ j → P j → place_at table j ≢ places.Sent
    passed = grind arith

    -- what the search finds from the next index on, it finds from this one on
    later : (o : Option ℕ) → ComesTo table slots (from + 1) o → ComesTo table slots from o
    later = grind arith

  -- the search through the `left` indices from `from` on, which are all up to the last, comes to the first
  -- one that is sent
  within : (left from : ℕ) → slots - from ≡ left → ComesTo table slots from (sent_within table from left)
  within zero from left_is = λ j low high. absurd (omega arith)
  within (suc left) from left_is =
      by_test (ComesTo table slots from) (is_sent (place_at table from)) (Some from) (sent_within table (from + 1) left)
      (λ sent. (omega arith, omega arith, sent_is (place_at table from) sent, λ j low high. absurd (omega arith)))
      (λ other. later from (not_sent (place_at table from) other) (sent_within table (from + 1) left) (within left (from + 1) (omega arith)))

  -- the search from `from` on comes to the first index that is sent
  pub comes_to : (from : ℕ) → ComesTo table slots from (next_sent table slots from)
  comes_to from = within (slots - from) from refl

-- ---- where an index is by the events

-- a test that adds 0 to a count is false
false_if_none : (b : Bool) → one_if b ≡ 0 → b ≡ false
false_if_none = grind arith

-- where nothing waits in a queue, no index has the queue as its spot
pub none_there : {T : Type 0} (is : Spot → Bool) (xs : List ℕ) (events : List (Event T)) → xs ≡ []
    → Lists is xs events → (i : ℕ) → is (spot_of i events) ≡ false
none_there is xs events none all i = false_if_none (is (spot_of i events)) (sym (all i) ∙ ap (times i) none)

-- the index is free, or with the sender
abbrev pub IsHome : Spot → Type 0
IsHome spot = (spot ≡ Free) ⊎ (spot ≡ With 0)

-- an index that is free or with the sender is of no other party
pub home_by : (p : ℕ) (spot : Spot) → IsHome spot → IsBy p spot → p ≡ 0
home_by = grind arith

-- an index that is free or with the sender is not in passing
pub home_stays : (p : ℕ) (spot : Spot) → IsHome spot → spot ≡ Passing p → ⊥
home_stays = grind arith

-- each index is in its place, by the table as by the events
module _ {T : Type 0} {slots : ℕ} {claims : List (Option ℕ)} {sent back : List ℕ} {book : Book}
    {events : List (Event T)} (placed : Placed slots claims sent back book events) where
  -- the place of an index in the table agrees with its spot
  stood : (i : ℕ) (place : Place) → place_at book.places i ≡ place → IsIn place (spot_of i events)
  stood i place place_is = rw (← place_is) (placed.keeps.places i)

  -- no index waits in either queue, and the table says that `i` is sent
  module _ (none : sent ≡ []) (nor : back ≡ []) (i : ℕ) (place_is : place_at book.places i ≡ places.Sent) where
    abbrev IsThere : Spot → Type 0
    IsThere spot = (spot ≡ Passing 0) ⊎ ((spot ≡ With (receiver_of events)) ⊎ (spot ≡ Passing (receiver_of events)))

    -- the index is in passing in the sender's call, or the receiver has it, in a call or in none
    there : (spot : Spot) → spot_of i events ≡ spot → IsThere spot
    there Free spot_is = absurd ((stood i places.Sent place_is).0 spot_is)
    there (Passing p) spot_is =
        ⊎_elim (λ (zero : p ≡ 0). inl (ap Passing zero))
        (λ (theirs : p ≡ receiver_of events). inr (inr (ap Passing theirs))) (placed.parties i p (inr spot_is))
    there (With p) spot_is =
        ⊎_elim (λ (zero : p ≡ 0). absurd ((stood i places.Sent place_is).1 (spot_is ∙ ap With zero)))
        (λ (theirs : p ≡ receiver_of events). inr (inl (ap With theirs))) (placed.parties i p (inl spot_is))
    there Waiting spot_is = absurd (true≢false (sym (ap is_waiting spot_is) ∙ none_there is_waiting sent events none placed.waits i))
    there Returning spot_is = absurd (true≢false (sym (ap is_returning spot_is) ∙ none_there is_returning back events nor placed.returns i))

    -- a reclaim may free the index, since the receiver is dead
    pub may_free : has_died book.receiver book.dead ≡ true → IsReclaiming (span_of 0 events) → MayFree 0 i events
    may_free = grind (arith, inl, inr, there)

  -- where no index is sent, and none is in passing in the sender's call, each is free or with the sender
  pub all_home : ((j : ℕ) → j < slots → place_at book.places j ≢ places.Sent)
      → ((j : ℕ) → spot_of j events ≡ Passing 0 → place_at book.places j ≡ places.Sent) → (i : ℕ)
      → IsHome (spot_of i events)
  all_home = grind arith
