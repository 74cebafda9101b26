-- How many indices wait in the two queues: no more than there are slots, so each is below them, and where one index is in
-- passing there is room for it.
use Rattle.laws_loan.proofs.Names.{◌≡◌, ◌≢◌, ℕ, ◌^◌, ◌<◌, ◌≤◌, ⊎_elim, Option, List, ◌∷◌, length, sym, ap, ◌∙◌, cases_lt}
use Rattle.laws_loan.proofs.Names.{index_in, Event, Book, Free, Passing, Waiting, Returning, spot_of}
use Rattle.std.proofs.Common.{arith}
use Rattle.laws_loan.proofs.Lists.{lists_few, lists_room, first_there}
use Rattle.laws_loan.proofs.Placed.{Placed}
use Rattle.laws_loan.proofs.Spots.{is_waiting, is_returning, waits_there, returns_there}

-- an index below the slots lies whole in the low half of its word
pub index_is : (i slots : ℕ) → i < slots → slots < 2 ^ 32 → index_in i ≡ i
index_is i slots below few = let low : i < 2 ^ 32 = omega arith in omega arith

-- each index is in its place, so an index that waits in a queue is one of the slots
module _ {T : Type 0} {slots : ℕ} {claims : List (Option ℕ)} {sent back : List ℕ} {book : Book}
    {events : List (Event T)} (placed : Placed slots claims sent back book events) where
  -- no more indices wait in the submission queue than there are slots
  pub waits_few : length sent ≤ slots
  waits_few = lists_few is_waiting sent events slots placed.waits (λ i beyond. ap is_waiting (placed.past i beyond))

  -- where an index is in passing, the completion queue has room for it
  pub returns_room : (i p : ℕ) → i < slots → spot_of i events ≡ Passing p → length back < slots
  returns_room i p below from =
      lists_room is_returning back events slots i placed.returns (λ j beyond. ap is_returning (placed.past j beyond)) below (ap is_returning from)

  -- an index that is not free is one of the slots
  below_slots : (i : ℕ) → spot_of i events ≢ Free → i < slots
  below_slots i away = ⊎_elim (λ (less : i < slots). less) (λ beyond. absurd (away (placed.past i beyond))) (cases_lt i slots)

  -- the oldest index that is sent is below the slots
  pub sent_below : (i : ℕ) (rest : List ℕ) → sent ≡ i ∷ rest → i < slots
  sent_below i rest front =
      let there = waits_there (spot_of i events) (first_there is_waiting sent rest events i front placed.waits) in
      below_slots i (λ free. (let both : Waiting ≡ Free = sym there ∙ free in absurd (cc)))

  -- the first index that was given back is below the slots
  pub back_below : (i : ℕ) (rest : List ℕ) → back ≡ i ∷ rest → i < slots
  back_below i rest front =
      let there = returns_there (spot_of i events) (first_there is_returning back rest events i front placed.returns) in
      below_slots i (λ free. (let both : Returning ≡ Free = sym there ∙ free in absurd (cc)))
