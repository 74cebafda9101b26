-- What a wrong body of a call would leave or answer, and which of the call's clauses refuses that. A name says what the body does.
use Rattle.std.proofs.Common.{◌≡◌, ◌≢◌, ℕ, ◌+◌, Option, Some, None, List, [], ◌∷◌, true≢false, sym, ap, subst, ◌∙◌, arith}
use Rattle.std.specs.Prelude.{is_some, MatchOption}
use Rattle.zero_copy_loans.specs.declared.pool.Buffer.{Buffer}
use Rattle.zero_copy_loans.specs.declared.receiver.Sample.{Sample}
use Rattle.zero_copy_loans.specs.declared.sender.Back.{Back}
use Rattle.zero_copy_loans.specs.declared.sender.Sender.{Sender}
use Rattle.zero_copy_loans.specs.Ends.{next_of, number_of, received, IsForeign}
use Rattle.zero_copy_loans.specs.Numbers.{AreTold}
use Rattle.zero_copy_loans.specs.Pools.{place_in, HasPlaces, IsGivenBack, IsTakenOut}
use Rattle.zero_copy_loans.specs.declared.error.PoolFailure.TheVariants.{NoPlace}
use Rattle.steps.specs.declared.indices.enums.UniqueIndexSetAcquireFailure.TheVariants.{OutOfIndices}
use Rattle.zero_copy_slots.specs.declared.Keeps.{Ghosts}
use Rattle.zero_copy_slots.specs.declared.Laid.{Laid}
use Rattle.zero_copy_slots.specs.declared.Reading.{Reading}
use Rattle.zero_copy_slots.specs.declared.words.Emptied.{Emptied}
use Rattle.zero_copy_slots.specs.Slots.{laid_slot, number_in, slot_in}
use Rattle.zero_copy_slots.specs.Words.{emptied_number, emptied_slot}

-- ---- the sender

-- `regain` empties another slot than the place's
pub regain_empties_another_slot : (place other : ℕ) (e : Emptied) → other ≢ place → emptied_slot e ≡ other → emptied_slot e ≡ place → ⊥
regain_empties_another_slot place other e differs is k = differs (sym is ∙ k)

module _ {X K : Type 0} {rule : Ghosts K X} where
  -- `send` uses a number up for a loan of another channel
  pub send_counts_a_foreign_loan : (place : ℕ) (back : Back) (old new : Sender X K rule) → next_of new ≡ next_of old + 1
      → IsForeign place back old new → ⊥
  send_counts_a_foreign_loan place back old new counted foreign = absurd (omega (arith, foreign.4, counted))

  -- `send` answers that another place came back than that of the loan of another channel
  pub send_hands_another_place_back : (place : ℕ) (back : Back) (old new : Sender X K rule) → back.place ≢ place
      → IsForeign place back old new → ⊥
  send_hands_another_place_back place back old new differs foreign = differs foreign.2

-- ---- the receiver

module _ {X K : Type 0} where
  -- `read` reads what lies in another slot than the sample's
  pub read_takes_another_slot : (reading : Reading X K) (sample : Sample) (other : ℕ) → other ≢ received sample → slot_in reading ≡ other
      → (number_in reading ≡ number_of sample) × (slot_in reading ≡ received sample) → ⊥
  read_takes_another_slot reading sample other differs is k = differs (sym is ∙ k.1)

  pub read_takes_another_number : (reading : Reading X K) (sample : Sample) → number_in reading ≢ number_of sample
      → (number_in reading ≡ number_of sample) × (slot_in reading ≡ received sample) → ⊥
  read_takes_another_number reading sample differs k = differs k.0

-- `read_each` tells nothing of a value that was read
pub read_each_tells_too_little : {A : Type 0} (tells : ℕ → A → Type 0) (number : ℕ) (numbers : List ℕ) → AreTold tells (number ∷ numbers) [] → ⊥
read_each_tells_too_little tells number numbers told = told

-- `read_each` tells of a value what is not true of its number
pub read_each_tells_of_another : {A : Type 0} (tells : ℕ → A → Type 0) (number : ℕ) (numbers : List ℕ) (one : A) (told : List A)
    → ¬ tells number one → AreTold tells (number ∷ numbers) (one ∷ told) → ⊥
read_each_tells_of_another tells number numbers one told wrong are_told = wrong are_told.0

-- ---- the pool

-- `acquire_waiting` ends by a refusal for want of a free place
pub acquire_waiting_finds_no_place : HasPlaces (NoPlace OutOfIndices) → ⊥
acquire_waiting_finds_no_place places = places

module _ {X K : Type 0} {rule : Ghosts K X} where
  -- `acquire` takes the value out of another slot than the place's
  pub acquire_takes_another_slot : (b : Buffer X K rule) → emptied_slot b.came ≢ place_in b → IsTakenOut b → ⊥
  acquire_takes_another_slot b differs taken_out = differs taken_out.0

  -- `acquire` returns the value with another number than it lay in the slot with
  pub acquire_tells_another_number : (b : Buffer X K rule) (value : X) (number : ℕ) → b.value ≡ Some value → emptied_number b.came ≡ Some number
      → number ≢ b.number → IsTakenOut b → ⊥
  acquire_tells_another_number b value number some was differs taken_out =
      let out : MatchOption (Some value) ((emptied_number b.came ≡ None) × (b.number ≡ 0)) (λ v. emptied_number b.came ≡ Some b.number) =
      subst (λ o. MatchOption o ((emptied_number b.came ≡ None) × (b.number ≡ 0)) (λ v. emptied_number b.came ≡ Some b.number)) some taken_out.1 in
      let same : number ≡ b.number = cc in
      differs same

  -- `give_back` answers that a value was laid down, and there was none
  pub give_back_lays_nothing : (b : Buffer X K rule) (laid : Laid) → b.value ≡ None → IsGivenBack b (Some laid) → ⊥
  give_back_lays_nothing b laid none given_back = true≢false (sym given_back.0 ∙ ap is_some none)

  -- `give_back` lays the value into another slot
  pub give_back_lays_elsewhere : (b : Buffer X K rule) (laid : Laid) → laid_slot laid ≢ place_in b → IsGivenBack b (Some laid) → ⊥
  give_back_lays_elsewhere b laid differs given_back = differs given_back.1
