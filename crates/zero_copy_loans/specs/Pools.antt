-- What clauses see of a pool, of who takes buffers of it, and of a buffer.
use Rattle.std.specs.Prelude.{◌≡◌, ℕ, ◌*◌, ◌<◌, Option, Some, None, IsSome, MatchOption}
use Rattle.threaded.specs.declared.share.Share.{Share}
use Rattle.lock_free_sets.specs.UniqueIndexSet.{capacity_of, share, value_of}
use Rattle.zero_copy_loans.specs.declared.error.PoolFailure.{PoolFailure}
use Rattle.steps.specs.declared.indices.enums.UniqueIndexSetAcquireFailure.TheVariants.{IsLocked, OutOfIndices}
use Rattle.zero_copy_loans.specs.declared.error.PoolFailure.TheVariants.{InUse, NoPass, NoPlace}
use Rattle.zero_copy_loans.specs.declared.pool.Buffer.{Buffer}
use Rattle.zero_copy_loans.specs.declared.pool.Lender.{Lender}
use Rattle.zero_copy_loans.specs.declared.pool.Pool.{Pool}
use Rattle.zero_copy_slots.specs.Slots.{laid_number, laid_slot, IsUntaken}
use Rattle.zero_copy_slots.specs.Words.{emptied_number, emptied_slot}
use Rattle.zero_copy_slots.specs.declared.error.TakeFailure.{TakeFailure}
use Rattle.zero_copy_slots.specs.declared.Keeps.{Ghosts}
use Rattle.zero_copy_slots.specs.declared.Laid.{Laid}
use Rattle.zero_copy_slots.specs.declared.Slots.{Slots}

-- a buffer is not refused for want of a free place
abbrev pub HasPlaces : PoolFailure → Type 0
HasPlaces (NoPlace OutOfIndices) = ⊥
HasPlaces (NoPlace IsLocked) = Unit {0}
HasPlaces NoPass = Unit {0}
HasPlaces (InUse failure) = Unit {0}

module _ {X K : Type 0} {rule : Ghosts K X} where
  -- how many places there are
  abbrev pub places_of : Pool X K rule → ℕ
  places_of p = capacity_of p.set

  -- how many places the lender has
  abbrev pub places_lent : Lender X K rule → ℕ
  places_lent l = capacity_of l.set.now

  -- the slots of the lender
  abbrev pub slots_lent : Lender X K rule → Slots X K rule
  slots_lent l = l.slots.now

  -- the place that is taken
  abbrev pub place_in : Buffer X K rule → ℕ
  place_in b = value_of b.index

  -- the lender's share of the right to know all that happens to the places
  abbrev pub share_lent : Lender X K rule → Share
  share_lent l = share l.pass

  -- the lender's share is the same fraction as it was
  abbrev pub KeepsShare : Lender X K rule → Lender X K rule → Type 0
  KeepsShare old new =
      (share_lent new).part * (share_lent old).parts ≡ (share_lent old).part * (share_lent new).parts

  -- what a refusal of `acquire` says: only `InUse` says something, that the slot of some
  -- place was read or written
  abbrev pub IsRefusedBuffer : Lender X K rule → PoolFailure → Type 0
  IsRefusedBuffer l (NoPlace failure) = Unit {0}
  IsRefusedBuffer l NoPass = Unit {0}
  IsRefusedBuffer l (InUse failure) = (place : ℕ) × (place < places_lent l) × IsUntaken (slots_lent l) place failure

  -- the slot of the buffer's place was left empty, and the buffer has the value that lay in it with its
  -- number; or nothing lay in it
  abbrev pub IsTakenOut : Buffer X K rule → Type 0
  IsTakenOut b =
      (emptied_slot b.came ≡ place_in b)
      × MatchOption b.value ((emptied_number b.came ≡ None) × (b.number ≡ 0)) (λ value. emptied_number b.came ≡ Some b.number)

  -- the buffer's value was laid into the slot of its place, with its number; or the buffer had none
  abbrev pub IsGivenBack : Buffer X K rule → Option Laid → Type 0
  IsGivenBack b (Some laid) = IsSome b.value × (laid_slot laid ≡ place_in b) × (laid_number laid ≡ b.number)
  IsGivenBack b None = b.value ≡ None

  -- the buffer's value comes back, since the slot of its place was read or written
  abbrev pub IsNotLaid : Buffer X K rule → X × TakeFailure → Type 0
  IsNotLaid b back = (b.value ≡ Some back.0) × IsUntaken b.slots.now (place_in b) back.1
