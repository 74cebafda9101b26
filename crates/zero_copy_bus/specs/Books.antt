-- The table of who holds each slot (one bit for each holder, `Holders`): what it says of a pass of the pool's
-- set of free slots, and how calls change it. A slot is on loan while the publisher's bit, bit 0, is set.
use Rattle.std.specs.Prelude.{◌≡◌, ◌≢◌, ◌⊎◌, ◌↔◌, ℕ, ◌+◌, ◌<◌, ◌≤◌, false, Option, Some, List, sum_by, count_by, slice_index_or, if◌then◌else◌}
use Rattle.std.specs.Int.{bit_at}
use Rattle.history.specs.Held.{claims, frees}
use Rattle.history.specs.declared.view.View.{View}
use Rattle.model.specs.declared.event.Event.{Event}
use Rattle.lock_free_sets.specs.Unique.Held.{times}
use Rattle.zero_copy_bus.specs.declared.holders.Holder.{Holder}
use Rattle.zero_copy_bus.specs.declared.holders.Holders.{Holders}
use Rattle.zero_copy_bus.specs.Holders.{nobody, publisher, is_held, Has, SameBut, GainsNobody}

-- who holds this slot by the table; nobody, if there is no such slot
abbrev pub holders_at : List Holders → ℕ → Holders
holders_at table slot = slice_index_or table slot nobody

-- A pass of the set of free slots has claimed exactly the slots that somebody holds by the table and those
-- that the publisher keeps: each claim was freed, or stands for one of these.
pub record IsBookOf (v : View ℕ) (kept : List ℕ) (table : List Holders) : Type 0 where
  pub held : (slot : ℕ) → sum_by (claims slot) v.made
      ≡ sum_by (frees slot) v.made + (if is_held (holders_at table slot) then 1 else 0) + times slot kept

-- for any table, the pass and the list of kept slots agree with it (`IsBookOf`) after the
-- call if they did before
abbrev pub KeepsBook : (old : View ℕ) (before : List ℕ) (new : View ℕ) (after : List ℕ) → Type 0
KeepsBook old before new after = (table : List Holders) → IsBookOf old before table → IsBookOf new after table

-- the pass has claimed each slot of this list, and has not freed it: as often as the list has it, at least
abbrev pub HoldsEach : List ℕ → List (Event ℕ) → Type 0
HoldsEach kept made = (slot : ℕ) → sum_by (frees slot) made + times slot kept ≤ sum_by (claims slot) made

-- nobody holds a slot
abbrev pub AllFree : List Holders → Type 0
AllFree table = (slot : ℕ) → is_held (holders_at table slot) ≡ false

-- how many slots somebody holds
abbrev pub held_number : List Holders → ℕ
held_number table = count_by is_held table

-- by the table, this holder holds this slot
abbrev pub HasSlot : List Holders → ℕ → Holder → Type 0
HasSlot table slot holder = Has (holders_at table slot) holder

-- by the table, this holder holds no slot
abbrev pub HasNone : Holder → List Holders → Type 0
HasNone holder table = (slot : ℕ) → ¬ HasSlot table slot holder

-- by the table, the publisher holds the slot: it is on loan
abbrev pub IsLoaned : List Holders → ℕ → Type 0
IsLoaned table slot = HasSlot table slot publisher

-- the holder of this bit holds the same slots in both tables
abbrev pub KeepsBit : ℕ → List Holders → List Holders → Type 0
KeepsBit i old new =
    (slot : ℕ) → bit_at (holders_at new slot).bits i ≡ bit_at (holders_at old slot).bits i

-- this holder holds the same slots in both tables
abbrev pub KeepsSlots : Holder → List Holders → List Holders → Type 0
KeepsSlots holder old new = KeepsBit holder.bit old new

-- the slot is on loan, and this holder does not hold it
abbrev pub CanSend : List Holders → ℕ → Holder → Type 0
CanSend table slot holder = IsLoaned table slot × ¬ HasSlot table slot holder

-- this holder holds what he held and this slot, except the slot that came back, if one did
abbrev pub Exchanges : ℕ → Holder → Option ℕ → List Holders → List Holders → Type 0
Exchanges slot holder back old new =
    (number : ℕ) → HasSlot new number holder
    ↔ ((HasSlot old number holder ⊎ (number ≡ slot)) × (back ≢ Some number))

-- every other holder holds the same slots in both tables
abbrev pub KeepsOthers : Holder → List Holders → List Holders → Type 0
KeepsOthers holder old new =
    (slot : ℕ) → SameBut holder (holders_at old slot) (holders_at new slot)

-- The two tables differ at this slot at most, and there for this holder at most.
pub record ChangesAt (slot : ℕ) (holder : Holder) (old new : List Holders) : Type 0 where
  pub elsewhere : (other : ℕ) → other ≢ slot → holders_at new other ≡ holders_at old other
  pub here : SameBut holder (holders_at old slot) (holders_at new slot)

-- each who holds a slot in the new table held it in the old one
abbrev pub GainsNone : List Holders → List Holders → Type 0
GainsNone old new = (slot : ℕ) → GainsNobody (holders_at old slot) (holders_at new slot)

-- nobody gains another slot than this one
abbrev pub GainsOnly : ℕ → List Holders → List Holders → Type 0
GainsOnly slot old new =
    (other : ℕ) → other ≢ slot → GainsNobody (holders_at old other) (holders_at new other)

-- the same slots are on loan in both tables
abbrev pub KeepsLoans : List Holders → List Holders → Type 0
KeepsLoans old new =
    (slot : ℕ) → bit_at (holders_at new slot).bits 0 ≡ bit_at (holders_at old slot).bits 0

-- the same slots are on loan in both tables, this slot aside
abbrev pub KeepsLoansBut : ℕ → List Holders → List Holders → Type 0
KeepsLoansBut slot old new =
    (other : ℕ) → other ≢ slot → bit_at (holders_at new other).bits 0 ≡ bit_at (holders_at old other).bits 0

-- each slot that was on loan is still on loan
abbrev pub LoansStay : List Holders → List Holders → Type 0
LoansStay old new = (slot : ℕ) → IsLoaned old slot → IsLoaned new slot

-- a slot that has come on loan is held by no subscriber (their bits are 1 to 63)
abbrev pub MoreLoansAreAlone : List Holders → List Holders → Type 0
MoreLoansAreAlone old new =
    (slot i : ℕ) → IsLoaned new slot → ¬ IsLoaned old slot → 0 < i → i < 64 → bit_at (holders_at new slot).bits i ≢ 1

-- no subscriber gains a slot
abbrev pub SubscribersGainNone : List Holders → List Holders → Type 0
SubscribersGainNone old new =
    (slot i : ℕ) → 0 < i → i < 64 → bit_at (holders_at new slot).bits i ≡ 1 → bit_at (holders_at old slot).bits i ≡ 1

-- each holder holds the same slots in both tables, or none in the new one
abbrev pub KeepsAllOrNone : List Holders → List Holders → Type 0
KeepsAllOrNone old new =
    (i : ℕ) → i < 64
    → ((slot : ℕ) → bit_at (holders_at new slot).bits i ≡ bit_at (holders_at old slot).bits i)
    ⊎ ((slot : ℕ) → ¬ (bit_at (holders_at new slot).bits i ≡ 1))
