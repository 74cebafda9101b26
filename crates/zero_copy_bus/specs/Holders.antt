-- Who holds a slot: a word of 64 bits (`Holders`), bit 0 for the publisher and bit place + 1 for the
-- subscriber of a lane (`Holder`).
use Rattle.std.specs.Prelude.{◌≡◌, ◌≢◌, ℕ, ◌<◌, Bool, nat_lt}
use Rattle.std.specs.Int.{bit_at}
use Rattle.std.proofs.Math.Dec.{lit<}
use Rattle.zero_copy_bus.specs.declared.holders.Holder.{Holder}
use Rattle.zero_copy_bus.specs.declared.holders.Holders.{Holders}

-- the bit of a holder
abbrev pub bit_of : Holder → ℕ
bit_of holder = holder.bit

-- the publisher, whose bit is bit 0
abbrev pub publisher : Holder
publisher = record { bit = 0; within = lit< tt }

-- this holder is among those who hold the slot: its bit is 1
abbrev pub Has : Holders → Holder → Type 0
Has holders holder = bit_at holders.bits holder.bit ≡ 1

-- somebody holds the slot
abbrev pub is_held : Holders → Bool
is_held holders = nat_lt 0 holders.bits

-- nobody holds it
abbrev pub nobody : Holders
nobody = record { bits = 0 }

-- the two words agree in every bit but that of this holder
abbrev pub SameBut : Holder → (old new : Holders) → Type 0
SameBut holder old new =
    (i : ℕ) → i < 64 → i ≢ holder.bit → bit_at new.bits i ≡ bit_at old.bits i

-- each bit that is 1 in the new word was 1 in the old one
abbrev pub GainsNobody : (old new : Holders) → Type 0
GainsNobody old new = (i : ℕ) → i < 64 → bit_at new.bits i ≡ 1 → bit_at old.bits i ≡ 1
