-- What a channel knows of all that went through it, once the ends that it opened are taken in again.
use Rattle.std.specs.Prelude.{◌≡◌, ◌<◌, ℕ, ◌+◌, ◌-◌, ◌^◌, List, ◌++◌, length}
use Rattle.std.specs.List.{range_with_len}
use Rattle.zero_copy_loans.specs.declared.channel.Channel.{Channel}
use Rattle.zero_copy_loans.specs.declared.receiver.Receiver.{Receiver}
use Rattle.zero_copy_loans.specs.declared.receiver.ReceiverParts.{ReceiverParts}
use Rattle.zero_copy_loans.specs.declared.sender.Sender.{Sender}
use Rattle.zero_copy_loans.specs.declared.sender.SenderParts.{SenderParts}
use Rattle.zero_copy_loans.specs.Channels.{HasOpened, HasPassedOn, HasRejoined, IsSameChannel, next_in, shape_of, submission_in}
use Rattle.zero_copy_loans.specs.Ends.{receives_shape, sends_shape, HasBegun, HasReceivedAll, HasSentAll, HasWaited}
use Rattle.zero_copy_slots.specs.declared.Keeps.{Ghosts}

-- What a channel knew, and what both ends sent (`count` values, of which `others` came back) and received (`came`) since it opened
-- them, it knows when it has taken them in again. `left` is the channel while they lived, and `last` with their passes taken in. The
-- submission queue has to have room, and fewer than 2^64 - 1 values may have been sent.
abbrev pub GoesOn : {X K : Type 0} {rule : Ghosts K X} → Channel X K rule → Type 0
GoesOn {X} {K} {rule} first =
    (sent back received others came : List ℕ) (count : ℕ) (left last : Channel X K rule) (sends sends' : SenderParts)
    (receives receives' : ReceiverParts) (s : Sender X K rule) (r : Receiver X K rule)
    → HasPassedOn sent back received first → HasOpened first left sends receives → IsSameChannel first left
    → HasBegun sends s → HasWaited receives r → (sends_shape s ≡ shape_of left) × (receives_shape r ≡ shape_of left)
    → 0 < (submission_in first).capacity → length sent + count < 2 ^ 64 - 1
    → HasSentAll count others s sends' → HasReceivedAll came r receives'
    → HasRejoined left last sends' receives' → IsSameChannel left last
    → HasPassedOn (sent ++ range_with_len (next_in first) count) (back ++ others) (received ++ came) last
