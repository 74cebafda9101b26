use Rattle.std.proofs.Common.{◌≡◌, ◌<◌, ◌≤◌, ◌*◌, ◌^◌}
use Rattle.zero_copy_loans.proofs.words.Layout.new.Given as given

-- `room` is the power of two with exponent `bits`, and less than twice the number of places, unless it is 2
abbrev pub invariant-loop-bits : given.invariant-loop-bits
invariant-loop-bits l = (l.room ≡ 2 ^ l.bits) × (2 ≤ l.room) × (l.room ≤ 2 ^ 32) × (2 < l.room → l.room < 2 * l.places)
