-- The invariant of the loop of `place_of`: none of the bytes before this place is the
-- byte that is looked for.
use Rattle.std.proofs.Common.{◌≡◌, ◌==◌, ℕ, ◌<◌, false, get_or}
use Rattle.texts.proofs.text.place_of.Given as given

abbrev pub invariant-loop-at : given.invariant-loop-at
invariant-loop-at l = (k : ℕ) → k < l.at → (get_or l.text k 0 == l.byte) ≡ false
