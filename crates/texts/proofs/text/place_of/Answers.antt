-- `place_of` (src/text.rt): its return is the place of the byte in the text, or the length of the text.
use Rattle.std.proofs.Common.{◌==◌, sym, arith, eq-eqb}
use Rattle.std.proofs.lemmas.List.Sums.{position_or_len_is}
use Rattle.texts.proofs.text.place_of.Goals as goal

-- where the byte is found, it is found for the first time, since the loop has seen no other one
pub returns-then-b-byte : goal.returns-then-b-byte
returns-then-b-byte c =
    sym (position_or_len_is (λ b. b == c.args.byte) c.args.text.now c.loop-at.at 0 (omega arith) c.loop-at.invariant (λ _. eq-eqb _ _ c.if-b-byte.true))

-- where the byte is not found, the answer is the length of the text
pub returns : goal.returns
returns c =
    sym (position_or_len_is (λ b. b == c.args.byte) c.args.text.now _ 0 (omega arith) (λ k h. c.loop-at.invariant k (omega arith)) (λ h. absurd (omega arith)))
