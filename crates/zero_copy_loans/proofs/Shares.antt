-- A share that was halved, and whose halves were joined, is the same fraction as before.
use Rattle.std.proofs.Common.{◌≡◌, ◌*◌, sym, subst, arith}
use Rattle.threaded.specs.declared.share.Share.{Share}
use Rattle.threaded.specs.Shares.{half_of, both_of}

-- The two shares are the same fraction.
IsAsMuch : Share → Share → Type 0
IsAsMuch t w = w.part * t.parts ≡ t.part * w.parts

same_again : (t : Share) → IsAsMuch t (both_of (half_of t) (half_of t))
unfolding IsAsMuch
same_again t = let n = t.part in let m = t.parts in grind arith

pub joined_again : (t u v w : Share) → u ≡ half_of t → v ≡ half_of t → w ≡ both_of u v → w.part * t.parts ≡ t.part * w.parts
unfolding IsAsMuch
joined_again t u v w one other is =
    subst (λ z. IsAsMuch t z) (sym is)
    (subst (λ z. IsAsMuch t (both_of z v)) (sym one) (subst (λ z. IsAsMuch t (both_of (half_of t) z)) (sym other) (same_again t)))
