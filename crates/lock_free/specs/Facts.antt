-- A lemma for clients whose type has a ghost field that is a fact about another field.
use Rattle.std.specs.Prelude.{◌≡◌}
use Rattle.std.proofs.Common.{subst, ap}

-- If a value is made of a part and a proof of a fact about it, and any two proofs of this fact are
-- equal, then equal parts make equal values.
pub made_of_equal : {X A : Type 0} {P : X → Type 0} → ((x : X) → IsProp (P x))
    → (make : (x : X) → P x → A) {x y : X} (p : P x) (q : P y) → x ≡ y → make x p ≡ make y q
made_of_equal {P} prop make {x} p q e =
    subst (λ z. (r : P z) → make x p ≡ make z r) e (λ r. ap (make x) (prop x p r)) q
