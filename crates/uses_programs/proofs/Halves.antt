-- The shares of a pass that was split make the whole again, once what they became is joined.
use Rattle.std.proofs.Common.{◌≡◌, refl, sym, ap, subst, ◌∙◌}
use Rattle.uses_programs.proofs.Names.{Share, all_shares, half_of, both_of, IsAll}

-- split once
pub both_halves : (first left right joined : Share) → first ≡ all_shares → left ≡ half_of first → right ≡ half_of first
    → joined ≡ both_of left right → IsAll joined
both_halves first left right joined all l r is =
    let p = l ∙ ap half_of all in
    let q = r ∙ ap half_of all in
    subst IsAll (sym is) (subst IsAll (λ i. both_of (sym p i) (sym q i)) refl)
