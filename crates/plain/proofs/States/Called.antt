-- What a client can derive from the laws: after an add, a state that followed the container shows the map
-- once it is brought up to date.
use Rattle.plain.specs.Contents.{Contents, after_add}
use Rattle.plain.specs.States.{Snapshot, updated}
use Rattle.std.proofs.Common.{◌≡◌, ℕ, sym, subst}
use Rattle.plain.specs.Following.{MayChange, Follows}
use Rattle.plain.proofs.States.Changing.{adds}
use Rattle.plain.proofs.States.Showing.{updates}

module _ {V : Type 0} where
  -- after an add and an update a state follows the container, and shows its values
  pub shown_then : {old now last : Contents V} (owner : ℕ) (value : V) {seen after : Snapshot V} → MayChange old
      → Follows old seen → now ≡ after_add old owner value → last ≡ now → after ≡ updated now seen
      → Follows last after × (after.values ≡ last.values)
  shown_then {old} {now} {last} owner value {seen} {after} may followed add stays update =
      let follows = subst (λ s. Follows s seen) (sym add) ((adds old owner value may).follows seen followed) in
      subst (λ s. Follows s after × (after.values ≡ s.values)) (sym stays)
      (subst (λ x. Follows now x × (x.values ≡ now.values)) (sym update) (updates now seen follows))
