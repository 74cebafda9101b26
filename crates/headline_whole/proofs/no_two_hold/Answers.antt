-- `no_two_hold` (src/lib.rt): its return meets what it ensures (`NoTwoHold`).
use Rattle.std.proofs.Common.{◌≡◌, ℕ, subst}
use Rattle.model.specs.declared.turn.Kind.TheVariants as kinds
use Rattle.model.specs.World.{Trace}
use Rattle.headline.specs.Headline.{Holds, Runs}
use Rattle.headline.specs.Holders.{NoTwoHold, claims}
use Rattle.headline_whole.proofs.no_two_hold.Goals as goal

-- Of a unique index set that keeps what its kind does no index has two holders.
one_holder : {T : Type 0} (t : Trace T) (queue : ℕ) → t.world.kind ≡ kinds.Indices → Holds queue t → NoTwoHold claims t.events
one_holder t queue is holds = (subst (λ kind. Runs kind queue t) is holds.runs).no_two_hold

-- No index of the machine has two holders, by the main theorem at what the machine has reached.
pub returns : goal.returns
returns g c = one_holder _ _ c.requires (c.main_theorem.ensures.holds _ c.reached.ensures)
