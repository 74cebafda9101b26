-- The laws of what stands in a container, of every history.
use Rattle.std.proofs.Common.{ℕ, List, sym, subst}
use Rattle.model.specs.declared.event.Event.{Event}
use Rattle.model.specs.declared.turn.Kind.TheVariants as kinds
use Rattle.model.specs.Coding.{Coding}
use Rattle.history.specs.History.{IsHistory}
use Rattle.history_laws.specs.Containers.{IsOrderly, IsContained}
use Rattle.history_laws.proofs.ContainerFew.{reached_contained}
pub use Rattle.history_laws.proofs.ContainerPlain.{none_recovers, none_frees}

-- an orderly history of a container says what `IsContained` has of it
pub contained_history : {T : Type 0} (code : Coding T) (capacity : ℕ) (events : List (Event T)) → IsHistory code kinds.Container capacity events
    → IsOrderly events → IsContained events
contained_history code capacity events history kept =
    subst IsContained (sym history.is) (reached_contained history.trace history.run.of_kind history.run.reached (subst IsOrderly history.is kept))
