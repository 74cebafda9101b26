-- What a find has counted when a turn ends it, as the promise says it.
use Rattle.laws_container.proofs.Names.{◌≡◌, ◌≢◌, ℕ, ◌+◌, false, Some, [], ◌∷◌, ◌++◌, sym, subst, append_cancel_left}
use Rattle.laws_container.proofs.Names.{Number, Finished, Container, Turn, Decide, question_at, events_of, after_turn}
use Rattle.model.specs.declared.families.container.ContainerStart.TheVariants.{Find}
use Rattle.laws_container.proofs.WellFormed.{IsWellFormedSoFar}
use Rattle.laws_container.proofs.Sound.{SoundRun}
use Rattle.laws_container.specs.ConditionalPromises.{CountsIf}
use Rattle.laws_container.proofs.Allowed.{IsAllowed}
use Rattle.laws_container.proofs.FindCoverage.{TellsCount, tells, stop_tells}

-- A turn that is not refused, after a sound run; and a condition (`well_formed`) under which the run with the turn is well-formed so far.
-- What is told of contents is told under that condition.
pub record TurnIf {T : Type 0} (run : SoundRun T) : Type 1 where
  pub turn : Turn T
  pub allowed : IsAllowed run.trace.world turn
  pub well_formed : Type 0
  pub so_far : well_formed → IsWellFormedSoFar run.terms (after_turn run.trace turn).world.latest (after_turn run.trace turn).events

module _ {T : Type 0} (run : SoundRun T) (taken : TurnIf run) where
  open run use {terms, trace as t}
  open taken use {turn, allowed as r, well_formed, so_far}

  -- what the turn tells of the find's count is the count of the promise `CountsIf`
  right : (p owner number bound : ℕ)
      → (after_turn t turn).events ≡ t.events ++ Finished p (Container (Find owner)) (Number number) ∷ []
      → TellsCount run p owner number bound (after_turn t turn).world.latest
      → CountsIf well_formed p owner bound number t.events
  right p owner number bound split_so told = (
    told.0,
    λ holds. told.1 (subst (λ es. IsWellFormedSoFar terms (after_turn t turn).world.latest es) split_so (so_far holds)),
  )

  -- a find that ends in a turn other than a no to its party has counted the whole container right
  pub counts_all : (p owner number : ℕ)
      → (after_turn t turn).events ≡ t.events ++ Finished p (Container (Find owner)) (Number number) ∷ []
      → turn ≢ Decide p false → CountsIf well_formed p owner t.world.capacity number t.events
  counts_all p owner number split_so ne =
      right p owner number t.world.capacity split_so
      (tells run p owner number turn r (append_cancel_left t.events (events_of t.world turn) _ split_so) ne)

  -- a find that a no about an index ends has counted the indices up to that one right
  pub counts_up_to : (p owner number : ℕ) {index : ℕ} {value : T}
      → (after_turn t turn).events ≡ t.events ++ Finished p (Container (Find owner)) (Number number) ∷ []
      → turn ≡ Decide p false → question_at t p ≡ Some (index, value)
      → CountsIf well_formed p owner (index + 1) number t.events
  counts_up_to p owner number {index} split_so stops asks =
      right p owner number (index + 1) split_so
      (subst (λ u. TellsCount run p owner number (index + 1) (after_turn t u).world.latest) (sym stops)
      (stop_tells run p owner number asks
      (subst (λ u. events_of t.world u ≡ Finished p (Container (Find owner)) (Number number) ∷ []) stops
      (append_cancel_left t.events (events_of t.world turn) _ split_so))))
