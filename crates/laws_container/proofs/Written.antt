-- What a step of a call writes, apart from the end of the call: each event is an effect that the turn of its
-- party may have.
use Rattle.laws_container.proofs.Names.{ℕ, Option, List, ◌++◌, arith, AllByRecursion, DeadOwner, RecoverStage}
use Rattle.laws_container.proofs.Names.{ContainerState, Event, ContainerFlight, Turn, Coding, effects, question_of}
use Rattle.laws_container.proofs.Names.{questions, IsParty, IsEffectOf, all_both, all_either}
use Rattle.model.specs.declared.families.container.calls.ContainerFlight.TheVariants.{Recover}

module _ {T : Type 0} (turn : Turn T) (p : ℕ) (mine : IsParty turn p) where
  abbrev IsEffect : Event T → Type 0
  IsEffect e = IsEffectOf turn e

  abbrev AreEffects : List (Event T) → Type 0
  AreEffects es = AllByRecursion IsEffect es

  all_done : (code : Coding T) (state : Option (ContainerState T)) (flight : ContainerFlight T) (old : ℕ) → AreEffects (effects code p state flight old)
  all_done code state flight old = grind arith

  all_asked : (given : DeadOwner) (stage : RecoverStage) (old : ℕ) → AreEffects (question_of p given stage old)
  all_asked = grind (arith, all_either)

  all_questions : (flight : ContainerFlight T) (old : ℕ) → AreEffects (questions p flight old)
  all_questions (Recover run) old = all_asked run.given run.call.stage old
  all_questions flight old = tt

  pub all_effects : (code : Coding T) (state : Option (ContainerState T)) (flight : ContainerFlight T) (old : ℕ)
      → AreEffects (effects code p state flight old ++ questions p flight old)
  all_effects = grind (arith, all_both, effects, questions, all_done, all_questions)
