-- A call of a container waits for a decision just where it asks about a value.
use Rattle.std.proofs.Common.{arith}
use Rattle.laws_machine.proofs.Names.{◌≡◌, ℕ, Option, Some, None, is_some, refl, ap, subst, ◌∙◌}
use Rattle.laws_machine.proofs.Names.{find_asks, Start, Flight, ContainerFlight}
use Rattle.laws_machine.proofs.Names.{Party, Coding, is_question, Turn, turn_making, reached_more, shown}
use Rattle.laws_machine.proofs.Names.{container_keeps, refusal_of, is_due, after_turn, IsReached, Trace, flight_in}
use Rattle.laws_machine.proofs.Names.{StandsThere, raise_asks_none, count_asks_none, lock_asks_none}
use Rattle.steps.specs.declared.container.find.FindStage.{FindStage}
use Rattle.steps.specs.declared.container.recover.RecoverStage.{RecoverStage}
use Rattle.steps.specs.Container.Recover.{recover_asks}
use Rattle.model.specs.declared.families.Flight.TheVariants as flights
use Rattle.model.specs.declared.turn.Kind.TheVariants as kinds
use Rattle.model.specs.Families.Container.Calls.{want}
use Rattle.model.specs.Families.Container.Questions.{question_in, find_question, recover_question}
use Rattle.model.specs.Families.Container.Promises.{TellsRight}
use Rattle.model.specs.Promises.Families.{promise_of}
use Rattle.model.proofs.Frame as frame
use Rattle.laws_container.proofs.Invariant.{family}
use Rattle.laws_container.proofs.Moves.{add_asks_none, remove_asks_none, replace_asks_none, look_asks_none}
use Rattle.laws_container.proofs.Sound.{reached_sound}
use Rattle.laws_machine.specs.Questions.{WaitsForAnswers, IsAnswered}
use Rattle.laws_machine.proofs.CallTransition.{under_way}

module _ {T : Type 0} (code : Coding T) where
  -- a find waits for a decision just where it asks about a value
  find_waits : (size c : ℕ) (stage : FindStage) (value : T) → is_question (find_asks size c stage) ≡ is_some (find_question code stage value)
  find_waits = grind arith

  -- a recovery waits for a decision just where it asks about a value
  recover_waits : (size c : ℕ) (stage : RecoverStage) (owner : ℕ) (value : T)
      → is_question (recover_asks size c stage owner) ≡ is_some (recover_question code stage value)
  recover_waits = grind (arith, raise_asks_none, lock_asks_none)

  -- any call waits for a decision just where it asks about a value
  call_waits : (flight : ContainerFlight T) → is_question (want code flight) ≡ is_some (question_in code (Some (flights.Container flight)))
  call_waits = grind (arith, add_asks_none, remove_asks_none, replace_asks_none, find_waits, recover_waits, look_asks_none, count_asks_none)

-- in a machine of the container that turns have reached
module _ {T : Type 0} (t : Trace T) (kind_is : t.world.kind ≡ kinds.Container) (reached : IsReached t) where
  s : frame.Sound (family t.world.coding t.world.capacity) t
  s = reached_sound shown t kind_is reached

  -- a call that stands in the machine waits for a decision just if it asks a question
  by_call : (p : ℕ) (x : Party T) (since : ℕ) (start : Start T) (flight : Flight T)
      → StandsThere (family t.world.coding t.world.capacity) t s p x since start flight
      → is_due t.world.coding (Some flight) ≡ is_some (question_in t.world.coding (Some flight))
  by_call = grind (arith, call_waits)

  -- a party's call waits for a decision just if it asks a question
  by_flight : (p : ℕ) (o : Option (Flight T)) → flight_in t.world p ≡ o → is_due t.world.coding o ≡ is_some (question_in t.world.coding o)
  by_flight = grind (arith, under_way, family, s, by_call)

  -- in a reached machine each party waits for a decision just where it asks about a value
  pub waits : WaitsForAnswers t
  waits p = by_flight p (flight_in t.world p) refl

-- ---- no call waits again once it has an answer
module _ {T : Type 0} (t : Trace T) (kind_is : t.world.kind ≡ kinds.Container) (reached : IsReached t) where
  -- after a turn that decides for a party, that party waits for no decision
  pub answered : (turn : Turn T) → refusal_of t.world turn ≡ None → IsAnswered turn (after_turn t turn)
  answered turn free p said name =
      let new = after_turn t turn in
      let told : TellsRight t turn (after_turn t turn) =
      subst (λ kind. (promise_of {T = T} kind).tells t turn (after_turn t turn)) kind_is (container_keeps.turn t turn kind_is free reached).tells in
      waits (after_turn t turn) ((turn_making t.world turn).kind ∙ kind_is) (reached_more t turn free reached) p
      ∙ ap is_some (told.questions.answered p said name)
