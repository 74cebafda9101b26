-- What a turn of a container tells, on a machine whose owners die or in an open run.
use Rattle.laws_container.proofs.Names.{after_turn}
use Rattle.laws_container.specs.ConditionalPromises.{TellsIf}
use Rattle.laws_container.proofs.AskedAnswers.{finds_up_to, questions_right}
use Rattle.laws_container.proofs.AskedFinds.{finds_all}
use Rattle.laws_container.proofs.KeptStates.{keeps_states}
use Rattle.laws_container.proofs.KeptVisits.{visits_unlocked}
use Rattle.laws_container.proofs.LooksTell.{looks_right, looks_leave}
use Rattle.laws_container.proofs.FindPromises.{TurnIf}
use Rattle.laws_container.proofs.Sound.{SoundRun}

-- a turn that is not refused follows a sound run
module _ {T : Type 0} (run : SoundRun T) (taken : TurnIf run) where
  open run use {shown, terms, code, trace as t, sound, may}
  open taken use {turn, allowed as r, well_formed, so_far}

  -- a turn of a container tells all that is promised of it
  pub tells_if : TellsIf well_formed t turn (after_turn t turn)
  tells_if =
      record {
        finds = finds_all run taken;
        finds_up_to = finds_up_to run turn r well_formed so_far;
        questions = questions_right run turn r;
        looks = looks_right run turn r well_formed so_far;
        leaves = looks_leave run turn r;
        states = keeps_states shown terms code t turn r sound may;
        visits = visits_unlocked run turn;
      }
