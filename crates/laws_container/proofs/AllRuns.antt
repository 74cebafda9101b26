-- All that is to be shown of the turns of a container, gathered call by call; from it follows what is
-- promised of every run.
use Rattle.model.specs.declared.turn.Kind.TheVariants as kinds
use Rattle.laws_container.proofs.Names.{Keeps}
use Rattle.laws_container.proofs.AddWrites.{add_step}
use Rattle.laws_container.proofs.Begins.{begins_shown}
use Rattle.laws_container.proofs.Counts.{count_step, lock_step}
use Rattle.laws_container.proofs.Deaths.{dies}
use Rattle.laws_container.proofs.FindChecks.{find_step, find_decided}
use Rattle.laws_container.proofs.Invariant.{Scene, Inv}
use Rattle.laws_container.proofs.Justified.{keeps}
use Rattle.laws_container.proofs.Looks.{look_step}
use Rattle.laws_container.proofs.Moves.{CallSteps}
use Rattle.laws_container.proofs.Opening.{opens}
use Rattle.laws_container.proofs.RecoverClosing.{recover_step, recover_decided}
use Rattle.laws_container.proofs.RemoveSteps.{remove_step}
use Rattle.laws_container.proofs.ReplaceAny.{replace_step}
use Rattle.laws_container.proofs.Sound.{Shown}

module _ {T : Type 0} where
  -- each step of each call of a container keeps the invariant
  calls : (scene : Scene T) → Inv scene → CallSteps scene
  calls scene inv =
      record {
        add =
            λ value owner fits acts stage here at k s.
            add_step (record { scene = scene; inv = inv; value = value; owner = owner; fits = fits; acts = acts }) stage here at k s;
        remove = λ index owner mode fits acts stage at here k s. remove_step inv index mode fits acts stage at here k s;
        replace = λ index value owner fits acts stage at here k s. replace_step inv index value fits acts stage at here k s;
        find =
            λ owner fits room stage at here k s.
            find_step (record { scene = scene; inv = inv; owner = owner; fits = fits }) room stage at here k s;
        find_decided =
            λ owner fits room index found at here k s answer.
            find_decided (record { scene = scene; inv = inv; owner = owner; fits = fits }) room index found at here k s answer;
        recover =
            λ owner mode fits room stage at here k s.
            recover_step (record { scene = scene; inv = inv; owner = owner; mode = mode; fits = fits }) room stage at here k s;
        recover_decided =
            λ owner mode fits room index count at here k s answer.
            recover_decided (record { scene = scene; inv = inv; owner = owner; mode = mode; fits = fits }) room index count at here k s answer;
        look = λ which stage at here k s. look_step scene inv which stage here at k s;
        count = λ which count at none here k s. count_step inv which count here at none k s;
        lock = λ none here k s. lock_step inv here none k s;
      }

  -- all that is to be shown of the turns of a container is shown
  pub shown : Shown T
  shown =
      record {
        calls = calls;
        begins = λ scene g h free shut start named may. begins_shown scene g h free shut named may;
        dies = dies;
        opens = λ terms code c coded some few. opens terms code c coded some few;
      }

  -- what is promised of every run of a container
  pub container_keeps : Keeps T kinds.Container
  container_keeps = keeps shown
