-- A look of a state of a container may begin on a pass whose last call rests at a `find`'s question.
use Rattle.std.proofs.Common.{arith}
use Rattle.history.proofs.Names.{◌≡◌, inl, inr, ℕ, ◌<◌, Bool, None, [], refl, sym, subst}
use Rattle.history.proofs.Names.{look_want, look_after, look_kept, Numbers, Showing}
use Rattle.steps.specs.declared.ask.After.{After}
use Rattle.steps.specs.declared.ask.Want.{Want}
use Rattle.history.proofs.Names.{Coding, IsCoding}
use Rattle.model.specs.declared.families.container.calls.LookOf.{LookOf}
use Rattle.steps.specs.declared.container.look.Look.{Look as Looking}
use Rattle.steps.specs.declared.container.look.LookStage.TheVariants as looks
use Rattle.model.specs.declared.turn.Kind.TheVariants as kinds
use Rattle.history.specs.declared.view.View.{View}
use Rattle.history_owners.specs.ContainerLooks.{looking, BeginsWith, StateLooks, StateLooked, BeginsLook, RestedLooks, RestedLooked}
use Rattle.history_owners.specs.Settled.{IsResting, Settles}
use Rattle.history.specs.Stages.{At}
use Rattle.history.proofs.CallsIn.{AsksFor}
use Rattle.history_owners.proofs.ContainerLooks.{look_words}
use Rattle.history_owners.proofs.ContainerRests.{Keeps, container_hears}
use Rattle.history_owners.proofs.Containers.{container_words}
use Rattle.history_owners.proofs.Settling.{keeps_waiting}
use Rattle.history_owners.proofs.StateLooks.{plain, state_looks_keep, state_look_first}

module _ {T : Type 0} (code : Coding T) (law : IsCoding code) (which : LookOf) (cells : ℕ) (seen : Numbers) where
  abbrev want : Looking T → Want (Unit {0})
  want c = look_want code.size c

  abbrev after : Looking T → ℕ → After (Looking T) Bool
  after c n = look_after code.size c seen n

  abbrev kept : Looking T → Showing T → ℕ → Showing T
  kept c m n = look_kept code.value_of code.size c m n

  -- the look is about to begin, or under way, from the state that its party has
  abbrev LookStands : View T → View T → Looking T → Showing T → Type 0
  LookStands = StateLooks code which cells seen

  -- the look has ended, and its party has the state that it left
  abbrev LookEnded : View T → Bool → Showing T → View T → Type 0
  LookEnded = StateLooked code which cells seen

  -- the look may begin: it is at its first stage, on the container of the state
  abbrev LookBegins : View T → Looking T → Showing T → Type 0
  LookBegins = BeginsLook code which cells seen

  -- a look that may begin asks for a word of the container
  asks : (v : View T) (c : Looking T) (m : Showing T) → LookBegins v c m → AsksFor (container_words code v.capacity) (want c)
  asks v c m begins =
      subst (λ d. AsksFor (container_words code v.capacity) (want d)) (sym begins.0) (look_words code.size v.capacity looks.LoadsChange tt)

  -- once the last call has ended, the pass's party still has the state with which the look begins
  begins_with : (w : LookOf) (v u : View T) (m : Showing T) → Settles code kinds.Container v u → BeginsWith code which cells seen w v m
      → BeginsWith code which cells seen w u m
  begins_with = grind arith

  -- once the last call has ended, the look may still begin
  stays : (v u : View T) (c : Looking T) (m : Showing T) → Settles code kinds.Container v u → LookBegins v c m → LookBegins u c m
  stays = grind (arith, begins_with)

  -- a look that may begin is at its first stage, on a pass with no call under way
  first : (v : View T) (c : Looking T) (m : Showing T) → LookBegins v c m → v.going ≡ None → v.other ≡ [] → 0 < v.share.part → LookStands v v c m
  first = grind (arith, state_look_first)

  -- a pass that rests is at a question, and a look puts none
  apart_at : (base v : View T) (c : Looking T) (m : Showing T) → IsResting code v → At code kinds.Container (looking code which cells seen) base v c m → ⊥
  apart_at = grind arith

  -- each step of a look keeps the rule, also if the last call of the pass rests
  pub state_rests_keep : Keeps code (RestedLooks code which cells seen) (RestedLooked code which cells seen) want after kept
  state_rests_keep =
      keeps_waiting (container_hears code)
      (record {
        want = want;
        after = after;
        kept = kept;
        Stage = LookStands;
        Over = LookEnded;
        may = λ c. Unit {0};
        keeps = λ base v c m key words slots id ok. looks_keep base v c m key words slots id;
        Begins = LookBegins;
        asks = asks;
        stays = stays;
        first = first;
        apart = λ base v c m h begins stage. apart_at base v c m h (is_call base v c m stage);
      })
      (λ c. tt)
    where
      -- each step of a look keeps the rule where no call rests
      looks_keep : Keeps code LookStands LookEnded want after kept
      looks_keep = state_looks_keep code law which cells seen

      -- a look at a stage is a call at that stage
      is_call : (base v : View T) (c : Looking T) (m : Showing T) → LookStands base v c m → At code kinds.Container (looking code which cells seen) base v c m
      is_call = plain code law which cells seen

  -- a look may begin on a pass with no call under way
  pub state_rests_idle : (v : View T) (c : Looking T) (m : Showing T) → LookBegins v c m → v.going ≡ None → v.other ≡ [] → 0 < v.share.part
      → RestedLooks code which cells seen v v c m
  state_rests_idle = grind (arith, inl, first)

  -- a look may begin on a pass whose last call rests
  pub state_rests_rested : (v : View T) (c : Looking T) (m : Showing T) → LookBegins v c m → IsResting code v → RestedLooks code which cells seen v v c m
  state_rests_rested v c m begins resting = inr (record { is = refl; resting = resting; first = begins })
