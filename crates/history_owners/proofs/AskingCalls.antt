-- Calls that put questions (`IsAskingIn`, `AskingCall`): what is known of their stages, their questions and their rooms.
use Rattle.history.proofs.Names.{Bool, true, false, ◌≡◌, ℕ, Option, Some, None, List, ◌∙◌, sym, arith}
use Rattle.steps.specs.declared.ask.After.TheVariants.{GoOn}
use Rattle.history.proofs.Names.{Coding, opening_of, first_of, is_question}
use Rattle.model.specs.declared.event.Event.{Event}
use Rattle.model.specs.declared.event.Start.{Start}
use Rattle.model.specs.declared.families.Flight.{Flight}
use Rattle.model.specs.declared.turn.Kind.{Kind}
use Rattle.history.specs.declared.view.View.{View}
use Rattle.history.specs.Stages.{At, Ends, HasHeard}
use Rattle.history.proofs.Reached.{MayDecide}
use Rattle.history.proofs.Turns.{Machines}
use Rattle.history.proofs.CallsIn.{Driven, AsksFor, StepsOf, ActsAlone}

-- a Bool is not true and false
pub both_ways : {A : Type 0} (b : Bool) → b ≡ true → b ≡ false → A
both_ways b due still = (let both : true ≡ false = sym due ∙ still in absurd (cc))

-- the flight of a call under way, or this one
abbrev pub flight_or : {T : Type 0} → Flight T → Option (Start T × Flight T) → Flight T
flight_or flight None = flight
flight_or flight (Some call) = call.1

-- at each stage that is no question the call asks for a word of the structure
abbrev pub AsksElse : {T C M E : Type 0} → (ℕ → ℕ) → Driven T C M E → Type 0
AsksElse {T} {C} size_of driven =
    (capacity : ℕ) (c : C) → driven.call.stands capacity c → is_question (driven.want c) ≡ false → AsksFor (size_of capacity) (driven.want c)

-- A call (`driven`) that may put questions: its steps write `effects`, and a structure of capacity n has `size_of n` words.
module _ {T C M E : Type 0} (code : Coding T) (kind : Kind) (effects : ℕ → Flight T → ℕ → List (Event T)) (size_of : ℕ → ℕ) (driven : Driven T C M E) where
  open driven use {want, after, kept, call}

  -- The call takes steps as a call of the model does, no word that it loads ends it outside the
  -- history, its stage can be told from its flight in the model, it begins at no question, and no
  -- question comes right after another.
  pub record IsAskingIn : Type 0 where
    pub steps : StepsOf (AsksElse size_of driven) code effects driven
    pub never : (c : C) (n : ℕ) → call.skips c n ≡ false
    pub same_call : (c d : C) (m k : M) → call.flight c m ≡ call.flight d k → c ≡ d
    -- at a question, what it has written tells no rooms apart that the model has as one, and that an answer leaves as one
    pub same_room : (capacity p : ℕ) (from : Option (Start T × Flight T)) (c : C) (m k : M) (a b : ℕ) (es : List (Event T)) → is_question (want c) ≡ true
        → call.flight c m ≡ call.flight c k → kept c m a ≡ kept c k b → call.wrote capacity p from c m es → call.wrote capacity p from c k es
    pub first : (n : ℕ) (c : C) (m : M) → first_of kind n call.start ((opening_of kind).kept n) ≡ Some (call.flight c m) → is_question (want c) ≡ false
    -- after an answer the call stands at no question
    pub one : (c d : C) (n : ℕ) → is_question (want c) ≡ true → after c n ≡ GoOn d → is_question (want d) ≡ false

-- a call that has heard an answer was, in each drive, at the question at which it was in one of them, with that room
pub same_stage : {T C M E : Type 0} {code : Coding T} {kind : Kind} {own : ℕ → Flight T → ℕ → List (Event T)} {size_of : ℕ → ℕ} {driven : Driven T C M E}
    → IsAskingIn code kind own size_of driven → {base₀ base v : View T} {c : C} {m : M}
    → (h : HasHeard code kind driven.after driven.kept driven.call base₀ v c m) → HasHeard code kind driven.after driven.kept driven.call base v c m
    → At code kind driven.call base v h.asking h.room
same_stage = grind arith

-- A call that may put questions, on machines that may decide. A step of it writes `own`, for its own party alone;
-- `Finished` is how a drive of the call leaves it once it is over, and holds where the call has ended (`Ends`).
pub record AskingCall (T C M E : Type 0) : Type 1 where
  pub machines : Machines T
  pub decides : MayDecide machines.kind
  pub own : ℕ → Flight T → ℕ → List (Event T)
  pub driven : Driven T C M E
  pub acts : ActsAlone machines.code machines.kind machines.effects own driven.call
  pub is_call : IsAskingIn machines.code machines.kind own machines.size_of driven
  pub Finished : View T → E → M → View T → Type 0
  pub ended : (base : View T) (e : E) (m : M) (w : View T) → Ends machines.code machines.kind driven.call base e m w → Finished base e m w
