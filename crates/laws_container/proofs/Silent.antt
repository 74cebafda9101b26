-- Steps that change no word, and write events that change nothing of the set nor of what stands: copies, what is shown, questions,
-- and the end of any call except an add or a replace that has placed its value.
use Rattle.laws_container.proofs.Names.{◌≡◌, ℕ, Bool, Option, List, [], ◌∷◌, ◌++◌, length, get_or, fold, refl, ap}
use Rattle.laws_container.proofs.Names.{◌∙◌, arith, AllByRecursion, Event, Asked, Told, Copied, Shown, Finished}
use Rattle.laws_container.proofs.Names.{Container, ContainerStart, Party, contents_after, announced_after}
use Rattle.laws_container.proofs.Names.{locked_after, SetDoes, HoldsRight, filled_after, holder_after, settled_after}
use Rattle.laws_container.proofs.Names.{dead_after, AreOwn, AreRight, GoneBy, AnswersBy, IsWorn, Quiet, stays_same}
use Rattle.laws_container.proofs.Names.{quietly, Right, right_after, Answer}
use Rattle.model.specs.declared.families.container.ContainerStart.TheVariants.{Add, Replace}
use Rattle.laws_robust.proofs.Invariant as set_invariant
use Rattle.laws_container.proofs.Effects.{OwesStill, Turn, calmly, reads_same}
use Rattle.laws_container.proofs.Invariant.{Scene, Inv, KeepsElements, AreAllRight, KeepsInvariant, before, after, of_set, inv_of_set}
use Rattle.laws_container.proofs.Left.{left_after}
use Rattle.laws_container.proofs.Stages.{Call, does_with}
use Rattle.laws_container.proofs.Turns.{WellFormed}
use Rattle.model.specs.declared.event.Answer.TheVariants.{NoPlace, NotRemoved}

module _ {T : Type 0} where
  -- the answer ends a call that is no add and no replace, or it says that the add or the replace has failed
  abbrev pub EndsSilently : ContainerStart T → Answer T → Type 0
  EndsSilently (Add value owner) (NoPlace failure) = Unit {0}
  EndsSilently (Add value owner) answer = ⊥
  EndsSilently (Replace index value owner) (NotRemoved failure) = Unit {0}
  EndsSilently (Replace index value owner) answer = ⊥
  EndsSilently start answer = Unit {0}

  -- the event changes nothing of the set, of what stands or of what is announced
  abbrev pub Silent : Event T → Type 0
  Silent (Asked p index owner) = Unit {0}
  Silent (Told p index owner) = Unit {0}
  Silent (Copied p index value) = Unit {0}
  Silent (Shown p index) = Unit {0}
  Silent (Finished p (Container start) answer) = EndsSilently start answer
  Silent e = ⊥

  -- `f` reads something from one event after another, and no silent event changes it
  module _ {A : Type 0} (f : A → Event T → A) (stays : (e : Event T) → Silent e → (a : A) → f a e ≡ a) where
    -- silent events change nothing of what `f` reads
    fold_stays : (es : List (Event T)) → AllByRecursion Silent es → (a : A) → fold f a es ≡ a
    fold_stays [] all_are a = refl
    fold_stays (e ∷ es) all_are a = ap (λ b. fold f b es) (stays e all_are.0 a) ∙ fold_stays es all_are.1 a

  -- for whom an index is filled, who holds it, the lock and the dead are not changed by a silent event
  filled_stays : (i : ℕ) (e : Event T) → Silent e → (o : Option ℕ) → filled_after i o e ≡ o
  filled_stays i e silent o = grind arith

  holder_stays : (i : ℕ) (e : Event T) → Silent e → (o : Option ℕ) → holder_after i o e ≡ o
  holder_stays i e silent o = grind arith

  locked_stays : (e : Event T) → Silent e → (b : Bool) → locked_after b e ≡ b
  locked_stays e silent b = grind arith

  dead_stays : (owner : ℕ) (e : Event T) → Silent e → (b : Bool) → dead_after owner b e ≡ b
  dead_stays o e silent b = grind arith

  -- what stands, what is left, for whom an index is settled, rights and announcements are not
  -- changed by a silent event
  contents_stay : (i : ℕ) (e : Event T) → Silent e → (o : Option T) → contents_after i o e ≡ o
  contents_stay i e silent o = grind arith

  left_stays : (i : ℕ) (e : Event T) → Silent e → (b : Bool) → left_after i b e ≡ b
  left_stays i e silent b = grind arith

  settled_stays : (i : ℕ) (e : Event T) → Silent e → (o : Option ℕ) → settled_after i o e ≡ o
  settled_stays i e silent o = grind arith

  right_stays : (i : ℕ) (e : Event T) → Silent e → (r : Right) → right_after i r e ≡ r
  right_stays i e silent r = grind arith

  announced_stays : (i : ℕ) (e : Event T) → Silent e → (b : Bool) → announced_after i b e ≡ b
  announced_stays i e silent b = grind arith

  -- a silent event is right as an event of the set
  does_right : (c : ℕ) (earlier : List (Event T)) (e : Event T) → Silent e → SetDoes c earlier e
  does_right c earlier e silent = grind arith

  holds_right : (earlier : List (Event T)) (e : Event T) → Silent e → HoldsRight earlier e
  holds_right earlier e silent = grind arith

  -- a silent event, if it is the end of a call, says nothing that may be wrong
  answers_right : (by : GoneBy) (worn : Type 0) (c : ℕ) (earlier : List (Event T)) (e : Event T) → Silent e → AnswersBy by worn c earlier e
  answers_right by worn c earlier e silent = grind arith

  -- silent events are right if each is
  all_right : (P : List (Event T) → Event T → Type 0)
      → ((earlier : List (Event T)) (e : Event T) → Silent e → P earlier e) → (earlier es : List (Event T))
      → AllByRecursion Silent es → AreRight P earlier es
  all_right P right earlier [] all_are = tt
  all_right P right earlier (e ∷ es) all_are = (right earlier e all_are.0, all_right P right (earlier ++ e ∷ []) es all_are.1)

  -- silent events change nothing of what is read of the set
  pub silent_quiet : (es : List (Event T)) → AllByRecursion Silent es → Quiet es
  silent_quiet = grind (arith, fold_stays, filled_stays, holder_stays, settled_stays, right_stays, locked_stays, dead_stays, all_right, holds_right)

-- the step leaves the words, and writes the silent events `es`
module _ {T : Type 0} {scene : Scene T} (inv : Inv scene) (words' : List ℕ) (same : words' ≡ scene.words)
    (y : Party T) (es : List (Event T)) (silent : AllByRecursion Silent es) (own : AreOwn scene.party es) where
  open scene use {capacity as c, events as events}

  -- a step that leaves the words and writes silent events does nothing to the set
  pub silent_set : set_invariant.Does (of_set scene) words' es
  silent_set =
      quietly (of_set scene) (inv_of_set scene inv) words' es
      (stays_same (of_set scene) (inv_of_set scene inv) words' same).leaves (silent_quiet es silent) own
      (all_right (SetDoes c) (does_right c) events es silent)
      (all_right (AnswersBy scene.terms.by (IsWorn scene.terms.by words') c)
      (answers_right scene.terms.by (IsWorn scene.terms.by words') c) events es silent)

  -- a step that leaves the words and writes silent events does nothing to the elements
  pub silent_changes : (WellFormed (after scene words' y es) → WellFormed (before scene)) → OwesStill scene y → KeepsElements scene words' y es
  silent_changes well_formed still =
      let turn : Turn scene words' y es = record { inv = inv; well_formed = well_formed } in
      calmly turn (λ n behind. ap (λ w. get_or w n 0) same) (ap length same)
      (reads_same turn (λ i. fold_stays (contents_after i) (contents_stay i) es silent)
      (λ i. fold_stays (announced_after i) (announced_stays i) es silent) (λ i. fold_stays (left_after i) (left_stays i) es silent))
      still

-- a step of a call that is no look, which leaves the words and writes silent events, keeps the invariant
pub silently : {T : Type 0} (call : Call T) {words' : List ℕ} → words' ≡ call.scene.words
    → {y : Party T} {es : List (Event T)} → AllByRecursion Silent es → AreOwn call.scene.party es
    → (WellFormed (after call.scene words' y es) → WellFormed (before call.scene))
    → OwesStill call.scene y → AreAllRight call.scene words' y es
    → KeepsInvariant call.scene words' call.scene.states y es
silently call {words'} same {y} {es} silent own well_formed still right =
    does_with call (silent_changes call.inv words' same y es silent own well_formed still) (silent_set call.inv words' same y es silent own) right
