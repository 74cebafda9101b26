-- Where calls run whole, those that act at one moment answer as their object does at the end of the call. So stores
-- and loads answer as one value.
use Rattle.std.proofs.Common.{◌≡◌, ℕ, true, false, List, [], ◌∷◌, ◌++◌, map, fold, refl, sym, ap, subst, ◌∙◌, append_assoc, append-nil}
use Rattle.std.proofs.Common.{if◌then◌else◌}
use Rattle.std.proofs.lemmas.List.Concat.{flat_map-append}
use Rattle.model.specs.declared.event.Answer.{Answer}
use Rattle.model.specs.declared.event.Event.{Event}
use Rattle.model.specs.declared.event.Event.TheVariants.{Begun, Finished, Died}
use Rattle.model.specs.declared.event.Start.{Start}
use Rattle.model.specs.declared.event.Start.TheVariants as starts
use Rattle.model.specs.declared.families.atomic.AtomicStart.TheVariants as values
use Rattle.model.specs.Families.Atomic.Promises as atomic
use Rattle.model.specs.Linearizable.{Specification}
use Rattle.model.specs.Linearized.{as_value}
use Rattle.model.specs.Objects.{Object, IsLegal, answers_from, standing}
use Rattle.model.specs.Promises.{IsKeptBy}
use Rattle.model.specs.Reading.{acts, moments}
use Rattle.model.specs.World.{Trace}
use Rattle.model.proofs.Replays.{standing_more}
use Rattle.headline_whole.specs.Whole.{RunsWhole, AnswersAs}
use Rattle.headline_whole.proofs.Courses.{NoneEnds}
use Rattle.headline_whole.proofs.WithoutQuestions.{HasAnswered, still_answered, once_more}
use Rattle.headline_whole.proofs.Sequential.{of_parties, whole_call, ReadsEffects, reads_same, reads_call, rests}

module _ {T State : Type 0} where
  -- the answer at a moment of a legal list
  answer_then : (o : Object T State) (s : State) (past after : List (Start T × Answer T)) (start : Start T) (answer : Answer T)
      → answers_from o s (map (λ m. m.0) (past ++ (start, answer) ∷ after)) ≡ map (λ m. m.1) (past ++ (start, answer) ∷ after)
      → answer ≡ o.answer (fold o.after s (map (λ m. m.0) past)) start
  answer_then o s [] after start answer legal = cc
  answer_then o s (m ∷ past) after start answer legal =
      let rest : answers_from o (o.after s m.0) (map (λ m. m.0) (past ++ (start, answer) ∷ after)) ≡ map (λ m. m.1) (past ++ (start, answer) ∷ after) = cc in
      answer_then o (o.after s m.0) past after start answer rest

pub no_call : {A : Type 0} → false ≡ true → A
no_call same_false = absurd (cc)

pub acts_are_effects : {T : Type 0} → ReadsEffects (acts {T = T})
acts_are_effects = record { begun = λ p start. refl; finished = λ p start answer. refl; died = λ owner. refl }

-- `spec` says what the calls answer, and `object` is theirs that act.
module _ {T State : Type 0} (spec : Specification T State) (object : Object T State) where
  -- The state of the object after the moments in these events.
  abbrev pub now : List (Event T) → State
  now es = standing object (moments es)

  -- Events without an act leave the object in the state that it is in.
  pub still_now : (es more : List (Event T)) → moments more ≡ [] → now (es ++ more) ≡ now es
  still_now es more none =
      ap (λ (ms : List (Start T × Answer T)). standing object ms)
      (flat_map-append acts es more ∙ (ap (λ (ms : List (Start T × Answer T)). moments es ++ ms) none ∙ append-nil (moments es)))

  -- The death of an owner changes neither the object nor the answers.
  pub mourned : (es : List (Event T)) (owner : ℕ) → HasAnswered spec (now es) es → HasAnswered spec (now (es ++ Died owner ∷ [])) (es ++ Died owner ∷ [])
  mourned es owner answered =
      subst (λ (s : State). HasAnswered spec s (es ++ Died owner ∷ [])) (sym (still_now es (Died owner ∷ []) refl))
      (still_answered spec (now es) es (Died owner ∷ []) (λ is_call. refl) answered)

  module _ (p : ℕ) (start : Start T) (answer : Answer T) (begun since : List (Event T)) where
    -- A whole call without a moment leaves the object as it was.
    pub quiet_now : moments (of_parties since) ≡ [] → now (begun ++ whole_call p start since answer) ≡ now begun
    quiet_now none = still_now begun (whole_call p start since answer) (reads_call acts acts_are_effects p start since answer ∙ none)

    -- the answers after a call, which leaves the object so
    pub once_ended : NoneEnds since → (spec.is_call start ≡ true → answer ≡ spec.object.answer (now begun) start)
        → now (begun ++ whole_call p start since answer) ≡ (if spec.is_call start then spec.object.after (now begun) start else now begun)
        → HasAnswered spec (now begun) begun
        → HasAnswered spec (now (begun ++ whole_call p start since answer)) (begun ++ whole_call p start since answer)
    once_ended none said leaves answered =
        subst (λ (s : State). HasAnswered spec s (begun ++ whole_call p start since answer)) (sym leaves)
        (once_more spec (now begun) begun (Begun p start ∷ since) p start answer none said answered)

    -- a call that acts answers as the object does, and so leaves it
    pub acted : (events after : List (Event T)) → IsLegal object (moments events)
        → events ≡ (begun ++ Begun p start ∷ since) ++ Finished p start answer ∷ after → moments (of_parties since) ≡ (start, answer) ∷ []
        → (answer ≡ object.answer (now begun) start) × (now (begun ++ whole_call p start since answer) ≡ object.after (now begun) start)
    acted events after legal split one = (
      answer_then object object.opening (moments begun) (moments after) start answer
          (subst (IsLegal object)
          (ap (λ (es : List (Event T)). moments es) split
          ∙ (flat_map-append acts (begun ++ Begun p start ∷ since) (Finished p start answer ∷ after)
          ∙ (ap (λ (ms : List (Start T × Answer T)). ms ++ moments after)
          (flat_map-append acts begun (Begun p start ∷ since)
          ∙ ap (λ (ms : List (Start T × Answer T)). moments begun ++ ms) (sym (reads_same acts acts_are_effects since) ∙ one))
          ∙ append_assoc (moments begun) ((start, answer) ∷ []) (moments after)))) legal),
      ap (λ (ms : List (Start T × Answer T)). standing object ms)
          (flat_map-append acts begun (whole_call p start since answer)
          ∙ ap (λ (ms : List (Start T × Answer T)). moments begun ++ ms) (reads_call acts acts_are_effects p start since answer ∙ one))
          ∙ standing_more object (moments begun) ((start, answer) ∷ []) (now begun) (object.after (now begun) start) refl refl,
    )

  -- the answers of a run, from those at the end of its calls
  pub answers_then : (events begun since : List (Event T)) → events ≡ begun ++ since → NoneEnds since → HasAnswered spec (now begun) begun
      → AnswersAs spec events
  answers_then events begun since split none answered =
      subst (AnswersAs spec) (sym split) (still_answered spec (now begun) begun since none answered).legal

-- ---- the value

module _ {T : Type 0} (t : Trace T) (kept : IsKeptBy atomic.promise t) (runs : RunsWhole t.events) where
  abbrev spec : Specification T T
  spec = as_value t.world.coding

  -- Between two whole calls the answers are those of the value that stands.
  abbrev AnsweredSoFar : List (Event T) → Type 0
  AnsweredSoFar es = HasAnswered spec (now spec spec.object es) es

  -- after each whole call the answers are those of the value
  ends : (p : ℕ) (start : Start T) (answer : Answer T) (begun since after : List (Event T))
      → t.events ≡ (begun ++ Begun p start ∷ since) ++ Finished p start answer ∷ after → NoneEnds since
      → atomic.wrote t.world.capacity start answer (of_parties since) → AnsweredSoFar begun → AnsweredSoFar (begun ++ whole_call p start since answer)
  ends p (starts.Atomic (values.Store value)) answer begun since after split none wrote rest =
      let done = acted spec spec.object p (starts.Atomic (values.Store value)) answer begun since t.events after kept.promised.moments split wrote in
      once_ended spec spec.object p (starts.Atomic (values.Store value)) answer begun since none (λ is. done.0) done.1 rest
  ends p (starts.Atomic values.Load) answer begun since after split none wrote rest =
      let done = acted spec spec.object p (starts.Atomic values.Load) answer begun since t.events after kept.promised.moments split wrote in
      once_ended spec spec.object p (starts.Atomic values.Load) answer begun since none (λ is. done.0) done.1 rest
  ends p (starts.Atomic start) answer begun since after split none wrote rest =
      once_ended spec spec.object p (starts.Atomic start) answer begun since none no_call
      (quiet_now spec spec.object p (starts.Atomic start) answer begun since wrote) rest
  ends p start answer begun since after split none wrote rest = absurd wrote

  -- Where stores and loads run whole, they answer as one value does.
  pub value_answers : AnswersAs (as_value t.world.coding) t.events
  value_answers =
      let end = rests atomic.promise t.world.capacity (λ e span shut may. may) t.events runs kept.spans AnsweredSoFar
      (mourned spec spec.object) ends (record { legal = refl; stands = refl }) in
      answers_then spec spec.object t.events end.0 end.1 end.2 end.3 end.4
