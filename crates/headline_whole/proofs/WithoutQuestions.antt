-- The calls of an object that put no question, as a course of a run.
use Rattle.std.proofs.Common.{◌≡◌, ℕ, Bool, true, false, List, [], ◌∷◌, ◌++◌, refl, sym, ap, subst, ◌∙◌, append-nil, if◌then◌else◌}
use Rattle.std.proofs.lemmas.List.Concat.{flat_map-append}
use Rattle.model.specs.declared.event.Answer.{Answer}
use Rattle.model.specs.declared.event.Event.{Event}
use Rattle.model.specs.declared.event.Event.TheVariants.{Finished}
use Rattle.model.specs.declared.event.Start.{Start}
use Rattle.model.specs.declared.turn.Kind.{Kind}
use Rattle.model.specs.Coding.{Coding}
use Rattle.model.specs.Linearizable.{Specification}
use Rattle.model.specs.Objects.{IsLegal, standing}
use Rattle.model.proofs.Replays.{legal_more, standing_more}
use Rattle.headline_whole.specs.Whole as whole
use Rattle.headline_whole.specs.Whole.{answered, AnswersAs}
use Rattle.headline_whole.proofs.Courses.{NoneEnds, Course, Rules}
use Rattle.headline_whole.proofs.Flights.{talks_once}
use Rattle.headline_whole.proofs.Law.{Reading, Answers, Law}
use Rattle.headline_whole.proofs.SoloCalls.{Speech, EndsAsObject, talking, talk_rules}

module _ {T State : Type 0} (spec : Specification T State) where
  -- the answers in `events` are those of the object, which is `object` after them
  pub record HasAnswered (object : State) (events : List (Event T)) : Type 0 where
    pub legal : AnswersAs spec events
    pub stands : standing spec.object (answered spec.is_call events) ≡ object

  -- more events, of which none ends a call, add no answer
  more_answered : (events es : List (Event T)) → NoneEnds es → answered spec.is_call (events ++ es) ≡ answered spec.is_call events
  more_answered events es none =
      flat_map-append (whole.answer_in spec.is_call) events es
      ∙ (ap (λ (xs : List (Start T × Answer T)). answered spec.is_call events ++ xs) (none spec.is_call)
      ∙ append-nil (answered spec.is_call events))

  -- events that end no call leave the answers those of the object
  pub still_answered : (object : State) (events es : List (Event T)) → NoneEnds es → HasAnswered object events → HasAnswered object (events ++ es)
  still_answered object events es none has_answered =
      let same = more_answered events es none in
      record {
        legal = subst (λ (xs : List (Start T × Answer T)). IsLegal spec.object xs) (sym same) has_answered.legal;
        stands = ap (λ (xs : List (Start T × Answer T)). standing spec.object xs) same ∙ has_answered.stands;
      }

  -- where a call ends, with the object's answer if the call is one of the object's, the answers are still those of the
  -- object, which is then as it is after this call
  pub once_more : (object : State) (events wrote : List (Event T)) (p : ℕ) (start : Start T) (answer : Answer T) → NoneEnds wrote
      → (spec.is_call start ≡ true → answer ≡ spec.object.answer object start) → HasAnswered object events
      → HasAnswered (if spec.is_call start then spec.object.after object start else object) (events ++ (wrote ++ Finished p start answer ∷ []))
  once_more object events wrote p start answer none said has_answered = go (spec.is_call start) refl
    where
      -- a call that ends adds its answer to those that the object has to give, and no other
      grown : answered spec.is_call (events ++ (wrote ++ Finished p start answer ∷ []))
          ≡ answered spec.is_call events ++ ((if spec.is_call start then (start, answer) ∷ [] else []) ++ [])
      grown =
          flat_map-append (whole.answer_in spec.is_call) events (wrote ++ Finished p start answer ∷ [])
          ∙ ap (λ (xs : List (Start T × Answer T)). answered spec.is_call events ++ xs)
          (flat_map-append (whole.answer_in spec.is_call) wrote (Finished p start answer ∷ [])
          ∙ ap (λ (xs : List (Start T × Answer T)). xs ++ ((if spec.is_call start then (start, answer) ∷ [] else []) ++ [])) (none spec.is_call))

      -- the cases are whether the call is one of the object's
      go : (b : Bool) → spec.is_call start ≡ b
          → HasAnswered (if b then spec.object.after object start else object) (events ++ (wrote ++ Finished p start answer ∷ []))
      go true test =
          let same : answered spec.is_call (events ++ (wrote ++ Finished p start answer ∷ [])) ≡ answered spec.is_call events ++ (start, answer) ∷ [] =
          grown ∙ ap (λ (b : Bool). answered spec.is_call events ++ ((if b then (start, answer) ∷ [] else []) ++ [])) test in
          record {
            legal = subst (λ (xs : List (Start T × Answer T)). IsLegal spec.object xs) (sym same)
                (legal_more spec.object (answered spec.is_call events) ((start, answer) ∷ []) object has_answered.legal has_answered.stands
                (ap (λ (a : Answer T). a ∷ []) (sym (said test))));
            stands = ap (λ (xs : List (Start T × Answer T)). standing spec.object xs) same
                ∙ standing_more spec.object (answered spec.is_call events) ((start, answer) ∷ []) object
                (spec.object.after object start) has_answered.stands refl;
          }
      go false test =
          let same : answered spec.is_call (events ++ (wrote ++ Finished p start answer ∷ [])) ≡ answered spec.is_call events =
          grown ∙ (ap (λ (b : Bool). answered spec.is_call events ++ ((if b then (start, answer) ∷ [] else []) ++ [])) test
          ∙ append-nil (answered spec.is_call events)) in
          record {
            legal = subst (λ (xs : List (Start T × Answer T)). IsLegal spec.object xs) (sym same) has_answered.legal;
            stands = ap (λ (xs : List (Start T × Answer T)). standing spec.object xs) same ∙ has_answered.stands;
          }

module _ {T : Type 0} (R : Reading T) where
  -- a course in which each call of the object answers as the object does, and other calls leave it
  abbrev pub course : Course T
  course =
      record {
        State = R.State;
        after = λ s call. if R.spec.is_call call.start then R.spec.object.after s call.start else s;
        Says = λ s call reply. R.spec.is_call call.start ≡ true → reply.answer ≡ R.spec.object.answer s call.start;
        HasAnswered = λ s events calls. HasAnswered R.spec s events;
        quiet = λ s events es calls none h. still_answered R.spec s events es none h;
        once = λ s events wrote calls p start told answer none said h. once_more R.spec s events wrote p start answer none said h;
      }

  abbrev pub speech : Speech course
  speech = record { Holds = R.Holds; read = R.read }

  -- what keeps to a law keeps to the rules of calls that put no question
  pub rules : (code : Coding T) (kind : Kind) (capacity : ℕ) → Law R code kind capacity → Rules course (talking course speech code) code kind capacity
  rules code kind capacity L =
      talk_rules course speech code kind capacity
      (record {
        later = L.later;
        opens = λ queue. (L.opens queue).0;
        first = λ queue. record { legal = refl; stands = sym (L.opens queue).1 };
        begins = λ t p start flight r made free h named.
            let so = L.begins t p start flight r made free h named in (
              so.agrees,
              1,
              talks_once code (EndsAsObject course speech code (R.read t.world.words) t.world.turns p start) (Answers R t.world.turns t.world.words start)
                  [] flight t.world.words
                  (λ answer last said. (said.said, said.holds, said.object)) so.runs,
            );
      })
