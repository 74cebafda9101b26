-- A call that an answer may end, as a container's `find`, takes no step after that answer, so its party rests
-- at the question (`IsResting`). With the next step of the pass the machine is handed the answer before
-- anything else: the call has ended (`Settles`).
use Rattle.std.specs.Prelude.{Bool, ◌≡◌, ◌⊎◌, ℕ, ◌<◌, ◌≤◌, ◌+◌, true, false, None, Some, List, [], ◌∷◌, ◌++◌, sum_by}
use Rattle.steps.specs.declared.ask.After.{After}
use Rattle.steps.specs.declared.ask.After.TheVariants.{Done}
use Rattle.model.specs.declared.event.Answer.{Answer}
use Rattle.model.specs.declared.event.Event.{Event}
use Rattle.model.specs.declared.event.Event.TheVariants.{Finished}
use Rattle.model.specs.declared.event.Start.{Start}
use Rattle.model.specs.declared.families.Flight.{Flight}
use Rattle.model.specs.declared.families.Registry.{Registry}
use Rattle.model.specs.declared.turn.Kind.{Kind}
use Rattle.model.specs.Coding.{Coding}
use Rattle.model.specs.Families.{want_of, goes_of, is_question}
use Rattle.model.specs.Turns.{number_of}
use Rattle.threaded.specs.Shares.{IsAll}
use Rattle.history.specs.declared.view.View.{View}
use Rattle.history.specs.Known.{events_by}
use Rattle.history.specs.History.{IsHistory, Continues, IsOfParties}
use Rattle.history.specs.Stages.{Calling, IsUnderWay, Ends}

module _ {T : Type 0} (code : Coding T) where
  -- the pass's call stands at a question, and the answer no ends it there
  pub record IsResting (v : View T) : Type 0 where
    -- the party and its call under way
    pub party : ℕ
    pub mine : v.party ≡ Some party
    pub start : Start T
    pub flight : Flight T
    pub going : v.going ≡ Some (start, flight)
    -- the call under way is at a question
    pub asks : is_question (want_of code flight) ≡ true
    pub answer : Answer T
    -- the answer no ends it with this answer of the call
    pub ends : (kept : Registry T) → goes_of code party flight (number_of false) kept ≡ Done answer
    -- the pass knows one history alone
    pub alone : v.other ≡ []
    -- the pass has a share
    pub some : 0 < v.share.part

  -- From the view `old` to the view `new` the call of the pass that rested has ended, and the
  -- pass did nothing else.
  pub record Settles (kind : Kind) (old new : View T) : Type 0 where
    pub resting : IsResting old
    -- the call's end changes neither capacity, party, share nor state, and no call is under way
    pub capacity : new.capacity ≡ old.capacity
    pub party : new.party ≡ old.party
    pub share : new.share ≡ old.share
    pub state : new.state ≡ old.state
    pub idle : new.going ≡ None
    -- it took at most one operation, which is aside: no step of a call
    pub asked : new.asked ≤ old.asked + 1
    pub aside : new.asked + old.aside ≡ old.asked + new.aside
    -- the pass knows one history alone
    pub fresh : new.other ≡ []
    -- what others did before; then the response, which is the last event that was seen
    pub others : List (Event T)
    pub seen : new.seen
        ≡ (old.seen ++ others) ++ Finished resting.party resting.start resting.answer ∷ []
    -- with the whole share nobody else did anything; the party itself did nothing before the response
    pub alone : IsAll old.share → others ≡ []
    pub others_own : events_by resting.party others ≡ []
    -- the pass made the response
    pub made : new.made ≡ old.made ++ Finished resting.party resting.start resting.answer ∷ []
    -- what was seen is a history, and the run that was known goes on to the one that is known
    pub history : IsHistory code kind old.capacity new.seen
    pub ran : Continues code kind old.capacity old new
    -- who has the whole has made all of it
    pub all : IsAll old.share → (f : Event T → ℕ) → sum_by f new.seen ≡ sum_by f new.made
    -- the pass made just the events of its parties among those that it has seen
    pub parties : IsOfParties new

  -- the view `new` with which a call of the pass began: the view `old` without a call under way, or that
  -- after its resting call had ended
  abbrev pub SettledFrom : Kind → (old new : View T) → Type 0
  SettledFrom kind old new = ((new ≡ old) × (old.going ≡ None)) ⊎ Settles kind old new

-- A pass may begin a call while its last one still rests at a question. `at` says how a call stands at each
-- stage, `ends` how it ends.
module _ {T : Type 0} (code : Coding T) (kind : Kind) where
  -- the call has not begun, since the last one of the pass still rests; `begins` holds of its first stage
  pub record Waits {C M : Type 0} (begins : View T → C → M → Type 0) (base v : View T) (c : C) (m : M)
      : Type 0 where
    pub is : v ≡ base
    pub resting : IsResting code base
    pub first : begins base c m

  -- `at` holds of the call's stage, counted from the view in which the call before it had ended
  pub record AtSettled {C M : Type 0} (at : View T → View T → C → M → Type 0) (base v : View T) (c : C)
      (m : M) : Type 0 where
    pub from : View T
    pub settled : SettledFrom code kind base from
    pub stage : at from v c m

  -- `ends` holds of the call's end, counted from the view in which the call before it had ended
  pub record EndsSettled {E M : Type 0} (ends : View T → E → M → View T → Type 0) (base : View T) (e : E)
      (m : M) (w : View T) : Type 0 where
    pub from : View T
    pub settled : SettledFrom code kind base from
    pub over : ends from e m w

  -- the call has not begun, since the last one of the pass still rests, or `at` holds of its stage; its begin
  -- may depend on all that the pass knows
  abbrev pub AtWaiting : {C M : Type 0} → (View T → C → M → Type 0) → (View T → View T → C → M → Type 0)
      → View T → View T → C → M → Type 0
  AtWaiting begins at base v c m = AtSettled at base v c m ⊎ Waits begins base v c m

-- A call on a pass whose last call may rest, where its begin depends on the capacity alone.
module _ {T C M E : Type 0} (code : Coding T) (kind : Kind) (begins : ℕ → C → M → Type 0)
    (at : View T → View T → C → M → Type 0) (ends : View T → E → M → View T → Type 0) where
  -- the call has not begun, since the last one of the pass still rests, or `at` holds of its stage
  abbrev pub AtRested : View T → View T → C → M → Type 0
  AtRested = AtWaiting code kind (λ base. begins base.capacity) at

  -- `ends` holds of the call's end, once the last call of the pass had ended
  abbrev pub EndsRested : View T → E → M → View T → Type 0
  EndsRested = EndsSettled code kind ends

-- A call that puts questions: an answer ends it, or it goes on from the answer. `after` says which, and
-- `kept` what the answer leaves in its room.
module _ {T C M E : Type 0} (code : Coding T) (kind : Kind) (after : C → ℕ → After C E) (kept : C → M → ℕ → M)
    (call : Calling T C M E) where
  -- the call still stands at a question in the machine, while an answer to it has ended the call with `e`
  pub record RestsAt (base v : View T) (e : E) (m : M) : Type 0 where
    -- the stage of the question, at which the call is under way in the machine
    pub asking : C
    pub before : IsUnderWay code kind call base v asking m
    pub asks : is_question (want_of code (call.flight asking m)) ≡ true
    -- the answer that ended the call
    pub said : Bool
    pub goes : after asking (number_of said) ≡ Done e
    -- the answer left its room as it was
    pub keeps : kept asking m (number_of said) ≡ m

  -- the call has ended with an answer, or with a step
  abbrev pub EndsAsked : View T → E → M → View T → Type 0
  EndsAsked base e m w = Ends code kind call base e m w ⊎ RestsAt base w e m
