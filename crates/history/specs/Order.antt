-- The calls that passes made, in one history of invocations and responses.
use Rattle.std.specs.Prelude.{◌≡◌, ◌≢◌, ◌≤◌, ◌<◌, ℕ, Some, List, [], ◌∷◌, length}
use Rattle.std.specs.List.{Contains}
use Rattle.model.specs.declared.event.Answer.{Answer}
use Rattle.model.specs.declared.event.Event.{Event}
use Rattle.model.specs.declared.event.Event.TheVariants.{Finished}
use Rattle.model.specs.declared.event.Start.{Start}
use Rattle.model.specs.Linearizable.{Call, calls_of}
use Rattle.history.specs.declared.view.View.{View}

module _ {T : Type 0} where
  -- The call that led a pass from the view `old` to the view `new` stands in the history with this answer: it
  -- begins behind all that the pass had seen, and its end is among what the pass has seen now.
  pub record StandsIn (p : ℕ) (start : Start T) (answer : Answer T) (old new : View T)
      (history : List (Event T)) : Type 0 where
    -- the call in the history: this party's, begun as `start`
    pub call : Call T
    pub there : Contains (calls_of history) call
    pub party : call.party ≡ p
    pub named : call.start ≡ start
    -- where its response stands
    pub ends : ℕ
    pub answered : call.response ≡ Some (record { place = ends; answer = answer })
    -- it began after all that had been seen
    pub after : length old.seen ≤ call.place
    -- its end is in what is seen now
    pub before : ends < length new.seen

  -- no event of the list ends a call of this party
  abbrev pub EndsNone : ℕ → List (Event T) → Type 0
  EndsNone p [] = Unit {0}
  EndsNone p (Finished q start answer ∷ es) = (q ≢ p) × EndsNone p es
  EndsNone p (e ∷ es) = EndsNone p es
