-- What a seat knows before and after a whole call on a set, whichever call it is.
use Rattle.std.specs.Prelude.{◌≡◌, ◌<◌, ◌≤◌, ℕ, ◌+◌, Some, None, IfSome, List, [], sum_by}
use Rattle.model.specs.declared.event.Answer.{Answer}
use Rattle.model.specs.declared.event.Event.{Event}
use Rattle.model.specs.declared.event.Start.{Start}
use Rattle.model.specs.declared.turn.Kind.{Kind}
use Rattle.model.specs.Coding.{one_word}
use Rattle.threaded.specs.Shares.{IsAll}
use Rattle.history.specs.declared.view.View.{View}
use Rattle.history.specs.History.{Called, IsHistory, Continues}

-- the seat has no call under way, knows one history of a structure of this capacity, and has a share
pub record IsIdle (capacity : ℕ) (v : View ℕ) : Type 0 where
  pub known : v.capacity ≡ capacity
  pub idle : v.going ≡ None
  pub alone : v.other ≡ []
  pub some : 0 < v.share.part

-- A call was made and is over. The view has kept its capacity, share and party.
pub record HasDone (kind : Kind) (old new : View ℕ) : Type 0 where
  pub capacity : new.capacity ≡ old.capacity
  pub share : new.share ≡ old.share
  pub party : IfSome old.party (λ p. new.party ≡ Some p)
  -- no call is under way, and the pass knows one history, which is one of a run that goes on from the
  -- run it knew
  pub idle : new.going ≡ None
  pub alone : new.other ≡ []
  pub history : IsHistory one_word kind old.capacity new.seen
  pub ran : Continues one_word kind old.capacity old new
  -- at most one operation was no step of a call
  pub aside : new.aside ≤ old.aside + 1
  -- with the whole share the pass has made all that it has seen
  pub all : IsAll old.share → (f : Event ℕ → ℕ) → sum_by f new.seen ≡ sum_by f new.made

-- one call of the history, by a party of the pass; between its begin and its end it wrote just `wrote`,
-- a list that depends on the party
pub record HasMade (start : Start ℕ) (answer : Answer ℕ) (wrote : ℕ → List (Event ℕ)) (old new : View ℕ) : Type 0 where
  pub by : ℕ
  pub mine : new.party ≡ Some by
  pub called : Called by start answer (wrote by) old new
