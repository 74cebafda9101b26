-- How many steps and turns back a call takes.
use Rattle.std.specs.Prelude.{◌≡◌, ◌≤◌, ℕ, true, false, Option, Some, None}
use Rattle.model.specs.declared.event.Start.{Start}
use Rattle.model.specs.declared.party.Progress.{Progress}
use Rattle.model.specs.Promise.{Promise}
use Rattle.model.specs.Reading.{Span, Never, Open, Ended}

module _ {T : Type 0} where
  -- a call has taken at most its steps, and begun a loop's turn again at most as often as other parties changed words
  pub record IsBounded (promise : Promise T) (capacity size : ℕ) (start : Start T) (g : Progress)
      : Type 0 where
    pub steps : g.steps ≤ promise.most_steps capacity size start g.backs
    pub backs : g.backs ≤ g.others

  -- the party's latest call in the events, and how far it has come
  abbrev pub Progresses : Promise T → (capacity size : ℕ) → Span T → Option Progress → Type 0
  Progresses promise capacity size Never None = Unit {0}
  Progresses promise capacity size Never (Some g) = ⊥
  Progresses promise capacity size (Open start wrote) None = ⊥
  Progresses promise capacity size (Open start wrote) (Some g) =
      IsBounded promise capacity size start g × (g.finished ≡ false)
  Progresses promise capacity size (Ended start answer wrote) None = ⊥
  Progresses promise capacity size (Ended start answer wrote) (Some g) =
      IsBounded promise capacity size start g × (g.finished ≡ true)
