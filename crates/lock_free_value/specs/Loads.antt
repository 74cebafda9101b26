-- What a seat knows while it loads a value into a room, a buffer of the call whose words are `words_in`.
use Rattle.std.specs.Prelude.{◌≡◌, ℕ, ◌+◌, ◌*◌, List}
use Rattle.steps.specs.declared.ask.After.{After}
use Rattle.steps.specs.declared.atomic.Load.{Load}
use Rattle.model.specs.declared.turn.Kind.TheVariants as kinds
use Rattle.model.specs.Coding.{Coding}
use Rattle.threaded.specs.declared.driver.seated.Seated.{Seated}
use Rattle.threaded.specs.Driver.{Next}
use Rattle.threaded.specs.Seats.{seen, table_of}
use Rattle.history.specs.declared.view.View.{View}
use Rattle.history.specs.Stages.{At, Ends}
use Rattle.history_value.specs.Value.{loads_value}

-- the seat is at the table of a value with `size` words: version, role, two cells, and one word more
abbrev pub IsBoard : {T K Q : Type 0} → ℕ → Seated (View T) K Q → Type 0
IsBoard size s = ((table_of s).words ≡ 2 + size * 2 + 1) × ((seen s).capacity ≡ 1)

module _ {T R : Type 0} (code : Coding T) (words_in : R → List ℕ) where
  -- the load is about to begin or under way
  abbrev pub LoadAt : View T → View T → Load T R → R → Type 0
  LoadAt = At code kinds.Atomic (loads_value code words_in)

  -- the load has ended
  abbrev pub LoadEnds : View T → Unit {0} → R → View T → Type 0
  LoadEnds = Ends code kinds.Atomic (loads_value code words_in)

  -- the load has gone on, or ended
  abbrev pub LoadNext : View T → After (Load T R) (Unit {0}) → R → View T → Type 0
  LoadNext = Next (λ (v : View T). v.capacity) LoadAt LoadEnds
