-- How much was published and taken out, as numbers.
use Rattle.std.specs.Prelude.{◌≡◌, ℕ, ◌+◌, sum_by}
use Rattle.model.specs.declared.event.Event.{Event}
use Rattle.model.specs.declared.event.Event.TheVariants.{Published, HandedOut}
use Rattle.history.specs.declared.view.View.{View}

module _ {T : Type 0} where
  -- 1 for an event that publishes an item
  abbrev pub puts : Event T → ℕ
  puts (Published p item) = 1
  puts e = 0

  -- 1 for an event that hands an item out
  abbrev pub gets : Event T → ℕ
  gets (HandedOut p item) = 1
  gets e = 0

  -- from `old` to `new` the pass itself has published `put` items more, and taken out `got` more
  pub record HasDone (put got : ℕ) (old new : View T) : Type 0 where
    pub puts_more : sum_by puts new.made ≡ sum_by puts old.made + put
    pub gets_more : sum_by gets new.made ≡ sum_by gets old.made + got
