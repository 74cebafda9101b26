-- What a push adds to the numbers that were pushed, as far as its producer knows them.
use Rattle.std.specs.Prelude.{◌≡◌, ℕ, [], ◌∷◌, ◌++◌}
use Rattle.lock_free.specs.HistoryView.View.{View}
use Rattle.lock_free.specs.Queues.Item.TheVariants.{Index}
use Rattle.lock_free.specs.Queues.Reading.{published}

-- the list has this number at its end, and is else as it was
abbrev pub Appends : ℕ → View ℕ → View ℕ → Type 0
Appends number old new = published new.seen ≡ published old.seen ++ Index number ∷ []
