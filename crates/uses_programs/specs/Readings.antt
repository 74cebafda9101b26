-- What a thread has done with an atomic value between two views of its pass: which values it stored
-- (`HasWritten`), and which it loaded (`HasRead`).
use Rattle.std.specs.Prelude.{◌≡◌, ◌+◌, ℕ, List, [], ◌∷◌, ◌++◌, length, sum_by, All}
use Rattle.std.specs.List.{Contains}
use Rattle.lock_free.specs.Event.{Event}
use Rattle.lock_free.specs.HistoryView.View.{View}
use Rattle.lock_free.specs.History.{IsBeginning}
use Rattle.lock_free.specs.Value.Stored.{stores, stored}

module _ {T : Type 0} where
  -- the last element of the list, or `first` if the list is empty
  abbrev pub last_of : T → List T → T
  last_of first [] = first
  last_of first (x ∷ xs) = last_of x xs

  -- how many stores are among these events
  abbrev pub stores_in : List (Event T) → ℕ
  stores_in made = sum_by (λ e. length (stores e)) made

  -- From `v` to `w` the thread has stored the values `xs`, one after the other, and they are
  -- the last of all stores.
  pub record HasWritten (xs : List T) (v w : View T) : Type 0 where
    -- what others stored
    pub others : List T
    pub list : stored w.seen ≡ (stored v.seen ++ others) ++ xs
    pub made : stores_in w.made ≡ stores_in v.made + length xs
    pub share : w.share ≡ v.share

  -- From `v` to `w` the thread has loaded the values `xs`, each of which was stored by
  -- somebody, and has stored none.
  pub record HasRead (xs : List T) (v w : View T) : Type 0 where
    pub since : IsBeginning v.seen w.seen
    pub all : All (Contains (stored w.seen)) xs
    -- it has stored nothing
    pub made : stores_in w.made ≡ stores_in v.made
    pub share : w.share ≡ v.share
