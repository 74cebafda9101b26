-- What a pass has pushed and popped since it knew less, value by value, and what two passes come to once they are
-- joined. Events name a value by Index, or by Value.
use Rattle.std.specs.Prelude.{◌≡◌, ℕ, List, ◌++◌, length, map}
use Rattle.std.specs.List.{flat_map}
use Rattle.model.specs.declared.event.Event.{Event}
use Rattle.model.specs.declared.event.Item.{Item}
use Rattle.model.specs.Families.Queues.Reading.{publishes, hands_out, published, handed_out}
use Rattle.threaded.specs.Shares.{IsAll}
use Rattle.history.specs.declared.view.View.{View}
use Rattle.history.specs.Passes.{MissesNothing}
use Rattle.lock_free_queues.specs.Queues.Sums.{HasDone}

module _ {T V : Type 0} where
  -- The list that the events tell of, by `tells`, ends with these values, behind what it was in `old`
  -- and what others added since. The pass has published `put` items and taken out `got` itself, and
  -- keeps its share.
  pub record HasAppended (tells : Event T → List (Item T)) (named : V → Item T) (values : List V) (put got : ℕ)
      (old new : View T) : Type 0 where
    -- what others added
    pub others : List (Item T)
    pub list : flat_map tells new.seen ≡ (flat_map tells old.seen ++ others) ++ map named values
    -- the pass itself has published `put` items and taken out `got`
    pub done : HasDone put got old new
    pub share : new.share ≡ old.share

  -- the pass has pushed these values, one after the other, and popped none
  abbrev pub HasSent : (V → Item T) → List V → (old new : View T) → Type 0
  HasSent named values old new = HasAppended publishes named values (length values) 0 old new

  -- the pass has popped these values, one after the other, and pushed none
  abbrev pub HasReceived : (V → Item T) → List V → (old new : View T) → Type 0
  HasReceived named values old new = HasAppended hands_out named values 0 (length values) old new

  -- different values have different names
  abbrev pub TellsApart : (V → Item T) → Type 0
  TellsApart named = (x y : V) → named x ≡ named y → x ≡ y

  -- a pass with the whole share knows that just the values `sent` were published, and just `received`
  -- taken out, each in this order
  pub record HasPassed (named : V → Item T) (sent received : List V) (v : View T) : Type 0 where
    pub whole : IsAll v.share
    -- the pass misses nothing
    pub all : MissesNothing v
    pub published_these : published v.seen ≡ map named sent
    pub taken_these : handed_out v.seen ≡ map named received
