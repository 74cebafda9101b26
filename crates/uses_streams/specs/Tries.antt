-- What a call has done that tries a push or pop up to a limit of tries, or pushes or pops many values.
use Rattle.std.specs.Prelude.{◌≡◌, ◌<◌, ℕ, zero, suc, List, [], ◌∷◌, take, drop}
use Rattle.model.specs.declared.event.Item.{Item}
use Rattle.history.specs.declared.view.View.{View}
use Rattle.lock_free_queues.specs.Queues.Contracts.{PushDone, PushRefused, PopDone, PopEmpty, PopOldest, PopFoundNone}

module _ {A : Type 0} where
  -- n steps, one after the other, lead from the old view to the new one
  abbrev pub Times : ℕ → (A → A → Type 0) → (old new : A) → Type 0
  Times zero Step old new = new ≡ old
  Times (suc n) Step old new = (between : A) × Times n Step old between × Step between new

module _ {A B : Type 0} where
  -- one step for each element of the list, in order, leads from the old view to the new one
  abbrev pub InTurn : (B → A → A → Type 0) → List B → (old new : A) → Type 0
  InTurn Step [] old new = new ≡ old
  InTurn Step (x ∷ xs) old new = (between : A) × Step x old between × InTurn Step xs between new

module _ {T : Type 0} where
  -- that many pushes of the item were made, one after the other, and each was refused
  abbrev pub WereRefused : (tries capacity : ℕ) → Item T → (old new : View T) → Type 0
  WereRefused tries capacity item old new = Times tries (PushRefused capacity item) old new

  -- that many pops were made, one after the other, and each found the queue empty
  abbrev pub WereEmpty : ℕ → (old new : View T) → Type 0
  WereEmpty tries old new = Times tries PopEmpty old new

  -- Of at most `tries` pushes of the item the last was taken, and all before it were refused.
  pub record WasPushedWithin (tries capacity : ℕ) (item : Item T) (old new : View T) : Type 0 where
    -- how many were refused, and the view after them
    pub refused : ℕ
    pub few : refused < tries
    pub last : View T
    pub before : WereRefused refused capacity item old last
    pub pushed : PushDone item last new

  -- Of at most `tries` pops the last took the item out, and all before it found the queue empty.
  pub record WasPoppedWithin (tries : ℕ) (item : Item T) (old new : View T) : Type 0 where
    -- how many found the queue empty, and the view after them
    pub empty : ℕ
    pub few : empty < tries
    pub last : View T
    pub before : WereEmpty empty old last
    pub popped : PopDone item last new

  -- Of at most `tries` pops of an overflowing queue the last took the oldest item out, and all
  -- before it found none.
  pub record WasTakenWithin (tries : ℕ) (item : Item T) (old new : View T) : Type 0 where
    -- how many found none, and the view after them
    pub empty : ℕ
    pub few : empty < tries
    pub last : View T
    pub before : Times empty PopFoundNone old last
    pub taken : PopOldest item last new

module _ {T V : Type 0} where
  -- a pop found the queue empty, if the slice has room left
  abbrev pub WasEmptied : List V → (old new : View T) → Type 0
  WasEmptied [] old new = new ≡ old
  WasEmptied (value ∷ values) old new = PopEmpty old new

module _ {T V : Type 0} (named : V → Item T) where
  -- the values were pushed, one after the other
  abbrev pub WerePushed : List V → (old new : View T) → Type 0
  WerePushed values old new = InTurn (λ value was now. PushDone (named value) was now) values old new

  -- the push of the first of these values was refused; nothing happened if there is none
  abbrev pub WasStopped : ℕ → List V → (old new : View T) → Type 0
  WasStopped capacity [] old new = new ≡ old
  WasStopped capacity (value ∷ values) old new = PushRefused capacity (named value) old new

  -- the first `count` of the values were pushed, and then the next one was refused, if there is one
  pub record WerePushedUpTo (capacity count : ℕ) (values : List V) (old new : View T) : Type 0 where
    pub last : View T
    pub pushed : WerePushed (take count values) old last
    pub stopped : WasStopped capacity (drop count values) last new

  -- the values were popped, one after the other
  abbrev pub WerePopped : List V → (old new : View T) → Type 0
  WerePopped values old new = InTurn (λ value was now. PopDone (named value) was now) values old new

  -- The values were popped, and then a pop found the queue empty, if the slice has room left.
  pub record WerePoppedUpTo (values room : List V) (old new : View T) : Type 0 where
    pub last : View T
    pub popped : WerePopped values old last
    pub stopped : WasEmptied room last new
