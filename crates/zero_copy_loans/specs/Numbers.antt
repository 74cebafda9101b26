-- What the two ends of a channel have sent and received, by the numbers of the values. A *view* is all that a
-- pass knows of a queue; a word is number * room + place.
use Rattle.std.specs.Prelude.{◌≡◌, ℕ, ◌+◌, ◌/◌, ◌%◌, ◌<◌, ◌≤◌, List, [], ◌∷◌, ◌++◌, length, map, take}
use Rattle.std.specs.List.{All, range_with_len}
use Rattle.history.specs.declared.view.View.{View}
use Rattle.model.specs.declared.event.Item.TheVariants.{Index}
use Rattle.model.specs.Families.Queues.Reading.{published, handed_out}
use Rattle.lock_free_queues.specs.Queues.Merges.{Merges, HasPushedUpTo, HasTaken, by_pop, by_push, taken}
use Rattle.lock_free_queues.specs.Queues.Overflowing.{MissesNothing}
use Rattle.threaded.specs.Shares.{IsAll}

-- How a channel's words are made (`room`, and how many places there are), and how many words
-- its queue has room for.
pub record Shape : Type 0 where
  pub room : ℕ
  pub places : ℕ
  pub capacity : ℕ

-- the numbers in these words
abbrev pub numbers_in : ℕ → List ℕ → List ℕ
numbers_in room words = map (λ word. word / room) words

-- the word names a place of this shape
abbrev pub HasPlace : Shape → ℕ → Type 0
HasPlace s word = word % s.room < s.places

-- each of these words names a place of this shape
abbrev pub HavePlaces : Shape → List ℕ → Type 0
HavePlaces s words = All (HasPlace s) words

-- A beginning of what was sent was received or came back: each value once, and both lists in the order of
-- sending. What was sent later still waits.
pub record IsPassedOn (sent received back : List ℕ) : Type 0 where
  -- no more was received and came back than was sent
  pub few : length received + length back ≤ length sent
  -- the two lists merge to the first values that were sent
  pub merged : Merges received back (take (length received + length back) sent)

-- the two lists are equally long, and `tells` holds of each number and the element at its place
abbrev pub AreTold : {A : Type 0} → (ℕ → A → Type 0) → List ℕ → List A → Type 0
AreTold tells [] [] = Unit {0}
AreTold tells (number ∷ numbers) (one ∷ told) = tells number one × AreTold tells numbers told
AreTold tells _ _ = ⊥

-- Values with the numbers 0 up to below `sent` were sent, and `made` was made by `f` of the numbers that were
-- received. If nothing came back, these are 0, 1, 2 and so on.
pub record ArePassedOn {A : Type 0} (f : ℕ → A) (sent : ℕ) (made : List A) (back : List ℕ) : Type 0 where
  pub received : List ℕ
  pub of_each : made ≡ map f received
  pub passed_on : IsPassedOn (range_with_len 0 sent) received back
  pub in_turn : back ≡ [] → made ≡ map f (range_with_len 0 (length made))

-- A pass with the whole share knows that exactly `words` were sent, that pushes handed `back` back, and that
-- `received` were popped. The latter two merge to a beginning of `words`.
pub record HavePassed (words back received : List ℕ) (v : View ℕ) : Type 0 where
  pub whole : IsAll v.share
  pub all : MissesNothing v
  -- all words that were sent
  pub list : published v.seen ≡ map Index words
  -- those that pushes took out, to hand them back
  pub pushes : taken by_push v.seen ≡ map Index back
  -- those that pops took out
  pub pops : taken by_pop v.seen ≡ map Index received
  -- nothing else was taken out
  pub out : length (handed_out v.seen) ≡ length received + length back
  pub passed_on : IsPassedOn words received back

module _ (s : Shape) where
  -- From the view `v` to the view `w` the pass has sent values with the numbers `sent`, one after the other,
  -- and the pushes handed those with the numbers `back` back.
  pub record HasSentNumbers (sent back : List ℕ) (v w : View ℕ) : Type 0 where
    -- the words that were pushed, and those that were handed back
    pub words : List ℕ
    pub words_back : List ℕ
    -- their numbers, and that each pushed word names a place
    pub numbers : numbers_in s.room words ≡ sent
    pub returned : numbers_in s.room words_back ≡ back
    pub places : HavePlaces s words
    -- the queue's history from `v` to `w` has these pushes
    pub pushed : HasPushedUpTo words words_back v w

  -- From the view `v` to the view `w` the pass has popped words with the numbers `received`. (The numbers are
  -- stated only if each word names a place, as each word that was sent does.)
  pub record HasReceivedNumbers (received : List ℕ) (v w : View ℕ) : Type 0 where
    pub words : List ℕ
    pub numbers : HavePlaces s words → numbers_in s.room words ≡ received
    pub taken : HasTaken words v w

  -- whatever the pass had sent until it knew `old`, it has sent `numbers` after that when it knows `new`, and
  -- `others` have come back
  abbrev pub SendsOn : List ℕ → List ℕ → View ℕ → View ℕ → Type 0
  SendsOn numbers others old new =
      (v : View ℕ) (sent back : List ℕ) → HasSentNumbers sent back v old → HasSentNumbers (sent ++ numbers) (back ++ others) v new

  -- whatever the pass had received until it knew `old`, it has received `numbers` after
  -- that when it knows `new`
  abbrev pub ReceivesOn : List ℕ → View ℕ → View ℕ → Type 0
  ReceivesOn numbers old new =
      (v : View ℕ) (received : List ℕ) → HasReceivedNumbers received v old → HasReceivedNumbers (received ++ numbers) v new

  -- A pass with the whole share knows that values of exactly the numbers `sent` were sent, that those of
  -- `back` came back, and that those of `received` were received.
  pub record HasAll (sent back received : List ℕ) (v : View ℕ) : Type 0 where
    -- the words, of which these are the numbers
    pub words : List ℕ
    pub words_back : List ℕ
    pub words_received : List ℕ
    pub numbers : numbers_in s.room words ≡ sent
    pub returned : numbers_in s.room words_back ≡ back
    pub received_these : numbers_in s.room words_received ≡ received
    -- each word that was sent names a place, and of the words `HavePassed` holds
    pub places : HavePlaces s words
    pub passed : HavePassed words words_back words_received v
