-- What the publisher makes of a record's number (its mark), and what a subscriber has read of the marks.
use Rattle.std.specs.Prelude.{◌≡◌, ◌≢◌, ℕ, ◌+◌, ◌*◌, ◌<◌, ◌≤◌, List, ◌++◌, map, replicate}
use Rattle.std.specs.List.{All}
use Rattle.zero_copy_bus.specs.declared.publisher.Publisher.{Publisher}
use Rattle.zero_copy_bus.specs.declared.subscriber.Subscriber.{Subscriber}
use Rattle.zero_copy_bus.specs.Ends.{HasHad}
use Rattle.zero_copy_bus.specs.Relays.{HasHeardAt}
use Rattle.zero_copy_bus.specs.Sequences.{Rises}
use Rattle.zero_copy_slots.specs.declared.Keeps.{Ghosts}

-- the mark of a number
abbrev pub mark : ℕ → ℕ
mark n = 3 * n + 1

-- the words are 64 KiB of the number's mark, and the number is below 100
abbrev pub IsBlockOf : ℕ → List ℕ → Type 0
IsBlockOf number words = (words ≡ replicate 8192 (mark number)) × (number < 100)

-- Between `s` and `t` the subscriber received records of the numbers `numbers`, each below 100, and appended
-- their marks to what it had read.
pub record HasRead {X K : Type 0} {rule : Ghosts K X} (old new : List ℕ) (s t : Subscriber X K rule) : Type 0 where
  pub came : List ℕ
  pub numbers : List ℕ
  pub had : HasHad came numbers s t
  pub are : new ≡ old ++ map mark numbers
  pub few : All (λ n. n < 100) numbers

-- The marks are those of numbers that rise strictly, the first at least `first`, and each below 100.
pub record AreNewsFrom (first : ℕ) (marks : List ℕ) : Type 0 where
  pub numbers : List ℕ
  pub next : ℕ
  pub are : marks ≡ map mark numbers
  pub rise : Rises first numbers next
  pub few : All (λ n. n < 100) numbers

-- The marks are those of the numbers received by the lane at a place. All numbers from 0 up to below the
-- next one went out by the lane, and of these a beginning was received or came back, each once, and both
-- in order (`HasHeardAt`).
pub record AreNewsBy {X K : Type 0} {rule : Ghosts K X} (p : Publisher X K rule) (place : ℕ) (marks : List ℕ) : Type 0 where
  pub news : AreNewsFrom 0 marks
  pub heard : HasHeardAt p place 0 news.numbers

-- each of the two lists has the marks of the numbers that one of two different lanes received
abbrev pub AreNewsByTwo : {X K : Type 0} {rule : Ghosts K X} → Publisher X K rule → List ℕ → List ℕ → Type 0
AreNewsByTwo p one other = (here : ℕ) × (there : ℕ) × (there ≢ here) × AreNewsBy p here one × AreNewsBy p there other
