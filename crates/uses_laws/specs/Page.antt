-- Two pushes in the words of the index queue's page (`pages/specs/IndexQueue.antt`): the history of all
-- threads' calls as a run of the page's machine.
use Rattle.std.specs.Prelude.{◌≡◌, ℕ, true, List, [], ◌∷◌, ◌++◌, fold}
use Rattle.pages.specs.IndexQueue.{Answer, Call, Push, Pushed, bounded_list, index_queue}
use Rattle.pages.specs.Machine.{Event, Invoked, IsLinearizable, Responded, Turn, opening, turned}
use Rattle.pages_threads.specs.Silent.{IsSilent}

-- the history of the page's machine over these turns
abbrev pub history_of : ℕ → List (Turn Call) → List (Event Call Answer)
history_of capacity turns = (fold (turned (index_queue capacity)) (opening (index_queue capacity)) turns).history

-- This history ends with the response to a push of this value, which answers true. From the invocation of
-- that push on the producer, party 0, makes no other call.
pub record EndsWithPush (value : ℕ) (history : List (Event Call Answer)) : Type 0 where
  pub before : List (Event Call Answer)
  pub during : List (Event Call Answer)
  pub is : history ≡ before ++ Invoked 0 (Push value) ∷ (during ++ Responded 0 (Pushed true) ∷ [])
  pub alone : IsSilent 0 during

-- What was seen of all threads' pushes and pops is a run of the page's machine. It had come to the end of a push, and
-- has gone on from there to the end of another one. It is linearizable as the page says.
pub record HasPushedBoth (capacity first second : ℕ) (seen : List (Event Call Answer)) : Type 0 where
  pub turns : List (Turn Call)
  pub more : List (Turn Call)
  -- they lead to the end of the first push
  pub once : EndsWithPush first (history_of capacity turns)
  -- more turns lead to the end of the second
  pub twice : EndsWithPush second (history_of capacity (turns ++ more))
  -- what was seen is the history of all of them
  pub all : seen ≡ history_of capacity (turns ++ more)
  pub linearizable : IsLinearizable (bounded_list capacity) seen
