-- What clauses see of `Values`, a loop over the values that a receiver waits for.
use Rattle.std.specs.Prelude.{◌≡◌, ℕ, Bool, true, Option, MatchOption, List, [], ◌∷◌, ◌++◌}
use Rattle.std.specs.Sync.Forever.{forever_left}
use Rattle.lock_free_queues.specs.Queues.Rings.{QueueId}
use Rattle.steps.specs.declared.words.Words.{Ghosts}
use Rattle.uses_streams.specs.declared.element.Element.{Element}
use Rattle.uses_streams.specs.declared.ends.values.Values.{Values}
use Rattle.uses_streams.specs.Ends.{receiver_queue, received_so_far, is_at_end}

module _ {T R : Type 0} {words : Ghosts (Element T)} where
  -- the queue of the stream
  abbrev pub values_queue : Values T R words → QueueId
  values_queue s = receiver_queue s.receiver

  -- the values that the loop has given until now
  abbrev pub given_so_far : Values T R words → List T
  given_so_far s = received_so_far s.receiver

  -- whether it has given all values of the stream
  abbrev pub has_given_all : Values T R words → Bool
  has_given_all s = is_at_end s.receiver

  -- how many turns of the loop are left
  abbrev pub turns_left : Values T R words → ℕ
  turns_left s = forever_left s.turns

  -- a turn of the loop gave the next value, or none at the stream's end, and the queue is the same
  abbrev pub GivesNext : Values T R words → Option T → Values T R words → Type 0
  GivesNext s result t =
      (values_queue t ≡ values_queue s) × MatchOption result ((given_so_far t ≡ given_so_far s) × (has_given_all t ≡ true))
      (λ x. given_so_far t ≡ given_so_far s ++ x ∷ [])
