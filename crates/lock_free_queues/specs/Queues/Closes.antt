-- What a pass knows of the list that its queue is in the end. Events name a value by Index, or by Value.
use Rattle.std.specs.Prelude.{◌≡◌, ◌⊎◌, ℕ, ◌+◌, ◌-◌, ◌<◌, ◌≤◌, Some, List, ◌++◌, length, map, slice_get}
use Rattle.steps.specs.Objects.Lists.{Bounded}
use Rattle.steps.specs.declared.words.Words.{Ghosts}
use Rattle.model.specs.declared.event.Item.{Item}
use Rattle.model.specs.declared.event.Item.TheVariants.{Index}
use Rattle.model.specs.Families.Queues.Reading.{published, handed_out, waiting}
use Rattle.threaded.specs.Shares.{IsAll}
use Rattle.history.specs.declared.view.View.{View}
use Rattle.history.specs.History.{IsBeginning}
use Rattle.lock_free_queues.specs.declared.spsc.ring.rule.Kind as kinds
use Rattle.lock_free_queues.specs.declared.spsc.ring.Pass.{Pass}
use Rattle.lock_free_queues.specs.Queues.Rings.{queue_of, view}

-- The list that a `close` returns is what waited at one moment of the call, when the pass had seen what
-- `at` has seen. What was taken out until then lies before the list. What `at` has seen is a history,
-- by `history` of a pass.
pub record IsWhatWaits {E T V : Type 0} {kind : kinds.Ghosts E} {words : Ghosts T} (named : V → Item T)
    (pass : Pass E T kind words) (q : Bounded V) : Type 0 where
  -- the pass at that moment
  pub at : Pass E T kind words
  pub queue : queue_of at ≡ queue_of pass
  pub since : IsBeginning (view pass).seen (view at).seen
  -- the list begins behind what was taken out
  pub taken : q.first ≡ length (handed_out (view at).seen)
  pub waits : waiting (view at).seen ≡ map named q.values

-- The list that a `close` of an overflowing queue returns is the newest of what waited at one
-- moment of the call, at most the capacity. One number more waits while a push is under way, which
-- then takes the oldest out.
pub record IsNewestThatWaits {E : Type 0} {kind : kinds.Ghosts E} {words : Ghosts ℕ} (capacity : ℕ)
    (pass : Pass E ℕ kind words) (q : Bounded ℕ) : Type 0 where
  -- the pass at that moment
  pub at : Pass E ℕ kind words
  pub queue : queue_of at ≡ queue_of pass
  pub since : IsBeginning (view pass).seen (view at).seen
  -- what waited before the list, beyond the capacity
  pub older : List (Item ℕ)
  pub taken : q.first ≡ length (handed_out (view at).seen) + length older
  pub waits : waiting (view at).seen ≡ older ++ map Index q.values
  pub few : length older ≡ length (waiting (view at).seen) - capacity

-- What a pass that had seen `v` knows of the list that its queue is in the end: where each value that
-- it had seen published is, and with the whole share that just these values wait.
pub record Closes {T V : Type 0} (named : V → Item T) (capacity : ℕ) (v : View T) (q : Bounded V) : Type 0 where
  pub same : q.capacity ≡ capacity
  -- a published value lies before the list, or waits at its place
  pub published_there : (i : ℕ) (x : V) → slice_get (published v.seen) i ≡ Some (named x)
      → (i < q.first) ⊎ ((q.first ≤ i) × (slice_get q.values (i - q.first) ≡ Some x))
  -- what was taken out lies before the list
  pub taken : length (handed_out v.seen) ≤ q.first
  -- a pass with the whole share knows that just these values wait
  pub whole : IsAll v.share
      → (q.first ≡ length (handed_out v.seen))
      × (published v.seen ≡ handed_out v.seen ++ map named q.values)
