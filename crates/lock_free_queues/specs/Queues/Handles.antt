-- A handle of a queue: the queue, and the pass that its calls are made with.
use Rattle.std.specs.Prelude.{◌≡◌}
use Rattle.steps.specs.declared.words.Words.{Ghosts}
use Rattle.history.specs.declared.view.View.{View}
use Rattle.lock_free_queues.specs.declared.spsc.ring.rule.Kind as kinds
use Rattle.lock_free_queues.specs.declared.spsc.ring.Ring.{Ring}
use Rattle.lock_free_queues.specs.declared.spsc.ring.Pass.{Pass}
use Rattle.lock_free_queues.specs.declared.spsc.ring.handles.Handle.{Handle}
use Rattle.lock_free_queues.specs.Queues.Rings.{view, SamePass}

module _ {E T : Type 0} {kind : kinds.Ghosts E} {words : Ghosts T} where
  -- the queue of a handle
  abbrev pub ring_in : Handle E T kind words → Ring E T
  ring_in h = h.ring.now

  -- the pass of a handle
  abbrev pub pass_in : Handle E T kind words → Pass E T kind words
  pass_in h = h.pass

  -- all that the pass of the handle knows
  abbrev pub knows : Handle E T kind words → View T
  knows h = view h.pass

  -- what each call by a handle leaves of it: the same queue, and a pass of this queue whose view goes on
  pub record SameHandle (old new : Handle E T kind words) : Type 0 where
    pub queue : ring_in new ≡ ring_in old
    pub pass : SamePass (pass_in old) (pass_in new)
