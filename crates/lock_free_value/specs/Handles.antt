-- A handle of a value: the value, and the pass that its calls are made with.
use Rattle.std.specs.Prelude.{◌≡◌}
use Rattle.steps.specs.declared.words.Words.{Ghosts}
use Rattle.history.specs.declared.view.View.{View}
use Rattle.lock_free_value.specs.declared.spmc.unrestricted_atomic.UnrestrictedAtomic.{UnrestrictedAtomic}
use Rattle.lock_free_value.specs.declared.spmc.unrestricted_atomic.Pass.{Pass}
use Rattle.lock_free_value.specs.declared.spmc.unrestricted_atomic.handles.Handle.{Handle}
use Rattle.lock_free_value.specs.Calls.{view, SamePass}

module _ {T : Type 0} {words : Ghosts T} where
  -- the value of a handle
  abbrev pub value_in : Handle T words → UnrestrictedAtomic T
  value_in h = h.value.now

  -- the pass of a handle
  abbrev pub pass_in : Handle T words → Pass T words
  pass_in h = h.pass

  -- all that the pass of the handle knows
  abbrev pub knows : Handle T words → View T
  knows h = view h.pass

  -- what each call by a handle leaves of it: the same value, and a pass of this value whose view goes on
  pub record SameHandle (old new : Handle T words) : Type 0 where
    pub value : value_in new ≡ value_in old
    pub pass : SamePass (pass_in old) (pass_in new)
