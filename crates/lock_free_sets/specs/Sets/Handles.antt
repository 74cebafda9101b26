-- A handle of a set: the set, and the pass that its calls are made with; and what they keep of it.
use Rattle.std.specs.Prelude.{◌≡◌, ℕ}
use Rattle.steps.specs.contracts.words.U64Words.TheImpl.{ghosts}
use Rattle.history.specs.declared.view.View.{View}
use Rattle.lock_free_sets.specs.declared.mpmc.sets.rule.Kind.{Ghosts}
use Rattle.lock_free_sets.specs.declared.mpmc.sets.rule.SetRule.{SetRule}
use Rattle.lock_free_sets.specs.declared.mpmc.sets.Set.{Set}
use Rattle.lock_free_sets.specs.declared.mpmc.sets.Held.{Held}
use Rattle.lock_free_sets.specs.declared.mpmc.sets.handles.Handle.{Handle}
use Rattle.lock_free_sets.specs.Sets.Calls.{view, SamePass}

module _ {E : Type 0} {kind : Ghosts E} where
  -- the set of a handle
  abbrev pub set_in : Handle E kind → Set E
  set_in h = h.set.now

  -- the pass of a handle
  abbrev pub pass_in : Handle E kind → Held E ℕ (SetRule E) kind ghosts
  pass_in h = h.pass

  -- all that its pass knows
  abbrev pub knows : Handle E kind → View ℕ
  knows h = view h.pass

  -- what each call by a handle keeps of it: its set, and of its pass what each call of the set keeps
  pub record SameHandle (old new : Handle E kind) : Type 0 where
    pub set : set_in new ≡ set_in old
    pub pass : SamePass (pass_in old) (pass_in new)
