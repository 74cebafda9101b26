-- A handle of a container: the container, and the pass that its calls are made with; and what they keep of it. T is the type
-- of its values.
use Rattle.std.specs.Prelude.{◌≡◌}
use Rattle.steps.specs.declared.words.Words.{Ghosts}
use Rattle.steps.specs.declared.container.state.ContainerState.{ContainerState}
use Rattle.history.specs.declared.view.View.{View}
use Rattle.lock_free_owners.specs.declared.mpmc.container.Container.{Container}
use Rattle.lock_free_owners.specs.declared.mpmc.container.Pass.{Pass}
use Rattle.lock_free_owners.specs.declared.mpmc.container.handles.Handle.{Handle}
use Rattle.lock_free_owners.specs.Container.Names.{view, IsStateOf}

module _ {T : Type 0} {words : Ghosts T} where
  -- the container of a handle
  abbrev pub container_in : Handle T words → Container T
  container_in h = h.container.now

  -- the pass of a handle
  abbrev pub pass_in : Handle T words → Pass T words
  pass_in h = h.pass

  -- all that its pass knows
  abbrev pub knows : Handle T words → View T
  knows h = view h.pass

  -- what a call keeps of a handle: its container, and of its pass what the container's call keeps
  pub record KeepsHandle (Keeps : Pass T words → Pass T words → Type 0) (old new : Handle T words) : Type 0 where
    pub container : container_in new ≡ container_in old
    pub pass : Keeps (pass_in old) (pass_in new)

  -- what an update keeps of a handle: its container, and that the state is one of this container
  pub record UpdateKeepsHandle (old new : Handle T words) (now : ContainerState T) : Type 0 where
    pub container : container_in new ≡ container_in old
    pub state : IsStateOf (container_in old) now
