-- What a look of a state of a container (`get_state`, `update_state`) asks for, and what it has written after
-- each step; on the machine that keeps its state the model's look goes on as the driver's does.
use Rattle.history.proofs.Names.{◌≡◌, inl, inr, ℕ, suc, ◌+◌, ◌<◌, ◌≤◌, ◌==◌, Bool, Option, List}
use Rattle.history.proofs.Names.{[], ◌∷◌, ◌++◌, append-nil, refl, sym, ap, subst, arith}
use Rattle.history.proofs.Names.{nat_tests, total_words, look_asks, look_comes_to, look_finds, look_takes}
use Rattle.history.proofs.Names.{look_after, look_kept, Numbers, Showing, by_test}
use Rattle.steps.specs.declared.ask.Ask.{Ask}
use Rattle.steps.specs.declared.ask.After.{After}
use Rattle.steps.specs.declared.ask.After.TheVariants.{GoOn}
use Rattle.steps.specs.declared.container.look.LookStage.{LookStage}
use Rattle.model.specs.declared.event.Event.{Event}
use Rattle.model.specs.declared.event.Event.TheVariants.{Copied}
use Rattle.model.specs.declared.event.Start.TheVariants.{Container}
use Rattle.model.specs.declared.families.Registry.{Registry}
use Rattle.model.specs.declared.families.container.ContainerStart.{ContainerStart}
use Rattle.model.specs.declared.families.container.calls.LookOf.{LookOf}
use Rattle.history.proofs.Names.{Coding, goes_of, step_of, settled_if, look_effects}
use Rattle.history.proofs.Names.{World, answered}
use Rattle.laws_container.proofs.Core.{data_within}
use Rattle.steps.specs.Copied.{value_in}
use Rattle.steps.specs.declared.ask.After.TheVariants.{Done}
use Rattle.steps.specs.declared.ask.Want.TheVariants as wants
use Rattle.steps.specs.declared.container.look.Look.{Look as Looking}
use Rattle.steps.specs.declared.container.look.LookStage.TheVariants as looks
use Rattle.model.specs.declared.families.Flight.TheVariants as flights
use Rattle.model.specs.declared.families.container.calls.ContainerFlight.TheVariants as calls
use Rattle.laws_container.proofs.Looks.{written_same}
use Rattle.history_owners.specs.ContainerFind.{HasCopied}
use Rattle.history_owners.specs.ContainerLooks.{LookIn, state_of_look, HasState, LookedAt, HasLookedAll, looks_at}
use Rattle.history.specs.Stages.{Calling}
use Rattle.history.proofs.CallsIn.{AsksFor}
use Rattle.history_owners.proofs.ContainerCalls.{change_low, count_low}
use Rattle.history_owners.proofs.Containers.{container_effects}
use Rattle.history.proofs.Drives.{goes}
use Rattle.lemmas.proofs.Cases.{by_bool}

-- ---- what a look asks for

-- at each stage a look asks for a word of the container
pub look_words : (size capacity : ℕ) (stage : LookStage) → LookIn size capacity stage → AsksFor (total_words capacity size) (look_asks size capacity stage)
look_words size capacity looks.LoadsChange look_in = (_, change_low capacity size, refl)
look_words size capacity (looks.LoadsCount index) look_in = (_, count_low capacity size index look_in, refl)
look_words size capacity (looks.LoadsWord index count at) look_in = (_, data_within capacity size index at look_in.0 look_in.1, refl)
look_words size capacity (looks.ChecksCount index count) look_in = (_, count_low capacity size index look_in, refl)

-- what a look hears of an operation is what the word was before it
pub look_found : (size capacity : ℕ) (stage : LookStage) (a : Ask) (n : ℕ) → look_asks size capacity stage ≡ wants.Ask a
    → answered a.op n ≡ n
look_found = grind arith

-- ---- where a look goes on after a step, and what it has written then

-- A look at a stage, as a party makes it on a container, for a state that had seen these numbers.
pub record LookCase (T : Type 0) : Type 0 where
  pub size : ℕ  -- the words of a value
  pub some : 0 < size
  pub which : LookOf
  pub capacity : ℕ  -- of the container
  pub cells : ℕ  -- of the state
  pub seen : Numbers
  pub c : Looking T
  pub same : c.capacity ≡ capacity
  pub p : ℕ  -- the party

module _ {T : Type 0} (case : LookCase T) where
  open case use {size, some, which, capacity, cells, seen, c, same, p}

  -- a look for a state of this capacity that had seen these numbers
  abbrev looking : Calling T (Looking T) (Showing T) Bool
  looking = looks_at size which cells seen

  -- after a step a look stands within the container and has written copies from the indices that it has
  -- passed, or has ended
  abbrev pub LookGoes : List (Event T) → After (Looking T) Bool → Type 0
  LookGoes es (GoOn d) = looking.stands capacity d × LookedAt p d.stage es
  LookGoes es (Done changed) = HasLookedAll capacity p changed es

  -- a step that writes nothing leaves what the look has written
  quiet : (es : List (Event T)) (r : After (Looking T) Bool) → LookGoes es r → LookGoes (es ++ []) r
  quiet es r look_goes = subst (λ zs. LookGoes zs r) (sym (append-nil es)) look_goes

  -- a look that comes to an index, or behind the last one, has written copies from the indices below it
  comes_to : (index : ℕ) → index ≤ capacity → (es : List (Event T)) → HasCopied p 0 index es → LookGoes es (look_comes_to c index)
  comes_to = grind arith

  -- a look that goes on behind an index has written copies from the indices up to it
  next_to : (index : ℕ) → index < capacity → (es : List (Event T)) → HasCopied p 0 (suc index) es → LookGoes es (look_comes_to c (index + 1))
  next_to = grind (arith, suc, comes_to)

  -- a look that loads a word of an element, or goes on behind it, has written copies from
  -- the indices below it
  finds : (index count : ℕ) → index < capacity → (es : List (Event T)) → HasCopied p 0 index es → LookGoes es (look_finds c index count)
  finds = grind (arith, by_test, next_to, inl)

  -- after each step a look goes on or ends, and has written copies from the indices that it has passed
  pub looks_so : (value : T) (stage : LookStage) (k : ℕ) (es : List (Event T)) → LookIn size capacity stage → LookedAt p stage es
      → LookGoes (es ++ look_effects p value stage k) (look_takes size c stage seen k)
  looks_so value looks.LoadsChange k es look_in looked_at = grind (arith, quiet, by_test, comes_to)
  looks_so value (looks.LoadsCount index) k es look_in looked_at = grind (arith, quiet, by_test, next_to, inl, finds)
  looks_so value (looks.LoadsWord index count at) k es look_in was = grind (arith, quiet, by_test, nat_tests)
  looks_so value (looks.ChecksCount index count) k es look_in looked_at =
      by_bool (k == count)
      (λ e. rw e (next_to index look_in (es ++ Copied p index value ∷ [])
      (inr (es, value, looked_at, (let same : index ≡ 0 + index = omega arith in ap (λ n. es ++ Copied p n value ∷ []) same)))))
      (λ e. rw e (quiet es (look_finds c index k) (finds index k look_in es looked_at)))

-- ---- the state that the machine has for its party

-- a step of a look that finds n, on a machine that keeps for its party the state that the look's room shows
pub record LookStep (T : Type 0) : Type 0 where
  pub which : LookOf
  pub cells : ℕ  -- of the state
  pub seen : Numbers  -- that it has
  pub p : ℕ  -- the party
  pub c : Looking T
  pub m : Showing T
  pub n : ℕ
  pub kept : Registry T  -- by the machine
  pub has : HasState kept p (state_of_look cells seen m)

module _ {T : Type 0} (code : Coding T) (look : LookStep T) where
  open look use {which, cells, seen, p, c, m, n, kept, has}

  abbrev drives : Calling T (Looking T) (Showing T) Bool
  drives = looks_at code.size which cells seen

  -- what the room shows after the step
  abbrev kept_shown : Showing T
  kept_shown = look_kept code.value_of code.size c m n

  -- where the machine keeps the look's state, the model's look goes on as the driver's does
  pub look_goes_so : goes_of code p (flights.Container (calls.Look which c)) n kept ≡ goes drives (look_after code.size c seen n) kept_shown
  look_goes_so = grind arith

  -- the step of the model leaves the state that the driver's room then shows
  pub look_keeps_so : (words : List ℕ) (beside : Option (ℕ × ℕ)) (start : ContainerStart T)
      → HasState (step_of code words beside p (Container start) (flights.Container (calls.Look which c)) n kept).kept p
      (settled_if (look_after code.size c seen n) (state_of_look cells seen kept_shown))
  look_keeps_so = grind (arith, written_same)

  -- the copies that the step writes are of the value that the room has read
  pub look_writes_so : (w : World T) → w.coding ≡ code → w.kept ≡ kept
      → container_effects w p (flights.Container (calls.Look which c)) n ≡ look_effects p (value_in code.value_of code.size m.copy) c.stage n ++ []
  look_writes_so = grind arith
