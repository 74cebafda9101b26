-- How many steps a call of a container has taken at most, at each of its stages, and that each of its turns
-- back is paid for by a change of another party.
use Rattle.laws_container.proofs.Names.{◌≡◌, ℕ, ◌+◌, ◌-◌, ◌*◌, ◌≤◌, List, arith, AddStage, FindStage}
use Rattle.laws_container.proofs.Names.{LookStage, RecoverStage, RemoveStage, ReplaceStage, ReleaseMode}
use Rattle.laws_container.proofs.Names.{LockIfLastIndex, Lock, Start, Container, Flight}
use Rattle.laws_container.proofs.Names.{ContainerStart, ContainerFlight, Coding, most_steps}
use Rattle.laws_container.proofs.Names.{place_of, most, Act, SetAct, times_below, lock_number, LockAt}
use Rattle.steps.specs.declared.container.look.LookStage.TheVariants as looks
use Rattle.model.specs.declared.families.Flight.TheVariants as flights
use Rattle.model.specs.declared.families.container.ContainerStart.TheVariants as starts
use Rattle.model.proofs.Frame as frame
use Rattle.laws_robust.proofs.Kept.{count_most, lock_most}
use Rattle.laws_container.proofs.Invariant.{ContainerNow, family}
use Rattle.laws_container.proofs.Knows.{View, Knows}
use Rattle.laws_container.proofs.CallProgress.{add_number, remove_number, replace_number, find_number, for_back, for_index}
use Rattle.laws_container.proofs.CallProgress.{recover_number, look_number, number_of, AddAt, RemoveAt, ReplaceAt, FindAt}
use Rattle.laws_container.proofs.CallProgress.{RecoverAt, LookAt, At}

-- ---- how many steps a call has taken

-- `c` is the capacity, `z` the words of a value; the call has done `all` to the set, and `done` to elements
module _ {T : Type 0} (c z : ℕ) (all : List SetAct) (done : List (Act T)) where
  add_most : (owner : ℕ) (stage : AddStage) (backs : ℕ) → AddAt c z all done owner stage → add_number c z stage backs ≤ c + 7 + z + backs * (c + 1)
  add_most owner stage backs stands = grind arith

  remove_most : (i index owner : ℕ) (mode : ReleaseMode) (stage : RemoveStage) (backs : ℕ)
      → RemoveAt c z all done index owner mode stage
      → remove_number c i owner mode stage backs ≤ most_steps {T = T} c z (starts.Remove index owner mode) backs
  remove_most i index owner mode stage backs stands = grind arith

  replace_most : (index : ℕ) (stage : ReplaceStage) → ReplaceAt c z all done index stage → replace_number z stage ≤ 5 + z
  replace_most index stage stands = grind arith

  find_most : (stage : FindStage) → FindAt c z all done stage → find_number z stage ≤ c * (z + 3)
  find_most = grind (arith, times_below)

  recover_at_most : (owner : ℕ) (mode : ReleaseMode) (stage : RecoverStage) (backs : ℕ) → z + 7 ≤ for_index c z mode
      → ((lock : Lock) → mode ≡ LockIfLastIndex → LockAt c lock → lock_number c lock + z + 5 ≤ for_index c z mode)
      → RecoverAt c z all done owner mode stage → recover_number c z mode stage backs ≤ 3 + c * for_index c z mode + backs * for_back c z mode
  recover_at_most owner mode stage backs wide lock stands = grind arith

  recover_most : (owner : ℕ) (mode : ReleaseMode) (stage : RecoverStage) (backs : ℕ)
      → RecoverAt c z all done owner mode stage
      → recover_number c z mode stage backs ≤ most_steps {T = T} c z (starts.Recover owner mode) backs
  recover_most = grind (arith, recover_at_most, lock_most)

  look_most : (stage : LookStage) (backs : ℕ) → LookAt c z all done stage → look_number z stage backs ≤ 1 + c * (z + 2) + backs * (z + 1)
  look_most looks.LoadsChange backs stands = omega arith
  look_most (looks.LoadsCount index) backs stands = let few = times_below c index (z + 2) stands.1 in omega arith
  look_most (looks.LoadsWord index count word) backs stands = let few = times_below c index (z + 2) stands.1.0 in let below = stands.2 in omega arith
  look_most (looks.ChecksCount index count) backs stands = let few = times_below c index (z + 2) stands.1.0 in omega arith

  -- no call has taken more steps than are promised for its name and its turns back
  steps_most : (backs : ℕ) (start : ContainerStart T) (flight : ContainerFlight T) → At c z all done start flight
      → number_of c z flight backs ≤ most_steps c z start backs
  steps_most = grind (arith, add_most, remove_most, place_of, replace_most, find_most, recover_most, look_most, count_most)

-- ---- how often it has turned back

module _ {T : Type 0} where
  -- a call has turned back at most as often as words have changed since it began
  abbrev BacksArePaid : View T → Type 0
  BacksArePaid v = v.backs ≤ v.changes - v.since

  -- `c` is the capacity, and `v` what the party sees
  module _ (code : Coding T) (c : ℕ) (v : View T) where
    -- a call at any stage has turned back at most as often as words have changed since it began
    pays : (flight : ContainerFlight T) → Knows code c flight v → BacksArePaid v
    pays flight knows = grind arith

  -- the frame's bounds hold: no call has taken more steps than are promised, and each turn back is paid for
  -- by a change
  pub bounds : (code : Coding T) (c : ℕ) → frame.Bounds (family code c)
  bounds code c = record { most = at_most; paid = paid }
    where
      at_most : (s : ContainerNow T) (p backs : ℕ) (start : Start T) (flight : Flight T)
          → (family code c).At s p start flight
          → (family code c).number ((family code c).written s p flight) flight backs ≤ most c code.size start backs
      at_most s p backs (Container start) (flights.Container flight) stands = steps_most c code.size _ _ backs start flight stands
      at_most s p backs start flight stands = absurd stands

      paid : (s : ContainerNow T) (p : ℕ) (events : List _) (since changes backs : ℕ) (flight : Flight T)
          → (family code c).Knows s p events since changes backs flight → backs ≤ changes - since
      paid s p events since changes backs (flights.Container flight) stands = pays code c _ flight stands
      paid s p events since changes backs flight stands = absurd stands
