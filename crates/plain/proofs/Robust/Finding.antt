-- A find of a robust set with its closure, from one question to the next: what the closure was called with,
-- and that it may be called with the next index.
use Rattle.std.proofs.Common.{◌≡◌, ℕ, suc, ◌+◌, ◌-◌, ◌^◌, ◌<◌, ◌≤◌, true, nat_lt, if◌then◌else◌, List, []}
use Rattle.std.proofs.Common.{◌∷◌, length, refl, sym, ap, subst, ◌∙◌, arith}
use Rattle.plain.proofs.Names.{length-drop, nat_tests, After, GoOn}
use Rattle.plain.proofs.Names.{Done, Question, Want}
use Rattle.steps.specs.Indices.Robust.Parts.{empty}
use Rattle.steps.specs.Indices.Robust.Find.{first_find, find_comes_to, find_want, find_after}
use Rattle.steps.specs.declared.enums.CallbackProgression.{CallbackProgression}
use Rattle.steps.specs.declared.enums.CallbackProgression.TheVariants.{Continue, Stop}
use Rattle.steps.specs.declared.indices.robust.find.Find.{Find}
use Rattle.steps.specs.Objects.Owners.{indices_of}
use Rattle.plain_queues.specs.declared.drive.Stop as stops
use Rattle.plain_queues.specs.Alone.{CanStop, StopsAlike}
use Rattle.plain.specs.Callable.{TakesIndices, HasFound, index_in, as_answer}
use Rattle.plain.specs.Robust.{owners_in, Represents}
use Rattle.plain_queues.proofs.Alone.{Halts, can_stop, stops_so}
use Rattle.plain.proofs.Found.{Visited, found_all, joined, visit_more, found_some}
use Rattle.plain.proofs.Walks.{WalksOn, halts}
use Rattle.plain.proofs.Robust.Finds.{SetWords, mine, AsksAt, StopsAt, finds_on}
use Rattle.plain.proofs.Robust.Parts.{head_or, tail_of, split}

-- A find with its closure: the capacity and the words of the set, the owner whose indices are visited, and the closure.
pub record FindCase (F : Type 0) : Type 1 where
  pub capacity : ℕ
  pub owner : ℕ
  pub words : List ℕ
  -- what a call of the closure with an index makes of it, and the closure at first
  pub step : F → ℕ → CallbackProgression → F → Type 0
  pub first : F

-- a find has no room
abbrev kept : Find → Unit {0} → ℕ → Unit {0}
kept c room old = room

-- what the find asks for next, whatever the owner is
abbrev want : Find → ℕ → Want (Unit {0})
want c given = find_want c

module _ {F : Type 0} (case : FindCase F) where
  open case use {capacity, owner, words, step, first}

  -- the owner's indices, ascending
  abbrev all : List ℕ
  all = indices_of (owners_in words) owner

  -- The find is under way: the closure was called as `visited` says, the words are as they were, and the call halts
  -- at the next question or at its end.
  pub record Searching (done : ℕ) (call : Find) (now : F) (items : List ℕ) : Type 0 where
    pub visited : Visited step all first capacity done now
    -- the counter and the cells that the words are
    pub set : SetWords capacity owner
    pub is : words ≡ set.g ∷ set.cells
    pub same : items ≡ set.g ∷ set.cells
    -- where the call halts next
    pub run : Halts want find_after kept owner (λ s room ws. StopsAt set done visited.left s ws) call tt (set.g ∷ set.cells)

  -- what an answer has led to: the find is under way, or has ended, has found what it says and left the words
  abbrev pub Further : ℕ → After Find ℕ → F → List ℕ → Type 0
  Further done (GoOn call) now items = Searching done call now items
  Further done (Done n) now items = HasFound step all first n now × (items ≡ words)

  -- over the cells that are left the find halts where it ends, or where it asks about the next index of the owner
  goes_on : (set : SetWords capacity owner) → words ≡ set.g ∷ set.cells
      → (rest : List ℕ) {done : ℕ} {now : F} (visited : Visited step all first capacity done now)
      (a : After Find ℕ) {items : List ℕ} → items ≡ set.g ∷ set.cells → length rest ≤ capacity
      → WalksOn (λ c. find_want c) (λ c old. find_after c owner old) (suc (length rest)) (StopsAt set done visited.left) a (set.g ∷ set.cells)
      → Further done a now items
  goes_on set is rest {done} {now} visited (GoOn d) {items} same short goes =
      let few = set.few in
      record {
        visited = visited;
        set = set;
        is = is;
        same = same;
        run = halts (suc (length rest)) (StopsAt set done visited.left) (omega arith) goes;
      }
  goes_on set is rest {done} {now} visited (Done n) {items} same short goes = (found_all visited goes.0 goes.1, same ∙ sym is)

  -- a find that has taken no step is under way
  pub starts : (call : Find) → call ≡ first_find capacity → Represents capacity words → owner < empty → Searching 0 call first words
  starts call at_first fits lives =
      let some = fits.some in
      let front : words ≡ head_or 0 words ∷ tail_of words = split capacity fits.long in
      let cells : List ℕ = tail_of words in
      let long : length cells ≡ capacity = (let e : suc (length cells) ≡ 1 + capacity = sym (ap length front) ∙ fits.long in omega arith) in
      let set : SetWords capacity owner = record { g = head_or 0 words; cells = cells; long = long; few = fits.few; lives = lives } in
      let none : Visited step all first capacity 0 first = record { before = []; left = all; joined = refl; calls = refl; number = refl; low = omega arith } in
      let begins : find_comes_to (first_find capacity) 0 0 ≡ GoOn (first_find capacity) =
      ap (λ b. if b then GoOn (first_find capacity) else Done 0) (let t : nat_lt 0 capacity ≡ true = grind (arith, nat_tests, some) in t) in
      subst (λ c. Searching 0 c first words) (sym at_first)
      (subst (λ a. Further 0 a first words) begins
      (goes_on set front cells none (find_comes_to (first_find capacity) 0 0) front (omega arith)
      (finds_on set cells 0 0 refl (omega arith) (ap (λ ws. indices_of (owners_in ws) owner) front))))

-- ---- where it stops

-- A find that a driver holds: the closure was called `done` times, and is `now` as its calls have left it.
module _ {F : Type 0} {case : FindCase F} {done : ℕ} {call : Find} {now : F} {items : List ℕ} (so_far : Searching case done call now items) where
  open case use {capacity, owner, words, step, first}
  open so_far use {visited, set, is, same, run}

  -- a find under way can stop
  pub can_go : CanStop want find_after kept owner call tt items
  can_go = subst (CanStop want find_after kept owner call tt) (sym same) (can_stop run)

  -- this is the stop of the find, whatever steps a driver has taken to it
  abbrev StopsSo : stops.Stop Find ℕ → Unit {0} → List ℕ → Type 0
  StopsSo stop r last = StopsAlike want find_after kept owner call tt items stop r last

  -- where a driver has brought a find under way to a stop, it is one of those that `StopsAt` says
  stops_at : {stop : stops.Stop Find ℕ} {r : Unit {0}} {last : List ℕ} → StopsSo stop r last → StopsAt set done visited.left stop last
  stops_at {stop} {r} {last} alike = stops_so run (subst (λ ws. StopsAlike want find_after kept owner call tt ws stop r last) same alike)

  -- a find under way that a driver has brought to its end has found what it says, and the
  -- words are as they were
  pub ended_so : {n : ℕ} {r : Unit {0}} {last : List ℕ} → StopsSo (stops.TheVariants.Ended n) r last
      → HasFound step (all case) first n now × (last ≡ words)
  ended_so alike = let end = stops_at alike in (found_all visited end.0 end.1, end.2 ∙ sym is)

  -- a find asks fewer than 2^64 - 1 questions
  pub few_rounds : done < 2 ^ 64 - 1
  few_rounds = omega (arith, visited.low, set.few)

  module _ {question : Question (Unit {0})} {asks : Find} {r : Unit {0}} {last : List ℕ}
      (alike : StopsSo (stops.TheVariants.Asked question asks) r last) where
    -- the driver has brought the find to a question about the first index that is left
    pub asked : AsksAt set done visited.left question asks last
    asked = stops_at alike

    module _ {index : ℕ} (index_is : index ≡ index_in question) where
      -- the question is about the first index that is left
      there : index ≡ asked.index
      there = index_is ∙ ap index_in asked.asks

      -- the closure may be called with the question's index
      pub may_so : {pre : F → ℕ → Type 0} → TakesIndices pre step (all case) first → pre now index
      may_so {pre} may =
          subst (pre now) (sym there)
          (may.at visited.before now asked.index (mine owner (asked.index + 1) asked.rest) visited.calls (joined visited asked.left_is))

      -- after a call that said Continue the find is under way with one index more; after one that said Stop
      -- it has found what it says
      onward : (a : CallbackProgression) (next : F) → step now index a next → Further case (done + 1) (find_after asks owner (as_answer a)) next last
      -- a call that said Continue: the find goes on to the owner's next index or to its end
      onward Continue next called =
          let long = set.long in
          let few = set.few in
          let long_rest : length asked.rest ≤ capacity = omega (arith, length-drop (asked.index + 1) set.cells, ap length asked.rest_is) in
          let near = asked.near in
          let low = asked.low in
          let more : Visited step (all case) first capacity (done + 1) next =
          visit_more visited asked.left_is (subst (λ i. step now i Continue next) there called) (omega arith) in
          subst (λ c. Further case (done + 1) (find_after c owner 1) next last) (sym asked.stands)
          (goes_on case set is asked.rest more (find_comes_to (first_find capacity) (asked.index + 1) (done + 1)) asked.same long_rest
          (finds_on set asked.rest (asked.index + 1) (done + 1) asked.rest_is (omega arith) refl))
      -- a call that said Stop: the find has ended, with the indices that it came to
      onward Stop next called =
          subst (λ c. Further case (done + 1) (find_after c owner 0) next last) (sym asked.stands)
          (found_some visited asked.left_is (subst (λ i. step now i Stop next) there called), asked.same ∙ sym is)

      -- after the closure was called at a question and the call was handed its answer as a number, the find is
      -- under way, or has ended with what it says
      pub further_so : (a : CallbackProgression) (next : F) → step now index a next → {answer : ℕ} → answer ≡ as_answer a
          → {b : After Find ℕ} → b ≡ find_after asks owner answer → Further case (done + 1) b next last
      further_so a next called {answer} said {b} goes =
          subst (λ z. Further case (done + 1) z next last) (sym (goes ∙ ap (find_after asks owner) said)) (onward a next called)

-- `TakesIndices` of one list is `TakesIndices` of an equal one
pub takes_at : {F : Type 0} {pre : F → ℕ → Type 0} {step : F → ℕ → CallbackProgression → F → Type 0} {a b : List ℕ} {f : F}
    → a ≡ b → TakesIndices pre step a f → TakesIndices pre step b f
takes_at {F} {pre} {step} {a} {b} {f} same takes_indices = subst (λ z. TakesIndices pre step z f) same takes_indices

-- `HasFound` of one list is `HasFound` of an equal one
pub found_at : {F : Type 0} {step : F → ℕ → CallbackProgression → F → Type 0} {a b : List ℕ} {f last : F} {n : ℕ}
    → a ≡ b → HasFound step a f n last → HasFound step b f n last
found_at {F} {step} {a} {b} {f} {last} {n} same found = subst (λ z. HasFound step z f n last) same found
