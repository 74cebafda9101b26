-- A find in a container with its closure, from one question to the next: what the closure was called with,
-- and that it may be called with the next value.
use Rattle.std.proofs.Common.{◌≡◌, ℕ, suc, ◌+◌, ◌-◌, ◌^◌, ◌<◌, ◌≤◌, true, nat_lt, if◌then◌else◌, List, []}
use Rattle.std.proofs.Common.{length, refl, sym, ap, subst, ◌∙◌, arith}
use Rattle.plain.proofs.Names.{length-drop, nat_tests, Want, After}
use Rattle.plain.proofs.Names.{GoOn, Done, Question, ContainerHandle}
use Rattle.steps.specs.Copied.{value_in}
use Rattle.steps.specs.Container.Find.{first_find, find_comes_to, find_want, find_after, find_kept}
use Rattle.steps.specs.Objects.Owners.{indices_of}
use Rattle.steps.specs.declared.container.find.Find.{Find}
use Rattle.steps.specs.declared.enums.CallbackProgression.{CallbackProgression}
use Rattle.steps.specs.declared.enums.CallbackProgression.TheVariants.{Continue, Stop}
use Rattle.plain_queues.specs.declared.drive.Stop as stops
use Rattle.plain_queues.specs.Alone.{CanStop, StopsAlike}
use Rattle.plain.specs.Callable.{TakesIndices, HasFound, index_in, as_answer}
use Rattle.plain.specs.Robust.{owners_in}
use Rattle.plain.specs.Contents.{Contents, contents_in}
use Rattle.plain.specs.Visited.{handle_of, MaySee, Sees}
use Rattle.plain_queues.proofs.Alone.{Halts, can_stop, stops_so}
use Rattle.plain.proofs.Found.{Visited, found_all, joined, visit_more, found_some}
use Rattle.plain.proofs.Walks.{plus, plus_sum, WalksOn}
use Rattle.plain.proofs.Rooms.{with_room, want_both, after_both, Apart, halts_both}
use Rattle.plain.proofs.Robust.Finds.{mine}
use Rattle.plain_queues.proofs.Words.{Room}
use Rattle.plain.proofs.Elements.Finds.{Ready, cells, cells_long, front, AsksAt, StopsAt, finds_on}

-- A find with its closure: how values are read, the container and its words as the find began, the owner whose
-- values are visited, and the closure.
pub record FindCase (V R F : Type 0) : Type 1 where
  -- a value by its words, the room into which these are read, and how many they are
  pub value_of : List ℕ → V
  pub as_room : Room R
  pub size : ℕ
  pub capacity : ℕ
  pub container : ℕ
  pub owner : ℕ
  pub words : List ℕ
  -- what a call of the closure with a value and its handle makes of it, and the closure at first
  pub step : F → V → ContainerHandle → CallbackProgression → F → Type 0
  pub first : F

module _ {V R F : Type 0} (case : FindCase V R F) where
  open case use {value_of, as_room, as_room.{words_in, with_word}, size, capacity, container, owner, words, step, first}

  -- what the find asks for
  abbrev want : Find V R → ℕ → Want (Unit {0})
  want c given = find_want size c

  -- the room after an answer
  abbrev kept : Find V R → R → ℕ → R
  kept = find_kept with_word

  -- the contents of the words
  abbrev old : Contents V
  old = contents_in value_of size capacity container words

  -- the owner's indices, ascending
  abbrev all : List ℕ
  all = indices_of old.owners owner

  -- a call of the closure with the value at the index, and what it said
  abbrev sees : F → ℕ → CallbackProgression → F → Type 0
  sees p index said q = Sees step old owner p index said q

  -- what a find needs to begin
  abbrev Begun : Type 0
  Begun = Ready value_of size capacity container owner words

  -- the find stops at the first of the owner's indices that are left, or at its end with this count
  abbrev FindStopsAt : Begun → ℕ → List ℕ → stops.Stop (Find V R × R) (ℕ × R) → List ℕ → Type 0
  FindStopsAt ready found left stop last = StopsAt as_room ready found left stop last

  -- The find is under way: the closure was called as `visited` says, and the call halts at the next question or
  -- at its end.
  pub record Finding (ready : Begun) (done : ℕ) (call : Find V R) (room : R) (now : F) : Type 0 where
    pub visited : Visited sees all first capacity done now
    pub run : Halts want (find_after size) kept owner (Apart (FindStopsAt ready done visited.left)) call room words

  -- what a step has answered: the find is under way with this number of questions done, or has ended and
  -- found what it says
  abbrev Onward : Begun → ℕ → After (Find V R) ℕ → R → F → Type 0
  Onward ready done (GoOn call) room now = Finding ready done call room now
  Onward ready done (Done n) room now = HasFound sees all first n now

  -- over the cells that are left the find halts where it ends, or where it asks about the next index of the owner
  goes_on : (ready : Begun) (rest : List ℕ) {done : ℕ} {now : F}
      (visited : Visited sees all first capacity done now) (room : R) (a : After (Find V R) ℕ)
      → length rest ≤ capacity
      → WalksOn (want_both want (find_after size) kept owner) (after_both want (find_after size) kept owner)
      (plus (suc (length rest)) (suc (suc (suc (suc (size - 1)))))) (FindStopsAt ready done visited.left) (with_room room a) words
      → Onward ready done a room now
  goes_on ready rest {done} {now} visited room (GoOn d) short goes =
      record {
        visited = visited;
        run = halts_both (plus (suc (length rest)) (suc (suc (suc (suc (size - 1)))))) (FindStopsAt ready done visited.left)
            (omega (arith, plus_sum (suc (length rest)) (suc (suc (suc (suc (size - 1))))), ready.holds.0.few, ready.wide))
            goes;
      }
  goes_on ready rest {done} {now} visited room (Done n) short goes = found_all visited goes.0 goes.1

  -- a find that begins has come to nothing yet
  begins : (ready : Begun) (room : R) → size ≤ length (words_in room) → Finding ready 0 (first_find capacity) room first
  begins ready room long =
      let some = ready.holds.0.some in
      let size_is = cells_long value_of container ready.holds in
      let its_cells : List ℕ = cells value_of container ready.holds in
      let starts : find_comes_to {T = V} {R = R} (first_find capacity) 0 0 ≡ GoOn (first_find capacity) =
      ap (λ b. if b then GoOn (first_find capacity) else Done 0) (let t : nat_lt 0 capacity ≡ true = grind (arith, nat_tests, some) in t) in
      let none : Visited sees all first capacity 0 first = record { before = []; left = all; joined = refl; calls = refl; number = refl; low = omega arith } in
      subst (λ a. Onward ready 0 a room first) starts
      (goes_on ready its_cells none room (find_comes_to (first_find capacity) 0 0) (omega arith)
      (finds_on as_room ready its_cells 0 0
      (record {
        rest_is = refl;
        low = omega arith;
        left_is = ap (λ ws. indices_of (owners_in ws) owner) (front value_of container ready.holds);
      })
      room long))

  -- ---- as the driver holds it

  -- a find over these words is under way, and the words are as they were
  pub record Searching (done : ℕ) (call : Find V R) (room : R) (now : F) (items : List ℕ) : Type 0 where
    pub ready : Begun
    pub same : items ≡ words
    pub finding : Finding ready done call room now

  -- what an answer has led to: the find is under way, or has ended, has found what it says and left the words
  abbrev pub Further : ℕ → After (Find V R) ℕ → R → F → List ℕ → Type 0
  Further done (GoOn call) room now items = Searching done call room now items
  Further done (Done n) room now items = HasFound sees all first n now × (items ≡ words)

  -- a find that has taken no step is under way
  pub starts : (call : Find V R) → call ≡ first_find capacity → (room : R) → size ≤ length (words_in room)
      → Begun → Searching 0 call room first words
  starts call at_first room long ready =
      subst (λ c. Searching 0 c room first words) (sym at_first) (record { ready = ready; same = refl; finding = begins ready room long })

-- ---- where it stops

-- A find that a driver holds: the closure was called `done` times, and is `now` as its calls have left it.
module _ {V R F : Type 0} {case : FindCase V R F} {done : ℕ} {call : Find V R} {room₀ : R} {now : F} {items : List ℕ}
    (so_far : Searching case done call room₀ now items) where
  open case use {value_of, as_room, as_room.{words_in}, size, capacity, container, owner, words, step, first}
  open so_far use {ready, same, finding, finding.visited}

  -- a find under way can stop
  pub can_go : CanStop (want case) (find_after size) (kept case) owner call room₀ items
  can_go = subst (CanStop (want case) (find_after size) (kept case) owner call room₀) (sym same) (can_stop finding.run)

  -- this is the stop of the find, whatever steps a driver has taken to it
  abbrev StopsSo : stops.Stop (Find V R) ℕ → R → List ℕ → Type 0
  StopsSo stop room last = StopsAlike (want case) (find_after size) (kept case) owner call room₀ items stop room last

  -- where a driver has brought a find under way to a stop, it is one of those that `FindStopsAt` says
  pub stops_at : {stop : stops.Stop (Find V R) ℕ} {room : R} {last : List ℕ} → StopsSo stop room last
      → Apart (FindStopsAt case ready done visited.left) stop room last
  stops_at {stop} {room} {last} alike =
      stops_so finding.run (subst (λ ws. StopsAlike (want case) (find_after size) (kept case) owner call room₀ ws stop room last) same alike)

  -- a find under way that a driver has brought to its end has found what it says, and the
  -- words are as they were
  pub ended_so : {n : ℕ} {room : R} {last : List ℕ} → StopsSo (stops.TheVariants.Ended n) room last
      → HasFound (sees case) (all case) first n now × (last ≡ words)
  ended_so alike = let end = stops_at alike in (found_all visited end.0 end.1, end.2)

  -- a find asks fewer than 2^64 - 1 questions
  pub few_rounds : done < 2 ^ 64 - 1
  few_rounds = omega (arith, visited.low, ready.holds.0.few)

  module _ {question : Question (Unit {0})} {asks : Find V R} {room : R} {last : List ℕ}
      (alike : StopsSo (stops.TheVariants.Asked question asks) room last) where
    -- the driver has brought the find to a question about the first index that is left
    pub asked : AsksAt as_room ready done visited.left question asks room last
    asked = stops_at alike

    -- the question's index is below the capacity
    pub index_small : index_in question < capacity
    index_small = subst (λ q. index_in q < capacity) (sym asked.asks) asked.near

    -- The closure is to be called with the value that the room has, and with the handle of the question's index.
    module _ {value : V} (value_is : value ≡ value_in value_of size (words_in room)) {index : ℕ} (index_is : index ≡ index_in question) where
      -- the question is about the first index that is left
      there : index ≡ asked.index
      there = index_is ∙ ap index_in asked.asks

      -- the closure may be called with the value that the room has, and the handle of the question's index
      pub may_so : (pre : F → V → ContainerHandle → Type 0) → TakesIndices (MaySee pre (old case) owner) (sees case) (all case) first
          → pre now value (handle_of (old case) owner index)
      may_so pre may =
          subst (λ (z : V × ℕ). pre now z.0 (handle_of (old case) owner z.1)) (λ i. (sym value_is i, sym there i))
          (may.at visited.before now asked.index (mine owner (asked.index + 1) asked.rest) visited.calls (joined visited asked.left_is)
          (value_in value_of size (words_in room)) asked.copied)

      -- a call with the value that the room has is a call with the value at the index
      saw : (a : CallbackProgression) (next : F) → step now value (handle_of (old case) owner index) a next → sees case now asked.index a next
      saw a next called = (
        value_in value_of size (words_in room),
        asked.copied,
        subst (λ (z : V × ℕ). step now z.0 (handle_of (old case) owner z.1) a next) (λ i. (value_is i, there i)) called,
      )

      -- after a call that said Continue the find is under way with one index more; after one that said Stop
      -- it has found what it says
      onward : (a : CallbackProgression) (next : F) → step now value (handle_of (old case) owner index) a next
          → Onward case ready (done + 1) (find_after size asks owner (as_answer a)) room next
      -- a call that said Continue: the find goes on to the owner's next index or to its end
      onward Continue next called =
          let its_cells : List ℕ = cells value_of container ready.holds in
          let size_is = cells_long value_of container ready.holds in
          let long_rest : length asked.rest ≤ capacity = omega (arith, length-drop (asked.index + 1) its_cells, ap length asked.rest_is) in
          let near = asked.near in
          let low = asked.low in
          let more : Visited (sees case) (all case) first capacity (done + 1) next =
          visit_more visited asked.left_is (saw Continue next called) (omega arith) in
          subst (λ c. Onward case ready (done + 1) (find_after size c owner 1) room next) (sym asked.stands)
          (goes_on case ready asked.rest more room (find_comes_to (first_find capacity) (asked.index + 1) (done + 1)) long_rest
          (finds_on as_room ready asked.rest (asked.index + 1) (done + 1) (record { rest_is = asked.rest_is; low = omega arith; left_is = refl })
          room asked.wide))
      -- a call that said Stop: the find has ended, with the indices that it came to
      onward Stop next called =
          subst (λ c. Onward case ready (done + 1) (find_after size c owner 0) room next) (sym asked.stands)
          (found_some visited asked.left_is (saw Stop next called))

      -- `Onward` is `Further` over words that are as they were
      further : (b : After (Find V R) ℕ) (next : F) → Onward case ready (done + 1) b room next → Further case (done + 1) b room next last
      further (GoOn d) next on = record { ready = ready; same = asked.same; finding = on }
      further (Done n) next found = (found, asked.same)

      -- the call was handed the closure's answer as a number: this is what it has led to, and the room then
      pub record IsHanded (a : CallbackProgression) (b : After (Find V R) ℕ) (later : R) : Type 0 where
        pub answer : ℕ
        pub said : answer ≡ as_answer a
        pub goes : b ≡ find_after size asks owner answer
        pub keeps : later ≡ kept case asks room answer

      -- after the closure was called and the call was handed its answer as a number, the find is under way,
      -- or has ended with what it says
      pub further_so : (a : CallbackProgression) (next : F) → step now value (handle_of (old case) owner index) a next
          → {b : After (Find V R) ℕ} {later : R} → IsHanded a b later → Further case (done + 1) b later next last
      further_so a next called {b} {later} handed =
          subst (λ z. Further case (done + 1) z later next last) (sym (handed.goes ∙ ap (find_after size asks owner) handed.said))
          (subst (λ r. Further case (done + 1) (find_after size asks owner (as_answer a)) r next last)
          (sym (handed.keeps ∙ ap (λ c. kept case c room handed.answer) asked.stands))
          (further (find_after size asks owner (as_answer a)) next (onward a next called)))

-- `TakesIndices` of the values of one container is that of equal contents
pub takes_at : {V F : Type 0} (pre : F → V → ContainerHandle → Type 0) (step : F → V → ContainerHandle → CallbackProgression → F → Type 0)
    {a b : Contents V} {owner : ℕ} {f : F} → a ≡ b → TakesIndices (MaySee pre a owner) (Sees step a owner) (indices_of a.owners owner) f
    → TakesIndices (MaySee pre b owner) (Sees step b owner) (indices_of b.owners owner) f
takes_at {V} {F} pre step {a} {b} {owner} {f} same takes_indices =
    subst (λ (z : Contents V). TakesIndices (MaySee pre z owner) (Sees step z owner) (indices_of z.owners owner) f) same takes_indices

-- `HasFound` of the values of one container is that of equal contents
pub found_at : {V F : Type 0} (step : F → V → ContainerHandle → CallbackProgression → F → Type 0) {a b : Contents V} {owner : ℕ} {f last : F} {n : ℕ}
    → a ≡ b → HasFound (Sees step a owner) (indices_of a.owners owner) f n last → HasFound (Sees step b owner) (indices_of b.owners owner) f n last
found_at {V} {F} step {a} {b} {owner} {f} {last} {n} same found =
    subst (λ (z : Contents V). HasFound (Sees step z owner) (indices_of z.owners owner) f n last) same found
