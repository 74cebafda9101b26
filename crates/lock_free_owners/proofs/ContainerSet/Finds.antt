-- A find of a container between two turns: where it stands on the history, what its closure was called with, and how many
-- operations it has performed.
use Rattle.lock_free_owners.proofs.Names.{◌≡◌, ℕ, ◌+◌, ◌-◌, ◌*◌, ◌^◌, ◌<◌, ◌≤◌, nat_lt, if◌then◌else◌, true, false, List, []}
use Rattle.lock_free_owners.proofs.Names.{refl, sym, ap, subst, ◌∙◌, arith, nat_tests, find_kept, by_bool, After}
use Rattle.lock_free_owners.proofs.Names.{GoOn, Done, ContainerHandle, Buffer, CallbackProgression, Continue, Stop}
use Rattle.lock_free_owners.proofs.Names.{IsCoding, fresh_cell, kept_at, View, value_of_room}
use Rattle.steps.specs.Indices.Robust.Parts.{one_more}
use Rattle.steps.specs.Container.Find.{first_find, at_find, find_comes_to, find_takes, find_left}
use Rattle.steps.specs.Container.Laws.{find_fewer}
use Rattle.steps.specs.declared.container.find.Find.{Find}
use Rattle.steps.specs.declared.container.find.FindStage.{FindStage}
use Rattle.steps.specs.declared.container.find.FindStage.TheVariants as finds
use Rattle.threaded.specs.Driver.{Next}
use Rattle.history.specs.Steps.{TakesAtMost}
use Rattle.lock_free_owners.specs.Robust.Stages.{says}
use Rattle.lock_free_owners.specs.Container.Callable.{TakesVisits, HasFound}
use Rattle.lock_free_owners.specs.Container.FindContract.{HasSearched, IsSearched}
use Rattle.lock_free_owners.specs.Container.Steps.{FindTakes}
use Rattle.lock_free_owners.specs.Container.FindTurns.{words_in, find_goes, find_copying, FindAt, FindDone, FindGoes, FindTurns, IsAtWord, IsLeft}
use Rattle.lock_free_owners.specs.Container.FindTurns.{FindPasses, IsWithin, PassesTo, HasPassed, PassesFrom}
use Rattle.lock_free_owners.specs.Container.Visits as visits
use Rattle.lock_free_owners.specs.Container.Visits.{FindStands, FindAsks, FindMoves, IsNamed, visits_of}
use Rattle.lock_free_owners.proofs.ContainerSet.FindTurns.{over_so, heard_on, answer_over}
use Rattle.lock_free_owners.proofs.Rules.Container.FindRuns.{StillStands, still_stands, taken_at, taken_after, one_taken, none_taken, cells_taken}
use Rattle.lock_free_owners.proofs.Rules.Container.Finding.{FindCase, Came, widen, found_all, SoFar, Onward, StepsOnward}
use Rattle.lock_free_owners.proofs.Rules.Container.Finding.{IsQuiet, came_none, quietly, told_on, told_to_stop, may_ask}

-- Counting one more below 2^32 does not wrap.
one_more_is : (n : ℕ) → n < 2 ^ 32 → one_more n ≡ n + 1
one_more_is n n_below = grind (arith, one_more)

module _ {T F : Type 0} (find : FindCase T F) where
  open find use {code, step, capacity as cap, owner, id, base, visit as f}

  -- the value whose words a room has
  abbrev value_in_room : Buffer 128 → T
  value_in_room = value_of_room code words_in

  -- The find stands at c in the view v with the room m, and its closure has become p. What it has copied, what its
  -- closure was called with, and how many operations it has taken fit its stage.
  pub record Searching (v : View T) (c : Find T (Buffer 128)) (m : Buffer 128) (p : F) : Type 0 where
    pub copies : List (ℕ × T)
    pub at : FindAt code owner base v c (m, copies)
    pub stands : FindStands code.size cap c
    pub so_far : SoFar find c.stage copies (value_in_room m) p
    pub steps : TakesAtMost (taken_at code.size c.stage) base v

  -- a find has ended with the answer n, in the view w and with the closure q
  abbrev pub Over : View T → ℕ → F → Type 0
  Over w n q = IsSearched code step cap owner id n f base w q

  -- a find that has gone on stands at its next stage, or has ended
  abbrev pub Further : View T → After (Find T (Buffer 128)) ℕ → Buffer 128 → F → Type 0
  Further w (GoOn d) m q = Searching w d m q
  Further w (Done n) m q = Over w n q

  -- the parts of a whole find: how it leaves the pass, what it copied and counted, what its closure
  -- became, and its steps
  whole : (w : View T) (n bound : ℕ) (q : F) (copies : List (ℕ × T))
      → IsLeft code base w × HasSearched cap owner n bound (visits_of owner id copies) base w
      → HasFound step cap (IsNamed cap owner id) f n bound (visits_of owner id copies) q → FindTakes code.size cap base w → Over w n q
  whole w n bound q copies both found find_takes_holds = grind (arith, visits_of)

  -- a find at its first stage stands so, with the closure that it was given
  pub starts : {c : Find T (Buffer 128)} {m : Buffer 128} → c ≡ first_find cap → m ≡ fresh_cell → 0 < cap
      → FindAt code owner base base (first_find cap) (fresh_cell, [])
      → Searching base c m f
  starts c_is m_is_fresh_cell cap_positive find_at = grind (arith, came_none)

-- What a find may count on: its values can be coded, and the container had this capacity when the find began.
pub record FindFacts {T F : Type 0} (find : FindCase T F) : Type 0 where
  pub law : IsCoding find.code
  pub small : find.capacity < 2 ^ 32
  pub size : find.capacity ≡ find.base.capacity

module _ {T F : Type 0} {find : FindCase T F} (facts : FindFacts find) where
  open find use {code, step, capacity as cap, owner, id, base, visit as f}
  open facts use {law, small, size}

  -- The find stands at c in the view v with the room m, and p is its closure, as h says.
  module _ {v : View T} {c : Find T (Buffer 128)} {m : Buffer 128} {p : F} (h : Searching find v c m p) where
    -- A step or an answer leaves the find at a stage that there is.
    stood : (k : ℕ) → StillStands code.size cap (find_goes code owner c k)
    stood k = (let some = law.some in still_stands code.size some cap c owner k h.stands)

    -- ---- a step at a word

    -- after this step the history has the find at its next stage, or ended, with what it had copied
    abbrev NextThere : After (Find T (Buffer 128)) ℕ → View T → Type 0
    NextThere r w = Next (λ (z : View T). z.capacity) (FindAt code owner) (FindDone code owner) base r (m, h.copies) w

    -- a step leaves the find where it goes on, from what holds of its stage, its copies, its closure
    -- and its operations
    stepped : (w : View T) (a : After (Find T (Buffer 128)) ℕ) (left : Buffer 128) (copies : List (ℕ × T)) → StillStands code.size cap a
        → Next (λ (z : View T). z.capacity) (FindAt code owner) (FindDone code owner) base a (left, copies) w
        → Onward find a copies (value_in_room find left) p → TakesAtMost (taken_after code.size cap a) base w → Further find w a left p
    stepped w (GoOn d) left copies stands at so few = record { copies = copies; at = at; stands = stands; so_far = so; steps = few }
    stepped w (Done n) left copies stands ends found few = whole find w n cap p copies (over_so code law owner id size ends) found few

    -- A find whose step calls no closure is at a word.
    at_word : (stage : FindStage) → IsQuiet find stage → IsAtWord stage
    at_word stage quiet = grind arith

    -- One operation more, within a bound that has room for it, stays within the bound.
    few_then : (most before : ℕ) (w : View T) → before + 1 ≤ most → TakesAtMost before base v → TakesAtMost 1 v w → TakesAtMost most base w
    few_then most before w more few one = omega arith

    -- a step at a word leaves the find where it goes on, with the closure as it was
    by_step : (stage : FindStage) → c.stage ≡ stage → (still : IsQuiet find stage)
        → (w : View T) (a : After (Find T (Buffer 128)) ℕ) (left : Buffer 128)
        → FindGoes code owner v c m a left w → Further find w a left p
    by_step stage is still w a left goes =
        subst (λ (z : After (Find T (Buffer 128)) ℕ × Buffer 128). Further find w z.0 z.1 p) (λ i. (sym goes.1 i, sym goes.2 i))
        (stepped w (find_goes code owner c goes.0) (find_kept kept_at c m goes.0)
        (find_copying code owner c (m, h.copies) goes.0).1 (stood goes.0) (goes.3 base h.copies h.at)
        (subst (λ z. StepsOnward find c (value_in_room find) kept_at z h.copies m goes.0 p) (sym is)
        (quietly find c (value_in_room find) kept_at small stage still (subst (visits.FindStage code.size cap) is h.stands.1) h.copies m p goes.0
        (subst (λ z. SoFar find z h.copies (value_in_room find m) p) is h.so_far)))
        (few_then (taken_after code.size cap (find_goes code owner c goes.0)) (taken_at code.size c.stage) w
        (subst (λ z. taken_at code.size z + 1 ≤ taken_after code.size cap (find_takes code.size c z owner goes.0)) (sym is)
        (one_taken code.size cap c h.stands.0 stage owner goes.0 (at_word stage still) (subst (visits.FindStage code.size cap) is h.stands.1)))
        h.steps goes.4))

    -- ---- an answer

    module _ (index found : ℕ) (is : c.stage ≡ finds.Asks index found) where
      -- What the closure was called with, at the question.
      so_here : SoFar find (finds.Asks index found) h.copies (value_in_room find m) p
      so_here = grind arith

      within : index < cap
      within = (subst (visits.FindStage code.size cap) is h.stands.1).0

      -- an answer to go on ends a find only at its last index
      last_is : (n : ℕ) → find_goes code owner c 1 ≡ Done n → index + 1 ≡ cap
      last_is n goes =
          let comes : find_comes_to c (index + 1) found ≡ Done n = sym (ap (λ z. find_takes code.size c z owner 1) is) ∙ goes in
          let size : c.capacity ≡ cap = h.stands.0 in
          by_bool (nat_lt (index + 1) c.capacity) (λ t. absurd (more n t comes)) (λ t. (let low = within in let no = not_less t in omega arith))
        where
          -- at an index before the last one an answer to go on does not end the find
          more : (n : ℕ) → nat_lt (index + 1) c.capacity ≡ true → find_comes_to c (index + 1) found ≡ Done n → ⊥
          more n t e =
              let on : After (Find T (Buffer 128)) ℕ = GoOn (at_find c (finds.LoadsCell (index + 1) found)) in
              let no : on ≡ Done n = subst (λ b. (if b then on else Done found) ≡ Done n) t e in
              absurd (cc)

          -- A test that says no says that the capacity is reached.
          not_less : nat_lt (index + 1) c.capacity ≡ false → c.capacity ≤ index + 1
          not_less t = grind (arith, nat_tests)

      -- an answer takes no operation, so as many as before are within the bound of the next stage
      few_still : (k : ℕ) → TakesAtMost (taken_after code.size cap (find_goes code owner c k)) base v
      few_still k =
          let none =
          subst (λ z. taken_at code.size z ≤ taken_after code.size cap (find_takes code.size c z owner k)) (sym is)
          (none_taken code.size cap c h.stands.0 index found owner k within) in
          let few = h.steps in
          omega arith

      -- an answer to go on leaves the find where it goes on, with the closure after that answer
      answered : (q : F) (r : After (Find T (Buffer 128)) ℕ) → find_goes code owner c 1 ≡ r → StillStands code.size cap r
          → Onward find r h.copies (value_in_room find m) q → TakesAtMost (taken_after code.size cap r) base v → Further find v r m q
      answered q (GoOn d) goes stands so few =
          record {
            copies = h.copies;
            at = heard_on code law owner c is true goes h.at;
            stands = stands;
            so_far = so;
            steps = few;
          }
      answered q (Done n) goes stands found_all few =
          let (leaves_pass, has_searched) = answer_over code law owner cap is h.at id true goes in
          whole find v n cap q h.copies
          (leaves_pass, subst (λ k. HasSearched cap owner n k (visits_of owner id h.copies) base v) (last_is n goes) has_searched) found_all few

      -- any answer leaves the find where it goes on, or ends it, with the closure after that
      -- answer
      by_answer : (q : F) (answer : CallbackProgression) → step p (value_in_room find m) (visits.named index owner id) answer q
          → Further find v (find_goes code owner c (says answer)) m q
      by_answer q Continue hit =
          answered q (find_goes code owner c 1) refl (stood 1)
          (subst (λ z. Onward find (find_takes code.size c z owner 1) h.copies (value_in_room find m) q) (sym is)
          (told_on find c index found within hit so_here))
          (few_still 1)
      by_answer q Stop hit =
          let goes : find_goes code owner c 0 ≡ Done found = ap (λ z. find_takes code.size c z owner 0) is in
          subst (λ r. Further find v r m q) (sym goes)
          (whole find v found (index + 1) q h.copies (answer_over code law owner cap is h.at id false goes)
          (told_to_stop find index found within hit so_here)
          (subst (λ r. TakesAtMost (taken_after code.size cap r) base v) goes (few_still 0)))

    -- ---- a turn

    -- A turn of the find, a step or an answer by its stage, leads to its next stage or its end.
    turned : (stage : FindStage) → c.stage ≡ stage → (w : View T) (a : After (Find T (Buffer 128)) ℕ) (left : Buffer 128) (q : F)
        → FindTurns code owner stage v c m a left w → FindMoves step code.size id c owner stage (value_in_room find m) p a q → Further find w a left q
    turned stage same_stage w a kept q find_turns find_moves = grind (arith, by_step, by_answer)

    -- A turn at the stage of the find leads to its next stage or its end.
    pub further : {a r : After (Find T (Buffer 128)) ℕ} (w : View T) (left : Buffer 128) (q : F) → a ≡ r → FindTurns code owner c.stage v c m a left w
        → FindMoves step code.size id c owner c.stage (value_in_room find m) p a q → Further find w r left q
    further {a} w left q is turns moves = subst (λ z. Further find w z left q) is (turned c.stage refl w a left q turns moves)

    -- Where the closure may be called at visits of the owner, it may be called at the stage of the find.
    pub may_go : {pre : F → T → ContainerHandle → Type 0} → TakesVisits pre step (IsNamed cap owner id) f
        → FindAsks pre owner id c.stage (value_in_room find m) p
    may_go takes = may_ask find takes c.stage h.stands.1 h.copies (value_in_room find m) p h.so_far

    -- ---- it passes cells

    -- At a cell, the index of the find is one of the container.
    in_sight : (stage : FindStage) → visits.FindStage code.size cap stage → IsWithin cap stage
    in_sight stage find_stage = grind arith

    -- If the find stands at a cell, the cell is one of the container.
    pub may_pass : IsWithin c.capacity c.stage
    may_pass = subst (λ n. IsWithin n c.stage) (sym h.stands.0) (in_sight c.stage h.stands.1)

    module _ (w : View T) (a : After (Find T (Buffer 128)) ℕ) (goes : FindPasses code owner v c m a w) where
      module _ (index found : ℕ) (is : c.stage ≡ finds.LoadsCell index found) where
        -- The cell is one of the container, and at most as many indices are counted.
        stood_there : (index < cap) × (found ≤ index)
        stood_there = subst (visits.FindStage code.size cap) is h.stands.1

        -- The find has come to this cell with the closure called at all its copies.
        came : Came find index found (visits_of owner id h.copies) p
        came = subst (λ z. SoFar find z h.copies (value_in_room find m) p) is h.so_far

        -- The find has taken at most size + 3 operations for each index below the cell.
        few : TakesAtMost (index * (code.size + 3)) base v
        few = subst (λ z. TakesAtMost (taken_at code.size z) base v) is h.steps

        -- cells that were passed lead to a cell of the owner, with operations within the bound of that stage
        lands : (stage : FindStage) → PassesTo cap index found stage v w
            → visits.FindStage code.size cap stage × SoFar find stage h.copies (value_in_room find m) p
            × TakesAtMost (taken_at code.size stage) base w
        lands (finds.LoadsCell at count) to = absurd to
        lands (finds.LoadsCount at count) to =
            let low = to.0 in
            let within = to.1 in
            let started = stood_there.1 in
            let one : count ≡ found + 1 = to.2 ∙ one_more_is found (omega arith) in
            let before = few in
            let loaded = to.3 in
            let more = cells_taken index (at - index) at code.size (omega arith) in
            ((within, omega arith), (found, sym one, widen find came low), omega arith)
        lands (finds.LoadsWord at count number place) to = absurd to
        lands (finds.ChecksCount at count number) to = absurd to
        lands (finds.Asks at count) to = absurd to

        -- cells that were passed leave the find at one of the owner, or at its end
        by_cells : (r : After (Find T (Buffer 128)) ℕ) → a ≡ r → HasPassed cap index found r v w → Further find w r m p
        by_cells (GoOn d) goes_on passed =
            let there = lands d.stage passed.1 in
            stepped w (GoOn d) m h.copies (passed.0, there.0) (subst (λ z. NextThere z w) goes_on (goes base h.copies h.at)) there.1 there.2
        by_cells (Done n) ends passed =
            let before = few in
            let loaded = passed.1 in
            let within = stood_there.0 in
            let more = cells_taken index (cap - index) cap code.size (omega arith) in
            stepped w (Done n) m h.copies tt (subst (λ z. NextThere z w) ends (goes base h.copies h.at))
            (subst (λ k. HasFound step cap (IsNamed cap owner id) f k cap (visits_of owner id h.copies) p) (sym passed.0)
            (found_all find (widen find {high = cap} came (omega arith))))
            (omega arith)

      -- a find that stands at no cell passes none and stays as it is
      stays : a ≡ GoOn c → w ≡ v → Further find w a m p
      stays same still = subst (λ r. Further find w r m p) (sym same) (subst (λ (u : View T). Searching find u c m p) (sym still) h)

      -- whatever stage it came from, cells that were passed leave the find where it goes on
      come : (stage : FindStage) → c.stage ≡ stage → PassesFrom c stage a v w → Further find w a m p
      come (finds.LoadsCell index found) is passed =
          by_cells index found is a refl (subst (λ n. HasPassed n index found a v w) h.stands.0 passed)
      come (finds.LoadsCount index found) is passed = stays passed.0 passed.1
      come (finds.LoadsWord index found count at) is passed = stays passed.0 passed.1
      come (finds.ChecksCount index found count) is passed = stays passed.0 passed.1
      come (finds.Asks index found) is passed = stays passed.0 passed.1

      -- Cells that were passed leave the find where it goes on, or end it.
      pub passed_on : {r : After (Find T (Buffer 128)) ℕ} → a ≡ r → PassesFrom c c.stage a v w → Further find w r m p
      passed_on is passed = subst (λ z. Further find w z m p) is (come c.stage refl passed)

-- ---- it ends

module _ {T F : Type 0} (find : FindCase T F) (few : find.code.size ≤ 128) where
  open find use {code, step, owner, id}

  abbrev left : Find T (Buffer 128) → ℕ
  left c = find_left code.size c.capacity c.stage

  -- how many steps are left after a step; none once the find has ended
  abbrev left_after : After (Find T (Buffer 128)) ℕ → ℕ
  left_after (GoOn d) = left d
  left_after (Done n) = 0

  -- Once cells were passed from the cell of an index on, at most 140 steps for each index from that one
  -- on, and 139 more, are left.
  lands_lower : (capacity index found : ℕ) (stage : FindStage) (v w : View T) → PassesTo capacity index found stage v w
      → find_left code.size capacity stage ≤ 140 * (capacity - index) + 139
  lands_lower capacity index found stage v w to = grind (arith, find_left)

  -- passing cells does not add to the steps that are left
  passes_lower : (c d : Find T (Buffer 128)) (stage : FindStage) (v w : View T) → c.stage ≡ stage → PassesFrom c stage (GoOn d) v w → left d ≤ left c
  passes_lower c d stage v w is to = grind (arith, lands_lower, find_left)

  -- after each turn fewer steps are left
  turns_lower : (c d : Find T (Buffer 128)) (stage : FindStage) (v w : View T) (m n : Buffer 128) (x : T) (p q : F)
      → FindTurns code owner stage v c m (GoOn d) n w → FindMoves step code.size id c owner stage x p (GoOn d) q → left d < left c
  turns_lower c d stage v w m n x p q goes moves = grind (arith, find_fewer)

  -- Passing cells does not add to the steps that are left, where the find goes on behind them.
  pub passed_lower : (c : Find T (Buffer 128)) {d : Find T (Buffer 128)} {a : After (Find T (Buffer 128)) ℕ} (v u : View T) → a ≡ GoOn d
      → PassesFrom c c.stage a v u → left d ≤ left c
  passed_lower c {d} v u passed passes = passes_lower c d c.stage v u refl (subst (λ z. PassesFrom c c.stage z v u) passed passes)

  -- Each turn behind which the find goes on leaves fewer steps.
  pub turned_lower : {v : View T} {c d : Find T (Buffer 128)} {m : Buffer 128} {p : F} {a : After (Find T (Buffer 128)) ℕ} → Searching find v c m p
      → (w : View T) (n : Buffer 128) (q : F) → a ≡ GoOn d → FindTurns code owner c.stage v c m a n w
      → FindMoves step code.size id c owner c.stage (value_in_room find m) p a q → left d < left c
  turned_lower {v} {c} {d} {m} {p} h w n q turned turns moves =
      turns_lower c d c.stage v w m n (value_in_room find m) p q (subst (λ z. FindTurns code owner c.stage v c m z n w) turned turns)
      (subst (λ z. FindMoves step code.size id c owner c.stage (value_in_room find m) p z q) turned moves)

-- What is below a number is below each number that is no lower.
pub below : {least less most : ℕ} → least < less → less ≤ most → least < most
below low up = omega arith
