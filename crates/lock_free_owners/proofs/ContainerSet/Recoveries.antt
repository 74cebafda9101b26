-- A recovery of a container between two turns: where it stands on the history, and what its closure was asked.
use Rattle.std.proofs.Common.{arith}
use Rattle.lock_free_owners.proofs.Names.{◌≡◌, ◌<◌, ◌∙◌, ℕ, Bool, false, List, [], if◌then◌else◌, refl, sym, ap}
use Rattle.lock_free_owners.proofs.Names.{subst}
use Rattle.lock_free_owners.proofs.Names.{recover_kept, After, GoOn, Done, Buffer, ReleaseState}
use Rattle.lock_free_owners.proofs.Names.{IsCoding, is_locked, fresh_cell, kept_at, number_of, View, value_of_room}
use Rattle.lock_free_owners.proofs.Names.{recover_call}
use Rattle.steps.specs.Container.Recover.{first_recover, recover_takes}
use Rattle.steps.specs.declared.container.recover.Recover.{Recover}
use Rattle.steps.specs.declared.container.recover.RecoverStage.{RecoverStage}
use Rattle.steps.specs.declared.container.recover.RecoverStage.TheVariants as recovers
use Rattle.threaded.specs.Driver.{Next}
use Rattle.history_owners.specs.ContainerRecovery.{RecoverIn, Came}
use Rattle.lock_free_owners.specs.Container.FindTurns.{words_in}
use Rattle.lock_free_owners.specs.Container.Questions.{TakesValues}
use Rattle.lock_free_owners.specs.Container.RecoverTurns.{Visiting, IsRecovered, recover_goes, recover_visiting, RecoverAt}
use Rattle.lock_free_owners.specs.Container.RecoverTurns.{RecoverEnds, RecoverGoes, RecoverTurns, RecoverAsks}
use Rattle.lock_free_owners.specs.Container.RecoverTurns.{RecoverMoves, RecoverPasses, IsWithin, PassesTo, HasPassed}
use Rattle.lock_free_owners.specs.Container.RecoverTurns.{PassesFrom}
use Rattle.lock_free_owners.proofs.ContainerSet.Resting.{settled_so}
use Rattle.lock_free_owners.proofs.ContainerSet.RecoverTurns.{put_in, heard_on, answer_last, asked_open, recovered_called}
use Rattle.lock_free_owners.proofs.Rules.Container.Recovering.{SoFar, Knows, Onward, StepsOnward, IsQuiet, quietly, answered as answers_so, may_ask}
use Rattle.lock_free_owners.proofs.Rules.Container.Recovering.{RecoveryCase, Asked, widen}

-- An answer has the number 1 for yes and 0 for no.
same_number : (b : Bool) → number_of b ≡ (if b then 1 else 0)
same_number b = grind arith

module _ {T F : Type 0} (recovery : RecoveryCase T F) where
  open recovery use {code, step, capacity as cap, given, base, predicate as f}

  -- The container was seen locked when the recovery began.
  abbrev shut : Bool
  shut = is_locked base.seen

  -- the value whose words a room has
  abbrev value_in_room : Buffer 128 → T
  value_in_room = value_of_room code words_in

  -- The recovery stands at c in the view v with the room m, and its closure has become p. What it has visited and
  -- what its closure was asked fit its stage.
  pub record Standing (v : View T) (c : Recover T (Buffer 128)) (m : Buffer 128) (p : F) : Type 0 where
    pub visits : List (ℕ × Came T)
    pub at : RecoverAt code given base v c (m, visits)
    pub stands : (c.capacity ≡ cap) × RecoverIn code.size cap given.mode c.stage
    pub so_far : SoFar recovery c.stage visits (value_in_room m) p

  -- a recovery has ended with the state e, in the view w and with the closure q
  abbrev pub Over : View T → ReleaseState → F → Type 0
  Over w e q = IsRecovered code step given e cap f q base w

  -- a recovery that has gone on stands at its next stage, or has ended
  abbrev pub Further : View T → After (Recover T (Buffer 128)) ReleaseState → Buffer 128 → F → Type 0
  Further w (GoOn d) m q = Standing w d m q
  Further w (Done e) m q = Over w e q

  -- after this step the history has the recovery at its next stage, or ended, with these visits
  abbrev NextThere : After (Recover T (Buffer 128)) ReleaseState → Visiting T → View T → Type 0
  NextThere a m w = Next (λ (z : View T). z.capacity) (RecoverAt code given) (RecoverEnds code given) base a m w

  -- The recovery stands at c in the view v with the room m, and p is its closure, as h says.
  module _ (law : IsCoding code) {v : View T} {c : Recover T (Buffer 128)} {m : Buffer 128} {p : F} (h : Standing v c m p) where
    -- The value whose words are in the room.
    abbrev value : T
    value = value_in_room m

    -- what the history says of a recovery at its stage: its visits, and that it asks only if the
    -- container was not locked at first
    knows : Knows recovery c.stage
    knows = go c.stage refl
      where
        asks : (index count : ℕ) → c.stage ≡ recovers.Asks index count → shut ≡ false
        asks index count is = asked_open code law given c is h.at

        -- at each stage at which it asks, the container was not locked when it began
        go : (stage : RecoverStage) → c.stage ≡ stage → Knows recovery stage
        go stage is = grind (arith, asks)

    -- a step, or an answer, leaves the recovery where it goes on, or ends it, with what the
    -- closure was asked
    stepped : (w : View T) (a : After (Recover T (Buffer 128)) ReleaseState) (left : Buffer 128) (visits : List (ℕ × Came T)) (q : F) → (n : ℕ)
        → recover_goes code given c n ≡ a → NextThere a (left, visits) w → Onward recovery a visits (value_in_room left) q → Further w a left q
    stepped w (GoOn d) left visits q n goes at so =
        record {
          visits = visits;
          at = at;
          stands = (recover_call code law words_in kept_at (put_in code law given) given).asking.steps.stays cap c d n h.stands goes;
          so_far = so;
        }
    stepped w (Done e) left visits q n goes ends so =
        record {
          ends = ((left, visits), ends);
          did =
              record {
                from = ends.from;
                settled = settled_so code base ends.from ends.settled;
                by = ends.over.party;
                mine = ends.over.mine;
                visits = visits;
                are = so.are;
                called = recovered_called code law given ends;
                questions = so.questions;
                ascend = so.ascend;
                few = so.few;
                nothing = so.nothing;
              };
        }

    -- a step at a word leaves the recovery where it goes on, or ends it, with the closure as it
    -- was
    by_step : (stage : RecoverStage) → c.stage ≡ stage → IsQuiet recovery stage → (w : View T) (a : After (Recover T (Buffer 128)) ReleaseState)
        (left : Buffer 128) → RecoverGoes code given v c m a left w → Further w a left p
    by_step stage is still w a left goes =
        subst (λ (z : After (Recover T (Buffer 128)) ReleaseState × Buffer 128). Further w z.0 z.1 p) (λ i. (sym goes.1 i, sym goes.2 i))
        (stepped w (recover_goes code given c goes.0) (recover_kept kept_at c m goes.0) (recover_visiting code given c (m, h.visits) goes.0).1 p goes.0 refl
        (goes.3 base h.visits h.at)
        (subst (λ z. StepsOnward recovery c value_in_room kept_at z h.visits m goes.0 p) (sym is)
        (quietly recovery c value_in_room kept_at stage still (subst (RecoverIn code.size cap given.mode) is h.stands.1) h.visits m p goes.0
        (subst (λ z. SoFar recovery z h.visits value p) is h.so_far))))

    -- An answer of the closure leaves the recovery where it goes on. It never ends it.
    heard : (said : Bool) (a : After (Recover T (Buffer 128)) ReleaseState) (index count : ℕ) → c.stage ≡ recovers.Asks index count
        → recover_goes code given c (number_of said) ≡ a → NextThere a (m, h.visits) v
    heard said (GoOn d) index count is goes = heard_on code law given c is said goes h.at
    heard said (Done e) index count is goes = answer_last code law given c is said goes

    -- an answer leaves the recovery where it goes on, with the closure after that answer
    by_answer : (index count : ℕ) (is : c.stage ≡ recovers.Asks index count) (q : F) (said : Bool) → step p value said q
        → Further v (recover_goes code given c (if said then 1 else 0)) m q
    by_answer index count is q said hit =
        let free : shut ≡ false = asked_open code law given c is h.at in
        let same : recover_goes code given c (number_of said) ≡ recover_goes code given c (if said then 1 else 0) =
        ap (recover_goes code given c) (same_number said) in
        stepped v (recover_goes code given c (if said then 1 else 0)) m h.visits q (number_of said) same
        (heard said (recover_goes code given c (if said then 1 else 0)) index count is same)
        (subst (λ z. Onward recovery (recover_takes code.size c z given (if said then 1 else 0)) h.visits value q) (sym is)
        (answers_so recovery c index count said free (subst (RecoverIn code.size cap given.mode) is h.stands.1) hit
        (subst (λ z. SoFar recovery z h.visits value p) is h.so_far)))

    -- w is what the pass knows then, a how the recovery goes on, q its closure then
    module _ (w : View T) (a : After (Recover T (Buffer 128)) ReleaseState) (left : Buffer 128) (q : F) where
      -- A turn at a word leads the recovery to its next stage or its end.
      passes : (stage : RecoverStage) → c.stage ≡ stage → IsQuiet recovery stage
          → RecoverGoes code given v c m a left w → q ≡ p → Further w a left q
      passes stage same_stage quiet recover_goes_holds q_is_p = grind (arith, by_step)

      -- a turn at any stage leaves the recovery where it goes on, or ends it
      turned : (stage : RecoverStage) → c.stage ≡ stage → RecoverTurns code given stage v c m a left w
          → RecoverMoves step code.size c given stage value p a q → Further w a left q
      turned recovers.LoadsCounter is turns moves = passes recovers.LoadsCounter is tt turns moves
      turned (recovers.LoadsCell index) is turns moves = passes (recovers.LoadsCell index) is tt turns moves
      turned (recovers.LoadsCount index) is turns moves = passes (recovers.LoadsCount index) is tt turns moves
      turned (recovers.LoadsWord index count at) is turns moves = passes (recovers.LoadsWord index count at) is tt turns moves
      turned (recovers.ChecksCount index count) is turns moves = passes (recovers.ChecksCount index count) is tt turns moves
      turned (recovers.Asks index count) is turns moves =
          subst (λ (z : View T). Further z a left q) (sym turns.0)
          (subst (λ (x : Buffer 128). Further v a x q) (sym turns.1)
          (subst (λ r. Further v r m q) (sym moves.2) (by_answer index count is q moves.0 moves.1)))
      turned (recovers.EmptiesCell index count) is turns moves = passes (recovers.EmptiesCell index count) is tt turns moves
      turned (recovers.Hides index count) is turns moves = passes (recovers.Hides index count) is tt turns moves
      turned (recovers.Raises index raise) is turns moves = passes (recovers.Raises index raise) is tt turns moves
      turned (recovers.Locks index lock) is turns moves = passes (recovers.Locks index lock) is tt turns moves
      turned recovers.LoadsCounterAgain is turns moves = passes recovers.LoadsCounterAgain is tt turns moves
      turned (recovers.AddsChange state) is turns moves = passes (recovers.AddsChange state) is tt turns moves

    -- A turn at the stage of the recovery leads to its next stage or its end.
    pub further : {a r : After (Recover T (Buffer 128)) ReleaseState} (w : View T) (left : Buffer 128) (q : F) → a ≡ r
        → RecoverTurns code given c.stage v c m a left w → RecoverMoves step code.size c given c.stage value p a q → Further w r left q
    further {a} w left q is turns moves = subst (λ z. Further w z left q) is (turned w a left q c.stage refl turns moves)

    -- Where the closure may be called about values of the owner, it may be called at the
    -- stage of the recovery.
    pub may_go : {pre : F → T → Type 0} → (shut ≡ false → TakesValues pre step cap f) → RecoverAsks pre c.stage value p
    may_go takes = may_ask recovery takes c.stage h.stands.1 knows h.visits value p h.so_far

  -- ---- it passes cells

  -- a recovery that stands where it may stands at a cell below the capacity, if at a cell
  in_sight : (stage : RecoverStage) → RecoverIn code.size cap given.mode stage → IsWithin cap stage
  in_sight stage at = grind arith

  -- If the recovery stands at a cell, the cell is one of the container.
  pub may_pass : {v : View T} {c : Recover T (Buffer 128)} {m : Buffer 128} {p : F} → Standing v c m p → IsWithin c.capacity c.stage
  may_pass {c} h = subst (λ n. IsWithin n c.stage) (sym h.stands.0) (in_sight c.stage h.stands.1)

  -- The recovery stands at c in the view v (h), and passes cells up to d in the view w (`goes`).
  module _ {v w : View T} {c d : Recover T (Buffer 128)} {m : Buffer 128} {p : F} (h : Standing v c m p) (goes : RecoverPasses code given v c m d w) where
    -- where no cell was passed, the recovery stands where it stood
    stays : d ≡ c → Standing w d m p
    stays same =
        subst (λ z. Standing w z m p) (sym same)
        (record {
          visits = h.visits;
          at = subst (λ z. RecoverAt code given base w z (m, h.visits)) same (goes base h.visits h.at);
          stands = h.stands;
          so_far = h.so_far;
        })

    -- where it comes to from a cell
    lands : (index : ℕ) → index < cap → Asked recovery index h.visits p → (stage : RecoverStage) → PassesTo cap index stage
        → RecoverIn code.size cap given.mode stage × SoFar recovery stage h.visits (value_in_room m) p
    lands index within asked recovers.LoadsCounter to = absurd to
    lands index within asked (recovers.LoadsCell at) to = absurd to
    lands index within asked (recovers.LoadsCount at) to = (to.1, widen recovery asked to.0)
    lands index within asked (recovers.LoadsWord at count place) to = absurd to
    lands index within asked (recovers.ChecksCount at count) to = absurd to
    lands index within asked (recovers.Asks at count) to = absurd to
    lands index within asked (recovers.EmptiesCell at count) to = absurd to
    lands index within asked (recovers.Hides at count) to = absurd to
    lands index within asked (recovers.Raises at raise) to = absurd to
    lands index within asked (recovers.Locks at lock) to = absurd to
    lands index within asked recovers.LoadsCounterAgain to = (tt, widen recovery asked (omega arith))
    lands index within asked (recovers.AddsChange state) to = absurd to

    -- from a cell, the cells that were passed leave the recovery where it goes on
    comes_from : (index : ℕ) → c.stage ≡ recovers.LoadsCell index → HasPassed c.capacity index d → Standing w d m p
    comes_from index is passed =
        let within : index < cap = subst (RecoverIn code.size cap given.mode) is h.stands.1 in
        let asked : Asked recovery index h.visits p =
        subst (λ z. SoFar recovery z h.visits (value_in_room m) p) is h.so_far in
        let there = lands index within asked d.stage (subst (λ n. PassesTo n index d.stage) h.stands.0 passed.1) in
        record {
          visits = h.visits;
          at = goes base h.visits h.at;
          stands = (passed.0 ∙ h.stands.0, there.0);
          so_far = there.1;
        }

    -- whatever stage it came from, cells that were passed leave the recovery where it goes on
    came : (stage : RecoverStage) → c.stage ≡ stage → PassesFrom c stage d → Standing w d m p
    came recovers.LoadsCounter is same = stays same
    came (recovers.LoadsCell index) is passed = comes_from index is passed
    came (recovers.LoadsCount index) is same = stays same
    came (recovers.LoadsWord index count place) is same = stays same
    came (recovers.ChecksCount index count) is same = stays same
    came (recovers.Asks index count) is same = stays same
    came (recovers.EmptiesCell index count) is same = stays same
    came (recovers.Hides index count) is same = stays same
    came (recovers.Raises index raise) is same = stays same
    came (recovers.Locks index lock) is same = stays same
    came recovers.LoadsCounterAgain is same = stays same
    came (recovers.AddsChange state) is same = stays same

    -- Cells that were passed leave the recovery where it goes on, whatever its stage was.
    pub passed_on : PassesFrom c c.stage d → Standing w d m p
    passed_on passed = came c.stage refl passed

  -- A recovery that is about to begin has asked its closure nothing.
  pub starts : {c : Recover T (Buffer 128)} {m : Buffer 128} → c ≡ first_recover cap → m ≡ fresh_cell
      → RecoverAt code given base base (first_recover cap) (fresh_cell, [])
      → Standing base c m f
  starts c_is m_is_fresh_cell recover_at = grind arith
