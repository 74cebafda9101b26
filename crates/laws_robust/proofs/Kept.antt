-- The invariant gives what a robust index set promises of its events; and how many steps and turns back a
-- call has at most.
use Rattle.laws_robust.proofs.Names.{◌≡◌, ℕ, ◌+◌, ◌-◌, ◌*◌, ◌≤◌, Option, List, ap, ◌∙◌, arith, ReleaseMode}
use Rattle.laws_robust.proofs.Names.{LockIfLastIndex, AcquireStage, FindStage, Count, Lock, RecoverStage}
use Rattle.laws_robust.proofs.Names.{ReleaseStage, RobustStart, RobustFlight, Coding, most_steps, IsRobustSet, SetAct}
use Rattle.laws_robust.proofs.Names.{Trace}
use Rattle.model.specs.declared.families.indices.robust.RobustStart.TheVariants as starts
use Rattle.model.proofs.Frame as frame
use Rattle.laws_robust.specs.Gone.{Death}
use Rattle.laws_robust.proofs.Core.{cell}
use Rattle.laws_robust.proofs.Gone.{asks_right, answers_right}
use Rattle.laws_robust.proofs.Invariant.{family}
use Rattle.laws_robust.proofs.Knows.{View, Paid}
use Rattle.laws_robust.proofs.CallProgress.{count_number, lock_number, acquire_number, for_back, for_index, release_number}
use Rattle.laws_robust.proofs.CallProgress.{recover_number, find_number, number_of, AcquireAt, CountAt, LockAt, ReleaseAt}
use Rattle.laws_robust.proofs.CallProgress.{FindAt, RecoverAt, At}

-- ---- how many steps a call has taken

-- a count has taken at most `c + 1` steps
pub count_most : (c : ℕ) (count : Count) → CountAt c count → count_number c count ≤ c + 1
count_most c count at = grind arith

-- a lock has taken at most `c + 2` steps
pub lock_most : (c : ℕ) (lock : Lock) → LockAt c lock → lock_number c lock ≤ c + 2
lock_most = grind (arith, count_most)

-- an acquire has taken no more steps than its bound
pub acquire_most : (c owner : ℕ) (all : List SetAct) (stage : AcquireStage) (backs : ℕ) → AcquireAt c owner all stage
    → acquire_number c stage backs ≤ c + 3 + backs * (c + 1)
acquire_most c owner all stage backs at = grind arith

-- a release has taken no more steps than its bound
pub release_most : (c index owner : ℕ) (mode : ReleaseMode) (all : List SetAct) (stage : ReleaseStage) (backs : ℕ) → ReleaseAt c index owner mode all stage
    → release_number c mode stage backs ≤ most_steps c (starts.Release index owner mode) backs
release_most c index owner mode all stage backs at = grind arith

-- a find has taken no more steps than the capacity
find_most : (c : ℕ) (all : List SetAct) (stage : FindStage) → FindAt c all stage → find_number stage ≤ c
find_most = grind arith

-- a recovery has taken at most two steps, those for each index, and those for each turn back
recover_at_most : (c : ℕ) (mode : ReleaseMode) (all : List SetAct) (stage : RecoverStage) (backs : ℕ) → 4 ≤ for_index c mode
    → ((lock : Lock) → mode ≡ LockIfLastIndex → LockAt c lock → lock_number c lock + 5 ≤ for_index c mode)
    → RecoverAt c mode all stage
    → recover_number c mode stage backs ≤ 2 + c * for_index c mode + backs * for_back c mode
recover_at_most c mode all stage backs wide lock at = grind arith

-- a recovery has taken no more steps than its bound
recover_most : (c : ℕ) (mode : ReleaseMode) (all : List SetAct) (stage : RecoverStage) (backs : ℕ)
    → RecoverAt c mode all stage
    → recover_number c mode stage backs ≤ most_steps c (starts.Recover mode) backs
recover_most = grind (arith, recover_at_most, lock_most)

-- no call has taken more steps than its bound
pub steps_most : (c : ℕ) (all : List SetAct) (backs : ℕ) (start : RobustStart) (flight : RobustFlight)
    → At c all start flight → number_of c flight backs ≤ most_steps c start backs
steps_most = grind (arith, acquire_most, release_most, find_most, recover_most, count_most)

module _ {T : Type 0} where
  -- ---- how often it has turned back

  -- each turn back of a call is paid by a change of a word since it began
  pub held_paid : (held : Option ℕ) (v : View T) → Paid held v → v.backs ≤ v.changes - v.since
  held_paid = grind arith

  -- what the family says of the steps and turn-backs of a call under way (`Bounds`)
  pub bounds : (code : Coding T) (c : ℕ) → frame.Bounds (family code c)
  bounds = grind (arith, steps_most, held_paid)

  -- ---- what is promised

  -- the invariant gives what is promised of a set whose owners die
  pub set_kept : (code : Coding T) {t : Trace T} → (s : frame.Sound (family code t.world.capacity) t) → IsRobustSet t
  set_kept code {t = t} s =
      let set_good = s.holds.good in
      record {
        does = set_good.does;
        asks = asks_right t.events s.holds.asks;
        holds = λ well_formed. set_good.holds (well_formed, tt);
        answers = answers_right ⊥ (λ worn. worn) Death t.world.capacity t.events tt set_good.answers;
        cells = λ index below. ap (λ ws. cell ws index) s.fit.words ∙ set_good.cells index below;
        lock = rw s.fit.words set_good.lock;
        dead = rw s.fit.kept (λ owner. set_good.died owner);
      }
