-- A step of one party leaves the calls of the other parties where they stood, knowing what they knew.
use Rattle.laws_queues.proofs.Names.{◌≡◌, ◌≢◌, ℕ, Option, Some, List, refl, sym, ◌∙◌, Buffer, OneWord, RoleCall}
use Rattle.laws_queues.proofs.Names.{QueueFlight, Role, Indices, Values, Length, QueueStart, Roles, QueueKind, Coding}
use Rattle.laws_queues.proofs.Names.{one_word}
use native.Mathlib.Omega.{arith}
use Rattle.steps.specs.declared.queues.ring.PushStage as pushes
use Rattle.steps.specs.declared.queues.ring.PopStage as pops
use Rattle.steps.specs.declared.queues.overflow.PushStage as overflow_pushes
use Rattle.steps.specs.declared.queues.overflow.PopStage as overflow_pops
use Rattle.model.specs.declared.families.queues.calls.RingCall as rings
use Rattle.model.specs.declared.families.queues.calls.OverflowCall as overflows
use Rattle.model.specs.declared.families.queues.calls.QueueFlight.TheVariants.{Overflow}
use Rattle.model.specs.declared.families.queues.QueueKind.TheVariants as kinds
use Rattle.laws_queues.proofs.Queues.Core.{Core}
use Rattle.laws_queues.proofs.Queues.Values.{Val}
use Rattle.laws_queues.proofs.Ring.Keeping.{peek_keeps}
use Rattle.laws_queues.proofs.Ring.Knows.{KnowsPush, KnowsPop}
use Rattle.laws_queues.proofs.Overflow.Knows.{KnowsOverflowPush, KnowsOverflowPop, overflow_wrote, OverflowAt}
use Rattle.laws_queues.proofs.Queues.Knows.{has_written, RoleAt, IndexAt, ValueAt, At}

-- a role has one holder: no two parties hold it
pub clash : (o : Option ℕ) (p q : ℕ) → q ≢ p → o ≡ Some p → o ≡ Some q → ⊥
clash o p q ne first_some second_some = let same : Some p ≡ Some q = sym first_some ∙ second_some in ne (cc)

-- of a bounded queue that goes from `k` to `k'`: a push or a pop of the party `q` knows what it knew
pub record RingKeeps {V : Type 0} (en : Coding V) (c : ℕ) (ro : Roles) (k k' : Core V) (q : ℕ) : Type 0 where
  pub push : ro.producer ≡ Some q → (v : V) (stage : pushes.PushStage) → KnowsPush en c k v stage → KnowsPush en c k' v stage
  pub pop : ro.consumer ≡ Some q → (room : List ℕ) (stage : pops.PopStage) → KnowsPop en c k room stage → KnowsPop en c k' room stage

-- of an overflowing queue that goes from `k` to `k'`: a push or a pop of the party `q` knows what it knew,
-- and the push has written the same
pub record OverflowKeeps (T : Type 0) (c : ℕ) (ro : Roles) (k k' : Core ℕ) (q : ℕ) : Type 0 where
  pub push : ro.producer ≡ Some q → (v : ℕ) (stage : overflow_pushes.PushStage) → KnowsOverflowPush c k v stage
      → KnowsOverflowPush c k' v stage × (overflow_wrote {T = T} c k' q v stage ≡ overflow_wrote c k q v stage)
  pub pop : ro.consumer ≡ Some q → (room : OneWord) (stage : overflow_pops.PopStage) → KnowsOverflowPop c k room stage → KnowsOverflowPop c k' room stage

-- what pushes and pops of this kind of queue know stays known
abbrev pub Keeps : {T : Type 0} → Coding T → (kd : QueueKind) → ℕ → Roles → Core (Val T kd) → Core (Val T kd) → ℕ → Type 0
Keeps en kinds.IndexQueue c ro k k' q = RingKeeps one_word c ro k k' q
Keeps {T = T} en kinds.Overflow c ro k k' q = OverflowKeeps T c ro k k' q
Keeps en kinds.Queue c ro k k' q = RingKeeps en c ro k k' q

-- pushes and pops keep what they know where the queue stays
pub keeps_same : {T : Type 0} → (en : Coding T) (kd : QueueKind) (c : ℕ) (ro : Roles) (k : Core (Val T kd)) (q : ℕ) → Keeps en kd c ro k k q
keeps_same en kinds.IndexQueue c ro k q = record { push = λ mine v stage h. h; pop = λ mine room stage h. h }
keeps_same en kinds.Overflow c ro k q = record { push = λ mine v stage h. (h, refl); pop = λ mine room stage h. h }
keeps_same en kinds.Queue c ro k q = record { push = λ mine v stage h. h; pop = λ mine room stage h. h }

-- `ro` and `ro'` hold the roles before and after a step, and the party `q` keeps those that it has
pub record KeepsRoles (ro ro' : Roles) (q : ℕ) : Type 0 where
  pub producer : ro.producer ≡ Some q → ro'.producer ≡ Some q
  pub consumer : ro.consumer ≡ Some q → ro'.consumer ≡ Some q

-- each party keeps its roles where the roles stay
pub same_roles : (ro : Roles) (q : ℕ) → KeepsRoles ro ro q
same_roles ro q = record { producer = λ h. h; consumer = λ h. h }

-- the party `q` keeps the roles that it has, so its calls stand where they stood
module _ {ro ro' : Roles} {q : ℕ} (roles : KeepsRoles ro ro' q) where
  -- a call on a role stands where it stood
  role_kept : {T : Type 0} → (start : QueueStart T) (call : RoleCall) → RoleAt ro q start call → RoleAt ro' q start call
  role_kept = grind arith

  module _ {T : Type 0} (en : Coding T) (c : ℕ) where
    -- a call of the index queue stands where it stood
    index_kept : (k k' : Core ℕ) → RingKeeps one_word c ro k k' q → (start : QueueStart T) (call : rings.RingCall ℕ OneWord)
        → IndexAt kinds.IndexQueue c ro k q start call → IndexAt kinds.IndexQueue c ro' k' q start call
    index_kept = grind (arith, peek_keeps)

    -- a call of the queue of values stands where it stood
    value_kept : (k k' : Core T) → RingKeeps en c ro k k' q → (start : QueueStart T) (call : rings.RingCall T (Buffer 128))
        → ValueAt en kinds.Queue c ro k q start call → ValueAt en kinds.Queue c ro' k' q start call
    value_kept = grind (arith, peek_keeps)

    -- a push or a pop of the overflowing queue stands where it stood, and has written the same
    overflow_kept : (k k' : Core ℕ) → OverflowKeeps T c ro k k' q → (start : QueueStart T) (call : overflows.OverflowCall) → OverflowAt c ro k q start call
        → OverflowAt c ro' k' q start call × (has_written {T = T} c k' q (Overflow call) ≡ has_written c k q (Overflow call))
    overflow_kept = grind arith

    -- the call of the party `q` stands where it stood, and has written the same
    abbrev KeptAt : (kd : QueueKind) → Core (Val T kd) → Core (Val T kd) → QueueStart T → QueueFlight T → Type 0
    KeptAt kd k k' start flight =
        At en kd c ro k q start flight → At en kd c ro' k' q start flight × (has_written {T = T} c k' q flight ≡ has_written c k q flight)

    -- a call of another party stands where it stood, whatever its kind, where pushes and pops of the
    -- queue's kind keep what they know
    pub kept : (kd : QueueKind) (k k' : Core (Val T kd)) → Keeps en kd c ro k k' q
        → (start : QueueStart T) (flight : QueueFlight T) → KeptAt kd k k' start flight
    kept kd k k' keeps start (Role call) h = (role_kept start call h, refl)
    kept kinds.IndexQueue k k' keeps start (Indices call) h = (index_kept k k' keeps start call h, refl)
    kept kinds.Overflow k k' keeps start (Indices call) h = absurd h
    kept kinds.Queue k k' keeps start (Indices call) h = absurd h
    kept kinds.IndexQueue k k' keeps start (Values call) h = absurd h
    kept kinds.Overflow k k' keeps start (Values call) h = absurd h
    kept kinds.Queue k k' keeps start (Values call) h = (value_kept k k' keeps start call h, refl)
    kept kinds.IndexQueue k k' keeps start (Overflow call) h = absurd h
    kept kinds.Overflow k k' keeps start (Overflow call) h = overflow_kept k k' keeps start call h
    kept kinds.Queue k k' keeps start (Overflow call) h = absurd h
    kept kd k k' keeps start (Length which call) h = (h, refl)
