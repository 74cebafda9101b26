-- How many atomic steps the calls on a queue take, from the bounds of the model.
use Rattle.lock_free_queues.proofs.Names.{◌≡◌, ◌≤◌, inl, inr, ℕ, ◌+◌, Bool, None, List, arith, Role, Producer, Consumer}
use Rattle.lock_free_queues.proofs.Names.{OneWord, PushEnd, QueueKind, IndexQueue, Overflow, Queue, LengthOf}
use Rattle.lock_free_queues.proofs.Names.{Coding, machine_kind, View, Calling, Ends, LeftOut, Over, Kind, takes_role, gives_role}
use Rattle.lock_free_queues.proofs.Names.{looks_role, counts_waiting, pushes_index, pops_index, peeks_index}
use Rattle.lock_free_queues.proofs.Names.{pushes_value, pops_value, peeks_value, pops_over}
use Rattle.model.specs.declared.families.queues.calls.LengthOf.TheVariants as measures
use Rattle.model.specs.declared.turn.Kind.TheVariants as kinds
use Rattle.model.specs.Progress.{guarantee_of}
use Rattle.history.specs.Steps.{TakesAtMost, TakesAlone}
use Rattle.history.proofs.Paid.{AllowsOne, TakesBy, takes, left_takes}
use Rattle.history_queues.proofs.Queues.{queue_pays}
use Rattle.history_queues.specs.Overflow.{pushes_over}

-- a call had not begun in the view `base`, and has ended in the view `w`
module _ {T : Type 0} {code : Coding T} {base w : View T} (idle : base.going ≡ None) where
  -- the call takes as many steps as the model says of it
  takes_here : {C M E : Type 0} (kd : QueueKind) {call : Calling T C M E} {e : E} {m : M} → Ends code (machine_kind kd) call base e m w
      → AllowsOne (guarantee_of (machine_kind kd) base.capacity code.size call.start)
      → TakesBy code (machine_kind kd) base.capacity (guarantee_of (machine_kind kd) base.capacity code.size call.start) base w
  takes_here kd {call} {e} {m} ends least = takes code (machine_kind kd) call base w e m idle (queue_pays code kd base) least ends

  -- a call that its history leaves out took one operation
  left_here : {C M E : Type 0} {kind : Kind} {call : Calling T C M E} {e : E} {m : M} → LeftOut code kind call base e m w → (most : ℕ) → 1 ≤ most
      → TakesAtMost most base w
  left_here {C} {M} {E} {kind} {call} {e} {m} left most least = left_takes code kind call base w e m most least left

  -- ---- roles and lengths

  -- a call that takes a role takes one operation on a word at most
  pub acquire_takes : (kd : QueueKind) (role : Role) {e : Bool} {m : Unit {0}} → Ends code (machine_kind kd) (takes_role role) base e m w → TakesAtMost 1 base w
  acquire_takes IndexQueue Producer ends = takes_here IndexQueue ends (omega arith)
  acquire_takes IndexQueue Consumer ends = takes_here IndexQueue ends (omega arith)
  acquire_takes Overflow Producer ends = takes_here Overflow ends (omega arith)
  acquire_takes Overflow Consumer ends = takes_here Overflow ends (omega arith)
  acquire_takes Queue Producer ends = takes_here Queue ends (omega arith)
  acquire_takes Queue Consumer ends = takes_here Queue ends (omega arith)

  -- a call that gives a role back takes one operation on a word at most
  pub release_takes : (kd : QueueKind) (role : Role) {e m : Unit {0}} → Ends code (machine_kind kd) (gives_role role) base e m w → TakesAtMost 1 base w
  release_takes IndexQueue Producer ends = takes_here IndexQueue ends (omega arith)
  release_takes IndexQueue Consumer ends = takes_here IndexQueue ends (omega arith)
  release_takes Overflow Producer ends = takes_here Overflow ends (omega arith)
  release_takes Overflow Consumer ends = takes_here Overflow ends (omega arith)
  release_takes Queue Producer ends = takes_here Queue ends (omega arith)
  release_takes Queue Consumer ends = takes_here Queue ends (omega arith)

  -- a call that looks whether a role is taken takes one operation on a word at most
  pub look_takes : (kd : QueueKind) (role : Role) {e : Bool} {m : Unit {0}} → Ends code (machine_kind kd) (looks_role role) base e m w → TakesAtMost 1 base w
  look_takes IndexQueue Producer ends = takes_here IndexQueue ends (omega arith)
  look_takes IndexQueue Consumer ends = takes_here IndexQueue ends (omega arith)
  look_takes Overflow Producer ends = takes_here Overflow ends (omega arith)
  look_takes Overflow Consumer ends = takes_here Overflow ends (omega arith)
  look_takes Queue Producer ends = takes_here Queue ends (omega arith)
  look_takes Queue Consumer ends = takes_here Queue ends (omega arith)

  -- a call on lengths takes at most four operations, and four more for each change of a word that others make meanwhile
  pub length_takes : (kd : QueueKind) (which : LengthOf) {n : ℕ} {m : Unit {0}}
      → Ends code (machine_kind kd) (counts_waiting which base.capacity) base n m w → TakesAlone 4 4 base w
  length_takes IndexQueue measures.Len ends = takes_here IndexQueue ends (omega arith)
  length_takes IndexQueue measures.IsEmpty ends = takes_here IndexQueue ends (omega arith)
  length_takes IndexQueue measures.IsFull ends = takes_here IndexQueue ends (omega arith)
  length_takes Overflow measures.Len ends = takes_here Overflow ends (omega arith)
  length_takes Overflow measures.IsEmpty ends = takes_here Overflow ends (omega arith)
  length_takes Overflow measures.IsFull ends = takes_here Overflow ends (omega arith)
  length_takes Queue measures.Len ends = takes_here Queue ends (omega arith)
  length_takes Queue measures.IsEmpty ends = takes_here Queue ends (omega arith)
  length_takes Queue measures.IsFull ends = takes_here Queue ends (omega arith)

  -- ---- pushes, pops and peeks

  -- A push of an index takes four operations at most.
  pub push_takes : {v : ℕ} {e : Bool} {m : Unit {0}} → Over code kinds.IndexQueue (pushes_index v) base e m w → TakesAtMost 4 base w
  push_takes (inl ends) = takes_here IndexQueue ends (omega arith)
  push_takes (inr left) = left_here left 4 (omega arith)

  -- A pop of an index takes four operations at most.
  pub pop_takes : {e : Bool} {m : OneWord} → Ends code kinds.IndexQueue pops_index base e m w → TakesAtMost 4 base w
  pop_takes ends = takes_here IndexQueue ends (omega arith)

  -- A peek at an index takes three operations at most.
  pub peek_takes : {e : Bool} {m : OneWord} → Ends code kinds.IndexQueue peeks_index base e m w → TakesAtMost 3 base w
  peek_takes ends = takes_here IndexQueue ends (omega arith)

  -- A push of a value takes at most three operations and one for each word of the value.
  pub value_push_takes : {x : T} {e : Bool} {m : Unit {0}} → Over code kinds.Queue (pushes_value code x) base e m w → TakesAtMost (3 + code.size) base w
  value_push_takes (inl ends) = takes_here Queue ends (omega arith)
  value_push_takes (inr left) = left_here left (3 + code.size) (omega arith)

  -- A pop of a value takes at most three operations and one for each word of the value.
  pub value_pop_takes : {R : Type 0} (words_in : R → List ℕ) {e : Bool} {m : R} → Ends code kinds.Queue (pops_value code words_in) base e m w
      → TakesAtMost (3 + code.size) base w
  value_pop_takes words_in ends = takes_here Queue ends (omega arith)

  -- A peek at a value takes at most two operations and one for each word of the value.
  pub value_peek_takes : {R : Type 0} (words_in : R → List ℕ) {e : Bool} {m : R} → Ends code kinds.Queue (peeks_value code words_in) base e m w
      → TakesAtMost (2 + code.size) base w
  value_peek_takes words_in ends = takes_here Queue ends (omega arith)

  -- A push into an overflowing queue takes six operations at most.
  pub over_push_takes : {v : ℕ} {e : PushEnd} {m : OneWord} → Over code kinds.Overflow (pushes_over v) base e m w → TakesAtMost 6 base w
  over_push_takes (inl ends) = takes_here Overflow ends (omega arith)
  over_push_takes (inr left) = left_here left 6 (omega arith)

  -- A pop from an overflowing queue takes four operations alone, and two more for each change
  -- of a word by others.
  pub over_pop_takes : {e : Bool} {m : OneWord} → Ends code kinds.Overflow pops_over base e m w → TakesAlone 4 2 base w
  over_pop_takes ends = takes_here Overflow ends (omega arith)
