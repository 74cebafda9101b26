-- What the main theorem's definitions of answers refuse, row by row.
use Rattle.std.proofs.Common.{◌≡◌, ℕ, ◌<◌, Bool, true, false, Option, Some, None, [], ◌∷◌, refl, sym, arith}
use Rattle.steps.specs.declared.container.enums.ContainerAddFailure.TheVariants as no_places
use Rattle.steps.specs.declared.indices.enums.ReleaseMode.TheVariants.{LockIfLastIndex}
use Rattle.steps.specs.declared.indices.enums.ReleaseState.TheVariants as states
use Rattle.steps.specs.declared.indices.enums.UniqueIndexSetAcquireFailure.TheVariants as failures
use Rattle.model.specs.declared.event.Answer.{Answer}
use Rattle.model.specs.declared.event.Answer.TheVariants.{Truth, Number, Loaded, Index, NoIndex, PoppedIndex, NoPlace, State, Done}
use Rattle.model.specs.declared.event.Event.TheVariants.{Acted, Begun, Finished, Freed}
use Rattle.model.specs.declared.event.Start.TheVariants.{Queues, Atomic, Bits, Indices, Robust, Container, Loan}
use Rattle.model.specs.declared.families.atomic.AtomicStart.TheVariants as values
use Rattle.model.specs.declared.families.bits.BitsStart.TheVariants as bits
use Rattle.model.specs.declared.families.container.ContainerStart.TheVariants as containers
use Rattle.model.specs.declared.families.indices.IndexStart.TheVariants.{Acquire, Release}
use Rattle.model.specs.declared.families.indices.robust.RobustStart.TheVariants as robust
use Rattle.model.specs.declared.families.loan.LoanStart.TheVariants as loans
use Rattle.model.specs.declared.families.queues.QueueStart.TheVariants.{PushIndex}
use Rattle.model.specs.declared.turn.Kind.TheVariants as kinds
use Rattle.model.specs.Coding.{one_word}
use Rattle.model.specs.Families.Indices.Robust.Promises.{IsWellFormed}
use Rattle.model.specs.Reading.{Each}
use Rattle.model.specs.World.{Trace}
use Rattle.headline_whole.specs.Answers.{AreAlone, HoldsAlone, LoansAlone, OwnersAlone, Says, Wrote, holder, user_of}

no_bool : (b c : Bool) → b ≡ false → c ≡ true → b ≡ c → ⊥
no_bool b c x y same = cc

no_party : (o : Option ℕ) (p : ℕ) → o ≡ Some p → o ≡ None → ⊥
no_party o p x y = cc

no_length : (n : ℕ) → n ≡ 0 → n ≡ 1 → ⊥
no_length n x y = omega arith

no_load : (a b : Answer ℕ) → a ≡ Loaded 7 → b ≡ Loaded 0 → a ≡ b → ⊥
no_load a b x y same = cc

-- ---- holders by answers

-- two acquires are answered one index
twice_refused : Each (HoldsAlone {T = ℕ} 1) (Finished 0 (Indices Acquire) (Index 0) ∷ Finished 1 (Indices Acquire) (Index 0) ∷ []) → ⊥
twice_refused h =
    no_party _ 0 refl (h (Finished 0 (Indices Acquire) (Index 0) ∷ []) [] (Finished 1 (Indices Acquire) (Index 0)) refl).1

-- an acquire is answered an index after the lock
late_refused : Each (HoldsAlone {T = ℕ} 1)
    (Finished 0 (Indices (Release 0 LockIfLastIndex)) (State states.Locked) ∷ Finished 1 (Indices Acquire) (Index 0) ∷ []) → ⊥
late_refused h =
    no_bool false true refl refl
    (sym (h (Finished 0 (Indices (Release 0 LockIfLastIndex)) (State states.Locked) ∷ []) [] (Finished 1 (Indices Acquire) (Index 0)) refl).2)

-- the set is locked while an index has a holder
locked_refused : Each (HoldsAlone {T = ℕ} 2)
    (Finished 0 (Indices Acquire) (Index 0) ∷ Finished 1 (Indices (Release 1 LockIfLastIndex)) (State states.Locked) ∷ []) → ⊥
locked_refused h =
    no_party _ 0 refl
    (h (Finished 0 (Indices Acquire) (Index 0) ∷ []) [] (Finished 1 (Indices (Release 1 LockIfLastIndex)) (State states.Locked)) refl 0)

-- an acquire and an add are answered an index that may be given back for another owner
owned_refused : Each (OwnersAlone {T = ℕ} 1) (Finished 0 (Robust (robust.Acquire 7)) (Index 0) ∷ Finished 1 (Robust (robust.Acquire 9)) (Index 0) ∷ []) → ⊥
owned_refused h =
    no_party _ 7 refl (h (Finished 0 (Robust (robust.Acquire 7)) (Index 0) ∷ []) [] (Finished 1 (Robust (robust.Acquire 9)) (Index 0)) refl).1

added_refused : Each (OwnersAlone {T = ℕ} 1)
    (Finished 0 (Container (containers.Add 5 7)) (Index 0) ∷ Finished 1 (Container (containers.Add 6 9)) (Index 0) ∷ []) → ⊥
added_refused h =
    no_party _ 7 refl (h (Finished 0 (Container (containers.Add 5 7)) (Index 0) ∷ []) [] (Finished 1 (Container (containers.Add 6 9)) (Index 0)) refl).1

-- a recovery answers that the set is locked while an index may be given back
owned_lock_refused : Each (OwnersAlone {T = ℕ} 2)
    (Finished 0 (Robust (robust.Acquire 7)) (Index 0) ∷ Finished 1 (Robust (robust.Recover LockIfLastIndex)) (State states.Locked) ∷ []) → ⊥
owned_lock_refused h =
    no_party _ 7 refl
    (h (Finished 0 (Robust (robust.Acquire 7)) (Index 0) ∷ []) [] (Finished 1 (Robust (robust.Recover LockIfLastIndex)) (State states.Locked)) refl 0)

-- an acquire, or a release of another index, that begins takes an index from nobody, and a release of this one does
holder_says : (holder {T = ℕ} 0 (Finished 0 (Indices Acquire) (Index 0) ∷ Begun 0 (Indices Acquire) ∷ Begun 1 (Indices Acquire) ∷ []) ≡ Some 0)
    × (holder {T = ℕ} 0 (Finished 0 (Indices Acquire) (Index 0) ∷ Begun 0 (Indices (Release 1 LockIfLastIndex)) ∷ []) ≡ Some 0)
    × (holder {T = ℕ} 0 (Finished 0 (Indices Acquire) (Index 0) ∷ Begun 0 (Indices (Release 0 LockIfLastIndex)) ∷ []) ≡ None)
holder_says = (refl, refl, refl)

-- a loan and a receive are answered an index that somebody has
loaned_refused : Each (LoansAlone {T = ℕ} 1) (Finished 0 (Loan loans.Loan) (Index 0) ∷ Finished 0 (Loan loans.Loan) (Index 0) ∷ []) → ⊥
loaned_refused h = no_party _ 0 refl (h (Finished 0 (Loan loans.Loan) (Index 0) ∷ []) [] (Finished 0 (Loan loans.Loan) (Index 0)) refl).1

received_refused : Each (LoansAlone {T = ℕ} 1) (Finished 0 (Loan loans.Loan) (Index 0) ∷ Finished 1 (Loan loans.Receive) (PoppedIndex 0) ∷ []) → ⊥
received_refused h = no_party _ 0 refl (h (Finished 0 (Loan loans.Loan) (Index 0) ∷ []) [] (Finished 1 (Loan loans.Receive) (PoppedIndex 0)) refl).1

-- a loan is answered an index that the receiver has, though it was freed: no reclaim has begun
freed_refused : Each (LoansAlone {T = ℕ} 1)
    (Finished 1 (Loan loans.Receive) (PoppedIndex 0) ∷ Freed 0 0 ∷ Finished 0 (Loan loans.Loan) (Index 0) ∷ []) → ⊥
freed_refused h =
    no_party _ 1 refl (h (Finished 1 (Loan loans.Receive) (PoppedIndex 0) ∷ Freed 0 0 ∷ []) [] (Finished 0 (Loan loans.Loan) (Index 0)) refl).1

-- as the sender's reclaim begins it has what it had, and the receiver nothing
reclaim_says : (user_of {T = ℕ} 0 (Finished 0 (Loan loans.Loan) (Index 0) ∷ Begun 0 (Loan loans.Reclaim) ∷ []) ≡ Some 0)
    × (user_of {T = ℕ} 0 (Finished 1 (Loan loans.Receive) (PoppedIndex 0) ∷ Begun 0 (Loan loans.Reclaim) ∷ []) ≡ None)
reclaim_says = (refl, refl)

-- a call that begins takes an index from nobody, but a send of this index does
begins_say : (user_of {T = ℕ} 0 (Finished 0 (Loan loans.Loan) (Index 0) ∷ Begun 0 (Loan loans.Loan) ∷ Begun 1 (Loan loans.Receive) ∷ []) ≡ Some 0)
    × (user_of {T = ℕ} 0 (Finished 0 (Loan loans.Loan) (Index 0) ∷ Begun 0 (Loan (loans.Send 1)) ∷ []) ≡ Some 0)
    × (user_of {T = ℕ} 0 (Finished 0 (Loan loans.Loan) (Index 0) ∷ Begun 0 (Loan (loans.Send 0)) ∷ []) ≡ None)
begins_say = (refl, refl, refl)

-- what is said of each kind
alone_says : (t : Trace ℕ)
    → (AreAlone kinds.Indices t ≡ Each (HoldsAlone t.world.capacity) t.events)
    × (AreAlone kinds.Robust t ≡ (IsWellFormed t.events → Each (OwnersAlone t.world.capacity) t.events))
    × (AreAlone kinds.Container t ≡ (IsWellFormed t.events → Each (OwnersAlone t.world.capacity) t.events))
    × (AreAlone kinds.Loan t ≡ Each (LoansAlone t.world.capacity) t.events)
alone_says t = (refl, refl, refl, refl)

-- ---- what calls have written: a call of another family has written nothing right

wrote_index : Wrote {T = ℕ} kinds.IndexQueue 1 (Bits bits.ResetAll) Done [] → ⊥
wrote_index h = h

wrote_overflow : Wrote {T = ℕ} kinds.Overflow 1 (Bits bits.ResetAll) Done [] → ⊥
wrote_overflow h = h

wrote_queue : Wrote {T = ℕ} kinds.Queue 1 (Bits bits.ResetAll) Done [] → ⊥
wrote_queue h = h

wrote_atomic : Wrote {T = ℕ} kinds.Atomic 1 (Bits bits.ResetAll) Done [] → ⊥
wrote_atomic h = h

wrote_bits : Wrote {T = ℕ} kinds.Bits 1 (Bits (bits.Set 0)) (Truth true) [] → ⊥
wrote_bits h = no_length 0 refl h.0

wrote_counts : Wrote {T = ℕ} kinds.Counts 1 (Bits (bits.Set 0)) (Number 0) [] → ⊥
wrote_counts h = no_length 0 refl h.0

wrote_indices : Wrote {T = ℕ} kinds.Indices 1 (Bits bits.ResetAll) Done [] → ⊥
wrote_indices h = h

wrote_robust : Wrote {T = ℕ} kinds.Robust 1 (Bits bits.ResetAll) Done [] → ⊥
wrote_robust h = h

wrote_container : Wrote {T = ℕ} kinds.Container 1 (Bits bits.ResetAll) Done [] → ⊥
wrote_container h = h

wrote_loan : Wrote {T = ℕ} kinds.Loan 1 (Bits bits.ResetAll) Done [] → ⊥
wrote_loan h = h

-- ---- what answers say

says_index : Says kinds.IndexQueue one_word 1 [] (Acted 0 (Queues (PushIndex 7)) (Truth false)) → ⊥
says_index h = no_length 0 refl h

says_overflow : Says kinds.Overflow one_word 1 [] (Acted 0 (Queues (PushIndex 7)) (Truth false)) → ⊥
says_overflow h = no_length 0 refl h

says_queue : Says kinds.Queue one_word 1 [] (Acted 0 (Queues (PushIndex 7)) (Truth false)) → ⊥
says_queue h = no_length 0 refl h

says_atomic : Says kinds.Atomic one_word 1 [] (Acted 0 (Atomic values.Load) (Loaded 7)) → ⊥
says_atomic h = no_load _ _ refl refl h

says_bits : Says kinds.Bits one_word 1 [] (Finished 0 (Bits (bits.IsSet 5)) (Truth true)) → ⊥
says_bits h = let less : 5 < 1 = h.0.0 in omega arith

says_counts : Says kinds.Counts one_word 1 [] (Finished 0 (Bits (bits.Count 5)) (Number 0)) → ⊥
says_counts h = let less : 5 < 1 = h.0 in omega arith

says_indices : Says kinds.Indices one_word 1 [] (Finished 0 (Indices Acquire) (NoIndex failures.IsLocked)) → ⊥
says_indices h = no_bool _ _ refl refl h

says_robust : Says kinds.Robust one_word 1 [] (Finished 0 (Robust (robust.Acquire 1)) (NoIndex failures.IsLocked)) → ⊥
says_robust h = no_bool _ _ refl refl h

says_container : Says kinds.Container one_word 1 [] (Finished 0 (Container (containers.Add 7 1)) (NoPlace no_places.IsLocked)) → ⊥
says_container h = no_bool _ _ refl refl h
