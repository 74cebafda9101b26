-- What the answers of calls say: who holds an index, by begins and ends of calls, what a call that has finished has written, and
-- what holds where it ends.
use Rattle.std.specs.Prelude.{◌≡◌, ◌<◌, ℕ, ◌==◌, Bool, true, false, Option, Some, None, List, fold, if◌then◌else◌}
use Rattle.steps.specs.declared.indices.enums.ReleaseState.TheVariants as states
use Rattle.model.specs.declared.event.Answer.{Answer}
use Rattle.model.specs.declared.event.Answer.TheVariants.{Truth, Index, PoppedIndex, State}
use Rattle.model.specs.declared.event.Event.{Event}
use Rattle.model.specs.declared.event.Event.TheVariants.{Begun, Finished}
use Rattle.model.specs.declared.event.Start.{Start}
use Rattle.model.specs.declared.event.Start.TheVariants.{Bits, Indices, Robust, Container, Loan}
use Rattle.model.specs.declared.families.bits.BitsStart.TheVariants.{Set}
use Rattle.model.specs.declared.families.container.ContainerStart.TheVariants.{Add}
use Rattle.model.specs.declared.families.indices.IndexStart.TheVariants.{Acquire, Release}
use Rattle.model.specs.declared.families.indices.robust.RobustStart.TheVariants as owners
use Rattle.model.specs.declared.families.loan.LoanStart.TheVariants as loans
use Rattle.model.specs.declared.families.queues.QueueKind.TheVariants as queue_kinds
use Rattle.model.specs.declared.turn.Kind.{Kind}
use Rattle.model.specs.declared.turn.Kind.TheVariants as kinds
use Rattle.model.specs.Coding.{Coding}
use Rattle.model.specs.Families.Atomic.Promises as value
use Rattle.model.specs.Families.Bits.Promises.{BitsAnswerRight, BitsWrote, CountsAnswerRight, CountsWrote}
use Rattle.model.specs.Families.Bits.Reading.{standing}
use Rattle.model.specs.Families.Container.Promises as container
use Rattle.model.specs.Families.Indices.Promises as unique
use Rattle.model.specs.Families.Indices.Robust.Promises as robust
use Rattle.model.specs.Families.Indices.Robust.Promises.{IsWellFormed}
use Rattle.model.specs.Families.Indices.Robust.Reading.{settled_of}
use Rattle.model.specs.Families.Loan.Promises as channel
use Rattle.model.specs.Families.Queues.Book as book
use Rattle.model.specs.Families.Queues.Promises as queues
use Rattle.model.specs.Moments.{HeldSometime}
use Rattle.model.specs.Reading.{Each}
use Rattle.model.specs.World.{Trace}

-- who still has an index where a reclaim of this party begins: the party alone
abbrev pub kept_by : ℕ → Option ℕ → Option ℕ
kept_by p None = None
kept_by p (Some user) = if user == p then Some user else None

module _ {T : Type 0} where
  -- ---- holders, by calls alone: an index has one from the answer of an acquire to the begin of a release of it

  -- who holds index i after an event, where this party, or nobody, held it before
  abbrev pub holder_after : ℕ → Option ℕ → Event T → Option ℕ
  holder_after i holder (Finished p (Indices Acquire) (Index index)) = if index == i then Some p else holder
  holder_after i holder (Begun p (Indices (Release index mode))) = if index == i then None else holder
  holder_after i holder e = holder

  -- who holds index i after these events
  abbrev pub holder : ℕ → List (Event T) → Option ℕ
  holder i events = fold (holder_after i) None events

  -- whether a call has answered that the set is locked, after an event
  abbrev pub locked_after : Bool → Event T → Bool
  locked_after locked (Finished p start (State states.Locked)) = true
  locked_after locked e = locked

  -- whether a call has answered so in these events
  abbrev pub is_locked : List (Event T) → Bool
  is_locked events = fold locked_after false events

  -- Whoever is answered an index is its only holder. None is answered one once a release has answered that it locked the set,
  -- and as it answers so no index has a holder.
  abbrev pub HoldsAlone : ℕ → List (Event T) → Event T → Type 0
  HoldsAlone capacity before (Finished p (Indices Acquire) (Index index)) =
      (index < capacity) × (holder index before ≡ None) × (is_locked before ≡ false)
  HoldsAlone capacity before (Finished p (Indices (Release index mode)) (State states.Locked)) =
      (i : ℕ) → holder i before ≡ None
  HoldsAlone capacity before e = Unit {0}

  -- An index that is answered for an owner is one of the set, may be given back for nobody (`settled_of`: from the end of the
  -- acquire or add to the begin of a release or remove, or to a free), and no call has answered that the set is locked.
  abbrev pub IsAlone : ℕ → ℕ → List (Event T) → Type 0
  IsAlone capacity index before = (index < capacity) × (settled_of index before ≡ None) × (is_locked before ≡ false)

  -- The same of a robust set and a container: as a call answers that it is locked, no index may be given back.
  abbrev pub OwnersAlone : ℕ → List (Event T) → Event T → Type 0
  OwnersAlone capacity before (Finished p (Robust (owners.Acquire owner)) (Index index)) = IsAlone capacity index before
  OwnersAlone capacity before (Finished p (Container (Add value owner)) (Index index)) = IsAlone capacity index before
  OwnersAlone capacity before (Finished p start (State states.Locked)) = (i : ℕ) → settled_of i before ≡ None
  OwnersAlone capacity before e = Unit {0}

  -- Who has index i of a loan channel after an event: whoever was answered it by a loan or a receive, until a send, a give-up or a
  -- give-back of it begins, or a reclaim of another party.
  abbrev pub user_after : ℕ → Option ℕ → Event T → Option ℕ
  user_after i user (Finished p (Loan loans.Loan) (Index index)) = if index == i then Some p else user
  user_after i user (Finished p (Loan loans.Receive) (PoppedIndex index)) = if index == i then Some p else user
  user_after i user (Begun p (Loan (loans.Send index))) = if index == i then None else user
  user_after i user (Begun p (Loan (loans.GiveUp index))) = if index == i then None else user
  user_after i user (Begun p (Loan (loans.GiveBack index))) = if index == i then None else user
  user_after i user (Begun p (Loan loans.Reclaim)) = kept_by p user
  user_after i user e = user

  -- who has index i of a loan channel after these events
  abbrev pub user_of : ℕ → List (Event T) → Option ℕ
  user_of i events = fold (user_after i) None events

  -- an index that a loan or a receive answers is one of the channel, and nobody has it
  abbrev pub LoansAlone : ℕ → List (Event T) → Event T → Type 0
  LoansAlone capacity before (Finished p (Loan loans.Loan) (Index index)) = (index < capacity) × (user_of index before ≡ None)
  LoansAlone capacity before (Finished p (Loan loans.Receive) (PoppedIndex index)) = (index < capacity) × (user_of index before ≡ None)
  LoansAlone capacity before e = Unit {0}

  -- Whoever is answered an index has it alone. Of a robust set and a container this is said of runs in which each release and
  -- remove that freed an index was begun where it might give that index back.
  abbrev pub AreAlone : Kind → Trace T → Type 0
  AreAlone kinds.Indices t = Each (HoldsAlone t.world.capacity) t.events
  AreAlone kinds.Robust t = IsWellFormed t.events → Each (OwnersAlone t.world.capacity) t.events
  AreAlone kinds.Container t = IsWellFormed t.events → Each (OwnersAlone t.world.capacity) t.events
  AreAlone kinds.Loan t = Each (LoansAlone t.world.capacity) t.events
  AreAlone kind t = Unit {0}

  -- ---- answers and events

  -- what a call that has finished with this answer has written, and nothing else
  abbrev pub Wrote : Kind → ℕ → Start T → Answer T → List (Event T) → Type 0
  Wrote kinds.IndexQueue capacity start answer wrote = queues.wrote queue_kinds.IndexQueue capacity start answer wrote
  Wrote kinds.Overflow capacity start answer wrote = queues.wrote queue_kinds.Overflow capacity start answer wrote
  Wrote kinds.Queue capacity start answer wrote = queues.wrote queue_kinds.Queue capacity start answer wrote
  Wrote kinds.Atomic capacity start answer wrote = value.wrote capacity start answer wrote
  Wrote kinds.Bits capacity start answer wrote = BitsWrote capacity start answer wrote
  Wrote kinds.Counts capacity start answer wrote = CountsWrote capacity start answer wrote
  Wrote kinds.Indices capacity start answer wrote = unique.wrote capacity start answer wrote
  Wrote kinds.Robust capacity start answer wrote = robust.wrote capacity start answer wrote
  Wrote kinds.Container capacity start answer wrote = container.wrote capacity start answer wrote
  Wrote kinds.Loan capacity start answer wrote = channel.wrote capacity start answer wrote

  -- a set that answers true found its bit clear at a moment of the call
  abbrev pub FoundClear : List (Event T) → Event T → Type 0
  FoundClear before (Finished p (Bits (Set bit)) (Truth true)) = HeldSometime p (λ part. standing bit part ≡ 0) before
  FoundClear before e = Unit {0}

  -- What the answers say of where their calls end, and of moments of these calls. Of a loan channel nothing is said.
  abbrev pub Says : Kind → Coding T → ℕ → List (Event T) → Event T → Type 0
  Says kinds.IndexQueue code capacity before e = book.AnswersRight capacity before e
  Says kinds.Overflow code capacity before e = book.AnswersRight capacity before e
  Says kinds.Queue code capacity before e = book.AnswersRight capacity before e
  Says kinds.Atomic code capacity before e = value.AnswersRight code before e
  Says kinds.Bits code capacity before e = BitsAnswerRight capacity before e × FoundClear before e
  Says kinds.Counts code capacity before e = CountsAnswerRight capacity before e
  Says kinds.Indices code capacity before e = unique.AnswersRight capacity before e
  Says kinds.Robust code capacity before e = robust.AnswersRight capacity before e
  Says kinds.Container code capacity before e = container.AnswersRight capacity before e
  Says kind code capacity before e = Unit {0}
