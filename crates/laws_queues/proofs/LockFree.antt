-- The index queue, the queue and the overflowing queue are lock-free: the measure of a call falls with each of its steps.
use Rattle.std.proofs.Common.{◌≡◌, ℕ, ◌+◌, ◌-◌, ◌*◌, ◌<◌, ◌≤◌, ◌==◌, ◌^◌, max, Bool, true, false, cond}
use Rattle.std.proofs.Common.{Option, Some, None, List, get_or, set, get_or-set_other, refl, arith}
use Rattle.std.proofs.Math.Nat.{mul-le-mul_left}
use Rattle.std.proofs.lemmas.Bool.Decides.{nat_tests}
use Rattle.steps.specs.Queues.Ring.{word_at, cell_word}
use Rattle.steps.specs.Queues.Overflow as overflow
use Rattle.steps.specs.declared.queues.lengths.LenStage.{LenStage}
use Rattle.steps.specs.declared.queues.lengths.LenStage.TheVariants as lens
use Rattle.steps.specs.declared.queues.overflow.PushStage.{PushStage}
use Rattle.steps.specs.declared.queues.overflow.PushStage.TheVariants as overflow_pushes
use Rattle.steps.specs.declared.queues.overflow.PopStage.{PopStage}
use Rattle.steps.specs.declared.queues.overflow.PopStage.TheVariants as overflow_pops
use Rattle.steps.specs.declared.queues.ring.Push.{Push}
use Rattle.steps.specs.declared.queues.ring.PushStage as pushes
use Rattle.steps.specs.declared.queues.ring.PopStage as pops
use Rattle.steps.specs.declared.queues.peek.PeekStage.{PeekStage}
use Rattle.steps.specs.declared.queues.peek.PeekStage.TheVariants as peeks
use Rattle.model.specs.declared.event.Start.{Start}
use Rattle.model.specs.declared.event.Start.TheVariants as starts
use Rattle.model.specs.declared.families.Flight.{Flight}
use Rattle.model.specs.declared.families.Flight.TheVariants as flights
use Rattle.model.specs.declared.families.Registry.{Registry}
use Rattle.model.specs.declared.families.Registry.TheVariants as registries
use Rattle.model.specs.declared.families.queues.QueueKind.{QueueKind}
use Rattle.model.specs.declared.families.queues.QueueKind.TheVariants as queue_kinds
use Rattle.model.specs.declared.families.queues.calls.OverflowCall.TheVariants as overflows
use Rattle.model.specs.declared.families.queues.calls.QueueFlight.{QueueFlight}
use Rattle.model.specs.declared.families.queues.calls.QueueFlight.TheVariants.{Role, Indices, Values, Overflow, Length}
use Rattle.model.specs.declared.families.queues.calls.RingCall.TheVariants as rings
use Rattle.model.specs.Coding.{Coding, IsCoding}
use Rattle.model.specs.Families.{opening_of, first_of, want_of, after_of, goes_of, step_of, is_question, kept_after_begin, kept_after_death}
use Rattle.model.specs.LockFree.{KeepsEnding, stretch}
use Rattle.model.specs.World.{capacity_error}
use Rattle.model.proofs.LockFree.Falls.{same_is, load_leaves, LeavesAll, StepFalls}
use Rattle.model.proofs.LockFree.Measure.{WordMeasure}
use Rattle.model.proofs.LockFree.Own.{Outline, TableLaws, by_table, OwnAfter, keeps_ending}
use Rattle.laws_queues.proofs.Queues.Core.{cell_within}
use Rattle.laws_queues.proofs.Queues.Invariant.{machine_kind}
use Rattle.laws_queues.proofs.Queues.Sound.{admitted_fits}

-- ---- how many steps a call takes at most before its last one, while neither position moves

abbrev len_left : ℕ → ℕ → LenStage → ℕ
len_left write read lens.LoadsWrite = 3
len_left write read (lens.LoadsRead w) = cond (write == w) 2 5
len_left write read (lens.LoadsWriteAgain w r) = cond (write == w) (cond (read == r) 1 5) 4
len_left write read (lens.LoadsReadAgain w r) = cond (read == r) 0 4

abbrev push_left : ℕ → pushes.PushStage → ℕ
push_left size pushes.TheVariants.LoadsWrite = size - 1 + 3
push_left size (pushes.TheVariants.LoadsRead write) = size - 1 + 2
push_left size (pushes.TheVariants.StoresCell write cell at) = size - (at + 1) + 1
push_left size (pushes.TheVariants.StoresWrite write) = 0

abbrev pop_left : ℕ → pops.PopStage → ℕ
pop_left size pops.TheVariants.LoadsRead = size - 1 + 3
pop_left size (pops.TheVariants.LoadsWrite read) = size - 1 + 2
pop_left size (pops.TheVariants.LoadsCell read cell at) = size - (at + 1) + 1
pop_left size (pops.TheVariants.StoresRead read) = 0

abbrev peek_left : ℕ → PeekStage → ℕ
peek_left size peeks.LoadsRead = size - 1 + 2
peek_left size (peeks.LoadsWrite read) = size - 1 + 1
peek_left size (peeks.LoadsCell cell at) = size - (at + 1)

abbrev over_left : ℕ → PopStage → ℕ
over_left read overflow_pops.FindsNone = 0
over_left read overflow_pops.LoadsRead = 3
over_left read (overflow_pops.LoadsWrite r) = cond (read == r) 2 4
over_left read (overflow_pops.LoadsCell r) = cond (read == r) 1 3
over_left read (overflow_pops.MovesRead r) = cond (read == r) 0 2

-- ---- how many changes it makes at most before its last step that can add to the steps of others

-- a push moves the write position, and where the queue was full the read position
abbrev over_pays : PushStage → ℕ
over_pays overflow_pushes.HandsBack = 0
over_pays (overflow_pushes.MovesRead read) = 1
over_pays (overflow_pushes.LoadsCell read) = 0
over_pays stage = 2

module _ {T : Type 0} where
  -- the steps that a call has left at its stage, if nobody moves a position
  abbrev call_left : ℕ → ℕ → ℕ → QueueFlight T → ℕ
  call_left size write read (Role call) = 0
  call_left size write read (Indices (rings.Push run)) = push_left 1 run.call.stage
  call_left size write read (Indices (rings.Pop run)) = pop_left 1 run.call.stage
  call_left size write read (Indices (rings.Peek run)) = peek_left 1 run.call.stage
  call_left size write read (Values (rings.Push run)) = push_left size run.call.stage
  call_left size write read (Values (rings.Pop run)) = pop_left size run.call.stage
  call_left size write read (Values (rings.Peek run)) = peek_left size run.call.stage
  call_left size write read (Overflow (overflows.Push run)) = overflow.push_left run.call.stage
  call_left size write read (Overflow (overflows.Pop run)) = over_left read run.call.stage
  call_left size write read (Length which run) = len_left write read run.call.stage

  abbrev left_at : ℕ → ℕ → ℕ → Flight T → ℕ
  left_at size write read (flights.Queues flight) = call_left size write read flight
  left_at size write read flight = 0

  abbrev call_pays : QueueFlight T → ℕ
  call_pays (Overflow (overflows.Push run)) = over_pays run.call.stage
  call_pays flight = 0

  abbrev pays : Flight T → ℕ
  pays (flights.Queues flight) = call_pays flight
  pays flight = 0

  abbrev measure : ℕ → ℕ → ℕ → WordMeasure T
  measure size alone changes =
      record { left = λ words flight. left_at size (get_or words 0 0) (get_or words 1 0) flight; pays = pays; alone = alone; changes = changes }

-- ---- the numbers of the measure, and where a call stands, by the kind of queue

abbrev alone_of : ℕ → QueueKind → ℕ
alone_of size queue_kinds.IndexQueue = 5
alone_of size queue_kinds.Overflow = 5
alone_of size queue_kinds.Queue = max 5 (size + 2)

abbrev changes_of : QueueKind → ℕ
changes_of queue_kinds.IndexQueue = 0
changes_of queue_kinds.Overflow = 2
changes_of queue_kinds.Queue = 0

-- a push that stores words stores them into a cell of the queue
abbrev PushStands : ℕ → ℕ → pushes.PushStage → Type 0
PushStands size capacity (pushes.TheVariants.StoresCell write cell at) = (4 ≤ cell) × (cell ≤ 4 + size * capacity) × (at < size)
PushStands size capacity stage = Unit {0}

abbrev IsPush : {V : Type 0} → ℕ → ℕ → Push V → Type 0
IsPush size c call = (call.capacity ≡ c) × PushStands size c call.stage

module _ {T : Type 0} where
  -- the call is one of the kind, and a push stands within its queue
  abbrev CallStands : ℕ → QueueKind → ℕ → QueueFlight T → Type 0
  CallStands size kd c (Role call) = Unit {0}
  CallStands size kd c (Length which run) = Unit {0}
  CallStands size queue_kinds.IndexQueue c (Indices (rings.Push run)) = IsPush 1 c run.call
  CallStands size queue_kinds.IndexQueue c (Indices (rings.Pop run)) = Unit {0}
  CallStands size queue_kinds.IndexQueue c (Indices (rings.Peek run)) = Unit {0}
  CallStands size queue_kinds.Queue c (Values (rings.Push run)) = IsPush size c run.call
  CallStands size queue_kinds.Queue c (Values (rings.Pop run)) = Unit {0}
  CallStands size queue_kinds.Queue c (Values (rings.Peek run)) = Unit {0}
  CallStands size queue_kinds.Overflow c (Overflow call) = Unit {0}
  CallStands size kd c flight = ⊥

  abbrev At : QueueKind → Coding T → ℕ → Start T → Flight T → Type 0
  At kd code c (starts.Queues start) (flights.Queues flight) = CallStands code.size kd c flight
  At kd code c start flight = ⊥

  abbrev HasRoles : Registry T → Type 0
  HasRoles (registries.Queues roles) = Unit {0}
  HasRoles kept = ⊥

  -- what the proof that queues are lock-free needs of a kind: where its calls stand, and the measure
  abbrev outline : QueueKind → Outline T
  outline kd =
      record {
        kind = machine_kind kd;
        Such = λ start. Unit {0};
        Kept = HasRoles;
        At = At kd;
        Known = λ p kept flight. Unit {0};
        measure = λ code c. measure code.size (alone_of code.size kd) (changes_of kd);
      }

-- ---- the measure falls with each step

module _ {T : Type 0} (alone changes : ℕ) (code : Coding T) (words : List ℕ) where
  abbrev M : WordMeasure T
  M = measure code.size alone changes

  abbrev StepLowers : QueueFlight T → Type 0
  StepLowers flight = StepFalls M code words (flights.Queues flight)

  abbrev write : ℕ
  write = get_or words 0 0

  abbrev read : ℕ
  read = get_or words 1 0

  -- a change of a word that is none of the positions raises no call's measure
  rest_leaves : (word new : ℕ) → 2 ≤ word → LeavesAll M words (set words word new)
  rest_leaves word new high other =
      let same_write : get_or (set words word new) 0 0 ≡ write = get_or-set_other words word 0 new 0 (λ e. absurd (omega arith)) in
      let same_read : get_or (set words word new) 1 0 ≡ read = get_or-set_other words word 1 new 0 (λ e. absurd (omega arith)) in
      rw (same_write, same_read) (omega arith)

  cell_leaves : (size capacity cell at new : ℕ) → size ≤ 128 → capacity < 2 ^ 32 → 4 ≤ cell → cell ≤ 4 + size * capacity → at < size
      → LeavesAll M words (set words (word_at cell at) new)
  cell_leaves size capacity cell at new few fits low high below =
      let most : size * capacity ≤ size * 2 ^ 32 = mul-le-mul_left size (omega arith) in
      rest_leaves (word_at cell at) new (omega arith)

  -- the measure falls with each step of a call that stands where its kind allows
  call_falls : (kd : QueueKind) (c : ℕ) → code.size ≤ 128 → c < 2 ^ 32 → (flight : QueueFlight T) → CallStands code.size kd c flight → StepLowers flight
  call_falls = grind (arith, rest_leaves, cell_leaves, load_leaves, same_is, nat_tests)

-- ---- the laws that the measure of a kind has to have

-- the cells begin behind the first four words
cell_low : (capacity size position : ℕ) → 4 ≤ cell_word capacity size position
cell_low = grind arith

-- the first word of a cell is at most word `4 + size * capacity`
cell_high : (capacity size position : ℕ) → 1 ≤ size → cell_word capacity size position ≤ 4 + size * capacity
cell_high capacity size position some = go (capacity == 0) refl
  where
    go : (t : Bool) → (capacity == 0) ≡ t → cell_word capacity size position ≤ 4 + size * capacity
    go true no_capacity = rw no_capacity (omega arith)
    go false some_capacity =
        let least : 0 < capacity = grind (arith, nat_tests) in
        let within = cell_within size capacity position 0 least (omega arith) in
        rw some_capacity (omega arith)

module _ {T : Type 0} (kd : QueueKind) where
  falls : (code : Coding T) (c : ℕ) → code.size ≤ 128 → c < 2 ^ 32 → (words : List ℕ) (start : Start T) (flight : Flight T) → At kd code c start flight
      → StepFalls ((outline kd).measure code c) code words flight
  falls code c few fits words (starts.Queues start) (flights.Queues flight) at =
      call_falls (alone_of code.size kd) (changes_of kd) code words kd c few fits flight at
  falls code c few fits words start flight at = absurd at

  module _ (code : Coding T) (c : ℕ) where
    abbrev GoesOn : Start T → QueueFlight T → ℕ → Type 0
    GoesOn start flight old = OwnAfter (outline kd) code c start (after_of code (flights.Queues flight) old)

    goes : 1 ≤ code.size → (start : Start T) (flight : Flight T) (old : ℕ) → At kd code c start flight
        → OwnAfter (outline kd) code c start (after_of code flight old)
    goes = grind (arith, nat_tests, cell_low, cell_high)

    begins : (start : Start T) (kept : Registry T) (flight : Flight T) → HasRoles kept → first_of (machine_kind kd) c start kept ≡ Some flight
        → At kd code c start flight × ((p : ℕ) → HasRoles (kept_after_begin code c start p kept))
    begins = grind arith

    stays : (words : List ℕ) (beside : Option (ℕ × ℕ)) (p : ℕ) (start : Start T) (flight : Flight T) (old : ℕ) (kept : Registry T)
        → At kd code c start flight → HasRoles kept → HasRoles (step_of code words beside p start flight old kept).kept
    stays = grind arith

    told : (words : List ℕ) (beside : Option (ℕ × ℕ)) (p : ℕ) (start : Start T) (flight : Flight T) (old : ℕ) (kept : Registry T)
        → At kd code c start flight → HasRoles kept
        → ((step_of code words beside p start flight old kept).after ≡ after_of code flight old)
        × (goes_of code p flight old kept ≡ after_of code flight old)
    told = grind arith

    asks : (start : Start T) (flight : Flight T) → At kd code c start flight → is_question (want_of code flight) ≡ false
    asks = grind arith

    dies : (kept : Registry T) (owner : ℕ) → HasRoles kept → HasRoles (kept_after_death kept owner)
    dies = grind arith

    most : 1 ≤ code.size → (words : List ℕ) (start : Start T) (flight : Flight T) → At kd code c start flight
        → (((outline kd).measure code c).left words flight ≤ alone_of code.size kd) × (pays flight ≤ changes_of kd)
    most = grind arith

    opens : (kd : QueueKind) → HasRoles {T = T} ((opening_of (machine_kind kd)).kept c)
    opens = grind arith

  -- the measure has the laws that the table asks of one, at each capacity that is admitted
  laws : {code : Coding T} {c : ℕ} → IsCoding code → capacity_error (machine_kind kd) c ≡ None → TableLaws (outline kd) code c
  laws {code} {c} coded admitted =
      record {
        opens = opens code c kd;
        known = λ p kept flight. tt;
        begins = λ start kept flight any h e. begins code c start kept flight h e;
        stays = stays code c;
        goes = goes code c coded.some;
        told = told code c;
        dies = dies code c;
        decides = λ words start flight said at due. (let none = asks code c start flight at in absurd (cc));
        most = most code c coded.some;
        falls = λ words start flight at wide. falls code c coded.few (admitted_fits kd c admitted) words start flight at;
      }

  pub queue_keeps_ending : KeepsEnding T (machine_kind kd) (λ n capacity size. stretch n (changes_of kd) (alone_of size kd))
  queue_keeps_ending =
      keeps_ending (outline kd) (λ code c coded admitted. by_table (outline kd) code c (laws coded admitted)) (λ start. tt)
      (λ n capacity size. stretch n (changes_of kd) (alone_of size kd)) (λ code c n. refl)
