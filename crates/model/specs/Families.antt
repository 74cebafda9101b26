-- The families of calls: one line a family, which passes on to what stands in the family's own folder.
use Rattle.std.specs.Prelude.{ℕ, Bool, true, false, not, Option, Some, None, is_none, List, [], ◌∷◌, nat_le}
use Rattle.steps.specs.declared.ask.After.{After}
use Rattle.steps.specs.declared.ask.After.TheVariants.{GoOn}
use Rattle.steps.specs.declared.ask.Ask.{Ask}
use Rattle.steps.specs.declared.ask.Want.{Want}
use Rattle.steps.specs.declared.ask.Want.TheVariants as wants
use Rattle.model.specs.declared.event.Answer.{Answer}
use Rattle.model.specs.declared.event.Start.{Start}
use Rattle.model.specs.declared.event.Start.TheVariants as starts
use Rattle.model.specs.declared.families.Flight.{Flight}
use Rattle.model.specs.declared.families.Flight.TheVariants as flights
use Rattle.model.specs.declared.families.Registry.{Registry}
use Rattle.model.specs.declared.families.Registry.TheVariants as registries
use Rattle.model.specs.declared.families.queues.QueueKind.TheVariants as queue_kinds
use Rattle.model.specs.declared.party.Party.{Party}
use Rattle.model.specs.declared.turn.Kind.{Kind}
use Rattle.model.specs.declared.turn.Kind.TheVariants as kinds
use Rattle.model.specs.declared.turn.Kind.TheVariants.{IndexQueue, Overflow, Queue}
use Rattle.model.specs.declared.turn.Refusal.{Refusal}
use Rattle.model.specs.declared.turn.Refusal.TheVariants.{WrongCall, OwnerIsDead}
use Rattle.model.specs.Coding.{Coding}
use Rattle.model.specs.Opening.{Opening}
use Rattle.model.specs.Step.{Beginning, Going, Step, as_step}
pub mod Atomic
pub mod Bits
pub mod Container
pub mod Indices
pub mod Loan
pub mod Queues
use Rattle.model.specs.Families.Atomic.Calls as atomic_calls
use Rattle.model.specs.Families.Atomic.Opening as atomic_opening
use Rattle.model.specs.Families.Atomic.Steps as atomic_steps
use Rattle.model.specs.Families.Bits.Calls as bits_calls
use Rattle.model.specs.Families.Bits.Opening as bits_opening
use Rattle.model.specs.Families.Bits.Steps as bits_steps
use Rattle.model.specs.Families.Container.Calls as container_calls
use Rattle.model.specs.Families.Container.Opening as container_opening
use Rattle.model.specs.Families.Container.Steps as container_steps
use Rattle.model.specs.Families.Indices.Calls as index_calls
use Rattle.model.specs.Families.Indices.Opening as index_opening
use Rattle.model.specs.Families.Indices.Steps as index_steps
use Rattle.model.specs.Families.Indices.Robust.Calls as robust_calls
use Rattle.model.specs.Families.Indices.Robust.Dead.{has_died, dead_with}
use Rattle.model.specs.Families.Indices.Robust.Opening as robust_opening
use Rattle.model.specs.Families.Indices.Robust.Steps as robust_steps
use Rattle.model.specs.Families.Loan.Calls as loan_calls
use Rattle.model.specs.Families.Loan.Opening as loan_opening
use Rattle.model.specs.Families.Loan.Steps as loan_steps
use Rattle.model.specs.Families.Queues.Calls as queue_calls
use Rattle.model.specs.Families.Queues.Opening as queue_opening
use Rattle.model.specs.Families.Queues.Steps as queue_steps

-- ---- the opening

-- how a structure of each kind opens
abbrev pub opening_of : Kind → Opening
opening_of IndexQueue = queue_opening.opening queue_kinds.IndexQueue
opening_of Overflow = queue_opening.opening queue_kinds.Overflow
opening_of Queue = queue_opening.opening queue_kinds.Queue
opening_of kinds.Atomic = atomic_opening.opening
opening_of kinds.Bits = bits_opening.bits_opening
opening_of kinds.Counts = bits_opening.counts_opening
opening_of kinds.Indices = index_opening.opening
opening_of kinds.Robust = robust_opening.opening
opening_of kinds.Container = container_opening.opening
opening_of kinds.Loan = loan_opening.opening

-- ---- a call begins

module _ {T : Type 0} where
  -- how a call begins on a machine of this kind and capacity, if the kind has it, and what is tested before
  abbrev pub begin_of : Kind → ℕ → Start T → Beginning (Flight T) (Registry T)
  begin_of kind capacity (starts.Queues start) =
      queue_opening.begin kind capacity start
  begin_of kind capacity (starts.Atomic start) = atomic_opening.begin kind start
  begin_of kind capacity (starts.Bits start) = bits_opening.begin kind capacity start
  begin_of kind capacity (starts.Indices start) =
      index_opening.begin kind capacity start
  begin_of kind capacity (starts.Robust start) =
      robust_opening.begin kind capacity start
  begin_of kind capacity (starts.Container start) =
      container_opening.begin kind capacity start
  begin_of kind capacity (starts.Loan start) = loan_opening.begin kind capacity start

  -- the call that begins, or None where the kind has no such call
  abbrev pub first_of : Kind → ℕ → Start T → Registry T → Option (Flight T)
  first_of kind capacity start kept = (begin_of kind capacity start).call kept

  -- what is tested of a party that is to begin a call, in order: the family's rows come last
  abbrev pub begin_rows : Kind → ℕ → Registry T → ℕ → Start T → List (Bool × Refusal)
  begin_rows kind capacity kept p start =
      (is_none (first_of kind capacity start kept), WrongCall)
      ∷ (begin_of kind capacity start).rows kept p

  -- what a family keeps once the party has begun the call
  abbrev pub kept_after_begin : Coding T → ℕ → Start T → ℕ → Registry T → Registry T
  kept_after_begin code capacity (starts.Container start) p kept =
      container_opening.keeps code capacity start p kept
  kept_after_begin code capacity (starts.Loan start) p kept =
      loan_opening.keeps start kept
  kept_after_begin code capacity start p kept = kept

-- ---- a call goes on

-- the operation on a word that a call asks for, if any
abbrev pub ask_of : Want (Unit {0}) → Option Ask
ask_of (wants.Ask ask) = Some ask
ask_of (wants.Question question) = None
ask_of wants.Nothing = None

-- whether what a call waits for is a decision, and not an operation on a word
abbrev pub is_question : Want (Unit {0}) → Bool
is_question (wants.Ask ask) = false
is_question (wants.Question question) = true
is_question wants.Nothing = false

module _ {T : Type 0} where
  -- what a call under way wants, what is tested before it goes on, and how it does
  abbrev pub going_of : Coding T → Flight T → Going (Flight T) T
  going_of code (flights.Queues flight) = queue_calls.going code flight
  going_of code (flights.Atomic flight) = atomic_calls.going code flight
  going_of code (flights.Bits flight) = bits_calls.going flight
  going_of code (flights.Indices flight) = index_calls.going flight
  going_of code (flights.Robust flight) = robust_calls.going flight
  going_of code (flights.Container flight) = container_calls.going code flight
  going_of code (flights.Loan flight) = loan_calls.going flight

  -- what a call under way wants next
  abbrev pub want_of : Coding T → Flight T → Want (Unit {0})
  want_of code flight = (going_of code flight).want

  -- how a call under way goes on from the old value of its word
  abbrev pub after_of : Coding T → Flight T → ℕ → After (Flight T) (Answer T)
  after_of code flight old = (going_of code flight).after old

  -- How a party's call goes on where the family keeps this:
  -- a look from what the party's state has seen, a reclaim by the sender's table.
  abbrev pub goes_of : Coding T → ℕ → Flight T → ℕ → Registry T → After (Flight T) (Answer T)
  goes_of code p (flights.Container flight) old kept =
      container_calls.goes code p flight old kept
  goes_of code p (flights.Loan flight) old kept = loan_calls.goes flight old kept
  goes_of code p flight old kept = after_of code flight old

  -- how many events the next step of a call writes at most, apart from the end of the call
  abbrev pub most_of : Coding T → Flight T → ℕ
  most_of code flight = (going_of code flight).most

  -- what a family tests of a call under way that is to go on, by a decision or without, in order
  abbrev pub going_rows : Coding T → Registry T → Option (Flight T) → Option Bool
      → List (Bool × Refusal)
  going_rows code kept None said = []
  going_rows code kept (Some flight) said = (going_of code flight).rows kept said

  -- What a step of this party has to know of other parties: the push or send, with its party and value,
  -- that acts if this step moves the read position.
  abbrev pub beside_of : List ℕ → Registry T → List (ℕ × Party T) → ℕ → Option (ℕ × ℕ)
  beside_of words (registries.Queues roles) latest p =
      queue_steps.beside roles words latest p
  beside_of words (registries.Loan book) latest p = loan_steps.beside book words latest p
  beside_of words kept latest p = None

  -- What the step of a call comes to, in these words and from this old value of its word. Where the name, the call and
  -- what is kept are not of one family, nothing happens.
  abbrev pub step_of : Coding T → List ℕ → Option (ℕ × ℕ) → ℕ → Start T → Flight T → ℕ → Registry T
      → Step (Flight T) (Registry T) T
  step_of code words beside p (starts.Queues start) (flights.Queues flight)
      old (registries.Queues roles) =
      as_step flights.Queues registries.Queues
      (queue_steps.step code words beside p start flight old roles)
  step_of code words beside p (starts.Atomic start) (flights.Atomic flight)
      old (registries.Atomic producer) =
      as_step flights.Atomic registries.Atomic
      (atomic_steps.step code p start flight old producer)
  step_of code words beside p (starts.Bits start) (flights.Bits flight) old
      registries.Nothing =
      as_step flights.Bits (λ _. registries.Nothing)
      (bits_steps.step p flight old)
  step_of code words beside p (starts.Indices start) (flights.Indices flight)
      old (registries.Indices holders) =
      as_step flights.Indices registries.Indices
      (index_steps.step p flight old holders)
  step_of code words beside p (starts.Robust start) (flights.Robust flight)
      old (registries.Owners dead) =
      as_step flights.Robust registries.Owners
      (robust_steps.step p flight old dead)
  step_of code words beside p (starts.Container start)
      (flights.Container flight) old (registries.Container dead states) =
      as_step flights.Container (λ kept. registries.Container kept.0 kept.1)
      (container_steps.step code p flight old dead states)
  step_of code words beside p (starts.Loan start) (flights.Loan flight) old
      (registries.Loan book) =
      as_step flights.Loan registries.Loan
      (loan_steps.step words beside p start flight old book)
  step_of code words beside p start flight old kept =
      record { after = GoOn flight; back = false; wrote = []; kept = kept }

-- ---- an owner dies

-- whether a structure has owners
abbrev pub has_owners : {T : Type 0} → Registry T → Bool
has_owners (registries.Owners dead) = true
has_owners (registries.Container dead states) = true
has_owners (registries.Loan book) = true
has_owners kept = false

-- whether the owner is dead
abbrev pub is_dead : {T : Type 0} → Registry T → ℕ → Bool
is_dead (registries.Owners dead) owner = has_died owner dead
is_dead (registries.Container dead states) owner = has_died owner dead
is_dead (registries.Loan book) owner = has_died owner book.dead
is_dead kept owner = false

-- whether the owner would be a party, and there is none of this number
abbrev pub lacks_party : {T : Type 0} → Registry T → ℕ → ℕ → Bool
lacks_party (registries.Loan book) parties owner = nat_le parties owner
lacks_party kept parties owner = false

-- what is tested of an owner who is to die
abbrev pub death_rows : {T : Type 0} → Registry T → ℕ → List (Bool × Refusal)
death_rows kept owner =
    (not (has_owners kept), WrongCall) ∷ (is_dead kept owner, OwnerIsDead) ∷ []

-- what a family keeps once the owner is dead
abbrev pub kept_after_death : {T : Type 0} → Registry T → ℕ → Registry T
kept_after_death (registries.Owners dead) owner =
    registries.Owners (dead_with owner dead)
kept_after_death (registries.Container dead states) owner =
    registries.Container (dead_with owner dead) states
kept_after_death (registries.Loan book) owner =
    registries.Loan (record book { dead = dead_with owner book.dead })
kept_after_death kept owner = kept
