-- A call that runs alone over a list of words, to its end or to a question.
use Rattle.std.specs.Prelude.{◌≡◌, ℕ, zero, suc, ◌^◌, ◌-◌, ◌≤◌, List, slice_index, slice_set, ◌==◌, if◌then◌else◌, bit_and, bit_or}
use Rattle.steps.specs.Ask.{written}
use Rattle.steps.specs.declared.ask.Ask.{Ask}
use Rattle.steps.specs.declared.ask.Op.{Op}
use Rattle.steps.specs.declared.ask.Op.TheVariants.{Load, Store, Swap, Add, Sub, And, Or, Exchange}
use Rattle.steps.specs.declared.ask.Want.{Want}
use Rattle.steps.specs.declared.ask.Want.TheVariants as wants
use Rattle.steps.specs.declared.ask.After.{After}
use Rattle.steps.specs.declared.ask.After.TheVariants.{GoOn, Done}
use Rattle.plain_queues.specs.declared.drive.Stop.{Stop}
use Rattle.plain_queues.specs.declared.drive.Stop.TheVariants.{Asked, Ended}

-- ---- one step

-- the words once the operation is done on this one
abbrev pub written_by : List ℕ → ℕ → Op → List ℕ
written_by words at Load = words
written_by words at (Store new) = slice_set words at new
written_by words at (Swap new) = slice_set words at new
written_by words at (Add by) = slice_set words at (written (Add by) (slice_index words at))
written_by words at (Sub by) = slice_set words at (written (Sub by) (slice_index words at))
written_by words at (And bits) = slice_set words at (bit_and (slice_index words at) bits)
written_by words at (Or bits) = slice_set words at (bit_or (slice_index words at) bits)
written_by words at (Exchange from to) =
    if slice_index words at == from then slice_set words at to else words

-- the words after this operation
abbrev pub written_at : List ℕ → Ask → List ℕ
written_at words ask = written_by words ask.word ask.op

-- what the call is handed as an answer: the word's old value, or 0 where it asks for no operation
abbrev pub answer_in : List ℕ → Want (Unit {0}) → ℕ
answer_in words (wants.Ask ask) = slice_index words ask.word
answer_in words (wants.Question question) = 0
answer_in words wants.Nothing = 0

-- the words after what a call asks for: an operation changes its word, a question no word
abbrev pub words_then : List ℕ → Want (Unit {0}) → List ℕ
words_then words (wants.Ask ask) = written_at words ask
words_then words (wants.Question question) = words
words_then words wants.Nothing = words

-- the room after what a call asks for: a question does not change it
abbrev pub room_then : {M : Type 0} → Want (Unit {0}) → M → M → M
room_then (wants.Ask ask) room new = new
room_then (wants.Question question) room new = room
room_then wants.Nothing room new = new

module _ {C E : Type 0} where
  -- what a driver makes of the answer to a step: the call goes on, or the driver stops at its end
  abbrev pub goes : After C E → After C (Stop C E)
  goes (GoOn d) = GoOn d
  goes (Done e) = Done (Ended e)

  -- one step of a driver whose call asks for this: at a question it stops, and else the call goes on or ends
  -- as `next` says
  abbrev pub stepped : Want (Unit {0}) → C → After C E → After C (Stop C E)
  stepped (wants.Ask ask) call next = goes next
  stepped (wants.Question question) call next = Done (Asked question call)
  stepped wants.Nothing call next = goes next

-- ---- all steps

module _ {C G M E : Type 0} (want_of : C → G → Want (Unit {0})) (after : C → G → ℕ → After C E)
    (kept : C → M → ℕ → M) (given : G) where
  -- How a call stops after a step: where the step has stopped it, it is this stop with this room and these
  -- words; where the call goes on, `rest` holds of the stage that it has come to.
  abbrev pub StopsFrom : (C → M → List ℕ → Type 0) → After C (Stop C E) → M → List ℕ → Stop C E → M → List ℕ → Type 0
  StopsFrom rest (GoOn d) room words stop last_room last_words = rest d room words
  StopsFrom rest (Done s) room words stop last_room last_words =
      (stop ≡ s) × (last_room ≡ room) × (last_words ≡ words)

  -- the call, run alone from these words, stops within this many steps, at this stop, with this last room and
  -- these last words; a question at which it stops counts as a step
  abbrev pub StopsIn : ℕ → Stop C E → M → List ℕ → C → M → List ℕ → Type 0
  StopsIn zero stop last_room last_words call room words = ⊥
  StopsIn (suc n) stop last_room last_words call room words =
      StopsFrom (StopsIn n stop last_room last_words)
      (stepped (want_of call given) call (after call given (answer_in words (want_of call given))))
      (room_then (want_of call given) room
      (kept call room (answer_in words (want_of call given))))
      (words_then words (want_of call given)) stop last_room last_words

  -- the call, run alone from these words, comes to a stop in fewer than 2^64 steps
  pub record CanStop (call : C) (room : M) (words : List ℕ) : Type 0 where
    pub steps : ℕ
    -- these are fewer than 2^64
    pub few : steps ≤ 2 ^ 64 - 1
    pub stop : Stop C E
    pub last_room : M
    pub last_words : List ℕ
    pub stops : StopsIn steps stop last_room last_words call room words

  -- this is the stop, with its room and words, of each run of the call alone
  abbrev pub StopsAlike : C → M → List ℕ → Stop C E → M → List ℕ → Type 0
  StopsAlike call room words stop last_room last_words =
      (n : ℕ) (s : Stop C E) (r : M) (ws : List ℕ) → StopsIn n s r ws call room words
      → (stop ≡ s) × (last_room ≡ r) × (last_words ≡ ws)

  -- ---- a call that puts no question: it stops only at its end

  -- the call, run alone from these words, comes to this end within n steps
  abbrev pub EndsIn : ℕ → E → M → List ℕ → C → M → List ℕ → Type 0
  EndsIn n end last_room last_words call room words =
      StopsIn n (Ended end) last_room last_words call room words

  -- what a step of the call has answered leads to this end: at once, or within n steps more
  abbrev pub EndsFrom : ℕ → E → M → List ℕ → After C E → M → List ℕ → Type 0
  EndsFrom n end last_room last_words next room words =
      StopsFrom (StopsIn n (Ended end) last_room last_words) (goes next) room words (Ended end)
      last_room last_words

  -- the call, run alone from these words, comes to an end in fewer than 2^64 steps
  pub record CanEnd (call : C) (room : M) (words : List ℕ) : Type 0 where
    pub steps : ℕ
    -- these are fewer than 2^64
    pub few : steps ≤ 2 ^ 64 - 1
    pub end : E
    pub last_room : M
    pub last_words : List ℕ
    pub ends : EndsIn steps end last_room last_words call room words

  -- this is the end, with its room and words, of each run of the call alone
  abbrev pub EndsAlike : C → M → List ℕ → E → M → List ℕ → Type 0
  EndsAlike call room words end last_room last_words =
      (n : ℕ) (e : E) (r : M) (ws : List ℕ) → EndsIn n e r ws call room words
      → (end ≡ e) × (last_room ≡ r) × (last_words ≡ ws)

-- ---- a call of an object

-- The call does to the words what the object's call does to the object: `answer` and `next` of the object
-- that the words were read as are what it answered and what the words are read as then. The words represent
-- an object again.
abbrev pub BehavesAs : {S A : Type 0} → (List ℕ → Type 0) → (List ℕ → S) → (S → A) → (S → S)
    → List ℕ → A → List ℕ → Type 0
BehavesAs Represents read answer next old answered new =
    Represents new × (answered ≡ answer (read old)) × (read new ≡ next (read old))
