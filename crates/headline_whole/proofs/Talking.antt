-- A call of the crate `steps` that puts one question after another is a call of a machine that talks to its end.
use Rattle.std.proofs.Common.{◌≡◌, ℕ, zero, suc, ◌+◌, ◌-◌, ◌^◌, ◌<◌, Bool, Some, List, ◌++◌, sym, subst, arith}
use Rattle.steps.specs.declared.ask.After.{After}
use Rattle.steps.specs.declared.ask.After.TheVariants.{GoOn, Done}
use Rattle.steps.specs.declared.ask.Question.{Question}
use Rattle.model.specs.declared.event.Answer.{Answer}
use Rattle.model.specs.declared.families.Flight.{Flight}
use Rattle.model.specs.Coding.{Coding}
use Rattle.model.specs.Turns.{number_of}
use Rattle.plain_queues.specs.declared.drive.Stop.{Stop}
use Rattle.plain_queues.specs.declared.drive.Stop.TheVariants.{Asked, Ended}
use Rattle.plain_queues.specs.Alone.{CanStop, StopsAlike}
use Rattle.headline_whole.specs.Dialogues.{Decision, decided}
use Rattle.headline_whole.proofs.Flights.{AsFlight, Turns, AtStop, Talks, came, lift_stop, talks_as, alike}

-- where a call that talks stands: the call of `steps` with its room, what it was told, and the words
pub record Standing (T C M : Type 0) : Type 0 where
  pub call : C
  pub room : M
  pub told : List (Decision T)
  pub words : List ℕ

-- `P` is what holds of all that a call was told, of its answer, and of the words that it leaves.
module _ {T C G M E : Type 0} (code : Coding T) (as_flight : AsFlight code C G M E) (P : List (Decision T) → Answer T → List ℕ → Type 0) where
  open as_flight use {want, after, kept, given, Low, flight, answer, goes}

  -- what a step has led to: `Under` holds of the call that goes on, or it has ended and P holds
  abbrev pub LeadsTo : (Standing T C M → Type 0) → After C E → M → List (Decision T) → List ℕ → Type 0
  LeadsTo Under (GoOn d) room told words = Under (record { call = d; room = room; told = told; words = words })
  LeadsTo Under (Done e) room told words = P told (answer e room) words

  -- where `rest` follows from `Under`, after a step with `LeadsTo` `rest` holds of the machine's call, or it has ended and P holds
  leads : (Under : Standing T C M → Type 0) (rest : List (Decision T) → Flight T → List ℕ → Type 0)
      → ((z : Standing T C M) → Under z → rest z.told (flight z.call z.room) z.words)
      → (a : After C E) (room : M) (told : List (Decision T)) (words : List ℕ) → LeadsTo Under a room told words
      → Turns code P rest told (came code as_flight room a) words
  leads Under rest on (GoOn d) room told words under = on (record { call = d; room = room; told = told; words = words }) under
  leads Under rest on (Done e) room told words ended = ended

  -- the call `put`, which was told `told`, is told the decision `said` on its question: what it was told then, and what that leads to
  pub record Hears (Under : Standing T C M → Type 0) (told : List (Decision T)) (put : C) (room : M) (words : List ℕ) (said : Bool) : Type 0 where
    pub later : List (Decision T)
    pub told_is : told ++ decided code (Some (flight put room)) said ≡ later
    pub leads_to : LeadsTo Under (after put given (number_of said)) (kept put room (number_of said)) later words

  -- How a call goes from question to question: `Under n` holds of it where it has put n questions. It puts fewer than 2^64 - 1, comes,
  -- alone, to a stop, and P holds there if it has ended; if it asks, it goes on, whatever is decided.
  pub record Dialogue : Type 1 where
    pub Under : ℕ → Standing T C M → Type 0
    pub low : (c : C) → Low c
    pub few : (n : ℕ) (z : Standing T C M) → Under n z → n < 2 ^ 64 - 1
    pub can_stop : (n : ℕ) (z : Standing T C M) → Under n z → CanStop want after kept given z.call z.room z.words
    pub ended : (n : ℕ) (z : Standing T C M) → Under n z → (e : E) (room : M) (last : List ℕ)
        → StopsAlike want after kept given z.call z.room z.words (Ended e) room last → P z.told (answer e room) last
    pub asked : (n : ℕ) (z : Standing T C M) → Under n z → (question : Question (Unit {0})) (put : C) (room : M) (last : List ℕ)
        → StopsAlike want after kept given z.call z.room z.words (Asked question put) room last
        → (said : Bool) → Hears (Under (n + 1)) z.told put room last said

  module _ (dialogue : Dialogue) where
    open dialogue use {Under, low, few, can_stop, ended, asked}

    -- at each stop a call has ended so that P holds, or talks on, whatever is decided
    at_stop : (m n : ℕ) (z : Standing T C M) → Under n z
        → ((y : Standing T C M) → Under (n + 1) y → Talks code P m y.told (flight y.call y.room) y.words)
        → (s : Stop C E) (room : M) (last : List ℕ) → StopsAlike want after kept given z.call z.room z.words s room last
        → AtStop code P (Talks code P m) z.told (lift_stop code as_flight s room) last
    at_stop m n z under on (Ended e) room last alone = ended n z under e room last alone
    at_stop m n z under on (Asked question put) room last alone = λ said.
        let hears = asked n z under question put room last alone said in
        subst (λ next. Turns code P (Talks code P m) (z.told ++ decided code (Some (flight put room)) said) next last)
        (sym (goes put room (number_of said) (low put)))
        (subst (λ told. Turns code P (Talks code P m) told (came code as_flight (kept put room (number_of said)) (after put given (number_of said))) last)
        (sym hears.told_is)
        (leads (Under (n + 1)) (Talks code P m) on (after put given (number_of said)) (kept put room (number_of said)) hears.later last hears.leads_to))

    -- a call that has put n questions talks on to its end, within m more
    talks_on : (m n : ℕ) (z : Standing T C M) → n + m ≡ 2 ^ 64 - 1 → Under n z → Talks code P m z.told (flight z.call z.room) z.words
    talks_on zero n z sum under = let less = few n z under in absurd (omega arith)
    talks_on (suc m) n z sum under =
        let can = can_stop n z under in
        talks_as code as_flight P m z.told (low z.call) can
        (at_stop m n z under (λ y u. talks_on m (n + 1) y (omega arith) u) can.stop can.last_room can.last_words (alike can))

    -- a call that has put no question talks to its end
    pub talks_all : (z : Standing T C M) → Under 0 z → (n : ℕ) × Talks code P n z.told (flight z.call z.room) z.words
    talks_all z under = (2 ^ 64 - 1, talks_on (2 ^ 64 - 1) 0 z (omega arith) under)
