-- A call of a machine that runs alone, from one question to the next, and how a call of the crate `steps` becomes one.
use Rattle.std.proofs.Common.{◌≡◌, ℕ, zero, suc, ◌-◌, ◌^◌, ◌≤◌, ◌==◌, Bool, true, false, Option, Some, List, ◌++◌, refl, sym, ◌∙◌}
use Rattle.std.proofs.Common.{subst, arith, slice_index, slice_set, if◌then◌else◌}
use Rattle.std.proofs.lemmas.List.{set-get_or}
use Rattle.steps.specs.Ask.{written}
use Rattle.steps.specs.Routine.{went_on}
use Rattle.steps.specs.declared.ask.After.{After}
use Rattle.steps.specs.declared.ask.After.TheVariants.{GoOn, Done}
use Rattle.steps.specs.declared.ask.Op.{Op}
use Rattle.steps.specs.declared.ask.Op.TheVariants.{Load, Exchange}
use Rattle.steps.specs.declared.ask.Want.{Want}
use Rattle.steps.specs.declared.ask.Want.TheVariants as wants
use Rattle.steps.specs.declared.routine.Running.{Running}
use Rattle.model.specs.declared.event.Answer.{Answer}
use Rattle.model.specs.declared.families.Flight.{Flight}
use Rattle.model.specs.Coding.{Coding}
use Rattle.model.specs.Families.{want_of, ask_of, after_of, is_question}
use Rattle.model.specs.Families.Queues.Calls.{as_it_is}
use Rattle.model.specs.Step.{as_call}
use Rattle.model.specs.Turns.{old_of, words_after, number_of}
use Rattle.plain_queues.specs.declared.drive.Stop.{Stop}
use Rattle.plain_queues.specs.declared.drive.Stop.TheVariants.{Asked, Ended}
use Rattle.plain_queues.specs.Alone.{written_by, answer_in, words_then, room_then, stepped, StopsFrom, StopsIn, CanStop, StopsAlike}
use Rattle.plain_queues.proofs.Alone.{Runs, Halts}
use Rattle.plain.proofs.Walks.{LowThen, any_low}
use Rattle.headline_whole.specs.Dialogues.{Decision, decided}

-- ---- one operation, as a machine does it

-- An exchange writes to its word: the new value if it succeeds, else the old one again.
exchanged : (words : List ℕ) (at to : ℕ) (b : Bool)
    → (if b then slice_set words at to else words) ≡ slice_set words at (if b then to else slice_index words at)
exchanged words at to true = refl
exchanged words at to false = sym (set-get_or words at 0)

-- An operation writes the value to its word that `written` gives, whether it changes it or not.
same_word : (words : List ℕ) (at : ℕ) (op : Op) → written_by words at op ≡ slice_set words at (written op (slice_index words at))
same_word words at Load = sym (set-get_or words at 0)
same_word words at (Exchange from to) = exchanged words at to (slice_index words at == from)
same_word words at op = refl

-- What a call wants changes the words alike in `plain`, where it runs alone, and in a machine.
pub same_words : (words : List ℕ) (w : Want (Unit {0})) → words_then words w ≡ words_after words (ask_of w)
same_words words (wants.Ask ask) = same_word words ask.word ask.op
same_words words (wants.Question question) = refl
same_words words wants.Nothing = refl

-- A call is handed the same value in `plain`, where it runs alone, and in a machine.
pub same_old : (words : List ℕ) (w : Want (Unit {0})) → answer_in words w ≡ old_of words (ask_of w)
same_old words (wants.Ask ask) = refl
same_old words (wants.Question question) = refl
same_old words wants.Nothing = refl

-- ---- a call alone stops in one way

module _ {C G M E : Type 0} (want : C → G → Want (Unit {0})) (after : C → G → ℕ → After C E) (kept : C → M → ℕ → M) (given : G) where
  -- from what a step comes to, a call alone has one stop, with one room and one list of words
  same_from : (n k : ℕ) (s z : Stop C E) (r q : M) (last end : List ℕ) (a : After C (Stop C E)) (room : M) (words : List ℕ)
      → ((d : C) → StopsIn want after kept given n s r last d room words → StopsIn want after kept given k z q end d room words
      → (s ≡ z) × (r ≡ q) × (last ≡ end))
      → StopsFrom want after kept given (StopsIn want after kept given n s r last) a room words s r last
      → StopsFrom want after kept given (StopsIn want after kept given k z q end) a room words z q end
      → (s ≡ z) × (r ≡ q) × (last ≡ end)
  same_from n k s z r q last end (GoOn d) room words on first_stops_from second_stops_from = on d first_stops_from second_stops_from
  same_from n k s z r q last end (Done x) room words on first_stops_from second_stops_from = (
    first_stops_from.0 ∙ sym second_stops_from.0,
    first_stops_from.1 ∙ sym second_stops_from.1,
    first_stops_from.2 ∙ sym second_stops_from.2,
  )

  -- a call alone has one stop, with one room and one list of words
  same_stop : (n k : ℕ) (s z : Stop C E) (r q : M) (last end : List ℕ) (call : C) (room : M) (words : List ℕ)
      → StopsIn want after kept given n s r last call room words → StopsIn want after kept given k z q end call room words
      → (s ≡ z) × (r ≡ q) × (last ≡ end)
  same_stop zero k s z r q last end call room words first_stops second_stops = absurd first_stops
  same_stop (suc n) zero s z r q last end call room words first_stops second_stops = absurd second_stops
  same_stop (suc n) (suc k) s z r q last end call room words first_stops second_stops =
      same_from n k s z r q last end (stepped (want call given) call (after call given (answer_in words (want call given))))
      (room_then (want call given) room (kept call room (answer_in words (want call given)))) (words_then words (want call given))
      (λ d v w. same_stop n k s z r q last end d (room_then (want call given) room (kept call room (answer_in words (want call given))))
      (words_then words (want call given)) v w)
      first_stops second_stops

  -- a call that can stop, alone, stops in one way only
  one_stop : (call : C) (room : M) (words : List ℕ) (h : CanStop want after kept given call room words)
      → StopsAlike want after kept given call room words h.stop h.last_room h.last_words
  one_stop call room words h n s r last t = same_stop h.steps n h.stop s h.last_room r h.last_words last call room words h.stops t

-- A call that can stop, alone, stops in one way only.
pub alike : {C G M E : Type 0} {want : C → G → Want (Unit {0})} {after : C → G → ℕ → After C E} {kept : C → M → ℕ → M} {given : G}
    {call : C} {room : M} {words : List ℕ} (h : CanStop want after kept given call room words)
    → StopsAlike want after kept given call room words h.stop h.last_room h.last_words
alike {C} {G} {M} {E} {want} {after} {kept} {given} {call} {room} {words} h = one_stop want after kept given call room words h

-- ---- one step of a call that puts no question

module _ {C G M E : Type 0} (want : C → G → Want (Unit {0})) (after : C → G → ℕ → After C E) (kept : C → M → ℕ → M) (given : G)
    (P : E → M → List ℕ → Type 0) where
  -- A call of `steps` that goes on runs to an end of which P holds, or it has ended and P holds.
  abbrev pub RunsOn : After C E → M → List ℕ → Type 0
  RunsOn (GoOn d) room words = Runs want after kept given P d room words
  RunsOn (Done e) room words = P e room words

  ended_is : (a b : E) → ◌≡◌ {A = Stop C E} (Ended a) (Ended b) → a ≡ b
  ended_is a b e = cc

  -- behind a step that puts no question, a call alone runs on to the end that it has
  run_moved : (n : ℕ) (end : E) (r : M) (last : List ℕ) (call : C) (w : Want (Unit {0})) (a : After C E) (room next : M) (words : List ℕ)
      → n ≤ 2 ^ 64 - 1 → P end r last → is_question w ≡ false
      → StopsFrom want after kept given (StopsIn want after kept given n (Ended end) r last) (stepped w call a) (room_then w room next)
      (words_then words w) (Ended end) r last
      → RunsOn a next (words_then words w)
  run_moved n end r last call (wants.Ask ask) (GoOn d) room next words few holds calm stops_from =
      record { steps = n; few = few; end = end; last_room = r; last_words = last; ends = stops_from; holds = holds }
  run_moved n end r last call (wants.Ask ask) (Done x) room next words few holds calm stops_from =
      let is = ended_is end x stops_from.0 in subst (λ (z : E × M × List ℕ). P z.0 z.1 z.2) (λ i. (is i, stops_from.1 i, stops_from.2 i)) holds
  run_moved n end r last call (wants.Question question) a room next words few holds calm stops_from = absurd (cc)
  run_moved n end r last call wants.Nothing (GoOn d) room next words few holds calm stops_from =
      record { steps = n; few = few; end = end; last_room = r; last_words = last; ends = stops_from; holds = holds }
  run_moved n end r last call wants.Nothing (Done x) room next words few holds calm stops_from =
      let is = ended_is end x stops_from.0 in subst (λ (z : E × M × List ℕ). P z.0 z.1 z.2) (λ i. (is i, stops_from.1 i, stops_from.2 i)) holds

  -- A call that runs to an end without a question still does so after each step.
  pub run_goes : (call : C) (room : M) (words : List ℕ) → Runs want after kept given P call room words → is_question (want call given) ≡ false
      → RunsOn (after call given (old_of words (ask_of (want call given)))) (kept call room (old_of words (ask_of (want call given))))
      (words_after words (ask_of (want call given)))
  run_goes call room words runs calm = go runs.steps runs.few runs.ends
    where
      -- it does, in however many steps the end is reached
      go : (n : ℕ) → n ≤ 2 ^ 64 - 1 → StopsIn want after kept given n (Ended runs.end) runs.last_room runs.last_words call room words
          → RunsOn (after call given (old_of words (ask_of (want call given)))) (kept call room (old_of words (ask_of (want call given))))
          (words_after words (ask_of (want call given)))
      go zero few stops_here = absurd stops_here
      go (suc n) few stops_here =
          subst (λ old. RunsOn (after call given old) (kept call room old) (words_after words (ask_of (want call given))))
          (same_old words (want call given))
          (subst (RunsOn (after call given (answer_in words (want call given))) (kept call room (answer_in words (want call given))))
          (same_words words (want call given))
          (run_moved n runs.end runs.last_room runs.last_words call (want call given) (after call given (answer_in words (want call given))) room
          (kept call room (answer_in words (want call given))) words (omega arith) runs.holds calm stops_here))

-- If `Some a` is `Some b`, then the calls a and b are one.
pub same_flight : {T : Type 0} (a b : Flight T) → ◌≡◌ {A = Option (Flight T)} (Some a) (Some b) → a ≡ b
same_flight a b e = cc

module _ {T : Type 0} (code : Coding T) where
  -- the call at `flight` runs alone over `words` to its end, and P holds of its answer and of the words then
  abbrev pub FlightRuns : (Answer T → List ℕ → Type 0) → Flight T → List ℕ → Type 0
  FlightRuns P flight words =
      Runs (λ (f : Flight T) (given : Unit {0}). want_of code f) (λ f given old. after_of code f old) (λ f (room : Unit {0}) old. room) tt
      (λ answer room last. P answer last) flight tt words

  -- ---- a call that puts questions

  module _ (P : List (Decision T) → Answer T → List ℕ → Type 0) where
    -- after a step of a call that was told `told`: `rest` holds where it goes on, and P where it is done
    abbrev pub Turns : (List (Decision T) → Flight T → List ℕ → Type 0) → List (Decision T) → After (Flight T) (Answer T) → List ℕ → Type 0
    Turns rest told (GoOn flight) words = rest told flight words
    Turns rest told (Done answer) words = P told answer words

    -- at a stop of the call: P holds where it has ended, and at a question `Turns` holds whatever is decided
    abbrev pub AtStop : (List (Decision T) → Flight T → List ℕ → Type 0) → List (Decision T) → Stop (Flight T) (Answer T) → List ℕ → Type 0
    AtStop rest told (Ended answer) words = P told answer words
    AtStop rest told (Asked question flight) words =
        (said : Bool) → Turns rest (told ++ decided code (Some flight) said) (after_of code flight (number_of said)) words

    -- The call at `flight`, alone over `words`, comes to a stop (its end or a question) at which
    -- `AtStop` holds.
    abbrev pub Halting : (List (Decision T) → Flight T → List ℕ → Type 0) → List (Decision T) → Flight T → List ℕ → Type 0
    Halting rest told flight words =
        Halts (λ (f : Flight T) (given : Unit {0}). want_of code f) (λ f given old. after_of code f old) (λ f (room : Unit {0}) old. room) tt
        (λ stop room last. AtStop rest told stop last) flight tt words

    -- The call at `flight`, alone over `words`, asks fewer questions than the number. Whatever it is told, P holds of all that it
    -- was told and of its answer.
    abbrev pub Talks : ℕ → List (Decision T) → Flight T → List ℕ → Type 0
    Talks zero told flight words = ⊥
    Talks (suc n) told flight words = Halting (Talks n) told flight words

    -- After a step that leads to `next`, the call comes to this stop over the words `last` within
    -- n steps more.
    abbrev HaltsFrom : ℕ → Stop (Flight T) (Answer T) → Unit {0} → List ℕ → After (Flight T) (Stop (Flight T) (Answer T)) → Unit {0} → List ℕ → Type 0
    HaltsFrom n stop room last next now words =
        StopsFrom (λ (f : Flight T) (given : Unit {0}). want_of code f) (λ f given old. after_of code f old) (λ f (room : Unit {0}) old. room) tt
        (StopsIn (λ (f : Flight T) (given : Unit {0}). want_of code f) (λ f given old. after_of code f old) (λ f (room : Unit {0}) old. room) tt
        n stop room last) next now words stop room last

    module _ (rest : List (Decision T) → Flight T → List ℕ → Type 0) (told : List (Decision T)) where
      -- After a step that puts no question a call comes to the stop that it came to before the
      -- step, or has ended there.
      moved : (n : ℕ) (stop : Stop (Flight T) (Answer T)) (room : Unit {0}) (last : List ℕ) (flight : Flight T) (w : Want (Unit {0}))
          (a : After (Flight T) (Answer T)) (words : List ℕ) → n ≤ 2 ^ 64 - 1 → AtStop rest told stop last → is_question w ≡ false
          → HaltsFrom n stop room last (stepped w flight a) (room_then w tt tt) (words_then words w)
          → Turns (Halting rest) told a (words_then words w)
      moved n stop room last flight (wants.Ask ask) (GoOn d) words few holds calm halts_from =
          record { steps = n; few = few; stop = stop; last_room = room; last_words = last; stops = halts_from; holds = holds }
      moved n stop room last flight (wants.Ask ask) (Done x) words few holds calm halts_from =
          subst (λ s. AtStop rest told s (words_then words (wants.Ask ask))) halts_from.0 (subst (AtStop rest told stop) halts_from.2 holds)
      moved n stop room last flight (wants.Question question) a words few holds calm halts_from = absurd (cc)
      moved n stop room last flight wants.Nothing (GoOn d) words few holds calm halts_from =
          record { steps = n; few = few; stop = stop; last_room = room; last_words = last; stops = halts_from; holds = holds }
      moved n stop room last flight wants.Nothing (Done x) words few holds calm halts_from =
          subst (λ s. AtStop rest told s words) halts_from.0 (subst (AtStop rest told stop) halts_from.2 holds)

      -- behind a question, the call goes on as its stop says, whatever is decided
      heard : (n : ℕ) (stop : Stop (Flight T) (Answer T)) (room : Unit {0}) (last : List ℕ) (flight : Flight T) (w : Want (Unit {0}))
          (a : After (Flight T) (Answer T)) (words : List ℕ) → AtStop rest told stop last → is_question w ≡ true
          → HaltsFrom n stop room last (stepped w flight a) (room_then w tt tt) (words_then words w)
          → (said : Bool) → Turns rest (told ++ decided code (Some flight) said) (after_of code flight (number_of said)) words
      heard n stop room last flight (wants.Ask ask) a words holds asks halts_from = absurd (cc)
      heard n stop room last flight (wants.Question question) a words holds asks halts_from =
          subst (λ s. AtStop rest told s words) halts_from.0 (subst (AtStop rest told stop) halts_from.2 holds)
      heard n stop room last flight wants.Nothing a words holds asks halts_from = absurd (cc)

      -- after a step that needs no decision, the call still halts, or has ended with an answer of which P holds
      talk_goes : (flight : Flight T) (words : List ℕ) → Halting rest told flight words → is_question (want_of code flight) ≡ false
          → Turns (Halting rest) told (after_of code flight (old_of words (ask_of (want_of code flight)))) (words_after words (ask_of (want_of code flight)))
      talk_goes flight words halting calm = go halting.steps halting.few halting.stops
        where
          -- it does, in however many steps the stop is reached
          go : (n : ℕ) → n ≤ 2 ^ 64 - 1
              → StopsIn (λ (f : Flight T) (given : Unit {0}). want_of code f) (λ f given old. after_of code f old) (λ f (room : Unit {0}) old. room) tt
              n halting.stop halting.last_room halting.last_words flight tt words
              → Turns (Halting rest) told (after_of code flight (old_of words (ask_of (want_of code flight))))
              (words_after words (ask_of (want_of code flight)))
          go zero few stops_here = absurd stops_here
          go (suc n) few stops_here =
              subst (λ old. Turns (Halting rest) told (after_of code flight old) (words_after words (ask_of (want_of code flight))))
              (same_old words (want_of code flight))
              (subst (λ ws. Turns (Halting rest) told (after_of code flight (answer_in words (want_of code flight))) ws)
              (same_words words (want_of code flight))
              (moved n halting.stop halting.last_room halting.last_words flight (want_of code flight)
              (after_of code flight (answer_in words (want_of code flight))) words
              (omega arith) halting.holds calm stops_here))

      -- whatever is decided, `rest` holds of the call that goes on, or it has ended with an answer of which P holds
      talk_hears : (flight : Flight T) (words : List ℕ) → Halting rest told flight words → is_question (want_of code flight) ≡ true → (said : Bool)
          → Turns rest (told ++ decided code (Some flight) said) (after_of code flight (number_of said)) words
      talk_hears flight words halting asks = go halting.steps halting.stops
        where
          -- it does, in however many steps the stop is reached
          go : (n : ℕ)
              → StopsIn (λ (f : Flight T) (given : Unit {0}). want_of code f) (λ f given old. after_of code f old) (λ f (room : Unit {0}) old. room) tt
              n halting.stop halting.last_room halting.last_words flight tt words
              → (said : Bool) → Turns rest (told ++ decided code (Some flight) said) (after_of code flight (number_of said)) words
          go zero stops_here = absurd stops_here
          go (suc n) stops_here =
              heard n halting.stop halting.last_room halting.last_words flight (want_of code flight)
              (after_of code flight (answer_in words (want_of code flight))) words
              halting.holds asks stops_here

    -- after a step that needs no decision, a call that talks talks on, or has ended with an answer of which P holds
    pub talks_go : (n : ℕ) (told : List (Decision T)) (flight : Flight T) (words : List ℕ) → Talks n told flight words
        → is_question (want_of code flight) ≡ false
        → Turns (λ told f ws. Talks n told f ws) told (after_of code flight (old_of words (ask_of (want_of code flight))))
        (words_after words (ask_of (want_of code flight)))
    talks_go zero told flight words talks calm = absurd talks
    talks_go (suc n) told flight words talks calm = talk_goes (λ told f ws. Talks n told f ws) told flight words talks calm

    -- whatever is decided at its question, a call that talks talks on, or has ended with an answer of which P holds
    pub talks_hear : (n : ℕ) (told : List (Decision T)) (flight : Flight T) (words : List ℕ) → Talks n told flight words
        → is_question (want_of code flight) ≡ true → (said : Bool)
        → (m : ℕ) × Turns (λ told f ws. Talks m told f ws) (told ++ decided code (Some flight) said) (after_of code flight (number_of said)) words
    talks_hear zero told flight words talks asks said = absurd talks
    talks_hear (suc n) told flight words talks asks said = (n, talk_hears (λ told f ws. Talks n told f ws) told flight words talks asks said)

    -- a call that puts no question asks fewer than one question
    pub talks_once : (Q : Answer T → List ℕ → Type 0) (told : List (Decision T)) (flight : Flight T) (words : List ℕ)
        → ((answer : Answer T) (last : List ℕ) → Q answer last → P told answer last) → FlightRuns Q flight words → Talks 1 told flight words
    talks_once Q told flight words so flight_runs =
        record {
          steps = flight_runs.steps;
          few = flight_runs.few;
          stop = Ended flight_runs.end;
          last_room = flight_runs.last_room;
          last_words = flight_runs.last_words;
          stops = flight_runs.ends;
          holds = so flight_runs.end flight_runs.last_words flight_runs.holds;
        }

  -- ---- a call of `steps` as a call of a machine

  -- How a call of `steps` is a call of the machine: each step of the call `c` of `steps` is a step of the call `flight c room`, as long as
  -- `Low` holds of `c`, and it goes on to hold.
  pub record AsFlight (C G M E : Type 0) : Type 1 where
    -- what the call of `steps` asks for, what an answer makes of it and of its room, and what it is given
    pub want : C → G → Want (Unit {0})
    pub after : C → G → ℕ → After C E
    pub kept : C → M → ℕ → M
    pub given : G
    pub Low : C → Type 0
    -- the machine's call, and its answer
    pub flight : C → M → Flight T
    pub answer : E → M → Answer T
    pub wants : (c : C) (room : M) → Low c → want_of code (flight c room) ≡ want c given
    pub goes : (c : C) (room : M) (old : ℕ) → Low c
        → after_of code (flight c room) old ≡ as_call (λ d. flight d (kept c room old)) (λ e. answer e (kept c room old)) (after c given old)
    pub stays : (c : C) (old : ℕ) → Low c → LowThen Low (after c given old)

  module _ {C G M E : Type 0} (as_flight : AsFlight C G M E) where
    open as_flight use {want, after, kept, given, Low, flight, answer, wants as wants_so, goes as goes_so, stays as stays_so}

    -- The machine's call after a step that led the call of `steps` to `a`.
    abbrev pub came : M → After C E → After (Flight T) (Answer T)
    came room a = as_call (λ c. flight c room) (λ e. answer e room) a

    -- The stop of the machine's call where the call of `steps` stops: the same end, or the same question.
    abbrev pub lift_stop : Stop C E → M → Stop (Flight T) (Answer T)
    lift_stop (Ended e) room = Ended (answer e room)
    lift_stop (Asked question call) room = Asked question (flight call room)

    -- The machine's call, alone over `words`, comes to this stop over the words `last` within n steps.
    abbrev StopsAlone : ℕ → Stop (Flight T) (Answer T) → List ℕ → Flight T → Unit {0} → List ℕ → Type 0
    StopsAlone n stop last under now words =
        StopsIn (λ (f : Flight T) (given : Unit {0}). want_of code f) (λ f given old. after_of code f old) (λ f (room : Unit {0}) old. room) tt
        n stop tt last under now words

    -- The machine's call comes to this stop over the words `last` after a step that leads to `next`.
    abbrev StopsOn : ℕ → Stop (Flight T) (Answer T) → List ℕ → After (Flight T) (Stop (Flight T) (Answer T)) → Unit {0} → List ℕ → Type 0
    StopsOn n stop last next now words =
        StopsFrom (λ (f : Flight T) (given : Unit {0}). want_of code f) (λ f given old. after_of code f old) (λ f (room : Unit {0}) old. room) tt
        (λ f m ws. StopsAlone n stop last f m ws) next now words stop tt last

    -- where a step of the call of `steps` leads to a stop, the machine's step leads to the same
    lifted : (n : ℕ) (s : Stop C E) (r : M) (last : List ℕ) (w : Want (Unit {0})) (c : C) (a : After C E) (room next : M) (words : List ℕ)
        → LowThen Low a
        → ((d : C) (m : M) (ws : List ℕ) → Low d → StopsIn want after kept given n s r last d m ws
        → StopsAlone n (lift_stop s r) last (flight d m) tt ws)
        → StopsFrom want after kept given (StopsIn want after kept given n s r last) (stepped w c a) (room_then w room next)
        (words_then words w) s r last
        → StopsOn n (lift_stop s r) last (stepped w (flight c room) (came next a)) (room_then w tt tt) (words_then words w)
    lifted n s r last (wants.Ask ask) c (GoOn d) room next words low on stops_from = on d next (words_then words (wants.Ask ask)) low stops_from
    lifted n s r last (wants.Ask ask) c (Done x) room next words low on stops_from = ((λ i. lift_stop (stops_from.0 i) (stops_from.1 i)), refl, stops_from.2)
    lifted n s r last (wants.Question question) c a room next words low on stops_from = ((λ i. lift_stop (stops_from.0 i) (stops_from.1 i)), refl, stops_from.2)
    lifted n s r last wants.Nothing c (GoOn d) room next words low on stops_from = on d next words low stops_from
    lifted n s r last wants.Nothing c (Done x) room next words low on stops_from = ((λ i. lift_stop (stops_from.0 i) (stops_from.1 i)), refl, stops_from.2)

    -- where the call of `steps` stops, alone, the machine's call stops too
    lifts : (n : ℕ) (s : Stop C E) (r : M) (last : List ℕ) (c : C) (room : M) (words : List ℕ) → Low c
        → StopsIn want after kept given n s r last c room words
        → StopsAlone n (lift_stop s r) last (flight c room) tt words
    lifts zero s r last c room words low stops_here = absurd stops_here
    lifts (suc n) s r last c room words low stops_here =
        subst (λ w. StopsOn n (lift_stop s r) last (stepped w (flight c room) (after_of code (flight c room) (answer_in words w))) (room_then w tt tt)
        (words_then words w))
        (sym (wants_so c room low))
        (subst (λ a. StopsOn n (lift_stop s r) last (stepped (want c given) (flight c room) a) (room_then (want c given) tt tt)
        (words_then words (want c given)))
        (sym (goes_so c room (answer_in words (want c given)) low))
        (lifted n s r last (want c given) c (after c given (answer_in words (want c given))) room
        (kept c room (answer_in words (want c given))) words (stays_so c (answer_in words (want c given)) low)
        (λ d m ws less u. lifts n s r last d m ws less u) stops_here))

    -- where the call of `steps` runs alone to an end, the machine's call does too
    pub runs_as : {Q : E → M → List ℕ → Type 0} {P : Answer T → List ℕ → Type 0} {c : C} {room : M} {words : List ℕ}
        → Runs want after kept given Q c room words → Low c → ((e : E) (room : M) (last : List ℕ) → Q e room last → P (answer e room) last)
        → FlightRuns P (flight c room) words
    runs_as {Q} {P} {c} {room} {words} runs low so =
        record {
          steps = runs.steps;
          few = runs.few;
          end = answer runs.end runs.last_room;
          last_room = tt;
          last_words = runs.last_words;
          ends = lifts runs.steps (Ended runs.end) runs.last_room runs.last_words c room words low runs.ends;
          holds = so runs.end runs.last_room runs.last_words runs.holds;
        }

    -- where the call of `steps` stops, alone, and the machine's call talks on from there, it talks, with one question
    -- more
    pub talks_as : (P : List (Decision T) → Answer T → List ℕ → Type 0) (n : ℕ) (told : List (Decision T))
        {c : C} {room : M} {words : List ℕ} → Low c → (h : CanStop want after kept given c room words)
        → AtStop P (Talks P n) told (lift_stop h.stop h.last_room) h.last_words
        → Talks P (suc n) told (flight c room) words
    talks_as P n told {c} {room} {words} low h at_stop =
        record {
          steps = h.steps;
          few = h.few;
          stop = lift_stop h.stop h.last_room;
          last_room = tt;
          last_words = h.last_words;
          stops = lifts h.steps h.stop h.last_room h.last_words c room words low h.stops;
          holds = at_stop;
        }

-- what has become of a call of a family, as what has become of the machine's call
module _ {C G M E A T R : Type 0} (outer : R → Flight T) (wrap : Running C G M → R) (say : A → Answer T) (make : E → G → M → A) (given : G) where
  -- A step of a call that is wrapped twice, as one of its family and as one of a machine, is that
  -- of the call inside.
  pub twice : (room : M) (a : After C E)
      → as_call outer (λ (answer : Answer T). answer) (as_call wrap say (went_on make given room a))
      ≡ as_call (λ (c : C). outer (wrap (record { call = c; given = given; room = room }))) (λ (e : E). say (make e given room)) a
  twice room (GoOn c) = refl
  twice room (Done e) = refl

-- A call of a family that needs no room, as a call of a machine: `wrap` names the call in the family, and `outer` the family.
pub record OfFamily {T : Type 0} (code : Coding T) (C G E R : Type 0) : Type 1 where
  -- what the call asks for, what an answer makes of it, and what it is given
  pub want : C → G → Want (Unit {0})
  pub after : C → G → ℕ → After C E
  pub given : G
  pub outer : R → Flight T
  pub wrap : Running C G (Unit {0}) → R
  pub answer : E → Answer T
  pub wants : (c : C) (room : Unit {0}) → want_of code (outer (wrap (record { call = c; given = given; room = room }))) ≡ want c given
  pub goes : (c : C) (room : Unit {0}) (old : ℕ) → after_of code (outer (wrap (record { call = c; given = given; room = room }))) old
      ≡ as_call outer (λ (answer : Answer T). answer) (as_call wrap answer (went_on as_it_is given room (after c given old)))

module _ {T : Type 0} (code : Coding T) {C G E R : Type 0} (of_family : OfFamily code C G E R) where
  open of_family use {want, after, given, outer, wrap, answer, wants as wants_so, goes as goes_so}

  -- each step of the family's call is a step of the machine's call
  abbrev pub family_flight : AsFlight code C G (Unit {0}) E
  family_flight =
      record {
        want = want;
        after = after;
        kept = λ c (room : Unit {0}) old. room;
        given = given;
        Low = λ c. Unit {0};
        flight = λ c room. outer (wrap (record { call = c; given = given; room = room }));
        answer = λ e room. answer e;
        wants = λ c room low. wants_so c room;
        goes = λ c room old low. goes_so c room old ∙ twice outer wrap answer as_it_is given room (after c given old);
        stays = λ c old low. any_low (after c given old);
      }

  -- where the family's call, run alone, ends so that Q holds, and P follows from Q, the machine's call ends so that P holds
  pub family_runs : {Q : E → Unit {0} → List ℕ → Type 0} {P : Answer T → List ℕ → Type 0} {c : C} {words : List ℕ}
      → Runs want after (λ c (room : Unit {0}) old. room) given Q c tt words
      → ((e : E) (room : Unit {0}) (last : List ℕ) → Q e room last → P (answer e) last)
      → FlightRuns code P (outer (wrap (record { call = c; given = given; room = tt }))) words
  family_runs runs so = runs_as code family_flight runs tt so
