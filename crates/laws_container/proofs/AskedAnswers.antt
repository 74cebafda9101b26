-- What becomes of the answer to a question: a no ends a find, a yes tells a recovery to free the index that
-- it asked about, and after either the party asks no question.
use Rattle.laws_container.proofs.Names.{◌≡◌, ℕ, ⊎_elim, Bool, true, false, Option, Some, None, List, [], ◌∷◌, ◌++◌}
use Rattle.laws_container.proofs.Names.{refl, sym, ap, subst, ◌∙◌, append-nil, arith, cases_eq, FindStage, DeadOwner}
use Rattle.laws_container.proofs.Names.{RecoverStage, ContainerState, ReleaseMode, Number}
use Rattle.laws_container.proofs.Names.{Event, Copied, Finished, Container, ContainerStart, ContainerFlight, Turn}
use Rattle.laws_container.proofs.Names.{Decide, Coding, is_question, want, after, question_in, question_at, AllRight}
use Rattle.laws_container.proofs.Names.{HasWritten, AsksOnce, IsAnswered, IsTold, YesTells, NoTells, QuestionsRight}
use Rattle.laws_container.proofs.Names.{acts_of, state_of, effects, questions, IsIn, set_acts_of, read_in, answer_in}
use Rattle.laws_container.proofs.Names.{number_of, ending_of, events_of, after_turn, both_ways}
use Rattle.laws_container.proofs.Names.{raise_asks_none, lock_asks_none}
use Rattle.steps.specs.declared.container.find.FindStage.TheVariants as finds
use Rattle.steps.specs.declared.copied.Buffer as buffers
use Rattle.model.specs.declared.families.Flight.TheVariants as flights
use Rattle.model.specs.declared.families.container.ContainerStart.TheVariants as starts
use Rattle.model.specs.declared.families.container.calls.ContainerFlight.TheVariants.{Find, Recover}
use Rattle.laws_container.proofs.AskedLeft.{made}
use Rattle.laws_container.proofs.AskedTurn.{IsCalmTurn, IsGoing, any_turn, decided}
use Rattle.laws_container.proofs.AskedWrites.{goes_right}
use Rattle.laws_container.proofs.Sound.{SoundRun}
use Rattle.laws_container.proofs.Stages.{any_call}
use Rattle.laws_container.proofs.CallProgress.{find_at, recover_at, At}
use Rattle.laws_container.proofs.FindPromises.{counts_up_to}
use Rattle.laws_container.specs.ConditionalPromises.{StoppedIf, FindsUpToIf}
use Rattle.laws_container.proofs.Allowed.{IsAllowed}
use Rattle.laws_container.proofs.WellFormed.{IsWellFormedSoFar}

-- ---- a step after which a call asks about an element has copied it; and a decision is followed by no question

module _ {T : Type 0} (code : Coding T) (q : ℕ) where
  -- these events begin with `first`
  pub record BeginsWith (first : Event T) (es : List (Event T)) : Type 0 where
    pub rest : List (Event T)
    pub is : es ≡ first ∷ rest

  -- what the step of a call writes
  abbrev writes : Option (ContainerState T) → ContainerFlight T → ℕ → List (Event T)
  writes state flight old = effects code q state flight old ++ questions q flight old

  -- if the call asks about an element after the step, it has written the copy of it first
  abbrev CopiesFirst : Option (ContainerState T) → ContainerFlight T → ℕ → Type 0
  CopiesFirst state flight old =
      (index : ℕ) (value : T) → made code flight old ≡ Some (index, value) → BeginsWith (Copied q index value) (writes state flight old)

  -- a step after which a call asks about an element has written the copy of it first
  made_copies : (state : Option (ContainerState T)) (flight : ContainerFlight T) (old : ℕ) → CopiesFirst state flight old
  made_copies state flight old = grind arith

  -- a call that waits for a decision asks about nothing after it
  abbrev AsksNothingThen : ContainerFlight T → ℕ → Type 0
  AsksNothingThen flight old = is_question (want code flight) ≡ true → made code flight old ≡ None

  -- no call that waits for a decision asks about anything after it
  waits_none : (flight : ContainerFlight T) (old : ℕ) → AsksNothingThen flight old
  waits_none flight old = grind arith

-- ---- a decision

-- a turn that is not refused, from a sound machine
module _ {T : Type 0} (run : SoundRun T) where
  open run use {shown, terms, code, trace as t, sound, may}

  abbrev c : ℕ
  c = t.world.capacity

  -- what a call of party `p` writes when it is handed an answer, and what it has asked about
  module _ (p : ℕ) where
    abbrev state : Option (ContainerState T)
    state = state_of p sound.state.states

    -- the decision writes what the call writes that is handed this answer
    abbrev WritesAnswered : Bool → ContainerStart T → ContainerFlight T → ℕ → Type 0
    WritesAnswered said start flight answer =
        events_of t.world (Decide p said)
        ≡ (effects code p state flight answer ++ questions p flight answer)
        ++ ending_of p (Container start) (answer_in (any_call (after code state flight answer)))

    -- what the party asks about is what its call asks about
    abbrev HasAsked : ContainerFlight T → Type 0
    HasAsked flight = question_at t p ≡ question_in code (Some (flights.Container flight))

    -- a call of this name waits for the decision `said`: which call, at which stage, and what it writes
    pub record Waiting (said : Bool) (start : ContainerStart T) : Type 0 where
      -- the call and its stage, at which it waits for a decision
      pub flight : ContainerFlight T
      pub at : At c code.size (set_acts_of p t.events) (acts_of p t.events) start flight
      pub due : is_question (want code flight) ≡ true
      -- what it has asked about, and what it writes when it hears the decision
      pub asked : HasAsked flight
      pub wrote : WritesAnswered said start flight (number_of said)

    -- a party to which a decision is told has a call that waits for it
    waiting : (said : Bool) (start : ContainerStart T) → IsAllowed t.world (Decide p said) → IsIn p (Container start) t → Waiting said start
    waiting said start allowed here = grind arith

    -- ---- a recovery

    -- a recovery of `owner`, in mode `mode`
    module _ (owner : ℕ) (mode : ReleaseMode) where
      -- a recovery that is told yes is told to free the index that it asked about, and
      -- nothing else is written
      abbrev IsToldByYes : ContainerFlight T → Type 0
      IsToldByYes flight =
          is_question (want code flight) ≡ true → HasAsked flight
          → WritesAnswered true (starts.Recover owner mode) flight 1
          → IsTold p owner t (after_turn t (Decide p true))

      -- a yes to a recovery at any stage at which it waits tells it to free its index
      stage_hears : (given : DeadOwner) → given.owner ≡ owner
          → (capacity : ℕ) (room : buffers.Buffer 128) (stage : RecoverStage)
          → IsToldByYes (recover_at capacity given.owner given.mode room stage)
      stage_hears given same capacity room stage due asked e = grind arith

      -- a yes to a recovery that waits tells it to free its index
      hears : (flight : ContainerFlight T)
          → At c code.size (set_acts_of p t.events) (acts_of p t.events) (starts.Recover owner mode) flight
          → IsToldByYes flight
      hears = grind (arith, stage_hears)

      -- a no to a recovery writes nothing
      abbrev WritesNothingByNo : ContainerFlight T → Type 0
      WritesNothingByNo flight =
          is_question (want code flight) ≡ true → WritesAnswered false (starts.Recover owner mode) flight 0
          → (after_turn t (Decide p false)).events ≡ t.events

      -- a no to a recovery at any stage at which it waits writes nothing
      stage_stays : (given : DeadOwner) (capacity : ℕ) (room : buffers.Buffer 128) (stage : RecoverStage)
          → WritesNothingByNo (recover_at capacity given.owner given.mode room stage)
      stage_stays = grind (arith, append-nil, both_ways, raise_asks_none, lock_asks_none)

      -- a no to a recovery that waits writes nothing
      stays : (flight : ContainerFlight T)
          → At c code.size (set_acts_of p t.events) (acts_of p t.events) (starts.Recover owner mode) flight
          → WritesNothingByNo flight
      stays (Recover run) stands = stage_stays run.given run.call.capacity run.room run.call.stage
      stays flight stands = absurd stands

    -- ---- a find

    -- a find of `owner` is told no
    module _ (owner : ℕ) (r : IsAllowed t.world (Decide p false)) (well_formed : Type 0)
        (so_far : well_formed
        → IsWellFormedSoFar terms (after_turn t (Decide p false)).world.latest (after_turn t (Decide p false)).events) where
      -- a no to a find ends it, with the count that the promise says
      abbrev IsStoppedByNo : ContainerFlight T → Type 0
      IsStoppedByNo flight =
          is_question (want code flight) ≡ true → HasAsked flight → WritesAnswered false (starts.Find owner) flight 0
          → StoppedIf well_formed p owner t (after_turn t (Decide p false))

      -- a no to a find at its question ends it, with the count that the promise says
      stage_stops : (capacity given : ℕ) (room : buffers.Buffer 128) (stage : FindStage) → IsStoppedByNo (find_at capacity given room stage)
      stage_stops capacity given room (finds.LoadsCell k found) due asked e = absurd (cc)
      stage_stops capacity given room (finds.LoadsCount k found) due asked e = absurd (cc)
      stage_stops capacity given room (finds.LoadsWord k found count at) due asked e = absurd (cc)
      stage_stops capacity given room (finds.ChecksCount k found count) due asked e = absurd (cc)
      stage_stops capacity given room (finds.Asks k found) due asked e =
          let ends : (after_turn t (Decide p false)).events
          ≡ t.events ++ Finished p (Container (starts.Find owner)) (Number found) ∷ [] =
          ap (λ es. t.events ++ es) e in
          record {
            index = k;
            value = read_in code room;
            number = found;
            asked = asked;
            ends = ends;
            counts = counts_up_to run (record { turn = Decide p false; allowed = r; well_formed = well_formed; so_far = so_far }) p owner found ends refl asked;
          }

      -- a no to a find that waits ends it, with the count that the promise says
      stops : (flight : ContainerFlight T) → At c code.size (set_acts_of p t.events) (acts_of p t.events) (starts.Find owner) flight → IsStoppedByNo flight
      stops (Find run) stands = stage_stops run.call.capacity run.given run.room run.call.stage
      stops flight stands = absurd stands

  -- ---- any turn

  module _ (turn : Turn T) (r : IsAllowed t.world turn) where
    by_turn : (p : ℕ) (said : Bool) → turn ≡ Decide p said → IsAllowed t.world (Decide p said)
    by_turn p said decided_so = subst (λ u. IsAllowed t.world u) decided_so r

    -- each find that a no ends in the turn has counted up to the index that it asked about
    pub finds_up_to : (well_formed : Type 0)
        (so_far : well_formed → IsWellFormedSoFar run.terms (after_turn t turn).world.latest (after_turn t turn).events)
        → FindsUpToIf well_formed t turn (after_turn t turn)
    finds_up_to well_formed so_far p owner is here =
        let w = waiting p false (starts.Find owner) (by_turn p false is) here in
        subst (λ u. StoppedIf well_formed p owner t (after_turn t u)) (sym is)
        (stops p owner (by_turn p false is) well_formed
        (subst (λ u. well_formed → IsWellFormedSoFar terms (after_turn t u).world.latest (after_turn t u).events) is so_far)
        w.flight w.at w.due w.asked w.wrote)

    -- a yes to a recovery tells it to free the index that it asked about
    tells_yes : YesTells t turn (after_turn t turn)
    tells_yes = grind (arith, waiting, by_turn, after_turn, hears)

    -- a no to a recovery writes nothing
    tells_no : NoTells t turn (after_turn t turn)
    tells_no = grind (arith, waiting, false, by_turn, after_turn, stays)

    -- after a decision the party asks about nothing
    answered : IsAnswered turn (after_turn t turn)
    answered p said is =
        let d = decided run p said (by_turn p said is) in
        subst (λ u. question_at (after_turn t u) p ≡ None) (sym is) (d.goes.asks ∙ waits_none code p d.goes.flight d.goes.answer d.due)

    -- a party that asks about an element after the turn has copied it in the turn, or asked about it before
    once : AsksOnce t (after_turn t turn)
    once p index value e ne =
        ⊎_elim
        (λ (calm : IsCalmTurn run turn). absurd (ne (calm.asks p index value e)))
        (λ (going : IsGoing run turn). ⊎_elim (λ is. here going is)
        (λ other. absurd (ne (sym (going.goes.others p other) ∙ e))) (cases_eq p going.party))
        (any_turn run turn r)
      where
        -- a party whose call goes on to a question has written the copy that it asks about
        here : (going : IsGoing run turn) → p ≡ going.party → HasWritten (Copied p index value) t (after_turn t turn)
        here going is =
            let g = going.goes in
            let first =
            made_copies code going.party (state_of going.party sound.state.states) g.flight g.answer index value
            (sym g.asks ∙ subst (λ n. question_at (after_turn t turn) n ≡ Some (index, value)) is e) in
            subst (λ n. HasWritten (Copied n index value) t (after_turn t turn)) (sym is)
            (record {
              before = [];
              after =
                  first.rest ++ ending_of going.party (Container g.start)
                  (answer_in (any_call (after code (state_of going.party sound.state.states) g.flight g.answer)));
              is =
                  ap (λ es. t.events ++ es)
                  (g.wrote ∙ ap (λ es. es ++ ending_of going.party (Container g.start)
                  (answer_in (any_call (after code (state_of going.party sound.state.states) g.flight g.answer))))
                  first.is);
            })

    -- each event that the turn has written is right in what it says of questions and of answers
    all_right : AllRight t turn (after_turn t turn)
    all_right =
        record {
          wrote = events_of t.world turn;
          is = refl;
          right = ⊎_elim
              (λ (calm : IsCalmTurn run turn). calm.right)
              (λ (going : IsGoing run turn). goes_right run turn going.party going.goes)
              (any_turn run turn r);
        }

    -- what a turn tells of questions is as the promise says
    pub questions_right : QuestionsRight t turn (after_turn t turn)
    questions_right = record { writes = all_right; once = once; answered = answered; yes = tells_yes; no = tells_no }
