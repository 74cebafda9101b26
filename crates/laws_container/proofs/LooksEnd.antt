-- The step in which a look ends, from inside the call: what it has made of its party's state, and that this
-- is as the answer says and as the container stood.
use Rattle.laws_container.proofs.Names.{◌≡◌, ◌≢◌, ⊎_elim, ℕ, ◌≤◌, Bool, true, false, Option, Some, None, is_some}
use Rattle.laws_container.proofs.Names.{List, [], ◌∷◌, ◌++◌, refl, sym, ap, subst, ◌∙◌, append-nil, arith, cases_eq}
use Rattle.laws_container.proofs.Names.{fold-append, Ask, After, GoOn, LookStage, ContainerState, look_asks}
use Rattle.laws_container.proofs.Names.{look_goes_back, look_after, Answer, Event, Copied, Finished, Container}
use Rattle.laws_container.proofs.Names.{ContainerStart, LookOf, Party, ask_of, goes_after, looked, look_came}
use Rattle.laws_container.proofs.Names.{look_goes, look_shows, settled_if, states_after, writes_state, WasAlone}
use Rattle.laws_container.proofs.Names.{IsCurrent, ShowsMoments, AnswersOfState, MomentsOfState, contents_after}
use Rattle.laws_container.proofs.Names.{contents_of, announced_of, state_of, set_state, settled, look_effects}
use Rattle.laws_container.proofs.Names.{look_effects_of, copy_in, effects, questions, party_of, put, doing_of}
use Rattle.laws_container.proofs.Names.{flight_of, span_of, IsShut, answer_in, old_of, words_after, both_ways}
use Rattle.laws_container.proofs.Names.{through_less, through_now, through_so, since_less}
use Rattle.steps.specs.declared.ask.After.TheVariants.{Done}
use Rattle.steps.specs.declared.container.look.Look.{Look}
use Rattle.laws_container.proofs.Alone.{alone_less, others_shut}
use Rattle.laws_container.proofs.Announced.{announced_through}
use Rattle.laws_container.proofs.Invariant.{Scene, Inv, before, after, wrote_of}
use Rattle.laws_container.proofs.KeptCopies.{ShowsOwn, ShowsCopied, copies_of, own_later, own_then, calls_on}
use Rattle.laws_container.proofs.Knows.{LookKnows}
use Rattle.laws_container.proofs.LookWalk.{IsAfterLookStep, call_at}
use Rattle.laws_container.proofs.Looks.{looks_as, no_replace, silent_end, written_same, Looking, LookWrites, ends_alone, comes, HasState}
use Rattle.laws_container.proofs.Looks.{state_known, walks}
use Rattle.laws_container.proofs.WellFormed.{IsWellFormedSoFar}
use Rattle.laws_container.proofs.StateInvariant.{Rests, Course}
use Rattle.laws_container.proofs.Stages.{IsUnderWay, all, done, sees_now, any_call, owes_is, was_well_formed}
use Rattle.laws_container.proofs.CallProgress.{look_at, look_number, LookAt}
use Rattle.laws_container.proofs.Turns.{Owing, owes, Now, WellFormed, change_in}

-- ---- what its answer says

module _ {T : Type 0} where
  -- a look that has gone over all indices says true of an update, and of a `get_state` the number of the
  -- values in the state
  answers_passed : (which : LookOf) (st : ContainerState T) (o : Option (ContainerState T))
      → AnswersOfState (looks_as which) (looked which st true) o (settled st)
  answers_passed = grind arith

  -- the answer of a look that found nothing changed is right for the state that it leaves
  answers_same : (which : LookOf) (st s : ContainerState T) → st ≡ s → AnswersOfState (looks_as which) (looked which st false) (Some s) st
  answers_same = grind arith

  -- a look that has gone over all indices may say that each index shows what stood there at a moment of it
  moments_passed : (which : LookOf) (p c : ℕ) (st : ContainerState T) (es : List (Event T))
      → ShowsMoments p c (settled st) es → MomentsOfState p c (looks_as which) (looked which st true) (settled st) es
  moments_passed = grind arith

  -- a look that found nothing changed says nothing about moments
  moments_same : (which : LookOf) (p c : ℕ) (st : ContainerState T) (es : List (Event T)) → MomentsOfState p c (looks_as which) (looked which st false) st es
  moments_same = grind arith

-- a look at `stage`, which may end in its next step
pub record LastStep (T : Type 0) : Type 0 where
  -- the turn, and what holds of the machine before it
  pub scene : Scene T
  pub inv : Inv scene
  -- the call, which stands at its stage, knows what that stage tells, and is within its steps
  pub which : LookOf
  pub stage : LookStage
  pub here : IsUnderWay scene (looks_as which) (look_at which scene.capacity stage)
  pub stands : LookAt scene.capacity scene.coding.size (all scene) (done scene) stage
  pub knows : LookKnows scene.coding scene.capacity stage (sees_now scene)
  pub few : scene.steps ≤ look_number scene.coding.size stage scene.backs
  -- no party owes the changes a raise whose call is over
  pub alone : (q : ℕ) → owes (flight_of (doing_of (party_of q scene.latest))) ≡ true → IsShut (span_of q scene.events) → ⊥

module _ {T : Type 0} (last : LastStep T) where
  open last use {scene, inv, which, stage, here, knows, few, stands as stands_there, alone as alone_now}
  open last.scene use {coding as code, capacity as c, party as p, latest as latest, events as events}

  abbrev ws : List ℕ
  ws = scene.words

  abbrev m : Now T
  m = before scene

  -- the state of the party, which a look has
  abbrev h : HasState scene inv
  h = state_known scene inv stage knows

  -- the look with the state of its party
  abbrev looking : Looking T
  looking = record { scene = scene; inv = inv; which = which; stage = stage; here = here; state = h.state; found = h.found }

  -- the operation of the step, and the word that it is handed
  abbrev ask_now : Option Ask
  ask_now = ask_of (look_asks code.size c stage)

  abbrev old : ℕ
  old = old_of ws (ask_of (look_asks code.size c stage))

  -- the call that the look belongs to
  abbrev start : ContainerStart T
  start = looks_as which

  -- ---- how it may end

  -- the look has gone over all indices: it leaves the words, may write one copy, and its state has come past
  -- all of them
  record HasPassed (ask : Option Ask) (did : List (Event T)) (st : ContainerState T) : Type 0 where
    pub what : Option (ℕ × T)
    pub is : did ≡ copies_of p what
    pub same : words_after ws ask ≡ ws
    pub course : (m' : Now T) → IsAfterLookStep scene inv m' what → Course code c m' p st c c

  -- the look found that nothing had changed: it writes nothing and leaves its state, which has seen the
  -- number of changes that stands
  record IsSame (did : List (Event T)) (st : ContainerState T) : Type 0 where
    pub nothing : did ≡ []
    pub is : st ≡ h.state
    pub rests : Rests code c m p st
    pub change : st.shown.change ≡ change_in code c m
    pub own : ShowsOwn p st c events

  -- what is known of the look by how it goes on: it has gone over all indices if it ends with true, and found
  -- nothing changed if it ends with false
  abbrev EndsByAnswer : Option Ask → Bool → List (Event T) → ContainerState T → After (Look T) Bool → Type 0
  EndsByAnswer ask back did st (GoOn call) = Unit {0}
  EndsByAnswer ask back did st (Done true) = HasPassed ask did st
  EndsByAnswer ask back did st (Done false) = IsSame did st

  -- a look that ends with true has gone over all indices, and one that ends with false has
  -- found nothing changed
  ends_so : EndsByAnswer ask_now (look_goes_back stage old) (look_effects p (copy_in code h.state) stage old)
      (look_shows code (call_at scene inv stage) h.state old)
      (look_after code.size (call_at scene inv stage) h.state.seen old)
  ends_so =
      walks scene inv stage stands_there knows few EndsByAnswer
      (λ ask.
      record {
        goes = λ next back what st right same stands low known. tt;
        ends = λ back what st right same none low paid course. record { what = what; is = refl; same = same; course = course };
        stays = λ same none low paid rests own change. record { nothing = refl; is = refl; rests = rests; change = change; own = own };
      })

  -- ---- what it shows then

  -- the step writes `did`, and leaves the state `st` and the party `y`
  module _ (did : List (Event T)) (st : ContainerState T) (y : Party T) where
    -- the look has gone over all indices, and ends with `answer`
    module _ (answer : Answer T) (passed : HasPassed ask_now did st) where
      -- `m'` is a machine after the look's last step, in a well-formed run
      module _ (m' : Now T) (comes' : IsAfterLookStep scene inv m' passed.what) (holds : WellFormed m') where
        course : Course code c m' p st c c
        course = passed.course m' comes'

        -- the state shows each value that was announced before the look and stood through it, and all that
        -- stands if the look was alone
        all_current : IsCurrent p c (settled st) m'.events
        all_current = grind (arith, through_now, through_so, is_some)

        -- the state shows of each index what stood there at a moment of the look
        all_moments : ShowsMoments p c (settled st) m'.events
        all_moments = λ i low. course.once holds i low low

      -- the machine after the look's last step is one after its copy: the end that is written
      -- changes nothing of elements
      comes_end : (what : Option (ℕ × T))
          → IsAfterLookStep scene inv (after scene (words_after ws ask_now) y (copies_of p what ++ Finished p (Container start) answer ∷ [])) what
      comes_end None =
          let written : List (Event T) = Finished p (Container start) answer ∷ [] in
          comes looking (ends_alone looking passed.same (λ i. fold-append (contents_after i) None events written) (silent_end T which _)) y
      comes_end (Some copy) =
          let written : List (Event T) = Copied p copy.0 copy.1 ∷ Finished p (Container start) answer ∷ [] in
          let writes : LookWrites looking (words_after ws ask_now) (Some copy) (Finished p (Container start) answer ∷ []) =
          record {
            same = passed.same;
            silent = (tt, (silent_end T which _, tt));
            own = (refl, (refl, tt));
            none = tt;
            contents = λ i. fold-append (contents_after i) None events written;
            on = calls_on p events (Container start) (wrote_of p events) here.span (Some copy) (Some answer);
          } in
          comes looking writes y

      -- in a well-formed run the state is current, and shows moments of the look, after these events
      abbrev IsCurrentAfter : List (Event T) → Type 0
      IsCurrentAfter es =
          IsWellFormedSoFar scene.terms (put p y latest) (events ++ es)
          → IsCurrent p c (settled st) (events ++ es) × ShowsMoments p c (settled st) (events ++ es)

      -- in a well-formed run, the settled state of a look that has gone over all indices is current, and
      -- shows moments of the look
      passed_current : IsCurrentAfter (did ++ Finished p (Container start) answer ∷ [])
      passed_current =
          subst (λ d. IsCurrentAfter (d ++ Finished p (Container start) answer ∷ [])) (sym passed.is)
          (λ holds.
          let m' : Now T = after scene (words_after ws ask_now) y (copies_of p passed.what ++ Finished p (Container start) answer ∷ []) in
          let comes' = comes_end passed.what in
          (all_current m' comes' holds, all_moments m' comes' holds))

      abbrev IsCopiedAfter : List (Event T) → Type 0
      IsCopiedAfter es = ShowsCopied p (settled st) events (events ++ es)

      -- each value that the settled state shows was copied by the party, in this look or before
      passed_own : IsCopiedAfter (did ++ Finished p (Container start) answer ∷ [])
      passed_own =
          subst (λ d. IsCopiedAfter (d ++ Finished p (Container start) answer ∷ [])) (sym passed.is)
          (let m' : Now T = after scene (words_after ws ask_now) y (copies_of p passed.what ++ Finished p (Container start) answer ∷ []) in
          let comes' = comes_end passed.what in
          let course' = passed.course m' comes' in
          own_then c comes'.on (settled st) course'.sight.wide course'.own)

    -- the look found that nothing had changed, so each value that its state shows was copied before
    same_own : (answer : Answer T) → IsSame did st → ShowsCopied p st events (events ++ (did ++ Finished p (Container start) answer ∷ []))
    same_own answer same =
        let on = calls_on p events (Container start) (wrote_of p events) here.span None (Some answer) in
        subst (λ d. ShowsCopied p st events (events ++ (d ++ Finished p (Container start) answer ∷ []))) (sym same.nothing)
        (own_then c on st same.rests.sight.wide (own_later on st c same.own))

    -- the look found that nothing had changed, and ends with `answer`
    module _ (answer : Answer T) (same : IsSame did st)
        (was : IsWellFormedSoFar scene.terms (put p y latest) (events ++ (did ++ Finished p (Container start) answer ∷ []))
        → WellFormed m) where
      module _ (holds : WellFormed m) where
        abbrev es : List (Event T)
        es = Finished p (Container start) answer ∷ []

        -- the end of the look changes nothing of what stands
        still : (i : ℕ) → contents_of i (events ++ es) ≡ contents_of i events
        still i = fold-append (contents_after i) None events es

        -- where the look was alone and found nothing changed, no party owes the changes a raise
        nobody : {A : Type 0} → WasAlone p events → Owing latest → A
        nobody {A = A} was o = ⊎_elim mine theirs (cases_eq o.party p)
          where
            mine : o.party ≡ p → A
            mine = grind (arith, both_ways, owes, owes_is, look_at)

            theirs : o.party ≢ p → A
            theirs ne = absurd (alone_now o.party o.is (others_shut p o.party events ne was))

        -- a state of which the look found that nothing had changed is current
        same_current : IsCurrent p c st (events ++ es)
        same_current =
            record {
              stood = λ i value announced through.
                  let less = through_less p (λ part. contents_of i part ≡ Some value) events es tt through in
                  let said = announced_through p i value events (since_less p (λ part. announced_of i part ≡ true) events es tt announced) less in
                  let now = through_now p (λ part. contents_of i part ≡ Some value) events less in
                  let low = inv.elements.within i value now in
                  same.rests.sight.same holds i low (λ e. absurd (omega arith)) (same.rests.sight.caught holds same.change i low low said) ∙ now;
              alone = λ was i low.
                  let less = alone_less p events es tt was in
                  ⊎_elim (λ e. same.rests.sight.same holds i low (λ e. absurd (omega arith)) e ∙ sym (still i))
                  (λ o. nobody less o) (same.rests.sight.owed holds.kept same.change i low low);
            }

      -- in a well-formed run, the state of a look that found nothing changed is current after the end
      unchanged_current : IsWellFormedSoFar scene.terms (put p y latest) (events ++ (did ++ Finished p (Container start) answer ∷ []))
          → IsCurrent p c st (events ++ (did ++ Finished p (Container start) answer ∷ []))
      unchanged_current = grind (arith, same_current)

  -- ---- the step in which it ends

  -- what the look tells with `answer`, when it writes `did` and leaves the state `left`, and
  -- the state was `o` before
  pub record TellsOfState (answer : Answer T) (did : List (Event T)) (left : ContainerState T) (o : Option (ContainerState T)) : Type 0 where
    pub answers : AnswersOfState (looks_as which) answer o left
    pub current : (y : Party T) → IsWellFormedSoFar scene.terms (put p y latest) (events ++ (did ++ Finished p (Container (looks_as which)) answer ∷ []))
        → IsCurrent p c left (events ++ (did ++ Finished p (Container (looks_as which)) answer ∷ []))
        × MomentsOfState p c (looks_as which) answer left (events ++ (did ++ Finished p (Container (looks_as which)) answer ∷ []))
    pub own : ShowsCopied p left events (events ++ (did ++ Finished p (Container (looks_as which)) answer ∷ []))

  -- the look writes `did`, makes the state `st`, ends with `answer` and leaves the state `left`
  module _ (did : List (Event T)) (st : ContainerState T) (answer : Answer T) (left : ContainerState T) where
    -- the state that is found after the step is the one that the look wrote
    is_left : (wrote : ContainerState T) → state_of p (set_state p wrote scene.states) ≡ Some left → wrote ≡ left
    is_left = grind (arith, written_same)

    -- a look that ends, in either way, has an answer that is right for the state that it leaves
    by_after : (r : After (Look T) Bool) → EndsByAnswer ask_now (look_goes_back stage old) did st r
        → answer_in (any_call (look_came which st r)) ≡ Some answer
        → state_of p (set_state p (settled_if r st) scene.states) ≡ Some left → TellsOfState answer did left (Some h.state)
    by_after (GoOn call) so ends_so found = absurd (cc)
    by_after (Done true) so ends_so found =
        let answer_is : looked which st true ≡ answer = cc in
        subst (λ a. TellsOfState a did left (Some h.state)) answer_is
        (subst (λ l. TellsOfState (looked which st true) did l (Some h.state)) (is_left (settled st) found)
        (record {
          answers = answers_passed which st (Some h.state);
          own = passed_own did st here.party (looked which st true) so;
          current = λ y holds.
              let now = passed_current did st y (looked which st true) so holds in
              (now.0, moments_passed which p c st (events ++ (did ++ Finished p (Container start) (looked which st true) ∷ [])) now.1);
        }))
    by_after (Done false) so ends_so found =
        let answer_is : looked which st false ≡ answer = cc in
        subst (λ a. TellsOfState a did left (Some h.state)) answer_is
        (subst (λ l. TellsOfState (looked which st false) did l (Some h.state)) (is_left st found)
        (record {
          answers = answers_same which st h.state so.is;
          own = same_own did st here.party (looked which st false) so;
          current = λ y holds. (
            unchanged_current did st y (looked which st false) so (was y) holds,
            moments_same which p c st (events ++ (did ++ Finished p (Container start) (looked which st false) ∷ [])),
          );
        }))
      where
        -- the run was well-formed before the end if it is after it
        was : (y : Party T)
            → IsWellFormedSoFar scene.terms (put p y latest) (events ++ (did ++ Finished p (Container start) (looked which st false) ∷ []))
            → WellFormed m
        was y =
            subst (λ d. IsWellFormedSoFar scene.terms (put p y latest)
            (events ++ (d ++ Finished p (Container start) (looked which st false) ∷ []))
            → WellFormed m)
            (sym so.nothing)
            (was_well_formed scene start (no_replace T which) here.span ws y (Finished p (Container start) (looked which st false) ∷ []) (refl, tt))

  -- a look whose state is `o`, and that ends with `answer` and leaves `left`, tells right
  abbrev TellsFrom : Option (ContainerState T) → Type 0
  TellsFrom o =
      (answer : Answer T) (left : ContainerState T)
      → answer_in (any_call (look_goes code which (call_at scene inv stage) o old)) ≡ Some answer
      → state_of p (writes_state code p (call_at scene inv stage) old o scene.states) ≡ Some left
      → TellsOfState answer (look_effects_of code p stage old o ++ []) left o

  -- the answer of a look that ends, and the state that it leaves, are as the promise says them
  pub look_tells : (answer : Answer T) (left : ContainerState T)
      → answer_in (any_call (goes_after code (state_of p scene.states) (look_at which c stage) old)) ≡ Some answer
      → state_of p (states_after code p (look_at which c stage) old scene.states) ≡ Some left
      → TellsOfState answer (effects code p (state_of p scene.states) (look_at which c stage) old ++ questions p (look_at which c stage) old)
      left (state_of p scene.states)
  look_tells =
      subst TellsFrom (sym h.found)
      (λ answer left e found.
      let did = look_effects p (copy_in code h.state) stage old in
      let st = look_shows code (call_at scene inv stage) h.state old in
      subst (λ d. TellsOfState answer d left (Some h.state)) (sym (append-nil did))
      (by_after did st answer left (look_after code.size (call_at scene inv stage) h.state.seen old) ends_so e found))

  -- the party has a state after the step of a look that had the state `o`
  abbrev LeavesFrom : Option (ContainerState T) → Type 0
  LeavesFrom o = is_some (state_of p (writes_state code p (call_at scene inv stage) old o scene.states)) ≡ true

  pub look_leaves : is_some (state_of p (states_after code p (look_at which c stage) old scene.states)) ≡ true
  look_leaves = subst LeavesFrom (sym h.found) (ap is_some (written_same p _ h.state scene.states h.found))
