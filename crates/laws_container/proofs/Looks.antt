-- The steps of the calls that bring a party's state up to date (`get_state` and `update_state`), as
-- turns of the machine: `LookWalk` says what each step makes of the state, and here each is shown
-- to keep the invariant.
use Rattle.laws_container.proofs.Names.{◌≡◌, ◌≢◌, ⊎_elim, ℕ, ◌+◌, ◌*◌, ◌≤◌, cond, Bool, true, false, Option, Some}
use Rattle.laws_container.proofs.Names.{None, List, [], ◌∷◌, ◌++◌, refl, sym, ap, subst, ◌∙◌, arith, AllByRecursion}
use Rattle.laws_container.proofs.Names.{cases_eq, flat_map-append, fold-append, Ask, After, GoOn, LookStage}
use Rattle.laws_container.proofs.Names.{ContainerState, look_asks, look_goes_back, Answer, Event, Copied, Finished}
use Rattle.laws_container.proofs.Names.{Container, ContainerStart, LookOf, Party, ask_of, most_steps, looked}
use Rattle.laws_container.proofs.Names.{look_came, look_goes, settled_if, writes_state, is_looking, WasCopied, Act}
use Rattle.laws_container.proofs.Names.{acts, seen_in, contents_after, contents_of, may_stand, HasDone, state_of}
use Rattle.laws_container.proofs.Names.{set_state, settled, look_effects_of, SetAct, set_acts, BeginsNone}
use Rattle.laws_container.proofs.Names.{put, flight_of, Open, old_of, words_after, step_count, ending_of, apart}
use Rattle.laws_container.proofs.Names.{itself, AreOwn, GoneBy, IsWorn}
use Rattle.std.specs.BTreeMap.{is_at}
use Rattle.std.specs.Ordering.{nat_cmp, is_eq}
use Rattle.std.specs.Map.{lookup, set_value}
use Rattle.steps.specs.declared.ask.After.TheVariants.{Done}
use Rattle.steps.specs.declared.container.look.Look.{Look}
use Rattle.steps.specs.declared.container.look.LookStage.TheVariants as stages
use Rattle.model.specs.declared.families.container.ContainerStart.TheVariants as starts
use Rattle.model.specs.declared.families.container.calls.LookOf.TheVariants as kinds
use Rattle.laws_container.specs.Gone.{AnswersBy}
use Rattle.laws_container.proofs.Core.{count_at}
use Rattle.laws_container.proofs.Effects.{OwesStill}
use Rattle.laws_container.proofs.LookSteps.{rests_settled}
use Rattle.laws_container.proofs.HiddenKnows.{EndsRight}
use Rattle.laws_container.proofs.Invariant.{right_end, Scene, Inv, AreAllRight, KeepsInvariant, before, after, wrote_of, view}
use Rattle.laws_container.proofs.KeptCopies.{ShowsOwn, copies_of, CallsOn, calls_on}
use Rattle.laws_container.proofs.Knows.{LookKnows, Knows}
use Rattle.laws_container.proofs.LookWalk.{IsAfterLookStep, IsRight, call_at, Walker, WalkAt, walks_change, walks_count, walks_word, walks_check}
use Rattle.laws_container.proofs.StateInvariant.{Rests, Course, rests_later, course_later}
use Rattle.laws_container.proofs.Silent.{Silent, EndsSilently, silent_set, silent_changes}
use Rattle.laws_container.proofs.Stages.{NoReplace, IsUnderWay, none_lengthens, all, done, sees_now, StepOf, Leads}
use Rattle.laws_container.proofs.Stages.{party_then, backs_then, since_then, changes_then, goes_on, ends, owes_none}
use Rattle.laws_container.proofs.Stages.{was_well_formed}
use Rattle.laws_container.proofs.CallProgress.{look_at, look_number, LookAt, At, AreBelow}
use Rattle.laws_container.proofs.Turns.{Now, WellFormed, Passes, change_in}

-- ---- a party's state is written

module _ {X : Type 0} where
  abbrev found_at : ℕ → List (ℕ × X) → Option X
  found_at p es = lookup (is_at (nat_cmp p)) es

  -- the value of a party that is written in a list is found there
  same_by : (p : ℕ) (x y : X) (e : ℕ × X) (es : List (ℕ × X)) (b : Bool) → is_eq (nat_cmp p e.0) ≡ b
      → found_at p (e ∷ es) ≡ Some y
      → (found_at p es ≡ Some y → found_at p (set_value (is_at (nat_cmp p)) es x) ≡ Some x)
      → found_at p (set_value (is_at (nat_cmp p)) (e ∷ es) x) ≡ Some x
  same_by = grind arith

  -- a party's state is found after it is written
  pub written_same : (p : ℕ) (x y : X) (es : List (ℕ × X)) → found_at p es ≡ Some y → found_at p (set_value (is_at (nat_cmp p)) es x) ≡ Some x
  written_same p x y [] found = absurd (cc)
  written_same p x y (e ∷ es) found = same_by p x y e es (is_eq (nat_cmp p e.0)) refl found (written_same p x y es)

  -- a party's state is found as it was after another party's state is written
  pub written_other : (q p : ℕ) (x : X) (es : List (ℕ × X)) → q ≢ p → found_at q (set_value (is_at (nat_cmp p)) es x) ≡ found_at q es
  written_other q p x [] ne = refl
  written_other q p x (e ∷ es) ne =
      let behind : found_at q (set_value (is_at (nat_cmp p)) es x) ≡ found_at q es = written_other q p x es ne in
      ⊎_elim here (there behind) (cases_eq p e.0)
    where
      -- the first entry is that of party `p`, which is not the one that is looked for
      here : p ≡ e.0 → found_at q (set_value (is_at (nat_cmp p)) (e ∷ es) x) ≡ found_at q (e ∷ es)
      here same =
          let is_same : is_eq (nat_cmp p e.0) ≡ true = subst (λ n. is_eq (nat_cmp p n) ≡ true) same (itself p) in
          let is_other : is_eq (nat_cmp q e.0) ≡ false = apart q e.0 (λ h. ne (h ∙ sym same)) in
          rw (is_same, is_other) refl

      -- the first entry is not that of party `p`, so the rest of the list is searched
      there : found_at q (set_value (is_at (nat_cmp p)) es x) ≡ found_at q es → p ≢ e.0
          → found_at q (set_value (is_at (nat_cmp p)) (e ∷ es) x) ≡ found_at q (e ∷ es)
      there behind other =
          let is_other : is_eq (nat_cmp p e.0) ≡ false = apart p e.0 other in
          rw is_other (ap (cond (is_eq (nat_cmp q e.0)) (Some e.1)) behind)

-- ---- the call of each kind of look

abbrev pub looks_as : {T : Type 0} → LookOf → ContainerStart T
looks_as kinds.GetState = starts.GetState
looks_as kinds.UpdateState = starts.UpdateState

module _ (T : Type 0) where
  -- a look is no replace
  pub no_replace : (which : LookOf) → NoReplace (looks_as {T = T} which)
  no_replace = grind arith

  -- the end of a look changes nothing of the set or of what stands
  pub silent_end : (which : LookOf) (answer : Answer T) → EndsSilently (looks_as which) answer
  silent_end = grind arith

  -- a look that stands at its stage stands there as a call of the container
  at_look : (which : LookOf) (c z : ℕ) (made : List SetAct) (did : List (Act T)) (stage : LookStage)
      → LookAt c z made did stage → At c z made did (looks_as which) (look_at which c stage)
  at_look = grind arith

  -- the steps of a look are at most those that the promise allows
  few_look : (which : LookOf) (c z n backs : ℕ) → n ≤ 1 + c * (z + 2) + backs * (z + 1) → n ≤ most_steps c z (looks_as {T = T} which) backs
  few_look = grind arith

  -- the answer of a look says nothing of the set
  answers_look : (by : GoneBy) (worn : Type 0) (which : LookOf) (c p : ℕ) (s : ContainerState T) (changed : Bool)
      (events : List (Event T))
      → AnswersBy by worn c events (Finished p (Container (looks_as which)) (looked which s changed))
  answers_look = grind arith

  -- the end of a look places nothing
  places_look : (which : LookOf) (p : ℕ) (s : ContainerState T) (changed : Bool) (events : List (Event T))
      → EndsRight events (Finished p (Container (looks_as which)) (looked which s changed))
  places_look = grind arith

  -- a look has done nothing to the set
  does_look : (which : LookOf) (s : ContainerState T) (changed : Bool) (made : List SetAct) (acts : List (Act T))
      → made ≡ [] → HasDone (looks_as which) (looked which s changed) made acts
  does_look = grind arith

  -- a copy of an index past those that the look has seen may stand in its span
  copy_stands : (which : LookOf) (p index : ℕ) (value : T) (w : List (Event T)) → AreBelow index (seen_in (acts w))
      → may_stand (Copied p index value) (Open (Container (looks_as which)) w)
  copy_stands = grind arith

-- ---- a step

-- a look under way in the turn of the scene, at `stage`, and the state that its party has
pub record Looking (T : Type 0) : Type 0 where
  -- the turn, and what holds of the machine before it
  pub scene : Scene T
  pub inv : Inv scene
  -- the call, and where it is
  pub which : LookOf
  pub stage : LookStage
  pub here : IsUnderWay scene (looks_as which) (look_at which scene.capacity stage)
  -- the state
  pub state : ContainerState T
  pub found : state_of scene.party scene.states ≡ Some state

module _ {T : Type 0} (looking : Looking T) where
  open looking use {scene, inv, which, stage, here, state as s, found}
  open looking.scene use {coding as code, capacity as c, party as p, steps as steps, latest as latest, events as events}

  abbrev ws : List ℕ
  ws = scene.words

  abbrev start : ContainerStart T
  start = looks_as which

  abbrev m : Now T
  m = before scene

  -- the run was well-formed before the step of a look if it is after it
  well_formed_of : (words' : List ℕ) (y : Party T) (es : List (Event T)) → AreOwn p es → WellFormed (after scene words' y es) → WellFormed m
  well_formed_of words' y es own = was_well_formed scene start (no_replace T which) here.span words' y es own

  -- a raise that is owed to the changes is owed still after a step of a look
  still : (y : Party T) → OwesStill scene y
  still y = owes_none scene y here refl

  -- A step that leaves the words, and writes the copy `what`, if any, and then `rest`: the events are silent, the party's own, begin no
  -- call and leave what stands; and after them the look goes on, or has ended, and has made this copy (`CallsOn`).
  pub record LookWrites (words' : List ℕ) (what : Option (ℕ × T)) (rest : List (Event T)) : Type 0 where
    pub same : words' ≡ ws
    pub silent : AllByRecursion Silent (copies_of p what ++ rest)
    pub own : AreOwn p (copies_of p what ++ rest)
    pub none : BeginsNone p (copies_of p what ++ rest)
    pub contents : (i : ℕ) → contents_of i (events ++ (copies_of p what ++ rest)) ≡ contents_of i events
    pub on : CallsOn p what events (events ++ (copies_of p what ++ rest))

  module _ {words' : List ℕ} {what : Option (ℕ × T)} {rest : List (Event T)} (writes : LookWrites words' what rest) (y : Party T) where
    open writes use {same, silent, own, none, contents, on}

    abbrev es : List (Event T)
    es = copies_of p what ++ rest

    -- what the step leaves to any party is what `Passes` says
    passes : Passes code c m (after scene words' y es)
    passes = (silent_changes inv words' same y es silent own (well_formed_of words' y es own) (still y)).passes

    -- the copy that the step writes is one that the party has made
    copied_now : (o : Option (ℕ × T)) (i : ℕ) (value : T) → o ≡ Some (i, value) → WasCopied p i value (events ++ (copies_of p o ++ rest))
    copied_now o i value is_copy = grind arith

    -- the machine after the step is as `IsAfterLookStep` of `LookWalk` says
    pub comes : IsAfterLookStep scene inv (after scene words' y es) what
    comes =
        record {
          well_formed = well_formed_of words' y es own;
          words = same;
          contents = contents;
          later = λ st k x h. course_later code c es refl passes p st on none (λ alone i low. ap (λ w. count_at c w i) same) h;
          rests = λ st h. rests_later code c es refl passes p st h;
          copied = λ i value e. copied_now what i value e;
          on = on;
        }

    -- a step of a look that leaves the state `st` keeps the invariant
    does : (st : ContainerState T) → AreAllRight scene words' y es
        → (is_looking (flight_of (Some y.doing)) ≡ false → Rests code c (after scene words' y es) p st)
        → KeepsInvariant scene words' (set_state p st scene.states) y es
    does st right rests =
        record {
          set = silent_set inv words' same y es silent own;
          changes = silent_changes inv words' same y es silent own (well_formed_of words' y es own) (still y);
          right = right;
          others = λ q ne. written_other q p st scene.states ne;
          rests = λ other idle is.
              let eq : Some st ≡ Some other = sym (written_same p st s scene.states found) ∙ is in
              let one : st ≡ other = cc in
              subst (Rests code c (after scene words' y es) p) one (rests idle);
        }

  -- the look has gone on, or has ended, and has copied `what`
  on_now : (what : Option (ℕ × T)) (outcome : Option (Answer T)) → CallsOn p what events (events ++ (copies_of p what ++ ending_of p (Container start) outcome))
  on_now what outcome = calls_on p events (Container start) (wrote_of p events) here.span what outcome

  -- a step that leaves the words and writes the end of the look alone
  pub ends_alone : {words' : List ℕ} → words' ≡ ws
      → {answer : Answer T} → ((i : ℕ) → contents_of i (events ++ Finished p (Container start) answer ∷ []) ≡ contents_of i events)
      → Silent (Finished p (Container start) answer) → LookWrites words' None (Finished p (Container start) answer ∷ [])
  ends_alone same {answer} contents silent =
      record { same = same; silent = (silent, tt); own = (refl, tt); none = tt; contents = contents; on = on_now None (Some answer) }

  -- ---- it goes on, or ends

  -- what a step of the look leads to, in the form that `LookWalk` asks
  abbrev Lead : Option Ask → Bool → List (Event T) → ContainerState T → After (Look T) Bool → Type 0
  Lead ask back did st a =
      Leads scene (looks_as which) ask back (set_state p (settled_if a st) scene.states) (did ++ []) (look_came which st a)

  -- the step of the look has the operation `ask`
  module _ (ask : Option Ask) where
    -- a step leads a look to the stage `next`, with the state that it has made, where the
    -- conditions of that stage hold
    goes_with : (next : LookStage) (back : Bool) (what : Option (ℕ × T)) (st : ContainerState T) → IsRight scene inv what → words_after ws ask ≡ ws
        → LookAt c code.size (all scene ++ set_acts (copies_of p what)) (done scene ++ acts (copies_of p what)) next
        → steps + step_count ask ≤ look_number code.size next (backs_then scene back)
        → ((words' : List ℕ) (states' : List (ℕ × ContainerState T)) (latest' : List (ℕ × Party T)) (es' : List (Event T))
        → IsAfterLookStep scene inv (record { terms = scene.terms; words = words'; latest = latest'; events = es' }) what
        → state_of p states' ≡ Some st
        → LookKnows code c next (view scene.terms words' states' latest' es' p (since_then scene ask) (changes_then scene ask) (backs_then scene back)))
        → Lead ask back (copies_of p what) st (GoOn (call_at scene inv next))
    -- the step writes nothing
    goes_with next back None st right same stands few known =
        let party_after = party_then scene start ask back (GoOn (look_at which c next)) in
        let words' = words_after ws ask in
        let contents : (i : ℕ) → contents_of i (events ++ []) ≡ contents_of i events = λ i. fold-append (contents_after i) None events [] in
        let writes : LookWrites words' None [] =
        record { same = same; silent = tt; own = tt; none = tt; contents = contents; on = on_now None None } in
        goes_on scene (look_at which c next) ask back here.span (record {
          longer = none_lengthens;
          does = does writes party_after st
              (record { asks = tt; recovers = tt; answers = tt; contains = λ holds. tt; places = λ holds. tt }) (λ idle. absurd (cc));
          follows = tt;
          few = few;
          stands = at_look T which c code.size _ _ next stands;
          known =
              known words' (set_state p st scene.states) (put p party_after latest) (events ++ [])
              (comes writes party_after) (written_same p st s scene.states found);
        })
    -- the step writes a copy
    goes_with next back (Some copy) st right same stands few known =
        let party_after = party_then scene start ask back (GoOn (look_at which c next)) in
        let words' = words_after ws ask in
        let written : List (Event T) = Copied p copy.0 copy.1 ∷ [] in
        let contents : (i : ℕ) → contents_of i (events ++ written) ≡ contents_of i events = λ i. fold-append (contents_after i) None events written in
        let writes : LookWrites words' (Some copy) [] =
        record { same = same; silent = (tt, tt); own = (refl, tt); none = tt; contents = contents; on = on_now (Some copy) None } in
        goes_on scene (look_at which c next) ask back here.span (record {
          longer = λ start w. refl;
          does = does writes party_after st
              (record {
                asks = (tt, tt);
                recovers = (tt, tt);
                answers = (tt, tt);
                contains = λ holds. (right.1 (well_formed_of words' party_after written (refl, tt) holds), tt);
                places = λ holds. (tt, tt);
              })
              (λ idle. absurd (cc));
          follows = (copy_stands T which p copy.0 copy.1 (wrote_of p events) right.0, tt);
          few = few;
          stands = at_look T which c code.size _ _ next stands;
          known =
              known words' (set_state p st scene.states) (put p party_after latest) (events ++ written)
              (comes writes party_after) (written_same p st s scene.states found);
        })

    -- a look that has gone over all indices ends with true
    ends_with : (back : Bool) (what : Option (ℕ × T)) (st : ContainerState T) → IsRight scene inv what → words_after ws ask ≡ ws → all scene ≡ []
        → steps + step_count ask ≤ 1 + c * (code.size + 2) + backs_then scene back * (code.size + 1)
        → backs_then scene back + since_then scene ask ≤ changes_then scene ask
        → ((m' : Now T) → IsAfterLookStep scene inv m' what → Course code c m' p st c c)
        → Lead ask back (copies_of p what) st (Done true)
    -- the last step of the look writes nothing but the end
    ends_with back None st right same none few paid course =
        let answer = looked which st true in
        let party_after = party_then scene start ask back (Done answer) in
        let words' = words_after ws ask in
        let written : List (Event T) = Finished p (Container start) answer ∷ [] in
        let contents : (i : ℕ) → contents_of i (events ++ written) ≡ contents_of i events = λ i. fold-append (contents_after i) None events written in
        let m' = after scene words' party_after written in
        let writes : LookWrites words' None written = ends_alone same contents (silent_end T which _) in
        ends scene answer ask back here.span (record {
          longer = none_lengthens;
          does = does writes party_after (settled st)
              (right_end scene (answers_look T scene.terms.by (IsWorn scene.terms.by words') which c p st true events)
              (λ holds. places_look T which p st true events))
              (λ idle. rests_settled code c m' p st (course m' (comes writes party_after)));
          follows = ((refl, does_look T which st true (all scene) (done scene) none), tt);
          few = few_look T which c code.size _ (backs_then scene back) few;
          paid = omega arith;
        })
    -- the last step of the look writes a copy and then the end
    ends_with back (Some copy) st right same none few paid course =
        let answer = looked which st true in
        let party_after = party_then scene start ask back (Done answer) in
        let words' = words_after ws ask in
        let did : List (Event T) = Copied p copy.0 copy.1 ∷ [] in
        let finish : List (Event T) = Finished p (Container start) answer ∷ [] in
        let written : List (Event T) = Copied p copy.0 copy.1 ∷ Finished p (Container start) answer ∷ [] in
        let contents : (i : ℕ) → contents_of i (events ++ written) ≡ contents_of i events = λ i. fold-append (contents_after i) None events written in
        let m' = after scene words' party_after written in
        let writes : LookWrites words' (Some copy) finish =
        record {
          same = same;
          silent = (tt, (silent_end T which _, tt));
          own = (refl, (refl, tt));
          none = tt;
          contents = contents;
          on = on_now (Some copy) (Some answer);
        } in
        ends scene answer ask back {did = did} here.span (record {
          longer = λ start w. refl;
          does = does writes party_after (settled st)
              (record {
                asks = (tt, (tt, tt));
                recovers = (tt, (tt, tt));
                answers = (tt, (answers_look T scene.terms.by (IsWorn scene.terms.by words') which c p st true (events ++ did), tt));
                contains = λ holds. (right.1 (well_formed_of words' party_after written (refl, (refl, tt)) holds), (tt, tt));
                places = λ holds. (tt, (places_look T which p st true (events ++ did), tt));
              })
              (λ idle. rests_settled code c m' p st (course m' (comes writes party_after)));
          follows = (
            copy_stands T which p copy.0 copy.1 (wrote_of p events) right.0,
            ((refl, does_look T which st true _ _ (set_acts_one copy none)), tt),
          );
          few = few_look T which c code.size _ (backs_then scene back) few;
          paid = omega arith;
        })
      where
        set_acts_one : (copy : ℕ × T) → all scene ≡ [] → set_acts (wrote_of p events ++ Copied p copy.0 copy.1 ∷ []) ≡ []
        set_acts_one = grind (arith, flat_map-append)

    -- a look that finds the number of changes as its state has it ends with false
    stays_with : words_after ws ask ≡ ws → all scene ≡ [] → steps + step_count ask ≤ 1
        → backs_then scene false + since_then scene ask ≤ changes_then scene ask → Rests code c m p s
        → ShowsOwn p s c events → s.shown.change ≡ change_in code c m → Lead ask false [] s (Done false)
    stays_with same none few paid rests own change_shown =
        let answer = looked which s false in
        let party_after = party_then scene start ask false (Done answer) in
        let words' = words_after ws ask in
        let written : List (Event T) = Finished p (Container start) answer ∷ [] in
        let contents : (i : ℕ) → contents_of i (events ++ written) ≡ contents_of i events = λ i. fold-append (contents_after i) None events written in
        let writes : LookWrites words' None written = ends_alone same contents (silent_end T which _) in
        ends scene answer ask false here.span (record {
          longer = none_lengthens;
          does = does writes party_after s
              (right_end scene (answers_look T scene.terms.by (IsWorn scene.terms.by words') which c p s false events)
              (λ holds. places_look T which p s false events))
              (λ idle. (comes writes party_after).rests s rests);
          follows = ((refl, does_look T which s false (all scene) (done scene) none), tt);
          few = few_look T which c code.size _ (backs_then scene false) (omega arith);
          paid = omega arith;
        })

    -- what is shown of each way on of a look
    walker : Walker scene inv s ask (Lead ask)
    walker = record { goes = goes_with; ends = ends_with; stays = stays_with }

  -- the step of a look from the state `o` of its party
  abbrev StepFrom : Option (ContainerState T) → Type 0
  StepFrom o =
      Leads scene (looks_as which) (ask_of (look_asks code.size c stage)) (look_goes_back stage (old_of ws (ask_of (look_asks code.size c stage))))
      (writes_state code p (call_at scene inv stage) (old_of ws (ask_of (look_asks code.size c stage))) o scene.states)
      (look_effects_of code p stage (old_of ws (ask_of (look_asks code.size c stage))) o ++ [])
      (look_goes code which (call_at scene inv stage) o (old_of ws (ask_of (look_asks code.size c stage))))

  -- a step that `LookWalk` shows of the look is the step of the call
  pub step_from : WalkAt scene inv s (Lead (ask_of (look_asks code.size c stage))) stage → StepOf scene (looks_as which) (look_at which c stage)
  step_from walked = subst StepFrom (sym found) walked

-- ---- any stage

module _ {T : Type 0} (scene : Scene T) (inv : Inv scene) where
  open scene use {coding as code, capacity as c, party as p, steps as steps, backs as backs}

  -- the state of the party, which a look has
  pub record HasState : Type 0 where
    pub state : ContainerState T
    pub found : state_of p scene.states ≡ Some state

  -- a look at any stage has a state of its party
  pub state_known : (stage : LookStage) → LookKnows code c stage (sees_now scene) → HasState
  state_known stages.LoadsChange look_knows = let h = look_knows.1 in record { state = h.state; found = h.found }
  state_known (stages.LoadsCount index) look_knows = let h = look_knows.1 in record { state = h.state; found = h.found }
  state_known (stages.LoadsWord index count word) look_knows = let h = look_knows.1 in record { state = h.looks.state; found = h.looks.found }
  state_known (stages.ChecksCount index count) look_knows = let h = look_knows.1 in record { state = h.looks.state; found = h.looks.found }

  -- any step of a look leads to what its caller shows of each way on
  pub walks : (stage : LookStage) → LookAt c code.size (all scene) (done scene) stage
      → (k : LookKnows code c stage (sees_now scene)) → steps ≤ look_number code.size stage backs
      → (Leads_to : Option Ask → Bool → List (Event T) → ContainerState T → After (Look T) Bool → Type 0)
      → ((ask : Option Ask) → Walker scene inv (state_known stage k).state ask (Leads_to ask))
      → WalkAt scene inv (state_known stage k).state (Leads_to (ask_of (look_asks code.size c stage))) stage
  unfolding state_known
  walks stages.LoadsChange at k few Leads_to walks_to = let h = k.1 in walks_change scene inv h.state _ at.0 (walks_to _) few k.0 at.1 h.rests h.own
  walks (stages.LoadsCount index) at k few Leads_to walks_to = let h = k.1 in
      walks_count scene inv h.state _ at.0 index at.1 (walks_to _) few k.0 at.2 h.course
  walks (stages.LoadsWord index count word) at k few Leads_to walks_to =
      let h = k.1 in
      walks_word scene inv h.looks.state _ at.0 (record {
        below = at.1.0;
        word = at.2;
        odd = at.1.2;
        few = few;
        paid = k.0;
        seen = at.1.1;
        course = h.looks.course;
        number = h.number;
        copying = h.copying;
      })
      (walks_to _)
  walks (stages.ChecksCount index count) at k few Leads_to walks_to =
      let h = k.1 in
      walks_check scene inv h.looks.state _ at.0 (record {
        below = at.1.0;
        odd = at.1.2;
        few = few;
        paid = k.0;
        seen = at.1.1;
        course = h.looks.course;
        copying = h.copying;
      })
      (walks_to _)

  -- any step of a look, at whatever stage, keeps the invariant
  pub look_step : (which : LookOf) (stage : LookStage) → IsUnderWay scene (looks_as which) (look_at which c stage)
      → LookAt c code.size (all scene) (done scene) stage → Knows code c (look_at which c stage) (sees_now scene)
      → steps ≤ look_number code.size stage backs
      → StepOf scene (looks_as which) (look_at which c stage)
  look_step which stage here stands knows few =
      let h = state_known stage knows in
      let looking : Looking T =
      record { scene = scene; inv = inv; which = which; stage = stage; here = here; state = h.state; found = h.found } in
      step_from looking (walks stage stands knows few (Lead looking) (walker looking))
