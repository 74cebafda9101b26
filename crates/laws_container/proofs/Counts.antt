-- The steps of the calls of a container that only read its set of indices: `len` and `is_empty`, which count
-- the filled indices, and `is_locked`. What a step has to show is said by `StepOf` and `Leads` of `Stages`.
use Rattle.laws_container.proofs.Names.{◌≡◌, ℕ, ◌+◌, ◌*◌, ◌≤◌, ◌==◌, Bool, true, false, Option, Some, None, is_some}
use Rattle.laws_container.proofs.Names.{List, [], ◌∷◌, refl, ap, arith, Ask, After, GoOn, Counting, locked}
use Rattle.laws_container.proofs.Names.{count_after, count_goes_back, went_on, Truth, Event, Finished, Container}
use Rattle.laws_container.proofs.Names.{ContainerStart, CountOf, Party, most_steps, IsLength, Act, announced_after}
use Rattle.laws_container.proofs.Names.{HasDone, SetAct, settled_after, as_it_is, as_call, old_of, words_after}
use Rattle.laws_container.proofs.Names.{step_count, counter_of, Stays, both_ways, not_shut, unlocked, is_shut}
use Rattle.laws_container.proofs.Names.{stays_same, stays_raised, quiet_end, count_ask, part_step, Right, right_after}
use Rattle.laws_container.proofs.Names.{count_number, CountAt, GoneBy, IsWorn}
use Rattle.steps.specs.declared.ask.After.TheVariants.{Done}
use Rattle.steps.specs.declared.indices.robust.parts.Count.TheVariants as parts
use Rattle.steps.specs.declared.indices.robust.parts.Counted.{Counted}
use Rattle.steps.specs.Indices.Robust.Looks.{borrowed_counted}
use Rattle.model.specs.declared.families.container.ContainerStart.TheVariants as starts
use Rattle.model.specs.declared.families.container.calls.ContainerFlight.TheVariants as calls
use Rattle.model.specs.declared.families.container.calls.CountOf.TheVariants as counts
use Rattle.model.specs.Families.Container.Calls.{counted}
use Rattle.laws_robust.proofs.Knows as set_knows
use Rattle.laws_robust.proofs.Stages as set_stages
use Rattle.lemmas_owners.proofs.Operations as operations
use Rattle.laws_container.specs.Gone.{AnswersBy}
use Rattle.laws_container.proofs.Effects.{OwesStill}
use Rattle.laws_container.proofs.HiddenKnows.{EndsRight}
use Rattle.laws_container.proofs.Invariant.{Scene, Inv, of_set, inv_of_set}
use Rattle.laws_container.proofs.Knows.{Knows}
use Rattle.laws_container.proofs.SetStays.{moves, ends_there}
use Rattle.laws_container.proofs.Stages.{Call, NoReplace, IsUnderWay, all, done, sees_now, StepOf, Leads, none_lengthens}
use Rattle.laws_container.proofs.Stages.{party_then, backs_then, goes_calmly, ends, owes_none, was_well_formed}
use Rattle.laws_container.proofs.CallProgress.{count_at, lock_at, At}
use Rattle.laws_robust.proofs.Looks.{said}

-- the name of each call that counts: `len` or `is_empty`
abbrev pub counts_as : {T : Type 0} → CountOf → ContainerStart T
counts_as counts.Len = starts.Len
counts_as counts.IsEmpty = starts.IsEmpty

-- an index that is not filled is none that is filled
one_filled : {A : Type 0} (o : Option ℕ) → o ≡ None → is_some o ≡ true → A
one_filled o none some = both_ways (is_some o) (ap is_some none) some

module _ (T : Type 0) where
  -- a call that counts is no replace
  no_replace : (which : CountOf) → NoReplace (counts_as {T = T} which)
  no_replace counts.Len = tt
  no_replace counts.IsEmpty = tt

  -- a call that counts stands at its stage as a call of the container
  at_count : (which : CountOf) (c z : ℕ) (set_acts : List SetAct) (acts : List (Act T)) (count : Counting)
      → CountAt c count → set_acts ≡ [] → At c z set_acts acts (counts_as which) (count_at which c count)
  at_count = grind arith

  -- the steps of a call that counts are at most those that the promise allows
  few_count : (which : CountOf) (c z n backs : ℕ) → n ≤ c + 2 + backs * (c + 2) → n ≤ most_steps c z (counts_as {T = T} which) backs
  few_count = grind arith

  -- the answer of a call that counts is right if its number is right as the length
  answers_count : (by : GoneBy) (worn : Type 0) (which : CountOf) (c p number : ℕ) (events : List (Event T))
      → IsLength p c number events
      → AnswersBy by worn c events (Finished p (Container (counts_as which)) (counted which number))
  answers_count = grind arith

  -- a call that counts has done nothing to the set
  does_count : (which : CountOf) (number : ℕ) (set_acts : List SetAct) (acts : List (Act T)) → set_acts ≡ []
      → HasDone (counts_as {T = T} which) (counted which number) set_acts acts
  does_count = grind arith

  -- the end of a call that counts changes nothing of what may be given back, of rights or
  -- of what is announced
  settles_not : (which : CountOf) (p number i : ℕ) (o : Option ℕ)
      → settled_after {T = T} i o (Finished p (Container (counts_as which)) (counted which number)) ≡ o
  settles_not = grind arith

  rights_not : (which : CountOf) (p number i : ℕ) (r : Right) → right_after {T = T} i r (Finished p (Container (counts_as which)) (counted which number)) ≡ r
  rights_not = grind arith

  announces_not : (which : CountOf) (p number i : ℕ) (b : Bool)
      → announced_after {T = T} i b (Finished p (Container (counts_as which)) (counted which number)) ≡ b
  announces_not = grind arith

  -- the end of a call that counts places nothing
  places_not : (which : CountOf) (p number : ℕ) (events : List (Event T)) → EndsRight events (Finished p (Container (counts_as which)) (counted which number))
  places_not = grind arith

-- the party of the scene has a call on the length or the lock
module _ {T : Type 0} {scene : Scene T} (inv : Inv scene) where
  open scene use {coding as code, capacity as c, party as p, steps as steps, backs as backs, events as events}

  abbrev ws : List ℕ
  ws = scene.words

  -- the call counts at the stage `count`, and has done nothing to the set
  module _ (which : CountOf) (count : Counting) (here : IsUnderWay scene (counts_as which) (count_at which c count))
      (stands : CountAt c count) (none : all scene ≡ []) (knows : Knows code c (count_at which c count) (sees_now scene))
      (few_steps : steps ≤ count_number c count + backs * (c + 2)) where
    abbrev start : ContainerStart T
    start = counts_as which

    -- the count, as a call of the container
    abbrev call : Call T
    call = record { scene = scene; inv = inv; start = start; flight = count_at which c count; no_look = tt; here = here }

    -- a raise that is owed to the changes is owed still after a step of the count
    still : (y : Party T) → OwesStill scene y
    still y = owes_none scene y here refl

    -- what a step of the count leads to, as a step of the call
    abbrev counts_to : Option Ask → Bool → After Counting Counted → Type 0
    counts_to ask back r =
        Leads scene (counts_as which) ask back scene.states []
        (as_call (λ run. calls.Count which run) (counted which)
        (went_on as_it_is tt tt (borrowed_counted (record { capacity = c; count = count }) r)))

    -- a count that has come to its end ends with the number that it has counted
    counts_end : {number : ℕ} (ask : Option Ask) → Stays (of_set scene) (words_after ws ask)
        → IsLength p c number events → set_knows.IsPaid (set_stages.sees (of_set scene) ask false)
        → steps + step_count ask ≤ c + 2 + backs_then scene false * (c + 2)
        → Leads scene (counts_as which) ask false scene.states [] (Done (counted which number))
    counts_end {number} ask stays is_length paid few =
        let party_after = party_then scene start ask false (Done (counted which number)) in
        let written : List (Event T) = Finished p (Container start) (counted which number) ∷ [] in
        let well_formed = was_well_formed scene start (no_replace T which) here.span (words_after ws ask) party_after written (refl, tt) in
        ends scene (counted which number) ask false here.span (record {
          longer = none_lengthens;
          does =
              ends_there call party_after stays
              (quiet_end p (Container start) (counted which number) (settles_not T which p number) (rights_not T which p number))
              (announces_not T which p number)
              (answers_count T scene.terms.by (IsWorn scene.terms.by (words_after ws ask)) which c p number events is_length)
              well_formed (λ holds. places_not T which p number events) (still party_after);
          follows = ((refl, does_count T which number (all scene) (done scene) none), tt);
          few = few_count T which c code.size _ (backs_then scene false) few;
          paid = omega arith;
        })

    -- a step of a count keeps the invariant
    counts_move : counts_to (Some (count_ask count)) (count_goes_back count (old_of ws (Some (count_ask count))))
        (count_after c count (old_of ws (Some (count_ask count))))
    counts_move =
        part_step (of_set scene) (inv_of_set scene inv) (set_knows.Borrowed (set_stages.now (of_set scene)))
        (said (inv_of_set scene inv)) counts_to count (record {
          at = stands;
          paid = knows.paid;
          scanned = knows.scanned;
          says = knows.says;
          -- the count goes on
          goes = λ next ask back same next_at paid scanned says few.
              let low = few 0 (c + 2) (omega arith) (omega arith) in
              let party_after = party_then scene start ask back (GoOn (count_at which c next)) in
              let well_formed = was_well_formed scene start (no_replace T which) here.span (words_after ws ask) party_after [] tt in
              goes_calmly scene (count_at which c next) ask back here.span (record {
                does = moves call party_after (stays_same (of_set scene) (inv_of_set scene inv) (words_after ws ask) same) well_formed (still party_after);
                few = omega arith;
                stands = at_count T which c code.size (all scene) (done scene) next next_at none;
                known = record { paid = paid; scanned = scanned; owns = tt; says = says; gone = tt };
              });
          -- the set is locked: the count is 0
          meets = λ ask same shut paid few.
              let low = few 0 (c + 2) (omega arith) (omega arith) in
              counts_end ask (stays_same (of_set scene) (inv_of_set scene inv) (words_after ws ask) same)
              (record { none = λ t. refl; some = λ f. both_ways _ f (is_shut (of_set scene) (inv_of_set scene inv) shut) }) paid (omega arith);
          -- the counter is at its end: the count is what was found
          rests = λ filled ask same worn end most says paid few.
              let low = few 0 (c + 2) (omega arith) (omega arith) in
              counts_end ask (stays_same (of_set scene) (inv_of_set scene inv) (words_after ws ask) same)
              (record {
                none = λ t. both_ways _ (unlocked (of_set scene) (inv_of_set scene inv) (λ shut. absurd (omega arith))) t;
                some = λ f. says;
              }) paid (omega arith);
          -- the counter has not moved since it was loaded: the count is what was found
          closes = λ filled ask less new most says unheld paid few.
              let low = few 0 (c + 2) (omega arith) (omega arith) in
              counts_end ask (stays_raised (of_set scene) (inv_of_set scene inv) (words_after ws ask) less new)
              (record {
                none =
                    λ t. both_ways _ (unlocked (of_set scene) (inv_of_set scene inv) (not_shut (of_set scene) (inv_of_set scene inv) less)) t;
                some = λ f. says;
              }) paid (omega arith);
        })

  -- a step of a `len` or an `is_empty`, at whatever stage, keeps the invariant
  pub count_step : (which : CountOf) (count : Counting) → IsUnderWay scene (counts_as which) (count_at which c count)
      → CountAt c count → all scene ≡ [] → Knows code c (count_at which c count) (sees_now scene)
      → steps ≤ count_number c count + backs * (c + 2) → StepOf scene (counts_as which) (count_at which c count)
  count_step which parts.LoadsCounter here stands none knows few_steps = counts_move which parts.LoadsCounter here stands none knows few_steps
  count_step which (parts.LoadsCell number i filled) here stands none knows few_steps =
      counts_move which (parts.LoadsCell number i filled) here stands none knows few_steps
  count_step which (parts.ExchangesCounter number filled) here stands none knows few_steps =
      counts_move which (parts.ExchangesCounter number filled) here stands none knows few_steps

  -- the one step of an `is_locked` ends it with what the counter says
  pub lock_step : IsUnderWay scene starts.IsLocked lock_at → all scene ≡ []
      → Knows code c lock_at (sees_now scene) → steps ≤ 0 → StepOf scene starts.IsLocked lock_at
  lock_step here none knows few_steps =
      let ask = Some (operations.loads 0) in
      let answer = Truth (counter_of ws == locked) in
      let party_after = party_then scene starts.IsLocked ask false (Done answer) in
      let written : List (Event T) = Finished p (Container starts.IsLocked) answer ∷ [] in
      let call : Call T = record { scene = scene; inv = inv; start = starts.IsLocked; flight = lock_at; no_look = tt; here = here } in
      let well_formed = was_well_formed scene starts.IsLocked tt here.span (words_after ws ask) party_after written (refl, tt) in
      let paid = knows.paid in
      ends scene answer ask false here.span (record {
        longer = none_lengthens;
        does =
            ends_there call party_after
            (stays_same (of_set scene) (inv_of_set scene inv) (words_after ws ask) (operations.loads_same ws 0))
            (quiet_end p (Container starts.IsLocked) answer (λ i o. refl) (λ i r. refl))
            (λ i b. refl) inv.good.lock well_formed (λ holds. tt)
            (owes_none scene party_after here refl);
        follows = ((refl, none), tt);
        few = omega arith;
        paid = omega arith;
      })
