-- The steps of a replace up to the load of its cell, and what its other steps need. Once it has found its
-- owner in the cell it may write at its index until it ends, in a well-formed run. What a step has to show is
-- said by `StepOf` and `Leads` of `Stages`.
use Rattle.laws_container.proofs.Names.{◌≡◌, ◌≢◌, inr, ℕ, ◌+◌, ◌<◌, ◌≤◌, ◌==◌, if◌then◌else◌, false, true, Option}
use Rattle.laws_container.proofs.Names.{Some, List, [], ◌∷◌, ◌++◌, fold, refl, sym, ap, subst, ◌∙◌, append-nil, arith}
use Rattle.laws_container.proofs.Names.{Err, nat_tests, Ask, After, GoOn, ContainerHandleNotOwnedByContainer}
use Rattle.laws_container.proofs.Names.{Replacement, ReplaceStage, Replaced, at_replace, cell_word, empty, went_on}
use Rattle.laws_container.proofs.Names.{Answer, Event, Finished, Container, ContainerStart, ContainerFlight, Party}
use Rattle.laws_container.proofs.Names.{place_of, replaced, StandsWellFormed, MayReplace, cell_of, IsFilledWith}
use Rattle.laws_container.proofs.Names.{as_it_is, HeldSometime, party_of, put, Open, own_after, span_of, as_call}
use Rattle.laws_container.proofs.Names.{words_after, held_now, held_later, party_put_same, span_of-own, cell}
use Rattle.laws_container.proofs.Names.{filled_by, loads_same}
use Rattle.steps.specs.declared.ask.After.TheVariants.{Done}
use Rattle.steps.specs.declared.container.replace.Replace as replace_calls
use Rattle.steps.specs.declared.container.replace.ReplaceStage.TheVariants as replaces
use Rattle.model.specs.declared.event.Answer.TheVariants as answers
use Rattle.model.specs.declared.families.container.ContainerStart.TheVariants.{Replace}
use Rattle.model.specs.declared.families.container.calls.ContainerFlight.TheVariants as calls
use Rattle.lemmas_owners.proofs.Operations as operations
use Rattle.laws_container.proofs.Invariant.{Scene, Inv, ActsFor, before, after, inv_of_set, wrote_of, right_end}
use Rattle.laws_container.proofs.Knows.{View, HasFound, IsPaid, Knows}
use Rattle.laws_container.proofs.WellFormed.{IsWellFormedSoFar, well_formed_before}
use Rattle.laws_container.proofs.Replaces.{ReplaceOwns, earlier}
use Rattle.laws_container.proofs.Stages.{sees_calmly, Call, AreInCall, none_in_call, IsUnderWay, all, done, sees_now, then_sees, StepOf, Leads}
use Rattle.laws_container.proofs.Stages.{none_lengthens, party_then}
use Rattle.laws_container.proofs.Stages.{goes_calmly, ends, owes_none}
use Rattle.laws_container.proofs.CallProgress.{replace_at, replace_number, ReplaceAt, place_is}
use Rattle.laws_container.proofs.Steps.{loads}
use Rattle.laws_container.proofs.Turns.{WellFormed, replace_owes}
use Rattle.lemmas.proofs.Cases.{on_bool}
use Rattle.laws_container.proofs.Silent.{silently}

-- a replace by the party of the scene, of a handle whose index is below the capacity, for an owner that is
-- not gone; it has done nothing to the set
pub record Replacing (T : Type 0) : Type 0 where
  -- the turn, and what holds of the machine before it
  pub scene : Scene T
  pub inv : Inv scene
  -- the arguments of the call
  pub index : ℕ
  pub value : T
  pub owner : ℕ
  -- the owner can be in a cell and is not gone, the index is below the capacity, and
  -- nothing is done to the set
  pub fits : owner < empty
  pub acts : ActsFor scene owner
  pub below : index < scene.capacity
  pub none_done : all scene ≡ []

-- the steps of one replace
module _ {T : Type 0} (replacing : Replacing T) where
  open replacing use {scene, inv, index, value, owner, fits, below, none_done}
  open replacing.scene use {coding as code, capacity as c, party as p, steps, events, latest}

  abbrev ws : List ℕ
  ws = scene.words

  abbrev i : ℕ
  i = index

  abbrev start : ContainerStart T
  start = Replace index value owner

  -- the replace as a call at this stage
  abbrev pub at_stage : ReplaceStage → ContainerFlight T
  at_stage stage = replace_at c index value owner stage

  -- how the replace goes on, as a call of the container
  abbrev pub as_replace : After (replace_calls.Replace T) Replaced → After (ContainerFlight T) (Answer T)
  as_replace a =
      as_call calls.Replace replaced
      (went_on as_it_is (record { index = index; owner = owner; value = value }) tt a)

  abbrev pub first : replace_calls.Replace T
  first = record { capacity = c; stage = replaces.LoadsCell; of = record {} }

  -- the party's call under way is this replace, at this stage
  abbrev pub IsAtStage : ReplaceStage → Type 0
  IsAtStage stage = IsUnderWay scene (Replace index value owner) (replace_at c index value owner stage)

  -- the replace at this stage, as a call of the container
  abbrev pub as_given : (stage : ReplaceStage) → IsAtStage stage → Call T
  as_given stage here = record { scene = scene; inv = inv; start = start; flight = at_stage stage; no_look = tt; here = here }

  -- the party after the step by which the replace comes to stage `next`
  abbrev pub then_at : ReplaceStage → Option Ask → Party T
  then_at next ask = party_then scene start ask false (GoOn (at_stage next))

  pub given_is : ◌≡◌ {A = Replacement T} (record { index = index; owner = owner; value = value })
      (record { index = place_of c index; owner = owner; value = value })
  given_is = grind (arith, place_is)

  -- ---- a turn ago

  -- the call of the party keeps what a well-formed run asks of it, if the replace, once it has taken a step,
  -- was begun where it might replace
  pub stands_if : (stage : ReplaceStage) → IsAtStage stage → (1 ≤ steps → MayReplace p index owner events) → StandsWellFormed p (party_of p latest) events
  stands_if stage here may = grind arith

  -- where the run is well-formed after a step of a replace that had its owner in the cell, the replace was
  -- begun where it might replace
  may_before : (stage : ReplaceStage) → IsAtStage stage → HeldSometime p (IsFilledWith owner index) events
      → (y : Party T) {es : List (Event T)} → AreInCall scene es → 1 ≤ y.steps
      → IsWellFormedSoFar scene.terms (put p y latest) (events ++ es) → MayReplace p index owner events
  may_before stage here filled y {es} written few well_formed_so_far =
      let span : span_of p (events ++ es) ≡ Open (Container (Replace index value owner)) (wrote_of p events ++ es) =
      span_of-own p events es written.own ∙ (ap (λ s. fold own_after s es) here.span ∙ written.longer start (wrote_of p events)) in
      let stands : StandsWellFormed p (Some y) (events ++ es) =
      subst (λ o. StandsWellFormed p o (events ++ es)) (party_put_same p y latest) (well_formed_so_far.replaces p) in
      (earlier written.fresh
      (stands index owner value (wrote_of p events ++ es) span few (held_later p (IsFilledWith owner index) events es written.fresh filled))).may

  -- the run was well-formed before a step of a replace that has found its owner, if it is after it
  pub was_going : (stage : ReplaceStage) → IsAtStage stage → HeldSometime p (IsFilledWith owner index) events
      → (words' : List ℕ) (y : Party T) {es : List (Event T)} → AreInCall scene es
      → 1 ≤ y.steps → WellFormed (after scene words' y es) → WellFormed (before scene)
  was_going stage here filled words' y {es} written few =
      well_formed_before scene.terms p y latest events es written.own
      (λ h. stands_if stage here (λ s. may_before stage here filled y written few h))

  -- the run was well-formed before a step that writes nothing, of a replace that has found its owner, if it
  -- is after it
  pub was_calm : (stage : ReplaceStage) → IsAtStage stage → HeldSometime p (IsFilledWith owner index) events → (y : Party T)
      → 1 ≤ y.steps → IsWellFormedSoFar scene.terms (put p y latest) events → WellFormed (before scene)
  was_calm stage here filled y few well_formed_so_far =
      was_going stage here filled ws y (none_in_call scene) few
      (subst (λ es. IsWellFormedSoFar scene.terms (put p y latest) es) (sym (append-nil events)) well_formed_so_far)

  -- after a step the party's call is still this replace, which has taken a step
  pub found_then : (stage next : ReplaceStage) → IsAtStage stage → (ask : Ask) {es : List (Event T)} → AreInCall scene es
      → HasFound index owner value (then_sees scene (Some ask) false scene.states (then_at next (Some ask)) es)
  found_then stage next here ask {es} written =
      record {
        party = then_at next (Some ask);
        found = party_put_same p (then_at next (Some ask)) latest;
        steps = omega arith;
        wrote = wrote_of p events ++ es;
        span = span_of-own p events es written.own ∙ (ap (λ s. fold own_after s es) here.span ∙ written.longer start (wrote_of p events));
      }

  -- after a step that writes nothing the party's call is still this replace, which has taken a step
  pub found_calm : (stage next : ReplaceStage) → IsAtStage stage → (ask : Ask)
      → HasFound index owner value
      (sees_calmly scene (Some ask) false scene.states (then_at next (Some ask)))
  found_calm stage next here ask =
      record {
        party = then_at next (Some ask);
        found = party_put_same p (then_at next (Some ask)) latest;
        steps = omega arith;
        wrote = wrote_of p events;
        span = here.span;
      }

  -- ---- a step that changes nothing and writes nothing

  -- what the replace sees after a step that writes nothing and leads to stage `next`
  abbrev pub SeesCalmly : ReplaceStage → Ask → View T
  SeesCalmly next ask =
      sees_calmly scene (Some ask) false scene.states (then_at next (Some ask))

  -- What has to be shown of a step that leaves the words and writes nothing, by which the replace comes to the stage `next`, where
  -- it owes the changes a raise: after it the replace is within its steps, stands at that stage and knows what it tells.
  pub record GoesTo (next : ReplaceStage) (ask : Ask) : Type 0 where
    pub same : words_after ws (Some ask) ≡ ws
    pub owes : replace_owes next ≡ true
    pub few : steps + 1 ≤ replace_number code.size next
    pub stands : ReplaceAt c code.size (all scene) (done scene) index next
    pub known : Knows code c (at_stage next) (SeesCalmly next ask)

  -- such a step leads a replace that has found its owner to the stage `next`
  pub calm_step : (stage : ReplaceStage) → IsAtStage stage → HeldSometime p (IsFilledWith owner index) events
      → (next : ReplaceStage) (ask : Ask) → GoesTo next ask → Leads scene start (Some ask) false scene.states [] (GoOn (at_stage next))
  calm_step stage here filled next ask goes =
      goes_calmly scene (at_stage next) (Some ask) false here.span (record {
        does =
            loads (as_given stage here) (then_at next (Some ask)) goes.same
            (was_going stage here filled (words_after ws (Some ask)) (then_at next (Some ask)) (none_in_call scene) (omega arith))
            (λ was. goes.owes);
        few = goes.few;
        stands = (refl, given_is, fits, goes.stands);
        known = goes.known;
      })

  -- ---- its owner is looked for

  -- the replace loads the cell of its index
  module _ (here : IsAtStage replaces.LoadsCell) (nothing : done scene ≡ []) (paid : IsPaid (sees_now scene))
      (owns : ReplaceOwns scene.terms.by p index owner events) (few_steps : steps ≤ 0) where
    abbrev load_cell : Ask
    load_cell = operations.loads (cell_word index)

    -- a replace that finds another owner in the cell ends with the answer that its handle is
    -- not the container's
    fails : cell ws index ≢ owner → Leads scene start (Some load_cell) false scene.states [] (Done (answers.NotRemoved ContainerHandleNotOwnedByContainer))
    fails other =
        let party_after = party_then scene start (Some load_cell) false (Done (answers.NotRemoved ContainerHandleNotOwnedByContainer)) in
        let written : List (Event T) = Finished p (Container start) (answers.NotRemoved ContainerHandleNotOwnedByContainer) ∷ [] in
        let same = loads_same ws (cell_word index) in
        let well_formed =
        well_formed_before scene.terms p party_after latest events written (refl, tt)
        (λ h. stands_if replaces.LoadsCell here (λ few. absurd (omega arith))) in
        ends scene (answers.NotRemoved ContainerHandleNotOwnedByContainer) (Some load_cell) false here.span (record {
          longer = none_lengthens;
          does =
              silently (as_given replaces.LoadsCell here) same (tt, tt) (refl, tt) well_formed (owes_none scene party_after here refl)
              (right_end scene (inr (λ filled. other (inv.good.cells index below ∙ ap cell_of filled))) (λ holds. tt));
          follows = ((refl, (none_done, nothing)), tt);
          few = omega arith;
          paid = omega arith;
        })

    -- a cell that has the owner now had him at a moment of the call
    found_now : cell ws index ≡ owner → HeldSometime p (IsFilledWith owner index) events
    found_now = grind (arith, held_now, filled_by, inv_of_set)

    -- a replace that finds its owner in the cell goes on to the number of the element
    finds : cell ws index ≡ owner → Leads scene start (Some load_cell) false scene.states [] (GoOn (at_stage replaces.LoadsCount))
    finds has_owner =
        calm_step replaces.LoadsCell here (found_now has_owner) replaces.LoadsCount load_cell (record {
          same = loads_same ws (cell_word index);
          owes = refl;
          few = omega arith;
          stands = (below, none_done, nothing);
          known = record {
            paid = omega arith;
            within = below;
            owns = owns;
            found = found_calm replaces.LoadsCell replaces.LoadsCount here load_cell;
            filled = found_now has_owner;
          };
        })

    -- the step in which a replace loads the cell: it goes on to the number of the element if it finds its
    -- owner, and ends if it finds another
    pub cell_step : StepOf scene start (at_stage replaces.LoadsCell)
    cell_step =
        on_bool (λ b. Leads scene start (Some (operations.loads (cell_word index))) false scene.states []
        (as_replace (if b then GoOn (at_replace first replaces.LoadsCount) else Done (Err ContainerHandleNotOwnedByContainer))))
        (cell ws index == owner)
        (λ t. let has_owner : cell ws index ≡ owner = grind (arith, nat_tests) in finds has_owner)
        (λ t. let other : cell ws index ≢ owner = grind (arith, nat_tests) in fails other)
