-- Each step of a reclaim leaves a machine with the invariant. A reclaim pops the two queues, and then
-- releases one after the other the indices that are sent.
use Rattle.laws_loan.proofs.Names.{◌≡◌, ◌≢◌, ℕ, ◌+◌, ◌*◌, ◌%◌, ◌^◌, ◌<◌, ◌≤◌, false, Option, Some, None, List, []}
use Rattle.laws_loan.proofs.Names.{⊎_elim, refl, sym, ap, subst, ◌∙◌, AllByRecursion, cases_lt, Ask, After, GoOn}
use Rattle.laws_loan.proofs.Names.{ReleaseState, DefaultMode, Release, ReleaseStage, Place, ReclaimStage, Releases}
use Rattle.laws_loan.proofs.Names.{back_asks, back_takes, place_at, next_sent, reclaim_releases, reclaim_released}
use Rattle.laws_loan.proofs.Names.{Answer, Number, Event, LoanFlight, Reclaim, ask_of, freed, ended_book, Open}
use Rattle.laws_loan.proofs.Names.{span_of, as_call, answer_in, old_of, words_after, release_counts, release_number}
use Rattle.std.proofs.Common.{arith}
use Rattle.steps.specs.declared.ask.After.TheVariants.{Done}
use Rattle.steps.specs.declared.indices.unique.ReleaseStage.TheVariants as releases
use Rattle.steps.specs.declared.loan.places.Place.TheVariants as places
use Rattle.steps.specs.declared.loan.reclaim.Reclaim as reclaims
use Rattle.steps.specs.declared.loan.reclaim.ReclaimStage.TheVariants as stages
use Rattle.model.specs.declared.event.Start.TheVariants as starts
use Rattle.model.specs.declared.families.Flight.TheVariants as flights
use Rattle.model.specs.declared.families.loan.LoanStart.TheVariants as calls
use Rattle.model.specs.declared.families.loan.effects.Effect.TheVariants as effects
use Rattle.laws_indices.proofs.Core as indices
use Rattle.laws_loan.proofs.Channel.{Channel, words_in}
use Rattle.laws_loan.proofs.Drains.{drains_does}
use Rattle.laws_loan.proofs.Empties.{empties_does}
use Rattle.laws_loan.proofs.Frees.{frees_at, all_less, frees_for, leads, on_words, goes_steps, ends_steps, clears_steps}
use Rattle.laws_loan.proofs.Invariant.{HoldsNow}
use Rattle.laws_loan.proofs.Knows.{wrote_in, StageAt}
use Rattle.laws_loan.proofs.Parts.{set_old}
use Rattle.laws_loan.proofs.ReclaimGoes.{asked, old, goes, effect_at, StageKeeps}
use Rattle.laws_loan.proofs.Reclaiming.{reclaim_at, Reclaims}
use Rattle.laws_loan.proofs.Scene.{Scene, Underway, scene_of}
use Rattle.laws_loan.proofs.Senders.{Stands, Comes, from_step}
use Rattle.laws_loan.proofs.SentIndices.{ComesTo, comes_to}
use Rattle.laws_loan.proofs.SetSteps.{ReleaseLeads}
use Rattle.laws_loan.proofs.StepLaw.{holds_now, ComesWith}

-- how a reclaim goes on, or ends, where `release` is how its release has gone on or ended
abbrev pub reclaimed_after : (T : Type 0) → reclaims.Reclaim → List Place → ℕ → ℕ → After (Release DefaultMode) ReleaseState → After LoanFlight (Answer T)
reclaimed_after T call table number index release = as_call Reclaim Number (reclaim_released call table number index release)

module _ {T : Type 0} (m : Underway T) where
  open m use {slots, queue, trace as t, sound, small, caller as x}

  abbrev scene : Scene T
  scene = scene_of m

  abbrev s : Channel T
  s = sound.state

  -- what the reclaim has written so far
  abbrev wrote : List (Event T)
  wrote = wrote_in (span_of 0 s.events)

  -- the reclaim stands in the machine at this stage
  abbrev StandsAt : ReclaimStage → Type 0
  StandsAt stage =
      Stands m 0 (starts.Loan calls.Reclaim) (flights.Loan (reclaim_at slots queue stage))

  -- the step of the reclaim at this stage leaves a machine with the invariant
  abbrev StageIsSound : ReclaimStage → Type 0
  StageIsSound stage = Comes m 0 (starts.Loan calls.Reclaim) (flights.Loan (reclaim_at slots queue stage))

  abbrev now : HoldsNow slots queue s t.world.latest s.events t.world.turns
  now = holds_now m

  -- the reclaim that stands in the machine has written what its span says
  from : (stage : ReclaimStage) → StandsAt stage → span_of 0 s.events ≡ Open (starts.Loan calls.Reclaim) wrote
  from stage there = ap (span_of 0) sound.holds.same ∙ there.span

  -- a reclaim that stands in the machine stands as `Reclaims` says
  stands : (stage : ReclaimStage) → StandsAt stage → Reclaims scene wrote stage
  stands stage there = record { holds = now; here = there.found; from = from stage there; known = there.at.3; straight = there.knows }

  -- ---- the release of an index; then the reclaim comes to the next one that is sent, or ends

  module _ (number index : ℕ) where
    -- the reclaim at a stage of the release
    abbrev call : ReleaseStage → reclaims.Reclaim
    call stage = record { slots = slots; queue = queue; stage = Releases number index stage }

    abbrev FreesThere : ReleaseStage → Type 0
    FreesThere stage = StandsAt (Releases number index stage)

    -- ---- the clear of the flag

    -- the clear of the flag leaves a machine with the invariant
    clears : FreesThere releases.ClearsFlag → StageIsSound (Releases number index releases.ClearsFlag)
    clears there =
        let few = there.steps in
        let clear = clears_steps (stands (Releases number index releases.ClearsFlag) there) (omega arith) in
        from_step m calls.Reclaim (ask_of (back_asks slots index releases.ClearsFlag))
        (GoOn (frees_at slots queue number index releases.LoadsHead)) (effects.Frees index) _ wrote
        (from (Releases number index releases.ClearsFlag) there) (clear, refl)

    -- ---- every later step

    -- the reclaim is at a later stage of the release
    module _ (stage : ReleaseStage) (heavy : release_counts stage ≡ 1) (there : FreesThere stage) where
      -- the operation of the release's step
      abbrev ask : Option Ask
      ask = ask_of (back_asks slots index stage)

      -- the words of the set after the step
      abbrev words_then : List ℕ
      words_then = words_after s.set ask

      -- the span of the reclaim is open before the step, with what it has written
      was_open : span_of 0 s.events ≡ Open (starts.Loan calls.Reclaim) wrote
      was_open = from (Releases number index stage) there

      -- where the release of the reclaim stands
      r : Reclaims scene wrote (Releases number index stage)
      r = stands (Releases number index stage) there

      -- a step after which the reclaim is as `after` says leaves a machine with the invariant
      abbrev StepIsSound : After LoanFlight (Answer T) → Type 0
      StepIsSound after =
          ComesWith m 0 calls.Reclaim ask false after [] (ended_book {T = T} 0 calls.Reclaim (answer_in after) s.book)

      -- the reclaim goes on to the stage `stage'` of a release
      goes_on : (number' index' : ℕ) (stage' : ReleaseStage)
          → indices.Good slots words_then s.claims (release_counts stage')
          → StageAt slots s.submission s.completion s.book.places wrote (Releases number' index' stage')
          → x.steps + 1 ≤ 8 * (slots + 1) + 5 * number' + release_number stage' 0
          → StepIsSound (GoOn (frees_at slots queue number' index' stage'))
      goes_on number' index' stage' good known more =
          from_step m calls.Reclaim ask (GoOn (frees_at slots queue number' index' stage')) effects.Quiet _ wrote was_open (
            goes_steps r heavy there.steps number' index' stage' good
                known more,
            refl,
          )

      -- the release has ended: the reclaim goes on with the next index that is sent, or ends
      next : indices.Good slots words_then s.claims 0 → release_number stage 0 + 1 ≤ 5 → (o : Option ℕ)
          → ComesTo s.book.places slots (index + 1) o
          → StepIsSound (as_call Reclaim Number (reclaim_releases (call stage) (number + 1) o))
      next good last None none =
          let few = there.steps in
          from_step m calls.Reclaim ask (Done (Number (number + 1))) effects.Quiet _ wrote was_open (
            ends_steps r heavy there.steps good
                (λ j below. ⊎_elim (λ (low : j < index + 1). before j low) (λ (high : index + 1 ≤ j). none j high below) (cases_lt j (index + 1)))
                (omega arith) small,
            refl,
          )
        where
          -- no index up to this one is sent any more
          before : (j : ℕ) → j < index + 1 → place_at s.book.places j ≢ places.Sent
          before j low = there.at.3.stage_at.5 j (omega arith)
      next good last (Some i) comes =
          let few = there.steps in
          let low = comes.0 in
          let stage_stands = there.at.3.stage_at in
          let less = stage_stands.2 in
          goes_on (number + 1) i releases.ClearsFlag good (
            comes.2,
            comes.1,
            (omega arith),
            stage_stands.3 ∙ (omega arith),
            all_less (freed wrote) (index + release_counts stage) (i + 0) (omega arith) stage_stands.4,
            (λ j high. ⊎_elim (λ (low : j < index + 1). stage_stands.5 j (omega arith))
                (λ (up : index + 1 ≤ j). comes.3 j up (omega arith)) (cases_lt j (index + 1))),
            stage_stands.6,
            stage_stands.7,
          )
          (omega arith)

      -- where `release` is how the release goes on or ends, as `SetSteps` says, the reclaim goes on with it,
      -- comes to the next index that is sent, or ends
      leads_on : (release : After (Release DefaultMode) ReleaseState)
          → ReleaseLeads slots stage words_then s.claims release
          → StepIsSound (reclaimed_after T (call stage) s.book.places number index release)
      leads_on (GoOn release) release_leads =
          let few = there.steps in
          let stage_stands = there.at.3.stage_at in
          let more = release_leads.2 in
          goes_on number index release.stage (subst (indices.Good slots words_then s.claims) (sym release_leads.1) release_leads.0) (
            frees_for release.stage release_leads.1 s.book.places index,
            stage_stands.1,
            stage_stands.2,
            stage_stands.3 ∙ ap (λ n. number + n) (heavy ∙ sym release_leads.1),
            subst (λ n. AllByRecursion (λ i. i < index + n) (freed wrote)) (heavy ∙ sym release_leads.1) stage_stands.4,
            (λ j low. stage_stands.5 j (omega arith)),
            stage_stands.6,
            stage_stands.7,
          )
          (omega arith)
      leads_on (Done state) release_leads =
          let stage_stands = there.at.3.stage_at in
          let below = stage_stands.1 in
          let less = stage_stands.2 in
          let low = now.parts.set.few in
          let counted : (number + 1) % 2 ^ 64 ≡ number + 1 = omega arith in
          let next_one : (index + 1) % 2 ^ 32 ≡ index + 1 = omega arith in
          rw (counted, next_one)
          (next release_leads.0 release_leads.1 (next_sent s.book.places slots (index + 1)) (comes_to s.book.places slots (index + 1)))

      -- every later step of the release leaves a machine with the invariant
      later : StepIsSound (reclaimed_after T (call stage) s.book.places number index (back_takes slots stage (old_of (words_in s) ask)))
      later =
          let value : old_of (words_in s) ask ≡ old_of s.set ask =
          set_old now.parts (back_asks slots index stage)
          (on_words r) in
          rw value (leads_on (back_takes slots stage (old_of s.set ask)) (leads r heavy there.steps))

    -- ---- any step

    -- each step of the release leaves a machine with the invariant
    reclaim_frees : (stage : ReleaseStage) → FreesThere stage → StageIsSound (Releases number index stage)
    reclaim_frees = grind (arith, clears, later)

  -- ---- any step

  -- a step of a pop of the reclaim, none of which turns back, leaves a machine with the invariant
  pops : (stage : ReclaimStage) → StandsAt stage → StageKeeps scene wrote stage → StageIsSound stage
  pops stage there does =
      let value = old scene wrote stage in
      let after = goes scene wrote stage value in
      let effect = effect_at scene wrote stage value in
      let ask = asked scene wrote stage in
      rw does.stays (from_step m calls.Reclaim ask after effect does.channel_then wrote (from stage there) does.step)

  -- the step of a reclaim at any stage leaves a machine with the invariant
  pub reclaim_steps : (stage : ReclaimStage) → StandsAt stage → StageIsSound stage
  reclaim_steps (stages.Drains stage) there =
      let r = stands (stages.Drains stage) there in
      pops (stages.Drains stage) there (drains_does scene wrote small (stages.Drains stage) r refl stage r.known.stage_at there.steps)
  reclaim_steps (stages.Empties stage) there =
      let r = stands (stages.Empties stage) there in
      pops (stages.Empties stage) there (empties_does scene wrote small (stages.Empties stage) r refl stage r.known.stage_at there.steps)
  reclaim_steps (Releases number index stage) there = reclaim_frees number index stage there

  -- the step of the reclaim as the machine has it leaves a machine with the invariant
  pub reclaim_steps_from : (held : reclaims.Reclaim)
      → Stands m 0 (starts.Loan calls.Reclaim) (flights.Loan (Reclaim held))
      → Comes m 0 (starts.Loan calls.Reclaim) (flights.Loan (Reclaim held))
  reclaim_steps_from held there =
      let stands_at = there.at in
      let is : held ≡ record { slots = slots; queue = queue; stage = held.stage } =
      ap {A = ℕ} {B = reclaims.Reclaim} (λ n. record { slots = n; queue = held.queue; stage = held.stage }) stands_at.1
      ∙ ap {A = ℕ} {B = reclaims.Reclaim} (λ n. record { slots = slots; queue = n; stage = held.stage }) stands_at.2
      in
      subst (λ c. Stands m 0 (starts.Loan calls.Reclaim) (flights.Loan (Reclaim c))
      → Comes m 0 (starts.Loan calls.Reclaim) (flights.Loan (Reclaim c))) (sym is) (reclaim_steps held.stage) there
