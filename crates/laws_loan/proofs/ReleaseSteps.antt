-- Each step of the release with which a give-up, a send or a take-back ends leaves a
-- machine with the invariant.
use Rattle.laws_loan.proofs.Names.{◌≡◌, ℕ, ◌<◌, false, Option, Some, None, List, [], ◌∷◌, ◌++◌}
use Rattle.laws_loan.proofs.Names.{set, sym, ap, subst, ◌∙◌, append-nil, Ask, After, GoOn, ReleaseState, DefaultMode}
use Rattle.laws_loan.proofs.Names.{Release, ReleaseStage, back_asks, back_takes, Answer, Event, Freed, LoanFlight}
use Rattle.laws_loan.proofs.Names.{Effect, ask_of, book_after, release_effect, Open, old_of}
use Rattle.laws_loan.proofs.Names.{words_after, release_counts}
use Rattle.std.proofs.Common.{arith}
use Rattle.steps.specs.declared.ask.After.TheVariants.{Done}
use Rattle.steps.specs.declared.indices.unique.ReleaseStage.TheVariants as releases
use Rattle.model.specs.declared.event.Start.TheVariants as starts
use Rattle.model.specs.declared.families.loan.effects.Effect.TheVariants as effects
use Rattle.laws_loan.proofs.Channel.{Channel, words_in}
use Rattle.laws_loan.proofs.Invariant.{HoldsNow}
use Rattle.laws_loan.proofs.Knows.{GivesAt}
use Rattle.laws_loan.proofs.Parts.{set_old}
use Rattle.laws_loan.proofs.Releasing.{Releasing, Stands, embedded, steps_set, clears_steps, was_open, leads, goes_steps, ends_steps}
use Rattle.laws_loan.proofs.Scene.{Scene, Underway, scene_of}
use Rattle.laws_loan.proofs.Senders.{from_step}
use Rattle.laws_loan.proofs.SetSteps.{ReleaseLeads}
use Rattle.laws_loan.proofs.StepLaw.{holds_now, ComesBy}

-- an index that is released is an index of the channel
pub gives_below : {T : Type 0} (slots queue : ℕ) (s : Channel T) (index : ℕ) (stage : ReleaseStage) → GivesAt slots queue s index stage → index < slots
gives_below = grind arith

-- the sender has a call that ends with the release `r` of this index
module _ {T : Type 0} (m : Underway T) (index : ℕ) (r : Releasing T m.slots m.queue index) (straight : m.caller.backs ≡ 0) where
  open m use {slots, queue, trace as t, sound}

  abbrev scene : Scene T
  scene = scene_of m

  abbrev s : Channel T
  s = sound.state

  -- the operation of the release's step
  abbrev asked : ReleaseStage → Option Ask
  asked stage = ask_of (back_asks slots index stage)

  -- a step of the release at this stage, with this effect, leaves a machine with the invariant
  abbrev pub StepIsSound : ReleaseStage → Effect → After LoanFlight (Answer T) → Type 0
  StepIsSound stage effect after =
      ComesBy m 0 r.start (asked stage) false after effect

  -- the step of the release at this stage, where its word has the value `value`, leaves a
  -- machine with the invariant
  abbrev StageIsSound : ReleaseStage → ℕ → Type 0
  StageIsSound stage value = StepIsSound stage (release_effect index stage) (embedded r.at r.answer (back_takes slots stage value))

  holds_before : HoldsNow slots queue s t.world.latest s.events t.world.turns
  holds_before = holds_now m

  -- the call stands at this stage of its release
  abbrev StandsAt : ReleaseStage → Type 0
  StandsAt stage = Stands scene index r stage

  module _ (below : index < slots) where
    -- the clear of the flag leaves a machine with the invariant
    clears : StandsAt releases.ClearsFlag → StageIsSound releases.ClearsFlag (old_of s.set (asked releases.ClearsFlag))
    clears there =
        from_step m r.start (asked releases.ClearsFlag) (GoOn (r.at releases.LoadsHead)) (effects.Frees index) (record s {
          set = words_after s.set (asked releases.ClearsFlag);
          claims = set s.claims index None;
          book = book_after {T = T} s.book (Freed 0 index);
          events = s.events ++ Freed 0 index ∷ [];
        }) r.before
        (there.from ∙ ap (λ es. Open (starts.Loan r.start) es) (append-nil r.before)) (
          clears_steps scene index r below holds_before there straight,
          r.so.book None (book_after {T = T} s.book (Freed 0 index)),
        )

    module _ (stage : ReleaseStage) (heavy : release_counts stage ≡ 1) (there : StandsAt stage) where
      -- the words of the set after the step
      abbrev words_then : List ℕ
      words_then = words_after s.set (asked stage)

      -- what the call has written, with the free of the index
      abbrev wrote_now : List (Event T)
      wrote_now = r.before ++ Freed 0 index ∷ []

      -- where `release` is how the release goes on or ends, as `SetSteps` says, the call goes on with it, or
      -- ends with its answer
      leads_on : (release : After (Release DefaultMode) ReleaseState)
          → ReleaseLeads slots stage words_then s.claims release
          → StepIsSound stage effects.Quiet (embedded r.at r.answer release)
      leads_on (GoOn release) release_leads =
          from_step m r.start (asked stage) (GoOn (r.at release.stage)) effects.Quiet _
          wrote_now (was_open below holds_before heavy there straight) (
            goes_steps below holds_before heavy there straight release.stage release_leads.0 release_leads.1 release_leads.2,
            r.so.book None s.book,
          )
      leads_on (Done state) release_leads =
          from_step m r.start (asked stage) (Done r.answer) effects.Quiet
          _ wrote_now (was_open below holds_before heavy there straight) (
            ends_steps below holds_before heavy there straight release_leads.0 release_leads.1,
            r.so.book (Some r.answer) s.book,
          )

      -- each later step of the release leaves a machine with the invariant
      later : StepIsSound stage effects.Quiet (embedded r.at r.answer (back_takes slots stage (old_of s.set (asked stage))))
      later =
          leads_on (back_takes slots stage (old_of s.set (asked stage))) (leads below holds_before heavy there straight)

    -- each step of the release leaves a machine with the invariant, for the words of the indices
    goes : (stage : ReleaseStage) → StandsAt stage → StageIsSound stage (old_of s.set (asked stage))
    goes = grind (arith, clears, later)

  -- each step of the release leaves a machine with the invariant
  pub releases_on : (stage : ReleaseStage) → StandsAt stage → StageIsSound stage (old_of (words_in s) (asked stage))
  releases_on stage there =
      let below = gives_below slots queue s index stage there.gives in
      let on = (steps_set scene index r below holds_before stage there.found there.gives).on in
      let value : old_of (words_in s) (asked stage) ≡ old_of s.set (asked stage) =
      set_old holds_before.parts (back_asks slots index stage) on in
      subst (StageIsSound stage) (sym value) (goes below stage there)
