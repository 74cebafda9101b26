-- A step of a reclaim that changes no word of the indices, after which the reclaim goes on: what it shows.
use Rattle.laws_loan.proofs.Names.{◌≡◌, ◌≢◌, ℕ, ◌+◌, ◌≤◌, ⊎_elim, true, false, Option, None, List, [], ◌++◌}
use Rattle.laws_loan.proofs.Names.{length, fold, refl, sym, ap, subst, ◌∙◌, cases_eq, Ask, After, GoOn, ReclaimStage}
use Rattle.laws_loan.proofs.Names.{place_at, reclaim_asks, reclaim_goes_back, Answer, Event, Start, LoanFlight}
use Rattle.laws_loan.proofs.Names.{Effect, Party, one_word, ask_of, reclaim_goes, MovesRight, BeginsRight}
use Rattle.laws_loan.proofs.Names.{AnswersRight, promise, Passing, spot_of, receiver_of, given_back, reclaims_after}
use Rattle.laws_loan.proofs.Names.{gives_back, reclaim_effect, words_of_index, Stands, moments, Open, own_after}
use Rattle.laws_loan.proofs.Names.{span_of, old_of, words_after, change_of, step_count, AreRight, AreOwn, AllFollow}
use Rattle.laws_loan.proofs.Names.{span_of-own, span_of-other, Core, GoesUp, layout, KnowsPush}
use Rattle.std.proofs.Common.{arith}
use Rattle.steps.specs.declared.loan.places.Place.TheVariants as places
use Rattle.steps.specs.declared.queues.ring.PushStage.{PushStage}
use Rattle.model.specs.declared.event.Start.TheVariants as starts
use Rattle.model.specs.declared.families.loan.LoanStart.TheVariants as calls
use Rattle.model.specs.declared.families.loan.effects.Effect.TheVariants as effects
use Rattle.model.specs.Families.Loan.Reading.{claimed, claims}
use Rattle.model.specs.Families.Queues.Reading.{publishes, published}
use Rattle.model.specs.Reading.{acts}
use Rattle.laws_queues.proofs.Queues.Core.{Good}
use Rattle.laws_loan.proofs.Channel.{Channel, no_roles, words_in}
use Rattle.laws_loan.proofs.Invariant.{Hangs, sends_at, counted_for, hung, reclaims_in, Carries}
use Rattle.laws_loan.proofs.Knows.{reclaim_counts, reclaim_number, StageAt, ReclaimAt}
use Rattle.laws_loan.proofs.Placed.{Placed}
use Rattle.laws_loan.proofs.Reclaiming.{reclaim_at, goes_known, none_more, Reclaims}
use Rattle.laws_loan.proofs.Rests.{KeepsSet, SetStep, keeps_all}
use Rattle.laws_loan.proofs.Rests as rests
use Rattle.laws_loan.proofs.Scene.{Scene}
use Rattle.laws_loan.proofs.Sender.{party_then, Steps, StepBy}
use Rattle.laws_loan.proofs.SenderInterference.{others_dead}
use Rattle.laws_loan.proofs.QueueEvents.{is_reclaiming, Tells}
use Rattle.laws_loan.proofs.Turns.{Shows, sends_now}

module _ {T : Type 0} (scene : Scene T) (wrote : List (Event T)) where
  open scene use {slots, queue, state as s, latest, turns, changes, caller as x}

  abbrev pub start : Start T
  start = starts.Loan calls.Reclaim

  -- ---- a step of the call, by its stage

  -- the operation that the reclaim asks for at this stage
  abbrev pub asked : ReclaimStage → Option Ask
  asked stage = ask_of (reclaim_asks slots queue stage)

  -- the old value of the word that it asks for
  abbrev pub old : ReclaimStage → ℕ
  old stage = old_of (words_in s) (asked stage)

  -- how the reclaim goes on from this stage, or ends, where the word has the value `value`
  abbrev pub goes : ReclaimStage → ℕ → After LoanFlight (Answer T)
  goes stage value = reclaim_goes s.book.places (record { slots = slots; queue = queue; stage = stage }) value

  -- what the step at this stage does to the channel
  abbrev pub effect_at : ReclaimStage → ℕ → Effect
  effect_at stage value = reclaim_effect slots queue (words_in s) stage value

  -- a step at this stage, to the channel `s'`, keeps the invariant
  abbrev pub StepTo : Channel T → ReclaimStage → After LoanFlight (Answer T) → Effect → Type 0
  StepTo s' stage after effect = StepBy scene 0 s' (Open start wrote) calls.Reclaim (asked stage) false after effect

  -- the step of the reclaim at this stage keeps the invariant, with some channel
  pub record StageKeeps (stage : ReclaimStage) : Type 0 where
    pub channel_then : Channel T
    pub stays : reclaim_goes_back stage (old stage) ≡ false
    pub step : StepTo channel_then stage (goes stage (old stage)) (effect_at stage (old stage))

-- ---- the reclaim goes on

-- the reclaim stands at the stage `under`, and is not counted in the head of the indices
module _ {T : Type 0} {scene : Scene T} {wrote : List (Event T)} {under : ReclaimStage} (r : Reclaims scene wrote under)
    (idle : reclaim_counts under ≡ 0) where
  open scene use {slots, queue, state as s, latest, turns, changes, caller as x}
  open r use {holds, here, from, known, straight}

  -- at most the capacity waits in the submission queue
  pub calm : Hangs queue s.submission None
  calm = grind arith

  -- the reclaim is not counted by the set
  pub busy_none : counted_for (sends_at latest) ≡ 0
  busy_none = ap counted_for here ∙ idle

  -- a reclaim is under way
  pub reclaims : is_reclaiming s.events ≡ true
  reclaims = holds.reclaiming ∙ ap reclaims_in from

  -- the step leaves the two queues `k` and `m`, writes `es`, and leads to the stage `after_it`
  module _ (now : ReclaimStage) (k m : Core ℕ) (es : List (Event T)) (after_it : ReclaimStage) where
    -- the sender after the step
    abbrev pub y_on : Party T
    y_on = party_then scene calls.Reclaim (asked scene wrote now) false (GoOn (reclaim_at slots queue after_it))

    -- the channel after a step with which the reclaim goes on
    abbrev pub s_on : Channel T
    s_on = record s { submission = k; completion = m; book = s.book; events = s.events ++ es }

    -- What a step shows that writes these events, leaves these two queues, and goes on to this stage.
    pub record StepGoesOn : Type 0 where
      -- the words afterwards, and that the events are the sender's own and may follow in its span
      pub words : words_after (words_in s) (asked scene wrote now) ≡ s.set ++ (layout no_roles k ++ layout no_roles m)
      pub own : AreOwn 0 es
      pub stands : AllFollow (Stands promise slots) (Open (starts.Loan calls.Reclaim) wrote) es
      pub span : fold own_after (Open (starts.Loan calls.Reclaim) wrote) es ≡ Open (starts.Loan calls.Reclaim) (wrote ++ es)
      -- the two queues are right, and their write positions stay
      pub submission : Good 1 words_of_index (queue + 1) k
      pub completion : Good 1 words_of_index slots m
      pub fewer : length k.waiting ≤ length s.submission.waiting
      pub sent_write : k.write ≡ s.submission.write
      pub given_write : m.write ≡ s.completion.write
      -- each index is where the book and the events say, and the events tell of the queues what they hold
      pub placed : Placed slots s.claims k.waiting m.waiting s.book (s.events ++ es)
      pub tells : Tells queue true s.submission.waiting k.waiting s.completion.waiting m.waiting es
      pub counted : reclaim_counts after_it ≡ 0
      -- the moves, begins and answers are right, and an index that comes into passing was sent
      pub moves : AreRight (MovesRight slots) s.events es
      pub begins : AreRight BeginsRight s.events es
      pub answers : AreRight (AnswersRight slots) s.events es
      pub passing : (i q : ℕ) → q ≢ 0 → spot_of i (s.events ++ es) ≡ Passing q → spot_of i s.events ≡ Passing q
      pub sent : (i : ℕ) → spot_of i (s.events ++ es) ≡ Passing 0 → place_at s.book.places i ≡ places.Sent
      -- the reclaim goes on, and claims, publishes, gives back and acts nothing
      pub receiver : receiver_of (s.events ++ es) ≡ receiver_of s.events
      pub reclaiming : fold reclaims_after true es ≡ true
      pub claims : claimed es ≡ []
      pub publishes : published es ≡ []
      pub gives : given_back es ≡ []
      pub acts : moments es ≡ []
      -- the reclaim stands at its next stage, within its bound of steps, and other calls
      -- know what they knew
      pub stage_at : StageAt slots k m s.book.places (wrote ++ es) after_it
      pub steps : x.steps + step_count (asked scene wrote now) ≤ reclaim_number slots (wrote ++ es) after_it
      pub push : (index : ℕ) (stage : PushStage) → KnowsPush one_word slots s.completion index stage → KnowsPush one_word slots m index stage
      pub up : GoesUp s.submission k changes (changes + change_of (words_in s) (asked scene wrote now))

    module _ (leads : StepGoesOn) where
      -- after the step the span is open with its events written
      open_then : span_of 0 (s.events ++ es) ≡ Open (starts.Loan calls.Reclaim) (wrote ++ es)
      open_then = grind (arith, span_of-own, fold)

      -- an index in passing afterwards is carried by the span of its party's call
      passing_then : (i q : ℕ) → spot_of i (s.events ++ es) ≡ Passing q → Carries i (span_of q (s.events ++ es))
      passing_then i q spot_is =
          ⊎_elim
          (λ (mine : q ≡ 0). rw mine (subst (Carries i) (sym open_then) tt))
          (λ (theirs : q ≢ 0). subst (Carries i) (sym (span_of-other 0 q s.events es theirs leads.own))
          (holds.passing i q (leads.passing i q theirs spot_is)))
          (cases_eq q 0)

      -- a step with which the reclaim goes on keeps what holds between two turns (`Shows`, Turns)
      shows_on : Shows slots queue s s_on 0 y_on latest turns es
      shows_on = grind (arith, calm, busy_none, reclaims, fold, open_then, passing_then, sends_now)

      -- the reclaim knows what its next stage says
      known_then : ReclaimAt slots queue s_on (wrote ++ es) after_it
      known_then = grind (arith, claims, none_more, publishes, gives_back, acts)

      -- a step with which the reclaim goes on keeps the invariant (`Steps`, Sender)
      pub leads_on : Steps scene 0 s_on (Open (starts.Loan calls.Reclaim) wrote) calls.Reclaim
          (asked scene wrote now) false (GoOn (reclaim_at slots queue after_it)) es
      leads_on =
          let others = others_dead slots queue s s_on known.dead refl leads.push in
          grind (arith, shows_on, open_then, known_then)

  -- ---- a step that writes nothing and changes no word

  -- the channel after a step that changes nothing of it
  abbrev pub s_still : Channel T
  s_still = record s { submission = s.submission; completion = s.completion; book = s.book; events = s.events ++ [] }

  -- the step at the stage `now` changes no word and leads to the stage `after_it`, at which the reclaim stands
  module _ (now after_it : ReclaimStage) (words : words_after (words_in s) (asked scene wrote now) ≡ words_in s)
      (counted : reclaim_counts after_it ≡ 0)
      (stands : StageAt slots s.submission s.completion s.book.places wrote after_it)
      (steps : x.steps + step_count (asked scene wrote now) ≤ reclaim_number slots wrote after_it) where
    -- a step that changes no word keeps the invariant, where the reclaim stands at the stage to which it goes
    pub goes_still : Steps scene 0 s_still (Open (starts.Loan calls.Reclaim) wrote)
        calls.Reclaim (asked scene wrote now) false (GoOn (reclaim_at slots queue after_it)) []
    goes_still =
        let set_step : SetStep T = rests.set_step scene holds straight from (asked scene wrote now) s.set in
        rests.goes_on set_step (reclaim_at slots queue after_it)
        (subst (KeepsSet slots queue s latest (asked scene wrote now) s.set) (sym counted)
        (keeps_all holds words busy_none (ap (hung s.submission.read) here)))
        refl steps (refl, refl, refl, goes_known slots queue s s.set wrote under after_it known stands) (omega arith)

    -- a step that changes no word, with which the reclaim goes on by its code, keeps the invariant
    pub loads : reclaim_goes_back now (old scene wrote now) ≡ false → goes scene wrote now (old scene wrote now) ≡ GoOn (reclaim_at slots queue after_it)
        → effect_at scene wrote now (old scene wrote now) ≡ effects.Quiet → StageKeeps scene wrote now
    loads stays goes_on quiet =
        record {
          channel_then = s_still;
          stays = stays;
          step =
              rw (goes_on, quiet) (goes_still, refl);
        }
