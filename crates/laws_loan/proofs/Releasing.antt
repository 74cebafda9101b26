-- The release with which a give-up, a send or a take-back ends, of an index that is in passing in the call.
-- Each step keeps the invariant: it has the fields of `Steps` (Sender).
use Rattle.laws_loan.proofs.Names.{◌≡◌, ℕ, ◌+◌, ◌<◌, ◌≤◌, Bool, false, Option, Some, None, List, [], ◌∷◌, ◌++◌, set}
use Rattle.laws_loan.proofs.Names.{refl, sym, ap, subst, ◌∙◌, append-nil, Ask, After, GoOn, ReleaseState, DefaultMode}
use Rattle.laws_loan.proofs.Names.{Release, ReleaseStage, back_asks, back_takes, Answer, Event, Freed, Finished, Book}
use Rattle.laws_loan.proofs.Names.{LoanStart, LoanFlight, Party, ask_of, most_steps, AnswersRight, Free}
use Rattle.laws_loan.proofs.Names.{Passing, move_of, receiver_after, reclaims_after, Wrote, may_stand, ended_book}
use Rattle.laws_loan.proofs.Names.{book_after, Open, span_of, old_of, words_after, change_of, step_count}
use Rattle.laws_loan.proofs.Names.{release_counts, release_number, release_wrote, ReleaseAt}
use Rattle.std.proofs.Common.{arith}
use Rattle.steps.specs.declared.ask.After.TheVariants.{Done}
use Rattle.steps.specs.declared.indices.unique.ReleaseStage.TheVariants as releases
use Rattle.model.specs.declared.event.Start.TheVariants as starts
use Rattle.model.specs.declared.families.Flight.TheVariants as flights
use Rattle.laws_indices.proofs.Core as indices
use Rattle.laws_loan.proofs.Channel.{Channel, words_in}
use Rattle.laws_loan.proofs.Invariant.{sends_at, hung, reclaims_in, Carries}
use Rattle.laws_loan.proofs.Knows.{counts, number_of, GivesAt, At, FlightKnows}
use Rattle.laws_loan.proofs.OneMove.{OneMove, carried, passes_on, same_receiver, span_after}
use Rattle.laws_loan.proofs.Parts.{set_words}
use Rattle.laws_loan.proofs.Rests as rests
use Rattle.laws_loan.proofs.Scene.{Scene, HoldsIn}
use Rattle.laws_loan.proofs.Sender.{party_then, Steps}
use Rattle.laws_loan.proofs.SetSteps.{ReleaseLeads, ReleaseStep, claims_for, release_step}
use Rattle.laws_loan.proofs.Spots.{passing_same, free_passes}
use Rattle.laws_loan.proofs.Table.{frees_it}
use Rattle.laws_loan.proofs.SenderInterference.{others_beside}
use Rattle.laws_loan.proofs.QueueEvents.{items}
use Rattle.laws_loan.proofs.Turns.{Shows, sends_now}

-- each stage takes one operation
one_step : (slots index : ℕ) (stage : ReleaseStage) → step_count (ask_of (back_asks slots index stage)) ≡ 1
one_step = grind arith

-- how a call goes on, or ends with `answer`, as its release goes on or ends; `at` is the call at
-- a stage of its release
abbrev pub embedded : {A : Type 0} → (ReleaseStage → LoanFlight) → A → After (Release DefaultMode) ReleaseState → After LoanFlight A
embedded at answer (GoOn release) = GoOn (at release.stage)
embedded at answer (Done state) = Done answer

-- A call that ends with the release of this index: `at` is the call at a stage of the release, `before`
-- what it has written before, `base` how many steps it takes before, and `answer` its answer.
pub record ReleasesLast (T : Type 0) (slots queue index : ℕ) (start : LoanStart) (at : ReleaseStage → LoanFlight)
    (before : List (Event T)) (answer : Answer T) (base : ℕ) : Type 0 where
  -- what it counts for is what its release counts for, it is no send that waits, and it stands
  -- where its release does
  pub counted : (stage : ReleaseStage) → counts (at stage) ≡ release_counts stage
  pub calm : (read : ℕ) (stage : ReleaseStage) → hung {T = T} read (Some (flights.Loan (at stage))) ≡ None
  pub stands : (s : Channel T) (stage : ReleaseStage) → GivesAt slots queue s index stage
      → At slots queue s 0 (before ++ release_wrote 0 index stage) start (at stage)
  -- its steps, and that it turns back at no stage
  pub number : (wrote : List (Event T)) (stage : ReleaseStage) (backs : ℕ) → number_of slots wrote (at stage) backs ≡ base + release_number stage 0
  pub most : (backs : ℕ) → base + 5 ≤ most_steps slots start backs
  pub knows : (s : Channel T) (since changes backs : ℕ) (stage : ReleaseStage) → backs ≡ 0 → FlightKnows slots queue s since changes backs (at stage)
  -- it is no reclaim, and has this index in passing until it frees it, and no other
  pub other : (wrote : List (Event T)) → reclaims_in (Open (starts.Loan start) wrote) ≡ false
  pub carries : (i : ℕ) → Carries {T = T} i (Open (starts.Loan start) before) → i ≡ index
  pub freed : (i : ℕ) → Carries {T = T} i (Open (starts.Loan start) (before ++ Freed 0 index ∷ [])) → ⊥
  -- the event `Freed` may follow in its span, and its end is right and moves no index
  pub may : may_stand {T = T} (Freed 0 index) (Open (starts.Loan start) before)
  pub done : Wrote start answer (before ++ Freed 0 index ∷ [])
  pub told : (events : List (Event T)) → AnswersRight slots events (Finished 0 (starts.Loan start) answer)
  pub still : move_of (Finished 0 (starts.Loan start) answer) ≡ None
  pub receiver : (r : ℕ) → receiver_after r (Finished 0 (starts.Loan start) answer) ≡ r
  pub reclaims : (b : Bool) → reclaims_after b (Finished 0 (starts.Loan start) answer) ≡ b
  pub book : (outcome : Option (Answer T)) (b : Book) → ended_book 0 start outcome b ≡ b

-- a call that ends with the release of this index
pub record Releasing (T : Type 0) (slots queue index : ℕ) : Type 0 where
  -- the call, and how it stands at each stage of the release
  pub start : LoanStart
  pub at : ReleaseStage → LoanFlight
  -- what it has written before the release, and what it answers
  pub before : List (Event T)
  pub answer : Answer T
  -- how many steps it has taken before the release at most
  pub base : ℕ
  pub so : ReleasesLast T slots queue index start at before answer base

-- the scene's sender has a call under way that ends with the release of `index`
module _ {T : Type 0} (scene : Scene T) (index : ℕ) (r : Releasing T scene.slots scene.queue index) where
  abbrev ReleaseIsAt : ReleaseStage → Type 0
  ReleaseIsAt stage = sends_at scene.latest ≡ Some (flights.Loan (r.at stage))

  -- the call stands at this stage of the release
  pub record Stands (stage : ReleaseStage) : Type 0 where
    pub found : ReleaseIsAt stage
    pub gives : GivesAt scene.slots scene.queue scene.state index stage
    pub from : span_of 0 scene.state.events ≡ Open (starts.Loan r.start) (r.before ++ release_wrote 0 index stage)
    pub few : scene.caller.steps ≤ r.base + release_number stage 0

  -- the index is one of the channel, and the invariant (`holds`) holds before the step
  module _ (below : index < scene.slots) (holds : HoldsIn scene) where
    open scene use {slots, queue, state as s, latest, turns, changes, since, caller as x}

    -- the step of the release does to the words of the indices what `SetSteps` says of it
    release_at : (stage : ReleaseStage) → GivesAt slots queue s index stage → ReleaseAt s.claims 0 index stage
    release_at = grind arith

    -- the set is right, with as many calls at work as the release counts
    good_at : (stage : ReleaseStage) → ReleaseIsAt stage → indices.Good slots s.set s.claims (release_counts stage)
    good_at = grind arith

    -- what a step of the release does to the set of indices
    pub steps_set : (stage : ReleaseStage) → ReleaseIsAt stage → GivesAt slots queue s index stage → ReleaseStep slots index below s.set s.claims stage
    steps_set stage here gives = release_step slots index below s.set s.claims stage (release_at stage gives) (good_at stage here)

    -- the step changes of the whole only the words of the indices
    whole_words : (stage : ReleaseStage) (here : ReleaseIsAt stage) (gives : GivesAt slots queue s index stage)
        → words_after (words_in s) (ask_of (back_asks slots index stage))
        ≡ words_in (record s { set = words_after s.set (ask_of (back_asks slots index stage)) })
    whole_words stage here gives =
        set_words holds.parts (back_asks slots index stage) (steps_set stage here gives).on

    -- ---- the clear of the flag

    -- the call is at the clear of the flag
    module _ (there : Stands releases.ClearsFlag) (straight : x.backs ≡ 0) where
      open there use {found as here, gives, from}

      -- the event of the free
      abbrev freed_es : List (Event T)
      freed_es = Freed 0 index ∷ []

      abbrev clears_ask : Option Ask
      clears_ask = ask_of (back_asks slots index releases.ClearsFlag)

      -- the sender after the clear of the flag
      abbrev y_freed : Party T
      y_freed = party_then scene r.start clears_ask false (GoOn (r.at releases.LoadsHead))

      -- the book after the free
      abbrev book_freed : Book
      book_freed = book_after {T = T} s.book (Freed 0 index)

      -- the channel after the flag of the index is cleared
      abbrev s_freed : Channel T
      s_freed =
          record s {
            set = words_after s.set clears_ask;
            claims = set s.claims index None;
            book = book_freed;
            events = s.events ++ Freed 0 index ∷ [];
          }

      -- the event moves the index alone, which is free afterwards
      one_move : OneMove 0 index s.events freed_es (Passing 0) Free
      one_move = grind arith

      -- the span of the call before the free
      is_from : span_of 0 s.events ≡ Open (starts.Loan r.start) r.before
      is_from = from ∙ ap (λ es. Open (starts.Loan r.start) es) (append-nil r.before)

      -- after the free the span is open with it written
      open_then : span_of 0 (s.events ++ freed_es) ≡ Open (starts.Loan r.start) (r.before ++ freed_es)
      open_then = span_after one_move is_from

      -- the clear of the flag keeps what holds between two turns, with the event that the index is freed
      shows_freed : Shows slots queue s s_freed 0 y_freed latest turns freed_es
      shows_freed =
          let step = steps_set releases.ClearsFlag here gives in
          let counted = r.so.counted releases.LoadsHead in
          let calm = r.so.calm s.submission.read releases.LoadsHead in
          let calm_before = r.so.calm s.submission.read releases.ClearsFlag in
          let placed = frees_it holds.parts.placed index below (Passing 0) gives.1 refl refl in
          let reclaiming = r.so.other r.before ∙ sym (r.so.other (r.before ++ freed_es)) in
          let passing =
          carried one_move is_from holds.passing
          (λ i ne held. absurd (ne (sym (r.so.carries i held)))) (λ q e. absurd (free_passes q e)) in
          grind (arith, open_then, is_from, sends_now, append-nil, items, same_receiver, one_move)

      -- the clear of the flag leads the call on to the load of the head, and keeps the invariant
      pub clears_steps : Steps scene 0 s_freed (Open (starts.Loan r.start) r.before) r.start clears_ask false (GoOn (r.at releases.LoadsHead))
          freed_es
      clears_steps =
          let words = whole_words releases.ClearsFlag here gives in
          let may = r.so.may in
          let number = r.so.number (r.before ++ freed_es) releases.LoadsHead (x.backs + 0) in
          let stands = r.so.stands s_freed releases.LoadsHead below in
          let knows =
          r.so.knows s_freed (since + change_of (words_in s) clears_ask) (changes + change_of (words_in s) clears_ask)
          (x.backs + 0) releases.LoadsHead (omega arith) in
          let others =
          others_beside slots queue s s_freed refl refl (λ room stage known. known) (λ i stage known. known)
          (λ q ne. passes_on one_move q (λ e. ne (sym (passing_same 0 q e)))) in
          grind (arith, shows_freed, open_then)

    -- ---- every later step

    -- a stage at which the release still counts asks nothing of the channel
    gives_for : (s' : Channel T) (stage : ReleaseStage) → release_counts stage ≡ 1 → GivesAt slots queue s' index stage
    gives_for = grind arith

    -- at a stage at which the release still counts, the free is written
    wrote_for : (stage : ReleaseStage) → release_counts stage ≡ 1 → release_wrote {T = T} 0 index stage ≡ Freed 0 index ∷ []
    wrote_for = grind arith

-- the call is at a later stage of its release
module _ {T : Type 0} {scene : Scene T} {index : ℕ} {r : Releasing T scene.slots scene.queue index} {stage : ReleaseStage} (below : index < scene.slots)
    (holds : HoldsIn scene) (heavy : release_counts stage ≡ 1) (there : Stands scene index r stage) (straight : scene.caller.backs ≡ 0) where
  open scene use {slots, queue, state as s, latest, turns, changes, since, caller as x}
  open there use {found as here, gives}

  -- the operation of the release's step
  abbrev ask : Option Ask
  ask = ask_of (back_asks slots index stage)

  -- what the call has written, with the free of the index
  abbrev wrote_now : List (Event T)
  wrote_now = r.before ++ Freed 0 index ∷ []

  -- the words of the set after the step
  abbrev words_then : List ℕ
  words_then = words_after s.set ask

  -- the span of the call is open before the step, with what it has written
  pub was_open : span_of 0 s.events ≡ Open (starts.Loan r.start) wrote_now
  was_open = grind (arith, wrote_for)

  -- what this step of the release does to the set of indices
  step : ReleaseStep slots index below s.set s.claims stage
  step = steps_set scene index r below holds stage here gives

  -- the release goes on or ends as `SetSteps` says
  pub leads : ReleaseLeads slots stage words_then s.claims (back_takes slots stage (old_of s.set ask))
  leads = rw (← claims_for index s.claims stage heavy) step.leads

  -- no send waits at the read position
  calm_now : hung s.submission.read (sends_at latest) ≡ None
  calm_now = ap (hung s.submission.read) here ∙ r.so.calm s.submission.read stage

  -- the step of the release, with which the words of the indices change
  abbrev set_step : rests.SetStep T
  set_step = rests.set_step scene holds straight was_open ask words_then

  -- ---- the call goes on

  module _ (stage' : ReleaseStage) (good : indices.Good slots words_then s.claims 1)
      (heavy' : release_counts stage' ≡ 1) (more : release_number stage 0 + 1 ≤ release_number stage' 0) where
    -- the channel after a step with which the release goes on
    abbrev s_on : Channel T
    s_on = record s { set = words_then; claims = s.claims; book = s.book; events = s.events ++ [] }

    -- a later step of the release that goes on keeps the invariant, and writes nothing
    pub goes_steps : Steps scene 0 s_on (Open (starts.Loan r.start) wrote_now) r.start ask false (GoOn (r.at stage')) []
    goes_steps =
        let at_then : At slots queue s_on 0 wrote_now r.start (r.at stage') =
        rw (← wrote_for scene index r below holds stage' heavy') (r.so.stands s_on stage' (gives_for scene index r below holds s_on stage' heavy'))
        in
        rests.goes_on set_step (r.at stage') (record {
          words = whole_words scene index r below holds stage here gives;
          good = subst (λ n. indices.Good slots words_then s.claims n) (sym heavy' ∙ sym (r.so.counted stage')) good;
          unlocked = step.unlocked;
          calm = calm_now;
        })
        (r.so.calm s.submission.read stage') (rw (r.so.number wrote_now stage' (x.backs + 0)) (let one = one_step slots index stage in omega arith))
        at_then (r.so.knows s_on (since + change_of (words_in s) ask) (changes + change_of (words_in s) ask) (x.backs + 0) stage' (omega arith))

  -- ---- the call ends

  module _ (good : indices.Good slots words_then s.claims 0) (more : release_number stage 0 + 1 ≤ 5) where
    -- the channel after the end of the release
    abbrev s_end : Channel T
    s_end = record s { set = words_then; claims = s.claims; book = s.book; events = s.events ++ Finished 0 (starts.Loan r.start) r.answer ∷ [] }

    -- the last step of the release ends the call with its answer, and keeps the invariant
    pub ends_steps : Steps scene 0 s_end
        (Open (starts.Loan r.start) wrote_now) r.start ask false (Done r.answer) (Finished 0 (starts.Loan r.start) r.answer ∷ [])
    ends_steps =
        let most = r.so.most (x.backs + 0) in
        let one = one_step slots index stage in
        rests.ends set_step r.answer (record {
          words = whole_words scene index r below holds stage here gives;
          good = good;
          unlocked = step.unlocked;
          calm = calm_now;
        })
        (record { moves = r.so.still; receiver = r.so.receiver; dead = λ q b. refl })
        (r.so.reclaims (reclaims_in (Open (starts.Loan r.start) wrote_now)) ∙ r.so.other wrote_now) (r.so.told s.events) r.so.freed
        r.so.done (omega arith)
