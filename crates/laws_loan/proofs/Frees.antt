-- The steps of a reclaim that releases an index that was sent, while the receiver is dead and nothing waits in either queue.
use Rattle.laws_loan.proofs.Names.{◌≡◌, ◌≢◌, ℕ, ◌+◌, ◌*◌, ◌-◌, ◌^◌, ◌<◌, ◌≤◌, ⊎_elim, false, Option, None, List}
use Rattle.laws_loan.proofs.Names.{[], ◌∷◌, ◌++◌, length, set, refl, sym, ap, subst, ◌∙◌, length-append}
use Rattle.laws_loan.proofs.Names.{AllByRecursion, cases_eq, flat_map-append, Ask, GoOn, ReleaseStage, Place}
use Rattle.laws_loan.proofs.Names.{Releases, back_asks, back_takes, place_at, Number, Event, Freed, Book, LoanFlight}
use Rattle.laws_loan.proofs.Names.{Party, ask_of, IsReclaiming, Free, Passing, spot_of, freed, gives_back}
use Rattle.laws_loan.proofs.Names.{book_after, Open, span_of, old_of, words_after, step_count, release_counts}
use Rattle.laws_loan.proofs.Names.{release_number, ReleaseAt, append-nil}
use Rattle.std.proofs.Common.{arith, get_or-set_same, get_or-set_other}
use Rattle.steps.specs.declared.ask.After.TheVariants.{Done}
use Rattle.steps.specs.declared.indices.unique.ReleaseStage.TheVariants as releases
use Rattle.steps.specs.declared.loan.places.Place.TheVariants as places
use Rattle.model.specs.declared.event.Start.TheVariants as starts
use Rattle.model.specs.declared.families.loan.LoanStart.TheVariants as calls
use Rattle.model.specs.Families.Loan.Reading.{frees, claims}
use Rattle.model.specs.Families.Queues.Reading.{publishes}
use Rattle.model.specs.Reading.{acts}
use Rattle.laws_indices.proofs.Core as indices
use Rattle.laws_loan.proofs.Channel.{Channel, words_in}
use Rattle.laws_loan.proofs.Cuts.{IsOn}
use Rattle.laws_loan.proofs.Invariant.{counted_for, hung}
use Rattle.laws_loan.proofs.Knows.{wrote_in, FreesAt, StageAt, ReclaimAt}
use Rattle.laws_loan.proofs.OneMove.{OneMove, carried, passed_before, same_receiver, span_after}
use Rattle.laws_loan.proofs.Parts.{set_words}
use Rattle.laws_loan.proofs.ReclaimEnds.{s_end, reclaim_ends}
use Rattle.laws_loan.proofs.Reclaiming.{reclaim_at, end_of, goes_known, none_more, Reclaims}
use Rattle.laws_loan.proofs.Rests as rests
use Rattle.laws_loan.proofs.Scene.{Scene}
use Rattle.laws_loan.proofs.Sender.{party_then, Steps}
use Rattle.laws_loan.proofs.SentIndices.{none_there, may_free}
use Rattle.laws_loan.proofs.SetSteps.{ReleaseLeads, ReleaseStep, claims_for, release_step}
use Rattle.laws_loan.proofs.Spots.{is_waiting, is_returning, free_passes}
use Rattle.laws_loan.proofs.Table.{frees_it}
use Rattle.laws_loan.proofs.SenderInterference.{others_dead}
use Rattle.laws_loan.proofs.QueueEvents.{items}
use Rattle.laws_loan.proofs.Turns.{Shows, sends_now}

-- a reclaim at a stage of the release of an index
abbrev pub frees_at : ℕ → ℕ → ℕ → ℕ → ReleaseStage → LoanFlight
frees_at slots queue number index stage = reclaim_at slots queue (Releases number index stage)

-- each stage takes one operation
one_step : (slots index : ℕ) (stage : ReleaseStage) → step_count (ask_of (back_asks slots index stage)) ≡ 1
one_step = grind arith

-- after the first stage of a release, nothing more is asked of the index
pub frees_for : (stage : ReleaseStage) → release_counts stage ≡ 1 → (table : List Place) (index : ℕ) → FreesAt table index stage
frees_for = grind arith

-- numbers below a bound are below a greater one
pub all_less : (xs : List ℕ) (m n : ℕ) → m ≤ n → AllByRecursion (λ i. i < m) xs → AllByRecursion (λ i. i < n) xs
all_less [] m n more all_below = tt
all_less (x ∷ xs) m n more all_below = let here = all_below.0 in (omega arith, all_less xs m n more all_below.1)

-- numbers below a bound, with one more number below it
all_push : (xs : List ℕ) (x n : ℕ) → x < n → AllByRecursion (λ i. i < n) xs → AllByRecursion (λ i. i < n) (xs ++ x ∷ [])
all_push [] x n less all_below = (less, tt)
all_push (y ∷ ys) x n less all_below = (all_below.0, all_push ys x n less all_below.1)

-- the release of a reclaim stands at its stage by the claims: before it clears the flag the sender holds the index
release_for : {T : Type 0} {scene : Scene T} {number index : ℕ} {wrote : List (Event T)} {stage : ReleaseStage}
    → Reclaims scene wrote (Releases number index stage) → index < scene.slots → FreesAt scene.state.book.places index stage
    → ReleaseAt scene.state.claims 0 index stage
release_for = grind arith

-- the sender has a reclaim under way, which has written `wrote` and released `number` indices, and is at the stage `stage` of the release of
-- the index `index`
module _ {T : Type 0} {scene : Scene T} {number index : ℕ} {wrote : List (Event T)} {stage : ReleaseStage}
    (r : Reclaims scene wrote (Releases number index stage)) where
  open scene use {slots, queue, state as s, latest, turns, caller as x}

  -- while its release stands at a stage, the sender's span is that of a reclaim
  reclaims_now : IsReclaiming (span_of 0 s.events)
  reclaims_now = subst IsReclaiming (sym r.from) (refl, tt)

  -- what a step of the release does to the set of indices
  steps_set : ReleaseStep slots index r.known.stage_at.1 s.set s.claims stage
  steps_set =
      release_step slots index r.known.stage_at.1 s.set s.claims stage (release_for r r.known.stage_at.1 r.known.stage_at.0)
      (subst (λ n. indices.Good slots s.set s.claims n) (ap counted_for r.here) r.holds.parts.set)

  -- the word of the release's step is one of the set's
  pub on_words : IsOn s.set (back_asks slots index stage)
  on_words = steps_set.on

  -- the step changes of the whole only the words of the indices
  whole_words : words_after (words_in s) (ask_of (back_asks slots index stage))
      ≡ words_in (record s { set = words_after s.set (ask_of (back_asks slots index stage)) })
  whole_words = set_words r.holds.parts (back_asks slots index stage) steps_set.on

-- ---- the clear of the flag

-- the reclaim is at the clear of the flag of the index
module _ {T : Type 0} {scene : Scene T} {number index : ℕ} {wrote : List (Event T)} (r : Reclaims scene wrote (Releases number index releases.ClearsFlag))
    (few : scene.caller.steps ≤ 8 * (scene.slots + 1) + 5 * number) where
  open scene use {slots, queue, state as s, latest, turns, caller as x}
  open r use {holds, from, known as at}

  -- the event of the free
  abbrev freed_es : List (Event T)
  freed_es = Freed 0 index ∷ []

  -- what the reclaim has written after the free
  abbrev wrote_then : List (Event T)
  wrote_then = wrote ++ freed_es

  abbrev clears_ask : Option Ask
  clears_ask = ask_of (back_asks slots index releases.ClearsFlag)

  -- the sender after the clear of the flag
  abbrev y_freed : Party T
  y_freed = party_then scene calls.Reclaim clears_ask false (GoOn (frees_at slots queue number index releases.LoadsHead))

  -- the book after the free
  abbrev book_freed : Book
  book_freed = book_after {T = T} s.book (Freed 0 index)

  -- the channel after the flag of the index is cleared
  abbrev s_freed : Channel T
  s_freed =
      record s { set = words_after s.set clears_ask; claims = set s.claims index None; book = book_freed; events = s.events ++ Freed 0 index ∷ [] }

  -- the event moves the index alone, which is free afterwards
  one_move : OneMove 0 index s.events freed_es (spot_of index s.events) Free
  one_move = grind arith

  -- after the free the span is open with it written
  open_then : span_of 0 (s.events ++ freed_es) ≡ Open (starts.Loan calls.Reclaim) wrote_then
  open_then = span_after one_move from

  -- the sender's table, once the index is freed
  long : index < length s.book.places
  long = grind arith

  -- the other places of the table are as they were
  place_other : (j : ℕ) → index ≢ j → place_at book_freed.places j ≡ place_at s.book.places j
  place_other j ne = get_or-set_other s.book.places index j places.Free places.Free (λ e. ne (sym e))

  -- no index up to this one is sent by the table, now that this one is free
  none_sent : (j : ℕ) → j < index + 1 → place_at book_freed.places j ≢ places.Sent
  none_sent j low sent = ⊎_elim mine others (cases_eq index j)
    where
      -- the index itself is free now, so the table does not have it as sent
      mine : index ≡ j → ⊥
      mine same =
          let free : place_at book_freed.places index ≡ places.Free = get_or-set_same s.book.places index places.Free places.Free long in
          let clash : places.Free ≡ places.Sent = sym free ∙ (ap (place_at book_freed.places) same ∙ sent) in
          absurd (cc)

      -- any other index up to this one was not sent before either
      others : index ≢ j → ⊥
      others ne = at.stage_at.5 j (omega arith) (sym (place_other j ne) ∙ sent)

  -- the clear of the flag keeps what holds between two turns, with the event that the index is freed
  shows_freed : Shows slots queue s s_freed 0 y_freed latest turns freed_es
  shows_freed =
      let step = steps_set r in
      let placed = holds.parts.placed in
      let placed_then =
      frees_it placed index at.stage_at.1 (spot_of index s.events) refl
      (none_there is_waiting s.submission.waiting s.events at.stage_at.6 placed.waits index)
      (none_there is_returning s.completion.waiting s.events at.stage_at.7 placed.returns index) in
      let may =
      may_free placed at.stage_at.6
      at.stage_at.7 index at.stage_at.0 at.dead (reclaims_now r) in
      let passing =
      carried one_move from
      holds.passing (λ i ne carried. tt) (λ q e. absurd (free_passes q e)) in
      grind (arith, open_then, sends_now, append-nil, items, same_receiver, one_move)

  -- the reclaim is then at the load of the head, in the release of this index
  known_then : ReclaimAt slots queue s_freed wrote_then (Releases number index releases.LoadsHead)
  known_then =
      let more : freed wrote_then ≡ freed wrote ++ index ∷ [] = flat_map-append frees wrote freed_es in
      let longer = length-append (freed wrote) (index ∷ []) in
      let before = at.stage_at.3 in
      let counted : length (freed wrote ++ index ∷ []) ≡ number + 1 = omega arith in
      let sent : (i : ℕ) → spot_of i (s.events ++ freed_es) ≡ Passing 0 → place_at book_freed.places i ≡ places.Sent =
      λ i e. let was = passed_before one_move i 0 e (free_passes 0) in
      place_other i was.0 ∙ at.sent i was.1 in
      let claims_none = none_more claims wrote freed_es at.claims refl in
      let publishes_none = none_more publishes wrote freed_es at.publishes refl in
      let gives_none = none_more gives_back wrote freed_es at.gives refl in
      let acts_none = none_more acts wrote freed_es at.acts refl in
      let all : AllByRecursion (λ i. i < index + 1) (freed wrote_then) =
      subst (AllByRecursion (λ i. i < index + 1)) (sym more)
      (all_push (freed wrote) index (index + 1) (omega arith)
      (all_less (freed wrote) (index + 0) (index + 1) (omega arith) at.stage_at.4)) in
      grind (arith, none_sent)

  -- the clear of the flag keeps the invariant, and leads the reclaim on to the load of the head
  pub clears_steps : Steps scene 0 s_freed (Open (starts.Loan calls.Reclaim) wrote) calls.Reclaim clears_ask false
      (GoOn (frees_at slots queue number index releases.LoadsHead)) freed_es
  clears_steps =
      let wrote_is : wrote_then ≡ wrote_in (span_of 0 (s.events ++ freed_es)) = sym (ap wrote_in open_then) in
      let words = whole_words r in
      let stands = all_less (freed wrote) (index + 0) index (omega arith) at.stage_at.4 in
      let others = others_dead slots queue s s_freed at.dead refl (λ i stage known. known) in
      grind (arith, shows_freed, known_then)

-- ---- every later step

-- the reclaim is at a later stage of the release
module _ {T : Type 0} {scene : Scene T} {number index : ℕ} {wrote : List (Event T)} {stage : ReleaseStage}
    (r : Reclaims scene wrote (Releases number index stage)) (heavy : release_counts stage ≡ 1)
    (few : scene.caller.steps ≤ 8 * (scene.slots + 1) + 5 * number + release_number stage 0) where
  open scene use {slots, queue, state as s, latest, turns, caller as x}
  open r use {holds, here, from, known as at, straight}

  -- the operation of the release's step
  abbrev ask : Option Ask
  ask = ask_of (back_asks slots index stage)

  -- the words of the set after the step
  abbrev words_then : List ℕ
  words_then = words_after s.set ask

  -- what this step of the release does to the set of indices
  step : ReleaseStep slots index at.stage_at.1 s.set s.claims stage
  step = steps_set r

  -- the release goes on or ends as `SetSteps` says
  pub leads : ReleaseLeads slots stage words_then s.claims (back_takes slots stage (old_of s.set ask))
  leads = rw (← claims_for index s.claims stage heavy) step.leads

  -- ---- the reclaim goes on, with this index or with the next one

  module _ (number' index' : ℕ) (stage' : ReleaseStage)
      (good : indices.Good slots words_then s.claims (release_counts stage'))
      (known : StageAt slots s.submission s.completion s.book.places wrote (Releases number' index' stage'))
      (more : x.steps + 1 ≤ 8 * (slots + 1) + 5 * number' + release_number stage' 0) where
    -- the reclaim at the stage to which it goes on
    abbrev flight_on : LoanFlight
    flight_on = frees_at slots queue number' index' stage'

    -- the channel after a step with which the reclaim goes on
    abbrev s_on : Channel T
    s_on = record s { set = words_then; claims = s.claims; book = s.book; events = s.events ++ [] }

    -- a later step of the release that leads the reclaim on, with this index or with the next
    -- one, keeps the invariant
    pub goes_steps : Steps scene 0 s_on (Open (starts.Loan calls.Reclaim) wrote) calls.Reclaim ask false (GoOn flight_on) []
    goes_steps =
        let one = one_step slots index stage in
        let set_step : rests.SetStep T = rests.set_step scene holds straight from ask words_then in
        rests.goes_on set_step flight_on (record { words = whole_words r; good = good; unlocked = step.unlocked; calm = ap (hung s.submission.read) here })
        refl (omega arith)
        (refl, refl, refl, goes_known slots queue s words_then wrote (Releases number index stage) (Releases number' index' stage') at known)
        (omega arith)

  -- ---- the reclaim ends, as no index is sent any more

  module _ (good : indices.Good slots words_then s.claims 0)
      (none : (j : ℕ) → j < slots → place_at s.book.places j ≢ places.Sent)
      (more : x.steps + 1 ≤ 8 * (slots + 1) + 5 * (number + 1)) (small : turns < 2 ^ 64 - 2) where
    -- the last step of the last release ends the reclaim, with the number of indices that it has released
    -- as its answer
    pub ends_steps : Steps scene 0 (s_end s words_then (number + 1))
        (Open (starts.Loan calls.Reclaim) wrote) calls.Reclaim ask false (Done (Number (number + 1))) (end_of (Number (number + 1)) ∷ [])
    ends_steps =
        let one = one_step slots index stage in
        let below = at.stage_at.1 in
        let less = at.stage_at.2 in
        reclaim_ends r
        (record { words = whole_words r; good = good; unlocked = step.unlocked; calm = ap (hung s.submission.read) here })
        at.stage_at.6 at.stage_at.7 none (at.stage_at.3 ∙ ap (λ n. number + n) heavy) (omega arith) small
