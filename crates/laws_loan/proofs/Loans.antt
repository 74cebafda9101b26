-- The steps of a loan, in which the sender acquires an index of the set. Each keeps the invariant: it has
-- the fields of `Steps` (Sender).
use Rattle.laws_loan.proofs.Names.{◌≡◌, ◌≢◌, ℕ, ◌+◌, ◌<◌, ◌≤◌, false, Option, Some, None, List, [], ◌∷◌, ◌++◌, set}
use Rattle.laws_loan.proofs.Names.{refl, sym, ap, subst, ◌∙◌, append_assoc, Ask, GoOn, AcquireStage, acquire_asks}
use Rattle.laws_loan.proofs.Names.{Answer, Event, Claimed, Finished, Book, LoanFlight, Party, ask_of, Spot}
use Rattle.laws_loan.proofs.Names.{Free, Passing, With, spot_of, book_after, Open, Ended, span_of, words_after}
use Rattle.laws_loan.proofs.Names.{step_count, holder, acquire_counts, acquire_number, append-nil}
use Rattle.std.proofs.Common.{get_or-set_same, arith}
use Rattle.steps.specs.declared.ask.After.TheVariants.{Done}
use Rattle.steps.specs.declared.indices.enums.UniqueIndexSetAcquireFailure.TheVariants as failures
use Rattle.steps.specs.declared.loan.places.Place.TheVariants as places
use Rattle.model.specs.declared.event.Answer.TheVariants as answers
use Rattle.model.specs.declared.event.Start.TheVariants as starts
use Rattle.model.specs.declared.families.Flight.TheVariants as flights
use Rattle.model.specs.declared.families.loan.LoanStart.TheVariants as calls
use Rattle.model.specs.declared.families.loan.calls.LoanFlight.TheVariants.{Loan}
use Rattle.laws_indices.proofs.Core as indices
use Rattle.laws_loan.proofs.Channel.{Channel, words_in}
use Rattle.laws_loan.proofs.Invariant.{sends_at, hung, reclaims_in}
use Rattle.laws_loan.proofs.OneMove.{OneMove, carried, passes_on, same_receiver, span_after}
use Rattle.laws_loan.proofs.Parts.{set_words}
use Rattle.laws_loan.proofs.Placed.{claim_of, Placed}
use Rattle.laws_loan.proofs.Rests as rests
use Rattle.laws_loan.proofs.Scene.{Scene, HoldsIn}
use Rattle.laws_loan.proofs.Sender.{party_then, Steps}
use Rattle.laws_loan.proofs.SetSteps.{TakesAt, AcquireStep, acquire_step}
use Rattle.laws_loan.proofs.Spots.{free_passes, with_passes, spot_moved}
use Rattle.laws_loan.proofs.Table.{claims_it, loan_ends}
use Rattle.laws_loan.proofs.SenderInterference.{others_beside}
use Rattle.laws_loan.proofs.QueueEvents.{items, is_reclaiming}
use Rattle.laws_loan.proofs.Turns.{Shows, sends_now}

-- a loan at a stage of its acquire
abbrev pub loan_at : ℕ → AcquireStage → LoanFlight
loan_at slots stage = Loan (record { call = record { capacity = slots; stage = stage }; given = tt; room = tt })

-- an index that nobody has claimed is free
none_free : (spot : Spot) → claim_of spot ≡ None → spot ≡ Free
none_free = grind arith

-- each stage takes one operation
one_step : (slots : ℕ) (stage : AcquireStage) → step_count (ask_of (acquire_asks slots stage)) ≡ 1
one_step = grind arith

-- the sender's loan stands at this stage
pub record Loans {T : Type 0} (scene : Scene T) (stage : AcquireStage) : Type 0 where
  -- the invariant before the step
  pub holds : HoldsIn scene
  -- the sender's call is this loan, it knows what its stage says, and has written nothing
  pub here : sends_at scene.latest ≡ Some (flights.Loan (loan_at scene.slots stage))
  pub takes : TakesAt scene.slots scene.state.set stage
  pub from : span_of 0 scene.state.events ≡ Open (starts.Loan calls.Loan) []
  -- its steps so far, and that it has not turned back
  pub few : scene.caller.steps ≤ acquire_number scene.slots stage 0
  pub straight : scene.caller.backs ≡ 0

module _ {T : Type 0} (scene : Scene T) (stage : AcquireStage) (l : Loans scene stage) where
  open scene use {slots, queue, state as s, latest, turns}
  open l use {holds as holds_before, here, takes, from, straight}

  -- the operation of the loan's step
  abbrev ask : Option Ask
  ask = ask_of (acquire_asks slots stage)

  -- the words of the set after the step
  abbrev words_then : List ℕ
  words_then = words_after s.set ask

  -- the words of the indices are right, with the loan counted as its stage says
  good_now : indices.Good slots s.set s.claims (acquire_counts stage)
  good_now = grind arith

  -- the step does to the words of the indices what `SetSteps` says of it
  pub step : AcquireStep slots s.set s.claims holds_before.parts.unlocked stage
  step = acquire_step slots s.set s.claims holds_before.parts.unlocked stage takes good_now

  -- the step changes of the whole only the words of the indices
  whole_words : words_after (words_in s) ask ≡ words_in (record s { set = words_then })
  whole_words = set_words holds_before.parts (acquire_asks slots stage) step.on

  -- no send waits at the read position
  calm_before : hung s.submission.read (sends_at latest) ≡ None
  calm_before = ap (hung s.submission.read) here

  -- no reclaim is under way
  quiet : is_reclaiming s.events ≡ false
  quiet = holds_before.reclaiming ∙ ap reclaims_in from

  -- the step of the acquire, with which the words of the indices change
  abbrev set_step : rests.SetStep T
  set_step = rests.set_step scene holds_before straight from ask words_then

  -- ---- the loan goes on

  module _ (stage' : AcquireStage) (good : indices.Good slots words_then s.claims (acquire_counts stage'))
      (takes' : TakesAt slots words_then stage')
      (more : acquire_number slots stage 0 + 1 ≤ acquire_number slots stage' 0) where
    -- the channel after a step with which the loan goes on
    abbrev s_on : Channel T
    s_on = record s { set = words_then; claims = s.claims; book = s.book; events = s.events ++ [] }

    -- a step after which the acquire goes on keeps the invariant, and writes nothing
    pub goes_steps : Steps scene 0 s_on (Open (starts.Loan calls.Loan) [])
        calls.Loan ask false (GoOn (loan_at slots stage')) []
    goes_steps =
        let one = one_step slots stage in
        rests.goes_on set_step (loan_at slots stage') (record { words = whole_words; good = good; unlocked = step.unlocked; calm = calm_before })
        refl (omega arith) (refl, refl, refl, takes') (omega arith)

  -- ---- each index is claimed, and the loan fails

  module _ (good : indices.Good slots words_then s.claims 0) (all : (i : ℕ) → i < slots → holder s.claims i ≢ None)
      (low : acquire_number slots stage 0 + 1 ≤ 4 + slots) where
    abbrev none_left : Answer T
    none_left = answers.NoIndex failures.OutOfIndices

    -- the channel after a loan that found no index
    abbrev s_fails : Channel T
    s_fails = record s { set = words_then; claims = s.claims; book = s.book; events = s.events ++ Finished 0 (starts.Loan calls.Loan) none_left ∷ [] }

    -- a step that finds each index claimed ends the loan, with the answer that none is left
    pub fails_steps : Steps scene 0 s_fails
        (Open (starts.Loan calls.Loan) []) calls.Loan ask false (Done none_left) (Finished 0 (starts.Loan calls.Loan) none_left ∷ [])
    fails_steps =
        let one = one_step slots stage in
        rests.ends set_step none_left
        (record { words = whole_words; good = good; unlocked = step.unlocked; calm = calm_before })
        (record { moves = refl; receiver = λ r. refl; dead = λ q b. refl }) refl
        (λ i below free. all i below (holds_before.parts.placed.claimed i below ∙ ap claim_of free)) (λ i carried. carried)
        (grind arith)
        (omega arith)

  -- ---- the loan claims the index `i`

  -- nobody has claimed the index `i`, and the words of the indices are right once the sender has claimed it
  module _ (i : ℕ) (below : i < slots) (good : indices.Good slots words_then (set s.claims i (Some 0)) 0)
      (none : holder s.claims i ≡ None) (low : acquire_number slots stage 0 + 1 ≤ 4 + slots) where
    -- the event that the sender claims the index
    abbrev claims_i : Event T
    claims_i = Claimed 0 i

    abbrev got : Answer T
    got = answers.Index i

    abbrev ends : Event T
    ends = Finished 0 (starts.Loan calls.Loan) got

    -- the book after the claim
    abbrev book_claimed : Book
    book_claimed = book_after {T = T} s.book (Claimed 0 i)

    -- the book once the sender has the index
    abbrev book_got : Book
    book_got = record book_claimed { holders = set s.book.holders i (Some 0) }

    -- the sender after the loan
    abbrev y_got : Party T
    y_got = party_then scene calls.Loan ask false (Done got)

    -- the events of the last step: the claim, and the end of the loan
    abbrev told : List (Event T)
    told = claims_i ∷ ends ∷ []

    -- the channel after a loan that got an index
    abbrev s_got : Channel T
    s_got = record s { set = words_then; claims = set s.claims i (Some 0); book = book_got; events = s.events ++ told }

    -- the events one after the other are all that the step writes
    whole : (s.events ++ claims_i ∷ []) ++ ends ∷ [] ≡ s.events ++ told
    whole = append_assoc s.events (claims_i ∷ []) (ends ∷ [])

    -- the claimed index was free
    free_before : spot_of i s.events ≡ Free
    free_before = none_free (spot_of i s.events) (sym (holds_before.parts.placed.claimed i below) ∙ none)

    -- the claimed index is in passing in the sender's call
    now_passing : spot_of i (s.events ++ claims_i ∷ []) ≡ Passing 0
    now_passing = spot_moved s.events claims_i (record { index = i; from = Free; to = Passing 0 }) refl

    -- where each index is agrees with the claims, the queues and the book, once the sender has claimed this
    -- index and the loan has ended
    placed_got : Placed slots (set s.claims i (Some 0)) s.submission.waiting s.completion.waiting book_got (s.events ++ told)
    placed_got =
        let first = claims_it holds_before.parts.placed i below free_before in
        let long = holds_before.parts.placed.places_long in
        subst (Placed slots (set s.claims i (Some 0)) s.submission.waiting s.completion.waiting book_got) whole
        (loan_ends first i below now_passing
        (get_or-set_same s.book.places i places.Loaned places.Free (omega arith)))

    -- the events move the index `i` alone, from free to the sender
    one_move : OneMove 0 i s.events told Free (With 0)
    one_move = grind (arith, free_before)

    -- the span of the loan ends with the claim written and its answer
    ended_got : span_of 0 (s.events ++ told) ≡ Ended (starts.Loan calls.Loan) got (claims_i ∷ [])
    ended_got = span_after one_move from

    -- the step that claims an index keeps what holds between two turns
    shows_got : Shows slots queue s s_got 0 y_got latest turns told
    shows_got =
        let passing =
        carried one_move from holds_before.passing
        (λ j ne held. absurd held) (λ q e. absurd (with_passes 0 q e)) in
        let unlocked = step.unlocked in
        grind (arith, ended_got, sends_now, append-nil, items, same_receiver, one_move, placed_got, now_passing, free_before, calm_before, quiet)

    -- the step that claims an index ends the loan with this index, and keeps the invariant
    pub claims_steps : Steps scene 0 s_got (Open (starts.Loan calls.Loan) []) calls.Loan ask false (Done got) told
    claims_steps =
        let one = one_step slots stage in
        let words = whole_words in
        let others =
        others_beside slots queue s s_got refl refl (λ room stage known. known) (λ i stage known. known)
        (λ q ne. passes_on one_move q (free_passes q)) in
        grind (arith, shows_got)
