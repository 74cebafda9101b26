-- The step of a receive that takes an index out: what it shows of the channel, and what it owes to the
-- sender, whose send may have waited for it.
use Rattle.laws_loan.proofs.Names.{◌≡◌, ◌≢◌, ℕ, suc, ◌+◌, ◌-◌, ◌*◌, ◌^◌, ◌<◌, ◌≤◌, ⊎_elim, inr, false, Option, Some}
use Rattle.laws_loan.proofs.Names.{List, [], ◌∷◌, ◌++◌, length, set, refl, sym, ap, subst, ◌∙◌, cases_eq, Ask}
use Rattle.laws_loan.proofs.Names.{submission_word, shifted, Event, Start, Flight, Book, Party, ask_of}
use Rattle.laws_loan.proofs.Names.{Passing, Waiting, spot_of, put, doing_of, flight_of, span_of}
use Rattle.laws_loan.proofs.Names.{words_after, change_of, party_put_other, Core, GoesUp, layout}
use Rattle.std.proofs.Common.{arith}
use Rattle.steps.specs.declared.ask.After.TheVariants.{Done}
use Rattle.steps.specs.declared.queues.overflow.PopStage.TheVariants as pops
use Rattle.steps.specs.Queues.Overflow.{pop_asks}
use Rattle.model.specs.declared.families.loan.LoanStart.TheVariants as calls
use Rattle.model.specs.Parties.{party_of}
use Rattle.model.proofs.Frame as frame
use Rattle.laws_loan.proofs.Channel.{Channel, Holds, no_roles, words_in}
use Rattle.laws_loan.proofs.Scene.{Scene, ReceiverCalls}
use Rattle.laws_loan.proofs.WaitingSends.{made, reclaims_made, carries_made, past_none, hung_span}
use Rattle.laws_loan.proofs.HelpedSends.{Takes, taken_out, taken_then, sender_fits, none_reclaims}
use Rattle.laws_loan.proofs.Invariant.{Hangs, sends_at, counted_for, hung, Carries, family}
use Rattle.laws_loan.proofs.Lists.{first_there}
use Rattle.laws_loan.proofs.Parts.{submission_long, submission_words, submission_change}
use Rattle.laws_loan.proofs.Placed.{Placed}
use Rattle.laws_loan.proofs.Received.{answer, hands, acts, told, run, whole, still, reclaims_told, receiver_told}
use Rattle.laws_loan.proofs.Received.{passing_run, has_it, elsewhere, moves_told, begins_told, answers_told, mine_then}
use Rattle.laws_loan.proofs.Received.{senders_then, others_then, stands_told, tells_told}
use Rattle.laws_loan.proofs.Rooms.{sent_below}
use Rattle.laws_loan.proofs.Sender.{party_then}
use Rattle.laws_loan.proofs.Spots.{waits_there, with_passes, waiting_passes, passing_on}
use Rattle.laws_loan.proofs.Still.{placed_still}
use Rattle.laws_loan.proofs.Submission as submission
use Rattle.laws_loan.proofs.Table.{hands_it_out, receive_ends}
use Rattle.laws_loan.proofs.SenderInterference.{Stays, theirs_stay, knows_keeps}
use Rattle.laws_loan.proofs.QueueEvents.{is_reclaiming, Tells}
use Rattle.laws_loan.proofs.Turns.{Shows}

-- the receiver `p` takes the index `value` out of the submission queue, behind which `rest` waits
module _ {T : Type 0} (scene : Scene T) (p value : ℕ) (rest : List ℕ) where
  open scene use {coding as code, slots, queue, state as s, latest, turns, changes, since, caller as x}

  abbrev channel : frame.Family T
  channel = family code slots queue

  abbrev pub asks : Option Ask
  asks = ask_of (shifted (submission_word slots) (pop_asks queue (pops.MovesRead s.submission.read)))

  -- the index whose send waits for this move
  abbrev pub waits : Option ℕ
  waits = hung s.submission.read (sends_at latest)

  -- the events of the step
  abbrev pub es : List (Event T)
  es = told p value waits

  -- the book after the step, in which the receiver has the index
  abbrev pub book_then : Book
  book_then = record s.book { holders = set s.book.holders value (Some p) }

  -- the channel after the step
  abbrev pub s_then : Channel T
  s_then = taken_then slots queue s rest book_then (s.events ++ es) p

  -- the channel after the step
  abbrev k : Core ℕ
  k = taken_out slots queue s rest book_then (s.events ++ es) p

  -- the receiver after the step
  abbrev pub y_then : Party T
  y_then = party_then scene calls.Receive asks false (Done (answer p value))

  -- the receive is at its move of the read position, and `value` is the oldest index that waits
  module _ (r : ReceiverCalls scene p calls.Receive) (inv : frame.Inv channel s latest s.events changes)
      (first : s.submission.waiting ≡ value ∷ rest) (steps : x.steps ≤ 2 * x.backs + 3) (paid : x.backs + since ≤ changes) where
    open r use {holds, other, receives, from}

    -- ---- the words

    -- the write position is below its last value
    low_write : s.submission.write < 2 ^ 64 - 2
    low_write = let sent = holds.sent in omega arith

    -- the word of the read position is one of the queue's
    on : 1 < length (layout no_roles s.submission)
    on = let wide = submission_long holds.parts in omega arith

    -- the words after the exchange are those of the channel whose front is taken
    pub take_words : words_after (words_in s) asks ≡ words_in s_then
    take_words =
        submission_words holds.parts (pop_asks queue (pops.MovesRead s.submission.read)) on (submission.take_words holds.parts low_write value rest first)

    -- the exchange changes one word
    one : change_of (words_in s) asks ≡ 1
    one =
        submission_change holds.parts (pop_asks queue (pops.MovesRead s.submission.read)) on
        ∙ submission.take_changes holds.parts low_write value rest first

    -- ---- where each index is

    -- the index is one of the channel
    below : value < slots
    below = sent_below holds.parts.placed value rest first

    -- the index that is taken waited
    was_waiting : spot_of value s.events ≡ Waiting
    was_waiting = grind (arith, waits_there, first_there)

    -- each index is where the book and the events say, before the receive ends
    placed_run : Placed slots s.claims rest s.completion.waiting s.book (run p value s.events waits)
    placed_run =
        placed_still (acts p value ∷ made waits) (still p value s.events waits)
        (hands_it_out holds.parts.placed value
        below p rest first (inr (receives ∙ holds.parts.placed.keeps.receiver)))

    -- each index is where the book and the events say, once the receive has ended
    placed_then : Placed slots s.claims rest s.completion.waiting book_then (s.events ++ es)
    placed_then =
        subst (Placed slots s.claims rest s.completion.waiting book_then) (whole p value s.events waits)
        (receive_ends placed_run value
        below p other (receives ∙ placed_run.keeps.receiver) (passing_run p value s.events waits))

    -- the index passes from the submission queue to the receiver's call
    takes : Takes slots queue s rest book_then (s.events ++ es) p
    takes = grind (arith, passing_on, elsewhere, was_waiting, waiting_passes)

    -- an index in passing afterwards is carried by the span of its party's call
    passing_then : (i q : ℕ) → spot_of i (s.events ++ es) ≡ Passing q → Carries i (span_of q (s.events ++ es))
    passing_then i q spot_is = ⊎_elim mine others (cases_eq value i)
      where
        -- the index that is taken out is not in passing
        mine : value ≡ i → Carries i (span_of q (s.events ++ es))
        mine same = absurd (with_passes p q (sym (has_it p value s.events waits) ∙ (ap (λ n. spot_of n (s.events ++ es)) same ∙ spot_is)))

        -- any other index was in passing before
        others : value ≢ i → Carries i (span_of q (s.events ++ es))
        others ne =
            let carried = holds.passing i q (sym (elsewhere p value s.events waits i ne) ∙ spot_is) in
            ⊎_elim (λ (here : q ≡ p). absurd (subst (Carries i) from (rw (← here) carried))) (λ (away : q ≢ p).
            ⊎_elim (λ (sender : q ≡ 0). rw sender (subst (Carries i) (sym (senders_then p value s.events other waits))
            (carries_made waits i (span_of 0 s.events) (rw (← sender) carried))))
            (λ (far : q ≢ 0). subst (Carries i) (sym (others_then p value s.events other waits q away far)) carried) (cases_eq q 0)) (cases_eq q p)

    -- ---- the queues

    -- one index less waits
    shorter : length s.submission.waiting ≡ suc (length rest)
    shorter = ap length first

    -- no more indices than the capacity wait once one is taken
    few_rest : length rest ≤ queue
    few_rest = let few = holds.parts.submission.few in let long = shorter in omega arith

    -- no reclaim is under way
    quiet : is_reclaiming s.events ≡ false
    quiet = grind (arith, none_reclaims, takes)

    -- the receive leaves the call of the sender
    sends_still : sends_at (put p y_then latest) ≡ sends_at latest
    sends_still = ap (λ o. flight_of (doing_of o)) (party_put_other 0 p y_then latest (λ e. other (sym e)))

    -- no send waits for the next read position, so it is enough that at most the capacity waits
    hangs_then : Hangs queue k (hung (s.submission.read + 1) (sends_at (put p y_then latest)))
    hangs_then = grind (arith, sends_at, put, sends_still, past_none, few_rest)

    -- what holds of the parts of the channel holds afterwards
    parts_then : Holds slots queue s_then (counted_for (sends_at (put p y_then latest)))
    parts_then =
        let good = submission.take_good holds.parts low_write value rest first in
        grind (arith, sends_still, placed_then)

    -- the step keeps what holds between two turns (`Shows`, Turns)
    pub take_shows : Shows slots queue s s_then p y_then latest turns es
    take_shows =
        let sent = holds.sent in
        let given = holds.given in
        let same = receiver_told p value s.events waits in
        let tells =
        subst (λ b. Tells queue b s.submission.waiting rest s.completion.waiting s.completion.waiting es) (sym quiet)
        (tells_told p value queue waits holds.parts.some first s.submission refl holds.hangs) in
        let reclaims = reclaims_told p value s.events waits (is_reclaiming s.events) in
        let made = reclaims_made waits (span_of 0 s.events) in
        let senders = senders_then p value s.events other waits in
        let moves = moves_told p value s.events slots waits below was_waiting in
        let begins = begins_told p value s.events waits in
        let answers = answers_told p value s.events slots waits in
        grind (arith, parts_then, quiet, hangs_then, passing_then)

    -- ---- what the step owes to the other parties

    -- what another party's call reads stays
    stays : (q : ℕ) → q ≢ p → Stays slots queue s s_then q
    stays = grind arith

    -- a call of a third party stands where it stood
    still_at : (q : ℕ) → q ≢ p → q ≢ 0 → (start : Start T) (flight : Flight T) → channel.At s q start flight
        → channel.At s_then q start flight × (channel.written s_then q flight ≡ channel.written s q flight)
    still_at = grind (arith, others_then, theirs_stay, stays)

    -- the calls of the other parties fit their spans, where the send that waited has acted
    others_fit : (q : ℕ) → q ≢ p → frame.Fits channel s_then q (party_of q latest) (span_of q (s.events ++ es))
    others_fit q ne =
        ⊎_elim (λ (sender : q ≡ 0). rw sender (sender_fits takes other code (party_of 0 latest)
        (inv.calls 0) (senders_then p value s.events other waits))) (λ (far : q ≢ 0).
        rw (others_then p value s.events other waits q ne far)
        (frame.still_fits channel s s_then q (still_at q ne far) (party_of q latest) (span_of q s.events) (inv.calls q))) (cases_eq q 0)

    -- the read position goes up by one, which one change pays for
    goes_up : GoesUp s.submission k changes (changes + change_of (words_in s) asks)
    goes_up = grind (arith, one)

    -- what a call knows of the counts stays known
    know_still : (q sooner backs : ℕ) (flight : Flight T) → channel.Knows s q s.events sooner changes backs flight
        → channel.Knows s_then q (s.events ++ es) sooner (changes + change_of (words_in s) asks) backs flight
    know_still = grind (arith, knows_keeps, goes_up)

    -- the step gives the frame what it asks of a turn
    pub take_owes : frame.Owes channel s_then p y_then latest s.events es (changes + change_of (words_in s) asks)
    take_owes =
        let change = one in
        record {
          stands = stands_told p value s.events other slots waits from (λ index e. hung_span code slots queue s index (party_of 0 latest) (inv.calls 0) e);
          here =
              record {
                answer = answer p value;
                wrote = hands p value ∷ acts p value ∷ [];
                span = mine_then p value s.events other waits from;
                steps = omega arith;
              };
          knows = omega arith;
          others = others_fit;
          others_know =
              λ q ne. frame.still_knows channel s s_then q s.events es changes (changes + change_of (words_in s) asks)
              (know_still q) (party_of q latest) (inv.knows q);
        }
