-- The events of a receive that takes an index out: it moves the read position, and a send that waits for
-- that acts in the same turn.
use Rattle.laws_loan.proofs.Names.{◌≡◌, ◌≢◌, ℕ, ◌<◌, ◌≤◌, Bool, false, Option, Some, None, List, [], ◌∷◌, ◌++◌}
use Rattle.laws_loan.proofs.Names.{map, take, drop, fold, refl, sym, ap, ◌∙◌, append-nil, append_assoc}
use Rattle.laws_loan.proofs.Names.{fold-append, Answer, Event, Published, HandedOut, Acted, Finished, Item, Index}
use Rattle.laws_loan.proofs.Names.{Start, Book, MovesRight, BeginsRight, AnswersRight, promise, Passing, With}
use Rattle.laws_loan.proofs.Names.{Waiting, spot_of, receiver_of, reclaims_after, book_after, answer_of_item, cut_off}
use Rattle.laws_loan.proofs.Names.{Stands, StandsRight, Open, Ended, own_after, span_of, AreRight, span_of-own}
use Rattle.laws_loan.proofs.Names.{span_of-other, pop_front, pop_room, Core}
use Rattle.std.proofs.Common.{arith}
use Rattle.model.specs.declared.event.Answer.TheVariants as answers
use Rattle.model.specs.declared.event.Start.TheVariants as starts
use Rattle.model.specs.declared.families.loan.LoanStart.TheVariants as calls
use Rattle.laws_loan.proofs.WaitingSends.{made, made_own, made_still}
use Rattle.laws_loan.proofs.Invariant.{Hangs}
use Rattle.laws_loan.proofs.Knows.{send_of}
use Rattle.laws_loan.proofs.Spots.{spot_stays, spot_other, spot_moved}
use Rattle.laws_loan.proofs.Still.{AreStill, spots_still}
use Rattle.laws_loan.proofs.QueueEvents.{items, Tells}

-- ---- the events of the receive

module _ {T : Type 0} (p value : ℕ) where
  abbrev pub call : Start T
  call = starts.Loan calls.Receive

  abbrev pub answer : Answer T
  answer = answers.PoppedIndex value

  -- the event that the index is handed to the receiver
  abbrev pub hands : Event T
  hands = HandedOut p (Index value)

  -- the act of the receive
  abbrev pub acts : Event T
  acts = Acted p call answer

  -- the end of the receive
  abbrev pub ends : Event T
  ends = Finished p call answer

  -- the events of the turn, with the act of the send that waits with this index, if one does
  abbrev pub told : Option ℕ → List (Event T)
  told waits = hands ∷ acts ∷ (made waits ++ ends ∷ [])

  module _ (events : List (Event T)) where
    -- the run before the receive ends
    abbrev pub run : Option ℕ → List (Event T)
    run waits = (events ++ hands ∷ []) ++ acts ∷ made waits

    -- the events before the end, and the end, are all that the step writes
    pub whole : (waits : Option ℕ) → run waits ++ ends ∷ [] ≡ events ++ told waits
    whole = grind (arith, append_assoc, made)

    -- the parts of the events, one after the other, are all that the step writes
    parts : (waits : Option ℕ) → ((events ++ hands ∷ acts ∷ []) ++ made waits) ++ ends ∷ [] ≡ events ++ told waits
    parts = grind (arith, append_assoc, made)

    -- the acts of the receive and of the send that waits move no index
    pub still : (waits : Option ℕ) → AreStill (acts ∷ made waits)
    still = grind (arith, made_still)

    -- the events leave whether a reclaim is under way
    pub reclaims_told : (waits : Option ℕ) (b : Bool) → fold reclaims_after b (told waits) ≡ b
    reclaims_told = grind arith

    -- the events leave the receiver
    pub receiver_told : (waits : Option ℕ) → receiver_of (events ++ told waits) ≡ receiver_of events
    receiver_told = grind (arith, fold-append)

    -- the events of a receive leave the book
    pub book_told : (waits : Option ℕ) (book : Book) → fold (book_after {T = T}) book (hands ∷ acts ∷ made waits) ≡ book
    book_told = grind arith

    -- ---- where the indices are

    -- the index is in passing in the receive, before the receive ends
    pub passing_run : (waits : Option ℕ) → spot_of value (run waits) ≡ Passing p
    passing_run waits =
        spots_still value (events ++ hands ∷ []) (acts ∷ made waits) (still waits)
        ∙ spot_moved events hands (record { index = value; from = Waiting; to = Passing p }) refl

    -- the receiver has the index once the receive has ended
    pub has_it : (waits : Option ℕ) → spot_of value (events ++ told waits) ≡ With p
    has_it waits =
        ap (spot_of value) (sym (whole waits))
        ∙ spot_moved (run waits) ends (record { index = value; from = Passing p; to = With p }) refl

    -- every other index is where it was
    pub elsewhere : (waits : Option ℕ) (i : ℕ) → value ≢ i → spot_of i (events ++ told waits) ≡ spot_of i events
    elsewhere waits i ne =
        ap (spot_of i) (sym (whole waits))
        ∙ (spot_other (run waits) ends (record { index = value; from = Passing p; to = With p }) refl i ne
        ∙ (spots_still i (events ++ hands ∷ []) (acts ∷ made waits) (still waits)
        ∙ spot_other events hands (record { index = value; from = Waiting; to = Passing p }) refl i ne))

    -- each move of an index in the events is right
    pub moves_told : (slots : ℕ) (waits : Option ℕ) → value < slots → spot_of value events ≡ Waiting → AreRight (MovesRight slots) events (told waits)
    moves_told slots None below waited =
        let passing = spot_moved events hands (record { index = value; from = Waiting; to = Passing p }) refl in
        ((below, waited), (tt, ((below, spot_stays (events ++ hands ∷ []) acts value refl ∙ passing), tt)))
    moves_told slots (Some index) below waited =
        let passing = spot_moved events hands (record { index = value; from = Waiting; to = Passing p }) refl in
        let acted = spot_stays (events ++ hands ∷ []) acts value refl in
        let made = spot_stays ((events ++ hands ∷ []) ++ acts ∷ []) (Acted 0 (send_of index) answers.PoppedNone) value refl in
        grind arith

    -- the events begin no call
    pub begins_told : (waits : Option ℕ) → AreRight BeginsRight events (told waits)
    begins_told = grind arith

    -- what the events of a receive say of answers is right
    pub answers_told : (slots : ℕ) (waits : Option ℕ) → AreRight (AnswersRight slots) events (told waits)
    answers_told = grind arith

    -- ---- the spans

    module _ (other : p ≢ 0) where
      -- the receive's span has ended, with the index as its answer
      pub mine_then : (waits : Option ℕ) → span_of p events ≡ Open call [] → span_of p (events ++ told waits) ≡ Ended call answer (hands ∷ acts ∷ [])
      mine_then waits from =
          ap (span_of p) (sym (parts waits))
          ∙ (span_of-own p ((events ++ hands ∷ acts ∷ []) ++ made waits) (ends ∷ []) (refl, tt)
          ∙ ap (λ span. fold own_after span (ends ∷ []))
          (span_of-other 0 p (events ++ hands ∷ acts ∷ []) (made waits) other (made_own T waits)
          ∙ (span_of-own p events (hands ∷ acts ∷ []) (refl, (refl, tt)) ∙ ap (λ span. fold own_after span (hands ∷ acts ∷ [])) from)))

      -- the sender's span has the act of the send that waits, if one does
      pub senders_then : (waits : Option ℕ) → span_of 0 (events ++ told waits) ≡ fold own_after (span_of 0 events) (made waits)
      senders_then waits =
          ap (span_of 0) (sym (parts waits))
          ∙ (span_of-other p 0 ((events ++ hands ∷ acts ∷ []) ++ made waits) (ends ∷ []) (λ e. other (sym e)) (refl, tt)
          ∙ (span_of-own 0 (events ++ hands ∷ acts ∷ []) (made waits) (made_own T waits)
          ∙ ap (λ span. fold own_after span (made waits)) (span_of-other p 0 events (hands ∷ acts ∷ []) (λ e. other (sym e)) (refl, (refl, tt)))))

      -- the spans of the parties that are neither the receiver nor the sender stay
      pub others_then : (waits : Option ℕ) (q : ℕ) → q ≢ p → q ≢ 0 → span_of q (events ++ told waits) ≡ span_of q events
      others_then waits q ne away =
          ap (span_of q) (sym (parts waits))
          ∙ (span_of-other p q ((events ++ hands ∷ acts ∷ []) ++ made waits) (ends ∷ []) ne (refl, tt)
          ∙ (span_of-other 0 q (events ++ hands ∷ acts ∷ []) (made waits) away (made_own T waits)
          ∙ span_of-other p q events (hands ∷ acts ∷ []) ne (refl, (refl, tt))))

      -- each event may follow in its span
      pub stands_told : (slots : ℕ) (waits : Option ℕ) → span_of p events ≡ Open call []
          → ((index : ℕ) → waits ≡ Some index → span_of 0 events ≡ Open (send_of index) (Published 0 (Index index) ∷ []))
          → AreRight (StandsRight promise slots) events (told waits)
      stands_told slots waits from hangs = go waits refl
        where
          -- the event that hands the index out may follow in the span
          first : Stands promise slots hands (span_of p events)
          first = grind (arith, promise)

          -- once the index is handed out the span has that event
          p_1 : span_of p (events ++ hands ∷ []) ≡ Open call (hands ∷ [])
          p_1 = grind (arith, span_of-own, fold)

          -- the act of the receive may follow in the span
          second : Stands promise slots acts (span_of p (events ++ hands ∷ []))
          second = rw p_1 (refl, refl)

          -- after the act the span has both events
          p_2 : span_of p ((events ++ hands ∷ []) ++ acts ∷ []) ≡ Open call (hands ∷ acts ∷ [])
          p_2 = grind (arith, span_of-own, fold, p_1)

          -- the end of the receive may follow in its span
          last : (before : List (Event T)) → span_of p before ≡ Open call (hands ∷ acts ∷ []) → Stands promise slots ends (span_of p before)
          last = grind (arith, promise)

          -- the cases are whether a send waits for this receive
          go : (o : Option ℕ) → waits ≡ o → AreRight (StandsRight promise slots) events (told o)
          go None waits_is = (first, (second, (last ((events ++ hands ∷ []) ++ acts ∷ []) p_2, tt)))
          go (Some index) e =
              let acted : Event T = Acted 0 (send_of index) answers.PoppedNone in
              let sends : span_of 0 ((events ++ hands ∷ []) ++ acts ∷ []) ≡ Open (send_of index) (Published 0 (Index index) ∷ []) =
              span_of-other p 0 (events ++ hands ∷ []) (acts ∷ []) (λ e. other (sym e)) (refl, tt)
              ∙ (span_of-other p 0 events (hands ∷ []) (λ e. other (sym e)) (refl, tt) ∙ hangs index e)
              in
              let third : Stands promise slots acted (span_of 0 ((events ++ hands ∷ []) ++ acts ∷ [])) =
              rw sends (refl, refl) in
              let p_3 : span_of p (((events ++ hands ∷ []) ++ acts ∷ []) ++ acted ∷ []) ≡ Open call (hands ∷ acts ∷ []) =
              span_of-other 0 p ((events ++ hands ∷ []) ++ acts ∷ []) (acted ∷ []) other (refl, tt) ∙ p_2 in
              (first, (second, (third, (last (((events ++ hands ∷ []) ++ acts ∷ []) ++ acted ∷ []) p_3, tt))))

  -- ---- what the events tell of the two queues

  -- the events tell that the oldest index went out, and that the send that waited, if one did, has acted
  pub tells_told : (queue : ℕ) {sent rest back : List ℕ} (waits : Option ℕ) → 1 ≤ queue → sent ≡ value ∷ rest
      → (k : Core ℕ) → k.waiting ≡ sent → Hangs queue k waits → Tells queue false sent rest back back (told waits)
  tells_told queue {sent} {rest} {back} None some first k waiting_is few =
      let list = pop_front {T = T} queue sent value rest first (rw (← waiting_is) few) in
      grind (arith, append-nil, items)
  tells_told queue {sent} {rest} {back} (Some index) some first k waiting_is over =
      let list = pop_room {T = T} queue sent over.0 value index rest (omega arith) (sym waiting_is ∙ over.1) over.2 first in
      record {
        book = append-nil (items sent) ∙ ap items first;
        given = append-nil back;
        goes = list.1;
        answers =
            ap (λ (o : Option (Item T)). answer_of_item o
            ∷ answer_of_item (cut_off queue (drop 1 (map Index (take queue sent)) ++ Index index ∷ [])) ∷ [])
            list.0
            ∙ ap (λ (o : Option (Item T)). answer ∷ answer_of_item o ∷ []) list.2;
      }
