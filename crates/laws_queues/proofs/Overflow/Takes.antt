-- The move of the read position by a pop of the overflowing queue keeps the invariant: the pop takes the
-- oldest value, and a push that was pending at that position acts in the same turn.
use Rattle.laws_queues.proofs.Names.{Bool, ◌≡◌, ◌≢◌, ℕ, suc, ◌+◌, ◌*◌, ◌<◌, ◌≤◌, ◌==◌, true, false, ⊎_elim, inl}
use Rattle.laws_queues.proofs.Names.{Option, Some, None, List, [], ◌∷◌, ◌++◌, length, map, take, drop, fold, refl}
use Rattle.laws_queues.proofs.Names.{sym, ap, subst, ◌∙◌, append-nil, append_assoc, cases_eq, nat_tests, Ask}
use Rattle.laws_queues.proofs.Names.{Exchange, After, Done, OneWord, after_position, QueueFlight, Effect, MakesRoom}
use Rattle.laws_queues.proofs.Names.{Item, Index, PushIndex, Pop, Answer, PoppedNone, PoppedIndex, Event, Queues}
use Rattle.laws_queues.proofs.Names.{Published, HandedOut, Acted, Finished, Start, Party, Coding}
use Rattle.laws_queues.proofs.Names.{answer_of_item, read_word, after, words_of_index, cut_off, pending_at}
use Rattle.laws_queues.proofs.Names.{pending, beside, takes_effect, party_of, put, doing_of, flight_of, Open}
use Rattle.laws_queues.proofs.Names.{Ended, own_after, span_of, words_after, change_of, span_of-own, span_of-other}
use Rattle.std.proofs.Common.{arith}
use Rattle.steps.specs.declared.queues.overflow.PushStage.TheVariants as overflow_pushes
use Rattle.model.specs.declared.families.queues.calls.OverflowCall.TheVariants as overflows
use Rattle.model.specs.declared.families.queues.calls.QueueFlight.TheVariants.{Overflow}
use Rattle.model.specs.declared.families.queues.effects.Effect.TheVariants.{HandsOut}
use Rattle.model.specs.declared.families.Flight.TheVariants as flights
use Rattle.model.specs.declared.families.queues.QueueKind.TheVariants as kinds
use Rattle.model.proofs.Frame as frame
use Rattle.laws_queues.proofs.Queues.Invariant.{Queue, Scene, Inv, family, queue_in, any_stays, any_knows}
use Rattle.laws_queues.proofs.Overflow.Core.{one_passes, pop_front, pop_room}
use Rattle.laws_queues.proofs.Overflow.Waiting.{past_none, Pushing, IsPending, pending_is}
use Rattle.laws_queues.proofs.Queues.Core.{Core, Good, GoesUp, taken, takes}
use Rattle.laws_queues.proofs.Queues.Knows.{layout, Hangs, has_written}
use Rattle.laws_queues.proofs.Queues.Keeping.{clash, same_roles, kept}
use Rattle.laws_queues.proofs.Queues.Pending.{pending_put, few_wait, none_hangs}
use Rattle.laws_queues.proofs.Queues.Stages.{party_then, DoesStep, Moves, alone}
use Rattle.laws_queues.proofs.Overflow.Keeping.{take_keeps_push}

-- The party `p` holds the consumer's role and has a pop under way. `c` is the capacity, `k` the queue
-- before the step (positions, values that wait, cells), `ro` the holders of the roles, `latest` the
-- parties' latest calls.
module _ {T : Type 0} {en : Coding T} {scene : Scene T kinds.Overflow}
    (inv : Inv en kinds.Overflow scene) (room : OneWord)
    (holds : scene.roles.consumer ≡ Some scene.party) where
  open scene use {capacity as c, roles as ro, core as k, party as p, steps, backs, since, changes, latest, events}

  -- the push that acts where this party moves the read position
  abbrev pub waits : Option (ℕ × ℕ)
  waits = beside ro (layout ro k) latest p

  -- as `p` is the consumer, that push is the one that is pending at the read position
  waits_is : waits ≡ pending k.read ro.producer latest
  waits_is = let is_same : (p == p) ≡ true = grind (arith, nat_tests) in rw (holds, is_same) refl

  -- a step with this operation, after which the pop is `after`, keeps the invariant and writes events of
  -- `p` alone (`Shows`, Queues/Invariant)
  abbrev StepKeeps : Option Ask → Bool → After (QueueFlight T) (Answer T) → Effect T → Type 0
  StepKeeps ask back after effect = DoesStep en kinds.Overflow scene [] Pop ask back after effect

  -- a step with this operation keeps the invariant, where it may also write the act of another party's push
  abbrev ActingStepKeeps : Option Ask → Bool → After (QueueFlight T) (Answer T) → Effect T → Type 0
  ActingStepKeeps ask back after effect = Moves en kinds.Overflow scene Pop ask back after effect

  -- the party `p` after a step of the pop
  abbrev after_it : Option Ask → Bool → After (QueueFlight T) (Answer T) → Party T
  after_it ask back after = party_then en kinds.Overflow scene Pop ask back after

  -- the exchange that moves the read position from `read` to the next
  abbrev pub asks_move : ℕ → Option Ask
  asks_move read = Some (record { word = read_word; op = Exchange read (after_position read) })

  -- `p` has no pending push
  module _ (calm : (position : ℕ) → pending_at position (flight_of (doing_of (party_of p latest))) ≡ None) where
    -- ---- the move of the read position

    -- the pop has the front value in its room, and its exchange of the read position succeeds
    module _ {value : ℕ} {rest : List ℕ} (some : 0 < c) (first : k.waiting ≡ value ∷ rest)
        (few_steps : steps ≤ 2 * backs + 3) (paid : backs + since ≤ changes) where
      -- the queue once the value is taken
      abbrev after_take : Core ℕ
      after_take = taken 1 words_of_index (c + 1) k rest

      abbrev answer : Answer T
      answer = PoppedIndex value

      -- the words after the exchange are those of the queue without its oldest value
      words_take : words_after (layout ro k) (asks_move k.read) ≡ layout ro after_take
      words_take = grind arith

      -- the exchange changes one word
      one : change_of (layout ro k) (asks_move k.read) ≡ 1
      one = grind arith

      -- the queue without its oldest value is right
      good_take : Good 1 words_of_index (c + 1) after_take
      good_take = takes inv.queue.good first

      -- one value less waits
      shorter : length k.waiting ≡ suc (length rest)
      shorter = ap length first

      -- without its oldest value the queue has at most the capacity
      few_rest : length rest ≤ c
      few_rest = let g = inv.queue.good in let few = g.few in let long = shorter in omega arith

      -- no push is pending at the next read position, so it is enough that at most the capacity waits
      hangs_take : Hangs T kinds.Overflow c after_take
          (pending (k.read + 1) ro.producer (put p (after_it (asks_move k.read) false (Done answer)) latest))
      hangs_take = grind (arith, false, pending, put, pending_put, past_none, none_hangs, few_rest)

      -- where no push is pending, the exchange takes the value and ends the pop
      takes_alone : pending k.read ro.producer latest ≡ None → StepKeeps (asks_move k.read) false (Done answer) (HandsOut (Index value))
      takes_alone none =
          let queue_good = inv.queue.good in
          let write = queue_good.write in
          let few = few_wait en kinds.Overflow c k (pending k.read ro.producer latest) none inv.queue.good inv.queue.hangs in
          let list = pop_front {T = T} c k.waiting value rest first few in
          let change = one in
          let reached = inv.queue.reached in
          let passes = one_passes {T = T} c (Index value) some in
          (after_take, words_take, grind (arith, good_take, hangs_take, append-nil, map, kept, same_roles, take_keeps_push, clash))

      -- ---- a push of another party waits for this move

      -- a push of the value `w` by the party `q` is pending at the read position
      module _ (seen : span_of p events ≡ Open (Queues Pop) []) (q w : ℕ) (hung : pending k.read ro.producer latest ≡ Some (q, w)) where
        -- the four events that the turn writes, and the runs after each
        abbrev hands : Event T
        hands = HandedOut p (Index value)

        -- the act of the pop of `p`
        abbrev acts_p : Event T
        acts_p = Acted p (Queues Pop) answer

        -- the act of the push of `q`, which hands nothing back
        abbrev acts_q : Event T
        acts_q = Acted q (Queues (PushIndex w)) PoppedNone

        -- the end of the pop of `p`
        abbrev ends_p : Event T
        ends_p = Finished p (Queues Pop) answer

        -- all that the step writes: the value handed out, the acts of `p` and `q`, and the end of the pop
        abbrev told : List (Event T)
        told = hands ∷ acts_p ∷ acts_q ∷ ends_p ∷ []

        abbrev run_1 : List (Event T)
        run_1 = events ++ hands ∷ []

        abbrev run_2 : List (Event T)
        run_2 = run_1 ++ acts_p ∷ []

        abbrev run_3 : List (Event T)
        run_3 = run_2 ++ acts_q ∷ []

        -- the events one after the other are all that the step writes
        whole : run_3 ++ ends_p ∷ [] ≡ events ++ told
        whole = grind (arith, append_assoc)

        -- a push under way, as a call of the queue
        abbrev pushing : Pushing → QueueFlight T
        pushing run = Overflow (overflows.Push run)

        -- the queue once its oldest value is taken
        abbrev after_queue : Queue ℕ
        after_queue = record { roles = ro; core = after_take }

        -- the push of `q` stands where the queue `state` allows
        abbrev IsAt : Queue ℕ → Start T → Pushing → Type 0
        IsAt state start run = (family en kinds.Overflow c).At state q start (flights.Queues (pushing run))

        -- a push that stands so is a call that pushes its value
        start_is : (start : Start T) (run : Pushing) → IsAt (queue_in scene) start run → run.given ≡ w → start ≡ Queues (PushIndex w)
        start_is = grind arith

        -- the pop leaves another party's push at the stage at which it stood
        still_at : (start : Start T) (run : Pushing) → run.call.stage ≡ overflow_pushes.MovesRead k.read
            → IsAt (queue_in scene) start run → IsAt after_queue start run
        still_at = grind arith

        -- `x` is the party `q` as the machine has it, and `run` its push
        module _ (producer : ro.producer ≡ Some q) (x : Party T) (run : Pushing) (begun : ℕ) (is_pending : IsPending k.read latest q w x run begun) where
          -- the party `q` is not the one that pops
          other : q ≢ p
          other = grind arith

          -- the push of `q` is under way in the queue
          under : frame.IsUnderWay (family en kinds.Overflow c) (queue_in scene) q x (flights.Queues (pushing run)) (span_of q events)
          under = grind arith

          -- the call of `q` pushes `w`
          start : x.start ≡ Queues (PushIndex w)
          start = start_is x.start run under.at is_pending.value

          -- before the step the push of `q` has written that it published
          wrote : has_written {T = T} c k q (pushing run) ≡ Published q (Index w) ∷ []
          wrote = grind (arith, nat_tests)

          -- what the pending push of `q` has written once its value is taken: that it published, and its act
          writes : has_written {T = T} c after_take q (pushing run) ≡ Published q (Index w) ∷ acts_q ∷ []
          writes = grind arith

          -- after the pop's hand-out its span has that event alone
          p_1 : span_of p run_1 ≡ Open (Queues Pop) (hands ∷ [])
          p_1 = span_of-own p events (hands ∷ []) (refl, tt) ∙ ap (λ a. fold own_after a (hands ∷ [])) seen

          -- the pop has written that it handed out the value, and its act
          p_2 : span_of p run_2 ≡ Open (Queues Pop) (hands ∷ acts_p ∷ [])
          p_2 = span_of-own p run_1 (acts_p ∷ []) (refl, tt) ∙ ap (λ a. fold own_after a (acts_p ∷ [])) p_1

          -- the act of `q` leaves the span of `p`
          p_3 : span_of p run_3 ≡ Open (Queues Pop) (hands ∷ acts_p ∷ [])
          p_3 = span_of-other q p run_2 (acts_q ∷ []) (λ e. other (sym e)) (refl, tt) ∙ p_2

          -- the span of `p` is ended, with its answer
          p_4 : span_of p (events ++ told) ≡ Ended (Queues Pop) answer (hands ∷ acts_p ∷ [])
          p_4 = grind (arith, whole, span_of-own, fold, p_3)

          -- before the act of `q` is written, the span of `q` has only its `Published`
          q_2 : span_of q run_2 ≡ Open (Queues (PushIndex w)) (Published q (Index w) ∷ [])
          q_2 =
              span_of-other p q run_1 (acts_p ∷ []) other (refl, tt)
              ∙ (span_of-other p q events (hands ∷ []) other (refl, tt)
              ∙ (under.span ∙ (ap (λ st. Open st (has_written c k q (pushing run))) start ∙ ap (λ es. Open (Queues (PushIndex w)) es) wrote)))

          -- with all that this step writes, the span of `q` has its `Published` and its act
          q_4 : span_of q (events ++ told) ≡ Open (Queues (PushIndex w)) (Published q (Index w) ∷ acts_q ∷ [])
          q_4 =
              ap (span_of q) (sym whole)
              ∙ (span_of-other p q run_3 (ends_p ∷ []) other (refl, tt)
              ∙ (span_of-own q run_2 (acts_q ∷ []) (refl, tt) ∙ ap (λ a. fold own_after a (acts_q ∷ [])) q_2))

          -- the spans of the parties that are neither the popping one nor the pushing one stay
          theirs : (r : ℕ) → r ≢ p → r ≢ q → span_of r (events ++ told) ≡ span_of r events
          theirs r np nq =
              ap (span_of r) (sym whole)
              ∙ (span_of-other p r run_3 (ends_p ∷ []) np (refl, tt)
              ∙ (span_of-other q r run_2 (acts_q ∷ []) nq (refl, tt)
              ∙ (span_of-other p r run_1 (acts_p ∷ []) np (refl, tt) ∙ span_of-other p r events (hands ∷ []) np (refl, tt))))

          -- the pending push fits its span afterwards: it has published and acted
          pushing_fits : frame.Fits (family en kinds.Overflow c) after_queue q (party_of q latest) (span_of q (events ++ told))
          pushing_fits = grind (arith, family, q_4, writes, start, still_at)

          -- the call of a third party fits its span afterwards
          other_fits : (r : ℕ) → r ≢ p → r ≢ q
              → frame.Fits (family en kinds.Overflow c) after_queue r (party_of r latest) (span_of r (events ++ told))
          other_fits = grind (arith, family, theirs, any_stays, kept, clash)

          -- the exchange makes room, and the push that was pending acts in the same turn, after the pop
          takes_for : ActingStepKeeps (asks_move k.read) false (Done answer) (MakesRoom (Index value) q w)
          takes_for =
              let queue_good = inv.queue.good in
              let write = queue_good.write in
              let over = subst (Hangs T kinds.Overflow c k) hung inv.queue.hangs in
              let list = pop_room {T = T} c k.waiting over.1 value w rest some over.2 over.3 first in
              let change = one in
              let reached = inv.queue.reached in
              let zero : backs + 0 ≡ backs = omega arith in
              let up : GoesUp k after_take changes (changes + change_of (layout ro k) (asks_move k.read)) =
              record { write = omega arith; read = omega arith; paid = omega arith } in (
                after_take,
                words_take,
                record {
                  -- the events that the step writes: each may follow in its span, and each tells the truth
                  right = (tt, (tt, (tt, (tt, tt))));
                  lengths = (tt, (tt, (tt, (tt, tt))));
                  grants = (tt, (tt, (tt, (tt, tt))));
                  -- the queue afterwards, and the list that its calls answer as
                  good = good_take;
                  hangs = hangs_take;
                  book = append-nil (map Index k.waiting) ∙ ap (map Index) first;
                  out = omega arith;
                  producers = refl;
                  consumers = refl;
                  goes = list.1;
                  answers =
                      ap (λ (o : Option (Item T)). answer_of_item o
                      ∷ answer_of_item (cut_off c (drop 1 (map Index (take c k.waiting)) ++ Index w ∷ [])) ∷ [])
                      list.0
                      ∙ ap (λ (o : Option (Item T)). answer ∷ answer_of_item o ∷ []) list.2;
                  up = up;
                  reached = omega arith;
                  within = omega arith;
                },
                record {
                  stands = (
                    rw seen (inl refl, refl),
                    (
                      rw p_1 (refl, refl),
                      (
                        rw q_2 (refl, refl),
                        (
                          rw p_3 (refl, record { moments = refl; published = refl; handed_out = sym (one_passes c (Index value) some) }),
                          tt,
                        ),
                      ),
                    ),
                  );
                  -- the party's call afterwards, and the calls of other parties
                  here = record { answer = answer; wrote = hands ∷ acts_p ∷ []; span = p_4; steps = omega arith };
                  knows = omega arith;
                  others =
                      λ r np. ⊎_elim (λ e. rw e pushing_fits)
                      (other_fits r np) (cases_eq r q);
                  others_know =
                      λ r np. frame.still_knows (family en kinds.Overflow c) (queue_in scene) after_queue r
                      events told changes (changes + change_of (layout ro k) (asks_move k.read))
                      (any_knows en c r events told up tt)
                      (party_of r latest) (inv.frame.knows r);
                },
              )

        -- `takes_for` with the pending push that the machine has
        makes_room : ActingStepKeeps (asks_move k.read) false (Done answer) (MakesRoom (Index value) q w)
        makes_room =
            let is = pending_is k.read latest q w ro.producer hung in
            takes_for is.0 is.1 is.2 is.3 is.4

      -- the exchange of the read position takes the oldest value, whether a push is pending or not
      pub takes_it : span_of p events ≡ Open (Queues Pop) [] → ActingStepKeeps (asks_move k.read) false (Done answer) (takes_effect (Index value) waits)
      takes_it seen =
          rw waits_is (go (pending k.read ro.producer latest) refl)
        where
          -- the cases are whether a push is pending at the read position
          go : (o : Option (ℕ × ℕ)) → pending k.read ro.producer latest ≡ o
              → ActingStepKeeps (asks_move k.read) false (Done answer) (takes_effect (Index value) o)
          go None e = alone inv (asks_move k.read) false (Done answer) (HandsOut (Index value)) seen (takes_alone e)
          go (Some push) e = makes_room seen push.0 push.1 e
