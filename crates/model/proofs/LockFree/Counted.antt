-- The calls under way and those that have ended are counted together: a begin adds one, and any other turn
-- leaves the number as it was. And a party that takes a step has a call under way. Each party is counted once.
use Rattle.model.proofs.Names.{After, AllByRecursion, Ask, GoOn, IsAmong, List}
use Rattle.model.proofs.Names.{None, Option, Refusal, Some, Trace, World, [], after_answer, after_begin}
use Rattle.model.proofs.Names.{after_step, after_turn, after_turns, answer_in, ap, arith, Bool, ask_of_doing, inl, inr, subst}
use Rattle.model.proofs.Names.{change_of, doing_after, doing_of, ending_of, ends}
use Rattle.model.proofs.Names.{events_of, events_of_answer, events_of_decision, events_of_next, events_of_step, false}
use Rattle.model.proofs.Names.{first_of, flight_in, flight_of, is_none, is_some, number_of, old_of, one_if}
use Rattle.model.proofs.Names.{beside_of, party_of, refl, step_in, sym, world_after, ℕ, ⊎_elim, ◌+◌, ◌∙◌, ◌∷◌, ◌≡◌, ◌≢◌, ◌≤◌}
use Rattle.steps.specs.declared.ask.After.TheVariants.{Done}
use Rattle.model.specs.declared.event.Answer.{Answer}
use Rattle.model.specs.declared.event.Start.{Start}
use Rattle.model.specs.declared.families.Flight.{Flight}
use Rattle.model.specs.declared.party.Doing.{Doing}
use Rattle.model.specs.declared.party.Doing.TheVariants.{Going, Over}
use Rattle.model.specs.declared.party.Party.{Party}
use Rattle.model.specs.declared.turn.Turn.{Turn}
use Rattle.model.specs.declared.turn.Turn.TheVariants.{Begin, Decide, Die, Next}
use Rattle.model.specs.Step.{Step}
use Rattle.model.specs.declared.families.Registry.{Registry}
use Rattle.model.proofs.Parties.{party_put_same}
use Rattle.model.proofs.Rows.{IsPossible}
use Rattle.model.proofs.LockFree.Stays.{begun as begun_stays, answered, IsUnder, under_way}
use Rattle.model.proofs.LockFree.Weighed.{ended_more}
use Rattle.model.specs.LockFree.{IsOneIn, steps_of}
use Rattle.model.proofs.LockFree.Apart.{AreApart}
use Rattle.model.specs.Loads.{begin_in, begins_in, begun_of, begun, pending}
use Rattle.model.specs.Promises.Turns.{ask_in}
use Rattle.model.specs.Turns.{AreAllowedBy}
use Rattle.std.proofs.lemmas.List.Sums.{sum_by-append}
use Rattle.model.proofs.Counts.{steps_small}
use Rattle.model.proofs.LockFree.Writes.{writes_no_end, writes_no_begin}

module _ {T : Type 0} where
  abbrev under : World T → ℕ → ℕ
  under w p = one_if (is_some (flight_in w p))

  -- If no call of these parties has moved, the number of calls under way is as it was.
  same_pending : (ps : List ℕ) (old new : World T) → ((q : ℕ) → IsOneIn ps q → flight_in new q ≡ flight_in old q) → pending ps new ≡ pending ps old
  same_pending [] old new same = refl
  same_pending (p ∷ ps) old new same =
      let rest = same_pending ps old new (λ q one. same q (inr one)) in
      let here = same p (inl refl) in
      rw (rest, here) refl

  -- If only one party's call has moved, the number of calls under way changes by this call.
  moves : (ps : List ℕ) → AreApart ps → (old new : World T) (p : ℕ) → IsOneIn ps p → ((q : ℕ) → q ≢ p → flight_in new q ≡ flight_in old q)
      → pending ps new + under old p ≡ pending ps old + under new p
  moves [] apart old new p one others = absurd one
  moves (q ∷ ps) apart old new p one others = ⊎_elim first (λ in_rest. later in_rest (moves ps apart.1 old new p in_rest others)) one
    where
      -- the party stands first, so the calls of the others have not moved
      first : p ≡ q → pending (q ∷ ps) new + under old p ≡ pending (q ∷ ps) old + under new p
      first e =
          let rest = same_pending ps old new (λ r in_rest. others r (λ same. apart.0 (subst (IsOneIn ps) (same ∙ e) in_rest))) in
          rw (rest, e) (omega arith)

      -- the party stands later, so the call of the first has not moved
      later : IsOneIn ps p → pending ps new + under old p ≡ pending ps old + under new p
          → pending (q ∷ ps) new + under old p ≡ pending (q ∷ ps) old + under new p
      later in_rest rest =
          let here = others q (λ same. apart.0 (subst (IsOneIn ps) (sym same) in_rest)) in
          rw here (omega arith)

  abbrev CountsCalls : List ℕ → World T → World T → ℕ → ℕ → Type 0
  CountsCalls ps old new ended begins = pending ps new + ended ≡ pending ps old + begins

  -- a turn that begins a call puts one more call under way, and ends none
  begins : (ps : List ℕ) → AreApart ps → (w : World T) (p : ℕ) (start : Start T) → IsOneIn ps p → (o : Option (Flight T)) → is_none o ≡ false
      → flight_in w p ≡ None → CountsCalls ps w (after_begin w p start o) 0 1
  begins ps apart w p start below None some free = absurd (cc)
  begins ps apart w p start below (Some flight) some free =
      let here : flight_in (after_begin w p start (Some flight)) p ≡ Some flight = ap (λ o. flight_of (doing_of o)) (party_put_same p _ w.latest) in
      let one : under (after_begin w p start (Some flight)) p ≡ 1 = rw here refl in
      let none : under w p ≡ 0 = rw free refl in
      omega (arith, moves ps apart w (after_begin w p start (Some flight)) p below (λ q ne. begun_stays w p start (Some flight) q ne))

  -- a step of a call, or an answer to it, ends the call or none: the calls under way are fewer by those that end
  goes : (ps : List ℕ) → AreApart ps → (w : World T) (p : ℕ) {flight : Flight T} (u : IsUnder w p flight) (ask : Option Ask) (answer : ℕ)
      → IsOneIn ps p → CountsCalls ps w (after_answer w p u.party ask answer (Going flight u.since))
      (ends (events_of_answer w p u.party answer (Going flight u.since))) 0
  goes ps apart w p {flight} u ask answer below = by_after s.after refl
    where
      x : Party T
      x = u.party

      -- `s` is the step of the party's call.
      s : Step (Flight T) (Registry T) T
      s = step_in w p x flight answer

      new : World T
      new = after_step w p x u.since ask s

      moved : pending ps new + under w p ≡ pending ps w + under new p
      moved = moves ps apart w new p below (λ q ne. answered w p x ask answer (Going flight u.since) q ne)

      one : under w p ≡ 1
      one = rw (u.found, u.doing) refl

      -- The party's call stands where the step has led it.
      here : (a : After (Flight T) (Answer T)) → s.after ≡ a
          → flight_in new p ≡ flight_of (Some (doing_after (w.changes + change_of w.words ask) (u.since + change_of w.words ask) a))
      here a leads =
          ap (λ o. flight_of (doing_of o)) (party_put_same p _ w.latest)
          ∙ ap (λ a. flight_of (Some (doing_after (w.changes + change_of w.words ask) (u.since + change_of w.words ask) a))) leads

      -- a step writes no end of its own, so the ends among its events are that of its call
      ended : ends (events_of_step p x.start s) ≡ ends (ending_of p x.start (answer_in s.after))
      ended =
          omega (
            arith,
            writes_no_end T w.coding w.words (beside_of w.words w.kept w.latest p) p x.start flight answer w.kept,
            ended_more s.wrote (ending_of p x.start (answer_in s.after)),
          )

      -- a step that leads on leaves as many calls under way, and one that ends its call leaves one fewer
      by_after : (a : After (Flight T) (Answer T)) → s.after ≡ a → CountsCalls ps w new (ends (events_of_step p x.start s)) 0
      by_after (GoOn next) leads =
          let there : under new p ≡ 1 = rw (here (GoOn next) leads) refl in
          let none : ends (ending_of p x.start (answer_in s.after)) ≡ 0 = rw leads refl in
          omega (arith, ended, moved, one)
      by_after (Done result) leads =
          let there : under new p ≡ 0 = rw (here (Done result) leads) refl in
          let end : ends (ending_of p x.start (answer_in s.after)) ≡ 1 = rw leads refl in
          omega (arith, ended, moved, one)

  -- A turn `Next` of one of these parties keeps the count of calls under way, but for those that end.
  nexts : (ps : List ℕ) → AreApart ps → (w : World T) (p : ℕ) → IsOneIn ps p → {flight : Flight T} → flight_in w p ≡ Some flight
      → CountsCalls ps w (world_after w (Next p)) (ends (events_of w (Next p))) 0
  nexts ps apart w p below {flight} flight_is =
      let u = under_way w p flight flight_is in
      let ask = ask_of_doing w.coding (Going flight u.since) in
      rw (u.found, u.doing) (goes ps apart w p u ask (old_of w.words ask) below)

  -- A decision for one of these parties keeps the count of calls under way, but for those that end.
  decides : (ps : List ℕ) → AreApart ps → (w : World T) (p : ℕ) (said : Bool) → IsOneIn ps p → {flight : Flight T} → flight_in w p ≡ Some flight
      → CountsCalls ps w (world_after w (Decide p said)) (ends (events_of w (Decide p said))) 0
  decides ps apart w p said below {flight} flight_is =
      let u = under_way w p flight flight_is in
      rw (u.found, u.doing) (goes ps apart w p u None (number_of said) below)

  -- each turn adds the call that it begins to those under way, and takes off the one that it ends
  pub turn_counts : (ps : List ℕ) → AreApart ps → (w : World T) (turn : Turn T) → IsPossible w turn → IsAmong ps turn
      → CountsCalls ps w (world_after w turn) (ends (events_of w turn)) (begin_in turn)
  turn_counts ps apart w (Begin p start) may below = begins ps apart w p start below (first_of w.kind w.capacity start w.kept) may.call may.free
  turn_counts ps apart w (Next p) may below = nexts ps apart w p below may.is
  turn_counts ps apart w (Decide p said) may below = decides ps apart w p said below may.0.is
  turn_counts ps apart w (Die owner) may below = omega (arith, same_pending ps w (world_after w (Die owner)) (λ q one. refl))

  -- ---- a list of turns

  module _ (refuses : World T → Turn T → Option Refusal) (possible : (w : World T) (turn : Turn T) → refuses w turn ≡ None → IsPossible w turn) where
    -- over a list of turns: the calls under way and those that ended are those from before and those that began
    pub counted : (ps : List ℕ) → AreApart ps → (t : Trace T) (turns : List (Turn T)) → AreAllowedBy refuses t turns → AllByRecursion (IsAmong ps) turns
        → pending ps (after_turns t turns).world + ends (after_turns t turns).events ≡ pending ps t.world + ends t.events + begins_in turns
    counted ps apart t [] allowed below = omega arith
    counted ps apart t (turn ∷ turns) allowed below =
        let more = ended_more t.events (events_of t.world turn) in
        let rest = counted ps apart (after_turn t turn) turns allowed.1 below.1 in
        let all : pending ps (after_turns (after_turn t turn) turns).world + ends (after_turns (after_turn t turn) turns).events
        ≡ pending ps (world_after t.world turn) + (ends t.events + ends (events_of t.world turn)) + begins_in turns = rw more at rest in
        omega (arith, turn_counts ps apart t.world turn (possible t.world turn allowed.0) below.0)

  -- a step of a call, or an answer to its question, writes no begin
  answer_begins : (w : World T) (p : ℕ) (x : Party T) (answer : ℕ) (doing : Doing T) → begun (events_of_answer w p x answer doing) ≡ 0
  answer_begins w p x answer (Over others) = refl
  answer_begins w p x answer (Going now since) =
      let s = step_in w p x now answer in
      omega (
        arith,
        writes_no_begin T w.coding w.words (beside_of w.words w.kept w.latest p) p x.start now answer w.kept,
        sum_by-append begun_of s.wrote (ending_of p x.start (answer_in s.after)),
        ending_begins p x.start (answer_in s.after),
      )
    where
      -- The end of a call is no begin of one.
      ending_begins : (p : ℕ) (start : Start T) (o : Option (Answer T)) → begun (ending_of p start o) ≡ 0
      ending_begins p start None = refl
      ending_begins p start (Some answer) = refl

  next_begins : (w : World T) (p : ℕ) (o : Option (Party T)) → begun (events_of_next w p o) ≡ 0
  next_begins w p None = refl
  next_begins w p (Some x) = answer_begins w p x (old_of w.words (ask_of_doing w.coding x.doing)) x.doing

  decision_begins : (w : World T) (p : ℕ) (said : Bool) (o : Option (Party T)) → begun (events_of_decision w p said o) ≡ 0
  decision_begins w p said None = refl
  decision_begins w p said (Some x) = answer_begins w p x (number_of said) x.doing

  -- A turn writes the begin of a call exactly if it begins one.
  turn_begins : (w : World T) (turn : Turn T) → begun (events_of w turn) ≡ begin_in turn
  turn_begins w (Begin p start) = refl
  turn_begins w (Next p) = next_begins w p (party_of p w.latest)
  turn_begins w (Decide p said) = decision_begins w p said (party_of p w.latest)
  turn_begins w (Die owner) = refl

  -- the history has as many more beginnings of calls as there are turns that begin one
  pub begins_are : (t : Trace T) (turns : List (Turn T)) → begun (after_turns t turns).events ≡ begun t.events + begins_in turns
  begins_are t [] = omega arith
  begins_are t (turn ∷ turns) =
      omega (arith, turn_begins t.world turn, sum_by-append begun_of t.events (events_of t.world turn), begins_are (after_turn t turn) turns)

  -- ---- a step

  -- If one of these parties has a call under way, then at least one call is under way.
  pub one_pending : (ps : List ℕ) (w : World T) (p : ℕ) (flight : Flight T) → IsOneIn ps p → flight_in w p ≡ Some flight → 1 ≤ pending ps w
  one_pending [] w p flight one flight_is = absurd one
  one_pending (q ∷ ps) w p flight one flight_is = ⊎_elim first (λ later. omega (arith, one_pending ps w p flight later flight_is)) one
    where
      first : p ≡ q → 1 ≤ pending (q ∷ ps) w
      first same =
          let here : under w p ≡ 1 = rw flight_is refl in
          let one : under w q ≡ 1 = rw same at here in
          omega arith

  -- a turn takes a step only where a call is under way
  pub steps_pending : (ps : List ℕ) (w : World T) (turn : Turn T) → IsPossible w turn → IsAmong ps turn → steps_of w turn ≤ pending ps w
  steps_pending ps w (Begin p start) may below = omega arith
  steps_pending ps w (Next p) may below = omega (arith, steps_small (ask_in w (Next p)), one_pending ps w p may.flight below may.is)
  steps_pending ps w (Decide p said) may below = omega arith
  steps_pending ps w (Die owner) may below = omega arith
