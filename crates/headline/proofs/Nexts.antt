-- A turn in which a call goes on takes a step or ends the call, and a party with a call under way begins
-- none. So a party that takes more turns than the load of the other calls and of its own ends its call.
use Rattle.std.specs.Prelude.{IfSome, if◌then◌else◌}
use Rattle.std.proofs.Common.{Bool, true, false}
use Rattle.model.proofs.Names.{After, AreAllowed, Ask, Bound, GoOn, IsReached, List, None, Option, Some, Trace, World, []}
use Rattle.model.proofs.Names.{after_begin, after_decision, cases_lt, events_of_decision, first_of, is_none, is_some, nat_tests, number_of, one_if}
use Rattle.model.proofs.Names.{steps_in, world_after, ⊎_elim, ◌<◌, ◌≢◌}
use Rattle.model.proofs.Names.{after_answer, after_next, after_step, after_turn, after_turns, answer_in, ap, arith}
use Rattle.model.proofs.Names.{ask_of_doing, change_of, doing_after, doing_of, ending_of}
use Rattle.model.proofs.Names.{events_of, events_of_answer, events_of_next, events_of_step, flight_in, flight_of, old_of, party_of, refl, refusal_of, step_in}
use Rattle.model.proofs.Names.{step_count, subst, sum_by-append, sym, ℕ, ◌++◌, ◌+◌, ◌==◌, ◌∙◌, ◌∷◌, ◌≡◌, ◌≤◌}
use Rattle.steps.specs.declared.ask.After.TheVariants.{Done}
use Rattle.model.specs.declared.event.Answer.{Answer}
use Rattle.model.specs.declared.event.Event.{Event}
use Rattle.model.specs.declared.event.Start.{Start}
use Rattle.model.specs.declared.families.Flight.{Flight}
use Rattle.model.specs.declared.families.Registry.{Registry}
use Rattle.model.specs.declared.party.Doing.{Doing}
use Rattle.model.specs.declared.party.Doing.TheVariants.{Going, Over}
use Rattle.model.specs.declared.party.Party.{Party}
use Rattle.model.specs.declared.turn.Kind.{Kind}
use Rattle.model.specs.declared.turn.Kind.TheVariants.{Loan}
use Rattle.model.specs.declared.turn.Turn.{Turn}
use Rattle.model.specs.declared.turn.Turn.TheVariants.{Begin, Decide, Die, Next}
use Rattle.model.specs.LockFree.{lock_free_bound, parties_below, steps_of}
use Rattle.model.specs.Promises.Turns.{ask_in}
use Rattle.model.specs.Step.{Step}
use Rattle.model.proofs.LockFree.Falls.{same_is}
use Rattle.model.proofs.Parties.{party_put_same}
use Rattle.model.proofs.Reached.{reached_more}
use Rattle.model.proofs.LockFree.Stays.{begun, answered}
use Rattle.model.proofs.Rows.{IsPossible, may_next, passes, possible}
use Rattle.laws_loan.specs.LockFree.{channel_bound}
use Rattle.model.specs.Loads.{EndsLoadRuns, begin_in, begins_in, load, pending}
use Rattle.model.specs.Fair.{own_step, own_steps}
use Rattle.headline.specs.Nexts.{begin_of_other, begins_of_others, next_of, nexts_in, own_end, own_ends, EndsByTurns}
use Rattle.headline.proofs.Ends as ends
use Rattle.model.proofs.LockFree.Fairly.{own_in_all}
use Rattle.machine.proofs.LockFree.{if_some}
use Rattle.machine.proofs.Loads.{loads_as_run, channel_load_ends}
use Rattle.headline.proofs.Holding.{is_it}

not_it : (q p : ℕ) → (q == p) ≡ false → p ≢ q
not_it q p test = grind (arith, nat_tests)

module _ {T : Type 0} where
  -- The ends of p's calls in two lists of events are those of the first and those of the second.
  own_more : (p : ℕ) (xs ys : List (Event T)) → own_ends p (xs ++ ys) ≡ own_ends p xs + own_ends p ys
  own_more p xs ys = sum_by-append (own_end p) xs ys

  -- a call that is done has written its end
  ended_there : (w : World T) (p : ℕ) (x : Party T) (ask : Option Ask) (answer : ℕ) (doing : Doing T) (flight : Flight T)
      → flight_in w p ≡ Some flight → party_of p w.latest ≡ Some x → x.doing ≡ doing
      → flight_in (after_answer w p x ask answer doing) p ≡ None → 1 ≤ own_ends p (events_of_answer w p x answer doing)
  ended_there w p x ask answer (Over others) flight flight_is found same_doing done =
      let none : flight_in w p ≡ None = ap (λ o. flight_of (doing_of o)) found ∙ ap (λ d. flight_of (Some d)) same_doing in
      absurd (cc)
  ended_there w p x ask answer (Going now since) flight flight_is found e done = by_after s.after refl
    where
      -- `s` is the step of the party's call.
      s : Step (Flight T) (Registry T) T
      s = step_in w p x now answer

      -- the party's call is then where the step has led
      here : (a : After (Flight T) (Answer T)) → s.after ≡ a
          → flight_in (after_step w p x since ask s) p
          ≡ flight_of (Some (doing_after (w.changes + change_of w.words ask) (since + change_of w.words ask) a))
      here a leads =
          ap (λ o. flight_of (doing_of o)) (party_put_same p _ w.latest)
          ∙ ap (λ a. flight_of (Some (doing_after (w.changes + change_of w.words ask) (since + change_of w.words ask) a))) leads

      -- a step behind which no call is under way has written the end
      by_after : (a : After (Flight T) (Answer T)) → s.after ≡ a → 1 ≤ own_ends p (events_of_step p x.start s)
      by_after (GoOn next) leads =
          let there : Some next ≡ None = sym (here (GoOn next) leads) ∙ done in
          absurd (cc)
      by_after (Done result) leads =
          let last : own_ends p (ending_of p x.start (answer_in s.after)) ≡ 1 = rw leads (rw (same_is p) refl) in
          let more = own_more p s.wrote (ending_of p x.start (answer_in s.after)) in
          omega arith

  -- A turn `Next` after which the party has no call under way has written the end of its call.
  next_ended : (w : World T) (p : ℕ) (flight : Flight T) → flight_in w p ≡ Some flight → (o : Option (Party T)) → party_of p w.latest ≡ o
      → flight_in (after_next w p o) p ≡ None → 1 ≤ own_ends p (events_of_next w p o)
  next_ended w p flight flight_is None found done = let none : flight_in w p ≡ None = ap (λ o. flight_of (doing_of o)) found in absurd (cc)
  next_ended w p flight flight_is (Some x) found done =
      ended_there w p x (ask_of_doing w.coding x.doing) (old_of w.words (ask_of_doing w.coding x.doing)) x.doing flight flight_is found refl done

  -- A turn `Next` of a party takes a step or ends the party's call.
  next_pays : (t : Trace T) → IsReached t → (p : ℕ) → refusal_of t.world (Next p) ≡ None
      → 1 ≤ steps_of t.world (Next p) + own_ends p (events_of t.world (Next p))
  next_pays t reached p free = go (ask_in t.world (Next p)) refl
    where
      -- the cases are whether the call asks for an operation
      go : (o : Option Ask) → ask_in t.world (Next p) ≡ o → 1 ≤ steps_of t.world (Next p) + own_ends p (events_of t.world (Next p))
      go (Some ask) asks = let one : steps_of t.world (Next p) ≡ 1 = ap step_count asks in omega arith
      go None asks =
          let may = may_next t.world p (passes t.world (Next p) free).on in
          let done = ends.ends t reached (Next p) free p refl asks in
          let end = next_ended t.world p may.flight may.is (party_of p t.world.latest) refl done in
          omega arith

  -- a turn in which a party's call goes on takes a step of the party or ends its call
  turn_pays : (t : Trace T) → IsReached t → (p : ℕ) (turn : Turn T) → refusal_of t.world turn ≡ None
      → next_of p turn ≤ own_step p t.world turn + own_ends p (events_of t.world turn)
  turn_pays t reached p (Begin q start) free = omega arith
  turn_pays t reached p (Next q) free = go (q == p) refl
    where
      -- the cases are whether the turn is the party's
      go : (b : Bool) → (q == p) ≡ b → next_of {T = T} p (Next q) ≤ own_step p t.world (Next q) + own_ends p (events_of t.world (Next q))
      go true test =
          let same = is_it q p test in
          let here : refusal_of t.world (Next p) ≡ None = subst (λ m. refusal_of t.world (Next m) ≡ None) same free in
          let paid = next_pays t reached p here in
          let there : 1 ≤ steps_of t.world (Next q) + own_ends p (events_of t.world (Next q))
          = rw same paid in
          rw test there
      go false test = rw test (omega arith)
  turn_pays t reached p (Decide q said) free = omega arith
  turn_pays t reached p (Die owner) free = omega arith

  -- over a list of turns, those in which the party's call goes on are no more than its steps and its ends
  pub turns_pay : (t : Trace T) → IsReached t → (p : ℕ) (turns : List (Turn T)) → AreAllowed t turns
      → nexts_in p turns + own_ends p t.events ≤ own_steps p t turns + own_ends p (after_turns t turns).events
  turns_pay t reached p [] allowed = omega arith
  turns_pay t reached p (turn ∷ turns) allowed =
      let here = turn_pays t reached p turn allowed.0 in
      let more = own_more p t.events (events_of t.world turn) in
      let rest = turns_pay (after_turn t turn) (reached_more t turn allowed.0 reached) p turns allowed.1 in
      let all : nexts_in p turns + (own_ends p t.events + own_ends p (events_of t.world turn))
      ≤ own_steps p (after_turn t turn) turns + own_ends p (after_turns (after_turn t turn) turns).events = rw more at rest in
      omega arith

  -- ---- a party that has a call under way begins none before that call has ended

  -- 1 if the party has a call under way, else 0.
  abbrev under : World T → ℕ → ℕ
  under w p = one_if (is_some (flight_in w p))

  -- 1 for a turn in which the party begins a call.
  abbrev own_begin : ℕ → Turn T → ℕ
  own_begin p (Begin q start) = if q == p then 1 else 0
  own_begin p turn = 0

  -- How many calls of the party the turns begin.
  abbrev own_begins : ℕ → List (Turn T) → ℕ
  own_begins p [] = 0
  own_begins p (turn ∷ turns) = own_begin p turn + own_begins p turns

  -- each call that begins is its own or another's
  whose : (p : ℕ) (turn : Turn T) → begin_in turn ≡ own_begin p turn + begin_of_other p turn
  whose p (Begin q start) = go (q == p)
    where
      -- one party begins the call and the other does not, so between the two there is one call
      go : (b : Bool) → 1 ≡ (if b then 1 else 0) + (if b then 0 else 1)
      go true = refl
      go false = refl
  whose p (Next q) = refl
  whose p (Decide q said) = refl
  whose p (Die owner) = refl

  -- The calls that begin in a list of turns are those of p and those of other parties.
  all_whose : (p : ℕ) (turns : List (Turn T)) → begins_in turns ≡ own_begins p turns + begins_of_others p turns
  all_whose p [] = refl
  all_whose p (turn ∷ turns) = let here = whose p turn in let rest = all_whose p turns in omega arith

  -- a party has at most one call under way
  under_small : (w : World T) (p : ℕ) → under w p ≤ 1
  under_small w p = go (is_some (flight_in w p))
    where
      -- The cases are whether the party has a call under way.
      go : (b : Bool) → one_if b ≤ 1
      go true = omega arith
      go false = omega arith

  -- with a turn the party's call stays under way, or ends
  abbrev Pays : World T → Turn T → ℕ → Type 0
  Pays w turn p = own_begin p turn + under w p ≤ own_ends p (events_of w turn) + under (world_after w turn) p

  -- If a party's call is under way or has written its end, the two counts together are at least 1.
  ended_or : (few : ℕ) (o : Option (Flight T)) → (o ≡ None → 1 ≤ few) → 1 ≤ few + one_if (is_some o)
  ended_or few None ended = let one = ended refl in omega arith
  ended_or few (Some flight) ended = omega arith

  -- A begin that is admitted leaves the party with one call under way.
  begun_under : (w : World T) (p : ℕ) (start : Start T) (o : Option (Flight T)) → is_none o ≡ false → under (after_begin w p start o) p ≡ 1
  begun_under w p start None begun = absurd (cc)
  begun_under w p start (Some flight) begun =
      let here : flight_in (after_begin w p start (Some flight)) p ≡ Some flight = ap (λ o. flight_of (doing_of o)) (party_put_same p _ w.latest) in
      rw here refl

  -- A decision after which the party has no call under way has written the end of its call.
  decided_ended : (w : World T) (p : ℕ) (said : Bool) (flight : Flight T) → flight_in w p ≡ Some flight → (o : Option (Party T)) → party_of p w.latest ≡ o
      → flight_in (after_decision w p said o) p ≡ None → 1 ≤ own_ends p (events_of_decision w p said o)
  decided_ended w p said flight flight_is None found done = let none : flight_in w p ≡ None = ap (λ o. flight_of (doing_of o)) found in absurd (cc)
  decided_ended w p said flight flight_is (Some x) found done = ended_there w p x None (number_of said) x.doing flight flight_is found refl done

  -- A turn `Next` of party q leaves the calls of other parties where they stood.
  next_stays : (w : World T) (q : ℕ) (o : Option (Party T)) (p : ℕ) → p ≢ q → flight_in (after_next w q o) p ≡ flight_in w p
  next_stays w q None p ne = refl
  next_stays w q (Some x) p ne = answered w q x (ask_of_doing w.coding x.doing) (old_of w.words (ask_of_doing w.coding x.doing)) x.doing p ne

  -- A decision for party q leaves the calls of other parties where they stood.
  decision_stays : (w : World T) (q : ℕ) (said : Bool) (o : Option (Party T)) (p : ℕ) → p ≢ q → flight_in (after_decision w q said o) p ≡ flight_in w p
  decision_stays w q said None p ne = refl
  decision_stays w q said (Some x) p ne = answered w q x None (number_of said) x.doing p ne

  -- A turn that begins no call of the party, and leaves its call where it stood, keeps what `Pays` says.
  stays : (w : World T) (turn : Turn T) (p : ℕ) → own_begin p turn ≡ 0 → flight_in (world_after w turn) p ≡ flight_in w p → Pays w turn p
  stays w turn p none same = let as_was : under (world_after w turn) p ≡ under w p = ap (λ o. one_if (is_some o)) same in omega arith

  -- A turn in which the party's own call goes on keeps what `Pays` says.
  own_pays : (w : World T) (turn : Turn T) (q p : ℕ) → q ≡ p → own_begin p turn ≡ 0
      → (flight_in (world_after w turn) q ≡ None → 1 ≤ own_ends q (events_of w turn)) → Pays w turn p
  own_pays w turn q p same none ended =
      let one : 1 ≤ own_ends q (events_of w turn) + under (world_after w turn) q
      = ended_or (own_ends q (events_of w turn)) (flight_in (world_after w turn) q) ended in
      let there = rw same at one in
      let small = under_small w p in
      omega arith

  -- with each turn that is possible the party's call stays under way, or ends
  own_turn : (w : World T) (p : ℕ) (turn : Turn T) → IsPossible w turn → Pays w turn p
  own_turn w p (Begin q start) may = go (q == p) refl
    where
      -- The cases are whether the begin is of this party.
      go : (b : Bool) → (q == p) ≡ b → Pays w (Begin q start) p
      go true test =
          let same = is_it q p test in
          let one = begun_under w q start (first_of w.kind w.capacity start w.kept) may.call in
          let there : under (world_after w (Begin q start)) p ≡ 1 = rw (← same) one in
          let free : flight_in w p ≡ None = rw (← same) may.free in
          let none : under w p ≡ 0 = ap (λ (o : Option (Flight T)). one_if (is_some o)) free in
          let begins : own_begin p (Begin q start) ≡ 1 = rw test refl in
          omega arith
      go false test =
          stays w (Begin q start) p (rw test refl)
          (begun w q start (first_of w.kind w.capacity start w.kept) p (not_it q p test))
  own_turn w p (Next q) may = go (q == p) refl
    where
      -- The cases are whether the turn is of this party.
      go : (b : Bool) → (q == p) ≡ b → Pays w (Next q) p
      go true test = own_pays w (Next q) q p (is_it q p test) refl (next_ended w q may.flight may.is (party_of q w.latest) refl)
      go false test = stays w (Next q) p refl (next_stays w q (party_of q w.latest) p (not_it q p test))
  own_turn w p (Decide q said) may = go (q == p) refl
    where
      -- The cases are whether the decision is for this party.
      go : (b : Bool) → (q == p) ≡ b → Pays w (Decide q said) p
      go true test = own_pays w (Decide q said) q p (is_it q p test) refl (decided_ended w q said may.0.flight may.0.is (party_of q w.latest) refl)
      go false test = stays w (Decide q said) p refl (decision_stays w q said (party_of q w.latest) p (not_it q p test))
  own_turn w p (Die owner) may = stays w (Die owner) p refl refl

  -- over a list of turns, the calls that a party had under way or began have ended, but for one under way
  own_turns : (t : Trace T) (p : ℕ) (turns : List (Turn T)) → AreAllowed t turns
      → own_begins p turns + under t.world p + own_ends p t.events
      ≤ own_ends p (after_turns t turns).events + under (after_turns t turns).world p
  own_turns t p [] allowed = omega arith
  own_turns t p (turn ∷ turns) allowed =
      let here = own_turn t.world p turn (possible t.world turn allowed.0) in
      let more = own_more p t.events (events_of t.world turn) in
      let rest = own_turns (after_turn t turn) p turns allowed.1 in
      let all : own_begins p turns + under (world_after t.world turn) p + (own_ends p t.events + own_ends p (events_of t.world turn))
      ≤ own_ends p (after_turns (after_turn t turn) turns).events + under (after_turns (after_turn t turn) turns).world p = rw more at rest in
      omega arith

  -- Where all steps are within the load of all calls, a party with a call under way that takes more turns
  -- than this load has ended a call.
  pub ends_within : (bound : ℕ) (t : Trace T) → IsReached t → (p : ℕ) → is_some (flight_in t.world p) ≡ true
      → (turns : List (Turn T)) → AreAllowed t turns
      → steps_in t turns ≤ load bound (pending (parties_below t.world.parties) t.world + begins_in turns)
      → load bound (pending (parties_below t.world.parties) t.world + begins_of_others p turns) < nexts_in p turns
      → own_ends p t.events < own_ends p (after_turns t turns).events
  ends_within bound t reached p under_way turns allowed most many =
      ⊎_elim (λ less. less) none (cases_lt (own_ends p t.events) (own_ends p (after_turns t turns).events))
    where
      -- that the party has ended no call would need more steps than the load has
      none : own_ends p (after_turns t turns).events ≤ own_ends p t.events → own_ends p t.events < own_ends p (after_turns t turns).events
      none few =
          let has : under t.world p ≡ 1 = rw under_way refl in
          let small = under_small (after_turns t turns).world p in
          let counted = own_turns t p turns allowed in
          let split = all_whose p turns in
          let same : begins_in turns ≡ begins_of_others p turns = omega arith in
          let within = rw same at most in
          let paid = turns_pay t reached p turns allowed in
          let own = own_in_all p t turns in
          absurd (omega arith)

  -- If finite loads of a kind end with a bound, a call ends whose party goes on in more turns than the load.
  pub turns_end : (kind : Kind) (bound : Bound) → EndsLoadRuns T kind bound → EndsByTurns T kind bound
  turns_end kind bound loads t is r p under_way turns allowed many =
      ends_within (bound t.world.parties t.world.capacity t.world.coding.size) t r p under_way turns allowed (loads t is r turns allowed) many

-- Each kind that is lock-free ends its calls by turns.
pub ends_by_turns : (T : Type 0) (kind : Kind) → IfSome (lock_free_bound kind) (EndsByTurns T kind)
ends_by_turns T kind = if_some (EndsLoadRuns T kind) (EndsByTurns T kind) (lock_free_bound kind) (turns_end kind) (loads_as_run T kind)

pub channel_by_turns : (T : Type 0) → EndsByTurns T Loan channel_bound
channel_by_turns T = turns_end Loan channel_bound (channel_load_ends T)
