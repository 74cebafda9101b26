-- A step of a call as a turn of the machine: what the view says then.
use Rattle.std.proofs.Common.{arith}
use Rattle.history.proofs.Names.{false, ◌≡◌, ◌⊎◌, ℕ, ◌+◌, ◌<◌, ◌≤◌, Option, Some, None, IfSome, List, [], ◌∷◌, ◌++◌, slice_set, refl, inl, inr}
use Rattle.history.proofs.Names.{sym, ap, subst, ◌∙◌, append_assoc, sum_by, fold, sum_by-append, Ask, After, GoOn}
use Rattle.history.proofs.Names.{Answer, Event, Finished, Flight, Turn, Next, want_of, goes_of, ask_of}
use Rattle.history.proofs.Names.{answer_in, span_of, own_after, Open, after_turn, events_of, ending_of, words_after}
use Rattle.history.proofs.Names.{old_of, step_in, Trace, IsAll, IsFreshCall}
use mathlib.Core.Option.{some}
use Rattle.steps.specs.declared.ask.After.TheVariants.{Done}
use Rattle.model.specs.Parties.{party_of}
use Rattle.model.specs.Turns.{step_count}
use Rattle.history.specs.declared.view.View.{View}
use Rattle.history.specs.Known.{events_by}
use Rattle.history.specs.History.{IsRun, IsMachine, Continues, IsLate, IsOfParties, LastStep, call_in, started, steps_in, refusal_as, run_of}
use Rattle.history.specs.History.{HasAsked, steps_of_run}
use Rattle.history.specs.Stages.{Calling, LeavesState, Since, opened, IsUnderWay, At, Ends, StepsOnly, taken_by}
use Rattle.history.proofs.Known.{by_more}
use Rattle.history.proofs.Calls.{stands, call_then, next_no_look}
use Rattle.history.proofs.Reached.{next_as}
use Rattle.history.proofs.Turns.{Machines, Between, Going, want_for, at_ask, goes_free, gone, gone_named, gone_steps, gone_took, kept_then, goes_to, turning_at}
use Rattle.history.proofs.Turns.{told as turn_told, own_told, found_old, made_between}
use Rattle.history.proofs.Steps.{view_after, settle_so}
use Rattle.history.proofs.CallsIn.{regroup, Prior, span_since, Met, Writing}
use Rattle.history.proofs.OneRun.{continues_all, continues_further}
use Rattle.history.proofs.Asked.{Gains, gains_has, none_count, one_or_none, none_or_one}
use Rattle.history.proofs.CallReady.{same_capacity, came_first, same_share, some_share, still_stands, asked_so, Seat}

module _ {T C M E : Type 0} (machines : Machines T) (call : Calling T C M E) where
  open machines use {code, kind, effects, size_of, laws}

  -- the call is about to begin, or under way, in the view v
  abbrev CallStands : View T → View T → C → M → Type 0
  CallStands base v c m = At code kind call base v c m

  -- From the view `base` on, the call has come further by what a turn of its party wrote, and by its end,
  -- where the turn ends it.
  pub since_turn : (turns : List (Turn T)) (asked aside : ℕ) {p : ℕ} (id : ℕ) (turn : Turn T) (u : Trace T)
      (v : View T) {base : View T} (gained : List (Event T)) {wrote : List (Event T)} (effs : List (Event T))
      {last : List (Event T)}
      → Prior p call.start wrote base u.events (v.made ++ gained) → events_of u.world turn ≡ effs ++ last
      → events_by p (events_of u.world turn) ≡ events_by p effs ++ last
      → Since p call.start (wrote ++ events_by p effs) last base
      (view_after p turns asked aside v (gained ++ events_by p (events_of u.world turn)) (after_turn u turn))
  since_turn turns asked aside {p} id turn u v {base} gained {wrote} effs {last} prior told_now own_now =
      record {
        others = prior.others;
        during = prior.during ++ effs;
        is = ap (λ zs. u.events ++ zs) told_now
            ∙ (ap (λ zs. zs ++ (effs ++ last)) prior.is ∙ regroup (base.seen ++ prior.others) (opened p call.start base.going) prior.during effs last);
        alone = prior.alone;
        others_own = prior.others_own;
        during_own = by_more p prior.during effs ∙ ap (λ zs. zs ++ events_by p effs) prior.during_own;
        made =
            ap (λ zs. v.made ++ (gained ++ zs)) own_now
            ∙ (sym (append_assoc v.made gained (events_by p effs ++ last))
            ∙ (ap (λ zs. zs ++ (events_by p effs ++ last)) prior.made_is
            ∙ regroup base.made (opened p call.start base.going) wrote (events_by p effs) last));
      }

  -- ---- what the step tells

  -- the next step of a seat's call, which asks for a word of the structure, or for none
  pub record Stepping : Type 0 where
    pub seat : Seat machines call
    pub ask : Option Ask
    -- the word is one of the structure, and the call asks for it
    pub low : IfSome ask (λ a. a.word < size_of seat.key)
    pub asks_it : want_of code (call.flight seat.c seat.m) ≡ want_for ask
    -- no push finds the last position, and no store the last version
    pub finds : IsFreshCall (at_ask seat.s.words ask) (call.flight seat.c seat.m)

  module _ (step : Stepping) where
    open step use {seat.{s, v, key, id, c, m, at, known, y}, ask, low, asks_it, finds}

    -- the party's call as one that is to take this step
    abbrev turn_next : Going T
    turn_next =
        record {
          turning = turning_at (laws key) y.between;
          start = call.start;
          flight = call.flight c m;
          ask = ask;
          low = low;
          at = y.there;
          asks = asks_it;
          finds = finds;
        }

    -- what stands in the word that the call asks for
    abbrev pub found : ℕ
    found = at_ask s.words ask

    -- the flight at which the call stands
    abbrev flight_now : Flight T
    flight_now = call.flight c m

    -- where the step leads the call, by what the machine keeps
    abbrev pub comes_now : After (Flight T) (Answer T)
    comes_now = goes_of code y.p flight_now found y.u.world.kept

    -- the machine after the step
    abbrev pub then_trace : Trace T
    then_trace = after_turn y.u (Next y.p)

    -- what the seat has gained with the step
    abbrev pub then_gained : List (Event T)
    then_gained = y.gained ++ events_by y.p (events_of y.u.world (Next y.p))

    -- after the step the machine stands at the table's words, and the seat has gained the step's events
    pub next_between : Between code kind key y.owner
        (record { words = words_after s.words ask; homes = s.homes; views = s.views }) id y.p then_gained then_trace
    next_between = gone turn_next

    -- the machine keeps what the step of the call makes of it
    pub kept_now : then_trace.world.kept ≡ (step_in y.u.world y.p (stands y.u.world y.p call.start flight_now y.there).x flight_now found).kept
    kept_now = kept_then turn_next

    -- after the step the party's call stands where the step leads it, or has ended
    going_then : call_in then_trace.world y.p ≡ call_then call.start (comes_now)
    going_then = goes_to turn_next

    -- the machine after the step is a run
    run_then : (base : View T) → CallStands base v c m → IsRun code kind base.capacity then_trace
    run_then = grind (arith, same_capacity, next_between)

    -- the view of the seat after the step
    abbrev pub view_then : View T
    view_then = view_after y.p next_between.one.turns (v.asked + 1) (v.aside + none_count ask) v then_gained then_trace

    -- the step is one operation, and one step of the run where the call asks for a word
    pub gains_then : Gains s.views v (v.asked + 1) (v.aside + none_count ask) (steps_of_run code kind key next_between.one.turns)
    unfolding next_between
    gains_then =
        record {
          old = steps_of_run code kind key y.between.one.turns;
          n = step_count ask;
          have = y.have;
          has = y.has;
          more = gone_took turn_next;
          own = one_or_none v.asked v.aside ask;
        }

    -- what the seat has asked for is still counted right
    has_then : HasAsked view_then (steps_of_run code kind key next_between.one.turns)
    has_then = gains_has gains_then refl

    -- the machine after the step is that of the run which the seat knows then
    one_then : (base : View T) → CallStands base v c m → then_trace ≡ run_of code kind base.capacity next_between.one.turns
    one_then base stage =
        next_between.one.is
        ∙ ap (λ n. run_of code kind n next_between.one.turns) (sym known ∙ same_capacity stage)

    -- the run that was known as the drive began goes on to the run with this step
    ran_then : {base : View T} → CallStands base v c m → Continues code kind base.capacity base view_then
    ran_then {base} stage =
        subst (λ n. Continues code kind n base view_then) (sym known ∙ same_capacity stage)
        (continues_further code kind key base v view_then (came_first stage)
        (continues_all id next_between.one at next_between.run refl refl refl has_then))

    -- the effects of the step
    abbrev effs : List (Event T)
    effs = effects y.u.world y.p flight_now found

    -- the effects of the step that are of the call's own party
    abbrev mine_now : List (Event T)
    mine_now = events_by y.p effs

    -- the step finds the word's number, on a machine on which the call stands at this stage
    pub met : (base : View T) (stage : CallStands base v c m)
        → Met code kind base.capacity call.start flight_now y.p base.going
        ((y.prior base stage).wrote ++ (y.prior base stage).late) found y.u
    met base stage =
        let before = y.prior base stage in
        record {
          run = subst (λ n. IsRun code kind n y.u) (sym (sym (same_capacity stage) ∙ known)) y.between.run;
          there = y.there;
          found =
              ap (λ z. old_of y.u.world.words (ask_of (want_of z flight_now))) (sym y.between.run.coded)
              ∙ found_old turn_next;
          span =
              λ none. ap (span_of y.p) (before.prior.is
              ∙ ap (λ os. (base.seen ++ before.prior.others) ++ (os ++ before.prior.during)) (ap (opened y.p call.start) none))
              ∙ (span_since y.p call.start (base.seen ++ before.prior.others) before.prior.during
              ∙ ap (fold own_after (Open call.start [])) before.prior.during_own);
        }

    -- from `base` on, the call has come further by what the step wrote, and by its end,
    -- where the step ends it
    since_then : {base : View T} {wrote last : List (Event T)}
        → Prior y.p call.start wrote base y.u.events (v.made ++ y.gained)
        → ending_of y.p call.start (answer_in (comes_now)) ≡ last
        → Since y.p call.start (wrote ++ mine_now) last base view_then
    since_then {base} {wrote} {last} prior ends =
        let told_now : events_of y.u.world (Next y.p) ≡ effs ++ last = turn_told turn_next
        ∙ ap (λ zs. effs ++ zs) ends
        in
        let own_now : events_by y.p (events_of y.u.world (Next y.p)) ≡ mine_now ++ last = own_told turn_next
        ∙ ap (λ zs. mine_now ++ zs) ends
        in
        since_turn next_between.one.turns (v.asked + 1) (v.aside + none_count ask) id (Next y.p) y.u v y.gained effs prior told_now own_now

    -- the step adds one to the call's steps where it asks for a word
    steps_then : steps_in then_trace.world y.p ≡ steps_in y.u.world y.p + step_count ask
    steps_then = gone_steps turn_next

    -- each operation since `base` was a step of the call
    pub asked_then : step_count ask ≡ 1 → (base : View T) → CallStands base v c m → StepsOnly base view_then
    asked_then one base stage =
        let counted : steps_in y.u.world y.p ≡ taken_by v.going v.taken = y.counted in
        let more : steps_in then_trace.world y.p ≡ steps_in y.u.world y.p + step_count ask = steps_then in
        omega (arith, asked_so stage)

    -- a pass with the whole share has made all that it has seen
    all_then : (base : View T) → CallStands base v c m → IsAll base.share → (f : Event T → ℕ) → sum_by f view_then.seen ≡ sum_by f view_then.made
    all_then base stage all f =
        made_between next_between v at
        (subst IsAll (sym (same_share stage)) all) f

    -- what the pass has made are the events of its parties
    parties_then : IsOfParties view_then
    parties_then = record { owner = y.owner; seat = id; sums = λ f. sum_by-append f v.made then_gained ∙ next_between.made_own v at f }

    -- the party of the pass is the one that it was as the drive began
    party_now : (base : View T) → CallStands base v c m → base.party ≡ Some y.p → v.party ≡ Some y.p
    party_now = grind arith

    -- until now the call left the state of its party
    state_now : (base : View T) → CallStands base v c m → LeavesState call → base.party ≡ Some y.p → v.state ≡ base.state
    state_now = grind arith

    -- the machine does not refuse the step
    free_then : refusal_as kind y.u.world (Next y.p) ≡ None
    free_then = next_as kind y.u.world y.p (goes_free turn_next)

    -- the step of a call that is no look of a state leaves the party's state
    state_then : (base : View T) → CallStands base v c m → LeavesState call → base.party ≡ Some y.p → view_then.state ≡ base.state
    state_then base stage leaves was =
        (laws key).states y.u (Next y.p) y.between.run next_between.run
        free_then y.p (next_no_look y.u.world y.p call.start flight_now y.there (leaves.flight c m))
        ∙ (y.state leaves (party_now base stage was) ∙ state_now base stage leaves was)

    -- where the step ends the call, it is the last turn of the history, and wrote the response
    last_then : (base : View T) → CallStands base v c m → {end : Event T} → ending_of y.p call.start (answer_in (comes_now)) ≡ end ∷ []
        → LastStep code kind base.capacity y.p end view_then.seen
    last_then base stage ends =
        record {
          old = y.u;
          run = (met base stage).run;
          free = free_then;
          wrote = effs;
          writes = turn_told turn_next
              ∙ ap (λ zs. effs ++ zs) ends;
          is = refl;
        }

    -- no operation is aside that was not before
    aside_then : (base : View T) → CallStands base v c m → v.aside ≡ base.aside
    aside_then base (inl first) = ap (λ (z : View T). z.aside) first.is
    aside_then base (inr under) = under.aside

    -- the step, with what the call has written up to it
    abbrev pub writing : {base : View T} → CallStands base v c m → Writing code kind call
    writing {base} stage =
        let before = y.prior base stage in
        record {
          capacity = base.capacity;
          p = y.p;
          from = base.going;
          c = c;
          m = m;
          n = found;
          es = before.wrote;
          late = before.late;
          t = y.u;
          stands = still_stands stage;
          wrote = before.tells;
          waits = before.waits;
          met = met base stage;
        }

    -- what the call has written after the step: what it had, what came late for it, and the effects of this step
    abbrev pub wrote_now : {base : View T} → CallStands base v c m → List (Event T)
    wrote_now {base} stage = ((y.prior base stage).wrote ++ (y.prior base stage).late) ++ mine_now

    -- The step leads the call to the stage d with the room m', where it has written what it may have written,
    -- and no word ends it there outside the history. The step was at a word, and from `base` on each operation was a step.
    pub record LeadsOn {base : View T} (stage : CallStands base v c m) (d : C) (m' : M) : Type 0 where
      pub leads : comes_now ≡ GoOn (call.flight d m')
      pub stands : call.stands base.capacity d
      pub past : (n : ℕ) → call.skips d n ≡ false
      pub tells : call.wrote base.capacity y.p base.going d m' (wrote_now stage)
      pub steps : StepsOnly base view_then
      pub word : none_count ask ≡ 0

    -- where the step leads to another stage, the call is under way there
    pub goes_then : {base : View T} (stage : CallStands base v c m) {d : C} {m' : M}
        → LeadsOn stage d m' → IsUnderWay code kind call base view_then d m'
    goes_then {base} stage on =
        let before = y.prior base stage in
        record {
          -- the step changes neither capacity nor share, and the call stands at its next stage
          capacity = same_capacity stage;
          share = same_share stage;
          some = some_share stage;
          standing = on.stands;
          -- the call is this party's, and the machine's call stands at that stage
          party = y.p;
          mine = refl;
          same = y.by base stage;
          going = going_then ∙ ap (call_then call.start) on.leads;
          state = state_then base stage;
          past = on.past;
          asked = on.steps;
          aside = omega (arith, aside_then base stage, on.word);
          alone = refl;
          -- the call has written what it had, what came late for it, and the effects of this step
          wrote = wrote_now stage;
          tells = on.tells;
          since =
              since_then before.prior
              (ap (λ (a : After (Flight T) (Answer T)). ending_of y.p call.start (answer_in a)) on.leads);
          -- what is seen is the history of the machine after the step
          history = record { trace = then_trace; run = run_then base stage; is = refl };
          ran = ran_then stage;
          stood = record { trace = then_trace; run = run_then base stage; is = refl; there = going_then ∙ ap (call_then call.start) on.leads };
          -- who has the whole share has made all that is seen
          all = all_then base stage;
          parties = parties_then;
        }

    -- where the step ends the call, and it has written what it may have written in all, it has ended with this end
    pub ends_so : {base : View T} (stage : CallStands base v c m) {end : E} {m' : M} → comes_now ≡ Done (call.answer end m')
        → call.wrote_all base.capacity y.p base.going end m' (wrote_now stage)
        → StepsOnly base view_then ⊎ (view_then.asked ≤ base.asked + 1) → Ends code kind call base end m' view_then
    ends_so {base} stage afters tells took =
        let before = y.prior base stage in
        record {
          -- the step changes neither capacity nor share, and the call is this party's
          capacity = same_capacity stage;
          share = same_share stage;
          party = y.p;
          mine = refl;
          same = y.by base stage;
          alone = refl;
          -- no call is under way any more
          idle = going_then ∙ ap (call_then call.start) afters;
          state = state_then base stage;
          -- the call has written what it had, what came late for it, and the effects of this step
          wrote = wrote_now stage;
          tells = tells;
          -- its response is the last event that is seen
          since =
              since_then
              before.prior (ap (λ (a : After (Flight T) (Answer T)). ending_of y.p call.start (answer_in a)) afters);
          history = record { trace = then_trace; run = run_then base stage; is = refl };
          ran = ran_then stage;
          last = last_then base stage
              (ap (λ (a : After (Flight T) (Answer T)). ending_of y.p call.start (answer_in a)) afters);
          -- in the run that is known then, this call is the party's latest one
          named =
              subst (λ (t : Trace T). started (party_of y.p t.world.latest) ≡ Some call.start) (one_then base stage)
              (gone_named turn_next);
          counted = ap (λ (t : Trace T). steps_in t.world y.p) (sym (one_then base stage));
          took = took;
          aside = none_or_one ask (aside_then base stage);
          all = all_then base stage;
          parties = parties_then;
        }

    -- the same, where any events that the call may have written, with those of the step, are what it may have
    -- written in all
    pub ends_then : (base : View T) (stage : CallStands base v c m) (end : E) (m' : M) → comes_now ≡ Done (call.answer end m')
        → ((es late : List (Event T)) → call.wrote base.capacity y.p base.going c m es
        → IsLate kind (Some (call.start, flight_now)) late
        → Met code kind base.capacity call.start flight_now y.p base.going (es ++ late) found y.u
        → call.wrote_all base.capacity y.p base.going end m' ((es ++ late) ++ mine_now))
        → StepsOnly base view_then ⊎ (view_then.asked ≤ base.asked + 1) → Ends code kind call base end m' view_then
    ends_then base stage end m' afters tells took =
        let before = y.prior base stage in
        ends_so stage afters (tells before.wrote before.late before.tells before.waits (met base stage)) took

    -- with this view the table holds its machine again
    pub settled_then : {base : View T} → CallStands base v c m
        → IsMachine code kind key (record { words = words_after s.words ask; homes = s.homes; views = slice_set s.views id view_then })
    settled_then stage = settle_so s at (some_share stage) next_between gains_then
