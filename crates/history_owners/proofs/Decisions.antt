-- Calls that put questions: the machine is handed an answer with the call's next step, as it is told of a begin with the first.
use Rattle.history.proofs.Names.{Bool, true, false, ◌≡◌, inl, inr, ℕ, ◌+◌, ◌<◌, Option, Some, None, List, [], ◌++◌}
use Rattle.history.proofs.Names.{slice_index, slice_set, refl, sym, ap, subst, ◌∙◌, append-nil, arith}
use Rattle.history.proofs.Names.{sum_by-append, set_here, written}
use Rattle.steps.specs.declared.ask.Ask.{Ask}
use Rattle.steps.specs.declared.ask.After.{After}
use Rattle.steps.specs.declared.ask.After.TheVariants.{GoOn}
use Rattle.steps.specs.declared.ask.Want.{Want}
use Rattle.model.specs.declared.event.Event.{Event}
use Rattle.model.specs.declared.event.Start.{Start}
use Rattle.model.specs.declared.families.Flight.{Flight}
use Rattle.model.specs.declared.turn.Kind.{Kind}
use Rattle.history.proofs.Names.{Coding, want_of, goes_of, is_question, after_turn}
use Rattle.model.specs.declared.turn.Turn.TheVariants.{Decide}
use Rattle.history.proofs.Names.{events_of, number_of, Trace, IsAll, Owes, OwesAsk, NextKnown}
use mathlib.Core.Option.{some}
use lib.ListN.{get_elem?}
use Rattle.atomic_table.specs.Table.{State}
use Rattle.steps.specs.declared.ask.After.TheVariants.{Done}
use Rattle.steps.specs.declared.ask.Want.TheVariants as wants
use Rattle.threaded.specs.Driver.{Told}
use Rattle.history.specs.declared.view.View.{View}
use Rattle.history.specs.Known.{events_by}
use Rattle.history.specs.History.{IsRun, IsMachine, Continues, call_in, steps_in, refusal_as, HasAsked, steps_of_run}
use Rattle.history.proofs.Asked.{Gains, gains_has}
use Rattle.history.specs.Stages.{LeavesState, Since, IsUnderWay, At, Ends, HasHeard, AtAsked, StepsOnly, taken_by}
use Rattle.history.proofs.Known.{by_more, within}
use Rattle.history.proofs.Reached.{MayDecide, decide_as}
use Rattle.history.proofs.Calls.{stands, flight_is}
use Rattle.history.proofs.Turns.{Machines, Between, made_between, turning_at}
use Rattle.history_owners.proofs.Answering.{Answering, heard, decided, decided_at, decided_steps, decided_took}
use Rattle.history.proofs.OneRun.{continues_all, continues_further}
use Rattle.history.proofs.Steps.{view_after, settle_so}
use Rattle.history.proofs.CallsIn.{by_bool, Driven, goes, AsksFor, KeepsSo, StepsThere, ActsAlone, written_alone, steps_alone}
use Rattle.history.proofs.CallTurns.{since_turn}
use Rattle.history.proofs.CallReady.{Ready, ready, asked_so, Told_by}
use Rattle.history.proofs.Drives.{ToldOver, keeps_at, next_ended}
pub use Rattle.history_owners.proofs.AskingCalls.{AsksElse, IsAskingIn, AskingCall}
use Rattle.history_owners.proofs.AskingCalls.{both_ways, flight_or, same_stage}
use Rattle.history.proofs.Telling.{word_owes, holds_put}

module _ {T C M E : Type 0} (asking_call : AskingCall T C M E) where
  open asking_call use {machines, machines.{code, kind, effects, size_of, laws}, decides, own, driven, driven.{want, after, kept, call}}
  open asking_call use {acts, is_call, is_call.{steps, same_call}, Finished, ended}

  -- the call has heard an answer in the view v that the machine has not been handed yet
  abbrev HasHeardAnswer : View T → View T → C → M → Type 0
  HasHeardAnswer base v c m = HasHeard code kind after kept call base v c m

  -- the call is about to begin, or under way, in the view v, and has heard no answer that the machine has not
  abbrev CallStands : View T → View T → C → M → Type 0
  CallStands base v c m = At code kind call base v c m

  -- ---- the machine is handed the answer

  -- a seat whose call has heard an answer that the machine has not been handed yet
  pub record Hearing : Type 0 where
    pub s : State (Unit {0}) (View T)
    pub v : View T  -- what the seat knows
    pub key : ℕ  -- the table's
    pub id : ℕ  -- the seat's
    pub c : C
    pub m : M
    pub r : IsMachine code kind key s
    pub at : get_elem? s.views id ≡ some v
    pub known : v.capacity ≡ key
    pub base₀ : View T  -- with which the drive began
    pub h : HasHeardAnswer base₀ v c m

  module _ (hearing : Hearing) where
    open hearing use {s, v, key, id, c, m, r, at, known, base₀, h}

    -- the flight of the question
    abbrev from : Flight T
    from = call.flight h.asking h.room

    -- the answer as a number
    abbrev n : ℕ
    n = number_of h.said

    -- the machine on which the call stands at its question
    y : Ready machines call s v key id h.asking h.room
    y = grind (arith, ready, inr)

    -- with the answer the machine's call goes on to the stage at which the driver's call is
    comes : goes_of code y.p from n y.u.world.kept ≡ GoOn (call.flight c m)
    comes = acts.alike key y.p h.asking h.room n y.u y.between.run
        ∙ steps.same_after base₀.capacity h.asking h.room n h.before.standing
        ∙ (ap (λ a. goes call a (kept h.asking h.room n)) h.goes ∙ ap (λ k. GoOn (call.flight c k)) (sym h.keeps))

    -- the machine does not refuse the answer
    free : refusal_as kind y.u.world (Decide y.p h.said) ≡ None
    free =
        decide_as kind decides y.u.world y.p h.said from (flight_is y.u.world y.p call.start from (stands y.u.world y.p call.start from y.there))
        (ap (λ z. is_question (want_of z from)) y.between.run.coded ∙ h.asks)

    -- the turn at which the machine is handed the answer
    abbrev answering : Answering T
    answering =
        record {
          turning = turning_at (laws key) y.between;
          start = call.start;
          flight = from;
          next = GoOn (call.flight c m);
          said = h.said;
          at = y.there;
          free = free;
          comes = comes;
        }

    -- what the seat has gained with the answer
    abbrev gained_then : List (Event T)
    gained_then = y.gained ++ events_by y.p (events_of y.u.world (Decide y.p h.said))

    -- the machine after the answer
    abbrev u_then : Trace T
    u_then = after_turn y.u (Decide y.p h.said)

    -- after the answer the machine stands at the table's words
    between_heard : Between code kind key y.owner s id y.p gained_then u_then
    between_heard = decided answering

    -- the view of the seat once the machine has been handed the answer
    abbrev view_heard : View T
    view_heard = view_after y.p between_heard.one.turns v.asked v.aside v gained_then u_then

    -- the table with the seat's view after the answer
    abbrev table_heard : State (Unit {0}) (View T)
    table_heard = record { words = s.words; homes = s.homes; views = slice_set s.views id view_heard }

    -- the view gains the turn of the answer, which is no operation
    gains_heard : Gains s.views v v.asked v.aside (steps_of_run code kind key between_heard.one.turns)
    unfolding between_heard
    gains_heard =
        record {
          old = steps_of_run code kind key y.between.one.turns;
          n = 0;
          have = y.have;
          has = y.has;
          more = decided_took answering;
          own = omega arith;
        }

    -- what the seat has asked for is still counted right
    has_heard : HasAsked view_heard (steps_of_run code kind key between_heard.one.turns)
    has_heard = gains_has gains_heard refl

    -- the table with this view is a machine
    machine_heard : IsMachine code kind key table_heard
    machine_heard = settle_so s at h.before.some between_heard gains_heard

    -- after the answer the call stands at its next stage in the machine
    there_heard : call_in u_then.world y.p ≡ Some (call.start, call.flight c m)
    there_heard = decided_at answering

    -- ---- a call that has heard an answer stands at its next stage, whatever the view with which its drive began

    -- the effects of the answer
    abbrev effs : List (Event T)
    effs = effects y.u.world y.p from n

    -- the effects that are of the call's own party
    abbrev mine : List (Event T)
    mine = own y.p from n

    -- the answer does not end the call
    told_heard : events_of y.u.world (Decide y.p h.said) ≡ effs ++ []
    told_heard = heard answering

    module _ (base : View T) (k : HasHeardAnswer base v c m) where
      -- before the answer the call was at its question
      stage_then : CallStands base v h.asking h.room
      stage_then = same_stage is_call h k

      -- what the call had written before the answer
      told_by : Told_by machines call y.p h.asking h.room base y.u.events (v.made ++ y.gained)
      told_by = y.prior base stage_then

      -- the question's stage is one of the call
      standing_then : call.stands base.capacity h.asking
      standing_then = grind arith

      -- by then the call has written what it had, what came late for it, and what the answer writes
      all_its_own : (told_by.wrote ++ told_by.late) ++ events_by y.p effs ≡ told_by.wrote ++ mine
      all_its_own =
          ap (λ zs. (told_by.wrote ++ zs) ++ events_by y.p effs) (acts.never h.asking h.room told_by.late told_by.waits)
          ∙ (ap (λ zs. zs ++ events_by y.p effs) (append-nil told_by.wrote)
          ∙ ap (λ zs. told_by.wrote ++ zs) (written_alone acts key y.p h.asking h.room n y.u y.between.run y.there))

      -- with the effects of the answer, the call has written what it may have written up to its next stage
      tells_then : call.wrote base.capacity y.p base.going c m (told_by.wrote ++ mine)
      tells_then =
          let tells = steps.tells base.capacity y.p base.going h.asking c h.room n in
          subst (λ room. call.wrote base.capacity y.p base.going c room (told_by.wrote ++ mine)) (sym h.keeps)
          (tells told_by.wrote standing_then told_by.tells h.goes)

      -- since the drive began, the view has gained these events of the call
      since_then : Since y.p call.start ((told_by.wrote ++ told_by.late) ++ events_by y.p effs) [] base view_heard
      since_then =
          since_turn machines call between_heard.one.turns v.asked v.aside id (Decide y.p h.said) y.u v y.gained effs told_by.prior told_heard
          (ap (events_by y.p) told_heard ∙ by_more y.p effs [])

      -- an answer is no look of a state, so the state of the party stays
      state_heard : LeavesState call → base.party ≡ Some y.p → view_heard.state ≡ base.state
      state_heard leaves was =
          let is_p = y.as_party h.before.going in
          let both : ◌≡◌ {A = Option ℕ} (Some k.before.party) (Some y.p) = sym k.before.mine ∙ is_p in
          let same : k.before.party ≡ y.p = cc in
          (laws key).states y.u (Decide y.p h.said) y.between.run between_heard.run free y.p refl
          ∙ (y.state leaves is_p ∙ k.before.state leaves (was ∙ ap Some (sym same)))

      -- an answer takes no step, so the operations asked for are still steps of the call alone
      asked_heard : StepsOnly base view_heard
      asked_heard =
          let counted : steps_in y.u.world y.p ≡ taken_by v.going v.taken = y.counted in
          let more : steps_in u_then.world y.p ≡ steps_in y.u.world y.p + 0 = decided_steps answering in
          omega (arith, asked_so stage_then)

      -- the machine after the answer is a run
      run_then : IsRun code kind base.capacity u_then
      run_then = grind (arith, between_heard)

      -- the run that was known as the drive began goes on to the run with the answer
      ran_then : Continues code kind base.capacity base view_heard
      ran_then =
          subst (λ n. Continues code kind n base view_heard) (sym known ∙ k.before.capacity)
          (continues_further code kind key base v view_heard k.before.ran.first
          (continues_all id between_heard.one at between_heard.run refl refl refl has_heard))

      -- after the answer the call is under way at its next stage, whatever the view with which its drive began
      lifted : IsUnderWay code kind call base view_heard c m
      lifted =
          record {
            -- the call stands at the stage to which the answer leads
            capacity = k.before.capacity;
            standing = steps.stays base.capacity h.asking c n standing_then h.goes;
            share = k.before.share;
            some = k.before.some;
            party = y.p;
            mine = refl;
            -- the machine's call of this party stands at that stage
            same = y.by base stage_then;
            going = there_heard;
            state = state_heard;
            past = λ i. steps.past base.capacity h.asking c n i standing_then h.goes;
            asked = asked_heard;
            aside = k.before.aside;
            alone = refl;
            -- the call has written what it had, what came late for it, and the effects of the answer
            wrote = (told_by.wrote ++ told_by.late) ++ events_by y.p effs;
            tells = subst (λ zs. call.wrote base.capacity y.p base.going c m zs) (sym all_its_own) tells_then;
            since = since_then;
            -- what is seen is the history of the machine with the answer
            history = record { trace = u_then; run = run_then; is = refl };
            ran = ran_then;
            stood = record { trace = u_then; run = run_then; is = refl; there = there_heard };
            all = λ all. made_between between_heard v at (subst IsAll (sym k.before.share) all);
            parties = record { owner = y.owner; seat = id; sums = λ f. sum_by-append f v.made gained_then ∙ between_heard.made_own v at f };
          }

  -- ---- calls at a word, and calls that have heard an answer

  -- the stage at which a call heard its answer is a question, and the next one is none
  at_question : {base v : View T} {c : C} {m : M} (heard : HasHeardAnswer base v c m) → is_question (want heard.asking) ≡ true
  at_question heard = ap is_question (sym (steps.same_want heard.asking heard.room)) ∙ heard.asks

  still_then : {base v : View T} {c : C} {m : M} → HasHeardAnswer base v c m → is_question (want c) ≡ false
  still_then {c = c} heard = is_call.one heard.asking c (number_of heard.said) (at_question heard) heard.goes

  -- a call that has heard an answer in one drive is at no other stage in another drive of the same view
  never_both : {A : Type 0} (base other v : View T) (c : C) (m : M) → is_question (want c) ≡ false → CallStands base v c m → HasHeardAnswer other v c m → A
  never_both base other v c m still (inl first) heard =
      let none : v.going ≡ None = ap (λ (z : View T). z.going) first.is ∙ first.idle in
      let no : ◌≡◌ {A = Option (Start T × Flight T)} None (Some (call.start, call.flight heard.asking heard.room)) = sym none ∙ heard.before.going in
      absurd (cc)
  never_both base other v c m still (inr under) heard =
      let both : ◌≡◌ {A = Option (Start T × Flight T)} (Some (call.start, call.flight c m)) (Some (call.start, call.flight heard.asking heard.room)) =
      sym under.going ∙ heard.before.going in
      let flies : call.flight c m ≡ call.flight heard.asking heard.room = ap (flight_or (call.flight c m)) both in
      let same : c ≡ heard.asking = same_call c heard.asking m heard.room flies in
      both_ways (is_question (want c)) (ap (λ d. is_question (want d)) same ∙ at_question heard) still

  -- at each stage what holds of the call between two steps holds
  standing : (base v : View T) (c : C) (m : M) → AtAsked code kind after kept call base v c m → call.stands base.capacity c
  standing base v c m (inl (inl first)) = first.standing
  standing base v c m (inl (inr under)) = under.standing
  standing base v c m (inr heard) = steps.stays base.capacity heard.asking c (number_of heard.said) heard.before.standing heard.goes

  -- at each stage the capacity is that with which the drive began
  same_size : (base v : View T) (c : C) (m : M) → AtAsked code kind after kept call base v c m → v.capacity ≡ base.capacity
  same_size = grind arith

  -- ---- a question is answered

  -- what a step from this stage has to tell, where the call may have heard an answer
  abbrev ToldAsked : C → M → View T → ℕ → View T → Type 0
  ToldAsked c m = Told (λ (z : View T). z.capacity) (AtAsked code kind after kept call) Finished after kept c m

  -- a call that stands at a question, and is answered so that it goes on, has heard the answer
  pub hears_said : (base v : View T) (c d : C) (m : M) (said : Bool) → is_question (want c) ≡ true → after c (number_of said) ≡ GoOn d
      → AtAsked code kind after kept call base v c m → AtAsked code kind after kept call base v d (kept c m (number_of said))
  hears_said base v c d m said due leads (inl (inl first)) = both_ways (is_question (want c)) due (is_call.first base.capacity c m first.first)
  hears_said base v c d m said due leads (inl (inr under)) =
      inr (record { asking = c; room = m; before = under; asks = ap is_question (steps.same_want c m) ∙ due; said = said; goes = leads; keeps = refl })
  hears_said base v c d m said due leads (inr heard) = both_ways (is_question (want c)) due (still_then heard)

  -- ---- each step keeps the rule

  -- what is known after a step by `At` and `Ends` is known by `AtAsked` and `Finished` too
  with_asked : (base : View T) (a : After C E) (k : M) (w : View T) → NextKnown (λ (z : View T). z.capacity) (At code kind call)
      (Ends code kind call) base a k w
      → NextKnown (λ (z : View T). z.capacity) (AtAsked code kind after kept call) Finished base a k w
  with_asked base (GoOn d) k w next_known = inl next_known
  with_asked base (Done e) k w next_known = ended base e k w next_known

  -- the steps of the call, as steps of the more general kind
  steps_there : StepsThere (AsksElse size_of driven) code kind effects driven
  steps_there = steps_alone acts steps

  -- what a step from this stage has to tell, where the call has heard none
  abbrev ToldSo : C → M → View T → ℕ → View T → Type 0
  ToldSo c m = ToldOver machines driven steps_there c m

  -- what a step told of the view with the answer, it told of the view before that answer
  told_asked : (c : C) (m : M) (n : ℕ) (x v w : View T) → x.capacity ≡ v.capacity
      → ((base : View T) → AtAsked code kind after kept call base v c m → CallStands base x c m) → ToldSo c m x n w → ToldAsked c m v n w
  told_asked c m n x v w same as_stage told_so = (
    told_so.0 ∙ same,
    λ base stage. with_asked base (after c n) (kept c m n) w
        (next_ended machines driven steps_there is_call.never base (after c n) (kept c m n) w
        (told_so.1 base (as_stage base stage))),
  )

  -- a call that stands at no question asks for a word of the structure; the table of capacity `key` has one word more
  module _ (key words slots id : ℕ) (c : C) (m : M) (wide : words ≡ size_of key + 1) (still : is_question (want c) ≡ false)
      (asked : AsksFor (size_of key) (want c)) where
    -- the word that the call asks for
    abbrev ask : Ask
    ask = asked.0

    -- what a step at a word has to leave: the rule of the machine, and what is told of the step
    abbrev OwedAt : View T → (C → M → View T → ℕ → View T → Type 0) → Type 0
    OwedAt v told = OwesAsk (λ (z : View T). z.asked) (IsMachine code kind key) words slots id (told c m) ask.word ask.op (v, [])

    -- the word is one of the table's
    below : ask.word < words
    below = omega (arith, asked.1)

    -- a call whose next step is at a word owes that step
    at_word : (base v : View T) → v.capacity ≡ key → CallStands base v c m → OwedAt v ToldSo
    at_word base v known stage =
        let size : key ≡ base.capacity = sym known ∙ same_size base v c m (inl stage) in
        subst (λ w. Owes (λ (z : View T). z.asked) (IsMachine code kind key) words slots id (ToldSo c m) w (v, [])) asked.2
        (keeps_at machines driven steps_there slots id wide known stage (subst (λ i. AsksFor (size_of i) (want c)) size asked))

    -- a call that has heard no answer owes just the step at its word
    at_once : (base₀ v : View T) → v.capacity ≡ key → CallStands base₀ v c m → OwedAt v ToldAsked
    at_once base₀ v known at₀ =
        word_owes (record { key = key; words = words; slots = slots; id = id; v = v; told = ToldSo c m }) (ToldAsked c m) ask (at_word base₀ v known at₀)
        (λ n w. told_asked c m n v v w refl as_it_is)
      where
        -- the call is at a word, so it has heard no answer
        as_it_is : (base : View T) → AtAsked code kind after kept call base v c m → CallStands base v c m
        as_it_is base (inl stage) = stage
        as_it_is base (inr k) = never_both base₀ base v c m still at₀ k

    -- a call that has heard an answer: before its step at a word the machine is handed the answer
    once_heard : (base₀ v : View T) → v.capacity ≡ key → HasHeardAnswer base₀ v c m → OwedAt v ToldAsked
    once_heard base₀ v known has_heard_answer = (
      below,
      λ s r long at small. (
          let it = hearing s r at in
          let step = (at_word base₀ (view_heard it) known (inr (lifted it base₀ has_heard_answer))).1 (table_heard it) (machine_heard it) in
          let (w, act, valid, holds, (told, counts, carried)) = step long (set_here s.views id (view_heard it) (within s.views id v at)) small in (
            w,
            act,
            valid,
            holds_put (IsMachine code kind key) s id (view_heard it) w ask.word (written ask.op (slice_index s.words ask.word)) act holds,
            (told_asked c m _ (view_heard it) v w refl (as_heard s r at) told, counts, carried),
          )),
    )
      where
        -- the seat whose call has heard an answer, of which the machine holds
        hearing : (s : State (Unit {0}) (View T)) → IsMachine code kind key s → get_elem? s.views id ≡ some v → Hearing
        hearing s is_machine has_view =
            record {
              s = s;
              v = v;
              key = key;
              id = id;
              c = c;
              m = m;
              r = is_machine;
              at = has_view;
              known = known;
              base₀ = base₀;
              h = has_heard_answer;
            }

        -- in each drive in which the call has heard an answer, it is under way in the view with the answer
        as_heard : (s : State (Unit {0}) (View T)) (r : IsMachine code kind key s) (at : get_elem? s.views id ≡ some v) (base : View T)
            → AtAsked code kind after kept call base v c m → CallStands base (view_heard (hearing s r at)) c m
        as_heard s r at base (inl stage) = never_both base base₀ v c m still stage has_heard_answer
        as_heard s r at base (inr k) = inr (lifted (hearing s r at) base k)

  -- at a word, each step keeps the rule, where the call can end by a step alone
  pub keeps_word : {base₀ v : View T} {c : C} {m : M} {key words : ℕ} (slots id : ℕ) → words ≡ size_of key + 1 → v.capacity ≡ key
      → is_question (want c) ≡ false → AtAsked code kind after kept call base₀ v c m
      → Owes (λ (z : View T). z.asked) (IsMachine code kind key) words slots id (ToldAsked c m) (want c) (v, [])
  keeps_word {base₀} {v} {c} {m} {key} {words} slots id wide known still at₀ = go_at (steps.asks key c stands_so still)
    where
      -- the stage is one of the call
      stands_so : call.stands key c
      stands_so = grind (arith, same_size, standing)

      -- with the word that it asks for, the call owes its step
      go_at : AsksFor (size_of key) (want c) → Owes (λ (z : View T). z.asked) (IsMachine code kind key) words slots id (ToldAsked c m) (want c) (v, [])
      go_at asked = subst (λ w. Owes (λ (z : View T). z.asked) (IsMachine code kind key) words slots id (ToldAsked c m) w (v, [])) (sym asked.2) (go at₀)
        where
          -- the call is about to begin or under way, and steps at once, or it has heard an answer, of which
          -- the machine is told first
          go : AtAsked code kind after kept call base₀ v c m → OwedAt key words slots id c m wide still asked v ToldAsked
          go (inl stage) = let owes = at_once key words slots id c m wide still asked in owes base₀ v known stage
          go (inr h) = let owes = once_heard key words slots id c m wide still asked in owes base₀ v known h

  -- where the answer ends its call, the call finishes so, as `rested` says
  module _ (rested : (base v : View T) (c : C) (m : M) (said : Bool) (e : E) → is_question (want c) ≡ true → after c (number_of said) ≡ Done e
      → IsUnderWay code kind call base v c m → Finished base e (kept c m (number_of said)) v) where
    -- an answer that ends the call leaves it over, as `Finished` says
    pub ends_said : (base v : View T) (c : C) (m : M) (said : Bool) (e : E) → is_question (want c) ≡ true → after c (number_of said) ≡ Done e
        → AtAsked code kind after kept call base v c m → Finished base e (kept c m (number_of said)) v
    ends_said base v c m said e due leads (inl (inl first)) = both_ways (is_question (want c)) due (is_call.first base.capacity c m first.first)
    ends_said base v c m said e due leads (inl (inr under)) = rested base v c m said e due leads under
    ends_said base v c m said e due leads (inr heard) = both_ways (is_question (want c)) due (still_then heard)

    -- a call at a question that is told no goes on or ends as `NextKnown` asks
    told_no : (v : View T) (c : C) (m : M) → is_question (want c) ≡ true → ToldAsked c m v 0 v
    told_no v c m due = (refl, λ base stage. go base stage (after c 0) refl)
      where
        -- with an answer the call goes on, and has heard it, or it ends
        go : (base : View T) → AtAsked code kind after kept call base v c m → (a : After C E) → after c 0 ≡ a
            → NextKnown (λ (z : View T). z.capacity) (AtAsked code kind after kept call) Finished base a (kept c m 0) v
        go base stage (GoOn d) leads = hears_said base v c d m false due leads stage
        go base stage (Done end) leads = ends_said base v c m false end due leads stage

    -- each step of the call keeps the rule of the table, at a word and at a question
    pub keeps_said : KeepsSo code kind size_of driven (AtAsked code kind after kept call) Finished
    keeps_said base₀ v c m key words slots id wide known at₀ = by_bool (is_question (want c)) (λ due. owes_at (want c) refl due)
        (λ still. keeps_word slots id wide known still at₀)
      where
        -- a call at a question owes nothing at the words until the answer is there
        owes_at : (w : Want (Unit {0})) → want c ≡ w → is_question w ≡ true
            → Owes (λ (z : View T). z.asked) (IsMachine code kind key) words slots id (ToldAsked c m) w (v, [])
        owes_at (wants.Ask a) asks_it due = absurd (cc)
        owes_at (wants.Question q) asks_it due = told_no v c m (ap is_question asks_it ∙ due)
        owes_at wants.Nothing asks_it due = absurd (cc)

-- ---- a call that no answer ends

-- a call that may put questions, none of whose answers ends it
pub record IsAskingOf {T C M E : Type 0} (code : Coding T) (kind : Kind) (effects : ℕ → Flight T → ℕ → List (Event T)) (size_of : ℕ → ℕ)
    (driven : Driven T C M E) : Type 0 where
  pub asking : IsAskingIn code kind effects size_of driven
  -- no answer ends the call
  pub lasts : (c : C) (e : E) (n : ℕ) → is_question (driven.want c) ≡ true → driven.after c n ≡ Done e → ⊥

module _ {T C M E : Type 0} (machines : Machines T) (decides : MayDecide machines.kind) {own : ℕ → Flight T → ℕ → List (Event T)}
    {driven : Driven T C M E} (acts : ActsAlone machines.code machines.kind machines.effects own driven.call)
    (is_call : IsAskingOf machines.code machines.kind own machines.size_of driven) where
  open machines use {code, kind, size_of}
  open driven use {want, after, kept, call}

  -- since no answer ends it, nothing is owed of an answer that does
  never_ends : (base v : View T) (c : C) (m : M) (said : Bool) (e : E) → is_question (want c) ≡ true → after c (number_of said) ≡ Done e
      → IsUnderWay code kind call base v c m → Ends code kind call base e (kept c m (number_of said)) v
  never_ends base v c m said end due leads under = absurd (is_call.lasts c end (number_of said) due leads)

  -- each step of a call that no answer ends keeps the rule, and the call ends by a step
  pub keeps_asked : KeepsSo code kind size_of driven (AtAsked code kind after kept call) (Ends code kind call)
  keeps_asked =
      keeps_said
      (record {
        machines = machines;
        decides = decides;
        own = own;
        driven = driven;
        acts = acts;
        is_call = is_call.asking;
        Finished = Ends code kind call;
        ended = λ base e m w h. h;
      })
      never_ends

  -- a call that stands at a question and is answered so that it goes on has heard the answer,
  -- since no answer ends it
  pub hears_answer : (base v : View T) (c d : C) (m : M) (said : Bool) → is_question (want c) ≡ true → after c (number_of said) ≡ GoOn d
      → AtAsked code kind after kept call base v c m → AtAsked code kind after kept call base v d (kept c m (number_of said))
  hears_answer = grind arith
