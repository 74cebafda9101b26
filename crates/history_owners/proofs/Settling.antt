-- A pass whose last call rests at a question takes a step: the machine is handed the answer first.
use Rattle.history.proofs.Names.{true, false, ◌≡◌, inl, inr, ⊎_elim, ℕ, ◌+◌, ◌<◌, ◌≤◌, Option, Some, None, IfSome, List}
use Rattle.history.proofs.Names.{[], ◌∷◌, ◌++◌, slice_index, slice_set, refl, sym, ap, subst, ◌∙◌, arith}
use Rattle.history.proofs.Names.{sum_by, sum_by-append, Allows, set_here, written}
use Rattle.steps.specs.declared.ask.Ask.{Ask}
use Rattle.steps.specs.declared.ask.After.{After}
use Rattle.steps.specs.declared.ask.Want.{Want}
use Rattle.model.specs.declared.event.Answer.{Answer}
use Rattle.history.proofs.Names.{Coding, want_of, goes_of, is_question}
use Rattle.model.specs.declared.event.Event.{Event}
use Rattle.model.specs.declared.event.Event.TheVariants.{Finished}
use Rattle.model.specs.declared.event.Start.{Start}
use Rattle.model.specs.declared.families.Flight.{Flight}
use Rattle.model.specs.declared.turn.Kind.{Kind}
use Rattle.model.specs.declared.turn.Turn.TheVariants.{Decide}
use Rattle.history.proofs.Names.{after_turn, events_of, number_of, World, Trace, Owes, OwesAsk, NextKnown, KeepsRule}
use Rattle.history.proofs.Names.{IsAll}
use mathlib.Core.Option.{some, some-injective}
use lib.ListN.{get_elem?}
use Rattle.atomic_table.specs.Table.{State}
use Rattle.atomic_table.specs.Table as table
use Rattle.steps.specs.declared.ask.After.TheVariants.{Done}
use Rattle.threaded.specs.Driver.{Told}
use Rattle.history.specs.declared.view.View.{View}
use Rattle.history.specs.Known.{events_by}
use Rattle.history.specs.History.{IsRun, IsMachine, Continues, Fits, IsLate, call_in, refusal_as, HasAsked, steps_of_run}
use Rattle.history_owners.specs.Settled.{IsResting, Settles, SettledFrom, AtWaiting, EndsSettled}
use Rattle.history.proofs.Known.{by_more, within}
use Rattle.history.proofs.AllSeen.{known_whole}
use Rattle.history.proofs.Reached.{MayDecide, decide_as}
use Rattle.history.proofs.Calls.{stands, flight_is}
use Rattle.history.proofs.Turns.{Machines, Between, at_first, made_between, turning_at}
use Rattle.history_owners.proofs.Answering.{Answering, heard, own_heard, decided, decided_at, decided_took}
use Rattle.history.proofs.Asked.{Gains, gains_has, asked_at}
use Rattle.history.proofs.Passes.{set_same}
use Rattle.history.proofs.OneRun.{continues_all}
use Rattle.history.proofs.Steps.{view_after, settle_so}
use Rattle.history.proofs.CallsIn.{AsksFor, no_rest, same_rest, none_after}
use Rattle.history.proofs.Telling.{owes_more, holds_put}

-- a number is at most one more
no_more : (n : ℕ) → n ≤ n + 1
no_more n = omega arith

-- each step of the call at a word keeps the rule, at a stage that `Stage` allows and of which `may` holds
abbrev pub KeepsWhere : {T : Type 0} → Coding T → Kind → (ℕ → ℕ) → {C M E : Type 0} → (C → Type 0)
    → (View T → View T → C → M → Type 0) → (View T → E → M → View T → Type 0)
    → (C → Want (Unit {0})) → (C → ℕ → After C E) → (C → M → ℕ → M) → Type 0
KeepsWhere {T} code kind size_of {C} {M} {E} may at ends want after kept =
    (base v : View T) (c : C) (m : M) (key words slots id : ℕ) → may c → words ≡ size_of key + 1 → v.capacity ≡ key → at base v c m
    → Owes (λ (z : View T). z.asked) (IsMachine code kind key) words slots id (Told (λ (z : View T). z.capacity) at ends after kept c m) (want c) (v, [])

-- Machines of a kind that hears answers: nothing is late for a call, and an answer that ends a
-- call writes no effect.
pub record Hearing (T : Type 0) : Type 0 where
  pub machines : Machines T
  pub decides : MayDecide machines.kind
  pub alone : (going : Option (Start T × Flight T)) (late : List (Event T)) → IsLate machines.kind going late → late ≡ []
  pub quiet : (w : World T) (p : ℕ) (flight : Flight T) (answer : Answer T) → is_question (want_of machines.code flight) ≡ true
      → goes_of machines.code p flight (number_of false) w.kept ≡ Done answer → machines.effects w p flight (number_of false) ≡ []

module _ {T : Type 0} (hearing : Hearing T) where
  open hearing use {machines.{code, kind, effects, size_of, laws}, decides, alone, quiet}

  -- ---- the machine is handed the answer

  -- a seat of the table whose call rests: it stands at a question that the answer no ends
  pub record Rests (v : View T) (key id : ℕ) : Type 0 where
    -- the table, the machine that it is, and that the seat has this view
    pub s : State (Unit {0}) (View T)
    pub r : IsMachine code kind key s
    pub at : get_elem? s.views id ≡ some v
    pub known : v.capacity ≡ key
    pub h : IsResting code v

  module _ {v : View T} {key id : ℕ} (rests : Rests v key id) where
    open rests use {s, r, at, known, h}

    -- the seat fits the machine of the table
    here : Fits r.owner r.trace id v
    here = r.seats id v at

    -- the party whose call rests is one of the seat's
    mine : r.owner h.party ≡ id
    mine = subst (λ (o : Option ℕ). IfSome o (λ q. r.owner q ≡ id)) h.mine here.party

    -- nothing is late for the seat
    none : here.late ≡ []
    none = grind arith

    -- the machine stands at the table's words, and the seat has gained nothing yet
    between : Between code kind key r.owner s id h.party [] r.trace
    between =
        at_first id h.party r [] mine (here.self h.some)
        (λ q of_id ne. here.idle q of_id
        (λ e. (let both : ◌≡◌ {A = Option ℕ} (Some h.party) (Some q) = sym h.mine ∙ e in let same : h.party ≡ q = cc in ne (sym same))))
        (λ x there f. (
        let same : sum_by f x.made ≡ sum_by f v.made = ap (λ (z : View T). sum_by f z.made) (some-injective x v (sym there ∙ at)) in
        let none_written : sum_by f here.late ≡ 0 = ap (sum_by f) none in
        omega (arith, here.made f)))

    -- in the machine the party's call stands at its question
    there : call_in r.trace.world h.party ≡ Some (h.start, h.flight)
    there = here.going h.party mine h.mine ∙ h.going

    -- the answer no ends the call
    comes : goes_of code h.party h.flight (number_of false) r.trace.world.kept ≡ Done h.answer
    comes = h.ends r.trace.world.kept

    -- the machine does not refuse the answer
    free : refusal_as kind r.trace.world (Decide h.party false) ≡ None
    free = grind (arith, decide_as, false, flight_is, stands, there)

    -- the turn at which the machine is handed the answer no
    abbrev answering : Answering T
    answering =
        record {
          turning = turning_at (laws key) between;
          start = h.start;
          flight = h.flight;
          next = Done h.answer;
          said = false;
          at = there;
          free = free;
          comes = comes;
        }

    -- the response of the call that rested
    abbrev end : List (Event T)
    end = Finished h.party h.start h.answer ∷ []

    -- the machine after the answer
    abbrev u_then : Trace T
    u_then = after_turn r.trace (Decide h.party false)

    -- what the seat has gained with the answer
    abbrev gained_then : List (Event T)
    gained_then = [] ++ events_by h.party (events_of r.trace.world (Decide h.party false))

    -- after the answer the machine stands at the table's words
    pub between_then : Between code kind key r.owner s id h.party gained_then u_then
    between_then = decided answering

    -- the view of the seat once the machine has been handed the answer no, which ends its call
    abbrev pub view_settled : View T
    view_settled = view_after h.party between_then.one.turns v.asked v.aside v gained_then u_then

    -- the table with the seat's view after the answer
    abbrev pub table_settled : State (Unit {0}) (View T)
    table_settled = record { words = s.words; homes = s.homes; views = slice_set s.views id view_settled }

    -- the view that has settled has gained the turn of the answer
    gains_settled : Gains s.views v v.asked v.aside (steps_of_run code kind key between_then.one.turns)
    unfolding between_then between
    gains_settled =
        record {
          old = steps_of_run code kind key r.one.turns;
          n = 0;
          have = r.asked;
          has = asked_at id at r.known.shares r.asked;
          more = decided_took answering;
          own = omega arith;
        }

    -- what the seat has asked for is still counted right
    has_settled : HasAsked view_settled (steps_of_run code kind key between_then.one.turns)
    has_settled = gains_has gains_settled refl

    -- the table with this view is a machine
    pub machine_settled : IsMachine code kind key table_settled
    machine_settled = settle_so s at h.some between_then gains_settled

    -- an answer is no look of a state, so the state of the party stays
    state_stays : view_settled.state ≡ v.state
    state_stays = grind (arith, between_then, free, here, mine)

    -- the answer has no effect besides the call's end
    wrote_none : effects r.trace.world h.party h.flight (number_of false) ≡ []
    wrote_none = quiet r.trace.world h.party h.flight h.answer h.asks comes

    -- the turn of the answer writes the response alone
    told_end : events_of r.trace.world (Decide h.party false) ≡ end
    told_end = heard answering ∙ ap (λ zs. zs ++ end) wrote_none

    -- that is what the seat has gained
    own_end : gained_then ≡ end
    own_end = own_heard answering ∙ ap (λ zs. events_by h.party zs ++ end) wrote_none

    -- the pass has made the response
    made_end : view_settled.made ≡ v.made ++ end
    made_end = ap (λ zs. v.made ++ zs) own_end

    -- a pass with a share has seen all events of its own party
    seen_own : events_by h.party here.seen.rest ≡ []
    seen_own = grind (arith, here, mine, same_rest, by_more, none, there)

    -- a pass with the whole share has seen all events
    seen_all : IsAll v.share → here.seen.rest ≡ []
    seen_all all =
        ⊎_elim (λ (e : v.seen ≡ r.trace.events). no_rest v.seen here.seen.rest (e ∙ here.seen.is))
        (λ (e : v.other ≡ r.trace.events). none_after v.seen here.seen.rest (sym (sym here.seen.is ∙ (sym e ∙ h.alone))))
        (known_whole id at all r.known)

    -- the machine after the answer is a run
    run_then : IsRun code kind v.capacity u_then
    run_then = subst (λ n. IsRun code kind n u_then) (sym known) between_then.run

    -- a pass whose call rests settles by the answer
    pub settles : Settles code kind v view_settled
    settles =
        record {
          resting = h;
          -- the answer changes neither capacity, party, share nor state, and no call is under way
          capacity = refl;
          party = sym h.mine;
          share = refl;
          state = state_stays;
          idle = decided_at answering;
          -- the answer is no operation
          asked = no_more v.asked;
          aside = refl;
          fresh = refl;
          -- what others did before, and then the response, which the pass made
          others = here.seen.rest;
          seen = ap (λ zs. r.trace.events ++ zs) told_end ∙ ap (λ zs. zs ++ end) here.seen.is;
          alone = seen_all;
          others_own = seen_own;
          made = made_end;
          -- what is seen is the history of the machine with the answer
          history = record { trace = u_then; run = run_then; is = refl };
          ran =
              subst (λ n. Continues code kind n v view_settled) (sym known)
              (continues_all id between_then.one at between_then.run refl refl refl has_settled);
          all = made_between between_then v at;
          parties = record { owner = r.owner; seat = id; sums = λ f. sum_by-append f v.made gained_then ∙ between_then.made_own v at f };
        }

  -- ---- a look with which the call that rests is ended

  -- a pass whose call rests settles with the load of any word of the table, which changes no word
  pub settles_at : (key slots id word : ℕ) (v : View T) → v.capacity ≡ key → IsResting code v
      → Allows (IsMachine code kind key) slots id (v, []) word (λ n. n) (λ found me. Settles code kind v me.0 × (me.1 ≡ []))
  settles_at key slots id word v known is_resting s r long at small =
      let rests : Rests v key id = record { s = s; r = r; at = at; known = known; h = is_resting } in
      -- the table's words stay, and the seat's view is the one in which its call has ended
      let w = view_settled rests in (
        w,
        table.keeps,
        tt,
        subst (λ ws. IsMachine code kind key (record { words = ws; homes = s.homes; views = slice_set s.views id w })) (sym (set_same s.words word))
            (machine_settled rests),
        (settles rests, refl),
      )

  -- ---- a call begins after one that rests

  -- A call of the driver that may begin on a pass whose last call rests: what it wants, and how it goes on.
  pub record NextCall (C M E : Type 0) : Type 1 where
    pub want : C → Want (Unit {0})
    pub after : C → ℕ → After C E
    pub kept : C → M → ℕ → M
    -- where it stands and how it has ended, and the stages at which its steps keep the rule
    pub Stage : View T → View T → C → M → Type 0
    pub Over : View T → E → M → View T → Type 0
    pub may : C → Type 0
    pub keeps : KeepsWhere code kind size_of may Stage Over want after kept
    -- where it may begin: at a word of the structure, also in the view in which the last call has ended
    pub Begins : View T → C → M → Type 0
    pub asks : (v : View T) (c : C) (m : M) → Begins v c m → AsksFor (size_of v.capacity) (want c)
    pub stays : (v w : View T) (c : C) (m : M) → Settles code kind v w → Begins v c m → Begins w c m
    -- there it is at its first stage, at which it is on no pass whose call rests
    pub first : (v : View T) (c : C) (m : M) → Begins v c m → v.going ≡ None → v.other ≡ [] → 0 < v.share.part → Stage v v c m
    pub apart : (base v : View T) (c : C) (m : M) → IsResting code v → Begins v c m → Stage base v c m → ⊥

  module _ {C M E : Type 0} (next_call : NextCall C M E) where
    open next_call use {want, after, kept, Stage, Over, may, keeps, Begins, asks, stays, first, apart}

    -- the call waits to begin, or is at `Stage`, counted from the view in which the last one had ended
    abbrev StandsRested : View T → View T → C → M → Type 0
    StandsRested base v c m = AtWaiting code kind Begins Stage base v c m

    -- the call is over, counted from the view in which the last one had ended
    abbrev OverRested : View T → E → M → View T → Type 0
    OverRested base e m w = EndsSettled code kind Over base e m w

    -- what a step has to tell, where the last call may rest
    abbrev ToldRested : C → M → View T → ℕ → View T → Type 0
    ToldRested c m = Told (λ (z : View T). z.capacity) StandsRested OverRested after kept c m

    -- what a step has to tell, where no call rests
    abbrev ToldStage : C → M → View T → ℕ → View T → Type 0
    ToldStage c m = Told (λ (z : View T). z.capacity) Stage Over after kept c m

    -- what a step has made of the call, counted from `from`, it has made of the call counted from `base`,
    -- where `from` is the view in which the last call had ended
    onward : (base from : View T) → SettledFrom code kind base from → (a : After C E) (m : M) (w : View T)
        → NextKnown (λ (z : View T). z.capacity) Stage Over from a m w → NextKnown (λ (z : View T). z.capacity) StandsRested OverRested base a m w
    onward = grind arith

    -- what a step tells of a call that is under way already, counted from the view from which it began, it tells
    -- where the last call may rest: the call does not wait to begin
    told_begun : (base₀ v : View T) (c : C) (m : M) → Stage base₀ v c m → (n : ℕ) (w : View T) → ToldStage c m v n w → ToldRested c m v n w
    told_begun = grind (arith, onward)

    -- who has still to begin
    module _ {v : View T} {c : C} {m : M} (key words slots id : ℕ) (wide : words ≡ size_of key + 1) (known : v.capacity ≡ key) (h : IsResting code v)
        (begins : Begins v c m) (ok : may c) where
      -- the call asks for a word of the structure
      word : AsksFor (size_of key) (want c)
      word = subst (λ n. AsksFor (size_of n) (want c)) known (asks v c m begins)

      -- the word that the call asks for
      abbrev ask : Ask
      ask = word.0

      -- the view of the seat once the call that rested has ended
      abbrev settled : Rests v key id → View T
      settled rests = view_settled rests

      -- the call is at its first stage in the view in which the last one had ended
      first_then : (rests : Rests v key id) → Stage (settled rests) (settled rests) c m
      first_then rests =
          let ended = settles rests in first (settled rests) c m (stays v (settled rests) c m ended begins) ended.idle ended.fresh h.some

      -- what its first step tells of that view, it tells of the view in which the last call rested
      told_first : (rests : Rests v key id) (n : ℕ) (w : View T) → ToldStage c m (settled rests) n w → ToldRested c m v n w
      told_first rests n w told = (told.0, λ base rested. go base rested)
        where
          -- what a step tells of the view in which the last call had ended, it tells of the view before that,
          -- in each drive
          go : (base : View T) → StandsRested base v c m → NextKnown (λ (z : View T). z.capacity) StandsRested OverRested base (after c n) (kept c m n) w
          go base (inl begun) = absurd (apart begun.from v c m h begins begun.stage)
          go base (inr waits) =
              onward base (settled rests) (inr (subst (λ z. Settles code kind z (settled rests)) waits.is (settles rests)))
              (after c n) (kept c m n) w (told.1 (settled rests) (first_then rests))

      -- the call may begin in the view in which the last one had ended, so its first step
      -- keeps the rule there
      owed : (rests : Rests v key id)
          → OwesAsk (λ (z : View T). z.asked) (IsMachine code kind key) words slots id (ToldStage c m) ask.word ask.op (settled rests, [])
      owed rests =
          let keeps_there = keeps (settled rests) (settled rests) c m key words slots id in
          subst (λ w. Owes (λ (z : View T). z.asked) (IsMachine code kind key) words slots id (ToldStage c m) w (settled rests, []))
          word.2 (keeps_there ok wide known (first_then rests))

      -- the word is one of the table's
      below : ask.word < words
      below = omega (arith, word.1)

      -- The first step of the next call keeps the rule: the machine is handed the answer no, and
      -- then takes the step.
      first_keeps : OwesAsk (λ (z : View T). z.asked) (IsMachine code kind key) words slots id (ToldRested c m) ask.word ask.op (v, [])
      first_keeps = (
        below,
        λ s r long at small. (
            let rests : Rests v key id = record { s = s; r = r; at = at; known = known; h = h } in
            let first_step = (owed rests).1 (table_settled rests) (machine_settled rests) in
            let (w, act, valid, holds, (told, counts, carried)) = first_step long (set_here s.views id (settled rests) (within s.views id v at)) small in (
              w,
              act,
              valid,
              holds_put (IsMachine code kind key) s id (settled rests) w ask.word (written ask.op (slice_index s.words ask.word)) act holds,
              (told_first rests _ w told, counts, carried),
            )),
      )

    -- each step of a call that comes after one that rests keeps the rule
    pub keeps_waiting_where : KeepsWhere code kind size_of may StandsRested OverRested want after kept
    keeps_waiting_where base₀ v c m key words slots id ok wide known (inl begun) =
        let keeps_there = keeps begun.from v c m key words slots id in
        owes_more (record { key = key; words = words; slots = slots; id = id; v = v; told = ToldStage c m }) (ToldRested c m) (want c)
        (keeps_there ok wide known begun.stage) (told_begun begun.from v c m begun.stage)
    keeps_waiting_where base₀ v c m key words slots id ok wide known (inr waits) =
        let resting = subst (λ z. IsResting code z) (sym waits.is) waits.resting in
        let begins = subst (λ (z : View T). Begins z c m) (sym waits.is) waits.first in
        subst (λ w. Owes (λ (z : View T). z.asked) (IsMachine code kind key) words slots id (ToldRested c m) w (v, []))
        (sym (word key words slots id wide known resting begins ok).2)
        (first_keeps key words slots id wide known resting begins ok)

    -- where its steps keep the rule at every stage, so do they on a pass whose last call rests
    pub keeps_waiting : ((c : C) → may c) → KeepsRule (λ (z : View T). z.asked) (λ (z : View T). z.capacity)
        StandsRested OverRested (λ key. size_of key + 1) (λ key. key) (λ key. IsMachine code kind key) want after kept
    keeps_waiting every base v c m key words slots id = keeps_waiting_where base v c m key words slots id (every c)
