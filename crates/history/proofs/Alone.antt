-- A machine of any kind with one pass, which makes calls as party 0: which words, turns and events it has
-- after those calls, from its opening on (`Here`).
use Rattle.history.proofs.Names.{◌≡◌, ◌≢◌, ℕ, zero, suc, ◌+◌, ◌<◌, Option, Some, None, IfSome, List, [], ◌∷◌, ◌++◌}
use Rattle.history.proofs.Names.{slice_index, slice_set, refl, sym, ap, subst, ◌∙◌, append-nil, arith, sum_by}
use Rattle.history.proofs.Names.{written, Ask, After, GoOn, Answer, Event, Begun, Start, Flight, Kind, Turn, Begin, Next}
use Rattle.history.proofs.Names.{Coding, IsCoding, opening_of, want_of, after_of, goes_of, first_row, answer_in}
use Rattle.history.proofs.Names.{after_turn, events_of, ending_of, state_in, World, Trace, capacity_error}
use Rattle.history.proofs.Names.{IsFreshCall, all_shares}
use mathlib.Core.Option.{some, some-injective, some-ne-none}
use lib.ListN.{get_elem?}
use Rattle.atomic_table.specs.Table.{State, opening}
use Rattle.steps.specs.declared.ask.After.TheVariants.{Done}
use Rattle.steps.specs.declared.ask.Want.TheVariants as wants
use Rattle.model.specs.World as worlds
use Rattle.history.specs.declared.view.View.{View}
use Rattle.history.specs.History.{IsRun, IsMachine, OneRun, Knew, Knows, call_in, others_in, HasAsked, nexts, steps_of_run}
use Rattle.history.proofs.Asked.{Gains, first_asked, nexts_begin, nexts_next}
use Rattle.model.specs.Turns.{step_count}
use Rattle.steps.specs.declared.container.state.ContainerState.{ContainerState}
use Rattle.history.specs.Known.{owned, events_by}
use Rattle.history.specs.Stages.{Calling, Starts, rows_as}
use Rattle.history.specs.Views.{first_view}
use Rattle.history.proofs.Reached.{reached_as_opening, fresh_as_opening, next_as}
use Rattle.history.proofs.OneRun.{first_none, one_opens, one_more, knows_all}
use Rattle.history.proofs.Calls.{call_then, stateless_none}
use Rattle.history.proofs.Known.{by_mine, AreOf}
use Rattle.history.proofs.AllSeen.{known_alone}
use Rattle.history.proofs.Steps.{settle_with}
use Rattle.history.proofs.Turns.{KeptLaws, MachineLaws, kept_laws, Between, Turning, Beginning, Going, begun, begun_at, begun_others, begins_free}
use Rattle.history.proofs.Turns.{more_steps, asked, goes_free, gone, gone_others, goes_to, fresh_now, told, own_told}

-- each party has a seat of its own
abbrev pub same_seat : ℕ → ℕ
same_seat p = p

-- machines of one kind and capacity: what their steps write, how many words they have, and
-- the laws of the kind
pub record OneMachine (T : Type 0) : Type 0 where
  pub code : Coding T
  pub kind : Kind
  pub capacity : ℕ
  -- how many words the machine has, what a step of its calls writes, and the laws of the kind
  pub size : ℕ
  pub effects : World T → ℕ → Flight T → ℕ → List (Event T)
  pub laws : MachineLaws code kind capacity size effects

module _ {T : Type 0} (machine : OneMachine T) where
  open machine use {code, kind, capacity, size, effects, laws}

  -- the laws of the kind, as the more general ones
  there_laws : KeptLaws code kind capacity size effects
  there_laws = kept_laws code kind capacity size effects laws

  -- the table with these words and one seat
  abbrev alone : List ℕ → State (Unit {0}) (View T)
  alone words = record { words = words; homes = []; views = first_view capacity ∷ [] }

  -- These turns lead from the opening to a machine that has these words (but the table's last one) and these
  -- events, and party 0 has this call under way there.
  pub record Here (words : List ℕ) (ts : List (Turn T)) (es : List (Event T)) (going : Option (Start T × Flight T)) : Type 0 where
    -- the machine, which stands at the table's words
    pub u : Trace T
    pub between : Between code kind capacity same_seat (alone words) 0 0 es u
    -- the table has one run, of just these turns and events
    pub one : OneRun code kind capacity (first_view capacity ∷ []) u
    pub turns : one.turns ≡ ts
    pub events : u.events ≡ es
    -- where party 0 stands: its call, no changes of words by others, and the steps of the run are the turns
    -- that go on with a call
    pub there : call_in u.world 0 ≡ going
    pub others : others_in u.world 0 ≡ 0
    pub steps : steps_of_run code kind capacity one.turns ≡ nexts ts

  -- party 0 of this machine, as one that is to take a turn
  abbrev turning : {words : List ℕ} {ts : List (Turn T)} {es : List (Event T)} {going : Option (Start T × Flight T)} → Here words ts es going → Turning T
  turning {words} {ts} {es} here =
      record {
        code = code;
        kind = kind;
        capacity = capacity;
        words = size;
        effects = effects;
        laws = there_laws;
        owner = same_seat;
        s = alone words;
        id = 0;
        p = 0;
        gained = es;
        u = here.u;
        b = here.between;
      }

  -- a machine that has just been opened has no turn, no event and no call under way
  pub opens_here : IsCoding code → capacity_error kind capacity ≡ None → Here ((opening_of kind).words code.size capacity ++ 0 ∷ []) [] [] None
  opens_here coded admitted =
      let trace_now : Trace T = worlds.opening code kind capacity 0 in
      let known = known_alone (first_view capacity) refl refl in
      record {
        -- the machine is the opening, and the one run is that of no turns
        u = trace_now;
        -- no party has done anything, and nobody has a call under way
        between =
            record {
              run = record {
                reached = reached_as_opening code kind capacity 0 coded admitted;
                coded = refl;
                of_kind = refl;
                sized = refl;
                fresh
                    = fresh_as_opening code kind capacity 0;
              };
              words = refl;
              others = λ j v ne at. absurd (other j v ne at);
              mine = refl;
              self = refl;
              idle = λ q of_id ne. refl;
              made_own = made_own;
              inside = λ q low. low;
              fresh = λ q past. refl;
              further = λ j ne past. refl;
              made_none = λ j ne past. refl;
              shares = known.shares;
              someone = refl;
              spent = known.spent;
              one = first_run;
            };
        one = first_run;
        turns = refl;
        events = refl;
        there = refl;
        others = refl;
        steps = refl;
      }
    where
      -- the first pass knows no turn
      knew : (j : ℕ) (v : View T) → get_elem? (first_view capacity ∷ []) j ≡ some v → Knew [] v
      knew zero v has_view = subst (λ z. Knew [] z) (some-injective (first_view capacity) v has_view) (record { mine = first_none []; theirs = first_none [] })
      knew (suc j) v has_view = absurd (some-ne-none v (sym has_view))

      -- the run of the opening, with no turn
      first_run : OneRun code kind capacity (first_view capacity ∷ []) (worlds.opening code kind capacity 0)
      first_run = one_opens code kind capacity (first_view capacity ∷ []) knew

      -- the table has no second seat
      other : (j : ℕ) (v : View T) → j ≢ 0 → get_elem? (first_view capacity ∷ []) j ≡ some v → ⊥
      other zero v ne has_view = ne refl
      other (suc j) v ne has_view = some-ne-none v (sym has_view)

      -- the first pass has made nothing, as its parties have written nothing
      made_own : (v : View T) → get_elem? (first_view capacity ∷ []) 0 ≡ some v → (f : Event T → ℕ) → sum_by f v.made + 0 ≡ 0
      made_own = grind (arith, some-injective)

  -- ---- a call begins

  -- the view of the only pass, which has made all events
  abbrev pub maker : List (Turn T) → List (Event T) → View T
  maker ts es =
      record {
        capacity = capacity;
        party = Some 0;
        share = all_shares;
        seen = es;
        other = [];
        turns = ts;
        other_turns = [];
        made = es;
        going = None;
        state = None;
        asked = nexts ts;
        aside = 0;
        taken = 0;
        others = 0;
      }

  -- by every measure, what the only pass has made are the events of its parties
  pub sums : (words : List ℕ) (ts : List (Turn T)) (es : List (Event T)) (going : Option (Start T × Flight T))
      → (h : Here words ts es going) → (f : Event T → ℕ)
      → sum_by f (maker ts es).made ≡ sum_by (owned same_seat 0 f) h.u.events
  sums words ts es going h f = omega (arith, h.between.made_own (first_view capacity) refl f)

  -- a call that the model does not refuse begins, as the call of party 0
  pub begins : {C M E : Type 0} (call : Calling T C M E) (c : C) (m : M) (words : List ℕ) (ts : List (Turn T)) (es : List (Event T))
      → (h : Here words ts es None) → Starts code kind call (maker ts es) c m h.u same_seat 0
      → Here words (ts ++ Begin 0 call.start ∷ []) (es ++ Begun 0 call.start ∷ []) (Some (call.start, call.flight c m))
  begins call c m words ts es h starts =
      let is : starts.party ≡ 0 = starts.mine in
      let may : first_row (rows_as kind capacity h.u.world.kept 0 call.start) ≡ None =
      subst (λ p. first_row (rows_as kind capacity h.u.world.kept p call.start) ≡ None) is starts.may in
      let beginning : Beginning T =
      record { turning = turning h; start = call.start; flight = call.flight c m; idle = h.there; first = starts.first; may = may } in
      record {
        u = after_turn h.u (Begin 0 call.start);
        between = begun beginning;
        one = one_more code kind capacity (first_view capacity ∷ []) h.u (Begin 0 call.start) (begins_free beginning) tt h.one;
        turns = ap (λ xs. xs ++ Begin 0 call.start ∷ []) h.turns;
        events = ap (λ xs. xs ++ Begun 0 call.start ∷ []) h.events;
        there = begun_at beginning;
        others = begun_others beginning;
        steps = more_steps code kind capacity h.one.turns h.u (Begin 0 call.start) 0 h.one.is refl
            ∙ (ap (λ n. n + 0) h.steps ∙ sym (nexts_begin ts 0 call.start));
      }

  -- a call that may begin on any machine that fits what the pass made begins on this one
  pub begins_any : {C M E : Type 0} (call : Calling T C M E) (c : C) (m : M) {words : List ℕ} {ts : List (Turn T)} {es : List (Event T)}
      → (h : Here words ts es None)
      → ((t : Trace T) (owner : ℕ → ℕ) (j : ℕ) → IsRun code kind capacity t → owner j ≡ j → IfSome (Some 0) (λ p. owner p ≡ j)
      → ((f : Event T → ℕ) → sum_by f es ≡ sum_by (owned owner j f) t.events) → Starts code kind call (maker ts es) c m t owner j)
      → Here words (ts ++ Begin 0 call.start ∷ []) (es ++ Begun 0 call.start ∷ []) (Some (call.start, call.flight c m))
  begins_any call c m {words} {ts} {es} h starts =
      begins call c m words ts es h (starts h.u same_seat 0 h.between.run refl refl (sums words ts es None h))

  -- ---- the call takes a step

  -- a call at this flight asks for a word of a table with these words, and finds there neither the last position
  -- nor the last version
  pub record AsksHere (words : List ℕ) (flight : Flight T) : Type 0 where
    pub a : Ask
    pub low : a.word < size
    pub asks : want_of code flight ≡ wants.Ask a
    pub finds : IsFreshCall (slice_index words a.word) flight

  module _ {words : List ℕ} {ts : List (Turn T)} {es : List (Event T)} {start : Start T} {flight : Flight T}
      (h : Here words ts es (Some (start, flight))) (ask : AsksHere words flight) where
    open ask use {a, low, asks, finds}

    -- the number that the word has
    abbrev found : ℕ
    found = slice_index words a.word

    -- the step, as one of party 0
    abbrev step : Going T
    step = record { turning = turning h; start = start; flight = flight; ask = Some a; low = low; at = h.there; asks = asks; finds = finds }

    -- where the step leads the call
    abbrev comes : After (Flight T) (Answer T)
    comes = after_of code flight found

    -- the machine's call goes there, whatever the machine keeps
    comes_there : goes_of code 0 flight found h.u.world.kept ≡ comes
    comes_there = grind arith

    -- with the end of the call the step wrote just its own events and that end
    ends_so : (own : List (Event T))
        → own ++ ending_of 0 start (answer_in (goes_of code 0 flight found h.u.world.kept)) ≡ own ++ ending_of 0 start (answer_in comes)
    ends_so = grind arith

    -- `own` is what the step writes, all of it of party 0
    module _ (own : List (Event T)) (is : effects h.u.world 0 flight found ≡ own) (only : AreOf 0 own) where
      -- what the step writes: its effects, and the end of the call where it ends
      abbrev wrote : List (Event T)
      wrote = own ++ ending_of 0 start (answer_in comes)

      -- after a step of the call the machine has its word changed, one turn more, and what the step wrote
      took : Here (slice_set words a.word (written a.op found)) (ts ++ Next 0 ∷ []) (es ++ wrote) (call_then start comes)
      took =
          let tells : events_of h.u.world (Next 0) ≡ wrote =
          told step
          ∙ (ends_so (effects h.u.world 0 flight found) ∙ ap (λ zs. zs ++ ending_of 0 start (answer_in comes)) is) in
          let mine : events_by 0 (effects h.u.world 0 flight found) ≡ own = ap (events_by 0) is ∙ by_mine 0 own only in
          let told_own : events_by 0 (events_of h.u.world (Next 0)) ≡ wrote =
          own_told step
          ∙ (ends_so (events_by 0 (effects h.u.world 0 flight found)) ∙ ap (λ zs. zs ++ ending_of 0 start (answer_in comes)) mine) in
          record {
            u = after_turn h.u (Next 0);
            between =
                subst (λ zs. Between code kind capacity same_seat (alone (slice_set words a.word (written a.op found))) 0 0
                (es ++ zs) (after_turn h.u (Next 0)))
                told_own (gone step);
            one =
                one_more code kind capacity (first_view capacity ∷ []) h.u (Next 0) (next_as kind h.u.world 0 (goes_free step)) (fresh_now step) h.one;
            turns = ap (λ xs. xs ++ Next 0 ∷ []) h.turns;
            events = ap (λ xs. xs ++ events_of h.u.world (Next 0)) h.events ∙ ap (λ zs. es ++ zs) tells;
            there = goes_to step ∙ ap (call_then start) comes_there;
            others = gone_others step ∙ h.others;
            steps =
                more_steps code kind capacity h.one.turns h.u (Next 0) 1 h.one.is
                (ap step_count (asked step))
                ∙ (ap (λ n. n + 1) h.steps ∙ sym (nexts_next ts 0));
          }

    -- a step with which the call goes on and writes nothing changes the word, and adds one turn
    pub goes_on_at : {words' : List ℕ} {next : Flight T} → slice_set words a.word (written a.op found) ≡ words'
        → comes ≡ GoOn next → effects h.u.world 0 flight found ≡ [] → Here words' (ts ++ Next 0 ∷ []) es (Some (start, next))
    goes_on_at {words'} {next} same leads none =
        let quiet : es ++ wrote [] none tt ≡ es = ap (λ (r : After (Flight T) (Answer T)). es ++ ending_of 0 start (answer_in r)) leads ∙ append-nil es in
        subst (λ o. Here words' (ts ++ Next 0 ∷ []) es o) (ap (call_then start) leads)
        (subst (λ zs. Here words' (ts ++ Next 0 ∷ []) zs (call_then start comes)) quiet
        (subst (λ ws. Here ws (ts ++ Next 0 ∷ []) (es ++ wrote [] none tt) (call_then start comes)) same (took [] none tt)))

    -- a step with which the call ends writes its own events and its end, and leaves no call under way
    pub ends_at : {words' : List ℕ} {answer : Answer T} {own : List (Event T)}
        → slice_set words a.word (written a.op found) ≡ words' → comes ≡ Done answer
        → effects h.u.world 0 flight found ≡ own → AreOf 0 own
        → Here words' (ts ++ Next 0 ∷ []) (es ++ (own ++ ending_of 0 start (Some answer))) None
    ends_at {words'} {answer} {own} same leads wrote_own only =
        let last : List (Event T) = own ++ ending_of 0 start (Some answer) in
        let all : wrote own wrote_own only ≡ last = ap (λ (r : After (Flight T) (Answer T)). own ++ ending_of 0 start (answer_in r)) leads in
        subst (λ o. Here words' (ts ++ Next 0 ∷ []) (es ++ last) o) (ap (call_then start) leads)
        (subst (λ zs. Here words' (ts ++ Next 0 ∷ []) (es ++ zs) (call_then start comes)) all
        (subst (λ ws. Here ws (ts ++ Next 0 ∷ []) (es ++ wrote own wrote_own only) (call_then start comes)) same (took own wrote_own only)))

  -- the same holds with the words, the turns, the events and the call as explicit arguments
  module _ (words : List ℕ) (ts : List (Turn T)) (es : List (Event T)) (start : Start T) (flight : Flight T)
      (h : Here words ts es (Some (start, flight))) (a : Ask) (low : a.word < size)
      (asks : want_of code flight ≡ wants.Ask a) (finds : IsFreshCall (slice_index words a.word) flight) where
    -- what the call asks for
    abbrev asks_so : AsksHere words flight
    asks_so = record { a = a; low = low; asks = asks; finds = finds }

    pub goes_on : (words' : List ℕ) (next : Flight T) → slice_set words a.word (written a.op (slice_index words a.word)) ≡ words'
        → after_of code flight (slice_index words a.word) ≡ GoOn next → effects h.u.world 0 flight (slice_index words a.word) ≡ []
        → Here words' (ts ++ Next 0 ∷ []) es (Some (start, next))
    goes_on words' next = goes_on_at h asks_so

    pub ends : (words' : List ℕ) (answer : Answer T) (own : List (Event T))
        → slice_set words a.word (written a.op (slice_index words a.word)) ≡ words' → after_of code flight (slice_index words a.word) ≡ Done answer
        → effects h.u.world 0 flight (slice_index words a.word) ≡ own → AreOf 0 own
        → Here words' (ts ++ Next 0 ∷ []) (es ++ (own ++ ending_of 0 start (Some answer))) None
    ends words' answer own = ends_at h asks_so

  -- the only pass has asked for just the steps of its turns
  all_of : (ts : List (Turn T)) (es : List (Event T)) → HasAsked (maker ts es) (nexts ts)
  all_of ts es = record { share = (omega arith, omega arith); most = omega arith; all = λ whole. omega arith }

  -- the view of the only pass gains all turns and events from the opening on
  gains_so : {words : List ℕ} {ts : List (Turn T)} {es : List (Event T)} → (h : Here words ts es None)
      → Gains (first_view {T = T} capacity ∷ []) (first_view {T = T} capacity) (nexts ts) 0 (steps_of_run code kind capacity h.one.turns)
  gains_so {ts = ts} h =
      record {
        old = 0;
        n = nexts ts;
        have = first_asked capacity;
        has = record { share = (omega arith, omega arith); most = omega arith; all = λ whole. refl };
        more = omega (arith, h.steps);
        own = omega arith;
      }

  -- the only pass knows the run of these turns
  pub knows_so : (words : List ℕ) (ts : List (Turn T)) (es : List (Event T)) → Here words ts es None → Knows code kind capacity (maker ts es)
  knows_so words ts es here =
      knows_all code kind capacity here.one here.between.run
      (sym here.turns) (sym here.events) (sym here.others)
      (subst (λ n. HasAsked (maker ts es) n) (sym here.steps) (all_of ts es))

  -- ---- a table opens with this machine

  -- a table whose words are those of the machine, and whose one view is that of its only pass, holds the rule
  pub opens_so : (words : List ℕ) (ts : List (Turn T)) (es : List (Event T)) → Here words ts es None
      → IsMachine code kind capacity (opening words [] (maker ts es))
  opens_so words ts es here =
      let first : View T = first_view capacity in
      subst (λ v. IsMachine code kind capacity (opening words [] v))
      (ap (λ zs. so here.one.turns zs (call_in here.u.world 0) (state_in here.u.world.kept 0) (others_in here.u.world 0)) here.events
      ∙ (ap (λ o. so here.one.turns es o (state_in here.u.world.kept 0) (others_in here.u.world 0)) here.there
      ∙ (ap (λ z. so here.one.turns es None z (others_in here.u.world 0)) (stateless_none here.u.world.kept 0 (laws.stateless here.u here.between.run))
      ∙ (ap (λ xs. so xs es None None (others_in here.u.world 0)) here.turns ∙ ap (λ n. so ts es None None n) here.others))))
      (settle_with {id = 0} {p = 0} {taken = 0} (alone words) refl (omega arith)
      (λ call is. (let no : ◌≡◌ {A = Option (Start T × Flight T)} None (Some call) = sym here.there ∙ is in absurd (cc)))
      here.between here.one (gains_so here))
    where
      -- the view of the only pass, with a call under way, a state and a number of changes by others that its
      -- fields take over
      so : List (Turn T) → List (Event T) → Option (Start T × Flight T) → Option (ContainerState T) → ℕ → View T
      so xs zs o z n =
          record (maker ts es) { seen = zs; turns = xs; going = o; state = z; others = n }
