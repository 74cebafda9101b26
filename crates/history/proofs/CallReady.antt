-- The machine before a step of a call: what the view says there, as which party the call goes on, and what is written.
use Rattle.history.proofs.Names.{◌≡◌, inl, inr, ⊎_elim, ℕ, ◌+◌, ◌<◌, ◌≤◌, Option, Some, None, IfSome, List, [], ◌∷◌, ◌++◌}
use Rattle.history.proofs.Names.{sym, ap, subst, ◌∙◌, append_assoc, append-nil, arith, sum_by, Event, Begun, Start}
use Rattle.history.proofs.Names.{Flight, Registry, Kind, Begin, Coding, first_of, kept_after_begin, state_in}
use Rattle.history.proofs.Names.{first_row, after_turn, Trace, IsAll}
use mathlib.Core.Option.{some, some-injective}
use lib.ListN.{get_elem?}
use Rattle.atomic_table.specs.Table.{State}
use Rattle.history.specs.declared.view.View.{View}
use Rattle.history.specs.Known.{events_by, by_party, owned}
use Rattle.history.specs.History.{IsRun, IsMachine, AreFirst, Fits, IsLate, call_in, steps_in, HasAsked, HaveAsked, steps_of_run}
use Rattle.history.specs.Stages.{Calling, LeavesState, opened, Starts, At, rows_as, taken_by}
use Rattle.history.proofs.Known.{by_more, nil_right, idle_seat, none_late}
use Rattle.history.proofs.AllSeen.{known_whole}
use Rattle.history.proofs.Calls.{begins_no_look}
use Rattle.history.proofs.OneRun.{first_all}
use Rattle.history.proofs.Turns.{Machines, Between, Beginning, at_first, begun, begun_at, begun_kept, begun_steps, begun_took, begins_free, turning_at}
use Rattle.history.proofs.Asked.{asked_at}
use Rattle.history.proofs.CallsIn.{no_rest, same_rest, none_after, Prior}

-- lists put together in one order of brackets are the same in another
moved_in : {A : Type 0} → (xs os ds rest : List A) → (xs ++ (os ++ (ds ++ []))) ++ rest ≡ xs ++ (os ++ (ds ++ rest))
moved_in xs os ds rest =
    append_assoc xs (os ++ (ds ++ [])) rest
    ∙ ap (λ zs. xs ++ zs) (append_assoc os (ds ++ []) rest ∙ ap (λ zs. os ++ zs) (ap (λ zs. zs ++ rest) (append-nil ds)))

-- adding 0 changes no number
none_more : {a b : ℕ} → a ≡ b + 0 → b ≡ a
none_more a_is = omega arith

module _ {T C M E : Type 0} {code : Coding T} {kind : Kind} {call : Calling T C M E} {base v : View T} {c : C} {m : M} where
  -- the capacity stays
  pub same_capacity : At code kind call base v c m → v.capacity ≡ base.capacity
  same_capacity = grind arith

  -- the turns that were known as the drive began are the first of those that are known now
  pub came_first : At code kind call base v c m → AreFirst base.turns v.turns
  came_first (inl first) = subst (λ (z : View T). AreFirst base.turns z.turns) (sym first.is) (first_all base.turns)
  came_first (inr under) = under.ran.first

  -- the share stays
  pub same_share : At code kind call base v c m → v.share ≡ base.share
  same_share = grind arith

  -- the pass has a share
  pub some_share : At code kind call base v c m → 0 < v.share.part
  some_share = grind arith

  -- what holds of the call between two steps holds
  pub still_stands : At code kind call base v c m → call.stands base.capacity c
  still_stands = grind arith

  -- since the drive began at most the steps of its call were asked for
  pub asked_so : At code kind call base v c m
      → v.asked + taken_by base.going base.taken ≤ base.asked + taken_by v.going v.taken
  asked_so = grind arith

module _ {T C M E : Type 0} (machines : Machines T) (call : Calling T C M E) where
  open machines use {code, kind, effects, size_of, laws}

  -- the call is about to begin, or under way, in the view v
  abbrev CallStands : View T → View T → C → M → Type 0
  CallStands base v c m = At code kind call base v c m

  -- ---- the machine, before the step

  -- what the call wrote as far as the seat has seen it (`wrote`), what another wrote for it since (`late`),
  -- and what had happened as the drive began
  pub record Told_by (p : ℕ) (c : C) (m : M) (base : View T) (events made : List (Event T)) : Type 0 where
    pub wrote : List (Event T)
    -- the call may have written that up to this stage, and the rest may come late for it
    pub tells : call.wrote base.capacity p base.going c m wrote
    pub late : List (Event T)
    pub waits : IsLate kind (Some (call.start, call.flight c m)) late
    pub prior : Prior p call.start (wrote ++ late) base events made

  -- what the machine keeps where the call has just begun
  pub record Began (key p : ℕ) (v : View T) (now : Registry T) : Type 0 where
    pub t : Trace T
    pub run : IsRun code kind key t
    pub kept : now ≡ kept_after_begin code key call.start p t.world.kept
    pub stated : v.party ≡ Some p → state_in t.world.kept p ≡ v.state

  -- The machine before a step of the seat's call, whose begin is made first where the call is about to begin:
  -- party p has the call there, at this stage.
  pub record Ready (s : State (Unit {0}) (View T)) (v : View T) (key id : ℕ) (c : C) (m : M) : Type 0 where
    -- the party, the owner of each party, what the seat has still to see, and the machine
    pub p : ℕ
    pub owner : ℕ → ℕ
    pub gained : List (Event T)
    pub u : Trace T
    pub between : Between code kind key owner s id p gained u
    -- the call stands at this stage, the party may make it, and it has written what it may
    -- have written up to there
    pub there : call_in u.world p ≡ Some (call.start, call.flight c m)
    pub by : (base : View T) → CallStands base v c m → call.by base.party p
    pub prior : (base : View T) → CallStands base v c m → Told_by p c m base u.events (v.made ++ gained)
    -- the steps of the call in the machine are those that the view counts, none where it has just begun
    pub counted : steps_in u.world p ≡ taken_by v.going v.taken
    pub began : v.going ≡ None → Began key p v u.world.kept
    -- where the call was under way already, it was the call of the pass's party, whose
    -- state the machine keeps
    pub held : v.going ≡ Some (call.start, call.flight c m) → state_in u.world.kept p ≡ v.state
    pub as_party : v.going ≡ Some (call.start, call.flight c m) → v.party ≡ Some p
    -- a call that is no look of a state finds the state that the view has
    pub state : LeavesState call → v.party ≡ Some p → state_in u.world.kept p ≡ v.state
    -- what all seats have asked for, and what this one has, is counted right by the steps of the run
    pub have : HaveAsked s.views (steps_of_run code kind key between.one.turns)
    pub has : HasAsked v (steps_of_run code kind key between.one.turns)

  -- a seat whose call is about to take its next step
  pub record Seat : Type 0 where
    pub s : State (Unit {0}) (View T)
    pub v : View T  -- what the seat knows
    pub key : ℕ  -- of the table
    pub id : ℕ  -- of the seat
    pub c : C
    pub m : M
    pub at : get_elem? s.views id ≡ some v
    pub known : v.capacity ≡ key
    pub y : Ready s v key id c m  -- the machine before the step

  -- a seat on a table that is a machine, with the stage and the room of the seat's call
  pub record OnTable : Type 0 where
    pub s : State (Unit {0}) (View T)
    pub v : View T  -- what the seat knows
    pub key : ℕ  -- of the table
    pub id : ℕ  -- of the seat
    pub c : C
    pub m : M
    pub r : IsMachine code kind key s
    pub at : get_elem? s.views id ≡ some v
    pub known : v.capacity ≡ key

  module _ (place : OnTable) where
    open place use {s, v, key, id, c, m, r, at, known}

    -- the seat fits the machine of the table
    here : Fits r.owner r.trace id v
    here = r.seats id v at

    -- a pass with the whole share that knows one history alone has seen all events
    nothing_else : IsAll v.share → v.other ≡ [] → here.seen.rest ≡ []
    nothing_else all alone =
        ⊎_elim (λ (e : v.seen ≡ r.trace.events). no_rest v.seen here.seen.rest (e ∙ here.seen.is))
        (λ (e : v.other ≡ r.trace.events). none_after v.seen here.seen.rest (sym (sym here.seen.is ∙ (sym e ∙ alone))))
        (known_whole id at all r.known)

    -- if what the seat has seen of a party and what is late are all of its events, what the seat has still to see of it is late
    not_seen : (p : ℕ) → events_by p v.seen ++ events_by p here.late ≡ events_by p r.trace.events → events_by p here.seen.rest ≡ events_by p here.late
    not_seen = grind (arith, same_rest, by_more)

    -- if nothing is late, the seat's parties wrote nothing that the seat has not seen
    nothing_own : 0 < v.share.part → v.other ≡ [] → here.late ≡ [] → (p : ℕ) → r.owner p ≡ id → events_by p here.seen.rest ≡ []
    nothing_own = grind (arith, not_seen, nil_right, by_more)

    -- what the seat has asked for is counted right
    pub has_asked : HasAsked v (steps_of_run code kind key r.one.turns)
    has_asked = asked_at id at r.known.shares r.asked

    -- what is late may come late for the seat's call
    late_here : IsLate kind v.going here.late
    late_here = subst (λ k. IsLate k v.going here.late) r.run.of_kind here.waits

    -- nothing is late for a seat without a call under way
    none_late_here : v.going ≡ None → here.late ≡ []
    none_late_here = grind arith

    -- of a call that is about to begin: with its begin the party has written nothing else
    first_prior : (p : ℕ) → r.owner p ≡ id → (base : View T) → v.going ≡ None → CallStands base v c m
        → Told_by p c m base (r.trace.events ++ Begun p call.start ∷ []) (v.made ++ Begun p call.start ∷ [])
    first_prior = grind (arith, opened, none_late, append-nil, nothing_else, nothing_own, some_share, none_late_here)

    -- the party of a call under way has seen all its events, but for what is late
    late_own : (p : ℕ) → r.owner p ≡ id → v.party ≡ Some p → v.going ≡ Some (call.start, call.flight c m)
        → 0 < v.share.part → events_by p here.seen.rest ≡ here.late
    late_own = grind (arith, not_seen, by_party)

    -- of a call under way: since it began, or since the drive began, its party has written what the call
    -- tells and what is late, and nothing else
    later_prior : {p : ℕ} → r.owner p ≡ id → v.party ≡ Some p → {base : View T}
        → v.going ≡ Some (call.start, call.flight c m) → CallStands base v c m
        → Told_by p c m base r.trace.events (v.made ++ here.late)
    -- the call was about to begin: then the view has no call under way, against `going`
    later_prior mine party going (inl first) =
        let no : ◌≡◌ {A = Option (Start T × Flight T)} None (Some (call.start, call.flight c m)) =
        sym first.idle ∙ (ap (λ (z : View T). z.going) (sym first.is) ∙ going) in
        absurd (cc)
    -- the call was under way: the events that the seat has still to see come behind those
    -- since the drive began
    later_prior {p} mine party {base} going (inr k) =
        let both : ◌≡◌ {A = Option ℕ} (Some k.party) (Some p) = sym k.mine ∙ party in
        let same : k.party ≡ p = cc in
        subst (λ q. Told_by q c m base r.trace.events (v.made ++ here.late)) same
        (record {
          wrote = k.wrote;
          tells = k.tells;
          late = here.late;
          waits = subst (λ o. IsLate kind o here.late) going late_here;
          prior = record {
            others = k.since.others;
            during = k.since.during ++ here.seen.rest;
            -- what was seen in `base`, what others did, and what happened since, with the events still to see
            is =
                here.seen.is
                ∙ (ap (λ es. es ++ here.seen.rest) k.since.is
                ∙ moved_in (base.seen ++ k.since.others) (opened k.party call.start base.going) k.since.during here.seen.rest);
            alone = k.since.alone;
            others_own = k.since.others_own;
            -- of the events still to see, those of the party are the late ones
            during_own =
                by_more k.party k.since.during here.seen.rest
                ∙ (ap (λ es. es ++ events_by k.party here.seen.rest) k.since.during_own
                ∙ ap (λ es. k.wrote ++ es) (late_own k.party (subst (λ q. r.owner q ≡ id) (sym same) mine) k.mine going k.some));
            made_is =
                ap (λ es. es ++ here.late) k.since.made ∙ moved_in base.made (opened k.party call.start base.going) k.wrote here.late;
          };
        })

    -- the party is one as which the pass may make the call
    first_by : (p : ℕ) → call.by v.party p → (base : View T) → v.going ≡ None → CallStands base v c m → call.by base.party p
    first_by = grind arith

    -- the party of a call under way is one as which the pass may make it
    later_by : (p : ℕ) → v.party ≡ Some p → (base : View T) → v.going ≡ Some (call.start, call.flight c m) → CallStands base v c m → call.by base.party p
    later_by = grind arith

    -- the machine of the table is ready for the step, after the call's begin where it has not begun
    pub ready_at : (base : View T) → CallStands base v c m → Ready s v key id c m
    -- the call is about to begin: its begin is made first, on the table's machine
    ready_at base (inl first) =
        let none : v.going ≡ None = ap (λ (z : View T). z.going) first.is ∙ first.idle in
        let size : base.capacity ≡ key = ap (λ (z : View T). z.capacity) (sym first.is) ∙ known in
        -- what the seat made, by every measure, is what its parties wrote, since nothing is late for it
        let self : r.owner id ≡ id = here.self (some_share (inl first)) in
        let own_made : (f : Event T → ℕ) → sum_by f v.made ≡ sum_by (owned r.owner id f) r.trace.events =
        λ f. (let no : sum_by f here.late ≡ 0 = ap (sum_by f) (none_late_here none) in omega (arith, here.made f)) in
        let run : IsRun code kind base.capacity r.trace = subst (λ n. IsRun code kind n r.trace) (sym size) r.run in
        let parties : IfSome base.party (λ p. r.owner p ≡ id) = subst (λ (z : View T). IfSome z.party (λ p. r.owner p ≡ id)) first.is here.party in
        let sums : (f : Event T → ℕ) → sum_by f base.made ≡ sum_by (owned r.owner id f) r.trace.events =
        subst (λ (z : View T). (f : Event T → ℕ) → sum_by f z.made ≡ sum_by (owned r.owner id f) r.trace.events) first.is own_made in
        -- so a party of the seat may begin the call on this machine, and no call of the seat's
        -- parties is under way
        let starts : Starts code kind call base c m r.trace r.owner id = first.starts r.trace r.owner id run self parties sums in
        let p = starts.party in
        let idle : (q : ℕ) → r.owner q ≡ id → call_in r.trace.world q ≡ None = idle_seat r.owner r.trace id v none here in
        let is_first : first_of kind key call.start r.trace.world.kept ≡ Some (call.flight c m) =
        subst (λ n. first_of kind n call.start r.trace.world.kept ≡ Some (call.flight c m)) size starts.first in
        let may : first_row (rows_as kind key r.trace.world.kept p call.start) ≡ None =
        subst (λ n. first_row (rows_as kind n r.trace.world.kept p call.start) ≡ None) size starts.may in
        -- before the begin the machine stands at the table's words, and the seat has gained nothing
        let before : Between code kind key r.owner s id p [] r.trace =
        at_first id p r [] starts.mine self (λ q of_id ne. idle q of_id)
        (λ u there f.
        (let same : sum_by f u.made ≡ sum_by f v.made = ap (λ (z : View T). sum_by f z.made) (some-injective u v (sym there ∙ at)) in
        omega (arith, own_made f))) in
        -- the begin of the call by this party, which the machine does not refuse
        let beginning : Beginning T =
        record {
          turning = turning_at (laws key) before;
          start = call.start;
          flight = call.flight c m;
          idle = idle p starts.mine;
          first = is_first;
          may = may;
        } in
        -- after the begin the call stands at its first stage, with no step taken
        record {
          p = p;
          owner = r.owner;
          gained = [] ++ Begun p call.start ∷ [];
          u = after_turn r.trace (Begin p call.start);
          between = begun beginning;
          there = begun_at beginning;
          by = λ base' stage. first_by p (subst (λ (z : View T). call.by z.party p) (sym first.is) starts.by) base' none stage;
          prior = λ base' stage. first_prior p starts.mine base' none stage;
          counted = begun_steps beginning ∙ sym (ap (λ o. taken_by o v.taken) none);
          began = λ none'. record {
            t = r.trace;
            run = r.run;
            kept = begun_kept beginning;
            stated = λ is. here.stated p starts.mine is;
          };
          -- no call was under way before, so nothing has to hold of one that was
          held = λ has. (let no : ◌≡◌ {A = Option (Start T × Flight T)} None (Some (call.start, call.flight c m)) = sym none ∙ has in absurd (cc));
          as_party = λ has. (let no : ◌≡◌ {A = Option (Start T × Flight T)} None (Some (call.start, call.flight c m)) = sym none ∙ has in absurd (cc));
          state = λ leaves is. (laws key).states r.trace (Begin p call.start) r.run (begun beginning).run (begins_free beginning)
              p (begins_no_look r.trace.world p call.start leaves.start)
              ∙ here.stated p starts.mine is;
          -- the begin is no operation, so what the seats asked for stays
          have = subst (λ n. HaveAsked s.views n) (none_more (begun_took beginning)) r.asked;
          has = subst (λ n. HasAsked v n) (none_more (begun_took beginning)) has_asked;
        }
    -- the call is under way: the table's machine is ready as it is
    ready_at base (inr under) =
        let p = under.party in
        let mine : r.owner p ≡ id = subst (λ (o : Option ℕ). IfSome o (λ q. r.owner q ≡ id)) under.mine here.party in
        record {
          p = p;
          owner = r.owner;
          gained = here.late;
          u = r.trace;
          -- the seat has still to see what is late for its party's call
          between =
              at_first id p r here.late mine (here.self under.some)
              (λ q of_id ne. here.idle q of_id
              (λ e. (let both : ◌≡◌ {A = Option ℕ} (Some p) (Some q) = sym under.mine ∙ e in let same : p ≡ q = cc in ne (sym same))))
              (λ x there f.
              (let same : sum_by f x.made ≡ sum_by f v.made = ap (λ (z : View T). sum_by f z.made) (some-injective x v (sym there ∙ at)) in
              omega (arith, here.made f)));
          there = here.going p mine under.mine ∙ under.going;
          by = λ base' stage. later_by p under.mine base' under.going stage;
          prior = λ base' stage. later_prior mine under.mine under.going stage;
          counted = here.counted p mine under.mine (call.start, call.flight c m) under.going ∙ sym (ap (λ o. taken_by o v.taken) under.going);
          began = λ none. (let no : ◌≡◌ {A = Option (Start T × Flight T)} None (Some (call.start, call.flight c m)) = sym none ∙ under.going in absurd (cc));
          held = λ has. here.stated p mine under.mine;
          as_party = λ has. under.mine;
          state = λ leaves is. here.stated p mine is;
          have = r.asked;
          has = has_asked;
        }

    -- the seat, whose call is about to take its next step on that machine
    abbrev pub seat_at : {base : View T} → CallStands base v c m → Seat
    seat_at {base} stage = record { s = s; v = v; key = key; id = id; c = c; m = m; at = at; known = known; y = ready_at base stage }

  -- the same holds with the parts of `OnTable` as arguments of the lemma
  pub ready : (s : State (Unit {0}) (View T)) (v : View T) (key id : ℕ) (c : C) (m : M) (r : IsMachine code kind key s)
      (at : get_elem? s.views id ≡ some v) (known : v.capacity ≡ key) (base : View T) → CallStands base v c m → Ready s v key id c m
  ready s v key id c m r at known = ready_at (record { s = s; v = v; key = key; id = id; c = c; m = m; r = r; at = at; known = known })
