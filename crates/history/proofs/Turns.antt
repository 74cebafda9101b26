-- What a begin and a step of a call make of a reached machine, where a table stands at the machine's words
-- (`Between`).
use Rattle.history.proofs.Names.{false, ◌≡◌, ◌≢◌, ℕ, ◌+◌, ◌<◌, ◌≤◌, Option, Some, None, IfSome, List, [], ◌∷◌}
use Rattle.history.proofs.Names.{◌++◌, length, slice_index, refl, sym, ap, subst, ◌∙◌, arith, sum_by}
use Rattle.history.proofs.Names.{sum_by-append, Ask, After, Want, Answer, Event, Begun, Start, Flight}
use Rattle.history.proofs.Names.{Kind, Turn, Begin, Next, Coding, first_of, kept_after_begin}
use Rattle.history.proofs.Names.{want_of, goes_of, ask_of, is_look_of, party_of, ask_in}
use Rattle.history.proofs.Names.{call_refusal, first_row, answer_in, after_turn, events_of, words_after}
use Rattle.history.proofs.Names.{step_in, ending_of, old_of, World, Trace, flight_in, whose, turn_making, IsFreshCall}
use Rattle.history.proofs.Names.{Shares, IsAll}
use mathlib.Core.Option.{some}
use lib.ListN.{get_elem?}
use Rattle.atomic_table.specs.Table.{State}
use Rattle.steps.specs.declared.ask.Want.TheVariants as wants
use Rattle.model.specs.Turns.{step_count}
use Rattle.model.proofs.Turns.{writes_one_word}
use Rattle.model.specs.Fresh.{IsFreshTurn}
use Rattle.history.specs.declared.view.View.{View}
use Rattle.history.specs.Known.{events_by, owned, of_none}
use Rattle.history.specs.History.{IsRun, IsMachine, OneRun, Fits, call_in, started, steps_in, others_in, IsLate, refusal_as, run_of, steps_of_run}
use Rattle.model.specs.LockFree.{steps_of as turn_steps}
use Rattle.model.specs.World.{opening}
use Rattle.history.proofs.Asked.{steps_more}
use Rattle.history.specs.Stages.{rows_as}
use Rattle.history.proofs.Known.{by_more, by_same, by_other, by_mine, owned_one, late_none, none_late, AreOf}
use Rattle.history.proofs.AllSeen.{owned_whole}
use Rattle.history.proofs.Reached.{next_as, reached_as_more, fresh_as_more}
use Rattle.history.proofs.StillFits.{still_fits}
use Rattle.history.proofs.OneRun.{one_more}
use Rattle.history.proofs.Calls.{look_begin, look_next, stands, flight_is}
use Rattle.history.proofs.Calls.{next_other, begin_other, begin_own, next_kept}
use Rattle.history.proofs.Calls.{steps_next_other, steps_begin_other}
use Rattle.history.proofs.Calls.{steps_begin_own, steps_next_own, started_next_own, others_begin_own, others_next_own}
use Rattle.history.proofs.Calls.{call_then, moved, get_left, set_left, Moved}
pub use Rattle.history.proofs.KindLaws.{all_someone, StepsOn, KeptLaws, MachineLaws, kept_laws, goes_on_alike, CallGoesOn, KindLaws, machine_laws}
pub use Rattle.history.proofs.KindLaws.{Machines, SteadyMachines, LoneMachines, kept_machines, steady_machines}

-- what is wanted, where it is a word or nothing
abbrev pub want_for : Option Ask → Want (Unit {0})
want_for None = wants.Nothing
want_for (Some ask) = wants.Ask ask

-- what stands in the word that is asked for
abbrev pub at_ask : List ℕ → Option Ask → ℕ
at_ask words None = 0
at_ask words (Some ask) = slice_index words ask.word

module _ {T : Type 0} where
  pub ending_of_own : (p : ℕ) (start : Start T) (o : Option (Answer T)) → AreOf p (ending_of p start o)
  ending_of_own p start None = tt
  ending_of_own p start (Some answer) = (refl, tt)

  module _ (code : Coding T) (kind : Kind) (capacity : ℕ) where
    -- The machine u has the table's words and every other seat fits it. The seat `id` fits it too, but for
    -- the events `gained` of its party p, which the seat has still to add to its view.
    pub record Between (owner : ℕ → ℕ) (s : State (Unit {0}) (View T)) (id p : ℕ) (gained : List (Event T)) (u : Trace T) : Type 0 where
      -- the machine is a run, with the words of the table
      pub run : IsRun code kind capacity u
      pub words : s.words ≡ u.world.words ++ 0 ∷ []
      -- what every other seat knows holds of it
      pub others : (j : ℕ) (v : View T) → j ≢ id → get_elem? s.views j ≡ some v → Fits owner u j v
      -- the party p is this seat's, and no other party of the seat has a call under way
      pub mine : owner p ≡ id
      pub self : owner id ≡ id
      pub idle : (q : ℕ) → owner q ≡ id → q ≢ p → call_in u.world q ≡ None
      -- what the seat made, with what it gained, are the events of its parties
      pub made_own : (v : View T) → get_elem? s.views id ≡ some v → (f : Event T → ℕ) → sum_by f v.made + sum_by f gained ≡ sum_by (owned owner id f) u.events
      -- a party with the number of a seat belongs to a seat, and any other is its own owner and, but for p, has done nothing
      pub inside : (q : ℕ) → q < length s.views → owner q < length s.views
      pub fresh : (q : ℕ) → length s.views ≤ q → owner q ≡ q
      pub further : (j : ℕ) → j ≢ p → length s.views ≤ j → call_in u.world j ≡ None
      pub made_none : (j : ℕ) → j ≢ p → length s.views ≤ j → events_by j u.events ≡ []
      -- the shares make the whole, each event is of a party, and a seat without a share has made nothing
      pub shares : Shares (λ (v : View T). v.share) s.views
      pub someone : sum_by (λ e. of_none (whose e)) u.events ≡ 0
      pub spent : (j : ℕ) (v : View T) → get_elem? s.views j ≡ some v → v.share.part ≡ 0 → (v.made ≡ []) × (v.going ≡ None)
      -- the table has one run, which leads to this machine
      pub one : OneRun code kind capacity s.views u

    -- a turn that takes n steps adds n to the steps of a run
    pub more_steps : (turns : List (Turn T)) (u : Trace T) (turn : Turn T) (n : ℕ) → u ≡ run_of code kind capacity turns → turn_steps u.world turn ≡ n
        → steps_of_run code kind capacity (turns ++ turn ∷ []) ≡ steps_of_run code kind capacity turns + n
    more_steps turns u turn n u_is one =
        steps_more (opening code kind capacity 0) turns turn
        ∙ ap (λ k. steps_of_run code kind capacity turns + k) (ap (λ (t : Trace T). turn_steps t.world turn) (sym u_is) ∙ one)

    -- a turn that is not refused, and finds neither the last position nor the last version, leads from a run to a run
    pub run_more : (t : Trace T) (turn : Turn T) → refusal_as kind t.world turn ≡ None → IsFreshTurn t turn → IsRun code kind capacity t
        → IsRun code kind capacity (after_turn t turn)
    run_more = grind (arith, turn_making, reached_as_more, fresh_as_more)

-- at first the seat has gained just what it had still to see, and the machine is that of the table
abbrev pub at_first : {T : Type 0} {code : Coding T} {kind : Kind} {capacity : ℕ} {s : State (Unit {0}) (View T)} (id p : ℕ)
    (m : IsMachine code kind capacity s) (gained : List (Event T))
    → m.owner p ≡ id → m.owner id ≡ id → ((q : ℕ) → m.owner q ≡ id → q ≢ p → call_in m.trace.world q ≡ None)
    → ((v : View T) → get_elem? s.views id ≡ some v → (f : Event T → ℕ)
    → sum_by f v.made + sum_by f gained ≡ sum_by (owned m.owner id f) m.trace.events)
    → Between code kind capacity m.owner s id p gained m.trace
at_first id p m gained mine self idle made_own =
    record {
      run = m.run;
      words = m.words;
      others = λ j v ne at. m.seats j v at;
      mine = mine;
      self = self;
      idle = idle;
      made_own = made_own;
      inside = m.inside;
      fresh = m.fresh;
      further = λ j ne past. m.further j past;
      made_none = λ j ne past. m.made_none j past;
      shares = m.known.shares;
      someone = m.known.someone;
      spent = m.known.spent;
      one = m.one;
    }

-- a pass with the whole share has made all events of the machine, with those that it gained
pub made_between : {T : Type 0} {code : Coding T} {kind : Kind} {capacity : ℕ} {owner : ℕ → ℕ} {id p : ℕ} {gained : List (Event T)} {u : Trace T}
    {s : State (Unit {0}) (View T)} → Between code kind capacity owner s id p gained u
    → (v : View T) → get_elem? s.views id ≡ some v → IsAll v.share → (f : Event T → ℕ) → sum_by f u.events ≡ sum_by f (v.made ++ gained)
made_between = grind (arith, owned_whole, sum_by-append)

-- a party of a seat that is to take the next turn of a machine
pub record Turning (T : Type 0) : Type 0 where
  -- machines of this coding, kind and capacity; the steps of their calls write what `effects` says
  pub code : Coding T
  pub kind : Kind
  pub capacity : ℕ
  pub words : ℕ  -- so many has the machine
  pub effects : World T → ℕ → Flight T → ℕ → List (Event T)
  pub laws : KeptLaws code kind capacity words effects
  -- the table, the seat, its party, what the seat has gained, and the machine at which the table stands
  pub owner : ℕ → ℕ  -- the seat of each party
  pub s : State (Unit {0}) (View T)
  pub id : ℕ  -- of the seat
  pub p : ℕ  -- the party
  pub gained : List (Event T)  -- its events that the seat has not seen
  pub u : Trace T
  pub b : Between code kind capacity owner s id p gained u

module _ {T : Type 0} {code : Coding T} {kind : Kind} {capacity words : ℕ} {effects : World T → ℕ → Flight T → ℕ → List (Event T)}
    (laws : KeptLaws code kind capacity words effects) {owner : ℕ → ℕ} {s : State (Unit {0}) (View T)} {id p : ℕ}
    {gained : List (Event T)} {u : Trace T} (b : Between code kind capacity owner s id p gained u) where
  -- the party, from what `Between` says of the machine, the table and the seat
  abbrev pub turning_at : Turning T
  turning_at =
      record {
        code = code;
        kind = kind;
        capacity = capacity;
        words = words;
        effects = effects;
        laws = laws;
        owner = owner;
        s = s;
        id = id;
        p = p;
        gained = gained;
        u = u;
        b = b;
      }

module _ {T : Type 0} (turning : Turning T) where
  open turning use {code, kind, capacity, words, effects, laws, owner, s, id, p, gained, u, b}

  -- a party of another seat is not this party
  pub not_mine : (j q : ℕ) → j ≢ id → owner q ≡ j → q ≢ p
  not_mine j q ne own e = ne (sym own ∙ (ap owner e ∙ b.mine))

  -- A turn that is not refused and leaves these words. It writes events of parties alone, and of another party's
  -- call it changes nothing but what may come late.
  pub record Leaving (words' : List ℕ) (turn : Turn T) : Type 0 where
    pub free : refusal_as kind u.world turn ≡ None
    pub fresh_turn : IsFreshTurn u turn
    pub same : words' ≡ (after_turn u turn).world.words ++ 0 ∷ []
    pub someone : sum_by (λ e. of_none (whose e)) (events_of u.world turn) ≡ 0
    pub beside : (q : ℕ) → q ≢ p → IsLate kind (call_in u.world q) (events_by q (events_of u.world turn))
    pub apart : (j : ℕ) → j ≢ p → call_in (after_turn u turn).world j ≡ call_in u.world j
    pub no_look : (q : ℕ) → q ≢ p → is_look_of u.world q turn ≡ false
    pub still : (q : ℕ) → q ≢ p → steps_in (after_turn u turn).world q ≡ steps_in u.world q

  -- after such a turn the machine stands at the table's words again, and the seat has gained the party's events of it
  unfoldable pub turned : {words' : List ℕ} {turn : Turn T} → Leaving words' turn
      → Between code kind capacity owner (record { words = words'; homes = s.homes; views = s.views }) id p
      (gained ++ events_by p (events_of u.world turn)) (after_turn u turn)
  turned {words'} {turn} leaving =
      let es = events_of u.world turn in
      let run = run_more code kind capacity u turn leaving.free leaving.fresh_turn b.run in
      record {
        run = run;
        words = leaving.same;
        -- each other seat still fits the machine, for whose parties the turn changed nothing
        others =
            λ j v ne at. (
            let fits = still_fits kind (after_turn u turn) es (b.others j v ne at) b.run.of_kind run.of_kind refl in
            fits (λ q of_j. leaving.beside q (not_mine j q ne of_j)) (λ q of_j. leaving.apart q (not_mine j q ne of_j))
            (λ q of_j. laws.states u turn b.run run leaving.free q (leaving.no_look q (not_mine j q ne of_j)))
            (λ q of_j. leaving.still q (not_mine j q ne of_j)));
        mine = b.mine;
        self = b.self;
        idle = λ q of_id ne. leaving.apart q ne ∙ b.idle q of_id ne;
        -- what the seat made, with what it gained and the party's events of the turn, are its parties' events
        made_own = λ v at f. (
            omega (
              arith,
              b.made_own v at f,
              sum_by-append f gained (events_by p es),
              sum_by-append (owned owner id f) u.events es,
              owned_one owner id p f es b.mine (λ q of_id ne. none_of es leaving.beside q ne (b.idle q of_id ne)),
            ));
        inside = b.inside;
        fresh = b.fresh;
        further = λ j ne past. leaving.apart j ne ∙ b.further j ne past;
        made_none = λ j ne past. by_same j u.events es (none_of es leaving.beside j ne (b.further j ne past)) ∙ b.made_none j ne past;
        shares = b.shares;
        someone = (
            omega (arith, b.someone, sum_by-append (λ e. of_none (whose e)) u.events es));
        spent = b.spent;
        one = one_more code kind capacity s.views u turn leaving.free leaving.fresh_turn b.one;
      }
    where
      -- an event that may be late for another party's call is none of a party with no call under way
      none_of : (es : List (Event T)) → ((q : ℕ) → q ≢ p → IsLate kind (call_in u.world q) (events_by q es))
          → (q : ℕ) → q ≢ p → call_in u.world q ≡ None → events_by q es ≡ []
      none_of = grind (arith, late_none)

-- ---- a call begins

-- a party without a call under way that is to begin this call, which the machine does not refuse
pub record Beginning (T : Type 0) : Type 0 where
  pub turning : Turning T
  pub start : Start T
  pub flight : Flight T
  -- the party has no call under way, and the machine has this call and does not refuse its begin
  pub idle : call_in turning.u.world turning.p ≡ None
  pub first : first_of turning.kind turning.capacity start turning.u.world.kept ≡ Some flight
  pub may : first_row (rows_as turning.kind turning.capacity turning.u.world.kept turning.p start) ≡ None

module _ {T : Type 0} (beginning : Beginning T) where
  open beginning use {turning, turning.{code, kind, capacity, words, effects, laws, owner, s, id, p, gained, u, b}, start, flight, idle, first, may}

  -- the machine has this call, at its first stage
  first_here : first_of u.world.kind u.world.capacity start u.world.kept ≡ Some flight
  first_here = grind arith

  pub begins_free : refusal_as kind u.world (Begin p start) ≡ None
  begins_free = grind arith

  -- after the begin the machine stands at the table's words, and the seat has gained the events of the begin
  begins : Between code kind capacity owner s id p (gained ++ events_by p (Begun p start ∷ [])) (after_turn u (Begin p start))
  begins = turned turning (record {
    free = begins_free;
    fresh_turn = tt;
    same = b.words ∙ ap (λ ws. ws ++ 0 ∷ []) (sym (writes_one_word u.world (Begin p start)));
    someone = refl;
    beside = λ q ne. subst (λ zs. IsLate kind (call_in u.world q) zs) (sym (by_other p q (Begun p start ∷ []) ne (refl, tt)))
        (none_late kind (call_in u.world q));
    apart = λ j ne. begin_other u.world p j start ne (first_of u.world.kind u.world.capacity start u.world.kept);
    no_look = λ q ne. look_begin u.world p q start ne;
    still = λ q ne. steps_begin_other u.world p q start ne (first_of u.world.kind u.world.capacity start u.world.kept);
  })

  -- the call that began has taken no step yet
  pub begun_steps : steps_in (after_turn u (Begin p start)).world p ≡ 0
  begun_steps = steps_begin_own u.world p start flight (first_of u.world.kind u.world.capacity start u.world.kept) first_here

  -- the call that began has seen no change by another yet
  pub begun_others : others_in (after_turn u (Begin p start)).world p ≡ 0
  begun_others = others_begin_own u.world p start flight (first_of u.world.kind u.world.capacity start u.world.kept) first_here

  -- after the begin the machine stands at the table's words, and the seat has gained just its begin
  pub begun : Between code kind capacity owner s id p (gained ++ Begun p start ∷ []) (after_turn u (Begin p start))
  begun =
      let b' : Between code kind capacity owner s id p (gained ++ events_by p (Begun p start ∷ [])) (after_turn u (Begin p start)) = begins in
      let same : events_by p (Begun p start ∷ []) ≡ Begun p start ∷ [] = by_mine p (Begun p start ∷ []) (refl, tt) in
      record {
        run = b'.run;
        words = b'.words;
        others = b'.others;
        mine = b'.mine;
        self = b'.self;
        idle = b'.idle;
        made_own = λ v at f. ap (λ zs. sum_by f v.made + sum_by f (gained ++ zs)) (sym same) ∙ b'.made_own v at f;
        inside = b'.inside;
        fresh = b'.fresh;
        further = b'.further;
        made_none = b'.made_none;
        shares = b'.shares;
        someone = b'.someone;
        spent = b'.spent;
        one = b'.one;
      }

  pub begun_took : steps_of_run code kind capacity begun.one.turns ≡ steps_of_run code kind capacity b.one.turns + 0
  unfolding begun begins turned
  begun_took = more_steps code kind capacity b.one.turns u (Begin p start) 0 b.one.is refl

  pub begun_at : call_in (after_turn u (Begin p start)).world p ≡ Some (start, flight)
  begun_at = grind (arith, begin_own, first_of, first_here)

  -- after the begin the machine keeps what its family keeps from a begin on
  pub begun_kept : (after_turn u (Begin p start)).world.kept ≡ kept_after_begin code capacity start p u.world.kept
  begun_kept = grind arith

-- ---- a call goes on with a step, at a word or at none

-- a party whose call under way is to take a step, at a word of the table (`ask`) or at none; no push finds
-- the last position then, and no store the last version
pub record Going (T : Type 0) : Type 0 where
  pub turning : Turning T
  pub start : Start T
  pub flight : Flight T
  pub ask : Option Ask
  -- the word is one of the structure, and the call stands at this flight, which asks for that word
  pub low : IfSome ask (λ a. a.word < turning.words)
  pub at : call_in turning.u.world turning.p ≡ Some (start, flight)
  pub asks : want_of turning.code flight ≡ want_for ask
  pub finds : IsFreshCall (at_ask turning.s.words ask) flight

module _ {T : Type 0} (going : Going T) where
  open going use {turning, turning.{code, kind, capacity, words, effects, laws, owner, s, id, p, gained, u, b}, start, flight, ask, low, at, asks, finds}

  -- what the laws of the kind say of the step of this call
  mine : StepsOn code kind capacity words effects u p flight
  mine = laws.steps_on u b.run p start flight at

  here : flight_in u.world p ≡ Some flight
  here = flight_is u.world p start flight (stands u.world p start flight at)

  pub goes_free : call_refusal u.world (Next p) ≡ None
  goes_free = grind arith

  pub asked : ask_in u.world (Next p) ≡ ask
  asked = grind arith

  asked_of : ask_of (want_of u.world.coding flight) ≡ ask
  asked_of = grind arith

  pub found_old : old_of u.world.words (ask_of (want_of u.world.coding flight)) ≡ at_ask s.words ask
  found_old = grind (arith, old_of, asked_of, slice_index, get_left)

  abbrev found : ℕ
  found = at_ask s.words ask

  -- the step of the call: the effects that it writes, and where it leads
  its_step : Moved u.world p start flight (old_of u.world.words (ask_of (want_of u.world.coding flight)))
      (effects u.world p flight (old_of u.world.words (ask_of (want_of u.world.coding flight))))
  its_step = moved u.world p start flight (effects u.world p flight) (stands u.world p start flight at) mine.goes mine.writes

  -- where the step leads the call, from the word that the table had
  abbrev goes_then : ℕ → After (Flight T) (Answer T)
  goes_then n = goes_of code p flight n u.world.kept

  -- after the step the party's call stands where the step leads it, or has ended
  pub goes_to : call_in (after_turn u (Next p)).world p ≡ call_then start (goes_then found)
  goes_to = grind (arith, its_step, call_then, goes_of, old_of, ask_of, want_of, found_old)

  abbrev pub tells : List (Event T)
  tells = effects u.world p flight found ++ ending_of p start (answer_in (goes_then found))

  -- the turn writes just what `tells` says
  pub told : events_of u.world (Next p) ≡ tells
  told = grind (arith, its_step, old_of, ask_of, want_of, ending_of, answer_in, goes_of, found_old)

  -- what the machine keeps after the turn is what the step keeps that is handed the word of the table
  pub kept_then : (after_turn u (Next p)).world.kept ≡ (step_in u.world p (stands u.world p start flight at).x flight found).kept
  kept_then =
      next_kept (stands u.world p start flight at)
      ∙ ap (λ n. (step_in u.world p (stands u.world p start flight at).x flight n).kept) found_old

  ends_own : AreOf p (ending_of p start (answer_in (goes_then found)))
  ends_own = ending_of_own p start (answer_in (goes_then found))

  -- each event that a step writes is of some party
  someone : sum_by (λ e. of_none (whose e)) (events_of u.world (Next p)) ≡ 0
  someone =
      let all : sum_by (λ e. of_none (whose e)) (events_of u.world (Next p)) ≡ sum_by (λ e. of_none (whose e)) tells =
      ap (sum_by (λ e. of_none (whose e))) told in
      let one = sum_by-append (λ e. of_none (whose e)) (effects u.world p flight found) (ending_of p start (answer_in (goes_then found))) in
      omega (arith, mine.someone found, all_someone p (ending_of p start (answer_in (goes_then found))) ends_own)

  -- what the step writes of another party may come late for that party's call
  beside : (q : ℕ) → q ≢ p → IsLate kind (call_in u.world q) (events_by q (events_of u.world (Next p)))
  beside = grind (arith, call_in, events_by, told, by_same, ending_of, answer_in, by_other, ends_own, mine)

  -- of the events of the step those of its own party are the effects of the call, and its end
  -- where the step ends it
  pub own_told : events_by p (events_of u.world (Next p))
      ≡ events_by p (effects u.world p flight found) ++ ending_of p start (answer_in (goes_then found))
  own_told = grind (arith, told, by_more, by_mine, ends_own)

  -- after the step the table's words are those of the machine
  words_then : words_after s.words ask ≡ (after_turn u (Next p)).world.words ++ 0 ∷ []
  words_then = grind (arith, asked, ask_in, words_after, after_turn, writes_one_word, get_left, set_left)

  -- the step is of no push that finds the last position, and of no store that finds the last version
  pub fresh_now : IsFreshTurn u (Next p)
  fresh_now = grind (arith, here, found_old)

  -- after the step the machine stands at the table's words, and the seat has gained the
  -- party's events of the step
  pub gone : Between code kind capacity owner (record { words = words_after s.words ask; homes = s.homes; views = s.views }) id p
      (gained ++ events_by p (events_of u.world (Next p))) (after_turn u (Next p))
  gone = turned turning (record {
    free = next_as kind u.world p goes_free;
    fresh_turn = fresh_now;
    same = words_then;
    someone = someone;
    beside = beside;
    apart = λ j ne. next_other u.world p j ne (party_of p u.world.latest);
    no_look = λ q ne. look_next u.world p q ne;
    still = λ q ne. steps_next_other u.world p q ne (party_of p u.world.latest);
  })

  -- the run takes one step more where the call asks for a word, and none else
  pub gone_took : steps_of_run code kind capacity gone.one.turns ≡ steps_of_run code kind capacity b.one.turns + step_count ask
  unfolding gone turned
  gone_took = more_steps code kind capacity b.one.turns u (Next p) (step_count ask) b.one.is (ap step_count asked)

  -- after the step the party's latest call is still this one
  pub gone_named : started (party_of p (after_turn u (Next p)).world.latest) ≡ Some start
  gone_named = started_next_own (stands u.world p start flight at)

  -- no other party has changed a word during the party's own step
  pub gone_others : others_in (after_turn u (Next p)).world p ≡ others_in u.world p
  gone_others = others_next_own (stands u.world p start flight at)

  -- the call has taken one step more where it asks for a word
  pub gone_steps : steps_in (after_turn u (Next p)).world p ≡ steps_in u.world p + step_count ask
  gone_steps =
      steps_next_own (stands u.world p start flight at)
      ∙ ap (λ o. steps_in u.world p + step_count o) asked_of
