-- Under the rule of a machine (`IsMachine`) a table opens with a first pass, a pass may be split, and a pass
-- that rests may be joined into another.
use Rattle.history.proofs.Names.{◌≡◌, ◌≢◌, ◌⊎◌, inl, inr, ⊎_elim, ℕ, zero, suc, ◌+◌, ◌<◌, ◌≤◌, false}
use Rattle.history.proofs.Names.{Option, Some, None, IfSome, List, [], ◌∷◌, ◌++◌, length, replicate, get_or, set}
use Rattle.history.proofs.Names.{refl, sym, ap, subst, ◌∙◌, append-nil, arith, length-set, sum_by}
use Rattle.history.proofs.Names.{Splits, Joins, at_set, Event, Kind, Coding, IsCoding, cases_eq, nat_tests}
use Rattle.history.proofs.Names.{sum_by-append, sum_by-cons, opening_of, Trace, capacity_error}
use mathlib.Core.Option.{some, some-injective, some-ne-none}
use lib.ListN.{get_elem?}
use Rattle.atomic_table.specs.Table.{State, opening}
use Rattle.model.specs.World as worlds
use Rattle.history.specs.declared.view.View.{View}
use Rattle.history.specs.History.{IsBeginning, IsMachine, OneRun, Knew, Fits, HasSeenOf, call_in, HaveAsked, steps_of_run}
use Rattle.history.specs.Views.{first_view, left_view, right_view, joined_view, spent_view}
use Rattle.history.specs.Known.{events_by}
use Rattle.history.proofs.Reached.{reached_as_opening, fresh_as_opening}
use Rattle.history.proofs.Calls.{opens_without}
use Rattle.history.proofs.Known.{within, handed_on, owned_none, owned_both, owned_third, idle_seat, nat_cases}
use Rattle.history.proofs.Known.{none_before, late_none, none_late, quiet_late}
use Rattle.history.proofs.AllSeen.{known_alone, known_split, known_join}
use Rattle.history.proofs.OneRun.{first_none, one_set, one_opens}
use Rattle.history.proofs.Asked.{have_more, have_both, first_asked}

-- a word that is set to what it is leaves the words as they are
pub set_same : (xs : List ℕ) (i : ℕ) → set xs i (get_or xs i 0) ≡ xs
set_same [] i = refl
set_same (x ∷ xs) zero = refl
set_same (x ∷ xs) (suc i) = ap (λ (ys : List ℕ). x ∷ ys) (set_same xs i)

more : (n : ℕ) → replicate {A = ℕ} (suc n) 0 ≡ replicate {A = ℕ} n 0 ++ 0 ∷ []
more zero = refl
more (suc n) = ap (λ (ys : List ℕ). 0 ∷ ys) (more n)

pub one_more : (n : ℕ) → replicate {A = ℕ} (n + 1) 0 ≡ replicate {A = ℕ} n 0 ++ 0 ∷ []
one_more = grind (arith, suc, more)

-- an element of a list with one more at its end is one of the list, or that last one
at_end : {A : Type 0} → (xs : List A) (x y : A) (j : ℕ) → get_elem? (xs ++ x ∷ []) j ≡ some y → (get_elem? xs j ≡ some y) ⊎ ((j ≡ length xs) × (x ≡ y))
at_end [] x y zero there_is = inr (refl, some-injective x y there_is)
at_end [] x y (suc j) there_is = absurd (some-ne-none y (sym there_is))
at_end (z ∷ zs) x y zero there_is = inl there_is
at_end (z ∷ zs) x y (suc j) there_is = ⊎_elim (λ h. inl h) (λ h. inr (ap suc h.0, h.1)) (at_end zs x y j there_is)

-- a list with one more element is longer by 1
length_end : {A : Type 0} → (xs : List A) (x : A) → length (xs ++ x ∷ []) ≡ length xs + 1
length_end [] x = refl
length_end (z ∷ zs) x = omega (arith, length_end zs x)

-- adding 0 changes no number
no_more : (n : ℕ) → n + 0 ≡ n
no_more n = omega arith

-- the seats with a new one, which has asked for nothing, have asked for what they had
have_end : {T : Type 0} → {views : List (View T)} (w : View T) {steps : ℕ} → w.asked ≡ 0 → w.aside ≡ 0 → HaveAsked views steps
    → HaveAsked (views ++ w ∷ []) steps
have_end {T} {views = views} w asked aside have_asked =
    record {
      sum = (
          omega (
            arith,
            sum_by-append (λ (v : View T). v.asked) views (w ∷ []),
            sum_by-append (λ (v : View T). v.aside) views (w ∷ []),
            sum_by-cons (λ (v : View T). v.asked) w [],
            sum_by-cons (λ (v : View T). v.aside) w [],
            have_asked.sum,
          ));
      each = λ j x found. ⊎_elim (λ e. have_asked.each j x e) (λ e. subst (λ (z : View T). z.aside ≤ z.asked) e.1 (omega arith)) (at_end views w x j found);
      spent =
          λ j x found. ⊎_elim (λ e. have_asked.spent j x e) (λ e. subst (λ (z : View T). z.share.part ≡ 0 → z.asked ≡ z.aside) e.1 (λ none. asked ∙ sym aside))
          (at_end views w x j found);
    }

module _ {T : Type 0} where
  -- the empty list is a beginning of any events
  pub nothing : (es : List (Event T)) → IsBeginning [] es
  nothing es = record { rest = es; is = refl }

module _ {T : Type 0} (code : Coding T) (kind : Kind) (capacity : ℕ) where
  -- the table is a machine of this kind and capacity
  abbrev IsTableMachine : State (Unit {0}) (View T) → Type 0
  IsTableMachine s = IsMachine code kind capacity s

  -- a seat may be split: it keeps half of its share, and a new seat has the other half
  pub splits : (id : ℕ) (v : View T) → Splits IsTableMachine id v (left_view v) (right_view v)
  splits id v s m at =
      record {
        trace = m.trace;
        run = m.run;
        words = m.words;
        owner = m.owner;
        -- each seat fits the machine: one that was there, and the new one behind them
        seats =
            λ j x found. ⊎_elim (λ (e : get_elem? (set s.views id (left_view v)) j ≡ some x). old j x e)
            (λ (e : (j ≡ length (set s.views id (left_view v))) × (right_view v ≡ x)). subst
            (λ z. Fits m.owner m.trace j z) e.1 (new j (e.0 ∙ same)))
            (at_end (set s.views id (left_view v)) (right_view v) x j found);
        -- the new seat has its own number as its only party
        inside =
            λ p low. (let l = long in
            ⊎_elim (λ (past : length s.views ≤ p). omega (arith, m.fresh p past))
            (λ (low' : p < length s.views). omega (arith, m.inside p low')) (nat_cases (length s.views) p));
        fresh = λ p past. (let l = long in m.fresh p (omega arith));
        further = λ j past. (let l = long in m.further j (omega arith));
        made_none = λ j past. (let l = long in m.made_none j (omega arith));
        -- the split is one operation, which is aside
        asked = (
            let more = have_more s.views id v (left_view v) steps 0 in
            have_end (right_view v) refl refl
            (subst (λ n. HaveAsked (set s.views id (left_view v)) n) (no_more steps)
            (more at m.asked (omega arith) (λ none. omega (arith, m.asked.spent id v at none)))));
        known = known_split id v (within s.views id v at) at m.known;
        one = one;
      }
    where
      -- the seat knows first turns of the run
      knew : Knew m.one.turns v
      knew = m.one.knew id v at

      -- with the view of the seat that was split the table has the same run
      cut : OneRun code kind capacity (set s.views id (left_view v)) m.trace
      cut = one_set code kind capacity s.views m.trace id (left_view v) m.one (record { mine = knew.mine; theirs = knew.theirs })

      -- the new seat knows the turns that the seat which was split knows
      one : OneRun code kind capacity (set s.views id (left_view v) ++ right_view v ∷ []) m.trace
      one =
          record {
            turns = m.one.turns;
            allowed = m.one.allowed;
            fresh = m.one.fresh;
            is = m.one.is;
            knew =
                λ j x found. ⊎_elim (λ (e : get_elem? (set s.views id (left_view v)) j ≡ some x). cut.knew j x e)
                (λ (e : (j ≡ length (set s.views id (left_view v))) × (right_view v ≡ x)). subst (λ z. Knew m.one.turns z) e.1
                (record { mine = knew.mine; theirs = first_none m.one.turns }))
                (at_end (set s.views id (left_view v)) (right_view v) x j found);
          }

      -- the steps of the run
      steps : ℕ
      steps = steps_of_run code kind capacity m.one.turns

      -- the number of seats stays while a view changes
      same : length (set s.views id (left_view v)) ≡ length s.views
      same = length-set s.views id (left_view v)

      -- with the new seat there is one seat more
      long : length (set s.views id (left_view v) ++ right_view v ∷ []) ≡ length s.views + 1
      long = grind (arith, length_end, set, same)

      -- a party of the new seat has the new seat's number
      alone : (p j : ℕ) → j ≡ length s.views → m.owner p ≡ j → length s.views ≤ p
      alone = grind (arith, nat_cases)

      -- the new seat fits the machine: its only party has done nothing yet
      new : (j : ℕ) → j ≡ length s.views → Fits m.owner m.trace j (right_view v)
      new j j_is =
          record {
            seen = (m.seats id v at).seen;
            other = nothing m.trace.events;
            self = λ any. m.fresh j (omega arith);
            going = λ p of_j is. absurd (cc);
            idle = λ p of_j ne. m.further p (alone p j j_is of_j);
            stated = λ p of_j is. absurd (cc);
            counted = λ p of_j is call under. absurd (cc);
            party = tt;
            late = [];
            waits = none_late m.trace.world.kind None;
            of_party = refl;
            own =
                λ any p of_j. (let none = m.made_none p (alone p j j_is of_j) in
                inl (append-nil (events_by p v.seen) ∙ (none_before p v.seen m.trace.events (m.seats id v at).seen none ∙ sym none)));
            made = λ f. sym (owned_none m.owner j f m.trace.events (λ p of_j. m.made_none p (alone p j j_is of_j)));
          }

      -- the seat that was split fits the machine with half of its share
      left : Fits m.owner m.trace id (left_view v)
      left =
          (let seat_fits = m.seats id v at in
          record {
            seen = seat_fits.seen;
            other = seat_fits.other;
            self = seat_fits.self;
            going = seat_fits.going;
            idle = seat_fits.idle;
            stated = seat_fits.stated;
            counted = seat_fits.counted;
            party = seat_fits.party;
            late = seat_fits.late;
            waits = seat_fits.waits;
            of_party = seat_fits.of_party;
            own = seat_fits.own;
            made = seat_fits.made;
          })

      -- each seat that was there before fits the machine
      old : (j : ℕ) (x : View T) → get_elem? (set s.views id (left_view v)) j ≡ some x → Fits m.owner m.trace j x
      old j x found =
          ⊎_elim (λ (e : (j ≡ id) × (left_view v ≡ x)). subst (λ z. Fits m.owner m.trace j z) e.1
          (subst (λ n. Fits m.owner m.trace n (left_view v)) (sym e.0) left))
          (λ (e : (j ≢ id) × (get_elem? s.views j ≡ some x)). m.seats j x e.1)
          (at_set s.views id j (left_view v) x found)

  -- A seat without a call under way may be joined into another one, which then has both shares.
  pub joins : (id other : ℕ) (v w : View T) → 0 < v.share.part → 0 < w.share.part → w.going ≡ None → v.other ≡ []
      → w.other ≡ [] → Joins IsTableMachine id v other w (joined_view v w) spent_view
  joins id other v w some_share other_share idle alone alone' s m at apart at' =
      record {
        trace = m.trace;
        run = m.run;
        words = m.words;
        owner = handed_on id other m.owner;
        -- each seat fits the machine: the one that was taken in has no party any more
        seats =
            λ j x found. ⊎_elim
            (λ (e : (j ≡ other) × (spent_view ≡ x)). subst (λ z. Fits (handed_on id other m.owner) m.trace j z) e.1 (gone j e.0))
            (λ (e : (j ≢ other) × (get_elem? (set s.views id (joined_view v w)) j ≡ some x)). old j x e.0 e.1)
            (at_set (set s.views id (joined_view v w)) other j spent_view x found);
        -- each party belongs to a seat: those of the seat that was taken in to the one that takes in
        inside =
            λ p low. (let l = long in
            ⊎_elim (λ (e : m.owner p ≡ other). omega (arith, moves p e, within s.views id v at))
            (λ (ne : m.owner p ≢ other). (let to = stays p ne in let stands_inside = m.inside p (omega arith) in omega arith))
            (cases_eq (m.owner p) other));
        fresh = λ p past. (
            let l = long in
            let is = m.fresh p (omega arith) in
            let low = within s.views other w theirs in
            stays p (λ e. absurd (omega arith)) ∙ is);
        further = λ j past. (let l = long in m.further j (omega arith));
        made_none = λ j past. (let l = long in m.made_none j (omega arith));
        -- the join is one operation, which is aside
        asked = have_both at apart theirs some_share m.known.shares m.asked;
        -- some seat with a share has seen all events, and each seat knows first turns of the run
        known = known_join at apart theirs some_share (m.seats id v at).seen alone alone' m.known;
        one =
            one_set code kind capacity (set s.views id (joined_view v w)) m.trace other spent_view
            (one_set code kind capacity s.views m.trace id (joined_view v w) m.one
            (record { mine = (m.one.knew id v at).mine; theirs = (m.one.knew other w theirs).mine }))
            (record { mine = first_none m.one.turns; theirs = first_none m.one.turns });
      }
    where
      -- a join leaves the number of seats
      long : length (set (set s.views id (joined_view v w)) other spent_view) ≡ length s.views
      long = grind (arith, length-set, set)

      -- the seat that is taken in has its view still
      theirs : get_elem? s.views other ≡ some w
      theirs = grind (arith, some, at_set)

      -- a party of the seat that is taken in is then the other seat's
      moves : (p : ℕ) → m.owner p ≡ other → handed_on id other m.owner p ≡ id
      moves p owner_is = grind (arith, nat_tests)

      -- every other party keeps its seat
      stays : (p : ℕ) → m.owner p ≢ other → handed_on id other m.owner p ≡ m.owner p
      stays p ne = grind (arith, false, nat_tests)

      -- a party of the joined seat was a party of one of the two
      of_id : (p : ℕ) → handed_on id other m.owner p ≡ id → (m.owner p ≡ id) ⊎ (m.owner p ≡ other)
      of_id p handed_on_is = grind (arith, inr, inl, stays, cases_eq)

      -- a party of a third seat was that seat's, and not that of the one that is taken in
      of_third : (p j : ℕ) → j ≢ id → handed_on id other m.owner p ≡ j → (m.owner p ≡ j) × (m.owner p ≢ other)
      of_third = grind (arith, moves, stays, cases_eq)

      -- the seat that takes in fits the machine
      mine : Fits m.owner m.trace id v
      mine = m.seats id v at

      -- the seat that is taken in fits the machine
      its : Fits m.owner m.trace other w
      its = m.seats other w theirs

      -- nothing is late for the seat that is taken in
      its_none : its.late ≡ []
      its_none = grind (arith, late_none)

      -- no party of the seat that is taken in has a call under way
      its_idle : (p : ℕ) → m.owner p ≡ other → call_in m.trace.world p ≡ None
      its_idle p of_other = idle_seat m.owner m.trace other w idle its p of_other

      -- the joined seat fits the machine, with the parties of both
      both : Fits (handed_on id other m.owner) m.trace id (joined_view v w)
      both =
          record {
            seen = mine.seen;
            other = its.seen;
            -- the parties of the joined seat are those of both seats
            self = λ any. stays id (λ e. apart (sym (sym (mine.self some_share) ∙ e))) ∙ mine.self some_share;
            -- the latest party is that of the seat that takes in, and the other seat's parties
            -- have no call under way
            going =
                λ p now is. ⊎_elim (λ (h : m.owner p ≡ id). mine.going p h is)
                (λ (h : m.owner p ≡ other). absurd (apart (sym h ∙ party_is v.party p is mine.party))) (of_id p now);
            stated =
                λ p now is. ⊎_elim (λ (h : m.owner p ≡ id). mine.stated p h is)
                (λ (h : m.owner p ≡ other). absurd (apart (sym h ∙ party_is v.party p is mine.party))) (of_id p now);
            counted =
                λ p now is call under. ⊎_elim (λ (h : m.owner p ≡ id). mine.counted p h is call under)
                (λ (h : m.owner p ≡ other). absurd (apart (sym h ∙ party_is v.party p is mine.party))) (of_id p now);
            idle = λ p now ne. ⊎_elim (λ (h : m.owner p ≡ id). mine.idle p h ne) (λ (h : m.owner p ≡ other). its_idle p h) (of_id p now);
            party = go v.party mine.party;
            -- nothing was late for the seat that was taken in
            late = mine.late;
            waits = mine.waits;
            of_party = mine.of_party;
            -- of its own parties the seat had seen all events itself, and the seat that was taken in had seen
            -- those of its parties
            own =
                λ any p now. ⊎_elim (λ (h : m.owner p ≡ id). inl (only v mine alone p h (mine.own some_share p h)))
                (λ (h : m.owner p ≡ other). inr (
                  its_idle p h,
                  sym (append-nil (events_by p w.seen))
                      ∙ (ap (λ es. events_by p w.seen ++ events_by p es) (sym its_none) ∙ only w its alone' p h (its.own other_share p h)),
                )) (of_id p now);
            -- what both made is what the parties of both wrote
            made = λ f. (
                let none : sum_by f its.late ≡ 0 = ap (sum_by f) its_none in
                omega (arith, mine.made f, its.made f, sum_by-append f v.made w.made, owned_both m.owner id other f (λ e. apart (sym e)) m.trace.events));
          }
        where
          -- the latest party of the seat is one of its parties
          party_is : (o : Option ℕ) (p : ℕ) → o ≡ Some p → IfSome o (λ q. m.owner q ≡ id) → m.owner p ≡ id
          party_is o p o_is_some if_some = subst (λ (z : Option ℕ). IfSome z (λ q. m.owner q ≡ id)) o_is_some if_some

          -- the party that the seat was last is still one of its parties
          go : (o : Option ℕ) → IfSome o (λ q. m.owner q ≡ id) → IfSome o (λ q. handed_on id other m.owner q ≡ id)
          go None if_some = tt
          go (Some q) if_some = stays q (λ e. apart (sym e ∙ if_some)) ∙ if_some

          -- a seat that knows one history alone has seen itself all that is seen of its parties
          only : {j : ℕ} (x : View T) (f : Fits m.owner m.trace j x) → x.other ≡ [] → (p : ℕ) → m.owner p ≡ j
              → HasSeenOf p x f.late m.trace → events_by p x.seen ++ events_by p f.late ≡ events_by p m.trace.events
          only x f none p of_j (inl h) = h
          only {j} x f none p of_j (inr h) =
              let nothing_by : events_by p m.trace.events ≡ [] = sym h.1 ∙ ap (events_by p) none in
              ap (λ es. es ++ events_by p f.late) (none_before p x.seen m.trace.events f.seen nothing_by)
              ∙ (quiet_late f p of_j h.0 ∙ sym nothing_by)

      -- each seat but the one that was taken in fits the machine
      old : (j : ℕ) (x : View T) → j ≢ other → get_elem? (set s.views id (joined_view v w)) j ≡ some x → Fits (handed_on id other m.owner) m.trace j x
      old j x apart_too found =
          ⊎_elim (λ (e : (j ≡ id) × (joined_view v w ≡ x)). subst (λ z. Fits (handed_on id other m.owner) m.trace j z) e.1
          (subst (λ n. Fits (handed_on id other m.owner) m.trace n (joined_view v w)) (sym e.0) both))
          (λ (e : (j ≢ id) × (get_elem? s.views j ≡ some x)). third j x e.0 apart_too (m.seats j x e.1))
          (at_set s.views id j (joined_view v w) x found)
        where
          -- a seat that is neither of the two fits the machine as it did
          third : (j : ℕ) (x : View T) → j ≢ id → j ≢ other → Fits m.owner m.trace j x → Fits (handed_on id other m.owner) m.trace j x
          third j x ne apart_too fits =
              record {
                seen = fits.seen;
                other = fits.other;
                self = λ any. stays j (λ e. apart_too (sym (fits.self any) ∙ e)) ∙ fits.self any;
                going = λ p now. fits.going p (of_third p j ne now).0;
                idle = λ p now. fits.idle p (of_third p j ne now).0;
                stated = λ p now. fits.stated p (of_third p j ne now).0;
                counted = λ p now. fits.counted p (of_third p j ne now).0;
                party = go x.party fits.party;
                late = fits.late;
                waits = fits.waits;
                of_party = fits.of_party;
                own = λ any p now. fits.own any p (of_third p j ne now).0;
                made = λ g. fits.made g ∙ owned_third m.owner id other j g ne apart_too m.trace.events;
              }
            where
              -- the party that this seat was last is still one of its parties
              go : (o : Option ℕ) → IfSome o (λ q. m.owner q ≡ j) → IfSome o (λ q. handed_on id other m.owner q ≡ j)
              go None if_some = tt
              go (Some q) if_some = stays q (λ e. apart_too (sym if_some ∙ e)) ∙ if_some

      -- the seat that was taken in has no party any more
      never : (p j : ℕ) → j ≡ other → handed_on id other m.owner p ≡ j → ⊥
      never = grind (arith, moves, stays, cases_eq)

      -- the seat that was taken in fits the machine, without any party
      gone : (j : ℕ) → j ≡ other → Fits (handed_on id other m.owner) m.trace j spent_view
      gone = grind (arith, nothing, never, none_late, owned_none)

  -- a table whose words are those of the opening holds the rule, with a first pass that has the whole share
  pub opens : (words : List ℕ) → IsCoding code → capacity_error kind capacity ≡ None
      → words ≡ (opening_of kind).words code.size capacity ++ 0 ∷ [] → IsTableMachine (opening words [] (first_view capacity))
  opens words coded admitted same =
      let trace_now : Trace T = worlds.opening code kind capacity 0 in
      record {
        -- the machine is the opening
        trace = trace_now;
        run = record {
          reached = reached_as_opening code kind capacity 0 coded admitted;
          coded = refl;
          of_kind = refl;
          sized = refl;
          fresh = fresh_as_opening
              code kind capacity 0;
        };
        words = same;
        -- each party has its own number as its seat, and none has done anything
        owner = λ p. p;
        seats = seats;
        inside = λ p low. low;
        fresh = λ p past. refl;
        further = λ j past. refl;
        made_none = λ j past. refl;
        asked = first_asked capacity;
        known = known_alone (first_view capacity) refl refl;
        one = one_opens code kind capacity (first_view capacity ∷ []) knew;
      }
    where
      -- the first pass knows no turn
      knew : (j : ℕ) (v : View T) → get_elem? (first_view capacity ∷ []) j ≡ some v → Knew [] v
      knew zero v has_view = subst (λ z. Knew [] z) (some-injective (first_view capacity) v has_view) (record { mine = first_none []; theirs = first_none [] })
      knew (suc j) v has_view = absurd (some-ne-none v (sym has_view))

      -- the first seat fits the opening, and there is no other
      seats : (j : ℕ) (v : View T) → get_elem? (first_view capacity ∷ []) j ≡ some v → Fits (λ p. p) (worlds.opening code kind capacity 0) j v
      seats = grind (arith, some-injective, nothing, opens_without, none_late, inl, some-ne-none)
