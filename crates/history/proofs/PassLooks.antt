-- A pass may look through its history by a load of any word of the table, outside any call: it then knows all
-- events up to that load (`Looks`).
use Rattle.history.proofs.Names.{◌≡◌, ◌≢◌, ◌⊎◌, inl, inr, ⊎_elim, ℕ, zero, suc, ◌+◌, ◌<◌, Option, Some, None, List, []}
use Rattle.history.proofs.Names.{◌∷◌, ◌++◌, length, set, slice_index, refl, sym, ap, subst, ◌∙◌}
use Rattle.history.proofs.Names.{append-nil, arith, length-set, sum_by, Allows, at_set, Event, Kind, Coding, Trace}
use Rattle.history.proofs.Names.{Start, Flight}
use mathlib.Core.Option.{some, some-injective}
use lib.ListN.{get_elem?}
use Rattle.atomic_table.specs.Table.{State}
use Rattle.atomic_table.specs.Table as table
use Rattle.steps.specs.declared.ask.Op.TheVariants.{Load}
use Rattle.history.proofs.Names.{OwesAsk}
use Rattle.model.specs.declared.turn.Kind.TheVariants as kinds
use Rattle.history.specs.declared.view.View.{View}
use Rattle.history.specs.History.{IsBeginning, IsMachine, Knew, Fits, HasSeenOf, IsLate, others_by, HaveAsked, steps_of_run}
use Rattle.history.proofs.Asked.{Gains, gains_has, gains_have, asked_at}
use Rattle.history.specs.Views.{Looks, LooksOnce, WhenIdle}
use Rattle.history.specs.Known.{Known, owned, events_by}
use Rattle.history.proofs.Known.{by_more, itself, nil_right, none_late, by_nothing}
use Rattle.history.proofs.AllSeen.{known_step, known_whole, owned_whole}
use Rattle.history.proofs.OneRun.{one_set, knew_all, continues_all}
use Rattle.history.proofs.Passes.{nothing, set_same}

-- nothing is missing of a list that is equal to its first part
nothing_left : {A : Type 0} → (xs rest : List A) → xs ≡ xs ++ rest → rest ≡ []
nothing_left [] rest xs_is = sym xs_is
nothing_left (x ∷ xs) rest xs_is = let same : xs ≡ xs ++ rest = cc in nothing_left xs rest same

-- a pass that knows one history alone, with nothing late, has seen all events of its party
rest_apart : {T : Type 0} (v : View T) (t : Trace T) (late : List (Event T)) (seen : IsBeginning v.seen t.events) (p : ℕ)
    → v.other ≡ [] → late ≡ [] → HasSeenOf p v late t → events_by p seen.rest ≡ []
rest_apart = grind (arith, nothing_left, append-nil, by_more, nil_right)

-- an element that is set to what it is leaves the list as it is
set_again : {A : Type 0} → (xs : List A) (i : ℕ) (x : A) → get_elem? xs i ≡ some x → set xs i x ≡ xs
set_again [] i x there_is = refl
set_again (y ∷ ys) zero x there_is = ap (λ z. z ∷ ys) (sym (some-injective y x there_is))
set_again (y ∷ ys) (suc i) x there_is = ap (λ zs. y ∷ zs) (set_again ys i x there_is)

-- nothing can be late for the call, or the queue is an overflowing one and a call is under way
calm_or_not : {T : Type 0} → (k : Kind) (o : Option (Start T × Flight T))
    → ((late : List (Event T)) → IsLate k o late → late ≡ []) ⊎ ((k ≡ kinds.Overflow) × (o ≢ None))
calm_or_not kinds.Overflow None = inl (λ late h. h)
calm_or_not kinds.Overflow (Some c) = inr (refl, λ e. absurd (cc))
calm_or_not k o = inl (λ late h. h)

-- what holds anyway holds when the pass is idle
told_when : {T : Type 0} → (k : Kind) (o : Option (Start T × Flight T)) (Told : Type 0) → Told → WhenIdle k o Told
told_when kinds.Overflow o Told told = λ e. told
told_when k o Told told = told

-- what follows from what is told of a look is told where that is
told_of : {T : Type 0} → (k : Kind) (o : Option (Start T × Flight T)) (Told Less : Type 0) → (Told → Less) → WhenIdle k o Told → WhenIdle k o Less
told_of kinds.Overflow o Told Less less when_idle = λ e. less (when_idle e)
told_of k o Told Less less when_idle = less when_idle

told_never : {T : Type 0} → (k : Kind) (o : Option (Start T × Flight T)) (Told : Type 0) → (k ≡ kinds.Overflow) × (o ≢ None) → WhenIdle k o Told
told_never k o Told h = subst (λ z. WhenIdle z o Told) (sym h.0) (λ e. absurd (h.1 e))

module _ {T : Type 0} (code : Coding T) (kind : Kind) (capacity : ℕ) where
  -- the table is a machine of this kind and capacity
  abbrev IsTableMachine : State (Unit {0}) (View T) → Type 0
  IsTableMachine s = IsMachine code kind capacity s

  -- a seat may have another view w: one that fits the machine, with which some seat has still seen all
  -- events, and the table's run and operations are still counted right
  reseated : {words : List ℕ} {s : State (Unit {0}) (View T)} (m : IsTableMachine s) {id : ℕ} {v : View T} (w : View T)
      → words ≡ s.words → get_elem? s.views id ≡ some v → Fits m.owner m.trace id w
      → Known (set s.views id w) m.trace.events → Knew m.one.turns w → HaveAsked (set s.views id w) (steps_of_run code kind capacity m.one.turns)
      → IsTableMachine (record { words = words; homes = s.homes; views = set s.views id w })
  reseated {s = s} m {id = id} w same has_view fits known knew asked =
      record {
        trace = m.trace;
        run = m.run;
        words = same ∙ m.words;
        owner = m.owner;
        -- seat `id` fits the machine with its new view, and each other seat as it did
        seats =
            λ j x found. ⊎_elim
            (λ (e : (j ≡ id) × (w ≡ x)). subst (λ z. Fits m.owner m.trace j z) e.1 (subst (λ n. Fits m.owner m.trace n w) (sym e.0) fits))
            (λ (e : (j ≢ id) × (get_elem? s.views j ≡ some x)). m.seats j x e.1) (at_set s.views id j w x found);
        -- the number of seats stays
        inside = λ p low. (let long = length-set s.views id w in let stands_inside = m.inside p (omega arith) in omega arith);
        fresh = λ p past. (let long = length-set s.views id w in m.fresh p (omega arith));
        further = λ j past. (let long = length-set s.views id w in m.further j (omega arith));
        made_none = λ j past. (let long = length-set s.views id w in m.made_none j (omega arith));
        known = known;
        one = one_set code kind capacity s.views m.trace id w m.one knew;
        asked = asked;
      }

  -- the same holds with the words, the table, the seat and its views as explicit arguments
  pub reseat : (words : List ℕ) (s : State (Unit {0}) (View T)) (m : IsTableMachine s) (id : ℕ) (v w : View T)
      → words ≡ s.words → get_elem? s.views id ≡ some v → Fits m.owner m.trace id w
      → Known (set s.views id w) m.trace.events → Knew m.one.turns w → HaveAsked (set s.views id w) (steps_of_run code kind capacity m.one.turns)
      → IsTableMachine (record { words = words; homes = s.homes; views = set s.views id w })
  reseat words s m id v w same has_view fits known knew asked = reseated m w same has_view fits known knew asked

  -- a seat that is to look through the history of a table that is a machine, by a load of a word of the table
  pub record Looker : Type 0 where
    pub s : State (Unit {0}) (View T)
    pub m : IsTableMachine s
    pub id : ℕ  -- of the seat
    pub v : View T  -- what it knows
    pub word : ℕ
    pub has_view : get_elem? s.views id ≡ some v
    pub some_share : 0 < v.share.part
    -- nothing is late for the seat's call
    pub calm : (late : List (Event T)) → IsLate kind v.going late → late ≡ []

  -- what a load of the word leaves: the view w, which knows all events of the machine, and with which the table
  -- holds its machine again
  pub record Looked (looker : Looker) : Type 0 where
    pub w : View T
    pub holds : IsTableMachine (table.stepped looker.s looker.word (slice_index looker.s.words looker.word) looker.id [] w table.keeps)
    pub looks : Looks code kind capacity looker.v w
    pub seen : w.seen ≡ looker.m.trace.events
    pub asked : w.asked ≡ looker.v.asked + 1

  module _ (looker : Looker) where
    open looker use {s, m, id, v, word, has_view, some_share, calm}

    -- since nothing is late for the seat, what it made are the events of its parties, so its view may take over all
    -- events and all turns of the machine
    pub look_by : Looked looker
    look_by =
        let t = m.trace in
        -- nothing is late for the seat, so what it made are just the events of its parties
        let seat_fits = m.seats id v has_view in
        let none : seat_fits.late ≡ [] = calm seat_fits.late (subst (λ k. IsLate k v.going seat_fits.late) m.run.of_kind seat_fits.waits) in
        let made : (g : Event T → ℕ) → sum_by g v.made ≡ sum_by (owned m.owner id g) t.events =
        λ g. (let no : sum_by g seat_fits.late ≡ 0 = ap (sum_by g) none in omega (arith, seat_fits.made g)) in
        -- the view after the look has all events and all turns of the machine
        let view_now : View T =
        record v {
          seen = t.events;
          other = [];
          turns = m.one.turns;
          other_turns = [];
          asked = v.asked + 1;
          aside = v.aside + 1;
          others = others_by t.world v.party;
        } in
        -- the look is one operation, and no step of the run
        let gains : Gains s.views v view_now.asked view_now.aside (steps_of_run code kind capacity m.one.turns) =
        record {
          old = steps_of_run code kind capacity m.one.turns;
          n = 0;
          have = m.asked;
          has = asked_at id has_view m.known.shares m.asked;
          more = omega arith;
          own = omega arith;
        } in record {
          w = view_now;
          -- the table's words stay, and the new view fits the machine
          holds =
              reseated m view_now (set_same s.words word) has_view
              (record {
                seen = itself t.events;
                other = nothing t.events;
                self = seat_fits.self;
                going = seat_fits.going;
                idle = seat_fits.idle;
                stated = seat_fits.stated;
                counted = seat_fits.counted;
                party = seat_fits.party;
                late = [];
                waits = none_late t.world.kind v.going;
                of_party = by_nothing v.party;
                own = λ any p of_id. inl (append-nil (events_by p t.events));
                made = λ g. omega (arith, made g);
              })
              (known_step id view_now has_view refl some_share refl m.known.someone m.known.spent m.known.shares)
              (knew_all code kind capacity m.one refl refl)
              (gains_have id view_now has_view gains some_share);
          -- what the look tells of the new view
          looks = record {
            capacity = refl;
            party = refl;
            going = refl;
            state = refl;
            share = refl;
            other = refl;
            made = refl;
            aside = omega arith;
            mine = seat_fits.seen;
            theirs = seat_fits.other;
            -- with the whole share, the seat had seen all events already
            whole =
                λ all. ⊎_elim (λ (e : v.seen ≡ t.events). inl (sym e)) (λ (e : v.other ≡ t.events). inr (sym e))
                (known_whole id has_view all m.known);
            all =
                λ all g. owned_whole has_view all m.known.shares m.known.spent
                (λ j u ne there. m.seats j u there) m.inside (λ q ne past. m.made_none q past) m.known.someone g
                ∙ sym (made g);
            history = record { trace = t; run = m.run; is = refl };
            ran = continues_all id m.one has_view m.run refl refl refl
                (gains_has gains refl);
            theirs_ran = (m.one.knew id v has_view).theirs;
            parties = record { owner = m.owner; seat = id; sums = made };
            apart = λ alone any p of_id. rest_apart v t seat_fits.late seat_fits.seen p alone none (seat_fits.own any p of_id);
          };
          seen = refl;
          asked = refl;
        }

  -- a load of a word of this table is a look, where nothing is late for the seat: the view w knows all events
  -- of the machine
  pub looks_at : (slots id word : ℕ) (v : View T) → 0 < v.share.part
      → ((late : List (Event T)) → IsLate kind v.going late → late ≡ []) → (s : State (Unit {0}) (View T))
      → (m : IsTableMachine s) → length s.homes ≡ slots → get_elem? s.views id ≡ some v
      → slice_index s.words word < 18446744073709551616
      → (w : View T) × (a : table.Act (Unit {0})) × table.Valid s.homes [] a
      × IsTableMachine (table.stepped s word (slice_index s.words word) id [] w a)
      × (Looks code kind capacity v w × (table.carried_after [] a ≡ [])) × (w.seen ≡ m.trace.events) × (w.asked ≡ v.asked + 1)
  looks_at slots id word v some_share calm s m long has_view small =
      let look = look_by (record { s = s; m = m; id = id; v = v; word = word; has_view = has_view; some_share = some_share; calm = calm }) in
      (look.w, table.keeps, tt, look.holds, (look.looks, refl), look.seen, look.asked)

  -- a look is all that a seat owes for one load
  pub owes_look : (words slots id word : ℕ) (v : View T) → word < words → 0 < v.share.part
      → ((late : List (Event T)) → IsLate kind v.going late → late ≡ [])
      → OwesAsk (λ (z : View T). z.asked) IsTableMachine words slots id (λ u n w. LooksOnce code kind capacity u w) word Load (v, [])
  owes_look words slots id word v below some_share calm = (
    below,
    λ s m long at small. (
        let look = look_by (record { s = s; m = m; id = id; v = v; word = word; has_view = at; some_share = some_share; calm = calm }) in
        (look.w, table.keeps, tt, look.holds, ((look.looks, look.asked), look.asked, refl))),
  )

  -- A load where something may be late for the seat: it keeps its view, and nothing is told of the look.
  looks_when : (slots id word : ℕ) {v : View T} → 0 < v.share.part → (s : State (Unit {0}) (View T)) → (m : IsTableMachine s)
      → length s.homes ≡ slots → get_elem? s.views id ≡ some v → slice_index s.words word < 18446744073709551616
      → (w : View T) × (a : table.Act (Unit {0})) × table.Valid s.homes [] a
      × IsTableMachine (table.stepped s word (slice_index s.words word) id [] w a) × (table.carried_after [] a ≡ [])
      × WhenIdle kind v.going (Looks code kind capacity v w × (w.seen ≡ m.trace.events))
  looks_when slots id word {v} some_share s m long has_view small = ⊎_elim told untold (calm_or_not kind v.going)
    where
      -- where nothing may be late for the seat, the load tells of a look
      told : ((late : List (Event T)) → IsLate kind v.going late → late ≡ [])
          → (w : View T) × (a : table.Act (Unit {0})) × table.Valid s.homes [] a
          × IsTableMachine (table.stepped s word (slice_index s.words word) id [] w a) × (table.carried_after [] a ≡ [])
          × WhenIdle kind v.going (Looks code kind capacity v w × (w.seen ≡ m.trace.events))
      told calm =
          let look = look_by (record { s = s; m = m; id = id; v = v; word = word; has_view = has_view; some_share = some_share; calm = calm }) in (
            look.w,
            table.keeps,
            tt,
            look.holds,
            refl,
            told_when kind v.going (Looks code kind capacity v look.w × (look.w.seen ≡ m.trace.events)) (look.looks, look.seen),
          )

      -- where something may be late for the seat, it stays as it is, and nothing is told
      untold : (kind ≡ kinds.Overflow) × (v.going ≢ None)
          → (w : View T) × (a : table.Act (Unit {0})) × table.Valid s.homes [] a
          × IsTableMachine (table.stepped s word (slice_index s.words word) id [] w a) × (table.carried_after [] a ≡ [])
          × WhenIdle kind v.going (Looks code kind capacity v w × (w.seen ≡ m.trace.events))
      untold h = (
        v,
        table.keeps,
        tt,
        reseated m v (set_same s.words word) has_view
            (m.seats id v has_view) (subst (λ views. Known views m.trace.events) (sym (set_again s.views id v has_view)) m.known) (m.one.knew id v has_view)
            (subst (λ views. HaveAsked views (steps_of_run code kind capacity m.one.turns)) (sym (set_again s.views id v has_view)) m.asked),
        refl,
        told_never kind v.going (Looks code kind capacity v v × (v.seen ≡ m.trace.events)) h,
      )

  -- a pass with a share may look through the history by a load of any word of the table
  pub looks : (slots id word : ℕ) (v : View T) → 0 < v.share.part
      → Allows IsTableMachine slots id (v, []) word (λ n. n) (λ found me. WhenIdle kind v.going (Looks code kind capacity v me.0) × (me.1 ≡ []))
  looks slots id word v some_share s m long at small =
      (let looked = looks_when slots id word some_share s m long at small in (
        looked.0,
        looked.1,
        looked.2,
        looked.3,
        (
          told_of kind v.going (Looks code kind capacity v looked.0 × (looked.0.seen ≡ m.trace.events))
              (Looks code kind capacity v looked.0) (λ h. h.0) looked.5,
          looked.4,
        ),
      ))
