-- A call that no call of another party goes on beside, or ends beside, meets no change by others.
use Rattle.std.proofs.Common.{◌≡◌, ◌≢◌, ⊎_elim, ℕ, ◌+◌, ◌-◌, ◌==◌, Bool, true, false, if◌then◌else◌, Option, Some, None, is_none}
use Rattle.std.proofs.Common.{append-nil, List, [], ◌∷◌, ◌++◌, fold, refl, sym, ap, subst, ◌∙◌, arith, sum_by}
use Rattle.std.proofs.lemmas.Bool.{cases_eq}
use Rattle.std.proofs.lemmas.Bool.Decides.{nat_tests}
use Rattle.std.proofs.lemmas.List.Sums.{fold-append, sum_by-append, sum_by-cons}
use Rattle.steps.specs.declared.ask.After.{After}
use Rattle.steps.specs.declared.ask.After.TheVariants.{GoOn, Done}
use Rattle.steps.specs.declared.ask.Ask.{Ask}
use Rattle.model.specs.declared.event.Answer.{Answer}
use Rattle.model.specs.declared.event.Event.{Event}
use Rattle.model.specs.declared.event.Event.TheVariants.{Begun, Died, Finished}
use Rattle.model.specs.declared.event.Start.{Start}
use Rattle.model.specs.declared.families.Flight.{Flight}
use Rattle.model.specs.declared.families.Registry.{Registry}
use Rattle.model.specs.declared.party.Doing.{Doing}
use Rattle.model.specs.declared.party.Doing.TheVariants.{Going, Over}
use Rattle.model.specs.declared.party.Party.{Party}
use Rattle.model.specs.declared.turn.Kind.{Kind}
use Rattle.model.specs.declared.turn.Kind.TheVariants as kinds
use Rattle.model.specs.declared.turn.Turn.{Turn}
use Rattle.model.specs.declared.turn.Turn.TheVariants.{Begin, Next, Decide, Die}
use Rattle.model.specs.Families.{first_of, beside_of}
use Rattle.model.specs.Parties.{party_of, doing_of, flight_of, others_of}
use Rattle.model.specs.Step.{Step, answer_in}
use Rattle.model.specs.Turns.{after_begin, after_answer, after_next, after_decision, after_turn, step_in, party_after}
use Rattle.model.specs.Turns.{party_at_begin, events_of_answer, events_of_next, events_of_decision, ending_of, doing_after}
use Rattle.model.specs.Turns.{change_of, step_count, number_of}
use Rattle.model.specs.World.{Trace, opening, flight_in}
use Rattle.model.proofs.Parties.{party_put_same, party_put_other}
use Rattle.model.proofs.Reached.{kept_by, kept_by_runs_on}
use Rattle.model.proofs.Rows.{may_begin, row_passed, not_some}
use Rattle.model.specs.Refusals.{call_refusal}
use Rattle.model.specs.Turns.{IsReachedOn}
use Rattle.model.specs.Open.{IsReachedOpen, open_refusal}
use Rattle.history.specs.History.{IsReachedAs}
use Rattle.lock_free_sets.specs.Whole.{begins, ends, IsInside, AllInside}
use Rattle.lock_free_sets.proofs.Whole.Inside.{step_inside}

module _ {T : Type 0} where
  -- 1 for a call that is under way, else 0.
  abbrev goes : Doing T → ℕ
  goes (Going flight since) = 1
  goes (Over others) = 0

  -- 1 for a party with a call under way, else 0.
  abbrev pub is_going : Option (Party T) → ℕ
  is_going None = 0
  is_going (Some x) = goes x.doing

  -- how many calls of others have ended since the party's latest began
  abbrev pub passed_by : ℕ → ℕ → Event T → ℕ
  passed_by p n (Begun q start) = if q == p then 0 else n
  passed_by p n (Finished q start answer) = if q == p then n else n + 1
  passed_by p n e = n

  -- how many calls of others have ended in these events since the party's latest call began
  abbrev pub passed : ℕ → List (Event T) → ℕ
  passed p events = fold (passed_by p) 0 events

  -- each call begins once more than it ends while it is under way; and others change no word beside a call where none of
  -- theirs is under way, and none has ended since it began
  pub record IsCounted (t : Trace T) : Type 0 where
    pub calls : (q : ℕ) → sum_by (begins q) t.events ≡ sum_by (ends q) t.events + is_going (party_of q t.world.latest)
    -- Behind the begin, no other party has changed a word beside a call that was alone.
    pub others : (p : ℕ) (x : Party T) → party_of p t.world.latest ≡ Some x
        → ((q : ℕ) → q ≢ p → is_going (party_of q t.world.latest) ≡ 0) → passed p t.events ≡ 0
        → others_of t.world.changes x.doing ≡ 0

  -- ---- what a step writes counts nothing

  -- what counts nothing of an event that begins and ends no call counts nothing of a list of such events
  none_inside : (f : Event T → ℕ) → ((e : Event T) → IsInside e → f e ≡ 0) → (es : List (Event T)) → AllInside es → sum_by f es ≡ 0
  none_inside f none [] all_inside = refl
  none_inside f none (e ∷ es) h =
      let one = sum_by-cons f e es in
      let rest = none_inside f none es h.1 in
      let here = none e h.0 in
      omega arith

  -- Events that a step writes, none of which begins or ends a call, have no begin of any party.
  pub begins_none : (q : ℕ) (es : List (Event T)) → AllInside es → sum_by (begins q) es ≡ 0
  begins_none q = none_inside (begins q) first
    where
      first : (e : Event T) → IsInside e → begins q e ≡ 0
      first e is_inside = grind arith

  -- Events that a step writes, none of which begins or ends a call, have no end of any party.
  pub ends_none : (q : ℕ) (es : List (Event T)) → AllInside es → sum_by (ends q) es ≡ 0
  ends_none q = none_inside (ends q) first
    where
      first : (e : Event T) → IsInside e → ends q e ≡ 0
      first e is_inside = grind arith

  -- Events that a step writes leave the count of calls that others ended since the party's last begin.
  passed_none : (p n : ℕ) (es : List (Event T)) → AllInside es → fold (passed_by p) n es ≡ n
  passed_none p n [] all_inside = refl
  passed_none p n (e ∷ es) h = ap (λ m. fold (passed_by p) m es) (first e h.0) ∙ passed_none p n es h.1
    where
      first : (e : Event T) → IsInside e → passed_by p n e ≡ n
      first e is_inside = grind arith

  -- ---- a call goes on

  -- r is the party that steps, x its latest call, s the step, y the call after the step, later the
  -- trace then
  module _ (t : Trace T) (h : IsCounted t) (r : ℕ) (x : Party T) (ask : Option Ask) (n : ℕ) (flight : Flight T) (since : ℕ)
      (found : party_of r t.world.latest ≡ Some x) (doing : x.doing ≡ Going flight since) where
    -- The step that the party takes.
    abbrev s : Step (Flight T) (Registry T) T
    s = step_in t.world r x flight n

    -- The party behind its step.
    abbrev y : Party T
    y = party_after x since t.world.changes (step_count ask) (change_of t.world.words ask) s

    -- The trace behind the step.
    abbrev later : Trace T
    later = record {
      world = after_answer t.world r x ask n (Going flight since);
      events = t.events ++ events_of_answer t.world r x n (Going flight since);
    }

    -- The step writes no begin and no end.
    inside : AllInside s.wrote
    inside = step_inside T t.world.coding t.world.words (beside_of t.world.words t.world.kept t.world.latest r) r x.start flight n t.world.kept

    -- Behind the step the party is y.
    mine : party_of r later.world.latest ≡ Some y
    mine = party_put_same r y t.world.latest

    -- Each other party is as before.
    theirs : (q : ℕ) → q ≢ r → party_of q later.world.latest ≡ party_of q t.world.latest
    theirs q ne = party_put_other q r y t.world.latest ne

    -- Before the step the party had a call under way.
    went : is_going (party_of r t.world.latest) ≡ 1
    went = ap is_going found ∙ ap goes doing

    -- what the events of the step do not count changes by what the end of the call counts, if the
    -- call ends
    sum_then : (f : Event T → ℕ) → sum_by f s.wrote ≡ 0
        → sum_by f later.events ≡ sum_by f t.events + sum_by f (ending_of r x.start (answer_in s.after))
    sum_then f none =
        let one = sum_by-append f t.events (s.wrote ++ ending_of r x.start (answer_in s.after)) in
        let two = sum_by-append f s.wrote (ending_of r x.start (answer_in s.after)) in
        omega arith

    -- After a step, that count changes only by the end of the call, if the step ends it.
    passed_then : (p : ℕ) → passed p later.events ≡ fold (passed_by p) (passed p t.events) (ending_of r x.start (answer_in s.after))
    passed_then p =
        fold-append (passed_by p) 0 t.events (s.wrote ++ ending_of r x.start (answer_in s.after))
        ∙ (fold-append (passed_by p) (passed p t.events) s.wrote (ending_of r x.start (answer_in s.after))
        ∙ ap (λ m. fold (passed_by p) m (ending_of r x.start (answer_in s.after))) (passed_none p (passed p t.events) s.wrote inside))

    -- what its end counts, where it has ended
    begins_last : (q : ℕ) (a : After (Flight T) (Answer T)) → sum_by (begins q) (ending_of r x.start (answer_in a)) ≡ 0
    begins_last q (GoOn f) = refl
    begins_last q (Done answer) = refl

    -- The party's call ends with the step, or is under way still.
    ends_mine : (a : After (Flight T) (Answer T)) (c d : ℕ) → sum_by (ends r) (ending_of r x.start (answer_in a)) + goes (doing_after c d a) ≡ 1
    ends_mine (GoOn f) c d = refl
    ends_mine (Done answer) c d = let t : (r == r) ≡ true = grind (arith, nat_tests) in rw t refl

    -- The step ends no call of another party.
    ends_other : (q : ℕ) → q ≢ r → (a : After (Flight T) (Answer T)) → sum_by (ends q) (ending_of r x.start (answer_in a)) ≡ 0
    ends_other q ne (GoOn f) = refl
    ends_other q ne (Done answer) = let t : (r == q) ≡ false = grind (arith, nat_tests) in rw t refl

    -- Behind the step, each party has begun as many calls as it ended, and one more if one is under way.
    calls_then : (q : ℕ) → sum_by (begins q) later.events ≡ sum_by (ends q) later.events + is_going (party_of q later.world.latest)
    calls_then q = ⊎_elim own other (cases_eq q r)
      where
        one : sum_by (begins q) later.events ≡ sum_by (begins q) t.events + sum_by (begins q) (ending_of r x.start (answer_in s.after))
        one = sum_then (begins q) (begins_none q s.wrote inside)

        two : sum_by (ends q) later.events ≡ sum_by (ends q) t.events + sum_by (ends q) (ending_of r x.start (answer_in s.after))
        two = sum_then (ends q) (ends_none q s.wrote inside)

        none : sum_by (begins q) (ending_of r x.start (answer_in s.after)) ≡ 0
        none = begins_last q s.after

        -- Of the party that steps, as many calls began as ended, and one more if it has one under way still.
        own : q ≡ r → sum_by (begins q) later.events ≡ sum_by (ends q) later.events + is_going (party_of q later.world.latest)
        own same =
            let was = h.calls q in
            let a = one in
            let b = two in
            let c = none in
            let d : is_going (party_of q t.world.latest) ≡ 1 = ap (λ z. is_going (party_of z t.world.latest)) same ∙ went in
            let e : is_going (party_of q later.world.latest) ≡ goes y.doing = ap (λ z. is_going (party_of z later.world.latest)) same ∙ ap is_going mine in
            let f : sum_by (ends q) (ending_of r x.start (answer_in s.after)) + goes y.doing ≡ 1 =
            subst (λ z. sum_by (ends z) (ending_of r x.start (answer_in s.after)) + goes y.doing ≡ 1) (sym same) (ends_mine s.after _ _) in
            omega arith

        -- of another party, as many calls began as ended, and one more if it has one under way
        other : q ≢ r → sum_by (begins q) later.events ≡ sum_by (ends q) later.events + is_going (party_of q later.world.latest)
        other ne =
            let was = h.calls q in
            let a = one in
            let b = two in
            let c = none in
            let d = ap is_going (theirs q ne) in
            let e = ends_other q ne s.after in
            omega arith

    -- A step of the party's own call adds as many changes to all as to its own, so those of others stay none.
    own_changes : (a : After (Flight T) (Answer T)) (c d more : ℕ) → c - d ≡ 0
        → others_of (c + more) (doing_after (c + more) (d + more) a) ≡ 0
    own_changes (GoOn f) c d more none = omega arith
    own_changes (Done answer) c d more none = omega arith

    -- The end of its own call leaves the party's count of calls that others ended.
    passed_mine : (a : After (Flight T) (Answer T)) (m : ℕ) → fold (passed_by r) m (ending_of r x.start (answer_in a)) ≡ m
    passed_mine (GoOn f) m = refl
    passed_mine (Done answer) m = let t : (r == r) ≡ true = grind (arith, nat_tests) in rw t refl

    -- another party's call that goes on is under way then, or has ended beside it
    goes_beside : (p : ℕ) → p ≢ r → (a : After (Flight T) (Answer T)) (c d m : ℕ) → goes (doing_after c d a) ≡ 0
        → fold (passed_by p) m (ending_of r x.start (answer_in a)) ≡ 0 → ⊥
    goes_beside p ne (GoOn f) c d m still none = omega arith
    goes_beside p ne (Done answer) c d m still none =
        let t : (r == p) ≡ false = grind (arith, nat_tests) in
        let more : m + 1 ≡ 0 = rw t at none in
        omega arith

    -- Behind the step, no other party has changed a word beside a call that was alone.
    others_then : (p : ℕ) (z : Party T) → party_of p later.world.latest ≡ Some z
        → ((q : ℕ) → q ≢ p → is_going (party_of q later.world.latest) ≡ 0) → passed p later.events ≡ 0
        → others_of later.world.changes z.doing ≡ 0
    others_then p z there quiet none = ⊎_elim own other (cases_eq p r)
      where
        -- if the party that steps is this one, others have still changed no word since its call
        -- began
        own : p ≡ r → others_of later.world.changes z.doing ≡ 0
        own same =
            let is : Some y ≡ Some z = sym mine ∙ (ap (λ n. party_of n later.world.latest) (sym same) ∙ there) in
            let one : y ≡ z = cc in
            let before : passed r t.events ≡ 0 =
            sym (passed_mine s.after (passed r t.events)) ∙ (sym (passed_then r) ∙ (ap (λ n. passed n later.events) (sym same) ∙ none)) in
            let still : (q : ℕ) → q ≢ r → is_going (party_of q t.world.latest) ≡ 0 =
            λ q ne. sym (ap is_going (theirs q ne)) ∙ quiet q (subst (λ n. q ≢ n) (sym same) ne) in
            let was : t.world.changes - since ≡ 0 = sym (ap (others_of t.world.changes) doing) ∙ h.others r x found still before in
            ap (λ (v : Party T). others_of later.world.changes v.doing) (sym one)
            ∙ own_changes s.after t.world.changes since (change_of t.world.words ask) was

        other : p ≢ r → others_of later.world.changes z.doing ≡ 0
        other ne =
            absurd (goes_beside p ne s.after _ _ (passed p t.events)
            (sym (ap is_going mine) ∙ quiet r (λ e. ne (sym e))) (sym (passed_then p) ∙ none))

    -- The step keeps the counts.
    goes_counted : IsCounted later
    goes_counted = record { calls = calls_then; others = others_then }

  -- where no event is added, what `IsCounted` says of the run holds still
  no_more : (t : Trace T) → IsCounted t → IsCounted record { world = t.world; events = t.events ++ [] }
  no_more t counted = subst (λ es. IsCounted record { world = t.world; events = es }) (sym (append-nil t.events)) counted

  -- A step of a party keeps the counts, whether the party has a call under way or not.
  answered : (t : Trace T) → IsCounted t → (r : ℕ) (x : Party T) (ask : Option Ask) (n : ℕ) → party_of r t.world.latest ≡ Some x
      → (doing : Doing T) → x.doing ≡ doing
      → IsCounted record { world = after_answer t.world r x ask n doing; events = t.events ++ events_of_answer t.world r x n doing }
  answered t counted r x ask n found (Going flight since) is = goes_counted t counted r x ask n flight since found is
  answered t counted r x ask n found (Over others) is = no_more t counted

  -- A turn in which a party takes a step keeps the counts.
  nexts : (t : Trace T) → IsCounted t → (r : ℕ) (o : Option (Party T)) → party_of r t.world.latest ≡ o
      → IsCounted record { world = after_next t.world r o; events = t.events ++ events_of_next t.world r o }
  nexts t counted r None found = no_more t counted
  nexts t counted r (Some x) found = answered t counted r x _ _ found x.doing refl

  -- A turn in which a party hears an answer keeps the counts.
  decides : (t : Trace T) → IsCounted t → (r : ℕ) (said : Bool) (o : Option (Party T)) → party_of r t.world.latest ≡ o
      → IsCounted record { world = after_decision t.world r said o; events = t.events ++ events_of_decision t.world r said o }
  decides t counted r said None found = no_more t counted
  decides t counted r said (Some x) found = answered t counted r x None (number_of said) found x.doing refl

  -- with an owner that dies, the calls are still counted right
  dies : (t : Trace T) → IsCounted t → (owner : ℕ) → IsCounted (after_turn t (Die owner))
  dies t counted owner =
      record {
        calls = λ q. (let was = counted.calls q in
            let one = sum_by-append (begins q) t.events (Died owner ∷ []) in
            let two = sum_by-append (ends q) t.events (Died owner ∷ []) in
            omega arith);
        others = λ p x found quiet none.
            counted.others p x found quiet (sym (fold-append (passed_by p) 0 t.events (Died owner ∷ [])) ∙ none);
      }

  -- ---- a call begins

  -- r is the party that begins a call, new this call, begun the trace then
  module _ (t : Trace T) (h : IsCounted t) (r : ℕ) (start : Start T) (flight : Flight T) (free : is_going (party_of r t.world.latest) ≡ 0) where
    -- The trace behind the begin.
    abbrev begun : Trace T
    begun = record { world = after_begin t.world r start (Some flight); events = t.events ++ Begun r start ∷ [] }

    -- The party behind its begin.
    abbrev new : Party T
    new = party_at_begin start flight t.world.changes

    -- Behind the begin the party is this one.
    found_new : party_of r begun.world.latest ≡ Some new
    found_new = party_put_same r new t.world.latest

    -- Each other party is as before the begin.
    found_other : (q : ℕ) → q ≢ r → party_of q begun.world.latest ≡ party_of q t.world.latest
    found_other q ne = party_put_other q r new t.world.latest ne

    -- The begin of a call keeps the counts.
    begins_counted : IsCounted begun
    begins_counted = record { calls = calls; others = others }
      where
        calls : (q : ℕ) → sum_by (begins q) begun.events ≡ sum_by (ends q) begun.events + is_going (party_of q begun.world.latest)
        calls q = ⊎_elim own other (cases_eq q r)
          where
            one : sum_by (begins q) begun.events ≡ sum_by (begins q) t.events + sum_by (begins q) (Begun r start ∷ [])
            one = sum_by-append (begins q) t.events (Begun r start ∷ [])

            two : sum_by (ends q) begun.events ≡ sum_by (ends q) t.events + 0
            two = sum_by-append (ends q) t.events (Begun r start ∷ [])

            -- of the party that begins, one call more began than ended
            own : q ≡ r → sum_by (begins q) begun.events ≡ sum_by (ends q) begun.events + is_going (party_of q begun.world.latest)
            own same =
                let was = h.calls q in
                let a = one in
                let b = two in
                let t' : (r == q) ≡ true = grind (arith, nat_tests) in
                let c : sum_by (begins {T = T} q) (Begun r start ∷ []) ≡ 1 = rw t' refl in
                let d : is_going (party_of q t.world.latest) ≡ 0 = ap (λ z. is_going (party_of z t.world.latest)) same ∙ free in
                let e : is_going (party_of q begun.world.latest) ≡ 1 = ap (λ z. is_going (party_of z begun.world.latest)) same ∙ ap is_going found_new in
                omega arith

            -- of another party, as many calls began as ended, and one more if it has one under way
            other : q ≢ r → sum_by (begins q) begun.events ≡ sum_by (ends q) begun.events + is_going (party_of q begun.world.latest)
            other ne =
                let was = h.calls q in
                let a = one in
                let b = two in
                let t' : (r == q) ≡ false = grind (arith, nat_tests) in
                let c : sum_by (begins {T = T} q) (Begun r start ∷ []) ≡ 0 = rw t' refl in
                let d = ap is_going (found_other q ne) in
                omega arith

        others : (p : ℕ) (z : Party T) → party_of p begun.world.latest ≡ Some z
            → ((q : ℕ) → q ≢ p → is_going (party_of q begun.world.latest) ≡ 0) → passed p begun.events ≡ 0
            → others_of begun.world.changes z.doing ≡ 0
        others p z there quiet none = ⊎_elim own other (cases_eq p r)
          where
            -- of the party that begins, others have changed no word since its call began
            own : p ≡ r → others_of begun.world.changes z.doing ≡ 0
            own same =
                let is : Some new ≡ Some z = sym found_new ∙ (ap (λ n. party_of n begun.world.latest) (sym same) ∙ there) in
                let one : new ≡ z = cc in
                ap (λ (v : Party T). others_of t.world.changes v.doing) (sym one) ∙ no_change t.world.changes
              where
                no_change : (n : ℕ) → n - n ≡ 0
                no_change n = omega arith

            -- of another party, others have still changed no word since its call began
            other : p ≢ r → others_of begun.world.changes z.doing ≡ 0
            other ne =
                let no = sym (ap is_going found_new) ∙ quiet r (λ e. ne (sym e)) in
                absurd (omega arith)

  -- ---- any turn

  -- the party has no call under way, and the call is one that the kind has
  record BeginsFree (t : Trace T) (p : ℕ) (start : Start T) : Type 0 where
    pub free : flight_in t.world p ≡ None
    pub call : is_none (first_of t.world.kind t.world.capacity start t.world.kept) ≡ false

  -- if the turn is a begin, no call of the party is under way
  abbrev IsFree : Trace T → Turn T → Type 0
  IsFree t (Begin p start) = BeginsFree t p start
  IsFree t turn = Unit {0}

  -- A party that counts 0 has no flight.
  pub goes_none : (o : Option (Party T)) → is_going o ≡ 0 → flight_of (doing_of o) ≡ None
  goes_none o e = grind arith

  -- A party without a flight counts 0.
  none_goes : (o : Option (Party T)) → flight_of (doing_of o) ≡ None → is_going o ≡ 0
  none_goes o e = grind arith

  -- after each turn the calls are still counted right, if a begin is free
  turn_counted : (t : Trace T) (turn : Turn T) → IsFree t turn → IsCounted t → IsCounted (after_turn t turn)
  turn_counted t (Next p) is_free counted = nexts t counted p (party_of p t.world.latest) refl
  turn_counted t (Decide p said) is_free counted = decides t counted p said (party_of p t.world.latest) refl
  turn_counted t (Die owner) is_free counted = dies t counted owner
  turn_counted t (Begin p start) is_free counted = go (first_of t.world.kind t.world.capacity start t.world.kept) is_free.call
    where
      go : (o : Option (Flight T)) → is_none o ≡ false
          → IsCounted record { world = after_begin t.world p start o; events = t.events ++ Begun p start ∷ [] }
      go None is_none_false = absurd (cc)
      go (Some flight) is_none_false = begins_counted t counted p start flight (none_goes (party_of p t.world.latest) is_free.free)

  -- ---- any run

  -- A turn that is not refused begins a call only of a party without one.
  free_call : (t : Trace T) (turn : Turn T) → call_refusal t.world turn ≡ None → IsFree t turn
  free_call t (Begin p start) e = let m = may_begin t.world p start e in record { free = m.free; call = m.call }
  free_call t turn e = tt

  -- In an open run too, a turn that is not refused begins a call only of a party without one.
  free_open : (t : Trace T) (turn : Turn T) → open_refusal t.world turn ≡ None → IsFree t turn
  free_open t turn e = grind (arith, row_passed, not_some, free_call)

  -- At the opening no call has begun.
  opens_counted : (t : Trace T) → IsCounted (opening t.world.coding t.world.kind t.world.capacity t.world.parties)
  opens_counted t = record { calls = λ q. refl; others = λ p x found quiet none. absurd (cc) }

  -- In each run of the machine the calls are counted right.
  counted_on : (t : Trace T) → IsReachedOn t → IsCounted t
  counted_on t reached_on = kept_by_runs_on IsCounted (λ u turn e h. turn_counted u turn (free_call u turn e) h) t (opens_counted t) reached_on

  -- In each open run the calls are counted right.
  counted_open : (t : Trace T) → IsReachedOpen t → IsCounted t
  counted_open t reached_open = kept_by open_refusal IsCounted (λ u turn e h. turn_counted u turn (free_open u turn e) h) t (opens_counted t) reached_open

  -- In each run of a machine of any kind the calls are counted right.
  pub counted_as : (kind : Kind) (t : Trace T) → IsReachedAs kind t → IsCounted t
  counted_as kinds.Robust t reached_as = counted_open t reached_as
  counted_as kinds.Container t reached_as = counted_open t reached_as
  counted_as kind t reached_as = counted_on t reached_as
