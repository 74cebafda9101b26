-- What a pass of a container knows up to the end of a call is a run too (`ended_run`): a turn that
-- writes the end of a call writes it last.
use Rattle.std.specs.List.{AllByRecursion}
use Rattle.lock_free_owners.proofs.Names.{◌≡◌, ◌⊎◌, ⊎_elim, inl, inr, ℕ, Bool, true, false, true≢false, Option, Some, None}
use Rattle.lock_free_owners.proofs.Names.{List, [], ◌∷◌, ◌++◌, refl, sym, ap, subst, ◌∙◌, append_assoc, append-nil, arith}
use Rattle.lock_free_owners.proofs.Names.{Answer, Event, Finished, Start, Flight, Turn, Coding, Trace}
use Rattle.lock_free_owners.proofs.Names.{after_turn, ending_of, events_of, IsBeginning, IsRun, View, refusal_as}
use Rattle.steps.specs.declared.container.state.ContainerState.{ContainerState}
use Rattle.model.specs.declared.families.Registry.TheVariants as registries
use Rattle.model.specs.declared.families.container.calls.ContainerFlight.{ContainerFlight}
use Rattle.model.specs.declared.party.Doing.{Doing}
use Rattle.model.specs.declared.party.Doing.TheVariants.{Going, Over}
use Rattle.model.specs.declared.party.Party.{Party}
use Rattle.model.specs.declared.turn.Kind.TheVariants as kinds
use Rattle.model.specs.declared.turn.Turn.TheVariants.{Begin, Next, Decide, Die}
use Rattle.model.specs.Families.{beside_of, step_of}
use Rattle.model.specs.Families.Container.Steps.{effects, questions}
use Rattle.model.specs.Parties.{party_of}
use Rattle.model.specs.Turns.{AreAllowedBy, after_turns, events_of_answer, events_of_next, events_of_decision, step_in}
use Rattle.model.specs.World.{opening}
use Rattle.history.specs.History.{AreFirst, AreFresh, Knows}
use Rattle.history_owners.proofs.Containers.{kept_there}
use Rattle.history.proofs.OneRun.{know_one, first_none}
use Rattle.history.proofs.Reached.{reached_as_opening, fresh_as_opening}
use Rattle.history.proofs.Turns.{run_more}
use Rattle.lock_free_owners.specs.Container.Ends.{RanTo}

module _ {T : Type 0} where
  -- ---- what a step writes ends no call

  -- The event is the end of a call.
  abbrev is_end : Event T → Bool
  is_end (Finished p start answer) = true
  is_end e = false

  -- the event is no end of a call
  abbrev NotEnd : Event T → Type 0
  NotEnd e = is_end e ≡ false

  -- none of these events is the end of a call
  abbrev NoEnds : List (Event T) → Type 0
  NoEnds es = AllByRecursion NotEnd es

  -- Two lists of events without an end of a call have none together.
  both_none : (xs ys : List (Event T)) → NoEnds xs → NoEnds ys → NoEnds (xs ++ ys)
  both_none [] ys a b = b
  both_none (x ∷ xs) ys a b = (a.0, both_none xs ys a.1 b)

  -- What a step of a container's call does writes no end of a call.
  effects_none : (code : Coding T) (p : ℕ) (state : Option (ContainerState T)) (flight : ContainerFlight T) (old : ℕ)
      → NoEnds (effects code p state flight old)
  effects_none code p state flight old = grind arith

  -- What a question writes is no end of a call.
  questions_none : (p : ℕ) (flight : ContainerFlight T) (old : ℕ) → NoEnds (questions p flight old)
  questions_none p flight old = grind arith

  -- A step writes no end of a call. The end itself comes behind what the step writes.
  step_none : (code : Coding T) (words : List ℕ) (beside : Option (ℕ × ℕ)) (p : ℕ) (start : Start T) (flight : Flight T) (old : ℕ)
      (dead : List ℕ) (states : List (ℕ × ContainerState T))
      → NoEnds (step_of code words beside p start flight old (registries.Container dead states)).wrote
  step_none code words beside p start flight old dead states = grind (arith, both_none, effects_none, questions_none)

  -- ---- so a turn writes it last

  -- the list has one event at most
  abbrev IsShort : List (Event T) → Type 0
  IsShort [] = Unit {0}
  IsShort (x ∷ []) = Unit {0}
  IsShort (x ∷ (y ∷ ys)) = ⊥

  -- A call that goes on or ends has one end at most.
  ending_short : (p : ℕ) (start : Start T) (o : Option (Answer T)) → IsShort (ending_of p start o)
  ending_short p start o = grind arith

  -- The empty list has no element.
  no_more : {A : Type 0} (e : Event T) (pre post : List (Event T)) → [] ≡ pre ++ e ∷ post → A
  no_more e [] post is = absurd (cc)
  no_more e (x ∷ pre) post is = absurd (cc)

  -- in a list of one event at most nothing stands behind an event
  short_last : (last : List (Event T)) → IsShort last → (e : Event T) (pre post : List (Event T)) → last ≡ pre ++ e ∷ post → post ≡ []
  short_last [] short e pre post is = no_more e pre post is
  short_last (x ∷ []) short e [] post is = (let none : [] ≡ post = cc in sym none)
  short_last (x ∷ []) short e (y ∷ pre) post is = (let none : [] ≡ pre ++ e ∷ post = cc in no_more e pre post none)
  short_last (x ∷ (y ∷ ys)) short e pre post is = absurd short

  -- where a step's own events end no call, and at most the end of its call follows, an event that
  -- ends a call is the last of them
  ends_last : (ws last : List (Event T)) → NoEnds ws → IsShort last → (e : Event T) → is_end e ≡ true → (pre post : List (Event T))
      → ws ++ last ≡ pre ++ e ∷ post → post ≡ []
  ends_last [] last none short e end pre post is = short_last last short e pre post is
  ends_last (w ∷ ws) last none short e end [] post is =
      let same : w ≡ e = cc in
      absurd (true≢false (sym end ∙ (ap is_end (sym same) ∙ none.0)))
  ends_last (w ∷ ws) last none short e end (x ∷ pre) post is =
      let rest : ws ++ last ≡ pre ++ e ∷ post = cc in
      ends_last ws last none.1 short e end pre post rest

module _ {T : Type 0} (code : Coding T) (capacity : ℕ) where
  -- the machine is one that a container's table can be
  abbrev IsOn : Trace T → Type 0
  IsOn t = IsRun code kinds.Container capacity t

  -- t is a trace of a run of a container, e an event that ends a call; pre and post stand before
  -- and behind it
  module _ (t : Trace T) (run : IsOn t) (e : Event T) (end : is_end e ≡ true) (pre post : List (Event T)) where
    -- an event that ends a call is the last that a step of a party's call writes
    step_last : (p : ℕ) (x : Party T) (old : ℕ) (doing : Doing T) → events_of_answer t.world p x old doing ≡ pre ++ e ∷ post → post ≡ []
    step_last p x old (Over others) is = no_more e pre post is
    step_last p x old (Going flight since) is =
        let there = kept_there code capacity t run in
        let s = step_in t.world p x flight old in
        let beside : Option (ℕ × ℕ) = beside_of t.world.words t.world.kept t.world.latest p in
        let none : NoEnds s.wrote =
        subst (λ kept. NoEnds (step_of t.world.coding t.world.words beside p x.start flight old kept).wrote) (sym there.2)
        (step_none t.world.coding t.world.words beside p x.start flight old there.0 there.1) in
        ends_last s.wrote _ none (ending_short p x.start _) e end pre post is

    -- The end of a call is the last event of a party's step.
    party_last : (p : ℕ) (o : Option (Party T)) → party_of p t.world.latest ≡ o → events_of t.world (Next p) ≡ pre ++ e ∷ post → post ≡ []
    party_last p None found is = no_more e pre post (sym (ap (λ z. events_of_next t.world p z) found) ∙ is)
    party_last p (Some x) found is = step_last p x _ x.doing (sym (ap (λ z. events_of_next t.world p z) found) ∙ is)

    -- The end of a call is the last event of an answer that a party hears.
    said_last : (p : ℕ) (said : Bool) (o : Option (Party T)) → party_of p t.world.latest ≡ o → events_of t.world (Decide p said) ≡ pre ++ e ∷ post → post ≡ []
    said_last p said None found is = no_more e pre post (sym (ap (λ z. events_of_decision t.world p said z) found) ∙ is)
    said_last p said (Some x) found is = step_last p x _ x.doing (sym (ap (λ z. events_of_decision t.world p said z) found) ∙ is)

    -- nothing stands behind the end of a call in what one turn writes; the cases are the turns
    turn_last : (turn : Turn T) → events_of t.world turn ≡ pre ++ e ∷ post → post ≡ []
    turn_last (Begin p start) is = short_last _ tt e pre post is
    turn_last (Next p) is = party_last p (party_of p t.world.latest) refl is
    turn_last (Decide p said) is = said_last p said (party_of p t.world.latest) refl is
    turn_last (Die owner) is = short_last _ tt e pre post is

  -- ---- the turns up to it

  -- Two lists behind the same beginning are equal if they make the same list with it.
  cancel : (xs ys zs : List (Event T)) → xs ++ ys ≡ xs ++ zs → ys ≡ zs
  cancel [] ys zs is = is
  cancel (x ∷ xs) ys zs is = (let rest : xs ++ ys ≡ xs ++ zs = cc in cancel xs ys zs rest)

  -- further turns only add events
  events_more : (t : Trace T) (turns : List (Turn T)) → IsBeginning t.events (after_turns t turns).events
  events_more t [] = record { rest = []; is = sym (append-nil t.events) }
  events_more t (turn ∷ turns) =
      let on = events_more (after_turn t turn) turns in
      record { rest = events_of t.world turn ++ on.rest; is = on.is ∙ append_assoc t.events (events_of t.world turn) on.rest }

  -- of two ways to split a list: the events `es` end before the event e, or e is one of them
  split_at : (es more pre : List (Event T)) (e : Event T) (rest : List (Event T)) → es ++ more ≡ pre ++ e ∷ rest
      → ((k : List (Event T)) × (pre ≡ es ++ k)) ⊎ ((post : List (Event T)) × (es ≡ pre ++ e ∷ post))
  split_at [] more pre e rest is = inl (pre, refl)
  split_at (x ∷ es) more [] e rest is = (let here : x ≡ e = cc in inr (es, ap (λ z. z ∷ es) here))
  split_at (x ∷ es) more (y ∷ pre) e rest is =
      let here : x ≡ y = cc in
      let tail : es ++ more ≡ pre ++ e ∷ rest = cc in
      ⊎_elim
      (λ (a : (k : List (Event T)) × (pre ≡ es ++ k)). inl (a.0, ap (λ z. z ∷ pre) (sym here) ∙ ap (λ zs. x ∷ zs) a.1))
      (λ (b : (post : List (Event T)) × (es ≡ pre ++ e ∷ post)). inr (b.0, ap (λ z. z ∷ es) here ∙ ap (λ zs. y ∷ zs) b.1))
      (split_at es more pre e rest tail)

  -- the first of these turns lead from t to just these events
  abbrev Cut : Trace T → List (Turn T) → List (Event T) → Type 0
  Cut t turns seen = (first : List (Turn T)) × AreFirst first turns × ((after_turns t first).events ≡ seen)

  module _ (e : Event T) (end : is_end e ≡ true) (before rest : List (Event T)) where
    -- where no turn is left, the events cannot both go on behind the end of the call and be a
    -- beginning of what comes before it
    cut_none : (t : Trace T) → t.events ≡ (before ++ e ∷ []) ++ rest → IsBeginning t.events before → Cut t [] (before ++ e ∷ [])
    cut_none t is begun =
        let whole : t.events ++ [] ≡ t.events ++ (begun.rest ++ e ∷ rest) =
        append-nil t.events
        ∙ (is
        ∙ (append_assoc before (e ∷ []) rest
        ∙ (ap (λ xs. xs ++ e ∷ rest) begun.is ∙ append_assoc t.events begun.rest (e ∷ rest)))) in
        no_more e begun.rest rest (cancel t.events [] (begun.rest ++ e ∷ rest) whole)

    -- If the cut lies behind this turn, it is the turn and then the cut of the further turns.
    later : (t : Trace T) (turn : Turn T) (turns : List (Turn T)) → Cut (after_turn t turn) turns (before ++ e ∷ []) → Cut t (turn ∷ turns) (before ++ e ∷ [])
    later t turn turns next = (turn ∷ next.0, record { rest = next.1.rest; is = ap (λ xs. turn ∷ xs) next.1.is }, next.2)

    -- If this turn writes the end of the call, the turns up to it lead to just the events up to that end.
    now : (t : Trace T) (turn : Turn T) (turns : List (Turn T)) → IsOn t → (begun : IsBeginning t.events before) → (post : List (Event T))
        → events_of t.world turn ≡ begun.rest ++ e ∷ post → Cut t (turn ∷ turns) (before ++ e ∷ [])
    now t turn turns run begun post writes =
        let none = turn_last t run e end begun.rest post turn writes in (
          turn ∷ [],
          record { rest = turns; is = refl },
          ap (λ xs. t.events ++ xs) (writes ∙ ap (λ xs. begun.rest ++ e ∷ xs) none)
              ∙ (sym (append_assoc t.events begun.rest (e ∷ [])) ∙ ap (λ xs. xs ++ e ∷ []) (sym begun.is)),
        )

    -- of turns that lead beyond the end of a call, the first ones lead to just the events up to
    -- that end
    cut_at : (t : Trace T) (turns : List (Turn T)) → IsOn t → AreAllowedBy (refusal_as kinds.Container) t turns → AreFresh t turns
        → (after_turns t turns).events ≡ (before ++ e ∷ []) ++ rest → IsBeginning t.events before → Cut t turns (before ++ e ∷ [])
    cut_at t [] run allowed fresh is begun = cut_none t is begun
    cut_at t (turn ∷ turns) run allowed fresh is begun =
        -- What the turn and the turns behind it write is what `before` has beyond the events of t, the
        -- end, and the rest.
        let es = events_of t.world turn in
        let on = events_more (after_turn t turn) turns in
        let whole : t.events ++ (es ++ on.rest) ≡ t.events ++ (begun.rest ++ e ∷ rest) =
        sym (append_assoc t.events es on.rest)
        ∙ (sym on.is
        ∙ (is
        ∙ (append_assoc before (e ∷ []) rest
        ∙ (ap (λ xs. xs ++ e ∷ rest) begun.is ∙ append_assoc t.events begun.rest (e ∷ rest))))) in
        -- The cases are whether the end stands behind the events of this turn or among them.
        ⊎_elim {C = Cut t (turn ∷ turns) (before ++ e ∷ [])}
        (λ (k : (k : List (Event T)) × (begun.rest ≡ es ++ k)).
        later t turn turns
        (cut_at (after_turn t turn) turns (run_more code kinds.Container capacity t turn allowed.0 fresh.0 run) allowed.1 fresh.1 is
        (record {
          rest = k.0;
          is = begun.is ∙ (ap (λ xs. t.events ++ xs) k.1 ∙ sym (append_assoc t.events es k.0));
        })))
        (λ (post : (post : List (Event T)) × (es ≡ begun.rest ++ e ∷ post)). now t turn turns run begun post.0 post.1)
        (split_at es on.rest begun.rest e rest (cancel t.events (es ++ on.rest) (begun.rest ++ e ∷ rest) whole))

  -- ---- what is known of them

  -- The first part of turns that are allowed is allowed.
  allowed_first : (t : Trace T) (xs ys : List (Turn T)) → AreAllowedBy (refusal_as kinds.Container) t (xs ++ ys)
      → AreAllowedBy (refusal_as kinds.Container) t xs
  allowed_first t [] ys h = tt
  allowed_first t (x ∷ xs) ys h = (h.0, allowed_first (after_turn t x) xs ys h.1)

  -- The first part of fresh turns is fresh.
  fresh_first : (t : Trace T) (xs ys : List (Turn T)) → AreFresh t (xs ++ ys) → AreFresh t xs
  fresh_first t [] ys h = tt
  fresh_first t (x ∷ xs) ys h = (h.0, fresh_first (after_turn t x) xs ys h.1)

  -- Turns taken in two parts lead to the same trace as all of them at once.
  after_both : (t : Trace T) (xs ys : List (Turn T)) → after_turns t (xs ++ ys) ≡ after_turns (after_turns t xs) ys
  after_both t [] ys = refl
  after_both t (x ∷ xs) ys = after_both (after_turn t x) xs ys

  -- The machine of a container of this capacity as it opens.
  abbrev start : Trace T
  start = opening code kinds.Container capacity 0

  -- The pass knows a run of the container, whose events have this end of a call behind the events `before`.
  module _ (v : View T) (knows : Knows code kinds.Container capacity v) (e : Event T) (end : is_end e ≡ true) (before rest : List (Event T))
      (is : v.seen ≡ (before ++ e ∷ []) ++ rest) where
    -- of the turns that a pass knows, the first ones lead to just the events up to the end of the
    -- call
    cut : Cut start v.turns (before ++ e ∷ [])
    cut =
        cut_at e end before rest start v.turns
        (record {
          reached = reached_as_opening code kinds.Container capacity 0 knows.coded knows.admitted;
          coded = refl;
          of_kind = refl;
          sized = refl;
          fresh = fresh_as_opening code kinds.Container capacity 0;
        })
        knows.allowed knows.fresh (sym knows.is ∙ is) (record { rest = before; is = refl })

    -- a run that a pass knew before the end of the call is a beginning of the run up to that end
    goes_on : (old : View T) → Knows code kinds.Container capacity old → AreFirst old.turns v.turns → IsBeginning old.seen before
        → AreFirst old.turns cut.0
    goes_on old known first begun =
        ⊎_elim (λ (a : AreFirst old.turns cut.0). a) beyond
        (know_one v.turns (record old { other_turns = [] }) (record v { turns = cut.0; other_turns = [] })
        (record { mine = first; theirs = first_none v.turns }) (record { mine = cut.1; theirs = first_none v.turns }))
      where
        -- where the run up to the end is a beginning of the known run, the known run is a
        -- beginning of the run up to the end as well
        beyond : AreFirst cut.0 old.turns → AreFirst old.turns cut.0
        beyond a =
            let on = events_more (after_turns start cut.0) a.rest in
            let seen : old.seen ≡ (before ++ e ∷ []) ++ on.rest =
            known.is
            ∙ (ap (λ ts. (after_turns start ts).events) a.is
            ∙ (ap (λ (t : Trace T). t.events) (after_both start cut.0 a.rest)
            ∙ (on.is ∙ ap (λ xs. xs ++ on.rest) cut.2))) in
            let whole : before ++ [] ≡ before ++ (e ∷ (on.rest ++ begun.rest)) =
            append-nil before
            ∙ (begun.is
            ∙ (ap (λ xs. xs ++ begun.rest) seen
            ∙ (append_assoc (before ++ e ∷ []) on.rest begun.rest ∙ append_assoc before (e ∷ []) (on.rest ++ begun.rest)))) in
            no_more e [] (on.rest ++ begun.rest) (cancel before [] (e ∷ (on.rest ++ begun.rest)) whole)

    -- what the pass knew as the call ended: the run up to that end, which goes on from each that
    -- it knew before
    pub ran_to : RanTo code capacity v before e
    ran_to =
        let turns = cut.0 in
        let first = cut.1 in
        record {
          turns = turns;
          first = first;
          knows = record {
            coded = knows.coded;
            admitted = knows.admitted;
            allowed = allowed_first start turns first.rest (subst (λ ts. AreAllowedBy (refusal_as kinds.Container) start ts) first.is knows.allowed);
            fresh = fresh_first start turns first.rest (subst (λ ts. AreFresh start ts) first.is knows.fresh);
            is = sym cut.2;
            others = refl;
            asked = record { share = knows.asked.share; most = omega arith; all = λ whole. omega arith };
          };
          since = goes_on;
        }

-- `ran_to` where the event is the end of a call: the pass knew the run up to that end.
pub ended_run : {T : Type 0} (code : Coding T) (capacity : ℕ) (v : View T) → Knows code kinds.Container capacity v
    → (p : ℕ) (start : Start T) (answer : Answer T)
    (before rest : List (Event T)) → v.seen ≡ (before ++ Finished p start answer ∷ []) ++ rest → RanTo code capacity v before (Finished p start answer)
ended_run code capacity v knows p start answer before rest is = ran_to code capacity v knows (Finished p start answer) refl before rest is
