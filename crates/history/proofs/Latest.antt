-- The bound on a call's operations (`TakesAlone`) holds of the party's latest call in the
-- run that the pass knows.
use Rattle.history.proofs.Names.{◌≡◌, ◌≢◌, ⊎_elim, ℕ, ◌+◌, ◌≤◌, ◌*◌, Bool, false, Option, Some, None, List, [], ◌∷◌, ◌++◌, refl, sym, ap, subst, ◌∙◌, arith}
use Rattle.history.proofs.Names.{cases_eq, sum_by-append, Start, Flight, Kind, Party, Doing, Going, Over, Turn, Begin, Next, Decide, Answer}
use Rattle.history.proofs.Names.{party_of, party_put_same, party_put_other, after_begin, after_next, after_decision, after_answer, Event, Begun, Finished}
use Rattle.history.proofs.Names.{after_turn, events_of, first_of, number_of, old_of, ask_of_doing, Coding, World, Trace, Ask, is_none}
use Rattle.model.specs.declared.turn.Turn.TheVariants.{Die}
use Rattle.model.specs.declared.turn.Kind.TheVariants as kinds
use Rattle.model.specs.Loads.{begun_of, begun}
use Rattle.model.specs.Parties.{progress_after, others_of, put}
use Rattle.model.specs.Turns.{AreAllowedBy, after_turns}
use Rattle.model.specs.World.{opening}
use Rattle.model.proofs.LockFree.Counted.{begins_are}
use Rattle.model.proofs.Rows.{IsPossible, possible_on}
use Rattle.lemmas.proofs.Open.{possible_open}
use Rattle.history.specs.declared.view.View.{View}
use Rattle.history.specs.History.{Called, Knows, others_so, others_by, refusal_as, run_of}
use Rattle.history.specs.Known.{events_by, own_of}
use Rattle.history.specs.Steps.{TakesAlone, TakesInRun}
use Rattle.history.proofs.Known.{by_more, own_mine, by_other, sum_first}
use Rattle.history.proofs.Paid.{progress_of}

module _ {T : Type 0} where
  -- a turn that is not refused is possible, as the laws of calls need it
  possible_as : (kind : Kind) (w : World T) (turn : Turn T) → refusal_as kind w turn ≡ None → IsPossible w turn
  possible_as kinds.Robust w turn free = possible_open w turn free
  possible_as kinds.Container w turn free = possible_open w turn free
  possible_as kind w turn free = possible_on w turn free

  module _ (p : ℕ) where
    -- how often the party has begun a call
    abbrev begun_by : List (Event T) → ℕ
    begun_by es = begun (events_by p es)

    -- how often a party has begun a call in two lists together
    more : (xs ys : List (Event T)) → begun_by (xs ++ ys) ≡ begun_by xs + begun_by ys
    more xs ys = ap begun (by_more p xs ys) ∙ sum_by-append begun_of (events_by p xs) (events_by p ys)

    -- an event begins for a party at most the calls that it begins
    few : (e : Event T) → begun (own_of p e) ≤ begun_of e
    few e = grind arith

    -- a party begins no more calls than all together
    fewer : (es : List (Event T)) → begun_by es ≤ begun es
    fewer [] = omega arith
    fewer (e ∷ es) = omega (arith, few e, fewer es, sum_by-append begun_of (own_of p e) (events_by p es), sum_first begun_of e es)

    -- a party without a latest call has begun no call
    abbrev None_begun : Trace T → Type 0
    None_begun t = party_of p t.world.latest ≡ None → begun_by t.events ≡ 0

    -- ---- after a turn, too, a party without a latest call has begun none

    -- a party that was given a latest call has one
    never : (q : ℕ) (x : Party T) (latest : List (ℕ × Party T)) → party_of q (put q x latest) ≡ None → ⊥
    never q x latest none = (let no : ◌≡◌ {A = Option (Party T)} (Some x) None = sym (party_put_same q x latest) ∙ none in absurd (cc))

    -- a party that has no call after a begin had none before, and another party began
    begins : (w : World T) (q : ℕ) (start : Start T) (o : Option (Flight T)) → is_none o ≡ false
        → party_of p (after_begin w q start o).latest ≡ None → (party_of p w.latest ≡ None) × (p ≢ q)
    begins w q start None some none = absurd (cc)
    begins w q start (Some flight) some none =
        ⊎_elim (λ (e : p ≡ q). absurd (never q _ w.latest (subst (λ n. party_of n (after_begin w q start (Some flight)).latest ≡ None) e none)))
        (λ (ne : p ≢ q). (sym (party_put_other p q _ w.latest ne) ∙ none, ne)) (cases_eq p q)

    -- a party that has no call after a step of one had none before
    answers : (w : World T) (q : ℕ) (x : Party T) (ask : Option Ask) (n : ℕ) (doing : Doing T)
        → party_of p (after_answer w q x ask n doing).latest ≡ None → party_of p w.latest ≡ None
    answers w q x ask n (Over others) none = none
    answers w q x ask n' (Going flight since) none =
        ⊎_elim (λ (e : p ≡ q). absurd (never q _ w.latest (subst (λ n. party_of n (after_answer w q x ask n' (Going flight since)).latest ≡ None) e none)))
        (λ (ne : p ≢ q). sym (party_put_other p q _ w.latest ne) ∙ none) (cases_eq p q)

    -- a party that has no call after a step had none before
    nexts : (w : World T) (q : ℕ) (o : Option (Party T)) → party_of p (after_next w q o).latest ≡ None → party_of p w.latest ≡ None
    nexts w q None none = none
    nexts w q (Some x) none = answers w q x (ask_of_doing w.coding x.doing) (old_of w.words (ask_of_doing w.coding x.doing)) x.doing none

    -- a party that has no call after an answer to a question had none before
    decides : (w : World T) (q : ℕ) (said : Bool) (o : Option (Party T)) → party_of p (after_decision w q said o).latest ≡ None
        → party_of p w.latest ≡ None
    decides w q said None none = none
    decides w q said (Some x) none = answers w q x None (number_of said) x.doing none

    -- a turn that begins no call leaves a party that has begun none as it was
    quiet : (t : Trace T) (turn : Turn T) → begun (after_turns t (turn ∷ [])).events ≡ begun t.events → begun_by t.events ≡ 0
        → begun_by (after_turn t turn).events ≡ 0
    quiet t turn same none =
        omega (arith, sum_by-append begun_of t.events (events_of t.world turn), fewer (events_of t.world turn), more t.events (events_of t.world turn))

    -- after each turn a party without a latest call still has begun no call
    turned : (t : Trace T) (turn : Turn T) → IsPossible t.world turn → None_begun t → None_begun (after_turn t turn)
    turned t (Begin q start) may was none =
        let before = begins t.world q start (first_of t.world.kind t.world.capacity start t.world.kept) may.call none in
        let here : begun_by (Begun q start ∷ []) ≡ 0 = ap begun (by_other q p (Begun q start ∷ []) before.1 (refl, tt)) in
        omega (arith, more t.events (Begun q start ∷ []), was before.0)
    turned t (Next q) may was none =
        quiet t (Next q) (omega (arith, begins_are t (Next q ∷ []))) (was (nexts t.world q (party_of q t.world.latest) none))
    turned t (Decide q said) may was none =
        quiet t (Decide q said) (omega (arith, begins_are t (Decide q said ∷ []))) (was (decides t.world q said (party_of q t.world.latest) none))
    turned t (Die owner) may was none = quiet t (Die owner) (omega (arith, begins_are t (Die owner ∷ []))) (was none)

    -- turns that are not refused keep that a party without a latest call has begun no call
    turns_keep : (kind : Kind) (t : Trace T) (turns : List (Turn T)) → AreAllowedBy (refusal_as kind) t turns → None_begun t → None_begun (after_turns t turns)
    turns_keep kind t [] allowed was = was
    turns_keep kind t (turn ∷ turns) allowed was =
        turns_keep kind (after_turn t turn) turns allowed.1 (turned t turn (possible_as kind t.world turn allowed.0) was)

  -- ---- a call that a pass has made

  module _ {code : Coding T} {kind : Kind} {capacity : ℕ} (alone retry : ℕ) {p : ℕ} {start : Start T}
      {answer : Answer T} {wrote : List (Event T)} {old new : View T}
      (called : Called p start answer wrote old new) (mine : new.party ≡ Some p) (knows : Knows code kind capacity new) where
    -- the run that the pass knows
    abbrev known : Trace T
    known = run_of code kind capacity new.turns

    -- the party whose call has ended has begun a call
    one : 1 ≤ begun_by p known.events
    one =
        let is : known.events ≡ (old.seen ++ called.others) ++ Begun p start ∷ (called.during ++ Finished p start answer ∷ []) = sym knows.is ∙ called.is in
        let here : begun_by p (Begun p start ∷ []) ≡ 1 = ap (λ es. begun (es ++ [])) (own_mine p (Begun p start) refl) in
        let same : begun_by p known.events ≡ begun_by p ((old.seen ++ called.others) ++ Begun p start ∷ (called.during ++ Finished p start answer ∷ [])) =
        ap (begun_by p) is in
        omega (
          arith,
          more p (old.seen ++ called.others) (Begun p start ∷ (called.during ++ Finished p start answer ∷ [])),
          more p (Begun p start ∷ []) (called.during ++ Finished p start answer ∷ []),
        )

    -- the bound of a call holds in the run that the pass knows: the view and the run count the
    -- same changes by others
    pub takes_in_run : TakesAlone alone retry old new → TakesInRun code kind capacity alone retry p old new
    takes_in_run takes = go (party_of p known.world.latest) refl
      where
        -- the party has a latest call in the run, and the view counts the changes by others that the run
        -- counts of that call
        go : (o : Option (Party T)) → party_of p known.world.latest ≡ o → TakesInRun code kind capacity alone retry p old new
        go None none =
            absurd (omega (arith, turns_keep p kind (opening code kind capacity 0) new.turns knows.allowed (λ none. refl) none, one))
        go (Some x) found =
            let counts : new.others ≡ others_of known.world.changes x.doing =
            knows.others ∙ (ap (others_by known.world) mine ∙ ap (others_so known.world.changes) found) in
            record {
              progress = progress_of known.world.changes x;
              latest = ap (progress_after known.world.changes) found;
              counts = counts;
              steps = subst (λ n. new.asked ≤ old.asked + (alone + n * retry)) counts takes;
            }
