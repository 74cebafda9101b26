-- Calls end between what a pass knew and what it knows, since its turns are those of one run.
use Rattle.std.proofs.Common.{◌≡◌, ◌≢◌, ◌⊎◌, inl, inr, ⊎_elim, ℕ, Option, Some, None, List, [], ◌∷◌, ◌++◌, refl, sym, ap, subst}
use Rattle.std.proofs.Common.{◌∙◌, append-nil, append_assoc}
use Rattle.std.proofs.lemmas.Bool.{cases_eq}
use Rattle.std.specs.Prelude.{IfSome}
use Rattle.std.specs.List.{AllByRecursion}
use Rattle.model.specs.declared.event.Event.{Event}
use Rattle.model.specs.declared.event.Start.{Start}
use Rattle.model.specs.declared.turn.Refusal.{Refusal}
use Rattle.model.specs.declared.turn.Turn.{Turn}
use Rattle.model.specs.declared.turn.Turn.TheVariants.{Begin, Next, Decide, Die}
use Rattle.model.specs.Families.{first_of}
use Rattle.model.specs.LockFree.{BeginsSuch, IsAmong, IsOneIn}
use Rattle.model.specs.Parties.{party_of}
use Rattle.model.specs.Reading.{whose}
use Rattle.model.specs.Turns.{AreAllowedBy, run_by, after_turn, after_turns, events_of, unless_refused}
use Rattle.model.specs.World.{World, Trace, flight_in}
use Rattle.model.proofs.Rows.{IsPossible, MayGoOn}
use Rattle.history.specs.History.{call_in}
use Rattle.history.proofs.Calls.{begin_other, next_other, decision_other, no_flight}
use Rattle.model.proofs.LockFree.Apart.{all_among_more}
use Rattle.headline_threads.specs.Ends.{AreOf, BeginSuch, begun_as}

-- What holds of all of two lists holds of all of the second.
pub all_after : {A : Type 0} (P : A → Type 0) (xs ys : List A) → AllByRecursion P (xs ++ ys) → AllByRecursion P ys
all_after P [] ys all_hold = all_hold
all_after P (x ∷ xs) ys all_hold = all_after P xs ys all_hold.1

-- What holds of all of two lists holds of all of the first.
pub all_before : {A : Type 0} (P : A → Type 0) (xs ys : List A) → AllByRecursion P (xs ++ ys) → AllByRecursion P xs
all_before P [] ys all_hold = tt
all_before P (x ∷ xs) ys all_hold = (all_hold.0, all_before P xs ys all_hold.1)

module _ {T : Type 0} where
  -- ---- turns after others

  -- Two lists of turns taken one after the other lead where both together lead.
  pub turns_after : (t : Trace T) (xs ys : List (Turn T)) → after_turns t (xs ++ ys) ≡ after_turns (after_turns t xs) ys
  turns_after t [] ys = refl
  turns_after t (x ∷ xs) ys = turns_after (after_turn t x) xs ys

  -- Turns only add events after those that were written before.
  longer : (t : Trace T) (turns : List (Turn T)) → (more : List (Event T)) × ((after_turns t turns).events ≡ t.events ++ more)
  longer t [] = ([], sym (append-nil t.events))
  longer t (x ∷ xs) =
      let h = longer (after_turn t x) xs in
      (events_of t.world x ++ h.0, h.1 ∙ append_assoc t.events (events_of t.world x) h.0)

  -- What holds of the events of all turns holds of those of the first turn.
  first_turn : (P : Event T → Type 0) (t : Trace T) (turn : Turn T) (turns : List (Turn T)) → AllByRecursion P (after_turns t (turn ∷ turns)).events
      → AllByRecursion P (events_of t.world turn)
  first_turn P t turn turns all =
      let more = longer (after_turn t turn) turns in
      all_after P t.events (events_of t.world turn)
      (all_before P (t.events ++ events_of t.world turn) more.0 (subst (AllByRecursion P) more.1 all))

  -- ---- turns are of the parties of the events, and begin the calls of the events

  -- the events that these turns write
  abbrev pub wrote : Trace T → List (Turn T) → List (Event T)
  wrote t [] = []
  wrote t (turn ∷ turns) = events_of t.world turn ++ wrote (after_turn t turn) turns

  pub writes : (t : Trace T) (turns : List (Turn T)) → (after_turns t turns).events ≡ t.events ++ wrote t turns
  writes t [] = sym (append-nil t.events)
  writes t (turn ∷ turns) =
      writes (after_turn t turn) turns ∙ append_assoc t.events (events_of t.world turn) (wrote (after_turn t turn) turns)

  -- each party whose call is under way is one of these
  abbrev pub CallsAmong : List ℕ → World T → Type 0
  CallsAmong ps w = (p : ℕ) → (call_in w p ≡ None) ⊎ IsOneIn ps p

  going_among : (ps : List ℕ) (w : World T) (p : ℕ) → CallsAmong ps w → MayGoOn w p → IsOneIn ps p
  going_among ps w p under may = ⊎_elim idle (λ one. one) (under p)
    where
      -- A party without a call under way does not go on.
      idle : call_in w p ≡ None → IsOneIn ps p
      idle none = let nothing : flight_in w p ≡ None = no_flight w p none in absurd (cc (may.is))

  -- If only p's call differs between two machines, and p is one of these, then still no other party has a call under way.
  still_under : (ps : List ℕ) (p : ℕ) (u w : World T) → IsOneIn ps p → ((q : ℕ) → q ≢ p → call_in w q ≡ call_in u q) → CallsAmong ps u
      → CallsAmong ps w
  still_under ps p u w one same under q =
      ⊎_elim (λ (e : q ≡ p). inr (rw e one))
      (λ (ne : q ≢ p). ⊎_elim (λ idle. inl (same q ne ∙ idle)) (λ among. inr among) (under q)) (cases_eq q p)

  -- a possible turn whose events are of these parties is of one of them, and so are the calls under way then
  one_among : (ps : List ℕ) (t : Trace T) (turn : Turn T) → CallsAmong ps t.world → IsPossible t.world turn
      → AreOf ps (events_of t.world turn) → IsAmong ps turn × CallsAmong ps (after_turn t turn).world
  one_among ps t (Begin p start) under may are = (
    are.0,
    still_under ps p t.world (after_turn t (Begin p start)).world are.0
        (λ q ne. begin_other t.world p q start ne (first_of t.world.kind t.world.capacity start t.world.kept)) under,
  )
  one_among ps t (Next p) under may are =
      let one = going_among ps t.world p under may in
      (one, still_under ps p t.world (after_turn t (Next p)).world one (λ q ne. next_other t.world p q ne (party_of p t.world.latest)) under)
  one_among ps t (Decide p said) under may are =
      let one = going_among ps t.world p under may.0 in
      (one, still_under ps p t.world (after_turn t (Decide p said)).world one (λ q ne. decision_other t.world p q said ne (party_of p t.world.latest)) under)
  one_among ps t (Die owner) under may are = (tt, under)

  -- the parties of which these turns are
  abbrev pub parties_of : List (Turn T) → List ℕ
  parties_of [] = []
  parties_of (Begin p start ∷ turns) = p ∷ parties_of turns
  parties_of (Next p ∷ turns) = p ∷ parties_of turns
  parties_of (Decide p said ∷ turns) = p ∷ parties_of turns
  parties_of (Die owner ∷ turns) = parties_of turns

  pub among_own : (turns : List (Turn T)) → AllByRecursion (IsAmong (parties_of turns)) turns
  among_own [] = tt
  among_own (Begin p start ∷ turns) =
      (inl refl, all_among_more (parties_of turns) (p ∷ parties_of turns) (λ q one. inr one) turns (among_own turns))
  among_own (Next p ∷ turns) =
      (inl refl, all_among_more (parties_of turns) (p ∷ parties_of turns) (λ q one. inr one) turns (among_own turns))
  among_own (Decide p said ∷ turns) =
      (inl refl, all_among_more (parties_of turns) (p ∷ parties_of turns) (λ q one. inr one) turns (among_own turns))
  among_own (Die owner ∷ turns) = (tt, among_own turns)

  -- If `Such` holds of each call whose begin a turn writes, it holds of each call that the turn begins.
  one_such : (Such : Start T → Type 0) (w : World T) (turn : Turn T) → BeginSuch Such (events_of w turn) → BeginsSuch Such turn
  one_such Such w (Begin p start) such = such.0
  one_such Such w (Next p) such = tt
  one_such Such w (Decide p said) such = tt
  one_such Such w (Die owner) such = tt

  -- If the events begin only such calls, the turns that wrote them do.
  pub all_such : (Such : Start T → Type 0) (t : Trace T) (turns : List (Turn T)) → BeginSuch Such (after_turns t turns).events
      → AllByRecursion (BeginsSuch Such) turns
  all_such Such t [] such = tt
  all_such Such t (turn ∷ turns) such =
      (one_such Such t.world turn (first_turn (λ e. IfSome (begun_as e) Such) t turn turns such), all_such Such (after_turn t turn) turns such)

  -- events begin such calls where any call may begin
  pub any_such : (events : List (Event T)) → BeginSuch (λ start. Unit {0}) events
  any_such [] = tt
  any_such (e ∷ events) = (any (begun_as e), any_such events)
    where
      -- The cases are whether the event begins a call.
      any : (o : Option (Start T)) → IfSome o (λ start. Unit {0})
      any None = tt
      any (Some start) = tt

  module _ (refuses : World T → Turn T → Option Refusal) (possible : (w : World T) (turn : Turn T) → refuses w turn ≡ None → IsPossible w turn) where
    -- If two lists of turns are allowed one after the other, the second is after the first.
    pub allowed_after : (t : Trace T) (xs ys : List (Turn T)) → AreAllowedBy refuses t (xs ++ ys) → AreAllowedBy refuses (after_turns t xs) ys
    allowed_after t [] ys allowed = allowed
    allowed_after t (x ∷ xs) ys allowed = allowed_after (after_turn t x) xs ys allowed.1

    -- If two lists of turns are allowed one after the other, the first is.
    pub allowed_before : (t : Trace T) (xs ys : List (Turn T)) → AreAllowedBy refuses t (xs ++ ys) → AreAllowedBy refuses t xs
    allowed_before t [] ys allowed = tt
    allowed_before t (x ∷ xs) ys allowed = (allowed.0, allowed_before (after_turn t x) xs ys allowed.1)

    -- turns whose events, and whose calls under way before them, are of these parties are of them
    pub all_among : (ps : List ℕ) (t : Trace T) (turns : List (Turn T)) → CallsAmong ps t.world → AreAllowedBy refuses t turns
        → AreOf ps (wrote t turns) → AllByRecursion (IsAmong ps) turns
    all_among ps t [] under allowed are = tt
    all_among ps t (turn ∷ turns) under allowed are =
        let rest = wrote (after_turn t turn) turns in
        let here = all_before (λ e. IfSome (whose e) (IsOneIn ps)) (events_of t.world turn) rest are in
        let one = one_among ps t turn under (possible t.world turn allowed.0) here in
        (one.0, all_among ps (after_turn t turn) turns one.1 allowed.1 (all_after (λ e. IfSome (whose e) (IsOneIn ps)) (events_of t.world turn) rest are))

    -- turns that are not refused are a run
    pub runs_so : (t : Trace T) (turns : List (Turn T)) → AreAllowedBy refuses t turns → after_turns t turns ≡ run_by refuses turns t
    runs_so t [] allowed = refl
    runs_so t (turn ∷ turns) allowed =
        runs_so (after_turn t turn) turns allowed.1
        ∙ sym (ap (λ o. run_by refuses turns (unless_refused t (after_turn t turn) o)) allowed.0)
