-- From a machine of any family between two turns to the step of one call that is under way: where the call stands there,
-- and that its step may be looked at from the words, and what is kept beside them, that the family's state holds.
use Rattle.model.proofs.Names.{Ask, Bool, Coding, Decide, Flight, Going, List, Next, None, Open, Option, Party, Promise}
use Rattle.model.proofs.Names.{Registry, Some, Start, Step, Trace, WritesInOrder, arith, ask_of, beside_of, change_of}
use Rattle.model.proofs.Names.{doing_of, events_of_step, flight_of, number_of, old_of, party_after, party_of, span_of}
use Rattle.model.proofs.Names.{step_count, step_of, want_of, words_after, ℕ, ◌++◌, ◌+◌, ◌≡◌, ◌≤◌}
use Rattle.model.proofs.Frame.{Family, Sound, Comes, ComesByStep, under_way, knows_now}

module _ {T : Type 0} where
  -- The operation that a call under way asks for, if any.
  abbrev pub asked : Coding T → Flight T → Option Ask
  asked z flight = ask_of (want_of z flight)

  module _ (t : Trace T) (p : ℕ) where
    -- the party's step from this answer, where values are written so, these are the words, this is kept, and the call has this name
    abbrev pub answered_from : Coding T → ℕ → List ℕ → Registry T → Start T → Flight T → Step (Flight T) (Registry T) T
    answered_from z answer words kept start flight = step_of z words (beside_of words kept t.world.latest p) p start flight answer kept

    -- The step of a call that is handed the old value of its word.
    abbrev pub step_from : Coding T → List ℕ → Registry T → Start T → Flight T → Step (Flight T) (Registry T) T
    step_from z words kept start flight = answered_from z (old_of words (asked z flight)) words kept start flight

    -- what the step writes down is in order
    abbrev pub InOrder : Promise T → Coding T → List ℕ → Registry T → Start T → Flight T → Type 0
    InOrder promise z words kept start flight =
        WritesInOrder promise t (Next p) (t.events ++ events_of_step p start (step_from z words kept start flight))

    -- A step writes its events in order in words and registries that are equal to those of which
    -- it is known.
    pub in_order_from : (promise : Promise T) (z : Coding T) (words : List ℕ) (kept : Registry T) (start : Start T) (flight : Flight T)
        → t.world.words ≡ words → t.world.kept ≡ kept → InOrder promise z words kept start flight
        → InOrder promise z t.world.words t.world.kept start flight
    in_order_from = grind arith

    -- what a decision writes down is in order
    abbrev pub DecidedInOrder : Promise T → Bool → Coding T → List ℕ → Registry T → Start T → Flight T → Type 0
    DecidedInOrder promise said z words kept start flight =
        WritesInOrder promise t (Decide p said) (t.events ++ events_of_step p start (answered_from z (number_of said) words kept start flight))

    -- A decision writes its events in order in words and registries that are equal to those of
    -- which it is known.
    pub decided_in_order_from : (promise : Promise T) (said : Bool) (z : Coding T) (words : List ℕ) (kept : Registry T) (start : Start T) (flight : Flight T)
        → t.world.words ≡ words → t.world.kept ≡ kept → DecidedInOrder promise said z words kept start flight
        → DecidedInOrder promise said z t.world.words t.world.kept start flight
    decided_in_order_from = grind arith

  -- In a machine that keeps the invariant of the family `F`, party `p` is `x`, whose call has been under way since `since` changes.
  module _ (F : Family T) (t : Trace T) (s : Sound F t) (p : ℕ) (x : Party T) (since : ℕ) where
    -- the call `start` of party `p` is under way and stands at `flight`
    pub record StandsThere (start : Start T) (flight : Flight T) : Type 0 where
      pub found : flight_of (doing_of (party_of p t.world.latest)) ≡ Some flight
      pub span : span_of p t.events ≡ Open start (F.written s.state p flight)
      pub steps : x.steps ≤ F.number (F.written s.state p flight) flight x.backs
      pub at : F.At s.state p start flight
      pub knows : F.Knows s.state p t.events since t.world.changes x.backs flight

    pub stands_there : (flight : Flight T) → party_of p t.world.latest ≡ Some x → x.doing ≡ Going flight since → StandsThere x.start flight
    stands_there = grind (arith, under_way, knows_now)

    -- what the step of the call `start`, which stands at `flight`, comes to from `words` and `kept`
    abbrev pub ComesFrom : Coding T → List ℕ → Registry T → Start T → Flight T → Type 0
    ComesFrom z words kept start flight =
        Comes F t p (step_from t p z words kept start flight).kept (words_after words (asked z flight))
        (party_after (record x { start = start }) since t.world.changes (step_count (asked z flight))
        (change_of words (asked z flight)) (step_from t p z words kept start flight))
        (events_of_step p start (step_from t p z words kept start flight))
        (t.world.changes + change_of words (asked z flight))

    -- What a step comes to in a family's words and registry it comes to in the machine, whose
    -- words and registry are equal.
    pub comes_from : (words : List ℕ) (kept : Registry T) (flight : Flight T) → t.world.words ≡ words
        → t.world.kept ≡ kept → ComesFrom F.coding words kept x.start flight
        → ComesByStep F t p x flight since (asked t.world.coding flight) (old_of t.world.words (asked t.world.coding flight))
    comes_from = grind arith

    -- What a decision comes to in a family's words and registry: the call is handed `answer`, and no
    -- operation is done.
    abbrev pub DecidesFrom : Coding T → ℕ → List ℕ → Registry T → Start T → Flight T → Type 0
    DecidesFrom z answer words kept start flight =
        Comes F t p (answered_from t p z answer words kept start flight).kept (words_after words None)
        (party_after (record x { start = start }) since t.world.changes 0 (change_of words None) (answered_from t p z answer words kept start flight))
        (events_of_step p start (answered_from t p z answer words kept start flight))
        (t.world.changes + change_of words None)

    -- What a decision comes to in a family's words and registry it comes to in the machine, whose
    -- words and registry are equal.
    pub decides_from : (said : Bool) (words : List ℕ) (kept : Registry T) (flight : Flight T) → t.world.words ≡ words
        → t.world.kept ≡ kept → DecidesFrom F.coding (number_of said) words kept x.start flight
        → ComesByStep F t p x flight since None (number_of said)
    decides_from = grind arith
