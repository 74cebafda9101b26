-- A moment of a call stays a moment of it until its party begins another call, and what has come since the
-- call began stays behind its begin. What holds at all moments of a call holds throughout it.
use Rattle.model.proofs.Names.{BeginsNone, Begun, Event, HeldSometime, HeldThroughout, List, SinceBegin, Start, []}
use Rattle.model.proofs.Names.{append-nil, append_assoc, arith, refl, subst, sym, ℕ, ◌++◌, ◌∙◌, ◌∷◌, ◌≡◌, ◌≢◌}
use Rattle.model.proofs.Readings.{AreOwn}

module _ {T : Type 0} where
  -- A party that begins no call in two lists of events begins none in both together.
  pub begins_none_more : (p : ℕ) (es more : List (Event T)) → BeginsNone p es → BeginsNone p more → BeginsNone p (es ++ more)
  begins_none_more p [] more first_begins_none second_begins_none = second_begins_none
  begins_none_more p (Begun q start ∷ es) more first_begins_none second_begins_none =
      (first_begins_none.0, begins_none_more p es more first_begins_none.1 second_begins_none)
  begins_none_more p (e ∷ es) more first_begins_none second_begins_none = begins_none_more p es more first_begins_none second_begins_none

  -- the events of another party begin none of this party's calls
  pub others_begin_none : (p q : ℕ) (es : List (Event T)) → p ≢ q → AreOwn q es → BeginsNone p es
  others_begin_none p q [] ne own = tt
  others_begin_none p q (Begun r start ∷ es) ne own =
      let theirs : r ≡ q = cc in
      ((λ e. ne (sym e ∙ theirs)), others_begin_none p q es ne own.1)
  others_begin_none p q (e ∷ es) ne own = others_begin_none p q es ne own.1

  pub held_now : (p : ℕ) (P : List (Event T) → Type 0) (events : List (Event T)) → P events → HeldSometime p P events
  held_now = grind (arith, append-nil)

  -- A moment of the party's call is still one after events in which the party begins no call.
  pub held_later : (p : ℕ) (P : List (Event T) → Type 0) (events es : List (Event T)) → BeginsNone p es
      → HeldSometime p P events → HeldSometime p P (events ++ es)
  held_later = grind (arith, append_assoc, begins_none_more)

  -- what follows from what held, held as well
  pub held_so : (p : ℕ) (P Q : List (Event T) → Type 0) (events : List (Event T))
      → ((part : List (Event T)) → P part → Q part) → HeldSometime p P events → HeldSometime p Q events
  held_so = grind arith

  -- ---- since the latest call began

  -- What holds since the party's call began can be carried on over events in which the party
  -- begins no call.
  pub since_more : (p : ℕ) (P Q : List (Event T) → List (Event T) → Type 0) (events es : List (Event T))
      → BeginsNone p es → (h : SinceBegin p P events) → Q h.before (h.since ++ es) → SinceBegin p Q (events ++ es)
  since_more = grind (arith, append_assoc, begins_none_more)

  -- What follows from what holds since a call began holds since then.
  pub since_so : (p : ℕ) {P Q : List (Event T) → List (Event T) → Type 0} {events : List (Event T)} → (h : SinceBegin p P events)
      → Q h.before h.since → SinceBegin p Q events
  since_so = grind arith

  -- Right after its begin a call has nothing since its begin.
  pub since_now : (p : ℕ) (P : List (Event T) → List (Event T) → Type 0) (events : List (Event T)) (start : Start T)
      → P events [] → SinceBegin p P (events ++ Begun p start ∷ [])
  since_now = grind arith

  -- ---- all the moments of a run, or of a call

  -- P holds at all of the moments from here on.
  abbrev pub Stays : (List (Event T) → Type 0) → List (Event T) → List (Event T) → Type 0
  Stays P before [] = P before
  Stays P before (e ∷ es) = P before × Stays P (before ++ e ∷ []) es

  -- An event in front of all moments can be read into the property.
  shifts : (P : List (Event T) → Type 0) (b : Event T) (before es : List (Event T)) → Stays P (b ∷ before) es → Stays (λ part. P (b ∷ part)) before es
  shifts P b before [] all = all
  shifts P b before (e ∷ es) all = (all.0, shifts P b (before ++ e ∷ []) es all.1)

  -- What holds at all of the moments of a run holds at each that is reached on the way.
  stays_there : (P : List (Event T) → Type 0) (part rest es : List (Event T)) → es ≡ part ++ rest → Stays P [] es → P part
  stays_there P [] rest [] split all = all
  stays_there P [] rest (e ∷ es) split all = all.0
  stays_there P (a ∷ part) rest [] split all = absurd (cc)
  stays_there P (a ∷ part) rest (e ∷ es) split all =
      let first : e ≡ a = cc in
      let more : es ≡ part ++ rest = cc in
      rw (← first) (stays_there (λ part. P (e ∷ part)) part rest es more (shifts P e [] es all.1))

  module _ (p : ℕ) (start : Start T) where
    -- Events with a begin of the party's call are not events in which it begins none.
    begins_one : (before since : List (Event T)) → BeginsNone p (before ++ Begun p start ∷ since) → ⊥
    begins_one [] since none = none.0 refl
    begins_one (Begun q other ∷ before) since none = begins_one before since none.1
    begins_one (e ∷ before) since none = begins_one before since none

    -- What holds from the begin of a party's latest call on holds throughout the call.
    pub throughout : (P : List (Event T) → Type 0) (before since : List (Event T))
        → Stays P (before ++ Begun p start ∷ []) since → HeldThroughout p P (before ++ Begun p start ∷ since)
    throughout P before since all [] rest split none = absurd (begins_one before since (subst (BeginsNone p) (sym split) none))
    throughout P [] since all (a ∷ part) rest split none =
        let first : Begun p start ≡ a = cc in
        let more : since ≡ part ++ rest = cc in
        rw (← first) (stays_there (λ part. P (Begun p start ∷ part)) part rest since more (shifts P (Begun p start) [] since all))
    throughout P (b ∷ before) since all (a ∷ part) rest split none =
        let first : b ≡ a = cc in
        let more : before ++ Begun p start ∷ since ≡ part ++ rest = cc in
        rw (← first) (throughout (λ part. P (b ∷ part)) before since (shifts P b (before ++ Begun p start ∷ []) since all) part rest more none)

    -- Where P held at a moment of a call, Q is so if it follows from P at all moments since the begin of the call.
    pub so_since : (P : List (Event T) → Type 0) {Q : Type 0} (before since : List (Event T))
        → Stays (λ part. P part → Q) (before ++ Begun p start ∷ []) since → HeldSometime p P (before ++ Begun p start ∷ since) → Q
    so_since P {Q} before since all held = throughout (λ part. P part → Q) before since all held.part held.rest held.is held.within held.held

  -- Where P held at a moment of a call, Q is so if it follows from P at all moments of these events.
  pub so_by_events : (p : ℕ) (P : List (Event T) → Type 0) {Q : Type 0} (events : List (Event T))
      → Stays (λ part. P part → Q) [] events → HeldSometime p P events → Q
  so_by_events p P {Q} events all held = stays_there (λ part. P part → Q) held.part held.rest events held.is all held.held
