-- What held at each moment of a call, or as the call began, held in a shorter run as well.
use Rattle.std.proofs.Common.{arith}
use Rattle.model.proofs.Names.{◌≡◌, ℕ, List, [], ◌∷◌, ◌++◌, refl, sym, ap, subst, ◌∙◌, append_assoc, append-nil}
use Rattle.model.specs.declared.event.Event.{Event}
use Rattle.model.specs.declared.event.Event.TheVariants.{Begun}
use Rattle.model.specs.declared.event.Start.{Start}
use Rattle.model.proofs.Names.{HeldThroughout, BeginsNone, SinceBegin}
use Rattle.model.proofs.Moments.{begins_none_more}
use Rattle.model.proofs.Readings.{no_more}

module _ {T : Type 0} (p : ℕ) where
  -- what holds throughout a call held throughout it, before the last events
  pub through_less : (P : List (Event T) → Type 0) (events es : List (Event T)) → BeginsNone p es
      → HeldThroughout p P (events ++ es) → HeldThroughout p P events
  through_less = grind (arith, append_assoc, begins_none_more)

  -- where `P` implies `Q` and held throughout a call, so did `Q`
  pub through_so : (P Q : List (Event T) → Type 0) (events : List (Event T))
      → ((part : List (Event T)) → P part → Q part) → HeldThroughout p P events → HeldThroughout p Q events
  through_so P Q events follows held part rest is within = follows part (held part rest is within)

  -- what holds throughout a call holds now
  pub through_now : (P : List (Event T) → Type 0) (events : List (Event T)) → HeldThroughout p P events → P events
  through_now P events held_throughout = held_throughout events [] (sym (append-nil events)) tt

  -- ---- as the call began

  -- events with a begin of the party's call are not without one
  begins_one : (before : List (Event T)) (start : Start T) (since : List (Event T)) → BeginsNone p (before ++ Begun p start ∷ since) → ⊥
  begins_one [] start since begins_none = begins_none.0 refl
  begins_one (Begun q s ∷ bs) start since begins_none = begins_one bs start since begins_none.1
  begins_one (e ∷ bs) start since begins_none = begins_one bs start since begins_none

  -- a party that begins nothing in a run begins nothing in its first part
  begins_none_less : (es more : List (Event T)) → BeginsNone p (es ++ more) → BeginsNone p es
  begins_none_less [] more begins_none = tt
  begins_none_less (Begun q s ∷ es) more begins_none = (begins_none.0, begins_none_less es more begins_none.1)
  begins_none_less (e ∷ es) more begins_none = begins_none_less es more begins_none

  -- the call of the party began behind the events `before`, and the party has begun no call since
  pub record BeganIn (events before : List (Event T)) (start : Start T) : Type 0 where
    pub since : List (Event T)
    pub is : events ≡ before ++ Begun p start ∷ since
    pub within : BeginsNone p since

  -- an event in front of the run and of its first part leaves where the call began
  one_behind : (x b : Event T) (xs bs : List (Event T)) (start : Start T) → x ≡ b → BeganIn xs bs start → BeganIn (x ∷ xs) (b ∷ bs) start
  one_behind = grind arith

  -- a begin of the party in a longer run, behind which the party begins no call, is in the shorter run,
  -- where the last events begin none
  pub began_earlier : (events es before : List (Event T)) (start : Start T) (since : List (Event T))
      → events ++ es ≡ before ++ Begun p start ∷ since → BeginsNone p es → BeginsNone p since
      → BeganIn events before start
  began_earlier [] es before start since split_is none within = absurd (begins_one before start since (subst (BeginsNone p) split_is none))
  began_earlier (x ∷ xs) es [] start since split_is none within =
      let h : x ≡ Begun p start = cc in
      let t : since ≡ xs ++ es = cc in
      record { since = xs; is = ap (λ (a : Event T). a ∷ xs) h; within = begins_none_less xs es (subst (BeginsNone p) t within) }
  began_earlier (x ∷ xs) es (b ∷ bs) start since split_is none within =
      let h : x ≡ b = cc in
      let joined : xs ++ es ≡ bs ++ Begun p start ∷ since = cc in
      one_behind x b xs bs start h (began_earlier xs es bs start since joined none within)

  -- what held before a call began, in a longer run, held before it in the shorter run
  pub since_less : (P : List (Event T) → Type 0) (events es : List (Event T)) → BeginsNone p es
      → SinceBegin p (λ part since. P part) (events ++ es) → SinceBegin p (λ part since. P part) events
  since_less P events es none h =
      let k = began_earlier events es h.before h.start h.since h.is none h.within in
      record { before = h.before; start = h.start; since = k.since; is = k.is; within = k.within; holds = h.holds }

  -- where a run ends with a begin of the party, its last begin is that one, and the run before it is the
  -- run without it
  last_begin : (events before : List (Event T)) (start s : Start T) (since : List (Event T))
      → events ++ Begun p start ∷ [] ≡ before ++ Begun p s ∷ since → BeginsNone p since → events ≡ before
  last_begin [] [] start s since split_is within = refl
  last_begin [] (b ∷ bs) start s since split_is within =
      let t : [] ≡ bs ++ Begun p s ∷ since = cc in
      absurd (no_more bs (Begun p s) since t)
  last_begin (x ∷ xs) [] start s since split_is within =
      let t : since ≡ xs ++ Begun p start ∷ [] = cc in
      absurd (begins_one xs start [] (subst (BeginsNone p) t within))
  last_begin (x ∷ xs) (b ∷ bs) start s since split_is within =
      let h : x ≡ b = cc in
      let joined : xs ++ Begun p start ∷ [] ≡ bs ++ Begun p s ∷ since = cc in
      let rest : xs ≡ bs = last_begin xs bs start s since joined within in
      ap (λ (a : Event T). a ∷ xs) h ∙ ap (λ (ys : List (Event T)). b ∷ ys) rest

  -- what held as the latest call began holds of the run before a call that has just begun
  pub since_begun : (P : List (Event T) → Type 0) (events : List (Event T)) (start : Start T)
      → SinceBegin p (λ part since. P part) (events ++ Begun p start ∷ []) → P events
  since_begun = grind (arith, last_begin)
