-- Where a party's call stands at a place (its way), read from the party's span: what the call
-- has written (`WayFits`).
use Rattle.std.proofs.Common.{arith}
use Rattle.history.proofs.Names.{◌≡◌, ℕ, Option, Some, None, List, [], ◌∷◌, ◌++◌, sym}
use Rattle.history.proofs.Names.{subst, ◌∙◌, append_assoc, append-nil, fold-append}
use Rattle.model.specs.declared.event.Answer.{Answer}
use Rattle.model.specs.declared.event.Event.{Event}
use Rattle.model.specs.declared.event.Event.TheVariants.{Begun}
use Rattle.history.proofs.Names.{BeginsNone, Span, Never, Open, Ended, longer}
use Rattle.model.specs.declared.event.Event.TheVariants.{Finished}
use Rattle.model.specs.declared.event.Start.{Start}
use Rattle.history.proofs.Names.{own_after, span_after, span_of}
use Rattle.model.specs.Shape.{IsOpenFor, IsShut}
use Rattle.history_bits.specs.Acts.{Way, way_after}
use Rattle.history_bits.proofs.Acts.Marks.{way_in, number_in, way_more}

module _ {T : Type 0} where
  -- ---- beginnings

  -- P holds of some first events, and `goes` says that it holds with one event more
  module _ (events : List (Event T)) (P : List (Event T) → Type 0)
      (goes : (h after : List (Event T)) (e : Event T) → events ≡ h ++ e ∷ after → P h → P (h ++ e ∷ [])) where
    -- P holds with several events more
    from_there : (h es rest : List (Event T)) → events ≡ h ++ (es ++ rest) → P h → P (h ++ es)
    from_there h [] rest events_are p = subst P (sym (append-nil h)) p
    from_there h (e ∷ es) rest events_are p =
        subst P (append_assoc h (e ∷ []) es)
        (from_there (h ++ e ∷ []) es rest (events_are ∙ sym (append_assoc h (e ∷ []) (es ++ rest))) (goes h (es ++ rest) e events_are p))

    -- what holds of no events, and of one event more wherever it holds, holds of every part of the events
    -- from the first on
    pub along : P [] → (h rest : List (Event T)) → events ≡ h ++ rest → P h
    along first h rest events_are = from_there [] h rest events_are first

  -- where no call of the party begins in a list, none begins in a later part of it
  pub begins_none_later : (p : ℕ) (xs ys : List (Event T)) → BeginsNone p (xs ++ ys) → BeginsNone p ys
  begins_none_later p [] ys begins_none = begins_none
  begins_none_later p (Begun q start ∷ xs) ys begins_none = begins_none_later p xs ys begins_none.1
  begins_none_later p (x ∷ xs) ys begins_none = begins_none_later p xs ys begins_none

  -- the span of a party whose call began so, where P holds of what it has written
  pub record OpenFor (start : Start T) (P : List (Event T) → Type 0) (span : Span T) : Type 0 where
    pub wrote : List (Event T)
    pub is : span ≡ Open start wrote
    pub holds : P wrote

  pub open_for : (start : Start T) (P : List (Event T) → Type 0) (span : Span T) → IsOpenFor start P span → OpenFor start P span
  open_for = grind arith

  -- ---- ways

  module _ (Fit : Start T → ℕ → List (Event T) → Option ℕ → Type 0) where
    -- the call began so, and what it has found at place b fits what it has written
    pub record Fits (start : Start T) (b : ℕ) (wrote : List (Event T)) (way : Way T) : Type 0 where
      pub found : Option ℕ
      pub is : way ≡ Some (start, found)
      pub fit : Fit start b wrote found

    -- the way fits the span: no call is under way, or what it has found at place b fits what it has written
    abbrev pub WayFits : ℕ → Span T → Way T → Type 0
    WayFits b Never way = way ≡ None
    WayFits b (Open start wrote) way = Fits start b wrote way
    WayFits b (Ended start answer wrote) way = way ≡ None

    pub shut_way : (b : ℕ) (span : Span T) (way : Way T) → IsShut span → WayFits b span way → way ≡ None
    shut_way = grind arith

    -- the way of an open call is that call's, and what it has found fits what it has written
    pub fits_open : (b : ℕ) (span : Span T) (way : Way T) (start : Start T) (wrote : List (Event T))
        → span ≡ Open start wrote → WayFits b span way → Fits start b wrote way
    fits_open b span way start wrote span_is fits = subst (λ s. WayFits b s way) span_is fits

    -- the begin of a call, of this party or another, leaves the way fitting the span
    pub begun_fits : (p q b n : ℕ) (span : Span T) (way : Way T) (s : Start T) → Fit s b [] None
        → WayFits b span way → WayFits b (span_after p span (Begun q s)) (way_after p b n way (Begun q s))
    begun_fits = grind arith

    -- the end of a call, of this party or another, leaves the way fitting the span
    pub finished_fits : (p q b n : ℕ) (span : Span T) (way : Way T) (s : Start T) (a : Answer T)
        → WayFits b span way → WayFits b (span_after p span (Finished q s a)) (way_after p b n way (Finished q s a))
    finished_fits = grind arith

    -- an event that goes on with each span, and keeps what a call has written in keeping with what
    -- it found, leaves the way fitting the span
    pub quiet_fits : (p b : ℕ) (span : Span T) (way : Way T) (e : Event T)
        → ((span : Span T) → own_after span e ≡ longer span e)
        → ((start : Start T) (wrote : List (Event T)) (d : Option ℕ) → Fit start b wrote d → Fit start b (wrote ++ e ∷ []) d)
        → WayFits b span way
        → WayFits b (span_after p span e) way
    quiet_fits = grind arith

    -- each party's way at each place fits the party's span
    abbrev pub Ways : List (Event T) → Type 0
    Ways h = (p b : ℕ) → WayFits b (span_of p h) (way_in p b 0 None h)

    -- a way that fits the span after one event more is the way in the history with that event
    pub ways_more : (h : List (Event T)) (e : Event T) (p b : ℕ)
        → WayFits b (span_after p (span_of p h) e) (way_after p b (number_in b 0 h) (way_in p b 0 None h) e)
        → WayFits b (span_of p (h ++ e ∷ [])) (way_in p b 0 None (h ++ e ∷ []))
    ways_more = grind (arith, way_in, fold-append, way_more)
