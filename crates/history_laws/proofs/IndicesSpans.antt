-- Where a party's span is open, its latest call stands in the events, with what the party wrote since it began.
use Rattle.std.proofs.Common.{◌≡◌, ℕ, ◌==◌, Bool, true, false, List, [], ◌∷◌, ◌++◌, refl, sym, ap}
use Rattle.std.proofs.Common.{subst, ◌∙◌, append_assoc, append-nil}
use Rattle.std.proofs.lemmas.List.Sums.{fold-append}
use Rattle.model.specs.declared.event.Answer.{Answer}
use Rattle.model.specs.declared.event.Event.{Event}
use Rattle.model.specs.declared.event.Event.TheVariants.{Begun, Finished}
use Rattle.model.specs.declared.event.Start.{Start}
use Rattle.model.specs.Moments.{BeginsNone}
use Rattle.model.specs.Reading.{whose, is_party, Span, Never, Open, Ended, longer, ended, own_after, span_after, span_of}
use Rattle.model.proofs.Moments.{begins_none_more}
use Rattle.history.specs.Known.{own_of, events_by}
use Rattle.history.proofs.Numbers.{is_number, no_number}
use Rattle.history_bits.proofs.Acts.Ways.{along}
use Rattle.history.proofs.Known.{by_more}
use Rattle.lemmas.proofs.Cases.{by_bool}

module _ {T : Type 0} (p : ℕ) where
  -- the party's latest call began as `start`, among these events, and the party wrote `wrote` since
  pub record IsSince (start : Start T) (wrote events : List (Event T)) : Type 0 where
    pub before : List (Event T)
    pub since : List (Event T)
    pub is : events ≡ before ++ Begun p start ∷ since
    pub within : BeginsNone p since
    pub own : events_by p since ≡ wrote

  -- where the span is open, the party's latest call stands in the events, with what it has written
  abbrev Tells : List (Event T) → Span T → Type 0
  Tells events Never = Unit {0}
  Tells events (Open start wrote) = IsSince start wrote events
  Tells events (Ended start answer wrote) = Unit {0}

  -- ---- one event more

  module _ (events : List (Event T)) (e : Event T) (none : BeginsNone p (e ∷ [])) where
    -- with an event more that begins no call of the party, its latest call still stands in the events
    further : (start : Start T) (wrote : List (Event T)) → IsSince start wrote events → IsSince start (wrote ++ own_of p e) (events ++ e ∷ [])
    further start wrote is_since =
        record {
          before = is_since.before;
          since = is_since.since ++ e ∷ [];
          is = ap (λ xs. xs ++ e ∷ []) is_since.is ∙ append_assoc is_since.before (Begun p start ∷ is_since.since) (e ∷ []);
          within = begins_none_more p is_since.since (e ∷ []) is_since.within none;
          own = by_more p is_since.since (e ∷ []) ∙ (ap (λ xs. xs ++ (own_of p e ++ [])) is_since.own ∙ ap (λ xs. wrote ++ xs) (append-nil (own_of p e)));
        }

    -- an event of another party leaves what the span tells
    still : own_of p e ≡ [] → (span : Span T) → Tells events span → Tells (events ++ e ∷ []) span
    still other Never s = tt
    still other (Open start wrote) s =
        subst (λ xs. IsSince start xs (events ++ e ∷ [])) (ap (λ xs. wrote ++ xs) other ∙ append-nil wrote) (further start wrote s)
    still other (Ended start answer wrote) s = tt

    -- an event of the party itself is told by its longer span
    more : own_of p e ≡ e ∷ [] → (span : Span T) → Tells events span → Tells (events ++ e ∷ []) (longer span e)
    more mine Never s = tt
    more mine (Open start wrote) s =
        subst (λ xs. IsSince start xs (events ++ e ∷ [])) (ap (λ xs. wrote ++ xs) mine) (further start wrote s)
    more mine (Ended start answer wrote) s = tt

    -- an event that goes on with a span leaves the call of the party in the events, whether the event is its own or not
    writes : ((z : Span T) → own_after z e ≡ longer z e) → (span : Span T) → Tells events span
        → (b : Bool) → is_party p (whose e) ≡ b → Tells (events ++ e ∷ []) (span_after p span e)
    writes longer_so span s true t =
        let mine : own_of p e ≡ e ∷ [] = rw t refl in
        let here : span_after p span e ≡ longer span e = rw t (longer_so span) in
        subst (Tells (events ++ e ∷ [])) (sym here) (more mine span s)
    writes longer_so span s false t =
        let other : own_of p e ≡ [] = rw t refl in
        let here : span_after p span e ≡ span = rw t refl in
        subst (Tells (events ++ e ∷ [])) (sym here) (still other span s)

  -- a span whose call has ended tells of no call under way
  over : (events : List (Event T)) (span : Span T) (answer : Answer T) → Tells events (ended span answer)
  over events Never answer = tt
  over events (Open start wrote) answer = tt
  over events (Ended start first wrote) answer = tt

  -- with any event more, where the party's span is open then, its latest call stands in the events
  one_more : (events : List (Event T)) (e : Event T) (span : Span T) → Tells events span → Tells (events ++ e ∷ []) (span_after p span e)
  -- a call begins: of this party, whose latest call it is, or of another one
  one_more events (Begun q start) span s =
      by_bool (q == p)
      (λ t.
      let same : q ≡ p = is_number q p t in
      let here : span_after p span (Begun q start) ≡ Open start [] = rw t refl in
      let begun : IsSince start [] (events ++ Begun q start ∷ []) =
      record { before = events; since = []; is = ap (λ n. events ++ Begun n start ∷ []) same; within = tt; own = refl } in
      subst (Tells (events ++ Begun q start ∷ [])) (sym here) begun)
      (λ t.
      let other : own_of p (Begun q start) ≡ [] = rw t refl in
      let here : span_after p span (Begun q start) ≡ span = rw t refl in
      subst (Tells (events ++ Begun q start ∷ [])) (sym here) (still events (Begun q start) (no_number q p t, tt) other span s))
  -- a call ends: of this party, which has none under way then, or of another one
  one_more events (Finished q start answer) span s =
      by_bool (q == p)
      (λ t.
      let here : span_after p span (Finished q start answer) ≡ ended span answer = rw t refl in
      subst (Tells (events ++ Finished q start answer ∷ [])) (sym here) (over (events ++ Finished q start answer ∷ []) span answer))
      (λ t.
      let other : own_of p (Finished q start answer) ≡ [] = rw t refl in
      let here : span_after p span (Finished q start answer) ≡ span = rw t refl in
      subst (Tells (events ++ Finished q start answer ∷ [])) (sym here) (still events (Finished q start answer) tt other span s))
  -- any other event goes on with the span, or leaves it
  one_more events e span s = writes events e tt (λ z. refl) span s (is_party p (whose e)) refl

  -- after any events, the party's span tells of its latest call
  tells : (events : List (Event T)) → Tells events (span_of p events)
  tells events =
      along events (λ h. Tells h (span_of p h))
      (λ h after e is s. subst (Tells (h ++ e ∷ [])) (sym (fold-append (span_after p) Never h (e ∷ []))) (one_more h e (span_of p h) s))
      tt events [] (sym (append-nil events))

  -- where the party's span is open, its latest call stands in the events, with what it wrote since
  pub since_of : (events : List (Event T)) (start : Start T) (wrote : List (Event T)) → span_of p events ≡ Open start wrote → IsSince start wrote events
  since_of events start wrote is = subst (Tells events) is (tells events)
