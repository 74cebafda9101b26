-- Each value that the state of a `get_state` shows, that call has itself copied: how this is said
-- (`ShowsOwn`), and that it holds while the call goes on.
use Rattle.laws_container.proofs.Names.{◌≡◌, ◌≢◌, ℕ, Option, Some, None, List, [], ◌∷◌, ◌++◌, fold, length, ap, ◌∙◌}
use Rattle.laws_container.proofs.Names.{append-nil, arith, flat_map-append, slice_get_past, ContainerState, Answer}
use Rattle.laws_container.proofs.Names.{Event, Copied, Start, Container, GetState, shows, Copies, act, acts, acts_of}
use Rattle.laws_container.proofs.Names.{wrote_in, IsOneOf, Span, Never, Open, Ended, own_after, span_of, ending_of}
use Rattle.laws_container.proofs.Names.{AreOwn, span_of-own, some_none, still_one}

module _ {T : Type 0} where
  -- the name of a party's latest call
  abbrev pub name_of : Span T → Option (Start T)
  name_of Never = None
  name_of (Open start wrote) = Some start
  name_of (Ended start answer wrote) = Some start

  -- the latest call of the party is a `get_state`
  abbrev pub IsGetting : ℕ → List (Event T) → Type 0
  IsGetting p events = name_of (span_of p events) ≡ Some (Container GetState)

  -- the party's latest call has copied this value from this index
  abbrev pub HasCopied : ℕ → ℕ → T → List (Event T) → Type 0
  HasCopied p i value events = IsOneOf (Copies i value) (acts_of p events)

  -- each value that the state of a `get_state` shows was copied by the call, except at the
  -- index that it is copying
  abbrev pub ShowsOwn : ℕ → ContainerState T → ℕ → List (Event T) → Type 0
  ShowsOwn p s copying events =
      IsGetting p events → (i : ℕ) (value : T) → i ≢ copying → shows s i ≡ Some value
      → HasCopied p i value events

  -- what a step of a look writes: a copy, or nothing
  abbrev pub copies_of : ℕ → Option (ℕ × T) → List (Event T)
  copies_of p None = []
  copies_of p (Some copy) = Copied p copy.0 copy.1 ∷ []

  -- the party's call has gone on, and has copied `what`: it is a `get_state` if it was one, and has copied
  -- what it had
  pub record CallsOn (p : ℕ) (what : Option (ℕ × T)) (events events' : List (Event T)) : Type 0 where
    -- the call is a `get_state` after these events if and only if it was one before
    pub getting : IsGetting p events' → IsGetting p events
    pub still : IsGetting p events → IsGetting p events'
    -- what the call had copied it has copied, and it has copied `what`
    pub has : (i : ℕ) (value : T) → HasCopied p i value events → HasCopied p i value events'
    pub now : (i : ℕ) (value : T) → what ≡ Some (i, value) → HasCopied p i value events'

  -- what is said of a `get_state` holds when the call has gone on
  pub own_later : {p : ℕ} {what : Option (ℕ × T)} {events events' : List (Event T)} → CallsOn p what events events'
      → (s : ContainerState T) (copying : ℕ) → ShowsOwn p s copying events → ShowsOwn p s copying events'
  own_later calls_on s copying shows_own getting i value ne e = calls_on.has i value (shows_own (calls_on.getting getting) i value ne e)

  -- a state shows no value past its elements
  not_past : (c : ℕ) (s : ContainerState T) (i : ℕ) (value : T) → length s.shown.elements ≡ c → shows s i ≡ Some value → i ≢ c
  not_past = grind (arith, shows, slice_get_past, some_none)

  -- each value that the state shows was copied by the `get_state` that was under way before these events
  abbrev pub ShowsCopied : ℕ → ContainerState T → List (Event T) → List (Event T) → Type 0
  ShowsCopied p s events events' =
      IsGetting p events → (i : ℕ) (value : T) → shows s i ≡ Some value
      → HasCopied p i value events'

  -- a `get_state` that has gone over all indices has copied each value that it shows
  pub own_then : {p : ℕ} (c : ℕ) {what : Option (ℕ × T)} {events events' : List (Event T)} → CallsOn p what events events'
      → (s : ContainerState T) → length s.shown.elements ≡ c → ShowsOwn p s c events' → ShowsCopied p s events events'
  own_then c calls_on s wide shows_own getting i value e = shows_own (calls_on.still getting) i value (not_past c s i value wide e) e

  -- where the span is the same the call goes on and copies nothing
  pub calls_same : {p : ℕ} {events events' : List (Event T)} → span_of p events' ≡ span_of p events → CallsOn p None events events'
  calls_same same = grind arith

  -- ---- a step of the call's own

  -- the call of party `p` has written `w`
  module _ (p : ℕ) (events : List (Event T)) (start : Start T) (w : List (Event T)) (here : span_of p events ≡ Open start w) where
    -- the call writes `es`, of which `what` is the copy
    module _ (what : Option (ℕ × T)) (es : List (Event T)) (own : AreOwn p es) (span : Span T)
        (is : fold own_after (Open start w) es ≡ span) (name : name_of span ≡ Some start)
        (wrote : wrote_in span ≡ w ++ copies_of p what) where
      span_then : span_of p (events ++ es) ≡ span
      span_then = span_of-own p events es own ∙ (ap (λ a. fold own_after a es) here ∙ is)

      acts_then : acts_of p (events ++ es) ≡ acts w ++ acts (copies_of p what)
      acts_then = ap (λ a. acts (wrote_in a)) span_then ∙ (ap acts wrote ∙ flat_map-append act w (copies_of p what))

      acts_now : acts_of p events ≡ acts w
      acts_now = ap (λ a. acts (wrote_in a)) here

      -- the call has gone on, and has copied `what`
      calls : CallsOn p what events (events ++ es)
      calls = grind (arith, still_one, span_then, acts_then, acts_now)

    -- the call goes on, or ends with its end written, and has copied `what`
    pub calls_on : (what : Option (ℕ × T)) (outcome : Option (Answer T)) → CallsOn p what events (events ++ (copies_of p what ++ ending_of p start outcome))
    calls_on = grind (arith, calls, append-nil)
