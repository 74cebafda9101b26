-- Which events are a party's, which are those of a seat's parties, and that some seat with a share has seen
-- all events (`Known`).
use Rattle.std.specs.Prelude.{◌≡◌, ◌<◌, ◌⊎◌, ℕ, ◌==◌, Option, Some, None, List, [], ◌∷◌, ◌++◌, sum_by, if◌then◌else◌}
use mathlib.Core.Option.{some}
use lib.ListN.{get_elem?}
use Rattle.threaded.specs.Shares.{Shares}
use Rattle.model.specs.declared.event.Event.{Event}
use Rattle.model.specs.Reading.{whose, is_party}
use Rattle.history.specs.declared.view.View.{View}

-- the number n where there is a party and seat j acts for it, else 0
abbrev pub if_owned : (ℕ → ℕ) → ℕ → Option ℕ → ℕ → ℕ
if_owned owner j None n = 0
if_owned owner j (Some p) n = if owner p == j then n else 0

-- 1 where there is no party, and 0 where there is one
abbrev pub of_none : Option ℕ → ℕ
of_none None = 1
of_none (Some p) = 0

module _ {T : Type 0} where
  -- the event, if it is the party's
  abbrev pub own_of : ℕ → Event T → List (Event T)
  own_of p e = if is_party p (whose e) then e ∷ [] else []

  -- the events of one party, in their order
  abbrev pub events_by : ℕ → List (Event T) → List (Event T)
  events_by p [] = []
  events_by p (e ∷ es) = own_of p e ++ events_by p es

  -- the events of some party
  abbrev pub by_party : Option ℕ → List (Event T) → List (Event T)
  by_party None events = []
  by_party (Some p) events = events_by p events

  -- the measure `f` of an event, where it is of a party for which seat j acts, else 0
  abbrev pub owned : (ℕ → ℕ) → ℕ → (Event T → ℕ) → Event T → ℕ
  owned owner j f e = if_owned owner j (whose e) (f e)

  -- the pass knows just these events: it has seen them, or a pass that it took in had seen them
  abbrev pub HasSeen : View T → List (Event T) → Type 0
  HasSeen v events = (v.seen ≡ events) ⊎ (v.other ≡ events)

  -- The shares of all seats make the whole, some seat with a share has seen all events, and each
  -- event is some party's.
  pub record Known (views : List (View T)) (events : List (Event T)) : Type 0 where
    pub shares : Shares (λ (v : View T). v.share) views
    -- a seat with a share, and its view
    pub by : ℕ
    pub last : View T
    pub at : get_elem? views by ≡ some last
    pub any : 0 < last.share.part
    -- that seat has seen all events
    pub all : HasSeen last events
    -- each event is of a party
    pub someone : sum_by (λ e. of_none (whose e)) events ≡ 0
    -- a seat without a share made nothing and has no call under way
    pub spent : (j : ℕ) (v : View T) → get_elem? views j ≡ some v → v.share.part ≡ 0
        → (v.made ≡ []) × (v.going ≡ None)
