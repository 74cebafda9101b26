-- The views of passes as a table opens, as a pass is split and as two are joined, and what a look through the
-- history leaves of a view (`Looks`).
use Rattle.std.specs.Prelude.{◌≡◌, ◌⊎◌, ℕ, Option, Some, None, [], ◌++◌, ◌<◌, ◌+◌, sum_by, length, slice_index}
use Rattle.model.specs.declared.event.Event.{Event}
use Rattle.model.specs.declared.event.Start.{Start}
use Rattle.model.specs.declared.families.Flight.{Flight}
use Rattle.model.specs.declared.turn.Kind.{Kind}
use Rattle.model.specs.declared.turn.Kind.TheVariants as kinds
use Rattle.model.specs.Coding.{Coding}
use Rattle.model.specs.World.{Trace}
use Rattle.threaded.specs.Shares.{all_shares, no_share, half_of, both_of, IsAll}
use Rattle.history.specs.declared.view.View.{View}
use Rattle.history.specs.Known.{events_by}
use Rattle.history.specs.History.{IsBeginning, IsHistory, IsOfParties, IsRun, AreFirst, Continues}

module _ {T : Type 0} where
  -- the view with which a structure opens: the first seat is party 0, has the whole share, and knows nothing
  abbrev pub first_view : ℕ → View T
  first_view capacity =
      record {
        capacity = capacity;
        party = Some 0;
        share = all_shares;
        seen = [];
        other = [];
        turns = [];
        other_turns = [];
        made = [];
        going = None;
        state = None;
        asked = 0;
        aside = 0;
        taken = 0;
        others = 0;
      }

  -- The view of the pass that a split makes: it has half of the share, has seen
  -- the same, and has made nothing. The split is one operation of the pass that is
  -- split, and the join one of the pass that takes in, with those of the other.
  abbrev pub right_view : View T → View T
  right_view v =
      record {
        capacity = v.capacity;
        party = None;
        share = half_of v.share;
        seen = v.seen;
        other = [];
        turns = v.turns;
        other_turns = [];
        made = [];
        going = None;
        state = None;
        asked = 0;
        aside = 0;
        taken = 0;
        others = 0;
      }

  -- The view of a pass that was split: half of its share is left, and it asked for one operation more, which
  -- is aside: no step of a call.
  abbrev pub left_view : View T → View T
  left_view v = record v { share = half_of v.share; asked = v.asked + 1; aside = v.aside + 1 }

  -- The view of the pass v after it took in w: it has both shares, made what both made, and goes on as the
  -- party that v was. The join asked for one operation, which is aside: no step of a call.
  abbrev pub joined_view : View T → View T → View T
  joined_view v w =
      record {
        capacity = v.capacity;
        party = v.party;
        share = both_of v.share w.share;
        seen = v.seen;
        other = w.seen;
        turns = v.turns;
        other_turns = w.turns;
        made = v.made ++ w.made;
        going = v.going;
        state = v.state;
        asked = v.asked + w.asked + 1;
        aside = v.aside + w.aside + 1;
        taken = v.taken;
        others = v.others;
      }

  -- the view of a pass that was taken in: it has no share and knows nothing
  abbrev pub spent_view : View T
  spent_view =
      record {
        capacity = 0;
        party = None;
        share = no_share;
        seen = [];
        other = [];
        turns = [];
        other_turns = [];
        made = [];
        going = None;
        state = None;
        asked = 0;
        aside = 0;
        taken = 0;
        others = 0;
      }

  -- From the view v to the view w the pass has looked through the history: it has seen all events up to then.
  -- What it had seen, and what a pass that it took in had seen, are beginnings of them.
  pub record Looks (code : Coding T) (kind : Kind) (size : ℕ) (v w : View T) : Type 0 where
    -- the look changes neither party, call under way, state, share nor what the pass made; the pass
    -- knows one history alone
    pub capacity : w.capacity ≡ v.capacity
    pub party : w.party ≡ v.party
    pub going : w.going ≡ v.going
    pub state : w.state ≡ v.state
    pub share : w.share ≡ v.share
    pub other : w.other ≡ []
    pub made : w.made ≡ v.made
    -- each operation asked for since is aside: no step of a call
    pub aside : w.asked + v.aside ≡ v.asked + w.aside
    -- what it had seen, and what the pass that it took in had seen, are beginnings of what it has seen
    pub mine : IsBeginning v.seen w.seen
    pub theirs : IsBeginning v.other w.seen
    -- with the whole share it had seen all of it, and has made all of it
    pub whole : IsAll v.share → (w.seen ≡ v.seen) ⊎ (w.seen ≡ v.other)
    pub all : IsAll v.share → (f : Event T → ℕ) → sum_by f w.seen ≡ sum_by f w.made
    -- what it has seen is a history; the run that it knew goes on to the one that it knows now, and the turns
    -- that the pass which it took in knew are first turns of that
    pub history : IsHistory code kind size w.seen
    pub ran : Continues code kind size v w
    pub theirs_ran : AreFirst v.other_turns w.turns
    -- it made just the events of its parties among those that it has seen
    pub parties : IsOfParties w
    -- a pass with a share that knew one history alone finds no new event of its own parties
    pub apart : v.other ≡ [] → 0 < v.share.part → (p : ℕ) → parties.owner p ≡ parties.seat
        → events_by p mine.rest ≡ []

  -- `Looks`, where the look is one operation
  abbrev pub LooksOnce : Coding T → Kind → ℕ → View T → View T → Type 0
  LooksOnce code kind size v w = Looks code kind size v w × (w.asked ≡ v.asked + 1)

  -- the pass looked through the history by a look at this word of the table, in which it found `found`
  pub record LooksAt (code : Coding T) (kind : Kind) (size word : ℕ) (v : View T) (found : ℕ) (w : View T) : Type 0 where
    pub looks : Looks code kind size v w
    -- the machine that it looked at, whose events are all that it has seen then
    pub trace : Trace T
    pub run : IsRun code kind size trace
    pub seen : w.seen ≡ trace.events
    -- its word had this value
    pub word_is : word < length trace.world.words → found ≡ slice_index trace.world.words word

  -- What is told of a look. In an overflowing queue another party may write an event for the pass's call
  -- under way, so nothing is told there while the pass has one.
  abbrev pub WhenIdle : Kind → Option (Start T × Flight T) → Type 0 → Type 0
  WhenIdle kinds.Overflow going Told = going ≡ None → Told
  WhenIdle kind going Told = Told
