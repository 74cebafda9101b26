-- What holds of the machine of a robust index set between any two turns beside what the frame says of every machine, and
-- what a turn must show to keep it.
use Rattle.laws_robust.proofs.Names.{◌≡◌, ◌≢◌, ℕ, ◌+◌, ◌-◌, ◌^◌, ◌<◌, ◌≤◌, ◌==◌, false, Some, List, ◌++◌, length}
use Rattle.laws_robust.proofs.Names.{fold, refl, sym, ap, ◌∙◌, arith, empty, locked, greatest, Event, Start}
use Rattle.laws_robust.proofs.Names.{Flight, Party, Coding, is_locked, has_died, cell_of, SetDoes}
use Rattle.laws_robust.proofs.Names.{HoldsRight, promise, SetAct, set_acts, filled_of, is_dead, wrote_in, set_acts_of}
use Rattle.laws_robust.proofs.Names.{party_of, put, Stands, Each, Span, own_after, span_of, AreOwn, AllFollow}
use Rattle.laws_robust.proofs.Names.{AreRight, Each-append, span_of-other}
use Rattle.model.specs.declared.event.Start.TheVariants as any_starts
use Rattle.model.specs.declared.families.Flight.TheVariants as flights
use Rattle.model.specs.declared.families.Registry.TheVariants as registries
use Rattle.model.specs.declared.turn.Kind.TheVariants as kinds
use Rattle.model.proofs.Family as families
use Rattle.model.proofs.Family.{Outline}
use Rattle.model.proofs.Frame as frame
use Rattle.model.proofs.Frame.{Family}
use Rattle.laws_robust.specs.Gone.{GoneBy, Death, Word, IsCalm, AsksBy, AnswersBy}
use Rattle.laws_robust.proofs.Core.{counter_of, cell}
use Rattle.laws_robust.proofs.Knows.{View, Knows, OthersTurn, Goes, Spares, IsSeen, later, knows_later}
use Rattle.laws_robust.proofs.CallProgress.{number_of, At}
use Rattle.laws_robust.proofs.Rights.{AreOwned}

-- the state of the set: its words, the dead owners, and the events, by which calls under way are read
pub record RobustSet (T : Type 0) : Type 0 where
  pub words : List ℕ
  pub dead : List ℕ
  pub events : List (Event T)

-- a turn of a party, with the machine around it
pub record Scene (T : Type 0) : Type 0 where
  pub by : GoneBy  -- what makes an owner gone
  pub coding : Coding T
  pub capacity : ℕ
  pub set : RobustSet T
  pub party : ℕ
  pub steps : ℕ  -- the steps that the party's call has taken
  pub backs : ℕ  -- how often the call has turned back
  pub since : ℕ  -- how often words had changed as the call began
  pub changes : ℕ  -- how often words have changed
  pub turns : ℕ
  pub latest : List (ℕ × Party T)
  pub events : List (Event T)

-- the counter is neither at its end nor one number before it
abbrev pub IsAhead : List ℕ → Type 0
IsAhead words = counter_of words ≢ locked → counter_of words + 1 < greatest

-- the counter is at its end; where owners die turns are few, so there it never is
abbrev pub IsWorn : GoneBy → List ℕ → Type 0
IsWorn Death words = ⊥
IsWorn Word words = counter_of words ≡ greatest

-- where owners die the counter has to be ahead of its end
abbrev pub HasRoom : GoneBy → List ℕ → Type 0
HasRoom Death words = IsAhead words
HasRoom Word words = Unit {0}

-- words whose counter is at its end stay so, where the counter stays there
pub worn_on : (by : GoneBy) (words words' : List ℕ) → (counter_of words ≡ greatest → counter_of words' ≡ greatest) → IsWorn by words → IsWorn by words'
worn_on Death words words' on worn = worn
worn_on Word words words' on worn = on worn

-- a machine whose counter is at its end, and may be, is worn
pub worn_at : (by : GoneBy) (words : List ℕ) → HasRoom by words → counter_of words ≡ greatest → IsWorn by words
worn_at = grind arith

-- the counter is one number before its end, and then at it
pub worn_then : (by : GoneBy) (words words' : List ℕ) → HasRoom by words → counter_of words + 1 ≡ greatest → counter_of words' ≡ greatest → IsWorn by words'
worn_then = grind arith

module _ {T : Type 0} where
  -- What holds of the words, of the dead owners and of the events between any two turns.
  pub record Good (by : GoneBy) (c : ℕ) (words dead : List ℕ) (events : List (Event T)) (turns : ℕ) : Type 0 where
    -- the capacity, and that the words are the counter and a cell for each index
    pub some : 1 ≤ c
    pub few : c < 2 ^ 32
    pub wide : c + 1 ≤ length words
    -- each cell has the owner with whom its index is filled, and the counter says whether the set is locked
    pub cells : (i : ℕ) → i < c → cell words i ≡ cell_of (filled_of i events)
    pub filled : (i owner : ℕ) → filled_of i events ≡ Some owner → (i < c) × (owner < empty)
    pub lock : (counter_of words == locked) ≡ is_locked events
    -- the counter is at most the number of turns before this one, and at most locked
    pub low : is_locked events ≡ false → counter_of words ≤ turns - 1
    pub bound : counter_of words ≤ locked
    -- the list of the dead is that of the events; indices are filled, granted, freed and locked rightly;
    -- answers are right
    pub died : (owner : ℕ) → has_died owner dead ≡ is_dead owner events
    pub does : Each (SetDoes c) events
    pub answers : Each (AnswersBy by (IsWorn by words) c) events
    -- in a well-formed and honest run, each index that is held, or may be given back, is filled with its
    -- owner, and none is granted that is held
    pub owned : IsCalm by events → AreOwned events
    pub holds : IsCalm by events → Each HoldsRight events

  -- what holds of the state, of the latest calls and of the events between any two turns
  pub record Holds (by : GoneBy) (c : ℕ) (s : RobustSet T) (latest : List (ℕ × Party T)) (events : List (Event T)) (turns : ℕ) : Type 0 where
    pub same : s.events ≡ events
    pub begun : (p : ℕ) (x : Party T) → party_of p latest ≡ Some x → 1 ≤ turns
    pub good : Good by c s.words s.dead events turns
    pub asks : Each (AsksBy by) events

  -- ---- the family of the robust index set

  -- what a party's call under way has written
  abbrev pub wrote_of : ℕ → List (Event T) → List (Event T)
  wrote_of p events = wrote_in (span_of p events)

  abbrev number : ℕ → Flight T → ℕ → ℕ
  number c (flights.Robust flight) backs = number_of c flight backs
  number c flight backs = 0

  -- where a call of a machine stands, if it is one of a set of owners
  abbrev pub FlightAt : ℕ → List SetAct → Start T → Flight T → Type 0
  FlightAt c all (any_starts.Robust start) (flights.Robust flight) = At c all start flight
  FlightAt c all start flight = ⊥

  -- what the party's call knows of what it sees
  abbrev pub Knowing : ℕ → Flight T → View T → Type 0
  Knowing c (flights.Robust flight) v = Knows c flight v
  Knowing c flight v = ⊥

  -- the set as the party `p` sees it in its call
  abbrev pub view : GoneBy → List ℕ → List (Event T) → ℕ → ℕ → ℕ → ℕ → View T
  view by words events p since changes backs =
      record { by = by; words = words; events = events; party = p; since = since; changes = changes; backs = backs }

  -- the robust index set as a family: what a state is, what holds of it, and what each call knows
  abbrev pub outline : GoneBy → Outline T
  outline by =
      record {
        kind = kinds.Robust;
        no_loan = refl;
        promise = promise;
        State = RobustSet T;
        words = λ s. s.words;
        kept = λ s. registries.Owners s.dead;
        Holds = λ code c s latest events turns. Holds by c s latest events turns;
        written = λ c s p flight. wrote_of p s.events;
        number = λ code c. number c;
        At = λ code c s p start flight. FlightAt c (set_acts_of p s.events) start flight;
        Knows = λ code c s p events since changes backs flight. Knowing c flight (view by s.words events p since changes backs);
        Preserves = λ scene s' was y es changes'. Unit {0};
      }

  abbrev pub family_by : GoneBy → Coding T → ℕ → Family T
  family_by by = families.family (outline by)

  -- the family where owners die
  abbrev pub family : Coding T → ℕ → Family T
  family code c = family_by Death code c

  -- what holds before a turn of a party, in a machine whose counter has room for the turn
  pub record Inv (scene : Scene T) : Type 0 where
    pub good : Good scene.by scene.capacity scene.set.words scene.set.dead scene.events scene.turns
    pub begun : 1 ≤ scene.turns
    pub room : HasRoom scene.by scene.set.words

  -- while few turns were taken, the counter is ahead of its end
  pub ahead_of_few : (by : GoneBy) (c : ℕ) (words dead : List ℕ) (events : List (Event T)) (turns : ℕ)
      → Good by c words dead events turns → turns < 2 ^ 64 - 2 → IsAhead words
  ahead_of_few by c words dead events turns is_good small open_now = grind arith

  -- while fewer than 2 ^ 64 - 2 turns were made, the counter has room for one more raise
  pub room_of_few : (by : GoneBy) (c : ℕ) (words dead : List ℕ) (events : List (Event T)) (turns : ℕ)
      → Good by c words dead events turns → turns < 2 ^ 64 - 2 → HasRoom by words
  room_of_few = grind (arith, ahead_of_few)

  -- the set after a turn that leaves these words and writes these events
  abbrev pub set_then : Scene T → List ℕ → List (Event T) → RobustSet T
  set_then scene words es =
      record { words = words; dead = scene.set.dead; events = scene.events ++ es }

  -- What a turn may do to the set and to the other parties, where it leaves the words `words'` and writes
  -- the events `es`.
  pub record Does (scene : Scene T) (words' : List ℕ) (es : List (Event T)) : Type 0 where
    pub own : AreOwn scene.party es
    -- what holds of the set holds afterwards, the turn does no more than a turn may do, and the other
    -- parties keep their rights
    pub good : Good scene.by scene.capacity words' scene.set.dead (scene.events ++ es) (scene.turns + 1)
    pub goes : Goes scene.set.words words' scene.events es
    pub spares : (q : ℕ) → q ≢ scene.party → Spares scene.by q scene.events es

  -- what a turn shows that writes events of its own party alone, whose span before was `from`
  pub record Shows (scene : Scene T) (words' : List ℕ) (from : Span T) (y : Party T) (es : List (Event T)) (changes' : ℕ) : Type 0 where
    pub does : Does scene words' es
    pub stands : AllFollow (Stands promise scene.capacity) from es
    pub asks : AreRight (AsksBy scene.by) scene.events es
    -- the party's call fits its span and knows what its stage says
    pub here : frame.Fits (family_by scene.by scene.coding scene.capacity) (set_then scene words' es) scene.party (Some y) (fold own_after from es)
    pub knows : frame.KnowsDoing (family_by scene.by scene.coding scene.capacity) (set_then scene words' es)
        scene.party (scene.events ++ es) changes' y.backs y.doing
    pub seen : IsSeen scene.set.words words' scene.changes changes'

  -- what a call knows stays known after a turn of another party
  any_knows : (c : ℕ) {v : View T} (turn : OthersTurn v) (flight : Flight T) → Knowing c flight v → Knowing c flight (later turn)
  any_knows c turn (flights.Robust flight) knowing = knows_later turn c flight knowing
  any_knows c turn flight knowing = absurd knowing

  -- where a call stands depends on what its party has written
  pub at_written : (c : ℕ) (w w' : List (Event T)) (start : Start T) (flight : Flight T) → w' ≡ w
      → FlightAt c (set_acts w) start flight → FlightAt c (set_acts w') start flight
  at_written c w w' start flight same standing = rw same standing

  -- the turn shows this (`shows`), and the invariant held before it (`holds_now`, `inv`)
  module _ (scene : Scene T) {words' : List ℕ} {from : Span T} {y : Party T} {es : List (Event T)} {changes' : ℕ}
      (shows : Shows scene words' from y es changes')
      (holds_now : Holds scene.by scene.capacity scene.set scene.latest scene.events scene.turns)
      (inv : frame.Inv (family_by scene.by scene.coding scene.capacity) scene.set scene.latest scene.events scene.changes) where
    open scene use {by as by, capacity as c, set as set, party as p, latest as latest, events as events}

    -- the turn leaves what another party's call has written
    still_wrote : (q : ℕ) → q ≢ p → wrote_of q (events ++ es) ≡ wrote_of q set.events
    still_wrote q ne = ap wrote_in (span_of-other p q events es ne shows.does.own) ∙ ap (wrote_of q) (sym holds_now.same)

    -- a turn that shows this gives the frame what it asks of a turn
    pub owes : span_of p events ≡ from → frame.Owes (family_by by scene.coding c) (set_then scene words' es) p y latest events es changes'
    owes span_is =
        frame.owes (family_by by scene.coding c) set (set_then scene words' es) from p y latest events es scene.changes changes' span_is inv
        (record {
          own = shows.does.own;
          stands = shows.stands;
          here = shows.here;
          knows = shows.knows;
          others =
              λ q ne start flight at.
              (at_written c (wrote_of q set.events) (wrote_of q (events ++ es)) start flight (still_wrote q ne) at, still_wrote q ne);
          others_know = λ q ne since backs flight known.
              any_knows c {v = view by set.words events q since scene.changes backs}
              (record {
                words' = words';
                es = es;
                changes' = changes';
                goes = shows.does.goes;
                spares = shows.does.spares q ne;
                seen = shows.seen;
              })
              flight known;
        })

    -- what holds of the set holds after a turn that shows this
    pub holds_more : Holds by c (set_then scene words' es) (put p y latest) (events ++ es) (scene.turns + 1)
    holds_more =
        record { same = refl; begun = λ q x found. omega arith; good = shows.does.good; asks = Each-append (AsksBy by) events es holds_now.asks shows.asks }
