-- What holds of a queue's machine between any two turns beside what the frame says of every machine, and what a turn
-- must show to keep it. An overflowing queue with a capacity is, as far as its words go, a queue with one cell more.
use Rattle.laws_queues.proofs.Names.{◌≡◌, ◌≢◌, ℕ, ◌+◌, ◌^◌, ◌<◌, ◌≤◌, false, Some, None, List, [], ◌++◌, length, drop, map}
use Rattle.laws_queues.proofs.Names.{fold, sym, ap, subst, ◌∙◌, append_assoc, length-append, drop_at, Event}
use Rattle.laws_queues.proofs.Names.{Item, Start, Flight, Registry, QueueStart, Roles, QueueFlight, Party, QueueKind}
use Rattle.laws_queues.proofs.Names.{Coding, AnswersRight, TellsLength, list_of, cells_of, promise, publishes}
use Rattle.laws_queues.proofs.Names.{hands_out, published, handed_out, waiting, producer_after, consumer_after}
use Rattle.laws_queues.proofs.Names.{producer_of, consumer_of, GrantsRight, pending, BeginsNone, IsLegal, standing}
use Rattle.laws_queues.proofs.Names.{answers_from, put, Stands, Each, acts, moments, Span, own_after, span_of, Family}
use Rattle.laws_queues.proofs.Names.{others_begin_none, AreRight, Each-append, AreOwn, AllFollow}
use Rattle.std.proofs.Common.{arith}
use Rattle.std.proofs.lemmas.List.Concat.{flat_map-append}
use Rattle.std.proofs.lemmas.List.Sums.{fold-append}
use Rattle.model.specs.declared.event.Start.TheVariants as starts
use Rattle.model.specs.declared.families.Flight.TheVariants as flights
use Rattle.model.specs.declared.families.Registry.TheVariants as registries
use Rattle.model.specs.Families.Loan.Opening.{is_loan}
use Rattle.model.proofs.Family as families
use Rattle.model.proofs.Family.{Outline}
use Rattle.model.proofs.Frame as frame
use Rattle.model.proofs.Replays.{calls_of, answers_of, standing_more, legal_more}
use Rattle.laws_queues.proofs.Queues.Core.{Core, Good, GoesUp}
use Rattle.laws_queues.proofs.Queues.Knows.{layout, number_of, Hangs, listed, has_written, KnowsFlight, flight_keeps, At}
use Rattle.laws_queues.proofs.Queues.Values.{Val, encoded, item}
pub use Rattle.laws_queues.specs.Kinds.{machine_kind}

-- the state of a queue: the holders of its roles, and its core (`Queues/Core`)
pub record Queue (V : Type 0) : Type 0 where
  pub roles : Roles
  pub core : Core V

-- the registry has these holders, and the words are those of the queue
abbrev pub Represents : {T V : Type 0} → Registry T → List ℕ → Queue V → Type 0
Represents kept words s = families.Represents kept words (registries.Queues s.roles) (layout s.roles s.core)

-- how many steps a queue's call has taken at most, where it has turned back `backs` times
abbrev number : {T : Type 0} → Coding T → Flight T → ℕ → ℕ
number en (flights.Queues flight) backs = number_of en flight backs
number en flight backs = 0

-- ---- where a party's call stands, with the machine around it

-- a queue's machine as one party steps: the queue, the party's call, and all that is around it
pub record Scene (T : Type 0) (kd : QueueKind) : Type 0 where
  pub capacity : ℕ
  pub roles : Roles
  pub core : Core (Val T kd)
  pub party : ℕ
  pub steps : ℕ  -- the steps that the call has taken
  pub backs : ℕ  -- how often the call has turned back
  pub since : ℕ  -- how often words had changed as the call began
  pub changes : ℕ  -- how often words have changed
  pub latest : List (ℕ × Party T)  -- the latest call of each party
  pub events : List (Event T)
  pub turns : ℕ

module _ {T : Type 0} where
  -- what was published and not handed out is what waits
  pub waiting_is : (events : List (Event T)) (items : List (Item T)) → published events ≡ handed_out events ++ items → waiting events ≡ items
  waiting_is = grind (arith, drop, length, handed_out, drop_at)

  -- the events add to what is published and handed out, and what waits is still the difference
  book_more :
      (events es : List (Event T)) (old new : List (Item T)) → published events ≡ handed_out events ++ old → old ++ published es ≡ handed_out es ++ new
      → published (events ++ es) ≡ handed_out (events ++ es) ++ new
  book_more = grind (arith, flat_map-append, publishes, published, append_assoc, handed_out, hands_out)

  -- the read position still counts what was handed out, with the events added
  out_more : (events es : List (Event T)) (old new : ℕ) → old ≡ length (handed_out events)
      → new ≡ old + length (handed_out es) → new ≡ length (handed_out (events ++ es))
  out_more = grind (arith, handed_out, flat_map-append, hands_out, length-append)

  -- the events that the party's call under way has written
  abbrev written : {V : Type 0} → ℕ → Core V → ℕ → Flight T → List (Event T)
  written c k p (flights.Queues flight) = has_written c k p flight
  written c k p flight = []

  -- the queue of a scene: the holders of its roles, and its core
  abbrev pub queue_in : {kd : QueueKind} → Scene T kd → Queue (Val T kd)
  queue_in scene = record { roles = scene.roles; core = scene.core }

-- the machine of a queue is no loan channel
pub no_loan : (kd : QueueKind) → is_loan (machine_kind kd) ≡ false
no_loan = grind arith

module _ {T : Type 0} (en : Coding T) where
  -- What holds of a queue between any two turns: of its core `k`, the holders `ro` of its roles, the latest
  -- calls and the events.
  pub record Holds (kd : QueueKind) (c : ℕ) (ro : Roles) (k : Core (Val T kd)) (latest : List (ℕ × Party T))
      (events : List (Event T)) (turns : ℕ) : Type 0 where
    pub fits : c < 2 ^ 32  -- the capacity is of 32 bits
    -- the values that wait stand in their cells, between the two positions
    pub good : Good (encoded en kd).size (encoded en kd).words_of (cells_of kd c) k
    -- more values than the capacity wait only while the newest push has not acted
    pub hangs : Hangs T kd c k (pending k.read ro.producer latest)
    -- what was published is what was handed out, and then what waits
    pub book : published events ≡ handed_out events ++ map (item kd) k.waiting
    pub out : k.read ≡ length (handed_out events)  -- the read position counts what was handed out
    pub producers : producer_of events ≡ ro.producer  -- by the events too, this party or none holds the producer's role
    pub consumers : consumer_of events ≡ ro.consumer  -- and the consumer's
    -- the list that the calls answer as holds what waits
    pub stand : standing (list_of kd c) (moments events) ≡ listed kd c k.waiting
    pub legal : IsLegal (list_of kd c) (moments events)  -- the calls that have acted have the answers of that list
    -- a push that finds no room, and a pop that finds nothing, say the truth
    pub answers : Each (AnswersRight c) events
    pub lengths : Each (TellsLength c) events  -- a number of waiting values was right at a moment of its call
    pub grants : Each GrantsRight events  -- a role is given where nobody holds it, and given back by its holder
    pub reached : k.write ≤ turns  -- no turn moves the write position by more than one
    pub within : k.write < 2 ^ 64  -- the write position is a word

  -- ---- the family of the queues

  -- where a call of a machine stands, if it is one of a queue
  abbrev FlightAt : (kd : QueueKind) → ℕ → Roles → Core (Val T kd) → ℕ → Start T → Flight T → Type 0
  FlightAt kd c ro k p (starts.Queues start) (flights.Queues flight) = At en kd c ro k p start flight
  FlightAt kd c ro k p start flight = ⊥

  -- what a call of a machine knows, if it is one of a queue
  abbrev Knowing : {V : Type 0} → ℕ → Core V → ℕ → List (Event T) → ℕ → ℕ → ℕ → Flight T → Type 0
  Knowing c k p events since changes backs (flights.Queues flight) = KnowsFlight c k p events since changes backs flight
  Knowing c k p events since changes backs flight = ⊥

module _ {T : Type 0} where
  -- The queues as a family: what a state is, what holds of it, and what each call knows. That a turn
  -- keeps this is shown beside the events of the turn, which can be another party's too, so
  -- `Preserves` asks nothing.
  abbrev pub outline : QueueKind → Outline T
  outline kd =
      record {
        kind = machine_kind kd;
        no_loan = no_loan kd;
        promise = promise kd;
        State = Queue (Val T kd);
        words = λ s. layout s.roles s.core;
        kept = λ s. registries.Queues s.roles;
        Holds = λ en c s latest events turns. Holds en kd c s.roles s.core latest events turns;
        written = λ c s p flight. written c s.core p flight;
        number = λ en c. number en;
        At = λ en c s p start flight. FlightAt en kd c s.roles s.core p start flight;
        Knows = λ en c s p events since changes backs flight. Knowing en c s.core p events since changes backs flight;
        Preserves = λ scene s' was y es changes'. Unit {0};
      }

module _ {T : Type 0} (en : Coding T) where
  abbrev pub family : QueueKind → ℕ → Family T
  family kd = families.family (outline kd) en

  -- what holds of the queue, and what the frame says of every machine
  pub record Inv (kd : QueueKind) (scene : Scene T kd) : Type 0 where
    pub queue : Holds en kd scene.capacity scene.roles scene.core scene.latest scene.events scene.turns
    pub frame : frame.Inv (family kd scene.capacity) (queue_in scene) scene.latest scene.events scene.changes

  -- What a turn shows of the queue, where it leaves the holders `ro'` and the core `k'`, its party becomes
  -- `y`, and it writes the events `es`.
  pub record ShowsQueue (kd : QueueKind) (scene : Scene T kd) (ro' : Roles) (k' : Core (Val T kd)) (y : Party T)
      (es : List (Event T)) (changes' : ℕ) : Type 0 where
    -- a refusal tells the truth, a length was right at a moment of its call, and roles are given
    -- and given back rightly
    pub right : AreRight (AnswersRight scene.capacity) scene.events es
    pub lengths : AreRight (TellsLength scene.capacity) scene.events es
    pub grants : AreRight GrantsRight scene.events es
    -- the values that wait stand in their cells; beyond the capacity one waits only while a push is pending
    pub good : Good (encoded en kd).size (encoded en kd).words_of (cells_of kd scene.capacity) k'
    pub hangs : Hangs T kd scene.capacity k' (pending k'.read ro'.producer (put scene.party y scene.latest))
    -- what was published now waits, or was handed out, and the read position counts what was handed out
    pub book : map (item kd) scene.core.waiting ++ published es ≡ handed_out es ++ map (item kd) k'.waiting
    pub out : k'.read ≡ scene.core.read + length (handed_out es)
    -- the events say who holds the roles
    pub producers : fold producer_after scene.roles.producer es ≡ ro'.producer
    pub consumers : fold consumer_after scene.roles.consumer es ≡ ro'.consumer
    -- the calls that act have the answers of the list that they answer as, and the list holds what then waits
    pub goes : fold (list_of kd scene.capacity).after (listed kd scene.capacity scene.core.waiting) (calls_of (moments es))
        ≡ listed kd scene.capacity k'.waiting
    pub answers : answers_from (list_of kd scene.capacity) (listed kd scene.capacity scene.core.waiting) (calls_of (moments es)) ≡ answers_of (moments es)
    -- the positions go up by no more than words change, and the write position by at most one in a turn
    pub up : GoesUp scene.core k' scene.changes changes'
    pub reached : k'.write ≤ scene.turns + 1
    pub within : k'.write < 2 ^ 64

  -- a turn leaves the holders `ro'` of the roles and the core `k'`, and writes `es`
  module _ {kd : QueueKind} (scene : Scene T kd) {ro' : Roles} (k' : Core (Val T kd)) {y : Party T} {es : List (Event T)} {changes' : ℕ} where
    -- what holds of a queue before a turn holds after it, where the turn shows this of the queue
    pub holds_more : Holds en kd scene.capacity scene.roles scene.core scene.latest scene.events scene.turns → ShowsQueue kd scene ro' k' y es changes'
        → Holds en kd scene.capacity ro' k' (put scene.party y scene.latest) (scene.events ++ es) (scene.turns + 1)
    holds_more holds shows_queue =
        let c = scene.capacity in
        let more = flat_map-append acts scene.events es in
        record {
          fits = holds.fits;
          good = shows_queue.good;
          hangs = shows_queue.hangs;
          book = book_more scene.events es (map (item kd) scene.core.waiting) (map (item kd) k'.waiting) holds.book shows_queue.book;
          out = out_more scene.events es scene.core.read k'.read holds.out shows_queue.out;
          producers = fold-append producer_after None scene.events es ∙ (ap (λ o. fold producer_after o es) holds.producers ∙ shows_queue.producers);
          consumers = fold-append consumer_after None scene.events es ∙ (ap (λ o. fold consumer_after o es) holds.consumers ∙ shows_queue.consumers);
          stand =
              ap (standing (list_of kd c)) more
              ∙ standing_more (list_of kd c) (moments scene.events) (moments es) (listed kd c scene.core.waiting)
              (listed kd c k'.waiting) holds.stand shows_queue.goes;
          legal =
              subst (IsLegal (list_of kd c)) (sym more)
              (legal_more (list_of kd c) (moments scene.events) (moments es) (listed kd c scene.core.waiting) holds.legal holds.stand shows_queue.answers);
          answers = Each-append (AnswersRight c) scene.events es holds.answers shows_queue.right;
          lengths = Each-append (TellsLength c) scene.events es holds.lengths shows_queue.lengths;
          grants = Each-append GrantsRight scene.events es holds.grants shows_queue.grants;
          reached = shows_queue.reached;
          within = shows_queue.within;
        }

  -- What a turn shows that writes events of its own party alone, whose span before was `from`. The first
  -- fields are those of `ShowsQueue`.
  pub record Shows (kd : QueueKind) (scene : Scene T kd) (ro' : Roles) (k' : Core (Val T kd)) (from : Span T)
      (y : Party T) (es : List (Event T)) (changes' : ℕ) : Type 0 where
    pub right : AreRight (AnswersRight scene.capacity) scene.events es
    pub lengths : AreRight (TellsLength scene.capacity) scene.events es
    pub grants : AreRight GrantsRight scene.events es
    pub good : Good (encoded en kd).size (encoded en kd).words_of (cells_of kd scene.capacity) k'
    pub hangs : Hangs T kd scene.capacity k' (pending k'.read ro'.producer (put scene.party y scene.latest))
    pub book : map (item kd) scene.core.waiting ++ published es ≡ handed_out es ++ map (item kd) k'.waiting
    pub out : k'.read ≡ scene.core.read + length (handed_out es)
    pub producers : fold producer_after scene.roles.producer es ≡ ro'.producer
    pub consumers : fold consumer_after scene.roles.consumer es ≡ ro'.consumer
    pub goes : fold (list_of kd scene.capacity).after (listed kd scene.capacity scene.core.waiting) (calls_of (moments es))
        ≡ listed kd scene.capacity k'.waiting
    pub answers : answers_from (list_of kd scene.capacity) (listed kd scene.capacity scene.core.waiting) (calls_of (moments es)) ≡ answers_of (moments es)
    pub up : GoesUp scene.core k' scene.changes changes'
    pub reached : k'.write ≤ scene.turns + 1
    pub within : k'.write < 2 ^ 64
    -- the events are the party's own and each may follow in its span; its call fits the span and knows what
    -- its stage says
    pub own : AreOwn scene.party es
    pub stands : AllFollow (Stands (promise kd) scene.capacity) from es
    pub here : frame.Fits (family kd scene.capacity) (record { roles = ro'; core = k' }) scene.party (Some y) (fold own_after from es)
    pub knows : frame.KnowsDoing (family kd scene.capacity) (record { roles = ro'; core = k' }) scene.party (scene.events ++ es) changes' y.backs y.doing
    -- the calls of other parties stand where they stood, and have written the same
    pub others : (q : ℕ) → q ≢ scene.party → (start : QueueStart T) (flight : QueueFlight T) → At en kd scene.capacity scene.roles scene.core q start flight
        → At en kd scene.capacity ro' k' q start flight
        × (has_written {T = T} scene.capacity k' q flight ≡ has_written {T = T} scene.capacity scene.core q flight)

  -- where each queue's call of the party `q` stands where it stood and has written the same, each call of
  -- any family does
  pub any_stays : (kd : QueueKind) (c : ℕ) (ro ro' : Roles) (k k' : Core (Val T kd)) (q : ℕ)
      → ((start : QueueStart T) (flight : QueueFlight T) → At en kd c ro k q start flight
      → At en kd c ro' k' q start flight × (has_written {T = T} c k' q flight ≡ has_written {T = T} c k q flight))
      → (start : Start T) (flight : Flight T) → FlightAt en kd c ro k q start flight
      → FlightAt en kd c ro' k' q start flight × (written c k' q flight ≡ written c k q flight)
  any_stays = grind arith

  -- what a call knows of events and counts stays known after events with which its party begins no call
  pub any_knows : {V : Type 0} → (c : ℕ) {k k' : Core V} (q : ℕ) (events es : List (Event T)) {changes changes' : ℕ}
      → GoesUp k k' changes changes' → BeginsNone q es
      → (since backs : ℕ) (flight : Flight T) → Knowing en c k q events since changes backs flight
      → Knowing en c k' q (events ++ es) since changes' backs flight
  any_knows = grind (arith, flight_keeps)

-- a turn shows what `Shows` asks
module _ {T : Type 0} {en : Coding T} {kd : QueueKind} {scene : Scene T kd} {ro' : Roles} {k' : Core (Val T kd)} {from : Span T} {y : Party T}
    {es : List (Event T)} {changes' : ℕ} (shows : Shows en kd scene ro' k' from y es changes') where
  -- a turn that shows this (`Shows`) gives the frame what it asks of a turn
  pub owes : span_of scene.party scene.events ≡ from → Inv en kd scene
      → frame.Owes (family en kd scene.capacity) (record { roles = ro'; core = k' }) scene.party y scene.latest scene.events es changes'
  owes span_is inv =
      frame.owes (family en kd scene.capacity) _ _ _ _ _ _ _ _ _ _ span_is inv.frame
      (record {
        own = shows.own;
        stands = shows.stands;
        here = shows.here;
        knows = shows.knows;
        others = λ q ne. any_stays en kd scene.capacity scene.roles ro' scene.core k' q (shows.others q ne);
        others_know =
            λ q ne. any_knows en scene.capacity q scene.events es shows.up
            (others_begin_none q scene.party es ne shows.own);
      })

  -- a turn that shows this (`Shows`) shows of the queue what `ShowsQueue` asks
  pub queue_part : ShowsQueue en kd scene ro' k' y es changes'
  queue_part = grind arith
