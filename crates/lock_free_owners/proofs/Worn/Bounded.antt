-- The counter of a robust index set, or of a container, is bounded by the changes of its history, where no two calls that
-- may lock overlap: what holds between two turns, and what a turn owes that keeps it.
use Rattle.std.proofs.Common.{◌≡◌, ◌≢◌, ◌⊎◌, ⊎_elim, ℕ, ◌+◌, ◌*◌, ◌<◌, ◌≤◌, ◌==◌, Bool, true, false, true≢false, Option, Some, None, List, [], ◌++◌, length}
use Rattle.std.proofs.Common.{refl, sym, ap, subst, ◌∙◌, append-nil, arith}
use Rattle.std.proofs.lemmas.Bool.{cases_eq}
use Rattle.std.proofs.lemmas.List.Sums.{sum_by-append}
use Rattle.steps.specs.Indices.Robust.Parts.{locked}
use Rattle.steps.specs.declared.indices.enums.ReleaseMode.{ReleaseMode}
use Rattle.model.specs.declared.event.Answer.{Answer}
use Rattle.model.specs.declared.event.Event.{Event}
use Rattle.model.specs.declared.event.Start.{Start}
use Rattle.model.specs.declared.families.Flight.{Flight}
use Rattle.model.specs.declared.families.Flight.TheVariants as flights
use Rattle.model.specs.Turns.{ending_of}
use Rattle.model.specs.World.{Trace, flight_in}
use Rattle.laws_indices.proofs.Sums.{sum_below, sum_moved, sum_longer}
use Rattle.lock_free_owners.specs.Worn.{change, changes}
use Rattle.laws_robust.proofs.Counter.{tested}
use Rattle.lock_free_owners.proofs.Worn.Parts.{locks_in, lock_late_most, counts_move}
use Rattle.laws_robust.proofs.Counter.{counter_of}
use Rattle.lock_free_owners.proofs.Worn.RobustPays.{late_in, late_in_most, robust_credit, robust_late, robust_locks}
use Rattle.lock_free_owners.proofs.Worn.ContainerPays.{container_credit, container_late, container_locks}

-- In a mode that does not lock, a call is late by 0.
late_by_mode : (mode : ReleaseMode) (n : ℕ) → locks_in mode ≡ false → late_in mode n ≡ 0
late_by_mode mode n e = grind arith

-- ---- a call of any family

module _ {T : Type 0} where
  -- credit, late and `locks` (whether it may lock) of a call of any family: other families have no counter
  abbrev pub credit : Flight T → ℕ
  credit (flights.Robust flight) = robust_credit flight
  credit (flights.Container flight) = container_credit flight
  credit flight = 0

  -- 1 where a call of this flight has to count again, since the counter has moved, else 0.
  abbrev pub late : ℕ → Flight T → ℕ
  late n (flights.Robust flight) = robust_late n flight
  late n (flights.Container flight) = container_late n flight
  late n flight = 0

  -- Whether a call of this flight may lock.
  abbrev pub locks : Flight T → Bool
  locks (flights.Robust flight) = robust_locks flight
  locks (flights.Container flight) = container_locks flight
  locks flight = false

  -- The credit of the call under way, or 0 where there is none.
  abbrev pub credit_of : Option (Flight T) → ℕ
  credit_of None = 0
  credit_of (Some flight) = credit flight

  -- Whether the call under way is late, as 1 or 0, and 0 where there is none.
  abbrev pub late_of : ℕ → Option (Flight T) → ℕ
  late_of n None = 0
  late_of n (Some flight) = late n flight

  -- Whether there is a call under way that may lock.
  abbrev pub locks_of : Option (Flight T) → Bool
  locks_of None = false
  locks_of (Some flight) = locks flight

  -- A call that may not lock is not late.
  not_late : (n : ℕ) (flight : Flight T) → locks flight ≡ false → late n flight ≡ 0
  not_late n flight e = grind (arith, late_by_mode)

  -- a party whose call may not lock, or that has none, is not late
  pub none_late : (n : ℕ) (o : Option (Flight T)) → locks_of o ≡ false → late_of n o ≡ 0
  none_late n o e = grind (arith, not_late)

  -- A call is late by 1 at most.
  late_once : (n : ℕ) (flight : Flight T) → late n flight ≤ 1
  late_once n flight = grind (arith, lock_late_most, late_in_most)

  -- no party is late by more than 1
  pub late_most : (n : ℕ) (o : Option (Flight T)) → late_of n o ≤ 1
  late_most n o = grind (arith, late_once)

  -- ---- what all calls have

  -- the credit of the call that party q has under way, and whether it may lock
  abbrev pub credit_at : Trace T → ℕ → ℕ
  credit_at t q = credit_of (flight_in t.world q)

  -- Whether the call of this party may lock.
  abbrev pub locks_at : Trace T → ℕ → Bool
  locks_at t q = locks_of (flight_in t.world q)

  -- the generation counter: the first word
  abbrev pub counter : Trace T → ℕ
  counter t = counter_of t.world.words

  -- What bounds the counter between two turns. Only parties below `seats` have a call under way, and
  -- one of these at most may lock. Unless the counter is locked, it and the credits of all calls are
  -- within three for each change.
  pub record Bounded (t : Trace T) : Type 0 where
    pub some : 0 < length t.world.words
    -- A number above p and above each party that has a call under way.
    pub seats : ℕ
    -- Parties from `seats` on have no call under way.
    pub beyond : (q : ℕ) → seats ≤ q → flight_in t.world q ≡ None
    pub alone : (q r : ℕ) → locks_at t q ≡ true → locks_at t r ≡ true → q ≡ r
    pub fits : counter t ≢ locked → counter t + sum_below (credit_at t) seats ≤ 3 * changes t.events
    -- what bounds the counter also bounds it with what any one call is late by
    pub late : counter t ≢ locked → (q : ℕ)
        → counter t + sum_below (credit_at t) seats + late_of (counter t) (flight_in t.world q) ≤ 3 * changes t.events

  -- ---- a turn of a party

  -- a turn of party p that writes es: unless the counter is locked then, what it adds to the
  -- counter and leaves to be added is paid for by its changes
  pub record Owes (old new : Trace T) (p : ℕ) (es : List (Event T)) : Type 0 where
    pub wide : length new.world.words ≡ length old.world.words
    pub events : new.events ≡ old.events ++ es
    pub others : (q : ℕ) → q ≢ p → flight_in new.world q ≡ flight_in old.world q
    pub opens : counter new ≢ locked → counter old ≢ locked
    pub pays : counter new ≢ locked
        → counter new + (credit_at new p + late_of (counter new) (flight_in new.world p)) + counts_move (locks_at old p) (counter old) (counter new)
        ≤ counter old + (credit_at old p + late_of (counter old) (flight_in old.world p)) + 3 * changes es
    pub alone : locks_at new p ≡ true → (locks_at old p ≡ true) ⊎ ((q : ℕ) → q ≢ p → locks_at old q ≡ false)

  -- The changes of two lists of events sum up.
  pub changes_more : (xs ys : List (Event T)) → changes (xs ++ ys) ≡ changes xs + changes ys
  changes_more xs ys = sum_by-append change xs ys

  -- The end of a call is no change.
  pub ends_none : (p : ℕ) (start : Start T) (o : Option (Answer T)) → changes (ending_of p start o) ≡ 0
  ends_none p start o = grind arith

  -- the turn of party p leads from old to new, and writes es; before and after are the credits of
  -- all calls together
  module _ (old new : Trace T) (p : ℕ) (es : List (Event T)) (owes : Owes old new p es) (b : Bounded old) where
    abbrev seats : ℕ
    seats = b.seats + (p + 1)

    -- The credits of all calls before the turn.
    abbrev before : ℕ
    before = sum_below (credit_at old) b.seats

    -- The credits of all calls after the turn.
    abbrev after : ℕ
    after = sum_below (credit_at new) seats

    -- Further parties have no credit before the turn.
    longer : sum_below (credit_at old) seats ≡ before
    longer = sum_longer (credit_at old) b.seats seats (omega arith) (λ i far. ap credit_of (b.beyond i far))

    -- the credits of all calls together differ only by the one of this party's call
    differ : after + credit_at old p ≡ before + credit_at new p
    differ =
        let moves = sum_moved (credit_at new) (credit_at old) seats p (omega arith) (λ i ne. ap credit_of (owes.others i ne)) in
        let long = longer in
        omega arith

    -- The changes after the turn are those before it and those that it writes.
    all_changes : changes new.events ≡ changes old.events + changes es
    all_changes = ap changes owes.events ∙ changes_more old.events es

    -- after the turn, the counter, with what all calls have and what its party is late by, is
    -- within three for each change
    here : counter new ≢ locked → counter new + after + late_of (counter new) (flight_in new.world p) ≤ 3 * changes new.events
    here open_now =
        let was = b.late (owes.opens open_now) p in
        let pays = owes.pays open_now in
        let moves = differ in
        let more = all_changes in
        omega arith

    -- The bound with what the call of another party is late by. That call is late only where it may
    -- lock, and then this party's call may not.
    there : (q : ℕ) → q ≢ p → counter new ≢ locked → counter new + after + late_of (counter new) (flight_in old.world q) ≤ 3 * changes new.events
    there q ne open_now = by (locks_at old q) refl (locks_at old p) refl
      where
        -- of a call of another party: it is not late, or this one may not lock, since at most one
        -- may
        by : (m : Bool) → locks_at old q ≡ m → (k : Bool) → locks_at old p ≡ k
            → counter new + after + late_of (counter new) (flight_in old.world q) ≤ 3 * changes new.events
        by false m k e = let none = none_late (counter new) (flight_in old.world q) m in let own = here open_now in omega arith
        by true m true k = absurd (ne (b.alone q p m k))
        by true m false k = stays (counter new == counter old) refl
          where
            -- of a call of another party that may lock: it is late as it was where the counter
            -- stayed, and by 1 at most where it moved
            stays : (t : Bool) → (counter new == counter old) ≡ t
                → counter new + after + late_of (counter new) (flight_in old.world q) ≤ 3 * changes new.events
            stays true t =
                let same = tested (counter new) (counter old) t in
                let was = b.late (owes.opens open_now) q in
                let is : late_of (counter new) (flight_in old.world q) ≡ late_of (counter old) (flight_in old.world q) =
                ap (λ x. late_of x (flight_in old.world q)) same in
                let own = none_late (counter old) (flight_in old.world p) k in
                let pays = owes.pays open_now in
                let moves = differ in
                let more = all_changes in
                omega arith
            -- The counter moved: the move counts 1 in what the turn pays, which covers late.
            stays false t =
                let pays : counter new + (credit_at new p + late_of (counter new) (flight_in new.world p)) + 1
                ≤ counter old + (credit_at old p + late_of (counter old) (flight_in old.world p)) + 3 * changes es =
                rw (k, t) at (owes.pays open_now)
                in
                let was = b.fits (owes.opens open_now) in
                let once = late_most (counter new) (flight_in old.world q) in
                let own = none_late (counter old) (flight_in old.world p) k in
                let moves = differ in
                let more = all_changes in
                omega arith

    -- the bound with what the call of any party is late by: this party's or another's
    at_any : counter new ≢ locked → (q : ℕ) → counter new + after + late_of (counter new) (flight_in new.world q) ≤ 3 * changes new.events
    at_any open_now q = ⊎_elim mine theirs (cases_eq q p)
      where
        -- The bound holds with what the call of the turn's own party is late by.
        mine : q ≡ p → counter new + after + late_of (counter new) (flight_in new.world q) ≤ 3 * changes new.events
        mine e = subst (λ i. counter new + after + late_of (counter new) (flight_in new.world i) ≤ 3 * changes new.events) (sym e) (here open_now)

        -- The bound holds with what another party's call is late by.
        theirs : q ≢ p → counter new + after + late_of (counter new) (flight_in new.world q) ≤ 3 * changes new.events
        theirs ne =
            subst (λ o. counter new + after + late_of (counter new) o ≤ 3 * changes new.events) (sym (owes.others q ne)) (there q ne open_now)

    -- Another party's call may lock after the turn only if it could before.
    other_locks : (q : ℕ) → q ≢ p → locks_at new q ≡ true → locks_at old q ≡ true
    other_locks q ne e = sym (ap locks_of (owes.others q ne)) ∙ e

    -- No other party's call may lock beside that of the party of the turn.
    with_other : (q : ℕ) → q ≢ p → locks_at new p ≡ true → locks_at new q ≡ true → p ≡ q
    with_other q ne mine other =
        ⊎_elim (λ was. b.alone p q was (other_locks q ne other)) (λ none. absurd (true≢false (sym (other_locks q ne other) ∙ none q ne))) (owes.alone mine)

    -- after the turn one call at most may lock; the cases are whether q and r are the party of the turn
    still_alone : (q r : ℕ) → locks_at new q ≡ true → locks_at new r ≡ true → q ≡ r
    still_alone q r x y = ⊎_elim first (λ ne. ⊎_elim (second ne) (neither ne) (cases_eq r p)) (cases_eq q p)
      where
        first : q ≡ p → q ≡ r
        first e = ⊎_elim (λ f. e ∙ sym f) (λ ne. e ∙ with_other r ne (subst (λ i. locks_at new i ≡ true) e x) y) (cases_eq r p)

        second : q ≢ p → r ≡ p → q ≡ r
        second ne f = sym (f ∙ with_other q ne (subst (λ i. locks_at new i ≡ true) f y) x)

        neither : q ≢ p → r ≢ p → q ≡ r
        neither ne nf = b.alone q r (other_locks q ne x) (other_locks r nf y)

    beyond : (q : ℕ) → seats ≤ q → flight_in new.world q ≡ None
    beyond q far = owes.others q (λ e. absurd (omega arith)) ∙ b.beyond q (omega arith)

    -- the bounds hold after a turn that pays for what it adds
    pub bounded_on : Bounded new
    bounded_on =
        record {
          some = let wide = owes.wide in let was = b.some in omega arith;
          seats = seats;
          beyond = beyond;
          alone = still_alone;
          fits = λ open_now. (let own = here open_now in omega arith);
          late = at_any;
        }

  -- a turn that writes nothing and changes nothing keeps the bounds
  pub bounded_same : (t : Trace T) → Bounded t → Bounded record { world = t.world; events = t.events ++ [] }
  bounded_same t b = subst (λ es. Bounded record { world = t.world; events = es }) (sym (append-nil t.events)) b
