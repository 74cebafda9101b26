-- From what a family owes of its measure: every turn takes its steps off the weight of the machine, and every
-- list of turns keeps calls ending.
use Rattle.model.proofs.Names.{AllByRecursion, AreWithinEnds, Begin, Bool, Decide, Die, Flight}
use Rattle.model.proofs.Names.{List, Next, None, Option, Refusal, Some, Start, Trace, Turn, World}
use Rattle.model.proofs.Names.{after_begin, after_turn, after_turns}
use Rattle.model.proofs.Names.{arith, ask_of, ends}
use Rattle.model.proofs.Names.{events_of, false, first_of}
use Rattle.model.proofs.Names.{flight_in, is_due, is_none, kept_after_begin, kept_after_death, number_of}
use Rattle.model.proofs.Names.{old_of, refl, steps_in, true, want_of, world_after, ℕ}
use Rattle.model.proofs.Names.{◌+◌, ◌≡◌, ◌≢◌, ◌≤◌}
use Rattle.model.specs.Turns.{after_death, AreAllowedBy}
use Rattle.model.proofs.Rows.{IsPossible, MayStart, MayGoOn}
use Rattle.model.specs.LockFree.{IsAmong, IsOneIn, steps_of}
use Rattle.model.proofs.LockFree.Measure.{Measure, Harmless, Owed, left_of, pays_of, left_at, pays_at, weight, bound}
use Rattle.model.proofs.LockFree.Measure.{IsWithin, Shows, at_most, by_left, resumes}
use Rattle.model.proofs.LockFree.Weighed.{Weighs, runs_end}
use Rattle.model.proofs.LockFree.Stays.{begun, under_way}
use Rattle.model.proofs.Parties.{each_by}
use Rattle.model.proofs.LockFree.Sums.{sum_le}

-- What a family owes of its measure (`O`) says how many steps each call has left. So each turn takes its steps off the weight of the machine.
module _ {T : Type 0} {refuses : World T → Turn T → Option Refusal} (possible : (w : World T) (turn : Turn T) → refuses w turn ≡ None → IsPossible w turn)
    {M : Measure T} {P : Trace T → Type 0} {May : Turn T → Type 0} (O : Owed M refuses P May) where
  -- A party's call has at most `alone` steps left. A party without a call counts as one with the most.
  left_within : (t : Trace T) → P t → (q : ℕ) (o : Option (Flight T)) → flight_in t.world q ≡ o
      → left_of M t.world.words t.world.kept o ≤ M.alone
  left_within t h q None flight_is = omega arith
  left_within t h q (Some flight) flight_is = (O.most t h q flight flight_is).0

  pays_within : (t : Trace T) → P t → (q : ℕ) (o : Option (Flight T)) → flight_in t.world q ≡ o → pays_of M o ≤ M.changes
  pays_within t h q None flight_is = omega arith
  pays_within t h q (Some flight) flight_is = (O.most t h q flight flight_is).1

  module _ (ps : List ℕ) (below : (turn : Turn T) → May turn → IsAmong ps turn) where
    within : (t : Trace T) → P t → IsWithin M ps t.world
    within t h = record { left = λ q. left_within t h q (flight_in t.world q) refl; pays = λ q. pays_within t h q (flight_in t.world q) refl }

    abbrev ShowsTurn : Trace T → Turn T → Type 0
    ShowsTurn t turn = Shows M ps t.world (world_after t.world turn) (steps_of t.world turn) (ends (events_of t.world turn))

    -- A begin raises no party's measure, so the weight of the machine does not rise.
    begins : (w : World T) (p : ℕ) (start : Start T) → IsOneIn ps p → (o : Option (Flight T)) → is_none o ≡ false → flight_in w p ≡ None
        → Harmless M w p w.words (kept_after_begin w.coding w.capacity start p w.kept)
        → IsWithin M ps (after_begin w p start o) → 0 + weight M ps (after_begin w p start o) ≤ weight M ps w
    begins w p start below None some free harmless within = absurd (cc)
    begins w p start below (Some flight) some free harmless within = by_left M ps w new p 0 below left here pays
      where
        -- `new` is the machine after the begin.
        new : World T
        new = after_begin w p start (Some flight)

        here : left_at M new p + 0 ≤ left_at M w p
        here = let most = within.left p in rw free (omega arith)

        still : (q : ℕ) (o : Option (Flight T)) → q ≢ p → flight_in w q ≡ o → left_of M w.words new.kept o ≤ left_of M w.words w.kept o
        still q None ne stood = omega arith
        still q (Some other) ne stood = harmless q ne other stood

        left : (q : ℕ) → left_at M new q ≤ left_at M w q
        left =
            each_by (λ q. left_at M new q ≤ left_at M w q) p (let most = within.left p in rw free most)
            (λ q ne. rw (begun w p start (Some flight) q ne) (still q (flight_in w q) ne refl))

        pays : (q : ℕ) → pays_at M new q ≤ pays_at M w q
        pays =
            each_by (λ q. pays_at M new q ≤ pays_at M w q) p (let most = within.pays p in rw free most)
            (λ q ne. rw (begun w p start (Some flight) q ne) (omega arith))

    -- the weight pays for a step of a call under way
    nexts : (t : Trace T) → P t → (p : ℕ) → IsOneIn ps p → {flight : Flight T} → flight_in t.world p ≡ Some flight
        → IsWithin M ps (world_after t.world (Next p)) → ShowsTurn t (Next p)
    nexts t h p below {flight} flight_is there =
        let u = under_way t.world p flight flight_is in
        let ask = ask_of (want_of t.world.coding flight) in
        rw (u.found, u.doing)
        (resumes M ps t.world p u (old_of t.world.words ask) ask below
        (O.step t h p u.party flight u.since u.found u.doing) (rw (u.found, u.doing) at there))

    -- the weight pays for an answer to a question
    decides : (t : Trace T) → P t → (p : ℕ) (said : Bool) → IsOneIn ps p → {flight : Flight T} → flight_in t.world p ≡ Some flight
        → is_due t.world.coding (flight_in t.world p) ≡ true → IsWithin M ps (world_after t.world (Decide p said)) → ShowsTurn t (Decide p said)
    decides t h p said below {flight} flight_is due there =
        let u = under_way t.world p flight flight_is in
        rw (u.found, u.doing)
        (resumes M ps t.world p u (number_of said) None below
        (O.decision t h p u.party flight u.since said u.found u.doing (rw flight_is at due)) (rw (u.found, u.doing) at there))

    -- an owner dies
    dead : (t : Trace T) → P t → (owner : ℕ) → refuses t.world (Die owner) ≡ None → May (Die owner)
        → weight M ps (after_death t.world owner) ≤ weight M ps t.world
    dead t h owner not_refused may =
        omega (arith, sum_le ps (left_at M (after_death t.world owner)) (left_at M t.world) (λ q. one q (flight_in t.world q) refl))
      where
        -- The cases are whether the party has a call under way.
        one : (q : ℕ) (o : Option (Flight T)) → flight_in t.world q ≡ o
            → left_of M t.world.words (kept_after_death t.world.kept owner) o ≤ left_of M t.world.words t.world.kept o
        one q None flight_is = omega arith
        one q (Some other) flight_is = O.dies t h owner not_refused may q other flight_is

    -- the weight pays for each turn
    turn_shows : (t : Trace T) → P t → (turn : Turn T) → refuses t.world turn ≡ None → May turn → IsAmong ps turn
        → IsWithin M ps (world_after t.world turn) → ShowsTurn t turn
    turn_shows t h (Begin p start) not_refused such below there =
        let may : MayStart t.world p start = possible t.world (Begin p start) not_refused in
        let shows =
        begins t.world p start below (first_of t.world.kind t.world.capacity start t.world.kept) may.call may.free
        (O.begins t h p start not_refused such) there in
        omega arith
    turn_shows t h (Next p) not_refused such below there =
        let may : MayGoOn t.world p = possible t.world (Next p) not_refused in
        nexts t h p below may.is there
    turn_shows t h (Decide p said) not_refused such below there =
        let may : MayGoOn t.world p × (is_due t.world.coding (flight_in t.world p) ≡ true) = possible t.world (Decide p said) not_refused in
        decides t h p said below may.0.is may.1 there
    turn_shows t h (Die owner) not_refused such below there = omega (arith, dead t h owner not_refused such)

    -- ---- a list of turns

    -- what is owed of the weight, from what is owed of each call
    weighs : Weighs refuses May P (weight M ps) (bound M ps)
    weighs =
        record {
          keeps = O.keeps;
          most = λ t h. at_most M ps (within t h);
          shows = λ t turn e may h. turn_shows t h turn e may (below turn may) (within (after_turn t turn) (O.keeps t turn e may h));
        }

    -- where k calls more have ended, at most k + 1 times the bound and k steps were taken
    pub calls_end : (t : Trace T) → P t → (turns : List (Turn T)) → AreAllowedBy refuses t turns → AllByRecursion May turns
        → AreWithinEnds (bound M ps) (steps_in t turns) (ends t.events) (ends (after_turns t turns).events)
    calls_end = runs_end refuses May P weighs
