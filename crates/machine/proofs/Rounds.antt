-- Two releases that would lock a robust index set make each other begin again, in as many rounds as its counter has room for, and
-- no call ends in them.
use Rattle.std.proofs.Common.{◌≡◌, ℕ, zero, suc, ◌+◌, ◌*◌, ◌-◌, ◌^◌, ◌%◌, ◌<◌, ◌==◌, true, false, None, List, []}
use Rattle.std.proofs.Common.{◌∷◌, ◌++◌, inl, inr, refl, sym, subst, ◌∙◌, append-nil, arith}
use Rattle.std.proofs.lemmas.Bool.Decides.{nat_tests}
use Rattle.std.specs.List.{AllByRecursion}
use Rattle.steps.specs.declared.indices.enums.ReleaseMode.TheVariants.{LockIfLastIndex}
use Rattle.steps.specs.declared.indices.robust.parts.Count.TheVariants as counts
use Rattle.steps.specs.declared.indices.robust.parts.Lock.{Lock}
use Rattle.steps.specs.declared.indices.robust.parts.Lock.TheVariants.{Counts, ExchangesCounter}
use Rattle.steps.specs.declared.indices.robust.release.ReleaseStage.TheVariants as stages
use Rattle.steps.specs.Indices.Robust.Parts.{empty, locked, greatest}
use Rattle.model.specs.declared.event.Event.{Event}
use Rattle.model.specs.declared.event.Start.TheVariants as starts
use Rattle.model.specs.declared.families.Flight.TheVariants as flights
use Rattle.model.specs.declared.families.Registry.TheVariants as registries
use Rattle.model.specs.declared.families.indices.robust.calls.RobustFlight.TheVariants as robust_flights
use Rattle.model.specs.declared.families.indices.robust.RobustStart.TheVariants.{Release}
use Rattle.model.specs.declared.party.Doing.TheVariants.{Going}
use Rattle.model.specs.declared.party.Party.{Party}
use Rattle.model.specs.declared.turn.Kind.TheVariants.{Robust}
use Rattle.model.specs.declared.turn.Turn.{Turn}
use Rattle.model.specs.declared.turn.Turn.TheVariants.{Next}
use Rattle.model.specs.Coding.{one_word, IsCoding}
use Rattle.model.specs.LockFree.{Bound, IsLockFree, IsAmong, IsOneIn, ends, parties_below, steps_of, steps_in}
use Rattle.model.specs.Refusals.{call_refusal}
use Rattle.model.specs.Turns.{run_on, after_turn, after_turns, AreAllowedOn, IsReachedOn}
use Rattle.model.specs.World.{Trace, opening}
use Rattle.model.proofs.WorkedProgress.{both_count, round}

-- ---- turns in which no call ends

-- a turn that is not refused, is one step of a call, and leads from the trace `old` to the trace `new`
pub record Goes (turn : Turn ℕ) (old new : Trace ℕ) : Type 0 where
  pub allowed : call_refusal old.world turn ≡ None
  pub one : steps_of old.world turn ≡ 1
  pub is : after_turn old turn ≡ new

-- turns none of which is refused, which are `count` steps in all, and in which no event is written: so no
-- call ends in them
pub record Went (turns : List (Turn ℕ)) (old : Trace ℕ) (count : ℕ) : Type 0 where
  pub allowed : AreAllowedOn old turns
  pub steps : steps_in old turns ≡ count
  -- the turns write no event
  pub same : (after_turns old turns).events ≡ old.events

-- one step and k steps are k + 1 steps
one_more_step : (a b k : ℕ) → a ≡ 1 → b ≡ k → a + b ≡ suc k
one_more_step a b k e f = omega arith

-- a turn that writes no event, before turns that write none: together they are one step more, and write none
first : (turn : Turn ℕ) (turns : List (Turn ℕ)) (old new : Trace ℕ) (k : ℕ) → Goes turn old new → new.events ≡ old.events
    → Went turns new k → Went (turn ∷ turns) old (suc k)
first turn turns old new k goes quiet went =
    let went_now : Went turns (after_turn old turn) k = subst (λ (t : Trace ℕ). Went turns t k) (sym goes.is) went in
    let still : (after_turn old turn).events ≡ old.events = subst (λ (t : Trace ℕ). t.events ≡ old.events) (sym goes.is) quiet in
    record {
      allowed = (goes.allowed, went_now.allowed);
      steps = one_more_step (steps_of old.world turn) (steps_in (after_turn old turn) turns) k goes.one went_now.steps;
      same = went_now.same ∙ still;
    }

-- ---- the two releases, which have both counted that no cell has an owner

pub data Who : Type 0 where
  First : Who
  Second : Who

-- the party of each of the two releases
abbrev number : Who → ℕ
number First = 0
number Second = 1

-- the steps of a call, its turns back, and the changes of words before it or by itself
pub record Tally : Type 0 where
  pub steps : ℕ
  pub backs : ℕ
  pub since : ℕ

-- the tally after one step more, which is this many turns back and makes this many changes of words
abbrev stepped : Tally → ℕ → ℕ → Tally
stepped n back change = record { steps = n.steps + 1; backs = n.backs + back; since = n.since + change }

-- the party of a release in `LockIfLastIndex` that has counted no owner and is about to lock the set, at this
-- stage of it
abbrev locking : Who → Lock → Tally → Party ℕ
locking who lock n =
    record {
      start = starts.Robust (Release (number who) (number who + 1) LockIfLastIndex);
      steps = n.steps;
      backs = n.backs;
      doing = Going
          (flights.Robust
          (robust_flights.Release
          (record {
            call = record { capacity = 2; stage = stages.Locks lock };
            given = record { index = number who; owner = number who + 1; mode = LockIfLastIndex };
            room = tt;
          })))
          n.since;
    }

-- the latest calls of the two parties, in their order, where `who` says which of them the first one given is
abbrev both : Who → Party ℕ → Party ℕ → List (ℕ × Party ℕ)
both First mine other = (0, mine) ∷ (1, other) ∷ []
both Second mine other = (0, other) ∷ (1, mine) ∷ []

-- the trace with these events, of a robust index set of two empty cells and this counter, in which the
-- release `who` is at the stage `lock` and the other party is `other`
abbrev at : List (Event ℕ) → Who → ℕ → Lock → Tally → Party ℕ → ℕ → ℕ → Trace ℕ
at events who counter lock n other changes turns =
    record {
      world =
          record {
            coding = one_word;
            kind = Robust;
            capacity = 2;
            parties = 2;
            words = counter ∷ empty ∷ empty ∷ [];
            kept = registries.Owners [];
            latest = both who (locking who lock n) other;
            changes = changes;
            turns = turns;
          };
      events = events;
    }

-- ---- its five steps

-- the counter is above what the release has seen, and far enough from its end
pub record IsHigh (c x : ℕ) : Type 0 where
  -- the counter is not the one that the release has seen, not the one that locks, and not the last one
  pub same : (c == c) ≡ true
  pub moved : (c == x) ≡ false
  pub unlocked : (c == locked) ≡ false
  pub not_last : (c == greatest) ≡ false
  -- its next number does not wrap, is not the last one, and is another one
  pub next : (c + 1) % 2 ^ 64 ≡ c + 1
  pub next_open : (c + 1 == greatest) ≡ false
  pub next_new : (c + 1 == c) ≡ false

-- The counter is at `c`, above the `x` that a release has seen. So its exchange fails, and it counts again.
module _ (es : List (Event ℕ)) (c x : ℕ) (h : IsHigh c x) (n : Tally) (other : Party ℕ) (changes turns : ℕ) where
  -- the exchange of the counter fails, since the counter is above what the release has seen: the release
  -- turns back to its count
  fails : (who : Who)
      → Goes (Next (number who)) (at es who c (ExchangesCounter x) n other changes turns)
      (at (es ++ []) who c (Counts counts.LoadsCounter) (stepped n 1 0) other (changes + 0) (turns + 1))
  fails First = record { allowed = refl; one = refl; is = rw (h.moved, h.same) refl }
  fails Second = record { allowed = refl; one = refl; is = rw (h.moved, h.same) refl }

  -- the release reads the counter, which does not say that the set is locked, and goes on to the first cell
  loads : (who : Who)
      → Goes (Next (number who)) (at es who c (Counts counts.LoadsCounter) n other changes turns)
      (at (es ++ []) who c (Counts (counts.LoadsCell c 0 0)) (stepped n 0 0) other (changes + 0) (turns + 1))
  loads First = record { allowed = refl; one = refl; is = rw (h.unlocked, h.same) refl }
  loads Second = record { allowed = refl; one = refl; is = rw (h.unlocked, h.same) refl }

  -- the release reads the first cell, which has no owner, and goes on to the second one
  cell : (who : Who)
      → Goes (Next (number who)) (at es who c (Counts (counts.LoadsCell c 0 0)) n other changes turns)
      (at (es ++ []) who c (Counts (counts.LoadsCell c 1 0)) (stepped n 0 0) other (changes + 0) (turns + 1))
  cell First = record { allowed = refl; one = refl; is = refl }
  cell Second = record { allowed = refl; one = refl; is = refl }

  -- the release reads the second cell, which has no owner, and goes on to the exchange that ends its count
  last_cell : (who : Who)
      → Goes (Next (number who)) (at es who c (Counts (counts.LoadsCell c 1 0)) n other changes turns)
      (at (es ++ []) who c (Counts (counts.ExchangesCounter c 0)) (stepped n 0 0) other (changes + 0) (turns + 1))
  last_cell First = record { allowed = refl; one = refl; is = rw (h.not_last) refl }
  last_cell Second = record { allowed = refl; one = refl; is = rw (h.not_last) refl }

  -- the exchange succeeds: the counter is one more, and the release, which has counted no owner, is about to
  -- lock the set
  counts_on : (who : Who)
      → Goes (Next (number who)) (at es who c (Counts (counts.ExchangesCounter c 0)) n other changes turns)
      (at (es ++ []) who (c + 1) (ExchangesCounter (c + 1)) (stepped n 0 1) other (changes + 1) (turns + 1))
  counts_on First = record { allowed = refl; one = refl; is = rw (h.next, h.same, h.next_open, h.next_new) refl }
  counts_on Second = record { allowed = refl; one = refl; is = rw (h.next, h.same, h.next_open, h.next_new) refl }

-- ---- a round

same : (c : ℕ) → (c == c) ≡ true
same c = grind (arith, nat_tests)

-- a number below another is not equal to it
apart : (a b : ℕ) → a < b → (a == b) ≡ false
apart a b less = grind (arith, nat_tests)

-- a number above another is not equal to it
apart_back : (a b : ℕ) → b < a → (a == b) ≡ false
apart_back a b less = grind (arith, nat_tests)

-- a counter below the greatest has a next one, and neither is the one that locks
is_high : (c x : ℕ) → x < c → c + 1 < greatest → IsHigh c x
is_high c x more room =
    record {
      same = same c;
      moved = apart_back c x more;
      unlocked = apart c locked (omega arith);
      not_last = apart c greatest (omega arith);
      next = omega arith;
      next_open = apart (c + 1) greatest room;
      next_new = apart_back (c + 1) c (omega arith);
    }

-- five turns in which the release `who` goes on, before these turns
abbrev five : Who → List (Turn ℕ) → List (Turn ℕ)
five who turns = Next (number who) ∷ Next (number who) ∷ Next (number who) ∷ Next (number who) ∷ Next (number who) ∷ turns

-- a release finds the counter changed and counts again, in five steps that end no call: so turns that end
-- none may follow from there
counts_again : (es : List (Event ℕ)) (who : Who) (c x : ℕ) → IsHigh c x → (n : Tally) (other : Party ℕ) (changes ran k : ℕ) (turns : List (Turn ℕ))
    → ((es : List (Event ℕ)) (n : Tally) (changes ran : ℕ) → Went turns (at es who (c + 1) (ExchangesCounter (c + 1)) n other changes ran) k)
    → Went (five who turns) (at es who c (ExchangesCounter x) n other changes ran) (suc (suc (suc (suc (suc k)))))
counts_again es who c x high n other changes ran k turns later =
    first _ _ _ _ _ (fails es c x high n other changes ran who) (append-nil _)
    (first _ _ _ _ _ (loads _ c x high _ other _ _ who) (append-nil _)
    (first _ _ _ _ _ (cell _ c x high _ other _ _ who) (append-nil _)
    (first _ _ _ _ _ (last_cell _ c x high _ other _ _ who) (append-nil _)
    (first _ _ _ _ _ (counts_on _ c x high _ other _ _ who) (append-nil _) (later _ _ _ _)))))

-- n rounds, in each of which both releases find the counter changed and count again
abbrev rounds : ℕ → List (Turn ℕ)
rounds zero = []
rounds (suc k) = round ++ rounds k

-- the steps of n rounds, ten for each
abbrev steps_of_rounds : ℕ → ℕ
steps_of_rounds zero = 0
steps_of_rounds (suc k) = suc (suc (suc (suc (suc (suc (suc (suc (suc (suc (steps_of_rounds k))))))))))

-- n rounds have ten times n steps
ten_each : (k : ℕ) → steps_of_rounds k ≡ 10 * k
ten_each zero = refl
ten_each (suc k) = omega (arith, ten_each k)

-- k rounds take their ten steps each and no call ends in them, where the counter has room for
-- two counts more in each
endless : (es : List (Event ℕ)) (k c x : ℕ) → x < c → c + (k + k) < greatest → (m n : Tally) (changes ran : ℕ)
    → Went (rounds k) (at es First c (ExchangesCounter x) m (locking Second (ExchangesCounter c) n) changes ran) (steps_of_rounds k)
endless es zero c x more room m n changes ran = record { allowed = tt; steps = refl; same = refl }
endless es (suc k) c x more room m n changes ran =
    counts_again es First c x (is_high c x more (omega arith)) m (locking Second (ExchangesCounter c) n) changes ran _ (five Second (rounds k))
    (λ es m changes ran.
    counts_again es Second (c + 1) c (is_high (c + 1) c (omega arith) (omega arith)) n (locking First (ExchangesCounter (c + 1)) m) changes ran _ (rounds k)
    (λ es n changes ran. endless es k (c + 1 + 1) (c + 1) (omega arith) (omega arith) m n changes ran))

-- ---- the machine in which both have counted

-- the trace to which the turns `both_count` lead: both releases have counted that no cell has an owner
abbrev started : Trace ℕ
started = run_on both_count (opening one_word Robust 2 2)

-- the coding of numbers by one word each fulfils the laws of a coding
one_word_codes : IsCoding one_word
one_word_codes = record { some = omega arith; few = omega arith; sized = λ n. refl; given_back = λ n. refl }

-- that trace is reached by turns from a machine that has just opened
reached : IsReachedOn started
reached = record { coded = one_word_codes; admitted = refl; turns = both_count; is = refl }

-- that trace written out: the counter is 6, the first release has seen 5 and the second one 6
abbrev both_counted : Trace ℕ
both_counted =
    at started.events First 6 (ExchangesCounter 5) (record { steps = 7; backs = 0; since = 7 })
    (locking Second (ExchangesCounter 6) (record { steps = 7; backs = 0; since = 9 })) 10 27

-- the turns `both_count` lead to the trace written out
stands_so : started ≡ both_counted
stands_so = refl

first_of_two : IsOneIn (parties_below 2) 0
first_of_two = inr (inl refl)

second_of_two : IsOneIn (parties_below 2) 1
second_of_two = inl refl

-- the turns of the rounds are of the two parties alone
below : (k : ℕ) → AllByRecursion (IsAmong (parties_below 2)) (rounds k)
below zero = tt
below (suc k) = (
  first_of_two,
  (
    first_of_two,
    (first_of_two, (first_of_two, (first_of_two, (second_of_two, (second_of_two, (second_of_two, (second_of_two, (second_of_two, below k)))))))),
  ),
)

-- fewer than ten steps for each of k rounds are fewer than the steps of k rounds
many : (b k s : ℕ) → s ≡ 10 * k → b < 10 * k → b < s
many b k s e less = omega arith

-- a number is not below one equal to it: as many calls have ended as before, so none ended in between
no_end : (a b : ℕ) → a ≡ b → b < a → ⊥
no_end a b e less = absurd (omega arith)

-- no bound is less than ten steps for each round that the counter has room for
no_bound : (k : ℕ) → 6 + (k + k) < greatest → (bound : Bound) → bound 2 2 1 < 10 * k → IsLockFree ℕ Robust bound → ⊥
no_bound k room bound few free =
    let went : Went (rounds k) started (steps_of_rounds k) =
    subst (λ (t : Trace ℕ). Went (rounds k) t (steps_of_rounds k)) (sym stands_so) (endless started.events k 6 5 (omega arith) room _ _ 10 27) in
    let far = many (bound 2 2 1) k (steps_in started (rounds k)) (went.steps ∙ ten_each k) few in
    let less = free started refl reached (parties_below 2) (rounds k) went.allowed (below k) far in
    no_end (ends (after_turns started (rounds k)).events) (ends started.events) (ap_ends went.same) less
  where
    ap_ends : {a b : List (Event ℕ)} → a ≡ b → ends a ≡ ends b
    ap_ends {a} {b} e = subst (λ (xs : List (Event ℕ)). ends a ≡ ends xs) e refl

-- no bound below ten steps for each of 2^63 - 5 rounds makes robust index sets lock-free
pub robust : (bound : Bound) → bound 2 2 1 < 10 * (2 ^ 63 - 5) → IsLockFree ℕ Robust bound → ⊥
robust bound few free = no_bound (2 ^ 63 - 5) (omega arith) bound few free
