-- What the invariant of a counting bit set says of the events, in the words of the promises: in every run,
-- and without the remainder where no place was counted 2^64 times.
use Rattle.laws_bits.proofs.Names.{◌≡◌, ◌⊎◌, inl, inr, ℕ, ◌+◌, ◌-◌, ◌^◌, ◌<◌, ◌≤◌, List, [], ◌∷◌, ◌++◌, ap, subst}
use Rattle.laws_bits.proofs.Names.{Event, BitsStart, BitsFlight, most_counts_steps, IsCountingSet, IsCountingOn}
use Rattle.laws_bits.proofs.Names.{HasTaken, HasTakenOn, CountsAnswerRight, CountsAnswerOn, counts, takes, SinceBegin}
use Rattle.laws_bits.proofs.Names.{Begun, Counted, Finished, Bits, Trace, since_so}
use Rattle.std.proofs.Common.{arith}
use Rattle.model.specs.declared.families.bits.BitsStart.TheVariants as starts
use Rattle.model.specs.declared.families.bits.BitsStart.TheVariants.{Set, ResetAll}
use Rattle.model.specs.declared.event.Answer.TheVariants.{Number}
use Rattle.laws_bits.proofs.Counts.Core.{counts_more}
use Rattle.laws_bits.proofs.Counts.Invariant.{Holds, CallAt, KnowsCall, number_of}

module _ {T : Type 0} where
  -- no call has taken more steps than are promised for its name
  pub steps_most : (c : ℕ) (wrote : List (Event T)) (start : BitsStart) (flight : BitsFlight)
      → CallAt c wrote start flight → number_of flight ≤ most_counts_steps c start
  steps_most = grind arith

  -- no call has turned back
  pub backs_paid : (p : ℕ) (events : List (Event T)) (n backs : ℕ) (flight : BitsFlight) → KnowsCall p events backs flight → backs ≤ n
  backs_paid = grind arith

  -- ---- without an end

  -- what holds of the machine is what is promised of a counting set in every run, however long
  pub counts_on : {c : ℕ} {t : Trace T} → t.world.capacity ≡ c → Holds c t.world.words t.events t.world.turns → IsCountingOn t
  counts_on same holds =
      record {
        conserved = holds.conserved;
        within = λ b past. holds.within b (subst (λ n. n ≤ b) same past);
        answers = rw same holds.answers;
      }

  -- ---- where no place was counted 2^64 times

  -- a place was counted no more often up to an event than in all
  part_counts : (b : ℕ) (events before after : List (Event T)) (e : Event T) → events ≡ before ++ e ∷ after → counts b before ≤ counts b events
  part_counts b events before after e split_so = rw split_so (omega (arith, counts_more b before (e ∷ after)))

  -- a reset that has taken something out of each place that had counted, unless 2^64 was counted there, has
  -- taken something out of each such place if no place was counted so often
  taken_exact : {c p : ℕ} {events : List (Event T)} → ((b : ℕ) → counts b events < 2 ^ 64)
      → SinceBegin p (HasTakenOn c) events → SinceBegin p (HasTaken c) events
  taken_exact {c} {p} {events} few since_begin = since_so p since_begin holds
    where
      -- something was taken from each place that counted above 0 as the call began
      holds : HasTaken c since_begin.before since_begin.since
      holds b below some = go (since_begin.holds b below some)
        where
          -- the second case, that the place was counted 2^64 times, cannot be here
          go : (1 ≤ takes b since_begin.since) ⊎ (2 ^ 64 ≤ counts b since_begin.before + counts b since_begin.since) → 1 ≤ takes b since_begin.since
          go (inl had) = had
          go (inr far) =
              let all = counts_more b since_begin.before (Begun p since_begin.start ∷ since_begin.since) in
              let own = counts_more b (Begun p since_begin.start ∷ []) since_begin.since in
              let same : counts b events ≡ counts b (since_begin.before ++ Begun p since_begin.start ∷ since_begin.since) = ap (counts b) since_begin.is in
              let low = few b in
              absurd (omega arith)

  -- where no place was counted 2^64 times, an answer that is right in every run (`CountsAnswerOn`) is
  -- right exactly (`CountsAnswerRight`)
  answer_exact : (c : ℕ) (before : List (Event T)) (e : Event T) → ((b : ℕ) → counts b before < 2 ^ 64)
      → CountsAnswerOn c before e → CountsAnswerRight c before e
  answer_exact c before (Finished p (Bits (Set place)) (Number number)) few counts_answer_on =
      let low = few place in
      let m = counts_more place counts_answer_on.before (Counted p place ∷ []) in
      let same : counts place before ≡ counts place (counts_answer_on.before ++ Counted p place ∷ []) = ap (counts place) counts_answer_on.is in
      let count = counts_answer_on.count in
      record { before = counts_answer_on.before; is = counts_answer_on.is; count = omega arith }
  answer_exact c before (Finished p (Bits ResetAll) answer) few counts_answer_on = taken_exact few counts_answer_on
  answer_exact c before (Finished p (Bits (starts.Count place)) (Number number)) few counts_answer_on =
      (counts_answer_on.0, omega (arith, counts_answer_on.1))
  answer_exact c before e few counts_answer_on = tt

  -- in a run in which no place was counted 2^64 times, what is promised of every run is what is
  -- promised of a counting set
  pub exact : {t : Trace T} → ((b : ℕ) → counts b t.events < 2 ^ 64) → IsCountingOn t → IsCountingSet t
  exact {t} few counting_on =
      record {
        conserved = λ b. (let low = few b in omega (arith, (counting_on.conserved b).1));
        within = counting_on.within;
        answers =
            λ before after e is. answer_exact t.world.capacity before e
            (λ b. (let less = part_counts b t.events before after e is in let low = few b in omega arith))
            (counting_on.answers before after e is);
      }

  -- in a run of at most 2^64 - 2 turns, what holds of the machine is what is promised of a counting set
  pub counts_kept : {c : ℕ} (t : Trace T) → t.world.capacity ≡ c → t.world.turns ≤ 2 ^ 64 - 2 → Holds c t.world.words t.events t.world.turns → IsCountingSet t
  counts_kept {c} t same small holds = exact (λ b. (let few = holds.few b in omega arith)) (counts_on same holds)
