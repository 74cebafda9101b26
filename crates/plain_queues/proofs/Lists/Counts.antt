-- A call for the length of a queue that runs alone: it ends within four steps and answers the length of the list.
use Rattle.std.proofs.Common.{◌≡◌, ℕ, ◌+◌, ◌-◌, ◌≤◌, ◌<◌, ◌^◌, List, length, refl, sym, subst, arith, slice_index}
use Rattle.steps.specs.Picks.{by_eq}
use Rattle.steps.specs.Queues.Ring.{distance}
use Rattle.steps.specs.declared.ask.After.{After}
use Rattle.steps.specs.Queues.Lengths.{number_waiting, first_len, len_want, len_after}
use Rattle.steps.specs.declared.queues.lengths.Len.{Len}
use Rattle.plain_queues.specs.Alone.{EndsFrom}
use Rattle.plain_queues.specs.Queues.{list_in, Represents}
use Rattle.plain_queues.specs.Overflowing as over
use Rattle.plain_queues.proofs.Alone.{Runs}
use Rattle.plain_queues.proofs.Lists.Cells.{values_length}

module _ (capacity : ℕ) (words : List ℕ) where
  -- what a step of the call has answered leads to this end, with the words as they were, at once
  -- or within n steps more
  abbrev LenEndsFrom : ℕ → ℕ → After Len ℕ → Type 0
  LenEndsFrom n end a =
      EndsFrom (λ c (given : Unit {0}). len_want c) (λ c given old. len_after c old) (λ c (room : Unit {0}) old. room) tt n end tt words a tt words

  -- the call, run alone, ends with an answer of which P holds, and leaves the words
  abbrev pub CountsTo : (ℕ → Type 0) → Len → Type 0
  CountsTo P call =
      Runs (λ (c : Len) (given : Unit {0}). len_want c) (λ c given old. len_after c old) (λ c (room : Unit {0}) old. room) tt
      (λ end room last. P end × (last ≡ words)) call tt words

  -- a call for the length finds both positions twice, and answers how far the read position is behind
  counts : (P : ℕ → Type 0) → slice_index words 1 ≤ slice_index words 0
      → slice_index words 0 ≤ slice_index words 1 + capacity → slice_index words 0 < 2 ^ 64
      → P (slice_index words 0 - slice_index words 1) → CountsTo P (first_len capacity)
  counts P behind near fits holds =
      let w = slice_index words 0 in
      let r = slice_index words 1 in
      let end = number_waiting capacity w r in
      -- what waits is the distance of the positions, also where the capacity is 0
      let is : end ≡ w - r =
      by_eq (λ x. x ≡ w - r) capacity 0 0 (distance w r) (λ e. omega arith) (λ ne. omega arith) in
      record {
        steps = 4;
        few = omega arith;
        end = end;
        last_room = tt;
        last_words = words;
        -- both positions are found unchanged, so the call ends
        ends = by_eq (λ a. LenEndsFrom 1 end a) w w _ _
            (λ _. by_eq (λ a. LenEndsFrom 0 end a) r r _ _ (λ _. (refl, refl, refl)) (λ ne. absurd (ne refl)))
            (λ ne. absurd (ne refl));
        holds = (subst P (sym is) holds, refl);
      }

module _ {V : Type 0} (value_of : List ℕ → V) (size capacity : ℕ) (call : Len)
    (is : call ≡ first_len capacity) (words : List ℕ) (fits : Represents size capacity words) where
  -- the call, run alone over the words of a bounded queue, answers the length of its list
  abbrev pub CountRuns : Type 0
  CountRuns =
      CountsTo capacity words (λ end. end ≡ length (list_in value_of size capacity words).values) call

  -- a call for the length of a bounded queue answers the length of its list
  pub count_runs : CountRuns
  count_runs = grind (arith, length, counts, values_length)

module _ (capacity : ℕ) (call : Len) (is : call ≡ first_len capacity) (words : List ℕ)
    (fits : over.Represents capacity words) where
  -- the call, run alone over the words of an overflowing queue, answers the length of its list
  abbrev pub OverCountRuns : Type 0
  OverCountRuns =
      CountsTo capacity words (λ end. end ≡ length (over.list_in capacity words).values) call

  -- a call for the length of an overflowing queue answers the length of its list
  pub over_count_runs : OverCountRuns
  over_count_runs = grind (arith, length, counts, values_length)
