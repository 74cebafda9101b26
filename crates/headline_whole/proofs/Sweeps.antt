-- The call that empties a set, alone: it swaps one word after another for 0.
use Rattle.std.proofs.Common.{◌≡◌, ℕ, zero, suc, ◌+◌, ◌-◌, ◌^◌, ◌<◌, ◌≤◌, true, false, nat_lt, List, [], ◌∷◌, length, replicate}
use Rattle.std.proofs.Common.{slice_index, slice_set, refl, sym, ap, subst, ◌∙◌, arith, if◌then◌else◌}
use Rattle.std.proofs.lemmas.Bool.Decides.{nat_tests}
use Rattle.steps.specs.Bits.ResetAll.{reset_all_want, reset_all_after, reset_all_kept}
use Rattle.steps.specs.declared.ask.After.{After}
use Rattle.steps.specs.declared.ask.After.TheVariants.{GoOn, Done}
use Rattle.steps.specs.declared.ask.Op.TheVariants.{Swap}
use Rattle.steps.specs.declared.ask.Want.{Want}
use Rattle.steps.specs.declared.ask.Want.TheVariants as wants
use Rattle.steps.specs.declared.bits.reset_all.ResetAll.{ResetAll}
use Rattle.steps.specs.declared.copied.OneWord.{OneWord}
use Rattle.plain_queues.specs.declared.drive.Stop.TheVariants.{Ended}
use Rattle.plain_queues.specs.Alone.{answer_in, words_then, room_then, stepped, StopsFrom, StopsIn}
use Rattle.plain_queues.proofs.Alone.{Runs}

-- the words after `n` of them, from the word `k` on, became 0
abbrev pub cleared : List ℕ → ℕ → ℕ → List ℕ
cleared words k zero = words
cleared words k (suc n) = cleared (slice_set words k 0) (suc k) n

-- Clearing behind the first word leaves the first word.
behind : (x : ℕ) (xs : List ℕ) (k n : ℕ) → cleared (x ∷ xs) (suc k) n ≡ x ∷ cleared xs k n
behind x xs k zero = refl
behind x xs k (suc n) = behind x (slice_set xs k 0) (suc k) n

-- Clearing all words leaves zeros.
pub all_cleared : (xs : List ℕ) → cleared xs 0 (length xs) ≡ replicate (length xs) 0
all_cleared [] = refl
all_cleared (x ∷ xs) = behind 0 xs 0 (length xs) ∙ ap (λ ys. 0 ∷ ys) (all_cleared xs)

-- Clearing all words behind the first one leaves the first and zeros.
pub all_but_first : (x : ℕ) (xs : List ℕ) → cleared (x ∷ xs) 1 (length xs) ≡ x ∷ replicate (length xs) 0
all_but_first x xs = behind x xs 0 (length xs) ∙ ap (λ ys. x ∷ ys) (all_cleared xs)

-- The sweep, alone, comes to its end over the words `last` within n steps.
abbrev SweepEnds : ℕ → OneWord → List ℕ → ResetAll → OneWord → List ℕ → Type 0
SweepEnds n last_room last call room words =
    StopsIn (λ (c : ResetAll) (given : Unit {0}). reset_all_want c) (λ c given old. reset_all_after c old) (λ c room old. reset_all_kept room old) tt
    n (Ended tt) last_room last call room words

-- After a step that asked for `w` and led to `a`, the sweep comes to its end over the words `last`
-- within n steps more.
abbrev EndsFrom : ℕ → OneWord → List ℕ → ResetAll → Want (Unit {0}) → After ResetAll (Unit {0}) → OneWord → List ℕ → Type 0
EndsFrom n last_room last call w a room words =
    StopsFrom (λ (c : ResetAll) (given : Unit {0}). reset_all_want c) (λ c given old. reset_all_after c old) (λ c room old. reset_all_kept room old) tt
    (λ c m ws. SweepEnds n last_room last c m ws) (stepped w call a) (room_then w room (reset_all_kept room (answer_in words w))) (words_then words w)
    (Ended tt) last_room last

module _ (k e : ℕ) where
  -- The sweep that has come to the word `k` and stops at the word `e`.
  abbrev at : ResetAll
  at = record { word = k; end = e }

  -- The sweep at word k, before its end, asks to swap that word for 0.
  asks : k < e → reset_all_want at ≡ wants.Ask (record { word = k; op = Swap 0 })
  asks low =
      let is_below : nat_lt k e ≡ true = grind (arith, nat_tests, low) in
      ap (λ b. if b then wants.Ask (record { word = k; op = Swap 0 }) else wants.Nothing) is_below

  -- The sweep at its end asks for nothing.
  asks_none : e ≤ k → reset_all_want at ≡ wants.Nothing
  asks_none high =
      let not_below : nat_lt k e ≡ false = grind (arith, nat_tests, high) in
      ap (λ b. if b then wants.Ask (record { word = k; op = Swap 0 }) else wants.Nothing) not_below

  -- After a word that is not the last the sweep goes on to the next one.
  goes_on : k + 1 < e → (old : ℕ) → reset_all_after at old ≡ GoOn (record { word = k + 1; end = e })
  goes_on low old =
      let is_below : nat_lt (k + 1) e ≡ true = grind (arith, nat_tests, low) in
      ap (λ b. if b then GoOn (record { word = k + 1; end = e }) else Done tt) is_below

  -- After its last word the sweep is done.
  ends : e ≤ k + 1 → (old : ℕ) → reset_all_after at old ≡ Done tt
  ends high old =
      let not_below : nat_lt (k + 1) e ≡ false = grind (arith, nat_tests, high) in
      ap (λ b. if b then GoOn (record { word = k + 1; end = e }) else Done tt) not_below

-- the call swaps these words for 0, one after another, and ends
pub sweeps : (n k e : ℕ) → k + suc n ≡ e → (room : OneWord) (words : List ℕ)
    → (last_room : OneWord) × SweepEnds (suc n) last_room (cleared words k (suc n)) (record { word = k; end = e }) room words
sweeps zero k e length_is room words =
    let last : OneWord = record { 0 = slice_index words k } in (
      last,
      subst (λ w. EndsFrom 0 last (slice_set words k 0) (at k e) w (reset_all_after (at k e) (answer_in words w)) room words) (sym (asks k e (omega arith)))
          (subst (λ a. EndsFrom 0 last (slice_set words k 0) (at k e) (wants.Ask (record { word = k; op = Swap 0 })) a room words)
          (sym (ends k e (omega arith) (slice_index words k))) (refl, refl, refl)),
    )
sweeps (suc n) k e length_is room words =
    let rest = sweeps n (k + 1) e (omega arith) (record { 0 = slice_index words k }) (slice_set words k 0) in
    let next : k + 1 ≡ suc k = omega arith in
    let last : List ℕ = cleared (slice_set words k 0) (k + 1) (suc n) in
    let same : cleared (slice_set words k 0) (k + 1) (suc n) ≡ cleared words k (suc (suc n)) =
    ap (λ j. cleared (slice_set words k 0) j (suc n)) next in (
      rest.0,
      subst (λ ws. SweepEnds (suc (suc n)) rest.0 ws (at k e) room words) same
          (subst (λ w. EndsFrom (suc n) rest.0 (cleared (slice_set words k 0) (k + 1) (suc n)) (at k e) w
          (reset_all_after (at k e) (answer_in words w)) room words)
          (sym (asks k e (omega arith)))
          (subst (λ a. EndsFrom (suc n) rest.0 (cleared (slice_set words k 0) (k + 1) (suc n)) (at k e)
          (wants.Ask (record { word = k; op = Swap 0 })) a room words)
          (sym (goes_on k e (omega arith) (slice_index words k))) rest.1)),
    )

-- the call ends at once where there is no word to empty
pub sweeps_none : (k : ℕ) (room : OneWord) (words : List ℕ) → (last_room : OneWord) × SweepEnds 1 last_room words (record { word = k; end = k }) room words
sweeps_none k room words = (
  record { 0 = 0 },
  subst (λ w. EndsFrom 0 (record { 0 = 0 }) words (at k k) w (reset_all_after (at k k) (answer_in words w)) room words) (sym (asks_none k k (omega arith)))
      (subst (λ a. EndsFrom 0 (record { 0 = 0 }) words (at k k) wants.Nothing a room words) (sym (ends k k (omega arith) 0)) (refl, refl, refl)),
)

-- ---- from the first word to the last

-- from the first word to the last, the call runs to an end that leaves each of them 0
pub sweep_runs : (k n : ℕ) → n ≤ 2 ^ 64 - 2 → (room : OneWord) (words : List ℕ)
    → Runs (λ (c : ResetAll) (given : Unit {0}). reset_all_want c) (λ c given old. reset_all_after c old) (λ c room old. reset_all_kept room old) tt
    (λ end room last. last ≡ cleared words k n) (record { word = k; end = k + n }) room words
sweep_runs k zero few room words =
    let s = sweeps_none k room words in
    let none : k ≡ k + zero = omega arith in
    subst (λ e. Runs (λ (c : ResetAll) (given : Unit {0}). reset_all_want c) (λ c given old. reset_all_after c old) (λ c room old. reset_all_kept room old) tt
    (λ end room last. last ≡ words) (record { word = k; end = e }) room words) none
    (record { steps = 1; few = omega arith; end = tt; last_room = s.0; last_words = words; ends = s.1; holds = refl })
sweep_runs k (suc n) few room words =
    let s = sweeps n k (k + suc n) refl room words in
    record { steps = suc n; few = omega arith; end = tt; last_room = s.0; last_words = cleared words k (suc n); ends = s.1; holds = refl }
