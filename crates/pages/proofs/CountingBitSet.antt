-- The theorem of the counting bit set's page: what each stage does at a place. In fewer than 2^63 turns no count wraps.
use Rattle.std.proofs.Common.{◌%◌, ◌^◌, ◌+◌, ◌<◌, ◌==◌, ◌≡◌, ◌≢◌, ◌≤◌, ◌++◌, ◌∷◌, ◌∙◌, Bool, List, None, Option, Some, []}
use Rattle.std.proofs.Common.{ap, arith, cond, false, fold, get_or-set_other, get_or-set_same, length, length-set, nat_lt, refl, replicate, slice_index}
use Rattle.std.proofs.Common.{slice_set, subst, sym, true, ℕ, ⊎_elim}
use Rattle.std.proofs.lemmas.Bool.{cases_eq}
use Rattle.std.proofs.lemmas.Bool.Decides.{nat_tests}
use Rattle.std.proofs.lemmas.List.{length-replicate}
use Rattle.std.proofs.lemmas.List.Sums.{sum_by-append}
use Rattle.pages.specs.CountingBitSet as page
use Rattle.pages.specs.Machine.{After, GoOn, Done, Turn, opening, turned}
use Rattle.pages.specs.Places.{Act, ActsAt}
use Rattle.pages.proofs.BitSet.{zeros}
use Rattle.pages.proofs.Places.{Moves, Stays, Acts, Begins, Goes, Law, words_then}
use Rattle.pages.proofs.Places as places

abbrev pub call_at : page.Stage → page.Call
call_at (page.SetAdds place) = page.Set place
call_at (page.AllSwaps place counts) = page.ResetAll

-- what is handed out of a place that counted this
abbrev pub handed_then : ℕ → ℕ → List (ℕ × ℕ) → List (ℕ × ℕ)
handed_then place old counts = cond (old == 0) counts (counts ++ (place, old) ∷ [])

module _ (c b : ℕ) (below : b < c) where
  abbrev at : page.Call → page.Answer → Option Act
  at call answer = page.at b call answer

  abbrev value : List ℕ → ℕ
  value words = slice_index words b

  abbrev act : ℕ → ℕ → Act
  act found left = record { found = found; left = left }

  abbrev did : page.Stage → Option Act
  did (page.SetAdds place) = None
  did (page.AllSwaps place counts) = cond (nat_lt b place) (Some (act (page.handed b counts) 0)) None

  -- What holds at a stage: its place is one of the set, and before the turn of `b` nothing of it
  -- was handed out.
  abbrev Fits : page.Stage → Type 0
  Fits (page.SetAdds place) = place < c
  Fits (page.AllSwaps place counts) = (place < c) × (place ≤ b → page.handed b counts ≡ 0)

  -- After `n` turns there is a word for each place, and that of place `b` counts at most `n`.
  pub record Good (n : ℕ) (words : List ℕ) : Type 0 where
    pub sized : length words ≡ c
    pub low : value words ≤ n

  -- What a step from `stage` came to (`a`) is right for place `b`, whose count goes from `v` to `w`.
  abbrev GoesThen : page.Stage → After page.Stage page.Answer → ℕ → ℕ → Type 0
  GoesThen stage a v w = Goes (page.counting_bit_set c) at call_at did Fits stage a v w

  -- A step from this stage leaves the words good for one turn more, and is right for place `b`.
  abbrev Step : ℕ → List ℕ → page.Stage → Type 0
  Step n words stage =
      Good (n + 1) (words_then (page.counting_bit_set c) at words stage)
      × GoesThen stage ((page.does c stage).2 (slice_index words (page.does c stage).0)) (value words)
      (value (words_then (page.counting_bit_set c) at words stage))

  here : (words : List ℕ) (place new : ℕ) → place ≡ b → place < length words → value (slice_set words place new) ≡ new
  here words place new same near = ap (λ n. slice_index (slice_set words place new) n) (sym same) ∙ get_or-set_same words place new 0 near

  elsewhere : (words : List ℕ) (place new : ℕ) → place ≢ b → value (slice_set words place new) ≡ value words
  elsewhere words place new ne = get_or-set_other words place b new 0 (λ e. ne (sym e))

  -- a set adds one to what it found at its place, and does nothing at another
  set_adds : (n : ℕ) (words : List ℕ) (place : ℕ) → n < 2 ^ 63 → Good n words → place < c → Step n words (page.SetAdds place)
  set_adds n words place few good lt = go (place == b) refl
    where
      -- the cases are whether its place is this one
      go : (t : Bool) → (place == b) ≡ t
          → Good (n + 1) (slice_set words place ((slice_index words place + 1) % 2 ^ 64))
          × Moves at (page.Set place) None (cond t (Some (act (slice_index words place) (slice_index words place + 1))) None)
          (value words) (value (slice_set words place ((slice_index words place + 1) % 2 ^ 64)))
      go true t =
          let same : place ≡ b = grind (arith, nat_tests) in
          let sized = good.sized in
          let low = good.low in
          let was : value words ≡ slice_index words place = ap (λ n. slice_index words n) (sym same) in
          let will = here words place ((slice_index words place + 1) % 2 ^ 64) same (omega arith) in
          let exact : value (slice_set words place ((slice_index words place + 1) % 2 ^ 64)) ≡ slice_index words place + 1 = omega arith in (
            record { sized = length-set words place ((slice_index words place + 1) % 2 ^ 64) ∙ sized; low = omega arith },
            Acts refl (act (slice_index words place) (slice_index words place + 1)) refl (sym was) (sym exact)
                (page.Counted (slice_index words place), rw t refl),
          )
      go false t =
          let other : place ≢ b = grind (arith, nat_tests) in
          let low = good.low in
          let stays = elsewhere words place ((slice_index words place + 1) % 2 ^ 64) other in (
            record { sized = length-set words place ((slice_index words place + 1) % 2 ^ 64) ∙ good.sized; low = omega arith },
            Stays refl stays,
          )

  -- what is handed out of this place is what was, and what the place counted, if it is this one
  handed_more : (place old : ℕ) (counts : List (ℕ × ℕ)) → page.handed b (handed_then place old counts) ≡ page.handed b counts + cond (place == b) old 0
  handed_more place old counts = go (old == 0) refl
    where
      -- the cases are whether the place counted something
      go : (t : Bool) → (old == 0) ≡ t → page.handed b (cond t counts (counts ++ (place, old) ∷ [])) ≡ page.handed b counts + cond (place == b) old 0
      go true t =
          let none : old ≡ 0 = grind (arith, nat_tests) in
          let zero : cond (place == b) old 0 ≡ 0 = grind arith in
          omega arith
      go false t =
          let x : ℕ × ℕ = (place, old) in
          let sums = sum_by-append (λ (x : ℕ × ℕ). cond (x.0 == b) x.1 0) counts (x ∷ []) in
          omega arith

  -- a reset of all that swaps a count has taken out what this place counted, if it is this one
  all_swaps : (n : ℕ) (words : List ℕ) (place : ℕ) (counts : List (ℕ × ℕ)) → Good n words → place < c → (place ≤ b → page.handed b counts ≡ 0)
      → Step n words (page.AllSwaps place counts)
  all_swaps n words place counts good lt none = (good_then, goes (nat_lt (place + 1) c) refl)
    where
      -- there are as many words as before, and the place counts at most n + 1
      good_then : Good (n + 1) (slice_set words place 0)
      good_then = record { sized = length-set words place 0 ∙ good.sized; low = ⊎_elim at_it away (cases_eq place b) }
        where
          at_it : place ≡ b → value (slice_set words place 0) ≤ n + 1
          at_it same = let sized = good.sized in let will = here words place 0 same (omega arith) in omega arith

          away : place ≢ b → value (slice_set words place 0) ≤ n + 1
          away ne = let low = good.low in let stays = elsewhere words place 0 ne in omega arith

      -- what it has handed out of the place then is what it found there
      moves : Moves at page.ResetAll (cond (nat_lt b place) (Some (act (page.handed b counts) 0)) None)
          (cond (nat_lt b (place + 1)) (Some (act (page.handed b (handed_then place (slice_index words place) counts)) 0)) None)
          (value words) (value (slice_set words place 0))
      moves = ⊎_elim at_it away (cases_eq place b)
        where
          -- a reset of all that swaps the count of this place
          at_it : place ≡ b → Moves at page.ResetAll (cond (nat_lt b place) (Some (act (page.handed b counts) 0)) None)
              (cond (nat_lt b (place + 1)) (Some (act (page.handed b (handed_then place (slice_index words place) counts)) 0)) None)
              (value words) (value (slice_set words place 0))
          at_it same =
              let sized = good.sized in
              let not_below : nat_lt b place ≡ false = grind (arith, nat_tests) in
              let yes : nat_lt b (place + 1) ≡ true = grind (arith, nat_tests) in
              let more = handed_more place (slice_index words place) counts in
              let hit : (place == b) ≡ true = grind (arith, nat_tests) in
              let all : cond (place == b) (slice_index words place) 0 ≡ slice_index words place = rw hit refl in
              let before = none (omega arith) in
              let was : value words ≡ slice_index words place = ap (λ n. slice_index words n) (sym same) in
              let will = here words place 0 same (omega arith) in
              rw (not_below, yes) (Acts refl (act (page.handed b (handed_then place (slice_index words place) counts)) 0) refl (omega arith) (sym will)
              (page.WereReset (handed_then place (slice_index words place) counts), refl))

          -- it has done nothing more where it swaps another
          away : place ≢ b → Moves at page.ResetAll (cond (nat_lt b place) (Some (act (page.handed b counts) 0)) None)
              (cond (nat_lt b (place + 1)) (Some (act (page.handed b (handed_then place (slice_index words place) counts)) 0)) None)
              (value words) (value (slice_set words place 0))
          away ne =
              let same : nat_lt b (place + 1) ≡ nat_lt b place = grind (arith, nat_tests) in
              let miss : (place == b) ≡ false = grind (arith, nat_tests) in
              let no_more : cond (place == b) (slice_index words place) 0 ≡ 0 = rw miss refl in
              let more = handed_more place (slice_index words place) counts in
              let still : page.handed b (handed_then place (slice_index words place) counts) ≡ page.handed b counts = omega arith in
              rw (same, still) (Stays refl (elsewhere words place 0 ne))

      -- before this place it has handed out nothing of it
      none_then : place + 1 ≤ b → page.handed b (handed_then place (slice_index words place) counts) ≡ 0
      none_then le =
          let miss : (place == b) ≡ false = grind (arith, nat_tests) in
          let no_more : cond (place == b) (slice_index words place) 0 ≡ 0 = rw miss refl in
          let more = handed_more place (slice_index words place) counts in
          let before = none (omega arith) in
          omega arith

      -- it goes on to the next place, or it has swapped them all
      goes : (t : Bool) → nat_lt (place + 1) c ≡ t
          → GoesThen (page.AllSwaps place counts)
          (cond t (GoOn (page.AllSwaps (place + 1) (handed_then place (slice_index words place) counts)))
          (Done (page.WereReset (handed_then place (slice_index words place) counts)))) (value words) (value (slice_set words place 0))
      goes true t =
          let next : place + 1 < c = grind (arith, nat_tests) in record { call = refl; fits = (next, none_then); moves = moves }
      goes false t =
          let yes : nat_lt b (place + 1) ≡ true = grind (arith, nat_tests) in
          subst (λ d. Moves at page.ResetAll (cond (nat_lt b place) (Some (act (page.handed b counts) 0)) None) d
          (value words) (value (slice_set words place 0)))
          (ap (λ t. cond t (Some (act (page.handed b (handed_then place (slice_index words place) counts)) 0)) None) yes) moves

  -- what the counting bit set's page owes at a place
  law : Law (page.counting_bit_set c) at
  law =
      record {
        call_at = call_at;
        did = did;
        value = value;
        Fits = Fits;
        Few = λ n. n < 2 ^ 63;
        Good = Good;
        opens = ((record { sized = length-replicate c 0; low = opens_low }), zeros c b);
        waits = λ n words good. (let low = good.low in record { sized = good.sized; low = omega arith });
        begins = begins;
        steps = steps;
      }
    where
      opens_low : value (replicate c 0) ≤ 0
      opens_low = let none = zeros c b in omega arith

      -- A call that may begin has done nothing at the place yet, and its first stage fits.
      begins : (p : ℕ) (call : page.Call) → page.may c p call ≡ true → Begins (page.counting_bit_set c) at call_at did Fits call
      begins p (page.Set place) may = record { is = refl; nothing = refl; fits = grind (arith, nat_tests) }
      begins p page.ResetAll may =
          let not_below : nat_lt b 0 ≡ false = grind (arith, nat_tests) in
          record { is = refl; nothing = rw not_below refl; fits = ((omega arith), λ le. refl) }

      steps : (n : ℕ) (words : List ℕ) (stage : page.Stage) → n < 2 ^ 63 → Good n words → Fits stage → Step n words stage
      steps n words (page.SetAdds place) few good fits = set_adds n words place few good fits
      steps n words (page.AllSwaps place counts) few good fits = all_swaps n words place counts good fits.0 fits.1

  pub acts_at_a_place : (turns : List (Turn page.Call)) → length turns < 2 ^ 63
      → ActsAt at (fold (turned (page.counting_bit_set c)) (opening (page.counting_bit_set c)) turns).history
      (slice_index (fold (turned (page.counting_bit_set c)) (opening (page.counting_bit_set c)) turns).words b)
  unfolding law
  acts_at_a_place turns few = places.acts (page.counting_bit_set c) at law turns (λ k lt. (omega arith))
