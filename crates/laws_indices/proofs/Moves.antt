-- What each operation of a call does to the words, to the holders, and to the number of calls that take an
-- index or give one back: the words stay right (`Good`).
use Rattle.std.proofs.Common.{◌≡◌, ◌≢◌, ℕ, ◌+◌, ◌-◌, ◌%◌, ◌^◌, ◌<◌, ◌≤◌, ⊎_elim, true, false, bit_and, bit_or, Option}
use Rattle.std.proofs.Common.{Some, None, is_some, List, length, get_or, set, sym, ap, ◌∙◌, arith, length-set}
use Rattle.std.proofs.Common.{get_or-set_same, get_or-set_other}
use Rattle.laws_indices.proofs.Names.{cases_eq, cases_lt, flag_word, flag, borrowed, locked}
use Rattle.std.proofs.lemmas.List.{get_or_past}
use Rattle.steps.specs.Indices.Unique.{head_taken, head_given_back, head_locked}
use Rattle.laws_indices.proofs.Core.{head_of, counted_in, holder, one_held, held_below, held_below_set, none_if_zero}
use Rattle.laws_indices.proofs.Core.{one_if_some, none_if_not, flag_within, is_claimed, claims_stay, claim_sets}
use Rattle.laws_indices.proofs.Core.{claim_leaves, clear_clears, clear_leaves, head_stays, Good}
use Rattle.laws_indices.proofs.Count.{Tally, counts_all, is_open, tally_up, tally_down, tally_shut, taken_number, given_number, locked_number, less_number}
use Rattle.laws_indices.proofs.Sums.{sum_one, sum_all}

module _ (c : ℕ) (words : List ℕ) (holders : List (Option ℕ)) where
  -- ---- what the number in the head tells

  module _ (busy : ℕ) (good : Good c words holders busy) where
    -- where the set is not locked, the head counts the held indices and the calls at work, at most `c`
    pub counts_right : counted_in words ≢ locked → (counted_in words ≡ held_below holders c + busy) × (held_below holders c + busy ≤ c)
    counts_right = grind (arith, counts_all)

    -- while a call takes an index or gives one back, the head is not locked
    pub unlocked_for : 1 ≤ busy → counted_in words ≢ locked
    unlocked_for = grind (arith, is_open)

    -- where the number of indices that are held is 0, nobody holds one
    pub nobody : held_below holders c ≡ 0 → (i : ℕ) → holder holders i ≡ None
    nobody none i = ⊎_elim within past (cases_lt i c)
      where
        -- no index of the set has a holder
        within : i < c → holder holders i ≡ None
        within below =
            let one = sum_one (λ j. one_held (holder holders j)) c i below in
            none_if_zero (holder holders i) (omega arith)

        -- an index beyond the set has no holder
        past : c ≤ i → holder holders i ≡ None
        past more = let long = good.long in get_or_past holders i None (omega arith)

    -- while a call takes an index or gives one back, some flag is free
    pub some_free : 1 ≤ busy → ((i : ℕ) → i < c → is_claimed c words i ≡ true) → ⊥
    some_free = grind (arith, sum_all, holder, one_if_some, counts_right, unlocked_for)

  -- ---- a word that is not a word of flags

  -- a change of the head or of a next index leaves the words right, where the head counts
  -- what it should count
  moves_word : (n x busy busy' : ℕ) → n ≤ c → Good c words holders busy
      → Tally c (counted_in (set words n x)) (held_below holders c + busy') → Good c (set words n x) holders busy'
  moves_word = grind (arith, length-set, claims_stay)

  -- a store of a next index leaves the words right
  pub stores_next : (index x busy : ℕ) → index < c → Good c words holders busy → Good c (set words (1 + index) x) holders busy
  stores_next index x busy below good =
      let same : counted_in words ≡ counted_in (set words (1 + index) x) = ap borrowed (sym (head_stays c words (1 + index) x (omega arith))) in
      moves_word (1 + index) x busy busy (omega arith) good (rw (← same) good.tally)

  -- ---- the head

  module _ (busy : ℕ) where
    -- a new head counts what its value says
    new_head : (x : ℕ) → Good c words holders busy → counted_in (set words 0 x) ≡ borrowed x
    new_head x good = let wide = good.wide in ap borrowed (get_or-set_same words 0 x 0 (omega arith))

    -- the exchange by which an acquire takes: the head counts one more
    pub takes : (next : ℕ) → Good c words holders busy → counted_in words ≢ locked → counted_in words ≢ c
        → Good c (set words 0 (head_taken (head_of words) next)) holders (busy + 1)
    takes next good unlocked less =
        let few = good.few in
        let count_right = counts_right busy good unlocked in
        let same = count_right.0 in
        let most = count_right.1 in
        let to : ℕ = head_taken (head_of words) next in
        let head : counted_in (set words 0 to) ≡ borrowed to = new_head to good in
        let number : borrowed to ≡ counted_in words + 1 = taken_number (head_of words) next (omega arith) in
        let tally = tally_up c (counted_in words) (held_below holders c + busy) few good.tally (counted_in (set words 0 to)) unlocked less (head ∙ number) in
        let total : held_below holders c + busy + 1 ≡ held_below holders c + (busy + 1) = omega arith in
        moves_word 0 to busy (busy + 1) (omega arith) good (rw (← total) tally)

  module _ (busy : ℕ) (good : Good c words holders (busy + 1)) where
    -- a new head that counts one less is right once a call has given its index back
    lowers : (x : ℕ) → borrowed x + 1 ≡ counted_in words → Good c (set words 0 x) holders busy
    lowers x less =
        let head : counted_in (set words 0 x) ≡ borrowed x = new_head (busy + 1) x good in
        let total : held_below holders c + (busy + 1) ≡ held_below holders c + busy + 1 = omega arith in
        moves_word 0 x (busy + 1) busy (omega arith) good
        (tally_down c (counted_in words) (held_below holders c + (busy + 1)) good.few good.tally
        (counted_in (set words 0 x)) (held_below holders c + busy) total (omega arith))

    -- the head counts the held indices, the other calls at work and this one, and at most `c`
    pub some_counted : (1 ≤ counted_in words) × (counted_in words ≡ held_below holders c + busy + 1) × (counted_in words ≤ c)
    some_counted = grind arith

    -- the exchange by which a release gives back: the head counts one less
    pub gives : (index : ℕ) → Good c (set words 0 (head_given_back (head_of words) index)) holders busy
    gives index = lowers (head_given_back (head_of words) index) (given_number (head_of words) index some_counted.0)

    -- the subtraction by which a release gives back: the head counts one less
    pub subtracts : Good c (set words 0 ((head_of words + (2 ^ 64 - 1)) % 2 ^ 64)) holders busy
    subtracts = lowers ((head_of words + (2 ^ 64 - 1)) % 2 ^ 64) (less_number (head_of words) some_counted.0)

    -- the exchange by which a release gives the last index back locks the set
    pub shuts : (index : ℕ) → counted_in words ≡ 1 → Good c (set words 0 (head_locked (head_of words) index)) holders busy
    shuts index one =
        let to : ℕ = head_locked (head_of words) index in
        let head : counted_in (set words 0 to) ≡ borrowed to = new_head (busy + 1) to good in
        let total : held_below holders c + (busy + 1) ≡ held_below holders c + busy + 1 = omega arith in
        moves_word 0 to (busy + 1) busy (omega arith) good
        (tally_shut c (counted_in words) (held_below holders c + (busy + 1)) good.few good.tally
        (counted_in (set words 0 to)) (held_below holders c + busy) total one
        (head ∙ locked_number (head_of words) index))

    -- once the last index is given back nobody holds one
    pub last_given : counted_in words ≡ 1 → (i : ℕ) → holder holders i ≡ None
    last_given one = nobody (busy + 1) good (omega (arith, some_counted.1))

  -- ---- the flags

  module _ (i : ℕ) (below : i < c) where
    abbrev place : ℕ
    place = flag_word c i

    abbrev old : ℕ
    old = get_or words place 0

    -- a change of one flag, together with the holder of its index, leaves the words right
    moves_flag : (x : ℕ) (o : Option ℕ) {busy busy' : ℕ} → is_claimed c (set words place x) i ≡ is_some o
        → ((j : ℕ) → j ≢ i → is_claimed c (set words place x) j ≡ is_claimed c words j)
        → held_below (set holders i o) c + busy' ≡ held_below holders c + busy → Good c words holders busy
        → Good c (set words place x) (set holders i o) busy'
    moves_flag x o here others total good =
        let same : counted_in words ≡ counted_in (set words place x) = ap borrowed (sym (head_stays c words place x (omega arith))) in
        record {
          some = good.some;
          few = good.few;
          wide = length-set words place x ∙ good.wide;
          long = length-set holders i o ∙ good.long;
          flags = λ j within. ⊎_elim
              (λ e. ap (is_claimed c (set words place x)) e
              ∙ (here ∙ sym
              (ap is_some (ap (holder (set holders i o)) e ∙ get_or-set_same holders i o None (let long = good.long in omega arith)))))
              (λ ne. others j ne ∙ (good.flags j within ∙ sym (ap is_some (get_or-set_other holders i j o None ne)))) (cases_eq j i);
          tally = rw (total, ← same) good.tally;
        }

    -- the word of the flag is one of the set's
    within : (busy : ℕ) → Good c words holders busy → place < length words
    within busy good = let wide = good.wide in let low = flag_within c i below in omega arith

    -- an acquire sets a flag that was clear, and holds the index
    pub claims : (p busy : ℕ) → is_claimed c words i ≡ false → Good c words holders (busy + 1)
        → Good c (set words place (bit_or old (flag i))) (set holders i (Some p)) busy
    claims p busy clear good =
        let in_words = within (busy + 1) good in
        let none : one_held (holder holders i) ≡ 0 = ap one_held (none_if_not (holder holders i) (sym (good.flags i below) ∙ clear)) in
        let more = held_below_set holders c i (Some p) below good.long in
        moves_flag (bit_or old (flag i)) (Some p) (claim_sets c words i in_words) (claim_leaves c words i in_words) (omega arith) good

    -- a claim of a flag, whether it stands already or not, leaves the flags that stand
    pub still_claimed : (busy j : ℕ) → Good c words holders busy → is_claimed c words j ≡ true → is_claimed c (set words place (bit_or old (flag i))) j ≡ true
    still_claimed = grind (arith, set, flag, claim_sets, within, claim_leaves, cases_eq)

    -- a claim of a flag that stands already leaves the words right for the same holders
    pub claims_again : (busy : ℕ) → is_claimed c words i ≡ true → Good c words holders busy → Good c (set words place (bit_or old (flag i))) holders busy
    claims_again busy stood good =
        let same : counted_in words ≡ counted_in (set words place (bit_or old (flag i))) =
        ap borrowed (sym (head_stays c words place (bit_or old (flag i)) (omega arith))) in
        record {
          some = good.some;
          few = good.few;
          wide = length-set words place (bit_or old (flag i)) ∙ good.wide;
          long = good.long;
          flags = λ j below_c. ⊎_elim
              (λ e. still_claimed busy j good (ap (is_claimed c words) e ∙ stood) ∙ (sym (ap (is_claimed c words) e ∙ stood) ∙ good.flags j below_c))
              (λ ne. claim_leaves c words i (within busy good) j ne ∙ good.flags j below_c) (cases_eq j i);
          tally = rw (← same) good.tally;
        }

    -- an index whose flag is clear is held by nobody
    pub was_free : (busy : ℕ) → is_claimed c words i ≡ false → Good c words holders busy → holder holders i ≡ None
    was_free busy clear good = none_if_not (holder holders i) (sym (good.flags i below) ∙ clear)

    -- a release clears the flag of an index that its party holds, and nobody holds it then
    pub frees : (p busy : ℕ) → holder holders i ≡ Some p → Good c words holders busy
        → Good c (set words place (bit_and old (2 ^ 64 - 1 - flag i))) (set holders i None) (busy + 1)
    frees p busy holds good =
        let in_words = within busy good in
        let one : one_held (holder holders i) ≡ 1 = ap one_held holds in
        let less = held_below_set holders c i None below good.long in
        moves_flag (bit_and old (2 ^ 64 - 1 - flag i)) None (clear_clears c words i in_words)
        (clear_leaves c words i in_words) (omega arith) good
