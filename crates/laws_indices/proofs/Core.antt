-- The words of a unique index set, and who holds what; and what each operation on a word does to both. The next indices
-- only propose, so nothing is said of them. No event and no party is in it.
use Rattle.std.proofs.Common.{◌≡◌, ◌≢◌, ℕ, ◌+◌, ◌-◌, ◌/◌, ◌^◌, ◌<◌, ◌≤◌, ⊎_elim, Bool, true, false, bit_and, bit_or}
use Rattle.std.proofs.Common.{Option, Some, None, is_some, List, length, get_or, set, sym, ap, ◌∙◌, arith}
use Rattle.std.proofs.Common.{get_or-set_same, get_or-set_other}
use Rattle.laws_indices.proofs.Names.{cases_eq, flag_word, flag, has_flag, borrowed, locked}
use Rattle.steps.proofs.Flags.Words.{with_stands, with_leaves, without_clear, without_leaves}
use Rattle.laws_indices.proofs.Count.{Tally}
use Rattle.laws_indices.proofs.Sums.{sum_below, sum_moved}

-- ---- the words

-- how many words the set has: the head, the next indices and the words of flags
abbrev pub size : ℕ → ℕ
size capacity = 1 + capacity + (capacity + 63) / 64

-- the head, which is the first word
abbrev pub head_of : List ℕ → ℕ
head_of words = get_or words 0 0

abbrev pub counted_in : List ℕ → ℕ
counted_in words = borrowed (head_of words)

-- ---- who holds what

-- who holds the index `i`, if any party does
abbrev pub holder : List (Option ℕ) → ℕ → Option ℕ
holder holders i = get_or holders i None

-- 1 if an index has a holder, else 0
abbrev pub one_held : Option ℕ → ℕ
one_held None = 0
one_held (Some p) = 1

-- how many indices below n are held
abbrev pub held_below : List (Option ℕ) → ℕ → ℕ
held_below holders n = sum_below (λ i. one_held (holder holders i)) n

-- once the holder of an index changes, the number of indices that are held changes by that index alone
pub held_below_set : (holders : List (Option ℕ)) (n i : ℕ) (o : Option ℕ) → i < n → length holders ≡ n
    → held_below (set holders i o) n + one_held (holder holders i) ≡ held_below holders n + one_held o
held_below_set holders n i o below long =
    let here : one_held (holder (set holders i o) i) ≡ one_held o = ap one_held (get_or-set_same holders i o None (omega arith)) in
    let moved =
    sum_moved (λ j. one_held (holder (set holders i o) j)) (λ j. one_held (holder holders j)) n i below
    (λ j ne. ap one_held (get_or-set_other holders i j o None ne)) in
    omega arith

-- an index that counts for 0 has no holder
pub none_if_zero : (o : Option ℕ) → one_held o ≤ 0 → o ≡ None
none_if_zero = grind arith

-- an index with a holder counts for 1
pub one_if_some : (o : Option ℕ) → is_some o ≡ true → one_held o ≡ 1
one_if_some = grind arith

-- an index whose holder's test is false has none
pub none_if_not : (o : Option ℕ) → is_some o ≡ false → o ≡ None
none_if_not = grind arith

module _ (c : ℕ) where
  -- ---- the flags

  -- the word of the flag of an index is one of the set's
  pub flag_within : (i : ℕ) → i < c → flag_word c i < size c
  flag_within = omega arith

  -- whether the flag of the index `i` stands
  abbrev pub is_claimed : List ℕ → ℕ → Bool
  is_claimed words i = has_flag (get_or words (flag_word c i) 0) i

  module _ (words : List ℕ) where
    -- a change of the head or of a next index leaves the flags
    pub claims_stay : (n x j : ℕ) → n ≤ c → is_claimed (set words n x) j ≡ is_claimed words j
    claims_stay n x j low = ap (λ z. has_flag z j) (get_or-set_other words n (flag_word c j) x 0 (λ e. absurd (omega arith)))

    -- a change of the word of the flag `i` leaves the flag `j`, where the word has the
    -- same flag `j` as before
    pub claim_stays : (i x j : ℕ) → flag_word c i < length words
        → (i / 64 ≡ j / 64 → has_flag x j ≡ has_flag (get_or words (flag_word c i) 0) j)
        → is_claimed (set words (flag_word c i) x) j ≡ is_claimed words j
    claim_stays i x j within same = ⊎_elim one_word other (cases_eq (i / 64) (j / 64))
      where
        -- for an index whose flag is in the written word, its flag is that of the new value
        one_word : i / 64 ≡ j / 64 → is_claimed (set words (flag_word c i) x) j ≡ is_claimed words j
        one_word e =
            let here : flag_word c j ≡ flag_word c i = omega arith in
            ap (λ z. has_flag (get_or (set words (flag_word c i) x) z 0) j) here
            ∙ (ap (λ z. has_flag z j) (get_or-set_same words (flag_word c i) x 0 within) ∙ (same e ∙ ap (λ z. has_flag (get_or words z 0) j) (sym here)))

        -- a flag in another word than the written one stays
        other : i / 64 ≢ j / 64 → is_claimed (set words (flag_word c i) x) j ≡ is_claimed words j
        other ne = ap (λ z. has_flag z j) (get_or-set_other words (flag_word c i) (flag_word c j) x 0 (λ e. ne (omega arith)))

    -- a write of any word but the first leaves the head
    pub head_stays : (n x : ℕ) → 1 ≤ n → head_of (set words n x) ≡ head_of words
    head_stays n x high = get_or-set_other words n 0 x 0 (λ e. absurd (omega arith))

    module _ (i : ℕ) (within : flag_word c i < length words) where
      abbrev word : ℕ
      word = get_or words (flag_word c i) 0

      -- setting a flag in its word makes it stand
      pub claim_sets : is_claimed (set words (flag_word c i) (bit_or word (flag i))) i ≡ true
      claim_sets = ap (λ z. has_flag z i) (get_or-set_same words (flag_word c i) (bit_or word (flag i)) 0 within) ∙ with_stands word i

      -- setting a flag leaves the other flags
      pub claim_leaves : (j : ℕ) → j ≢ i → is_claimed (set words (flag_word c i) (bit_or word (flag i))) j ≡ is_claimed words j
      claim_leaves j ne = claim_stays i (bit_or word (flag i)) j within (λ same. with_leaves word i j (λ e. ne (omega arith)))

      -- clearing a flag in its word makes it clear
      pub clear_clears : is_claimed (set words (flag_word c i) (bit_and word (2 ^ 64 - 1 - flag i))) i ≡ false
      clear_clears = grind (arith, has_flag, get_or-set_same, flag, without_clear)

      -- clearing a flag leaves the other flags
      pub clear_leaves : (j : ℕ) → j ≢ i → is_claimed (set words (flag_word c i) (bit_and word (2 ^ 64 - 1 - flag i))) j ≡ is_claimed words j
      clear_leaves = grind (arith, claim_stays, flag, without_leaves)

  -- ---- what holds of the words and the holders

  -- The words of a set with these holders, while `busy` calls are taking an index or giving one back: a
  -- flag stands just where its index is held, and the head counts the indices that are held and the busy
  -- calls, or is locked.
  pub record Good (words : List ℕ) (holders : List (Option ℕ)) (busy : ℕ) : Type 0 where
    -- the capacity, and how many words and holders there are
    pub some : 1 ≤ c
    pub few : c < locked
    pub wide : length words ≡ size c
    pub long : length holders ≡ c
    -- a flag stands just where its index is held
    pub flags : (i : ℕ) → i < c → is_claimed words i ≡ is_some (holder holders i)
    -- the head counts what is held and the busy calls, or is locked
    pub tally : Tally c (counted_in words) (held_below holders c + busy)
