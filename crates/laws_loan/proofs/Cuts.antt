-- The words of a loan channel are those of its parts, one behind another: an operation on a word of a part is the same
-- operation on the whole, and leaves the other parts.
use Rattle.laws_loan.proofs.Names.{◌≡◌, ℕ, ◌+◌, ◌-◌, ◌^◌, ◌<◌, ◌==◌, if◌then◌else◌, List, ◌++◌, length, get_or, set}
use Rattle.laws_loan.proofs.Names.{refl, ap, ◌∙◌, length-set, get_or-append-add, get_or_append_left, set-append_left}
use Rattle.laws_loan.proofs.Names.{set-append_right, shifted, Ask, Want, ask_of, old_of, words_after, change_of}
use Rattle.std.proofs.Common.{arith}
use Rattle.steps.specs.Ask.{written}
use Rattle.steps.specs.Queues.Ring.{word_at}
use Rattle.steps.specs.declared.ask.Want.TheVariants as wants

-- the operation is on one of these words
abbrev pub IsOn : List ℕ → Want (Unit {0}) → Type 0
IsOn ws (wants.Ask ask) = ask.word < length ws
IsOn ws want = Unit {0}

-- ---- a part behind others

-- a word of a part is, in the whole, as far behind the words before the part
place : (xs ws : List ℕ) (n : ℕ) → length xs + length ws < 2 ^ 64 → n < length ws → word_at (length xs) n ≡ length xs + n
place = omega arith

-- what a load of a word of a part finds in the whole
read : (xs ws zs : List ℕ) (n : ℕ) → length xs + length ws < 2 ^ 64 → n < length ws → get_or (xs ++ (ws ++ zs)) (word_at (length xs) n) 0 ≡ get_or ws n 0
read xs ws zs n few below =
    ap (λ i. get_or (xs ++ (ws ++ zs)) i 0) (place xs ws n few below)
    ∙ (get_or-append-add xs (ws ++ zs) n 0 ∙ get_or_append_left ws zs 0 n below)

-- a store into a word of a part that has words before it and behind it changes that word of the
-- part, and nothing else
stored : (xs ws zs : List ℕ) (n v : ℕ) → length xs + length ws < 2 ^ 64 → n < length ws
    → set (xs ++ (ws ++ zs)) (word_at (length xs) n) v ≡ xs ++ (set ws n v ++ zs)
stored xs ws zs n v few below =
    let behind : length xs + n - length xs ≡ n = omega arith in
    ap (λ i. set (xs ++ (ws ++ zs)) i v) (place xs ws n few below)
    ∙ (set-append_right xs (ws ++ zs) (length xs) (length xs + n) v refl (omega arith)
    ∙ ap (λ ys. xs ++ ys) (ap (λ i. set (ws ++ zs) i v) behind ∙ set-append_left ws zs n v below))

module _ (xs ws zs : List ℕ) (few : length xs + length ws < 2 ^ 64) where
  -- an operation on a word of the part finds in the whole what it finds in the part
  pub shifted_old : (want : Want (Unit {0})) → IsOn ws want → old_of (xs ++ (ws ++ zs)) (ask_of (shifted (length xs) want)) ≡ old_of ws (ask_of want)
  shifted_old = grind (arith, read)

  -- an operation on a word of the part changes that part of the whole, and nothing else
  pub shifted_words : (want : Want (Unit {0})) → IsOn ws want
      → words_after (xs ++ (ws ++ zs)) (ask_of (shifted (length xs) want)) ≡ xs ++ (words_after ws (ask_of want) ++ zs)
  shifted_words = grind (arith, set, word_at, length, written, read, stored)

  -- an operation on a word of the part counts as many changes in the whole as in the part
  ask_change : (ask : Ask) → ask.word < length ws
      → change_of (xs ++ (ws ++ zs)) (ask_of (shifted (length xs) (wants.Ask ask))) ≡ change_of ws (ask_of (wants.Ask ask))
  ask_change ask below =
      let new = written ask.op (get_or ws ask.word 0) in
      let long : length (set ws ask.word new) ≡ length ws = length-set ws ask.word new in
      let within : ask.word < length (set ws ask.word new) = omega arith in
      let room : length xs + length (set ws ask.word new) < 2 ^ 64 = omega arith in
      let word = word_at (length xs) ask.word in
      let after : get_or (words_after (xs ++ (ws ++ zs)) (ask_of (shifted (length xs) (wants.Ask ask)))) word 0
      ≡ get_or (set ws ask.word new) ask.word 0 =
      ap (λ l. get_or l word 0) (shifted_words (wants.Ask ask) below) ∙ read xs (set ws ask.word new) zs ask.word room within
      in
      ap (λ n. if n == get_or (xs ++ (ws ++ zs)) word 0 then 0 else 1) after
      ∙ ap (λ n. if get_or (set ws ask.word new) ask.word 0 == n then 0 else 1) (read xs ws zs ask.word few below)

  -- any operation on the part counts as many changes in the whole as in the part
  pub shifted_change : (want : Want (Unit {0})) → IsOn ws want → change_of (xs ++ (ws ++ zs)) (ask_of (shifted (length xs) want)) ≡ change_of ws (ask_of want)
  shifted_change (wants.Ask ask) below = ask_change ask below
  shifted_change want on = refl

-- ---- the first part

module _ (ws zs : List ℕ) where
  -- an operation on a word of the first part finds in the whole what it finds in the part
  pub first_old : (want : Want (Unit {0})) → IsOn ws want → old_of (ws ++ zs) (ask_of want) ≡ old_of ws (ask_of want)
  first_old (wants.Ask ask) below = get_or_append_left ws zs 0 ask.word below
  first_old want on = refl

  -- an operation on a word of the first part changes that part of the whole, and nothing else
  pub first_words : (want : Want (Unit {0})) → IsOn ws want → words_after (ws ++ zs) (ask_of want) ≡ words_after ws (ask_of want) ++ zs
  first_words (wants.Ask ask) below =
      ap (λ old. set (ws ++ zs) ask.word (written ask.op old)) (get_or_append_left ws zs 0 ask.word below)
      ∙ set-append_left ws zs ask.word (written ask.op (get_or ws ask.word 0)) below
  first_words want on = refl
