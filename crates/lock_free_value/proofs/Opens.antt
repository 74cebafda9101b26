-- The words with which a value's table opens, as they are filled in.
use Rattle.std.proofs.Common.{◌≡◌, ℕ, zero, suc, ◌+◌, ◌*◌, ◌<◌, nat_lt, if◌then◌else◌, Bool, true, false, List, []}
use Rattle.std.proofs.Common.{◌∷◌, ◌++◌, length, get_or, replicate, set, refl, sym, ap, ◌∙◌, length-append, arith}
use Rattle.lock_free_value.proofs.Names.{nat_tests, flat_map-append, sum_by-append}
use Rattle.lock_free_value.proofs.Names.{Coding, IsCoding, stores, stored, takes_producer, gives_producer}
use Rattle.lock_free_value.proofs.Names.{HasProducer}
use Rattle.std.proofs.lemmas.List.{length-replicate, replicate_more}
use Rattle.lock_free_value.specs.Roles.{LacksProducer}
use Rattle.laws_value.proofs.Core.{set_at, zeros as zero_there}
use Rattle.history_value.specs.ValueOpened.{first_stores, stored_once, stored_times, opened_view, opened_cells}
use Rattle.history.proofs.Calls.{set_left}
use Rattle.history.proofs.Rooms.{replicate_both}
use Rattle.history_value.proofs.ValueOpened.{set_right}
use Rattle.history.proofs.Mixed.{mix, mix_step, mix_length, mix_all}

-- A version below 2 is taken for 2; any version is one more than the number of stores that open the
-- value at it.
pub first_is : (version : ℕ) → (if nat_lt version 2 then 2 else version) ≡ first_stores version + 1
first_is version = grind (arith, suc, nat_lt, nat_tests)

module _ {T : Type 0} (code : Coding T) (value : T) (version : ℕ) where
  -- the words of the first cell in the end
  abbrev firsts : List ℕ
  firsts = if nat_lt 2 version then code.words_of value else replicate code.size 0

  -- the words of a value's table once the first `at` words of both cells are filled in
  abbrev pub filling : ℕ → List ℕ
  filling at = (first_stores version + 1) ∷ 1 ∷ ((mix at firsts (replicate code.size 0) ++ mix at (code.words_of value) (replicate code.size 0)) ++ 0 ∷ [])

-- The first value has the words `ws`. Both cells of the table are filled in word by word.
module _ {T : Type 0} (code : Coding T) (law : IsCoding code) (value : T) (version : ℕ) where
  -- The words of the value.
  abbrev ws : List ℕ
  ws = code.words_of value

  -- As many zeros as a value has words.
  abbrev zeros : List ℕ
  zeros = replicate code.size 0

  -- The words of the first cell in the end.
  abbrev first_words : List ℕ
  first_words = firsts code value version

  -- The table once the first `at` words of both cells are filled in.
  abbrev filled : ℕ → List ℕ
  filled at = filling code value version at

  -- These zeros are as many as a value has words.
  zeros_long : length zeros ≡ code.size
  zeros_long = length-replicate code.size 0

  -- The words of the first cell are as many as a value has.
  firsts_long : length first_words ≡ code.size
  firsts_long = go (nat_lt 2 version) refl
    where
      -- the cases are whether the value opens above version 2
      go : (b : Bool) → nat_lt 2 version ≡ b → length first_words ≡ code.size
      go true t = rw t (law.sized value)
      go false t = rw t zeros_long

  -- the word that is stored at place `at` of the first cell
  pub first_word : (at : ℕ) → (if nat_lt 2 version then get_or ws at 0 else 0) ≡ get_or first_words at 0
  first_word at = go (nat_lt 2 version) refl
    where
      -- the cases are whether the value opens above version 2
      go : (b : Bool) → nat_lt 2 version ≡ b → (if nat_lt 2 version then get_or ws at 0 else 0) ≡ get_or first_words at 0
      go true t = rw t refl
      go false t = rw t (sym (zero_there code.size at 0))

  -- Zeros with the version and a free role put in are the table with no word filled in.
  pub begins : set (set (replicate (code.size * 2 + 2 + 1) 0) 0 (first_stores version + 1)) 1 1 ≡ filled 0
  begins = grind (arith, suc, replicate, replicate_both, replicate_more, set, first_stores)

  module _ (at : ℕ) (below : at < code.size) where
    -- The first cell keeps its length.
    xs_long : length (mix at first_words zeros) ≡ code.size
    xs_long = grind (arith, firsts_long, zeros_long, mix_length)

    -- The second cell keeps its length.
    ys_long : length (mix at ws zeros) ≡ code.size
    ys_long = grind (arith, zeros_long, mix_length)

    -- with the next word of the value in both cells, one word more of both is filled in
    pub steps : set (set (filled at) (2 + code.size + at) (get_or ws at 0)) (2 + at) (get_or first_words at 0) ≡ filled (suc at)
    steps =
        let a = firsts_long in
        let b = zeros_long in
        let w = law.sized value in
        let xl = xs_long in
        let yl = ys_long in
        let stores_first = first_stores version + 1 in
        let xs = mix at first_words zeros in
        let ys = mix at ws zeros in
        let both = length-append xs ys in
        let place : code.size + at ≡ length xs + at = omega arith in
        -- The first store puts word `at` of the value into the second cell.
        let second : set (filled at) (2 + code.size + at) (get_or ws at 0) ≡ stores_first ∷ 1 ∷ ((xs ++ mix (suc at) ws zeros) ++ 0 ∷ []) =
        set_at stores_first 1 ((xs ++ ys) ++ 0 ∷ []) (2 + code.size + at) (code.size + at) (get_or ws at 0) (omega arith)
        ∙ ap (λ zs. stores_first ∷ 1 ∷ zs) (set_left (xs ++ ys) (0 ∷ []) (code.size + at) (get_or ws at 0) (omega arith)
        ∙ ap (λ zs. zs ++ 0 ∷ [])
        (ap (λ k. set (xs ++ ys) k (get_or ws at 0)) place
        ∙ (set_right xs ys at (get_or ws at 0) ∙ ap (λ zs. xs ++ zs) (mix_step at ws zeros (omega arith) (omega arith)))))
        in
        let more = length-append xs (mix (suc at) ws zeros) in
        -- The second store puts word `at` of what the first cell has in the end into the first cell.
        ap (λ zs. set zs (2 + at) (get_or first_words at 0)) second
        ∙ (set_at stores_first 1 ((xs ++ mix (suc at) ws zeros) ++ 0 ∷ []) (2 + at) at (get_or first_words at 0) refl
        ∙ ap (λ zs. stores_first ∷ 1 ∷ zs) (set_left (xs ++ mix (suc at) ws zeros) (0 ∷ []) at (get_or first_words at 0) (omega arith)
        ∙ ap (λ zs. zs ++ 0 ∷ []) (set_left xs (mix (suc at) ws zeros) at (get_or first_words at 0) (omega arith)
        ∙ ap (λ zs. zs ++ mix (suc at) ws zeros) (mix_step at first_words zeros (omega arith) (omega arith)))))

  -- One iteration of `open` stores the word `at` into both cells, and leaves the words filled in up to
  -- at + 1.
  pub turns : (at n word first : ℕ) (items : List ℕ) → at < code.size → items ≡ filled at → n ≡ code.size
      → word ≡ get_or ws at 0 → first ≡ (if nat_lt 2 version then word else 0)
      → set (set items (2 + n + at) word) (2 + at) first ≡ filled (at + 1)
  turns at n word first items below here size is is_first =
      let one : first ≡ get_or first_words at 0 = is_first ∙ (ap (λ w. if nat_lt 2 version then w else 0) is ∙ first_word at) in
      let next : suc at ≡ at + 1 = omega arith in
      ap (λ zs. set (set zs (2 + n + at) word) (2 + at) first) here
      ∙ (ap (λ k. set (set (filled at) (2 + k + at) word) (2 + at) first) size
      ∙ (ap (λ w. set (set (filled at) (2 + code.size + at) w) (2 + at) first) is
      ∙ (ap (λ w. set (set (filled at) (2 + code.size + at) (get_or ws at 0)) (2 + at) w) one ∙ (steps at below ∙ ap filled next))))

  -- The words of both cells in the end are those that the specs give for the opening.
  cells_are : (n : ℕ) → (if nat_lt 2 n then ws else zeros) ++ ws ≡ opened_cells code value (first_stores n)
  cells_are n = grind (arith, suc, nat_lt, nat_tests)

  -- With all words filled in, the table has the words of its opening.
  pub ends : filled code.size ≡ (first_stores version + 1) ∷ 1 ∷ (opened_cells code value (first_stores version) ++ 0 ∷ [])
  ends = grind (arith, mix_all, firsts_long, zeros_long, first_stores, mix, cells_are)

-- ---- what the first pass knows

module _ {T : Type 0} (value : T) where
  -- After at least one store something is stored.
  times_some : (n : ℕ) → 0 < n → 0 < length (stored (stored_times value n))
  times_some n n_positive = grind (arith, suc, length, stored, stored_times, stored_once, flat_map-append, stores, length-append)

  -- At least one store opens a value.
  stores_some : (version : ℕ) → 0 < first_stores version
  stores_some version = grind (arith, suc)

  -- At least one value was stored in the history with which a value opens.
  pub opened_some : (size version : ℕ) → 0 < length (stored (opened_view value size version).seen)
  opened_some size version = grind (arith, first_stores, times_some, stores_some, length, stored, stored_times, flat_map-append, stores, length-append)

  -- the party has the role after any number of stores
  times_has : (n : ℕ) → HasProducer (stored_times value n)
  times_has zero = refl
  times_has (suc n) =
      omega (
        arith,
        sum_by-append takes_producer (stored_times value n) (stored_once value),
        sum_by-append gives_producer (stored_times value n) (stored_once value),
        times_has n,
      )

  -- the role has been given back after any number of stores
  pub opened_lacks : (size version : ℕ) → LacksProducer (opened_view value size version).made
  opened_lacks size version = grind (arith, first_stores, sum_by-append, takes_producer, stored_times, gives_producer, times_has)
