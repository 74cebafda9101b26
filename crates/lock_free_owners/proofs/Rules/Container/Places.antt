-- The words of a container's elements lie in its table.
use Rattle.lock_free_owners.proofs.Names.{◌≡◌, ℕ, suc, ◌+◌, ◌*◌, ◌<◌, ◌≤◌, arith, change_word, count_word}
use Rattle.lock_free_owners.proofs.Names.{element_word, total_words}
use Rattle.std.proofs.Math.Nat.{mul-suc, mul-le-mul_left}

-- The change number of an index is a word of the table.
in_counts : (cap m index words : ℕ) → words ≡ 2 + (cap + cap) + m + 1 → index < cap → 2 + cap + index < words
in_counts cap m index words e l = omega arith

-- The number of changes is a word of the table.
in_change : (cap m words : ℕ) → words ≡ 2 + (cap + cap) + m + 1 → 1 + cap < words
in_change cap m words e = omega arith

-- A word of an element is a word of the table.
in_elements : (cap m n at words : ℕ) → words ≡ 2 + (cap + cap) + m + 1 → n + at < m → 2 + (cap + cap) + (n + at) < words
in_elements cap m n at words e l = omega arith

-- Word `at` of a row of `size` words that ends below m lies below m.
before : (size n m at : ℕ) → n + size ≤ m → at < size → n + at < m
before size n m at l k = omega arith

-- The row of words of an index ends within the rows of all indices.
row : (size index cap : ℕ) → index < cap → size * index + size ≤ size * cap
row size index cap index_below_cap = grind (arith, suc, mul-le-mul_left, mul-suc)

module _ (cap size words : ℕ) (sized : words ≡ total_words cap size + 1) where
  -- The number of changes lies in such a table.
  pub change_fits : change_word cap < words
  change_fits = in_change cap (size * cap) words sized

  -- The change number of an index lies in such a table.
  pub count_fits : (index : ℕ) → index < cap → count_word cap index < words
  count_fits index l = in_counts cap (size * cap) index words sized l

  -- Each word of the element of an index lies in such a table.
  pub element_fits : (index at : ℕ) → index < cap → at < size → element_word cap size index at < words
  element_fits index at index_below_cap at_below_size = grind (arith, in_elements, before, row)
