-- The number and the slot come back out of a word by division and remainder.
use Rattle.std.proofs.Common.{◌≡◌, ℕ, ◌/◌, ◌%◌, ◌<◌, ap, sym, ◌∙◌}
use Rattle.std.proofs.lemmas.Nat.{div-mul-add, mod-mul-add}
use Rattle.zero_copy_loans.specs.Words.{word_of}

-- The word `word` holds a number and a slot below `room`.
module _ (room number slot word : ℕ) (is : word_of room number slot ≡ word) (within : slot < room) where
  pub slot_in_word : slot ≡ word % room
  slot_in_word = sym (mod-mul-add number room slot within) ∙ ap (λ w. w % room) is

  pub number_in_word : number ≡ word / room
  number_in_word = sym (div-mul-add number room slot within) ∙ ap (λ w. w / room) is
