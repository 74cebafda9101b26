-- A room of fewer words than the model's 128 goes on as one of the model, with zeros behind
-- its words (`room_of`).
use Rattle.history.proofs.Names.{◌≡◌, ℕ, zero, suc, ◌+◌, ◌<◌, ◌≤◌, nat_lt, Bool, false, List, ◌∷◌, ◌++◌}
use Rattle.history.proofs.Names.{length, set, replicate, refl, ap, ◌∙◌, arith, length-set, nat_tests}
use Rattle.history.proofs.Names.{length-replicate, take-append-le, Coding, kept_at, read_in}
use Rattle.std.proofs.Common.{length-append}
use Rattle.steps.specs.Copied.{value_in}
use Rattle.history.specs.Rooms.{room_of}
use Rattle.history.proofs.Calls.{set_left}

-- two lists of one number together are one list of it
pub replicate_both : (a b x : ℕ) → replicate a x ++ replicate b x ≡ replicate (a + b) x
replicate_both zero b x = let same : b ≡ 0 + b = omega arith in ap (λ n. replicate n x) same
replicate_both (suc a) b x = let same : suc (a + b) ≡ suc a + b = omega arith in ap (λ xs. x ∷ xs) (replicate_both a b x) ∙ ap (λ n. replicate n x) same

-- a word that is put to its place in the room is put there in the model's room
pub room_set : (size at word : ℕ) (words : List ℕ) → at < size → kept_at (room_of size words) at word ≡ room_of size (set words at word)
room_set size at word words below = go (nat_lt (length words) size) refl
  where
    -- the room has as many words as before the word was put
    same : nat_lt (length (set words at word)) size ≡ nat_lt (length words) size
    same = ap (λ n. nat_lt n size) (length-set words at word)

    -- whether a value fits in the room or not, the model's room has the word at its place
    go : (b : Bool) → nat_lt (length words) size ≡ b → kept_at (room_of size words) at word ≡ room_of size (set words at word)
    go = grind (arith, length, set, same, set_left, length-set, nat_tests)

-- the value that the words of the room make is the one that the model's room has
pub room_read : {T : Type 0} (code : Coding T) (words : List ℕ) → read_in code (room_of code.size words) ≡ value_in code.value_of code.size words
room_read {T} code words = go (nat_lt (length words) code.size) refl
  where
    -- whether a value fits in the room or not, the model's room has its value
    go : (b : Bool) → nat_lt (length words) code.size ≡ b → read_in code (room_of code.size words) ≡ value_in code.value_of code.size words
    go = grind (arith, room_of, read_in, length-append, length, value_in, take-append-le, nat_tests)

-- a room of zeros
pub room_fresh : (size n : ℕ) → size ≤ n → n ≤ 128 → room_of size (replicate n 0) ≡ record { words = replicate 128 0 }
room_fresh = grind (arith, length, length-replicate, false, replicate_both, nat_tests)
