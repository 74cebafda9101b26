-- The numbers of the tickets that were sent and received: they are 0, 1, 2 and so on, and a beginning of the
-- tickets has a beginning of the numbers.
use Rattle.std.proofs.Common.{◌≡◌, ℕ, zero, suc, ◌+◌, List, [], ◌∷◌, ◌++◌, length, take, sym, ap, ◌∙◌, arith}
use Rattle.std.proofs.lemmas.List.{length-map, map-append, take-map}
use Rattle.std.specs.List.{range_with_len}
use Rattle.zero_copy_streams.specs.Tickets.{numbers_of}

-- one ticket more has one number more
pub one_more : (tickets more : List (ℕ × ℕ)) (ticket : ℕ × ℕ) → more ≡ tickets ++ ticket ∷ [] → numbers_of more ≡ numbers_of tickets ++ ticket.0 ∷ []
one_more tickets more ticket is = ap numbers_of is ∙ map-append (λ (t : ℕ × ℕ). t.0) tickets (ticket ∷ [])

-- a range with its next number appended is the range that is one longer
range_more : (first n number : ℕ) → number ≡ first + n → range_with_len first n ++ number ∷ [] ≡ range_with_len first (n + 1)
range_more first zero number is = ap (λ x. x ∷ []) (omega arith)
range_more first (suc n) number is =
    let on : suc (n + 1) ≡ suc n + 1 = omega arith in
    ap (λ xs. first ∷ xs) (range_more (first + 1) n number (omega arith)) ∙ ap (range_with_len first) on

-- what was appended to a list, said with an equal list and an equal number
pub sent_then : (more numbers first : List ℕ) (n m : ℕ) → more ≡ numbers ++ n ∷ [] → numbers ≡ first → n ≡ m → more ≡ first ++ m ∷ []
sent_then more numbers first n m is same next = is ∙ (ap (λ xs. xs ++ n ∷ []) same ∙ ap (λ k. first ++ k ∷ []) next)

-- the first n numbers, with the next one appended, are the first n + 1
pub next_sent : (numbers more : List ℕ) (n : ℕ) → numbers ≡ range_with_len 0 n → more ≡ numbers ++ n ∷ [] → more ≡ range_with_len 0 (n + 1)
next_sent numbers more n are is = is ∙ (ap (λ xs. xs ++ n ∷ []) are ∙ range_more 0 n n (omega arith))

-- a beginning of the tickets has a beginning of their numbers
pub begins : (sent received : List (ℕ × ℕ)) → received ≡ take (length received) sent
    → numbers_of received ≡ take (length (numbers_of received)) (numbers_of sent)
begins sent received is =
    ap numbers_of is
    ∙ (sym (take-map (λ (t : ℕ × ℕ). t.0) (length received) sent)
    ∙ ap (λ n. take n (numbers_of sent)) (sym (length-map received (λ (t : ℕ × ℕ). t.0))))
