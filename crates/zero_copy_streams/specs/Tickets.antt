-- What a stream's queue of tickets carries.
use Rattle.std.specs.Prelude.{ℕ, List, map}

-- the numbers of tickets
abbrev pub numbers_of : List (ℕ × ℕ) → List ℕ
numbers_of tickets = map (λ ticket. ticket.0) tickets
