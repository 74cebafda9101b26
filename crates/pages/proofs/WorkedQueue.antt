-- Worked runs of the page of the queue of values, at values of two words.
use Rattle.std.proofs.Common.{◌≡◌, ℕ, List, None, Some, [], ◌∷◌, ◌++◌, arith, fold, refl, true, false}
use Rattle.std.specs.Prelude.{slice_index}
use Rattle.pages.specs.Machine.{Begin, Next, Invoked, Responded, Turn, opening, turned}
use Rattle.pages.specs.Queue.{Call, Pop, Popped, Push, Pushed, Written, queue}

-- how a pair is written as two words
abbrev pub pairs : Written (ℕ × ℕ)
pairs =
    record {
      size = 2;
      words_of = λ value. value.0 ∷ value.1 ∷ [];
      value_of = λ words. (slice_index words 0, slice_index words 1);
      fits = (omega arith, omega arith);
      sized = λ value. refl;
      given_back = λ value. refl;
    }

-- a push has stored one word of two, a pop finds nothing, and the push goes on
abbrev half_stored : List (Turn (Call (ℕ × ℕ)))
half_stored = Begin 0 (Push (5, 6)) ∷ Next 0 ∷ Next 0 ∷ Next 0 ∷ Begin 1 Pop ∷ Next 1 ∷ Next 1 ∷ []

words_then : (fold (turned (queue pairs 2)) (opening (queue pairs 2)) half_stored).words ≡ 0 ∷ 0 ∷ 0 ∷ 0 ∷ 5 ∷ 0 ∷ 0 ∷ 0 ∷ []
words_then = refl

push_goes_on : (fold (turned (queue pairs 2)) (opening (queue pairs 2)) (half_stored ++ Next 0 ∷ Next 0 ∷ [])).history
    ≡ Invoked 0 (Push (5, 6)) ∷ Invoked 1 Pop ∷ Responded 1 (Popped None) ∷ Responded 0 (Pushed true) ∷ []
push_goes_on = refl

-- in a queue of capacity 1 the second push is refused, and a pop takes the first value, word by word
abbrev full : List (Turn (Call (ℕ × ℕ)))
full =
    Begin 0 (Push (5, 6)) ∷ Next 0 ∷ Next 0 ∷ Next 0 ∷ Next 0 ∷ Next 0 ∷ Begin 0 (Push (7, 8)) ∷ Next 0 ∷ Next 0
    ∷ Begin 1 Pop ∷ Next 1 ∷ Next 1 ∷ Next 1 ∷ Next 1 ∷ Next 1 ∷ []

second_is_refused : (fold (turned (queue pairs 1)) (opening (queue pairs 1)) full).history
    ≡ Invoked 0 (Push (5, 6)) ∷ Responded 0 (Pushed true) ∷ Invoked 0 (Push (7, 8)) ∷ Responded 0 (Pushed false)
    ∷ Invoked 1 Pop ∷ Responded 1 (Popped (Some (5, 6))) ∷ []
second_is_refused = refl
