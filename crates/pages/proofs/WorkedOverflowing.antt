-- Worked runs of the overflowing queue's page.
use Rattle.std.proofs.Common.{◌≡◌, List, None, Some, [], ◌∷◌, ◌++◌, fold, refl}
use Rattle.pages.specs.Machine.{Begin, Next, Invoked, Responded, Turn, opening, turned}
use Rattle.pages.specs.OverflowingQueue.{Call, Pop, Push, overflowing_queue}

abbrev holding_one : List (Turn Call)
holding_one = Begin 0 (Push 1) ∷ Next 0 ∷ Next 0 ∷ Next 0 ∷ Next 0 ∷ []

-- a push into a full queue has stored its value, and a pop makes the room: the push answers None
abbrev pop_between : List (Turn Call)
pop_between =
    holding_one ++ Begin 0 (Push 2) ∷ Next 0 ∷ Next 0 ∷ Next 0 ∷ Next 0
    ∷ Begin 1 Pop ∷ Next 1 ∷ Next 1 ∷ Next 1 ∷ Next 1 ∷ Next 0 ∷ []

pop_makes_room : (fold (turned (overflowing_queue 1)) (opening (overflowing_queue 1)) pop_between).history
    ≡ Invoked 0 (Push 1) ∷ Responded 0 None ∷ Invoked 0 (Push 2) ∷ Invoked 1 Pop ∷ Responded 1 (Some 1) ∷ Responded 0 None ∷ []
pop_makes_room = refl

-- a pop has read the cell, and a push takes the oldest value off: the pop reads again
abbrev push_between : List (Turn Call)
push_between =
    holding_one ++ Begin 1 Pop ∷ Next 1 ∷ Next 1 ∷ Next 1
    ∷ Begin 0 (Push 2) ∷ Next 0 ∷ Next 0 ∷ Next 0 ∷ Next 0 ∷ Next 0 ∷ Next 0 ∷ Next 1 ∷ Next 1 ∷ Next 1 ∷ []

pop_reads_again : (fold (turned (overflowing_queue 1)) (opening (overflowing_queue 1)) push_between).history
    ≡ Invoked 0 (Push 1) ∷ Responded 0 None ∷ Invoked 1 Pop ∷ Invoked 0 (Push 2) ∷ Responded 0 (Some 1) ∷ Responded 1 (Some 2) ∷ []
pop_reads_again = refl
