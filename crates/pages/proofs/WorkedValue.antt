-- Worked runs of the single value's page.
use Rattle.std.proofs.Common.{◌≡◌, List, [], ◌∷◌, fold, refl, true}
use Rattle.pages.specs.Machine.{Begin, Next, Invoked, Responded, Turn, opening, turned}
use Rattle.pages.specs.Value as single

-- a load reads its cell, a store ends, and the load goes back
abbrev disturbed : List (Turn single.Call)
disturbed =
    Begin 1 single.LoadValue ∷ Next 1 ∷ Next 1 ∷ Begin 0 (single.StoreValue 7) ∷ Next 0 ∷ Next 0 ∷ Next 0 ∷ Next 1 ∷ Next 1 ∷ Next 1 ∷ []

load_goes_back : (fold (turned single.value) (opening single.value) disturbed).history
    ≡ Invoked 1 single.LoadValue ∷ Invoked 0 (single.StoreValue 7) ∷ Responded 0 (single.Stored true) ∷ Responded 1 (single.Loaded 7) ∷ []
load_goes_back = refl

-- a store that stops before it adds 1 to the version has changed nothing
abbrev stopped_store : List (Turn single.Call)
stopped_store = Begin 0 (single.StoreValue 7) ∷ Next 0 ∷ Next 0 ∷ Begin 1 single.LoadValue ∷ Next 1 ∷ Next 1 ∷ Next 1 ∷ []

old_value : (fold (turned single.value) (opening single.value) stopped_store).history
    ≡ Invoked 0 (single.StoreValue 7) ∷ Invoked 1 single.LoadValue ∷ Responded 1 (single.Loaded 0) ∷ []
old_value = refl

-- words then: the version stays, the cell of the next one is written
words_then : (fold (turned single.value) (opening single.value) stopped_store).words ≡ 1 ∷ 0 ∷ 0 ∷ 7 ∷ []
words_then = refl
