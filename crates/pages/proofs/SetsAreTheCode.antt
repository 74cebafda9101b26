-- The pages of the bit set and of the counting bit set are about the code: the tables stage by stage.
use Rattle.std.proofs.Common.{◌==◌, ◌+◌, ◌≡◌, ◌++◌, ◌∷◌, Bool, List, Some, []}
use Rattle.std.proofs.Common.{ap, arith, cond, false, map, nat_lt, refl, sym, true, ℕ}
use Rattle.std.proofs.lemmas.Bool.Decides.{nat_tests}
use Rattle.std.proofs.lemmas.List.{append-nil}
use Rattle.steps.specs.Bits.Words.{elements}
use Rattle.model.specs.declared.event.Event.{Event}
use Rattle.model.specs.declared.event.Event.TheVariants.{TakenOut}
use Rattle.model.specs.Families.{ask_of}
use Rattle.model.specs.Families.Bits.Calls.{after, want}
use Rattle.pages.specs.BitSet as bits
use Rattle.pages.specs.BitSetBridge as bits_bridge
use Rattle.pages.specs.CountingBitSet as counts
use Rattle.pages.specs.CountingBitSetBridge as counts_bridge
use Rattle.pages.specs.Reading.{asked}

-- ---- the bit set

-- a stage of the bit set's page asks for the operation that the code asks for
pub bits_asks : (c found : ℕ) (stage : bits.Stage) → bits_bridge.Fits c stage
    → ask_of (want (bits_bridge.flight c found stage)) ≡ Some (asked (bits.does c stage).0 (bits.does c stage).1)
bits_asks c found (bits.AllSwapsElement word places) fits =
    let yes : nat_lt word (1 + elements c) ≡ true = grind (arith, nat_tests) in rw yes refl
bits_asks c found stage fits = refl

-- a stage of the bit set's page goes on from each old word as the code does
pub bits_after : (c found : ℕ) (stage : bits.Stage) (old : ℕ)
    → after (bits_bridge.flight c found stage) old ≡ bits_bridge.went c old ((bits.does c stage).2 old)
bits_after c found (bits.NextStoresPosition place) old = refl
bits_after c found stage old = grind arith

pub bits_code : bits_bridge.BitSetDoesAsTheCode
bits_code c found stage fits = (bits_asks c found stage fits, bits_after c found stage)

pub bits_hands_out : bits_bridge.HandsOutAsTheMachine
bits_hands_out p c found word old places = (refl, refl)

pub bits_sets : bits_bridge.SetsByTable
bits_sets place stage old = (refl, refl)

pub bits_nexts : bits_bridge.NextsByTable
bits_nexts c stage old = (refl, refl)

pub bits_alls : bits_bridge.AllsByTable
bits_alls c found word old = (refl, refl)

-- ---- the counting bit set

pub counts_asks : (c found : ℕ) (stage : counts.Stage) → counts_bridge.Fits c stage
    → ask_of (want (counts_bridge.flight c found stage)) ≡ Some (asked (counts.does c stage).0 (counts.does c stage).1)
counts_asks c found (counts.SetAdds place) fits = refl
counts_asks c found (counts.AllSwaps place taken) fits = let yes : nat_lt place c ≡ true = grind (arith, nat_tests) in rw yes refl

pub counts_after : (c found : ℕ) (stage : counts.Stage) (old : ℕ)
    → after (counts_bridge.flight c found stage) old ≡ counts_bridge.went c old ((counts.does c stage).2 old)
counts_after c found (counts.SetAdds place) old = refl
counts_after c found (counts.AllSwaps place taken) old = grind arith

pub counts_code : counts_bridge.CountingDoesAsTheCode
counts_code c found stage fits = (counts_asks c found stage fits, counts_after c found stage)

abbrev one : ℕ → ℕ → List (ℕ × ℕ)
one place old = (place, old) ∷ []

-- a reset of all of the counting bit set hands out what the machine's events say
pub counts_hands_out : counts_bridge.HandsOutAsTheMachine
counts_hands_out p c found place old taken = go (old == 0)
  where
    -- the cases are whether the place counted something
    go : (b : Bool)
        → (counts.all_goes_on c place (cond b taken (taken ++ one place old))
        ≡ counts.all_goes_on c place (taken ++ cond b [] (one place old)))
        × (cond {A = List (Event ℕ)} b [] (TakenOut p place old ∷ []) ≡ map (λ (x : ℕ × ℕ). TakenOut p x.0 x.1) (cond {A = List (ℕ × ℕ)} b [] (one place old)))
    go true = (ap (counts.all_goes_on c place) (sym (append-nil taken)), refl)
    go false = (refl, refl)

pub counts_sets : counts_bridge.CountsByTable
counts_sets place old = (refl, refl)

pub counts_takes : counts_bridge.TakesByTable
counts_takes c found place old = (refl, refl)
