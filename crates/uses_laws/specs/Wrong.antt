-- Views of histories that contracts have to refuse: the lemmas of `proofs/WrongHistories.antt` show of each
-- that a contract does not hold of it.
use Rattle.std.specs.Prelude.{◌≡◌, ℕ, Bool, false, Some, List, [], ◌∷◌, ◌++◌}
use Rattle.steps.specs.Objects.Lists.{Bounded}
use Rattle.model.specs.declared.event.Event.{Event}
use Rattle.model.specs.declared.event.Event.TheVariants.{Begun, Published, HandedOut, FreedOf, Asked, Told, Finished}
use Rattle.model.specs.declared.event.Answer.TheVariants.{State}
use Rattle.model.specs.declared.event.Item.TheVariants.{Index}
use Rattle.model.specs.declared.event.Start.TheVariants.{Robust}
use Rattle.model.specs.declared.families.indices.robust.RobustStart.TheVariants.{Recover}
use Rattle.lock_free.specs.HistoryView.View.{View}
use Rattle.lock_free.specs.Queues.Views.{first_view, left_view, right_view}
use Rattle.lock_free.specs.ReleaseMode.TheVariants.{Default}
use Rattle.lock_free.specs.ReleaseState.TheVariants.{Unlocked}
use Rattle.lock_free.specs.Shares.{half_of, all_shares}

-- the first pass of a structure of capacity 2, which has seen nothing yet
abbrev pub first : View ℕ
first = first_view 2

-- the view of a first pass that has seen these events
abbrev pub having_seen : List (Event ℕ) → View ℕ
having_seen events = record first { seen = events }

-- a view in which 7 and 8 were pushed in this order, and a pop has taken out 8
abbrev pub took_the_second : View ℕ
took_the_second =
    having_seen (Published 0 (Index 7) ∷ Published 0 (Index 8) ∷ HandedOut 1 (Index 8) ∷ [])

-- a view in which 7 was pushed, and waits; the pass has half of the share
abbrev pub knows_of_one : View ℕ
knows_of_one =
    record (having_seen (Published 0 (Index 7) ∷ [])) { share = half_of all_shares }

-- an empty list from the first position on
abbrev pub nothing_left : Bounded ℕ
nothing_left = record { capacity = 2; first = 0; values = [] }

-- ---- a split

-- the view of the pass that stays after a split
abbrev pub stays : View ℕ
stays = left_view first

-- the view of the new pass after a split, as if it were the party of the other
abbrev pub same_party : View ℕ
same_party = record (right_view first) { party = Some 0 }

-- ---- a recovery

-- a closure that is never asked
abbrev pub never_asked : List ℕ → (owner index : ℕ) → Bool → List ℕ → Type 0
never_asked before owner index said after = ⊥

-- a closure that may be asked anything
abbrev pub may_be_asked : List ℕ → (owner index : ℕ) → Bool → List ℕ → Type 0
may_be_asked before owner index said after = Unit {0}

-- a closure that answers no
abbrev pub says_no : List ℕ → (owner index : ℕ) → Bool → List ℕ → Type 0
says_no before owner index said after = said ≡ false

-- a closure that is never told
abbrev pub never_told : List ℕ → (owner index : ℕ) → List ℕ → Type 0
never_told before owner index after = ⊥

-- a closure that may be told anything
abbrev pub may_be_told : List ℕ → (owner index : ℕ) → List ℕ → Type 0
may_be_told before owner index after = Unit {0}

-- the events of a recovery that has done this, and answered Unlocked
abbrev pub recovering : List (Event ℕ) → List (Event ℕ)
recovering did =
    Begun 0 (Robust (Recover Default))
    ∷ (did ++ Finished 0 (Robust (Recover Default)) (State Unlocked) ∷ [])

-- a view that has seen one recovery, which did this
abbrev pub recovered : List (Event ℕ) → View ℕ
recovered did = record first { seen = recovering did; made = recovering did }

-- a view in which a recovery asked about the index 0 of the owner 7
abbrev pub asked_of_one : View ℕ
asked_of_one = recovered (Asked 0 0 7 ∷ [])

-- a view in which a recovery asked about that index, was told to free it, and has freed it
abbrev pub freed_one : View ℕ
freed_one = recovered (Asked 0 0 7 ∷ Told 0 0 7 ∷ FreedOf 0 0 7 ∷ [])
