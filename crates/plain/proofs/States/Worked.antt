-- The definitions at a worked run of a container of two indices, and at what they refuse.
use Rattle.plain.specs.Contents.{Contents, after_add, after_remove, after_replace}
use Rattle.plain.specs.States.{Snapshot, blank, updated}
use Rattle.std.proofs.Common.{◌≡◌, ℕ, Option, Some, List, [], ◌∷◌, refl}
use Rattle.steps.specs.declared.container.handle.ContainerHandle.{ContainerHandle}
use Rattle.steps.specs.declared.indices.enums.ReleaseMode.TheVariants.{Default}
use Rattle.plain.specs.Contents.{opened}
use Rattle.plain.specs.Following.{Follows}

-- 5 and 6 are added, 5 is removed, 6 becomes 7, and 8 is added where 5 stood
abbrev two : Contents ℕ
two = after_add (after_add (opened 2 9) 1 5) 1 6

-- the handle of owner 1 at the index
abbrev at : ℕ → ContainerHandle
at index = record { index = index; owner = 1; container = 9 }

-- the container after a remove of 5, a replace of 6 by 7, and an add of 8
abbrev last : Contents ℕ
last = after_add (after_replace (after_remove two (at 0) Default) (at 1) 7) 1 8

-- what a state has seen that was brought up to date before those
abbrev seen : Snapshot ℕ
seen = updated two (blank 2)

-- the state has seen two changes, and shows 5 and 6
pub seen_two : seen ≡ record { changes = 2; counts = 1 ∷ 1 ∷ []; values = Some 5 ∷ Some 6 ∷ [] }
seen_two = refl

-- brought up to date after them, the state shows 8 and 7
pub shown_last : (updated last seen).values ≡ Some 8 ∷ Some 7 ∷ []
shown_last = refl

-- each index has the number 3 then: its value was hidden, and another one shown
pub numbers_last : (updated last seen).counts ≡ 3 ∷ 3 ∷ []
numbers_last = refl

-- ---- what is refused

-- a state that shows, under the number that is there, another value
abbrev wrong : Snapshot ℕ
wrong = record { changes = 2; counts = 1 ∷ 1 ∷ []; values = Some 4 ∷ Some 6 ∷ [] }

-- a state that shows another value under a number that it has seen does not follow the container
pub no_other_value : Follows two wrong → ⊥
no_other_value follows = absurd (apart (follows.same 0 refl))
  where
    -- 4 is not 5
    apart : ◌≡◌ {A = Option ℕ} (Some 4) (Some 5) → ⊥
    apart same = cc

-- one that has seen the changes, and not the numbers, as of a container whose recovery counts none
abbrev late : Snapshot ℕ
late = record { changes = 5; counts = 1 ∷ 3 ∷ []; values = Some 5 ∷ Some 7 ∷ [] }

-- a state that has seen the number of changes and not all numbers does not follow the container
pub no_missed_number : Follows last late → ⊥
no_missed_number follows = absurd (apart (follows.all refl))
  where
    -- the numbers 3 and 3 are not 1 and 3
    apart : ◌≡◌ {A = List ℕ} (3 ∷ 3 ∷ []) (1 ∷ 3 ∷ []) → ⊥
    apart same = cc

-- an update would leave that state as it is, since it has seen the number of changes
pub late_stays : updated last late ≡ late
late_stays = refl
