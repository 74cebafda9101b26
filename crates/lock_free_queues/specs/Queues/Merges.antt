-- What a pass has done with an overflowing queue since it knew less: what it pushed, and what it took out.
use Rattle.std.specs.Prelude.{◌≡◌, ◌⊎◌, ℕ, ◌+◌, ◌-◌, ◌^◌, ◌<◌, ◌≤◌, Bool, true, false, List, [], ◌∷◌, ◌++◌, length, map, sum_by, if◌then◌else◌}
use Rattle.model.specs.declared.event.Event.{Event}
use Rattle.model.specs.declared.event.Event.TheVariants.{HandedOut, Acted}
use Rattle.model.specs.declared.event.Item.{Item}
use Rattle.model.specs.declared.event.Item.TheVariants.{Index}
use Rattle.model.specs.declared.event.Start.TheVariants.{Queues}
use Rattle.model.specs.declared.families.queues.QueueStart.TheVariants.{PushIndex, Pop}
use Rattle.model.specs.Families.Queues.Reading.{publishes, published, handed_out}
use Rattle.threaded.specs.Shares.{IsAll}
use Rattle.history.specs.declared.view.View.{View}
use Rattle.history.specs.History.{IsBeginning}
use Rattle.history.specs.Known.{events_by}
use Rattle.history.specs.Passes.{MissesNothing}
use Rattle.lock_free_queues.specs.Queues.Sent.{HasAppended}
use Rattle.lock_free_queues.specs.Queues.Sums.{puts, HasDone}

module _ {A : Type 0} where
  -- `xs` and `ys` merge to the third list: each of its elements stands in one of the two, and both
  -- stand in its order
  abbrev pub Merges : List A → List A → List A → Type 0
  Merges xs ys [] = (xs ≡ []) × (ys ≡ [])
  Merges xs ys (z ∷ zs) =
      ((rest : List A) × (xs ≡ z ∷ rest) × Merges rest ys zs)
      ⊎ ((rest : List A) × (ys ≡ z ∷ rest) × Merges xs rest zs)

  -- the elements of the first list stand in the second one, in their order
  abbrev pub StandIn : List A → List A → Type 0
  StandIn [] ys = Unit {0}
  StandIn (x ∷ xs) [] = ⊥
  StandIn (x ∷ xs) (y ∷ ys) = ((x ≡ y) × StandIn xs ys) ⊎ StandIn (x ∷ xs) ys

-- the next event of the party is the act of a pop
abbrev pub by_pop : List (Event ℕ) → Bool
by_pop (Acted p (Queues Pop) answer ∷ es) = true
by_pop es = false

-- the next event of the party is the act of a push
abbrev pub by_push : List (Event ℕ) → Bool
by_push (Acted p (Queues (PushIndex value)) answer ∷ es) = true
by_push es = false

-- the items that calls of this sort (`by_pop` or `by_push`) took out, in order: after it has handed an
-- item out, the party's next event tells of which sort its call is
abbrev pub taken : (List (Event ℕ) → Bool) → List (Event ℕ) → List (Item ℕ)
taken by [] = []
taken by (HandedOut p item ∷ es) =
    if by (events_by p es) then item ∷ taken by es else taken by es
taken by (e ∷ es) = taken by es

-- Behind each list that stood in what such calls had taken out by `v`, these numbers stand in what they
-- have taken out by `w`, in order.
abbrev pub TookOut : (List (Event ℕ) → Bool) → List ℕ → View ℕ → View ℕ → Type 0
TookOut by xs v w =
    (earlier : List (Item ℕ)) → StandIn earlier (taken by v.seen)
    → StandIn (earlier ++ map Index xs) (taken by w.seen)

-- from `v` to `w` the pass has pushed the numbers `xs`, and got the numbers `back` handed back
pub record HasPushedAll (xs back : List ℕ) (v w : View ℕ) : Type 0 where
  pub added : HasAppended publishes Index xs (length xs) (length back) v w
  pub returned : TookOut by_push back v w

-- From `v` to `w` the pass has pushed at most as many numbers as `xs` has, and kept its share. If the last position is not
-- reached, it has pushed just these, and got the numbers `back` handed back.
pub record HasPushedUpTo (xs back : List ℕ) (v w : View ℕ) : Type 0 where
  pub few : sum_by puts w.made ≤ sum_by puts v.made + length xs
  pub share : w.share ≡ v.share
  pub all : length (published w.seen) < 2 ^ 64 - 1 → HasPushedAll xs back v w

-- from `v` to `w` the pass has popped these numbers, and pushed none
pub record HasTaken (xs : List ℕ) (v w : View ℕ) : Type 0 where
  pub since : IsBeginning v.seen w.seen
  -- pops took these out
  pub popped : TookOut by_pop xs v w
  -- the pass has published none itself, and taken out as many as these
  pub done : HasDone 0 (length xs) v w
  pub share : w.share ≡ v.share
  -- a pass that missed nothing misses nothing still
  pub all : MissesNothing v → MissesNothing w

-- from `v` to `w` the pass has popped until a pop found nothing; `new` is the list `old` with the
-- popped numbers behind it
pub record HasDrained (old new : List ℕ) (v w : View ℕ) : Type 0 where
  -- the numbers that were popped
  pub more : List ℕ
  pub numbers : new ≡ old ++ more
  pub popped : HasTaken more v w
  -- who has the whole share and misses nothing knows that nothing waits
  pub emptied : IsAll v.share → MissesNothing v → handed_out w.seen ≡ published w.seen
