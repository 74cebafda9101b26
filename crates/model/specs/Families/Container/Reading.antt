-- How the events of the container are read, beside those of its set of indices.
use Rattle.std.specs.Prelude.{◌≡◌, ℕ, ◌==◌, Bool, true, false, Option, Some, None, List, [], ◌∷◌, fold, if◌then◌else◌}
use Rattle.std.specs.List.{flat_map}
use Rattle.model.specs.declared.event.Answer.TheVariants.{Index, Done}
use Rattle.model.specs.declared.event.Event.{Event}
use Rattle.model.specs.declared.event.Event.TheVariants.{Begun, Placed, Hidden, Copied, Shown, Finished}
use Rattle.model.specs.declared.event.Start.TheVariants.{Robust, Container}
use Rattle.model.specs.declared.families.container.ContainerStart.TheVariants.{Add, Remove, Replace}
use Rattle.model.specs.declared.families.indices.robust.RobustStart.TheVariants.{Release}
use Rattle.model.specs.Families.Indices.Robust.Reading.{settled_of, wrote_in}
use Rattle.model.specs.Moments.{SinceBegin}
use Rattle.model.specs.Reading.{span_of}

module _ {T : Type 0} where
  -- ---- contents

  -- an index maps to a value from its Placed to its next Hidden
  abbrev pub contents_after : ℕ → Option T → Event T → Option T
  contents_after i value (Placed p index new) = if index == i then Some new else value
  contents_after i value (Hidden p index) = if index == i then None else value
  contents_after i value e = value

  -- the value at index i after these events, if there is one
  abbrev pub contents_of : ℕ → List (Event T) → Option T
  contents_of i events = fold (contents_after i) None events

  -- what stands at an index was placed by a call that has finished
  abbrev pub announced_after : ℕ → Bool → Event T → Bool
  announced_after i stands (Finished p (Container (Add value o)) (Index index)) =
      if index == i then true else stands
  announced_after i stands (Finished p (Container (Replace index value o)) Done) =
      if index == i then true else stands
  announced_after i stands (Hidden p index) = if index == i then false else stands
  announced_after i stands e = stands

  -- whether what stands at index i was placed by a call that has finished
  abbrev pub announced_of : ℕ → List (Event T) → Bool
  announced_of i events = fold (announced_after i) false events

  -- ---- who may replace

  -- the event begins neither to give this index back for this owner, nor to replace what stands there
  abbrev pub TakesNot : ℕ → ℕ → Event T → Type 0
  TakesNot i o (Begun p (Robust (Release index owner mode))) = (index ≡ i) × (owner ≡ o) → ⊥
  TakesNot i o (Begun p (Container (Remove index owner mode))) = (index ≡ i) × (owner ≡ o) → ⊥
  TakesNot i o (Begun p (Container (Replace index value owner))) =
      (index ≡ i) × (owner ≡ o) → ⊥
  TakesNot i o e = Unit {0}

  -- none of these events begins to give the index back for this owner, or to replace what stands there
  abbrev pub NoneTakes : ℕ → ℕ → List (Event T) → Type 0
  NoneTakes i o [] = Unit {0}
  NoneTakes i o (e ∷ es) = TakesNot i o e × NoneTakes i o es

  -- The party's replace was begun where its index was held for its owner by an add that had finished, and no remove of
  -- it for that owner had begun since; nobody has begun a remove or a replace of it for that owner meanwhile.
  abbrev pub MayReplace : ℕ → ℕ → ℕ → List (Event T) → Type 0
  MayReplace p i o events =
      SinceBegin p (λ part since. (settled_of i part ≡ Some o) × NoneTakes i o since) events

-- ---- what a call does to elements

-- it puts a value at an index, hides one, copies one, or is shown that none stands there
pub data Act (T : Type 0) : Type 0 where
  Places : (index : ℕ) (value : T) → Act T
  Hides : (index : ℕ) → Act T
  Copies : (index : ℕ) (value : T) → Act T
  Sees : (index : ℕ) → Act T

module _ {T : Type 0} where
  -- what an event does to elements, without its party
  abbrev pub act : Event T → List (Act T)
  act (Placed p index value) = Places index value ∷ []
  act (Hidden p index) = Hides index ∷ []
  act (Copied p index value) = Copies index value ∷ []
  act (Shown p index) = Sees index ∷ []
  act e = []

  -- what these events do to elements, in order
  abbrev pub acts : List (Event T) → List (Act T)
  acts events = flat_map act events

  -- what the party's latest call has done to elements
  abbrev pub acts_of : ℕ → List (Event T) → List (Act T)
  acts_of p events = acts (wrote_in (span_of p events))

  -- the index that an act copies or is shown, if it is such an act
  abbrev pub index_seen : Act T → List ℕ
  index_seen (Copies index value) = index ∷ []
  index_seen (Sees index) = index ∷ []
  index_seen one = []

  -- the indices that were copied or shown, in order
  abbrev pub seen_in : List (Act T) → List ℕ
  seen_in all = flat_map index_seen all

  -- the value that an act places, with its index, if it places one
  abbrev pub place : Act T → List (ℕ × T)
  place (Places index value) = (index, value) ∷ []
  place one = []

  -- the values that were placed, with their indices, in order
  abbrev pub places : List (Act T) → List (ℕ × T)
  places all = flat_map place all
