-- What a stream carried, by what a pass of its queue knows: the values before the end, and which elements the
-- pass itself pushed or popped.
use Rattle.std.specs.Prelude.{◌≡◌, ◌-◌, ◌≤◌, ℕ, Bool, true, false, not, List, [], ◌∷◌, length, drop, sum_by}
use Rattle.model.specs.declared.event.Item.{Item}
use Rattle.model.specs.declared.event.Item.TheVariants.{Value}
use Rattle.model.specs.Families.Queues.Reading.{published, handed_out}
use Rattle.history.specs.declared.view.View.{View}
use Rattle.lock_free_queues.specs.Queues.Sums.{puts, gets}
use Rattle.uses_streams.specs.declared.element.Element.{Element}
use Rattle.uses_streams.specs.declared.element.Element.TheVariants as elements

-- the last n elements of the list
abbrev pub last_ones : {A : Type 0} → ℕ → List A → List A
last_ones n xs = drop (length xs - n) xs

module _ {T : Type 0} where
  -- the values that come before the end, or all of them where it does not come
  abbrev pub values_in : List (Item (Element T)) → List T
  values_in (Value (elements.Value x) ∷ items) = x ∷ values_in items
  values_in items = []

  -- whether the end comes, after values alone
  abbrev pub has_end : List (Item (Element T)) → Bool
  has_end (Value (elements.Value x) ∷ items) = has_end items
  has_end (Value elements.End ∷ items) = true
  has_end items = false

  -- whether the end comes once, after values alone, and nothing comes after it
  abbrev pub ends_once : List (Item (Element T)) → Bool
  ends_once (Value (elements.Value x) ∷ items) = ends_once items
  ends_once (Value elements.End ∷ []) = true
  ends_once items = false

  -- whether there are values alone
  abbrev pub has_values : List (Item (Element T)) → Bool
  has_values [] = true
  has_values (Value (elements.Value x) ∷ items) = has_values items
  has_values items = false

  -- the elements that the pass itself has pushed, where nobody else pushed since its first push
  abbrev pub pushed_by : View (Element T) → List (Item (Element T))
  pushed_by v = last_ones (sum_by puts v.made) (published v.seen)

  -- the elements that the pass itself has popped
  abbrev pub popped_by : View (Element T) → List (Item (Element T))
  popped_by v = last_ones (sum_by gets v.made) (handed_out v.seen)

  -- the pass has half of the whole share
  abbrev pub HasHalf : View (Element T) → Type 0
  HasHalf v = (v.share.part ≡ 1) × (v.share.parts ≡ 2)

  -- the pass has half of the whole share, and has pushed and popped nothing
  abbrev pub IsFreshHalf : View (Element T) → Type 0
  IsFreshHalf v = HasHalf v × (sum_by puts v.made ≡ 0) × (sum_by gets v.made ≡ 0)

  -- the pass has half of the share, and only pushes
  abbrev pub OnlyPushes : View (Element T) → Type 0
  OnlyPushes v = HasHalf v × (sum_by puts v.made ≤ length (published v.seen)) × (sum_by gets v.made ≡ 0)

  -- the pass has half of the share, and only pops
  abbrev pub OnlyPops : View (Element T) → Type 0
  OnlyPops v = HasHalf v × (sum_by gets v.made ≤ length (handed_out v.seen)) × (sum_by puts v.made ≡ 0)

  -- if `ended`, the end came after values alone; else only values came
  abbrev pub CameUpTo : Bool → List (Item (Element T)) → Type 0
  CameUpTo ended items = (has_values items ≡ not ended) × (has_end items ≡ ended)
