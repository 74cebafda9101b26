-- What the words of a cell are, by the history of a queue: those of the value that was published there, while nobody
-- has taken it out.
use Rattle.lock_free_queues.proofs.Names.{◌≡◌, ℕ, suc, ◌+◌, ◌-◌, ◌*◌, ◌%◌, ◌<◌, ◌≤◌, Option, Some, List, []}
use Rattle.lock_free_queues.proofs.Names.{◌∷◌, ◌++◌, length, map, get_or, slice_get, slice_index, refl, sym, ap}
use Rattle.lock_free_queues.proofs.Names.{subst, ◌∙◌, arith, slice_get-map, option_map, Item, QueueKind, IndexQueue}
use Rattle.lock_free_queues.proofs.Names.{Overflow, Queue, Coding, cells_of, published, handed_out, Trace, family}
use Rattle.lock_free_queues.proofs.Names.{machine_kind, free, layout, Val, encoded, item, IsRun, sound_of}
use Rattle.model.proofs.Frame as frame
use Rattle.laws_queues.proofs.Queues.Core as core

-- The k-th element behind a first list is the k-th one of the second.
pub get_behind : {A : Type 0} (xs ys : List A) (k : ℕ) → slice_get (xs ++ ys) (length xs + k) ≡ slice_get ys k
get_behind [] ys k = (let same : 0 + k ≡ k = omega arith in ap (slice_get ys) same)
get_behind (x ∷ xs) ys k = (let same : length (x ∷ xs) + k ≡ suc (length xs + k) = omega arith in ap (slice_get (x ∷ (xs ++ ys))) same ∙ get_behind xs ys k)

-- Two values of one kind that make the same item are equal.
pub item_same : {T : Type 0} (kd : QueueKind) (x y : Val T kd) → item {T = T} kd x ≡ item kd y → x ≡ y
item_same IndexQueue x y e = cc
item_same Overflow x y e = cc
item_same Queue x y e = cc

-- t is the trace of a run of a queue of kind kd; code says how its values are written in words
module _ {T : Type 0} (code : Coding T) (kd : QueueKind) (capacity : ℕ) (t : Trace T) (run : IsRun code (machine_kind kd) capacity t) where
  -- How many words a value of this kind has.
  abbrev size : ℕ
  size = (encoded code kd).size

  -- The item x of position i is a value of this queue's kind, and its words stand in the
  -- cell of that position.
  pub record Stands (i : ℕ) (x : Item T) : Type 0 where
    pub value : Val T kd
    pub is : x ≡ item kd value
    pub words : (k : ℕ) → k < size → slice_index t.world.words (4 + (size * (i % cells_of kd capacity) + k)) ≡ get_or ((encoded code kd).words_of value) k 0

  module _ (i : ℕ) (x : Item T) (at : slice_get (published t.events) i ≡ Some x) (low : length (handed_out t.events) ≤ i) where
    -- The machine keeps the laws of queues of this kind.
    abbrev s : frame.Sound (family t.world.coding kd t.world.capacity) t
    s = sound_of code capacity kd t run

    abbrev rank : ℕ
    rank = i - length (handed_out t.events)

    -- A value of this kind as an item.
    abbrev named : Val T kd → Item T
    named y = item kd y

    -- the value that waits at this rank is the item that was published at position i
    there : option_map named (slice_get s.state.core.waiting rank) ≡ Some x
    there =
        let same : length (handed_out t.events) + rank ≡ i = omega arith in
        sym (slice_get-map named s.state.core.waiting rank)
        ∙ (sym (get_behind (handed_out t.events) (map named s.state.core.waiting) rank)
        ∙ (ap (slice_get (handed_out t.events ++ map named s.state.core.waiting)) same
        ∙ (ap (λ zs. slice_get zs i) (sym s.holds.book) ∙ at)))

    -- the cell of this position holds the words of the value y
    abbrev Lies : Coding T → ℕ → ℕ → Val T kd → Type 0
    Lies en cells position y = core.Holds (encoded en kd).size (encoded en kd).words_of cells s.state.core.cells position y (encoded en kd).size

    -- a value that waits at this rank has its words in the cell of position i
    lies : (y : Val T kd) → slice_get s.state.core.waiting rank ≡ Some y → Lies code (cells_of kd capacity) i y
    lies y e =
        let out = s.holds.out in
        let place : s.state.core.read + rank ≡ i = omega arith in
        let cells : cells_of kd t.world.capacity ≡ cells_of kd capacity = ap (cells_of kd) run.sized in
        subst (λ (en : Coding T). Lies en (cells_of kd capacity) i y) run.coded
        (subst (λ p. Lies t.world.coding (cells_of kd capacity) p y) place
        (subst (λ c. Lies t.world.coding c (s.state.core.read + rank) y) cells (s.holds.good.held rank y e)))

    -- The words of the machine are its roles and positions, and behind them its cells.
    its_words : t.world.words ≡ layout s.state.roles s.state.core
    its_words = s.fit.words

    -- whatever stands at this place in the machine's list of waiting values
    go : (o : Option (Val T kd)) → slice_get s.state.core.waiting rank ≡ o → Stands i x
    go o slice_get_is = grind (arith, option_map, there, its_words, free, lies)

    -- A published item that nobody took out stands in its cell.
    pub stands : Stands i x
    stands = go (slice_get s.state.core.waiting rank) refl
