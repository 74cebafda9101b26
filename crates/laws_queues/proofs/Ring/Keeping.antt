-- A step of a bounded queue's push keeps what a pop or a peek knows, and a step of a pop
-- keeps what a push knows.
use Rattle.laws_queues.proofs.Names.{◌≡◌, ℕ, List, [], ◌∷◌, ◌++◌, refl, ap, Coding}
use Rattle.std.proofs.Common.{arith}
use Rattle.steps.specs.declared.queues.ring.PopStage.{PopStage}
use Rattle.steps.specs.declared.queues.ring.PopStage.TheVariants as pops
use Rattle.steps.specs.declared.queues.ring.PushStage as pushes
use Rattle.steps.specs.declared.queues.peek.PeekStage.{PeekStage}
use Rattle.steps.specs.declared.queues.peek.PeekStage.TheVariants as peeks
use Rattle.laws_queues.proofs.Queues.Core.{Core, filled, published, taken}
use Rattle.laws_queues.proofs.Ring.Knows.{KnowsPush, KnowsPop, KnowsPeek}

module _ {V : Type 0} (en : Coding V) (c : ℕ) (k : Core V) where
  -- a store into a cell keeps what a pop knows
  pub fill_keeps : (at word : ℕ) (room : List ℕ) (stage : PopStage) → KnowsPop en c k room stage
      → KnowsPop en c (filled en.size en.words_of c k at word) room stage
  fill_keeps = grind arith

  -- a store of the next write position, which publishes a value, keeps what a pop knows
  pub publish_keeps : (w : V) (room : List ℕ) (stage : PopStage) → KnowsPop en c k room stage
      → KnowsPop en c (published en.size en.words_of c k w) room stage
  publish_keeps w room pops.LoadsRead knows_pop = knows_pop
  publish_keeps w room (pops.LoadsWrite read) knows_pop = knows_pop
  publish_keeps w room (pops.LoadsCell read cell place) knows_pop = (
    knows_pop.0,
    knows_pop.1,
    knows_pop.2 ++ w ∷ [],
    knows_pop.3,
    ap (λ xs. xs ++ w ∷ []) knows_pop.4,
    knows_pop.5,
    knows_pop.6,
    knows_pop.7,
  )
  publish_keeps w room (pops.StoresRead read) knows_pop = (knows_pop.0 ++ w ∷ [], knows_pop.1, ap (λ xs. xs ++ w ∷ []) knows_pop.2)

  -- a store of the next read position, which takes the front value, keeps what a push knows
  pub take_keeps : (v : V) (rest : List V) → k.waiting ≡ v ∷ rest → (w : V) (stage : pushes.PushStage)
      → KnowsPush en c k w stage → KnowsPush en c (taken en.size en.words_of c k rest) w stage
  take_keeps = grind arith

  -- a change of the queue that keeps what a pop knows at each stage keeps what a peek knows
  pub peek_keeps : (k' : Core V) (room : List ℕ)
      → ((stage : PopStage) → KnowsPop en c k room stage → KnowsPop en c k' room stage)
      → (stage : PeekStage) → KnowsPeek en c k room stage → KnowsPeek en c k' room stage
  peek_keeps k' room keeps peeks.LoadsRead knows_peek = keeps pops.LoadsRead knows_peek
  peek_keeps k' room keeps (peeks.LoadsWrite read) knows_peek = keeps (pops.LoadsWrite read) knows_peek
  peek_keeps k' room keeps (peeks.LoadsCell cell place) knows_peek =
      let then = keeps (pops.LoadsCell k.read cell place) knows_peek in (then.0, then.1, then.2, refl, then.4, then.5, then.6, then.7)
