-- What the values of each kind of queue are, how they lie in words, and how events name them.
use Rattle.laws_queues.proofs.Names.{ℕ, Item, Index, Value, QueueKind, IndexQueue, Queue, Coding, one_word}
use Rattle.model.specs.declared.families.queues.QueueKind.TheVariants.{Overflow}

-- an element: an index in the two queues of indices, else a value of the type `T`
abbrev pub Val : Type 0 → QueueKind → Type 0
Val T IndexQueue = ℕ
Val T Overflow = ℕ
Val T Queue = T

module _ {T : Type 0} where
  -- how an element is coded in words: an index in one word, a value by its coding
  abbrev pub encoded : Coding T → (kd : QueueKind) → Coding (Val T kd)
  encoded en IndexQueue = one_word
  encoded en Overflow = one_word
  encoded en Queue = en

  -- an element as events and answers name it
  abbrev pub item : (kd : QueueKind) → Val T kd → Item T
  item IndexQueue v = Index v
  item Overflow v = Index v
  item Queue v = Value v
