-- The store of the next write position by a push of the overflowing queue, which publishes the
-- value, keeps the invariant.
use Rattle.laws_queues.proofs.Names.{◌≡◌, ◌≢◌, ℕ, ◌+◌, ◌-◌, ◌^◌, ◌<◌, ◌≤◌, ◌==◌, Bool, true, false, Option, Some}
use Rattle.laws_queues.proofs.Names.{None, List, [], ◌∷◌, ◌++◌, length, map, refl, sym, ap, subst, ◌∙◌}
use Rattle.laws_queues.proofs.Names.{length-append, nat_tests, map-append, Ask, Store, After, GoOn, Done, OneWord}
use Rattle.laws_queues.proofs.Names.{distance, after_position, QueueFlight, Effect, Publishes, PublishesAndActs}
use Rattle.laws_queues.proofs.Names.{Item, Index, PushIndex, Answer, PoppedNone, Event, Party, Coding, write_word}
use Rattle.laws_queues.proofs.Names.{after, words_of_index, pending, effect_of, put, words_after, change_of}
use Rattle.std.proofs.Common.{arith}
use Rattle.steps.specs.declared.queues.overflow.PushStage.{PushStage}
use Rattle.steps.specs.declared.queues.overflow.PushStage.TheVariants as overflow_pushes
use Rattle.model.specs.declared.families.queues.calls.QueueFlight.TheVariants.{Overflow}
use Rattle.model.specs.declared.families.queues.QueueKind.TheVariants as kinds
use Rattle.laws_queues.proofs.Queues.Invariant.{Scene, Inv}
use Rattle.laws_queues.proofs.Overflow.Core.{one_passes, push_room, push_waits}
use Rattle.laws_queues.proofs.Queues.Core as core
use Rattle.laws_queues.proofs.Queues.Core.{Core, Holds, Good, publishes}
use Rattle.laws_queues.proofs.Overflow.Knows.{overflow_push_at}
use Rattle.laws_queues.proofs.Queues.Knows.{free, layout, Hangs}
use Rattle.laws_queues.proofs.Queues.Keeping.{Keeps, clash, same_roles, kept}
use Rattle.laws_queues.proofs.Queues.Pending.{pending_after, none_hangs}
use Rattle.laws_queues.proofs.Queues.Stages.{party_then, DoesStep}
use Rattle.laws_queues.proofs.Overflow.Keeping.{publish_keeps_pop}

-- The party `p` holds the producer's role and pushes `v`. `c` is the capacity, `k` the queue before the
-- step (positions, values that wait, cells), `latest` the parties' latest calls.
module _ {T : Type 0} {en : Coding T} {scene : Scene T kinds.Overflow}
    (inv : Inv en kinds.Overflow scene) (v : ℕ) (room : OneWord)
    (holds : scene.roles.producer ≡ Some scene.party) (no_backs : scene.backs ≡ 0) where
  open scene use {capacity as c, roles as ro, core as k, party as p, steps, since, latest, events}

  -- the push of `v` at a stage
  abbrev at : PushStage → QueueFlight T
  at stage = Overflow (overflow_push_at c v room stage)

  -- a step with this operation, after which the push is `after`, keeps the invariant and writes events of
  -- `p` alone (`Shows`, Queues/Invariant)
  abbrev StepKeeps : List (Event T) → Option Ask → After (QueueFlight T) (Answer T) → Effect T → Type 0
  StepKeeps wrote ask after effect = DoesStep en kinds.Overflow scene wrote (PushIndex v) ask false after effect

  -- the party `p` after a step of the push
  abbrev after_it : Option Ask → After (QueueFlight T) (Answer T) → Party T
  after_it ask after = party_then en kinds.Overflow scene (PushIndex v) ask false after

  -- ---- the store of the next write position

  -- the push has loaded the read position `read`, and its value stands in the cell of the write position
  module _ (read : ℕ) (some : 0 < c) (low : read ≤ k.read) (far : k.write ≤ read + c)
      (whole : Holds 1 words_of_index (c + 1) k.cells k.write v 1) (fresh : k.write < 2 ^ 64 - 1) (few_steps : steps ≤ 3) where
    -- the store of the next write position, which publishes the value
    abbrev next_write : Option Ask
    next_write = Some (record { word = write_word; op = Store (after_position k.write) })

    -- the queue once the value is published
    abbrev after_publish : Core ℕ
    after_publish = core.published 1 words_of_index (c + 1) k v

    -- the queue with the value published is right
    good_publish : Good 1 words_of_index (c + 1) after_publish
    good_publish = let g = inv.queue.good in let write = g.write in publishes g v (omega arith) whole

    -- the write position after the step is one more, without a wrap
    next_is : after_position k.write ≡ k.write + 1
    next_is = let reached = inv.queue.reached in omega arith

    -- the words after the store are those of the queue with the value published
    words_publish : words_after (layout ro k) next_write ≡ layout ro after_publish
    words_publish = ap (λ n. n ∷ k.read ∷ free ro.producer ∷ free ro.consumer ∷ k.cells) next_is

    -- the store changes one word
    one : change_of (layout ro k) next_write ≡ 1
    one = grind arith

    -- the items that wait, with the item of `v` after them, are those of the longer queue
    joined : map {B = Item T} Index k.waiting ++ Index v ∷ [] ≡ map Index (k.waiting ++ v ∷ [])
    joined = sym (map-append Index k.waiting (v ∷ []))

    -- the calls of another party know what they knew, since none is a push
    keeps : (q : ℕ) → q ≢ p → Keeps en kinds.Overflow c ro k after_publish q
    keeps q ne =
        record {
          push = λ mine w stage h. absurd (clash ro.producer p q ne holds mine);
          pop = λ mine other stage h. publish_keeps_pop c k v other stage h;
        }

    -- where fewer values wait than the capacity, the store publishes the value and ends the push with None
    publishes_done : length k.waiting < c → StepKeeps [] next_write (Done PoppedNone) (Publishes (Index v))
    publishes_done below =
        let list = push_room {T = T} c k.waiting v below in
        let longer = length-append k.waiting (v ∷ []) in
        let change = one in
        let reached = inv.queue.reached in
        let passes = one_passes {T = T} c (Index v) some in
        (after_publish, words_publish, grind (arith, good_publish, joined, none_hangs, pending_after, kept, keeps, same_roles))

    -- where the queue is full, the value waits as one more than the capacity, and the push goes on to move
    -- the read position
    publishes_over : read ≡ k.read → k.write ≡ read + c → StepKeeps [] next_write (GoOn (at (overflow_pushes.MovesRead read))) (Publishes (Index v))
    publishes_over here full =
        let queue_good = inv.queue.good in
        let write = queue_good.write in
        let change = one in
        let reached = inv.queue.reached in
        let is_same : (read == k.read) ≡ true = grind (arith, nat_tests) in
        let hung : pending k.read ro.producer (put p (after_it next_write (GoOn (at (overflow_pushes.MovesRead read)))) latest) ≡ Some (p, v) =
        pending_after k.read p ro.producer holds (after_it next_write (GoOn (at (overflow_pushes.MovesRead read)))) latest ∙ (rw is_same refl)
        in
        let many : length k.waiting ≡ c = omega arith in
        let waits = push_waits {T = T} c k.waiting v many in
        let hangs = subst (Hangs T kinds.Overflow c after_publish) (sym hung) (some, k.waiting, refl, many) in
        (after_publish, words_publish, grind (arith, good_publish, joined, kept, keeps, same_roles))

    -- where the queue was full at the load of the read position and a pop has made room since, the push
    -- publishes its value and acts with None, and goes on to its own move of the read position
    publishes_late : read < k.read → k.write ≡ read + c
        → StepKeeps [] next_write (GoOn (at (overflow_pushes.MovesRead read))) (PublishesAndActs (Index v))
    publishes_late moved full =
        let queue_good = inv.queue.good in
        let write = queue_good.write in
        let change = one in
        let reached = inv.queue.reached in
        let below : length k.waiting < c = omega arith in
        let list = push_room {T = T} c k.waiting v below in
        let longer = length-append k.waiting (v ∷ []) in
        let is_other : (read == k.read) ≡ false = grind (arith, nat_tests) in
        let calm : pending k.read ro.producer (put p (after_it next_write (GoOn (at (overflow_pushes.MovesRead read)))) latest) ≡ None =
        pending_after k.read p ro.producer holds (after_it next_write (GoOn (at (overflow_pushes.MovesRead read)))) latest ∙ (rw is_other refl)
        in
        let hangs = none_hangs T kinds.Overflow c after_publish _ calm (omega arith) in
        (after_publish, words_publish, grind (arith, good_publish, joined, kept, keeps, same_roles))

    -- the store of the next write position keeps the invariant, whether the queue was full or not
    pub stores_write : StepKeeps [] next_write
        (after en (at (overflow_pushes.StoresWrite k.write read)) k.write)
        (effect_of en (layout ro k) (pending k.read ro.producer latest) (at (overflow_pushes.StoresWrite k.write read)) k.write)
    stores_write = go (distance k.write read == c) (k.read == read) refl refl
      where
        -- the cases are whether the queue was full at the load of the read position, and whether that
        -- position is still the same
        go : (full here : Bool) → (distance k.write read == c) ≡ full → (k.read == read) ≡ here
            → StepKeeps [] next_write (after en (at (overflow_pushes.StoresWrite k.write read)) k.write)
            (effect_of en (layout ro k) (pending k.read ro.producer latest)
            (at (overflow_pushes.StoresWrite k.write read)) k.write)
        go = grind (arith, length, publishes_done, publishes_over, publishes_late, nat_tests)
