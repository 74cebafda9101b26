-- What a push and a pop of a bounded queue have done once they have ended.
use Rattle.std.proofs.Common.{arith}
use Rattle.lock_free_queues.proofs.Names.{◌≡◌, ◌⊎◌, inl, inr, ℕ, Bool, true, false, Option, Some, None, IfSome}
use Rattle.lock_free_queues.proofs.Names.{IfNone, List, [], length, sym, ap, subst, ◌∙◌, slice_index, ◌-◌, ◌^◌, ◌<◌}
use Rattle.lock_free_queues.proofs.Names.{option_map, Ask, Producer, Truth, Event, Item, Start, Queues}
use Rattle.lock_free_queues.proofs.Names.{Flight, QueueKind, Pop, Coding, want_of, published, machine_kind, Ring}
use Rattle.lock_free_queues.proofs.Names.{kind_of, View, IsHistory, HasRole, Calling, Ends, Over, LeftOut}
use Rattle.lock_free_queues.proofs.Names.{called, queue_goes_on}
use Rattle.steps.specs.Queues.Ring.{pop_answer}
use Rattle.steps.specs.declared.ask.Want.TheVariants as wants
use Rattle.lock_free_queues.specs.Queues.Contracts.{push_of, push_events, popped_item, pop_events, HasPushed, HasPublished}
use Rattle.lock_free_queues.specs.Queues.Contracts.{HasTakenOut, WasAtEnd, WasFull, HasPopped, WasEmpty}
use Rattle.lock_free_queues.proofs.Queues.Facts.{was_full, has_published, was_empty, has_taken_out, looked_alone, role_alone, IsAlone}

module _ {T : Type 0} where
  -- the call is a push of the item, which is left out where its first load finds the last position
  pub record IsPush {C : Type 0} (code : Coding T) (item : Item T) (call : Calling T C (Unit {0}) Bool) : Type 0 where
    pub start : call.start ≡ Queues (push_of item)
    pub answer : (e : Bool) (m : Unit {0}) → call.answer e m ≡ Truth e
    pub tells : (n p : ℕ) (from : Option (Start T × Flight T)) (e : Bool) (m : Unit {0}) (es : List (Event T))
        → call.wrote_all n p from e m es → es ≡ push_events p item e
    pub left : (e : Bool) → call.left e → e ≡ false
    pub at_end : (c : C) (m : Unit {0}) (n : ℕ) (a : Ask) → call.skips c n ≡ true
        → want_of code (call.flight c m) ≡ wants.Ask a → (a.word ≡ 0) × (n ≡ 2 ^ 64 - 1)

  -- the call is a pop, by way of a room that has this value in the end
  pub record IsPop {C M V : Type 0} (named : V → Item T) (value : M → V) (call : Calling T C M Bool) : Type 0 where
    pub start : call.start ≡ Queues Pop
    pub answer : (e : Bool) (m : M) → call.answer e m ≡ popped_item (option_map named (pop_answer (value m) e))
    pub tells : (n p : ℕ) (from : Option (Start T × Flight T)) (e : Bool) (m : M) (es : List (Event T))
        → call.wrote_all n p from e m es → es ≡ pop_events p (option_map named (pop_answer (value m) e))

module _ {T : Type 0} {code : Coding T} {base w : View T} where
  -- a push that is left out finds the last position, by a load of the write position
  pub was_at_end : {C M E : Type 0} (kd : QueueKind) {call : Calling T C M E} {e : E} {m : M} → LeftOut code (machine_kind kd) call base e m w
      → ((c : C) (m : M) (n : ℕ) (a : Ask) → call.skips c n ≡ true → want_of code (call.flight c m) ≡ wants.Ask a
      → (a.word ≡ 0) × (n ≡ 2 ^ 64 - 1))
      → IsAlone kd Producer → base.other ≡ [] → 0 < base.share.part → HasRole Producer base.made → WasAtEnd base w
  was_at_end kd left at_end only alone some has =
      -- The push was left out at a load of the write position, which found 2^64 - 1.
      let queue = queue_goes_on code kd base left.trace left.run in
      let at = at_end left.from left.room left.word left.ask left.skipped left.asks in
      let word : slice_index left.trace.world.words 0 ≡ 2 ^ 64 - 1 = ap (λ n. slice_index left.trace.world.words n) (sym at.0) ∙ (left.found ∙ at.1) in
      record {
        since = left.looked.mine;
        made = left.looked.made;
        end = ap (λ es. length (published es)) left.seen ∙ (sym queue.book.write ∙ word);
        list = looked_alone code kd Producer only left.looked alone some has;
      }

  -- A push that has ended as a call of the history is one with the answer of its end.
  pushed_so : {C : Type 0} (kd : QueueKind) {item : Item T} {call : Calling T C (Unit {0}) Bool} → base.going ≡ None → IsPush code item call
      → {e : Bool} {m : Unit {0}} → Ends code (machine_kind kd) call base e m w → HasPushed item e base w
  pushed_so kd idle is {e} {m} ends = grind (arith, called)

-- The pass has the producer's role and knows one history alone, as it begins a push of the item in the view `base`.
pub record Pushes {T C : Type 0} (code : Coding T) (r : Ring) (item : Item T) (call : Calling T C (Unit {0}) Bool) (base : View T) : Type 0 where
  pub idle : base.going ≡ None
  pub is : IsPush code item call
  pub alone : base.other ≡ []
  pub some : 0 < base.share.part
  pub has : HasRole Producer base.made

module _ {T C : Type 0} {code : Coding T} {r : Ring} {base w : View T} {item : Item T} {call : Calling T C (Unit {0}) Bool}
    (push : Pushes code r item call base)
  where
    -- A push that is left out has found the last position.
    at_last : {e : Bool} {m : Unit {0}} → LeftOut code (machine_kind (kind_of r)) call base e m w → WasAtEnd base w
    at_last left = was_at_end (kind_of r) left push.is.at_end (role_alone r Producer) push.alone push.some push.has

    -- A push that is over is a call of the history, or was left out at the last position and answers false.
    pub pushed : {e : Bool} {m : Unit {0}} → Over code (machine_kind (kind_of r)) call base e m w → HasPushed item e base w ⊎ (e ≡ false) × WasAtEnd base w
    pushed {e} {m} (inl ends) = inl (pushed_so (kind_of r) push.idle push.is ends)
    pushed {e} {m} (inr left) = inr (push.is.left e left.left, at_last left)

    -- A push that answers true has published its item.
    pub published_if : {e : Bool} {m : Unit {0}} → Over code (machine_kind (kind_of r)) call base e m w → e ≡ true → HasPublished item base w
    published_if {e} {m} (inl ends) took =
        has_published code r base.capacity base w ends.history item
        (subst (λ b. HasPushed item b base w) took (pushed_so (kind_of r) push.idle push.is ends))
    published_if {e} {m} (inr left) took = (let never : false ≡ true = sym (push.is.left e left.left) ∙ took in absurd (cc))

    -- A push that answered false met a full queue, or was left out as the last position was reached.
    pub full : {e : Bool} {m : Unit {0}} → Over code (machine_kind (kind_of r)) call base e m w → e ≡ false
        → WasFull base.capacity item base w ⊎ WasAtEnd base w
    full {e} {m} (inl ends) refused =
        inl (was_full code r base.capacity base w ends.history item
        (subst (λ b. HasPushed item b base w) refused (pushed_so (kind_of r) push.idle push.is ends)))
    full {e} {m} (inr left) refused = inr (at_last left)

-- ---- pops

-- A pop that has ended is a call of the history with the value in its room, or with none.
pub has_popped : {T C M V : Type 0} {code : Coding T} {base w : View T} {named : V → Item T} {value : M → V} {call : Calling T C M Bool} (kd : QueueKind)
    → base.going ≡ None → IsPop named value call → {e : Bool} {m : M} → Ends code (machine_kind kd) call base e m w
    → HasPopped (option_map named (pop_answer (value m) e)) base w
has_popped kd idle pop {e} {m} ends = grind (arith, option_map, called)

-- what its answer says of the list
module _ {T V : Type 0} (code : Coding T) (r : Ring) (named : V → Item T) (capacity : ℕ) (base w : View T)
    (h : IsHistory code (machine_kind (kind_of r)) capacity w.seen) where
  -- A pop that answers a value has taken it out.
  pub taken_if : (o : Option V) → HasPopped (option_map named o) base w → IfSome o (λ x. HasTakenOut (named x) base w)
  taken_if None popping = tt
  taken_if (Some x) popping = has_taken_out code r capacity base w h (named x) popping

  -- A pop that answers none met an empty queue.
  pub empty_if : (o : Option V) → HasPopped (option_map named o) base w → IfNone o (WasEmpty base w)
  empty_if None popping = was_empty code r capacity base w h popping
  empty_if (Some x) popping = tt
