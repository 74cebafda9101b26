-- What a push and a pop of an overflowing queue have done once they have ended.
use Rattle.std.proofs.Common.{arith}
use Rattle.lock_free_queues.proofs.Names.{◌≡◌, ◌⊎◌, inl, inr, ℕ, Bool, true, false, Option, Some, None, IfSome}
use Rattle.lock_free_queues.proofs.Names.{IfNone, List, [], ◌∷◌, ◌++◌, refl, sym, ap, subst, ◌∙◌, append_assoc, ◌-◌, ◌^◌, ◌<◌, nat_tests, Ask}
use Rattle.lock_free_queues.proofs.Names.{option_map, OneWord, PushEnd, Producer, push_answer}
use Rattle.lock_free_queues.proofs.Names.{PoppedIndex, Event, Published, HandedOut, Acted, Finished, Item}
use Rattle.lock_free_queues.proofs.Names.{Index, Queues, Overflow, PushIndex, Pop, Coding, popped, waiting, View}
use Rattle.lock_free_queues.proofs.Names.{IsHistory, over_push_skips, over_push_wrote, pushes_over, pops_over, pop_wrote, HasRole, Ends}
use Rattle.lock_free_queues.proofs.Names.{Over, called, over_lists_kept}
use Rattle.steps.specs.declared.ask.Want.TheVariants as wants
use Rattle.steps.specs.declared.queues.overflow.PushStage as pushes
use Rattle.steps.specs.Queues.Overflow.{pop_answer, push_asks}
use Rattle.steps.specs.Queues.Ring as rings
use Rattle.model.specs.declared.turn.Kind.TheVariants as kinds
use Rattle.history_queues.specs.Overflow.{HasActed}
use Rattle.lock_free_queues.specs.Queues.Overflowing.{HasOverflowed, PushAdded, PushReplaced, over_push_events}
use Rattle.lock_free_queues.specs.Queues.Contracts.{HasPublished, HasPopped, WasAtEnd, popped_item, pop_events, HasTakenFirst, PopOldest, PopFoundNone}
use Rattle.lock_free_queues.proofs.Queues.Ended.{was_at_end, has_popped, IsPop}
use Rattle.lock_free_queues.proofs.Queues.Facts.{found_none, published_by}
use Rattle.lock_free_queues.proofs.Queues.Indices.{in_room}
use Rattle.history.proofs.OneHolder.{first_own, first_wrote}

module _ {T : Type 0} where
  -- What a push that acted writes is what a push of the history writes with that answer.
  told_is : (p value : ℕ) (m : OneWord) (e : PushEnd) → HasActed e → over_push_wrote {T = T} p value m.0 e ≡ over_push_events p value (push_answer value m.0 e)
  told_is p value m e acted = grind arith

module _ {T : Type 0} (code : Coding T) (base w : View T) (h : IsHistory code kinds.Overflow base.capacity w.seen) where
  -- what leaves is what waited first
  first_of_all : (p : ℕ) (item : Item T) (before after : List (Event T))
      → w.seen ≡ before ++ HandedOut p item ∷ after → (rest : List (Item T)) × (waiting before ≡ item ∷ rest)
  first_of_all p item before after is = over_lists_kept code base.capacity w.seen h before after (HandedOut p item) is

  -- ---- pushes

  -- a push into an overflowing queue published its number right after all that was published
  -- before, whatever it handed back
  pub over_published : (value : ℕ) (back : Option ℕ) → HasOverflowed value back base w → HasPublished (Index value) base w
  over_published value None push = published_by code Overflow base.capacity h tt push.called ((refl, refl), ((refl, refl), tt))
  over_published value (Some oldest) push =
      published_by code Overflow base.capacity h tt push.called ((refl, refl), ((refl, refl), ((refl, refl), tt)))

  -- a push that handed back a number has taken it out as the oldest that waited
  pub over_took : (value oldest : ℕ) → HasOverflowed value (Some oldest) base w → HasTakenFirst (Index oldest) base w
  over_took value oldest push =
      let party_there = push.by in
      let start = Queues (PushIndex value) in
      let act : Event T = Acted party_there start (PoppedIndex oldest) in
      let out : Event T = HandedOut party_there (Index oldest) in
      -- The push published its number, and then took the oldest one out: `before` ends where that
      -- hand-out stands.
      let wrote_first = first_wrote party_there start (PoppedIndex oldest) (Published party_there (Index value)) (out ∷ act ∷ []) base w push.called in
      let then = first_own party_there wrote_first.after (act ∷ Finished party_there start (PoppedIndex oldest) ∷ []) out wrote_first.mine in
      let before : List (Event T) = wrote_first.before ++ Published party_there (Index value) ∷ then.0 in
      let is : w.seen ≡ before ++ out ∷ then.1 =
      wrote_first.is ∙ (ap (λ zs. wrote_first.before ++ Published party_there (Index value) ∷ zs) then.2
      ∙ sym (append_assoc wrote_first.before (Published party_there (Index value) ∷ then.0) (out ∷ then.1))) in
      -- By the laws of the queue what is handed out there is the oldest that waits.
      let first = first_of_all party_there (Index oldest) before then.1 is in
      record {
        by = party_there;
        before = before;
        after = then.1;
        is = is;
        since =
            record {
              rest = wrote_first.since.rest ++ Published party_there (Index value) ∷ then.0;
              is =
                  ap (λ zs. zs ++ Published party_there (Index value) ∷ then.0) wrote_first.since.is
                  ∙ append_assoc base.seen wrote_first.since.rest (Published party_there (Index value) ∷ then.0);
            };
        rest = first.0;
        oldest = first.1;
      }

  -- ---- pops

  -- a pop that answered a number has taken it out as the oldest that waited
  pub over_taken : (x : ℕ) → HasPopped (Some (Index x)) base w → HasTakenFirst (Index x) base w
  over_taken x popping =
      let party_there = popping.by in
      let act : Event T = Acted party_there (Queues Pop) (PoppedIndex x) in
      let wrote_first = first_wrote party_there (Queues Pop) (PoppedIndex x) (HandedOut party_there (Index x)) (act ∷ []) base w popping.called in
      let first = first_of_all party_there (Index x) wrote_first.before wrote_first.after wrote_first.is in
      record {
        by = party_there;
        before = wrote_first.before;
        after = wrote_first.after;
        is = wrote_first.is;
        since = wrote_first.since;
        rest = first.0;
        oldest = first.1;
      }

  -- A pop that answers a number has taken the oldest one out.
  pub over_taken_if : (o : Option ℕ) → HasPopped (option_map Index o) base w → IfSome o (λ x. PopOldest (Index x) base w)
  over_taken_if None popping = tt
  over_taken_if (Some x) popping = (popping, over_taken x popping)

  -- A pop that answers none found none.
  pub over_empty_if : (o : Option ℕ) → HasPopped (option_map Index o) base w → IfNone o (PopFoundNone base w)
  over_empty_if None popping = (popping, found_none code Overflow base.capacity base w h popping)
  over_empty_if (Some x) popping = tt

-- ---- how they ended

-- a push is left out where its first load finds the last position
over_ends_at : (capacity value n : ℕ) (a : Ask) (stage : pushes.PushStage) → over_push_skips stage n ≡ true
    → push_asks capacity stage value ≡ wants.Ask a → (a.word ≡ 0) × (n ≡ 2 ^ 64 - 1)
over_ends_at capacity value n a stage skips push_asks_is = grind (arith, nat_tests)

module _ {T : Type 0} (code : Coding T) (base w : View T) (idle : base.going ≡ None) where
  module _ (value : ℕ) (alone : base.other ≡ []) (some : 0 < base.share.part) (has : HasRole Producer base.made) where
    -- a call of the history, or a look at a queue whose last position is reached
    abbrev pub Pushed : Option ℕ → Type 0
    Pushed back = HasOverflowed value back base w ⊎ (back ≡ Some value) × WasAtEnd base w

    -- A push that has ended as a call of the history is one with what it handed back.
    overflowed : (e : PushEnd) (m : OneWord) → Ends code kinds.Overflow (pushes_over value) base e m w → HasOverflowed value (push_answer value m.0 e) base w
    overflowed e m ends = grind (arith, called, popped, told_is)

    -- a push that is over is a call of the history with what it handed back, or handed back its
    -- own number and was a look at a queue whose last position is reached
    pub over_pushed : {e : PushEnd} {m : OneWord} → Over code kinds.Overflow (pushes_over value) base e m w → Pushed (push_answer value m.0 e)
    over_pushed {e} {m} (inl ends) = inl (overflowed e m ends)
    over_pushed {e} {m} (inr left) =
        inr (
          ap (push_answer value m.0) left.left,
          was_at_end Overflow left (λ c m n a skip asks. over_ends_at c.capacity value n a c.stage skip asks) tt alone some has,
        )

  -- What a push of `value` has done, by what it handed back: none, or an index.
  module _ (value : ℕ) (h : IsHistory code kinds.Overflow base.capacity w.seen) where
    -- what a push that handed `back` back has done: it overflowed, or the last position was reached and
    -- it got its own number back
    abbrev Back : Option ℕ → Type 0
    Back back = HasOverflowed value back base w ⊎ (back ≡ Some value) × WasAtEnd base w

    -- A push that handed none back was added to the queue.
    pub over_none : (back : Option ℕ) → Back back → IfNone back (PushAdded value base w)
    over_none None (inl push) = (push, over_published code base w h value None push)
    over_none None (inr left) = (let no : None ≡ Some value = left.0 in absurd (cc))
    over_none (Some y) pushed = tt

    -- A push that handed y back replaced the oldest value y, or got its own value back as the last
    -- position was reached.
    pub over_some : (back : Option ℕ) → Back back
        → IfSome back (λ y. PushReplaced value y base w ⊎ (y ≡ value) × WasAtEnd base w)
    over_some None pushed = tt
    over_some (Some y) (inl push) = inl (push, over_published code base w h value (Some y) push, over_took code base w h value y push)
    over_some (Some y) (inr left) = inr ((let both : Some y ≡ Some value = left.0 in cc), left.1)

  -- A number as an item.
  abbrev named : ℕ → Item T
  named x = Index x

  -- the call of `steps` that pops from an overflowing queue is a pop, by way of a room of one word
  over_pop : IsPop named in_room pops_over
  over_pop =
      record {
        start = refl;
        answer = λ e m. answers m.0 e;
        tells = λ n p from e m es h. h ∙ told p m.0 e;
      }
    where
      -- The answer of a pop of a number is that of a pop of the item.
      answers : (x : ℕ) (e : Bool) → popped {T = T} (pop_answer x e) ≡ popped_item (option_map Index (rings.pop_answer x e))
      answers x true = refl
      answers x false = refl

      -- What a pop of a number writes is what a pop of the item writes.
      told : (p x : ℕ) (e : Bool) → pop_wrote {T = T} p x e ≡ pop_events p (option_map Index (rings.pop_answer x e))
      told p x true = refl
      told p x false = refl

  -- A pop from an overflowing queue that has ended is a pop of the history with the number in its room,
  -- or with none.
  pub over_popped : (e : Bool) (m : OneWord) → Ends code kinds.Overflow pops_over base e m w → HasPopped (option_map Index (pop_answer m.0 e)) base w
  over_popped e m ends =
      subst (λ o. HasPopped (option_map Index o) base w) (same m.0 e)
      (has_popped Overflow idle over_pop ends)
    where
      -- Both ways to read the answer of a pop agree.
      same : (x : ℕ) (e : Bool) → rings.pop_answer x e ≡ pop_answer x e
      same x true = refl
      same x false = refl
