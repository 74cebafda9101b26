-- What a peek, and a look at a role, say once they have ended, and what a pop after a peek answers.
use Rattle.std.proofs.Common.{is_none, not}
use Rattle.lock_free_queues.proofs.Names.{◌≡◌, ℕ, Bool, Option, Some, None, IfSome, IfNone, List, [], ◌∷◌, ◌++◌}
use Rattle.lock_free_queues.proofs.Names.{zero, suc, length, drop, slice_get, refl, sym, ap, subst, ◌∙◌, append-nil, append_assoc, fold-append}
use Rattle.lock_free_queues.proofs.Names.{flat_map-append, option_map, Role, Producer, Consumer, Answer, Truth, Event}
use Rattle.lock_free_queues.proofs.Names.{HandedOut, Finished, Item, Index, Value, Start, Queues, Flight, Peek, QueueKind}
use Rattle.lock_free_queues.proofs.Names.{Coding, GrantsRight, machine_kind, published, handed_out, publishes, hands_out, waiting}
use Rattle.lock_free_queues.proofs.Names.{waiting_is, View, IsBeginning, Called, LastStep, ByHolderOf, holder_by, look_start}
use Rattle.lock_free_queues.proofs.Names.{Each, looks_role, Calling, Ends, called, peeker, producer_of, IsListed}
use Rattle.model.proofs.Readings.{Each-less}
use Rattle.steps.specs.Queues.Ring.{pop_answer}
use Rattle.model.specs.Families.Queues.Lengths.{TellsLength}
use Rattle.model.specs.Families.Queues.Objects.{answer_of_item}
use Rattle.lock_free_queues.specs.Queues.Contracts.{popped_item, HasPeeked, HasSeenRole, HasTakenOut, WasEmpty}
use Rattle.history_queues.proofs.Holders.{held, one_holder, queue_role}
use Rattle.history.proofs.OneHolder.{none_to_end}
use Rattle.model.specs.Families.Queues.Reading.{producer_after, consumer_after, consumer_of}
use Rattle.lock_free_queues.proofs.Queues.Facts.{IsAlone, IsSeen, before_end, to_end, by_its_holder, grants, tells_lengths, listed_always}
use Rattle.lock_free_queues.specs.Queues.Kinds.{most_waiting}

module _ {T : Type 0} where
  -- the call is a peek, by way of a room that has this value in the end
  pub record IsPeek {C M V : Type 0} (named : V → Item T) (value : M → V) (call : Calling T C M Bool) : Type 0 where
    pub start : call.start ≡ Queues Peek
    pub answer : (e : Bool) (m : M) → call.answer e m ≡ popped_item (option_map named (pop_answer (value m) e))
    pub tells : (n p : ℕ) (from : Option (Start T × Flight T)) (e : Bool) (m : M) (es : List (Event T))
        → call.wrote_all n p from e m es → es ≡ []

  -- different items have different answers
  same_item : (a b : Option (Item T)) → popped_item a ≡ answer_of_item b → a ≡ b
  same_item None None e = refl
  same_item None (Some (Index j)) e = absurd (cc)
  same_item None (Some (Value y)) e = absurd (cc)
  same_item (Some (Index i)) None e = absurd (cc)
  same_item (Some (Index i)) (Some (Index j)) e = cc
  same_item (Some (Index i)) (Some (Value y)) e = absurd (cc)
  same_item (Some (Value x)) None e = absurd (cc)
  same_item (Some (Value x)) (Some (Index j)) e = absurd (cc)
  same_item (Some (Value x)) (Some (Value y)) e = cc

  -- the end of a call leaves what waits
  still_waits : (p : ℕ) (start : Start T) (answer : Answer T) (xs : List (Event T)) → waiting (xs ++ Finished p start answer ∷ []) ≡ waiting xs
  still_waits p start answer xs =
      let all : List (Event T) = xs ++ Finished p start answer ∷ [] in
      let out : handed_out all ≡ handed_out xs = flat_map-append hands_out xs (Finished p start answer ∷ []) ∙ append-nil (handed_out xs) in
      let put : published all ≡ published xs = flat_map-append publishes xs (Finished p start answer ∷ []) ∙ append-nil (published xs) in
      ap (λ hs. drop (length hs) (published all)) out ∙ ap (λ ps. drop (length (handed_out xs)) ps) put

module _ {T : Type 0} {code : Coding T} (kd : QueueKind) {base w : View T} where
  -- of a queue from which the consumer alone takes: a peek that wrote nothing, and whose end was
  -- the machine's last step, answers the oldest value that waits, and meanwhile none was taken out
  peeked_by : IsAlone kd Consumer → (p : ℕ) (answer : Option (Item T)) → w.party ≡ Some p
      → Called p (Queues Peek) (popped_item answer) [] base w → IsSeen code kd base.capacity w.seen
      → LastStep code (machine_kind kd) base.capacity p (Finished p (Queues Peek) (popped_item answer)) w.seen
      → HasPeeked answer base w
  peeked_by alone p answer mine c is_seen step =
      let last : Event T = Finished p (Queues Peek) (popped_item answer) in
      let events_then : List (Event T) = before_end c in
      let seen_is : w.seen ≡ events_then ++ last ∷ [] = to_end c in
      -- The answer is right by the machine's last step, and the party of the peek held the
      -- consumer's role then.
      let told : TellsLength base.capacity events_then last = tells_lengths code kd base.capacity w.seen is_seen events_then [] last seen_is in
      let holds : held Consumer events_then ≡ Some p = peeker code kd base.capacity p (popped_item answer) w.seen events_then step seen_is in
      let each = subst (Each (ByHolderOf Consumer)) seen_is (by_its_holder code base.capacity w.seen kd Consumer alone is_seen) in
      record {
        by = p;
        mine = mine;
        called = c;
        oldest =
            same_item answer (slice_get (waiting events_then) 0) told
            ∙ ap (λ ws. slice_get ws 0) (sym (ap waiting seen_is ∙ still_waits p (Queues Peek) (popped_item answer) events_then));
        -- Only the holder takes out, and during a peek he takes nothing out.
        list =
            ap handed_out seen_is
            ∙ none_to_end (queue_role Consumer) (one_holder Consumer) p (Queues Peek) base.seen c.others c.during
            (Each-less (ByHolderOf Consumer) events_then (last ∷ []) each) c.others_own c.during_own holds last refl;
      }

  module _ (idle : base.going ≡ None) where
    -- what a peek says once it has ended
    pub has_peeked : {C M V : Type 0} → IsAlone kd Consumer → {named : V → Item T} {value : M → V} {call : Calling T C M Bool}
        → IsPeek named value call → {e : Bool} {m : M} → Ends code (machine_kind kd) call base e m w
        → HasPeeked (option_map named (pop_answer (value m) e)) base w
    has_peeked alone {named} {value} {call} is {e} {m} ends =
        let party_now = ends.party in
        let o = option_map named (pop_answer (value m) e) in
        let called_once = called code (machine_kind kd) call base w e m idle ends in
        let none : ends.wrote ≡ [] = is.tells base.capacity party_now base.going e m ends.wrote ends.tells in
        let its_call : Called party_now (Queues Peek) (popped_item o) [] base w =
        subst (λ es. Called party_now (Queues Peek) (popped_item o) es base w) none
        (subst (λ a. Called party_now (Queues Peek) a ends.wrote base w) (is.answer e m)
        (subst (λ st. Called party_now st (call.answer e m) ends.wrote base w) is.start called_once)) in
        let step : LastStep code (machine_kind kd) base.capacity party_now (Finished party_now (Queues Peek) (popped_item o)) w.seen =
        subst (λ a. LastStep code (machine_kind kd) base.capacity party_now (Finished party_now (Queues Peek) a) w.seen) (is.answer e m)
        (subst (λ st. LastStep code (machine_kind kd) base.capacity party_now (Finished party_now st (call.answer e m)) w.seen) is.start ends.last) in
        peeked_by alone party_now o ends.mine its_call ends.history step

    -- ---- roles

    -- a look at a role that has ended answers whether somebody has the role
    pub seen_role : (role : Role) {taken : Bool} {m : Unit {0}} → Ends code (machine_kind kd) (looks_role role) base taken m w
        → HasSeenRole role taken base w
    seen_role role {taken} {m} ends =
        let p = ends.party in
        let start : Start T = Queues (look_start role) in
        let called_once = called code (machine_kind kd) (looks_role role) base w taken m idle ends in
        let its_call : Called p start (Truth taken) [] base w = subst (λ es. Called p start (Truth taken) es base w) ends.tells called_once in
        let last : Event T = Finished p start (Truth taken) in
        let seen_is : w.seen ≡ before_end its_call ++ last ∷ [] = to_end its_call in
        record {
          by = p;
          mine = ends.mine;
          called = its_call;
          holder =
              held_is role p (before_end its_call) (grants code kd base.capacity w.seen ends.history (before_end its_call) [] last seen_is)
              ∙ ap (λ es. not (is_none (holder_by role es))) (sym seen_is);
        }
      where
        -- Equal answers say the same of the role.
        told : (b : Bool) → ◌≡◌ {A = Answer T} (Truth taken) (Truth b) → taken ≡ b
        told b e = cc

        -- the look's end leaves the role to who has it
        held_is : (r : Role) (p : ℕ) (xs : List (Event T)) → GrantsRight xs (Finished p (Queues (look_start r)) (Truth taken))
            → taken ≡ not (is_none (holder_by r (xs ++ Finished p (Queues (look_start r)) (Truth taken) ∷ [])))
        held_is Producer p xs grants_right =
            told (not (is_none (producer_of xs))) grants_right
            ∙ ap (λ o. not (is_none o)) (sym (fold-append producer_after None xs (Finished p (Queues (look_start Producer)) (Truth taken) ∷ [])))
        held_is Consumer p xs grants_right =
            told (not (is_none (consumer_of xs))) grants_right
            ∙ ap (λ o. not (is_none o)) (sym (fold-append consumer_after None xs (Finished p (Queues (look_start Consumer)) (Truth taken) ∷ [])))

-- ---- a pop after a peek

-- the item that a list has behind its first n items stays there as the list grows
first_stays : {A : Type 0} → (n : ℕ) (xs more : List A) (x : A) → Some x ≡ slice_get (drop n xs) 0 → slice_get (drop n (xs ++ more)) 0 ≡ Some x
first_stays zero [] more x e = absurd (cc)
first_stays (suc n) [] more x e = absurd (cc)
first_stays zero (y ∷ ys) more x e = sym e
first_stays (suc n) (y ∷ ys) more x e = first_stays n ys more x e

module _ {T : Type 0} where
  -- while nothing is taken out the oldest that waits stays
  still_oldest : (part whole : List (Event T)) (item : Item T) → IsBeginning part whole → handed_out whole ≡ handed_out part
      → Some item ≡ slice_get (waiting part) 0 → slice_get (waiting whole) 0 ≡ Some item
  still_oldest part whole item begins same first =
      let more : published whole ≡ published part ++ published begins.rest =
      ap published begins.is ∙ flat_map-append publishes part begins.rest in
      ap (λ n. slice_get (drop n (published whole)) 0) (ap length same)
      ∙ (ap (λ ps. slice_get (drop (length (handed_out part)) ps) 0) more
      ∙ first_stays (length (handed_out part)) (published part) (published begins.rest) item first)

  -- what is taken out waited first
  taken_waited : (c : ℕ) (before : List (Event T)) (p : ℕ) (x : Item T) → IsListed c (before ++ HandedOut p x ∷ [])
      → slice_get (waiting before) 0 ≡ Some x
  taken_waited c before p x listed =
      let rest = waiting (before ++ HandedOut p x ∷ []) in
      let same : published (before ++ HandedOut p x ∷ []) ≡ published before =
      flat_map-append publishes before (HandedOut p x ∷ []) ∙ append-nil (published before) in
      let out : handed_out (before ++ HandedOut p x ∷ []) ≡ handed_out before ++ x ∷ [] = flat_map-append hands_out before (HandedOut p x ∷ []) in
      let book : published before ≡ handed_out before ++ x ∷ rest =
      sym same ∙ (listed.book ∙ (ap (λ xs. xs ++ rest) out ∙ append_assoc (handed_out before) (x ∷ []) rest)) in
      ap (λ xs. slice_get xs 0) (waiting_is before (x ∷ rest) book)

module _ {T : Type 0} (code : Coding T) (kd : QueueKind) (capacity : ℕ) (item : Item T) (old was new : View T)
    (peek : HasPeeked (Some item) old was) where
  -- a pop whose view goes on from that of the peek answers the item that the peek answered
  pub pop_answers_it : IsSeen code kd capacity new.seen → (answer : Option (Item T)) → IfSome answer (λ x. HasTakenOut x was new)
      → IfNone answer (WasEmpty was new) → answer ≡ Some item
  pop_answers_it is_seen None taken empty =
      let none : slice_get (waiting empty.before) 0 ≡ None = ap (λ xs. slice_get xs 0) empty.empty in
      sym none ∙ still_oldest was.seen empty.before item empty.since empty.next peek.oldest
  pop_answers_it is_seen (Some x) taken empty =
      let split : new.seen ≡ (taken.before ++ HandedOut taken.by x ∷ []) ++ taken.after =
      taken.is ∙ sym (append_assoc taken.before (HandedOut taken.by x ∷ []) taken.after) in
      let listed = listed_always code capacity new.seen kd is_seen (taken.before ++ HandedOut taken.by x ∷ []) taken.after split in
      sym (taken_waited (most_waiting kd capacity) taken.before taken.by x listed)
      ∙ still_oldest was.seen taken.before item taken.since taken.next peek.oldest
