-- What contracts say of whole calls on a queue, from what their driver knows once they have ended.
use Rattle.model.proofs.Readings.{Each-less}
use Rattle.lock_free_queues.proofs.Names.{◌≡◌, ◌≤◌, ◌+◌, ◌⊎◌, inl, inr, ℕ, Bool, true, false, Some, None, List, [], ◌∷◌, ◌++◌}
use Rattle.lock_free_queues.proofs.Names.{length, refl, sym, ap, subst, ◌∙◌, append_assoc, append-nil, arith, sum_by}
use Rattle.lock_free_queues.proofs.Names.{◌<◌, flat_map, Role, Producer, Consumer, ByHolder}
use Rattle.lock_free_queues.proofs.Names.{ByHolderOf, HasRole, marks, release_start}
use Rattle.lock_free_queues.proofs.Names.{history_by_holders, always_listed, IsListed}
use Rattle.lock_free_queues.proofs.Names.{history_by_producers, over_listed, GrantsRight, Answer, Truth}
use Rattle.lock_free_queues.proofs.Names.{Event, Begun, Published, HandedOut, Acted, Finished, Index, Start, Queues}
use Rattle.lock_free_queues.proofs.Names.{Pop, QueueKind, IndexQueue, Overflow, Queue, LengthOf, length_answer}
use Rattle.lock_free_queues.proofs.Names.{waiting, published, handed_out, Each, View, IsHistory, Called, IsBeginning}
use Rattle.lock_free_queues.proofs.Names.{length_start, counts_waiting, takes_role, gives_role, Calling, Since}
use Rattle.lock_free_queues.proofs.Names.{opened, Ends, Over, first_view, Looks, called, queue_goes_on, role_by}
use Rattle.lock_free_queues.proofs.Names.{IsAll, Item, Value, Kind, Coding, producer_of, machine_kind, Ring}
use Rattle.lock_free_queues.proofs.Names.{of_indices, of_values, kind_of, Goes}
use Rattle.model.specs.declared.event.Answer.TheVariants.{Done}
use Rattle.model.specs.declared.families.queues.calls.LengthOf.TheVariants as measures
use Rattle.model.specs.Families.Queues.Promises.{IsQueue}
use Rattle.model.specs.Families.Queues.Lengths.{TellsLength}
use Rattle.model.specs.Moments.{HeldSometime}
use Rattle.lock_free_queues.specs.Queues.Contracts.{HasPushed, HasPublished, HasTakenOut, WasFull, HasPopped, WasEmpty}
use Rattle.lock_free_queues.specs.Queues.Contracts.{HasMeasured, HasAcquired, HasReleased, FoundNone}
use Rattle.model.specs.Families.Queues.Book.{AnswersRight}
use Rattle.lock_free_queues.specs.Queues.Kinds.{NoneTaken, NoneMarked, most_waiting}
use Rattle.lock_free_queues.specs.Queues.Contracts.{push_of, popped_item}
use Rattle.history_queues.proofs.Holders.{held, one_holder, queue_role}
use Rattle.history.proofs.OneHolder.{ArePlain, IsPlain, first_wrote, listed, none_looked, none_since, none_to_end}

-- ---- what a history says of itself

-- the roles whose holder alone writes what it marks: from an overflowing queue the producer takes out too
abbrev pub IsAlone : QueueKind → Role → Type 0
IsAlone Overflow Consumer = ⊥
IsAlone kd role = Unit {0}

-- In a queue of each kind only the producer publishes.
pushes_alone : (kd : QueueKind) → IsAlone kd Producer
pushes_alone IndexQueue = tt
pushes_alone Overflow = tt
pushes_alone Queue = tt

module _ {T : Type 0} where
  -- An event that is right by `ByHolder` is right by `ByHolderOf` for each of both roles.
  of_one : (role : Role) (before : List (Event T)) (e : Event T) → ByHolder before e → ByHolderOf role before e
  of_one role before e rightly_done = grind arith

module _ {T : Type 0} (code : Coding T) (kd : QueueKind) where
  -- The kind of the machine.
  abbrev pub kind_here : Kind
  kind_here = machine_kind kd

  -- these are the events of a history of a queue of this kind and capacity
  abbrev pub IsSeen : ℕ → List (Event T) → Type 0
  IsSeen capacity seen = IsHistory code kind_here capacity seen

  -- the promise of the machine, of what was seen
  promised : (capacity : ℕ) (seen : List (Event T)) → (h : IsSeen capacity seen) → IsQueue kd h.trace
  promised capacity seen h = queue_goes_on code kd (first_view capacity) h.trace h.run

  -- In what was seen each role is granted and given back right.
  pub grants : (capacity : ℕ) (seen : List (Event T)) → IsSeen capacity seen → Each GrantsRight seen
  grants capacity seen is_seen = subst (Each GrantsRight) (sym is_seen.is) (promised capacity seen is_seen).roles

  -- In what was seen each push and each pop that acted answers right.
  pub answers_right : (capacity : ℕ) (seen : List (Event T)) → IsSeen capacity seen → Each (AnswersRight capacity) seen
  answers_right capacity seen is_seen =
      subst (λ es. Each (AnswersRight capacity) es) (sym is_seen.is)
      (subst (λ n. Each (AnswersRight n) is_seen.trace.events) is_seen.run.sized (promised capacity seen is_seen).answers)

  -- In what was seen each call on the length answers right by some moment of that call.
  pub tells_lengths : (capacity : ℕ) (seen : List (Event T)) → IsSeen capacity seen → Each (TellsLength capacity) seen
  tells_lengths capacity seen is_seen =
      subst (λ es. Each (TellsLength capacity) es) (sym is_seen.is)
      (subst (λ n. Each (TellsLength n) is_seen.trace.events) is_seen.run.sized (promised capacity seen is_seen).lengths)

-- In what was seen each push is by the holder of the producer's role, and each pop by that of the consumer's.
pub by_holder : {T : Type 0} (code : Coding T) (r : Ring) (capacity : ℕ) (seen : List (Event T)) → IsSeen code (kind_of r) capacity seen → Each ByHolder seen
by_holder code r capacity seen is_seen = history_by_holders code r capacity seen is_seen

module _ {T : Type 0} (code : Coding T) (capacity : ℕ) (seen : List (Event T)) where
  -- In a bounded queue, what the holder of a role alone writes is written by him only.
  ring_marked : (r : Ring) (role : Role) → IsSeen code (kind_of r) capacity seen → Each (ByHolderOf role) seen
  ring_marked r role h before after e is = of_one role before e (by_holder code r capacity seen h before after e is)

  -- In a queue of any kind, what the holder of a role alone writes is written by him only.
  pub by_its_holder : (kd : QueueKind) (role : Role) → IsAlone kd role → IsSeen code kd capacity seen → Each (ByHolderOf role) seen
  by_its_holder IndexQueue role alone is_seen = ring_marked of_indices role is_seen
  by_its_holder Queue role alone is_seen = ring_marked of_values role is_seen
  by_its_holder Overflow Producer alone is_seen = history_by_producers code capacity seen is_seen
  by_its_holder Overflow Consumer alone is_seen = absurd alone

  -- at any time what was taken out is a beginning of what was published, and at most
  -- `most_waiting` values wait
  pub listed_always : (kd : QueueKind) → IsSeen code kd capacity seen → (part rest : List (Event T))
      → seen ≡ part ++ rest → IsListed (most_waiting kd capacity) part
  listed_always IndexQueue is_seen part rest is = always_listed capacity code of_indices seen is_seen part rest is
  listed_always Queue is_seen part rest is = always_listed capacity code of_values seen is_seen part rest is
  listed_always Overflow is_seen part rest is = over_listed code capacity seen is_seen part rest is

-- ---- pushes

module _ {T : Type 0} where
  -- A push of an index or of a value that ends was made by the party that held the producer's role
  -- before its end.
  acted_by : (item : Item T) (p : ℕ) (taken : Bool) (before : List (Event T))
      → ByHolder before (Acted p (Queues (push_of item)) (Truth taken)) → producer_of before ≡ Some p
  acted_by (Index v) p taken before h = h
  acted_by (Value v) p taken before h = h

  -- Where a push answers false, as many values as the capacity waited.
  full_by : (item : Item T) (p capacity : ℕ) (before : List (Event T))
      → AnswersRight capacity before (Acted p (Queues (push_of item)) (Truth false))
      → length (waiting before) ≡ capacity
  full_by (Index v) p capacity before h = h
  full_by (Value v) p capacity before h = h

  -- The end of a push leaves the producer's role with its holder, and publishes nothing.
  plain_end : (item : Item T) (p : ℕ) (taken : Bool) → IsPlain (queue_role Producer) p (Finished p (Queues (push_of item)) (Truth taken))
  plain_end (Index v) p taken = (refl, refl)
  plain_end (Value v) p taken = (refl, refl)

-- a push that published first, and then wrote what neither publishes nor moves a role
pub published_by : {T : Type 0} (code : Coding T) (kd : QueueKind) (capacity : ℕ) {base w : View T} {item : Item T}
    {p : ℕ} {answer : Answer T} {rest : List (Event T)}
    → IsSeen code kd capacity w.seen → IsAlone kd Producer
    → Called p (Queues (push_of item)) answer (Published p item ∷ rest) base w
    → ArePlain (queue_role Producer) p (rest ++ Finished p (Queues (push_of item)) answer ∷ []) → HasPublished item base w
published_by code kd capacity {base} {w} {item} {p} {answer} {rest} is_seen alone call plain =
    let wrote_first = first_wrote p (Queues (push_of item)) answer (Published p item) rest base w call in
    let all = by_its_holder code capacity w.seen kd Producer alone is_seen in
    let holds = all wrote_first.before wrote_first.after (Published p item) wrote_first.is in
    record {
      by = p;
      before = wrote_first.before;
      after = wrote_first.after;
      is = wrote_first.is;
      since = wrote_first.since;
      next = none_since (queue_role Producer) (one_holder Producer) wrote_first all holds;
      list = listed (queue_role Producer) (one_holder Producer) wrote_first all holds (grants code kd capacity w.seen is_seen) refl plain;
    }

-- where a pop answers None nothing waited as it acted
pub found_none : {T : Type 0} (code : Coding T) (kd : QueueKind) (capacity : ℕ) (base w : View T)
    → IsSeen code kd capacity w.seen → HasPopped None base w → FoundNone base w
found_none code kd capacity base w is_seen popping =
    let party_there = popping.by in
    let act = Acted party_there (Queues Pop) (popped_item None) in
    let wrote_first = first_wrote party_there (Queues Pop) (popped_item None) act [] base w popping.called in
    record {
      by = party_there;
      before = wrote_first.before;
      after = wrote_first.after;
      is = wrote_first.is;
      since = wrote_first.since;
      empty = answers_right code kd capacity w.seen is_seen wrote_first.before wrote_first.after act wrote_first.is;
    }

-- In a bounded queue each role has events that its holder alone writes.
pub role_alone : (r : Ring) (role : Role) → IsAlone (kind_of r) role
role_alone of_indices role = tt
role_alone of_values role = tt

-- r says whether the queue is of indices or of values; base and w are what the pass knew before a call and after it
module _ {T : Type 0} (code : Coding T) (r : Ring) (capacity : ℕ) (base w : View T) (h : IsSeen code (kind_of r) capacity w.seen) where
  -- In what the pass has seen, the holder of each role alone writes what belongs to it.
  marked : (role : Role) → Each (ByHolderOf role) w.seen
  marked role = ring_marked code capacity w.seen r role h

  module _ (item : Item T) where
    -- a push that was refused found the capacity waiting, and nobody published meanwhile
    pub was_full : HasPushed item false base w → WasFull capacity item base w
    was_full pushing =
        let party_there = pushing.by in
        let act : Event T = Acted party_there (Queues (push_of item)) (Truth false) in
        let wrote_first = first_wrote party_there (Queues (push_of item)) (Truth false) act [] base w pushing.called in
        -- The party of the push holds the producer's role, so nobody else published meanwhile.
        let all = by_holder code r capacity w.seen h in
        let holds = acted_by item party_there false wrote_first.before (all wrote_first.before wrote_first.after act wrote_first.is) in
        record {
          by = party_there;
          before = wrote_first.before;
          after = wrote_first.after;
          is = wrote_first.is;
          since = wrote_first.since;
          next = none_since (queue_role Producer) (one_holder Producer) wrote_first (marked Producer) holds;
          full =
              full_by item party_there capacity wrote_first.before
              (answers_right code (kind_of r) capacity w.seen h wrote_first.before wrote_first.after act wrote_first.is);
          list =
              listed (queue_role Producer) (one_holder Producer) wrote_first (marked Producer) holds
              (grants code (kind_of r) capacity w.seen h) refl (plain_end item party_there false, tt)
              ∙ append-nil (published base.seen);
        }

    -- a push that was taken published its item right after all that was seen to be published
    pub has_published : HasPushed item true base w → HasPublished item base w
    has_published pushing =
        (let party_there = pushing.by in
        published_by code (kind_of r) capacity h (role_alone r Producer) pushing.called
        ((refl, refl), (plain_end item party_there true, tt)))

  -- ---- pops

  -- a pop that answered None found nothing waiting, and nobody took anything out meanwhile
  pub was_empty : HasPopped None base w → WasEmpty base w
  was_empty popping =
      let party_there = popping.by in
      let act : Event T = Acted party_there (Queues Pop) (popped_item None) in
      let wrote_first = first_wrote party_there (Queues Pop) (popped_item None) act [] base w popping.called in
      let all = by_holder code r capacity w.seen h in
      let holds = all wrote_first.before wrote_first.after act wrote_first.is in
      record {
        by = party_there;
        before = wrote_first.before;
        after = wrote_first.after;
        is = wrote_first.is;
        since = wrote_first.since;
        next = none_since (queue_role Consumer) (one_holder Consumer) wrote_first (marked Consumer) holds;
        empty = answers_right code (kind_of r) capacity w.seen h wrote_first.before wrote_first.after act wrote_first.is;
        list =
            listed (queue_role Consumer) (one_holder Consumer) wrote_first (marked Consumer) holds
            (grants code (kind_of r) capacity w.seen h) refl ((refl, refl), tt)
            ∙ append-nil (handed_out base.seen);
      }

  -- a pop that answered an item took it out right after all that was seen to be taken out
  pub has_taken_out : (item : Item T) → HasPopped (Some item) base w → HasTakenOut item base w
  has_taken_out item popping =
      let party_there = popping.by in
      let act : Event T = Acted party_there (Queues Pop) (popped_item (Some item)) in
      let wrote_first = first_wrote party_there (Queues Pop) (popped_item (Some item)) (HandedOut party_there item) (act ∷ []) base w popping.called in
      let all = by_holder code r capacity w.seen h in
      let holds = all wrote_first.before wrote_first.after (HandedOut party_there item) wrote_first.is in
      record {
        by = party_there;
        before = wrote_first.before;
        after = wrote_first.after;
        is = wrote_first.is;
        since = wrote_first.since;
        next = none_since (queue_role Consumer) (one_holder Consumer) wrote_first (marked Consumer) holds;
        list =
            listed (queue_role Consumer) (one_holder Consumer) wrote_first (marked Consumer) holds
            (grants code (kind_of r) capacity w.seen h) refl ((refl, refl), ((refl, refl), tt));
      }

module _ {T : Type 0} (code : Coding T) (kd : QueueKind) where
  -- a look by who has a role: nobody else wrote what its holder writes
  pub looked_alone : (role : Role) → IsAlone kd role → {base w : View T}
      → Looks code (machine_kind kd) base.capacity base w → base.other ≡ [] → 0 < base.share.part
      → HasRole role base.made → flat_map (marks role) w.seen ≡ flat_map (marks role) base.seen
  looked_alone role only {base} {w} looks alone some has =
      let q = looks.parties in
      let h = looks.history in
      let by_this_party =
      role_by q.owner q.seat role w.seen base.made (grants code kd base.capacity w.seen h)
      (λ f. ap (sum_by f) (sym looks.made) ∙ q.sums f) has in
      none_looked (queue_role role) (one_holder role) by_this_party.0 base.seen looks.mine.rest w.seen looks.mine.is
      (by_its_holder code base.capacity w.seen kd role only h) (looks.apart alone some by_this_party.0 by_this_party.1) by_this_party.2

-- ---- the end of a call

module _ {T : Type 0} {p : ℕ} {start : Start T} {answer : Answer T} {wrote : List (Event T)} {old new : View T}
    (c : Called p start answer wrote old new) where
  -- what was seen before the end of the call
  abbrev pub before_end : List (Event T)
  before_end = (old.seen ++ c.others) ++ Begun p start ∷ c.during

  -- What is seen behind the call ends with its end.
  pub to_end : new.seen ≡ before_end ++ Finished p start answer ∷ []
  to_end = c.is ∙ sym (append_assoc (old.seen ++ c.others) (Begun p start ∷ c.during) (Finished p start answer ∷ []))

-- ---- lengths

-- An answer of a call on the length is the one by the items that waited at some moment of that call.
stood_as : {T : Type 0} (which : LengthOf) (p c : ℕ) (answer : Answer T) (xs : List (Event T))
    → TellsLength c xs (Finished p (Queues (length_start which)) answer)
    → HeldSometime p (λ part. answer ≡ length_answer which c (length (waiting part))) xs
stood_as which p c answer xs tells_length = grind arith

-- A call on a queue of this kind has led its pass from `base`, where no call was under way, to `w`.
module _ {T : Type 0} {code : Coding T} (kd : QueueKind) {base w : View T} (idle : base.going ≡ None) where
  -- a call on lengths that has ended answers that of the number that waited at one moment of the call
  pub measured : (which : LengthOf) {n : ℕ} {m : Unit {0}}
      → Ends code (machine_kind kd) (counts_waiting which base.capacity) base n m w
      → HasMeasured which base.capacity (length_answer which base.capacity n) base w
  measured which {n} {m} ends =
      let party_now = ends.party in
      let start : Start T = Queues (length_start which) in
      let answer : Answer T = length_answer which base.capacity n in
      let called_once = called code (machine_kind kd) (counts_waiting which base.capacity) base w n m idle ends in
      let its_call : Called party_now start answer [] base w = subst (λ es. Called party_now start answer es base w) ends.tells called_once in
      let events_then : List (Event T) = before_end its_call in
      let last : Event T = Finished party_now start answer in
      let is : w.seen ≡ events_then ++ last ∷ [] = to_end its_call in
      let h = ends.history in
      -- By the laws the answer is that of the number that waited at some moment of the call.
      let told : TellsLength base.capacity events_then last =
      subst (λ k. TellsLength k events_then last) h.run.sized ((promised code kd base.capacity w.seen h).lengths events_then [] last (sym h.is ∙ is)) in
      record {
        by = party_now;
        mine = ends.mine;
        called = its_call;
        before = events_then;
        is = is;
        stood = stood_as which party_now base.capacity answer events_then told;
      }

  -- the length that a call answers is at most as many values as can wait
  pub few : (which : LengthOf) → which ≡ measures.Len → {n : ℕ} {m : Unit {0}}
      → Ends code (machine_kind kd) (counts_waiting which base.capacity) base n m w
      → n ≤ most_waiting kd base.capacity
  few measures.IsEmpty is ends = absurd (cc)
  few measures.IsFull is ends = absurd (cc)
  few measures.Len is {n} {m} ends =
      let told = measured measures.Len ends in
      let stood = told.stood in
      let same : n ≡ length (waiting stood.part) = (let e = stood.held in cc) in
      let last : Event T = Finished told.by (Queues (length_start measures.Len)) (length_answer measures.Len base.capacity n) in
      let is : w.seen ≡ stood.part ++ (stood.rest ++ last ∷ []) =
      told.is ∙ (ap (λ xs. xs ++ last ∷ []) stood.is ∙ append_assoc stood.part stood.rest (last ∷ [])) in
      omega (arith, (listed_always code base.capacity w.seen kd ends.history stood.part (stood.rest ++ last ∷ []) is).few)

  -- An acquire of a role that has ended is a call of the history with its answer.
  pub acquired : (role : Role) {taken : Bool} {m : Unit {0}} → Ends code (machine_kind kd) (takes_role role) base taken m w → HasAcquired role taken base w
  acquired role {taken} {m} ends = grind (arith, called)

  -- ---- releases: while the role was held, and as it was given back, nobody else wrote what its holder writes

  -- A release of a role that has ended is a call of the history.
  pub released : (role : Role) {e m : Unit {0}} → Ends code (machine_kind kd) (gives_role role) base e m w → HasReleased role base w
  released role {e} {m} ends = grind (arith, called)

  -- Where only a role's holder writes what the role marks (publishes or takes out), who gave the role
  -- back has seen no more of it than before.
  left_after : (role : Role) → IsAlone kd role → IsHistory code (machine_kind kd) base.capacity w.seen
      → HasReleased role base w → flat_map (marks role) w.seen ≡ flat_map (marks role) base.seen
  left_after role only h left =
      let p = left.by in
      let start : Start T = Queues (release_start role) in
      let c = left.called in
      let xs : List (Event T) = before_end c in
      let last : Event T = Finished p start Done in
      let seen_is : w.seen ≡ xs ++ last ∷ [] = to_end c in
      let holds : held role xs ≡ Some p = held_at role p xs (grants code kd base.capacity w.seen h xs [] last seen_is) in
      ap (flat_map (marks role)) seen_is
      ∙ none_to_end (queue_role role) (one_holder role) p start base.seen c.others c.during
      (Each-less (ByHolderOf role) xs (last ∷ []) (subst (Each (ByHolderOf role)) seen_is (by_its_holder code base.capacity w.seen kd role only h)))
      c.others_own c.during_own holds last (no_mark role p)
    where
      -- A release ends while its party holds the role.
      held_at : (r : Role) (p : ℕ) (xs : List (Event T)) → GrantsRight xs (Finished p (Queues (release_start r)) Done) → held r xs ≡ Some p
      held_at Producer p xs grants_right = grants_right.1
      held_at Consumer p xs grants_right = grants_right.1

      -- The end of a release is no publish and no hand-out.
      no_mark : (r : Role) (p : ℕ) → marks {T = T} r (Finished p (Queues (release_start r)) Done) ≡ []
      no_mark Producer p = refl
      no_mark Consumer p = refl

  -- a release that has ended leaves what the role's holder alone writes as it was
  pub left_alone : (role : Role) → IsAlone kd role → {e m : Unit {0}}
      → Ends code (machine_kind kd) (gives_role role) base e m w
      → flat_map (marks role) w.seen ≡ flat_map (marks role) base.seen
  left_alone role only ends = left_after role only ends.history (released role ends)

-- A call on a queue has led its pass from `base`, where no call was under way, to `w`.
module _ {T : Type 0} {code : Coding T} {base w : View T} (idle : base.going ≡ None) {e m : Unit {0}} where
  -- A consumer's release leaves what was taken out as it was, except of an overflowing queue, where
  -- pushes take out too.
  left_taken : (kd : QueueKind) → Ends code (machine_kind kd) (gives_role Consumer) base e m w → NoneTaken kd base w
  left_taken IndexQueue ends = left_alone IndexQueue idle Consumer tt ends
  left_taken Overflow ends = tt
  left_taken Queue ends = left_alone Queue idle Consumer tt ends

  -- A release of a role leaves what the holder of the role alone writes as it was.
  pub left_marked : (kd : QueueKind) (role : Role) → Ends code (machine_kind kd) (gives_role role) base e m w → NoneMarked role kd base w
  left_marked kd Producer ends = left_alone kd idle Producer (pushes_alone kd) ends
  left_marked kd Consumer ends = left_taken kd ends

-- ---- what each call leaves

-- If the operations aside are as many as before, or one more, they are at most one more.
aside_most : {n m : ℕ} → (m ≡ n) ⊎ (m ≡ n + 1) → m ≤ n + 1
aside_most (inl same) = omega arith
aside_most (inr more) = omega arith

-- What is seen behind a call begins with what was seen before it.
later_than : {T : Type 0} {base w : View T} {p : ℕ} {start : Start T} {wrote last : List (Event T)} → Since p start wrote last base w
    → IsBeginning base.seen w.seen
later_than since = grind (arith, opened, append_assoc)

-- The call has led its pass from `base` to `w`.
module _ {T C M E : Type 0} {code : Coding T} {kind : Kind} {call : Calling T C M E} {base w : View T} {e : E} {m : M} where
  -- a call that is over leaves the share, and a history and a run that go on from those that were known
  pub goes_over : Over code kind call base e m w → Goes base w
  goes_over (inl ends) =
      record { share = ends.share; since = later_than ends.since; first = ends.ran.first; all = λ whole. ends.all (subst IsAll ends.share whole) }
  goes_over (inr left) =
      let looks = left.looked in
      record { share = looks.share; since = looks.mine; first = looks.ran.first; all = λ whole. looks.all (subst IsAll looks.share whole) }

  -- A call that is over leaves at most one operation more that was asked for and is no step of a call.
  pub aside_over : Over code kind call base e m w → w.aside ≤ base.aside + 1
  aside_over (inl ends) = aside_most ends.aside
  aside_over (inr left) = omega (arith, left.asked, left.looked.aside)

  -- what the pass has seen when the call is over is a history
  pub seen_over : Over code kind call base e m w → IsHistory code kind base.capacity w.seen
  seen_over (inl ends) = ends.history
  seen_over (inr left) = left.looked.history
