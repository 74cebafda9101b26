-- For clients: what two passes know of all values once they are joined (`passed`), and which pushes and
-- pops have to succeed.
use Rattle.lock_free_queues.proofs.Names.{◌≡◌, inl, inr, ℕ, ◌+◌, ◌-◌, ◌^◌, ◌<◌, ◌≤◌, Bool, true, false, Some, None}
use Rattle.lock_free_queues.proofs.Names.{Option, List, [], ◌∷◌, ◌++◌, length, map, take, refl, sym, ap, subst, ◌∙◌, arith}
use Rattle.lock_free_queues.proofs.Names.{append-nil, sum_by, sum_by-append, length-drop, Role, Event, Item, Index, Value}
use Rattle.lock_free_queues.proofs.Names.{QueueKind, Coding, publishes, hands_out, published}
use Rattle.lock_free_queues.proofs.Names.{handed_out, waiting, View, IsBeginning, IsHistory, Goes, MissesNothing, IsAll}
use Rattle.lock_free_queues.proofs.Names.{machine_kind, first_view, IfNone, IfSome}
use Rattle.std.proofs.Common.{length-append, true≢false}
use Rattle.std.specs.Prelude.{◌↔◌, is_some, not}
use mathlib.Core.List.{map-append}
use Rattle.threaded.specs.declared.share.Share.{Share}
use Rattle.threaded.specs.Shares.{all_shares, half_of, both_of}
use Rattle.lock_free_queues.specs.Queues.Bounded.{IsBounded}
use Rattle.lock_free_queues.specs.Queues.Closes.{Closes}
use Rattle.lock_free_queues.specs.Queues.Sent.{HasSent, HasReceived, HasPassed, TellsApart}
use Rattle.lock_free_queues.specs.Queues.Sums.{puts, gets}
use Rattle.lock_free_queues.specs.Queues.Contracts.{HasAcquired, HasPopped, WasEmpty, PushRefused, PopDone, PopEmpty, HasSplit, HasJoined}
use Rattle.steps.specs.Objects.Lists.{Bounded}
use Rattle.lock_free_queues.proofs.Queues.Facts.{listed_always}
use Rattle.history.proofs.Ranks.{hits_grow}
use Rattle.lock_free_queues.proofs.Queues.Promised.{sound}
use Rattle.lock_free_queues.proofs.Queues.Sent.{length_named, only_these}
use Rattle.lock_free_queues.proofs.Queues.Sums.{whole_counted}
use Rattle.lock_free_queues.proofs.Queues.Whole.{all_taken, nothing_more}

-- ---- names

-- Equal index items have equal numbers.
pub index_tells : {T : Type 0} → TellsApart {T = T} Index
index_tells x y e = cc

-- Equal value items have equal values.
pub value_tells : {T : Type 0} → TellsApart {T = T} Value
value_tells x y e = cc

module _ {T V : Type 0} (named : V → Item T) (tells : TellsApart named) where
  -- if the names of ys begin with those of xs, then xs are the first values of ys
  begins_with : (xs ys : List V) (zs : List (Item T)) → map named ys ≡ map named xs ++ zs → xs ≡ take (length xs) ys
  begins_with [] ys zs e = refl
  begins_with (x ∷ xs) [] zs e = absurd (cc)
  begins_with (x ∷ xs) (y ∷ ys) zs e =
      let more : map named ys ≡ map named xs ++ zs = cc in
      let here : named y ≡ named x = cc in
      ap (λ ws. x ∷ ws) (begins_with xs ys zs more) ∙ ap (λ w. w ∷ take (length xs) ys) (sym (tells y x here))

  -- two lists of values with the same names are the same
  pub same_values : (xs ys : List V) → map named xs ≡ map named ys → xs ≡ ys
  same_values [] [] e = refl
  same_values [] (y ∷ ys) e = absurd (cc)
  same_values (x ∷ xs) [] e = absurd (cc)
  same_values (x ∷ xs) (y ∷ ys) e =
      let more : map named xs ≡ map named ys = cc in
      let here : named x ≡ named y = cc in
      ap (λ ws. x ∷ ws) (same_values xs ys more) ∙ ap (λ w. w ∷ ys) (tells x y here)

-- ---- two passes are joined

-- of passes that began with nothing, one of which sent, and the other received
pub both_passed : {T V : Type 0} {named : V → Item T} {sent received : List V} {left right a b z : View T} → IsAll z.share → MissesNothing z
    → (left.seen ≡ []) × (left.made ≡ []) → (right.seen ≡ []) × (right.made ≡ []) → HasSent named sent left a → HasReceived named received right b
    → ((f : Event T → ℕ) → sum_by f z.made ≡ sum_by f a.made + sum_by f b.made) → IsBeginning a.seen z.seen → IsBeginning b.seen z.seen
    → HasPassed named sent received z
both_passed {T} {V} {named} {sent} {received} {left} {right} {a} {b} {z} whole all mine theirs has_sent has_received both ours others =
    -- With the whole share, as many values were published and taken out as both passes made.
    let counted = whole_counted z whole all in
    let none : (f : Event T → ℕ) → (sum_by f left.made ≡ 0) × (sum_by f right.made ≡ 0) = λ f. (ap (sum_by f) mine.1, ap (sum_by f) theirs.1) in
    let put = none puts in
    let got = none gets in
    let put_both = both puts in
    let got_both = both gets in
    record {
      whole = whole;
      all = all;
      -- So nobody else published, and nobody else took out.
      published_these =
          only_these has_sent (ap published mine.0) ours
          (omega (arith, counted.0, put.0, put.1, has_sent.done.puts_more, has_received.done.puts_more));
      taken_these =
          only_these has_received (ap handed_out theirs.0) others
          (omega (arith, counted.1, got.0, got.1, has_sent.done.gets_more, has_received.done.gets_more));
    }

-- what the two halves of a first pass sent and received has passed through the queue
pub passed : {T V : Type 0} {named : V → Item T} {sent received : List V} {n : ℕ} {first left right a b z : View T}
    → first ≡ first_view n → HasSplit first left right → HasSent named sent left a → HasReceived named received right b
    → HasJoined a b z → MissesNothing z → HasPassed named sent received z
passed {T} {V} {named} {sent} {received} {n} {first} {left} {right} {a} {b} {z} opens cut has_sent has_received joined none =
    both_passed whole none
    (cut.seen ∙ ap (λ (t : View T). t.seen) opens, cut.made ∙ ap (λ (t : View T). t.made) opens)
    (cut.right_seen ∙ ap (λ (t : View T). t.seen) opens, cut.right_made) has_sent has_received
    (λ f. ap (sum_by f) joined.made ∙ sum_by-append f a.made b.made) joined.ours joined.others
  where
    -- the pass to which both halves are joined has the whole share
    whole : IsAll z.share
    whole =
        let start : first.share ≡ all_shares = ap (λ (t : View T). t.share) opens in
        subst IsAll (sym (joined.share ∙ ap (λ (t : Share × Share). both_of t.0 t.1) (λ i. (
          (has_sent.share ∙ (cut.share ∙ ap half_of start)) i,
          (has_received.share ∙ (cut.right_share ∙ ap half_of start)) i,
        )))) refl

-- ---- what the whole says

module _ {T V : Type 0} {named : V → Item T} {sent received : List V} {v : View T} where
  -- what came is a beginning of what was sent
  book : (code : Coding T) (kind : QueueKind) (capacity : ℕ) → IsHistory code (machine_kind kind) capacity v.seen
      → HasPassed named sent received v → map named sent ≡ map named received ++ waiting v.seen
  book code kind capacity history has_passed =
      sym has_passed.published_these
      ∙ ((listed_always code capacity v.seen kind history v.seen [] (sym (append-nil v.seen))).book
      ∙ ap (λ ys. ys ++ waiting v.seen) has_passed.taken_these)

  -- What was received is a beginning of what was sent.
  pub in_order : (code : Coding T) (kind : QueueKind) (capacity : ℕ) → TellsApart named → IsHistory code (machine_kind kind) capacity v.seen
      → HasPassed named sent received v → received ≡ take (length received) sent
  in_order code kind capacity tells history has_passed = begins_with named tells received sent (waiting v.seen) (book code kind capacity history has_passed)

  -- no more values are left than the queue has room for
  pub few_left : (code : Coding T) (kind : QueueKind) (capacity : ℕ) → IsBounded kind → IsHistory code (machine_kind kind) capacity v.seen
      → HasPassed named sent received v → length sent ≤ length received + capacity
  few_left code kind capacity bounded history has_passed =
      let most = (sound code kind capacity v bounded history).few v.seen [] (sym (append-nil v.seen)) in
      omega (
        arith,
        ap length (book code kind capacity history has_passed),
        length-append (map named received) (waiting v.seen),
        length_named named received,
        length_named named sent,
      )

  -- a queue that is closed has the rest
  pub rest_waits : (capacity : ℕ) (q : Bounded V) → TellsApart named → HasPassed named sent received v → Closes named capacity v q → sent ≡ received ++ q.values
  rest_waits capacity q tells has_passed closed =
      same_values named tells sent (received ++ q.values)
      (sym has_passed.published_these
      ∙ ((closed.whole has_passed.whole).1
      ∙ (ap (λ ys. ys ++ map named q.values) has_passed.taken_these ∙ sym (map-append named received q.values))))

-- ---- calls of who has the whole share

module _ {T V : Type 0} {named : V → Item T} {sent received : List V} {v w : View T} where
  -- taking a role changes nothing
  pub still_passed : {role : Role} → HasPassed named sent received v → Goes v w
      → HasAcquired role true v w → HasPassed named sent received w
  still_passed has_passed goes acquired =
      record {
        whole = subst IsAll (sym goes.share) has_passed.whole;
        all = goes.all;
        published_these = nothing_more publishes v w _ has_passed.whole has_passed.all goes acquired.called.made refl ∙ has_passed.published_these;
        taken_these = nothing_more hands_out v w _ has_passed.whole has_passed.all goes acquired.called.made refl ∙ has_passed.taken_these;
      }

  -- A pop that takes out a value adds it to the end of those that were received. Those that were sent stay.
  pub one_passed : (value : V) → HasPassed named sent received v → Goes v w
      → PopDone (named value) v w → HasPassed named sent (received ++ value ∷ []) w
  one_passed value has_passed goes pop_done =
      record {
        whole = subst IsAll (sym goes.share) has_passed.whole;
        all = goes.all;
        published_these = nothing_more publishes v w _ has_passed.whole has_passed.all goes pop_done.0.called.made refl ∙ has_passed.published_these;
        taken_these = pop_done.1.list ∙ (ap (λ ys. ys ++ named value ∷ []) has_passed.taken_these ∙ sym (map-append named received (value ∷ [])));
      }

  -- where the pop finds none, all values came
  pub all_passed : (code : Coding T) (kind : QueueKind) (capacity : ℕ) → TellsApart named → HasPassed named sent received v → Goes v w
      → IsHistory code (machine_kind kind) capacity w.seen → HasPopped None v w → received ≡ sent
  all_passed code kind capacity tells has_passed goes history popped =
      let all_out = all_taken code kind capacity has_passed.whole has_passed.all goes history popped in
      let still = nothing_more hands_out v w _ has_passed.whole has_passed.all goes popped.called.made refl in
      same_values named tells received sent (sym has_passed.taken_these ∙ (sym still ∙ (all_out.1 ∙ (all_out.0 ∙ has_passed.published_these))))

-- the pop answers that it finds none just where all values came
pub emptied_is_all : {T V : Type 0} {named : V → Item T} {sent received : List V} {v w : View T} (code : Coding T) (kind : QueueKind) (capacity : ℕ)
    → TellsApart named → HasPassed named sent received v → Goes v w
    → IsHistory code (machine_kind kind) capacity w.seen → (answer : Option V) (none : Bool)
    → IfSome answer (λ x. PopDone (named x) v w) → IfNone answer (PopEmpty v w) → is_some answer ≡ not none
    → (none ≡ true) ↔ (received ≡ sent)
emptied_is_all code kind capacity tells has_passed goes history None true popped empty is =
    (λ t. all_passed code kind capacity tells has_passed goes history empty.0, λ e. refl)
emptied_is_all code kind capacity tells has_passed goes history None false popped empty is = absurd (true≢false (sym is))
emptied_is_all code kind capacity tells has_passed goes history (Some x) true popped empty is = absurd (true≢false is)
emptied_is_all {T} {V} {named} {sent} {received} {v} {w} code kind capacity tells has_passed goes history (Some x) false popped empty is =
    let more : HasPassed named sent (received ++ x ∷ []) w = one_passed x has_passed goes popped in
    let whole = ap length (book code kind capacity history more) in
    let one = length-append (map named (received ++ x ∷ [])) (waiting w.seen) in
    let two = length_named named (received ++ x ∷ []) in
    let three = length_named named sent in
    let four = length-append received (x ∷ []) in
    (λ t. absurd (true≢false (sym t)), λ e. (absurd (omega (arith, ap length e))))

-- ---- calls that succeed

-- where fewer were seen to wait than the capacity, and the last position was not reached, no push is refused
not_full : {T : Type 0} (capacity : ℕ) (item : Item T) (old new : View T) → length (waiting old.seen) < capacity
    → length (published old.seen) < 2 ^ 64 - 1 → PushRefused capacity item old new → ⊥
not_full capacity item old new room early (inl (pushed, f)) =
    let more = hits_grow hands_out old.seen f.before f.since in
    omega (
      arith,
      length-drop (length (handed_out old.seen)) (published old.seen),
      length-drop (length (handed_out f.before)) (published f.before),
      ap length f.next,
      f.full,
    )
not_full capacity item old new room early (inr e) = omega (arith, ap length e.list, e.end)

-- a push succeeds where fewer were seen to wait than the queue has room for
pub push_succeeds : {T : Type 0} {capacity : ℕ} {item : Item T} {old new : View T} (taken : Bool) → length (waiting old.seen) < capacity
    → length (published old.seen) < 2 ^ 64 - 1 → (taken ≡ false → PushRefused capacity item old new) → taken ≡ true
push_succeeds true room early full = refl
push_succeeds {T} {capacity} {item} {old} {new} false room early full = absurd (not_full capacity item old new room early (full refl))

-- with the whole share, where it has pushed less than it popped and the queue has room for
pub counted_push_succeeds : {T : Type 0} {item : Item T} {old new : View T} (code : Coding T) (kind : QueueKind) (capacity : ℕ) (taken : Bool)
    → IsHistory code (machine_kind kind) capacity old.seen → IsAll old.share → MissesNothing old
    → sum_by puts old.made < sum_by gets old.made + capacity → sum_by puts old.made < 2 ^ 64 - 1
    → (taken ≡ false → PushRefused capacity item old new) → taken ≡ true
counted_push_succeeds {T} {item} {old} {new} code kind capacity taken history whole all room early full =
    let counted = whole_counted old whole all in
    let long = ap length (listed_always code capacity old.seen kind history old.seen [] (sym (append-nil old.seen))).book in
    let both = length-append (handed_out old.seen) (waiting old.seen) in
    let p = counted.0 in
    let q = counted.1 in
    push_succeeds {capacity = capacity} {item = item} {old = old} {new = new} taken (omega arith) (omega arith) full

-- where something was seen to wait, no pop of the one that alone takes out finds the queue empty
none_waited : {T : Type 0} (old new : View T) → 0 < length (waiting old.seen) → WasEmpty old new → ⊥
none_waited old new some was_empty =
    let more = hits_grow publishes old.seen was_empty.before was_empty.since in
    omega (
      arith,
      length-drop (length (handed_out old.seen)) (published old.seen),
      length-drop (length (handed_out was_empty.before)) (published was_empty.before),
      ap length was_empty.next,
      ap length was_empty.empty,
    )

-- a pop succeeds where something was seen to wait
pub pop_succeeds : {T V : Type 0} (old new : View T) (answer : Option V) → 0 < length (waiting old.seen)
    → IfNone answer (PopEmpty old new) → is_some answer ≡ true
pop_succeeds old new None some empty = absurd (none_waited old new some empty.1)
pop_succeeds old new (Some x) some empty = refl
