-- For clients: what the calls of a sender and of a receiver come to, one after the other, and what a channel knows in the end.
use Rattle.std.proofs.Common.{◌≡◌, true, inl, inr, ℕ, ◌+◌, ◌-◌, ◌^◌, ◌<◌, ◌≤◌, List, [], ◌∷◌, ◌++◌, length, map, append-nil, refl, sym, ap, subst, ◌∙◌, arith}
use Rattle.std.proofs.lemmas.List.FromFn.{length-range_with_len}
use Rattle.std.specs.List.{range_with_len}
use Rattle.std.specs.Prelude.{Option, Some, None}
use Rattle.lock_free_loans.specs.Loan.Sender.{IsSame}
use Rattle.model.specs.declared.event.Item.TheVariants.{Index}
use Rattle.lock_free_queues.specs.Queues.Contracts.{HasAcquired, HasPopped, HasReleased}
use Rattle.model.specs.Families.Queues.Reading.{published}
use Rattle.steps.specs.declared.queues.roles.Role.TheVariants as roles
use Rattle.history.specs.Passes.{Goes}
use Rattle.lock_free_queues.specs.Queues.Overflowing.{PushAdded, PushHandedBack}
use Rattle.lock_free_queues.specs.Queues.Rings.{QueueId}
use Rattle.history.specs.declared.view.View.{View}
use Rattle.zero_copy_loans.specs.declared.channel.Channel.{Channel}
use Rattle.zero_copy_loans.specs.declared.receiver.Receiver.{Receiver}
use Rattle.zero_copy_loans.specs.declared.receiver.ReceiverParts.{ReceiverParts}
use Rattle.zero_copy_loans.specs.declared.sender.Sender.{Sender}
use Rattle.zero_copy_loans.specs.declared.sender.SenderParts.{SenderParts}
use Rattle.zero_copy_loans.specs.declared.words.Layout.{Layout}
use Rattle.zero_copy_loans.specs.Channels.{HasReadThrough, HasSentThrough}
use Rattle.zero_copy_loans.specs.Channels.{HasOpened, HasPassedOn, HasRejoined, IsReceiverOf, IsSameChannel, IsSenderOf}
use Rattle.zero_copy_loans.specs.Channels.{next_in, sending_view, shape_of, submission_in}
use Rattle.zero_copy_loans.specs.Ends.{layout_of, layout_in, next_of, places_in, receives_queue, receives_shape}
use Rattle.zero_copy_loans.specs.Ends.{receives_view, sends_queue, sends_shape, sends_view}
use Rattle.zero_copy_loans.specs.Ends.{sender_of, slots_of, word_next, HasWord, IsSameReceiver, ReceivedNone}
use Rattle.zero_copy_loans.specs.Ends.{numbers_back, numbers_of, IsOfReceiver, IsOfSender}
use Rattle.zero_copy_loans.specs.declared.receiver.Sample.{Sample}
use Rattle.zero_copy_loans.specs.declared.sender.Back.{Back}
use Rattle.zero_copy_loans.specs.Words.{word_of}
use Rattle.zero_copy_loans.specs.Ends.{received_view, sent_view, KeepsReceives, KeepsSends, HasBegun, HasReceived}
use Rattle.zero_copy_loans.specs.Ends.{HasRead, HasReadAll, HasReceivedAll, HasSent, HasSentAll, HasWaited}
use Rattle.zero_copy_loans.specs.Numbers.{Shape, ArePassedOn, AreTold, HasAll, HasReceivedNumbers, IsPassedOn, HasSentNumbers, ReceivesOn, SendsOn}
use Rattle.zero_copy_loans.proofs.Numbers.{received_nothing_yet, receives_all, receives_nothing, receives_one, receives_other, receives_still, receives_then}
use Rattle.zero_copy_loans.proofs.Numbers.{sends_all, sends_back, sends_one, sends_still, sends_then, sent_none}
use Rattle.zero_copy_loans.proofs.Relayed.{are_passed_on, passed_on, range_then, relays}
use Rattle.zero_copy_slots.specs.declared.Keeps.{Ghosts}

-- a reader that told of each number, and then of one more, has told of all
told_then : {A : Type 0} (tells : ℕ → A → Type 0) (ns : List ℕ) (told : List A) (n : ℕ) (one : A) → AreTold tells ns told → tells n one
    → AreTold tells (ns ++ n ∷ []) (told ++ one ∷ [])
told_then tells [] [] n one all is = (is, tt)
told_then tells [] (a ∷ told) n one all is = absurd all
told_then tells (m ∷ ns) [] n one all is = absurd all
told_then tells (m ∷ ns) (a ∷ told) n one all is = (all.0, told_then tells ns told n one all.1 is)

-- If of each number its value of `f` is told, what is told is the list of those values.
told_by : {A : Type 0} (f : ℕ → A) (ns : List ℕ) (told : List A) → AreTold (λ n a. a ≡ f n) ns told → told ≡ map f ns
told_by f [] [] all = refl
told_by f [] (a ∷ told) all = absurd all
told_by f (n ∷ ns) [] all = absurd all
told_by f (n ∷ ns) (a ∷ told) all = λ i. all.0 i ∷ told_by f ns told all.1 i

-- what a queue handed back, as its word is read, and after what came back was settled
pub handed_back : (capacity word next back read : ℕ) (v w then : View ℕ) → word ≡ next → read ≡ back → then ≡ w
    → PushHandedBack capacity word back v w → PushHandedBack capacity next read v then
handed_back capacity word next back read v w then is parts settled push_handed_back =
    subst (λ r. PushHandedBack capacity next r v then) (sym parts)
    (subst (λ n. PushHandedBack capacity n back v then) is (subst (PushHandedBack capacity word back v) (sym settled) push_handed_back))

module _ {X K : Type 0} {rule : Ghosts K X} where
  -- ---- the sender

  shape_kept : (old new : Sender X K rule) → sends_queue new ≡ sends_queue old → layout_of new ≡ layout_of old → sends_shape new ≡ sends_shape old
  shape_kept old new q l =
      λ i. record { room = (l i).room; places = (l i).places; capacity = (q i).capacity }

  -- a call that keeps what a sender has sent sends nothing
  pub sent_nothing : (old new : Sender X K rule) → KeepsSends old new → HasSent 0 [] old new
  sent_nothing old new keeps_sends =
      record {
        same = keeps_sends.1;
        layout = keeps_sends.2;
        next = keeps_sends.3 ∙ omega arith;
        sends = λ some. sends_still (sends_shape old) (sends_view old) (sends_view new) keeps_sends.0;
      }

  -- a value more was sent: nothing came back, or one did
  pub sent_one : (place word : ℕ) (answer : Option Back) (old new : Sender X K rule) → answer ≡ None → HasWord old place
      → slots_of old ≤ (layout_of old).room → IsSame (sender_of old) (sender_of new) → layout_of new ≡ layout_of old
      → next_of new ≡ next_of old + 1
      → (0 < (sends_queue old).capacity → Goes (sends_view old) (sends_view new))
      → word ≡ word_next old place → PushAdded word (sends_view old) (sends_view new) → HasSent 1 (numbers_back answer) old new
  sent_one place word answer old new none has fits same layout next goes is push_added =
      record {
        same = same;
        layout = layout;
        next = next;
        sends =
            λ some.
            subst (λ a. SendsOn (sends_shape old) (next_of old ∷ []) (numbers_back a) (sends_view old) (sends_view new)) (sym none)
            (sends_one (sends_shape old) (sends_queue old).capacity some (sends_view old) (sends_view new) (goes some) (next_of old) place has.0 (omega arith)
            (subst (λ w. PushAdded w (sends_view old) (sends_view new)) is push_added));
      }

  -- a send to which the queue handed a word back sends one value, and gets one number back
  pub sent_back : (place word other at back : ℕ) (old new : Sender X K rule) → HasWord old place → slots_of old ≤ (layout_of old).room
      → at < (layout_of old).room → IsSame (sender_of old) (sender_of new) → layout_of new ≡ layout_of old → next_of new ≡ next_of old + 1
      → (0 < (sends_queue old).capacity → Goes (sends_view old) (sends_view new))
      → word ≡ word_next old place → word_of (layout_of old).room other at ≡ back
      → PushHandedBack (sends_queue old).capacity word back (sends_view old) (sends_view new) → HasSent 1 (other ∷ []) old new
  sent_back place word other at back old new has fits below same layout next goes is parts push_handed_back =
      record {
        same = same;
        layout = layout;
        next = next;
        sends =
            λ some.
            sends_back (sends_shape old) (sends_queue old).capacity some (sends_view old) (sends_view new)
            (goes some) (next_of old) place has.0 (omega arith) other at below
            (subst (λ b. PushHandedBack (sends_queue old).capacity (word_next old place) b (sends_view old) (sends_view new)) (sym parts)
            (subst (λ w. PushHandedBack (sends_queue old).capacity w back (sends_view old) (sends_view new)) is push_handed_back));
      }

  -- sends one after another send both numbers of values, and get both lists back
  pub sent_then : (n m : ℕ) (xs ys : List ℕ) (s t u : Sender X K rule) → HasSent n xs s t → HasSent m ys t u → HasSent (n + m) (xs ++ ys) s u
  sent_then n m xs ys s t u first_sent second_sent =
      record {
        same = (second_sent.same.0 ∙ first_sent.same.0, second_sent.same.1 ∙ first_sent.same.1, second_sent.same.2 ∙ first_sent.same.2);
        layout = second_sent.layout ∙ first_sent.layout;
        next = omega (arith, first_sent.next, second_sent.next);
        sends =
            λ some.
            subst (λ ns. SendsOn (sends_shape s) ns (xs ++ ys) (sends_view s) (sends_view u)) (range_then (next_of s) n m)
            (sends_then (sends_shape s) (range_with_len (next_of s) n) xs (range_with_len (next_of s + n) m) ys (sends_view s) (sends_view t)
            (sends_view u) (first_sent.sends some)
            (subst (λ first. SendsOn (sends_shape s) (range_with_len first m) ys (sends_view t) (sends_view u)) first_sent.next
            (subst (λ shape. SendsOn shape (range_with_len (next_of t) m) ys (sends_view t) (sends_view u))
            (shape_kept s t first_sent.same.1 first_sent.layout)
            (second_sent.sends (subst (λ (q : QueueId). 0 < q.capacity) (sym first_sent.same.1) some)))));
      }

  -- nothing was sent yet
  pub none_sent : (s : Sender X K rule) (xs : List ℕ) → xs ≡ [] → HasSent 0 xs s s
  none_sent s xs none = subst (λ all. HasSent 0 all s s) (sym none) (sent_nothing s s (refl, (refl, refl, refl), refl, refl))

  -- after calls that send nothing, a value more is sent
  pub sends_next : (n : ℕ) (xs ys : List ℕ) (s t u w : Sender X K rule) → HasSent n xs s t → KeepsSends t u → HasSent 1 ys u w
      → HasSent (n + 1) (xs ++ ys) s w
  sends_next n xs ys s t u w first_sent keeps second_sent =
      sent_then n 1 xs ys s t w first_sent (sent_then 0 1 [] ys t u w (sent_nothing t u keeps) second_sent)

  -- after calls that send nothing, a value more is sent, and what came back is appended to a list
  pub sent_next : (n : ℕ) (xs ys zs : List ℕ) (s t u w : Sender X K rule) → zs ≡ xs ++ ys → HasSent n xs s t → KeepsSends t u
      → HasSent 1 ys u w → HasSent (n + 1) zs s w
  sent_next n xs ys zs s t u w is first_sent keeps second_sent =
      subst (λ all. HasSent (n + 1) all s w) (sym is) (sends_next n xs ys s t u w first_sent keeps second_sent)

  -- a sender that gives its role back after sends has sent what they sent
  pub sent_all : (n : ℕ) (xs : List ℕ) (s t : Sender X K rule) (p : SenderParts) → HasSent n xs s t → HasSentAll 0 [] t p → HasSentAll n xs s p
  sent_all n xs s t p has_sent has_sent_all =
      record {
        of = (has_sent_all.of.0 ∙ has_sent.same.0, has_sent_all.of.1 ∙ has_sent.same.1, has_sent_all.of.2 ∙ has_sent.same.2);
        next = omega (arith, has_sent.next, has_sent_all.next);
        sends =
            λ some.
            subst (λ ns. SendsOn (sends_shape s) ns xs (sends_view s) (sent_view p)) (append-nil (range_with_len (next_of s) n))
            (subst (λ ns. SendsOn (sends_shape s) (range_with_len (next_of s) n ++ []) ns (sends_view s) (sent_view p)) (append-nil xs)
            (sends_then (sends_shape s) (range_with_len (next_of s) n) xs [] [] (sends_view s) (sends_view t) (sent_view p) (has_sent.sends some)
            (subst (λ shape. SendsOn shape [] [] (sends_view t) (sent_view p)) (shape_kept s t has_sent.same.1 has_sent.layout)
            (has_sent_all.sends (subst (λ (q : QueueId). 0 < q.capacity) (sym has_sent.same.1) some)))));
      }

  -- a sender that has only acquired its role has sent nothing (`HasBegun`)
  pub begins : (s : Sender X K rule) (p : SenderParts) (w : View ℕ) → IsOfSender s p → next_of s ≡ p.next → sends_view s ≡ w
      → Goes (sent_view p) w → HasAcquired roles.Producer true (sent_view p) w → HasBegun p s
  begins s p w of next is goes acquired =
      record {
        of = of;
        next = next;
        sent = subst (HasSentNumbers (sends_shape s) [] [] (sent_view p)) (sym is) (sent_none (sends_shape s) (sent_view p) w roles.Producer goes acquired);
      }

  -- a sender that gives its role back sends nothing by that
  pub finishes : (s : Sender X K rule) (p : SenderParts) → IsOfSender s p → p.next ≡ next_of s
      → Goes (sends_view s) (sent_view p) → HasReleased roles.Producer (sends_view s) (sent_view p)
      → published (sent_view p).seen ≡ published (sends_view s).seen → HasSentAll 0 [] s p
  finishes s p of next goes released list =
      record {
        of = of;
        next = omega (arith, next);
        sends = λ some. sends_all (sends_shape s) roles.Producer (sends_view s) (sent_view p) goes released list;
      }

  -- ---- the receiver

  shape_stays : (old new : Receiver X K rule) → receives_queue new ≡ receives_queue old → layout_in new ≡ layout_in old
      → places_in new ≡ places_in old → receives_shape new ≡ receives_shape old
  shape_stays old new q l p = λ i. record { room = (l i).room; places = p i; capacity = (q i).capacity }

  -- a call that keeps what a receiver has received receives nothing
  pub received_nothing : (old new : Receiver X K rule) → KeepsReceives old new → HasReceived [] old new
  received_nothing old new keeps_receives =
      record {
        same = keeps_receives.1;
        layout = keeps_receives.2;
        places = keeps_receives.3;
        receives = λ some. receives_still (receives_shape old) (receives_view old) (receives_view new) keeps_receives.0;
      }

  -- a pop: the value of a sample, a word with no place, or nothing
  pub received_one : (number place word : ℕ) (old new : Receiver X K rule) → place < (layout_in old).room → IsSameReceiver old new
      → layout_in new ≡ layout_in old → places_in new ≡ places_in old
      → (0 < (receives_queue old).capacity → Goes (receives_view old) (receives_view new))
      → word_of (layout_in old).room number place ≡ word → HasPopped (Some (Index word)) (receives_view old) (receives_view new)
      → HasReceived (number ∷ []) old new
  received_one number place word old new within same layout places goes is popped =
      record {
        same = same;
        layout = layout;
        places = places;
        receives =
            λ some.
            receives_one (receives_shape old) (receives_view old) (receives_view new) number place within (goes some)
            (subst (λ w. HasPopped (Some (Index w)) (receives_view old) (receives_view new)) (sym is) popped);
      }

  -- a receive that answers None has received nothing
  pub received_none : (answer : Option Sample) (old new : Receiver X K rule) → answer ≡ None → IsSameReceiver old new
      → layout_in new ≡ layout_in old → places_in new ≡ places_in old
      → (0 < (receives_queue old).capacity → Goes (receives_view old) (receives_view new))
      → ReceivedNone old new → HasReceived (numbers_of answer) old new
  received_none answer old new is same layout places goes h =
      record {
        same = same;
        layout = layout;
        places = places;
        receives =
            λ some. subst (λ a. ReceivesOn (receives_shape old) (numbers_of a) (receives_view old) (receives_view new)) (sym is) (none h some);
      }
    where
      -- Where nothing was received the queue gave no number: it was empty, has no room at all, or
      -- gave a word of no place.
      none : ReceivedNone old new → 0 < (receives_queue old).capacity → ReceivesOn (receives_shape old) [] (receives_view old) (receives_view new)
      none (inl p) some = receives_nothing (receives_shape old) (receives_view old) (receives_view new) (goes some) p.0
      none (inr (inl p)) some = receives_still (receives_shape old) (receives_view old) (receives_view new) p.1
      none (inr (inr p)) some =
          receives_other (receives_shape old) (receives_view old) (receives_view new) p.0 p.1 (goes some) p.2.0

  -- receives one after another receive both lists
  pub received_then : (xs ys : List ℕ) (s t u : Receiver X K rule) → HasReceived xs s t → HasReceived ys t u → HasReceived (xs ++ ys) s u
  received_then xs ys s t u first_received second_received =
      record {
        same = (second_received.same.0 ∙ first_received.same.0, second_received.same.1 ∙ first_received.same.1);
        layout = second_received.layout ∙ first_received.layout;
        places = second_received.places ∙ first_received.places;
        receives =
            λ some.
            receives_then (receives_shape s) xs ys (receives_view s) (receives_view t) (receives_view u) (first_received.receives some)
            (subst (λ shape. ReceivesOn shape ys (receives_view t) (receives_view u))
            (shape_stays s t first_received.same.0 first_received.layout first_received.places)
            (second_received.receives (subst (λ (q : QueueId). 0 < q.capacity) (sym first_received.same.0) some)));
      }

  -- a receive, and then calls that receive nothing
  pub receives_next : (xs ys : List ℕ) (s t u w : Receiver X K rule) → HasReceived xs s t → HasReceived ys t u → KeepsReceives u w
      → HasReceived (xs ++ ys) s w
  receives_next xs ys s t u w first_received second_received keeps =
      subst (λ ns. HasReceived ns s w) (append-nil (xs ++ ys))
      (received_then (xs ++ ys) [] s u w (received_then xs ys s t u first_received second_received) (received_nothing u w keeps))

  -- a receiver that gives its role back after receives has received what they received
  pub received_all : (xs : List ℕ) (s t : Receiver X K rule) (p : ReceiverParts) → HasReceived xs s t → HasReceivedAll [] t p → HasReceivedAll xs s p
  received_all xs s t p has_received has_received_all =
      record {
        of = (has_received_all.of.0 ∙ has_received.same.0, has_received_all.of.1 ∙ has_received.same.1);
        receives =
            λ some.
            subst (λ ns. ReceivesOn (receives_shape s) ns (receives_view s) (received_view p)) (append-nil xs)
            (receives_then (receives_shape s) xs [] (receives_view s) (receives_view t) (received_view p) (has_received.receives some)
            (subst (λ shape. ReceivesOn shape [] (receives_view t) (received_view p))
            (shape_stays s t has_received.same.0 has_received.layout has_received.places)
            (has_received_all.receives (subst (λ (q : QueueId). 0 < q.capacity) (sym has_received.same.0) some))));
      }

  -- nothing was received, and nothing was told
  pub none_read : {A : Type 0} (tells : ℕ → A → Type 0) (told : List A) (r : Receiver X K rule) → told ≡ [] → HasRead tells told r r
  none_read tells told r none =
      record {
        numbers = [];
        of_each = subst (AreTold tells []) (sym none) tt;
        received = received_nothing r r (refl, (refl, refl), refl, refl);
      }

  -- where one value more was received, and is told so, what is told is one more
  pub read_next : {A : Type 0} (tells : ℕ → A → Type 0) (told more : List A) (one : A) (number : ℕ) (s t u w : Receiver X K rule)
      → more ≡ told ++ one ∷ [] → tells number one → HasRead tells told s t → HasReceived (number ∷ []) t u → KeepsReceives u w
      → HasRead tells more s w
  read_next tells told more one number s t u w is holds read has_received keeps =
      record {
        numbers = read.numbers ++ number ∷ [];
        of_each = subst (AreTold tells (read.numbers ++ number ∷ [])) (sym is) (told_then tells read.numbers told number one read.of_each holds);
        received = receives_next read.numbers (number ∷ []) s t u w read.received has_received keeps;
      }

  -- A receiver that gives its role back after reads has told of what they received.
  pub read_all : {A : Type 0} (tells : ℕ → A → Type 0) (told : List A) (s t : Receiver X K rule) (p : ReceiverParts) → HasRead tells told s t
      → HasReceivedAll [] t p → HasReadAll tells told s p
  read_all tells told s t p read has_received_all =
      record { numbers = read.numbers; of_each = read.of_each; received = received_all read.numbers s t p read.received has_received_all }

  -- a receiver that has only acquired its role has received nothing (`HasWaited`)
  pub waits : (r : Receiver X K rule) (p : ReceiverParts) (w : View ℕ) → IsOfReceiver r p → receives_view r ≡ w
      → Goes (received_view p) w → HasAcquired roles.Consumer true (received_view p) w → HasWaited p r
  waits r p w of is goes acquired =
      record {
        of = of;
        received =
            subst (HasReceivedNumbers (receives_shape r) [] (received_view p)) (sym is)
            (received_nothing_yet (receives_shape r) (received_view p) w roles.Consumer goes acquired);
      }

  -- a receiver that gives its role back receives nothing by that
  pub ends : (r : Receiver X K rule) (p : ReceiverParts) → IsOfReceiver r p → Goes (receives_view r) (received_view p)
      → HasReleased roles.Consumer (receives_view r) (received_view p) → HasReceivedAll [] r p
  ends r p of goes released =
      record {
        of = of;
        receives = λ some. receives_all (receives_shape r) roles.Consumer (receives_view r) (received_view p) goes released;
      }

  -- ---- the channel

  -- what an end leaves is of its channel
  pub of_channel : (c : Channel X K rule) (n : ℕ) (xs : List ℕ) (s : Sender X K rule) (p q : SenderParts) → IsSenderOf c p → HasBegun p s
      → HasSentAll n xs s q → IsSenderOf c q
  of_channel c n xs s p q is begun all = (
    all.of.0 ∙ (sym begun.of.0 ∙ is.0),
    all.of.1 ∙ (sym begun.of.1 ∙ is.1),
    all.of.2 ∙ (sym begun.of.2 ∙ is.2),
  )

  pub in_channel : (c : Channel X K rule) (xs : List ℕ) (r : Receiver X K rule) (p q : ReceiverParts) → IsReceiverOf c p → HasWaited p r
      → HasReceivedAll xs r q → IsReceiverOf c q
  in_channel c xs r p q is waited all = (all.of.0 ∙ (sym waited.of.0 ∙ is.0), all.of.1 ∙ (sym waited.of.1 ∙ is.1))

  -- What was known before, and what both ends sent and received since they were made, is known in the end. `first` is the channel
  -- before its ends were opened, `left` while they lived, and `last` with their passes taken in again.
  module _ (sent back received others came : List ℕ) (count : ℕ) (first left last : Channel X K rule) (sends sends' : SenderParts)
      (receives receives' : ReceiverParts) (s : Sender X K rule) (r : Receiver X K rule) where
    -- what a channel knows in the end is what it knew before, and what both ends sent, got back and received
    pub relayed : HasPassedOn sent back received first → HasOpened first left sends receives → IsSameChannel first left
        → HasBegun sends s → HasWaited receives r → (sends_shape s ≡ shape_of left) × (receives_shape r ≡ shape_of left)
        → 0 < (submission_in first).capacity → length sent + count < 2 ^ 64 - 1
        → HasSentAll count others s sends' → HasReceivedAll came r receives'
        → HasRejoined left last sends' receives' → IsSameChannel left last
        → HasPassedOn (sent ++ range_with_len (next_in first) count) (back ++ others) (received ++ came) last
    relayed known opened same begun waited shapes some fits all_sent all_received rejoined kept =
        -- the channel and both ends have one shape
        let shape : shape_of last ≡ shape_of first =
        (λ i. record {
          room = ((kept.3 ∙ same.3) i).room;
          places = ((kept.0 ∙ same.0) i).capacity;
          capacity = ((kept.1 ∙ same.1) i).capacity;
        }) in
        let before : shape_of left ≡ shape_of first = (λ i. record { room = (same.3 i).room; places = (same.0 i).capacity; capacity = (same.1 i).capacity }) in
        let ours : sends_shape s ≡ shape_of first = shapes.0 ∙ before in
        let theirs : receives_shape r ≡ shape_of first = shapes.1 ∙ before in
        let room : 0 < (shape_of first).capacity = some in
        let first_number : next_of s ≡ next_in first = begun.next ∙ opened.next in
        -- what the sender sent, and what the receiver received, in the channel's shape
        let sends_on : SendsOn (shape_of first) (range_with_len (next_in first) count) others (sends_view s) (sent_view sends') =
        subst (λ n. SendsOn (shape_of first) (range_with_len n count) others (sends_view s) (sent_view sends')) first_number
        (subst (λ shape. SendsOn shape (range_with_len (next_of s) count) others (sends_view s) (sent_view sends')) ours
        (all_sent.sends (subst (λ (shape : Shape). 0 < shape.capacity) (sym ours) room))) in
        let receives_on : ReceivesOn (shape_of first) came (receives_view r) (received_view receives') =
        subst (λ shape. ReceivesOn shape came (receives_view r) (received_view receives')) theirs
        (all_received.receives (subst (λ (shape : Shape). 0 < shape.capacity) (sym theirs) room)) in
        -- the law of two joined ends
        subst (λ shape. HasAll shape (sent ++ range_with_len (next_in first) count) (back ++ others) (received ++ came) (sending_view last)) (sym shape)
        (relays (shape_of first) (submission_in left).capacity sent back received (range_with_len (next_in first) count) others came
        (sending_view first) opened.half (sent_view sends) (sending_view left) (received_view receives) (sends_view s) (receives_view r)
        (sent_view sends') (received_view receives') rejoined.half (sending_view last)
        (omega (arith, length-range_with_len (next_in first) count)) known opened.cut opened.again
        (subst (λ shape. HasSentNumbers shape [] [] (sent_view sends) (sends_view s)) ours begun.sent)
        (subst (λ shape. HasReceivedNumbers shape [] (received_view receives) (receives_view r)) theirs waited.received)
        sends_on receives_on rejoined.taken_in rejoined.both rejoined.all rejoined.history)

  -- Of the first values of a new channel each, until some point, was received or came back, once and in its order; and `made` is what
  -- was told of the numbers of those that were received.
  pub first_relayed : {A : Type 0} (f : ℕ → A) (made : List A) (others : List ℕ) (count : ℕ) (first left last : Channel X K rule)
      (sends sends' : SenderParts) (receives receives' : ReceiverParts) (s : Sender X K rule) (r : Receiver X K rule)
      → HasPassedOn [] [] [] first → next_in first ≡ 0 → HasOpened first left sends receives → IsSameChannel first left
      → HasBegun sends s → HasWaited receives r → (sends_shape s ≡ shape_of left) × (receives_shape r ≡ shape_of left)
      → 0 < (submission_in first).capacity → count < 2 ^ 64 - 1 → HasSentAll count others s sends'
      → HasReadAll (λ n a. a ≡ f n) made r receives' → HasRejoined left last sends' receives' → IsSameChannel left last
      → ArePassedOn f count made others
  first_relayed f made others count first left last sends sends' receives receives' s r fresh none opened same begun waited shapes some
      fits sent read rejoined kept =
      let known : HasPassedOn (range_with_len (next_in first) count) others read.numbers last =
      relayed [] [] [] others read.numbers count first left last sends sends' receives receives' s r fresh opened same begun waited
      shapes some (omega arith) sent read.received rejoined kept in
      are_passed_on f count made others read.numbers (told_by f read.numbers made read.of_each)
      (subst (λ n. IsPassedOn (range_with_len n count) read.numbers others) none
      (passed_on (shape_of last) (range_with_len (next_in first) count) others read.numbers (sending_view last) known))

  -- What `first_relayed` says, for ends that sent and read until they were taken apart.
  pub all_relayed : {A : Type 0} (f : ℕ → A) (made : List A) (others : List ℕ) (count : ℕ) (first left last : Channel X K rule)
      (sends sends' : SenderParts) (receives receives' : ReceiverParts) (s s' : Sender X K rule) (r r' : Receiver X K rule)
      → HasPassedOn [] [] [] first → next_in first ≡ 0 → HasOpened first left sends receives → IsSameChannel first left
      → HasBegun sends s → HasWaited receives r → (sends_shape s ≡ shape_of left) × (receives_shape r ≡ shape_of left)
      → 0 < (submission_in first).capacity → count < 2 ^ 64 - 1 → HasSent count others s s' → HasSentAll 0 [] s' sends'
      → HasRead (λ n a. a ≡ f n) made r r' → HasReceivedAll [] r' receives' → HasRejoined left last sends' receives'
      → IsSameChannel left last → ArePassedOn f count made others
  all_relayed f made others count first left last sends sends' receives receives' s s' r r' fresh none opened same begun waited shapes some
      fits sent ended read over rejoined kept =
      first_relayed f made others count first left last sends sends' receives receives' s r fresh none opened same begun waited shapes
      some fits (sent_all count others s s' sends' sent ended) (read_all (λ n a. a ≡ f n) made r r' receives' read over) rejoined kept

  -- What `first_relayed` says, for ends that each thread has made of its parts.
  pub relayed_through : {A : Type 0} (f : ℕ → A) (made : List A) (others : List ℕ) (count : ℕ) (first left last : Channel X K rule)
      (sends sends' : SenderParts) (receives receives' : ReceiverParts) → HasPassedOn [] [] [] first → next_in first ≡ 0
      → HasOpened first left sends receives → IsSameChannel first left → 0 < (submission_in first).capacity → count < 2 ^ 64 - 1
      → HasSentThrough left sends count others sends' → HasReadThrough left receives (λ n a. a ≡ f n) made receives'
      → HasRejoined left last sends' receives' → IsSameChannel left last → ArePassedOn f count made others
  relayed_through f made others count first left last sends sends' receives receives' fresh none opened same some fits sent read
      rejoined kept =
      first_relayed f made others count first left last sends sends' receives receives' sent.sender read.receiver fresh none opened
      same sent.begun read.waited (sent.shape, read.shape) some fits sent.sent read.read rejoined kept
