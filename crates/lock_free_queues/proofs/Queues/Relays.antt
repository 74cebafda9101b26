-- For clients that pass values from one thread to another: each call of a guard, and what the two threads come to.
use Rattle.lock_free_queues.proofs.Names.{◌≡◌, inl, inr, ℕ, ◌+◌, ◌<◌, ◌≤◌, Bool, true, false, Option, Some, None}
use Rattle.lock_free_queues.proofs.Names.{List, [], ◌∷◌, ◌++◌, length, map, get_or, take, refl, sym, ap, subst, ◌∙◌, arith}
use Rattle.lock_free_queues.proofs.Names.{append-nil, append_assoc, Role, Item, QueueKind, Coding, coding_by, machine_kind}
use Rattle.lock_free_queues.proofs.Names.{published, handed_out, Goes, IsHistory, MissesNothing, first_view, IfSome, IfNone}
use Rattle.std.proofs.Common.{length-append}
use Rattle.std.proofs.lemmas.List.{take_all, take_more}
use Rattle.std.specs.Prelude.{is_some, not}
use mathlib.Core.List.{map-append}
use Rattle.steps.specs.declared.words.Words.{Ghosts}
use Rattle.steps.specs.Objects.Lists.{Bounded}
use Rattle.history.specs.declared.view.View.{View}
use Rattle.lock_free_queues.specs.declared.spsc.ring.rule.Kind as kinds
use Rattle.lock_free_queues.specs.declared.spsc.ring.Pass.{Pass}
use Rattle.lock_free_queues.specs.declared.spsc.ring.Producer.{Producer}
use Rattle.lock_free_queues.specs.declared.spsc.ring.Consumer.{Consumer}
use Rattle.lock_free_queues.specs.Queues.Bounded.{IsBounded}
use Rattle.lock_free_queues.specs.Queues.Closes.{Closes}
use Rattle.lock_free_queues.specs.Queues.Relays.{Sending, Receiving, Sent, Received, IsRelayed}
use Rattle.lock_free_queues.specs.Queues.Rings.{view, consumer_queue, producer_view, consumer_view, HasHistory}
use Rattle.lock_free_queues.specs.Queues.Rings.{SameProducer, SameConsumer, ToProducer, ToConsumer, FromProducer, FromConsumer}
use Rattle.lock_free_queues.specs.Queues.Sent.{HasSent, HasReceived, HasPassed, TellsApart}
use Rattle.lock_free_queues.specs.Queues.Contracts.{PushDone, PushRefused, PopDone, PopEmpty}
use Rattle.lock_free_queues.specs.Queues.Contracts.{HasAcquired, HasReleased, HasSplit, HasJoined}
use Rattle.lock_free_queues.proofs.Queues.Passed.{passed, in_order, few_left, rest_waits, still_passed, emptied_is_all}
use Rattle.lock_free_queues.proofs.Queues.Sent.{sent_none, received_none}
use Rattle.lock_free_queues.proofs.Queues.Sums.{done_pushed, done_refused, done_popped, done_none, done_released}

-- ---- a list that grows by one

module _ {T V : Type 0} (named : V → Item T) (start : List (Item T)) (values : List V) (value : V) where
  -- a list of items that grows by one value's item grows by this value in the list of values
  grown : (was now : List (Item T)) → was ≡ start ++ map named values → now ≡ was ++ named value ∷ []
      → now ≡ start ++ map named (values ++ value ∷ [])
  grown was now list more =
      more
      ∙ (ap (λ ys. ys ++ named value ∷ []) list
      ∙ (append_assoc start (map named values) (named value ∷ []) ∙ ap (λ ys. start ++ ys) (sym (map-append named values (value ∷ [])))))

  -- A list with one value more is one longer.
  one_more : length (values ++ value ∷ []) ≡ length values + 1
  one_more = length-append values (value ∷ [])

-- A push that was refused leaves what was published.
same_list : {T : Type 0} (capacity : ℕ) (item : Item T) (was now : View T) → PushRefused capacity item was now
    → published now.seen ≡ published was.seen
same_list capacity item was now (inl h) = h.1.list
same_list capacity item was now (inr h) = h.list

module _ {E T V : Type 0} {kind : kinds.Ghosts E} {words : Ghosts T} {named : V → Item T} where
  -- nothing since it was itself
  pub sending_none : {first : Producer E T kind words} {values : List V} → values ≡ [] → Sending named first values first
  sending_none {first} {values} none =
      subst (λ xs. Sending named first xs first) (sym none)
      (record {
        queue = refl;
        list = sym (append-nil (published (producer_view first).seen));
        puts_more = omega arith;
        gets_more = refl;
        share = refl;
      })

  -- a consumer has popped nothing since it was itself
  pub receiving_none : {first : Consumer E T kind words} {values : List V} → values ≡ [] → Receiving named first values first
  receiving_none {first} {values} none =
      subst (λ xs. Receiving named first xs first) (sym none)
      (record {
        queue = refl;
        list = sym (append-nil (handed_out (consumer_view first).seen));
        puts_more = refl;
        gets_more = omega arith;
        share = refl;
      })

module _ {E T V : Type 0} {kind : kinds.Ghosts E} {words : Ghosts T} {named : V → Item T} where
  -- ---- who pushes

  -- a push that was taken adds its value to those that the producer has pushed
  pub sending_one : {first was now : Producer E T kind words} {taken : Bool} (values : List V) (value : V)
      → Sending named first values was → SameProducer was now → taken ≡ true
      → (taken ≡ true → PushDone (named value) (producer_view was) (producer_view now)) → Sending named first (values ++ value ∷ []) now
  sending_one {first} {was} {now} {taken} values value s same is pushed =
      let done_here = done_pushed (producer_view was) (producer_view now) (named value) (pushed is).0 in
      let one = one_more named [] values value in
      record {
        queue = same.queue ∙ s.queue;
        list = grown named (published (producer_view first).seen) values value _ _ s.list (pushed is).1.list;
        puts_more = omega (arith, done_here.puts_more, s.puts_more);
        gets_more = omega (arith, done_here.gets_more, s.gets_more);
        share = same.goes.share ∙ s.share;
      }

  -- A push of the next value of a list makes the values that were sent one longer, still a
  -- beginning of the list.
  pub sending_next : {first was now : Producer E T kind words} {taken : Bool} (all : List V) (n : ℕ) (default : V)
      → Sending named first (take n all) was → n < length all → SameProducer was now → taken ≡ true
      → (taken ≡ true → PushDone (named (get_or all n default)) (producer_view was) (producer_view now)) → Sending named first (take (n + 1) all) now
  sending_next {first} {was} {now} {taken} all n default s below same is pushed =
      subst (λ xs. Sending named first xs now) (sym (take_more all n default below))
      (sending_one {first = first} {was = was} {now = now} {taken = taken} (take n all) (get_or all n default) s same is pushed)

  -- A push that was refused leaves the values that were sent as they were.
  pub sending_still : {first was now : Producer E T kind words} {room : ℕ} {taken : Bool} {values : List V} {item : Item T}
      → Sending named first values was → SameProducer was now → taken ≡ false
      → (taken ≡ false → PushRefused room item (producer_view was) (producer_view now)) → Sending named first values now
  sending_still {first} {was} {now} {room} {taken} {values} {item} s same is full =
      let done_here = done_refused (producer_view was) (producer_view now) item room (full is) in
      record {
        queue = same.queue ∙ s.queue;
        list = same_list room item _ _ (full is) ∙ s.list;
        puts_more = omega (arith, done_here.puts_more, s.puts_more);
        gets_more = omega (arith, done_here.gets_more, s.gets_more);
        share = same.goes.share ∙ s.share;
      }

  -- the role is given back once all are pushed
  pub sent_all : {pass new : Pass E T kind words} {first last : Producer E T kind words} {role : Role} (all : List V) (n : ℕ)
      → ToProducer pass first → HasAcquired role true (view pass) (producer_view first)
      → Sending named first (take n all) last → length all ≤ n → FromProducer last new
      → HasReleased role (producer_view last) (view new) → published (view new).seen ≡ published (producer_view last).seen → Sent named pass all new
  sent_all {pass} {new} {first} {last} {role} all n to acquired s past from released is =
      let start : HasSent named [] (view pass) (producer_view first) = sent_none {old = view pass} {new = producer_view first} to.goes acquired in
      let done_here = done_released (producer_view last) (view new) role released in
      let whole : take n all ≡ all = take_all n all past in
      let size = ap length whole in
      -- What was sent are the values from the acquire on, and the release adds none.
      record {
        queue = from.queue ∙ (s.queue ∙ to.queue);
        sent =
            record {
              others = start.others;
              list = is
                  ∙ (s.list
                  ∙ (ap (λ ys. ys ++ map named (take n all)) (start.list ∙ append-nil (published (view pass).seen ++ start.others))
                  ∙ ap (λ xs. (published (view pass).seen ++ start.others) ++ map named xs) whole));
              done =
                  record {
                    puts_more = omega (arith, done_here.puts_more, s.puts_more, start.done.puts_more);
                    gets_more = omega (arith, done_here.gets_more, s.gets_more, start.done.gets_more);
                  };
              share = from.goes.share ∙ (s.share ∙ start.share);
            };
      }

  -- ---- who pops

  -- a pop that answers a value adds it to those that the consumer has popped
  pub receiving_one : {first was now : Consumer E T kind words} {answer : Option V} (values more : List V) (value : V)
      → Receiving named first values was → SameConsumer was now
      → IfSome answer (λ x. PopDone (named x) (consumer_view was) (consumer_view now))
      → answer ≡ Some value → more ≡ values ++ value ∷ [] → Receiving named first more now
  receiving_one {first} {was} {now} {answer} values more value s same popped some is =
      let done : PopDone (named value) (consumer_view was) (consumer_view now) =
      subst (λ o. IfSome o (λ x. PopDone (named x) (consumer_view was) (consumer_view now))) some popped in
      let done_here = done_popped (consumer_view was) (consumer_view now) (named value) done.0 in
      let one = one_more named [] values value in
      subst (λ xs. Receiving named first xs now) (sym is)
      (record {
        queue = same.queue ∙ s.queue;
        list = grown named (handed_out (consumer_view first).seen) values value _ _ s.list done.1.list;
        puts_more = omega (arith, done_here.puts_more, s.puts_more);
        gets_more = omega (arith, done_here.gets_more, s.gets_more);
        share = same.goes.share ∙ s.share;
      })

  -- A pop that found the queue empty leaves the values that were received as they were.
  pub receiving_still : {first was now : Consumer E T kind words} {answer : Option V} {values : List V}
      → Receiving named first values was → SameConsumer was now → IfNone answer (PopEmpty (consumer_view was) (consumer_view now))
      → answer ≡ None → Receiving named first values now
  receiving_still {first} {was} {now} {answer} {values} s same empty none =
      let done : PopEmpty (consumer_view was) (consumer_view now) =
      subst (λ o. IfNone o (PopEmpty (consumer_view was) (consumer_view now))) none empty in
      let done_here = done_none (consumer_view was) (consumer_view now) done.0 in
      record {
        queue = same.queue ∙ s.queue;
        list = done.1.list ∙ s.list;
        puts_more = omega (arith, done_here.puts_more, s.puts_more);
        gets_more = omega (arith, done_here.gets_more, s.gets_more);
        share = same.goes.share ∙ s.share;
      }

  -- Once the consumer's role is given back, its pass has received these values from the acquire to the
  -- release of the role.
  pub received_all : {pass new : Pass E T kind words} {first last : Consumer E T kind words} {role : Role} {values : List V}
      → ToConsumer pass first → HasAcquired role true (view pass) (consumer_view first)
      → Receiving named first values last → FromConsumer last new
      → HasReleased role (consumer_view last) (view new) → handed_out (view new).seen ≡ handed_out (consumer_view last).seen → Received named pass values new
  received_all {pass} {new} {first} {last} {role} {values} to acquired s from released is =
      -- What was received are the values from the acquire on, and the release adds none.
      let start : HasReceived named [] (view pass) (consumer_view first) =
      received_none {old = view pass} {new = consumer_view first} refl to.goes acquired in
      let done_here = done_released (consumer_view last) (view new) role released in
      record {
        queue = from.queue ∙ (s.queue ∙ to.queue);
        received =
            record {
              others = start.others;
              list = is
                  ∙ (s.list ∙ ap (λ ys. ys ++ map named values) (start.list ∙ append-nil (handed_out (view pass).seen ++ start.others)));
              done =
                  record {
                    puts_more = omega (arith, done_here.puts_more, s.puts_more, start.done.puts_more);
                    gets_more = omega (arith, done_here.gets_more, s.gets_more, start.done.gets_more);
                  };
              share = from.goes.share ∙ (s.share ∙ start.share);
            };
      }

-- ---- both joined, and one pop more

-- what came is a beginning of what was sent, in order, and all of it just where the last pop finds
-- nothing; no more is left than the queue has room for: of the views of the two halves of a first
-- pass, joined, and of one pop
pub views_relayed : {T V : Type 0} {named : V → Item T} (code : Coding T) (queue : QueueKind) {n most : ℕ} {role : Role}
    {first left right mine theirs joined taking last : View T} {sent received : List V} (answer : Option V) {emptied : Bool}
    → TellsApart named → IsBounded queue → first ≡ first_view n → HasSplit first left right → HasSent named sent left mine
    → HasReceived named received right theirs → HasJoined mine theirs joined → MissesNothing joined
    → IsHistory code (machine_kind queue) n joined.seen → Goes joined taking → HasAcquired role true joined taking
    → Goes taking last → IsHistory code (machine_kind queue) most last.seen
    → IfSome answer (λ x. PopDone (named x) taking last) → IfNone answer (PopEmpty taking last)
    → is_some answer ≡ not emptied → IsRelayed n sent received emptied
views_relayed {named = named} code queue {n} {most} {role} {first} {left} {right} {mine} {theirs} {joined} {taking} {last} {sent} {received} answer {emptied}
    tells bounded opens cut s r h none history goes acquired pops now popped empty is =
    let whole : HasPassed named sent received joined =
    passed {named = named} {n = n} {first = first} {left = left} {right = right} {a = mine} {b = theirs} {z = joined} opens cut s r h none in
    let taken : HasPassed named sent received taking =
    still_passed {named = named} {v = joined} {w = taking} {role = role} whole goes acquired in
    record {
      beginning = in_order {v = joined} code queue n tells history whole;
      all = emptied_is_all {v = taking} {w = last} code queue most tells taken pops now answer emptied popped empty is;
      few = few_left {v = joined} code queue n bounded history whole;
    }

module _ {E T V : Type 0} {kind : kinds.Ghosts E} {words : Ghosts T} {named : V → Item T} where
  -- what two threads relay, of passes and a consumer: one half sent, the other received, and one
  -- further pop was made after they were joined
  pub relayed : (first left right mine theirs joined : Pass E T kind words) (taking last : Consumer E T kind words) {capacity : ℕ}
      {sent received : List V} (answer : Option V) {emptied : Bool} {role : Role} (n : ℕ) → TellsApart named → IsBounded kind.KIND
      → view first ≡ first_view n → HasSplit (view first) (view left) (view right) → Sent named left sent mine → Received named right received theirs
      → HasJoined (view mine) (view theirs) (view joined) → MissesNothing (view joined)
      → HasHistory (coding_by words) kind.KIND capacity (view joined) → capacity ≡ n
      → ToConsumer joined taking → HasAcquired role true (view joined) (consumer_view taking) → SameConsumer taking last
      → HasHistory (coding_by words) kind.KIND (consumer_queue last).capacity (consumer_view last)
      → IfSome answer (λ x. PopDone (named x) (consumer_view taking) (consumer_view last))
      → IfNone answer (PopEmpty (consumer_view taking) (consumer_view last)) → is_some answer ≡ not emptied
      → IsRelayed n sent received emptied
  relayed first left right mine theirs joined taking last {capacity} {sent} {received} answer {emptied} {role}
      n tells bounded opens cut s r h none history sized to acquired same now popped empty is =
      let code : Coding T = coding_by words in
      views_relayed code kind.KIND answer tells bounded opens cut s.sent r.received h none
      (subst (λ m. HasHistory code kind.KIND m (view joined)) sized history) to.goes acquired same.goes now
      popped empty is

module _ {E T V : Type 0} {kind : kinds.Ghosts E} {words : Ghosts T} {named : V → Item T} where
  -- what a queue has that is closed then is the rest of what was sent
  pub left_over : (first left right mine theirs joined : Pass E T kind words) {sent received : List V} (n : ℕ) (q : Bounded V)
      → TellsApart named → view first ≡ first_view n → HasSplit (view first) (view left) (view right) → Sent named left sent mine
      → Received named right received theirs → HasJoined (view mine) (view theirs) (view joined) → MissesNothing (view joined)
      → Closes named n (view joined) q → sent ≡ received ++ q.values
  left_over first left right mine theirs joined n q tells opens cut s r has_joined none closed =
      rest_waits {named = named} {v = view joined} n q tells
      (passed {named = named} {n = n} {first = view first} {left = view left} {right = view right} {a = view mine} {b = view theirs} {z = view joined}
      opens cut s.sent r.received has_joined none) closed
