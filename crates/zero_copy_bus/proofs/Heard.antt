-- For clients: what became of the records that went out to one subscriber, from `subscribe` until its passes
-- were taken in by `rejoin` (`heard`).
use Rattle.std.proofs.Common.{◌≡◌, ◌≢◌, ◌&&◌, ℕ, zero, suc, ◌+◌, ◌-◌, ◌^◌, ◌<◌, ◌≤◌, true, true≢false, List, [], ◌∷◌, ◌++◌, length}
use Rattle.std.proofs.Common.{take, refl, sym, ap, subst, ◌∙◌, inl, inr, ⊎_elim, arith}
use Rattle.std.proofs.lemmas.Bool.{and_parts}
use Rattle.std.specs.Prelude.{Some, slice_get}
use Rattle.history.specs.Views.{first_view}
use Rattle.lock_free_queues.specs.Queues.Rings.{QueueId, queue_of, view}
use Rattle.lock_free_queues.specs.Queues.Merges.{Merges}
use Rattle.zero_copy_bus.specs.declared.holders.Holders.{Holders}
use Rattle.zero_copy_bus.specs.declared.outlet.Outlet.{Outlet}
use Rattle.zero_copy_bus.specs.declared.outlet.Tenancy.TheVariants.{Free, Lost}
use Rattle.zero_copy_bus.specs.declared.publisher.Publisher.{Publisher}
use Rattle.zero_copy_bus.specs.declared.roll.Roll.{Roll}
use Rattle.zero_copy_bus.specs.declared.subscriber.Left.{Left}
use Rattle.zero_copy_bus.specs.declared.subscriber.Subscriber.{Subscriber}
use Rattle.zero_copy_bus.specs.Ends.{expected_at, lanes_of, layout_at, layout_of, next_of, place_at, place_left, receives_left, receives_queue, receives_view}
use Rattle.zero_copy_bus.specs.Ends.{shape_of, HasHad, HasLeft, IsOfLane, IsSame}
use Rattle.zero_copy_bus.specs.Outlets.{has_end, holder_of, holders_in, is_open, open_in, opens, waits_queue, AllNew, AtLane, EachLane}
use Rattle.zero_copy_bus.specs.Outlets.{EachOther, IsFree, IsNew, IsSettled, OthersStay, StaysOrLost, WasLet, WasLetOf, WasRejoined, WasTakenIn}
use Rattle.zero_copy_bus.specs.Relays.{HasAllOf, HasGoneOut, HasHeard, HasHeardAt, HasPublished, LanesPassOn}
use Rattle.zero_copy_bus.specs.Sequences.{Delivers, Rises}
use Rattle.zero_copy_bus.proofs.LaneLemmas.{get_map, map_got}
use Rattle.zero_copy_bus.proofs.Published.{out_none, out_then}
use Rattle.zero_copy_bus.proofs.Rising.{all_delivered}
use Rattle.zero_copy_loans.specs.Numbers.{IsPassedOn, ReceivesOn}
use Rattle.zero_copy_loans.specs.declared.words.Layout.{Layout}
use Rattle.zero_copy_slots.specs.declared.Keeps.{Ghosts}

-- ---- numbers that rise

abbrev none : List ℕ
none = []

-- numbers that rise from b on rise from any lower a on
rises_from : (a b c : ℕ) (xs : List ℕ) → a ≤ b → Rises b xs c → (d : ℕ) × Rises a xs d
rises_from a b c [] le h = (a, refl)
rises_from a b c (x ∷ xs) le h = let first = h.0 in (c, (omega arith, h.1))

-- the first k of numbers that rise, rise
take_rises : (a b k : ℕ) (xs : List ℕ) → Rises a xs b → (c : ℕ) × Rises a (take k xs) c
take_rises a b zero xs h = (a, refl)
take_rises a b (suc k) [] h = (a, refl)
take_rises a b (suc k) (x ∷ xs) h = let rest = take_rises (x + 1) b k xs h.1 in (rest.0, (h.0, rest.1))

-- if a list that rises is a merge of two lists, the first of these rises
merges_rise : (a b : ℕ) (xs ys zs : List ℕ) → Merges xs ys zs → Rises a zs b → (c : ℕ) × Rises a xs c
merges_rise a b xs ys [] h rise = (a, subst (λ l. Rises a l a) (sym h.0) refl)
merges_rise a b xs ys (z ∷ zs) (inl h) rise =
    let rest = merges_rise (z + 1) b h.0 ys zs h.2 rise.1 in (rest.0, subst (λ l. Rises a l rest.0) (sym h.1) (rise.0, rest.1))
merges_rise a b xs ys (z ∷ zs) (inr h) rise =
    let rest = merges_rise (z + 1) b xs h.0 zs h.2 rise.1 in
    let first = rise.0 in
    rises_from a (z + 1) rest.0 xs (omega arith) rest.1

-- a list that rises from a to b has at most b - a numbers
long : (a b : ℕ) (xs : List ℕ) → Rises a xs b → length xs + a ≤ b
long a b [] h = omega arith
long a b (x ∷ xs) h = let rest = long (x + 1) b xs h.1 in let first = h.0 in omega arith

-- ---- one lane

-- a list has one element at a place
one_there : {A : Type 0} (xs : List A) (k : ℕ) (x y : A) → slice_get xs k ≡ Some x → slice_get xs k ≡ Some y → x ≡ y
one_there xs k x y p q = let same : Some x ≡ Some y = sym p ∙ q in cc

-- the publisher has its guard of a lane that takes part
open_end : (lane : Outlet) → is_open lane ≡ true → has_end lane ≡ true
open_end lane on = (and_parts (opens lane.tenancy) (has_end lane) on).1

-- a lane that takes part is not free
open_taken : (lane : Outlet) → is_open lane ≡ true → IsFree lane → ⊥
open_taken lane on free = true≢false (sym on ∙ ap (λ t. opens t && has_end lane) free)

-- the lane at a place that takes part, takes part
open_there : (lanes : List Outlet) (place : ℕ) (lane : Outlet) → slice_get (open_in lanes) place ≡ Some true → slice_get lanes place ≡ Some lane
    → is_open lane ≡ true
open_there lanes place lane on is =
    let part = map_got is_open lanes place true on in
    ap is_open (one_there lanes place lane part.0 is part.1) ∙ part.2

-- If all lanes were new, and then another lane was let, a lane that is free is still new.
pub new_still : (but place : ℕ) (olds news : List Outlet) (lane : Outlet) → AllNew olds → holders_in news ≡ holders_in olds
    → EachOther but OthersStay olds news → place ≢ but → slice_get news place ≡ Some lane → IsFree lane → IsNew lane
new_still but place olds news lane new same others ne is free =
    go (subst (λ (o : Outlet). StaysOrLost was.0 o) (one_there news place it.0 lane it.1 is) (it.2.free fresh.free))
  where
    was : (old : Outlet) × (slice_get olds place ≡ Some old) × (holder_of old ≡ holder_of lane)
    was = map_got holder_of olds place (holder_of lane) (ap (λ hs. slice_get hs place) (sym same) ∙ get_map holder_of news place lane is)

    fresh : IsNew was.0
    fresh = new place was.0 was.1

    it : (now : Outlet) × (slice_get news place ≡ Some now) × OthersStay was.0 now
    it = others place was.0 ne was.1

    -- the cases are whether the lane is unchanged; a lane that is lost is not free
    go : StaysOrLost was.0 lane → IsNew lane
    go (inl still) =
        record {
          free = free;
          none = still.passes.sends ∙ fresh.none;
          first = ap view still.passes.waits ∙ (fresh.first ∙ ap (λ (q : QueueId). first_view q.capacity) (ap queue_of (sym still.passes.waits)));
        }
    go (inr lost) = let not : Free ≡ Lost = sym free ∙ lost.1 in absurd (cc)

-- Once an `update` has freed the lane, each record that went out was received or came back. A record that the
-- publisher took out of the lane counts as received.
pub all_passed_on : LanesPassOn → (layout : Layout) (sent back received : List ℕ) (roll : Roll) (before after : List Holders) (old new : Outlet)
    → HasAllOf layout sent back received old
    → ¬ IsFree old
    → IsFree new
    → IsSettled roll before after old new
    → 0 < (waits_queue old).capacity
    → length sent < 2 ^ 64 - 1
    → (came : List ℕ) × HasAllOf layout sent back (received ++ came) new × (length (received ++ came) + length back ≡ length sent)
all_passed_on law layout sent back received roll before after old new known taken free settled some few =
    ⊎_elim (λ was. absurd (taken was)) (λ d. law.drains layout sent back received old new known d.2 d.1 settled.end some few) (settled.free free)

-- ---- the ends of a bus

module _ {X K : Type 0} {rule : Ghosts K X} where
  -- The lane of this subscriber: new as it was let (`first` to `leased`), and since then all numbers from
  -- `from` on went out by it (`leased` to `last`). It still takes part.
  pub record HasLane (s : Subscriber X K rule) (from : ℕ) (p : Publisher X K rule) : Type 0 where
    -- the lane before it was let, after that, and now
    pub first : Outlet
    pub leased : Outlet
    pub last : Outlet
    pub fresh : IsNew first
    -- the subscriber's guard is of this lane's queue, and the lane was let to it
    pub queue : receives_queue s ≡ waits_queue first
    pub lets : WasLet (receives_view s) first leased
    -- the numbers that went out since, up to the publisher's next one
    pub out : HasGoneOut (layout_of p) from (next_of p) leased last
    -- the lane stands at the subscriber's place, takes part, and both ends make words in the same way
    pub there : slice_get (lanes_of p) (place_at s) ≡ Some last
    pub on : is_open last ≡ true
    pub layout : layout_at s ≡ layout_of p

  -- a subscriber to which a new lane was let has its lane (`HasLane`)
  pub lane_let : (p q : Publisher X K rule) (s : Subscriber X K rule)
      → (let_at : AtLane (place_at s) (WasLetOf (receives_queue s) (receives_view s)) (lanes_of p) (lanes_of q)) → IsNew let_at.0
      → slice_get (open_in (lanes_of q)) (place_at s) ≡ Some true → layout_at s ≡ layout_of p → layout_of q ≡ layout_of p
      → HasLane s (next_of q) q
  lane_let p q s let_at new on its layout =
      record {
        first = let_at.0;
        leased = let_at.1;
        last = let_at.1;
        fresh = new;
        queue = let_at.4.0;
        lets = let_at.4.1;
        out = out_none (layout_of q) (next_of q) (next_of q) let_at.1 let_at.1 refl refl (record { sends = refl; waits = refl });
        there = let_at.3;
        on = open_there (lanes_of q) (place_at s) let_at.1 on let_at.3;
        layout = its ∙ sym layout;
      }

  -- a lane that is let to a second subscriber is not the lane of the first, which takes part
  pub lane_differs : (from : ℕ) (p q : Publisher X K rule) (s t : Subscriber X K rule) → HasLane s from p
      → AtLane (place_at t) (WasLetOf (receives_queue t) (receives_view t)) (lanes_of p) (lanes_of q)
      → place_at t ≢ place_at s
  lane_differs from p q s t h let_at e =
      open_taken let_at.0
      (ap is_open (one_there (lanes_of p) (place_at s) let_at.0 h.last (subst (λ k. slice_get (lanes_of p) k ≡ Some let_at.0) e let_at.2) h.there) ∙ h.on)
      let_at.4.1.free

  -- the first subscriber keeps its lane when a lane is let to a second one, if its own still takes part
  pub lane_stays : (from : ℕ) (p q : Publisher X K rule) (s t : Subscriber X K rule) → HasLane s from p
      → EachOther (place_at t) OthersStay (lanes_of p) (lanes_of q) → place_at t ≢ place_at s
      → slice_get (open_in (lanes_of q)) (place_at s) ≡ Some true → layout_of q ≡ layout_of p → next_of q ≡ next_of p
      → HasLane s from q
  lane_stays from p q s t h others ne on layout next =
      record {
        first = h.first;
        leased = h.leased;
        last = it.0;
        fresh = h.fresh;
        queue = h.queue;
        lets = h.lets;
        out =
            subst (λ (l : Layout). HasGoneOut l from (next_of q) h.leased it.0) (sym layout)
            (out_then (layout_of p) from (next_of p) (next_of q) h.leased h.last it.0 h.out
            (out_none (layout_of p) (next_of p) (next_of q) h.last it.0 next (still ∙ sym h.on) (it.2.taking h.on still)));
        there = it.1;
        on = still;
        layout = h.layout ∙ sym layout;
      }
    where
      it : (now : Outlet) × (slice_get (lanes_of q) (place_at s) ≡ Some now) × OthersStay h.last now
      it = others (place_at s) h.last (λ e. ne (sym e)) h.there

      still : is_open it.0 ≡ true
      still = open_there (lanes_of q) (place_at s) it.0 on it.1

  -- What a successful `subscribe` says (p to q) of the subscriber's lane, of the other lanes
  -- and of the next number.
  pub record HasSubscribed (p q : Publisher X K rule) (s : Subscriber X K rule) : Type 0 where
    pub leased : AtLane (place_at s) (WasLetOf (receives_queue s) (receives_view s)) (lanes_of p) (lanes_of q)
    pub others : EachOther (place_at s) OthersStay (lanes_of p) (lanes_of q)
    pub part : slice_get (open_in (lanes_of q)) (place_at s) ≡ Some true
    pub layout : layout_at s ≡ layout_of p
    pub next : next_of q ≡ next_of p
    pub same : IsSame p q

  -- the first subscriber has its lane
  pub lane_first : (p q : Publisher X K rule) (s : Subscriber X K rule) → AllNew (lanes_of p) → HasSubscribed p q s → HasLane s (next_of q) q
  lane_first p q s new h = lane_let p q s h.leased (new (place_at s) h.leased.0 h.leased.2) h.part h.layout h.same.layout

  -- a second subscriber whose lane was new as it was let has it
  pub lane_next : (o p q : Publisher X K rule) (s t : Subscriber X K rule) → AllNew (lanes_of o) → HasSubscribed o p s → HasSubscribed p q t
      → HasLane t (next_of q) q
  lane_next o p q s t new h k =
      lane_let p q t k.leased
      (new_still (place_at s) (place_at t) (lanes_of o) (lanes_of p) k.leased.0 new h.same.lanes h.others
      (lane_differs (next_of p) p q s t (lane_first o p s new h) k.leased) k.leased.2 k.leased.4.1.free)
      k.part k.layout k.same.layout

  -- the first subscriber keeps its lane when a second one subscribes
  pub lane_both : (from : ℕ) (p q : Publisher X K rule) (s t : Subscriber X K rule) → HasLane s from p → HasSubscribed p q t
      → slice_get (open_in (lanes_of q)) (place_at s) ≡ Some true
      → HasLane s from q
  lane_both from p q s t h k on = lane_stays from p q s t h k.others (lane_differs from p q s t h k.leased) on k.same.layout k.next

  -- the subscriber keeps its lane when records are published
  pub lane_out : (from : ℕ) (p q : Publisher X K rule) (s : Subscriber X K rule) → HasLane s from p → HasPublished p q → HasLane s from q
  lane_out from p q s h out =
      record {
        first = h.first;
        leased = h.leased;
        last = it.0;
        fresh = h.fresh;
        queue = h.queue;
        lets = h.lets;
        out =
            subst (λ (l : Layout). HasGoneOut l from (next_of q) h.leased it.0) (sym out.layout)
            (out_then (layout_of p) from (next_of p) (next_of q) h.leased h.last it.0 h.out it.2);
        there = it.1;
        on =
            open_there (lanes_of q) (place_at s) it.0
            (ap (λ bs. slice_get bs (place_at s)) out.taking
            ∙ (get_map is_open (lanes_of p) (place_at s) h.last h.there ∙ ap Some h.on)) it.1;
        layout = h.layout ∙ sym out.layout;
      }
    where
      it : (now : Outlet) × (slice_get (lanes_of q) (place_at s) ≡ Some now) × HasGoneOut (layout_of p) (next_of p) (next_of q) h.last now
      it = out.lanes (place_at s) h.last h.there

  -- the subscriber keeps its lane when the passes of another lane are taken in
  pub lane_kept : (from but : ℕ) (p q : Publisher X K rule) (s : Subscriber X K rule) → HasLane s from p
      → EachOther but (λ old new. new ≡ old) (lanes_of p) (lanes_of q) → place_at s ≢ but → layout_of q ≡ layout_of p
      → next_of q ≡ next_of p
      → HasLane s from q
  lane_kept from but p q s h others ne layout next =
      let it = others (place_at s) h.last ne h.there in
      record {
        first = h.first;
        leased = h.leased;
        last = h.last;
        fresh = h.fresh;
        queue = h.queue;
        lets = h.lets;
        out =
            subst (λ (l : Layout). HasGoneOut l from (next_of q) h.leased h.last) (sym layout)
            (subst (λ n. HasGoneOut (layout_of p) from n h.leased h.last) (sym next) h.out);
        there = it.1 ∙ ap Some it.2;
        on = h.on;
        layout = h.layout ∙ sym layout;
      }

  -- what a subscriber with its lane leaves is of that lane (`IsOfLane`), as `rejoin` requires
  pub lane_left : (from : ℕ) (p : Publisher X K rule) (s t : Subscriber X K rule) (left : Left) (came numbers : List ℕ) → HasLane s from p
      → HasHad came numbers s t → HasLeft t left → IsOfLane left p
  lane_left from p s t left came numbers h had gone = (
    h.last,
    subst (λ k. slice_get (lanes_of p) k ≡ Some h.last) (sym (gone.place ∙ had.place)) h.there,
    gone.queue ∙ (had.queue ∙ (h.queue ∙ (sym h.lets.queue ∙ sym (ap queue_of h.out.sent.waits)))),
  )

  -- what a subscriber leaves is of its lane also if the lane was let to it before and records
  -- were published since
  pub left_of : (p q r : Publisher X K rule) (s t : Subscriber X K rule) (left : Left)
      → AtLane (place_at s) (WasLetOf (receives_queue s) (receives_view s)) (lanes_of p) (lanes_of q)
      → HasPublished q r
      → place_at t ≡ place_at s
      → receives_queue t ≡ receives_queue s
      → HasLeft t left
      → IsOfLane left r
  left_of p q r s t left let_at out place queue gone =
      let it = out.lanes (place_at s) let_at.1 let_at.3 in (
        it.0,
        subst (λ k. slice_get (lanes_of r) k ≡ Some it.0) (sym (gone.place ∙ place)) it.1,
        gone.queue ∙ (queue ∙ (let_at.4.0 ∙ sym (ap queue_of it.2.sent.waits ∙ let_at.4.1.queue))),
      )

  -- what a subscriber left is still of its lane after a look of the publisher
  pub left_settled : (roll : Roll) (before after : List Holders) (p q : Publisher X K rule) (left : Left) → IsOfLane left p
      → EachLane (IsSettled roll before after) (lanes_of p) (lanes_of q)
      → IsOfLane left q
  left_settled roll before after p q left known settled =
      let it = settled (place_left left) known.0 known.1 in (it.0, it.1, known.2 ∙ sym it.2.queue)

  -- If a subscriber with its lane received from the first number on and left, and `rejoin` takes its
  -- passes in, then it has received a beginning of all numbers that went out, and the rest came back
  -- or waits (`HasHeardAt`).
  pub heard : LanesPassOn → (from : ℕ) (p q : Publisher X K rule) (s t : Subscriber X K rule) (left : Left) (came numbers : List ℕ)
      → HasLane s from p → expected_at s ≡ from → HasHad came numbers s t → HasLeft t left
      → AtLane (place_left left) (WasRejoined (receives_left left)) (lanes_of p) (lanes_of q)
      → layout_of q ≡ layout_of p → next_of q ≡ next_of p
      → 0 < (receives_queue s).capacity → next_of p < 2 ^ 64 - 1 → HasHeardAt q (place_at s) from numbers
  heard law from p q s t left came numbers h first had gone taken layout next some few = (
    taken.1,
    subst (λ k. slice_get (lanes_of q) k ≡ Some taken.1) (gone.place ∙ had.place) taken.3,
    subst (λ (l : Layout). HasHeard l from (next_of q) numbers taken.1) (sym layout)
        (subst (λ n. HasHeard (layout_of p) from n numbers taken.1) (sym next) there),
  )
    where
      -- the lane that `rejoin` took in is the subscriber's
      same : taken.0 ≡ h.last
      same =
          one_there (lanes_of p) (place_at s) taken.0 h.last
          (subst (λ k. slice_get (lanes_of p) k ≡ Some taken.0) (gone.place ∙ had.place) taken.2) h.there

      -- the publisher's guard and the subscriber's pass were taken in
      ends : WasTakenIn (receives_left left) h.last taken.1
      ends = (subst (λ (o : Outlet). WasRejoined (receives_left left) o taken.1) same taken.4).1 (open_end h.last h.on)

      -- the numbers that came to the subscriber, by the lane's own queue and layout
      got : ReceivesOn (shape_of (layout_of p) (waits_queue h.first)) came (receives_view s) (receives_view t)
      got =
          subst (λ (q : QueueId). ReceivesOn (shape_of (layout_of p) q) came (receives_view s) (receives_view t)) h.queue
          (subst (λ (l : Layout). ReceivesOn (shape_of l (receives_queue s)) came (receives_view s) (receives_view t)) h.layout (had.receives some))

      -- fewer numbers than 2^64 - 1 went out
      fits : length none + length h.out.numbers < 2 ^ 64 - 1
      fits =
          let many = long from h.out.among.next h.out.numbers h.out.among.rise in
          let below = h.out.among.below in
          omega arith

      -- by the law, the lane's pass knows all that went out, came back and came to the subscriber
      knows_all : HasAllOf (layout_of p) h.out.numbers h.out.back came taken.1
      knows_all =
          law.goes_on (layout_of p) [] [] [] h.out.numbers h.out.back came h.first h.leased h.last taken.1 (receives_view s) (receives_view t)
          (receives_left left) (law.begins (layout_of p) h.first h.fresh) h.lets h.out.sent got gone.goes gone.released ends
          (subst (λ (q : QueueId). 0 < q.capacity) h.queue some) fits

      -- so a beginning of what went out came to the subscriber or came back
      passed : IsPassedOn h.out.numbers came h.out.back
      passed = law.tells (layout_of p) h.out.numbers h.out.back came taken.1 knows_all

      -- the numbers that came rise, since those that went out do
      rise : (c : ℕ) × Rises from came c
      rise =
          let firsts = take_rises from h.out.among.next (length came + length h.out.back) h.out.numbers h.out.among.rise in
          merges_rise from firsts.0 came h.out.back (take (length came + length h.out.back) h.out.numbers) passed.merged firsts.1

      -- so each number that came was delivered
      every : numbers ≡ came
      every =
          all_delivered from rise.0 (expected_at t) came numbers (subst (λ n. Delivers n came numbers (expected_at t)) first had.delivers) rise.1

      -- the subscriber has heard what went out by its lane
      there : HasHeard (layout_of p) from (next_of p) numbers taken.1
      there =
          record {
            sent = h.out.numbers;
            back = h.out.back;
            every = h.out.all (sym h.out.taking ∙ h.on);
            all = subst (λ ns. HasAllOf (layout_of p) h.out.numbers h.out.back ns taken.1) (sym every) knows_all;
            passed_on = subst (λ ns. IsPassedOn h.out.numbers ns h.out.back) (sym every) passed;
          }

  -- what a lane's passes told stays true when the passes of another lane are taken in
  pub heard_kept : (but place from : ℕ) (p q : Publisher X K rule) (numbers : List ℕ) → HasHeardAt p place from numbers
      → EachOther but (λ old new. new ≡ old) (lanes_of p) (lanes_of q)
      → place ≢ but
      → layout_of q ≡ layout_of p
      → next_of q ≡ next_of p
      → HasHeardAt q place from numbers
  heard_kept but place from p q numbers h others ne layout next =
      let it = others place h.0 ne h.1 in (
        h.0,
        it.1 ∙ ap Some it.2,
        subst (λ (l : Layout). HasHeard l from (next_of q) numbers h.0) (sym layout)
            (subst (λ n. HasHeard (layout_of p) from n numbers h.0) (sym next) h.2),
      )
