-- What each kind's machine does, from what its family promises and from the laws of turns.
use Rattle.std.proofs.Common.{◌≡◌, ◌⊎◌, ⊎_elim, inl, inr, ◌<◌, ℕ, true, false, Some, List, [], ◌∷◌, refl, sym, ap, ◌∙◌}
use Rattle.model.specs.declared.event.Answer.{Answer}
use Rattle.model.specs.declared.event.Event.{Event}
use Rattle.model.specs.declared.event.Event.TheVariants.{Published, HandedOut, Claimed, Freed, Filled, Granted}
use Rattle.model.specs.declared.event.Event.TheVariants.{FreedOf, Locked, Returned, TakenBack, Copied}
use Rattle.model.specs.declared.event.Item.TheVariants as items
use Rattle.model.specs.declared.event.Start.{Start}
use Rattle.model.specs.declared.event.Start.TheVariants as starts
use Rattle.model.specs.declared.families.Registry.{Registry}
use Rattle.model.specs.declared.families.Registry.TheVariants as registries
use Rattle.model.specs.declared.families.loan.Book.{Book}
use Rattle.model.specs.declared.families.loan.LoanStart.TheVariants as calls
use Rattle.model.specs.declared.families.atomic.AtomicStart.TheVariants as atomics
use Rattle.model.specs.declared.families.container.ContainerStart.TheVariants as container_starts
use Rattle.model.specs.declared.families.indices.IndexStart.TheVariants as index_starts
use Rattle.model.specs.declared.families.indices.robust.RobustStart.TheVariants as robust_starts
use Rattle.model.specs.declared.families.queues.QueueKind.{QueueKind}
use Rattle.model.specs.declared.families.queues.QueueKind.TheVariants as queue_kinds
use Rattle.model.specs.declared.families.queues.QueueStart.TheVariants as queues
use Rattle.model.specs.declared.turn.Kind.{Kind}
use Rattle.model.specs.declared.turn.Kind.TheVariants as kinds
use Rattle.model.specs.Families.Atomic.Promises as value_promises
use Rattle.model.specs.Families.Bits.Promises.{bits_promise, counts_promise}
use Rattle.model.specs.Families.Bits.Reading.{sets, clears, counts}
use Rattle.model.specs.Families.Container.Promises as container_promises
use Rattle.model.specs.Families.Container.Reading.{Act, acts_of}
use Rattle.model.specs.Families.Indices.Promises as index_promises
use Rattle.model.specs.Families.Indices.Reading as unique
use Rattle.model.specs.Families.Indices.Robust.Promises as robust_promises
use Rattle.model.specs.Families.Indices.Robust.Reading as robust
use Rattle.model.specs.Families.Indices.Robust.Reading.{Fills, Grants, set_acts_of, wrote_in}
use Rattle.model.specs.Families.Indices.Spans.{SetActs, set_acts, claimed}
use Rattle.model.specs.Families.Loan.Promises as loan_promises
use Rattle.model.specs.Families.Loan.Reading.{Spot, Free, Passing, With, Waiting, Returning, spot_of, receiver_of}
use Rattle.model.specs.Families.Loan.Reading as moves
use Rattle.model.specs.Families.Queues.Promises as queue_promises
use Rattle.model.specs.Families.Queues.Reading.{handed_out}
use Rattle.model.specs.Linearizable.{IsLinearizable}
use Rattle.model.specs.Linearized.{as_list, as_value, is_push_or_pop, is_store_or_load, IsLinearized}
use Rattle.model.specs.Promises.{IsKeptBy}
use Rattle.model.specs.Promises.Families.{promise_of}
use Rattle.model.specs.Reading.{Each, moments, Span, Never, Open, Ended, span_of}
use Rattle.model.specs.Turns.{IsReached}
use Rattle.model.specs.World.{Trace}
use Rattle.laws_container.proofs.AllRuns.{shown}
use Rattle.laws_container.proofs.Sound.{reached_sound}
use Rattle.laws_machine.specs.Others.{queue_in}
use Rattle.laws_machine.proofs.Counting as counting
use Rattle.laws_machine.proofs.Locking as locking
use Rattle.laws_machine.proofs.UpdateAnswers as meeting
use Rattle.laws_machine.proofs.Queue as submission
use Rattle.laws_machine.proofs.Waiting as waiting
use Rattle.headline.specs.Holders.{Takes, claims, fills, grants, loans, holders, NoTwoHold, NoneOnceLocked, IsRelease, MayFree}
use Rattle.headline.specs.Headline.{QueueRuns, ValueRuns, BitsRun, CountsRun, IndicesRun, RobustRuns, ContainerRuns}
use Rattle.headline.specs.Headline.{IsLeftOver, is_send_or_receive, ChannelRuns, Runs}
use Rattle.headline.specs.Moments.{Follows, call_in}
use Rattle.headline.proofs.Acting.{finished_wrote, acted_once}
use Rattle.headline.proofs.Holding.{no_two_hold, none_once_locked, none_latest, one_latest, claims_read, fills_read, grants_read, TakesFree}
use Rattle.headline.proofs.Below.{ClaimsBelow, FillsBelow, HandsOutBelow, claimed_below, loaned_below, filled_below, received_below}
use Rattle.headline.proofs.Loans.{IsWith, loaned_at}
use Rattle.headline.proofs.Once.{at_most_once}
use Rattle.headline.proofs.Visiting.{visits_unlocked}

module _ {T : Type 0} where
  -- ---- the queues and the value

  -- a push or pop that has ended has acted once, with its answer
  queue_moments : (kind : QueueKind) (capacity : ℕ) (start : Start T) (answer : Answer T) (wrote : List (Event T))
      → is_push_or_pop start ≡ true → queue_promises.wrote kind capacity start answer wrote → moments wrote ≡ (start, answer) ∷ []
  queue_moments kind capacity (starts.Queues (queues.PushIndex index)) answer wrote pushes_or_pops h = h.moments
  queue_moments kind capacity (starts.Queues (queues.Push value)) answer wrote pushes_or_pops h = h.moments
  queue_moments kind capacity (starts.Queues queues.Pop) answer wrote pushes_or_pops h = h.moments
  queue_moments kind capacity (starts.Queues other) answer wrote pushes_or_pops h = absurd (cc)
  queue_moments kind capacity other answer wrote pushes_or_pops h = absurd h

  -- a queue that keeps its promise, and is linearizable, runs as the headline says
  queue_runs : (kind : QueueKind) (t : Trace T) → IsKeptBy (queue_promises.promise kind) t
      → IsLinearizable (as_list kind t.world.capacity) t.events → QueueRuns kind t
  queue_runs kind t kept linearizable =
      record {
        list =
            record {
              inside = λ p start answer before is_call at.
                  let finished = finished_wrote (queue_promises.promise kind) t p start answer before kept at in
                  acted_once p start answer before finished.wrote finished.opens
                  (queue_moments kind t.world.capacity start answer finished.wrote is_call finished.right);
              once = at_most_once (queue_promises.promise kind) t kept;
              answers = kept.promised.moments;
              linearizable = linearizable;
            };
        conserved = kept.promised.book.rest;
      }

  -- a store or load that has ended has acted once, with its answer
  value_moments : (capacity : ℕ) (start : Start T) (answer : Answer T) (wrote : List (Event T)) → is_store_or_load start ≡ true
      → value_promises.wrote capacity start answer wrote → moments wrote ≡ (start, answer) ∷ []
  value_moments capacity (starts.Atomic (atomics.Store value)) answer wrote stores_or_loads h = h
  value_moments capacity (starts.Atomic atomics.Load) answer wrote stores_or_loads h = h
  value_moments capacity (starts.Atomic other) answer wrote stores_or_loads h = absurd (cc)
  value_moments capacity other answer wrote stores_or_loads h = absurd (cc)

  -- a value that keeps its promise, and is linearizable, runs as the headline says
  value_runs : (t : Trace T) → IsKeptBy value_promises.promise t → IsLinearizable (as_value t.world.coding) t.events → ValueRuns t
  value_runs t kept linearizable =
      record {
        value =
            record {
              inside = λ p start answer before is_call at.
                  let finished = finished_wrote value_promises.promise t p start answer before kept at in
                  acted_once p start answer before finished.wrote finished.opens
                  (value_moments t.world.capacity start answer finished.wrote is_call finished.right);
              once = at_most_once value_promises.promise t kept;
              answers = kept.promised.moments;
              linearizable = linearizable;
            };
      }

  -- ---- bits and counts

  -- a bit set that keeps its promise runs as the headline says
  bits_run : (t : Trace T) → IsKeptBy bits_promise t → BitsRun t
  bits_run t kept =
      record {
        conserved = kept.promised.conserved;
        set = λ p b before at.
            let finished = finished_wrote bits_promise t p _ _ before kept at in ap (λ (s : Span T). sets b (wrote_in s)) finished.opens ∙ finished.right.1;
        reset = λ p b before at.
            let finished = finished_wrote bits_promise t p _ _ before kept at in ap (λ (s : Span T). clears b (wrote_in s)) finished.opens ∙ finished.right.1;
        reset_came = λ p b before at. kept.promised.answers before at.0 _ at.1;
      }

  -- a counting bit set that keeps its promise runs as the headline says
  counts_run : (t : Trace T) → IsKeptBy counts_promise t → CountsRun t
  counts_run t kept =
      record {
        conserved = kept.promised.conserved;
        counted = λ p b number before at.
            let finished = finished_wrote counts_promise t p _ _ before kept at in ap (λ (s : Span T). counts b (wrote_in s)) finished.opens ∙ finished.right.1;
      }

  -- ---- unique indices

  module _ (t : Trace T) (kept : IsKeptBy index_promises.promise t) where
    -- an index is claimed only where it has no holder
    claims_free : TakesFree claims t.events
    claims_free (Claimed p i) before index holder at takes =
        let same_index : i ≡ index = cc in
        rw (← same_index) (none_latest (holders claims i before) (claims_read i before ∙ (kept.promised.holds before at.0 (Claimed p i) at.1).1))
    claims_free (Freed p i) before index holder at takes = absurd (cc)
    claims_free e before index holder at takes = absurd (cc)

    -- An index is claimed only while the set is not locked.
    claims_unlocked : (e : Event T) (before : List (Event T)) (index holder : ℕ) → Follows e before t.events → claims e ≡ Takes index holder
        → unique.is_locked before ≡ false
    claims_unlocked (Claimed p i) before index holder follows takes = (kept.promised.holds before follows.0 (Claimed p i) follows.1).2
    claims_unlocked (Freed p i) before index holder follows takes = absurd (cc)
    claims_unlocked e before index holder follows takes = absurd (cc)

    one_claim : NoTwoHold claims t.events
    one_claim = no_two_hold claims t.events claims_free

    claims_within : Each (λ before e. ClaimsBelow t.world.capacity e) t.events
    claims_within before after (Claimed p i) at = (kept.promised.holds before after (Claimed p i) at).0
    claims_within before after e at = tt

    -- Acts that are equal under Some to those of one claim are those of one claim.
    index_claimed : (index : ℕ) (all : SetActs) → Some (claimed index) ≡ Some all → all ≡ claimed index
    index_claimed index all same_acts = cc

    -- the call that frees an index is a release of it
    by_release : (p index : ℕ) (span : Span T) → index_promises.promise.may_stand (Freed p index) span → IsRelease index (call_in span)
    by_release p index Never h = absurd h
    by_release p index (Open (starts.Indices (index_starts.Release i mode)) wrote) h = sym h.0
    by_release p index (Open (starts.Indices other) wrote) h = absurd h
    by_release p index (Open other wrote) h = absurd h
    by_release p index (Ended start answer wrote) h = absurd h

    -- a unique index set that keeps its promise runs as the headline says
    indices_run : IndicesRun t
    indices_run =
        record {
          no_two_hold = one_claim;
          none_once_locked = none_once_locked claims t.events
              (record {
                locked = λ p. refl;
                at_lock = λ p before at i. none_latest (holders claims i before) (claims_read i before ∙ (kept.promised.holds before at.0 (Locked p) at.1).0 i);
                before_lock = claims_unlocked;
              });
          acquired = λ p index before at.
              let finished = finished_wrote index_promises.promise t p _ _ before kept at in
              let did = ap (λ (s : Span T). set_acts (wrote_in s)) finished.opens ∙ index_claimed index (set_acts finished.wrote) finished.right in
              (did, claimed_below t.world.capacity p index t.events before _ claims_within at.1 (ap (λ (d : SetActs). d.claimed) did));
          freed = λ p index before at. (
            one_latest (holders claims index before) p (claims_read index before ∙ kept.promised.holds before at.0 (Freed p index) at.1)
                (one_claim before (Freed p index ∷ at.0) at.1 index),
            by_release p index (span_of p before) (kept.spans before at.0 (Freed p index) at.1),
          );
        }

  -- ---- a set of indices of owners

  module _ (capacity : ℕ) (events : List (Event T)) (does : Each (robust_promises.SetDoes capacity) events) where
    -- an index is filled only where it is filled for nobody
    fills_free : TakesFree fills events
    fills_free (Filled p i o) before index holder at takes =
        let same_index : i ≡ index = cc in
        rw (← same_index) (none_latest (holders fills i before) (fills_read i before ∙ (does before at.0 (Filled p i o) at.1).1))
    fills_free (FreedOf p i o) before index holder at takes = absurd (cc)
    fills_free e before index holder at takes = absurd (cc)

    no_two_fill : NoTwoHold fills events
    no_two_fill = no_two_hold fills events fills_free

    fills_within : Each (λ before e. FillsBelow capacity e) events
    fills_within before after (Filled p i o) at = (does before after (Filled p i o) at).0
    fills_within before after e at = tt

    -- What an acquire has done to the set, together with the fact that the set has its index.
    acquired_of : (p index owner : ℕ) (e : Event T) (before : List (Event T)) → Follows e before events
        → robust.set_acts_of p before ≡ Fills index owner ∷ Grants index owner ∷ []
        → (robust.set_acts_of p before ≡ Fills index owner ∷ Grants index owner ∷ []) × (index < capacity)
    acquired_of p index owner e before follows did =
        (did, filled_below capacity p index owner (Grants index owner ∷ []) events before (e ∷ follows.0) fills_within follows.1 did)

    -- An index that is freed has one owner in its cell, the one for whom it is freed.
    freed_of : (p index owner : ℕ) (before : List (Event T)) → Follows (FreedOf p index owner) before events
        → holders fills index before ≡ owner ∷ []
    freed_of p index owner before follows =
        one_latest (holders fills index before) owner (fills_read index before ∙ (does before follows.0 (FreedOf p index owner) follows.1).0)
        (no_two_fill before (FreedOf p index owner ∷ follows.0) follows.1 index)

    -- in a well-formed run
    module _ (holds : Each robust_promises.HoldsRight events) where
      -- in a well-formed run an index is granted only where it has no holder
      grants_free : TakesFree grants events
      grants_free (Granted p i o) before index holder at takes =
          let same_index : i ≡ index = cc in
          rw (← same_index) (none_latest (holders grants i before) (grants_read i before ∙ holds before at.0 (Granted p i o) at.1))
      grants_free (FreedOf p i o) before index holder at takes = absurd (cc)
      grants_free e before index holder at takes = absurd (cc)

      -- An index is granted only while the set is not locked.
      grants_unlocked : (e : Event T) (before : List (Event T)) (index holder : ℕ) → Follows e before events → grants e ≡ Takes index holder
          → unique.is_locked before ≡ false
      grants_unlocked (Granted p i o) before index holder follows takes = (does before follows.0 (Granted p i o) follows.1).0
      grants_unlocked (FreedOf p i o) before index holder follows takes = absurd (cc)
      grants_unlocked e before index holder follows takes = absurd (cc)

      one_grant : NoTwoHold grants events
      one_grant = no_two_hold grants events grants_free

      -- in a well-formed run no index has a holder once the set is locked
      none_granted : NoneOnceLocked grants events
      none_granted =
          none_once_locked grants events
          (record {
            locked = λ p. refl;
            at_lock = λ p before at i. none_latest (holders grants i before) (grants_read i before ∙ holds before at.0 (Locked p) at.1 i);
            before_lock = grants_unlocked;
          })

  -- a call of a robust set that frees an index is one that may free it
  back_by_robust : (p index owner : ℕ) (span : Span T) (saw : List (Act T)) → robust_promises.promise.may_stand (FreedOf p index owner) span
      → MayFree index owner (call_in span) (robust.set_acts (wrote_in span)) saw
  back_by_robust p index owner Never saw h = absurd h
  back_by_robust p index owner (Open (starts.Robust (robust_starts.Release i o mode)) wrote) saw h = (sym h.0, sym h.1)
  back_by_robust p index owner (Open (starts.Robust (robust_starts.Recover mode)) wrote) saw h = record { before = h.before; after = []; is = h.is }
  back_by_robust p index owner (Open (starts.Robust other) wrote) saw h = absurd h
  back_by_robust p index owner (Open other wrote) saw h = absurd h
  back_by_robust p index owner (Ended start answer wrote) saw h = absurd h

  -- a call of a container that frees an index is one that may free it
  back_by_container : (p index owner : ℕ) (before : List (Event T)) (span : Span T)
      → container_promises.promise.may_stand (FreedOf p index owner) span → container_promises.FreedRight p index owner before span
      → MayFree index owner (call_in span) (set_acts_of p before) (acts_of p before)
  back_by_container p index owner before Never h right = absurd h
  back_by_container p index owner before (Open (starts.Container (container_starts.Remove i o mode)) wrote) h right = (sym h.0, sym h.1)
  back_by_container p index owner before (Open (starts.Container (container_starts.Recover o mode)) wrote) h right = (sym right.0, right.2)
  back_by_container p index owner before (Open (starts.Container other) wrote) h right = absurd h
  back_by_container p index owner before (Open other wrote) h right = absurd h
  back_by_container p index owner before (Ended start answer wrote) h right = absurd h

  -- a robust index set that keeps its promise runs as the headline says
  robust_runs : (t : Trace T) → t.world.kind ≡ kinds.Robust → IsReached t → IsKeptBy robust_promises.promise t → RobustRuns t
  robust_runs t of_kind reached kept =
      let set = kept.promised in
      record {
        no_two_fill = no_two_fill t.world.capacity t.events set.does;
        no_two_hold = λ well. one_grant t.world.capacity t.events set.does (set.holds well);
        none_once_locked = λ well. none_granted t.world.capacity t.events set.does (set.holds well);
        acquired = λ p index owner before at.
            let finished = finished_wrote robust_promises.promise t p _ _ before kept at in
            acquired_of t.world.capacity t.events set.does p index owner _ before at
            (ap (λ (s : Span T). robust.set_acts (wrote_in s)) finished.opens ∙ finished.right);
        freed = λ p index owner before at. (
          freed_of t.world.capacity t.events set.does p index owner before at,
          back_by_robust p index owner (span_of p before) (acts_of p before) (kept.spans before at.0 (FreedOf p index owner) at.1),
        );
        recovered = λ p index owner mode before at. (set.answers before at.0 _ at.1).1.gone index owner;
        asked_each = λ p index owner mode before at. (set.answers before at.0 _ at.1).1.asked index owner;
        locks = λ p index owner before at. locking.locks t of_kind reached before at.0 _ at.1 index owner;
        found = λ p owner number before at. set.answers before at.0 _ at.1;
      }

  -- the indices of a container are held right, however its replaces overlap
  holds_right : (t : Trace T) → t.world.kind ≡ kinds.Container → IsReached t → robust_promises.IsWellFormed t.events
      → Each robust_promises.HoldsRight t.events
  holds_right t of_kind reached well = (reached_sound shown t of_kind reached).holds.good.holds (well, tt)

  -- a container that keeps its promise runs as the headline says
  container_runs : (t : Trace T) → t.world.kind ≡ kinds.Container → IsReached t → IsKeptBy container_promises.promise t → ContainerRuns t
  container_runs t of_kind reached kept =
      let set = kept.promised in
      record {
        no_two_fill = no_two_fill t.world.capacity t.events set.does;
        no_two_hold = λ well. one_grant t.world.capacity t.events set.does (holds_right t of_kind reached well);
        none_once_locked = λ well. none_granted t.world.capacity t.events set.does (holds_right t of_kind reached well);
        acquired = λ p index owner value before at.
            let finished = finished_wrote container_promises.promise t p _ _ before kept at in
            acquired_of t.world.capacity t.events set.does p index owner _ before at
            (ap (λ (s : Span T). robust.set_acts (wrote_in s)) finished.opens ∙ finished.right);
        freed = λ p index owner before at. (
          freed_of t.world.capacity t.events set.does p index owner before at,
          back_by_container p index owner before (span_of p before) (kept.spans before at.0 (FreedOf p index owner) at.1)
              (set.recovers before at.0 (FreedOf p index owner) at.1),
        );
        copied = λ well p index value before at. (set.well_formed well).contents before at.0 (Copied p index value) at.1;
        added = λ well p index owner value before at. (set.well_formed well).placed before at.0 _ at.1;
        replaced = λ well p index owner value before at. (set.well_formed well).placed before at.0 _ at.1;
        asked = set.questions;
        shown = λ p index state value rests has shows.
            let was = set.states p index state value rests has shows in record { before = was.before; after = was.after; is = was.is };
        recovered = λ p index owner mode before at. (set.answers before at.0 _ at.1).1.gone index;
        asked_each = λ p index owner mode before at. (set.answers before at.0 _ at.1).1.asked index;
        locks = λ p index owner before at. (set.answers before at.0 _ at.1).2 index;
        visits = visits_unlocked t of_kind reached kept;
        found = λ p owner number before at. set.answers before at.0 _ at.1;
        waits = waiting.waits t of_kind reached;
        changes = counting.counts_changes t of_kind reached;
        met = λ p before at. meeting.meets_changes t of_kind reached before at.0 _ at.1;
        met_none = λ p before at. meeting.meets_changes t of_kind reached before at.0 _ at.1;
      }

  -- ---- the loan channel

  -- a send or receive that has ended has acted once, with its answer
  moved_by : (start : Start T) (answer : Answer T) (wrote : List (Event T)) → is_send_or_receive start ≡ true
      → loan_promises.wrote 0 start answer wrote → moments wrote ≡ (start, answer) ∷ []
  moved_by (starts.Loan (calls.Send index)) answer wrote sends_or_receives h = h.moments
  moved_by (starts.Loan calls.Receive) answer wrote sends_or_receives h = h.moments
  moved_by (starts.Loan other) answer wrote sends_or_receives h = absurd (cc)
  moved_by other answer wrote sends_or_receives h = absurd (cc)

  -- A party that is in a reclaim by its span has the reclaim as its latest call.
  reclaiming : (span : Span T) → loan_promises.IsReclaiming span → call_in span ≡ Some (starts.Loan calls.Reclaim)
  reclaiming Never is_reclaiming = absurd is_reclaiming
  reclaiming (Open call wrote) is_reclaiming = ap (λ (c : Start T). Some c) is_reclaiming.0
  reclaiming (Ended call answer wrote) is_reclaiming = absurd is_reclaiming

  module _ (book : Book) (t : Trace T) (channel : loan_promises.IsChannelOf book t) where
    -- The holders of an index before an event are those that its spot names.
    with_at : (i : ℕ) (e : Event T) (before : List (Event T)) → Follows e before t.events → (spot : Spot) → spot_of i before ≡ spot
        → IsWith spot (holders loans i before)
    with_at i e before follows spot spot_is = loaned_at t.world.capacity t.events channel.moves i e before follows spot spot_is

    -- an index goes to a party only where it is with nobody
    loans_free : TakesFree loans t.events
    loans_free (Claimed p i) before index holder at takes =
        let same_index : i ≡ index = cc in
        rw (← same_index) (with_at i (Claimed p i) before at Free (channel.moves before at.0 (Claimed p i) at.1).1)
    loans_free (HandedOut p (items.Index i)) before index holder at takes =
        let same_index : i ≡ index = cc in
        rw (← same_index) (with_at i (HandedOut p (items.Index i)) before at Waiting (channel.moves before at.0 (HandedOut p (items.Index i)) at.1).1)
    loans_free (TakenBack p i) before index holder at takes =
        let same_index : i ≡ index = cc in
        rw (← same_index) (with_at i (TakenBack p i) before at Returning (channel.moves before at.0 (TakenBack p i) at.1).1)
    loans_free (Published p (items.Index i)) before index holder at takes = absurd (cc)
    loans_free (Returned p i) before index holder at takes = absurd (cc)
    loans_free (Freed p i) before index holder at takes = absurd (cc)
    loans_free e before index holder at takes = absurd (cc)

    one_has : NoTwoHold loans t.events
    one_has = no_two_hold loans t.events loans_free

    loans_within : Each (λ before e. ClaimsBelow t.world.capacity e) t.events
    loans_within before after (Claimed p i) at = (channel.moves before after (Claimed p i) at).0
    loans_within before after e at = tt

    -- Each index that is handed out is below the number of slots.
    receives_within : Each (λ before e. HandsOutBelow t.world.capacity e) t.events
    receives_within before after (HandedOut p (items.Index i)) at = (channel.moves before after (HandedOut p (items.Index i)) at).0
    receives_within before after (HandedOut p (items.Value value)) at = tt
    receives_within before after e at = tt

    -- A party with whom an index is, or in whose call it is in passing, is its one holder.
    is_with : (index x : ℕ) (e : Event T) (before : List (Event T)) → Follows e before t.events
        → (spot_of index before ≡ With x) ⊎ (spot_of index before ≡ Passing x) → holders loans index before ≡ x ∷ []
    is_with index x e before follows with_party =
        one_latest (holders loans index before) x (⊎_elim (with_at index e before follows (With x)) (with_at index e before follows (Passing x)) with_party)
        (one_has before (e ∷ follows.0) follows.1 index)

    -- who frees an index has it, or it was left over
    freed_by : (p index : ℕ) (before : List (Event T)) → Follows (Freed p index) before t.events
        → (holders loans index before ≡ p ∷ []) ⊎ IsLeftOver p index before
    freed_by p index before follows =
        ⊎_elim (λ passes. inl (is_with index p (Freed p index) before follows (inr passes)))
        (λ left.
        inr
        (record {
          reclaims = reclaiming (span_of p before) left.0;
          dead = left.1.0;
          held = is_with index (receiver_of before) (Freed p index) before follows left.1.1;
        }))
        (channel.moves before follows.0 (Freed p index) follows.1).1

    -- a loan channel with this book, which keeps its promise, runs as the headline says
    channel_of : IsKeptBy loan_promises.promise t → queue_in t.world.kept ≡ Some book.queue → ChannelRuns book.queue t
    channel_of kept length =
        record {
          length = length;
          no_two_hold = one_has;
          acquired = λ p index before at.
              let finished = finished_wrote loan_promises.promise t p _ _ before kept at in
              let did = ap (λ (s : Span T). moves.claimed (wrote_in s)) finished.opens ∙ finished.right.done.claimed in
              (did, loaned_below t.world.capacity p index t.events before _ loans_within at.1 did);
          received = λ p index before at.
              let finished = finished_wrote loan_promises.promise t p _ _ before kept at in
              let did = ap (λ (s : Span T). handed_out (wrote_in s)) finished.opens ∙ finished.right.done.handed_out in
              (did, received_below t.world.capacity p index t.events before _ receives_within at.1 did);
          freed = freed_by;
          inside = λ p start answer before is_call at.
              let finished = finished_wrote loan_promises.promise t p start answer before kept at in
              acted_once p start answer before finished.wrote finished.opens (moved_by start answer finished.wrote is_call finished.right);
          once = at_most_once loan_promises.promise t kept;
          list = channel.legal;
          sent = channel.sent;
          returned = channel.returned;
        }

  -- a loan channel that keeps its promise runs as the headline says, with the submission queue that it has
  channel_runs : (queue : ℕ) (t : Trace T) (kept : Registry T) → IsKeptBy loan_promises.promise t → t.world.kept ≡ kept
      → loan_promises.IsChannelBy kept t → queue_in t.world.kept ≡ Some queue → ChannelRuns queue t
  channel_runs queue t (registries.Loan book) all kept_is channel length =
      let same : Some book.queue ≡ Some queue = sym (ap queue_in kept_is) ∙ length in
      let one : book.queue ≡ queue = cc in
      rw (← one) (channel_of book t channel all (length ∙ sym same))
  channel_runs queue t kept all kept_is channel length = absurd channel

  -- ---- every kind

  -- a machine of each kind runs as the headline says
  pub by_kind : (kind : Kind) (queue : ℕ) (t : Trace T) → t.world.kind ≡ kind → (r : IsReached t) → r.queue ≡ queue
      → IsKeptBy (promise_of kind) t → IsLinearized kind t → Runs kind queue t
  by_kind kinds.IndexQueue queue t of_kind r same kept linearizable = queue_runs queue_kinds.IndexQueue t kept linearizable
  by_kind kinds.Overflow queue t of_kind r same kept linearizable = queue_runs queue_kinds.Overflow t kept linearizable
  by_kind kinds.Queue queue t of_kind r same kept linearizable = queue_runs queue_kinds.Queue t kept linearizable
  by_kind kinds.Atomic queue t of_kind r same kept linearizable = value_runs t kept linearizable
  by_kind kinds.Bits queue t of_kind r same kept linearizable = bits_run t kept
  by_kind kinds.Counts queue t of_kind r same kept linearizable = counts_run t kept
  by_kind kinds.Indices queue t of_kind r same kept linearizable = indices_run t kept
  by_kind kinds.Robust queue t of_kind r same kept linearizable = robust_runs t of_kind r kept
  by_kind kinds.Container queue t of_kind r same kept linearizable = container_runs t of_kind r kept
  by_kind kinds.Loan queue t of_kind r same kept linearizable =
      channel_runs queue t t.world.kept kept refl kept.promised (submission.queue_is t of_kind r ∙ ap (λ (n : ℕ). Some n) same)
