-- Calls that try more than once (`loan_within`, `loan_waiting`, `receive_within`, `receive_waiting`): what
-- one try did, and a further one, is what both did (`HasTried`, `HasWaited`).
use Rattle.std.proofs.Common.{◌≡◌, ℕ, ◌<◌, false, List, [], ◌++◌, map, length, Result, Ok, Err, IfOk, IfErr, refl, sym, ap, subst, ◌∙◌, ⊎_elim, arith}
use Rattle.std.proofs.Common.{append-nil, append_assoc}
use Rattle.std.proofs.lemmas.Bool.{cases_eq}
use Rattle.std.proofs.lemmas.List.{length-map, map-append}
use Rattle.std.proofs.lemmas.List.Elements.{Contains-append_cases, Contains-append_left, Contains-append_right}
use Rattle.std.proofs.lemmas.Nat.Bits.{bit_at-zero}
use Rattle.std.specs.Int.{bit_at}
use Rattle.std.specs.Prelude.{Contains}
use Rattle.model.specs.declared.event.Item.TheVariants.{Index}
use Rattle.model.specs.Families.Queues.Reading.{handed_out}
use Rattle.zero_copy_bus.specs.declared.holders.Holders.{Holders}
use Rattle.zero_copy_bus.specs.declared.loan.Loan.{Loan}
use Rattle.zero_copy_bus.specs.declared.outlet.Outlet.{Outlet}
use Rattle.zero_copy_bus.specs.declared.publisher.Publisher.{Publisher}
use Rattle.zero_copy_bus.specs.declared.subscriber.Subscriber.{Subscriber}
use Rattle.zero_copy_bus.specs.Books.{holders_at, ChangesAt, GainsNone, HasSlot, IsLoaned, KeepsLoans, KeepsSlots, LoansStay}
use Rattle.zero_copy_bus.specs.Books.{MoreLoansAreAlone, SubscribersGainNone}
use Rattle.zero_copy_bus.specs.Ends.{lanes_of, loaned, next_of, records_of, slots_of, slots_at, table_of, HasHad, HasTried, IsSame, IsTakenFor}
use Rattle.zero_copy_bus.specs.Holders.{bit_of, is_held, publisher}
use Rattle.zero_copy_bus.specs.Outlets.{holder_of, holders_in, open_in, takes_view, EachLane, HasGivenBack, IsTakenBack, KeepsRest}
use Rattle.zero_copy_bus.specs.declared.error.LoanFailure.{LoanFailure}
use Rattle.zero_copy_bus.specs.declared.error.LoanFailure.TheVariants.{NoSlot, NoRecord, StillRead}
use Rattle.zero_copy_bus.proofs.BookLemmas.{changes_keep, free_is, had_elsewhere, has_elsewhere}
use Rattle.zero_copy_bus.proofs.LaneLemmas.{same_holder}
use Rattle.zero_copy_bus.proofs.Received.{had_still, had_then}
use Rattle.zero_copy_slots.specs.declared.Keeps.{Ghosts}

-- ---- the table

loans_then : (one two three : List Holders) → LoansStay one two → LoansStay two three → LoansStay one three
loans_then one two three first second slot on = second slot (first slot on)

loans_kept : (old new : List Holders) → KeepsLoans old new → LoansStay old new
loans_kept old new keeps slot on = keeps slot ∙ on

-- a slot that comes on loan leaves the others on loan
loans_more : (slot : ℕ) (old new : List Holders) → ChangesAt slot publisher old new → IsLoaned new slot → LoansStay old new
loans_more slot old new changes lent other on =
    ⊎_elim (λ same. subst (λ k. IsLoaned new k) (sym same) lent)
    (λ differs. has_elsewhere slot publisher old new other changes differs on) (cases_eq other slot)

gains_then : (one two three : List Holders) → SubscribersGainNone one two → SubscribersGainNone two three → SubscribersGainNone one three
gains_then one two three first second slot i some small has = first slot i some small (second slot i some small has)

gains_none : (old new : List Holders) → GainsNone old new → SubscribersGainNone old new
gains_none old new none slot i some small has = none slot i small has

gains_loan : (slot : ℕ) (old new : List Holders) → ChangesAt slot publisher old new → SubscribersGainNone old new
gains_loan slot old new changes other i some small has =
    sym (changes_keep slot publisher old new changes other i small (λ same. (let zero : i ≡ 0 = same in absurd (omega arith)))) ∙ has

-- a slot that nobody holds has no bit
free_bit : (table : List Holders) (slot i : ℕ) → is_held (holders_at table slot) ≡ false → bit_at (holders_at table slot).bits i ≡ 1 → ⊥
free_bit table slot i free on =
    let none : bit_at (holders_at table slot).bits i ≡ bit_at 0 i = ap (λ (h : Holders). bit_at h.bits i) (free_is (holders_at table slot) free) in
    let one : 1 ≡ 0 = sym on ∙ (none ∙ bit_at-zero i) in
    absurd (omega arith)

-- a slot that nobody holds is not on loan
pub free_not_loaned : (table : List Holders) (slot : ℕ) → is_held (holders_at table slot) ≡ false → IsLoaned table slot → ⊥
free_not_loaned table slot free on = free_bit table slot 0 free on

-- slots that have come on loan in two steps are held by no subscriber, if no subscriber
-- gains a slot in the second
alone_then : (one two three : List Holders) → MoreLoansAreAlone one two → MoreLoansAreAlone two three → SubscribersGainNone two three
    → MoreLoansAreAlone one three
alone_then one two three first second gains slot i on off some small has =
    ⊎_elim (λ was. first slot i was off some small (gains slot i some small has)) (λ not. second slot i on not some small has)
    (cases_eq (bit_at (holders_at two slot).bits 0) 1)

-- if the same slots are on loan, none has come on loan
alone_kept : (old new : List Holders) → KeepsLoans old new → MoreLoansAreAlone old new
alone_kept old new keeps slot i on off some small has = off (sym (keeps slot) ∙ on)

-- if only the publisher takes a free slot, this slot is the only one that has come on loan,
-- and nobody else holds it
alone_loan : (slot : ℕ) (old new : List Holders) → is_held (holders_at old slot) ≡ false → ChangesAt slot publisher old new → MoreLoansAreAlone old new
alone_loan slot old new free changes other i on off some small has =
    ⊎_elim (λ same. free_bit old slot i free (subst (λ k. bit_at (holders_at old k).bits i ≡ 1) same had))
    (λ differs. off (had_elsewhere slot publisher old new other changes differs on)) (cases_eq other slot)
  where
    -- the publisher's change leaves the subscriber's bit
    had : bit_at (holders_at old other).bits i ≡ 1
    had = sym (changes_keep slot publisher old new changes other i small (λ same. (let zero : i ≡ 0 = same in absurd (omega arith)))) ∙ has

-- two steps that leave the bits without a lane leave them together
rest_then : (olds news : List Outlet) (one two three : List Holders) → holders_in news ≡ holders_in olds → KeepsRest olds one two
    → KeepsRest news two three
    → KeepsRest olds one three
rest_then olds news one two three same first second i long small slot =
    let many : length news ≡ length olds = sym (length-map news holder_of) ∙ (ap length same ∙ length-map olds holder_of) in
    second i (omega arith) small slot ∙ first i long small slot

-- a change for the publisher alone leaves the bits without a lane
rest_loan : (slot : ℕ) (lanes : List Outlet) (old new : List Holders) → ChangesAt slot publisher old new → KeepsRest lanes old new
rest_loan slot lanes old new changes i long small other =
    changes_keep slot publisher old new changes other i small (λ same. (let zero : i ≡ 0 = same in absurd (omega arith)))

-- ---- the lanes

-- a lane whose subscriber holds the same slots has had none given back
back_still : (before after : List Holders) (lane : Outlet) → KeepsSlots (holder_of lane) before after → HasGivenBack before after lane lane
back_still before after lane keeps =
    record {
      numbers = [];
      taken = sym (append-nil (handed_out (takes_view lane).seen));
      has = λ slot. ((λ has. (sym (keeps slot) ∙ has, none slot)), (λ x. keeps slot ∙ x.0));
      passes = record { sends = refl; waits = refl };
    }
  where
    none : (slot : ℕ) → Contains [] slot → ⊥
    none slot c = let lt : c.0 < 0 = c.1 in absurd (omega arith)

-- the slots that came back in two steps, one after the other, are those that came back in both together
back_then : (one two three : List Holders) (old mid new : Outlet) → holder_of mid ≡ holder_of old → HasGivenBack one two old mid
    → HasGivenBack two three mid new
    → HasGivenBack one three old new
back_then one two three old mid new same first second =
    record {
      numbers = first.numbers ++ second.numbers;
      taken =
          second.taken
          ∙ (ap (λ items. items ++ map Index second.numbers) first.taken
          ∙ (append_assoc (handed_out (takes_view old).seen) (map Index first.numbers) (map Index second.numbers)
          ∙ ap (λ items. handed_out (takes_view old).seen ++ items) (sym (map-append Index first.numbers second.numbers))));
      has = λ slot. (forth slot, from slot);
      passes = record { sends = second.passes.sends ∙ first.passes.sends; waits = second.passes.waits ∙ first.passes.waits };
    }
  where
    -- A slot held after both was held before both, and did not come back.
    forth : (slot : ℕ) → HasSlot three slot (holder_of old) → HasSlot one slot (holder_of old) × ¬ Contains (first.numbers ++ second.numbers) slot
    forth slot has =
        let x = (second.has slot).0 (subst (λ h. HasSlot three slot h) (sym same) has) in
        let y = (first.has slot).0 (subst (λ h. HasSlot two slot h) same x.0) in
        (y.0, λ c. ⊎_elim y.1 x.1 (Contains-append_cases first.numbers second.numbers slot c))

    -- A slot held before both that did not come back is held after both.
    from : (slot : ℕ) → HasSlot one slot (holder_of old) × ¬ Contains (first.numbers ++ second.numbers) slot → HasSlot three slot (holder_of old)
    from slot x =
        let y = (first.has slot).1 (x.0, λ c. x.1 (Contains-append_left first.numbers second.numbers slot c)) in
        let z = (second.has slot).1 (subst (λ h. HasSlot two slot h) (sym same) y, λ c. x.1 (Contains-append_right first.numbers second.numbers slot c)) in
        subst (λ h. HasSlot three slot h) same z

backs_still : (before after : List Holders) (lanes : List Outlet) → ((lane : Outlet) → KeepsSlots (holder_of lane) before after)
    → EachLane (HasGivenBack before after) lanes lanes
backs_still before after lanes keeps place lane is = (lane, is, back_still before after lane (keeps lane))

-- the slots of all lanes that came back in two steps are those that came back in both together
backs_then : (one two three : List Holders) (olds mids news : List Outlet) → holders_in mids ≡ holders_in olds
    → EachLane (HasGivenBack one two) olds mids
    → EachLane (HasGivenBack two three) mids news
    → EachLane (HasGivenBack one three) olds news
backs_then one two three olds mids news holders first second place lane is =
    let mid = first place lane is in
    let last = second place mid.0 mid.1 in
    let same : holder_of mid.0 ≡ holder_of lane = same_holder mids olds place mid.0 lane holders mid.1 is in
    (last.0, last.1, back_then one two three lane mid.0 last.0 same mid.2 last.2)

-- a change for the publisher alone leaves the slots of a lane's subscriber
kept_by : (slot : ℕ) (old new : List Holders) (lane : Outlet) → ChangesAt slot publisher old new → KeepsSlots (holder_of lane) old new
kept_by slot old new lane changes other =
    let some : 0 < bit_of (holder_of lane) = lane.subscribes in
    changes_keep slot publisher old new changes other (bit_of (holder_of lane)) lane.holder.within
    (λ same. (let zero : bit_of (holder_of lane) ≡ 0 = same in absurd (omega arith)))

module _ {X K : Type 0} {rule : Ghosts K X} where
  -- a publisher that stays the same by two calls stays so by both
  same_then : (p q r : Publisher X K rule) → IsSame p q → IsSame q r → IsSame p r
  same_then p q r first second =
      record {
        pool =
            record {
              set = second.pool.set ∙ first.pool.set;
              share = second.pool.share ∙ first.pool.share;
              slots = second.pool.slots ∙ first.pool.slots;
            };
        records = second.records ∙ first.records;
        layout = second.layout ∙ first.layout;
        lanes = second.lanes ∙ first.lanes;
      }

  -- ---- a publisher that tries to loan

  -- a publisher that did nothing has tried
  pub tried_none : (p : Publisher X K rule) → HasTried p p
  tried_none p =
      record {
        loans = λ slot on. on;
        alone = λ slot i on off some small has. off on;
        gains = λ slot i some small has. has;
        back = backs_still (table_of p) (table_of p) (lanes_of p) (λ lane slot. refl);
        rest = λ i long small slot. refl;
        taking = refl;
        same = record { pool = record { set = refl; share = refl; slots = refl }; records = refl; layout = refl; lanes = refl };
        next = refl;
      }

  -- a publisher that tries twice has tried
  pub tried_then : (p q r : Publisher X K rule) → HasTried p q → HasTried q r → HasTried p r
  tried_then p q r first second =
      record {
        loans = loans_then (table_of p) (table_of q) (table_of r) first.loans second.loans;
        alone = alone_then (table_of p) (table_of q) (table_of r) first.alone second.alone second.gains;
        gains = gains_then (table_of p) (table_of q) (table_of r) first.gains second.gains;
        back =
            backs_then (table_of p) (table_of q) (table_of r) (lanes_of p) (lanes_of q) (lanes_of r) first.same.lanes first.back
            second.back;
        rest = rest_then (lanes_of p) (lanes_of q) (table_of p) (table_of q) (table_of r) first.same.lanes first.rest second.rest;
        taking = second.taking ∙ first.taking;
        same = same_then p q r first.same second.same;
        next = second.next ∙ first.next;
      }

  -- a `collect` is part of a try: the slots that were given back are taken back
  pub tried_collect : (p q : Publisher X K rule) → EachLane (IsTakenBack (slots_of p) (table_of p) (table_of q)) (lanes_of p) (lanes_of q)
      → KeepsRest (lanes_of p) (table_of p) (table_of q)
      → GainsNone (table_of p) (table_of q) → KeepsLoans (table_of p) (table_of q) → open_in (lanes_of q) ≡ open_in (lanes_of p)
      → IsSame p q → next_of q ≡ next_of p → HasTried p q
  tried_collect p q taken rest gains loans taking same next =
      record {
        loans = loans_kept (table_of p) (table_of q) loans;
        alone = alone_kept (table_of p) (table_of q) loans;
        gains = gains_none (table_of p) (table_of q) gains;
        back =
            λ place lane is.
            (let it = taken place lane is in (
              it.0,
              it.1,
              record { numbers = it.2.numbers; taken = it.2.taken; has = it.2.has; passes = it.2.passes },
            ));
        rest = rest;
        taking = taking;
        same = same;
        next = next;
      }

  -- From `p` to `q` the publisher keeps its lanes, its next number and its layout.
  module _ (p q : Publisher X K rule) (lanes : lanes_of q ≡ lanes_of p) (same : IsSame p q) (next : next_of q ≡ next_of p) where
    -- If the lanes are unchanged and each holder keeps his slots, nothing came back.
    back_kept : ((lane : Outlet) → KeepsSlots (holder_of lane) (table_of p) (table_of q))
        → EachLane (HasGivenBack (table_of p) (table_of q)) (lanes_of p) (lanes_of q)
    back_kept keeps =
        subst (λ ls. EachLane (HasGivenBack (table_of p) (table_of q)) (lanes_of p) ls) (sym lanes)
        (backs_still (table_of p) (table_of q) (lanes_of p) keeps)

    -- tries that leave the table are as `HasTried` says
    tried_still : table_of q ≡ table_of p → HasTried p q
    tried_still table =
        record {
          loans = λ slot on. subst (λ t. IsLoaned t slot) (sym table) on;
          alone = λ slot i on off some small has. off (subst (λ t. IsLoaned t slot) table on);
          gains = λ slot i some small has. subst (λ t. bit_at (holders_at t slot).bits i ≡ 1) table has;
          back = back_kept (λ lane slot. ap (λ t. bit_at (holders_at t slot).bits (bit_of (holder_of lane))) table);
          rest = λ i long small slot. ap (λ t. bit_at (holders_at t slot).bits i) table;
          taking = ap open_in lanes;
          same = same;
          next = next;
        }

    -- a try that got a loan: one slot more is on loan
    pub tried_loan : (slot : ℕ) → is_held (holders_at (table_of p) slot) ≡ false → ChangesAt slot publisher (table_of p) (table_of q)
        → IsLoaned (table_of q) slot
        → HasTried p q
    tried_loan slot free changes lent =
        record {
          loans = loans_more slot (table_of p) (table_of q) changes lent;
          alone = alone_loan slot (table_of p) (table_of q) free changes;
          gains = gains_loan slot (table_of p) (table_of q) changes;
          back = back_kept (λ lane. kept_by slot (table_of p) (table_of q) lane changes);
          rest = rest_loan slot (lanes_of p) (table_of p) (table_of q) changes;
          taking = ap open_in lanes;
          same = same;
          next = next;
        }

    -- a try whose loan was refused
    pub tried_refused : (spares : ℕ) (failure : LoanFailure) → IsTakenFor (records_of p) spares (table_of p) (table_of q) failure → HasTried p q
    tried_refused spares (StillRead slot failure) taken = tried_loan slot taken.0 taken.1 taken.2
    tried_refused spares (NoSlot failure) taken = tried_still taken
    tried_refused spares NoRecord taken = tried_still taken.0

    -- a try, whether its loan was refused or not
    pub tried_asked : (spares : ℕ) (answer : Result (Loan X K) LoanFailure) → IfErr answer (IsTakenFor (records_of p) spares (table_of p) (table_of q))
        → IfOk answer (λ l. is_held (holders_at (table_of p) (loaned l)) ≡ false)
        → IfOk answer (λ l. ChangesAt (loaned l) publisher (table_of p) (table_of q)) → IfOk answer (λ l. IsLoaned (table_of q) (loaned l))
        → HasTried p q
    tried_asked spares (Ok loan) refused free changes on = tried_loan (loaned loan) free changes on
    tried_asked spares (Err failure) refused free changes on = tried_refused spares failure refused

  -- ---- a subscriber that tries to receive

  -- The subscriber has tried to receive, and no record came: each number that came was
  -- below the one expected.
  pub record HasWaited (old new : Subscriber X K rule) : Type 0 where
    pub came : List ℕ
    pub had : HasHad came [] old new
    pub slots : slots_at new ≡ slots_at old

  -- before the first try nothing came
  pub waited_none : (s : Subscriber X K rule) → HasWaited s s
  waited_none s = record { came = []; had = had_still s s refl refl refl refl refl; slots = refl }

  -- what came in the tries before, and then in one more, came in all of them together
  pub waited_then : (delivered : List ℕ) (r s t : Subscriber X K rule) → HasWaited r s → (came : List ℕ) × HasHad came delivered s t
      → (came : List ℕ) × HasHad came delivered r t
  waited_then delivered r s t waited more =
      (waited.came ++ more.0, had_then waited.came more.0 [] delivered r s t waited.had more.1)
