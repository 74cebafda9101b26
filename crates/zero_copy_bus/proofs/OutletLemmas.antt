-- What a call does to one lane stays true when the table changes before or after it for other holders: of
-- `publish`, `collect` and `update`, one lane after the other.
use Rattle.std.proofs.Common.{◌≡◌, ◌≢◌, ◌⊎◌, ℕ, ◌+◌, ◌<◌, Bool, true, cond, take, Option, Some, None, List, [], ◌∷◌, ◌++◌, length}
use Rattle.std.proofs.Common.{map, ◌==◌, ◌&&◌, not, ap, sym, ◌∙◌, subst, inl, inr, ⊎_elim, append_assoc}
use Rattle.std.proofs.Common.{arith, length-append}
use Rattle.std.proofs.lemmas.List.{map-append}
use Rattle.std.proofs.lemmas.List.Elements.{Contains-append_left, Contains-push, Contains-push_cases}
use Rattle.std.specs.Int.{bit_at}
use Rattle.std.specs.List.{count_by}
use Rattle.std.specs.Prelude.{◌↔◌, Contains, IfNone, IfSome, slice_get}
use Rattle.history.specs.History.{IsBeginning}
use Rattle.history.specs.declared.view.View.{View}
use Rattle.model.specs.declared.event.Item.TheVariants.{Index}
use Rattle.lock_free_queues.specs.Queues.Overflowing.{PushAdded, PushHandedBack}
use Rattle.history.specs.Passes.{Goes}
use Rattle.model.specs.Families.Queues.Reading.{handed_out}
use Rattle.lock_free_queues.specs.Queues.Contracts.{PopDone, PopEmpty}
use Rattle.zero_copy_bus.specs.declared.holders.Holder.{Holder}
use Rattle.zero_copy_bus.specs.declared.holders.Holders.{Holders}
use Rattle.zero_copy_bus.specs.declared.outlet.Outlet.{Outlet}
use Rattle.zero_copy_bus.specs.declared.roll.Roll.{Roll}
use Rattle.zero_copy_bus.specs.Books.{CanSend, ChangesAt, Exchanges, GainsNone, GainsOnly, HasSlot, KeepsLoans, KeepsLoansBut, KeepsOthers, KeepsSlots}
use Rattle.zero_copy_bus.specs.Holders.{bit_of, publisher}
use Rattle.zero_copy_bus.specs.Rolls.{IsShown}
use Rattle.zero_copy_bus.specs.Outlets.{has_gained, has_slot, holder_of, holders_in, is_open, open_in, place_of, takes_view}
use Rattle.zero_copy_bus.specs.Outlets.{sends_view, waits_queue, AreShown, EachLane, HasPushed, HaveTheirPlaces}
use Rattle.zero_copy_bus.specs.Outlets.{IsSent, IsServed, IsSettled, IsTakenBack, KeepsRest}
use Rattle.zero_copy_bus.specs.Outlets.{SamePasses}
use Rattle.zero_copy_bus.specs.Words.{slot_back}
use Rattle.zero_copy_loans.specs.Words.{word_of}
use Rattle.zero_copy_bus.proofs.BookLemmas.{changes_keep, had_elsewhere, has_elsewhere, only_both}
use Rattle.zero_copy_bus.proofs.LaneLemmas.{count_more, count_same, each_more, get_map, map_got, placed_at, KeepsAbove}
use Rattle.history.proofs.Known.{begins_further}
use Rattle.zero_copy_bus.proofs.ViewLemmas.{empty_found, found_since, out_later}

-- ---- a publish

-- the two clauses of a push, for no word and for a word that came back, as one predicate
pub pushed_as : (word : ℕ) (old new : Outlet) (back : Option ℕ) → IfNone back (PushAdded word (sends_view old) (sends_view new))
    → IfSome back (λ y. PushHandedBack (waits_queue old).capacity word y (sends_view old) (sends_view new))
    → HasPushed word back old new
pushed_as word old new None added handed = added
pushed_as word old new (Some y) added handed = handed

-- a push and the exchange in the table make `IsSent`, for equal words and slots
pub sent_as : (room number slot word : ℕ) (one two : List Holders) (old new : Outlet) (other : ℕ) (back : Option ℕ) (returned : Option ℕ)
    → word ≡ word_of room number slot → other ≡ slot → returned ≡ slot_back room back
    → IfNone back (PushAdded word (sends_view old) (sends_view new))
    → IfSome back (λ y. PushHandedBack (waits_queue old).capacity word y (sends_view old) (sends_view new))
    → (0 < (waits_queue old).capacity → Goes (sends_view old) (sends_view new))
    → Exchanges other (holder_of old) returned one two → IsSent room number slot one two old new
sent_as room number slot word one two old new other back returned is at came added handed goes has =
    record {
      back = back;
      pushed = subst (λ w. HasPushed w back old new) is (pushed_as word old new back added handed);
      goes = goes;
      has =
          subst (λ s. Exchanges s (holder_of old) (slot_back room back) one two) at
          (subst (λ b. Exchanges other (holder_of old) b one two) came has);
    }

-- A lane is served from table `one` to table `two`. Then the table changes to `three` for other holders alone.
module _ (room number slot : ℕ) (one two three : List Holders) (old new : Outlet) where
  -- what the other holders change behind a publish leaves how the lane was served
  pub served_still : KeepsSlots (holder_of old) two three → IsServed room number slot one two old new → IsServed room number slot one three old new
  served_still keeps served =
      record {
        sent =
            λ on can. (let s = served.sent on can in
            record {
              back = s.back;
              pushed = s.pushed;
              goes = s.goes;
              has = λ n. (λ has. (s.has n).0 (sym (keeps n) ∙ has), λ x. keeps n ∙ (s.has n).1 x);
            });
        other = λ no n. keeps n ∙ served.other no n;
        idle = served.idle;
        waits = served.waits;
      }

  -- what the other holders change before a publish leaves how the lane was served
  pub served_from : KeepsSlots (holder_of old) one two → KeepsLoans one two → IsServed room number slot two three old new
      → IsServed room number slot one three old new
  served_from keeps loans served =
      record {
        sent =
            λ on can. (let s = served.sent on (forth can) in
            record {
              back = s.back;
              pushed = s.pushed;
              goes = s.goes;
              has = λ n. (λ has. (let x = (s.has n).0 has in (before n x.0, x.1)), λ x. (s.has n).1 (after n x.0, x.1));
            });
        other = λ no n. served.other (λ x. no (x.0, back x.1)) n ∙ keeps n;
        idle = λ no. served.idle (λ x. no (x.0, back x.1));
        waits = served.waits;
      }
    where
      -- what can be sent before the others' change can be sent after it
      forth : CanSend one slot (holder_of old) → CanSend two slot (holder_of old)
      forth can = (loans slot ∙ can.0, λ has. can.1 (sym (keeps slot) ∙ has))

      -- what can be sent after the others' change could be sent before it
      back : CanSend two slot (holder_of old) → CanSend one slot (holder_of old)
      back can = (sym (loans slot) ∙ can.0, λ has. can.1 (keeps slot ∙ has))

      -- by the earlier table too the subscriber holds it, or it is the slot sent
      before : (n : ℕ) → HasSlot two n (holder_of old) ⊎ (n ≡ slot) → HasSlot one n (holder_of old) ⊎ (n ≡ slot)
      before n some = ⊎_elim (λ has. inl (sym (keeps n) ∙ has)) (λ e. inr e) some

      -- by the later table too the subscriber holds it, or it is the slot sent
      after : (n : ℕ) → HasSlot one n (holder_of old) ⊎ (n ≡ slot) → HasSlot two n (holder_of old) ⊎ (n ≡ slot)
      after n some = ⊎_elim (λ has. inl (keeps n ∙ has)) (λ e. inr e) some

-- The table of holders goes from `one` by way of `two` to `three`. One of both changes is for other holders than the lane's.
module _ (slot : ℕ) (one two three : List Holders) (lane : Outlet) where
  -- whether the subscriber gained the slot is the same after a change for other holders
  pub gained_still : KeepsSlots (holder_of lane) two three → has_gained slot one two lane ≡ has_gained slot one three lane
  gained_still keeps = ap (λ b. is_open lane && (not (has_slot one slot lane) && (b == 1))) (sym (keeps slot))

  -- whether the subscriber gained the slot is the same after an earlier change for other holders
  pub gained_from : KeepsSlots (holder_of lane) one two → has_gained slot two three lane ≡ has_gained slot one three lane
  gained_from keeps = ap (λ b. is_open lane && (not (b == 1) && has_slot three slot lane)) (keeps slot)

-- counted one lane further, the subscribers that gained the slot are one more where that lane's gained it,
-- else as many
pub counted : (slot : ℕ) (one two three : List Holders) (n number : ℕ) (lanes : List Outlet) (lane : Outlet) (gained : Bool)
    → HaveTheirPlaces (holders_in lanes) → KeepsAbove n one two → KeepsOthers (holder_of lane) two three
    → slice_get lanes n ≡ Some lane → number ≡ count_by (has_gained slot one two) (take n lanes)
    → gained ≡ has_gained slot two three lane
    → number + cond gained 1 0 ≡ count_by (has_gained slot one three) (take (n + 1) lanes)
counted slot one two three n number lanes lane gained placed above others is count e =
    let bit : bit_of (holder_of lane) ≡ n + 1 = placed_at lanes n lane placed is in
    let kept : KeepsSlots (holder_of lane) one two = λ s. above (bit_of (holder_of lane)) (omega arith) lane.holder.within s in
    count_more (has_gained slot one two) (has_gained slot one three) lanes n number lane gained (below bit) is count
    (sym (e ∙ gained_from slot one two three lane kept))
  where
    -- Serving this lane does not change whether the subscriber of an earlier lane has gained the slot.
    below : bit_of (holder_of lane) ≡ n + 1 → (k : ℕ) (x : Outlet) → k < n → slice_get lanes k ≡ Some x
        → has_gained slot one two x ≡ has_gained slot one three x
    below bit k x lt got =
        let own : bit_of (holder_of x) ≡ k + 1 = placed_at lanes k x placed got in
        gained_still slot one two three x (λ s. others s (bit_of (holder_of x)) x.holder.within (λ same. absurd (omega arith)))

-- after all lanes are served the publisher gives the slot up, which changes nothing for subscribers
module _ (room number slot : ℕ) (one two three : List Holders) (olds news : List Outlet) (changes : ChangesAt slot publisher two three) where
  -- a change for the publisher alone leaves what each subscriber holds
  kept : (lane : Outlet) → KeepsSlots (holder_of lane) two three
  kept lane other = grind (arith, changes_keep, publisher, bit_of, holder_of)

  pub served_after : EachLane (IsServed room number slot one two) olds news → EachLane (IsServed room number slot one three) olds news
  served_after each =
      each_more (IsServed room number slot one two) (IsServed room number slot one three) olds news
      (λ k old new is served. served_still room number slot one two three old new (kept old) served) each

  pub rest_after : KeepsRest olds one two → KeepsRest olds one three
  rest_after rest i long small s = changes_keep slot publisher two three changes s i small (λ e. absurd (omega (arith, e))) ∙ rest i long small s

  pub number_after : count_by (has_gained slot one two) olds ≡ count_by (has_gained slot one three) olds
  number_after = grind (arith, count_same, has_gained, gained_still, kept)

-- the slot with the record is the slot of the loan, so what holds of the one holds of the other
module _ (laid slot loaned : ℕ) (one two three : List Holders) (olds news : List Outlet) (at : laid ≡ slot) (is : slot ≡ loaned)
    (changes : ChangesAt slot publisher two three) where
  -- the change is at the slot with the record
  there : ChangesAt laid publisher two three
  there = subst (λ s. ChangesAt s publisher two three) (sym at) changes

  pub number_of_all : (gained : ℕ) → gained ≡ count_by (has_gained laid one two) olds → gained ≡ count_by (has_gained loaned one three) olds
  number_of_all gained count =
      subst (λ s. gained ≡ count_by (has_gained s one three) olds) (at ∙ is) (count ∙ number_after 0 0 laid one two three olds news there)

  -- nobody gains another slot than that of the loan, and no other comes on loan or leaves it
  pub gains_of_all : GainsNone two three → GainsOnly laid one two → GainsOnly loaned one three
  gains_of_all none only = subst (λ s. GainsOnly s one three) (at ∙ is) (only_both laid one two three only (λ other differs. none other))

  pub loans_of_all : KeepsLoans one two → KeepsLoansBut loaned one three
  loans_of_all keeps other differs = ap (λ (h : Holders). bit_at h.bits 0) (changes.elsewhere other (λ e. differs (e ∙ is))) ∙ keeps other

  -- Each lane that was served with the record's slot is served with the slot of the loan, also
  -- after the publisher gave it up.
  pub served_of : (room laid_number number : ℕ) → laid_number ≡ number → EachLane (IsServed room laid_number laid one two) olds news
      → EachLane (IsServed room number loaned one three) olds news
  served_of room laid_number number same each =
      subst (λ s. EachLane (IsServed room number s one three) olds news) (at ∙ is)
      (subst (λ n. EachLane (IsServed room n laid one three) olds news) same (served_after room laid_number laid one two three olds news there each))

-- ---- a collect

module _ (slots : ℕ) (one two three : List Holders) (old new : Outlet) where
  pub taken_still : KeepsSlots (holder_of old) two three → IsTakenBack slots one two old new → IsTakenBack slots one three old new
  taken_still keeps_slots taken_back = grind arith

  pub taken_from : KeepsSlots (holder_of old) one two → KeepsLoans one two → IsTakenBack slots two three old new → IsTakenBack slots one three old new
  taken_from keeps_slots keeps_loans taken_back = grind arith

-- `number` slot numbers were popped from the queue of returns, and the subscriber holds what
-- it held, except these.
pub record TakenSo (number : ℕ) (holder : Holder) (before after : List Holders) (old new : View ℕ) : Type 0 where
  pub numbers : List ℕ
  pub taken : handed_out new.seen ≡ handed_out old.seen ++ map Index numbers
  pub many : length numbers ≡ number
  pub since : IsBeginning old.seen new.seen
  pub has : (slot : ℕ) → HasSlot after slot holder ↔ (HasSlot before slot holder × ¬ Contains numbers slot)

-- a further slot number is popped and put back: it is one of those that came back
pub so_more : (number back : ℕ) (holder : Holder) (one two three : List Holders) (u v w : View ℕ)
    → TakenSo number holder one two u v → PopDone (Index back) v w → ChangesAt back holder two three
    → ¬ HasSlot three back holder → TakenSo (number + 1) holder one three u w
so_more number back holder one two three u v w so out changes lacks =
    record {
      numbers = so.numbers ++ back ∷ [];
      taken =
          out.1.list ∙ (ap (λ items. items ++ Index back ∷ []) so.taken
          ∙ (append_assoc (handed_out u.seen) (map Index so.numbers) (Index back ∷ [])
          ∙ ap (λ items. handed_out u.seen ++ items) (sym (map-append Index so.numbers (back ∷ [])))));
      many = simp length-append (omega (arith, so.many));
      since = begins_further u.seen v.seen w.seen so.since (out_later (Index back) v w out.1);
      has = λ slot. (forth slot, back_from slot);
    }
  where
    -- a slot held now was held before, and is none of those that came back
    forth : (slot : ℕ) → HasSlot three slot holder → HasSlot one slot holder × ¬ Contains (so.numbers ++ back ∷ []) slot
    forth slot has =
        let ne : slot ≢ back = λ e. lacks (subst (λ n. HasSlot three n holder) e has) in
        let x = (so.has slot).0 (had_elsewhere back holder two three slot changes ne has) in
        (x.0, λ c. ⊎_elim x.1 (λ e. ne (sym e)) (Contains-push_cases so.numbers back slot c))

    -- a slot held before, and none of those that came back, is still held
    back_from : (slot : ℕ) → HasSlot one slot holder × ¬ Contains (so.numbers ++ back ∷ []) slot → HasSlot three slot holder
    back_from slot x =
        let ne : slot ≢ back = λ e. x.1 (subst (λ n. Contains (so.numbers ++ back ∷ []) n) (sym e) (Contains-push so.numbers back)) in
        has_elsewhere back holder two three slot changes ne ((so.has slot).1 (x.0, λ c. x.1 (Contains-append_left so.numbers (back ∷ []) slot c)))

-- A loop takes numbers back from a lane: `so` is what it has taken so far, and the next pop leads to `new`.
module _ (slots number : ℕ) (one two : List Holders) (old now new : Outlet)
    (so : TakenSo number (holder_of old) one two (takes_view old) (takes_view now)) where
  -- a pop finds the queue of returns empty: the lane is taken back from
  pub so_empty : PopEmpty (takes_view now) (takes_view new) → SamePasses old new → IsTakenBack slots one two old new
  so_empty was same =
      record {
        numbers = so.numbers;
        taken = was.1.list ∙ so.taken;
        all = inl (found_since (takes_view old) (takes_view now) (takes_view new) so.since (empty_found (takes_view now) (takes_view new) was));
        has = so.has;
        passes = same;
      }

  -- as many numbers came back as there are slots: the lane is taken back from
  pub so_full : number ≡ slots → SamePasses old now → IsTakenBack slots one two old now
  so_full all same =
      record { numbers = so.numbers; taken = so.taken; all = inr (so.many ∙ all); has = so.has; passes = same }

-- ---- a look at who takes part

module _ (roll : Roll) (one two three : List Holders) (old new : Outlet) where
  -- what the other holders change behind a look leaves how the lane was settled
  pub settled_still : KeepsSlots (holder_of old) two three → IsSettled roll one two old new → IsSettled roll one three old new
  settled_still keeps settled =
      record {
        takes = settled.takes;
        passes = settled.passes;
        end = settled.end;
        queue = settled.queue;
        lost = settled.lost;
        still = settled.still;
        free =
            λ is. ⊎_elim (λ was. inl was) (λ lost. inr ((λ slot has. lost.0 slot (sym (keeps slot) ∙ has)), lost.1, lost.2)) (settled.free is);
        kept = λ stays slot. keeps slot ∙ settled.kept stays slot;
        popped = settled.popped;
      }

  -- what the other holders change before a look leaves how the lane was settled
  pub settled_from : KeepsSlots (holder_of old) one two → KeepsLoans one two → IsSettled roll two three old new → IsSettled roll one three old new
  settled_from keeps loans settled =
      record {
        takes = settled.takes;
        passes = settled.passes;
        end = settled.end;
        queue = settled.queue;
        lost = settled.lost;
        still = settled.still;
        free = settled.free;
        kept = λ stays slot. settled.kept stays slot ∙ keeps slot;
        popped = settled.popped;
      }

-- after an `update` each lane that takes part is one that the roll shows
pub shown_after : (roll : Roll) (before after : List Holders) (olds news : List Outlet)
    → HaveTheirPlaces (holders_in olds) → holders_in news ≡ holders_in olds
    → EachLane (IsSettled roll before after) olds news → AreShown roll (open_in news)
shown_after roll before after olds news placed same each place is =
    let on = map_got is_open news place true is in
    let named : slice_get (holders_in olds) place ≡ Some (holder_of on.0) = ap (λ hs. slice_get hs place) (sym same) ∙ get_map holder_of news place on.0 on.1 in
    let was = map_got holder_of olds place (holder_of on.0) named in
    let it = each place was.0 was.1 in
    let got : slice_get news place ≡ Some on.0 = on.1 in
    let is_got : slice_get news place ≡ Some it.0 = it.1 in
    let one : on.0 ≡ it.0 = cc in
    let bit : bit_of (holder_of was.0) ≡ place + 1 = placed_at olds place was.0 placed was.1 in
    let here : place_of was.0 ≡ place = omega arith in
    subst (λ k. IsShown roll k) here (it.2.takes.0 (ap is_open (sym one) ∙ on.2)).1
