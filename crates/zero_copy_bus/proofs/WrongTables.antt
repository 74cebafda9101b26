-- What a wrong body of a call would do to the table of who holds each slot and to the lanes, and the clause that refuses it: the
-- clause is the last hypothesis of a lemma, which it contradicts. A lemma's name says what the body does.
use Rattle.std.proofs.Common.{◌≡◌, ◌≢◌, ⊎_elim, ℕ, ◌+◌, ◌-◌, ◌^◌, ◌%◌, ◌<◌, Bool, true, List, [], ◌∷◌, ◌++◌, length}
use Rattle.std.proofs.Common.{length-append, map, sym, ap, subst, ◌∙◌, arith}
use Rattle.std.proofs.lemmas.List.{length-map}
use Rattle.std.specs.Prelude.{IsTrue, if◌then◌else◌, sum_by}
use Rattle.std.specs.Int.{bit_at}
use Rattle.counted_slot.specs.Counting.{readers}
use Rattle.history.specs.Held.{claims, frees}
use Rattle.history.specs.declared.view.View.{View}
use Rattle.model.specs.declared.event.Item.TheVariants.{Index}
use Rattle.model.specs.Families.Queues.Reading.{handed_out, published}
use Rattle.lock_free_sets.specs.Unique.Held.{times}
use Rattle.zero_copy_bus.specs.declared.error.LoanFailure.TheVariants.{StillRead}
use Rattle.zero_copy_bus.specs.declared.holders.Holder.{Holder}
use Rattle.zero_copy_bus.specs.declared.holders.Holders.{Holders}
use Rattle.zero_copy_bus.specs.declared.outlet.Outlet.{Outlet}
use Rattle.zero_copy_bus.specs.declared.subscriber.Left.{Left}
use Rattle.zero_copy_bus.specs.declared.subscriber.Sample.{Sample}
use Rattle.zero_copy_bus.specs.declared.subscriber.Subscriber.{Subscriber}
use Rattle.zero_copy_bus.specs.Books.{holders_at, ChangesAt, GainsNone, GainsOnly, IsBookOf, KeepsAllOrNone}
use Rattle.zero_copy_bus.specs.Ends.{number_of, place_at, place_left, received, receives_queue, receives_view, returns_view, HasLeft, IsTakenFor}
use Rattle.zero_copy_bus.specs.Ends.{IsUnread, ReceivedNone, TookNoneBack, TriedToReceive}
use Rattle.zero_copy_bus.specs.Holders.{is_held}
use Rattle.zero_copy_bus.specs.Outlets.{is_open, takes_view, IsFree, IsTakenBack, KeepsRest, OthersStay, WasLet}
use Rattle.zero_copy_loans.proofs.WrongEnds.{no_more, same_seen}
use Rattle.zero_copy_loans.specs.declared.error.ReadFailure.TheVariants.{Other}
use Rattle.zero_copy_slots.specs.declared.error.TakeFailure.TheVariants as takes
use Rattle.zero_copy_slots.specs.declared.Keeps.{Ghosts}
use Rattle.zero_copy_slots.specs.declared.Slots.{Slots}
use Rattle.zero_copy_slots.specs.declared.words.Seen.{Seen}
use Rattle.zero_copy_slots.specs.Words.{seen_word}

module _ (old new : List Holders) where
  -- ---- the table

  -- `publish` gives a subscriber another slot too
  pub publish_gives_another_slot : (slot other i : ℕ) → other ≢ slot → i < 64 → bit_at (holders_at new other).bits i ≡ 1
      → bit_at (holders_at old other).bits i ≢ 1
      → GainsOnly slot old new
      → ⊥
  publish_gives_another_slot slot other i differs small has had k = had (k other differs i small has)

  -- `collect` gives somebody a slot
  pub collect_gives_a_slot : (slot i : ℕ) → i < 64 → bit_at (holders_at new slot).bits i ≡ 1 → bit_at (holders_at old slot).bits i ≢ 1
      → GainsNone old new
      → ⊥
  collect_gives_a_slot slot i small has had k = had (k slot i small has)

  -- `loan` changes who holds another slot
  pub loan_changes_another_slot : (slot other : ℕ) (holder : Holder) → other ≢ slot → holders_at new other ≢ holders_at old other
      → ChangesAt slot holder old new
      → ⊥
  loan_changes_another_slot slot other holder differs changed k = changed (k.elsewhere other differs)

  -- `update` takes one slot of a subscriber back, and leaves him another
  pub update_takes_one_slot : (slot other i : ℕ) → i < 64 → bit_at (holders_at new other).bits i ≢ bit_at (holders_at old other).bits i
      → bit_at (holders_at new slot).bits i ≡ 1
      → KeepsAllOrNone old new
      → ⊥
  update_takes_one_slot slot other i small taken has k = ⊎_elim (λ same. taken (same other)) (λ none. none slot has) (k i small)

  -- `publish` sets a bit that stands for nobody
  pub publish_sets_a_bit_of_nobody : (lanes : List Outlet) (slot i : ℕ) → length lanes < i → i < 64
      → bit_at (holders_at new slot).bits i ≢ bit_at (holders_at old slot).bits i
      → KeepsRest lanes old new
      → ⊥
  publish_sets_a_bit_of_nobody lanes slot i long small changed k = changed (k i long small slot)

-- `put_back` keeps a slot that somebody still holds, so that it is handed out again
pub put_back_keeps_a_held_slot : (v : View ℕ) (kept : List ℕ) (table : List Holders) (slot : ℕ) → is_held (holders_at table slot) ≡ true
    → sum_by (claims slot) v.made ≡ sum_by (frees slot) v.made + 1
    → 0 < times slot kept
    → IsBookOf v kept table
    → ⊥
put_back_keeps_a_held_slot v kept table slot held once again k =
    let all : sum_by (claims slot) v.made ≡ sum_by (frees slot) v.made + 1 + times slot kept =
    subst (λ (b : Bool). sum_by (claims slot) v.made ≡ sum_by (frees slot) v.made + (if b then 1 else 0) + times slot kept) held (k.held slot)
    in
    absurd (omega (arith, all, once, again))

-- a list that has stayed as it was has grown by nothing
none_grown : {A : Type 0} (f : ℕ → A) (old new : List A) (ns : List ℕ) → new ≡ old ++ map f ns → new ≡ old → length ns ≡ 0
none_grown {A} f old new ns is same =
    let long : length {A = A} new ≡ length (old ++ map f ns) = ap (length {A = A}) is in
    let still : length {A = A} new ≡ length old = ap (length {A = A}) same in
    let both : length (old ++ map f ns) ≡ length old + length (map f ns) = length-append old (map f ns) in
    let each : length (map f ns) ≡ length ns = length-map ns f in
    omega (arith, long, still, both, each)

module _ (old new : Outlet) where
  -- ---- the lanes

  -- `collect` answers without a pop
  pub collect_pops_nothing : (slots : ℕ) (before after : List Holders) → takes_view new ≡ takes_view old → 0 < slots
      → IsTakenBack slots before after old new
      → ⊥
  collect_pops_nothing slots before after same some k =
      ⊎_elim (λ found. no_more found.before found.after _ _ (sym (same_seen _ _ same) ∙ found.is) found.since)
      (λ many. (let none : length k.numbers ≡ 0 = none_grown Index _ _ k.numbers k.taken (ap (λ (v : View ℕ). handed_out v.seen) same) in
      absurd (omega (arith, none, many, some))))
      k.all

  -- `seat` lets a lane that is let
  pub seat_lets_a_lane_twice : (theirs : View ℕ) → ¬ IsFree old → WasLet theirs old new → ⊥
  seat_lets_a_lane_twice theirs taken k = taken k.free

  -- `subscribe` takes the publisher's guard from a lane whose subscriber takes part
  pub subscribe_changes_another_end : new.sends ≢ old.sends → IsTrue (is_open old) → IsTrue (is_open new) → OthersStay old new → ⊥
  subscribe_changes_another_end changed was is k = changed (k.taking was is).sends

module _ {X K : Type 0} {rule : Ghosts K X} where
  -- ---- the ends

  -- `loan` answers that a slot is still read whose word says that nobody reads or writes it
  pub loan_refuses_a_free_slot : (records : Slots X K rule) (spares slot : ℕ) (old new : List Holders) (seen : Seen) → seen_word seen % 4 ≢ 3
      → readers (seen_word seen) ≡ 0
      → IsTakenFor records spares old new (StillRead slot (takes.InUse seen))
      → ⊥
  loan_refuses_a_free_slot records spares slot old new seen unwritten unread k = ⊎_elim unwritten (λ read. read unread) k.3.1

  -- `leave` hands the passes back as those of another lane
  pub leave_names_another_lane : (s : Subscriber X K rule) (left : Left) → place_left left ≢ place_at s → HasLeft s left → ⊥
  leave_names_another_lane s left differs k = differs k.place

  -- `read` answers that the record has another number, and it has the sample's
  pub read_refuses_its_number : (s : Subscriber X K rule) (sample : Sample) (number : ℕ) → number ≡ number_of sample → IsUnread s sample (Other number) → ⊥
  read_refuses_its_number s sample number same k = k same

  module _ (old new : Subscriber X K rule) where
    -- `receive` answers that nothing waits, and pops nothing
    pub receive_finds_none_without_a_pop : receives_view new ≡ receives_view old → 0 < (receives_queue old).capacity → ReceivedNone old new → ⊥
    receive_finds_none_without_a_pop same room k =
        ⊎_elim (λ found. no_more found.1.before found.1.after _ _ (sym (same_seen _ _ same) ∙ found.1.is) found.1.since)
        (⊎_elim (λ none. absurd (omega (arith, none.0, room)))
        (λ other. no_more other.2.1.before other.2.1.after _ _ (sym (same_seen _ _ same) ∙ other.2.1.is) other.2.1.since))
        k

    -- `receive_within` answers that a try found nothing, and pops nothing
    pub receive_within_does_not_try : receives_view new ≡ receives_view old → 0 < (receives_queue old).capacity → TriedToReceive 1 old new → ⊥
    receive_within_does_not_try same room ([], none, still) = absurd (omega (arith, none))
    receive_within_does_not_try same room (last ∷ [], one, each) =
        receive_finds_none_without_a_pop same room (subst (λ s. ReceivedNone s new) each.0 each.1)
    receive_within_does_not_try same room (last ∷ other ∷ more, two, each) = absurd (omega (arith, two))

    -- `give_back` answers that the queue is full, and pushes nothing
    pub give_back_asks_nobody : (slot : ℕ) → returns_view new ≡ returns_view old → length (published (returns_view new).seen) < 2 ^ 64 - 1
        → TookNoneBack slot old new
        → ⊥
    give_back_asks_nobody slot same few k =
        ⊎_elim (λ full. no_more full.1.before full.1.after _ _ (sym (same_seen _ _ same) ∙ full.1.is) full.1.since)
        (λ end. (let all = end.end in absurd (omega arith)))
        k
