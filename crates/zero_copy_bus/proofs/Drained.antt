-- An `update` that frees a lane takes out what waits in it, by a pass that is split off the lane's own: these
-- words count as received, and nothing waits then.
use Rattle.std.proofs.Common.{◌≡◌, ℕ, ◌+◌, ◌-◌, ◌/◌, ◌^◌, ◌<◌, List, [], ◌∷◌, ◌++◌, length, sum_by, refl, sym, ap, subst, ◌∙◌, arith}
use Rattle.std.proofs.Common.{append-nil, append_assoc, length-append}
use Rattle.std.proofs.lemmas.Grind.{flat_map-append}
use Rattle.std.proofs.lemmas.List.Sums.{sum_by-append}
use Rattle.std.specs.List.{flat_map}
use Rattle.std.specs.Prelude.{Some, None}
use mathlib.Core.List.{map-append}
use Rattle.model.specs.Coding.{one_word}
use Rattle.model.specs.declared.event.Answer.TheVariants.{PoppedNone}
use Rattle.model.specs.declared.event.Event.TheVariants.{Acted}
use Rattle.model.specs.declared.event.Item.TheVariants.{Index}
use Rattle.model.specs.declared.event.Start.TheVariants.{Queues}
use Rattle.model.specs.declared.families.queues.QueueStart.TheVariants.{Pop}
use Rattle.model.specs.declared.turn.Kind.TheVariants as kinds
use Rattle.model.specs.Families.Queues.Reading.{hands_out, handed_out, publishes, published}
use Rattle.history.specs.declared.view.View.{View}
use Rattle.history.specs.History.{IsBeginning, IsHistory}
use Rattle.history.specs.Passes.{Goes, HasJoined, HasSplit, MissesNothing}
use Rattle.history.proofs.Known.{itself}
use Rattle.threaded.specs.declared.share.Share.{Share}
use Rattle.threaded.specs.Shares.{both_of, half_of, IsAll}
use Rattle.lock_free_queues.specs.Queues.Contracts.{FoundNone, HasPopped}
use Rattle.lock_free_queues.specs.Queues.Merges.{by_push, taken, HasPushedUpTo, HasTaken, StandIn}
use Rattle.lock_free_queues.specs.Queues.Sums.{gets, puts}
use Rattle.lock_free_queues.proofs.Queues.Promised.{over_sound}
use Rattle.lock_free_queues.proofs.Queues.Sent.{appended_none, length_named}
use Rattle.lock_free_queues.proofs.Queues.TakenOut.{takes_nothing, takes_one}
use Rattle.lock_free_queues.specs.Queues.Overflowing.{HasHistory}
use Rattle.lock_free_queues.specs.Queues.Rings.{QueueId}
use Rattle.zero_copy_bus.specs.declared.outlet.Outlet.{Outlet}
use Rattle.zero_copy_bus.specs.Outlets.{waits_queue, waits_view, WasDrained}
use Rattle.zero_copy_bus.specs.Words.{TakesOn}
use Rattle.zero_copy_loans.specs.Numbers.{numbers_in, HavePassed, HavePlaces, HasAll, Shape}
use Rattle.zero_copy_loans.proofs.Merged.{have_passed}

-- ---- one pop after the other

-- before the first pop no words were taken
pub takes_none_yet : (v : View ℕ) → TakesOn [] v v
takes_none_yet v t before k = subst (λ ws. HasTaken ws t v) (sym (append-nil before)) k

-- one more pop took one word more
pub takes_more : (xs : List ℕ) (x : ℕ) (v w u : View ℕ) → TakesOn xs v w → Goes w u → HasPopped (Some (Index x)) w u → TakesOn (xs ++ x ∷ []) v u
takes_more xs x v w u h goes p t before k =
    subst (λ ws. HasTaken ws t u) (append_assoc before xs (x ∷ [])) (takes_one (before ++ xs) x t w u (h t before k) goes p)

-- a pop that found nothing took no word
pub takes_end : (xs : List ℕ) (v w u : View ℕ) → TakesOn xs v w → Goes w u → HasPopped None w u → TakesOn xs v u
takes_end xs v w u h goes p t before k = takes_nothing (before ++ xs) t w u (h t before k) goes p

-- ---- one call after the other

-- a lane that was drained, and whose queue and view are unchanged since, counts as drained from before to now
pub drained_still : (old mid new : Outlet) → waits_view new ≡ waits_view mid → waits_queue new ≡ waits_queue mid → WasDrained old mid
    → WasDrained old new
drained_still old mid new same queue d =
    record {
      kept = d.kept;
      other = d.other;
      begun = d.begun;
      ended = d.ended;
      left = d.left;
      cut = d.cut;
      begins = d.begins;
      took = d.took;
      ends = d.ends;
      both = subst (λ v. HasJoined d.kept d.left v) (sym same) d.both;
      queue = queue ∙ d.queue;
      all = subst (λ (v : View ℕ). MissesNothing v) (sym same) d.all;
      history =
          subst (λ (q : QueueId). HasHistory q.capacity (waits_view new)) (sym queue)
          (subst (λ (v : View ℕ). HasHistory (waits_queue mid).capacity v) (sym same) d.history);
    }

-- ---- and all of them

-- the whole share, split and joined again, is the whole share
whole_again : (t : Share) → IsAll t → IsAll (both_of (half_of t) (half_of t))
whole_again t is = let n = t.part in let m = t.parts in rw (sym is) (omega arith)

-- a pass that does nothing has pushed nothing
idle : (v : View ℕ) → HasPushedUpTo [] [] v v
idle v =
    record {
      few = omega arith;
      share = refl;
      all =
          λ under.
          record {
            added = appended_none publishes Index v v (itself v.seen) refl (record { puts_more = omega arith; gets_more = omega arith });
            returned = λ earlier h. subst (λ zs. StandIn zs (taken by_push v.seen)) (sym (append-nil earlier)) h;
          };
    }

-- `old` is the lane's pass, from which `other` is split off. This pass takes out `words`, and is joined again (`z`).
module _ (s : Shape) (capacity : ℕ) (sent back received words : List ℕ) (old kept other b z : View ℕ) (fits : length sent < 2 ^ 64 - 1)
    (known : HasAll s sent back received old) (cut : HasSplit old kept other) (popped : HasTaken words other b) (both : HasJoined kept b z)
    (all : MissesNothing z) (history : IsHistory one_word kinds.Overflow capacity z.seen) where
  -- The pass that joined what the lane had and what came back has the whole queue.
  whole : IsAll z.share
  whole =
      let is : z.share ≡ both_of kept.share b.share = both.share in
      let last : b.share ≡ half_of old.share = popped.share ∙ cut.right_share in
      subst IsAll (sym is) (subst IsAll (λ i. both_of (sym cut.share i) (sym last i)) (whole_again old.share known.passed.whole))

  made : z.made ≡ old.made ++ b.made
  made = both.made ∙ ap (λ es. es ++ b.made) cut.made

  -- what the joined pass has pushed is what was pushed before and what the half that drained pushed
  puts_z : sum_by puts z.made ≡ sum_by puts old.made + (sum_by puts other.made + sum_by puts b.made)
  puts_z =
      let one = ap (sum_by puts) made in
      let two = sum_by-append puts old.made b.made in
      let none : sum_by puts other.made ≡ 0 = ap (sum_by puts) cut.right_made in
      omega arith

  -- what the joined pass has taken out is what was taken out before and what the half that drained took
  gets_z : sum_by gets z.made ≡ sum_by gets old.made + (sum_by gets other.made + sum_by gets b.made)
  gets_z =
      let one = ap (sum_by gets) made in
      let two = sum_by-append gets old.made b.made in
      let none : sum_by gets other.made ≡ 0 = ap (sum_by gets) cut.right_made in
      omega arith

  abbrev read : ℕ → ℕ
  read word = word / s.room

  long : length known.words ≡ length sent
  long = sym (length_named read known.words) ∙ ap length known.numbers

  since : IsBeginning other.seen z.seen
  since = subst (λ es. IsBeginning es z.seen) (cut.seen ∙ sym cut.right_seen) both.ours

  -- the words that were taken out have passed with those that had passed before
  have : HavePassed (known.words ++ []) (known.words_back ++ []) (known.words_received ++ words) z
  have =
      have_passed capacity known.words known.words_back known.words_received [] [] words old other other other b z
      (let l = long in omega arith) known.passed cut.right_seen cut.right_seen
      (ap (sum_by puts) cut.right_made) (ap (sum_by gets) cut.right_made) (ap (sum_by puts) cut.right_made) (ap (sum_by gets) cut.right_made)
      (idle other) popped since both.others puts_z gets_z whole all history

  -- the numbers that were taken out are received with those that were received before
  pub has_drained : HasAll s sent back (received ++ numbers_in s.room words) z
  has_drained =
      record {
        words = known.words ++ [];
        words_back = known.words_back ++ [];
        words_received = known.words_received ++ words;
        numbers = ap (numbers_in s.room) (append-nil known.words) ∙ known.numbers;
        returned = ap (numbers_in s.room) (append-nil known.words_back) ∙ known.returned;
        received_these = map-append read known.words_received words ∙ ap (λ ns. ns ++ numbers_in s.room words) known.received_these;
        places = subst (HavePlaces s) (sym (append-nil known.words)) known.places;
        passed = have;
      }

  -- where it was seen then that nothing waits, nothing is left
  pub none_left : FoundNone old z → length (received ++ numbers_in s.room words) + length back ≡ length sent
  unfolding has_drained
  none_left found =
      let rest = found.since in
      let empty : length (published found.before) ≡ length (handed_out found.before) =
      ap length
      ((over_sound one_word capacity z history).book found.before _ found.is
      ∙ (ap (λ xs. handed_out found.before ++ xs) found.empty ∙ append-nil (handed_out found.before))) in
      let early : length (published found.before) ≡ length (published old.seen) + length (flat_map publishes rest.rest) =
      ap length (ap published rest.is ∙ flat_map-append publishes old.seen rest.rest) ∙ length-append (published old.seen) (flat_map publishes rest.rest) in
      let known_size : length (published old.seen) ≡ length known.words = ap length known.passed.list ∙ length_named Index known.words in
      let late : length (handed_out z.seen)
      ≡ length (handed_out found.before) + length (flat_map hands_out (Acted found.by (Queues Pop) PoppedNone ∷ found.after)) =
      ap length (ap handed_out found.is ∙ flat_map-append hands_out found.before (Acted found.by (Queues Pop) PoppedNone ∷ found.after))
      ∙ length-append (handed_out found.before) (flat_map hands_out (Acted found.by (Queues Pop) PoppedNone ∷ found.after)) in
      let out = have.out in
      let few = have.passed_on.few in
      let words_are : length (known.words ++ []) ≡ length known.words = ap length (append-nil known.words) in
      let received_are : length (known.words_received ++ words) ≡ length (received ++ numbers_in s.room words) =
      sym (length_named read (known.words_received ++ words)) ∙ ap length has_drained.received_these in
      let back_are : length (known.words_back ++ []) ≡ length back = sym (length_named read (known.words_back ++ [])) ∙ ap length has_drained.returned in
      let l = long in
      omega arith
