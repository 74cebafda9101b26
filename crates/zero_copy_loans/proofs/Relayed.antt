-- The two ends of a channel from their opening until their passes are taken in again: all that went through is known, and it is
-- what was known before and then what they sent and received.
use Rattle.std.proofs.Common.{◌≡◌, ℕ, ◌+◌, ◌-◌, ◌^◌, ◌/◌, ◌<◌, ◌≤◌, zero, suc, take, List, [], ◌∷◌, ◌++◌, length}
use Rattle.std.proofs.Common.{map, refl, sym, ap, subst, ◌∙◌, arith, sum_by}
use Rattle.std.proofs.lemmas.List.{length-map, take-map}
use Rattle.std.proofs.lemmas.List.Elements.{All-nil, All-append}
use Rattle.std.proofs.lemmas.List.FromFn.{length-range_with_len}
use Rattle.std.proofs.lemmas.List.Sums.{sum_by-append}
use Rattle.std.specs.List.{All, range_with_len}
use mathlib.Core.List.{map-append}
use Rattle.model.specs.Coding.{one_word}
use Rattle.model.specs.declared.turn.Kind.TheVariants as kinds
use Rattle.history.specs.declared.view.View.{View}
use Rattle.history.specs.History.{IsBeginning, IsHistory}
use Rattle.history.specs.Passes.{HasSplit, HasJoined, MissesNothing}
use Rattle.history.specs.Views.{first_view}
use Rattle.history.proofs.Known.{begins_further}
use Rattle.threaded.specs.declared.share.Share.{Share}
use Rattle.threaded.specs.Shares.{half_of, both_of, IsAll}
use Rattle.lock_free_queues.specs.Queues.Merges.{Merges}
use Rattle.lock_free_queues.specs.Queues.Sums.{puts, gets}
use Rattle.lock_free_queues.proofs.Queues.Sent.{length_named}
use Rattle.zero_copy_loans.specs.Numbers.{Shape, HasPlace, HavePlaces, HasSentNumbers, HasReceivedNumbers}
use Rattle.zero_copy_loans.specs.Numbers.{SendsOn, ReceivesOn, ArePassedOn, HasAll, HavePassed, IsPassedOn}
use Rattle.zero_copy_loans.proofs.Merged.{came_of, have_passed, merges_map, merges_none}

-- nothing is sent yet
starts : (s : Shape) (capacity : ℕ) → HasAll s [] [] [] (first_view capacity)
starts s capacity =
    record {
      words = [];
      words_back = [];
      words_received = [];
      numbers = refl;
      returned = refl;
      received_these = refl;
      places = All-nil (HasPlace s);
      passed =
          record {
            whole = refl;
            all = λ whole f. refl;
            list = refl;
            pushes = refl;
            pops = refl;
            out = refl;
            passed_on = record { few = omega arith; merged = (refl, refl) };
          };
    }

pub starts_at : (s : Shape) (capacity : ℕ) (v : View ℕ) → v ≡ first_view capacity → HasAll s [] [] [] v
starts_at s capacity v is = subst (HasAll s [] [] []) (sym is) (starts s capacity)

-- the whole share, split twice and joined again, is the whole share
whole_again : (t : Share) → IsAll t → IsAll (both_of (both_of (half_of (half_of t)) (half_of t)) (half_of (half_of t)))
whole_again t is = let n = t.part in let m = t.parts in rw (sym is) (omega arith)

-- The passes of both ends are split off the channel's, send and receive, and are joined in again: `z` knows all that went through.
module _ (s : Shape) (capacity : ℕ) (sent back received numbers others came : List ℕ) (old half one kept other w r a b m z : View ℕ)
    (fits : length sent + length numbers < 2 ^ 64 - 1) (known : HasAll s sent back received old)
    (cut : HasSplit old half one) (again : HasSplit half kept other)
    (begun : HasSentNumbers s [] [] one w) (waits : HasReceivedNumbers s [] other r)
    (sends : SendsOn s numbers others w a) (receives : ReceivesOn s came r b)
    (taken_in : HasJoined kept a m) (both : HasJoined m b z) (all : MissesNothing z) (history : IsHistory one_word kinds.Overflow capacity z.seen) where
  pushed : HasSentNumbers s numbers others one a
  pushed = sends one [] [] begun

  popped : HasReceivedNumbers s came other b
  popped = receives other [] waits

  -- the pass has the whole share in the end
  whole : IsAll z.share
  whole =
      let first : a.share ≡ half_of old.share = pushed.pushed.share ∙ cut.right_share in
      let last : b.share ≡ half_of (half_of old.share) = popped.taken.share ∙ (again.right_share ∙ ap half_of cut.share) in
      let rest : kept.share ≡ half_of (half_of old.share) = again.share ∙ ap half_of cut.share in
      let is : z.share ≡ both_of (both_of kept.share a.share) b.share = both.share ∙ ap (λ (t : Share). both_of t b.share) taken_in.share in
      subst IsAll (sym is) (subst IsAll (λ i. both_of (both_of (sym rest i) (sym first i)) (sym last i)) (whole_again old.share known.passed.whole))

  kept_made : kept.made ≡ old.made
  kept_made = again.made ∙ cut.made

  all_made : z.made ≡ (old.made ++ a.made) ++ b.made
  all_made = both.made ∙ (ap (λ es. es ++ b.made) taken_in.made ∙ ap (λ es. (es ++ a.made) ++ b.made) kept_made)

  -- what it has pushed is what was pushed before and what both ends pushed
  puts_z : sum_by puts z.made ≡ sum_by puts old.made + (sum_by puts a.made + sum_by puts b.made)
  puts_z = omega (arith, ap (sum_by puts) all_made, sum_by-append puts (old.made ++ a.made) b.made, sum_by-append puts old.made a.made)

  -- what it has taken out is what was taken out before and what both ends took
  gets_z : sum_by gets z.made ≡ sum_by gets old.made + (sum_by gets a.made + sum_by gets b.made)
  gets_z = omega (arith, ap (sum_by gets) all_made, sum_by-append gets (old.made ++ a.made) b.made, sum_by-append gets old.made a.made)

  abbrev read : ℕ → ℕ
  read word = word / s.room

  -- There are as many words as numbers.
  long : length known.words + length pushed.words ≡ length sent + length numbers
  long =
      let x : length known.words ≡ length sent = sym (length_named read known.words) ∙ ap length known.numbers in
      let y : length pushed.words ≡ length numbers = sym (length_named read pushed.words) ∙ ap length pushed.numbers in
      omega arith

  since : IsBeginning a.seen z.seen
  since = begins_further _ _ _ taken_in.others both.ours

  places : HavePlaces s (known.words ++ pushed.words)
  places = All-append (HasPlace s) known.words pushed.words known.places pushed.places

  -- all words have passed, and what holds of each word that was sent holds of each that was received
  joined : ((P : ℕ → Type 0) → All P (known.words ++ pushed.words) → All P popped.words)
      × HavePassed (known.words ++ pushed.words) (known.words_back ++ pushed.words_back) (known.words_received ++ popped.words) z
  joined = (
    came_of capacity known.words known.words_back known.words_received pushed.words pushed.words_back popped.words old one other a b z
        (omega (arith, long)) known.passed (cut.right_seen) (again.right_seen ∙ cut.seen)
        (ap (sum_by puts) cut.right_made) (ap (sum_by gets) cut.right_made) (ap (sum_by puts) again.right_made)
        (ap (sum_by gets) again.right_made) pushed.pushed popped.taken since both.others puts_z gets_z whole all history,
    have_passed capacity known.words known.words_back known.words_received pushed.words pushed.words_back popped.words old one other a b z
        (omega (arith, long)) known.passed (cut.right_seen) (again.right_seen ∙ cut.seen)
        (ap (sum_by puts) cut.right_made) (ap (sum_by gets) cut.right_made) (ap (sum_by puts) again.right_made)
        (ap (sum_by gets) again.right_made) pushed.pushed popped.taken since both.others puts_z gets_z whole all history,
  )

  -- all numbers that were sent, came back and were received are known
  pub relays : HasAll s (sent ++ numbers) (back ++ others) (received ++ came) z
  relays =
      record {
        words = known.words ++ pushed.words;
        words_back = known.words_back ++ pushed.words_back;
        words_received = known.words_received ++ popped.words;
        numbers = map-append read known.words pushed.words ∙ both_lists known.numbers pushed.numbers;
        returned = map-append read known.words_back pushed.words_back ∙ both_lists known.returned pushed.returned;
        received_these =
            map-append read known.words_received popped.words
            ∙ both_lists known.received_these (popped.numbers (joined.0 (HasPlace s) places));
        places = places;
        passed = joined.1;
      }
    where
      both_lists : {xs ys us vs : List ℕ} → xs ≡ us → ys ≡ vs → xs ++ ys ≡ us ++ vs
      both_lists p q = λ i. p i ++ q i

-- what is known of all words is known of all numbers: a beginning of them was received or came back
pub passed_on : (s : Shape) (sent back received : List ℕ) (v : View ℕ) → HasAll s sent back received v → IsPassedOn sent received back
passed_on s sent back received v has_all =
    let read : ℕ → ℕ = λ word. word / s.room in
    let long : length has_all.words ≡ length sent = sym (length_named read has_all.words) ∙ ap length has_all.numbers in
    let out : length has_all.words_back ≡ length back = sym (length_named read has_all.words_back) ∙ ap length has_all.returned in
    let came : length has_all.words_received ≡ length received = sym (length_named read has_all.words_received) ∙ ap length has_all.received_these in
    let few = has_all.passed.passed_on.few in
    let n = length has_all.words_received + length has_all.words_back in
    let size : n ≡ length received + length back = omega arith in
    let list : map read (take n has_all.words) ≡ take (length received + length back) sent =
    sym (take-map read n has_all.words) ∙ (ap (take n) has_all.numbers ∙ ap (λ k. take k sent) size) in
    record {
      few = omega arith;
      merged =
          subst (λ zs. Merges received back zs) list
          (subst (λ ys. Merges received ys (map read (take n has_all.words))) has_all.returned
          (subst (λ xs. Merges xs (map read has_all.words_back) (map read (take n has_all.words))) has_all.received_these
          (merges_map read has_all.words_received has_all.words_back (take n has_all.words) has_all.passed.passed_on.merged)));
    }

-- ---- numbers that follow one another

-- the first k numbers of a range are the shorter range
take_range : (first n k : ℕ) → k ≤ n → take k (range_with_len first n) ≡ range_with_len first k
take_range first n zero le = refl
take_range first zero (suc k) le = absurd (omega arith)
take_range first (suc n) (suc k) le = ap (λ xs. first ∷ xs) (take_range (first + 1) n k (omega arith))

-- the range of a later sender's numbers, appended to that of the first, is one range
pub range_then : (first n m : ℕ) → range_with_len first n ++ range_with_len (first + n) m ≡ range_with_len first (n + m)
range_then first zero m =
    ap (λ k. range_with_len k m) (let e : first + 0 ≡ first = omega arith in e) ∙ ap (range_with_len first) (let e : m ≡ 0 + m = omega arith in e)
range_then first (suc n) m =
    let start : first + suc n ≡ (first + 1) + n = omega arith in
    let size : suc (n + m) ≡ suc n + m = omega arith in
    ap (λ xs. first ∷ xs) (ap (λ k. range_with_len (first + 1) n ++ range_with_len k m) start ∙ range_then (first + 1) n m)
    ∙ ap (range_with_len first) size

-- if nothing came back, the numbers that were received are `first`, `first + 1` and so on
pub first_received : (first n : ℕ) (received : List ℕ) → IsPassedOn (range_with_len first n) received []
    → received ≡ range_with_len first (length received)
first_received first n received is_passed_on =
    let few : length received ≤ n = omega (arith, is_passed_on.few, length-range_with_len first n) in
    merges_none received (take (length received + 0) (range_with_len first n)) is_passed_on.merged
    ∙ (ap (λ k. take k (range_with_len first n)) (let e : length received + 0 ≡ length received = omega arith in e)
    ∙ take_range first n (length received) few)

-- what was made of the received numbers, as `ArePassedOn` says it
pub are_passed_on : {A : Type 0} (f : ℕ → A) (sent : ℕ) (made : List A) (back received : List ℕ) → made ≡ map f received
    → IsPassedOn (range_with_len 0 sent) received back → ArePassedOn f sent made back
are_passed_on f sent made back received of_each passed =
    record {
      received = received;
      of_each = of_each;
      passed_on = passed;
      in_turn =
          λ none.
          (let long : length made ≡ length received = ap length of_each ∙ length-map received f in
          let all : IsPassedOn (range_with_len 0 sent) received [] = subst (IsPassedOn (range_with_len 0 sent) received) none passed in
          of_each ∙ (ap (map f) (first_received 0 sent received all) ∙ ap (λ k. map f (range_with_len 0 k)) (sym long)));
    }
