-- What one more call of a sender or a receiver adds to the numbers that were sent and
-- received (`SendsOn`, `ReceivesOn`).
use Rattle.std.proofs.Common.{◌≡◌, ℕ, true, ◌+◌, ◌-◌, ◌/◌, ◌%◌, ◌<◌, ◌≤◌, List, [], ◌∷◌, ◌++◌, length, map, take, sym, refl, ap, subst, ◌∙◌, arith}
use Rattle.std.proofs.Common.{append-nil, append_assoc}
use Rattle.std.proofs.lemmas.List.{take_all}
use Rattle.std.proofs.lemmas.List.Elements.{All-nil, All-cons, All-head, All-tail, All-append}
use Rattle.std.proofs.lemmas.Nat.{div-mul-add, mod-mul-add}
use Rattle.std.specs.List.{All}
use Rattle.std.specs.Prelude.{Some, None}
use mathlib.Core.List.{map-append}
use Rattle.model.specs.declared.event.Item.TheVariants.{Index}
use Rattle.model.specs.Families.Queues.Reading.{published}
use Rattle.steps.specs.declared.queues.roles.Role.{Role}
use Rattle.history.specs.declared.view.View.{View}
use Rattle.lock_free_queues.specs.Queues.Merges.{HasPushedUpTo}
use Rattle.lock_free_queues.specs.Queues.Contracts.{HasAcquired, HasReleased, HasPopped}
use Rattle.history.specs.Passes.{Goes}
use Rattle.lock_free_queues.specs.Queues.Overflowing.{PushAdded, PushHandedBack}
use Rattle.lock_free_queues.proofs.Queues.TakenOut.{adds, returns_one, takes_none, takes_one, takes_nothing, takes_all, pushed_none, pushed_all}
use Rattle.zero_copy_loans.specs.Numbers.{Shape, numbers_in, HasPlace, HavePlaces, HasSentNumbers, HasReceivedNumbers, SendsOn, ReceivesOn}
use Rattle.zero_copy_loans.specs.Words.{word_of}

module _ (s : Shape) where
  -- one word more in the list is one number more
  one_more : (number place : ℕ) (words numbers : List ℕ) → place < s.room → numbers_in s.room words ≡ numbers
      → numbers_in s.room (words ++ word_of s.room number place ∷ []) ≡ numbers ++ number ∷ []
  one_more number place words numbers within is =
      map-append (λ word. word / s.room) words (word_of s.room number place ∷ [])
      ∙ (ap (λ xs. xs ++ (word_of s.room number place / s.room) ∷ []) is
      ∙ ap (λ x. numbers ++ x ∷ []) (div-mul-add number s.room place within))

  has_place : (number place : ℕ) → place < s.places → place < s.room → word_of s.room number place % s.room < s.places
  has_place number place lt within = subst (λ n. n < s.places) (sym (mod-mul-add number s.room place within)) lt

  also : (words : List ℕ) (word : ℕ) → HavePlaces s words → word % s.room < s.places → HavePlaces s (words ++ word ∷ [])
  also words word all here = All-append (HasPlace s) words (word ∷ []) all (All-cons (HasPlace s) word [] here (All-nil (HasPlace s)))

  -- a sender that has acquired its role has sent no number
  pub sent_none : (v w : View ℕ) (role : Role) → Goes v w → HasAcquired role true v w → HasSentNumbers s [] [] v w
  sent_none v w role goes acquired =
      record {
        words = [];
        words_back = [];
        numbers = refl;
        returned = refl;
        places = All-nil (HasPlace s);
        pushed = pushed_none [] role v w goes acquired;
      }

  pub received_nothing_yet : (v w : View ℕ) (role : Role) → Goes v w → HasAcquired role true v w → HasReceivedNumbers s [] v w
  received_nothing_yet v w role goes acquired = record { words = []; numbers = λ all. refl; taken = takes_none role v w goes acquired }

  -- ---- sends

  module _ (c : ℕ) (some : 0 < c) (w u : View ℕ) (goes : Goes w u) (number place : ℕ) (lt : place < s.places) (within : place < s.room) where
    -- a push that was taken sends one number, and nothing comes back
    pub sends_one : PushAdded (word_of s.room number place) w u → SendsOn s (number ∷ []) [] w u
    sends_one p v sent back h =
        record {
          words = h.words ++ word_of s.room number place ∷ [];
          words_back = h.words_back;
          numbers = one_more number place h.words sent within h.numbers;
          returned = h.returned ∙ sym (append-nil back);
          places = also h.words (word_of s.room number place) h.places (has_place number place lt within);
          pushed = adds c some h.words h.words_back (word_of s.room number place) v w u h.pushed goes p;
        }

    -- a push that handed a word back sends one number, and the number of that word comes back
    pub sends_back : (other at : ℕ) → at < s.room → PushHandedBack c (word_of s.room number place) (word_of s.room other at) w u
        → SendsOn s (number ∷ []) (other ∷ []) w u
    sends_back other at below p v sent back h =
        record {
          words = h.words ++ word_of s.room number place ∷ [];
          words_back = h.words_back ++ word_of s.room other at ∷ [];
          numbers = one_more number place h.words sent within h.numbers;
          returned = one_more other at h.words_back back below h.returned;
          places = also h.words (word_of s.room number place) h.places (has_place number place lt within);
          pushed =
              returns_one c some h.words h.words_back (word_of s.room number place) v w u h.pushed goes (word_of s.room other at) p;
        }

  -- with the same view nothing was sent
  pub sends_still : (w u : View ℕ) → u ≡ w → SendsOn s [] [] w u
  sends_still w u is v sent back h =
      subst (λ t. HasSentNumbers s (sent ++ []) (back ++ []) v t) (sym is)
      (subst (λ xs. HasSentNumbers s xs (back ++ []) v w) (sym (append-nil sent))
      (subst (λ xs. HasSentNumbers s sent xs v w) (sym (append-nil back)) h))

  -- a release of the role sends nothing
  pub sends_all : (role : Role) (w u : View ℕ) → Goes w u → HasReleased role w u → published u.seen ≡ published w.seen
      → SendsOn s [] [] w u
  sends_all role w u goes h is v sent back k =
      let all : take (length k.words) k.words ≡ k.words = take_all (length k.words) k.words (omega arith) in
      record {
        words = k.words;
        words_back = k.words_back;
        numbers = k.numbers ∙ sym (append-nil sent);
        returned = k.returned ∙ sym (append-nil back);
        places = k.places;
        pushed =
            pushed_all k.words (length k.words) k.words_back role v w u (omega arith)
            (subst (λ xs. HasPushedUpTo xs k.words_back v w) (sym all) k.pushed) goes h is;
      }

  -- Sends one after the other send the numbers of both, and take back what both took back.
  pub sends_then : (xs ys zs ws : List ℕ) (w u t : View ℕ) → SendsOn s xs ys w u → SendsOn s zs ws u t → SendsOn s (xs ++ zs) (ys ++ ws) w t
  sends_then xs ys zs ws w u t first next v sent back h =
      subst (λ ns. HasSentNumbers s ns (back ++ (ys ++ ws)) v t) (append_assoc sent xs zs)
      (subst (λ ns. HasSentNumbers s ((sent ++ xs) ++ zs) ns v t) (append_assoc back ys ws)
      (next v (sent ++ xs) (back ++ ys) (first v sent back h)))

  -- ---- receives

  -- a pop that took a word with a place receives its number
  pub receives_one : (w u : View ℕ) (number place : ℕ) → place < s.room → Goes w u
      → HasPopped (Some (Index (word_of s.room number place))) w u → ReceivesOn s (number ∷ []) w u
  receives_one w u number place within goes p v received h =
      record {
        words = h.words ++ word_of s.room number place ∷ [];
        numbers = λ all. one_more number place h.words received within (h.numbers (earlier_ones h.words _ all));
        taken = takes_one h.words (word_of s.room number place) v w u h.taken goes p;
      }
    where
      -- If all numbers of two lists have places, those of the first do.
      earlier_ones : (xs ys : List ℕ) → HavePlaces s (xs ++ ys) → HavePlaces s xs
      earlier_ones [] ys all = All-nil (HasPlace s)
      earlier_ones (x ∷ xs) ys all =
          All-cons (HasPlace s) x xs (All-head (HasPlace s) x (xs ++ ys) all) (earlier_ones xs ys (All-tail (HasPlace s) x (xs ++ ys) all))

  -- a pop that took a word without a place receives no number: it is no word that was sent
  pub receives_other : (w u : View ℕ) (word : ℕ) → s.places ≤ word % s.room → Goes w u
      → HasPopped (Some (Index word)) w u → ReceivesOn s [] w u
  receives_other w u word past goes p v received h =
      record {
        words = h.words ++ word ∷ [];
        numbers = λ all. (absurd (omega (arith, All-head (HasPlace s) word [] (later_ones h.words (word ∷ []) all))));
        taken = takes_one h.words word v w u h.taken goes p;
      }
    where
      later_ones : (xs ys : List ℕ) → HavePlaces s (xs ++ ys) → HavePlaces s ys
      later_ones [] ys all = all
      later_ones (x ∷ xs) ys all = later_ones xs ys (All-tail (HasPlace s) x (xs ++ ys) all)

  -- a pop that found nothing receives no number
  pub receives_nothing : (w u : View ℕ) → Goes w u → HasPopped None w u → ReceivesOn s [] w u
  receives_nothing w u goes p v received h =
      record {
        words = h.words;
        numbers = λ all. h.numbers all ∙ sym (append-nil received);
        taken = takes_nothing h.words v w u h.taken goes p;
      }

  -- From a view to the same view nothing was received.
  pub receives_still : (w u : View ℕ) → u ≡ w → ReceivesOn s [] w u
  receives_still w u is v received h =
      subst (λ t. HasReceivedNumbers s (received ++ []) v t) (sym is)
      (subst (λ xs. HasReceivedNumbers s xs v w) (sym (append-nil received)) h)

  -- a receiver that gives its role back receives nothing by that
  pub receives_all : (role : Role) (w u : View ℕ) → Goes w u → HasReleased role w u → ReceivesOn s [] w u
  receives_all role w u goes h v received k =
      record {
        words = k.words;
        numbers = λ all. k.numbers all ∙ sym (append-nil received);
        taken = takes_all k.words role v w u k.taken goes h;
      }

  pub receives_then : (xs ys : List ℕ) (w u t : View ℕ) → ReceivesOn s xs w u → ReceivesOn s ys u t → ReceivesOn s (xs ++ ys) w t
  receives_then xs ys w u t first next v received h =
      subst (λ ns. HasReceivedNumbers s ns v t) (append_assoc received xs ys) (next v (received ++ xs) (first v received h))
