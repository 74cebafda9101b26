-- The theorem of the bit set's page: what each stage does at a place.
use Rattle.std.specs.List.{count_by}
use Rattle.std.proofs.Common.{◌/◌, ◌%◌, ◌^◌, ◌-◌, ◌+◌, ◌<◌, ◌==◌, ◌≡◌, ◌≢◌, ◌≤◌, ◌++◌, ◌∙◌, Bool, List, None, Option, Some}
use Rattle.std.proofs.Common.{ap, arith, cond, false, fold, length, length-set, nat_lt, refl}
use Rattle.std.proofs.Common.{replicate, slice_index, slice_set, subst, suc, sym, true, zero, ℕ, ⊎_elim}
use Rattle.std.proofs.lemmas.Bool.{cases_eq}
use Rattle.std.proofs.lemmas.Bool.Decides.{nat_tests}
use Rattle.std.proofs.lemmas.List.{length-replicate, set-get_or}
use Rattle.std.proofs.lemmas.List.Sums.{sum_by-append}
use Rattle.steps.proofs.Flags.Places.{place_named, place_not_named}
use Rattle.steps.proofs.Flags.Words.{cleared_clear, cleared_leaves, none_stands, set_leaves, set_stands, stands_elsewhere, swapped_clear}
use Rattle.steps.specs.Bits.Places.{places_in}
use Rattle.steps.specs.Bits.Words.{stands, with_flag, without_flag}
use Rattle.pages.specs.BitSet as page
use Rattle.pages.specs.Machine.{After, GoOn, Done, Turn, opening, turned}
use Rattle.pages.specs.Places.{Act, ActsAt}
use Rattle.pages.proofs.Places.{Moves, Stays, Acts, Forgets, Begins, Goes, Law, words_then}
use Rattle.pages.proofs.Places as places
use Rattle.pages.proofs.Turns.{either_so}

-- the call that a stage belongs to
abbrev pub call_at : page.Stage → page.Call
call_at (page.SetLoadsElement place) = page.Set place
call_at (page.SetExchangesElement place element) = page.Set place
call_at page.NextLoadsPosition = page.ResetNext
call_at (page.NextLoadsElement start passed) = page.ResetNext
call_at (page.NextExchangesElement start passed element) = page.ResetNext
call_at (page.NextStoresPosition place) = page.ResetNext
call_at (page.AllSwapsElement word places) = page.ResetAll

-- the same number is read everywhere
pub zeros : (n i : ℕ) → slice_index (replicate n 0) i ≡ 0
zeros zero i = refl
zeros (suc n) zero = refl
zeros (suc n) (suc i) = zeros n i

module _ (c b : ℕ) (below : b < c) where
  abbrev at : page.Call → page.Answer → Option Act
  at call answer = page.at b call answer

  abbrev value : List ℕ → ℕ
  value words = page.now words b

  -- the bit as a number
  abbrev act : ℕ → ℕ → Act
  act found left = record { found = found; left = left }

  -- how many places come before this one from the start
  abbrev offset : ℕ → ℕ
  offset start = cond (nat_lt b start) (b + c - start) (b - start)

  abbrev passed_by : ℕ → ℕ → Option Act
  passed_by start passed = cond (nat_lt (offset start) passed) (Some (act 0 0)) None

  abbrev taken : ℕ → Option Act
  taken place = cond (place == b) (Some (act 1 0)) None

  abbrev count : List ℕ → ℕ
  count places = count_by (λ place. place == b) places

  -- what a step at each stage does for the place `b`, where it acts at all
  abbrev did : page.Stage → Option Act
  did (page.SetLoadsElement place) = None
  did (page.SetExchangesElement place element) = None
  did page.NextLoadsPosition = None
  did (page.NextLoadsElement start passed) = passed_by start passed
  did (page.NextExchangesElement start passed element) = passed_by start passed
  did (page.NextStoresPosition place) = taken place
  did (page.AllSwapsElement word places) = cond (nat_lt (1 + b / 64) word) (Some (act (count places) 0)) None

  -- what holds of the places and words of a stage while its call stands at it
  abbrev Fits : page.Stage → Type 0
  Fits (page.SetLoadsElement place) = place < c
  Fits (page.SetExchangesElement place element) = (place < c) × (page.stands element place ≡ false)
  Fits page.NextLoadsPosition = Unit {0}
  Fits (page.NextLoadsElement start passed) = (passed < c) × (start ≤ c)
  Fits (page.NextExchangesElement start passed element) =
      (passed < c) × ((start ≤ c) × (page.stands element (page.place_after c start passed) ≡ true))
  Fits (page.NextStoresPosition place) = Unit {0}
  Fits (page.AllSwapsElement word places) =
      (1 ≤ word) × ((word < 1 + (c + 63) / 64) × (word ≤ 1 + b / 64 → count places ≡ 0))

  -- The words are the position and as many elements as the places need.
  abbrev Good : List ℕ → Type 0
  Good words = length words ≡ 1 + (c + 63) / 64

  -- What a step from `stage` came to (`a`) is right for place `b`, whose bit goes from `v` to `w`.
  abbrev GoesThen : page.Stage → After page.Stage page.Answer → ℕ → ℕ → Type 0
  GoesThen stage a v w = Goes (page.bit_set c) at call_at did Fits stage a v w

  -- A step from this stage keeps the number of words, and is right for place `b`.
  abbrev Step : List ℕ → page.Stage → Type 0
  Step words stage =
      Good (words_then (page.bit_set c) at words stage)
      × GoesThen stage ((page.does c stage).2 (slice_index words (page.does c stage).0)) (value words) (value (words_then (page.bit_set c) at words stage))

  -- ---- places

  place_is : (start passed : ℕ) → start ≤ c → passed < c → offset start ≡ passed → page.place_after c start passed ≡ b
  place_is start passed le lt is = grind (arith, nat_tests)

  place_is_not : (start passed : ℕ) → start ≤ c → passed < c → offset start ≢ passed → page.place_after c start passed ≢ b
  place_is_not start passed le lt ne = grind (arith, nat_tests)

  place_within : (start passed : ℕ) → start ≤ c → passed < c → page.place_after c start passed < c
  place_within start passed le lt = grind (arith, nat_tests)

  offset_within : (start : ℕ) → start ≤ c → offset start < c
  offset_within start le = grind (arith, nat_tests)

  near : (words : List ℕ) (place : ℕ) → Good words → place < c → 1 + place / 64 < length words
  near words place good lt = omega arith

  -- ---- tests

  -- a set of the place that finds its bit
  set_tests_shows : (place old v : ℕ) (stage : page.Stage) → place < c → call_at stage ≡ page.Set place → did stage ≡ None
      → (place ≡ b → v ≡ page.bit (page.stands old b)) → GoesThen stage (page.set_tests place old) v v
  set_tests_shows place old v stage lt is none sees =
      either_so (λ a. GoesThen stage a v v) (page.stands old place) _ _ (λ stood. rw (is, none) (found stood (place == b) refl))
      (λ clear. record { call = sym is; fits = (lt, clear); moves = Stays (sym none) refl })
    where
      -- a set that finds its bit standing has found 1 and left 1, if the bit is the place's
      found : page.stands old place ≡ true → (t : Bool) → (place == b) ≡ t
          → Moves at (page.Set place) None (cond t (Some (act 1 1)) None) v v
      found stood true t =
          let same : place ≡ b = grind (arith, nat_tests) in
          let one : page.bit (page.stands old b) ≡ 1 = ap page.bit (subst (λ place. page.stands old place ≡ true) same stood) in
          Acts refl (act 1 1) refl (sym (sees same ∙ one)) (sym (sees same ∙ one)) (page.WasSet false, (rw t refl))
      found stood false t = Stays refl refl

  -- ---- a set

  load_leaves : (words : List ℕ) (word : ℕ) → slice_set words word (slice_index words word) ≡ words
  load_leaves words word = set-get_or words word 0

  -- a step that leaves the words
  leaves : (words : List ℕ) (stage : page.Stage) (a : After page.Stage page.Answer) → words_then (page.bit_set c) at words stage ≡ words
      → Good words → GoesThen stage a (value words) (value words)
      → Good (words_then (page.bit_set c) at words stage) × GoesThen stage a (value words) (value (words_then (page.bit_set c) at words stage))
  leaves words stage a same good goes = (subst Good (sym same) good, subst (λ ws. GoesThen stage a (value words) (value ws)) (sym same) goes)

  -- what stands at the place is what a call finds of it in the place's element
  sees_there : (words : List ℕ) (place : ℕ) → place ≡ b → value words ≡ page.bit (page.stands (slice_index words (1 + place / 64)) b)
  sees_there words place same = ap (λ n. page.bit (page.stands (slice_index words (1 + n / 64)) b)) (sym same)

  -- a set that loads its element has done nothing, or has found its bit standing
  set_loads : (words : List ℕ) (place : ℕ) → Good words → place < c → Step words (page.SetLoadsElement place)
  set_loads words place good lt =
      let old = slice_index words (1 + place / 64) in
      leaves words (page.SetLoadsElement place) (page.set_tests place old) (load_leaves words (1 + place / 64)) good
      (set_tests_shows place old (value words) (page.SetLoadsElement place) lt refl refl (sees_there words place))

  -- the words after an exchange that found the element, or not
  abbrev exchanged : List ℕ → ℕ → ℕ → Bool → List ℕ
  exchanged words word new found = slice_set words word (cond found new (slice_index words word))

  exchange_fails : (words : List ℕ) (word new : ℕ) → exchanged words word new false ≡ words
  exchange_fails words word new = load_leaves words word

  same_length : (words : List ℕ) (word new : ℕ) → Good words → Good (slice_set words word new)
  same_length words word new good = length-set words word new ∙ good

  -- an exchange keeps the number of words, and what `GoesThen` says holds after it, if it does where the exchange finds the element as
  -- it had been loaded, and where it does not
  exchanges : (words : List ℕ) (stage : page.Stage) (word new : ℕ) {element : ℕ} (done other : After page.Stage page.Answer) → Good words
      → (slice_index words word ≡ element → GoesThen stage done (value words) (value (slice_set words word new)))
      → GoesThen stage other (value words) (value words)
      → Good (exchanged words word new (slice_index words word == element))
      × GoesThen stage (cond (slice_index words word == element) done other) (value words)
      (value (exchanged words word new (slice_index words word == element)))
  exchanges words stage word new {element} done other good found missed = go (slice_index words word == element) refl
    where
      go : (t : Bool) → (slice_index words word == element) ≡ t
          → Good (exchanged words word new t) × GoesThen stage (cond t done other) (value words) (value (exchanged words word new t))
      go true t = (same_length words word new good, found (grind (arith, nat_tests)))
      go false t =
          let same = exchange_fails words word new in
          (subst Good (sym same) good, subst (λ ws. GoesThen stage other (value words) (value ws)) (sym same) missed)

  -- a set that puts its bit in has found 0 and left 1, if the bit is the place's, and has done nothing at another place
  set_done : (words : List ℕ) (place element : ℕ) → Good words → place < c → page.stands element place ≡ false
      → slice_index words (1 + place / 64) ≡ element
      → Moves at (page.Set place) None (cond (place == b) (Some (act 0 1)) None) (value words)
      (value (slice_set words (1 + place / 64) (with_flag element place)))
  set_done words place element good lt clear is = go (place == b) refl
    where
      -- the cases are whether the bit is the place's
      go : (t : Bool) → (place == b) ≡ t
          → Moves at (page.Set place) None (cond t (Some (act 0 1)) None) (value words) (value (slice_set words (1 + place / 64) (with_flag element place)))
      go true t =
          let same : place ≡ b = grind (arith, nat_tests) in
          let was : value words ≡ 0 =
          ap (λ n. page.bit (stands words n)) (sym same) ∙ (ap (λ e. page.bit (page.stands e place)) is ∙ ap page.bit clear) in
          let will : value (slice_set words (1 + place / 64) (with_flag element place)) ≡ 1 =
          ap (λ n. page.bit (stands (slice_set words (1 + place / 64) (with_flag element place)) n)) (sym same)
          ∙ ap page.bit (subst (λ e. stands (slice_set words (1 + place / 64) (with_flag e place)) place ≡ true) is
          (set_stands words place (near words place good lt))) in
          Acts refl (act 0 1) refl (sym was) (sym will) (page.WasSet true, rw t refl)
      go false t =
          let other : place ≢ b = grind (arith, nat_tests) in
          Stays refl
          (ap page.bit (subst (λ e. stands (slice_set words (1 + place / 64) (with_flag e place)) b ≡ stands words b) is
          (set_leaves words place b (near words place good lt) other)))

  -- a set that exchanges its element has put its bit in, has found it standing, or tries again
  set_exchanges : (words : List ℕ) (place element : ℕ) → Good words → place < c → page.stands element place ≡ false
      → Step words (page.SetExchangesElement place element)
  set_exchanges words place element good lt clear =
      let old = slice_index words (1 + place / 64) in
      exchanges words (page.SetExchangesElement place element) (1 + place / 64) (with_flag element place) (Done (page.WasSet true))
      (page.set_tests place old) good (set_done words place element good lt clear)
      (set_tests_shows place old (value words) (page.SetExchangesElement place element) lt refl refl (sees_there words place))

  -- ---- a reset of the next one

  -- a place that is found clear
  passes : (start passed v : ℕ) → start ≤ c → passed < c → (page.place_after c start passed ≡ b → v ≡ 0)
      → Moves at page.ResetNext (passed_by start passed) (passed_by start (passed + 1)) v v
  passes start passed v le lt clear = ⊎_elim here elsewhere (cases_eq (offset start) passed)
    where
      -- a search that passes the place where it is clear has found 0 there, and left 0
      here : offset start ≡ passed → Moves at page.ResetNext (passed_by start passed) (passed_by start (passed + 1)) v v
      here is =
          let not_below : nat_lt (offset start) passed ≡ false = grind (arith, nat_tests) in
          let yes : nat_lt (offset start) (passed + 1) ≡ true = grind (arith, nat_tests) in
          let none = clear (place_is start passed le lt is) in
          rw (not_below, yes) (Acts refl (act 0 0) refl (sym none) (sym none) (page.WasReset None, refl))

      elsewhere : offset start ≢ passed → Moves at page.ResetNext (passed_by start passed) (passed_by start (passed + 1)) v v
      elsewhere ne =
          let same : nat_lt (offset start) (passed + 1) ≡ nat_lt (offset start) passed = grind (arith, nat_tests) in
          rw same (Stays refl refl)

  -- a search that looks at a place has passed it, or goes to exchange its element
  next_tests_shows : (start passed old : ℕ) {v : ℕ} (stage : page.Stage) → start ≤ c → passed < c
      → call_at stage ≡ page.ResetNext → did stage ≡ passed_by start passed → (page.place_after c start passed ≡ b → v ≡ page.bit (page.stands old b))
      → GoesThen stage (page.next_tests c start passed old) v v
  next_tests_shows start passed old {v} stage le lt is had sees =
      either_so (λ a. GoesThen stage a v v) (page.stands old (page.place_after c start passed)) _ _
      (λ stood. record { call = sym is; fits = (lt, (le, stood)); moves = Stays (sym had) refl })
      (λ clear. then clear (nat_lt (passed + 1) c) refl)
    where
      -- Past the last place the search has passed `b` too.
      all_passed : passed + 1 ≡ c → passed_by start (passed + 1) ≡ Some (act 0 0)
      all_passed all =
          let within = offset_within start le in
          let yes : nat_lt (offset start) (passed + 1) ≡ true = grind (arith, nat_tests) in
          rw yes refl

      moves : page.stands old (page.place_after c start passed) ≡ false → Moves at page.ResetNext (passed_by start passed) (passed_by start (passed + 1)) v v
      moves clear =
          passes start passed v le lt
          (λ same. sees same ∙ ap page.bit (subst (λ n. page.stands old n ≡ false) same clear))

      -- where it has passed the place it looks at the next one, or has found none
      then : page.stands old (page.place_after c start passed) ≡ false → (t : Bool) → nat_lt (passed + 1) c ≡ t
          → GoesThen stage (cond t (GoOn (page.NextLoadsElement start (passed + 1))) (Done (page.WasReset None))) v v
      then clear true t =
          let more : passed + 1 < c = grind (arith, nat_tests) in
          record { call = sym is; fits = (more, le); moves = rw (is, had) (moves clear) }
      then clear false t =
          let all : passed + 1 ≡ c = grind (arith, nat_tests) in
          rw (is, had) (subst (λ d. Moves at page.ResetNext (passed_by start passed) d v v) (all_passed all) (moves clear))

  -- a search that begins has passed no place
  next_starts : (words : List ℕ) → Good words → Step words page.NextLoadsPosition
  next_starts words good =
      let old = slice_index words 0 in
      let start = cond (nat_lt c old) c old in
      let some : nat_lt 0 c ≡ true = grind (arith, nat_tests) in
      let le : start ≤ c = at_most old in
      leaves words page.NextLoadsPosition (page.next_comes_to c start 0) (load_leaves words 0) good
      (rw some (record { call = refl; fits = ((omega arith), le); moves = Stays (none_yet start) refl }))
    where
      at_most : (old : ℕ) → cond (nat_lt c old) c old ≤ c
      at_most old = grind (arith, nat_tests)

      none_yet : (start : ℕ) → passed_by start 0 ≡ None
      none_yet start = let not_below : nat_lt (offset start) 0 ≡ false = grind (arith, nat_tests) in rw not_below refl

  -- a search that loads an element has passed the place, or goes to exchange it
  next_loads : (words : List ℕ) (start passed : ℕ) → Good words → start ≤ c → passed < c → Step words (page.NextLoadsElement start passed)
  next_loads words start passed good le lt =
      let place = page.place_after c start passed in
      let old = slice_index words (1 + place / 64) in
      leaves words (page.NextLoadsElement start passed) (page.next_tests c start passed old) (load_leaves words (1 + place / 64)) good
      (next_tests_shows start passed old (page.NextLoadsElement start passed) le lt refl refl (sees_there words place))

  -- a search that takes a bit out has found 1 and left 0, if the bit is the place's; else that it has passed the place does not count
  next_done : (words : List ℕ) (start passed element : ℕ) → Good words → start ≤ c → passed < c
      → page.stands element (page.place_after c start passed) ≡ true → slice_index words (1 + page.place_after c start passed / 64) ≡ element
      → Moves at page.ResetNext (passed_by start passed) (taken (page.place_after c start passed)) (value words)
      (value (slice_set words (1 + page.place_after c start passed / 64) (without_flag element (page.place_after c start passed))))
  next_done words start passed element good le lt stood is = ⊎_elim here elsewhere (cases_eq (offset start) passed)
    where
      place : ℕ
      place = page.place_after c start passed

      then : List ℕ
      then =
          slice_set words (1 + page.place_after c start passed / 64) (without_flag element (page.place_after c start passed))

      -- a search that takes out the place's bit has found 1 and left 0
      here : offset start ≡ passed
          → Moves at page.ResetNext (passed_by start passed) (taken (page.place_after c start passed)) (value words)
          (value (slice_set words (1 + page.place_after c start passed / 64) (without_flag element (page.place_after c start passed))))
      here at_it =
          let place = page.place_after c start passed in
          let same = place_is start passed le lt at_it in
          let not_below : nat_lt (offset start) passed ≡ false = grind (arith, nat_tests) in
          let yes : (page.place_after c start passed == b) ≡ true = grind (arith, nat_tests) in
          let was : value words ≡ 1 =
          ap (λ n. page.bit (stands words n)) (sym same) ∙ (ap (λ e. page.bit (page.stands e place)) is ∙ ap page.bit stood) in
          let will : value (slice_set words (1 + place / 64) (without_flag element place)) ≡ 0 =
          ap (λ n. page.bit (stands (slice_set words (1 + place / 64) (without_flag element place)) n)) (sym same)
          ∙ ap page.bit (subst (λ e. stands (slice_set words (1 + place / 64) (without_flag e place)) place ≡ false) is
          (cleared_clear words place (near words place good (place_within start passed le lt)))) in
          let none : passed_by start passed ≡ None = rw not_below refl in
          let some : taken place ≡ Some (act 1 0) = rw yes refl in
          let possible : page.at b page.ResetNext (page.WasReset (Some place)) ≡ Some (act 1 0) = rw yes refl in
          Acts none (act 1 0) some (sym was) (sym will) (page.WasReset (Some place), possible)

      -- where the bit is another's, that it has passed the place does not count
      elsewhere : offset start ≢ passed
          → Moves at page.ResetNext (passed_by start passed) (taken (page.place_after c start passed)) (value words)
          (value (slice_set words (1 + page.place_after c start passed / 64) (without_flag element (page.place_after c start passed))))
      elsewhere ne =
          let place = page.place_after c start passed in
          let other = place_is_not start passed le lt ne in
          let is_other : (page.place_after c start passed == b) ≡ false = grind (arith, nat_tests) in
          let stays = ap page.bit (subst (λ e. stands (slice_set words (1 + place / 64) (without_flag e place)) b ≡ stands words b) is
          (cleared_leaves words place b (near words place good (place_within start passed le lt)) other)) in
          let none : taken place ≡ None = rw is_other refl in
          go (nat_lt (offset start) passed) refl none stays
        where
          go : {w : ℕ} (t : Bool) → nat_lt (offset start) passed ≡ t → taken (page.place_after c start passed) ≡ None → w ≡ value words
              → Moves at page.ResetNext (passed_by start passed) (taken (page.place_after c start passed)) (value words) w
          go true t none stays = Forgets (act 0 0) (rw t refl) refl none stays
          go false t none stays = Stays (none ∙ sym (rw t refl)) stays

  -- a search that exchanges an element has taken its bit out, has passed the place, or tries again
  next_exchanges : (words : List ℕ) (start passed element : ℕ) → Good words → start ≤ c → passed < c
      → page.stands element (page.place_after c start passed) ≡ true → Step words (page.NextExchangesElement start passed element)
  next_exchanges words start passed element good le lt stood =
      let place = page.place_after c start passed in
      let old = slice_index words (1 + place / 64) in
      exchanges words (page.NextExchangesElement start passed element) (1 + place / 64) (without_flag element place)
      (GoOn (page.NextStoresPosition place)) (page.next_tests c start passed old) good
      (λ same. record { call = refl; fits = tt; moves = next_done words start passed element good le lt stood same })
      (next_tests_shows start passed old (page.NextExchangesElement start passed element) le lt refl refl (sees_there words place))

  other_word : (words : List ℕ) (word new : ℕ) → word ≢ 1 + b / 64 → value (slice_set words word new) ≡ value words
  other_word words word new ne = ap page.bit (stands_elsewhere words word new b ne)

  next_stores : (words : List ℕ) (place : ℕ) → Good words → Step words (page.NextStoresPosition place)
  next_stores words place good =
      (same_length words 0 ((place + 1) % 2 ^ 64) good, Stays refl (other_word words 0 ((place + 1) % 2 ^ 64) (λ e. absurd (omega arith))))

  -- ---- a reset of all

  -- a reset of all that swaps an element has taken out what stood at the place, if it is in that element
  all_swaps : (words : List ℕ) (word : ℕ) (places : List ℕ) → Good words → 1 ≤ word → word < 1 + (c + 63) / 64
      → (word ≤ 1 + b / 64 → count places ≡ 0) → Step words (page.AllSwapsElement word places)
  all_swaps words word places good some within none =
      (same_length words word 0 good, goes (nat_lt (word + 1) (1 + (c + 63) / 64)) refl)
    where
      -- what it has handed out of the place then is what it found there
      moves : Moves at page.ResetAll (cond (nat_lt (1 + b / 64) word) (Some (act (count places) 0)) None)
          (cond (nat_lt (1 + b / 64) (word + 1)) (Some (act (count (places ++ places_in word (slice_index words word))) 0)) None)
          (value words) (value (slice_set words word 0))
      moves = ⊎_elim here elsewhere (cases_eq (1 + b / 64) word)
        where
          -- a reset of all that swaps the element with the place
          here : 1 + b / 64 ≡ word → Moves at page.ResetAll (cond (nat_lt (1 + b / 64) word) (Some (act (count places) 0)) None)
              (cond (nat_lt (1 + b / 64) (word + 1)) (Some (act (count (places ++ places_in word (slice_index words word))) 0)) None)
              (value words) (value (slice_set words word 0))
          here same =
              let not_below : nat_lt (1 + b / 64) word ≡ false = grind (arith, nat_tests) in
              let yes : nat_lt (1 + b / 64) (word + 1) ≡ true = grind (arith, nat_tests) in
              let all = place_named word (slice_index words word) b same in
              let before = none (omega arith) in
              let sums = sum_by-append (λ place. cond (place == b) 1 0) places (places_in word (slice_index words word)) in
              let was : value words ≡ page.bit (page.stands (slice_index words word) b) = ap (λ n. page.bit (page.stands (slice_index words n) b)) same in
              let cleared : value (slice_set words word 0) ≡ 0 = ap page.bit (swapped_clear words word b (sym same) (omega arith)) in
              rw (not_below, yes) (Acts refl (act (count (places ++ places_in word (slice_index words word))) 0) refl (omega arith) (sym cleared)
              (page.WereReset (places ++ places_in word (slice_index words word)), refl))

          -- it has done nothing more where it swaps another
          elsewhere : 1 + b / 64 ≢ word → Moves at page.ResetAll (cond (nat_lt (1 + b / 64) word) (Some (act (count places) 0)) None)
              (cond (nat_lt (1 + b / 64) (word + 1)) (Some (act (count (places ++ places_in word (slice_index words word))) 0)) None)
              (value words) (value (slice_set words word 0))
          elsewhere ne =
              let same : nat_lt (1 + b / 64) (word + 1) ≡ nat_lt (1 + b / 64) word = grind (arith, nat_tests) in
              let no_more = place_not_named word (slice_index words word) some b ne in
              let sums = sum_by-append (λ place. cond (place == b) 1 0) places (places_in word (slice_index words word)) in
              let counts : count (places ++ places_in word (slice_index words word)) ≡ count places = omega arith in
              rw (same, counts) (Stays refl (other_word words word 0 (λ e. ne (sym e))))

      -- before the element of the place it has handed out nothing of the place
      none_then : word + 1 ≤ 1 + b / 64 → count (places ++ places_in word (slice_index words word)) ≡ 0
      none_then le =
          let no_more = place_not_named word (slice_index words word) some b (λ e. absurd (omega arith)) in
          let sums = sum_by-append (λ place. cond (place == b) 1 0) places (places_in word (slice_index words word)) in
          let before = none (omega arith) in
          omega arith

      -- it goes on to the next element, or it has swapped them all
      goes : (t : Bool) → nat_lt (word + 1) (1 + (c + 63) / 64) ≡ t
          → GoesThen (page.AllSwapsElement word places)
          (cond t (GoOn (page.AllSwapsElement (word + 1) (places ++ places_in word (slice_index words word))))
          (Done (page.WereReset (places ++ places_in word (slice_index words word))))) (value words) (value (slice_set words word 0))
      goes true t =
          let next : word + 1 < 1 + (c + 63) / 64 = grind (arith, nat_tests) in
          record { call = refl; fits = ((omega arith), (next, none_then)); moves = moves }
      goes false t =
          let last : 1 + (c + 63) / 64 ≤ word + 1 = grind (arith, nat_tests) in
          let yes : nat_lt (1 + b / 64) (word + 1) ≡ true = reached (omega arith) in
          subst (λ d. Moves at page.ResetAll (cond (nat_lt (1 + b / 64) word) (Some (act (count places) 0)) None) d
          (value words) (value (slice_set words word 0)))
          (ap (λ t. cond t (Some (act (count (places ++ places_in word (slice_index words word))) 0)) None) yes) moves
        where
          reached : 1 + b / 64 < word + 1 → nat_lt (1 + b / 64) (word + 1) ≡ true
          reached lt = grind (arith, nat_tests)

  -- ---- the law

  -- what the bit set's page owes at a place
  law : Law (page.bit_set c) at
  law =
      record {
        call_at = call_at;
        did = did;
        value = value;
        Fits = Fits;
        Few = λ n. Unit {0};
        Good = λ n words. Good words;
        waits = λ n words good. good;
        opens = (length-replicate (1 + (c + 63) / 64) 0, nothing_stands);
        begins = begins;
        steps = λ n words stage few. steps words stage;
      }
    where
      nothing_stands : value (replicate (1 + (c + 63) / 64) 0) ≡ 0
      nothing_stands = ap (λ e. page.bit (page.stands e b)) (zeros (1 + (c + 63) / 64) (1 + b / 64)) ∙ ap page.bit (none_stands b)

      -- each call that may begin begins with a stage at which it has done nothing
      begins : (p : ℕ) (call : page.Call) → page.may c p call ≡ true → Begins (page.bit_set c) at call_at did Fits call
      begins p (page.Set place) may = record { is = refl; nothing = refl; fits = grind (arith, nat_tests) }
      begins p page.ResetNext may = record { is = refl; nothing = refl; fits = tt }
      begins p page.ResetAll may =
          let not_below : nat_lt (1 + b / 64) 1 ≡ false = grind (arith, nat_tests) in
          record { is = refl; nothing = rw not_below refl; fits = ((omega arith), ((omega arith), λ le. refl)) }

      -- each stage does one thing at the place
      steps : (words : List ℕ) (stage : page.Stage) → Good words → Fits stage → Step words stage
      steps words (page.SetLoadsElement place) good fits = set_loads words place good fits
      steps words (page.SetExchangesElement place element) good fits = set_exchanges words place element good fits.0 fits.1
      steps words page.NextLoadsPosition good fits = next_starts words good
      steps words (page.NextLoadsElement start passed) good fits = next_loads words start passed good fits.1 fits.0
      steps words (page.NextExchangesElement start passed element) good fits =
          next_exchanges words start passed element good fits.1.0 fits.0 fits.1.1
      steps words (page.NextStoresPosition place) good fits = next_stores words place good
      steps words (page.AllSwapsElement word places) good fits = all_swaps words word places good fits.0 fits.1.0 fits.1.1

  pub acts_at_a_place : (turns : List (Turn page.Call))
      → ActsAt at (fold (turned (page.bit_set c)) (opening (page.bit_set c)) turns).history
      (page.now (fold (turned (page.bit_set c)) (opening (page.bit_set c)) turns).words b)
  unfolding law
  acts_at_a_place turns = places.acts (page.bit_set c) at law turns (λ k lt. tt)
