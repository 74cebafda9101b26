-- Copies of elements: while the number of an element is still the one that was loaded, the words read
-- so far are those that stand there; and where the number is there once all words are read, the copy
-- is the value that stands.
use Rattle.laws_container.proofs.Names.{◌≡◌, ℕ, ◌+◌, ◌%◌, ◌<◌, ◌≤◌, if◌then◌else◌, nat_lt, false, Option, Some, None}
use Rattle.laws_container.proofs.Names.{List, length, take, set, replicate, sym, ap, ◌∙◌, arith, get_or-set_same}
use Rattle.laws_container.proofs.Names.{get_or-set_other, get_or-take, length-take-le, ext_get_or, nat_tests}
use Rattle.laws_container.proofs.Names.{length-set, value_in, Coding, IsCoding, contents_of}
use Rattle.laws_container.proofs.Contents.{IsWhole, WordsShow}
use Rattle.laws_container.proofs.Knows.{View, now, HasCome, Copying}
use Rattle.laws_container.proofs.Terms.{Keeps}
use Rattle.laws_container.proofs.Turns.{WellFormed, count_in, datum_in}

-- what a party that copies sees is `v`; values have this coding, and the capacity is `c`
module _ {T : Type 0} (code : Coding T) (c : ℕ) where
  -- ---- its first word is to be read

  -- a copy of which no word is read, under an odd number that was loaded
  pub copying_first : {v : View T} {index count : ℕ} {copy : List ℕ} → index < c → length copy ≡ 128 → count % 2 ≡ 1
      → HasCome code c index count v → Copying code c index count copy 0 v
  copying_first = grind arith

  -- ---- a word is read, by a step that leaves the words

  -- after a step that leaves the words, a copy into which the next word was read has one word more
  pub copying_more : {v v' : View T} {index count : ℕ} {copy : List ℕ} {at : ℕ} → at < code.size → code.size ≤ 128
      → v'.words ≡ v.words → (Keeps v'.terms → Keeps v.terms) → (WellFormed (now v') → WellFormed (now v))
      → Copying code c index count copy at v
      → Copying code c index count (set copy at (datum_in code c (now v) index at)) (at + 1) v'
  copying_more {v} {v'} {index} {copy = copy} {at = at} ats few same kept well_formed copying =
      record {
        within = copying.within;
        few = omega arith;
        room = length-set copy at _ ∙ copying.room;
        odd = copying.odd;
        below = λ keeps. omega (arith, copying.below (kept keeps), count_same);
        same = λ holds is j js.
            let here = get_or-set_same copy at (datum_in code c (now v) index at) 0 (let room = copying.room in omega arith) in
            let there = get_or-set_other copy at j (datum_in code c (now v) index at) 0 in
            let counts = count_same in
            let datum = datum_same j in
            let was = copying.same (well_formed holds) in
            grind arith;
      }
    where
      -- the number is the same after the step
      count_same : count_in code c (now v') index ≡ count_in code c (now v) index
      count_same = ap (λ w. count_in code c (record { terms = v.terms; words = w; latest = v.latest; events = v.events }) index) same

      -- the data words are the same after the step
      datum_same : (j : ℕ) → datum_in code c (now v') index j ≡ datum_in code c (now v) index j
      datum_same j = ap (λ w. datum_in code c (record { terms = v.terms; words = w; latest = v.latest; events = v.events }) index j) same

  -- ---- all its words are read, and the number is there still

  -- a copy that is whole, and whose number is there still, is the value that stands
  pub copied_value : {v : View T} {index count : ℕ} {copy : List ℕ} → IsCoding code
      → (WellFormed (now v) → IsWhole code c v.words v.events) → Copying code c index count copy code.size v
      → count_in code c (now v) index ≡ count → WellFormed (now v)
      → contents_of index v.events ≡ Some (value_in code.value_of code.size copy)
  copied_value {v} {index} {copy = copy} coded whole copying same_number well_formed = by (contents_of index v.events) (whole well_formed index copying.within)
    where
      -- the copy has room for the words of a value
      big : nat_lt (length copy) code.size ≡ false
      big = let room = copying.room in let few = coded.few in grind (arith, nat_tests)

      -- what stands under that number is the value of the copy
      by : (o : Option T) → WordsShow code c v.words index o → o ≡ Some (value_in code.value_of code.size copy)
      by None stands = let odd = copying.odd in absurd (omega arith)
      by (Some value) stands =
          let room = copying.room in
          let few = coded.few in
          let long : length (take code.size copy) ≡ code.size = length-take-le code.size copy (omega arith) in
          let sized = coded.sized value in
          let words : take code.size copy ≡ code.words_of value =
          ext_get_or 0 (take code.size copy) (code.words_of value) (long ∙ sym sized)
          (λ j js. get_or-take code.size copy j 0 (omega arith) ∙ (copying.same well_formed same_number j (omega arith) ∙ stands.1 j (omega arith))) in
          let value_is : value_in code.value_of code.size copy ≡ value =
          ap (λ b. if b then code.value_of (take code.size (replicate 128 0)) else code.value_of (take code.size copy)) big
          ∙ (ap code.value_of words ∙ coded.given_back value) in
          ap Some (sym value_is)
