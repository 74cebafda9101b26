-- A `set` of a bit set that runs alone: within how many steps it ends, and that it does to the words what a
-- set does to the places.
use Rattle.std.proofs.Common.{◌≡◌, ℕ, ◌<◌, ◌≤◌, ⊎_elim, Bool, true, false, not, List, length, refl, sym, ap, subst}
use Rattle.std.proofs.Common.{◌∙◌, arith, slice_index, slice_set, get_or-set_other, length-set, eq-eqb, ◌==◌}
use Rattle.std.proofs.Common.{if◌then◌else◌, true≢false}
use Rattle.plain.proofs.Names.{cases_Bool, Places, by_test, by_eq, After, with_stands, with_leaves}
use Rattle.steps.specs.Bits.Words.{element_of, has_flag, with_flag, stands}
use Rattle.steps.specs.Bits.BitSet.{first_set, set_want, set_after}
use Rattle.steps.specs.Objects.Places.{has, with_place}
use Rattle.steps.specs.declared.bits.bit_set.Set.{Set}
use Rattle.plain_queues.specs.Alone.{EndsFrom, BehavesAs}
use Rattle.plain.specs.Bits.{flags_in, places_in, Represents}
use Rattle.plain_queues.proofs.Alone.{Runs}
use Rattle.plain.proofs.Places.Flags.{map_changed, flag_at, flags_change}

module _ (capacity place : ℕ) (low : place < capacity) (words : List ℕ) (fits : Represents capacity words) where
  -- what a step of the set has answered leads to this end and these last words, at once or
  -- within n steps more
  abbrev SetEndsFrom : ℕ → Bool → List ℕ → After Set Bool → List ℕ → Type 0
  SetEndsFrom n end last a ws =
      EndsFrom set_want set_after (λ c (room : Unit {0}) old. room) place n end tt last a tt ws

  -- the set, run alone from these words, ends, answers whether the place was clear, and leaves
  -- the words with the place
  abbrev pub SetRuns : Set → Type 0
  SetRuns call =
      Runs set_want set_after (λ c (room : Unit {0}) old. room) place
      (λ end room last. BehavesAs (Represents capacity) (places_in capacity) (λ (s : Places). not (has s place))
      (λ s. with_place s place) words end last) call tt words

  -- the element of the place
  abbrev found : ℕ
  found = slice_index words (element_of place)

  -- the words with the place's flag
  abbrev now : List ℕ
  now = slice_set words (element_of place) (with_flag found place)

  -- the element lies within the words
  near : element_of place < length words
  near = omega (arith, fits.long)

  -- a set of a place that stands ends after its load, and leaves the words
  stood : has_flag found place ≡ true → SetRuns first_set
  stood = grind (arith, map_changed, stands, false, by_test, has_flag, true≢false, flag_at)

  -- a set of a place that is clear sets its flag by the exchange, and answers true
  clear : has_flag found place ≡ false → SetRuns first_set
  clear not_there =
      -- the exchange sets the flag, since the word is still the one that was loaded
      let written : (if found == found then now else words) ≡ now =
      ap (λ b. if b then now else words) (eq-eqb found found refl) in
      let head : slice_index now 0 ≡ slice_index words 0 =
      get_or-set_other words (element_of place) 0 (with_flag found place) 0 (λ e. absurd (omega arith)) in
      let flags : flags_in capacity now ≡ slice_set (flags_in capacity words) place true =
      flags_change words place (with_flag found place) near true (with_stands found place) (λ q ne. with_leaves found place q ne) capacity low in
      -- two steps: the load of the word, and its exchange
      record {
        steps = 2;
        few = omega arith;
        end = true;
        last_room = tt;
        last_words = now;
        ends = by_test (λ a. SetEndsFrom 1 true now a words) (has_flag found place) _ _
            (λ t. absurd (true≢false (sym t ∙ not_there)))
            (λ _. by_eq (λ a. SetEndsFrom 0 true now a (if found == found then now else words)) found found _ _
            (λ _. (refl, refl, sym written)) (λ ne. absurd (ne refl)));
        -- the words are those of a bit set, the answer is that the place was clear, and the places are those
        -- before with this one
        holds = (
          record {
            long = length-set words (element_of place) (with_flag found place) ∙ fits.long;
            small = fits.small;
            start = subst (λ n. n ≤ capacity) (sym head) fits.start;
          },
          sym (ap not (flag_at capacity words place low ∙ not_there)),
          λ i. record { flags = flags i; start = head i },
        );
      }

  -- a set, run alone, does what a set does to the places
  pub set_runs : (call : Set) → call ≡ first_set → SetRuns call
  set_runs call at_first = subst SetRuns (sym at_first) (⊎_elim stood clear (cases_Bool (has_flag found place)))
