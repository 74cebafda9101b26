-- What n steps of one party's call, taken on the machine's parts, are to the whole machine: n turns of that
-- party, none of which is refused.
use Rattle.std.proofs.Common.{◌≡◌, ℕ, zero, suc, ◌+◌, ◌-◌, ◌^◌, ◌<◌, ◌≤◌, Some, None}
use Rattle.std.proofs.Common.{List, [], ◌∷◌, ◌++◌, replicate, refl, sym, ap, ◌∙◌, subst, arith}
use Rattle.std.proofs.lemmas.Bool.Decides.{nat_tests}
use Rattle.std.proofs.lemmas.Grind.{replicate_next}
use Rattle.std.proofs.lemmas.Map.Steps.{set_value_same}
use Rattle.std.specs.BTreeMap.{insert_entry, is_at}
use Rattle.std.specs.List.Sorted.{IsStrictlySortedBy}
use Rattle.std.specs.Map.{keys_of}
use Rattle.std.specs.Ordering.{match_ordering, nat_cmp}
use Rattle.std.specs.declared.cmp.Ordering.{Ordering}
use Rattle.std.specs.declared.cmp.Ordering.TheVariants.{Less, Equal, Greater}
use Rattle.steps.specs.declared.ask.After.{After}
use Rattle.model.specs.declared.event.Answer.{Answer}
use Rattle.model.specs.declared.event.Event.{Event}
use Rattle.model.specs.declared.families.Flight.{Flight}
use Rattle.model.specs.declared.party.Doing.{Doing}
use Rattle.model.specs.declared.party.Doing.TheVariants.{Going, Over}
use Rattle.model.specs.declared.party.Party.{Party}
use Rattle.model.specs.declared.turn.Turn.{Turn}
use Rattle.model.specs.declared.turn.Turn.TheVariants.{Next}
use Rattle.model.specs.Coding.{Coding}
use Rattle.model.specs.Families.{beside_of, step_of}
use Rattle.model.specs.Parties.{party_of, put}
use Rattle.model.specs.Refusals.{refusal_of}
use Rattle.model.specs.Small.{HasSmallCount, HasSmallCounts}
use Rattle.model.specs.Turns.{doing_after, after_turn, after_turns, AreAllowed, change_of}
use Rattle.model.specs.World.{World, Trace}
use Rattle.model.proofs.Counts.{change_small, steps_small, back_small}
use Rattle.model.proofs.Parties.{party_put_same, set_is_put}
use Rattle.model.proofs.Reached.{after_turns_more, AreAllowed-more}
use Rattle.machine_parts.specs.Parts.{going_refusal, Around, around, ask_with, answer_with, after_turn_of, StandsAlone, Steps}
use Rattle.machine_parts.proofs.Going.{refusal_is, going_is}

-- ---- a party written in its place

-- a party's number compares as equal with itself
at_itself : (p : ℕ) → nat_cmp p p ≡ Equal
at_itself = grind (arith, nat_tests)

-- of two parties written in the place of one number, the second one stands
put_again : {X : Type 0} (p : ℕ) (x y : X) (es : List (ℕ × X))
    → insert_entry nat_cmp (insert_entry nat_cmp es p x) p y ≡ insert_entry nat_cmp es p y
put_again p x y [] = rw (at_itself p) refl
put_again p x y (e ∷ es) = by (nat_cmp p e.0) refl (put_again p x y es)
  where
    -- however the party compares with that of the first entry, what was written last stands in its place
    by : (r : Ordering) → nat_cmp p e.0 ≡ r → insert_entry nat_cmp (insert_entry nat_cmp es p x) p y ≡ insert_entry nat_cmp es p y
        → insert_entry nat_cmp (match_ordering r ((p, x) ∷ e ∷ es) ((e.0, x) ∷ es) (e ∷ insert_entry nat_cmp es p x)) p y
        ≡ match_ordering r ((p, y) ∷ e ∷ es) ((e.0, y) ∷ es) (e ∷ insert_entry nat_cmp es p y)
    by Less t more = rw (at_itself p) refl
    by Equal t more = rw t refl
    by Greater t more = rw t (ap (λ xs. e ∷ xs) more)

-- ---- counts stay small

module _ {T : Type 0} where
  -- where a step changes words `change` times, the counts of a call that goes on, or has ended, are still at
  -- most the changes of all
  over_small : (changes since change : ℕ) (after : After (Flight T) (Answer T)) → since ≤ changes
      → HasSmallCount (changes + change) (doing_after (changes + change) (since + change) after)
  over_small = grind arith

  -- a turn adds at most 1 to a party's steps, to its turns back and to the changes of words, so each is at
  -- most the number of turns
  pub around_small : (code : Coding T) (p turns : ℕ) (a b : Around T) → HasSmallCounts turns a.changes a.party → a.changes ≤ turns
      → b ≡ after_turn_of code p None None a.party.doing a → HasSmallCounts (turns + 1) b.changes b.party × (b.changes ≤ turns + 1)
  around_small code p turns a b small few is = rw is (go a.party.doing small.doing)
    where
      -- whether the call is under way or over, the counts stay small
      go : (doing : Doing T) → HasSmallCount a.changes doing
          → HasSmallCounts (turns + 1) (after_turn_of code p None None doing a).changes (after_turn_of code p None None doing a).party
          × ((after_turn_of code p None None doing a).changes ≤ turns + 1)
      go (Over others) small_count =
          let steps = small.steps in
          let backs = small.backs in
          let doing = small.doing in
          (record { steps = omega arith; backs = omega arith; doing = doing }, omega arith)
      go (Going flight since) small_count =
          let steps = small.steps in
          let backs = small.backs in
          let ask = ask_with code None flight in
          let one = change_small a.words ask in
          let step = steps_small ask in
          let back = back_small (step_of code a.words None p a.party.start flight (answer_with code None a.words flight) a.kept).back in
          (record { steps = omega arith; backs = omega arith; doing = over_small a.changes since (change_of a.words ask) _ small_count }, omega arith)

  -- before the first step none was taken
  pub none_taken : (code : Coding T) (p : ℕ) (a : Around T) → Steps code p 0 a a
  none_taken code p a = refl

  -- a step behind n steps makes n + 1 steps
  pub one_more_step : (code : Coding T) (p n : ℕ) (a mid b : Around T) → Steps code p n a mid → StandsAlone mid.kept
      → going_refusal code mid.kept mid.party.doing None ≡ None → b ≡ after_turn_of code p None None mid.party.doing mid
      → Steps code p (n + 1) a b
  one_more_step code p n a mid b before alone allowed is =
      let next : suc n ≡ n + 1 = omega arith in
      subst (λ k. Steps code p k a b) next (mid, before, alone, allowed, is)

-- ---- what they are to the machine

-- w is the machine's world, p the party, x its latest call
module _ {T : Type 0} (w : World T) (p : ℕ) (x : Party T) (events : List (Event T)) where
  -- the machine from which the n steps are taken
  abbrev start : Trace T
  start = record { world = w; events = events }

  -- the machine with these parts, after n turns more
  abbrev taken_to : ℕ → Around T → Trace T
  taken_to n b =
      record {
        world =
            record w { words = b.words; kept = b.kept; latest = put p b.party w.latest; changes = b.changes; turns = w.turns + n };
        events = b.events;
      }

  -- n turns of the party are not refused, and lead from the machine to the one with these parts
  abbrev Comes : ℕ → Around T → Type 0
  Comes n b = AreAllowed start (replicate n (Next p)) × (taken_to n b ≡ after_turns start (replicate n (Next p)))

  -- n steps of the party's call, taken on the parts, are n turns that go on with the call, none of which is refused
  pub steps_are : (n : ℕ) (b : Around T) → IsStrictlySortedBy nat_cmp (keys_of w.latest) → party_of p w.latest ≡ Some x → p < w.parties
      → w.turns + n ≤ 2 ^ 64 - 2 → Steps w.coding p n (around x w.words w.kept w.changes events) b → Comes n b
  -- no step: no turn is taken, and the machine is the same
  steps_are zero b ordered found within small is =
      let same : put p x w.latest ≡ w.latest =
      sym (set_is_put p x x w.latest ordered found) ∙ set_value_same (is_at (nat_cmp p)) w.latest x found in
      let none : w.turns + 0 ≡ w.turns = omega arith in
      (tt, rw is (rw (same, none) refl))
  steps_are (suc n) b ordered found within small (mid, before, alone, allowed, is) =
      let few : w.turns + n ≤ 2 ^ 64 - 2 = omega arith in
      let below : w.turns + n < 2 ^ 64 - 2 = omega arith in
      -- the first n steps are n turns, after which the party is the one whose call they left
      let so_far = steps_are n mid ordered found within few before in
      let here : World T = (taken_to n mid).world in
      let there : party_of p here.latest ≡ Some mid.party = party_put_same p mid.party w.latest in
      let free : refusal_of here (Next p) ≡ None = refusal_is here p None mid.party below within there ∙ allowed in
      let beside : beside_of here.words here.kept here.latest p ≡ None = alone mid.words here.latest p in
      let later : w.turns + suc n ≡ w.turns + n + 1 = omega arith in
      -- the last step, taken on the parts, is one turn more
      let goes : taken_to (suc n) b ≡ after_turn (taken_to n mid) (Next p) =
      ap (λ k. record {
        world = record w { words = b.words; kept = b.kept; latest = put p b.party w.latest; changes = b.changes; turns = k };
        events = b.events;
      }) later ∙
      going_is here p None mid.events mid.party b (put p b.party w.latest) there allowed
      (rw beside is)
      (sym (put_again p mid.party b.party w.latest)) in
      let next : suc n ≡ n + 1 = omega arith in
      let turn : Turn T = Next p in
      let more : replicate (suc n) turn ≡ replicate n turn ++ turn ∷ [] = ap (λ k. replicate k turn) next ∙ replicate_next n turn in (
        subst (AreAllowed start) (sym more)
            (AreAllowed-more start (replicate n turn) turn so_far.0
            (subst (λ (t : Trace T). refusal_of t.world turn ≡ None) so_far.1 free)),
        goes
            ∙ (ap (λ t. after_turn t turn) so_far.1 ∙ sym (after_turns_more start (replicate n turn) turn))
            ∙ ap (after_turns start) (sym more),
      )
