-- Bit sets with a reset of all as one call are not strongly linearizable, since they are not linearizable: a run in which a
-- reset clears 0 and 64, which at no moment stood both.
use Rattle.std.proofs.Common.{◌≡◌, ◌≢◌, ◌<◌, ◌==◌, ◌||◌, ℕ, zero, suc, Bool, true, false, not, List, [], ◌∷◌, length, map, refl, sym, ap, subst, ◌∙◌}
use Rattle.std.proofs.Common.{get_or, arith, Some, ◌≤◌, ⊎_elim}
use Rattle.std.proofs.lemmas.Bool.{cases_eq, cases_lt}
use Rattle.std.proofs.lemmas.List.{get_or_default}
use Rattle.std.specs.List.{Contains}
use Rattle.model.specs.declared.event.Answer.{Answer}
use Rattle.model.specs.declared.event.Answer.TheVariants.{Done, Truth}
use Rattle.model.specs.declared.event.Event.{Event}
use Rattle.model.specs.declared.event.Event.TheVariants as events
use Rattle.model.specs.declared.event.Event.TheVariants.{Begun, Cleared, Finished}
use Rattle.model.specs.declared.event.Start.{Start}
use Rattle.model.specs.declared.event.Start.TheVariants.{Bits}
use Rattle.model.specs.declared.families.bits.BitsStart.TheVariants.{Set, ResetAll}
use Rattle.model.specs.declared.turn.Kind.TheVariants as kinds
use Rattle.model.specs.declared.turn.Turn.{Turn}
use Rattle.model.specs.declared.turn.Turn.TheVariants.{Begin, Next}
use Rattle.model.specs.Coding.{one_word}
use Rattle.model.specs.Linearizable.{Call, IsLinearizable, Precedes, Specification, calls_of}
use Rattle.model.specs.Objects.{Object, answers_from}
use Rattle.model.specs.StronglyLinearizable.{AreStronglyLinearizable}
use Rattle.model.specs.Turns.{run}
use Rattle.model.specs.World.{Trace, opened}
use Rattle.model.proofs.LockFree.Falls.{same_is}
use Rattle.model.proofs.WorkedLockFree.{one_word_codes}
use Rattle.headline.specs.Strong.{AreOfRun}

-- ---- the set as one object, of which a reset of all clears every place at once

-- what a call leaves of the flags
abbrev leaves : (ℕ → Bool) → Start ℕ → (ℕ → Bool)
leaves flags (Bits (Set place)) = λ b. (b == place) || flags b
leaves flags (Bits ResetAll) = λ b. false
leaves flags start = flags

-- what a call answers by the flags
abbrev answers : (ℕ → Bool) → Start ℕ → Answer ℕ
answers flags (Bits (Set place)) = Truth (not (flags place))
answers flags start = Done

abbrev flag_set : Object ℕ (ℕ → Bool)
flag_set = record { opening = λ b. false; after = leaves; answer = answers }

abbrev is_set_or_reset : Start ℕ → Bool
is_set_or_reset (Bits (Set place)) = true
is_set_or_reset (Bits ResetAll) = true
is_set_or_reset start = false

abbrev as_flags : Specification ℕ (ℕ → Bool)
as_flags = record { is_call = is_set_or_reset; object = flag_set }

-- ---- the run

abbrev set_0 : Start ℕ
set_0 = Bits (Set 0)

abbrev set_64 : Start ℕ
set_64 = Bits (Set 64)

-- party 1 sets 0 twice and then 64 twice, and the reset of party 0 clears word 0 after the first
-- set, and word 1 after the third
abbrev word_by_word : List (Turn ℕ)
word_by_word =
    Begin 1 set_0 ∷ Next 1 ∷ Next 1
    ∷ Begin 0 (Bits ResetAll) ∷ Next 0
    ∷ Begin 1 set_0 ∷ Next 1 ∷ Next 1
    ∷ Begin 1 set_64 ∷ Next 1 ∷ Next 1
    ∷ Next 0
    ∷ Begin 1 set_64 ∷ Next 1 ∷ Next 1
    ∷ []

abbrev told : List (Event ℕ)
told =
    Begun 1 set_0
    ∷ events.Set 1 0
    ∷ Finished 1 set_0 (Truth true)
    ∷ Begun 0 (Bits ResetAll)
    ∷ Cleared 0 0
    ∷ Begun 1 set_0
    ∷ events.Set 1 0
    ∷ Finished 1 set_0 (Truth true)
    ∷ Begun 1 set_64
    ∷ events.Set 1 64
    ∷ Finished 1 set_64 (Truth true)
    ∷ Cleared 0 64
    ∷ Finished 0 (Bits ResetAll) Done
    ∷ Begun 1 set_64
    ∷ events.Set 1 64
    ∷ Finished 1 set_64 (Truth true)
    ∷ []

abbrev ran : Trace ℕ
ran = run word_by_word (opened one_word kinds.Bits 70 0 2)

told_by_run : AreOfRun one_word kinds.Bits 70 told
told_by_run =
    record {
      trace = ran;
      reached =
          record {
            coded = one_word_codes;
            admitted = refl;
            queue = 0;
            queued = refl;
            turns = word_by_word;
            is = refl;
          };
      coded = refl;
      of_kind = refl;
      sized = refl;
      is = refl;
    }

-- ---- between two sets of one place that both answer true stands a reset

abbrev Entry : Type 0
Entry = Call ℕ × Answer ℕ

-- from these flags on, the object gives the answers of these entries
abbrev named : Entry → Start ℕ × Answer ℕ
named x = (x.0.start, x.1)

abbrev Legal : (ℕ → Bool) → List Entry → Type 0
Legal flags xs =
    answers_from flag_set flags (map (λ (m : Start ℕ × Answer ℕ). m.0) (map named xs)) ≡ map (λ (m : Start ℕ × Answer ℕ). m.1) (map named xs)

abbrev is_reset : Start ℕ → Bool
is_reset (Bits ResetAll) = true
is_reset start = false

resets : (start : Start ℕ) → is_reset start ≡ true → start ≡ Bits ResetAll
resets (Bits ResetAll) is = refl
resets (Bits (Set place)) is = absurd (cc)
resets start is = absurd (cc)

or_true : (t : Bool) → (t || true) ≡ true
or_true true = refl
or_true false = refl

-- a flag that stands is left standing by any call but a reset
stays : (flags : ℕ → Bool) (start : Start ℕ) (b : ℕ) → is_reset start ≡ false → flags b ≡ true → leaves flags start b ≡ true
stays flags (Bits (Set place)) b none stands = rw stands (or_true (b == place))
stays flags (Bits ResetAll) b none stands = absurd (cc)
stays flags start b none stands = stands

abbrev after_first : List (Answer ℕ) → List (Answer ℕ)
after_first [] = []
after_first (first ∷ others) = others

head_legal : (flags : ℕ → Bool) (x : Entry) (xs : List Entry) → Legal flags (x ∷ xs) → answers flags x.0.start ≡ x.1
head_legal flags x xs legal = ap (λ (ys : List (Answer ℕ)). get_or ys 0 x.1) legal

tail_legal : (flags : ℕ → Bool) (x : Entry) (xs : List Entry) → Legal flags (x ∷ xs) → Legal (leaves flags x.0.start) xs
tail_legal flags x xs legal = ap after_first legal

-- the entry at this index is a set of this place that answers true
abbrev IsTrueSet : List Entry → ℕ → ℕ → Entry → Type 0
IsTrueSet xs b j d = ((get_or xs j d).0.start ≡ Bits (Set b)) × ((get_or xs j d).1 ≡ Truth true)

abbrev truth : Bool → Answer ℕ
truth b = Truth b

-- a set that answers true does not find its flag standing
not_standing : (flags : ℕ → Bool) (start : Start ℕ) (answer : Answer ℕ) (b : ℕ) → flags b ≡ true → start ≡ Bits (Set b) → answer ≡ Truth true
    → answers flags start ≡ answer → ⊥
not_standing flags start answer b stands is true_answer right =
    let found : truth (not (flags b)) ≡ truth true = ap (answers flags) (sym is) ∙ (right ∙ true_answer) in
    let stood : truth (not true) ≡ truth true = subst (λ t. truth (not t) ≡ truth true) stands found in
    absurd (cc)

-- where the flag stands, a reset comes before the next such set
reset_before : (xs : List Entry) (flags : ℕ → Bool) (b j : ℕ) (d : Entry) → Legal flags xs → flags b ≡ true → j < length xs → IsTrueSet xs b j d
    → (k : ℕ) × (k < j) × ((get_or xs k d).0.start ≡ Bits ResetAll)
reset_before [] flags b j d legal stands less is = absurd (omega arith)
reset_before (x ∷ xs) flags b zero d legal stands less is =
    absurd (not_standing flags x.0.start x.1 b stands is.0 is.1 (head_legal flags x xs legal))
reset_before (x ∷ xs) flags b (suc j) d legal stands less is = go (is_reset x.0.start) refl (reset_before xs (leaves flags x.0.start) b j d)
  where
    -- The cases are whether the first entry is a reset.
    go : (t : Bool) → is_reset x.0.start ≡ t
        → (Legal (leaves flags x.0.start) xs → leaves flags x.0.start b ≡ true → j < length xs → IsTrueSet xs b j d
        → (k : ℕ) × (k < j) × ((get_or xs k d).0.start ≡ Bits ResetAll))
        → (k : ℕ) × (k < suc j) × ((get_or (x ∷ xs) k d).0.start ≡ Bits ResetAll)
    go true test rest = (0, omega arith, resets x.0.start test)
    go false test rest =
        let more = rest (tail_legal flags x xs legal) (stays flags x.0.start b test stands) (omega (arith, less)) is in
        (suc more.0, omega (arith, more.1), more.2)

left_set : (b : ℕ) (flags : ℕ → Bool) (start : Start ℕ) → start ≡ Bits (Set b) → leaves flags start b ≡ true
left_set b flags start is = let same = same_is b in subst (λ st. leaves flags st b ≡ true) (sym is) (rw same refl)

reset_between : (xs : List Entry) (flags : ℕ → Bool) (b i j : ℕ) (d : Entry) → Legal flags xs → i < j → j < length xs → IsTrueSet xs b i d → IsTrueSet xs b j d
    → (k : ℕ) × (i < k) × (k < j) × ((get_or xs k d).0.start ≡ Bits ResetAll)
reset_between [] flags b i j d legal order less one two = absurd (omega arith)
reset_between (x ∷ xs) flags b i zero d legal order less one two = absurd (omega arith)
reset_between (x ∷ xs) flags b zero (suc j) d legal order less one two =
    let more = reset_before xs (leaves flags x.0.start) b j d (tail_legal flags x xs legal) (left_set b flags x.0.start one.0) (omega (arith, less)) two in
    (suc more.0, omega arith, omega (arith, more.1), more.2)
reset_between (x ∷ xs) flags b (suc i) (suc j) d legal order less one two =
    let more = reset_between xs (leaves flags x.0.start) b i j d (tail_legal flags x xs legal) (omega (arith, order)) (omega (arith, less)) one two in
    (suc more.0, omega (arith, more.1), omega (arith, more.2), more.3)

-- ---- the calls of the run: the sets follow one another, and one reset is not enough

-- a call of this party that is invoked and answered at these places
abbrev call : (place party : ℕ) → Start ℕ → (ended : ℕ) → Answer ℕ → Call ℕ
call place party start ended answer =
    record { place = place; party = party; start = start; response = Some (record { place = ended; answer = answer }) }

abbrev first : Call ℕ
first = call 0 1 set_0 2 (Truth true)

abbrev second : Call ℕ
second = call 5 1 set_0 7 (Truth true)

abbrev third : Call ℕ
third = call 8 1 set_64 10 (Truth true)

abbrev fourth : Call ℕ
fourth = call 13 1 set_64 15 (Truth true)

abbrev reset : Call ℕ
reset = call 3 0 (Bits ResetAll) 12 Done

calls_are : calls_of told ≡ first ∷ reset ∷ second ∷ third ∷ fourth ∷ []
calls_are = refl

five : length (calls_of told) ≡ 5
five = refl

zero_less : 0 < length (calls_of told)
zero_less = rw five (omega arith)

two_less : 2 < length (calls_of told)
two_less = rw five (omega arith)

three_less : 3 < length (calls_of told)
three_less = rw five (omega arith)

four_less : 4 < length (calls_of told)
four_less = rw five (omega arith)

-- the one reset
the_reset : (c : Call ℕ) → Contains (calls_of told) c → c.start ≡ Bits ResetAll → c ≡ reset
the_reset c (zero, less, is) start = let set : set_0 ≡ Bits ResetAll = ap (λ (c : Call ℕ). c.start) is ∙ start in absurd (cc)
the_reset c (suc zero, less, is) start = sym is
the_reset c (suc (suc zero), less, is) start = let set : set_0 ≡ Bits ResetAll = ap (λ (c : Call ℕ). c.start) is ∙ start in absurd (cc)
the_reset c (suc (suc (suc zero)), less, is) start = let set : set_64 ≡ Bits ResetAll = ap (λ (c : Call ℕ). c.start) is ∙ start in absurd (cc)
the_reset c (suc (suc (suc (suc zero))), less, is) start = let set : set_64 ≡ Bits ResetAll = ap (λ (c : Call ℕ). c.start) is ∙ start in absurd (cc)
the_reset c (suc (suc (suc (suc (suc k)))), less, is) start = let few : suc (suc (suc (suc (suc k)))) < 5 = less in absurd (omega (arith, few))

module _ (l : IsLinearizable as_flags told) where
  abbrev xs : List Entry
  xs = l.sequential

  abbrev d : Entry
  d = (first, Truth true)

  -- the call stands at this index of the order, and answers true
  record StandsAt (c : Call ℕ) : Type 0 where
    pub index : ℕ
    pub less : index < length xs
    pub is : get_or xs index d ≡ (c, Truth true)

  stands : (c : Call ℕ) → Contains xs (c, Truth true) → StandsAt c
  stands c (index, less, is) = record { index = index; less = less; is = get_or_default xs index d (c, Truth true) less ∙ is }

  -- a call that had responded when another began stands before it
  before : (c e : Call ℕ) (i : StandsAt c) (j : StandsAt e) → Precedes c e → c ≢ e → i.index < j.index
  before c e i j precedes differ = ⊎_elim same (λ ne. ⊎_elim (λ less. less) (λ more. later ne more) (cases_lt i.index j.index)) (cases_eq i.index j.index)
    where
      same : i.index ≡ j.index → i.index < j.index
      same at_one =
          let entries : ◌≡◌ {A = Entry} (c, Truth true) (e, Truth true) = sym i.is ∙ (ap (λ n. get_or xs n d) at_one ∙ j.is) in
          absurd (differ (ap (λ (x : Entry). x.0) entries))

      later : i.index ≢ j.index → j.index ≤ i.index → i.index < j.index
      later ne more =
          let less : j.index < i.index = omega (arith, ne, more) in
          let never = l.real_time j.index i.index d less i.less in
          absurd (subst (λ (x : Entry). ¬ Precedes x.0 e) i.is (subst (λ (y : Entry). ¬ Precedes (get_or xs i.index d).0 y.0) j.is never) precedes)

  -- a set that stands at an index is a set that answers true there
  true_set : (c : Call ℕ) (b : ℕ) → c.start ≡ Bits (Set b) → (i : StandsAt c) → IsTrueSet xs b i.index d
  true_set c b start i = (ap (λ (x : Entry). x.0.start) i.is ∙ start, ap (λ (x : Entry). x.1) i.is)

  reset_at : (k : ℕ) → k < length xs → (get_or xs k d).0.start ≡ Bits ResetAll → (get_or xs k d).0 ≡ reset
  reset_at k less start = the_reset (get_or xs k d).0 (l.invoked k d less).1 start

  apart : (m n : ℕ) → m < n → m ≡ n → ⊥
  apart m n less same = absurd (omega arith)

  -- the four sets stand in the order
  a : StandsAt first
  a = stands first (l.completed 0 first zero_less refl)

  b : StandsAt second
  b = stands second (l.completed 2 first two_less refl)

  c : StandsAt third
  c = stands third (l.completed 3 first three_less refl)

  e : StandsAt fourth
  e = stands fourth (l.completed 4 first four_less refl)

  ab : a.index < b.index
  ab = before first second a b (omega arith) (λ same. apart 0 5 (omega arith) (ap (λ (c : Call ℕ). c.place) same))

  bc : b.index < c.index
  bc = before second third b c (omega arith) (λ same. apart 5 8 (omega arith) (ap (λ (c : Call ℕ). c.place) same))

  ce : c.index < e.index
  ce = before third fourth c e (omega arith) (λ same. apart 8 13 (omega arith) (ap (λ (c : Call ℕ). c.place) same))

  no_order : ⊥
  no_order =
      let k = reset_between xs (λ b. false) 0 a.index b.index d l.legal ab b.less (true_set first 0 refl a) (true_set second 0 refl b) in
      let m = reset_between xs (λ b. false) 64 c.index e.index d l.legal ce e.less (true_set third 64 refl c) (true_set fourth 64 refl e) in
      let order : k.0 < m.0 = omega (arith, k.2, m.1, bc) in
      let inside : m.0 < length xs = omega (arith, m.2, e.less) in
      l.once k.0 m.0 d order inside
      (reset_at k.0 (omega (arith, order, inside)) k.3 ∙ sym (reset_at m.0 inside m.3))

pub not_linearizable : IsLinearizable as_flags told → ⊥
not_linearizable l = no_order l

pub not_strong : AreStronglyLinearizable (AreOfRun one_word kinds.Bits 70) as_flags → ⊥
not_strong all = let by = (all.each told told_by_run).by in not_linearizable by
