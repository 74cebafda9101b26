-- When a turn of the model is taken and when it is refused, and what an operation makes of the words.
use Rattle.std.specs.List.{AllByRecursion}
use Rattle.std.proofs.Common.{◌^◌, ◌||◌, is_some, nat_le}
use Rattle.std.proofs.lemmas.Bool.Decides.{nat_tests}
use Rattle.model.proofs.Names.{Bool, List, None, Option, Some, Trace, []}
use Rattle.model.proofs.Names.{after_turn, ap, arith, ask_of}
use Rattle.model.proofs.Names.{cond, false, first_row}
use Rattle.model.proofs.Names.{is_question}
use Rattle.model.proofs.Names.{refl, refusal_of, slice_index, true}
use Rattle.model.proofs.Names.{words_after, ℕ, ◌++◌, ◌-◌, ◌<◌, ◌∷◌, ◌≡◌}
use Rattle.std.specs.Prelude.{slice_set}
use Rattle.model.specs.declared.event.Event.{Event}
use Rattle.model.specs.declared.families.Flight.{Flight}
use Rattle.model.specs.declared.event.Start.{Start}
use Rattle.steps.specs.declared.ask.Ask.{Ask}
use Rattle.steps.specs.declared.ask.Want.{Want}
use Rattle.steps.specs.declared.ask.Want.TheVariants as wants
use Rattle.model.specs.declared.turn.Refusal.{Refusal}
use Rattle.model.specs.declared.turn.Refusal.TheVariants.{AtEnd, NoParty, Idle, Undecided}
use Rattle.model.specs.Turns.{attempt, unless_refused}
use Rattle.model.specs.declared.turn.Turn.{Turn}
use Rattle.pages.specs.Machine as machine
use Rattle.pages.specs.Reading.{asked}
use Rattle.pages.proofs.Seen.{IsOwn}

-- ---- tests

-- what holds of both of two things holds of the one that the test chooses
pub either : {A : Type 0} (P : A → Type 0) (b : Bool) (x y : A) → P x → P y → P (cond b x y)
either P true x y one two = one
either P false x y one two = two

-- what holds of the first thing if the test is true, and of the second if it is false, holds of the one that the test chooses
pub either_so : {A : Type 0} (P : A → Type 0) (b : Bool) (x y : A) → (b ≡ true → P x) → (b ≡ false → P y) → P (cond b x y)
either_so P true x y one two = one refl
either_so P false x y one two = two refl

-- where neither of two tests is true the first is false
pub neither : (a b : Bool) → (a || b) ≡ false → a ≡ false
neither true b e = absurd (cc)
neither false b e = refl

-- ---- rows

pub three_rows : {a b d : Bool} → (r s t : Refusal) (rows : List (Bool × Refusal)) → a ≡ false → b ≡ false → d ≡ false
    → first_row ((a, r) ∷ (b, s) ∷ (d, t) ∷ rows) ≡ first_row rows
three_rows r s t rows ha hb hd = rw (ha, hb, hd) refl

pub four_rows : {a b d e : Bool} → (rows : List (Bool × Refusal)) → a ≡ false → b ≡ false → d ≡ false → e ≡ false
    → first_row ((a, AtEnd) ∷ (b, NoParty) ∷ (d, Idle) ∷ (e, Undecided) ∷ rows) ≡ first_row rows
four_rows rows ha hb hd he = rw (ha, hb, hd, he) refl

-- rows that refuse a turn refuse it whatever the rows before them say
pub refused_later : (before rows : List (Bool × Refusal)) → is_some (first_row rows) ≡ true → is_some (first_row (before ++ rows)) ≡ true
refused_later [] rows is_refused = is_refused
refused_later (x ∷ before) rows is_refused = go x.0 (refused_later before rows is_refused)
  where
    go : (b : Bool) → is_some (first_row (before ++ rows)) ≡ true → is_some (cond b (Some x.1) (first_row (before ++ rows))) ≡ true
    go true more = refl
    go false more = more

pub not_at_end : (n : ℕ) → n < 2 ^ 64 - 2 → nat_le (2 ^ 64 - 2) n ≡ false
not_at_end n lt = grind (arith, nat_tests)

pub not_past : (n p : ℕ) → p < n → nat_le n p ≡ false
not_past n p lt = grind (arith, nat_tests)

pub none_is : {T : Type 0} → (o : Option (Flight T)) → o ≡ None → is_some o ≡ false
none_is None e = refl
none_is (Some flight) e = absurd (cc)

-- who asks for an operation puts no question
pub asks_no_question : (want : Want (Unit {0})) (ask : Ask) → ask_of want ≡ Some ask → is_question want ≡ false
asks_no_question (wants.Ask a) ask e = refl
asks_no_question (wants.Question question) ask e = absurd (cc)
asks_no_question wants.Nothing ask e = refl

-- an operation makes of the model's words what it makes of the page's
pub words_same : (words : List ℕ) (word : ℕ) (op : machine.Operation)
    → words_after words (Some (asked word op)) ≡ slice_set words word (machine.written op (slice_index words word))
words_same words word machine.Load = refl
words_same words word op = refl

pub own_more : {T : Type 0} → (is_call : Start T → Bool) (es more : List (Event T)) → AllByRecursion (IsOwn is_call) es
    → AllByRecursion (IsOwn is_call) more → AllByRecursion (IsOwn is_call) (es ++ more)
own_more is_call [] more a b = b
own_more is_call (e ∷ es) more a b = (a.0, own_more is_call es more a.1 b)

-- ---- a turn is taken, or is refused

pub taken : {T : Type 0} → (t : Trace T) (turn : Turn T) → refusal_of t.world turn ≡ None → attempt t turn ≡ after_turn t turn
taken t turn e = ap (unless_refused t (after_turn t turn)) e

-- a turn that is refused changes nothing
pub refused : {T : Type 0} → (t : Trace T) (turn : Turn T) → is_some (refusal_of t.world turn) ≡ true → attempt t turn ≡ t
refused t turn is_refused = go (refusal_of t.world turn) is_refused
  where
    go : (o : Option Refusal) → is_some o ≡ true → unless_refused t (after_turn t turn) o ≡ t
    go None is_refused = absurd (cc)
    go (Some refusal) is_refused = refl
