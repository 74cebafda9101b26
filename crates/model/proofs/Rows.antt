-- What a turn that is not refused has passed.
use Rattle.model.proofs.Names.{Begin, Bool, Decide, Die, Flight, List, Next, None, Option, Party, Refusal, Some, Start}
use Rattle.model.proofs.Names.{Turn, World, arith, call_refusal, cond, doing_of, false, first_of, first_row, flight_in}
use Rattle.model.proofs.Names.{flight_of, going_rows, has_owners, is_due, is_none, is_some, nat_tests, not, refl}
use Rattle.model.proofs.Names.{refusal_of, true, ℕ, ◌-◌, ◌<◌, ◌^◌, ◌∷◌, ◌≡◌}
use Rattle.model.specs.declared.turn.Refusal.TheVariants.{AtEnd}
use Rattle.model.specs.Families.{begin_of, is_dead}
use Rattle.model.specs.Turns.{turn_of}
use Rattle.model.specs.Refusals.{is_at_end}

-- a row that did not apply
pub row_passed : (b : Bool) (r : Refusal) (rest : Option Refusal) → cond b (Some r) rest ≡ None → (b ≡ false) × (rest ≡ None)
row_passed true r rest passed = absurd (cc)
row_passed false r rest passed = (refl, passed)

pub is_true : (b : Bool) → not b ≡ false → b ≡ true
is_true true not_false = refl
is_true false not_false = absurd (cc)

pub not_none : {A : Type 0} → (o : Option A) → is_none o ≡ false → (x : A) × (o ≡ Some x)
not_none None some = absurd (cc)
not_none (Some x) some = (x, refl)

pub not_some : {A : Type 0} → (o : Option A) → is_some o ≡ false → o ≡ None
not_some None none = refl
not_some (Some x) none = absurd (cc)

module _ {T : Type 0} where
  -- a party with a call under way has an entry
  pub some_party : (o : Option (Party T)) (f : Flight T) → flight_of (doing_of o) ≡ Some f → (x : Party T) × (o ≡ Some x)
  some_party None f flight_is = absurd (cc)
  some_party (Some x) f flight_is = (x, refl)

  -- ---- what a turn has passed that is not refused by its rows

  -- neither the end nor a party's number refused it
  pub record Passes (w : World T) (turn : Turn T) : Type 0 where
    pub turns : w.turns < 2 ^ 64 - 2
    pub on : call_refusal w turn ≡ None

  more : (w : World T) (rest : List (Bool × Refusal)) → first_row ((is_at_end w, AtEnd) ∷ rest) ≡ None → (w.turns < 2 ^ 64 - 2) × (first_row rest ≡ None)
  more = grind (arith, row_passed, false, nat_tests)

  -- A turn that is not refused comes before the machine's last one, and is not refused for its
  -- call or owner.
  pub passes : (w : World T) (turn : Turn T) → refusal_of w turn ≡ None → Passes w turn
  passes = grind (arith, more, row_passed)

  -- What an admitted begin has: the party has no call under way, the kind has the call, and the
  -- family's tests are passed.
  pub record MayBegin (w : World T) (p : ℕ) (start : Start T) : Type 0 where
    pub free : flight_in w p ≡ None
    pub call : is_none (first_of w.kind w.capacity start w.kept) ≡ false
    pub rows : first_row ((begin_of w.kind w.capacity start).rows w.kept p) ≡ None

  -- A begin that is not refused is of a party without a call under way, by a call that the kind
  -- has, and has passed the family's tests.
  pub may_begin : (w : World T) (p : ℕ) (start : Start T) → call_refusal w (Begin p start) ≡ None → MayBegin w p start
  may_begin = grind (arith, row_passed, not_some)

  -- The party has a call under way, which may go on.
  pub record MayGoOn (w : World T) (p : ℕ) : Type 0 where
    pub flight : Flight T
    pub is : flight_in w p ≡ Some flight

  pub may_next : (w : World T) (p : ℕ) → call_refusal w (Next p) ≡ None → MayGoOn w p
  may_next = grind (arith, row_passed, not_none)

  pub may_decide : (w : World T) (p : ℕ) (said : Bool) → call_refusal w (Decide p said) ≡ None → MayGoOn w p
  may_decide = grind (arith, row_passed, not_none)

  -- an answer that is not refused has a question
  pub must_be_due : (w : World T) (p : ℕ) (said : Bool) → call_refusal w (Decide p said) ≡ None → not (is_due w.coding (flight_in w p)) ≡ false
  must_be_due = grind (arith, row_passed, is_none)

  -- ---- what a turn has that is taken, whichever rows refuse others

  -- a begin is of a call that there is, by a party that has none under way
  pub record MayStart (w : World T) (p : ℕ) (start : Start T) : Type 0 where
    pub free : flight_in w p ≡ None
    pub call : is_none (first_of w.kind w.capacity start w.kept) ≡ false

  -- What a turn needs of the party's call: a begin that none is under way, a step or decision that
  -- one is, at its question if decided.
  abbrev pub IsPossible : World T → Turn T → Type 0
  IsPossible w (Begin p start) = MayStart w p start
  IsPossible w (Next p) = MayGoOn w p
  IsPossible w (Decide p said) = MayGoOn w p × (is_due w.coding (flight_in w p) ≡ true)
  IsPossible w (Die owner) = Unit {0}

  -- A turn that is not refused is possible.
  pub possible_on : (w : World T) (turn : Turn T) → call_refusal w turn ≡ None → IsPossible w turn
  possible_on w (Begin p start) not_refused = let may = may_begin w p start not_refused in record { free = may.free; call = may.call }
  possible_on w (Next p) not_refused = may_next w p not_refused
  possible_on w (Decide p said) not_refused = (may_decide w p said not_refused, is_true (is_due w.coding (flight_in w p)) (must_be_due w p said not_refused))
  possible_on w (Die owner) not_refused = tt

  pub possible : (w : World T) (turn : Turn T) → refusal_of w turn ≡ None → IsPossible w turn
  possible w turn not_refused = possible_on w turn (passes w turn not_refused).on

  -- A turn with a decision or without, that is not refused, is of a party whose call may go on.
  pub may_resume : (w : World T) (p : ℕ) (said : Option Bool) → call_refusal w (turn_of p said) ≡ None → MayGoOn w p
  may_resume w p None not_refused = may_next w p not_refused
  may_resume w p (Some said) not_refused = may_decide w p said not_refused

  -- the family's rows of a call that goes on
  pub next_passes : (w : World T) (p : ℕ) → call_refusal w (Next p) ≡ None → first_row (going_rows w.coding w.kept (flight_in w p) None) ≡ None
  next_passes = grind (arith, row_passed, is_none)

  -- A decision that is not refused has passed the family's tests.
  pub decision_passes : (w : World T) (p : ℕ) (said : Bool) → call_refusal w (Decide p said) ≡ None
      → first_row (going_rows w.coding w.kept (flight_in w p) (Some said)) ≡ None
  decision_passes = grind (arith, row_passed, is_none)

  -- What an admitted death has: the structure has owners, and this one lives.
  pub record MayDie (w : World T) (owner : ℕ) : Type 0 where
    pub owners : not (has_owners w.kept) ≡ false
    pub lives : is_dead w.kept owner ≡ false

  pub may_die : (w : World T) (owner : ℕ) → call_refusal w (Die owner) ≡ None → MayDie w owner
  may_die = grind (arith, row_passed)
