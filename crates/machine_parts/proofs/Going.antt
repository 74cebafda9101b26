-- What a turn of one party's call is to the whole machine: which row refuses it, and that a turn taken on the
-- parts leaves the machine as the model says.
use Rattle.std.proofs.Common.{◌≡◌, ℕ, ◌+◌, ◌-◌, ◌^◌, ◌<◌, ◌≤◌, inl, inr, ⊎_elim, Bool, true, false, Option, Some, None}
use Rattle.std.proofs.Common.{is_some, Bor, nat_le, List, refl, sym, ap, ◌∙◌, arith}
use Rattle.std.proofs.lemmas.Bool.Decides.{nat_tests}
use Rattle.std.specs.Prelude.{option_copied}
use Rattle.model.specs.declared.event.Event.{Event}
use Rattle.model.specs.declared.event.Start.{Start}
use Rattle.model.specs.declared.party.Doing.{Doing}
use Rattle.model.specs.declared.party.Doing.TheVariants.{Going, Over}
use Rattle.model.specs.declared.party.Party.{Party}
use Rattle.model.specs.declared.turn.Refusal.{Refusal}
use Rattle.model.specs.declared.turn.Refusal.TheVariants.{NoParty, Busy, Idle}
use Rattle.model.specs.declared.turn.Turn.TheVariants.{Begin, Die}
use Rattle.model.specs.Families.{begin_rows, beside_of, lacks_party, death_rows}
use Rattle.model.specs.Parties.{party_of, put, doing_of, flight_of}
use Rattle.model.specs.Refusals.{refusal_of, IsRefusal}
use Rattle.model.specs.Rows.{first_row}
use Rattle.model.specs.Turns.{turn_of, after_turn}
use Rattle.model.specs.World.{World, flight_in}
use Rattle.machine_parts.specs.Parts.{turn_rows, going_refusal, IsGoingRefusal, Around, after_turn_of}

module _ {T : Type 0} (w : World T) (p : ℕ) (said : Option Bool) where
  -- a turn of a party that the machine has, before its turns are used up, is refused by the rows of the
  -- party's call alone
  rows_left : w.turns < 2 ^ 64 - 2 → p < w.parties
      → refusal_of w (turn_of p said) ≡ first_row (turn_rows w.coding w.kept (flight_of (doing_of (party_of p w.latest))) said)
  rows_left small within = go said
    where
      early : nat_le (2 ^ 64 - 2) w.turns ≡ false
      early = grind (arith, nat_tests)

      there : nat_le w.parties p ≡ false
      there = grind (arith, nat_tests)

      go : (said : Option Bool) → refusal_of w (turn_of p said) ≡ first_row (turn_rows w.coding w.kept (flight_of (doing_of (party_of p w.latest))) said)
      go None = rw (early, there) refl
      go (Some b) = rw (early, there) refl

  -- a turn of a party that has begun a call is refused as the rows of that call refuse it
  pub refusal_is : (x : Party T) → w.turns < 2 ^ 64 - 2 → p < w.parties → party_of p w.latest ≡ Some x
      → refusal_of w (turn_of p said) ≡ going_refusal w.coding w.kept x.doing said
  refusal_is x small within found = rows_left small within ∙ ap (λ o. first_row (turn_rows w.coding w.kept (flight_of (doing_of o)) said)) found

  -- a refusal that names a row of the party's call, or refused memory where no row applies, is a refusal of
  -- the turn by the machine
  pub is_refusal : (x : Party T) (r : Refusal) → w.turns < 2 ^ 64 - 2 → p < w.parties → party_of p w.latest ≡ Some x
      → IsGoingRefusal w.coding w.kept x.doing said r → IsRefusal w (turn_of p said) r
  is_refusal x r small within found is_going_refusal =
      let same = refusal_is x small within found in
      ⊎_elim (λ row. inl (same ∙ row)) (λ memory. inr (same ∙ memory.0, memory.1)) is_going_refusal

  -- a turn of the party's call that is not refused, taken on the parts of the machine, leaves the
  -- machine as the turn does
  pub going_is :
      (events : List (Event T)) (x : Party T) (a : Around T) (latest : List (ℕ × Party T))
      → party_of p w.latest ≡ Some x → going_refusal w.coding w.kept x.doing said ≡ None
      → a ≡ after_turn_of w.coding p said (beside_of w.words w.kept w.latest p) x.doing
      (record { party = x; words = w.words; kept = w.kept; changes = w.changes; events = events })
      → latest ≡ put p a.party w.latest
      → record {
        world = record w { words = a.words; kept = a.kept; latest = latest; changes = a.changes; turns = w.turns + 1 };
        events = a.events;
      } ≡ after_turn (record { world = w; events = events }) (turn_of p said)
  going_is events x a latest found allowed is written = rw written (go x.doing refl said refl)
    where
      -- whether the call is under way or over, and an answer is handed to it or not, the turn on
      -- the parts leaves the machine as the turn does
      go : (doing : Doing T) → x.doing ≡ doing → (b : Option Bool) → said ≡ b
          → record {
            world =
                record w { words = a.words; kept = a.kept; latest = put p a.party w.latest; changes = a.changes; turns = w.turns + 1 };
            events = a.events;
          } ≡ after_turn (record { world = w; events = events }) (turn_of p said)
      go (Over others) same_doing None e =
          let clash = rw (same_doing, e) at allowed in
          absurd (cc)
      go (Over others) same_doing (Some b) e =
          let clash = rw (same_doing, e) at allowed in
          absurd (cc)
      go (Going flight since) same_doing None e = rw is (rw (same_doing, e) (rw (found, same_doing) refl))
      go (Going flight since) same_doing (Some b) e = rw is (rw (same_doing, e) (rw (found, same_doing) refl))

-- a turn that begins a call is not refused where none of the family's own rows applies
pub begin_passes : {T : Type 0} (w : World T) (p : ℕ) (start : Start T) → w.turns < 2 ^ 64 - 2 → p < w.parties
    → is_some (flight_in w p) ≡ false → first_row (begin_rows w.kind w.capacity w.kept p start) ≡ None
    → refusal_of w (Begin p start) ≡ None
begin_passes w p start small within free rows =
    let early : nat_le (2 ^ 64 - 2) w.turns ≡ false = grind (arith, nat_tests) in
    let there : nat_le w.parties p ≡ false = grind (arith, nat_tests) in
    rw (early, there, free) rows

-- a turn that begins a call is refused where one of the family's rows applies
pub begin_refuses : {T : Type 0} (w : World T) (p : ℕ) (start : Start T) (row : Refusal) → w.turns < 2 ^ 64 - 2
    → p < w.parties → is_some (flight_in w p) ≡ false
    → first_row (begin_rows w.kind w.capacity w.kept p start) ≡ Some row → refusal_of w (Begin p start) ≡ Some row
begin_refuses w p start row small within free rows =
    let early : nat_le (2 ^ 64 - 2) w.turns ≡ false = grind (arith, nat_tests) in
    let there : nat_le w.parties p ≡ false = grind (arith, nat_tests) in
    rw (early, there, free) rows

module _ {T : Type 0} (w : World T) (p : ℕ) (small : w.turns < 2 ^ 64 - 2) where
  early : nat_le (2 ^ 64 - 2) w.turns ≡ false
  early = grind (arith, nat_tests)

  -- a call that begins for a party that the machine does not have is refused as `NoParty`
  pub begins_nowhere : (start : Start T) → w.parties ≤ p → refusal_of w (Begin p start) ≡ Some NoParty
  begins_nowhere start beyond =
      let there : nat_le w.parties p ≡ true = grind (arith, nat_tests) in
      rw (early, there) refl

  -- a turn of a party that the machine does not have is refused as `NoParty`
  pub goes_on_nowhere : (said : Option Bool) → w.parties ≤ p → refusal_of w (turn_of p said) ≡ Some NoParty
  goes_on_nowhere said beyond = go said
    where
      there : nat_le w.parties p ≡ true
      there = grind (arith, nat_tests)

      go : (said : Option Bool) → refusal_of w (turn_of p said) ≡ Some NoParty
      go None = rw (early, there) refl
      go (Some b) = rw (early, there) refl

  -- a call that begins for a party with a call under way is refused as `Busy`
  pub is_busy : (start : Start T) → p < w.parties → is_some (flight_in w p) ≡ true → refusal_of w (Begin p start) ≡ Some Busy
  is_busy start within taken =
      let there : nat_le w.parties p ≡ false = grind (arith, nat_tests) in
      rw (early, there, taken) refl

  -- a turn of a party that has begun no call is refused as `Idle`
  pub is_idle : (said : Option Bool) → p < w.parties → party_of p w.latest ≡ None → refusal_of w (turn_of p said) ≡ Some Idle
  is_idle said within none = go said
    where
      there : nat_le w.parties p ≡ false
      there = grind (arith, nat_tests)

      go : (said : Option Bool) → refusal_of w (turn_of p said) ≡ Some Idle
      go None = rw (early, there, none) refl
      go (Some b) = rw (early, there, none) refl

-- a call under way was found
pub some_found : {A : Type 0} (o : Option (Bor A)) (found : Option A) → option_copied o ≡ found → true ≡ is_some o → is_some found ≡ true
some_found None found is e = absurd (cc)
some_found (Some x) found is e = ap is_some (sym is)

-- no call under way was found
pub none_found : {A : Type 0} (o : Option (Bor A)) (found : Option A) → option_copied o ≡ found → false ≡ is_some o → is_some found ≡ false
none_found None found is e = ap is_some (sym is)
none_found (Some x) found is e = absurd (cc)

-- the death of an owner is not refused where none of its rows applies
pub death_passes : {T : Type 0} (w : World T) (owner : ℕ) → w.turns < 2 ^ 64 - 2
    → lacks_party w.kept w.parties owner ≡ false → first_row (death_rows w.kept owner) ≡ None
    → refusal_of w (Die owner) ≡ None
death_passes w owner small there rows =
    let early : nat_le (2 ^ 64 - 2) w.turns ≡ false = grind (arith, nat_tests) in
    rw (early, there) rows

-- a death is refused where one of its rows applies
pub death_refuses : {T : Type 0} (w : World T) (owner : ℕ) (row : Refusal) → w.turns < 2 ^ 64 - 2
    → lacks_party w.kept w.parties owner ≡ false → first_row (death_rows w.kept owner) ≡ Some row
    → refusal_of w (Die owner) ≡ Some row
death_refuses w owner row small there rows =
    let early : nat_le (2 ^ 64 - 2) w.turns ≡ false = grind (arith, nat_tests) in
    rw (early, there) rows
