-- What a kind of structure has to show of its machines (`KindLaws`, `MachineLaws`, `KeptLaws`), so that the
-- rule of its tables can be proved for any call.
use Rattle.history.proofs.Names.{false, ◌≡◌, ◌≢◌, ℕ, Option, Some, None, List, [], ◌∷◌}
use Rattle.history.proofs.Names.{length, refl, sym, ap, ◌∙◌, arith, sum_by}
use Rattle.history.proofs.Names.{Event, Start, Flight, Party}
use Rattle.history.proofs.Names.{Kind, Turn, Coding, going_rows}
use Rattle.history.proofs.Names.{after_of, goes_of, is_look_of, state_in, party_of}
use Rattle.history.proofs.Names.{first_row, after_turn}
use Rattle.history.proofs.Names.{step_in, World, Trace, whose}
use Rattle.history.specs.Known.{events_by, of_none}
use Rattle.history.specs.History.{IsRun, call_in, IsLate, refusal_as}
use Rattle.history.proofs.Known.{by_other, none_late, AreOf, sum_first}
use Rattle.history.proofs.Calls.{IsStateless, Stands, at_found, goes_alike}

module _ {T : Type 0} where
  -- events of one party are each of a party
  pub all_someone : (p : ℕ) (es : List (Event T)) → AreOf p es → sum_by (λ e. of_none (whose e)) es ≡ 0
  all_someone p [] are = refl
  all_someone p (e ∷ es) are =
      let here : of_none (whose e) ≡ 0 = ap of_none are.0 in
      omega (arith, all_someone p es are.1, sum_first (λ x. of_none (whose x)) e es)

  module _ (code : Coding T) (kind : Kind) (capacity words : ℕ) (effects : World T → ℕ → Flight T → ℕ → List (Event T)) where
    -- a step of the call under way: nothing refuses it, it writes `effects`, of another party only what may
    -- come late for that party's call, and leads where the call's flight says
    pub record StepsOn (t : Trace T) (p : ℕ) (flight : Flight T) : Type 0 where
      -- nothing that is tested of a pending call refuses it, and its effects are these
      pub may : first_row (going_rows t.world.coding t.world.kept (Some flight) None) ≡ None
      pub writes : (x : Party T) (n : ℕ) → party_of p t.world.latest ≡ Some x → (step_in t.world p x flight n).wrote ≡ effects t.world p flight n
      -- each event is of a party, and what is of another party may come late for that party's call
      pub someone : (n : ℕ) → sum_by (λ e. of_none (whose e)) (effects t.world p flight n) ≡ 0
      pub beside : (n q : ℕ) → q ≢ p → IsLate kind (call_in t.world q) (events_by q (effects t.world p flight n))
      -- the call goes on, or ends, as `goes_of` says
      pub goes : (x : Party T) (n : ℕ) → party_of p t.world.latest ≡ Some x
          → (step_in t.world p x flight n).after ≡ goes_of t.world.coding p flight n t.world.kept

    -- the laws of a kind whose calls may go on by what the machine keeps: its machines have so many words, each call under
    -- way goes on, and only a look of a party's state changes that state
    pub record KeptLaws : Type 0 where
      pub size : (t : Trace T) → IsRun code kind capacity t → length t.world.words ≡ words
      pub steps_on : (t : Trace T) → IsRun code kind capacity t → (p : ℕ) (start : Start T) (flight : Flight T)
          → call_in t.world p ≡ Some (start, flight) → StepsOn t p flight
      -- a turn that is no look of a party's state leaves that state
      pub states : (t : Trace T) (turn : Turn T) → IsRun code kind capacity t → IsRun code kind capacity (after_turn t turn)
          → refusal_as kind t.world turn ≡ None → (q : ℕ) → is_look_of t.world q turn ≡ false
          → state_in (after_turn t turn).world.kept q ≡ state_in t.world.kept q

    -- the laws of a kind whose calls go on by their stage alone: its machines have so many words, each call under way goes
    -- on, and what a machine keeps changes no call
    pub record MachineLaws : Type 0 where
      pub size : (t : Trace T) → IsRun code kind capacity t → length t.world.words ≡ words
      pub steps_on : (t : Trace T) → IsRun code kind capacity t → (p : ℕ) (start : Start T) (flight : Flight T)
          → call_in t.world p ≡ Some (start, flight) → StepsOn t p flight
      pub stateless : (t : Trace T) → IsRun code kind capacity t → IsStateless t.world.kept

    pub kept_laws : MachineLaws → KeptLaws
    kept_laws = grind arith

    -- by these laws a call goes on by its flight alone
    pub goes_on_alike : MachineLaws → (t : Trace T) → IsRun code kind capacity t → (p : ℕ) (flight : Flight T) (n : ℕ)
        → goes_of code p flight n t.world.kept ≡ after_of code flight n
    goes_on_alike laws t run p flight n = goes_alike code p flight n t.world.kept (laws.stateless t run)

  -- what a kind owes whose parties write for themselves alone
  module _ (code : Coding T) (kind : Kind) (capacity words : ℕ) (effects : ℕ → Flight T → ℕ → List (Event T)) where
    -- a step of the call under way: nothing refuses it, its effects are these, all of its own party, and it
    -- leads where the call's flight says
    pub record CallGoesOn (t : Trace T) (p : ℕ) (flight : Flight T) : Type 0 where
      pub may : first_row (going_rows t.world.coding t.world.kept (Some flight) None) ≡ None
      pub writes : (x : Party T) (n : ℕ) → party_of p t.world.latest ≡ Some x → (step_in t.world p x flight n).wrote ≡ effects p flight n
      pub own : (n : ℕ) → AreOf p (effects p flight n)
      pub goes : (x : Party T) (n : ℕ) → party_of p t.world.latest ≡ Some x → (step_in t.world p x flight n).after ≡ after_of t.world.coding flight n

    -- the laws of a kind whose parties write for themselves alone: its machines have `words` words, keep no
    -- state of a party, each call under way goes on, and nothing is late
    pub record KindLaws : Type 0 where
      pub size : (t : Trace T) → IsRun code kind capacity t → length t.world.words ≡ words
      pub goes_on : (t : Trace T) → IsRun code kind capacity t → (p : ℕ) (start : Start T) (flight : Flight T)
          → call_in t.world p ≡ Some (start, flight) → CallGoesOn t p flight
      pub alone : (going : Option (Start T × Flight T)) (late : List (Event T)) → IsLate kind going late → late ≡ []
      pub stateless : (t : Trace T) → IsRun code kind capacity t → IsStateless t.world.kept

    own_beside : (w : World T) (p q : ℕ) (es : List (Event T)) → q ≢ p → AreOf p es → IsLate kind (call_in w q) (events_by q es)
    own_beside = grind (arith, by_other, none_late)

    -- by these laws the more general ones hold
    pub machine_laws : KindLaws → MachineLaws code kind capacity words (λ w. effects)
    machine_laws laws =
        record {
          size = laws.size;
          steps_on = λ t run p start flight at. (
              let own = laws.goes_on t run p start flight at in
              record {
                may = own.may;
                writes = own.writes;
                someone = λ n. all_someone p (effects p flight n) (own.own n);
                beside = λ n q ne. own_beside t.world p q (effects p flight n) ne (own.own n);
                goes = λ x n found. own.goes x n found ∙ sym (goes_alike t.world.coding p flight n t.world.kept (laws.stateless t run));
              });
          stateless = laws.stateless;
        }

-- a call under way goes on as `CallGoesOn` says, where that holds of the party that was found for it
pub goes_on_so : {T : Type 0} {code : Coding T} {kind : Kind} {capacity words : ℕ} {effects : ℕ → Flight T → ℕ → List (Event T)}
    {t : Trace T} {p : ℕ} {start : Start T} {flight : Flight T} (here : Stands t.world p start flight)
    → first_row (going_rows t.world.coding t.world.kept (Some flight) None) ≡ None → ((n : ℕ) → AreOf p (effects p flight n))
    → ((n : ℕ) → (step_in t.world p here.x flight n).wrote ≡ effects p flight n)
    → ((n : ℕ) → (step_in t.world p here.x flight n).after ≡ after_of t.world.coding flight n)
    → CallGoesOn code kind capacity words effects t p flight
goes_on_so {effects = effects} {t = t} {p = p} {flight = flight} here may own writes goes =
    record {
      may = may;
      own = own;
      writes = λ x n found. at_found here (λ z. (step_in t.world p z flight n).wrote ≡ effects p flight n) (writes n) x found;
      goes = λ x n found. at_found here (λ z. (step_in t.world p z flight n).after ≡ after_of t.world.coding flight n) (goes n) x found;
    }

-- by the laws of a kind whose calls go on by their stage alone, a call goes on by its flight alone
pub goes_by_flight : {T : Type 0} {code : Coding T} {kind : Kind} {capacity words : ℕ} {effects : World T → ℕ → Flight T → ℕ → List (Event T)}
    → MachineLaws code kind capacity words effects → (t : Trace T) → IsRun code kind capacity t → (p : ℕ) (flight : Flight T) (n : ℕ)
    → goes_of code p flight n t.world.kept ≡ after_of code flight n
goes_by_flight {code = code} laws t run p flight n = goes_alike code p flight n t.world.kept (laws.stateless t run)

-- machines of one kind and coding, of any capacity, with the laws of the kind
pub record MachinesOf {T F : Type 0} (Laws : Coding T → Kind → ℕ → ℕ → F → Type 0) : Type 0 where
  pub code : Coding T
  pub kind : Kind
  -- what the steps of their calls write, and how many words a machine of each capacity has
  pub effects : F
  pub size_of : ℕ → ℕ
  pub laws : (capacity : ℕ) → Laws code kind capacity (size_of capacity) effects

-- machines of a kind whose calls may go on by what the machine keeps
abbrev pub Machines : Type 0 → Type 0
Machines T = MachinesOf {T = T} KeptLaws

-- machines of a kind whose calls go on by their stage alone
abbrev pub SteadyMachines : Type 0 → Type 0
SteadyMachines T = MachinesOf {T = T} MachineLaws

-- machines of a kind whose parties write for themselves alone
abbrev pub LoneMachines : Type 0 → Type 0
LoneMachines T = MachinesOf {T = T} KindLaws

-- machines whose calls go on by their stage alone are also machines whose calls may go on by what the machine keeps
abbrev pub kept_machines : {T : Type 0} → SteadyMachines T → Machines T
kept_machines m =
    record {
      code = m.code;
      kind = m.kind;
      effects = m.effects;
      size_of = m.size_of;
      laws = λ capacity. kept_laws m.code m.kind capacity (m.size_of capacity) m.effects (m.laws capacity);
    }

-- machines whose parties write for themselves alone go on by their stage alone
abbrev pub steady_machines : {T : Type 0} → LoneMachines T → SteadyMachines T
steady_machines m =
    record {
      code = m.code;
      kind = m.kind;
      effects = λ w. m.effects;
      size_of = m.size_of;
      laws = λ capacity. machine_laws m.code m.kind capacity (m.size_of capacity) m.effects (m.laws capacity);
    }
