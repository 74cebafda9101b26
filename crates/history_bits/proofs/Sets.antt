-- Bit sets and counting bit sets as tables that are machines: what their calls write (`set_effects`), where
-- each step leads, and how a call begins.
use Rattle.history.proofs.Names.{◌≡◌, ℕ, ◌+◌, ◌-◌, ◌^◌, ◌<◌, ◌≤◌, nat_lt, false, Option, Some, None, IfSome, List, [], ◌∷◌}
use Rattle.history.proofs.Names.{length, replicate, refl, sym, ap, subst, ◌∙◌, arith, sum_by, AllByRecursion}
use Rattle.history.proofs.Names.{nat_tests, elements}
use Rattle.model.specs.declared.event.Event.{Event}
use Rattle.model.specs.declared.event.Start.{Start}
use Rattle.model.specs.declared.families.Flight.{Flight}
use Rattle.model.specs.declared.families.Registry.{Registry}
use Rattle.model.specs.declared.families.bits.BitsStart.{BitsStart}
use Rattle.model.specs.declared.families.bits.calls.BitsFlight.{BitsFlight}
use Rattle.history.proofs.Names.{Coding, one_word, opening_of, first_of, begin_rows, step_of, beside_of}
use Rattle.model.specs.declared.turn.Turn.TheVariants.{Next}
use Rattle.history.proofs.Names.{after_of, goes_of, going_rows, IsEffectOf, whose, span_of, first_row}
use Rattle.history.proofs.Names.{IsReachedOn, Trace, stands_there}
use Rattle.laws_bits.proofs.Spans.{wrote_in}
use Rattle.laws_bits.proofs.Counts.Invariant.{counting_set}
use Rattle.laws_bits.proofs.Counts.Justified.{laws as counts_laws}
use Rattle.laws_bits.proofs.Bits.Invariant.{bit_set}
use Rattle.laws_bits.proofs.Bits.Justified.{laws as bits_laws}
use Rattle.atomic_table.specs.Table.{opening}
use Rattle.model.specs.declared.event.Start.TheVariants.{Bits}
use Rattle.model.specs.declared.families.Flight.TheVariants as flights
use Rattle.model.specs.declared.families.Registry.TheVariants as registries
use Rattle.model.specs.declared.turn.Kind.TheVariants as kinds
use Rattle.model.specs.Families.Bits.Steps.{effects_of}
use Rattle.model.proofs.Frame as frame
use Rattle.laws_bits.proofs.Family.{SetOutline, FlightAt, KnowsFlight, number_by, family}
use Rattle.laws_bits.proofs.Laws.{SetLaws, sound_on}
use Rattle.laws_bits.proofs.Laws as sets
use Rattle.history.specs.History.{IsRun, IsMachine, IsReachedAs, call_in, IsLate}
use Rattle.history.specs.declared.view.View.{View}
use Rattle.history.specs.Known.{owned}
use Rattle.history.specs.Stages.{Calling, Starts, rows_as}
use Rattle.history.specs.Views.{first_view}
use Rattle.history.proofs.Known.{AreOf}
use Rattle.history.proofs.Calls.{stands, IsStateless}
use Rattle.history.proofs.Reached.{rows_free}
use Rattle.history.proofs.Starting.{starts_by_last}
use Rattle.history.proofs.Paid.{Pays, progress_within, pays_run}
use Rattle.history.proofs.KindLaws.{CallGoesOn, KindLaws, goes_on_so}
use Rattle.history.proofs.Passes.{opens, one_more}

module _ {T : Type 0} where
  -- what a step of a set's call writes
  abbrev pub set_effects : ℕ → Flight T → ℕ → List (Event T)
  set_effects p (flights.Bits flight) old = effects_of p flight old
  set_effects p flight old = []

  -- an effect of a step is an event of its party
  effect_own : (p : ℕ) (e : Event T) → IsEffectOf (Next p) e → whose e ≡ Some p
  effect_own p e effect_of = grind arith

  -- the effects of a step are events of its party
  pub effects_own : (p : ℕ) (es : List (Event T)) → AllByRecursion (IsEffectOf (Next p)) es → AreOf p es
  effects_own p [] all_hold = tt
  effects_own p (e ∷ es) all_hold = (effect_own p e all_hold.0, effects_own p es all_hold.1)

-- K is the outline of a set's family
module _ {T : Type 0} {K : SetOutline T} (laws : (code : Coding T) (c : ℕ) → SetLaws K code c) (code : Coding T) (capacity words : ℕ)
    (sized : (c : ℕ) (ws : List ℕ) (es : List (Event T)) (turns : ℕ) → c ≡ capacity → K.Holds c ws es turns → length ws ≡ words)
    (on : (t : Trace T) → IsReachedAs K.kind t → IsReachedOn t) where
  -- the machine is one of a run of a set of this kind and capacity
  abbrev IsSetRun : Trace T → Type 0
  IsSetRun t = IsRun code K.kind capacity t

  -- a run of a set keeps the invariant of its laws
  sound : {t : Trace T} → IsSetRun t → frame.Sound (family K t.world.coding t.world.capacity) t
  sound {t} set = sound_on K laws t set.of_kind (on t set.reached)

  -- a machine of a set keeps nothing besides its words
  pub bare : (t : Trace T) → IsSetRun t → t.world.kept ≡ (opening_of K.kind).kept capacity
  bare t set = (sound set).fit.kept ∙ sym ((laws code capacity).bare)

  -- a reached set has as many words as its kind says for its capacity
  size : (t : Trace T) → IsSetRun t → length t.world.words ≡ words
  size t set = let is_sound = sound set in
      ap length is_sound.fit.words ∙ sized t.world.capacity is_sound.state.words t.events t.world.turns set.sized is_sound.holds.0

  -- nothing that is tested of a pending call refuses its step
  no_rows : (t : Trace T) (At : BitsStart → BitsFlight → Type 0) (start : Start T) (flight : Flight T)
      → FlightAt At start flight → first_row (going_rows t.world.coding t.world.kept (Some flight) None) ≡ None
  no_rows t At start flight flight_at = grind arith

  -- how a call on a set goes on does not depend on what the machine keeps
  as_told : (code : Coding T) (p n : ℕ) (At : BitsStart → BitsFlight → Type 0) (kept : Registry T) (start : Start T) (flight : Flight T)
      → FlightAt At start flight → goes_of code p flight n kept ≡ after_of code flight n
  as_told code p n At kept start flight flight_at = grind arith

  -- what the model's step of a call writes is what `set_effects` says
  writes_there : (t : Trace T) (p old : ℕ) (At : BitsStart → BitsFlight → Type 0) (kept : Registry T) (start : Start T) (flight : Flight T)
      → kept ≡ registries.Nothing → FlightAt At start flight
      → (step_of t.world.coding t.world.words (beside_of t.world.words t.world.kept t.world.latest p) p start flight old kept).wrote ≡ set_effects p flight old
  writes_there t p old At kept start flight kept_is_nothing flight_at = grind arith

  -- the effects of a call under way are events of its party
  own_there : (c p old : ℕ) (wrote : List (Event T)) (start : Start T) (flight : Flight T)
      → FlightAt (K.At c wrote) start flight → AreOf p (set_effects p flight old)
  own_there c p old wrote (Bits start) (flights.Bits flight) flight_at =
      effects_own p (effects_of p flight old) ((laws code c).effects p old wrote start flight flight_at)
  own_there c p old wrote start flight flight_at = absurd flight_at

  -- No row refuses a step of a call under way. It leads where the set's table says, and its effects are those of the call and of its party.
  goes_on : (t : Trace T) → IsSetRun t → (p : ℕ) (start : Start T) (flight : Flight T)
      → call_in t.world p ≡ Some (start, flight) → CallGoesOn code K.kind capacity words set_effects t p flight
  goes_on t set p start flight call_is =
      let is_sound = sound set in
      let here = stands t.world p start flight call_is in
      let there = stands_there (family K t.world.coding t.world.capacity) t is_sound p here.x here.since flight here.found here.doing in
      let wrote : List (Event T) = wrote_in (span_of p is_sound.state.events) in
      let mine : FlightAt (K.At t.world.capacity wrote) here.x.start flight = there.at in
      let orders = sets.orders K laws t.world.coding t.world.capacity in
      goes_on_so here (no_rows t (K.At t.world.capacity wrote) here.x.start flight mine)
      (λ n. own_there t.world.capacity p n wrote here.x.start flight mine)
      (λ n. writes_there t p n (K.At t.world.capacity wrote) t.world.kept here.x.start flight is_sound.fit.kept mine)
      (λ n. orders.after t p here.x flight here.since n is_sound here.found here.doing
      ∙ as_told t.world.coding p n (K.At t.world.capacity wrote) t.world.kept here.x.start flight mine)

  -- sets keep the laws of a kind, where nothing is late for a call
  pub sets_owe : ((going : Option (Start T × Flight T)) (late : List (Event T)) → IsLate K.kind going late → late ≡ [])
      → KindLaws code K.kind capacity words set_effects
  sets_owe alone = record { size = size; goes_on = goes_on; alone = alone; stateless = λ t r. subst IsStateless (sym (sound r).fit.kept) tt }

  -- the bounds of a set's calls, as the laws of all kinds need them
  set_bounds : (z : Coding T) (c : ℕ) → frame.Bounds (family K z c)
  set_bounds z c =
      record { most = λ s p backs start flight at. most _ backs start flight at; paid = λ s p events. paid p events s.words }
    where
      -- a call never has more steps left than the model promises of it
      most : (wrote : List (Event T)) (backs : ℕ) (start : Start T) (flight : Flight T) → FlightAt (K.At c wrote) start flight
          → number_by K.number flight backs ≤ K.promise.most_steps c z.size start backs
      most wrote backs (Bits start) (flights.Bits flight) flight_at = (laws z c).most wrote backs start flight flight_at
      most wrote backs start flight flight_at = absurd flight_at

      -- a call that turned back was overtaken by changes of words by others, as often as it turned back
      paid : (p : ℕ) (events : List (Event T)) (words : List ℕ) (since changes backs : ℕ) (flight : Flight T)
          → KnowsFlight (K.Knows p events words since changes backs) flight → backs ≤ changes - since
      paid p events words since changes backs (flights.Bits flight) knows_flight = (laws z c).paid p events words since changes backs flight knows_flight
      paid p events words since changes backs flight knows_flight = absurd knows_flight

  -- each call takes at most the steps that the model promises of a set
  pub set_pays : Pays code K.kind capacity
  set_pays t r =
      (let is_sound = sound r in
      let F = family K t.world.coding t.world.capacity in
      pays_run r (laws code capacity).promise is_sound
      (progress_within r (laws code capacity).promise is_sound (set_bounds t.world.coding t.world.capacity)))

  -- a call of a set begins at any time, as the party that the pass was last, or of the pass's own number
  pub set_starts : {C M E : Type 0} → {call : Calling T C M E} {base : View T} {c : C} {m : M}
      → base.capacity ≡ capacity → ((o : Option ℕ) (p : ℕ) → IfSome o (λ q. q ≡ p) → call.by o p)
      → first_of K.kind capacity call.start ((opening_of K.kind).kept capacity) ≡ Some (call.flight c m)
      → ((p : ℕ) → first_row (begin_rows K.kind capacity ((opening_of K.kind).kept capacity) p call.start) ≡ None)
      → (t : Trace T) (owner : ℕ → ℕ) (j : ℕ) → IsRun code K.kind base.capacity t → owner j ≡ j
      → IfSome base.party (λ p. owner p ≡ j)
      → ((f : Event T → ℕ) → sum_by f base.made ≡ sum_by (owned owner j f) t.events)
      → Starts code K.kind call base c m t owner j
  set_starts {C} {M} {E} {call = call} {base = base} {c = c} {m = m} size by first may t owner j run self party sums =
      starts_by_last by self party first_here may_here
    where
      -- the machine keeps nothing besides its words
      kept : t.world.kept ≡ (opening_of K.kind).kept capacity
      kept = bare t (subst (λ n. IsRun code K.kind n t) size run)

      -- the machine has this call, at its first stage
      first_here : first_of K.kind base.capacity call.start t.world.kept ≡ Some (call.flight c m)
      first_here = grind arith

      -- the machine does not refuse the begin of this call by any party
      may_here : (p : ℕ) → first_row (rows_as K.kind base.capacity t.world.kept p call.start) ≡ None
      may_here p = grind (arith, rows_free, first_row, size, kept)

module _ {T : Type 0} (code : Coding T) (capacity : ℕ) where
  -- counting bit sets keep the laws of a kind
  pub counts_owe : KindLaws code kinds.Counts capacity capacity set_effects
  counts_owe = sets_owe counts_laws code capacity capacity (λ c ws es turns same holds. holds.sized ∙ same) (λ t h. h) (λ going late h. h)

  -- bit sets keep the laws of a kind
  pub bits_owe : KindLaws code kinds.Bits capacity (1 + elements capacity) set_effects
  bits_owe = sets_owe bits_laws code capacity (1 + elements capacity) (λ c ws es turns same holds. holds.sized ∙ ap (λ n. 1 + elements n) same)
      (λ t h. h) (λ going late h. h)

  -- each call takes at most the steps that the model promises of a counting bit set
  pub counts_pays : Pays code kinds.Counts capacity
  counts_pays = set_pays counts_laws code capacity capacity (λ c ws es turns same holds. holds.sized ∙ same) (λ t h. h)

  -- each call takes at most the steps that the model promises of a bit set
  pub bits_pays : Pays code kinds.Bits capacity
  bits_pays = set_pays bits_laws code capacity (1 + elements capacity) (λ c ws es turns same holds. holds.sized ∙ ap (λ n. 1 + elements n) same)
      (λ t h. h)

-- base is what the pass knows, c where the call begins, m its room
module _ {T C M E : Type 0} (code : Coding T) (call : Calling T C M E) (base : View T) (c : C) (m : M)
    (by : (o : Option ℕ) (p : ℕ) → IfSome o (λ q. q ≡ p) → call.by o p) where
  -- the call may begin as a party of the pass on any machine of this kind that fits what the pass made
  abbrev StartsOn : Rattle.model.specs.declared.turn.Kind.Kind → Type 0
  StartsOn kind =
      (t : Trace T) (owner : ℕ → ℕ) (j : ℕ) → IsRun code kind base.capacity t → owner j ≡ j
      → IfSome base.party (λ p. owner p ≡ j)
      → ((f : Event T → ℕ) → sum_by f base.made ≡ sum_by (owned owner j f) t.events)
      → Starts code kind call base c m t owner j

  -- a call on a counting bit set begins as that of the pass's party
  pub counts_starts : first_of kinds.Counts base.capacity call.start
      ((opening_of kinds.Counts).kept base.capacity)
      ≡ Some (call.flight c m)
      → ((p : ℕ) → first_row
      (begin_rows kinds.Counts base.capacity ((opening_of kinds.Counts).kept base.capacity) p call.start)
      ≡ None)
      → StartsOn kinds.Counts
  counts_starts first may = set_starts counts_laws code base.capacity base.capacity (λ c ws es turns same holds. holds.sized ∙ same)
      (λ t h. h) refl by first may

  -- a call on a bit set begins as that of the pass's party
  pub bits_starts : first_of kinds.Bits base.capacity call.start ((opening_of kinds.Bits).kept base.capacity)
      ≡ Some (call.flight c m)
      → ((p : ℕ)
      → first_row (begin_rows kinds.Bits base.capacity ((opening_of kinds.Bits).kept base.capacity) p call.start)
      ≡ None)
      → StartsOn kinds.Bits
  bits_starts first may = set_starts bits_laws code base.capacity (1 + elements base.capacity)
      (λ c ws es turns same holds. holds.sized ∙ ap (λ n. 1 + elements n) same) (λ t h. h) refl by first may

-- ---- how their tables open

module _ (capacity : ℕ) (small : capacity < 2 ^ 32) where
  -- a capacity below 2^32 is admitted
  most : nat_lt (2 ^ 32 - 1) capacity ≡ false
  most = grind (arith, nat_tests)

  -- no capacity is too small
  least : nat_lt capacity 0 ≡ false
  least = grind (arith, nat_tests)

  -- a table of zeros opens as a counting bit set
  pub counts_open : (words : List ℕ) → words ≡ replicate (capacity + 1) 0
      → IsMachine one_word kinds.Counts capacity (opening words [] (first_view capacity))
  counts_open words words_are = grind (arith, opens, one_word, most, least, one_more)

  -- a table of zeros opens as a bit set
  pub bits_open : (words : List ℕ) → words ≡ replicate (1 + elements capacity + 1) 0
      → IsMachine one_word kinds.Bits capacity (opening words [] (first_view capacity))
  bits_open words words_are = grind (arith, opens, one_word, most, least, one_more, elements)
