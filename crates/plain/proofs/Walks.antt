-- Walks: that a call, run alone, stops within a number of steps with a property of the stop. The walk of a
-- call within another gives that of the outer call, and a walk gives `Halts` or `Runs`.
use Rattle.std.proofs.Common.{◌≡◌, ℕ, zero, suc, ◌+◌, ◌^◌, ◌-◌, ◌≤◌, List, refl, sym, subst, arith}
use Rattle.plain.proofs.Names.{Want, After, GoOn, Done}
use Rattle.plain_queues.specs.declared.drive.Stop.{Stop}
use Rattle.plain_queues.specs.declared.drive.Stop.TheVariants.{Asked, Ended}
use Rattle.plain_queues.specs.Alone.{answer_in, words_then, room_then, goes, stepped, StopsFrom, StopsIn}
use Rattle.plain_queues.proofs.Alone.{Runs, Halts}

-- a sum that computes in its first number, as a number of steps has to
abbrev pub plus : ℕ → ℕ → ℕ
plus zero n = n
plus (suc m) n = suc (plus m n)

-- `plus` is the sum
pub plus_sum : (m n : ℕ) → plus m n ≡ m + n
plus_sum zero n = omega arith
plus_sum (suc m) n = omega (arith, plus_sum m n)

module _ {C E : Type 0} where
  -- after a step: P holds of the stop if the call has stopped, and `rest` holds of the call if it goes on
  abbrev pub WalksFrom : (C → List ℕ → Type 0) → (Stop C E → List ℕ → Type 0) → After C (Stop C E) → List ℕ → Type 0
  WalksFrom rest P (GoOn d) words = rest d words
  WalksFrom rest P (Done s) words = P s words

  -- the stop is an end, of which P holds; it is no question
  abbrev pub OnEnd : (E → List ℕ → Type 0) → Stop C E → List ℕ → Type 0
  OnEnd P (Ended e) words = P e words
  OnEnd P (Asked question call) words = ⊥

  -- what follows for each call that goes on follows after a step
  from_map : (rest more : C → List ℕ → Type 0) (P : Stop C E → List ℕ → Type 0) (a : After C (Stop C E)) (words : List ℕ)
      → ((d : C) → rest d words → more d words) → WalksFrom rest P a words → WalksFrom more P a words
  from_map rest more P (GoOn d) words more_of walks_from = more_of d walks_from
  from_map rest more P (Done s) words more_of walks_from = walks_from

module _ {C E : Type 0} (want : C → Want (Unit {0})) (after : C → ℕ → After C E) where
  -- run alone from these words the call stops within n steps, and P holds of the stop and of the words then
  abbrev pub Walks : ℕ → (Stop C E → List ℕ → Type 0) → C → List ℕ → Type 0
  Walks zero P call words = ⊥
  Walks (suc n) P call words =
      WalksFrom (Walks n P) P (stepped (want call) call (after call (answer_in words (want call)))) (words_then words (want call))

  -- what a step has answered stops at once or within n steps more, and P holds of the stop
  -- and of the words then
  abbrev pub WalksOn : ℕ → (Stop C E → List ℕ → Type 0) → After C E → List ℕ → Type 0
  WalksOn n P a words = WalksFrom (Walks n P) P (goes a) words

  -- a walk within n steps is a walk within one step more
  longer_by_one : (n : ℕ) (P : Stop C E → List ℕ → Type 0) (call : C) (words : List ℕ)
      → Walks n P call words → Walks (suc n) P call words
  longer_by_one zero P call words walks = absurd walks
  longer_by_one (suc n) P call words walks =
      from_map (Walks n P) (Walks (suc n) P) P (stepped (want call) call (after call (answer_in words (want call)))) (words_then words (want call))
      (λ d u. longer_by_one n P d (words_then words (want call)) u) walks

  -- a walk within n steps is a walk within m + n steps
  pub longer : (m n : ℕ) (P : Stop C E → List ℕ → Type 0) (call : C) (words : List ℕ)
      → Walks n P call words → Walks (plus m n) P call words
  longer zero n P call words walks = walks
  longer (suc m) n P call words walks =
      longer_by_one (plus m n) P call words (longer m n P call words walks)

  -- what a step has answered and stops within n steps stops within m + n steps
  pub goes_longer : (m n : ℕ) (P : Stop C E → List ℕ → Type 0) (a : After C E) (words : List ℕ)
      → WalksOn n P a words → WalksOn (plus m n) P a words
  goes_longer m n P a words walked =
      from_map (Walks n P) (Walks (plus m n) P) P (goes a) words (λ d u. longer m n P d words u) walked

-- Low holds of the call that a step leads to, if the call goes on
module _ {C E : Type 0} (Low : C → Type 0) where
  -- what holds after a step: Low of the call, if it goes on
  abbrev pub LowThen : After C E → Type 0
  LowThen (GoOn d) = Low d
  LowThen (Done e) = Unit {0}

-- what holds of every call holds of the one that a step leads to
pub any_low : {C E : Type 0} (a : After C E) → LowThen (λ d. Unit {0}) a
any_low (GoOn d) = tt
any_low (Done e) = tt

-- A call within another: each step of the inner call is a step of the outer one, and the outer call goes on
-- from the end of the inner. Low is a property that the inner call keeps at each step.
pub record Within (C E D X : Type 0) : Type 1 where
  -- what the outer call asks for and what an answer makes of it, and the same of the inner call
  pub want : C → Want (Unit {0})
  pub after : C → ℕ → After C E
  pub part_want : D → Want (Unit {0})
  pub part_after : D → ℕ → After D X
  -- the outer call at a stage of the inner one, and what the outer call makes of a step of the inner one
  pub within : D → C
  pub lift : After D X → After C E
  pub Low : D → Type 0
  pub low_on : (d : D) (old : ℕ) → Low d → LowThen Low (part_after d old)
  pub wants_so : (d : D) → want (within d) ≡ part_want d
  pub goes_so : (d : D) (old : ℕ) → Low d → after (within d) old ≡ lift (part_after d old)
  pub lifts : (d : D) → lift (GoOn d) ≡ GoOn (within d)

module _ {C E D X : Type 0} (part : Within C E D X) where
  open part use {want, after, part_want, part_after, within, lift, Low, low_on, wants_so, goes_so, lifts}

  -- from the inner call's end x the outer call goes on and stops within n steps, and P holds of the stop
  abbrev pub OuterWalksOn : ℕ → (Stop C E → List ℕ → Type 0) → X → List ℕ → Type 0
  OuterWalksOn n P x words = WalksOn want after n P (lift (Done x)) words

  -- After a step of the inner call the outer one stops within m + n steps: m bounds the steps of the inner
  -- call, and n those of the outer call after them.
  part_goes : (m n : ℕ) (P : Stop C E → List ℕ → Type 0) (a : After D X) (words : List ℕ) → LowThen Low a
      → ((d : D) → Low d → Walks part_want part_after m (OnEnd (OuterWalksOn n P)) d words → Walks want after (plus m n) P (within d) words)
      → WalksOn part_want part_after m (OnEnd (OuterWalksOn n P)) a words
      → WalksOn want after (plus m n) P (lift a) words
  part_goes m n P (GoOn d) words low later walked =
      subst (λ a. WalksOn want after (plus m n) P a words) (sym (lifts d)) (later d low walked)
  part_goes m n P (Done x) words low later walked = goes_longer want after m n P (lift (Done x)) words walked

  -- `part_goes` for a step of any kind: an operation, a question or none
  part_from : (m n : ℕ) (P : Stop C E → List ℕ → Type 0) (w : Want (Unit {0})) (d : D) (a : After D X) (words : List ℕ) → LowThen Low a
      → ((e : D) → Low e → Walks part_want part_after m (OnEnd (OuterWalksOn n P)) e words → Walks want after (plus m n) P (within e) words)
      → WalksFrom (Walks part_want part_after m (OnEnd (OuterWalksOn n P))) (OnEnd (OuterWalksOn n P)) (stepped w d a) words
      → WalksFrom (Walks want after (plus m n) P) P (stepped w (within d) (lift a)) words
  part_from = grind (arith, part_goes)

  -- a walk of the inner call to an end from which the outer call goes on is a walk of the outer call
  pub part_walks : (m n : ℕ) (P : Stop C E → List ℕ → Type 0) (d : D) (words : List ℕ) → Low d
      → Walks part_want part_after m (OnEnd (OuterWalksOn n P)) d words → Walks want after (plus m n) P (within d) words
  part_walks zero n P d words low walks = absurd walks
  part_walks (suc m) n P d words low walks =
      subst (λ w. WalksFrom (Walks want after (plus m n) P) P
      (stepped w (within d) (after (within d) (answer_in words w))) (words_then words w))
      (sym (wants_so d))
      (subst (λ a. WalksFrom (Walks want after (plus m n) P) P (stepped (part_want d) (within d) a) (words_then words (part_want d)))
      (sym (goes_so d (answer_in words (part_want d)) low))
      (part_from m n P (part_want d) d (part_after d (answer_in words (part_want d))) (words_then words (part_want d))
      (low_on d (answer_in words (part_want d)) low)
      (λ e less u. part_walks m n P e (words_then words (part_want d)) less u) walks))

-- A walk of a call without a room is a run of the driver.
module _ {C G E : Type 0} (want_of : C → G → Want (Unit {0})) (after : C → G → ℕ → After C E) (given : G) where
  -- the driver stops within n steps, and P holds of the stop and of the words then
  abbrev DriverStops : ℕ → (Stop C E → List ℕ → Type 0) → C → Unit {0} → List ℕ → Type 0
  DriverStops n P call room words =
      (s : Stop C E) × (r : Unit {0}) × (ws : List ℕ) × StopsIn want_of after (λ c (room : Unit {0}) old. room) given n s r ws call room words × P s ws

  -- what a step has answered is found by the driver, if each call that goes on is
  found_from : (n : ℕ) (P : Stop C E → List ℕ → Type 0) (a : After C (Stop C E)) (room : Unit {0}) (words : List ℕ)
      → ((d : C) → Walks (λ c. want_of c given) (λ c old. after c given old) n P d words → DriverStops n P d room words)
      → WalksFrom (Walks (λ c. want_of c given) (λ c old. after c given old) n P) P a words
      → (s : Stop C E) × (r : Unit {0}) × (ws : List ℕ) × StopsFrom want_of after (λ c (room : Unit {0}) old. room) given
      (StopsIn want_of after (λ c (room : Unit {0}) old. room) given n s r ws) a room words s r ws × P s ws
  found_from n P (GoOn d) room words later walks_from = later d walks_from
  found_from n P (Done s) room words later walks_from = (s, room, words, (refl, refl, refl), walks_from)

  -- a walk within n steps gives a stop of the driver within n steps, and P holds of it
  found : (n : ℕ) (P : Stop C E → List ℕ → Type 0) (call : C) (room : Unit {0}) (words : List ℕ)
      → Walks (λ c. want_of c given) (λ c old. after c given old) n P call words → DriverStops n P call room words
  found zero P call room words walks = absurd walks
  found (suc n) P call room words walks =
      found_from n P (stepped (want_of call given) call (after call given (answer_in words (want_of call given))))
      (room_then (want_of call given) room room) (words_then words (want_of call given))
      (λ d u. found n P d (room_then (want_of call given) room room) (words_then words (want_of call given)) u) walks

-- What a walk of a call without a room says of the driver; the walk's property names the call's stop.
module _ {C G E : Type 0} {want_of : C → G → Want (Unit {0})} {after : C → G → ℕ → After C E} {given : G} {call : C} {words : List ℕ} where
  -- a call that is walked within 2^64 - 1 steps halts, with the walk's property of its stop
  pub halts : (n : ℕ) (P : Stop C E → List ℕ → Type 0) → n ≤ 2 ^ 64 - 1
      → Walks (λ c. want_of c given) (λ c old. after c given old) n P call words
      → Halts want_of after (λ c (room : Unit {0}) old. room) given (λ s room ws. P s ws) call tt words
  halts n P few walks =
      let f = found want_of after given n P call tt words walks in
      record { steps = n; few = few; stop = f.0; last_room = f.1; last_words = f.2; stops = f.3; holds = f.4 }

  -- a stop of the driver that is an end is a run of the call
  ended : (n : ℕ) (P : E → List ℕ → Type 0) → n ≤ 2 ^ 64 - 1 → DriverStops want_of after given n (OnEnd P) call tt words
      → Runs want_of after (λ c (room : Unit {0}) old. room) given (λ e room ws. P e ws) call tt words
  ended n P few (Ended e, r, ws, stops, holds) =
      record { steps = n; few = few; end = e; last_room = r; last_words = ws; ends = stops; holds = holds }
  ended n P few (Asked question asks, r, ws, stops, holds) = absurd holds

  -- a call that is walked to its end within 2^64 - 1 steps runs, with the walk's property of its end
  pub runs : (n : ℕ) (P : E → List ℕ → Type 0) → n ≤ 2 ^ 64 - 1
      → Walks (λ c. want_of c given) (λ c old. after c given old) n (OnEnd P) call words
      → Runs want_of after (λ c (room : Unit {0}) old. room) given (λ e room ws. P e ws) call tt words
  runs n P few walks = ended n P few (found want_of after given n (OnEnd P) call tt words walks)
