-- A call with a room runs alone: call and room together are walked as one call without a room.
use Rattle.std.proofs.Common.{arith}
use Rattle.std.proofs.Common.{ℕ, zero, suc, ◌^◌, ◌-◌, ◌≤◌, List, refl}
use Rattle.plain.proofs.Names.{Want, After, GoOn, Done}
use Rattle.steps.specs.declared.ask.Want.TheVariants as wants
use Rattle.plain_queues.specs.declared.drive.Stop.{Stop}
use Rattle.plain_queues.specs.declared.drive.Stop.TheVariants.{Asked, Ended}
use Rattle.plain_queues.specs.Alone.{answer_in, words_then, room_then, stepped, StopsFrom, StopsIn}
use Rattle.plain_queues.proofs.Alone.{Runs, Halts}
use Rattle.plain.proofs.Walks.{WalksFrom, Walks, OnEnd}

module _ {C M E : Type 0} where
  -- what a step has answered, with the room after the step
  abbrev pub with_room : M → After C E → After (C × M) (E × M)
  with_room room (GoOn d) = GoOn (d, room)
  with_room room (Done e) = Done (e, room)

  -- P, which is said of call and room as one, said of the stop and the room apart
  abbrev pub Apart : (Stop (C × M) (E × M) → List ℕ → Type 0) → Stop C E → M → List ℕ → Type 0
  Apart P (Ended e) room words = P (Ended (e, room)) words
  Apart P (Asked question call) room words = P (Asked question (call, room)) words

module _ {C G M E : Type 0} (want_of : C → G → Want (Unit {0})) (after : C → G → ℕ → After C E)
    (kept : C → M → ℕ → M) (given : G) where
  -- what the call asks for, of call and room as one
  abbrev pub want_both : C × M → Want (Unit {0})
  want_both z = want_of z.0 given

  -- what an answer makes of call and room as one
  abbrev pub after_both : C × M → ℕ → After (C × M) (E × M)
  after_both z old = with_room (kept z.0 z.1 old) (after z.0 given old)

  -- the driver stops within n steps, and P holds of the stop with its room, and of the words then
  abbrev DriverStops : ℕ → (Stop (C × M) (E × M) → List ℕ → Type 0) → C → M → List ℕ → Type 0
  DriverStops n P call room words =
      (s : Stop C E) × (r : M) × (ws : List ℕ) × StopsIn want_of after kept given n s r ws call room words × Apart P s r ws

  -- what a step has answered is a stop of the driver at once or within n steps more, of which P holds
  abbrev DriverStopsFrom : ℕ → (Stop (C × M) (E × M) → List ℕ → Type 0) → After C (Stop C E) → M → List ℕ → Type 0
  DriverStopsFrom n P a room words =
      (s : Stop C E) × (r : M) × (ws : List ℕ) × StopsFrom want_of after kept given
      (StopsIn want_of after kept given n s r ws) a room words s r ws × Apart P s r ws

  -- a step of call and room as one is a step of the call, which leaves the room as the step says
  found_goes : (n : ℕ) (P : Stop (C × M) (E × M) → List ℕ → Type 0) (w : Want (Unit {0})) (call : C) (a : After C E) (room next : M) (words : List ℕ)
      → ((d : C) → Walks want_both after_both n P (d, next) words → DriverStops n P d next words)
      → WalksFrom (Walks want_both after_both n P) P (stepped w (call, room) (with_room next a)) words
      → DriverStopsFrom n P (stepped w call a) (room_then w room next) words
  found_goes n P (wants.Ask ask) call (GoOn d) room next words later walks_from = later d walks_from
  found_goes n P (wants.Ask ask) call (Done e) room next words later walks_from = (Ended e, next, words, (refl, refl, refl), walks_from)
  found_goes n P (wants.Question question) call a room next words later walks_from = (Asked question call, room, words, (refl, refl, refl), walks_from)
  found_goes n P wants.Nothing call (GoOn d) room next words later walks_from = later d walks_from
  found_goes n P wants.Nothing call (Done e) room next words later walks_from = (Ended e, next, words, (refl, refl, refl), walks_from)

  -- a walk of call and room as one gives a stop of the call, with its room and the words
  found : (n : ℕ) (P : Stop (C × M) (E × M) → List ℕ → Type 0) (call : C) (room : M) (words : List ℕ)
      → Walks want_both after_both n P (call, room) words → DriverStops n P call room words
  found zero P call room words walks = absurd walks
  found (suc n) P call room words walks =
      found_goes n P (want_of call given) call (after call given (answer_in words (want_of call given))) room
      (kept call room (answer_in words (want_of call given))) (words_then words (want_of call given))
      (λ d u. found n P d (kept call room (answer_in words (want_of call given))) (words_then words (want_of call given)) u) walks

  -- a stop of the driver that is an end is a run of the call
  ended : (n : ℕ) (P : E × M → List ℕ → Type 0) (call : C) (room : M) (words : List ℕ) (s : Stop C E) (r : M) (ws : List ℕ)
      → n ≤ 2 ^ 64 - 1 → StopsIn want_of after kept given n s r ws call room words → Apart (OnEnd P) s r ws
      → Runs want_of after kept given (λ e room ws. P (e, room) ws) call room words
  ended = grind arith

-- What a walk of call and room as one says of the call; the walk's property names the stop with its room.
module _ {C G M E : Type 0} {want_of : C → G → Want (Unit {0})} {after : C → G → ℕ → After C E}
    {kept : C → M → ℕ → M} {given : G} {call : C} {room : M} {words : List ℕ} where
  -- where call and room as one are walked within 2^64 - 1 steps, the call halts, with the walk's property of
  -- its stop and room
  pub halts_both : (n : ℕ) (P : Stop (C × M) (E × M) → List ℕ → Type 0) → n ≤ 2 ^ 64 - 1
      → Walks (want_both want_of after kept given) (after_both want_of after kept given) n P (call, room) words
      → Halts want_of after kept given (Apart P) call room words
  halts_both n P few walks =
      let f = found want_of after kept given n P call room words walks in
      record { steps = n; few = few; stop = f.0; last_room = f.1; last_words = f.2; stops = f.3; holds = f.4 }

  -- where call and room as one are walked to an end within 2^64 - 1 steps, the call runs, with the walk's
  -- property of its end and room
  pub runs_both : (n : ℕ) (P : E × M → List ℕ → Type 0) → n ≤ 2 ^ 64 - 1
      → Walks (want_both want_of after kept given) (after_both want_of after kept given) n (OnEnd P) (call, room) words
      → Runs want_of after kept given (λ e room ws. P (e, room) ws) call room words
  runs_both = grind (arith, found, ended)
