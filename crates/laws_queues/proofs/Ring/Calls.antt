-- What the steps of a push, a pop and a peek of a bounded queue have in common.
use Rattle.laws_queues.proofs.Names.{◌≡◌, ℕ, ◌+◌, ◌≤◌, false, Option, Some, [], get_or, sym, ap, set-get_or}
use Rattle.laws_queues.proofs.Names.{Ask, Load, GoOn, RingCall, Quiet, QueueStart, Queues, Coding, Open, ask_of, old_of}
use Rattle.laws_queues.proofs.Names.{words_after, step_count}
use Rattle.std.proofs.Common.{arith}
use Rattle.laws_queues.proofs.Queues.Core.{Core, Good}
use Rattle.laws_queues.proofs.Queues.Invariant.{Scene}
use Rattle.laws_queues.proofs.Queues.Knows.{layout, At}
use Rattle.laws_queues.proofs.Queues.Stages.{TakesStep, cell_asked, DoesStep, Stays, SameQueue, quiet}
use Rattle.laws_queues.proofs.Queues.Values.{Val}
use Rattle.laws_queues.proofs.Ring.Kinds.{Ring, kind_of, Room, words_in, with_word, flight, enc, ring_want, ring_after, ring_effect}
use Rattle.laws_queues.proofs.Ring.Kinds.{calm, wrote_none, number, cells_are}
use Rattle.laws_queues.proofs.Ring.Knows.{ring_number}

-- The party `p` has a call under way. `c` is the capacity, `k` the queue before the step (positions, values that wait, cells).
module _ {T : Type 0} {en : Coding T} (r : Ring) {scene : Scene T (kind_of r)} (takes : TakesStep en (kind_of r) scene) where
  open scene use {capacity as c, roles as ro, core as k, party as p, steps, backs, since, changes, events}
  open takes use {inv, no_backs, before}

  -- the queue before the step is right
  pub good_before : Good (enc en r).size (enc en r).words_of c k
  good_before = rw (← cells_are r c) inv.queue.good

  -- the next step of this call keeps the invariant (`Shows`, Queues/Invariant)
  abbrev pub RingStep : QueueStart T → RingCall (Val T (kind_of r)) (Room r) → Type 0
  RingStep start call =
      DoesStep en (kind_of r) scene [] start (ask_of (ring_want en r call)) false
      (ring_after en r call (old_of (layout ro k) (ask_of (ring_want en r call)))) (ring_effect en r call)

  -- a step that changes at most the cells of the queue, with which the call goes on, keeps the invariant
  pub leads_on : (start : QueueStart T) (ask : Option Ask) (call : RingCall (Val T (kind_of r)) (Room r)) {k' : Core (Val T (kind_of r))}
      → SameQueue en (kind_of r) scene k' → words_after (layout ro k) ask ≡ layout ro k' → At en (kind_of r) c ro k' p start (flight r call)
      → steps + step_count ask ≤ ring_number (enc en r) (words_in r) call → Stays en (kind_of r) scene start ask false (GoOn (flight r call)) Quiet
  leads_on start ask call {k'} same words at most =
      quiet inv before same (record {
        start = start;
        ask = ask;
        back = false;
        flight = flight r call;
        calm = calm T r k.read call;
        words = words;
        here = record {
          span = ap (λ es. Open (Queues start) es) (sym (wrote_none r c k' p call));
          steps = rw (number en r call (backs + 0)) most;
          at = at;
        };
        knows = grind arith;
      })

  -- the load of the word `i` of the cell of the read position
  abbrev pub word_load : ℕ → Option Ask
  word_load i = Some (record { word = cell_asked (enc en r).size c k.read i; op = Load })

  -- a load leaves the words as they are
  pub word_stays : (i : ℕ) → words_after (layout ro k) (word_load i) ≡ layout ro k
  word_stays i = set-get_or (layout ro k) (cell_asked (enc en r).size c k.read i) 0

  -- the room with the word that this load finds
  abbrev pub with_loaded : Room r → ℕ → Room r
  with_loaded room i = with_word r room i (get_or (layout ro k) (cell_asked (enc en r).size c k.read i) 0)
