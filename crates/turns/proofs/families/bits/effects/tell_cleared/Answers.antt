-- `tell_cleared` (src/families/bits/effects.rt): each iteration keeps the invariant of its loop,
-- and its return meets the clause `items`.
use Rattle.std.proofs.Common.{◌≡◌, ◌+◌, ◌++◌, ◌∷◌, [], sym, ap, ◌∙◌, append_assoc, arith}
use Rattle.std.specs.Prelude.{vec_len, vec_capacity}
use Rattle.model.specs.declared.event.Event.TheVariants.{Cleared}
use Rattle.turns.proofs.Places.{clears_so_far, stood_more, clear_more}
use Rattle.turns.proofs.families.bits.effects.tell_cleared.Goals as goal
use Rattle.turns.proofs.families.bits.effects.tell_cleared.Goals.{then-has_flag, else-has_flag}

-- after one bit more the events are those of the bits up to it whose flag was found, and they still have room
-- for one of each bit
pub bits-preserved : goal.bits-preserved
bits-preserved g c =
    let number = c.args.number in
    let found = c.args.found in
    let first = c.first_place-first.result in
    let bit = c.bits.bit in
    let few = c.bits.invariant.1 in
    let same = c.bits.invariant.2 in
    elim c.if-has_flag.branch [
      -- the flag of this bit was found: its event is written
      | then-has_flag w ↦
          let stood = sym c.has_flag.ensures ∙ w.if-has_flag.true in
          let now =
          ap (λ v. v.items) w.events-is
          ∙ (w.push_reserved.ensures.items
          ∙ (ap (λ xs. xs ++ Cleared number (first + bit) ∷ []) c.bits.invariant.0
          ∙ (append_assoc c.args.events.now.items (clears_so_far number found first bit) (Cleared number (first + bit) ∷ [])
          ∙ ap (λ xs. c.args.events.now.items ++ xs) (sym (stood_more number found first bit stood))))) in
          let long = ap (λ v. vec_len v) w.events-is in
          let room = ap (λ v. vec_capacity v) w.events-is in
          let longer = w.push_reserved.ensures.len in
          let kept = w.push_reserved.ensures.capacity in
          (now, omega arith, omega arith)
      -- the flag of this bit was not found: no event is written
      | else-has_flag w ↦
          let clear = sym c.has_flag.ensures ∙ w.if-has_flag.false in
          let now =
          ap (λ v. v.items) w.events-is
          ∙ (c.bits.invariant.0 ∙ ap (λ xs. c.args.events.now.items ++ xs) (sym (clear_more number found first bit clear))) in
          let long = ap (λ v. vec_len v) w.events-is in
          let room = ap (λ v. vec_capacity v) w.events-is in
          (now, omega arith, omega arith)
    ]

-- in the end the events are those of all bits whose flag was found
pub returns-clause-items : goal.returns-clause-items
returns-clause-items g c =
    let all : c.bits.bit ≡ 64 = omega arith in
    c.bits.invariant.0
    ∙ (ap (λ n. c.args.events.now.items ++ clears_so_far c.args.number c.args.found c.first_place-first.result n) all
    ∙ ap (λ n. c.args.events.now.items ++ clears_so_far c.args.number c.args.found n 64) c.first_place-first.ensures)
