-- `set_both` (src/acts.rt): its return meets what it ensures (`ActedInOrder`).
use Rattle.std.proofs.Common.{◌≡◌, ℕ, Bool, true, false, [], sym, ap, subst, ◌∙◌, append-nil}
use Rattle.model.specs.declared.event.Answer.TheVariants.{Truth}
use Rattle.model.specs.declared.event.Start.TheVariants.{Bits}
use Rattle.model.specs.declared.families.bits.BitsStart.TheVariants.{Set}
use Rattle.model.specs.declared.turn.Kind.TheVariants as kinds
use Rattle.history_bits.specs.Acts.{ActsByPlace}
use Rattle.history.specs.Order.{EndsNone}
use Rattle.lock_free.specs.Bits.Calls.{SetId, capacity_of, history, set_of, view}
use Rattle.lock_free.specs.Bits.Stages.{set_wrote}
use Rattle.lock_free.specs.Coding.{one_word}
use Rattle.lock_free.proofs.Sums.{seen_begins}
use Rattle.uses_laws.proofs.acts.set_both.Goals as goal

-- what a set writes ends no call
set_ends_none : (p place : ℕ) (answer : Bool) → EndsNone p (set_wrote {T = ℕ} p place answer)
set_ends_none p place true = tt
set_ends_none p place false = tt

-- both calls stand in an order of all acts, with their answers, and the first ended before the second began
pub returns : goal.returns
returns g c =
    let first = c.args.first in
    let second = c.args.second in
    let old = view c.args.pass.now in
    let between = view c.set-one.new.pass in
    let pass = c.set-two.new.pass in
    let new = view pass in
    let one = c.set-one.ensures.added.added in
    let two = c.set-two.ensures.added.added in
    let since = seen_begins two.by (Bits (Set second)) (Truth c.set-two.result) (set_wrote two.by second c.set-two.result) between new two.called in
    -- both calls stand in the history
    let x =
    c.calls_stand.ensures one.by (Bits (Set first)) (Truth c.set-one.result) (set_wrote one.by first c.set-one.result) old between one.called
    (set_ends_none one.by first c.set-one.result) new.seen since in
    let y =
    c.calls_stand.ensures two.by (Bits (Set second)) (Truth c.set-two.result) (set_wrote two.by second c.set-two.result) between new two.called
    (set_ends_none two.by second c.set-two.result) new.seen (record { rest = []; is = sym (append-nil new.seen) }) in
    -- all threads' acts have an order, place by place
    let size : (set_of pass).capacity ≡ capacity_of c.args.set.now =
    ap (λ (z : SetId). z.capacity) (c.set-two.ensures.same.set ∙ (c.set-one.ensures.same.set ∙ c.requires.pass)) in
    let acts : ActsByPlace kinds.Bits (capacity_of c.args.set.now) new.seen =
    subst (λ n. ActsByPlace kinds.Bits n new.seen) size
    (c.histories_act.ensures one_word kinds.Bits (set_of pass).capacity (history pass) tt c.history.ensures.history) in
    record {
      acts = acts;
      by = one.by;
      then_by = two.by;
      between = between;
      first_call = x;
      second_call = y;
      order =
          c.calls_are_in_order.ensures one.by two.by (Bits (Set first)) (Bits (Set second)) (Truth c.set-one.result) (Truth c.set-two.result)
          old between between new new.seen x y (record { rest = []; is = sym (append-nil between.seen) });
    }
