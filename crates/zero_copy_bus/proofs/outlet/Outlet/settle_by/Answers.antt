-- `Outlet::settle_by` (src/outlet.rt): its return meets the clause `settled`.
use Rattle.std.proofs.Common.{◌≡◌, ◌↔◌, ◌&&◌, ◌⊎◌, inr, Bool, true, false, true≢false, IsTrue, List, sym, ap, subst, ◌∙◌, ⊎_elim}
use Rattle.std.proofs.lemmas.Bool.{and_parts}
use Rattle.std.specs.Int.{bit_at}
use Rattle.zero_copy_bus.specs.declared.holders.Holders.{Holders}
use Rattle.zero_copy_bus.specs.declared.outlet.Outlet.{Outlet}
use Rattle.zero_copy_bus.specs.declared.roll.Roll.{Roll}
use Rattle.zero_copy_bus.specs.Books.{HasNone, holders_at}
use Rattle.zero_copy_bus.specs.Outlets.{has_end, holder_of, is_lost, is_open, lets, place_of, takes_view, waits_queue, FoundEmpty}
use Rattle.zero_copy_bus.specs.Outlets.{IsFree, IsSettled, SamePasses, WasDrained}
use Rattle.zero_copy_bus.specs.Rolls.{IsShown}
use Rattle.zero_copy_bus.proofs.outlet.Outlet.settle_by.Goals as goal
use Rattle.zero_copy_bus.proofs.outlet.Outlet.settle_by.Goals.{in-Closed, in-Open+else-not-has_changed}

-- a lane that was not free, settled by whether the roll shows its place
settled : (roll : Roll) (before after : List Holders) (old new : Outlet) (takes : Bool) → lets old.tenancy ≡ true
    → is_open new ≡ (takes && has_end old)
    → (IsTrue takes ↔ IsShown roll (place_of old))
    → (IsTrue takes → SamePasses old new)
    → new.sends ≡ old.sends → waits_queue new ≡ waits_queue old → is_lost new.tenancy ≡ false
    → (IsFree new → HasNone (holder_of old) after × FoundEmpty old new × WasDrained old new)
    → ((IsFree new → ⊥) → after ≡ before) → (takes_view new ≡ takes_view old) ⊎ WasDrained old new → IsSettled roll before after old new
settled roll before after old new takes is_let taking shown same end queue not_lost free kept popped =
    record {
      takes = (
        λ on. (let both = and_parts takes (has_end old) (sym taking ∙ on) in (ap (λ b. b && has_end old) is_let ∙ both.1, shown.0 both.0)),
        λ part.
            taking
            ∙ (ap (λ b. b && has_end old) (shown.1 part.1) ∙ (and_parts (lets old.tenancy) (has_end old) part.0).1),
      );
      passes = λ on. same (and_parts takes (has_end old) (sym taking ∙ on)).0;
      end = end;
      queue = queue;
      lost = λ is. absurd (true≢false (sym is ∙ not_lost));
      still =
          λ none.
          ⊎_elim (λ is. absurd (leased is))
          (λ is. absurd (true≢false (sym is_let ∙ ap lets is))) none;
      free = λ none. inr (free none);
      kept = λ stays slot. ap (λ (table : List Holders). bit_at (holders_at table slot).bits (holder_of old).bit) (kept (λ none. leased (stays none)));
      popped = popped;
    }
  where
    leased : IsFree old → ⊥
    leased is = true≢false (sym is_let ∙ ap lets is)

-- the lane was Closed or Open, and so let, when `settle` was called
pub returns-clause-settled : goal.returns-clause-settled
returns-clause-settled g c =
    settled c.args.roll.now _ _ c.args.self.now c.settle.new.self c.has.result is_let c.settle.ensures.taking
    (subst (λ n. IsTrue c.has.result ↔ IsShown c.args.roll.now n) c.place.ensures c.has.ensures) c.settle.ensures.passes
    c.settle.ensures.end c.settle.ensures.queue c.settle.ensures.lost
    c.settle.ensures.free c.settle.ensures.kept c.settle.ensures.popped
  where
    is_let : lets c.args.self.now.tenancy ≡ true
    is_let = elim c.match-self.branch [
      | in-Closed w ↦ ap lets w.in-Closed.is
      | in-Open+else-not-has_changed w ↦ ap lets w.in-Open.is
    ]
