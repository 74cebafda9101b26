-- `make_outlets` (src/bus.rt): each iteration keeps the invariant of its loop.
use Rattle.std.proofs.Common.{◌≡◌, ◌+◌, [], ◌∷◌, ◌++◌, Ok, Err, length, if◌then◌else◌, true, false, true≢false, arith, refl, sym, subst, ◌∙◌, ap, vec_len}
use Rattle.std.specs.Prelude.{Result}
use Rattle.std.specs.Result.{is_err, is_ok}
use Rattle.zero_copy_bus.specs.Holders.{bit_of}
use Rattle.zero_copy_bus.specs.Outlets.{holder_of, holders_in, open_in, AllNew, HaveTheirPlaces, NobodyTakesPart}
use Rattle.zero_copy_bus.proofs.LaneLemmas.{closed_more, placed_more}
use Rattle.zero_copy_bus.proofs.LanesStay.{new_more}
use Rattle.zero_copy_bus.proofs.bus.make_outlets.Goals as goal

-- a result that is no error is Ok
is_fine : {A E : Type 0} (r : Result A E) → is_err r ≡ false → is_ok r ≡ true
is_fine (Ok x) e = refl
is_fine (Err x) e = absurd (true≢false e)

-- one more end is appended, whose holder has the bit place + 1
pub loop-place-preserved : goal.loop-place-preserved
loop-place-preserved c =
    let was = c.loop-place.invariant in
    let lanes = c.loop-place.outlets.items in
    let lane = c.in-Some-outlet.outlet in
    let fine : is_ok c.push.result ≡ true = is_fine c.push.result (sym c.is_err.ensures.value ∙ c.if-is_err.false) in
    let items : c.push.new.self.items ≡ lanes ++ lane ∷ [] = c.push.ensures.items ∙ ap (λ b. if b then lanes ++ lane ∷ [] else lanes) fine in
    let more : vec_len c.push.new.self ≡ vec_len c.loop-place.outlets + 1 =
    c.push.ensures.len ∙ ap (λ b. if b then vec_len c.loop-place.outlets + 1 else vec_len c.loop-place.outlets) fine in
    let bit : bit_of (holder_of lane) ≡ length lanes + 1 =
    ap bit_of c.in-Some-outlet.ensures.holder
    ∙ (c.in-Some.ensures.bit
    ∙ (let it : c.loop-place.place ≡ length lanes = omega (arith, c.loop-place.outlets.ok.0, was.many) in ap (λ n. n + 1) it)) in
    record {
      many = more ∙ ap (λ n. n + 1) was.many;
      placed = subst (λ xs. HaveTheirPlaces (holders_in xs)) (sym items) (placed_more lanes lane was.placed bit);
      closed = subst (λ xs. NobodyTakesPart (open_in xs)) (sym items) (closed_more lanes lane was.closed c.in-Some-outlet.ensures.closed);
      fresh = subst AllNew (sym items) (new_more lanes lane was.fresh c.in-Some-outlet.ensures.fresh);
    }
