-- `visit_word` (src/mpmc/bit_set/calls.rt): its call of `call_where` meets what that requires, each iteration keeps the invariant of its
-- loop, and its return meets what it ensures.
use Rattle.lock_free_sets.proofs.Names.{◌≡◌, ◌≢◌, ◌+◌, ◌-◌, rules, sym, ap, subst, ◌∙◌, arith, has_flag}
use Rattle.steps.specs.Bits.Words.{bit_of}
use Rattle.steps.proofs.Flags.Words.{none_stands}
use Rattle.lock_free_sets.specs.Bits.Callable.{Visited}
use Rattle.lock_free_sets.proofs.Bits.Cleared.{visited_more, visited_rest}
use Rattle.lock_free_sets.proofs.mpmc.bit_set.calls.visit_word.Goals as goal
use Rattle.lock_free_sets.proofs.mpmc.bit_set.calls.visit_word.Given as given

pub call_where-requires : goal.call_where-requires
call_where-requires g c stood =
    c.requires.visits c.loop-bit.bit c.loop-bit.visit c.loop-bit-test.true (sym c.has_flag.ensures ∙ stood) c.loop-bit.invariant.0

-- after one place more the closure was called with those up to it whose flag was found, and the
-- flags that are left are those of the places behind
pub loop-bit-preserved : goal.loop-bit-preserved
loop-bit-preserved g c = (
  visited_more (λ p x q. given.F-step g p x tt q) c.args.found c.args.first c.loop-bit.bit c.args.visit.now (sym c.has_flag.ensures)
      c.call_where.ensures.called c.call_where.ensures.passed c.loop-bit.invariant.0,
  (λ n low high.
      let few = c.loop-bit-test.true in
      let other : bit_of (c.args.first + n) ≢ bit_of (c.args.first + c.loop-bit.bit) = λ e. let same = e in absurd (omega arith) in
      c.without_flag-left.ensures.others (c.args.first + n) other ∙ c.loop-bit.invariant.1 n (omega arith) high),
)

pub returns : goal.returns
returns g c =
    let end : c.loop-bit.bit ≡ 64 = search rules in
    subst (λ n. Visited (λ p x q. given.F-step g p x tt q) c.args.found c.args.first c.args.visit.now n c.loop-bit.visit) end c.loop-bit.invariant.0

-- where no flag is left, the closure was called with all of the 64 places whose flag was found
pub returns-then-left-eq0 : goal.returns-then-left-eq0
returns-then-left-eq0 g c =
    let few = c.loop-bit-test.true in
    let whole : c.loop-bit.bit + (64 - c.loop-bit.bit) ≡ 64 = omega arith in
    subst (λ n. Visited (λ p x q. given.F-step g p x tt q) c.args.found c.args.first c.args.visit.now n c.loop-bit.visit) whole
    (visited_rest (λ p x q. given.F-step g p x tt q) c.args.found c.args.first c.loop-bit.bit (64 - c.loop-bit.bit) c.args.visit.now c.loop-bit.visit
    (λ n low high. sym (c.loop-bit.invariant.1 n low (omega arith))
    ∙ (ap (λ z. has_flag z (c.args.first + n)) c.if-left-eq0.true ∙ none_stands (c.args.first + n)))
    c.loop-bit.invariant.0)
