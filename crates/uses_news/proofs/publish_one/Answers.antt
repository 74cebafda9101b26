-- `publish_one` (src/main.rt): its call of `publish` meets what that requires, and its return meets the clauses `out` and `few`.
use Rattle.std.proofs.Common.{◌≡◌, ◌+◌, ◌≤◌, refl, ap, sym, ◌∙◌, arith, rules, replicate}
use Rattle.std.proofs.lemmas.Grind.{common_steps}
use Rattle.zero_copy_bus.specs.Ends.{next_of}
use Rattle.zero_copy_bus.proofs.Published.{next_most, published_none, published_one, published_then, published_tried}
use Rattle.uses_news.specs.Marks.{mark}
use Rattle.uses_news.proofs.publish_one.Goals as goal

-- the block is full of the mark of the next number, and that number is below 100
pub publish-requires : goal.publish-requires
publish-requires g c =
    let same : next_of c.loan_within.new.self ≡ c.next_number-number.result = c.loan_within.ensures.tried.next ∙ sym c.next_number-number.ensures in
    record {
      fits = (
        c.fill.ensures (first_of (search rules, grind (arith, common_steps))) ∙ ap (λ n. replicate 8192 (mark n)) (sym same),
        omega (arith, same, c.if-number-ge-BLOCKS.false),
      );
    }

pub returns-then-number-ge-BLOCKS-clause-out : goal.returns-then-number-ge-BLOCKS-clause-out
returns-then-number-ge-BLOCKS-clause-out g c = published_none _ _ refl refl refl

-- the tries to loan published nothing, and then one record was published
pub returns-clause-out : goal.returns-clause-out
returns-clause-out g c =
    let sent = c.publish.ensures in
    published_then _ _ _ (published_tried c.args.publisher.now c.loan_within.new.self c.loan_within.ensures.tried)
    (published_one _ c.loan_within.new.self c.publish.new.self c.in_ok-loan.ensures.can sent.same.layout
    sent.taking sent.served sent.next sent.unsent (λ no. (sent.last no).1))

-- the next number rises by 1 at most, from a number below 100
pub returns-clause-few : goal.returns-clause-few
returns-clause-few g c before =
    let sent = c.publish.ensures in
    let most : next_of c.publish.new.self ≤ next_of c.loan_within.new.self + 1 =
    next_most _ c.loan_within.new.self c.publish.new.self sent.next (λ no. (sent.last no).1) in
    let same : next_of c.loan_within.new.self ≡ c.next_number-number.result = c.loan_within.ensures.tried.next ∙ sym c.next_number-number.ensures in
    omega (arith, c.if-number-ge-BLOCKS.false)

pub returns-in_err-loan-clause-out : goal.returns-in_err-loan-clause-out
returns-in_err-loan-clause-out g c = published_tried c.args.publisher.now c.loan_within.new.self c.loan_within.ensures.tried

pub returns-in_err-loan-clause-few : goal.returns-in_err-loan-clause-few
returns-in_err-loan-clause-few g c before = let same = c.loan_within.ensures.tried.next in omega arith

pub returns-then-not-fill-clause-out : goal.returns-then-not-fill-clause-out
returns-then-not-fill-clause-out g c = published_tried c.args.publisher.now c.loan_within.new.self c.loan_within.ensures.tried

pub returns-then-not-fill-clause-few : goal.returns-then-not-fill-clause-few
returns-then-not-fill-clause-few g c before = let same = c.loan_within.ensures.tried.next in omega arith
