-- `Container::new` (src/container.rt): its result meets the invariant of its type, and its return meets the clause `map`.
use Rattle.std.proofs.Common.{rules, ◌∙◌, sym, subst, arith}
use Rattle.plain.specs.Contents.{IsFilled}
use Rattle.plain.proofs.Elements.Filled.{filled_opened}
use Rattle.plain.proofs.Elements.Opens.{opens_grown}
use Rattle.plain.proofs.container.Container.new.Goals as goal

pub returns-clause-map : goal.returns-clause-map
returns-clause-map g c =
    let total = c.total_words.ensures in
    opens_grown g.T.Words.value_of g.T.Words.WORDS c.args.capacity c.args.id c.resize.result c.in-Ok.words.items _ c.total_words.result c.in-Ok.words.len
    (c.in-Ok.ensures.items_if_clones_equal (λ y e. e)) c.resize.ensures.items (sym c.is_err.ensures.value ∙ c.if-is_err.false) (omega arith)

-- the result meets the invariant of its type
pub invariant_of-result : goal.invariant_of-result
invariant_of-result g c = (
  record { long = search rules; some = search rules; few = search rules; small = search rules },
  let total = c.total_words.ensures in
      subst IsFilled
      (sym (opens_grown g.T.Words.value_of g.T.Words.WORDS c.args.capacity c.args.id c.resize.result c.in-Ok.words.items
      _ c.total_words.result c.in-Ok.words.len
      (c.in-Ok.ensures.items_if_clones_equal (λ y e. e)) c.resize.ensures.items (sym c.is_err.ensures.value ∙ c.if-is_err.false) (omega arith)))
      (filled_opened c.args.capacity c.args.id),
)
