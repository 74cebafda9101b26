-- `with_flag` (src/bits/flags.rt): its return meets the clauses `stands` and `others`.
use Rattle.std.proofs.Common.{◌≡◌, sym, subst}
use Rattle.std.specs.Prelude.{IsTrue, bit_or}
use Rattle.steps.specs.Bits.Words.{has_flag}
use Rattle.steps.proofs.Flags.Words.{with_stands, with_leaves}
use Rattle.steps.proofs.bits.flags.with_flag.Goals as goal

-- the flag of the place stands in the word that is returned
pub returns-clause-stands : goal.returns-clause-stands
returns-clause-stands c =
    subst (λ flag. IsTrue (has_flag (bit_or c.args.element flag) c.args.place)) (sym c.flag_of.ensures)
    (with_stands c.args.element c.args.place)

-- the flags of other bits are as in the word that was given
pub returns-clause-others : goal.returns-clause-others
returns-clause-others c other ne =
    subst (λ flag. has_flag (bit_or c.args.element flag) other ≡ has_flag c.args.element other) (sym c.flag_of.ensures)
    (with_leaves c.args.element c.args.place other (λ e. ne (sym e)))
