-- `without_flag` (src/bits/flags.rt): its return meets the clauses `clear` and `others`.
use Rattle.std.proofs.Common.{◌≡◌, ◌-◌, ◌^◌, sym, subst}
use Rattle.std.specs.Prelude.{IsFalse, bit_and}
use Rattle.steps.specs.Bits.Words.{has_flag}
use Rattle.steps.proofs.Flags.Words.{without_clear, without_leaves}
use Rattle.steps.proofs.bits.flags.without_flag.Goals as goal

-- the flag of the place is clear in the word that is returned
pub returns-clause-clear : goal.returns-clause-clear
returns-clause-clear c =
    subst (λ flag. IsFalse (has_flag (bit_and c.args.element (2 ^ 64 - 1 - flag)) c.args.place)) (sym c.flag_of.ensures)
    (without_clear c.args.element c.args.place)

-- the flags of other bits are as in the word that was given
pub returns-clause-others : goal.returns-clause-others
returns-clause-others c other ne =
    subst (λ flag. has_flag (bit_and c.args.element (2 ^ 64 - 1 - flag)) other ≡ has_flag c.args.element other) (sym c.flag_of.ensures)
    (without_leaves c.args.element c.args.place other (λ e. ne (sym e)))
