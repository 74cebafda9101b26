-- `UnrestrictedAtomic::of` (src/spmc/unrestricted_atomic/make.rt): its call of `open` meets what that requires, the invariant of its
-- loop holds at the start and after each iteration, `token` meets the invariants `begun` and `knows`, and its result meets the invariant
-- of its type.
use Rattle.std.proofs.Common.{rules, ◌≡◌, ◌<◌, ◌+◌, ◌*◌, length, replicate, slice_set, refl, sym, ap, subst, ◌∙◌, arith}
use Rattle.lock_free_value.proofs.Names.{Coding, IsCoding, coding_by, stored, View}
use Rattle.history_value.specs.ValueOpened.{first_stores, opened_view}
use Rattle.history.specs.History.{Knows}
use Rattle.history_value.proofs.ValueOpened.{value_opens, value_knows}
use Rattle.model.specs.declared.turn.Kind.TheVariants as kinds
use Rattle.lock_free_value.specs.Roles.{LacksProducer}
use Rattle.lock_free_value.proofs.Opens.{filling, first_is, begins, turns, ends, opened_some, opened_lacks}
use Rattle.lock_free_value.proofs.spmc.unrestricted_atomic.UnrestrictedAtomic.of.Goals as goal

-- before the first word is written the words have the first version, a free role, and zeros in both cells
pub loop-at-init : goal.loop-at-init
loop-at-init g c =
    let met = g.met.T.Words in
    let code : Coding g.row.T.Denot = coding_by g.T.Words in
    let law : IsCoding code = record { some = met.some; few = met.few; sized = met.sized; given_back = met.given_back } in
    let v = c.args.version in
    let first : c.opening_version.result ≡ first_stores v + 1 = c.opening_version.ensures ∙ first_is v in
    let size : c.WORDS-second_cell.result ≡ code.size = search rules in
    let zeros : c.in_ok-words.words.items ≡ replicate (code.size * 2 + 2 + 1) 0 = search rules in
    record {
      version = refl;
      value = refl;
      end = search rules;
      second_cell = ap (λ n. 2 + n) size;
      words = ap (λ zs. slice_set (slice_set zs 0 c.opening_version.result) 1 1) zeros
          ∙ (ap (λ n. slice_set (slice_set (replicate (code.size * 2 + 2 + 1) 0) 0 n) 1 1) first ∙ begins code law c.args.value v);
    }

-- after each word of the value one word more of both cells is filled in
pub loop-at-preserved : goal.loop-at-preserved
loop-at-preserved g c =
    let met = g.met.T.Words in
    let code : Coding g.row.T.Denot = coding_by g.T.Words in
    let law : IsCoding code = record { some = met.some; few = met.few; sized = met.sized; given_back = met.given_back } in
    let inv = c.loop-at.invariant in
    let last = inv.end in
    let second = inv.second_cell in
    let below : c.loop-at.at < code.size = (let t = c.loop-at-test.true in omega arith) in
    record {
      version = inv.version;
      value = inv.value;
      end = inv.end;
      second_cell = inv.second_cell;
      words = turns code law c.args.value c.args.version c.loop-at.at c.WORDS-second_cell.result c.word-word.result
          c.first_word.result c.loop-at.words.items below inv.words (omega arith) c.word-word.ensures c.first_word.ensures;
    }

-- the words open as the machine of the value, with the view of the first pass
pub open-requires : goal.open-requires
open-requires g c =
    let met = g.met.T.Words in
    let code : Coding g.row.T.Denot = coding_by g.T.Words in
    let law : IsCoding code = record { some = met.some; few = met.few; sized = met.sized; given_back = met.given_back } in
    let v = c.args.version in
    let x = c.args.value in
    let inv = c.loop-at.invariant in
    let last = inv.end in
    let past = c.loop-at-test.false in
    let most = c.loop-at.auto.at-end in
    let done : c.loop-at.at ≡ code.size = omega arith in
    value_opens code law x v c.ranges.version.fits c.as_slice.result.now
    (c.as_slice.ensures.value ∙ (inv.words ∙ (ap (filling code x v) done ∙ ends code law x v)))

-- The first pass has seen a store, as its invariant `begun` says.
pub invariant_of-token-clause-begun : goal.invariant_of-token-clause-begun
invariant_of-token-clause-begun g c =
    let me : c.in_ok-home.seated.seat.me.0 ≡ opened_view c.args.value g.T.Words.WORDS c.args.version = search rules in
    subst (λ (w : View g.row.T.Denot). 0 < length (stored w.seen)) (sym me) (opened_some c.args.value g.T.Words.WORDS c.args.version)

-- the first pass knows the run of the stores with which the value opens
pub invariant_of-token-clause-knows : goal.invariant_of-token-clause-knows
invariant_of-token-clause-knows g c =
    let met = g.met.T.Words in
    let code : Coding g.row.T.Denot = coding_by g.T.Words in
    let law : IsCoding code = record { some = met.some; few = met.few; sized = met.sized; given_back = met.given_back } in
    let me : c.in_ok-home.seated.seat.me.0 ≡ opened_view c.args.value g.T.Words.WORDS c.args.version = search rules in
    subst (λ (w : View g.row.T.Denot). Knows code kinds.Atomic 1 w) (sym me)
    (value_knows code law c.args.value c.args.version c.ranges.version.fits)

pub invariant_of-result : goal.invariant_of-result
invariant_of-result g c =
    let me : c.in_ok-home.seated.seat.me.0 ≡ opened_view c.args.value g.T.Words.WORDS c.args.version = search rules in
    record { none = subst (λ (w : View g.row.T.Denot). LacksProducer w.made) (sym me) (opened_lacks c.args.value g.T.Words.WORDS c.args.version) }
