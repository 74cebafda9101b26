-- `UniqueIndexSet::of` (src/mpmc/unique_index_set/make.rt): its call of `open` meets what that requires, and each iteration keeps the
-- invariant of its loop.
use Rattle.lock_free_sets.proofs.Names.{◌≡◌, suc, ◌+◌, ◌-◌, [], ◌∷◌, ◌++◌, length, take, sym, ap, ◌∙◌, append_assoc}
use Rattle.lock_free_sets.proofs.Names.{arith, range_with_len}
use Rattle.std.proofs.Common.{◌/◌}
use Rattle.std.proofs.lemmas.List.{take_all}
use Rattle.std.proofs.lemmas.List.FromFn.{length-range_with_len}
use Rattle.std.specs.Prelude.{vec_len, replicate}
use Rattle.history.proofs.Passes.{one_more}
use Rattle.lock_free_sets.proofs.Bits.Cleared.{range_more}
use Rattle.lock_free_sets.proofs.Unique.Opens.{indices_open}
use Rattle.lock_free_sets.proofs.mpmc.unique_index_set.UniqueIndexSet.of.Goals as goal

-- with each word more, behind the head stand the numbers from 1 on
pub loop-index-preserved : goal.loop-index-preserved
loop-index-preserved c =
    let len = c.loop-index.invariant.1 in
    let room = c.loop-index.invariant.2 in
    let next : c.loop-index.index + 1 ≡ 1 + c.loop-index.index = omega arith in
    let here =
    c.push_reserved-in-loop-index.ensures.items
    ∙ (ap (λ ws. ws ++ (c.loop-index.index + 1) ∷ []) c.loop-index.invariant.0
    ∙ ap (λ n. (0 ∷ range_with_len 1 c.loop-index.index) ++ n ∷ []) next) in
    (here ∙ ap (λ ws. 0 ∷ ws) (sym (range_more 1 c.loop-index.index)), omega arith, omega arith)

-- the words open as the machine of a set of this capacity, with the view of the first pass
pub open-requires : goal.open-requires
open-requires c =
    let end : c.loop-index.index ≡ c.args.capacity = omega arith in
    let len = c.loop-index.invariant.1 in
    let flags = (c.args.capacity + 63) / 64 in
    let size = 1 + c.args.capacity + flags + 1 in
    let here : c.loop-index.words.items ≡ 0 ∷ range_with_len 1 c.args.capacity = c.loop-index.invariant.0 ∙ ap (λ n. 0 ∷ range_with_len 1 n) end in
    let long : length (0 ∷ range_with_len 1 c.args.capacity) ≡ suc c.args.capacity = ap suc (length-range_with_len 1 c.args.capacity) in
    let left : size - vec_len c.loop-index.words ≡ flags + 1 = omega arith in
    let first = 0 ∷ range_with_len 1 c.args.capacity in
    let items =
    c.in_ok-resize.ensures.items
    ∙ (ap (λ ws. take size ws ++ replicate (size - vec_len c.loop-index.words) 0) here
    ∙ (ap (λ ws. ws ++ replicate (size - vec_len c.loop-index.words) 0) (take_all size first (omega arith))
    ∙ (ap (λ n. first ++ replicate n 0) left
    ∙ (ap (λ zs. first ++ zs) (one_more flags) ∙ sym (append_assoc first (replicate flags 0) (0 ∷ []))))))
    in
    indices_open c.args.capacity c.requires.some c.requires.few c.as_slice.result.now (c.as_slice.ensures.value ∙ items)
