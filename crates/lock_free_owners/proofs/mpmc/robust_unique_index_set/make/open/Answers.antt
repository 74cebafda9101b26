-- `open` (src/mpmc/robust_unique_index_set/make.rt): its call of `open` meets what that requires.
use Rattle.lock_free_owners.proofs.Names.{◌≡◌, ◌+◌, ◌-◌, [], ◌∷◌, ◌++◌, take, rules, ap, ◌∙◌, arith, take_all}
use Rattle.lock_free_owners.proofs.Names.{vec_len, empty}
use Rattle.std.specs.Prelude.{replicate}
use Rattle.lock_free_owners.proofs.RobustSet.Opens.{robust_opens}
use Rattle.lock_free_owners.proofs.mpmc.robust_unique_index_set.make.open.Goals as goal

-- the words at the opening are those of a machine with one more behind them, and the first view fits it
pub open-requires : goal.open-requires
open-requires c =
    let size = 1 + c.args.capacity in
    let pushed = c.push_reserved.new.self in
    let none = c.in_ok-words.ensures.len in
    let one = c.push_reserved.ensures.len in
    let left : size - vec_len pushed ≡ c.args.capacity = omega arith in
    let first : pushed.items ≡ 0 ∷ [] = c.push_reserved.ensures.items ∙ ap (λ ws. ws ++ 0 ∷ []) c.in_ok-words.ensures.items in
    let cells =
    c.in_ok-resize.ensures.items
    ∙ (ap (λ ws. take size ws ++ replicate (size - vec_len pushed) empty) first
    ∙ (ap (λ ws. ws ++ replicate (size - vec_len pushed) empty) (take_all size (0 ∷ []) (omega arith)) ∙ ap (λ n. 0 ∷ replicate n empty) left))
    in
    robust_opens c.args.capacity c.requires (search rules) c.as_slice.result.now
    (c.as_slice.ensures.value ∙ (c.push_reserved-2.ensures.items ∙ ap (λ ws. ws ++ 0 ∷ []) cells))
