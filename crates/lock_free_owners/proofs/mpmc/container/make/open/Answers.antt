-- `open` (src/mpmc/container/make.rt): its call of `open` meets what that requires.
use Rattle.lock_free_owners.proofs.Names.{◌≡◌, ◌+◌, ◌*◌, ◌-◌, [], ◌∷◌, ◌++◌, take, length, rules, ap, ◌∙◌, arith}
use Rattle.lock_free_owners.proofs.Names.{take_all, length-replicate, vec_len, total_words, empty, Coding, IsCoding}
use Rattle.lock_free_owners.proofs.Names.{coding_by}
use Rattle.std.specs.Prelude.{replicate}
use Rattle.lock_free_owners.proofs.ContainerSet.Opens.{container_opens, filled}
use Rattle.lock_free_owners.proofs.mpmc.container.make.open.Goals as goal

-- the words at the opening are those of a machine with one more behind them, and the first view fits it
pub open-requires : goal.open-requires
open-requires g c =
    let met = g.met.T.Words in
    let code : Coding g.row.T.Denot = coding_by g.T.Words in
    let law : IsCoding code = record { some = met.some; few = met.few; sized = met.sized; given_back = met.given_back } in
    let capacity = c.args.capacity in
    let size = g.T.Words.WORDS in
    -- the words so far: the counter, and a cell without an owner for each index
    let total : c.total_words-total.result ≡ total_words capacity size = search rules in
    let pushed = c.push_reserved.new.self in
    let none = c.in_ok-words.ensures.len in
    let one = c.push_reserved.ensures.len in
    let left : 1 + capacity - vec_len pushed ≡ capacity = omega arith in
    let first : pushed.items ≡ 0 ∷ [] = c.push_reserved.ensures.items ∙ ap (λ ws. ws ++ 0 ∷ []) c.in_ok-words.ensures.items in
    let cells : c.resize.new.self.items ≡ 0 ∷ replicate capacity empty =
    c.in_ok-resize.ensures.items
    ∙ (ap (λ ws. take (1 + capacity) ws ++ replicate (1 + capacity - vec_len pushed) empty) first
    ∙
    (ap (λ ws. ws ++ replicate (1 + capacity - vec_len pushed) empty) (take_all (1 + capacity) (0 ∷ []) (omega arith)) ∙ ap (λ n. 0 ∷ replicate n empty) left))
    in
    -- behind them zeros, up to the number of words of the table
    let many = c.in_ok-resize.ensures.len in
    let long = length-replicate capacity empty in
    let short : length (0 ∷ replicate capacity empty) ≡ 1 + capacity = omega arith in
    let most = c.total_words-total.result + 1 in
    let all : most ≡ 2 + (capacity + capacity) + size * capacity + 1 = omega arith in
    let rest = most - vec_len c.resize.new.self in
    let behind : rest ≡ total_words capacity size + 1 - (1 + capacity) = omega arith in
    container_opens code law capacity c.requires (search rules) c.as_slice.result.now
    (c.as_slice.ensures.value
    ∙ (c.in_ok-resize-2.ensures.items
    ∙ (ap (λ ws. take most ws ++ replicate rest 0) cells
    ∙ (ap (λ ws. ws ++ replicate rest 0) (take_all most (0 ∷ replicate capacity empty) (omega arith)) ∙ filled capacity size rest behind))))
