-- `empty_words` (src/spsc/places.rt): its return has both positions, both free roles, and cells of zeros.
use Rattle.lock_free_queues.proofs.Names.{◌≡◌, ℕ, ◌+◌, suc, List, [], ◌∷◌, ◌++◌, set, replicate, ap, ◌∙◌, arith}
use Rattle.lock_free_queues.proofs.Names.{common_steps, one_more}
use Rattle.lock_free_queues.proofs.spsc.places.empty_words.Goals as goal

-- the words with the positions and the roles
abbrev written_over : List ℕ → ℕ → List ℕ
written_over words start = set (set (set (set words 0 start) 1 start) 2 1) 3 1

-- Zeros, of which the first four are written over, are both positions, both free roles, and cells of zeros.
empty : (cells start : ℕ) (words : List ℕ) → words ≡ replicate (4 + cells + 1) 0
    → written_over words start ≡ start ∷ start ∷ 1 ∷ 1 ∷ (replicate cells 0 ++ 0 ∷ [])
empty cells start words same =
    let long : 4 + cells + 1 ≡ suc (suc (suc (suc (cells + 1)))) = omega arith in
    ap (λ ws. written_over ws start) same ∙ (ap (λ n. written_over (replicate n 0) start) long ∙ ap (λ zs. start ∷ start ∷ 1 ∷ 1 ∷ zs) (one_more cells))

pub returns : goal.returns
returns c =
    let items : c.in_ok-words.words.items ≡ replicate (4 + c.args.cells + 1) 0 = grind (arith, common_steps) in
    empty c.args.cells c.args.start c.in_ok-words.words.items items
