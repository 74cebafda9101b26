-- `open` (src/families/indices/opening.rt): its call of `push_reserved` meets what that requires,
-- each iteration keeps the invariant of its loop, and its return meets the clause `words`.
use Rattle.std.proofs.Common.{◌≡◌, ℕ, zero, suc, ◌+◌, ◌-◌, [], ◌∷◌, ◌++◌, length, take, sym, ap, ◌∙◌, arith}
use Rattle.std.proofs.lemmas.List.{take_all}
use Rattle.std.proofs.lemmas.List.FromFn.{length-range_with_len}
use Rattle.std.specs.List.{range_with_len}
use Rattle.std.specs.Prelude.{vec_len, replicate}
use Rattle.turns.proofs.families.indices.opening.open.Goals as goal

-- a range that is one number longer has that number behind the others
one_more : (n a : ℕ) → range_with_len a (suc n) ≡ range_with_len a n ++ (a + n) ∷ []
one_more zero a = let e : a ≡ a + 0 = omega arith in ap (λ x. x ∷ []) e
one_more (suc n) a =
    let e : a + 1 + n ≡ a + suc n = omega arith in
    ap (λ l. a ∷ l) (one_more n (a + 1) ∙ ap (λ x. range_with_len (a + 1) n ++ x ∷ []) e)

-- there is room for each word
pub push_reserved-requires-in-loop-index : goal.push_reserved-requires-in-loop-index
push_reserved-requires-in-loop-index g c =
    let len = c.loop-index.invariant.1 in
    let room = c.loop-index.invariant.2 in
    let below = c.loop-index-test.true in
    omega arith

-- with each word more, behind the head stand the numbers from 1 on
pub loop-index-preserved : goal.loop-index-preserved
loop-index-preserved g c =
    let len = c.loop-index.invariant.1 in
    let room = c.loop-index.invariant.2 in
    let next : c.loop-index.index + 1 ≡ 1 + c.loop-index.index = omega arith in
    let here : c.push_reserved-in-loop-index.new.self.items ≡ (0 ∷ range_with_len 1 c.loop-index.index) ++ (1 + c.loop-index.index) ∷ [] =
    c.push_reserved-in-loop-index.ensures.items
    ∙ (ap (λ ws. ws ++ (c.loop-index.index + 1) ∷ []) c.loop-index.invariant.0
    ∙ ap (λ n. (0 ∷ range_with_len 1 c.loop-index.index) ++ n ∷ []) next)
    in
    let suc_is : suc c.loop-index.index ≡ c.loop-index.index + 1 = omega arith in
    let grown : range_with_len 1 (c.loop-index.index + 1) ≡ range_with_len 1 c.loop-index.index ++ (1 + c.loop-index.index) ∷ [] =
    ap (range_with_len 1) (sym suc_is) ∙ one_more c.loop-index.index 1 in
    (here ∙ ap (λ ws. 0 ∷ ws) (sym grown), omega arith, omega arith)

-- the words are those with which a unique index set of this capacity opens
pub returns-clause-words : goal.returns-clause-words
returns-clause-words g c =
    let end : c.loop-index.index ≡ c.args.capacity = omega arith in
    let len = c.loop-index.invariant.1 in
    let size = 1 + c.args.capacity + c.flag_words-flags.result in
    let here : c.loop-index.words.items ≡ 0 ∷ range_with_len 1 c.args.capacity = c.loop-index.invariant.0 ∙ ap (λ n. 0 ∷ range_with_len 1 n) end in
    let long : length (0 ∷ range_with_len 1 c.args.capacity) ≡ suc c.args.capacity = ap suc (length-range_with_len 1 c.args.capacity) in
    let left : size - vec_len c.loop-index.words ≡ c.flag_words-flags.result = omega arith in
    c.in_ok-resize.ensures.items
    ∙ (ap (λ ws. take size ws ++ replicate (size - vec_len c.loop-index.words) 0) here
    ∙ (ap (λ ws. ws ++ replicate (size - vec_len c.loop-index.words) 0) (take_all size (0 ∷ range_with_len 1 c.args.capacity) (omega arith))
    ∙ (ap (λ n. (0 ∷ range_with_len 1 c.args.capacity) ++ replicate n 0) left
    ∙ ap (λ n. (0 ∷ range_with_len 1 c.args.capacity) ++ replicate n 0) c.flag_words-flags.ensures)))
