-- A call that asks only for the first k words of a list runs in the same way where further words stand behind
-- them, and leaves those as they are.
use Rattle.std.proofs.Common.{◌≡◌, ℕ, zero, suc, ◌<◌, ◌≤◌, List, [], ◌∷◌, length, take, refl, ap, subst, ◌∙◌, arith}
use Rattle.std.proofs.Common.{slice_index, slice_set, get_or-set_other, get_or-take, length-set, ◌==◌}
use Rattle.steps.specs.Ask.{written}
use Rattle.plain.proofs.Names.{by_test, Want, After}
use Rattle.steps.specs.declared.ask.Op.{Op}
use Rattle.steps.specs.declared.ask.Op.TheVariants.{Load, Store, Swap, Add, Sub, And, Or, Exchange}
use Rattle.steps.specs.declared.ask.Want.TheVariants as wants
use Rattle.plain_queues.specs.Alone.{written_by, answer_in, words_then, stepped}
use Rattle.plain.proofs.Walks.{WalksFrom, OnEnd, Walks, LowThen}

-- the later list is as long as the list before, and has the same words from place k on
pub record Behind (k : ℕ) (before later : List ℕ) : Type 0 where
  pub long : length later ≡ length before
  pub same : (j : ℕ) → k ≤ j → slice_index later j ≡ slice_index before j

-- a list that stays as it is has the same words from place k on
pub stays : (k : ℕ) (words : List ℕ) → Behind k words words
stays k words = record { long = refl; same = λ j far. refl }

-- the call asks for a word below place k, or for no word
abbrev pub AsksBelow : ℕ → Want (Unit {0}) → Type 0
AsksBelow k (wants.Ask ask) = ask.word < k
AsksBelow k (wants.Question question) = Unit {0}
AsksBelow k wants.Nothing = Unit {0}

-- ---- one word of the front

-- to set a word of the front in the front alone is to set it in the whole list
pub take_set : (k at x : ℕ) (words : List ℕ) → at < k
    → slice_set (take k words) at x ≡ take k (slice_set words at x)
take_set zero at x words low = absurd (omega arith)
take_set (suc k) at x [] low = refl
take_set (suc k) zero x (w ∷ words) low = refl
take_set (suc k) (suc at) x (w ∷ words) low =
    ap (λ ws. w ∷ ws) (take_set k at x words (omega arith))

module _ (k at : ℕ) (low : at < k) (words : List ℕ) where
  -- a word of the front alone is that word of the whole list
  front_word : slice_index (take k words) at ≡ slice_index words at
  front_word = get_or-take k words at 0 low

  -- a word below k can be set in the front alone or in the whole list
  front_set : (x y : ℕ) → x ≡ y → slice_set (take k words) at x ≡ take k (slice_set words at y)
  front_set x y same = ap (slice_set (take k words) at) same ∙ take_set k at y words low

  -- an operation on a word of the front does the same to the front alone as to the whole list
  front_written : (op : Op) → written_by (take k words) at op ≡ take k (written_by words at op)
  front_written = grind (arith, front_set, written, front_word, take, by_test)

  -- to set a word below k leaves the words from k on
  set_behind : (x : ℕ) → Behind k words (slice_set words at x)
  set_behind = grind (arith, length-set, get_or-set_other)

  -- an operation on a word below k leaves the words from k on
  written_behind : (op : Op) → Behind k words (written_by words at op)
  written_behind Load = stays k words
  written_behind (Store new) = set_behind new
  written_behind (Swap new) = set_behind new
  written_behind (Add by) = set_behind _
  written_behind (Sub by) = set_behind _
  written_behind (And bits) = set_behind _
  written_behind (Or bits) = set_behind _
  written_behind (Exchange from to) =
      by_test (λ ws. Behind k words ws) (slice_index words at == from) _ _
      (λ t. set_behind to) (λ t. stays k words)

-- ---- one step

-- what the call asks for below k is answered alike by the front alone and by the whole list
front_answer : (k : ℕ) (words : List ℕ) (want : Want (Unit {0})) → AsksBelow k want
    → answer_in (take k words) want ≡ answer_in words want
front_answer = grind (arith, front_word)

-- after what the call asks for below k, the front alone is the front of the whole list
front_then : (k : ℕ) (words : List ℕ) (want : Want (Unit {0})) → AsksBelow k want
    → words_then (take k words) want ≡ take k (words_then words want)
front_then = grind (arith, front_written)

-- what the call asks for below k leaves the words from k on
then_behind : (k : ℕ) (words : List ℕ) (want : Want (Unit {0})) → AsksBelow k want
    → Behind k words (words_then words want)
then_behind k words (wants.Ask ask) low = written_behind k ask.word low words ask.op
then_behind k words (wants.Question question) low = stays k words
then_behind k words wants.Nothing low = stays k words

-- where two changes each leave the words from k on, both together leave them
pub behind_more : (k : ℕ) (a b c : List ℕ) → Behind k a b → Behind k b c → Behind k a c
behind_more = grind arith

-- ---- all steps

-- A call that keeps Low, and so asks only for words below k; where it ends over those alone with P, Q holds of its end over the whole
-- list, since the words behind them are as before.
module _ {C E : Type 0} (want : C → Want (Unit {0})) (after : C → ℕ → After C E) (k : ℕ)
    (Low : C → Type 0) (asks_low : (c : C) → Low c → AsksBelow k (want c))
    (goes_low : (c : C) (old : ℕ) → Low c → LowThen Low (after c old))
    (before : List ℕ) (P Q : E → List ℕ → Type 0)
    (so : (e : E) (last : List ℕ) → Behind k before last → P e (take k last) → Q e last) where
  -- after a step over the front alone the whole list is walked too, if it is from each call that goes on
  from_front : (n : ℕ) (w : Want (Unit {0})) (call : C) (a : After C E) (words : List ℕ)
      → LowThen Low a → Behind k before words
      → ((d : C) → Low d → Walks want after n (OnEnd P) d (take k words) → Walks want after n (OnEnd Q) d words)
      → WalksFrom (Walks want after n (OnEnd P)) (OnEnd P) (stepped w call a) (take k words)
      → WalksFrom (Walks want after n (OnEnd Q)) (OnEnd Q) (stepped w call a) words
  from_front = grind arith

  -- A walk over the front alone, of a call that keeps Low, is a walk over the whole list: where the first
  -- ends with P of the front, the second ends with Q of the list.
  pub front_walks : (n : ℕ) (call : C) (words : List ℕ) → Low call → Behind k before words
      → Walks want after n (OnEnd P) call (take k words) → Walks want after n (OnEnd Q) call words
  front_walks zero call words low behind walks = absurd walks
  front_walks (suc n) call words low behind walks =
      let below = asks_low call low in
      let later = behind_more k before words (words_then words (want call)) behind (then_behind k words (want call) below) in
      from_front n (want call) call (after call (answer_in words (want call))) (words_then words (want call))
      (goes_low call (answer_in words (want call)) low) later
      (λ d low u. front_walks n d (words_then words (want call)) low later u)
      (subst (λ ws. WalksFrom (Walks want after n (OnEnd P)) (OnEnd P) (stepped (want call) call (after call (answer_in words (want call)))) ws)
      (front_then k words (want call) below)
      (subst (λ old. WalksFrom (Walks want after n (OnEnd P)) (OnEnd P) (stepped (want call) call (after call old)) (words_then (take k words) (want call)))
      (front_answer k words (want call) below) walks))
