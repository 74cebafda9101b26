-- An operation of a call on one part of the channel does to the words of the whole what it does to that part.
use Rattle.laws_loan.proofs.Names.{◌≡◌, ℕ, ◌+◌, ◌^◌, ◌<◌, List, [], ◌++◌, length, sym, ap, ◌∙◌, append_assoc}
use Rattle.laws_loan.proofs.Names.{append-nil, length-append, submission_word, completion_word, shifted, Want, ask_of}
use Rattle.laws_loan.proofs.Names.{old_of, words_after, change_of, layout}
use Rattle.std.proofs.Common.{arith}
use Rattle.laws_loan.proofs.Channel.{Channel, Holds, no_roles, words_in}
use Rattle.laws_loan.proofs.Cuts.{IsOn, shifted_old, shifted_words, shifted_change, first_old, first_words}

-- the parts of the channel `s` hold what they are to hold, so each has its length, and an operation within one leaves the others
module _ {T : Type 0} {slots queue : ℕ} {s : Channel T} {busy : ℕ} (holds : Holds slots queue s busy) where
  -- the words of the submission queue
  abbrev submission : List ℕ
  submission = layout no_roles s.submission

  -- the words of the completion queue
  abbrev completion : List ℕ
  completion = layout no_roles s.completion

  -- ---- where the parts begin

  -- the submission queue begins behind the words of the indices
  pub set_long : length s.set ≡ submission_word slots
  set_long = holds.set.wide

  -- the submission queue has five words and one for each index that may wait
  pub submission_long : length submission ≡ 5 + queue
  submission_long = let cells = holds.submission.cells in omega arith

  -- the completion queue has four words and one for each index
  pub completion_long : length completion ≡ 4 + slots
  completion_long = let cells = holds.completion.cells in omega arith

  -- the completion queue begins behind the words of the indices and of the submission queue
  pub both_long : length (s.set ++ submission) ≡ completion_word slots queue
  both_long = grind (arith, length-append, set_long, submission_long)

  -- the words before the completion queue are fewer than 2 ^ 64
  few_before : length s.set + length submission < 2 ^ 64
  few_before = grind arith

  -- all words of a channel are fewer than 2 ^ 64
  few_in_all : length (s.set ++ submission) + length completion < 2 ^ 64
  few_in_all = grind (arith, both_long, completion_long)

  -- ---- the indices

  -- an operation on a word of the indices finds in the whole what it finds in the indices
  pub set_old : (want : Want (Unit {0})) → IsOn s.set want → old_of (words_in s) (ask_of want) ≡ old_of s.set (ask_of want)
  set_old want on = first_old s.set (submission ++ completion) want on

  -- an operation on a word of the indices changes of the whole only these
  pub set_words : (want : Want (Unit {0})) → IsOn s.set want
      → words_after (words_in s) (ask_of want) ≡ words_in (record s { set = words_after s.set (ask_of want) })
  set_words want on = first_words s.set (submission ++ completion) want on

  -- ---- the submission queue

  -- an operation on a word of the submission queue finds in the whole what it finds in the queue
  pub submission_old : (want : Want (Unit {0})) → IsOn submission want
      → old_of (words_in s) (ask_of (shifted (submission_word slots) want)) ≡ old_of submission (ask_of want)
  submission_old want on =
      rw (← set_long) (shifted_old s.set submission completion few_before want on)

  -- an operation on a word of the submission queue after which the words of the queue are `ws` changes nothing else of the whole
  pub submission_words : (want : Want (Unit {0})) → IsOn submission want → {ws : List ℕ} → words_after submission (ask_of want) ≡ ws
      → words_after (words_in s) (ask_of (shifted (submission_word slots) want)) ≡ s.set ++ (ws ++ completion)
  submission_words want on words =
      rw (← set_long) (shifted_words s.set submission completion few_before want on) ∙ ap (λ ws. s.set ++ (ws ++ completion)) words

  -- an operation on a word of the submission queue counts as many changes in the whole as in the queue
  pub submission_change : (want : Want (Unit {0})) → IsOn submission want
      → change_of (words_in s) (ask_of (shifted (submission_word slots) want)) ≡ change_of submission (ask_of want)
  submission_change want on =
      rw (← set_long) (shifted_change s.set submission completion few_before want on)

  -- ---- the completion queue, with nothing behind it

  -- the completion queue is the last part of the words, with nothing behind it
  last : (ws : List ℕ) → s.set ++ (submission ++ ws) ≡ (s.set ++ submission) ++ (ws ++ [])
  last = grind (arith, append_assoc, append-nil)

  -- an operation on a word of the completion queue finds in the whole what it finds in the queue
  pub completion_old : (want : Want (Unit {0})) → IsOn completion want
      → old_of (words_in s) (ask_of (shifted (completion_word slots queue) want)) ≡ old_of completion (ask_of want)
  completion_old want on =
      ap (λ ws. old_of ws (ask_of (shifted (completion_word slots queue) want))) (last completion)
      ∙ rw (← both_long) (shifted_old (s.set ++ submission) completion [] few_in_all want on)

  -- an operation on a word of the completion queue after which the words of the queue are `ws` changes nothing else of the whole
  pub completion_words : (want : Want (Unit {0})) → IsOn completion want → {ws : List ℕ} → words_after completion (ask_of want) ≡ ws
      → words_after (words_in s) (ask_of (shifted (completion_word slots queue) want)) ≡ s.set ++ (submission ++ ws)
  completion_words want on words =
      ap (λ ws. words_after ws (ask_of (shifted (completion_word slots queue) want))) (last completion)
      ∙ (rw (← both_long) (shifted_words (s.set ++ submission) completion [] few_in_all want on)
      ∙ (sym (last (words_after completion (ask_of want))) ∙ ap (λ ws. s.set ++ (submission ++ ws)) words))
