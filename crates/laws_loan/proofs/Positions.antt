-- The words of a loan channel at which its sends and receives act: the two positions of the submission
-- queue, in the words of the whole.
use Rattle.laws_loan.proofs.Names.{◌≡◌, ℕ, ◌+◌, ◌-◌, ◌^◌, ◌<◌, Some, List, ◌∷◌, ◌++◌, length, get_or, sym, ap}
use Rattle.laws_loan.proofs.Names.{◌∙◌, get_or-append-add, Exchange, submission_word, shifted, move, after_position}
use Rattle.laws_loan.proofs.Names.{ask_of, read_word, AddsOne, old_of, words_after, layout}
use Rattle.std.proofs.Common.{arith}
use Rattle.steps.specs.declared.queues.overflow.PushStage.TheVariants as pushes
use Rattle.steps.specs.Queues.Overflow.{push_asks}
use Rattle.laws_loan.proofs.Channel.{Channel, Holds, no_roles, words_in}
use Rattle.laws_loan.proofs.Parts.{set_long, submission_long, submission_old, submission_words}
use Rattle.laws_loan.proofs.Submission.{publish_words}

-- the parts of the channel `s` hold what they are to hold, and the write position of the submission queue is below 2 ^ 64 - 2
module _ {T : Type 0} {slots queue : ℕ} {s : Channel T} {busy : ℕ} (holds : Holds slots queue s busy) (reached : s.submission.write < 2 ^ 64 - 2) where
  -- the words behind those of the submission queue
  abbrev behind : List ℕ
  behind = layout no_roles s.completion

  -- the words of the submission queue
  abbrev queued : List ℕ
  queued = layout no_roles s.submission

  -- the read position is one of the submission queue's words
  within : 1 < length queued
  within = let long = submission_long holds in omega arith

  -- behind the words of the set, the words of the whole are those of the submission queue
  there : (ys : List ℕ) (n : ℕ) → get_or (s.set ++ ys) (submission_word slots + n) 0 ≡ get_or ys n 0
  there = grind (arith, set_long, get_or-append-add)

  -- the word behind the set's is the first of the submission queue
  first : (ys : List ℕ) → get_or (s.set ++ ys) (submission_word slots) 0 ≡ get_or ys 0 0
  first = grind (arith, there)

  -- the store of a push's next write position adds 1 to the write position
  pub adds_write : (read index : ℕ)
      → AddsOne (submission_word slots) (words_in s)
      (ask_of (shifted (submission_word slots) (push_asks queue (pushes.StoresWrite s.submission.write read) index)))
  adds_write read index =
      let on_queue : 0 < length queued = (let two = within in omega arith) in
      let words = submission_words holds (push_asks queue (pushes.StoresWrite s.submission.write read) index) on_queue (publish_words holds reached index) in
      ap (λ ws. get_or ws (submission_word slots) 0) words
      ∙ (first _ ∙ ap (λ n. n + 1) (sym (first (queued ++ behind))))

  -- the exchange of the read position from its value adds 1 to the read position
  moved_words : words_after queued (Some (record { word = 1; op = Exchange s.submission.read (after_position s.submission.read) }))
      ≡ s.submission.write ∷ (s.submission.read + 1) ∷ 1 ∷ 1 ∷ s.submission.cells
  moved_words = grind arith

  -- a move of the submission queue's read position adds one to that word
  pub adds_read : AddsOne (read_word slots) (words_in s) (ask_of (shifted (submission_word slots) (move 1 s.submission.read)))
  adds_read =
      let words = submission_words holds (move 1 s.submission.read) within moved_words in
      ap (λ ws. get_or ws (read_word slots) 0) words
      ∙ (there _ 1 ∙ ap (λ n. n + 1) (sym (there (queued ++ behind) 1)))

  -- the exchange of the read position finds the queue's read position
  pub finds_read : (read : ℕ) → old_of (words_in s) (ask_of (shifted (submission_word slots) (move 1 read))) ≡ s.submission.read
  finds_read read = submission_old holds (move 1 read) within
