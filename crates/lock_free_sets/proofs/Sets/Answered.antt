-- What the machine of a set promises of the answer of a whole call: it is right by what was seen before the end of the call.
use Rattle.lock_free_sets.proofs.Names.{ℕ, List, [], subst, sym, ◌∙◌, one_word, Answer, Event, Finished, Start, View, Called, IsHistory}
use Rattle.lock_free_sets.proofs.Names.{IsBitSet, IsCountingOn, bits_go_on, counts_go_on}
use Rattle.model.specs.declared.turn.Kind.TheVariants as kinds
use Rattle.model.specs.Families.Bits.Promises.{BitsAnswerRight, CountsAnswerOn}
use Rattle.lock_free_sets.proofs.Ends.{before_end, to_end}

module _ {capacity p : ℕ} {start : Start ℕ} {answer : Answer ℕ} {wrote : List (Event ℕ)} {old new : View ℕ} where
  -- the answer of a whole call on a bit set is right by what was seen before its end
  pub bits_answer : IsHistory one_word kinds.Bits capacity new.seen → (c : Called p start answer wrote old new)
      → BitsAnswerRight capacity (before_end c) (Finished p start answer)
  bits_answer h c =
      let set : IsBitSet h.trace = bits_go_on h.trace h.run.of_kind h.run.reached in
      subst (λ n. BitsAnswerRight n (before_end c) (Finished p start answer)) h.run.sized
      (set.answers (before_end c) [] (Finished p start answer) (sym h.is ∙ to_end c))

  -- the answer of a whole call on a counting bit set, whose counts may wrap, is right by what was seen before its end
  pub counts_answer : IsHistory one_word kinds.Counts capacity new.seen → (c : Called p start answer wrote old new)
      → CountsAnswerOn capacity (before_end c) (Finished p start answer)
  counts_answer h c =
      let set : IsCountingOn h.trace = counts_go_on h.trace h.run.of_kind h.run.reached in
      subst (λ n. CountsAnswerOn n (before_end c) (Finished p start answer)) h.run.sized
      (set.answers (before_end c) [] (Finished p start answer) (sym h.is ∙ to_end c))
