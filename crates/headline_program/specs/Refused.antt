-- What refused memory changes of what the program prints.
use Rattle.std.specs.Prelude.{◌≡◌, ℕ, List, ◌++◌}
use Rattle.model.specs.declared.turn.Refusal.TheVariants.{NoMemory}
use Rattle.texts.specs.Print.{refusal_text}

-- The text tells somewhere that memory was refused to a turn, and what stands before that is a beginning of the whole text.
pub record IsSameBefore (text whole : List ℕ) : Type 0 where
  pub before : List ℕ
  pub after : List ℕ
  pub rest : List ℕ
  -- the text tells that memory was refused to a turn
  pub tells : text ≡ before ++ (refusal_text NoMemory ++ after)
  -- up to there the texts are the same
  pub same : whole ≡ before ++ rest
