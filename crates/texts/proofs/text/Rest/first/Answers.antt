-- `Rest::first` (src/text.rt): its return meets what it ensures (`MatchOption`).
use Rattle.texts.proofs.Texts.{first_part, only_part}
use Rattle.texts.proofs.text.Rest.first.Goals as goal

-- where a separator stands in the text, the first part ends before it
pub returns-then-at-text : goal.returns-then-at-text
returns-then-at-text c = rw c.in-Some.is (first_part _ _ _ c.place_of-at.ensures c.if-at-text.true)

-- where no separator stands in the text, the whole text is the part
pub returns-else-at-text : goal.returns-else-at-text
returns-else-at-text c = rw c.in-Some.is (only_part _ _ _ c.place_of-at.ensures c.if-at-text.false)
