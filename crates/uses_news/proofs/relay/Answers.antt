-- `relay` (src/main.rt): its return meets the clauses `one` and `other`.
use Rattle.uses_news.proofs.relay.Goals as goal

pub returns-clause-one : goal.returns-clause-one
returns-clause-one g c = c.in_ok-marks.ensures.3.news

pub returns-clause-other : goal.returns-clause-other
returns-clause-other g c = c.in_ok-marks.ensures.4.news
