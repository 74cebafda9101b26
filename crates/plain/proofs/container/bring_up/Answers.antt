-- `bring_up` (src/container.rt): the call that `bring_up` drives is as `drive` requires, and its return meets
-- the clauses `words` and `brought`.
use Rattle.plain_queues.proofs.Alone.{can_end, ends_so}
use Rattle.plain.proofs.Elements.Updates.{look_runs}
use Rattle.plain.proofs.Elements.Snapshots.{LookCase, words_kept, brought_if, brought_not}
use Rattle.std.proofs.Common.{ℕ, List}
use Rattle.steps.specs.declared.container.state.ContainerState.{ContainerState}
use Rattle.plain.specs.Contents.{Represents}
use Rattle.plain.proofs.Elements.Values.{Codes, codes_by}
use Rattle.plain.proofs.container.bring_up.Given.{Over}
use Rattle.plain.proofs.container.bring_up.Goals as goal

-- how the values of the container are stored
abbrev codes : (g : Over) → Codes g.row.T.Denot
codes g = codes_by g.T.Words.value_of g.met.T.Words.sized g.met.T.Words.given_back g.met.T.Words.some g.met.T.Words.few

-- the look of a state at the container, from the call's arguments
abbrev look_from : (g : Over) (capacity id : ℕ) {words : List ℕ} → Represents g.T.Words.WORDS capacity words → ContainerState g.row.T.Denot
    → LookCase g.row.T.Denot
look_from g capacity id {words} fits old =
    record { codes = codes g; capacity = capacity; container = id; words = words; fits = fits; old = old }

-- the call that `bring_up` drives is as `drive` requires
pub drive-requires : goal.drive-requires
drive-requires g c = record {
  ends =
      can_end (look_runs (codes g) c.requires.0 c.args.state.now.seen c.args.state.now.shown c.new.ensures);
}

-- where `drive` answers true, its return meets the clause `words`
pub returns-then-drive-clause-words : goal.returns-then-drive-clause-words
returns-then-drive-clause-words g c =
    words_kept (look_from g c.args.capacity c.args.id c.requires.0 c.args.state.now) c.drive.result c.drive.new.room c.drive.new.words.items
    (ends_so (look_runs (codes g) c.requires.0 c.args.state.now.seen c.args.state.now.shown c.new.ensures) c.drive.ensures.alone)

-- where `drive` answers true, its return meets the clause `brought`
pub returns-then-drive-clause-brought : goal.returns-then-drive-clause-brought
returns-then-drive-clause-brought g c =
    brought_if (look_from g c.args.capacity c.args.id c.requires.0 c.args.state.now) c.drive.result c.drive.new.room c.drive.new.words.items
    (ends_so (look_runs (codes g) c.requires.0 c.args.state.now.seen c.args.state.now.shown c.new.ensures) c.drive.ensures.alone)
    c.if-drive.true c.settle.ensures

-- its return meets the clause `words`
pub returns-clause-words : goal.returns-clause-words
returns-clause-words g c =
    words_kept (look_from g c.args.capacity c.args.id c.requires.0 c.args.state.now) c.drive.result c.drive.new.room c.drive.new.words.items
    (ends_so (look_runs (codes g) c.requires.0 c.args.state.now.seen c.args.state.now.shown c.new.ensures) c.drive.ensures.alone)

-- its return meets the clause `brought`
pub returns-clause-brought : goal.returns-clause-brought
returns-clause-brought g c =
    brought_not (look_from g c.args.capacity c.args.id c.requires.0 c.args.state.now) c.drive.result c.drive.new.room c.drive.new.words.items
    (ends_so (look_runs (codes g) c.requires.0 c.args.state.now.seen c.args.state.now.shown c.new.ensures) c.drive.ensures.alone)
    c.if-drive.false
