-- Two parties hold the producer's role one after the other: what a page sees of it, and of a pass that has seen it.
use Rattle.std.proofs.Common.{◌≡◌, ℕ, List, [], ◌∷◌, ◌++◌, Some, None, refl}
use Rattle.threaded.specs.Shares.{all_shares}
use Rattle.model.specs.declared.event.Start.TheVariants.{Queues}
use Rattle.model.specs.declared.families.queues.QueueStart.{QueueStart}
use Rattle.model.specs.declared.families.queues.QueueStart.TheVariants as starts
use Rattle.model.specs.declared.turn.Kind.TheVariants.{IndexQueue}
use Rattle.model.specs.declared.turn.Turn.{Turn}
use Rattle.model.specs.Coding.{one_word}
use Rattle.model.proofs.Runs.{begins}
use Rattle.history.specs.declared.view.View.{View}
use Rattle.history.specs.History.{run_of}
use Rattle.pages.specs.IndexQueue.{Pop, Push}
use Rattle.pages.specs.Machine as machine
use Rattle.pages_threads.specs.Known.{RunsThePage, index_page, turns_of}

-- the turns of a call of a queue by party p: its begin and `steps` steps
abbrev call : ℕ → QueueStart ℕ → ℕ → List (Turn ℕ)
call p start steps = begins p (Queues start) steps

-- Party 3 acquires the role, pushes 5 and gives the role back. Party 7 acquires it, and stops in the middle of its push,
-- beside a pop of party 4, and beside party 3, which asks for the length.
abbrev turns : List (Turn ℕ)
turns =
    call 3 starts.AcquireProducer 1 ++ call 3 (starts.PushIndex 5) 4 ++ call 3 starts.ReleaseProducer 1
    ++ call 7 starts.AcquireProducer 1 ++ call 4 starts.AcquireConsumer 1 ++ call 7 (starts.PushIndex 6) 3
    ++ call 3 starts.Len 2 ++ call 4 starts.Pop 4

-- a pass that has seen just these turns
abbrev knowing : View ℕ
knowing =
    record {
      capacity = 2;
      party = Some 4;
      share = all_shares;
      seen = (run_of one_word IndexQueue 2 turns).events;
      other = [];
      turns = turns;
      other_turns = [];
      made = [];
      going = None;
      state = None;
      asked = 0;
      aside = 0;
      taken = 0;
      others = 0;
    }

-- as the page sees it, party 0 pushes twice, and party 1 pops
page_turns : turns_of (index_page 2) knowing
    ≡ machine.Begin 0 (Push 5) ∷ machine.Next 0 ∷ machine.Next 0 ∷ machine.Next 0 ∷ machine.Next 0
    ∷ machine.Begin 0 (Push 6) ∷ machine.Next 0 ∷ machine.Next 0 ∷ machine.Next 0
    ∷ machine.Begin 1 Pop ∷ machine.Next 1 ∷ machine.Next 1 ∷ machine.Next 1 ∷ machine.Next 1 ∷ []
page_turns = refl

runs : RunsThePage (index_page 2) knowing
runs = refl

-- a pass that has seen another answer than the run has
abbrev lying : View ℕ
lying = record knowing { seen = (run_of one_word IndexQueue 2 (call 3 starts.AcquireProducer 1)).events }

runs_not : RunsThePage (index_page 2) lying → ⊥
runs_not runs_the_page = absurd (cc)
