-- `Receiver::read_all` (src/receiver.rt): the invariant of its loop holds at the start and after each iteration, and its returns meet
-- the clauses `queue` and `read`.
use Rattle.std.proofs.Common.{refl, sym, ap, ◌∙◌, ◌++◌, ◌∷◌, [], append-nil}
use Rattle.zero_copy_streams.proofs.Told.{read_none, read_told, read_rest}
use Rattle.zero_copy_streams.proofs.receiver.Receiver.read_all.Goals as goal

pub loop-init : goal.loop-init
loop-init g c = record { queue = refl; read = read_none g.R.Reads.tells _ _ }

-- each iteration keeps the invariant of the loop
pub loop-preserved : goal.loop-preserved
loop-preserved g c =
    let l = c.loop in
    record {
      queue = c.read_waiting.ensures.queue ∙ l.invariant.queue;
      read = read_told g.R.Reads.tells _ _ _ _ _ _ l.invariant.read c.in-Told.one c.in-Told.ensures.found
          (c.push_reserved.ensures.items ∙ ap (λ xs. xs ++ c.in-Told.one ∷ []) c.in-Ok.ensures.items);
    }

pub returns-in-Unread-clause-queue : goal.returns-in-Unread-clause-queue
returns-in-Unread-clause-queue g c = c.read_waiting.ensures.queue ∙ c.loop.invariant.queue

pub returns-in-Unread-clause-read : goal.returns-in-Unread-clause-read
returns-in-Unread-clause-read g c =
    read_rest g.R.Reads.tells _ _ _ _ _ _ c.loop.invariant.read (c.in-Unread.number ∷ []) c.in-Unread.ensures.found c.in-Ok.ensures.items

pub returns-in-End-clause-queue : goal.returns-in-End-clause-queue
returns-in-End-clause-queue g c = c.read_waiting.ensures.queue ∙ c.loop.invariant.queue

pub returns-in-End-clause-read : goal.returns-in-End-clause-read
returns-in-End-clause-read g c =
    read_rest g.R.Reads.tells _ _ _ _ _ _ c.loop.invariant.read [] (c.in-End.ensures.found ∙ sym (append-nil _)) c.in-Ok.ensures.items

pub returns-in-Err-clause-read : goal.returns-in-Err-clause-read
returns-in-Err-clause-read g c =
    read_rest g.R.Reads.tells _ _ _ _ _ _ c.loop.invariant.read [] (sym (append-nil _)) c.in-Err.ensures.items
