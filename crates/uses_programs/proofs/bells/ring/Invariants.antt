use Rattle.std.proofs.Common.{◌≡◌, length, take}
use Rattle.lock_free.specs.Bits.Calls.{set_of, share, history, made}
use Rattle.uses_programs.specs.Bells.{WereSet, HasRung}
use Rattle.uses_programs.proofs.bells.ring.Given as given

-- The loop has rung the bells before `at`: it set exactly those in `rung`, and each of them
-- was set by somebody.
abbrev pub invariant-loop-at : given.invariant-loop-at
invariant-loop-at g l =
    record {
      end : l.at-end ≡ length l.bells;
      same_set : set_of l.pass ≡ set_of l.fn.pass;
      same_share : share l.pass ≡ share l.fn.pass;
      rung : HasRung l.rung.items (made l.pass);
      were_set : WereSet (take l.at l.bells) (history l.pass);
    }
