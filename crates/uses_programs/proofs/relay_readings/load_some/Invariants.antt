use Rattle.std.proofs.Common.{◌≡◌, ◌≤◌, length}
use Rattle.lock_free.specs.Value.Calls.{view, value_of_pass}
use Rattle.uses_programs.specs.Readings.{HasRead}
use Rattle.uses_programs.proofs.relay_readings.load_some.Given as given

-- the loop has loaded `_done` readings, and they are in `readings`
abbrev pub invariant-loop-done : given.invariant-loop-done
invariant-loop-done g l =
    record {
      same_value : value_of_pass l.pass ≡ value_of_pass l.fn.pass;
      most : l._done ≤ l.count;
      long : length l.readings.items ≡ l._done;
      read : HasRead l.readings.items (view l.fn.pass) (view l.pass);
    }
