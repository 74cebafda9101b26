use Rattle.std.proofs.Common.{◌≡◌, length, take}
use Rattle.lock_free.specs.Value.Calls.{view, value_of_pass, producer_view, value_of_producer}
use Rattle.uses_programs.specs.Readings.{HasWritten}
use Rattle.uses_programs.proofs.relay_readings.write.Given as given

-- In this order: the value is the same; the loop ends at the last reading; the readings
-- before `next` were stored.
abbrev pub invariant-loop-next : given.invariant-loop-next
invariant-loop-next l =
    (value_of_producer l.producer ≡ value_of_pass l.fn.pass)
    × (l.next-end ≡ length l.readings)
    × HasWritten (take l.next l.readings) (view l.fn.pass) (producer_view l.producer)
