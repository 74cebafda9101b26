-- `load_some` (src/relay_readings.rt): each iteration keeps the invariant of its loop.
use Rattle.std.proofs.Common.{rules, arith, ◌≡◌, [], ◌∷◌, ◌++◌, sym, subst}
use Rattle.uses_programs.proofs.Names.{common_steps}
use Rattle.lock_free.specs.Value.Calls.{view}
use Rattle.uses_programs.specs.Readings.{HasRead}
use Rattle.uses_programs.proofs.Readings.{read_more}
use Rattle.uses_programs.proofs.relay_readings.load_some.Goals as goal

-- one more reading was loaded, and is appended
pub loop-done-preserved : goal.loop-done-preserved
loop-done-preserved g c =
    let pushed : c.push.new.self.items ≡ c.loop-done.readings.items ++ c.load-reading.result ∷ [] = first_of (search rules, grind (arith, common_steps)) in
    record {
      same_value = search rules;
      most = first_of (search rules, grind (arith, common_steps));
      long = first_of (search rules, grind (arith, common_steps));
      read = subst (λ xs. HasRead xs (view c.args.pass) (view c.load-reading.new.pass)) (sym pushed)
          (read_more c.loop-done.readings.items c.load-reading.result (view c.args.pass) (view c.loop-done.pass)
          (view c.load-reading.new.pass) c.loop-done.invariant.read c.load-reading.ensures.same.goes
          c.load-reading.ensures.loaded);
    }
