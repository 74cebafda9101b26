-- What the laws of ends and loads say of two moments of a pass.
use Rattle.std.proofs.Common.{◌≤◌, ℕ, ◌+◌, length, arith}
use Rattle.model.specs.declared.turn.Kind.{Kind}
use Rattle.model.specs.Loads.{begun, load}
use Rattle.model.specs.LockFree.{Bound, IsDefault}
use Rattle.lock_free.specs.Coding.{Coding}
use Rattle.lock_free.specs.History.{Continues, Knows}
use Rattle.lock_free.specs.HistoryView.View.{View}
use Rattle.headline_threads.proofs.Ending.{EndsAll, EndsSuch}
use Rattle.uses_laws.specs.Runs.{GoesOn, OwnersGoOn}

more_aside : (asked few aside load : ℕ) → few ≤ aside → asked ≤ few + load → asked ≤ aside + load
more_aside asked few aside load less most = omega arith

module _ {T : Type 0} (code : Coding T) (kind : Kind) (capacity : ℕ) (bound : Bound) (aside : ℕ) (old new : View T)
    (knows : Knows code kind capacity old) (later : Continues code kind capacity old new) (few : new.aside ≤ aside) where
  -- by the laws, between two moments of a pass steps are bounded by the calls that ended
  -- and by those that began
  pub goes_on_within : EndsAll T kind bound → GoesOn code kind capacity bound aside old new
  goes_on_within laws =
      record {
        later = later;
        within = λ parties act.
            record {
              ends_one = laws.end code capacity old new knows later parties act;
              ends_since = laws.keep code capacity old new knows later parties act;
              load_since = laws.between code capacity old new knows later parties act;
              rests = laws.rest code capacity old new knows later parties act;
            };
        all = λ parties act.
            record {
              ends_all = laws.known code capacity new later.knows parties act;
              load_all = laws.load code capacity new later.knows parties act;
              asked = more_aside new.asked new.aside aside (load (bound (length parties) capacity code.size) (begun new.seen)) few
                  (laws.asks code capacity new later.knows parties act);
            };
      }

  -- between two moments of a pass that has seen only calls begin that do not lock, steps are bounded by the calls that
  -- ended and by those that began
  pub owners_go_on_within : EndsSuch T kind IsDefault bound → OwnersGoOn code kind capacity bound aside old new
  owners_go_on_within laws =
      record {
        later = later;
        within = λ such parties act.
            record {
              ends_one = laws.end code capacity old new knows later parties act such;
              ends_since = laws.keep code capacity old new knows later parties act such;
              load_since = laws.between code capacity old new knows later parties act such;
              rests = laws.rest code capacity old new knows later parties act such;
            };
        all = λ such parties act.
            record {
              ends_all = laws.known code capacity new later.knows parties act such;
              load_all = laws.load code capacity new later.knows parties act such;
              asked = more_aside new.asked new.aside aside (load (bound (length parties) capacity code.size) (begun new.seen)) few
                  (laws.asks code capacity new later.knows parties act such);
            };
      }
