-- What finds, and looks at a container, have done when they end, from what their families tell of a turn.
use Rattle.std.proofs.Common.{◌≡◌, ℕ, ◌+◌, Option, Some, ap, subst}
use Rattle.model.specs.declared.turn.Kind.TheVariants as kinds
use Rattle.model.specs.declared.turn.Turn.{Turn}
use Rattle.model.specs.Families.Container.Promises as container_promises
use Rattle.model.specs.Families.Indices.Robust.Promises as robust_promises
use Rattle.model.specs.Promises.{IsTurn}
use Rattle.model.specs.Promises.Families.{promise_of}
use Rattle.model.specs.World.{Trace}
use Rattle.headline.specs.Ends.{Looks, RobustFinds, ContainerFinds}

-- An option holds one pair, so two pairs that it equals have the same index.
same_index : {A : Type 0} (i j : ℕ) (x y : A) (o : Option (ℕ × A)) → o ≡ Some (i, x) → o ≡ Some (j, y) → i ≡ j
same_index {A} i j x y o some_is b =
    let same : ◌≡◌ {A = ℕ × A} (i, x) (j, y) = cc in
    ap (λ (pair : ℕ × A). pair.0) same

module _ {T : Type 0} (old : Trace T) (turn : Turn T) (new : Trace T) (is_turn : IsTurn old turn new) where
  robust_tells : old.world.kind ≡ kinds.Robust → robust_promises.TellsRight old turn new
  robust_tells of_kind = subst (λ kind. (promise_of {T = T} kind).tells old turn new) of_kind is_turn.tells

  container_tells : old.world.kind ≡ kinds.Container → container_promises.TellsRight old turn new
  container_tells of_kind = subst (λ kind. (promise_of {T = T} kind).tells old turn new) of_kind is_turn.tells

  -- A find of a robust set that ends in this turn has counted its owner's indices, as `RobustFinds` says.
  pub robust_finds : old.world.kind ≡ kinds.Robust → RobustFinds old turn new
  robust_finds of_kind =
      let finds = (robust_tells of_kind).0 in
      record {
        all = finds.0;
        up_to = λ p owner index no here asks.
            let stopped = finds.1 p owner no here in
            let same : stopped.index ≡ index = cc in (
              stopped.number,
              stopped.ends,
              rw (← same) stopped.count,
            );
      }

  -- A find of a container that ends in this turn has counted its owner's indices and copied their values, as
  -- `ContainerFinds` says.
  pub container_finds : old.world.kind ≡ kinds.Container → ContainerFinds old turn new
  container_finds of_kind =
      let tells = container_tells of_kind in
      record {
        all = λ p owner number wrote ends other. (tells.finds p owner number (record { wrote = wrote; is = ends }) other).0;
        all_copied = λ well p owner number wrote ends other. (tells.finds p owner number (record { wrote = wrote; is = ends }) other).1 well;
        up_to = λ p owner index value no here asks.
            let stopped = tells.finds_up_to p owner no here in
            let same = same_index _ index _ value _ stopped.asked asks in
            let counts = rw same at stopped.counts in
            (stopped.number, stopped.ends, counts.0, counts.1);
      }

  -- A look at a container that ends in this turn has left its party the state that `Looks` says.
  pub looks : old.world.kind ≡ kinds.Container → Looks old new
  looks of_kind =
      let tells = container_tells of_kind in
      record {
        leaves = λ p start answer look ends. tells.leaves p start answer (record { is_look = look; wrote = ends.0; is = ends.1 });
        stood = λ well p index value start answer state look ends has.
            ((tells.looks p start answer state (record { is_look = look; wrote = ends.0; is = ends.1 }) has).1 well).0.stood index value;
        alone = λ well p index start answer state look ends has alone.
            ((tells.looks p start answer state (record { is_look = look; wrote = ends.0; is = ends.1 }) has).1 well).0.alone alone index;
        moments = λ well p index state ends has.
            ((tells.looks p _ _ state (record { is_look = tt; wrote = ends.0; is = ends.1 }) has).1 well).1 index;
        own = λ p index value answer state ends has.
            tells.states.own p index answer state value (record { is_look = tt; wrote = ends.0; is = ends.1 }) has;
        number = λ p number state ends has. (tells.looks p _ _ state (record { is_look = tt; wrote = ends.0; is = ends.1 }) has).0;
        at_once = λ p ends. tells.states.at_once p (record { is_look = tt; wrote = ends.0; is = ends.1 });
      }
