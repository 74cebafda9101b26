-- A call that needs no word is one look at any word, which the view counts.
use Rattle.lock_free_sets.proofs.Names.{◌≡◌, inl, ℕ, ◌+◌, ◌<◌, ◌≤◌, Some, List, [], ◌++◌, refl, sym, ap, subst, ◌∙◌, arith}
use Rattle.lock_free_sets.proofs.Names.{Event, View, Calling, Ends, IsMachine, OwesAsk, after_of}
use Rattle.std.proofs.Common.{None, inr, slice_set}
use Rattle.atomic_table.specs.Table as table
use Rattle.steps.specs.declared.ask.Op.TheVariants.{Load}
use Rattle.steps.specs.declared.ask.After.TheVariants.{Done}
use Rattle.steps.specs.declared.ask.Want.TheVariants as wants
use Rattle.model.specs.declared.turn.Turn.TheVariants.{Next}
use Rattle.model.specs.Families.{want_of}
use Rattle.model.specs.Turns.{after_turn}
use Rattle.history.specs.Known.{events_by}
use Rattle.history.specs.Stages.{IsFirst}
use Rattle.history.proofs.CallReady.{ready}
use Rattle.history.proofs.CallTurns.{Stepping, then_gained, next_between, view_then, gains_then, ends_then}
use Rattle.history.proofs.Drives.{NeverPushes, lone_machines}
use Rattle.history.proofs.Known.{by_mine, AreOf}
use Rattle.history.proofs.Passes.{set_same}
use Rattle.history.proofs.Steps.{settle}
use Rattle.history.proofs.Turns.{LoneMachines, steady_machines, goes_on_alike}

as_much : (n : ℕ) → n ≤ n
as_much n = omega arith

module _ {T C M E : Type 0} (machines : LoneMachines T) (call : Calling T C M E) where
  open machines use {code, kind, effects, size_of, laws}

  -- a call that asks for no word and ends with its first step is one load of any word of the table
  pub owes_once : (v : View T) (c : C) (m m' : M) (end : E) → IsFirst code kind call v v c m
      → want_of code (call.flight c m) ≡ wants.Nothing → NeverPushes call.flight
      → after_of code (call.flight c m) 0 ≡ Done (call.answer end m')
      → ((p : ℕ) → call.wrote_all v.capacity p v.going end m' ([] ++ effects p (call.flight c m) 0))
      → ((p : ℕ) (wrote : List (Event T)) → call.wrote v.capacity p v.going c m wrote → wrote ≡ [])
      → (words slots id word : ℕ) → word < words
      → OwesAsk (λ (z : View T). z.asked) (IsMachine code kind v.capacity) words slots id (λ u n w. Ends code kind call u end m' w) word Load (v, [])
  owes_once v c m m' end first asks_none never ends_so tells none words slots id word below = (
    below,
    λ s r long at small. (
        -- the machine of the table, on which the party of this seat may begin the call
        let finds = never c m 0 in
        let there = lone_machines machines in
        let y = ready there call s v v.capacity id c m r at refl v (inl first) in
        let step : Stepping there call =
        record {
          seat = record { s = s; v = v; key = v.capacity; id = id; c = c; m = m; at = at; known = refl; y = y };
          ask = None;
          low = tt;
          asks_it = asks_none;
          finds = finds;
        } in
        -- after the step: the table's words stay, and the rule holds of the new view
        let u = after_turn y.u (Next y.p) in
        let own : AreOf y.p (effects y.p (call.flight c m) 0) =
        ((laws v.capacity).goes_on y.u y.between.run y.p call.start (call.flight c m) y.there).own 0 in (
          view_then there call step,
          table.keeps,
          tt,
          subst (λ ws. IsMachine code kind v.capacity
              (record {
                words = ws;
                homes = s.homes;
                views = slice_set s.views id (view_then there call step);
              }))
              (sym (set_same s.words word))
              (settle code kind v.capacity id y.p y.owner (v.asked + 1) (v.aside + 1) s.words s v
              (then_gained there call step) u at first.some
              (next_between there call step) (gains_then there call step)),
          -- the call has ended, with what it wrote
          (
            ends_then there call step v (inl first) end m'
                (goes_on_alike code kind v.capacity (size_of v.capacity) (λ w. effects)
                ((steady_machines machines).laws v.capacity) y.u y.between.run y.p (call.flight c m) 0 ∙ ends_so)
                (λ es late h waits met.
                subst (λ ws. call.wrote_all v.capacity y.p v.going end m' ws)
                (sym (ap (λ zs. (zs ++ late) ++ events_by y.p (effects y.p (call.flight c m) 0)) (none y.p es h)
                ∙ (ap (λ zs. zs ++ events_by y.p (effects y.p (call.flight c m) 0)) ((laws v.capacity).alone (Some (call.start, call.flight c m)) late waits)
                ∙ by_mine y.p (effects y.p (call.flight c m) 0) own))) (tells y.p))
                (inr (as_much (v.asked + 1))),
            refl,
            refl,
          ),
        )),
  )
