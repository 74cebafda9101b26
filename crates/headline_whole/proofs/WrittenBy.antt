-- Each event of a run was written by a turn of a machine that turns reach, and what one turn writes.
use Rattle.std.proofs.Common.{◌≡◌, ℕ, Bool, Option, Some, None, List, [], ◌∷◌, ◌++◌, refl, sym, ap, subst, ◌∙◌, append_assoc, append-nil}
use Rattle.std.proofs.lemmas.List.{append_cancel_left}
use Rattle.std.specs.List.{AllByRecursion}
use Rattle.steps.specs.declared.ask.Ask.{Ask}
use Rattle.model.specs.declared.event.Event.{Event}
use Rattle.model.specs.declared.event.Event.TheVariants.{Begun, Died, Acted, Finished}
use Rattle.model.specs.declared.event.Start.{Start}
use Rattle.model.specs.declared.turn.Kind.{Kind}
use Rattle.model.specs.declared.turn.Turn.{Turn}
use Rattle.model.specs.declared.turn.Turn.TheVariants.{Begin, Next, Decide, Die}
use Rattle.model.specs.Promise.{Promise}
use Rattle.model.specs.Promises.{IsTurnBy}
use Rattle.model.specs.Promises.Families.{promise_of}
use Rattle.model.specs.Promises.Turns.{IsParty, IsEffectOf, IsEndOf, WritesInOrder, WritesDown}
use Rattle.model.specs.Reading.{Each, whose}
use Rattle.model.specs.Refusals.{refusal_of}
use Rattle.model.specs.Turns.{IsReached, after_turn, events_of, turn_of}
use Rattle.model.specs.World.{World, Trace, opened, queue_error}
use Rattle.model.proofs.Orders.{Keeps}
use Rattle.model.proofs.Reached.{SameMaking, kept_by_runs, reached_more, turn_making}
use Rattle.model.proofs.Readings.{AreRight, Each-append, Each-nil, no_more}

module _ {A : Type 0} where
  -- what follows of each of a list, and of two lists in a row
  all_so : (P Q : A → Type 0) → ((x : A) → P x → Q x) → (xs : List A) → AllByRecursion P xs → AllByRecursion Q xs
  all_so P Q so [] all = tt
  all_so P Q so (x ∷ xs) all = (so x all.0, all_so P Q so xs all.1)

  all_both : (P : A → Type 0) (xs ys : List A) → AllByRecursion P xs → AllByRecursion P ys → AllByRecursion P (xs ++ ys)
  all_both P [] ys all more = more
  all_both P (x ∷ xs) ys all more = (all.0, all_both P xs ys all.1 more)

  pub all_first : (P : A → Type 0) (xs ys : List A) → AllByRecursion P (xs ++ ys) → AllByRecursion P xs
  all_first P [] ys all = tt
  all_first P (x ∷ xs) ys all = (all.0, all_first P xs ys all.1)

  pub all_last : (P : A → Type 0) (xs ys : List A) → AllByRecursion P (xs ++ ys) → AllByRecursion P ys
  all_last P [] ys all = all
  all_last P (x ∷ xs) ys all = all_last P xs ys all.1

module _ {T : Type 0} where
  -- ---- the turn that has written an event

  -- A turn of a reached machine that was made as `w` has written the event `e` after the events `before`.
  pub record IsWritten (w : World T) (before : List (Event T)) (e : Event T) : Type 0 where
    pub old : Trace T
    pub reached : IsReached old
    pub made : SameMaking w old.world
    pub turn : Turn T
    pub allowed : refusal_of old.world turn ≡ None
    -- what the turn has written before the event and after it
    pub first : List (Event T)
    pub last : List (Event T)
    pub wrote : events_of old.world turn ≡ first ++ e ∷ last
    pub before_is : before ≡ old.events ++ first

  -- each event of a turn is written by it
  module _ (w : World T) (old : Trace T) (turn : Turn T) (reached : IsReached old) (made : SameMaking w old.world)
      (allowed : refusal_of old.world turn ≡ None) where
    each_written : (last first : List (Event T)) → events_of old.world turn ≡ first ++ last → AreRight (IsWritten w) (old.events ++ first) last
    each_written [] first is = tt
    each_written (e ∷ last) first is = (
      record {
        old = old;
        reached = reached;
        made = made;
        turn = turn;
        allowed = allowed;
        first = first;
        last = last;
        wrote = is;
        before_is = refl;
      },
      subst (λ xs. AreRight (IsWritten w) xs last) (sym (append_assoc old.events first (e ∷ [])))
          (each_written last (first ++ e ∷ []) (is ∙ sym (append_assoc first (e ∷ []) last))),
    )

  -- the machine is reached, made as `w`, and turns have written its events
  record Goes (w : World T) (t : Trace T) : Type 0 where
    pub reached : IsReached t
    pub made : SameMaking w t.world
    pub written : Each (IsWritten w) t.events

  next : (w : World T) (t : Trace T) (turn : Turn T) → refusal_of t.world turn ≡ None → Goes w t → Goes w (after_turn t turn)
  next w t turn allowed g =
      let made = turn_making t.world turn in
      record {
        reached = reached_more t turn allowed g.reached;
        made =
            record {
              coding = made.coding ∙ g.made.coding;
              kind = made.kind ∙ g.made.kind;
              capacity = made.capacity ∙ g.made.capacity;
              parties = made.parties ∙ g.made.parties;
            };
        written =
            Each-append (IsWritten w) t.events (events_of t.world turn) g.written
            (subst (λ xs. AreRight (IsWritten w) xs (events_of t.world turn)) (append-nil t.events)
            (each_written w t turn g.reached g.made allowed (events_of t.world turn) [] refl));
      }

  -- each event of a run was written by a turn of a reached machine
  pub all_written : (t : Trace T) → IsReached t → Each (IsWritten t.world) t.events
  all_written t r = (kept_by_runs (Goes t.world) (next t.world) t first r).written
    where
      first : (queue : ℕ) → queue_error t.world.kind queue ≡ None
          → Goes t.world (opened t.world.coding t.world.kind t.world.capacity queue t.world.parties)
      first queue queued =
          record {
            reached = record { coded = r.coded; admitted = r.admitted; queue = queue; queued = queued; turns = []; is = refl };
            made = record { coding = refl; kind = refl; capacity = refl; parties = refl };
            written = Each-nil (IsWritten t.world);
          }

  -- ---- what one turn writes, where calls do not act

  -- a list of one event has this one alone
  pub alone : (a : Event T) (first : List (Event T)) (e : Event T) (last : List (Event T)) → a ∷ [] ≡ first ++ e ∷ last → a ≡ e
  alone a [] e last is = cc
  alone a (x ∷ first) e last is = let rest : [] ≡ first ++ e ∷ last = cc in absurd (no_more first e last rest)

  -- an event with which a call of the party goes on or ends
  abbrev pub IsOwn : ℕ → Event T → Type 0
  IsOwn p (Begun q start) = ⊥
  IsOwn p (Acted q start answer) = ⊥
  IsOwn p (Died owner) = ⊥
  IsOwn p e = whose e ≡ Some p

  pub its : (p : ℕ) (e : Event T) → IsOwn p e → whose e ≡ Some p
  its p (Begun q start) own = absurd own
  its p (Acted q start answer) own = absurd own
  its p (Died owner) own = absurd own
  its p e own = own

  -- a turn begins a call, or an owner dies in it, or a call of a party goes on
  pub data Writes (turn : Turn T) (es : List (Event T)) : Type 0 where
    Opens : (p : ℕ) (start : Start T) → es ≡ Begun p start ∷ [] → Writes turn es
    Dies : (owner : ℕ) → es ≡ Died owner ∷ [] → Writes turn es
    GoesOn : (p : ℕ) (said : Option Bool) → turn ≡ turn_of p said → AllByRecursion (IsOwn p) es → Writes turn es

  module _ (promise : Promise T) (never : (old : Trace T) (ask : Option Ask) (mine : ℕ → Type 0) (e : Event T) → promise.acts_right old ask mine e → ⊥)
      (old : Trace T) where
    module _ (turn : Turn T) (p : ℕ) (mine : (q : ℕ) → IsParty turn q → q ≡ p) where
      effect : (e : Event T) → IsEffectOf turn e → IsOwn p e
      effect (Begun q start) h = absurd h
      effect (Acted q start answer) h = absurd h
      effect (Finished q start answer) h = absurd h
      effect (Died owner) h = absurd h
      effect e h = ap (λ (n : ℕ). Some n) (mine _ h)

      end : (e : Event T) → IsEndOf turn e → IsOwn p e
      end (Finished q start answer) h = ap (λ (n : ℕ). Some n) (mine q h)
      end e h = absurd h

      all_own : (es : List (Event T)) → WritesInOrder promise old turn (old.events ++ es) → AllByRecursion (IsOwn p) es
      all_own es w =
          subst (AllByRecursion (IsOwn p)) (sym (append_cancel_left old.events es ((w.effects ++ w.acts) ++ w.ends) w.is))
          (all_both (IsOwn p) (w.effects ++ w.acts) w.ends
          (all_both (IsOwn p) w.effects w.acts (all_so (IsEffectOf turn) (IsOwn p) effect w.effects w.are_effects)
          (all_so _ (IsOwn p) (λ e h. absurd (never old _ (IsParty turn) e h)) w.acts w.right))
          (all_so (IsEndOf turn) (IsOwn p) end w.ends w.are_ends))

    writes : (turn : Turn T) → WritesDown promise old turn (after_turn old turn) → Writes turn (events_of old.world turn)
    writes (Begin p start) down = Opens p start refl
    writes (Next p) down = GoesOn p None refl (all_own (Next p) p (λ q h. h) (events_of old.world (Next p)) down)
    writes (Decide p said) down = GoesOn p (Some said) refl (all_own (Decide p said) p (λ q h. h) (events_of old.world (Decide p said)) down)
    writes (Die owner) down = Dies owner refl

  -- what the turn has written that wrote an event of a kind whose calls do not act
  pub own_events : (kind : Kind) → Keeps T kind
      → ((old : Trace T) (ask : Option Ask) (mine : ℕ → Type 0) (e : Event T) → (promise_of kind).acts_right old ask mine e → ⊥)
      → (w : World T) → w.kind ≡ kind → (before : List (Event T)) (e : Event T) → (x : IsWritten w before e) → Writes x.turn (events_of x.old.world x.turn)
  own_events kind keeps never w is before e x =
      let is_turn : IsTurnBy (promise_of kind) x.old x.turn (after_turn x.old x.turn) =
      subst (λ k. IsTurnBy (promise_of k) x.old x.turn (after_turn x.old x.turn)) (x.made.kind ∙ is)
      (keeps.turn x.old x.turn (x.made.kind ∙ is) x.allowed x.reached) in
      writes (promise_of kind) never x.old x.turn is_turn.events
