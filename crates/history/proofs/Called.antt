-- A call that has ended (`Ends`) is told to the caller as a whole call (`Called`), and a call under way may
-- be told of from where it stands.
use Rattle.std.proofs.Common.{arith}
use Rattle.history.proofs.Names.{◌≡◌, inl, inr, ℕ, ◌+◌, ◌≤◌, Option, Some, None, [], ◌++◌, refl, sym, ap, subst, ◌∙◌}
use Rattle.history.proofs.Names.{append-nil, Start, Flight, Kind, Coding, IsAll}
use Rattle.history.specs.declared.view.View.{View}
use Rattle.history.specs.History.{IsHistory, Knows, HasStood, Called}
use Rattle.history.proofs.OneRun.{first_all}
use Rattle.history.specs.Stages.{Calling, opened, taken_by, At, Ends}

-- a number is at most itself
as_much : (n : ℕ) → n ≤ n
as_much n = omega arith

module _ {T C M E : Type 0} (code : Coding T) (kind : Kind) (call : Calling T C M E) where
  -- a call that had not begun in `base` and has ended is a whole call, from `base` on
  pub called : (base w : View T) (e : E) (m : M) → base.going ≡ None → (ends : Ends code kind call base e m w)
      → Called ends.party call.start (call.answer e m) ends.wrote base w
  called = grind arith

  -- a call under way may be told of from its own view too: it has written nothing since
  pub at_itself : (base v : View T) (c : C) (m : M) → ((p : ℕ) → call.by (Some p) p)
      → ((n p : ℕ) → call.wrote n p (Some (call.start, call.flight c m)) c m []) → At code kind call base v c m
      → At code kind call v v c m
  -- the call is about to begin: the view is still `base`
  at_itself base v c m own none (inl first) =
      subst (λ z. At code kind call z z c m) (sym first.is) (inl (record {
        is = refl;
        idle = first.idle;
        fresh = first.fresh;
        standing = first.standing;
        some = first.some;
        first = first.first;
        starts = first.starts;
        wrote = first.wrote;
      }))
  -- the call is under way: counted from the view itself, it has written nothing and taken no step
  at_itself base v c m own none (inr under) =
      let opens : opened under.party call.start v.going ≡ [] = ap (opened under.party call.start) under.going in
      inr (record {
        capacity = refl;
        standing = subst (λ n. call.stands n c) (sym under.capacity) under.standing;
        share = refl;
        some = under.some;
        party = under.party;
        mine = under.mine;
        same = subst (λ (o : Option ℕ). call.by o under.party) (sym under.mine) (own under.party);
        going = under.going;
        state = λ leaves is. refl;
        past = under.past;
        asked =
            subst (λ (o : Option (Start T × Flight T)). v.asked + taken_by o v.taken ≤ v.asked + v.taken) (sym under.going)
            (as_much (v.asked + v.taken));
        aside = refl;
        alone = under.alone;
        wrote = [];
        tells = subst (λ (o : Option (Start T × Flight T)). call.wrote v.capacity under.party o c m []) (sym under.going) (none v.capacity under.party);
        history = subst (λ n. IsHistory code kind n v.seen) (sym under.capacity) under.history;
        ran = record { first = first_all v.turns; knows = subst (λ n. Knows code kind n v) (sym under.capacity) under.ran.knows };
        stood = subst (λ n. HasStood code kind n under.party call.start (call.flight c m) v.seen) (sym under.capacity) under.stood;
        all = λ all. under.all (subst IsAll under.share all);
        parties = under.parties;
        since = record {
          others = [];
          during = [];
          is = sym (append-nil v.seen) ∙ (sym (append-nil (v.seen ++ [])) ∙ ap (λ os. (v.seen ++ []) ++ (os ++ [])) (sym opens));
          alone = λ all. refl;
          others_own = refl;
          during_own = refl;
          made = sym (append-nil v.made) ∙ ap (λ os. v.made ++ (os ++ [])) (sym opens);
        };
      })
