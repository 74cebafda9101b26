-- `Pass::join` (src/mpmc/container/passes.rt): its call of `look` meets the requirements `owes` and `capacity`, that of `join` the
-- requirement `joins`, `self` meets the invariant `knows`, and its return meets the clause `same`.
use Rattle.lock_free_owners.proofs.Names.{◌≡◌, ◌<◌, ◌⊎◌, ◌++◌, ℕ, List, [], rules, sym, ap, subst, ◌∙◌, arith, TableId, OwesAsk}
use Rattle.lock_free_owners.proofs.Names.{Coding, coding_by, View, IsAll, IsBeginning, IsMachine, seen, table_of, key_of}
use Rattle.lock_free_owners.proofs.Names.{joined_view, Looks, positive, joins}
use Rattle.steps.specs.declared.ask.Op.TheVariants.{Load}
use Rattle.model.specs.declared.turn.Kind.TheVariants as kinds
use Rattle.threaded.specs.Shares.{both_of}
use Rattle.history.specs.History.{AreFirst, Knows}
use Rattle.history.specs.Views.{LooksOnce}
use Rattle.history.proofs.PassLooks.{owes_look}
use Rattle.lock_free_owners.specs.Container.Settling.{HasSettled}
use Rattle.lock_free_owners.proofs.ContainerSet.Passes.{settled_once}
use Rattle.lock_free_owners.proofs.ContainerSet.Resting.{settled_so}
use Rattle.lock_free_owners.proofs.ContainerSet.Settling.{owes_settling, settled_capacity}
use Rattle.lock_free_owners.proofs.mpmc.container.Pass.join.Goals as goal

-- what the last look tells, of the view that the join made
on_joined : {T : Type 0} (code : Coding T) (v x joined new : View T) → joined ≡ joined_view v x → LooksOnce code kinds.Container joined.capacity joined new
    → Looks code kinds.Container v.capacity (joined_view v x) new
on_joined code v x joined new is told = subst (λ (z : View _). Looks code kinds.Container z.capacity z new) is told.0

-- what the load at the other owes, where its seat knows this
abbrev Settles : {T : Type 0} → Coding T → ℕ → ℕ → ℕ → ℕ → View T → List (ℕ × Unit {0}) → Type 0
Settles {T} code key words slots id v xs =
    OwesAsk (λ (z : View T). z.asked) (IsMachine code kinds.Container key) words slots id (λ u n w. HasSettled code u w) 0 Load (v, xs)

-- the load is one that the rule of the table allows, and it tells what a look tells
pub look-requires-clause-owes : goal.look-requires-clause-owes
look-requires-clause-owes g c =
    let code : Coding g.row.T.Denot = coding_by g.T.Words in
    let other = c.args.other.token in
    let s = other.seated in
    let table = table_of s in
    let below : 0 < (table_of s).words = (let size = other.sized in omega arith) in
    subst (λ (xs : List (ℕ × Unit {0})). Settles code (key_of s) table.words table.slots s.seat.id (seen s) xs) (sym s.bare)
    (owes_settling code table.slots s.seat.id (seen s) below (other.known ∙ sym other.keyed) other.idle other.alone other.some.0)

-- a look leaves the capacity that the pass knows (requirement `capacity`)
pub look-requires-clause-capacity : goal.look-requires-clause-capacity
look-requires-clause-capacity g c v n w told =
    settled_capacity (coding_by g.T.Words) v w told

-- the views may be joined: the rule of the table holds of the joined view
pub join-requires-clause-joins : goal.join-requires-clause-joins
join-requires-clause-joins g c =
    let code : Coding g.row.T.Denot = coding_by g.T.Words in
    let mine = c.args.self.now.token in
    let other = c.args.other.token in
    let x = c.look.new.self.seat.me.0 in
    let s = settled_once code other.seated.seat.me.0 x other.alone other.some.0 other.some.1 c.look.ensures.told in
    let seats_join = joins code kinds.Container _ mine.seated.seat.id c.look.new.self.seat.id mine.seated.seat.me.0 x in
    seats_join mine.some.0 s.part s.idle mine.alone s.fresh

-- what a look owes, where the seat knows this
abbrev Owed : {T : Type 0} → Coding T → ℕ → ℕ → ℕ → ℕ → View T → List (ℕ × Unit {0}) → Type 0
Owed {T} code key words slots id v xs =
    OwesAsk (λ (z : View T). z.asked) (IsMachine code kinds.Container key) words slots id
    (λ u n w. LooksOnce code kinds.Container u.capacity u w) 0 Load (v, xs)

-- the last load is one that the rule of the table allows, and it tells a look at the whole history
pub look-requires-2-clause-owes : goal.look-requires-2-clause-owes
look-requires-2-clause-owes g c =
    let code : Coding g.row.T.Denot = coding_by g.T.Words in
    let mine = c.args.self.now.token in
    let other = c.args.other.token in
    let x = c.look.new.self.seat.me.0 in
    let h = settled_once code other.seated.seat.me.0 x other.alone other.some.0 other.some.1 c.look.ensures.told in
    let s = c.join.new.self in
    let v = mine.seated.seat.me.0 in
    let w = joined_view v x in
    let words = (table_of s).words in
    let slots = (table_of s).slots in
    let id = s.seat.id in
    -- The joined seat is at the table of this pass, with a part of the share of both.
    let same : (table_of s).words ≡ (table_of mine.seated).words = ap (λ (t : TableId). t.words) c.join.ensures.same.0 in
    let below : 0 < words = (let wide = mine.sized in omega arith) in
    let key : key_of s ≡ key_of mine.seated = search rules in
    let size : w.capacity ≡ key_of s = mine.known ∙ (sym mine.keyed ∙ sym key) in
    let more = positive v.share.part x.share.parts mine.some.0 h.parts in
    let some : 0 < w.share.part = omega arith in
    -- So it owes this for the load, as it holds nothing else.
    let owed : Owed code w.capacity words slots id w [] = owes_look code kinds.Container w.capacity words slots id 0 w below some (λ late h. h) in
    subst (λ (xs : List (ℕ × Unit {0})). Owed code (key_of s) words slots id (seen s) xs) (sym s.bare)
    (subst (λ (z : View g.row.T.Denot). Owed code (key_of s) words slots id z []) (sym c.join.ensures.joined)
    (subst (λ k. Owed code k words slots id w []) size owed))

-- the joined pass is as clause `same` says
pub returns-clause-same : goal.returns-clause-same
returns-clause-same g c =
    let code : Coding g.row.T.Denot = coding_by g.T.Words in
    -- The other pass settled its last call first (h), and then this one looked at the joined view.
    let h = c.look.ensures.told in
    let seat = c.args.self.now.token in
    let mine = seat.seated.seat.me.0 in
    let new = c.look-2.new.self.seat.me.0 in
    let looked = on_joined code mine c.look.new.self.seat.me.0 c.join.new.self.seat.me.0 new c.join.ensures.joined c.look-2.ensures.told in
    record {
      container = search rules;
      joined = record {
        from = h.from;
        settled = settled_so code c.args.other.token.seated.seat.me.0 h.from h.settled;
        joined = record {
          made = looked.made ∙ ap (λ (z : View g.row.T.Denot). mine.made ++ z.made) h.counted.known;
          party = looked.party;
          share = looked.share ∙ ap (λ (z : View g.row.T.Denot). both_of mine.share z.share) h.counted.known;
          ours = looked.mine;
          others = subst (λ (z : View g.row.T.Denot). IsBeginning z.seen new.seen) h.counted.known looked.theirs;
          ours_ran = looked.ran.first;
          theirs_ran = subst (λ (z : View g.row.T.Denot). AreFirst z.turns new.turns) h.counted.known looked.theirs_ran;
          aside = (let once = h.counted.aside in let all = looked.aside in omega arith);
          whole = λ all.
              subst (λ (z : View g.row.T.Denot). (new.seen ≡ mine.seen) ⊎ (new.seen ≡ z.seen)) h.counted.known
              (looked.whole (subst IsAll looked.share all));
        };
      };
      keeps = λ p is. (looked.party ∙ is, looked.state);
      all = λ whole. looked.all (subst IsAll looked.share whole);
    }

-- what the joined pass knows is a run
pub invariant_of-self-clause-knows : goal.invariant_of-self-clause-knows
invariant_of-self-clause-knows g c =
    let code : Coding g.row.T.Denot = coding_by g.T.Words in
    let seat = c.args.self.now.token in
    let new = c.look-2.new.self.seat.me.0 in
    let looked =
    on_joined code seat.seated.seat.me.0 c.look.new.self.seat.me.0 c.join.new.self.seat.me.0 new c.join.ensures.joined c.look-2.ensures.told in
    subst (λ n. Knows code kinds.Container n new) seat.known looked.ran.knows
