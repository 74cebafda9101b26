-- `Pass::join` (src/mpmc/unique_index_set/passes.rt): its call of `join` meets the requirement `joins`, that of `look` the requirement
-- `owes`, `self` meets the invariants `sound`, `done` and `knows`, and its return meets the clauses `apart` and `same`.
use Rattle.lock_free_sets.proofs.Names.{◌≡◌, ◌<◌, ℕ, ◌++◌, rules, sym, ap, subst, ◌∙◌, arith, TableId, one_word, View}
use Rattle.lock_free_sets.proofs.Names.{joined_view, Looks, IsAll, joins}
use Rattle.model.specs.declared.turn.Kind.TheVariants as kinds
use Rattle.history.specs.History.{Knows}
use Rattle.threaded.specs.Seats.{table_of, key_of}
use Rattle.threaded.proofs.Shares.{positive}
use Rattle.lock_free_sets.specs.Unique.Held.{IsDone}
use Rattle.lock_free_sets.proofs.Looks.{look_owed}
use Rattle.lock_free_sets.proofs.Unique.Facts.{apart, sound}
use Rattle.lock_free_sets.proofs.Whole.Alone.{joined_done}
use Rattle.lock_free_sets.proofs.mpmc.unique_index_set.Pass.join.Goals as goal

-- a look of a view that is the join of two is a look of the join
looks_joined : {u w : View ℕ} (v other : View ℕ) → u ≡ joined_view v other → Looks one_word kinds.Indices u.capacity u w
    → Looks one_word kinds.Indices (joined_view v other).capacity (joined_view v other) w
looks_joined {w = w} v other is looks = subst (λ (z : View ℕ). Looks one_word kinds.Indices z.capacity z w) is looks

-- Two seats with shares and no call under way may be joined: the rule of the table holds of the joined view.
pub join-requires-clause-joins : goal.join-requires-clause-joins
join-requires-clause-joins c =
    let mine = c.args.self.now in
    joins one_word kinds.Indices _ mine.seated.seat.id c.args.other.seated.seat.id mine.seated.seat.me.0
    c.args.other.seated.seat.me.0 mine.some.0 c.args.other.some.0 c.args.other.idle mine.alone c.args.other.alone

-- the load after both are joined keeps the rule of the table, and tells what a look tells
pub look-requires-clause-owes : goal.look-requires-clause-owes
look-requires-clause-owes c =
    let mine = c.args.self.now in
    let s = c.join.new.self in
    let v = mine.seated.seat.me.0 in
    let w = c.args.other.seated.seat.me.0 in
    let same : (table_of s).words ≡ (table_of mine.seated).words = ap (λ (t : TableId). t.words) c.join.ensures.same.0 in
    let below : 0 < (table_of s).words = (let wide = mine.sized in omega arith) in
    let key : key_of s ≡ key_of mine.seated = search rules in
    let more = positive v.share.part w.share.parts mine.some.0 c.args.other.some.1 in
    let some : 0 < (joined_view v w).share.part = omega arith in
    look_owed kinds.Indices (table_of s).words (table_of s).slots s.seat.id 0
    below c.join.ensures.joined s.bare (mine.known ∙ (sym mine.keyed ∙ sym key)) mine.idle some

-- the joined pass keeps its invariant `sound`: its claims and frees fit those of a set
pub invariant_of-self-clause-sound : goal.invariant_of-self-clause-sound
invariant_of-self-clause-sound c = sound _ c.look.new.self.seat.me.0 c.look.ensures.told.0.capacity c.look.ensures.told.0.history c.look.ensures.told.0.parties

-- no index was held by both passes
pub returns-clause-apart : goal.returns-clause-apart
returns-clause-apart c i mine theirs =
    let v = c.args.self.now.seated.seat.me.0 in
    let other = c.args.other.seated.seat.me.0 in
    let w = c.look.new.self.seat.me.0 in
    let looks = looks_joined v other c.join.ensures.joined c.look.ensures.told.0 in
    apart v other w i looks mine theirs

-- the pass has what both had: what they saw, what they made, their shares and their runs
pub returns-clause-same : goal.returns-clause-same
returns-clause-same c =
    let mine = c.args.self.now in
    let v = mine.seated.seat.me.0 in
    let other = c.args.other.seated.seat.me.0 in
    let w = c.look.new.self.seat.me.0 in
    let looks = looks_joined v other c.join.ensures.joined c.look.ensures.told.0 in
    record {
      set = search rules;
      joined = record {
        made = looks.made;
        party = looks.party;
        share = looks.share;
        ours = looks.mine;
        others = looks.theirs;
        ours_ran = looks.ran.first;
        theirs_ran = looks.theirs_ran;
        aside = (let all = looks.aside in omega arith);
        whole = λ all. looks.whole (subst IsAll looks.share all);
      };
      sound = sound _ w looks.capacity looks.history looks.parties;
      all = λ whole. looks.all (subst IsAll looks.share whole);
    }

-- each call that was begun with either pass has ended
pub invariant_of-self-clause-done : goal.invariant_of-self-clause-done
invariant_of-self-clause-done c =
    let v = c.args.self.now.seated.seat.me.0 in
    let other = c.args.other.seated.seat.me.0 in
    let is : c.join.new.self.seat.me.0 ≡ joined_view v other = c.join.ensures.joined in
    let made : c.look.new.self.seat.me.0.made ≡ v.made ++ other.made = c.look.ensures.told.0.made ∙ ap (λ (z : View ℕ). z.made) is in
    subst IsDone (sym made) (joined_done v.made other.made c.args.self.now.done c.args.other.done)

-- the pass knows the run that both knew, as far as it goes now
pub invariant_of-self-clause-knows : goal.invariant_of-self-clause-knows
invariant_of-self-clause-knows c =
    let mine = c.args.self.now in
    let v = mine.seated.seat.me.0 in
    let other = c.args.other.seated.seat.me.0 in
    let w = c.look.new.self.seat.me.0 in
    let looks = looks_joined v other c.join.ensures.joined c.look.ensures.told.0 in
    subst (λ n. Knows one_word kinds.Indices n w) mine.known looks.ran.knows
