-- `Pass::join` (src/mpmc/robust_unique_index_set/passes.rt): its call of `join` meets the requirement `joins`, that of `look` the
-- requirement `owes`, and its return meets the clause `same`.
use Rattle.lock_free_owners.proofs.Names.{◌≡◌, ◌<◌, ℕ, List, [], rules, sym, ap, subst, ◌∙◌, arith, TableId, OwesAsk}
use Rattle.lock_free_owners.proofs.Names.{one_word, View, IsAll, IsMachine, joined_view, Looks, positive, joins, seen, table_of, key_of}
use Rattle.steps.specs.declared.ask.Op.TheVariants.{Load}
use Rattle.history.proofs.PassLooks.{owes_look}
use Rattle.history.specs.Views.{LooksOnce}
use Rattle.model.specs.declared.turn.Kind.TheVariants as kinds
use Rattle.lock_free_owners.proofs.mpmc.robust_unique_index_set.Pass.join.Goals as goal

-- Two seats with shares and no call under way may be joined: the rule of the table holds of the joined view.
pub join-requires-clause-joins : goal.join-requires-clause-joins
join-requires-clause-joins c =
    let mine = c.args.self.now in
    let other = c.args.other in
    let seats_join = joins one_word kinds.Robust _ mine.seated.seat.id other.seated.seat.id mine.seated.seat.me.0 other.seated.seat.me.0 in
    seats_join mine.some.0 other.some.0 other.idle mine.alone other.alone

-- what a look owes, where the seat knows this
abbrev Owed : ℕ → ℕ → ℕ → ℕ → View ℕ → List (ℕ × Unit {0}) → Type 0
Owed key words slots id v xs =
    OwesAsk (λ (z : View ℕ). z.asked) (IsMachine one_word kinds.Robust key) words slots id
    (λ u n w. LooksOnce one_word kinds.Robust u.capacity u w) 0 Load (v, xs)

-- the load is one that the rule of the table allows, and it tells what a look tells
pub look-requires-clause-owes : goal.look-requires-clause-owes
look-requires-clause-owes c =
    let mine = c.args.self.now in
    let s = c.join.new.self in
    let v = mine.seated.seat.me.0 in
    let u = c.args.other.seated.seat.me.0 in
    let w = joined_view v u in
    let words = (table_of s).words in
    let slots = (table_of s).slots in
    let id = s.seat.id in
    let same : (table_of s).words ≡ (table_of mine.seated).words = ap (λ (t : TableId). t.words) c.join.ensures.same.0 in
    let below : 0 < words = (let wide = mine.sized in omega arith) in
    let key : key_of s ≡ key_of mine.seated = search rules in
    let size : w.capacity ≡ key_of s = mine.known ∙ (sym mine.keyed ∙ sym key) in
    let more = positive v.share.part u.share.parts mine.some.0 c.args.other.some.1 in
    let some : 0 < w.share.part = omega arith in
    let owed : Owed w.capacity words slots id w [] = owes_look one_word kinds.Robust w.capacity words slots id 0 w below some (λ late h. h) in
    subst (λ (xs : List (ℕ × Unit {0})). Owed (key_of s) words slots id (seen s) xs) (sym s.bare)
    (subst (λ (z : View ℕ). Owed (key_of s) words slots id z []) (sym c.join.ensures.joined)
    (subst (λ k. Owed k words slots id w []) size owed))

-- the joined pass is as clause `same` says
pub returns-clause-same : goal.returns-clause-same
returns-clause-same c =
    let v = c.args.self.now.seated.seat.me.0 in
    let other = c.args.other.seated.seat.me.0 in
    let w = c.look.new.self.seat.me.0 in
    let is : c.join.new.self.seat.me.0 ≡ joined_view v other = c.join.ensures.joined in
    let looks : Looks one_word kinds.Robust (joined_view v other).capacity (joined_view v other) w =
    subst (λ (z : View ℕ). Looks one_word kinds.Robust z.capacity z w) is c.look.ensures.told.0 in
    record {
      set = search rules;
      joined = record {
        made = looks.made;
        party = looks.party;
        share = looks.share;
        ours = looks.mine;
        others = looks.theirs;
        ours_ran = looks.ran.first;
        theirs_ran = looks.theirs_ran;
        aside = (let all = looks.aside in omega arith);
        whole = λ all. looks.whole (subst IsAll looks.share all);
      };
      all = λ whole. looks.all (subst IsAll looks.share whole);
    }
