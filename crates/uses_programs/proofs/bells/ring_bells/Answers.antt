-- `ring_bells` (src/bells.rt): its call of `hear_rest` meets what that requires, and its return meets the clauses `same` and `all`.
use Rattle.std.proofs.Common.{rules, ◌≡◌, [], sym, ap, subst, ◌∙◌}
use Rattle.uses_programs.proofs.Names.{Share, all_shares, half_of, both_of, IsAll}
use Rattle.lock_free.specs.Bits.Calls.{history, made, share}
use Rattle.uses_programs.specs.Bells.{WereSet, BothRung, HearsMore}
use Rattle.uses_programs.proofs.Rings.{split_twice, all_heard, none_lost, rang_still}
use Rattle.uses_programs.proofs.bells.ring_bells.Goals as goal

-- the pass that was split twice is joined again, so it has the whole share and misses nothing
pub hear_rest-requires : goal.hear_rest-requires
hear_rest-requires g c =
    let opened = c.in-Ok.mine in
    let p = c.in_ok-pass in
    let h = c.in_ok-listener in
    let first : share opened ≡ all_shares = c.in-Ok.ensures.share in
    let half : share c.split.new.self ≡ half_of (share opened) = c.in_ok-ears.ensures.cut.share in
    let third : share c.in_ok-ears.ears ≡ half_of (share opened) = c.in_ok-ears.ensures.cut.right_share in
    let mine : share c.split-2.new.self ≡ half_of (share c.split.new.self) = c.in_ok-other.ensures.cut.share in
    let other : share c.in_ok-other.other ≡ half_of (share c.split.new.self) = c.in_ok-other.ensures.cut.right_share in
    let x : share p.pass ≡ both_of (share c.split-2.new.self) (share c.in_ok-other.other) = search rules in
    let y : share h.listener ≡ share c.in_ok-ears.ears = search rules in (
      search rules,
      subst IsAll (sym (c.join.ensures.same.joined.share ∙ ap (λ (z : Share × Share). both_of z.0 z.1) (λ i. (x i, y i))))
          (split_twice _ _ _ _ _ first half third mine other),
      c.join.ensures.same.all,
    )

-- what was heard and what still rang is what was rung, bell by bell
pub returns-clause-same : goal.returns-clause-same
returns-clause-same g c =
    let p = c.in_ok-pass in
    let h = c.in_ok-listener in
    let rang : BothRung p.began.0.items p.began.1.items (made p.pass) = search rules in
    let fresh : made c.in_ok-ears.ears ≡ [] = c.in_ok-ears.ensures.cut.right_made in
    let listens : HearsMore [] h.heard.items (made c.in_ok-ears.ears) (made h.listener) = search rules in
    all_heard p.began.0.items p.began.1.items h.heard.items c.in_ok-left.left.items (made p.pass)
    (made c.in_ok-ears.ears) (made h.listener) (made c.join.new.self) rang fresh listens c.join.ensures.same.joined.made
    c.in_ok-left.ensures

-- each bell of both lists was set when both threads were joined, so it was heard or still rang:
-- `first`, and then `second`
pub returns-clause-all : goal.returns-clause-all
returns-clause-all g c =
    let opened = c.in-Ok.mine in
    let p = c.in_ok-pass in
    let h = c.in_ok-listener in
    let first : share opened ≡ all_shares = c.in-Ok.ensures.share in
    let half : share c.split.new.self ≡ half_of (share opened) = c.in_ok-ears.ensures.cut.share in
    let third : share c.in_ok-ears.ears ≡ half_of (share opened) = c.in_ok-ears.ensures.cut.right_share in
    let mine : share c.split-2.new.self ≡ half_of (share c.split.new.self) = c.in_ok-other.ensures.cut.share in
    let other : share c.in_ok-other.other ≡ half_of (share c.split.new.self) = c.in_ok-other.ensures.cut.right_share in
    let x : share p.pass ≡ both_of (share c.split-2.new.self) (share c.in_ok-other.other) = search rules in
    let y : share h.listener ≡ share c.in_ok-ears.ears = search rules in
    let rang : BothRung p.began.0.items p.began.1.items (made p.pass) = search rules in
    let fresh : made c.in_ok-ears.ears ≡ [] = c.in_ok-ears.ensures.cut.right_made in
    let listens : HearsMore [] h.heard.items (made c.in_ok-ears.ears) (made h.listener) = search rules in
    let one : WereSet c.args.first.now (history p.pass) = search rules in
    let two : WereSet c.args.second.now (history p.pass) = search rules in (
      none_lost p.began.0.items p.began.1.items h.heard.items c.in_ok-left.left.items (made p.pass)
          (made c.in_ok-ears.ears) (made h.listener) (made c.join.new.self) rang fresh listens
          c.join.ensures.same.joined.made c.in_ok-left.ensures c.args.first.now (history c.join.new.self)
          (c.join.ensures.same.all
          (subst IsAll (sym (c.join.ensures.same.joined.share ∙ ap (λ (z : Share × Share). both_of z.0 z.1) (λ i. (x i, y i))))
          (split_twice _ _ _ _ _ first half third mine other)))
          (rang_still c.args.first.now (history p.pass) (history c.join.new.self) c.join.ensures.same.joined.ours one),
      none_lost p.began.0.items p.began.1.items h.heard.items c.in_ok-left.left.items (made p.pass)
          (made c.in_ok-ears.ears) (made h.listener) (made c.join.new.self) rang fresh listens
          c.join.ensures.same.joined.made c.in_ok-left.ensures c.args.second.now (history c.join.new.self)
          (c.join.ensures.same.all
          (subst IsAll (sym (c.join.ensures.same.joined.share ∙ ap (λ (z : Share × Share). both_of z.0 z.1) (λ i. (x i, y i))))
          (split_twice _ _ _ _ _ first half third mine other)))
          (rang_still c.args.second.now (history p.pass) (history c.join.new.self) c.join.ensures.same.joined.ours two),
    )
