-- `lend_and_recover` (src/leases.rt): its return meets the clause `apart`.
use Rattle.std.proofs.Common.{rules, ◌≡◌, ◌++◌, sym, subst}
use Rattle.uses_programs.proofs.Names.{all_shares, half_of, IsAll}
use Rattle.lock_free.specs.RobustUniqueIndexSet.{history, made, share, set_of}
use Rattle.uses_programs.specs.Leases.{HasLeased}
use Rattle.uses_programs.proofs.Halves.{both_halves}
use Rattle.uses_programs.proofs.Leased.{leased_both, leased_apart}
use Rattle.uses_programs.proofs.leases.lend_and_recover.Goals as goal

-- The joined pass has the whole share and has leased what both had. No lease has ended, so no
-- index was leased twice.
pub returns-clause-apart : goal.returns-clause-apart
returns-clause-apart g c =
    let p = c.in_ok-pass in
    let q = c.in_ok-further in
    let pass = c.join.new.self in
    let first : share c.in-Ok.mine ≡ all_shares = search rules in
    let left : share p.pass ≡ half_of (share c.in-Ok.mine) = search rules in
    let right : share q.further ≡ half_of (share c.in-Ok.mine) = search rules in
    let whole : IsAll (share pass) = both_halves _ _ _ _ first left right c.join.ensures.same.joined.share in
    let mine : HasLeased p.indices.items (made p.pass) = search rules in
    let theirs : HasLeased q.those.items (made q.further) = search rules in
    let all : c.extend_from_slice.new.self.items ≡ p.indices.items ++ q.those.items = search rules in
    let both = leased_both p.indices.items q.those.items (made p.pass) (made q.further) mine theirs in
    let sound = c.histories_are_sound.ensures (set_of pass).capacity (history pass) c.history.ensures.history in
    let leased = subst (HasLeased (p.indices.items ++ q.those.items)) (sym c.join.ensures.same.joined.made) both in
    leased_apart (set_of pass).capacity c.extend_from_slice.new.self.items (history pass) (made pass) sound (c.join.ensures.same.all whole)
    (subst (λ xs. HasLeased xs (made pass)) (sym all) leased)
