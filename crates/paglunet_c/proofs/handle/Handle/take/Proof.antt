-- `take` moves what is behind the pointer into the result.
use Rattle.std.proofs.Common.{◌≡◌, List, [], ◌∷◌, ◌++◌, refl, sym, ap, ◌∙◌, subst}
use Rattle.std.proofs.raw_atomic.Walks.{proved}
use Rattle.std.specs.Prelude.{IsSome, IfSome, None, Some}
use Rattle.std.specs.declared.option.Option.{Option}
use mir.Syntax.{named}
use mir.Raw.{raw as bare}
use mir.Val.{Val, vptr}
use base.Logic.{id⊢, fst∗, never}
use base.Fraction.{full_share}
use base.Fml.{ftrue, flft}
use types.Logic.{sem}
use types.Kit.{‵, raw, ◌⊛◌, ◌$◌, ◌∵◌, !, qed, done, move, keep, drop, use0, split, split3, join, fsplit, fsplit3, fjoin, fpick, rewrite, suffices, frame, group}
use types.Run.{enter, of_opd, load, stop, fld, no_more, and_then, returns}
use types.ByLocal.{alloc_all, pass_all, free_all, look_at, get, through, sets}
use types.Part.{whole, sub, look_in, agg}
use contract.Monad.{fact, fact_i}
use contract.Running.{tables}
use denote.Exit.{yes}
use denote.Laws.{shows}
use denote.Memory.{cell_at, lone}
use denote.RawPtr.{Ptr, block_ptr, null_ptr, in_a_block}
use denote.Ref.{MutRef, mut_vals, mut_Tells}
use denote.Signature.{plain}
use denote.Steps.{nothing, opens, closes, peeks, heard}
use denote.Struct.Laws.{val, tells}
use Rattle.std.proofs.mem.Facts.{says_two}
use denote.Triple.Walked.{Stays, walk_of, stay_ref, stay_dropped, Goes-ref, Goes-dropped, ends_at}
use Rattle.std.specs.Box.Ownership.{box_owns}
use Rattle.std.specs.contracts.alloc.Global as heap
use Rattle.std.proofs.alloc.Global.TheLaws as heap_laws
use Rattle.std.specs.contracts.impls.GlobalAllocator.TheImpl.{ghosts}
use Rattle.paglunet_c.specs.Handles.{owned}
use Rattle.paglunet_c.specs.declared.held.Held.{Held}
use Rattle.paglunet_c.specs.contracts.held.Held.{the_row as X}
use Rattle.paglunet_c.specs.contracts.handle.Handle.{the_row as R}
use Rattle.paglunet_c.proofs.handle.Handle.TheLaws.{lowers}
use Rattle.paglunet_c.proofs.Values.{both, loose_in, loose_good, some_of}
use Rattle.paglunet_c.specs.contracts.handle.Handle.take as f
use Rattle.paglunet_c.proofs.handle.Handle.take.Statement.{statement}
use Rattle.paglunet_c.proofs.handle.Handle.take.Code as code

abbrev stayed : Stays f.ended.signature.params f.ended.kept
stayed = (stay_ref (0 ∷ []) tt (plain (λ _. R)), (stay_dropped (plain (λ _. heap.the_row)) yes, tt))

pub take_spec : {M : Type 1} → statement M
take_spec 𝓤 𝓛 𝓜 𝓡 wired =
    let c = f.clauses 𝓛 𝓜.mem 𝓡.returns in let W = walk_of 𝓛 f.ended stayed c in let 𝓣 = tables 𝓤 𝓛.H 𝓜 𝓡 𝓡.env in
    let Z = heap.the_row in let Gv : Z.Denot → List Val = λ z. val heap.the_type heap_laws.the_laws z ∷ [] in
    proved 𝓛 f.ended stayed c 𝓜 𝓡 (Goes-ref 𝓛 1 0 tt (plain (λ _. R)), (Goes-dropped 𝓛 1 (plain (λ _. Z)) yes (λ κs x w. refl), tt))
    f.Key.name code.function (code.unfolded 𝓤 𝓛.H 𝓜 𝓡 wired)
    (λ κs. (mut_vals, (Gv, tt))) (λ κs. (mut_Tells (named 0) κs.0 R, (tells heap.the_type heap_laws.the_laws, tt))) (λ κs qs bounds a _ are.
    let b = a.0.ref_ptr.0 in let o = a.0.ref_ptr.1 in let h = a.0.now in let vs = mut_vals a.0 in let g = a.1.0 in
    let y : W.Ghost = ((κs, qs, bounds, a, (vs, (Gv g, tt))), tt) in
    qed 𝓛 (((‵ (flft κs.0 qs.0) ⊛ ‵ ftrue) ⊛ (‵ ((MutRef (named 0) κs.0 R).own_val a.0 vs) ⊛ ‵ (Z.own_val g (Gv g)) ⊛ ‵ ftrue))
    ∷ raw (fact 𝓤 (IsSome h.held)) ∷ [])
    ∵
    move ! (1 ∷ []) $ heard ! _ (λ some. split ! $ split ! $ move ! (2 ∷ []) $ split3 ! $ keep ! (0 ∷ 3 ∷ 1 ∷ []) $
    enter ! _ _ _ _ _ $ alloc_all ! (λ l. pass_all ! refl ((tt, tt), ((tt, ((tt, tt), tt)), tt)) $
    -- [self; the token; the handle to the heap]
    fsplit3 ! $ move ! (1 ∷ 2 ∷ 3 ∷ []) $ opens ! tt R b o (λ us.
    move ! (1 ∷ []) $ peeks ! R _ (shows 𝓛 R) h us (λ is. fsplit ! $ move ! (1 ∷ []) $
    let v = some_of h.held some in rewrite ! 0 (λ (x : Option Held). ‵ (owned h.at x)) v.1 refl $ fpick ! (λ heap'.
    in_a_block ! h.at (λ p. box_owns (ghosts.dealloc_token g) X p v.0)
    (fst∗ 𝓤 (never 𝓤) (sem 𝓛 (ghosts.dealloc_token g (bare (lone X.mir)) null_ptr))) (λ b' o' e.
    let word = lowers.val_is h us is ∙ ap (λ (p : Ptr). lowers.lowered (record h { at = p }) ∷ []) e in
    let Cell = λ (ws : List Val). ‵ (cell_at full_share R.mir ws b o) in
    rewrite ! 2 Cell word refl $
    -- [the box; what the fields own; the handle's cell; the open borrow, in three entries; self's first part; the heap]
    sets ! (of_opd ! (load ! (through ! refl (fld ! refl (stop !))) (look_in ! 2 (sub ! 0 refl (whole !))))) refl (tt, tt) $
    let hv = val heap.the_type heap_laws.the_laws g in let out : Val = both (vptr b' o') hv in let Z_laws = heap_laws.the_row_laws in
    sets ! (agg ! (and_then ! (get ! refl) (and_then ! (get ! refl) (no_more !)))) refl (loose_good X Z Z_laws ghosts b' o' hv (tt, ((tt, tt), tt))) $
    move ! (0 ∷ 7 ∷ []) $ loose_in X Z Z_laws ghosts ! b' o' hv g v.0 $ rewrite ! 2 Cell (sym word) refl $
    -- [the result; what the fields own; the handle's cell; the open borrow, in three entries; self's first part]
    nothing ! $ move ! (2 ∷ 0 ∷ []) $ fjoin ! $ move ! (2 ∷ 0 ∷ 3 ∷ 4 ∷ 5 ∷ []) $ closes ! tt R (record h { held = None }) us b o $
    -- [two parts of self; the token; the result; self's first part]
    returns ! (look_at ! 0 refl) $ free_all ! refl $ move ! (4 ∷ []) $
    suffices ! _ (ends_at 𝓛 f.ended stayed c y out (record { at = block_ptr b' o'; alloc = g; value = v.0 })
    (record h { held = None }, (tt, tt)) (tt, (tt, tt)))
    $
    says_two ! (subst (λ (x : Option Held). IfSome x (λ w. v.0 ≡ w)) (sym v.1) refl, refl) $
    group ! 3 $ nothing ! $ nothing ! $ join ! $ move ! (1 ∷ 0 ∷ []) $ join ! $ nothing ! $ move ! (2 ∷ 0 ∷ []) $ join ! $ frame ! $ frame ! $ done !)))))))
