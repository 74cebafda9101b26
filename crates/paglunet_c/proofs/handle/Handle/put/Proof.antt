-- `put` moves what a loose box owns behind the pointer.
use Rattle.std.proofs.Common.{◌≡◌, List, [], ◌∷◌, ◌++◌, refl, sym, ap, subst}
use Rattle.std.proofs.raw_atomic.Walks.{proved_at}
use Rattle.std.specs.Prelude.{None, Some}
use mir.Syntax.{named}
use mir.Val.{Val, vptr, vunit}
use base.Fraction.{full_share}
use base.Logic.{SProp, ent, id⊢}
use base.Fml.{ftrue, flft}
use prog.Wp.{WpFn}
use types.Kit.{‵, raw, ◌⊛◌, ◌$◌, ◌∵◌, !, qed, done, move, keep, split, split3, join, fsplit3, fjoin, fjoin3, fpack}
use types.Kit.{rewrite, suffices, frame, group, feq_i, drop}
use types.Run.{enter, of_opd, unit_lit, stop, fld, assigns, returns}
use types.ByLocal.{alloc_all, pass_all, free_all, look_at, get, get_in, through, sets}
use types.Part.{whole, sub, store_in}
use contract.Monad.{fact}
use contract.Running.{tables}
use denote.Builtin.{RawPtr}
use denote.Exit.{no}
use denote.Laws.{shows}
use denote.Memory.{cell_at}
use denote.RattleType.{Valss}
use denote.RawPtr.{block_ptr}
use denote.Ref.{MutRef, mut_vals, mut_Tells}
use denote.Signature.{plain}
use denote.Steps.{nothing, opens, closes, peeks, heard}
use denote.Struct.Owning.{shape}
use denote.Struct.Struct.{within}
use denote.Triple.Walked.{Stays, walk_of, says, stay_ref, stay_dropped, Goes-ref, ends_at}
use Rattle.std.proofs.alloc.Calls.{Goes-blank}
use Rattle.std.specs.Box.Ownership.{box_owns}
use Rattle.std.specs.declared.alloc.Global.{Global}
use Rattle.std.specs.contracts.alloc.Global as heap
use Rattle.std.proofs.alloc.Global.TheLaws as heap_laws
use Rattle.std.specs.contracts.impls.GlobalAllocator.TheImpl.{ghosts}
use Rattle.paglunet_c.specs.contracts.held.Held.{the_row as X}
use Rattle.paglunet_c.specs.contracts.handle.Handle.{the_row as R, the_type as R_type}
use Rattle.paglunet_c.proofs.handle.Handle.TheLaws.{lowers}
use Rattle.paglunet_c.proofs.Values.{both, Loose, loose_out, loose_good}
use Rattle.paglunet_c.specs.contracts.handle.Handle.put as f
use Rattle.paglunet_c.proofs.handle.Handle.put.Statement.{statement}
use Rattle.paglunet_c.proofs.handle.Handle.put.Code as code

abbrev stayed : Stays f.ended.signature.params f.ended.kept
stayed = (stay_ref (0 ∷ []) tt (plain (λ _. R)), (stay_dropped (plain (λ _. Loose X heap.the_row heap_laws.the_row_laws ghosts)) no, tt))

pub put_spec : {M : Type 1} → statement M
put_spec 𝓤 𝓛 𝓜 𝓡 wired =
    let c = f.clauses 𝓛 𝓜.mem 𝓡.returns in let W = walk_of 𝓛 f.ended stayed c in let 𝓣 = tables 𝓤 𝓛.H 𝓜 𝓡 𝓡.env in
    let Z = heap.the_row in let Z_laws = heap_laws.the_row_laws in let B = Loose X Z Z_laws ghosts in let fn = code.function in
    proved_at 𝓛 f.ended stayed c 𝓜 𝓡 (Goes-ref 𝓛 1 0 tt (plain (λ _. R)), (Goes-blank 𝓛 1 (plain (λ _. B)) no (λ κs x w. tt), tt))
    f.Key.name fn (code.unfolded 𝓤 𝓛.H 𝓜 𝓡 wired) (λ z are.
    let κs = z.0.0 in let qs = z.0.1 in let r = z.0.3.0 in let d = z.0.3.1.0 in let b = r.ref_ptr.0 in let o = r.ref_ptr.1 in let h = r.now in
    let Ref = MutRef (named 0) κs.0 R in let er = mut_Tells (named 0) κs.0 R r z.0.4.0 are.0 in
    let Post : Val → SProp 𝓤 = W.post z in let Run : List Val → SProp 𝓤 = λ ws. WpFn 𝓤 𝓛.H 𝓣.C 𝓣.Λ fn ws Post in
    qed 𝓛 (((‵ (flft κs.0 qs.0) ⊛ ‵ ftrue) ⊛ (‵ (Ref.own_val r z.0.4.0) ⊛ ‵ (B.own_val d z.0.4.1.0) ⊛ ‵ ftrue)) ∷ raw (fact 𝓤 (h.held ≡ None)) ∷ []) ∵
    move ! (1 ∷ []) $ heard ! _ (λ none. split ! $ split ! $ move ! (2 ∷ []) $ split3 ! $ keep ! (1 ∷ 0 ∷ 3 ∷ []) $
    loose_out X Z Z_laws ghosts ! d z.0.4.1.0 (λ b' o' hv e ws fits.
    rewrite ! 2 (λ vs. ‵ (Ref.own_val r vs)) er refl $
    let w : Val = both (vptr b' o') hv in
    suffices ! (Run (vptr b o ∷ w ∷ []))
    (subst (λ (us : List Val). ent 𝓤 (Run (vptr b o ∷ w ∷ [])) (Run us)) (sym (λ i. er i ++ (ws i ++ [])))
    (id⊢ 𝓤 (Run (vptr b o ∷ w ∷ []))))
    $
    enter ! _ _ _ _ _ $ alloc_all ! (λ l. pass_all ! refl ((tt, tt), (loose_good X Z Z_laws ghosts b' o' hv fits, tt)) $
    sets ! (of_opd ! (get_in ! (fld ! refl (stop !)) (sub ! 0 refl (whole !)))) refl (tt, tt)
    $ sets ! (of_opd ! (get_in ! (fld ! refl (stop !)) (sub ! 1 refl (whole !)))) refl fits $
    -- [the box; the handle to the heap; self; the token]
    move ! (2 ∷ 3 ∷ []) $ fsplit3 ! $ move ! (1 ∷ 2 ∷ 3 ∷ []) $ opens ! tt R b o (λ us.
    move ! (1 ∷ []) $ peeks ! R _ (shows 𝓛 R) h us (λ is.
    -- [what self owns; its cell; the open borrow, in three entries; self's first part; the box; the handle to the heap]
    rewrite ! 1 (λ (vs : List Val). ‵ (cell_at full_share R.mir vs b o)) (lowers.val_is h us is) refl $
    assigns ! (of_opd ! (get ! refl)) (through ! refl (fld ! refl (stop !))) (store_in ! 1 (sub ! 0 refl (whole !)) (tt, tt)) $ drop ! $
    let h' = record h { at = block_ptr b' o'; held = Some d.value } in let hw : Val = lowers.lowered h' in
    move ! (5 ∷ []) $ fpack ! Global (λ (g : Global). box_owns (ghosts.dealloc_token g) X (block_ptr b' o') d.value) d.alloc $
    nothing ! $ feq_i ! (List Val) (vptr b' o' ∷ []) (vptr b' o' ∷ []) refl $ fjoin ! $ feq_i ! (List Val) (hw ∷ []) (hw ∷ []) refl $ fjoin ! $
    fpack ! (Valss (RawPtr ∷ [])) (within (shape R_type) (block_ptr b' o', tt) (hw ∷ [])) (vptr b' o' ∷ [], tt) $ fjoin ! $
    move ! (1 ∷ []) $ closes ! tt R h' (hw ∷ []) b o $
    -- [two parts of self; the token; self's first part]
    sets ! (of_opd ! (unit_lit !)) refl (tt, tt) $ returns ! (look_at ! 0 refl) $ free_all ! refl $ keep ! (3 ∷ 0 ∷ 1 ∷ 2 ∷ []) $
    suffices ! _ (ends_at 𝓛 f.ended stayed c z vunit tt (h', (tt, tt)) (tt, (tt, tt))) $ says ! refl $
    fjoin3 ! $ rewrite ! 0 (λ vs. ‵ (Ref.own_val (record r { now = h' }) vs)) (sym er) refl $
    nothing ! $ nothing ! $ join ! $ move ! (1 ∷ 0 ∷ []) $ join ! $ nothing ! $ move ! (2 ∷ 0 ∷ []) $ join !
    $ frame ! $ frame ! $ feq_i ! _ (vunit ∷ []) _ refl $ done !))))))
