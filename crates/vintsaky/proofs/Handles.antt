-- What the proofs of all handles share. A handle is a struct with one pointer, to an object that lies in memory; its
-- value is the object's. All of it is for any such handle: `as_object` is the row of the object's type, whose type in MIR
-- is `object`; D is what the handle is seen as, with its pointer and its value, and `make` is a handle of these.
--     struct, owns, R     what the checker states of the handle, and its row
--     borrows             `get_mut` meets its contract: the object is borrowed, and the handle follows the borrow
--     places              `place` meets its contract: a fresh object is written into the room, and then its handle
use Rattle.vintsaky.proofs.Steps.{◌≡◌, ℕ, List, [], ◌∷◌, refl, sym, ap, ◌∙◌, proved, after, Ura, full_share, id⊢, ent}
use Rattle.vintsaky.proofs.Steps.{sep, SProp, Fml, GName, ftrue, flft, fsep, named, Val, vptr, tables, Logic, sem, ‵, ◌⊛◌}
use Rattle.vintsaky.proofs.Steps.{some, later, at_ret, ◌$◌, ◌∵◌, !, qed, done, move, keep, use1, split, join, fsplit}
use Rattle.vintsaky.proofs.Steps.{fsplit3, fjoin, fpack, pick, await, rewrite, suffices, frame, group, whole, sub}
use Rattle.vintsaky.proofs.Steps.{look_in, enter, of_opd, addr, load, stop, fld, first, blocks, exec, returns}
use Rattle.vintsaky.proofs.Steps.{alloc_all, pass_all, free_all, look_at, get, through, sets, sets_last, env, no, shows}
use Rattle.vintsaky.proofs.Steps.{mem, cell_at, Ptr, block_ptr, lies_at, in_a_block, MutRef, mut_vals, mut_Tells, plain}
use Rattle.vintsaky.proofs.Steps.{mut_ref_to, nothing, opens, peeks, follows, lends_Part, Struct, shape, Stays, walk_of}
use Rattle.vintsaky.proofs.Steps.{says, stay_dropped, Goes-spent_ref, Goes-dropped, ends_at, fact, ptr_val, RawPtr}
use Rattle.vintsaky.proofs.Steps.{vunit, raw, prop, drop, use2, feq_i, regoal, unit_lit, no_more, and_then, assigns, lands_as}
use Rattle.vintsaky.proofs.Steps.{yes, part_at, room_at, rawptr_vals, rawptr_Tells, heard}
use Rattle.std.proofs.Common.{◌++◌}
use borrow.Table.OneValue.{part_in}
use contract.Monad.{Fun}
use contract.Notation.{Connectives, connectives}
use contract.Running.{Running}
use denote.Builtin.{RefMutOf, unit}
use denote.Laws.{Lawful}
use denote.Memory.{part_of}
use denote.RattleType.{RattleType, Valss}
use denote.Signature.{Signature}
use denote.Struct.Field.{RawPtr-field}
use denote.Struct.Laws.{RawPtr-laws}
use denote.Struct.Owning.{Owning, Codes, owning, row}
use denote.Struct.OwningLaws as owning
use denote.Struct.OwningLaws.{Tells-lowered}
use denote.Struct.Record.{Record, Also, Done}
use denote.Struct.Struct.{within}
use denote.Triple.Call.{calls_at}
use denote.Triple.Clauses.{Clauses, Ended, closing}
use denote.Triple.Entry.{on_entry}
use denote.Triple.Spec.{Meets, triple_of}
use denote.Triple.Table.{framed}
use mir.Syntax.{Sym, Ty, ty_struct, ty_ref, ty_ptr, tcons, tnil, mut, erased, Fn, Callee, local, value_local, seq, block, assign, place, rv_opd, copy, deref, field, addr_of, return, call, aggregate, opd_unit, ty_unit}
use mir.Val.{vstruct, vcons, vnil}
use prog.Memory.{Memory}
use prog.Model.{Model}
use prog.Routine.{Routine}
use prog.Wp.{Closed, WpFn}
use types.Kit.{split3}
use types.Part.{agg}
use types.Run.{init}

-- the row of the object's type, with its type in MIR
abbrev pub at_type : RattleType → Ty → RattleType
at_type T object = record T { mir = object ∷ [] }

module _ (name : Sym) (as_object : RattleType) (object : Ty) (D : Type 0) (at : D → Ptr)
    (value : D → as_object.Denot) (make : Ptr → as_object.Denot → D)
    (eta : (d : D) → make (at d) (value d) ≡ d)
    (at_make : (p : Ptr) (v : as_object.Denot) → at (make p v) ≡ p)
    (value_make : (p : Ptr) (v : as_object.Denot) → value (make p v) ≡ v)
    (beta : (v : Ptr × Unit {0}) (g : Also as_object.Denot (λ _. Done)) → (at (make v.0 g.0), tt) ≡ v) where
  abbrev pub T : RattleType
  T = at_type as_object object

  -- the struct of such a handle, as the checker states it
  abbrev pub struct : Record
  struct = record {
    name = name;
    args = [];
    types = [];
    parts = RawPtr-field ∷ [];
    D = D;
    as_values = λ d. (at d, tt);
    Ghost = λ v. Also T.Denot (λ _. Done);
    ghosts = λ d. (value d, tt);
    make = λ v g. make v.0 g.0;
    eta = eta;
    beta = beta;
  }

  module _ (codes : Codes struct) where
    abbrev pub owns : Owning
    owns = owning struct codes (λ d. lies_at T full_share (at d) (value d))

    abbrev pub R : RattleType
    R = row owns

    abbrev pub signature : Signature
    signature = record {
      lifetimes = 1;
      outlives = [];
      params = RefMutOf (0 ∷ []) tt (plain (λ κs. R)) (λ κs. tt) ∷ [];
      result = RefMutOf (0 ∷ []) tt (plain (λ κs. T)) (λ κs. tt);
    }

    abbrev pub ended : Ended
    ended = record { signature = signature; kept = (no, tt) }

    -- the code of `get_mut`, at the types that its locals point to
    abbrev pub function : Ty → Ty → Ty → Fn
    function result self borrowed = record {
      lifetimes = 1;
      outlives = [];
      ty_params = [];
      givens = 0;
      params = 1;
      locals = local (ty_ref (named 0) mut result) value_local ∷ local (ty_ref (named 0) mut self) value_local
          ∷ local (ty_ref erased mut borrowed) value_local ∷ local ty_ptr value_local ∷ local ty_ptr value_local ∷ [];
      body = seq (block (seq (assign (place 3 [])
          (rv_opd (copy (place 1 (deref (ty_struct name (tcons ty_ptr tnil)) ∷ field 0 ∷ [])))))
          (seq (assign (place 4 []) (rv_opd (copy (place 3 []))))
          (assign (place 2 []) (addr_of (place 4 (deref object ∷ [])))))))
          (seq (assign (place 0 []) (rv_opd (copy (place 2 [])))) return);
    }

    -- what the fields of a handle own
    abbrev Words : D → List Val → Fml
    Words h us = (Struct (shape owns)).own_val (at h, tt) us

    -- all of a handle but its object
    abbrev Rest : D → List Val → ℕ → ℕ → Fml
    Rest h us b o = fsep (Words h us) (cell_at full_share R.mir us b o)

    abbrev stayed : Stays ended.signature.params ended.kept
    stayed = (stay_dropped (mut_ref_to (0 ∷ []) tt (plain (λ _. R))) no, tt)

    module _ {M : Type 1} (𝓤 : Ura M) (𝓛 : Logic 𝓤) where
      abbrev 𝓝 : Connectives 𝓤
      𝓝 = connectives 𝓤

      open 𝓝 use {⌜◌⌝, ◌∗◌, ⊤ₛ}

      abbrev pub clauses : (Memory → SProp 𝓤) → (Routine → Fun 𝓤) → Clauses 𝓤 ended
      clauses = λ mem run κs args. record {
        ghost = Unit {0};
        requires = λ g. ⊤ₛ;
        ensures = λ g res end. ◌∗◌
            (sem 𝓛 (follows R T (args.0).ghost_name res.ghost_name (λ w. make (at (args.0).now) w)))
            (⌜◌⌝ (res.now ≡ value (args.0).now));
      }

      module _ (h : D) (us : List Val) (b o b' o' : ℕ) (at_b : at h ≡ block_ptr b' o') where
        back : (w : T.Denot) → ent 𝓤 (sep 𝓤 (sem 𝓛 ((mem T).own_at w b' o')) (sem 𝓛 (Rest h us b o))) (sem 𝓛 ((mem R).own_at (make (at h) w) b o))
        unfolding part_of
        back w =
            qed 𝓛 (‵ (lies_at T full_share (block_ptr b' o') w) ∷ ‵ (Rest h us b o) ∷ []) ∵
            rewrite ! 0 (λ (p : Ptr). ‵ (lies_at T full_share p w)) (sym at_b ∙ sym (at_make (at h) w)) refl $
            rewrite ! 0 (λ (v : T.Denot). ‵ (lies_at T full_share (at (make (at h) w)) v)) (sym (value_make (at h) w)) refl $
            move ! (1 ∷ []) $ fsplit ! $
            rewrite ! 0 (λ (p : Ptr). ‵ ((Struct (shape owns)).own_val (p, tt) us)) (sym (at_make (at h) w)) refl $
            move ! (0 ∷ 2 ∷ []) $ fjoin ! $ move ! (1 ∷ 0 ∷ []) $ fjoin ! $
            fpack ! (List Val) (λ vs. fsep (cell_at full_share R.mir vs b o) (R.own_val (make (at h) w) vs)) us $ done !

      pub borrows : (𝓜 : Model 𝓤 𝓛.H) (𝓡 : Running 𝓤 𝓛.H 𝓜) (key : Callee) (result self borrowed : Ty)
          → Closed 𝓤 𝓛.H (tables 𝓤 𝓛.H 𝓜 𝓡 𝓡.env).C (tables 𝓤 𝓛.H 𝓜 𝓡 𝓡.env).Λ key (function result self borrowed)
          → Meets 𝓛 signature ((tables 𝓤 𝓛.H 𝓜 𝓡 𝓡.env).C key) (closing 𝓛 ended (clauses 𝓜.mem 𝓡.returns))
      borrows 𝓜 𝓡 key result self borrowed closed =
          let c = clauses 𝓜.mem 𝓡.returns in let W = walk_of 𝓛 ended stayed c in let 𝓣 = tables 𝓤 𝓛.H 𝓜 𝓡 𝓡.env in
          proved 𝓛 ended stayed c 𝓜 𝓡 (Goes-spent_ref 𝓛 1 (0 ∷ []) tt (plain (λ _. R)), tt)
          key (function result self borrowed) closed
          (λ κs. (mut_vals, tt)) (λ κs. (mut_Tells (named 0) κs.0 R, tt)) (λ κs qs bounds a _ are.
          let b = a.0.ref_ptr.0 in let o = a.0.ref_ptr.1 in let h = a.0.now in let γ = a.0.ghost_name in let vs = mut_vals a.0 in
          let κ = κs.0 in let q = qs.0 in
          let y : W.Ghost = ((κs, qs, bounds, a, (vs, tt)), tt) in
          qed 𝓛 (((‵ (flft κ q) ⊛ ‵ ftrue) ⊛ ‵ ((MutRef (named 0) κ R).own_val a.0 vs) ⊛ ‵ ftrue) ∷ ‵ ftrue ∷ []) ∵
          split ! $ split ! $ move ! (2 ∷ []) $ split ! $ keep ! (0 ∷ 2 ∷ []) $
          enter ! _ _ _ _ _ $ alloc_all ! (λ l. pass_all ! refl ((tt, tt), tt) $
          fsplit3 ! $ move ! (1 ∷ 2 ∷ 3 ∷ []) $ opens ! tt R b o (λ us.
          move ! (1 ∷ []) $ peeks ! R _ (shows 𝓛 R) h us (λ is. fsplit ! $ move ! (1 ∷ []) $
          in_a_block ! (at h) (λ p. lies_at T full_share p (value h)) (id⊢ 𝓤 _) (λ b' o' e.
          -- [the object; what the fields own; the handle's cell; the open borrow, in three entries]
          let word = Tells-lowered owns (RawPtr-laws, tt) h us is ∙ ap (λ (p : Ptr). vstruct (vcons (ptr_val p) vnil) ∷ []) e in
          let Cell = λ (ws : List Val). ‵ (cell_at full_share R.mir ws b o) in
          rewrite ! 2 Cell word refl $
          first ! $ blocks ! $
          sets ! (of_opd ! (load ! (through ! refl (fld ! refl (stop !))) (look_in ! 2 (sub ! 0 refl (whole !))))) refl (tt, tt) $
          sets ! (of_opd ! (get ! refl)) refl (tt, tt) $
          sets_last ! (addr ! (through ! refl (stop !))) refl (tt, tt) $
          exec ! 𝓣.C 𝓣.Λ (env (function result self borrowed).locals l) (after 1 (function result self borrowed).body) (at_ret _ (W.post y)) $
          sets ! (of_opd ! (get ! refl)) refl (tt, tt) $
          rewrite ! 2 Cell (sym word) refl $
          move ! (1 ∷ 2 ∷ []) $ fjoin ! $ move ! (2 ∷ 3 ∷ 4 ∷ 1 ∷ 0 ∷ []) $ group ! 5 $
          use1 𝓛 (later (some (λ (γ' : GName). ‵ ((MutRef (named 0) κ T).own_val (record { ref_ptr = (b', o'); ghost_name = γ'; now = value h }) (vptr b' o' ∷ [])) ⊛ ‵ (flft κ q) ⊛ ‵ (follows R T γ γ' (λ w. make (at h) w)))))
          (lends_Part 𝓛 R T (λ w. make (at h) w) (named 0) κ q b o b' o' γ (sem 𝓛 (Rest h us b o)) (back h us b o b' o' e) (R.coded.code h) (R.coded.code h) (value h)) $ await ! tt $ pick ! (λ γ'.
          returns ! (look_at ! 0 refl) $ free_all ! refl $ keep ! (0 ∷ []) $ split3 ! $
          suffices ! _ (ends_at 𝓛 ended stayed c y (vptr b' o') (record { ref_ptr = (b', o'); ghost_name = γ'; now = value h }) (tt, tt) (tt, tt)) $
          nothing ! $ nothing ! $ fjoin ! $ join ! $ nothing ! $ move ! (2 ∷ 0 ∷ []) $ join ! $ join ! $ frame ! $ says ! refl $ done !))))))

      -- ---- places

      -- a function without parameters returns a fresh object
      abbrev pub fresh_ended : Ended
      fresh_ended = record {
        signature = record { lifetimes = 0; outlives = []; params = []; result = plain (λ κs. T) };
        kept = tt;
      }

      abbrev pub fresh_clauses : T.Denot → (Memory → SProp 𝓤) → (Routine → Fun 𝓤) → Clauses 𝓤 fresh_ended
      fresh_clauses fresh = λ mem run κs args. record {
        ghost = Unit {0};
        requires = λ g. ⊤ₛ;
        ensures = λ g res end. ⌜◌⌝ (res ≡ fresh);
      }

      abbrev pub place_ended : Ended
      place_ended = record {
        signature = record {
          lifetimes = 0;
          outlives = [];
          params = plain (λ κs. RawPtr) ∷ plain (λ κs. RawPtr) ∷ [];
          result = plain (λ κs. unit);
        };
        kept = (yes, (yes, tt));
      }

      abbrev pub place_clauses : T.Denot → (Memory → SProp 𝓤) → (Routine → Fun 𝓤) → Clauses 𝓤 place_ended
      place_clauses fresh = λ mem run κs args. record {
        ghost = Unit {0};
        requires = λ g. sem 𝓛 (fsep (room_at R args.0) (room_at T (args.1).0));
        ensures = λ g res end. sem 𝓛 (lies_at R full_share args.0 (make (args.1).0 fresh));
      }

      -- the code of `place`
      abbrev pub place_function : Callee → Fn
      place_function fresh_key = record {
        lifetimes = 0;
        outlives = [];
        ty_params = [];
        givens = 0;
        params = 2;
        locals = local ty_unit value_local ∷ local ty_ptr value_local ∷ local ty_ptr value_local
            ∷ local object value_local ∷ local ty_ptr value_local
            ∷ local (ty_struct name (tcons ty_ptr tnil)) value_local ∷ [];
        body = seq (call fresh_key [] (place 3 []))
            (seq (assign (place 4 []) (rv_opd (copy (place 2 []))))
            (seq (assign (place 4 (deref object ∷ [])) (rv_opd (copy (place 3 []))))
            (seq (assign (place 5 []) (aggregate (copy (place 2 []) ∷ [])))
            (seq (assign (place 1 (deref (ty_struct name (tcons ty_ptr tnil)) ∷ [])) (rv_opd (copy (place 5 []))))
            (seq (assign (place 0 []) (rv_opd opd_unit)) return)))));
      }

      abbrev place_stayed : Stays place_ended.signature.params place_ended.kept
      place_stayed = (stay_dropped _ yes, (stay_dropped _ yes, tt))

      pub places : (𝓜 : Model 𝓤 𝓛.H) (𝓡 : Running 𝓤 𝓛.H 𝓜) (lawful : Lawful 𝓛 T) (fresh : T.Denot) (fresh_key key : Callee)
          → Meets 𝓛 fresh_ended.signature ((tables 𝓤 𝓛.H 𝓜 𝓡 𝓡.env).C fresh_key) (closing 𝓛 fresh_ended (fresh_clauses fresh 𝓜.mem 𝓡.returns))
          → Closed 𝓤 𝓛.H (tables 𝓤 𝓛.H 𝓜 𝓡 𝓡.env).C (tables 𝓤 𝓛.H 𝓜 𝓡 𝓡.env).Λ key (place_function fresh_key)
          → Meets 𝓛 place_ended.signature ((tables 𝓤 𝓛.H 𝓜 𝓡 𝓡.env).C key) (closing 𝓛 place_ended (place_clauses fresh 𝓜.mem 𝓡.returns))
      places 𝓜 𝓡 lawful fresh fresh_key key met closed =
          let c = place_clauses fresh 𝓜.mem 𝓡.returns in let W = walk_of 𝓛 place_ended place_stayed c in let 𝓣 = tables 𝓤 𝓛.H 𝓜 𝓡 𝓡.env in
          let goes = Goes-dropped 𝓛 0 (plain (λ _. RawPtr)) yes (λ κs x w. refl) in
          proved 𝓛 place_ended place_stayed c 𝓜 𝓡 (goes, (goes, tt))
          key (place_function fresh_key) closed
          (λ κs. (rawptr_vals, (rawptr_vals, tt))) (λ κs. (rawptr_Tells, (rawptr_Tells, tt))) (λ κs qs bounds a _ are.
          let y : Ptr → Ptr → W.Ghost = λ p r. ((κs, qs, bounds, (p, (r, tt)), (rawptr_vals p, (rawptr_vals r, tt))), tt) in
          qed 𝓛 (raw (on_entry 𝓛 place_ended.signature κs qs a (y a.0 a.1.0).0.4) ∷ ‵ (fsep (room_at R a.0) (room_at T a.1.0)) ∷ []) ∵ drop ! $ fsplit ! $
          in_a_block ! a.0 (λ p. room_at R p) (id⊢ 𝓤 _) (λ b o e. move ! (1 ∷ []) $
          in_a_block ! a.1.0 (λ p. room_at T p) (id⊢ 𝓤 _) (λ b' o' e'.
          regoal ! (λ p. prop (WpFn 𝓤 𝓛.H 𝓣.C 𝓣.Λ (place_function fresh_key) (rawptr_vals p ++ (rawptr_vals a.1.0 ++ [])) (W.post (y p a.1.0)))) e refl $
          regoal ! (λ r. prop (WpFn 𝓤 𝓛.H 𝓣.C 𝓣.Λ (place_function fresh_key) (vptr b o ∷ (rawptr_vals r ++ [])) (W.post (y (block_ptr b o) r)))) e' refl $
          enter ! 𝓣.C 𝓣.Λ (place_function fresh_key) (vptr b o ∷ vptr b' o' ∷ []) (W.post (y (block_ptr b o) (block_ptr b' o'))) $ alloc_all ! (λ l. pass_all ! refl ((tt, tt), ((tt, tt), tt)) $
          -- [room for the object; room for the handle; the locals]
          let G = triple_of 𝓛 fresh_ended.signature (closing 𝓛 fresh_ended (fresh_clauses fresh 𝓜.mem 𝓡.returns)) in
          let z : G.Ghost = ((tt, tt, tt, tt, tt), tt) in
          nothing ! $ nothing ! $ join ! $ nothing ! $ move ! (1 ∷ 0 ∷ []) $ use2 𝓛 (raw (G.pre z)) (id⊢ 𝓤 _) $
          calls_at ! (framed 𝓤 𝓛.H 𝓜 𝓣) G met z (no_more !) (λ v.
          use1 𝓛 (later (some (λ (r : T.Denot). (‵ ftrue ⊛ ‵ (T.own_val r (v ∷ []))) ⊛ some (λ (ws : Unit {0}). ‵ ftrue ⊛ raw (fact 𝓤 (r ≡ fresh)))))) (id⊢ 𝓤 _) $
          await ! tt $ pick ! (λ r. split ! $ split ! $ drop ! $ move ! (1 ∷ []) $ pick ! (λ ws. split ! $ drop ! $ heard ! _ (λ is.
          rewrite ! 0 (λ (x : T.Denot). ‵ (T.own_val x (v ∷ []))) is refl $
          peeks ! T _ (shows 𝓛 T) fresh (v ∷ []) (λ ok. let t = (lawful.typed fresh (v ∷ []) ok).0 in
          lands_as ! refl refl t $
          sets ! (of_opd ! (get ! refl)) refl (tt, tt) $
          assigns ! (of_opd ! (get ! refl)) (through ! refl (stop !)) (init ! 1 refl t) $
          move ! (1 ∷ 0 ∷ []) $ use2 𝓛 (‵ (part_at T full_share fresh b' o')) (part_in 𝓛 T refl full_share fresh b' o' v) $
          -- [the object; room for the handle; the locals]
          let p = block_ptr b' o' in let h : D = make p fresh in let word = vstruct (vcons (vptr b' o') vnil) in
          sets ! (agg ! (and_then ! (get ! refl) (no_more !))) refl (tt, (tt, tt)) $
          assigns ! (of_opd ! (get ! refl)) (through ! refl (stop !)) (init ! 1 refl (tt, (tt, tt))) $
          sets ! (of_opd ! (unit_lit !)) refl (tt, tt) $
          returns ! (look_at ! 0 refl) $ free_all ! refl $
          -- [the object; the handle's cell]
          nothing ! $ feq_i ! (List Val) (vptr b' o' ∷ []) (vptr b' o' ∷ []) refl $ fjoin ! $ feq_i ! (List Val) (word ∷ []) (word ∷ []) refl $ fjoin ! $
          fpack ! (Valss (RawPtr ∷ [])) (within (shape owns) (p, tt) (word ∷ [])) (vptr b' o' ∷ [], tt) $ move ! (2 ∷ 0 ∷ []) $
          use2 𝓛 (‵ (part_at (Struct (shape owns)) full_share (p, tt) b o)) (part_in 𝓛 (Struct (shape owns)) refl full_share (p, tt) b o word) $
          rewrite ! 0 (λ (q : Ptr). ‵ (part_at (Struct (shape owns)) full_share (q, tt) b o)) (sym (at_make p fresh)) refl $
          rewrite ! 1 (λ (q : Ptr). ‵ (lies_at T full_share q fresh)) (sym (at_make p fresh)) refl $
          rewrite ! 1 (λ (x : T.Denot). ‵ (lies_at T full_share (at h) x)) (sym (value_make p fresh)) refl $
          use2 𝓛 (‵ (part_at R full_share h b o)) (owning.part_in 𝓛 owns full_share h b o) $
          suffices ! _ (ends_at 𝓛 place_ended place_stayed c (y (block_ptr b o) (block_ptr b' o')) vunit tt (tt, (tt, tt)) (tt, (tt, tt))) $
          feq_i ! _ (vunit ∷ []) _ refl $ nothing ! $ nothing ! $ join ! $ nothing ! $ join ! $ nothing ! $ group ! 3 $ done !)))))))))
