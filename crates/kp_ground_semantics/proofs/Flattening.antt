-- Conditions split, and effects one by one.
use Rattle.std.proofs.Common.{◌≡◌, Bool, true, false, not, ◌&&◌, ◌||◌, List, [], ◌∷◌, ◌++◌, refl, sym, ap, map, ◌∙◌}
use Rattle.std.specs.List.{list_all, flat_map}
use Rattle.std.proofs.lemmas.List.Concat.{flat_map-append}
use Rattle.std.proofs.lemmas.List.Folds.{list_all-append}
use Rattle.std.proofs.Math.Bool.{and-true}
use Rattle.kp_base.specs.Lists.{only_if, signed}
use Rattle.kp_names_semantics.specs.declared.lifted.GroundLit.{GroundLit}
use Rattle.kp_names_semantics.specs.Numbered.{Cond, Conds, Eff, Effs, Lifted}
use Rattle.kp_names_semantics.specs.Lifted.{State, Binding, object_of, literal, literal_holds, holds, all_hold, fires, all_fire, bindings}
use Rattle.kp_ground_semantics.specs.declared.flat.FlatEffect.{FlatEffect}
use Rattle.kp_ground_semantics.specs.Static.{is_static, initially, HasStaticTruth, settled, all_settled, remaining, all_remaining}
use Rattle.kp_ground_semantics.specs.Flattening.{under, flat, all_flat, flat_fires}
use Rattle.kp_ground_semantics.specs.Laws.{IsSplit, IsFlatExact}

module _ (l : Lifted) (s : State) (truth : HasStaticTruth l s) (b : Binding) where
  mutual
    pub split_cond : (c : Cond) → holds s b c ≡ (settled l b c && list_all (literal_holds s) (remaining l b c))
    split_cond (Cond.all cs) = split_conds cs
    split_cond (Cond.atom positive q ts) = pick (is_static l q) refl
      where
        pick : (t : Bool) → is_static l q ≡ t → literal_holds s (literal positive q ts b) ≡ ((not t || literal_holds (initially l) (literal positive q ts b)) && list_all (literal_holds s) (only_if (not t) (literal positive q ts b ∷ [])))
        pick true is = ap (signed positive) (truth q (map (object_of b) ts) is) ∙ sym (and-true _)
        pick false is = sym (and-true _)
    split_cond (Cond.same positive x y) = sym (and-true _)

    pub split_conds : (cs : Conds) → all_hold s b cs ≡ (all_settled l b cs && list_all (literal_holds s) (all_remaining l b cs))
    split_conds Conds.no_cond = refl
    split_conds (Conds.more_conds c cs) =
        rw (split_cond c, split_conds cs, list_all-append (literal_holds s) (remaining l b c) (all_remaining l b cs))
        (regroup (settled l b c) (list_all (literal_holds s) (remaining l b c)) (all_settled l b cs) (list_all (literal_holds s) (all_remaining l b cs)))
      where
        regroup : (w x y z : Bool) → ((w && x) && (y && z)) ≡ ((w && y) && (x && z))
        regroup true true y z = refl
        regroup true false true z = refl
        regroup true false false z = refl
        regroup false x y z = refl

pub split : IsSplit
split l s truth b c = split_cond l s truth b c

-- further conditions hold, or none of the effects fires
fires_under : (s : State) (ls : List GroundLit) (fs : List FlatEffect) → flat_fires s (map (under ls) fs) ≡ only_if (list_all (literal_holds s) ls) (flat_fires s fs)
fires_under s ls [] = pick (list_all (literal_holds s) ls)
  where
    pick : (t : Bool) → [] ≡ only_if {X = GroundLit} t []
    pick true = refl
    pick false = refl
fires_under s ls (f ∷ fs) =
    rw (fires_under s ls fs, list_all-append (literal_holds s) ls f.cond)
    (pick (list_all (literal_holds s) ls) (list_all (literal_holds s) f.cond))
  where
    pick : (t u : Bool) → only_if (t && u) (f.result ∷ []) ++ only_if t (flat_fires s fs) ≡ only_if t (only_if u (f.result ∷ []) ++ flat_fires s fs)
    pick true u = refl
    pick false u = refl

module _ (l : Lifted) (s : State) (truth : HasStaticTruth l s) where
  fires_append : (fs gs : List FlatEffect) → flat_fires s (fs ++ gs) ≡ flat_fires s fs ++ flat_fires s gs
  fires_append fs gs = flat_map-append (λ f. only_if (list_all (literal_holds s) f.cond) (f.result ∷ [])) fs gs

  fires_each : (f : Binding → List FlatEffect) (g : Binding → List GroundLit) → ((os : Binding) → flat_fires s (f os) ≡ g os) → (bs : List Binding) → flat_fires s (flat_map f bs) ≡ flat_map g bs
  fires_each f g inner [] = refl
  fires_each f g inner (os ∷ bs) = fires_append (f os) (flat_map f bs) ∙ rw (inner os, fires_each f g inner bs) refl

  mutual
    flat_eff : (b : Binding) (e : Eff) → flat_fires s (flat l b e) ≡ fires s b e
    flat_eff b (Eff.both es) = flat_effs b es
    flat_eff b (Eff.when c e) =
        rw (split_cond l s truth b c, ← flat_eff b e)
        (pick (settled l b c))
      where
        pick : (t : Bool) → flat_fires s (only_if t (map (under (remaining l b c)) (flat l b e))) ≡ only_if (t && list_all (literal_holds s) (remaining l b c)) (flat_fires s (flat l b e))
        pick true = fires_under s (remaining l b c) (flat l b e)
        pick false = refl
    flat_eff b (Eff.each rs e) = fires_each (λ os. flat l (b ++ os) e) (λ os. fires s (b ++ os) e) (λ os. flat_eff (b ++ os) e) (bindings rs)
    flat_eff b (Eff.makes positive q ts) = refl

    flat_effs : (b : Binding) (es : Effs) → flat_fires s (all_flat l b es) ≡ all_fire s b es
    flat_effs b Effs.no_eff = refl
    flat_effs b (Effs.more_effs e es) = fires_append (flat l b e) (all_flat l b es) ∙ rw (flat_eff b e, flat_effs b es) refl

pub flat_exact : IsFlatExact
flat_exact l s truth b e = flat_eff l s truth b e
