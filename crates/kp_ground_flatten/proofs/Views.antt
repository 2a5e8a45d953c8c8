-- The views of trees, at a list of parts and at each variant.
use Rattle.std.proofs.Common.{◌≡◌, ℕ, Bool, not, ◌&&◌, ◌||◌, true, false, List, [], ◌∷◌, ◌++◌, Bor, Box, Global, refl, sym, ap, map, ◌∙◌, append_assoc, append-nil}
use Rattle.std.specs.List.{list_all, flat_map}
use Rattle.std.proofs.lemmas.List.{map-append}
use Rattle.kp_base.specs.Lists.{signed, only_if}
use Rattle.kp_base.proofs.Lists.{map_map}
use Rattle.kp_names_semantics.specs.declared.lifted.Term.{Term}
use Rattle.kp_names_semantics.specs.declared.lifted.Range.{Range}
use Rattle.kp_names_semantics.specs.declared.lifted.GroundLit.{GroundLit}
use Rattle.kp_names_semantics.specs.Numbered.{Cond, Conds, Eff, Effs, Lifted}
use Rattle.kp_names_semantics.specs.Lifted.{Binding, object_of, ground, bindings}
use Rattle.kp_names_numbered.specs.declared.lifted.Cond as owned_cond
use Rattle.kp_names_numbered.specs.declared.lifted.Cond.TheOpen.{Cond-F}
use Rattle.kp_names_numbered.specs.declared.lifted.Cond.TheFolds.{fold-roll-Cond}
use Rattle.kp_names_numbered.specs.declared.lifted.Cond.TheVariants as owned_conds
use Rattle.kp_names_numbered.specs.declared.lifted.Eff as owned_eff
use Rattle.kp_names_numbered.specs.declared.lifted.Eff.TheOpen.{Eff-F}
use Rattle.kp_names_numbered.specs.declared.lifted.Eff.TheFolds.{fold-roll-Eff}
use Rattle.kp_names_numbered.specs.declared.lifted.Eff.TheVariants as owned_effs
use Rattle.kp_names.specs.View as owned
use Rattle.kp_names.specs.View.{conds_of, effs_of}
use Rattle.kp_ground_semantics.specs.declared.flat.FlatEffect.{FlatEffect}
use Rattle.kp_ground_semantics.specs.Static.{is_static, initially, settled, all_settled, remaining, all_remaining}
use Rattle.kp_ground_semantics.specs.Flattening.{under, flat}
use Rattle.kp_ground_flatten.specs.declared.node.BoundCond.{BoundCond}
use Rattle.kp_ground_flatten.specs.declared.node.BoundCond.TheOpen.{BoundCond-F}
use Rattle.kp_ground_flatten.specs.declared.node.BoundCond.TheFolds.{fold-roll-BoundCond}
use Rattle.kp_ground_flatten.specs.declared.node.BoundCond.TheVariants as conds
use Rattle.kp_ground_flatten.specs.declared.node.BoundEff.{BoundEff}
use Rattle.kp_ground_flatten.specs.declared.node.BoundEff.TheOpen.{BoundEff-F}
use Rattle.kp_ground_flatten.specs.declared.node.BoundEff.TheFolds.{fold-roll-BoundEff}
use Rattle.kp_ground_flatten.specs.declared.node.BoundEff.TheVariants as effs
use Rattle.kp_ground_flatten.specs.Bound.{bound_term, bound_cond, bound_conds, bound_eff, bound_effs}
use Rattle.kp_ground_flatten.specs.Nodes.{as_terms, cond_view, cond_step, eff_view, eff_step}
use Rattle.kp_ground_flatten.proofs.Meaning.{flat_parts}

-- ---- the trees in the arena

pub cond_all : (parts : Bor (List BoundCond)) → cond_view (conds.All parts) ≡ Cond.all (conds_of (map cond_view parts.now))
cond_all parts = ap cond_view (sym (conds.rolls-All parts)) ∙ fold-roll-BoundCond Cond cond_step (BoundCond-F.All parts)

pub cond_atom : (positive : Bool) (q : ℕ) (os : Bor (List ℕ)) → cond_view (conds.Atom positive q os) ≡ Cond.atom positive q (as_terms os.now)
cond_atom positive q os = ap cond_view (sym (conds.rolls-Atom positive q os)) ∙ fold-roll-BoundCond Cond cond_step (BoundCond-F.Atom positive q os)

pub eff_all : (parts : Bor (List BoundEff)) → eff_view (effs.All parts) ≡ Eff.both (effs_of (map eff_view parts.now))
eff_all parts = ap eff_view (sym (effs.rolls-All parts)) ∙ fold-roll-BoundEff Eff eff_step (BoundEff-F.All parts)

pub eff_when : (c : BoundCond) (body : Bor BoundEff) → eff_view (effs.When c body) ≡ Eff.when (cond_view c) (eff_view body.now)
eff_when c body = ap eff_view (sym (effs.rolls-When c body)) ∙ fold-roll-BoundEff Eff eff_step (BoundEff-F.When c body)

pub eff_atom : (positive : Bool) (q : ℕ) (os : Bor (List ℕ)) → eff_view (effs.Atom positive q os) ≡ Eff.makes positive q (as_terms os.now)
eff_atom positive q os = ap eff_view (sym (effs.rolls-Atom positive q os)) ∙ fold-roll-BoundEff Eff eff_step (BoundEff-F.Atom positive q os)

-- ---- binding

-- bound terms are the objects, as terms
pub terms_bound : (b : Binding) (ts : List Term) → as_terms (map (object_of b) ts) ≡ map (bound_term b) ts
terms_bound b ts = map_map (object_of b) (λ o. Term.Object o) (bound_term b) ts (λ t. refl)

conds_bound : (b : Binding) (cs : List Cond) → bound_conds b (conds_of cs) ≡ conds_of (map (bound_cond b) cs)
conds_bound b [] = refl
conds_bound b (c ∷ cs) = ap (Conds.more_conds (bound_cond b c)) (conds_bound b cs)

effs_bound : (b : Binding) (es : List Eff) → bound_effs b (effs_of es) ≡ effs_of (map (bound_eff b) es)
effs_bound b [] = refl
effs_bound b (e ∷ es) = ap (Effs.more_effs (bound_eff b e)) (effs_bound b es)

-- bound parts make the bound whole
pub all_conds : (b : Binding) (parts : Bor (List BoundCond)) (cs : List owned_cond.Cond) → map cond_view parts.now ≡ map (bound_cond b) (map owned.cond_view cs) → cond_view (conds.All parts) ≡ bound_cond b (owned.cond_view (owned_conds.All cs))
all_conds b parts cs h =
    cond_all parts
    ∙ (ap (λ z. Cond.all (conds_of z)) h
    ∙ (ap Cond.all (sym (conds_bound b (map owned.cond_view cs)))
    ∙ ap (bound_cond b) (sym (ap owned.cond_view (sym (owned_conds.rolls-All cs)) ∙ fold-roll-Cond Cond owned.cond_step (Cond-F.All cs)))))

pub all_effs : (b : Binding) (parts : Bor (List BoundEff)) (es : List owned_eff.Eff) → map eff_view parts.now ≡ map (bound_eff b) (map owned.eff_view es) → eff_view (effs.All parts) ≡ bound_eff b (owned.eff_view (owned_effs.All es))
all_effs b parts es h =
    eff_all parts
    ∙ (ap (λ z. Eff.both (effs_of z)) h
    ∙ (ap Eff.both (sym (effs_bound b (map owned.eff_view es)))
    ∙ ap (bound_eff b) (sym (ap owned.eff_view (sym (owned_effs.rolls-All es)) ∙ fold-roll-Eff Eff owned.eff_step (Eff-F.All es)))))

-- bound terms make the bound atom
pub cond_atom_bound : (b : Binding) (positive : Bool) (q : ℕ) (os : Bor (List ℕ)) (ts : List Term) → os.now ≡ map (object_of b) ts → cond_view (conds.Atom positive q os) ≡ bound_cond b (owned.cond_view (owned_conds.Atom positive q ts))
cond_atom_bound b positive q os ts h =
    cond_atom positive q os
    ∙ (ap (Cond.atom positive q) (ap as_terms h ∙ terms_bound b ts)
    ∙ ap (bound_cond b) (sym (ap owned.cond_view (sym (owned_conds.rolls-Atom positive q ts)) ∙ fold-roll-Cond Cond owned.cond_step (Cond-F.Atom positive q ts))))

pub eff_atom_bound : (b : Binding) (positive : Bool) (q : ℕ) (os : Bor (List ℕ)) (ts : List Term) → os.now ≡ map (object_of b) ts → eff_view (effs.Atom positive q os) ≡ bound_eff b (owned.eff_view (owned_effs.Atom positive q ts))
eff_atom_bound b positive q os ts h =
    eff_atom positive q os
    ∙ (ap (Eff.makes positive q) (ap as_terms h ∙ terms_bound b ts)
    ∙ ap (bound_eff b) (sym (ap owned.eff_view (sym (owned_effs.rolls-Atom positive q ts)) ∙ fold-roll-Eff Eff owned.eff_step (Eff-F.Atom positive q ts))))

-- the bodies under each list of objects make the effect for all of them
pub each_bound : (b : Binding) (parts : Bor (List BoundEff)) (rs : List Range) (body : Box owned_eff.Eff Global) → map eff_view parts.now ≡ map (λ os. bound_eff (b ++ os) (owned.eff_view body.value)) (bindings rs) → eff_view (effs.All parts) ≡ bound_eff b (owned.eff_view (owned_effs.Each rs body))
each_bound b parts rs body h =
    eff_all parts
    ∙ (ap (λ z. Eff.both (effs_of z)) h
    ∙ ap (bound_eff b) (sym (ap owned.eff_view (sym (owned_effs.rolls-Each rs body)) ∙ fold-roll-Eff Eff owned.eff_step (Eff-F.Each rs body))))

-- ---- evaluating

-- the objects of objects as terms
pub objects_back : (os : List ℕ) → map (object_of []) (as_terms os) ≡ os
objects_back [] = refl
objects_back (o ∷ os) = ap (λ z. o ∷ z) (objects_back os)

module _ (l : Lifted) where
  settled_parts : (cs : List Cond) → all_settled l [] (conds_of cs) ≡ list_all (settled l []) cs
  settled_parts [] = refl
  settled_parts (c ∷ cs) = ap (λ t. settled l [] c && t) (settled_parts cs)

  remaining_parts : (cs : List Cond) → all_remaining l [] (conds_of cs) ≡ flat_map (remaining l []) cs
  remaining_parts [] = refl
  remaining_parts (c ∷ cs) = ap (λ z. remaining l [] c ++ z) (remaining_parts cs)

  pub settled_all : (parts : Bor (List BoundCond)) → settled l [] (cond_view (conds.All parts)) ≡ list_all (settled l []) (map cond_view parts.now)
  settled_all parts = ap (settled l []) (cond_all parts) ∙ settled_parts (map cond_view parts.now)

  pub settled_atom : (positive : Bool) (q : ℕ) (os : Bor (List ℕ)) → settled l [] (cond_view (conds.Atom positive q os)) ≡ (not (is_static l q) || signed positive (initially l q os.now))
  settled_atom positive q os = ap (settled l []) (cond_atom positive q os) ∙ ap (λ z. not (is_static l q) || signed positive (initially l q z)) (objects_back os.now)

  pub remaining_all : (parts : Bor (List BoundCond)) → remaining l [] (cond_view (conds.All parts)) ≡ flat_map (remaining l []) (map cond_view parts.now)
  remaining_all parts = ap (remaining l []) (cond_all parts) ∙ remaining_parts (map cond_view parts.now)

  pub remaining_atom : (positive : Bool) (q : ℕ) (os : Bor (List ℕ)) → remaining l [] (cond_view (conds.Atom positive q os)) ≡ only_if (not (is_static l q)) (ground positive q os.now ∷ [])
  remaining_atom positive q os = ap (remaining l []) (cond_atom positive q os) ∙ ap (λ z. only_if (not (is_static l q)) (ground positive q z ∷ [])) (objects_back os.now)

-- ---- flat effects

-- conditions round conditions
pub under_under : (ls ms : List GroundLit) (fs : List FlatEffect) → map (under ls) (map (under ms) fs) ≡ map (under (ls ++ ms)) fs
under_under ls ms [] = refl
under_under ls ms (f ∷ fs) = rw (under_under ls ms fs, append_assoc ls ms f.cond) refl

-- no conditions
pub under_none : (fs : List FlatEffect) → map (under []) fs ≡ fs
under_none [] = refl
under_none (f ∷ fs) = ap (λ z. f ∷ z) (under_none fs)

module _ (l : Lifted) (ls : List GroundLit) where
  -- the flat effects under these conditions
  abbrev pub flat_under : Eff → List FlatEffect
  flat_under e = map (under ls) (flat l [] e)

  flat_under_parts : (es : List Eff) → map (under ls) (flat_map (flat l []) es) ≡ flat_map flat_under es
  flat_under_parts [] = refl
  flat_under_parts (e ∷ es) = map-append (under ls) (flat l [] e) (flat_map (flat l []) es) ∙ ap (λ z. flat_under e ++ z) (flat_under_parts es)

  pub flat_all : (parts : Bor (List BoundEff)) → flat_under (eff_view (effs.All parts)) ≡ flat_map flat_under (map eff_view parts.now)
  flat_all parts = ap flat_under (eff_all parts) ∙ (ap (map (under ls)) (flat_parts l [] (map eff_view parts.now)) ∙ flat_under_parts (map eff_view parts.now))

  pub flat_when : (c : BoundCond) (body : Bor BoundEff) → flat_under (eff_view (effs.When c body)) ≡ only_if (settled l [] (cond_view c)) (map (under (ls ++ remaining l [] (cond_view c))) (flat l [] (eff_view body.now)))
  flat_when c body = ap flat_under (eff_when c body) ∙ pick (settled l [] (cond_view c))
    where
      pick : (t : Bool) → map (under ls) (only_if t (map (under (remaining l [] (cond_view c))) (flat l [] (eff_view body.now)))) ≡ only_if t (map (under (ls ++ remaining l [] (cond_view c))) (flat l [] (eff_view body.now)))
      pick true = under_under ls (remaining l [] (cond_view c)) (flat l [] (eff_view body.now))
      pick false = refl

  -- an effect under these conditions
  abbrev pub made : GroundLit → FlatEffect
  made m = record { cond = ls; result = m }

  pub flat_atom : (positive : Bool) (q : ℕ) (os : Bor (List ℕ)) → flat_under (eff_view (effs.Atom positive q os)) ≡ made (ground positive q os.now) ∷ []
  flat_atom positive q os = ap flat_under (eff_atom positive q os) ∙ rw (append-nil ls, objects_back os.now) refl
