-- The tree of an instance: objects in place of variables, and a part for each binding of a quantifier.
use Rattle.std.specs.Prelude.{ℕ, List, [], ◌++◌, Option, option_map, map, slice_get}
use Rattle.kp_base.specs.Lists.{each_once}
use Rattle.kp_names_semantics.specs.declared.lifted.Term.{Term}
use Rattle.kp_names_semantics.specs.Numbered.{Cond, Conds, Eff, Effs, Schema, Lifted}
use Rattle.kp_names_semantics.specs.Lifted.{Binding, object_of, bindings}
use Rattle.kp_names.specs.View.{effs_of}
use Rattle.kp_ground_semantics.specs.declared.flat.Flat.{Flat}
use Rattle.kp_ground_semantics.specs.Static.{remaining}
use Rattle.kp_ground_semantics.specs.Flattening.{same_flat, flat, flat_of}

-- the object that a term stands for, as a term
abbrev pub bound_term : Binding → Term → Term
bound_term b t = Term.Object (object_of b t)

-- a condition with objects in place of variables
abbrev mutual
  pub bound_cond : Binding → Cond → Cond
  bound_cond b (Cond.all cs) = Cond.all (bound_conds b cs)
  bound_cond b (Cond.atom positive q ts) = Cond.atom positive q (map (bound_term b) ts)
  bound_cond b (Cond.same positive left right) = Cond.same positive (bound_term b left) (bound_term b right)

  pub bound_conds : Binding → Conds → Conds
  bound_conds b Conds.no_cond = Conds.no_cond
  bound_conds b (Conds.more_conds c cs) = Conds.more_conds (bound_cond b c) (bound_conds b cs)

-- an effect with objects in place of variables; in place of one for all objects, its body for each binding in order
abbrev mutual
  pub bound_eff : Binding → Eff → Eff
  bound_eff b (Eff.both es) = Eff.both (bound_effs b es)
  bound_eff b (Eff.when c e) = Eff.when (bound_cond b c) (bound_eff b e)
  bound_eff b (Eff.each rs e) = Eff.both (effs_of (map (λ os. bound_eff (b ++ os) e) (bindings rs)))
  bound_eff b (Eff.makes positive q ts) = Eff.makes positive q (map (bound_term b) ts)

  pub bound_effs : Binding → Effs → Effs
  bound_effs b Effs.no_eff = Effs.no_eff
  bound_effs b (Effs.more_effs e es) = Effs.more_effs (bound_eff b e) (bound_effs b es)

-- the tree of an instance: its precondition and its effect
pub record Tree : Type 0 where
  pub pre : Cond
  pub effect : Eff

-- the tree of a schema with these objects
abbrev pub bound : List ℕ → Schema → Tree
bound os a = record { pre = bound_cond os a.pre; effect = bound_eff os a.effect }

-- the tree of the schema of this number with these objects, if there is such a schema
abbrev pub bound_at : Lifted → ℕ → List ℕ → Option Tree
bound_at l n os = option_map (bound os) (slice_get l.schemas n)

-- the flat form of a tree, each effect once
abbrev pub flat_tree : Lifted → Tree → Flat
flat_tree l t = record { pre = remaining l [] t.pre; effects = each_once same_flat (flat l [] t.effect) }

-- the flat form of the schema of this number with these objects, if there is such a schema
abbrev pub flat_at : Lifted → ℕ → List ℕ → Option Flat
flat_at l n os = option_map (λ a. flat_of l a os) (slice_get l.schemas n)
