-- The tree of an instance that lies in an arena as a tree of plain data.
use Rattle.std.specs.Prelude.{ℕ, List, map}
use Rattle.kp_names_semantics.specs.declared.lifted.Term.{Term}
use Rattle.kp_names_semantics.specs.Numbered.{Cond, Eff}
use Rattle.kp_names.specs.View.{conds_of, effs_of}
use Rattle.kp_ground_flatten.specs.declared.node.BoundCond.{BoundCond}
use Rattle.kp_ground_flatten.specs.declared.node.BoundCond.TheOpen.{BoundCond-F}
use Rattle.kp_ground_flatten.specs.declared.node.BoundCond.TheFolds.{fold-BoundCond}
use Rattle.kp_ground_flatten.specs.declared.node.BoundEff.{BoundEff}
use Rattle.kp_ground_flatten.specs.declared.node.BoundEff.TheOpen.{BoundEff-F}
use Rattle.kp_ground_flatten.specs.declared.node.BoundEff.TheFolds.{fold-BoundEff}
use Rattle.kp_ground_flatten.specs.declared.node.BoundNode.{BoundNode}
use Rattle.kp_ground_flatten.specs.Bound.{Tree}

-- objects as terms
abbrev pub as_terms : List ℕ → List Term
as_terms os = map (λ o. Term.Object o) os

-- one level of a condition, whose parts are seen already
abbrev pub cond_step : BoundCond-F Cond → Cond
cond_step (BoundCond-F.All parts) = Cond.all (conds_of parts.now)
cond_step (BoundCond-F.Atom positive q os) = Cond.atom positive q (as_terms os.now)
cond_step (BoundCond-F.Same positive left right) = Cond.same positive (Term.Object left) (Term.Object right)

-- a condition
abbrev pub cond_view : BoundCond → Cond
cond_view = fold-BoundCond Cond cond_step

-- one level of an effect
abbrev pub eff_step : BoundEff-F Eff → Eff
eff_step (BoundEff-F.All parts) = Eff.both (effs_of parts.now)
eff_step (BoundEff-F.When c body) = Eff.when (cond_view c) body.now
eff_step (BoundEff-F.Atom positive q os) = Eff.makes positive q (as_terms os.now)

-- an effect
abbrev pub eff_view : BoundEff → Eff
eff_view = fold-BoundEff Eff eff_step

-- an instance
abbrev pub node_view : BoundNode → Tree
node_view n = record { pre = cond_view n.pre; effect = eff_view n.effect }
