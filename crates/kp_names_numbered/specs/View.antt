-- The problem by number of the program as plain data: the same numbers and names, without where they lie in memory.
use Rattle.std.specs.Prelude.{List, [], ◌∷◌, map}
use Rattle.kp_names_semantics.specs.Numbered.{Cond, Conds, Eff, Effs, Schema, Lifted}
use Rattle.kp_names_numbered.specs.declared.lifted.Cond as conds
use Rattle.kp_names_numbered.specs.declared.lifted.Cond.TheOpen.{Cond-F}
use Rattle.kp_names_numbered.specs.declared.lifted.Cond.TheFolds.{fold-Cond}
use Rattle.kp_names_numbered.specs.declared.lifted.Eff as effs
use Rattle.kp_names_numbered.specs.declared.lifted.Eff.TheOpen.{Eff-F}
use Rattle.kp_names_numbered.specs.declared.lifted.Eff.TheFolds.{fold-Eff}
use Rattle.kp_names_numbered.specs.declared.lifted.Schema as schemas
use Rattle.kp_names_numbered.specs.declared.lifted.Lifted as lifteds

-- ---- the parts of a conjunction, as a chain

-- of conditions
abbrev pub conds_of : List Cond → Conds
conds_of [] = Conds.no_cond
conds_of (c ∷ cs) = Conds.more_conds c (conds_of cs)

-- of effects
abbrev pub effs_of : List Eff → Effs
effs_of [] = Effs.no_eff
effs_of (e ∷ es) = Effs.more_effs e (effs_of es)

-- ---- views

-- one level of a condition, whose parts are seen already
abbrev pub cond_step : Cond-F Cond → Cond
cond_step (Cond-F.All parts) = Cond.all (conds_of parts)
cond_step (Cond-F.Atom positive pred terms) = Cond.atom positive pred terms
cond_step (Cond-F.Same positive left right) = Cond.same positive left right

-- a condition
abbrev pub cond_view : conds.Cond → Cond
cond_view = fold-Cond Cond cond_step

-- one level of an effect
abbrev pub eff_step : Eff-F Eff → Eff
eff_step (Eff-F.All parts) = Eff.both (effs_of parts)
eff_step (Eff-F.When c body) = Eff.when (cond_view c) body.value
eff_step (Eff-F.Each ranges body) = Eff.each ranges body.value
eff_step (Eff-F.Atom positive pred terms) = Eff.makes positive pred terms

-- an effect
abbrev pub eff_view : effs.Eff → Eff
eff_view = fold-Eff Eff eff_step

-- a schema
abbrev pub schema_view : schemas.Schema → Schema
schema_view s = record { name = s.name; params = s.params; pre = cond_view s.pre; effect = eff_view s.effect }

-- a problem; where its initial state is left open is no part of its meaning
abbrev pub lifted_view : lifteds.Lifted → Lifted
lifted_view l = record { objects = l.objects; predicates = l.predicates; schemas = map schema_view l.schemas; init = l.init; goal = l.goal }
