-- The effects of an instance one by one: what stands under conditions and in conjunctions, and once for each list of objects.
use Rattle.std.specs.Prelude.{ℕ, Bool, ◌&&◌, List, [], ◌∷◌, ◌++◌, map}
use Rattle.std.specs.List.{list_all, flat_map}
use Rattle.kp_base.specs.Lists.{only_if, each_once}
use Rattle.kp_names_semantics.specs.declared.lifted.GroundLit.{GroundLit}
use Rattle.kp_names_semantics.specs.Numbered.{Eff, Effs, Schema, Lifted}
use Rattle.kp_names_semantics.specs.Lifted.{State, Binding, literal, literal_holds, same_literal, names_literal, bindings}
use Rattle.kp_ground_semantics.specs.declared.flat.FlatEffect.{FlatEffect}
use Rattle.kp_ground_semantics.specs.declared.flat.Flat.{Flat}
use Rattle.kp_ground_semantics.specs.Static.{settled, remaining}

-- an effect under further conditions
abbrev pub under : List GroundLit → FlatEffect → FlatEffect
under ls f = record { cond = ls ++ f.cond; result = f.result }

-- the effects in text order, the first variable slowest; none under a condition with a false static literal or equality
abbrev mutual
  pub flat : Lifted → Binding → Eff → List FlatEffect
  flat l b (Eff.both es) = all_flat l b es
  flat l b (Eff.when c e) = only_if (settled l b c) (map (under (remaining l b c)) (flat l b e))
  flat l b (Eff.each rs e) = flat_map (λ os. flat l (b ++ os) e) (bindings rs)
  flat l b (Eff.makes positive q ts) = record { cond = []; result = literal positive q ts b } ∷ []

  pub all_flat : Lifted → Binding → Effs → List FlatEffect
  all_flat l b Effs.no_eff = []
  all_flat l b (Effs.more_effs e es) = flat l b e ++ all_flat l b es

-- whether the same literals stand in both lists
abbrev pub same_literals : List GroundLit → List GroundLit → Bool
same_literals ls ms = list_all (names_literal ms) ls && list_all (names_literal ls) ms

-- whether two effects are one: the same result under the same conditions
abbrev pub same_flat : FlatEffect → FlatEffect → Bool
same_flat f g = same_literal f.result g.result && same_literals f.cond g.cond

-- the flat form of a schema with these objects, each effect once
abbrev pub flat_of : Lifted → Schema → List ℕ → Flat
flat_of l a os = record { pre = remaining l os a.pre; effects = each_once same_flat (flat l os a.effect) }

-- the results of the effects whose conditions hold
abbrev pub flat_fires : State → List FlatEffect → List GroundLit
flat_fires s fs = flat_map (λ f. only_if (list_all (literal_holds s) f.cond) (f.result ∷ [])) fs
