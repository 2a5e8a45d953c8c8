-- Effects that are handed over one by one.
use Rattle.std.proofs.Common.{◌≡◌, List, [], ◌∷◌, map, fold, refl, sym, ap, ◌∙◌}
use Rattle.std.specs.List.{flat_map}
use Rattle.std.proofs.lemmas.List.Sums.{fold-append}
use Rattle.kp_base.specs.declared.ground.Effect.{Effect}
use Rattle.kp_base.specs.Atoms.{Atom}
use Rattle.kp_ground_semantics.specs.declared.flat.FlatEffect.{FlatEffect}
use Rattle.kp_ground_semantics.specs.Ground.{effect_literals, numbered_effect}
use Rattle.kp_ground.specs.Gathered.{with_literal, gather}
use Rattle.kp_ground.specs.declared.effect_atoms.EffectAtoms.{EffectAtoms}
use Rattle.kp_ground.specs.Made.{with_made}

-- the atoms with those of one more effect
abbrev pub more_atoms : EffectAtoms → FlatEffect → EffectAtoms
more_atoms g f = record { atoms = gather g.limit g.atoms (effect_literals f); limit = g.limit }

pub all_atoms : (g : EffectAtoms) (fs : List FlatEffect) → fold more_atoms g fs ≡ (let h : EffectAtoms = record { atoms = gather g.limit g.atoms (flat_map effect_literals fs); limit = g.limit } in h)
all_atoms g [] = refl
all_atoms g (f ∷ fs) =
    all_atoms (more_atoms g f) fs
    ∙ ap (λ (as' : List Atom). (let h : EffectAtoms = record { atoms = as'; limit = g.limit } in h)) (sym (fold-append (with_literal g.limit) g.atoms (effect_literals f) (flat_map effect_literals fs)))

-- the effects by number with one more
abbrev pub more_made : List Atom × List Effect → FlatEffect → List Atom × List Effect
more_made n f = (n.0, with_made n.1 (numbered_effect n.0 f))

pub all_made : (atoms : List Atom) (es : List Effect) (fs : List FlatEffect) → fold more_made (atoms, es) fs ≡ (atoms, fold with_made es (map (numbered_effect atoms) fs))
all_made atoms es [] = refl
all_made atoms es (f ∷ fs) = all_made atoms (with_made es (numbered_effect atoms f)) fs
