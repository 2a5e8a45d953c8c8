use Rattle.std.proofs.Common.{◌≡◌, ◌||◌, drop}
use Rattle.std.specs.List.{list_any}
use Rattle.kp_base.specs.Atoms.{Atom, same_atom}
use Rattle.kp_ground_semantics.specs.Ground.{atom_of}
use Rattle.kp_init.specs.NamedAtoms.{is_kept}
use Rattle.kp_init.proofs.named.add_all.Given as goal

-- with the literals that are left come all
abbrev pub invariant-loop-lit : goal.invariant-loop-lit
invariant-loop-lit l = (a : Atom) → (is_kept l.atoms.keys a || list_any (λ m. same_atom a (atom_of m)) (drop l.lit-index l.lits)) ≡ (is_kept l.fn.atoms.keys a || list_any (λ m. same_atom a (atom_of m)) l.lits)
