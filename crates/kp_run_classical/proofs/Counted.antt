-- A ground problem within the limits speaks of its atoms alone, so its task is fit to be searched.
use Rattle.std.proofs.Common.{List, length, sym, ap, subst, arith}
use Rattle.std.proofs.lemmas.List.{length-map}
use Rattle.kp_base.specs.declared.ground.Action.{Action}
use Rattle.kp_base.specs.declared.ground.Ground.{Ground}
use Rattle.kp_base.specs.Implicates.{IsOfItsAtoms}
use Rattle.kp_tree_grammar.specs.declared.tree.Word.{Word}
use Rattle.kp_tree_grammar.specs.Trees.{Domain, Problem}
use Rattle.kp_names_semantics.specs.Numbered.{Lifted}
use Rattle.kp_names_semantics.specs.Numbering.{numbered_problem}
use Rattle.kp_ground_semantics.specs.Ground.{kept_instances, ground_atoms, atom_name}
use Rattle.kp_ground.specs.Grounded.{IsGrounded}
use Rattle.kp_ground.specs.Passes.{action_at}
use Rattle.kp_ground.proofs.Public.{actions_of_schemas_in_order}
use Rattle.kp_classic.specs.Fits.{IsFit}
use Rattle.kp_classic.proofs.Public.{task_of_ground_fits}
use Rattle.kp_law_translation.specs.OfTrees as given
use Rattle.kp_law_translation.proofs.Public.{ground_is_of_its_atoms}
use Rattle.kp_run_classical.specs.Classical.{classical, IsClassicalProblem, task_of}

pub is_of_atoms : (l : Lifted) (g : Ground) → IsGrounded l classical g → IsOfItsAtoms g
is_of_atoms l g w = subst IsOfItsAtoms (sym w.ground) (ground_is_of_its_atoms l
    (let a = length-map (ground_atoms l) (atom_name l) in let b = w.atoms in omega (arith, a, b))
    (let a = ap (λ (as' : List Action). length as') (actions_of_schemas_in_order l (ground_atoms l)) in let m = length-map (kept_instances l) (action_at l (ground_atoms l)) in let n = w.counts.actions in omega (arith, a, m, n)))

-- the task of two classical trees
pub task_fits : (d : Domain Word) (p : Problem Word) → IsClassicalProblem d p → IsFit (task_of d p)
task_fits d p c = task_of_ground_fits (given.ground_of d p) (given.initial_of d p) (is_of_atoms (numbered_problem d p) (given.ground_of d p) c.small)
