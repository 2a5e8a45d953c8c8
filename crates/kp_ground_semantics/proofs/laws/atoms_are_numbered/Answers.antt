use Rattle.kp_ground_semantics.proofs.Atoms.{atoms_are_numbered}
use Rattle.kp_ground_semantics.proofs.laws.atoms_are_numbered.Goals as goal

pub returns : goal.returns
returns c = atoms_are_numbered
