-- Whether an action clashes has nothing to do with the table of a ground problem.
use Rattle.std.proofs.Common.{ℕ, List, [], ◌∷◌, length}
use Rattle.kp_base.specs.declared.ground.Ground.{Ground}
use Rattle.kp_base.specs.declared.ground.Initial.{Initial}
use Rattle.kp_base.specs.Atoms.{Atom, atom}
use Rattle.kp_base.specs.Exclusive.{IsExclusive, IsClashFree}

-- the same problem with another table
abbrev pub with_table : Ground → List Atom → Ground
with_table g t = record { atoms = g.atoms; table = t; actions = g.actions; goal = g.goal }

there : (g : Ground) (t : List Atom) (i : Initial) (p q : ℕ) → IsExclusive g i (length g.atoms) p q → IsExclusive (with_table g t) i (length g.atoms) p q
there g t i p q x = record {
  pairs = x.pairs;
  inductive = record { are_pairs = x.inductive.are_pairs; never_at_the_start = x.inductive.never_at_the_start; never_both_added = x.inductive.never_both_added; other_deleted = x.inductive.other_deleted };
  has_pair = x.has_pair;
}

back : (g : Ground) (t : List Atom) (i : Initial) (p q : ℕ) → IsExclusive (with_table g t) i (length g.atoms) p q → IsExclusive g i (length g.atoms) p q
back g t i p q x = record {
  pairs = x.pairs;
  inductive = record { are_pairs = x.inductive.are_pairs; never_at_the_start = x.inductive.never_at_the_start; never_both_added = x.inductive.never_both_added; other_deleted = x.inductive.other_deleted };
  has_pair = x.has_pair;
}

-- with another table no action clashes either
pub clash_free_with_table : (g : Ground) (t : List Atom) (i : Initial) → IsClashFree g i → IsClashFree (with_table g t) i
clash_free_with_table g t i x = record {
  pairs = x.pairs;
  exclusive = record { each = λ p q h. there g t i p q (x.exclusive.each p q h); all = λ p q e. x.exclusive.all p q (back g t i p q e) };
  none = x.none;
}

-- p and q by number
abbrev pub two_atoms : List Atom
two_atoms = atom 0 [] ∷ atom 1 [] ∷ []
