use Rattle.std.proofs.Common.{refl}
use Rattle.std.proofs.lemmas.Bool.{false_from_ne_true}
use Rattle.kp_clash_exclusive.proofs.Marked.{pair_in, few}
use Rattle.kp_clash_exclusive.proofs.pairs.Pairs.atoms.Goals as goal

pub returns-clause-below : goal.returns-clause-below
returns-clause-below c = rw (← c.self.view_is) (λ p q h. (pair_in c.self.inside.atoms c.self.inside.table c.self.invariant p q h).2)

pub returns-clause-different : goal.returns-clause-different
returns-clause-different c = rw (← c.self.view_is) (λ p. false_from_ne_true _ (λ h. (pair_in c.self.inside.atoms c.self.inside.table c.self.invariant p p h).0 refl))

pub returns-clause-few : goal.returns-clause-few
returns-clause-few c = few c.self.inside.atoms c.self.invariant.counted
