use Rattle.kp_base.specs.Lit.{same_lit}
use Rattle.kp_base.proofs.Sets.{set_ascends, any-set_of}
use Rattle.kp_base.proofs.laws.sets_have_their_elements.Goals as goal

pub returns : goal.returns
returns c ls = record { ascending = set_ascends ls; same = λ l. any-set_of (same_lit l) ls }
