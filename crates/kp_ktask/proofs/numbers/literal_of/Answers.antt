use Rattle.std.proofs.Common.{refl}
use Rattle.kp_ktask.proofs.Literals.{literal_found}
use Rattle.kp_ktask.proofs.numbers.literal_of.Goals as goal

pub returns : goal.returns
returns c = literal_found c.args.atoms c.args.fact _ c.requires (rw (c.from.ensures, c.from-2.ensures) refl)
