use Rattle.std.proofs.Common.{true}
use Rattle.std.proofs.lemmas.Result.{on_ok_weaker}
use Rattle.kp_primes.specs.Held.{formula}
use Rattle.kp_tags_modes.specs.Modes.{AreOtherwise}
use Rattle.kp_tags_modes.specs.Added.{IsOver}
use Rattle.kp_tags_modes.proofs.Behind.{adds_as}
use Rattle.kp_tags_modes.proofs.Gathered.{are_assignments}
use Rattle.kp_tags_modes.proofs.adding.add_assignments.Goals as goal

pub returns : goal.returns
returns c =
    let i = formula c.args.primes.now in
    let cs = c.args.clauses.now in
    on_ok_weaker c.add_over.result (adds_as c.args.target (IsOver i c.in_ok-either.either) (AreOtherwise i cs true) c.args.merges.now c.add_over.new.merges (are_assignments i cs c.in_ok-either.either c.in_ok-either.ensures)) c.add_over.ensures
