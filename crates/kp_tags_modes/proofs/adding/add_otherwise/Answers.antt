use Rattle.std.proofs.Common.{Bool, sym, subst}
use Rattle.std.proofs.lemmas.Result.{on_ok_weaker}
use Rattle.kp_primes.specs.Held.{formula}
use Rattle.kp_tags_modes.specs.Modes.{AreOneForEach, AreOtherwise}
use Rattle.kp_tags_modes.proofs.Behind.{adds_as}
use Rattle.kp_tags_modes.proofs.adding.add_otherwise.Goals as goal

pub returns-else-by_models : goal.returns-else-by_models
returns-else-by_models c =
    let i = formula c.args.primes.now in
    let cs = c.args.clauses.now in
    on_ok_weaker c.add_for_each.result
    (adds_as c.args.target (AreOneForEach i cs) (AreOtherwise i cs c.args.by_models) c.args.merges.now c.add_for_each.new.merges (λ lists h. subst (λ (b : Bool). AreOtherwise i cs b lists) (sym c.if-by_models.false) (AreOtherwise.for_each lists h)))
    c.add_for_each.ensures
