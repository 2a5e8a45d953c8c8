use Rattle.std.proofs.Common.{length, ltb-true, ◌∙◌, sym}
use Rattle.kp_ground.proofs.NamesByNumber.{name_there, no_name}
use Rattle.kp_ground.proofs.names.predicate_name.Goals as goal

pub returns-in_ok-copy-in-Some : goal.returns-in_ok-copy-in-Some
returns-in_ok-copy-in-Some c =
    let found = c.in-Some.ensures.lookup in
    c.in_ok-copy-in-Some.ensures ∙ sym (name_there (λ q. q.name) c.args.predicates.now c.args.number c.in-Some.predicate.now (ltb-true c.args.number (length c.args.predicates.now) (sym found.0)) found.1)

pub returns-in-None : goal.returns-in-None
returns-in-None c = c.new.ensures ∙ sym (no_name (λ q. q.name) c.args.predicates.now c.args.number c.in-None.ensures.lookup.3)
