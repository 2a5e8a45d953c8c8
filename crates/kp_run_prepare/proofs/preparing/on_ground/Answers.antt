use Rattle.std.proofs.Common.{◌∙◌, ℕ, length, Err, sym, ap, subst}
use Rattle.kp_base.specs.declared.ground.Ground.{Ground}
use Rattle.kp_base.specs.declared.ground.Initial.{Initial}
use Rattle.kp_base.specs.Implicates.{IsOfAtoms}
use Rattle.kp_names.specs.View.{lifted_view}
use Rattle.kp_init.specs.Initial.{initial_of}
use Rattle.kp_primes.specs.Answers.{HoldsPrimes, AnswersPrimes, RefusesPrimes}
use Rattle.kp_law_translation.proofs.Public.{formula_by_number_is_over_atoms}
use Rattle.kp_run_prepare.proofs.Ended.{formula_ends}
use Rattle.kp_run_prepare.proofs.preparing.on_ground.Goals as goal

-- the formula speaks of the ground atoms
pub build-requires : goal.build-requires
build-requires c =
    let l = lifted_view c.args.lifted.now in
    let formula = c.in_ok-formula.ensures in
    let many = c.len-atoms.ensures ∙ ap (λ (g : Ground). length g.atoms) c.requires.ground in
    subst (λ (i : Initial). IsOfAtoms c.len-atoms.result i) (sym formula) (subst (λ (n : ℕ). IsOfAtoms n (initial_of l)) (sym many) (formula_by_number_is_over_atoms l))

-- it has its prime implicates
pub returns-in-Ok : goal.returns-in-Ok
returns-in-Ok c =
    let l = lifted_view c.args.lifted.now in
    let formula = c.in_ok-formula.ensures in
    let here = subst (λ (i : Initial). HoldsPrimes i c.len-atoms.result c.args.implicates c.in-Ok.primes) formula c.in-Ok.ensures in
    c.without_clash.ensures l c.args.implicates c.requires.ground (subst (λ (n : ℕ). HoldsPrimes (initial_of l) n c.args.implicates c.in-Ok.primes) c.len-atoms.ensures here)

-- it has too many, or no model
pub returns-in-Err : goal.returns-in-Err
returns-in-Err c =
    let l = lifted_view c.args.lifted.now in
    let formula = c.in_ok-formula.ensures in
    formula_ends c.args.implicates l c.in-Err.stop c.ended_by.result
    (λ r is. subst (λ (i : Initial). RefusesPrimes i c.args.implicates r) formula (subst (λ s. AnswersPrimes c.in_ok-formula.formula c.len-atoms.result c.args.implicates (Err s)) is c.in-Err.ensures)) c.ended_by.ensures
