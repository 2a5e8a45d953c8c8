use Rattle.std.proofs.Common.{sym, ap, subst, IfOk}
use Rattle.kp_words.specs.declared.verb.Verb.{Verb}
use Rattle.kp_run.specs.Outcomes.{ComesBy}
use Rattle.kp_run.proofs.Reading.{reads_merges, merges_under}
use Rattle.kp_run.proofs.entry.outcome_by.Goals as goal

-- where tags and merges come from

pub translate_on-requires-clause-origin : goal.translate_on-requires-clause-origin
translate_on-requires-clause-origin c =
    let r = c.requires.read in
    (r.1.merges.texts, c.origin_of.ensures r.0 r.1.merges.texts (merges_under c.args.verb r.0 c.args.asked.now r.1.merges.texts (ap reads_merges c.in-Translate.is) r.1.merges.are) r.1.merges.fronts)

pub solve_on-requires-clause-origin : goal.solve_on-requires-clause-origin
solve_on-requires-clause-origin c =
    let r = c.requires.read in
    (r.1.merges.texts, c.origin_of-in-Solve.ensures r.0 r.1.merges.texts (merges_under c.args.verb r.0 c.args.asked.now r.1.merges.texts (ap reads_merges c.in-Solve.is) r.1.merges.are) r.1.merges.fronts)

pub lift_on-requires-clause-origin : goal.lift_on-requires-clause-origin
lift_on-requires-clause-origin c =
    let r = c.requires.read in
    (r.1.merges.texts, c.origin_of-in-Lift.ensures r.0 r.1.merges.texts (merges_under c.args.verb r.0 c.args.asked.now r.1.merges.texts (ap reads_merges c.in-Lift.is) r.1.merges.are) r.1.merges.fronts)

-- what these come to; of the others search finds it

pub returns-in-Translate : goal.returns-in-Translate
returns-in-Translate c held t are inputs = subst (λ (v : Verb). IfOk c.translate_on.result (ComesBy v c.args.asked.now t)) (sym c.in-Translate.is) (c.translate_on.ensures t.domain t.problem t.merges inputs.domain inputs.problem (c.origin_of.ensures held t.merges (merges_under c.args.verb held c.args.asked.now t.merges (ap reads_merges c.in-Translate.is) are.merges) inputs.merges))

pub returns-in-Solve : goal.returns-in-Solve
returns-in-Solve c held t are inputs = subst (λ (v : Verb). IfOk c.solve_on.result (ComesBy v c.args.asked.now t)) (sym c.in-Solve.is) (c.solve_on.ensures t.domain t.problem t.merges inputs.domain inputs.problem (c.origin_of-in-Solve.ensures held t.merges (merges_under c.args.verb held c.args.asked.now t.merges (ap reads_merges c.in-Solve.is) are.merges) inputs.merges))

pub returns-in-Lift : goal.returns-in-Lift
returns-in-Lift c held t are inputs = subst (λ (v : Verb). IfOk c.lift_on.result (ComesBy v c.args.asked.now t)) (sym c.in-Lift.is) (c.lift_on.ensures t.domain t.problem t.plan t.merges inputs.domain inputs.problem (c.origin_of-in-Lift.ensures held t.merges (merges_under c.args.verb held c.args.asked.now t.merges (ap reads_merges c.in-Lift.is) are.merges) inputs.merges) inputs.plan)

pub returns-in-Classical : goal.returns-in-Classical
returns-in-Classical c held t are inputs = subst (λ (v : Verb). IfOk c.classical_on.result (ComesBy v c.args.asked.now t)) (sym c.in-Classical.is) (c.classical_on.ensures t.domain t.problem inputs.domain inputs.problem)

pub returns-in-Check : goal.returns-in-Check
returns-in-Check c held t are inputs = subst (λ (v : Verb). IfOk c.check_on.result (ComesBy v c.args.asked.now t)) (sym c.in-Check.is) (c.check_on.ensures t.domain t.problem t.plan inputs.domain inputs.problem inputs.plan)

pub returns-in-Width : goal.returns-in-Width
returns-in-Width c held t are inputs = subst (λ (v : Verb). IfOk c.width_on.result (ComesBy v c.args.asked.now t)) (sym c.in-Width.is) (c.width_on.ensures t.domain t.problem inputs.domain inputs.problem)

pub returns-in-Merges : goal.returns-in-Merges
returns-in-Merges c held t are inputs = subst (λ (v : Verb). IfOk c.merges_on.result (ComesBy v c.args.asked.now t)) (sym c.in-Merges.is) (c.merges_on.ensures t.domain t.problem inputs.domain inputs.problem)
