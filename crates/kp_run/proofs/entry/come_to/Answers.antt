use Rattle.std.proofs.Common.{◌∙◌, Err, sym, ap, subst}
use Rattle.std.proofs.lemmas.Result.{err_from_is_err_and}
use Rattle.kp_words.specs.Asked.{Asked}
use Rattle.kp_words.specs.declared.verb.Verb.{Verb}
use Rattle.kp_words.specs.Forms.{form}
use Rattle.kp_run.specs.Contents.{AreContentsUnder}
use Rattle.kp_run.specs.CommandParts.{AreReadUnder}
use Rattle.kp_run.specs.Outcomes.{ComesBy}
use Rattle.kp_run.proofs.Reading.{read_within, contents_read, contents_are, inputs_are, only_then, only_memory}
use Rattle.kp_run.proofs.entry.come_to.Goals as goal

pub outcome_by-requires-clause-size : goal.outcome_by-requires-clause-size
outcome_by-requires-clause-size g c is = c.requires (sym (ap (λ (k : Asked). k.verb) c.asked.view_is) ∙ is)

pub outcome_by-requires-clause-read : goal.outcome_by-requires-clause-read
outcome_by-requires-clause-read g c =
    let held = g.S.Shelf.contents c.args.shelf.now in
    (held, subst (λ (v : Verb). AreReadUnder held (form v).reads c.args.asked.now c.in_ok-inputs.inputs) (sym (ap (λ (k : Asked). k.verb) c.asked.view_is)) c.in_ok-inputs.ensures.read)

-- what was read is within the limit

pub outcome_by-requires-clause-domain : goal.outcome_by-requires-clause-domain
outcome_by-requires-clause-domain g c = read_within (g.S.Shelf.contents c.args.shelf.now) _ c.in_ok-inputs.inputs.domain c.in_ok-inputs.ensures.read.domain

pub outcome_by-requires-clause-problem : goal.outcome_by-requires-clause-problem
outcome_by-requires-clause-problem g c = read_within (g.S.Shelf.contents c.args.shelf.now) _ c.in_ok-inputs.inputs.problem c.in_ok-inputs.ensures.read.problem

pub outcome_by-requires-clause-plan : goal.outcome_by-requires-clause-plan
outcome_by-requires-clause-plan g c = read_within (g.S.Shelf.contents c.args.shelf.now) _ c.in_ok-inputs.inputs.plan c.in_ok-inputs.ensures.read.plan

pub outcome_by-requires-clause-written : goal.outcome_by-requires-clause-written
outcome_by-requires-clause-written g c = read_within (g.S.Shelf.contents c.args.shelf.now) _ c.in_ok-inputs.inputs.written c.in_ok-inputs.ensures.read.written

pub returns-clause-comes_to : goal.returns-clause-comes_to
returns-clause-comes_to g c =
    let held = g.S.Shelf.contents c.args.shelf.now in
    let own = ap (λ (k : Asked). k.verb) c.asked.view_is in
    let names = (form c.args.asked.now.verb).reads in
    let t = contents_read held names c.args.asked.now c.in_ok-inputs.inputs c.in_ok-inputs.ensures.read in
    let are = contents_are held names c.args.asked.now c.in_ok-inputs.inputs c.in_ok-inputs.ensures.read in (
      t,
      are,
      subst (λ (v : Verb). ComesBy v c.args.asked.now t c.in_ok-outcome.outcome) own
          (c.in_ok-outcome.ensures held t (subst (λ (v : Verb). AreContentsUnder (form v).reads held c.args.asked.now t) (sym own) are) (inputs_are held names c.args.asked.now c.in_ok-inputs.inputs c.in_ok-inputs.ensures.read)),
    )

pub returns-clause-only : goal.returns-clause-only
returns-clause-only g c = only_then _ _ _ _ _ _ _ c.in_ok-inputs.ensures.only

pub returns-in_err-outcome-clause-only : goal.returns-in_err-outcome-clause-only
returns-in_err-outcome-clause-only g c =
    let p = err_from_is_err_and c.from_residual-in_err-outcome.result c.from_residual-in_err-outcome.ensures.1 in
    only_memory _ _ _ _ _ c.in_ok-inputs.ensures.only _ (p.1 ∙ ap Err p.2)
