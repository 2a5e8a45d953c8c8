use Rattle.std.proofs.Common.{◌∙◌, ap₂}
use Rattle.kp_tree_grammar.specs.View.{cond_view, eff_view, schema_view}
use Rattle.kp_names_semantics.specs.Faults.{cond_faults, eff_faults}
use Rattle.kp_names_declared.specs.Collected.{domain_of, problem_of}
use Rattle.kp_names.specs.Noted.{noted}
use Rattle.kp_names.proofs.Scopes.{noted_schema}
use Rattle.kp_names.proofs.schema_faults.note_within.Goals as goal

pub returns : goal.returns
returns c =
    let d = domain_of c.args.names.now in
    let p = problem_of c.args.names.now in
    let schema = c.args.schema.now in
    let variables = rw c.slice.ensures at c.in_ok-note_scope.ensures.noted in
    let scope = rw (c.slice.ensures, c.requires) at c.in_ok-note_scope.ensures.scope in
    c.in_ok-note_effect.ensures.noted
    ∙ (ap₂ (λ o s. noted o (eff_faults d p s (eff_view schema.effect))) (c.note_cond.ensures ∙ ap₂ (λ o s. noted o (cond_faults d p s (cond_view schema.pre))) variables scope) scope
    ∙ noted_schema d p c.args.first.now (schema_view schema))
