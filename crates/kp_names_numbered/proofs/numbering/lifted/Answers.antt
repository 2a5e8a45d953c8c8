use Rattle.std.proofs.Common.{◌≡◌, ◌∙◌, ap, ap₂, map, flat_map}
use Rattle.kp_tree_grammar.specs.View.{schema_view as schema_tree_view, domain_view, problem_view}
use Rattle.kp_names_semantics.specs.Types.{objects}
use Rattle.kp_names_semantics.specs.Numbering.{numbered_pred, numbered_schema, numbered_item, numbered_goal}
use Rattle.kp_names_numbered.proofs.WholeProblem.{same_parts}
use Rattle.kp_names_numbered.proofs.numbering.lifted.Goals as goal

pub returns-clause-numbered : goal.returns-clause-numbered
returns-clause-numbered c =
    let d = domain_view c.args.ranges.now.names.domain in
    let p = problem_view c.args.ranges.now.names.problem in
    let then = c.schemas.new.ranges.names in
    let d-then : domain_view then.domain ≡ d = ap (λ n. domain_view n.domain) c.schemas.ensures.kept in
    let p-then : problem_view then.problem ≡ p = ap (λ n. problem_view n.problem) c.schemas.ensures.kept in
    let here = ap (λ e. map (numbered_schema d p) (domain_view e).schemas) c.domain-domain.ensures in
    let schemas = c.in_ok-schemas.ensures.schemas ∙ (ap (λ ts. map (numbered_schema d p) (map schema_tree_view ts)) c.slice.ensures ∙ here) in
    same_parts _ _ _ _ _ _ _ _ _ _
    (c.in_ok-declared.ensures.objects ∙ ap₂ objects d-then p-then)
    (c.in_ok-declared.ensures.predicates ∙ ap (λ e. map numbered_pred e.predicates) d-then)
    schemas
    (c.in_ok-stated.ensures.init ∙ ap₂ (λ e q. flat_map (numbered_item e q) q.init) d-then p-then)
    (c.in_ok-stated.ensures.goal ∙ ap₂ (λ e q. numbered_goal e q q.goal) d-then p-then)
