use Rattle.std.proofs.Common.{◌∙◌, ℕ, List, ap}
use Rattle.kp_tree_grammar.specs.View.{domain_view, problem_view}
use Rattle.kp_names_semantics.specs.declared.lifted.Range.{Range}
use Rattle.kp_names_semantics.specs.Types.{names, or_object}
use Rattle.kp_names_declared.specs.Steps.{range_of}
use Rattle.kp_names_numbered.proofs.ranges.Ranges.of_variable.Goals as goal

pub returns-clause-range : goal.returns-clause-range
returns-clause-range c =
    let d = domain_view c.args.self.now.names.domain in
    let p = problem_view c.args.self.now.names.problem in
    let range = λ (os : List ℕ). let r : Range = record { objects = os } in r in
    ap range (c.in_ok-objects.ensures.row ∙ ap (λ ks. range_of d p (or_object (names ks))) c.slice.ensures)
