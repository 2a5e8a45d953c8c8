use Rattle.std.proofs.Common.{◌∙◌, [], ◌∷◌, sym}
use Rattle.kp_tree_grammar.specs.View.{domain_view, problem_view}
use Rattle.kp_names_semantics.specs.Types.{is_of_type}
use Rattle.kp_names_numbered.proofs.SameRanges.{same_range, same_one, empty_range}
use Rattle.kp_names_numbered.proofs.ranges.Ranges.of_type.Goals as goal

-- no object is below it
pub returns-then-not-has-clause-row : goal.returns-then-not-has-clause-row
returns-then-not-has-clause-row c =
    let self = c.args.self.now in
    c.new.ensures ∙ sym (empty_range (domain_view self.names.domain) (problem_view self.names.problem) self.inhabited self.inhabited_right c.args.name.now (sym c.has.ensures ∙ c.if-not-has.true))

-- the last type on the way down has the same objects
pub returns-clause-row : goal.returns-clause-row
returns-clause-row c =
    let self = c.args.self.now in
    let d = domain_view self.names.domain in
    let p = problem_view self.names.problem in
    let name = c.args.name.now in
    let last = c.in_ok-last.last.now in
    c.in_ok-row.ensures.row ∙ sym (same_range d p (name ∷ []) (last ∷ []) (same_one d p name last (λ o. c.in_ok-last.ensures.alike (is_of_type d p o) (self.alike_right o))))
