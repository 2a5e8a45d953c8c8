use Rattle.std.proofs.Common.{◌∙◌, ◌++◌, [], ◌∷◌, sym, subst}
use Rattle.kp_tree_grammar.specs.View.{domain_view, problem_view}
use Rattle.kp_names_semantics.specs.Types.{is_of_type}
use Rattle.kp_names_numbered.specs.Alike.{HaveSame}
use Rattle.kp_names_numbered.proofs.SameRanges.{one_more, none_more, none_of_it}
use Rattle.kp_names_numbered.proofs.ranges.Ranges.add_last.Goals as goal

-- the last type on the way down has the same objects
pub returns-in_ok-insert-clause-tops : goal.returns-in_ok-insert-clause-tops
returns-in_ok-insert-clause-tops c ts h =
    let self = c.args.self.now in
    let d = domain_view self.names.domain in
    let p = problem_view self.names.problem in
    subst (λ tops. HaveSame d p tops (ts ++ c.args.name.now ∷ [])) (sym c.in_ok-insert.ensures.names)
    (one_more d p c.args.tops.now ts c.args.name.now c.in_ok-last.last.now (λ o. c.in_ok-last.ensures.alike (is_of_type d p o) (self.alike_right o)) h)

-- no object is below it
pub returns-else-has-clause-tops : goal.returns-else-has-clause-tops
returns-else-has-clause-tops c ts h =
    let self = c.args.self.now in
    let d = domain_view self.names.domain in
    let p = problem_view self.names.problem in
    none_more d p c.args.tops.now ts c.args.name.now (none_of_it d p self.inhabited self.inhabited_right c.args.name.now (sym c.has.ensures ∙ c.if-has.false)) h
