use Rattle.std.proofs.Common.{refl, sym, ◌∙◌, arith}
use Rattle.std.proofs.lemmas.Result.{err_from_is_err_and}
use Rattle.kp_tree_grammar.specs.Symbols.{is_left}
use Rattle.kp_tree_grammar.specs.Grammar.{section}
use Rattle.kp_tree_sections.specs.Sections.{section_at, sections_at}
use Rattle.kp_tree_parts.proofs.Public.{loop_goes_on, loop_ends, loop_is_done}
use Rattle.kp_tree_sections.proofs.Joining.{section_more}
use Rattle.kp_tree_sections.proofs.domains.sections.Goals as goal

pub returns-in_err-part-clause-reads : goal.returns-in_err-part-clause-reads
unfolding section_at sections_at
returns-in_err-part-clause-reads c =
    let p = err_from_is_err_and c.from_residual-in_err-part.result c.from_residual-in_err-part.ensures.1 in
    let k = c.more.invariant.kept in
    rw (p.1, p.2) (loop_ends c.args.levels is_left section _ c.in_err-part.field-0.0 k.front _ _ (sym c.is_left.ensures.test ∙ c.more-test.true) c.in_err-part.ensures.reads k.so_far)

pub more-preserved : goal.more-preserved
unfolding section_at sections_at
more-preserved c =
    let k = c.more.invariant.kept in
    let e = c.in_ok-keep_section.ensures in
    record {
      onward = omega (arith, c.in_ok-part.ensures.onward.0);
      in_range = omega (arith, c.in_ok-part.ensures.onward.1);
      kept = section_more _ _ _ _ _ _ k (loop_goes_on c.args.levels is_left section k.front _ _ _ _ (sym c.is_left.ensures.test ∙ c.more-test.true) c.in_ok-part.ensures.reads k.so_far) e.kinds e.constants e.predicates e.schemas;
    }

pub returns-clause-reads : goal.returns-clause-reads
unfolding sections_at
returns-clause-reads c =
    let k = c.more.invariant.kept in
    let e = c.as_domain.ensures in
    record {
      sections = k.front;
      reads = loop_is_done c.args.levels is_left section k.front _ _ (sym c.is_left.ensures.test ∙ c.more-test.false) k.so_far;
      joined = rw (e.kinds, e.constants, e.predicates, e.schemas, k.kinds_are, k.constants_are, k.predicates_are, k.schemas_are) refl;
    }
