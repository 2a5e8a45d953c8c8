use Rattle.std.proofs.Common.{◌≡◌, ◌++◌, ◌∷◌, [], sym, ◌∙◌, map, arith}
use Rattle.std.proofs.lemmas.Result.{err_from_is_err_and}
use Rattle.std.proofs.lemmas.List.{map_push}
use Rattle.kp_tree_grammar.specs.Symbols.{is_left}
use Rattle.kp_tree_grammar.specs.Grammar.{pred}
use Rattle.kp_tree_arena.specs.Nodes.{pred_view}
use Rattle.kp_tree_parts.specs.Readers.{pred_at, preds_at}
use Rattle.kp_tree_parts.proofs.Public.{loop_goes_on, loop_ends, loop_is_done}
use Rattle.kp_tree_sections.proofs.sections.preds.Goals as goal

pub returns-in_err-part-clause-reads : goal.returns-in_err-part-clause-reads
unfolding pred_at preds_at
returns-in_err-part-clause-reads c =
    let p = err_from_is_err_and c.from_residual.result c.from_residual.ensures.1 in
    rw (p.1, p.2) (loop_ends c.args.levels is_left pred _ c.in_err-part.field-0.0 _ _ _ (sym c.is_left.ensures.test ∙ c.more-test.true) c.in_err-part.ensures.reads c.more.invariant.so_far)

pub more-preserved : goal.more-preserved
unfolding pred_at preds_at
more-preserved c =
    let e : map pred_view c.add.new.parts.items ≡ map pred_view c.more.parts.items ++ pred_view c.in_ok-part.part ∷ [] = rw c.in_ok-add.ensures (map_push _ c.more.parts.items c.in_ok-part.part) in
    record {
      onward = omega (arith, c.in_ok-part.ensures.onward.0);
      in_range = omega (arith, c.in_ok-part.ensures.onward.1);
      so_far = rw e (loop_goes_on c.args.levels is_left pred _ _ _ _ _ (sym c.is_left.ensures.test ∙ c.more-test.true) c.in_ok-part.ensures.reads c.more.invariant.so_far);
    }

pub returns-clause-reads : goal.returns-clause-reads
unfolding pred_at preds_at
returns-clause-reads c = loop_is_done c.args.levels is_left pred _ _ _ (sym c.is_left.ensures.test ∙ c.more-test.false) c.more.invariant.so_far
