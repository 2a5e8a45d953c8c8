use Rattle.std.proofs.Common.{◌≡◌, ◌++◌, ◌∷◌, [], sym, ◌∙◌, map, arith}
use Rattle.std.proofs.lemmas.Result.{err_from_is_err_and}
use Rattle.std.proofs.lemmas.List.{map_push}
use Rattle.kp_tree_grammar.specs.Symbols.{is_left}
use Rattle.kp_tree_grammar.specs.Forms.{within}
use Rattle.kp_tree_parts.specs.Readers.{named_of, cond_at, conds_at}
use Rattle.kp_tree_arena.specs.Nodes.{cond_view}
use Rattle.kp_tree_parts.proofs.Loops.{goes_on, ends, is_done}
use Rattle.kp_tree_parts.proofs.conds.+cond.Goals as goal

pub conds-returns-in_err-part-clause-reads : goal.conds-returns-in_err-part-clause-reads
unfolding cond_at conds_at
conds-returns-in_err-part-clause-reads t c =
    let p = err_from_is_err_and c.from_residual-in_err-part.result c.from_residual-in_err-part.ensures.1 in
    rw (p.1, p.2) (ends c.args.levels is_left (within (named_of c.args.role)) _ c.in_err-part.field-0.0 _ _ _ (sym c.is_left.ensures.test ∙ c.more-test.true) c.in_err-part.ensures.reads c.more.invariant.so_far)

pub conds-more-preserved : goal.conds-more-preserved
unfolding cond_at conds_at
conds-more-preserved t c =
    let e : map cond_view c.add.new.parts.items ≡ map cond_view c.more.parts.items ++ cond_view c.in_ok-part.part ∷ [] = rw c.in_ok-add.ensures (map_push _ c.more.parts.items c.in_ok-part.part) in
    record {
      onward = omega (arith, c.in_ok-part.ensures.onward.0);
      in_range = omega (arith, c.in_ok-part.ensures.onward.1);
      so_far = rw e (goes_on c.args.levels is_left (within (named_of c.args.role)) _ _ _ _ _ (sym c.is_left.ensures.test ∙ c.more-test.true) c.in_ok-part.ensures.reads c.more.invariant.so_far);
    }

pub conds-returns-clause-reads : goal.conds-returns-clause-reads
unfolding cond_at conds_at
conds-returns-clause-reads t c = rw c.into_bump_slice.ensures (is_done c.args.levels is_left (within (named_of c.args.role)) _ _ _ (sym c.is_left.ensures.test ∙ c.more-test.false) c.more.invariant.so_far)
