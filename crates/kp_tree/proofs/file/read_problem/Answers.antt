use Rattle.std.proofs.lemmas.Result.{err_from_is_err_and}
use Rattle.kp_base.specs.declared.refused.Part.TheVariants as parts
use Rattle.kp_tree_grammar.specs.Grammar.{problem}
use Rattle.kp_tree_grammar.specs.View.{problem_view}
use Rattle.kp_tree_arena.specs.Nodes as nodes
use Rattle.kp_tree.proofs.WholeFiles.{uncut}
use Rattle.kp_tree.proofs.Begun.{file_refused, file_read}
use Rattle.kp_tree.proofs.file.read_problem.Goals as goal

-- no token begins at a byte
pub returns-in_err-tokens : goal.returns-in_err-tokens
returns-in_err-tokens c =
    let p = err_from_is_err_and c.from_residual.result c.from_residual.ensures.1 in
    rw (p.1, p.2) (uncut parts.Problem problem c.args.bytes.now c.requires problem_view c.in_err-tokens.field-0.0 c.in_err-tokens.ensures)

-- a token is refused
pub returns-in_err-node : goal.returns-in_err-node
returns-in_err-node c =
    let p = err_from_is_err_and c.from_residual-in_err-node.result c.from_residual-in_err-node.ensures.1 in
    rw (p.1, p.2) (file_refused parts.Problem problem c.args.bytes.now c.requires c.in_ok-tokens.field-0 c.levels.result c.levels.ensures c.in_ok-tokens.ensures c.beginning.result.now c.beginning.ensures nodes.problem_view problem_view c.in_err-node.field-0.0 c.in_err-node.ensures.answer c.in_err-node.ensures.within)

-- the copy is the tree that was parsed
pub returns : goal.returns
returns c = file_read parts.Problem problem c.args.bytes.now c.requires c.in_ok-tokens.field-0 c.levels.result c.levels.ensures c.in_ok-tokens.ensures c.beginning.result.now c.beginning.ensures _ _ c.in_ok-node.ensures.answer c.in_ok-copy_problem.ensures
