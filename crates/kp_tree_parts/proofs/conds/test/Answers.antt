use Rattle.std.proofs.lemmas.Result.{err_from_is_err_and}
use Rattle.kp_tree_grammar.specs.Trees.{Cond}
use Rattle.kp_tree_parts.specs.Lexemes.{from}
use Rattle.kp_tree_arena.specs.Nodes.{atom_view}
use Rattle.kp_tree_parts.proofs.Cases.{test_head}
use Rattle.kp_tree_parts.proofs.Views.{cond_atom}
use Rattle.kp_tree_parts.proofs.Loops.{made, unmade}
use Rattle.kp_tree_parts.proofs.conds.test.Goals as goal

pub returns-in_err-atom-in_default-symbol : goal.returns-in_err-atom-in_default-symbol
returns-in_err-atom-in_default-symbol c =
    let o = c.in_default-symbol in
    let p = err_from_is_err_and c.from_residual.result c.from_residual.ensures.1 in
    let head = test_head c.args.levels _ _ _ c.in-Some.ensures.found c.args.role c.args.positive o.not-Equal o.not-Or o.not-Imply o.not-Exists o.not-Forall o.not-Preference in
    record {
      reads = rw (p.1, p.2) (unmade (Cond.atom c.args.positive) _ _ head c.args.tokens.now c.in_err-atom-in_default-symbol.field-0.0 (rw c.terms_class.ensures at c.in_err-atom-in_default-symbol.ensures.reads));
      onward = rw p.1 tt;
    }

pub returns-in_ok-atom-in_default-symbol : goal.returns-in_ok-atom-in_default-symbol
returns-in_ok-atom-in_default-symbol c =
    let o = c.in_default-symbol in
    let head = test_head c.args.levels _ _ _ c.in-Some.ensures.found c.args.role c.args.positive o.not-Equal o.not-Or o.not-Imply o.not-Exists o.not-Forall o.not-Preference in
    record {
      reads = made (Cond.atom c.args.positive) _ _ head (atom_view c.in_ok-atom-in_default-symbol.atom) _ (from c.args.tokens.now c.in_ok-atom-in_default-symbol.at) (cond_atom c.args.positive c.in_ok-atom-in_default-symbol.atom) (rw c.terms_class.ensures at c.in_ok-atom-in_default-symbol.ensures.reads);
      onward = c.in_ok-atom-in_default-symbol.ensures.onward;
    }
