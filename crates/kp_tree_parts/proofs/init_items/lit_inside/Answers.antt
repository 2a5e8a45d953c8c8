use Rattle.std.proofs.Common.{refl, true}
use Rattle.std.proofs.lemmas.Result.{err_from_is_err_and}
use Rattle.kp_tree_parts.specs.Lexemes.{from}
use Rattle.kp_tree_arena.specs.Nodes.{atom_view}
use Rattle.kp_tree_parts.proofs.Cases.{lit_fact}
use Rattle.kp_tree_parts.proofs.Loops.{made, unmade}
use Rattle.kp_tree_parts.proofs.init_items.lit_inside.Goals as goal

pub returns-in_err-atom-in_default-symbol : goal.returns-in_err-atom-in_default-symbol
returns-in_err-atom-in_default-symbol c =
    let o = c.in_default-symbol in
    let p = err_from_is_err_and c.from_residual-in_err-atom-in_default-symbol.result c.from_residual-in_err-atom-in_default-symbol.ensures.1 in
    let head = lit_fact c.args.levels _ _ _ c.in-Some.ensures.found o.not-Not o.not-And o.not-Or o.not-OneOf o.not-Forall in
    record {
      reads = rw (p.1, p.2) (unmade (λ a. record { positive = true; atom = a }) _ _ head c.args.tokens.now c.in_err-atom-in_default-symbol.field-0.0 c.in_err-atom-in_default-symbol.ensures.reads);
      onward = rw p.1 tt;
    }

pub returns-in_ok-atom-in_default-symbol : goal.returns-in_ok-atom-in_default-symbol
returns-in_ok-atom-in_default-symbol c =
    let o = c.in_default-symbol in
    let head = lit_fact c.args.levels _ _ _ c.in-Some.ensures.found o.not-Not o.not-And o.not-Or o.not-OneOf o.not-Forall in
    record {
      reads = made (λ a. record { positive = true; atom = a }) _ _ head (atom_view c.in_ok-atom-in_default-symbol.atom) _ (from c.args.tokens.now c.in_ok-atom-in_default-symbol.at) refl c.in_ok-atom-in_default-symbol.ensures.reads;
      onward = c.in_ok-atom-in_default-symbol.ensures.onward;
    }
