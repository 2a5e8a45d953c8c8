use Rattle.std.proofs.Common.{true, ◌≡◌, ◌++◌, ◌∷◌, [], sym, ◌∙◌, map, arith}
use Rattle.std.proofs.lemmas.Result.{err_from_is_err_and}
use Rattle.std.proofs.lemmas.List.{map_push}
use Rattle.kp_tree_grammar.specs.Symbols.{is_left}
use Rattle.kp_tree_grammar.specs.Forms.{within, n_eff}
use Rattle.kp_tree_arena.specs.Nodes.{eff_view, atom_view}
use Rattle.kp_tree_parts.specs.Lexemes.{from}
use Rattle.kp_tree_parts.specs.Readers.{eff_at, effs_at}
use Rattle.kp_tree_grammar.specs.Trees.{Eff}
use Rattle.kp_tree_parts.proofs.Cases.{eff_makes, eff_each}
use Rattle.kp_tree_parts.proofs.Views.{eff_atom}
use Rattle.kp_tree_parts.proofs.Loops.{goes_on, ends, is_done, made, unmade}
use Rattle.kp_tree_parts.proofs.effects.+eff.Goals as goal

pub effs-returns-in_err-part-clause-reads : goal.effs-returns-in_err-part-clause-reads
unfolding eff_at effs_at
effs-returns-in_err-part-clause-reads t c =
    let p = err_from_is_err_and c.from_residual-in_err-part.result c.from_residual-in_err-part.ensures.1 in
    rw (p.1, p.2) (ends c.args.levels is_left (within n_eff) _ c.in_err-part.field-0.0 _ _ _ (sym c.is_left.ensures.test ∙ c.more-test.true) c.in_err-part.ensures.reads c.more.invariant.so_far)

pub effs-more-preserved : goal.effs-more-preserved
unfolding eff_at effs_at
effs-more-preserved t c =
    let e : map eff_view c.add.new.parts.items ≡ map eff_view c.more.parts.items ++ eff_view c.in_ok-part.part ∷ [] = rw c.in_ok-add.ensures (map_push _ c.more.parts.items c.in_ok-part.part) in
    record {
      onward = omega (arith, c.in_ok-part.ensures.onward.0);
      in_range = omega (arith, c.in_ok-part.ensures.onward.1);
      so_far = rw e (goes_on c.args.levels is_left (within n_eff) _ _ _ _ _ (sym c.is_left.ensures.test ∙ c.more-test.true) c.in_ok-part.ensures.reads c.more.invariant.so_far);
    }

pub effs-returns-clause-reads : goal.effs-returns-clause-reads
unfolding eff_at effs_at
effs-returns-clause-reads t c = rw c.into_bump_slice.ensures (is_done c.args.levels is_left (within n_eff) _ _ _ (sym c.is_left.ensures.test ∙ c.more-test.false) c.more.invariant.so_far)

pub inside-returns-in_err-atom-in_default-symbol : goal.inside-returns-in_err-atom-in_default-symbol
inside-returns-in_err-atom-in_default-symbol t c =
    let o = c.in_default-symbol in
    let p = err_from_is_err_and c.from_residual-in_err-atom-in_default-symbol.result c.from_residual-in_err-atom-in_default-symbol.ensures.1 in
    let head = eff_makes c.args.levels _ _ _ c.in-Some.ensures.found o.not-Right o.not-And o.not-When o.not-Forall o.not-Not o.not-OneOf o.not-Or o.not-Probabilistic o.not-Increase o.not-Decrease o.not-Assign o.not-ScaleUp o.not-ScaleDown in
    record {
      reads = rw (p.1, p.2) (unmade (Eff.makes true) _ _ head c.args.tokens.now c.in_err-atom-in_default-symbol.field-0.0 c.in_err-atom-in_default-symbol.ensures.reads);
      onward = rw p.1 tt;
    }

pub inside-returns-in_ok-atom-in_default-symbol : goal.inside-returns-in_ok-atom-in_default-symbol
inside-returns-in_ok-atom-in_default-symbol t c =
    let o = c.in_default-symbol in
    let head = eff_makes c.args.levels _ _ _ c.in-Some.ensures.found o.not-Right o.not-And o.not-When o.not-Forall o.not-Not o.not-OneOf o.not-Or o.not-Probabilistic o.not-Increase o.not-Decrease o.not-Assign o.not-ScaleUp o.not-ScaleDown in
    record {
      reads = made (Eff.makes true) _ _ head (atom_view c.in_ok-atom-in_default-symbol.atom) _ (from c.args.tokens.now c.in_ok-atom-in_default-symbol.at) (eff_atom true c.in_ok-atom-in_default-symbol.atom) c.in_ok-atom-in_default-symbol.ensures.reads;
      onward = (omega (arith, c.in_ok-atom-in_default-symbol.ensures.onward.0), c.in_ok-atom-in_default-symbol.ensures.onward.1);
    }

pub inside-returns-in-Forall-clause-reads : goal.inside-returns-in-Forall-clause-reads
inside-returns-in-Forall-clause-reads t c = rw (eff_each c.args.levels _ _ _ c.in-Some.ensures.found c.in-Forall.is) c.each.ensures.reads
