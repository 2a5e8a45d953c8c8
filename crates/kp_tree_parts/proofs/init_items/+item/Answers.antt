use Rattle.std.proofs.Common.{true, ◌≡◌, ◌++◌, ◌∷◌, [], sym, ◌∙◌, map, arith}
use Rattle.std.proofs.lemmas.Result.{err_from_is_err_and}
use Rattle.std.proofs.lemmas.List.{map_push}
use Rattle.kp_tree_grammar.specs.Symbols.{is_left}
use Rattle.kp_tree_grammar.specs.Forms.{within, n_item}
use Rattle.kp_tree_arena.specs.Nodes.{item_view, atom_view}
use Rattle.kp_tree_parts.specs.Lexemes.{from}
use Rattle.kp_tree_parts.specs.Readers.{item_at, items_at}
use Rattle.kp_tree_grammar.specs.Trees.{Item}
use Rattle.kp_tree_parts.proofs.Cases.{item_fact}
use Rattle.kp_tree_parts.proofs.Views.{item_lit}
use Rattle.kp_tree_parts.proofs.Loops.{goes_on, ends, is_done, made, unmade}
use Rattle.kp_tree_parts.proofs.init_items.+item.Goals as goal

pub items-returns-in_err-part-clause-reads : goal.items-returns-in_err-part-clause-reads
unfolding item_at items_at
items-returns-in_err-part-clause-reads t c =
    let p = err_from_is_err_and c.from_residual-in_err-part.result c.from_residual-in_err-part.ensures.1 in
    rw (p.1, p.2) (ends c.args.levels is_left (within n_item) _ c.in_err-part.field-0.0 _ _ _ (sym c.is_left.ensures.test ∙ c.more-test.true) c.in_err-part.ensures.reads c.more.invariant.so_far)

pub items-more-preserved : goal.items-more-preserved
unfolding item_at items_at
items-more-preserved t c =
    let e : map item_view c.add.new.parts.items ≡ map item_view c.more.parts.items ++ item_view c.in_ok-part.part ∷ [] = rw c.in_ok-add.ensures (map_push _ c.more.parts.items c.in_ok-part.part) in
    record {
      onward = omega (arith, c.in_ok-part.ensures.onward.0);
      in_range = omega (arith, c.in_ok-part.ensures.onward.1);
      so_far = rw e (goes_on c.args.levels is_left (within n_item) _ _ _ _ _ (sym c.is_left.ensures.test ∙ c.more-test.true) c.in_ok-part.ensures.reads c.more.invariant.so_far);
    }

pub items-returns-clause-reads : goal.items-returns-clause-reads
unfolding item_at items_at
items-returns-clause-reads t c = is_done c.args.levels is_left (within n_item) _ _ _ (sym c.is_left.ensures.test ∙ c.more-test.false) c.more.invariant.so_far

pub inside-returns-in_err-atom-in_default-symbol : goal.inside-returns-in_err-atom-in_default-symbol
inside-returns-in_err-atom-in_default-symbol t c =
    let o = c.in_default-symbol in
    let p = err_from_is_err_and c.from_residual-in_err-atom-in_default-symbol.result c.from_residual-in_err-atom-in_default-symbol.ensures.1 in
    let head = item_fact c.args.levels _ _ _ c.in-Some.ensures.found o.not-And o.not-Not o.not-OneOf o.not-Or o.not-Unknown o.not-Forall o.not-Equal in
    record {
      reads = rw (p.1, p.2) (unmade (Item.fact true) _ _ head c.args.tokens.now c.in_err-atom-in_default-symbol.field-0.0 c.in_err-atom-in_default-symbol.ensures.reads);
      onward = rw p.1 tt;
    }

pub inside-returns-in_ok-atom-in_default-symbol : goal.inside-returns-in_ok-atom-in_default-symbol
inside-returns-in_ok-atom-in_default-symbol t c =
    let o = c.in_default-symbol in
    let head = item_fact c.args.levels _ _ _ c.in-Some.ensures.found o.not-And o.not-Not o.not-OneOf o.not-Or o.not-Unknown o.not-Forall o.not-Equal in
    record {
      reads = made (Item.fact true) _ _ head (atom_view c.in_ok-atom-in_default-symbol.atom) _ (from c.args.tokens.now c.in_ok-atom-in_default-symbol.at) (item_lit true c.in_ok-atom-in_default-symbol.atom) c.in_ok-atom-in_default-symbol.ensures.reads;
      onward = c.in_ok-atom-in_default-symbol.ensures.onward;
    }
