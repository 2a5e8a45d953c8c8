use Rattle.std.proofs.Common.{◌≡◌, ◌∙◌, ◌+◌, length, sym, subst, arith}
use Rattle.std.specs.Vec.{with_items}
use Rattle.std.proofs.lemmas.List.{with_items_is}
use Rattle.kp_cover_subsets.specs.Counted.{IsPascal, IsNext}
use Rattle.kp_cover_subsets.proofs.Counting.{pascal_next}
use Rattle.kp_cover_subsets.proofs.count.count_sets.Goals as goal

pub loop-preserved : goal.loop-preserved
loop-preserved c =
    let new = c.next_row.new.row in
    let next : IsNext c.loop.row.items new = subst (λ xs. IsNext xs new) c.deref_mut.ensures.value c.next_row.ensures in
    let written : (with_items c.loop.row new).items ≡ new = with_items_is c.loop.row new (omega (arith, next.long, c.loop.row.ok.0)) in
    subst (λ xs. record { long : length xs ≡ c.args.k + 1; pascal : IsPascal (c.loop.counter + 1) xs }) (sym written)
    (record { long = next.long ∙ c.loop.invariant.long; pascal = pascal_next c.loop.counter c.loop.row.items new c.loop.invariant.pascal next })
