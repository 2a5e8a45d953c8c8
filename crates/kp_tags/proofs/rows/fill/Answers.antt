use Rattle.std.proofs.Common.{Vec, Global, arith}
use Rattle.kp_base.specs.declared.lit.Lit.{Lit}
use Rattle.kp_base.proofs.AtomKeys.{got}
use Rattle.kp_primes.specs.Held.{formula}
use Rattle.kp_tags.proofs.Closed.{key_is_tag, next_row}
use Rattle.kp_tags.proofs.rows.fill.Goals as goal

pub row-requires-clause-ascending : goal.row-requires-clause-ascending
row-requires-clause-ascending c =
    rw c.as_slice.ensures.value
    (c.slice-tag-items.ensures.sets.each c.tag-item.result.items
    (key_is_tag (λ (k : Vec Lit Global). k.items) c.slice-tag-items.result.now c.args.tags.now c.loop-tag.tag-index c.tag-item.result c.slice-tag-items.ensures.value (got c.slice-tag-items.result.now c.loop-tag.tag-index c.tag-item.result (omega arith) c.tag-item.is)))

pub row-requires-clause-consistent : goal.row-requires-clause-consistent
row-requires-clause-consistent c =
    rw c.as_slice.ensures.value
    (c.requires.consistent.each c.tag-item.result.items
    (key_is_tag (λ (k : Vec Lit Global). k.items) c.slice-tag-items.result.now c.args.tags.now c.loop-tag.tag-index c.tag-item.result c.slice-tag-items.ensures.value (got c.slice-tag-items.result.now c.loop-tag.tag-index c.tag-item.result (omega arith) c.tag-item.is)))

-- one row more
pub loop-tag-preserved : goal.loop-tag-preserved
loop-tag-preserved c =
    next_row (λ (k : Vec Lit Global). k.items) c.args.primes.now.atoms (formula c.args.primes.now) c.slice-tag-items.result.now c.loop-tag.tag-index c.tag-item.result c.loop-tag.rows c.push.new.self c.in_ok-row.field-0 (got c.slice-tag-items.result.now c.loop-tag.tag-index c.tag-item.result (omega arith) c.tag-item.is) c.in_ok-push.ensures.ok c.loop-tag.invariant
    (rw c.as_slice.ensures.value at c.in_ok-row.ensures)
