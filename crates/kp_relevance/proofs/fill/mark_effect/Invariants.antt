use Rattle.std.proofs.Common.{length, take}
use Rattle.std.specs.List.{list_any}
use Rattle.kp_relevance.specs.Tabled.{AddsMarks, at_pair}
use Rattle.kp_relevance.proofs.fill.mark_effect.Given as goal

abbrev pub invariant-loop-l : goal.invariant-loop-l
invariant-loop-l l = AddsMarks (length l.fn.rows) (λ j i. list_any (λ x. at_pair x l.e.result j i) (take l.l-index l.cond)) l.fn.rows l.rows
