use Rattle.std.proofs.Common.{length, take}
use Rattle.std.specs.List.{list_any}
use Rattle.kp_relevance.specs.Tabled.{AddsMarks, marks_of}
use Rattle.kp_relevance.proofs.fill.mark_actions.Given as goal

abbrev pub invariant-loop-a : goal.invariant-loop-a
invariant-loop-a l = AddsMarks (length l.fn.rows) (λ j i. list_any (λ a. list_any (λ e. marks_of e j i) a.effects) (take l.a-index l.actions)) l.fn.rows l.rows
