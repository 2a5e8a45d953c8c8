use Rattle.std.proofs.Common.{length, take}
use Rattle.std.specs.List.{list_any}
use Rattle.kp_relevance.specs.Tabled.{AddsMarks, marks_of}
use Rattle.kp_relevance.proofs.fill.mark_effects.Given as goal

abbrev pub invariant-loop-e : goal.invariant-loop-e
invariant-loop-e l = AddsMarks (length l.fn.rows) (λ j i. list_any (λ e. marks_of e j i) (take l.e-index l.effects)) l.fn.rows l.rows
