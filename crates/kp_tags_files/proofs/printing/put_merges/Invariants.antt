use Rattle.std.proofs.Common.{drop, map}
use Rattle.kp_law_texts.proofs.Public.{LeavesToPut}
use Rattle.kp_tags_files.specs.Printed.{merge_line, with_tags}
use Rattle.kp_tags_files.proofs.printing.put_merges.Given as goal

-- with the merges that are left, they are all merges
abbrev pub invariant-loop-merge : goal.invariant-loop-merge
invariant-loop-merge l = LeavesToPut l.fn.out.items l.out.items (merge_line l.atoms) (map (with_tags l.rows) (drop l.merge-index l.merges)) (map (with_tags l.rows) l.merges)
