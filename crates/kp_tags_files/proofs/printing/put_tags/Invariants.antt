use Rattle.std.proofs.Common.{drop, map}
use Rattle.kp_law_texts.specs.Pieces.{spaced}
use Rattle.kp_law_texts.proofs.Public.{LeavesToPut}
use Rattle.kp_tags_files.specs.Printed.{tag_put, tag_of}
use Rattle.kp_tags_files.proofs.printing.put_tags.Given as goal

-- with the tags that are left, they are all tags
abbrev pub invariant-loop-number : goal.invariant-loop-number
invariant-loop-number l = LeavesToPut l.fn.out.items l.out.items (spaced (tag_put l.atoms)) (map (tag_of l.rows) (drop l.number-index l.numbers)) (map (tag_of l.rows) l.numbers)
