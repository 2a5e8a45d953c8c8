use Rattle.std.proofs.Common.{◌≡◌, drop, map}
use Rattle.kp_tree_grammar.specs.View.{typed_view}
use Rattle.kp_names_semantics.specs.Faults.{repeated, twice_in, words}
use Rattle.kp_names.specs.Noted.{noted}
use Rattle.kp_names.proofs.declarations.note_twice.Given as goal

-- with those that are left come all
abbrev pub invariant-loop-line : goal.invariant-loop-line
invariant-loop-line l = noted l.first (repeated l.seen (words (map typed_view (drop l.line-index l.lines)))) ≡ noted l.fn.first (twice_in (words (map typed_view l.lines)))
