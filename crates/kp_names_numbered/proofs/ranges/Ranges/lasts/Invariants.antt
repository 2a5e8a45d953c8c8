use Rattle.std.proofs.Common.{◌≡◌, take}
use Rattle.kp_tree_grammar.specs.View.{domain_view, problem_view}
use Rattle.kp_names_semantics.specs.Types.{names}
use Rattle.kp_names_numbered.specs.Alike.{HaveSame}
use Rattle.kp_names_numbered.proofs.ranges.Ranges.lasts.Given as goal

-- the types so far have the same objects
abbrev pub invariant-loop-word : goal.invariant-loop-word
invariant-loop-word l = record {
  kept : l.self.names ≡ l.fn.self.names;
  so_far : HaveSame (domain_view l.fn.self.names.domain) (problem_view l.fn.self.names.problem) l.tops (names (take l.word-index l.words));
}
