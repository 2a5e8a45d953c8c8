-- The sections of a file as the grammar's trees have them. Beside proofs it serves the contracts of the functions that keep sections.
use Rattle.std.specs.Prelude.{◌∷◌, Bool, Option, Some, None, map}
use Rattle.kp_tree_grammar.specs.declared.tree.Word.{Word}
use Rattle.kp_tree_grammar.specs.declared.symbol.Symbol.{Symbol}
use Rattle.kp_tree_grammar.specs.declared.symbol.Symbol.TheVariants as symbols
use Rattle.kp_tree_grammar.specs.Trees.{Section, Given, Cond, no_cond}
use Rattle.kp_tree_grammar.specs.Symbols.{is_of_domain, is_init, is_goal}
use Rattle.kp_tree_grammar.specs.Sorts.{Seen}
use Rattle.kp_tree_arena.specs.declared.node.CondNode.{CondNode}
use Rattle.kp_tree_arena.specs.Nodes.{typed_view, pred_view, schema_view, item_view, cond_view}
use Rattle.kp_tree_files.specs.declared.domains.DomainPart.{DomainPart}
use Rattle.kp_tree_files.specs.declared.domains.DomainPart.TheVariants as sections
use Rattle.kp_tree_files.specs.declared.problems.Once.{Once}
use Rattle.kp_tree_files.specs.declared.problems.Once.TheVariants as onces
use Rattle.kp_tree_files.specs.declared.problems.ProblemPart.{ProblemPart}
use Rattle.kp_tree_files.specs.declared.problems.ProblemPart.TheVariants as parts

-- a section of a domain
abbrev pub section_view : DomainPart → Section Word
section_view sections.Requirements = Section.requires
section_view (sections.Types v) = Section.types (map typed_view v.items)
section_view (sections.Constants v) = Section.constants (map typed_view v.items)
section_view (sections.Predicates v) = Section.predicates (map pred_view v.items)
section_view (sections.Action s) = Section.action (schema_view s)

-- the keyword of a section that stands at most once
abbrev pub once_test : Once → Symbol → Bool
once_test onces.OfDomain = is_of_domain
once_test onces.Init = is_init
once_test onces.Goal = is_goal

-- a section of a problem
abbrev pub given_view : ProblemPart → Given Word
given_view parts.OfDomain = Given.of_domain
given_view parts.Requirements = Given.requires
given_view (parts.Objects v) = Given.objects (map typed_view v.items)
given_view (parts.Init v) = Given.init (map item_view v.items)
given_view (parts.Goal c) = Given.goal (cond_view c)

-- what has stood behind a section
abbrev pub seen_after : ProblemPart → Seen → Seen
seen_after parts.OfDomain seen = symbols.OfDomain ∷ seen
seen_after (parts.Init v) seen = symbols.Init ∷ seen
seen_after (parts.Goal c) seen = symbols.Goal ∷ seen
seen_after _ seen = seen

-- the goal that stood, if one did
abbrev pub goal_view : Option CondNode → Option (Cond Word)
goal_view (Some c) = Some (cond_view c)
goal_view None = None

-- the goal behind one more section
abbrev pub goal_after : Given Word → Option (Cond Word) → Option (Cond Word)
goal_after x (Some g) = Some g
goal_after (Given.goal g) None = Some g
goal_after _ None = None

-- that goal, or the one that always holds
abbrev pub goal_or_true : Option (Cond Word) → Cond Word
goal_or_true (Some g) = g
goal_or_true None = Cond.all no_cond
