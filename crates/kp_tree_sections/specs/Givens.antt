-- What the functions for a problem's sections give. Beside proofs it serves the contracts that cite `GivesGivens`.
use Rattle.std.specs.Prelude.{◌≡◌, ℕ, List, [], Result, Ok, Err}
use Rattle.kp_tree_grammar.specs.declared.tree.Word.{Word}
use Rattle.kp_tree_grammar.specs.Language.{Given, Problem, Tok, is_left, is_define, is_problem, is_goal, Seen, apply, m_problem, run, make, choose, ◌▸◌, ◌▹◌, title, given, given_case, has_stood, problem, Outcome, read}
use Rattle.kp_tree_cursor.specs.declared.halt.Halt.{Halt}
use Rattle.kp_tree_arena.specs.declared.node.ProblemNode.{ProblemNode}
use Rattle.kp_tree_parts.specs.Lexemes.{from}
use Rattle.kp_tree_arena.specs.Nodes.{problem_view}
use Rattle.kp_tree_parts.specs.Readers.{Reader, Fails}

unfoldable pub given_inside_at : Seen → ℕ → Reader (Seen × Given Word)
given_inside_at seen d = read d (choose (given_case seen))

unfoldable pub given_at : Seen → ℕ → Reader (Seen × Given Word)
given_at seen d = read d (given seen)

unfoldable pub givens_at : ℕ → Reader (List (Given Word))
givens_at d = read d (run is_left given (has_stood is_goal) [])

-- the problem is made of the sections that reading gives
pub record Makes (ls : List (Tok Word)) (p : ProblemNode) (n : ℕ) (reading : Outcome Word (List (Given Word))) : Type 0 where
  pub sections : List (Given Word)
  pub reads : reading ≡ Ok (sections, from ls n)
  pub made : problem_view p ≡ apply Word m_problem (tt, sections)

abbrev pub GivesGivens : List (Tok Word) → Result (ProblemNode × ℕ) Halt → Outcome Word (List (Given Word)) → Type 0
GivesGivens ls (Ok x) reading = Makes ls x.0 x.1 reading
GivesGivens ls (Err e) reading = Fails ls e reading

unfoldable pub problem_inside_at : ℕ → Reader (Problem Word)
problem_inside_at d = read d (is_define ▸ make m_problem (title is_problem ▹ run is_left given (has_stood is_goal) []))

unfoldable pub problem_at : ℕ → Reader (Problem Word)
problem_at d = read d problem
