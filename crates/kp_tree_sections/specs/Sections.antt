-- What the functions for a domain's sections give. Beside proofs it serves the contracts that cite `GivesSections`.
use Rattle.std.specs.Prelude.{◌≡◌, ℕ, List, Result, Ok, Err}
use Rattle.kp_tree_grammar.specs.declared.tree.Word.{Word}
use Rattle.kp_tree_grammar.specs.Language.{Section, Domain, Tok, is_left, is_define, is_domain, apply, m_domain, many, make, choose, ◌▸◌, ◌▹◌, section, section_case, title, domain, Outcome, read}
use Rattle.kp_tree_cursor.specs.declared.halt.Halt.{Halt}
use Rattle.kp_tree_arena.specs.declared.node.DomainNode.{DomainNode}
use Rattle.kp_tree_parts.specs.Lexemes.{from}
use Rattle.kp_tree_arena.specs.Nodes.{domain_view}
use Rattle.kp_tree_parts.specs.Readers.{Reader, Fails}

-- ---- domains

unfoldable pub section_inside_at : ℕ → Reader (Section Word)
section_inside_at d = read d (choose section_case)

unfoldable pub section_at : ℕ → Reader (Section Word)
section_at d = read d section

unfoldable pub sections_at : ℕ → Reader (List (Section Word))
sections_at d = read d (many is_left section)

-- the domain is made of the sections that reading gives
pub record Joins (ls : List (Tok Word)) (d : DomainNode) (n : ℕ) (reading : Outcome Word (List (Section Word))) : Type 0 where
  pub sections : List (Section Word)
  pub reads : reading ≡ Ok (sections, from ls n)
  pub joined : domain_view d ≡ apply Word m_domain (tt, sections)

abbrev pub GivesSections : List (Tok Word) → Result (DomainNode × ℕ) Halt → Outcome Word (List (Section Word)) → Type 0
GivesSections ls (Ok x) reading = Joins ls x.0 x.1 reading
GivesSections ls (Err e) reading = Fails ls e reading

unfoldable pub domain_inside_at : ℕ → Reader (Domain Word)
domain_inside_at d = read d (is_define ▸ make m_domain (title is_domain ▹ many is_left section))

unfoldable pub domain_at : ℕ → Reader (Domain Word)
domain_at d = read d domain
