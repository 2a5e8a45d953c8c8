-- What the tables of names compute. Beside proofs it serves the contracts that cite `declaration_of`, `number_of`.
use Rattle.std.specs.Prelude.{◌≡◌, ◌≤◌, ℕ, suc, List, [], ◌∷◌, ◌++◌, Option, Some, None, if◌then◌else◌, find, is_some, length}
use Rattle.std.specs.Map.{lookup}
use Rattle.std.specs.Option.{option_map}
use Rattle.kp_tree_grammar.specs.declared.tree.Word.{Word}
use Rattle.kp_tree_grammar.specs.Trees.{Typed, Pred, Domain}
use Rattle.kp_tree_grammar.specs.View.{domain_view, problem_view}
use Rattle.kp_names_semantics.specs.Names.{Name, same, is_among}
use Rattle.kp_names_semantics.specs.Types.{names, object_lines, objects, types}
use Rattle.kp_names_semantics.specs.Numbering.{index_of, heads}
use Rattle.kp_names_declared.specs.declared.predicates.Declared.{Declared}
use Rattle.kp_names_declared.specs.Collected.{Trees}
use Rattle.kp_names_declared.specs.Steps.{lines_under}

-- where a name stands first, if it stands there
abbrev pub number_of : List Name → Name → Option ℕ
number_of xs x = if is_among xs x then Some (index_of xs x) else None

-- the names of a line of `:types`: the type and its parents
abbrev pub names_of_line : Typed Word → List Name
names_of_line x = x.word.text ∷ names x.kinds

-- what is kept of the declaration of a predicate
abbrev pub declared_as : ℕ → Pred Word → Declared
declared_as n q = record { number = n; arity = length q.params }

-- predicates, with what is kept of each
abbrev pub Entries : Type 0
Entries = List (Name × Declared)

-- the declarations of a list, numbered from a number on
abbrev pub entries_from : ℕ → List (Pred Word) → Entries
entries_from n [] = []
entries_from n (q ∷ qs) = (q.head.text, declared_as n q) ∷ entries_from (suc n) qs

-- what the first entry of a name has
abbrev pub entry_of : Entries → Name → Option Declared
entry_of es x = lookup (same x) es

-- the entries with one more, where its name is new
abbrev pub with_entry : Entries → Name × Declared → Entries
with_entry es e = if is_some (entry_of es e.0) then es else es ++ e ∷ []

-- the number and arity of the first declaration of a predicate's name
abbrev pub declaration_of : Domain Word → Name → Option Declared
declaration_of d x = option_map (declared_as (index_of (heads d) x)) (find (λ q. same q.head.text x) d.predicates)

-- what stands in the tables of two trees: the names of the types, the objects, the predicates, and what is declared under each type
pub record AreNamesOf (trees : Trees) (type_names object_names : List Name) (entries : Entries) (under_types under_objects : List (Name × Name)) : Type 0 where
  pub types_known : (name : Name) → is_among type_names name ≡ is_among (types (domain_view trees.domain)) name
  pub objects_known : object_names ≡ objects (domain_view trees.domain) (problem_view trees.problem)
  pub predicates_few : length trees.domain.predicates ≤ 4294967295
  pub predicates_known : (name : Name) → entry_of entries name ≡ declaration_of (domain_view trees.domain) name
  pub types_declared : under_types ≡ lines_under (domain_view trees.domain).kinds
  pub objects_declared : under_objects ≡ lines_under (object_lines (domain_view trees.domain) (problem_view trees.problem))
