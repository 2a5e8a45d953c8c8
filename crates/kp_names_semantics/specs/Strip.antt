-- What a plan of the written files comes to in the given ones. The actions of the written files are called operators: there is one for each action of the given files, and one for each merge.
use Rattle.std.specs.Prelude.{◌≡◌, ℕ, Bool, false, ◌&&◌, not, ◌==◌, nat_eq, nat_le, List, [], ◌∷◌, ◌++◌, if◌then◌else◌, Option, Some, None, option_map, option_and_then, unwrap_or, codes, drop, length}
use Rattle.std.specs.List.{list_all, starts_with}
use Rattle.kp_tree_grammar.specs.declared.tree.Word.{Word}
use Rattle.kp_tree_grammar.specs.Trees.{Domain, Problem}
use Rattle.kp_names_semantics.specs.Names.{Name}
use Rattle.kp_names_semantics.specs.Steps.{Step}
use Rattle.kp_names_semantics.specs.Plans.{Solves, IsPlan}
use Rattle.kp_names_semantics.specs.Encoding.{decoded}

-- what the names of the operators of actions begin with
abbrev pub do_front : List ℕ
do_front = codes "do_-"

-- what the names of the operators of merges begin with
abbrev pub merge_front : List ℕ
merge_front = codes "merge_-"

-- the bytes behind the front, of a text that begins with it
abbrev pub past : List ℕ → List ℕ → Option (List ℕ)
past front text = if starts_with nat_eq text front then Some (drop (length front) text) else None

-- 0 to 9
abbrev pub is_digit : ℕ → Bool
is_digit b = nat_le 48 b && nat_le b 57

-- a number as it is written in decimal: digits, the first of several not 0
abbrev pub is_number : List ℕ → Bool
is_number [] = false
is_number (b ∷ []) = is_digit b
is_number (b ∷ c ∷ bs) = not (b == 48) && list_all is_digit (b ∷ c ∷ bs)

-- the operator's name is that of a merge: the front of merges, and a number
abbrev pub is_merge_operator : Name → Bool
is_merge_operator operator = unwrap_or (option_map is_number (past merge_front operator)) false

-- the step that the operator of an action stands for; none where it is no such name
abbrev pub action_of : Name → Option Step
action_of operator = option_and_then decoded (past do_front operator)

-- what an operator comes to: no step for a merge, one for an action; a name that is neither comes to nothing at all (`None`)
abbrev pub stripped_operator : Name → Option (List Step)
stripped_operator operator = if is_merge_operator operator then Some [] else option_map (λ i. i ∷ []) (action_of operator)

-- the same of a name with the objects behind it: operators have none, so with any it comes to nothing at all
abbrev pub stripped : Name → List Name → Option (List Step)
stripped operator [] = stripped_operator operator
stripped operator (o ∷ os) = None

-- what a list of steps comes to, all after one another; nothing at all unless each step is an operator's
abbrev pub strip : List Step → Option (List Step)
strip [] = Some []
strip (i ∷ is) = option_and_then (λ front. option_map (λ rest. front ++ rest) (strip is)) (stripped i.head i.objects)

-- ---- plans that strip to plans

-- the steps strip to a list that solves the problem of the two trees
pub record StripsToSolution (d : Domain Word) (p : Problem Word) (steps : List Step) : Type 0 where
  pub stripped : List Step
  pub strips : strip steps ≡ Some stripped
  pub solves : Solves d p stripped

-- the steps strip to a plan of the two texts
pub record StripsToPlan (domain problem : List ℕ) (steps : List Step) : Type 0 where
  pub stripped : List Step
  pub strips : strip steps ≡ Some stripped
  pub is_plan : IsPlan domain problem stripped

-- each plan of the two texts that were written strips to a plan of the two given ones
abbrev pub PlansStrip : List ℕ → List ℕ → List ℕ → List ℕ → Type 0
PlansStrip domain_out problem_out domain problem = (steps : List Step) → IsPlan domain_out problem_out steps → StripsToPlan domain problem steps
