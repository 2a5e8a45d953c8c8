-- Small texts of the language, and small texts that stop, computed: the tokens stand for themselves, without words.
use Rattle.std.proofs.Common.{◌≡◌, Bool, true, false, List, [], ◌∷◌, map, Ok, Err, refl}
use Rattle.kp_tree_grammar.specs.declared.symbol.Symbol.{Symbol}
use Rattle.kp_tree_grammar.specs.declared.symbol.Symbol.TheVariants.{Left, Right, Dash, Equal, Variable, And, Or, Not, Exists, Forall, When, OneOf, Unknown, Increase, Define, Domain, Problem, Either, Name, Types, Predicates, Action, Objects, Init, Goal, Functions, Vars, Metric}
use Rattle.kp_tree_grammar.specs.Symbols.{Tok}
use Rattle.kp_tree_grammar.specs.Sorts.{Sort}
use Rattle.kp_tree_grammar.specs.Forms.{Form}
use Rattle.kp_tree_grammar.specs.Grammar.{cond, goal, eff, item, domain, problem}
use Rattle.kp_tree_grammar.specs.Reading.{Reason, Syntax, Unsupported}
use Rattle.kp_tree_grammar.specs.Parsing.{Outcome, read, some_at, next_at}

abbrev Unnamed : Type 0
Unnamed = Unit {0}

abbrev toks : List Symbol → List (Tok Unnamed)
toks ss = map (λ s. record { symbol = s; word = tt }) ss

-- what is left, or where it stops and why
abbrev ended : {A : Type 0} → Outcome Unnamed A → List Symbol × Bool
ended (Ok x) = (map (λ t. t.symbol) x.1, true)
ended (Err at) = (map (λ t. t.symbol) at.tokens, false)

abbrev why : {A : Type 0} → Outcome Unnamed A → Reason
why (Ok x) = Syntax
why (Err at) = at.reason

abbrev IsReadWhole : {b : Bool} {c : Sort} → Form b c → List Symbol → Type 0
IsReadWhole X ss = ended (read 9 X (toks ss)) ≡ ([], true)

abbrev StopsAt : {b : Bool} {c : Sort} → Form b c → List Symbol → List Symbol → Reason → Type 0
StopsAt X ss rest reason = (ended (read 9 X (toks ss)) ≡ (rest, false)) × (why (read 9 X (toks ss)) ≡ reason)

-- (and () (not (= a ?x)) (p a))
conjunction : IsReadWhole cond (Left ∷ And ∷ Left ∷ Right ∷ Left ∷ Not ∷ Left ∷ Equal ∷ Name ∷ Variable ∷ Right ∷ Right ∷ Left ∷ Name ∷ Name ∷ Right ∷ Right ∷ [])
unfolding some_at next_at
conjunction = refl

-- (or
disjunction : StopsAt cond (Left ∷ Or ∷ Left ∷ Name ∷ Right ∷ Right ∷ []) (Or ∷ Left ∷ Name ∷ Right ∷ Right ∷ []) Unsupported
unfolding some_at next_at
disjunction = (refl, refl)

-- (not (exists
denied_exists : StopsAt cond (Left ∷ Not ∷ Left ∷ Exists ∷ []) (Exists ∷ []) Unsupported
unfolding some_at next_at
denied_exists = (refl, refl)

-- (not (and
denied_and : StopsAt cond (Left ∷ Not ∷ Left ∷ And ∷ []) (And ∷ []) Syntax
unfolding some_at next_at
denied_and = (refl, refl)

-- (when is the head of no atom
when_in_condition : StopsAt cond (Left ∷ When ∷ Right ∷ []) (When ∷ Right ∷ []) Syntax
unfolding some_at next_at
when_in_condition = (refl, refl)

-- an equality is no goal, also under a negation
equal_goal : StopsAt goal (Left ∷ Not ∷ Left ∷ Equal ∷ Name ∷ Name ∷ Right ∷ Right ∷ []) (Equal ∷ Name ∷ Name ∷ Right ∷ Right ∷ []) Unsupported
unfolding some_at next_at
equal_goal = (refl, refl)

-- a goal has no variables
variable_in_goal : StopsAt goal (Left ∷ Name ∷ Variable ∷ Right ∷ []) (Variable ∷ Right ∷ []) Syntax
unfolding some_at next_at
variable_in_goal = (refl, refl)

-- (forall (?x - (either a b) ?y) (when (p ?x) (and (q) (not (p ?y)))))
quantified : IsReadWhole eff (Left ∷ Forall ∷ Left ∷ Variable ∷ Dash ∷ Left ∷ Either ∷ Name ∷ Name ∷ Right ∷ Variable ∷ Right ∷ Left ∷ When ∷ Left ∷ Name ∷ Variable ∷ Right ∷ Left ∷ And ∷ Left ∷ Name ∷ Right ∷ Left ∷ Not ∷ Left ∷ Name ∷ Variable ∷ Right ∷ Right ∷ Right ∷ Right ∷ Right ∷ [])
unfolding some_at next_at
quantified = refl

-- (increase
numbers_in_effect : StopsAt eff (Left ∷ Increase ∷ []) (Increase ∷ []) Unsupported
unfolding some_at next_at
numbers_in_effect = (refl, refl)

-- a second dash, and a kind without names
second_dash : StopsAt eff (Left ∷ Forall ∷ Left ∷ Variable ∷ Dash ∷ Name ∷ Dash ∷ Right ∷ []) (Dash ∷ Right ∷ []) Syntax
unfolding some_at next_at
second_dash = (refl, refl)

empty_either : StopsAt eff (Left ∷ Forall ∷ Left ∷ Variable ∷ Dash ∷ Left ∷ Either ∷ Right ∷ []) (Right ∷ []) Syntax
unfolding some_at next_at
empty_either = (refl, refl)

-- (oneof (p a) (not (q))), (unknown (p))
choices : IsReadWhole item (Left ∷ OneOf ∷ Left ∷ Name ∷ Name ∷ Right ∷ Left ∷ Not ∷ Left ∷ Name ∷ Right ∷ Right ∷ Right ∷ [])
unfolding some_at next_at
choices = refl

open_fact : IsReadWhole item (Left ∷ Unknown ∷ Left ∷ Name ∷ Right ∷ Right ∷ [])
unfolding some_at next_at
open_fact = refl

nested_choice : StopsAt item (Left ∷ OneOf ∷ Left ∷ And ∷ []) (And ∷ []) Unsupported
unfolding some_at next_at
nested_choice = (refl, refl)

equal_item : StopsAt item (Left ∷ Equal ∷ []) (Equal ∷ []) Unsupported
unfolding some_at next_at
equal_item = (refl, refl)

-- under a negation an equality in `:init` is an error of syntax
denied_equal_item : StopsAt item (Left ∷ Not ∷ Left ∷ Equal ∷ []) (Equal ∷ []) Syntax
unfolding some_at next_at
denied_equal_item = (refl, refl)

-- (define (domain d) (:types a - b) (:action n :vars
parts : StopsAt domain (Left ∷ Define ∷ Left ∷ Domain ∷ Name ∷ Right ∷ Left ∷ Types ∷ Name ∷ Dash ∷ Name ∷ Right ∷ Left ∷ Action ∷ Name ∷ Vars ∷ []) (Vars ∷ []) Unsupported
unfolding some_at next_at
parts = (refl, refl)

functions : StopsAt domain (Left ∷ Define ∷ Left ∷ Domain ∷ Name ∷ Right ∷ Left ∷ Functions ∷ []) (Functions ∷ []) Unsupported
unfolding some_at next_at
functions = (refl, refl)

-- :vars behind predicates is an error of syntax
vars_elsewhere : StopsAt domain (Left ∷ Define ∷ Left ∷ Domain ∷ Name ∷ Right ∷ Left ∷ Predicates ∷ Vars ∷ []) (Vars ∷ []) Syntax
unfolding some_at next_at
vars_elsewhere = (refl, refl)

-- the goal before the objects; a second goal; no goal
any_order : IsReadWhole problem (Left ∷ Define ∷ Left ∷ Problem ∷ Name ∷ Right ∷ Left ∷ Goal ∷ Left ∷ Right ∷ Right ∷ Left ∷ Objects ∷ Name ∷ Right ∷ Right ∷ [])
unfolding some_at next_at
any_order = refl

second_goal : StopsAt problem (Left ∷ Define ∷ Left ∷ Problem ∷ Name ∷ Right ∷ Left ∷ Goal ∷ Left ∷ Right ∷ Right ∷ Left ∷ Goal ∷ []) (Goal ∷ []) Syntax
unfolding some_at next_at
second_goal = (refl, refl)

no_goal : StopsAt problem (Left ∷ Define ∷ Left ∷ Problem ∷ Name ∷ Right ∷ Left ∷ Init ∷ Right ∷ Right ∷ []) (Right ∷ []) Syntax
unfolding some_at next_at
no_goal = (refl, refl)

metric : StopsAt problem (Left ∷ Define ∷ Left ∷ Problem ∷ Name ∷ Right ∷ Left ∷ Metric ∷ []) (Metric ∷ []) Unsupported
unfolding some_at next_at
metric = (refl, refl)
