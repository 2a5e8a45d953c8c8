-- Problems by number, computed from texts; the laws on numbers have cases.
use Rattle.std.proofs.Common.{◌≡◌, ℕ, true, false, List, [], ◌∷◌, refl, sym, subst, map, codes}
use Rattle.std.proofs.lemmas.Bool.{false≢true}
use Rattle.kp_lex.specs.Bytes.{class_of}
use Rattle.kp_lex.specs.Scanning.{cut_from}
use Rattle.kp_tree_grammar.specs.Symbols.{symbol_of}
use Rattle.kp_tree_grammar.specs.Parsing.{some_at, next_at}
use Rattle.kp_names_semantics.specs.declared.lifted.Term.{Term}
use Rattle.kp_names_semantics.specs.declared.lifted.Range.{Range}
use Rattle.kp_names_semantics.specs.declared.lifted.Pred.{Pred}
use Rattle.kp_names_semantics.specs.declared.lifted.Item.{Item}
use Rattle.kp_names_semantics.specs.Names.{Name}
use Rattle.kp_names_semantics.specs.Faults.{HasNoFault}
use Rattle.kp_names_semantics.specs.States.{unbound, bind}
use Rattle.kp_names_semantics.specs.Initial as named_initial
use Rattle.kp_names_semantics.specs.Plans.{HasProblem, Solves}
use Rattle.kp_names_semantics.specs.Numbered.{Cond, Conds, Eff, Effs, Schema, Lifted}
use Rattle.kp_names_semantics.specs.Lifted.{Instance, ground, is_instance, is_named, IsPlan}
use Rattle.kp_names_semantics.specs.Numbering.{numbered_problem, named_step, Agree}
use Rattle.kp_names_semantics.specs.NumberLaws.{Matches, is_plain_goal}
use Rattle.kp_names_semantics.proofs.Texts.{domain_of, problem_of, has_problem}
use Rattle.kp_names_semantics.proofs.NumberedItems.{no_variables}
use Rattle.kp_names_semantics.proofs.Numbered.{matches_more}
use Rattle.kp_names_semantics.proofs.NumberedPlans.{plan_numbered}
use Rattle.kp_names_semantics.proofs.ExamplePlans.{state_of, named_alone, moves, from_a_to_b, move}
use Rattle.kp_names_semantics.proofs.ExampleCells.{cells, one_of_three, cells_read, one_of_three_read}

abbrev parameter : ℕ → Term
parameter n = Term.Param n

abbrev both_effs : Eff → Eff → Eff
both_effs e f = Eff.both (Effs.more_effs e (Effs.more_effs f Effs.no_eff))

abbrev predicate : Name → ℕ → Pred
predicate x n = record { name = x; arity = n }

abbrev over : List ℕ → Range
over os = record { objects = os }

-- ---- parameters of a type

abbrev pub move_schema : Schema
move_schema = record {
  name = codes "move";
  params = over (0 ∷ 1 ∷ []) ∷ over (0 ∷ 1 ∷ []) ∷ [];
  pre = Cond.atom true 0 (parameter 0 ∷ []);
  effect = both_effs (Eff.makes false 0 (parameter 0 ∷ [])) (Eff.makes true 0 (parameter 1 ∷ []));
}

abbrev pub moves_by_number : Lifted
moves_by_number = record {
  objects = codes "a" ∷ codes "b" ∷ [];
  predicates = predicate (codes "at") 1 ∷ [];
  schemas = move_schema ∷ [];
  init = Item.One (ground true 0 (0 ∷ [])) ∷ [];
  goal = ground true 0 (1 ∷ []) ∷ [];
}

pub numbered_moves : numbered_problem (domain_of moves) (problem_of from_a_to_b) ≡ moves_by_number
unfolding cut_from class_of symbol_of some_at next_at
numbered_moves = refl

-- ---- no objects, conditional effects, and exactly one of three

abbrev when_at : ℕ → ℕ → Eff
when_at from to = Eff.when (Cond.atom true from []) (both_effs (Eff.makes true to []) (Eff.makes false from []))

abbrev cells_by_number : Lifted
cells_by_number = record {
  objects = [];
  predicates = predicate (codes "x1") 0 ∷ predicate (codes "x2") 0 ∷ predicate (codes "x3") 0 ∷ [];
  schemas = record { name = codes "left"; params = []; pre = Cond.all Conds.no_cond; effect = both_effs (when_at 2 1) (when_at 1 0) } ∷ [];
  init = Item.OneOf (ground true 0 [] ∷ ground true 1 [] ∷ ground true 2 [] ∷ []) ∷ [];
  goal = ground true 0 [] ∷ [];
}

numbered_cells : numbered_problem (domain_of cells) (problem_of one_of_three) ≡ cells_by_number
numbered_cells = rw (cells_read, one_of_three_read) refl

-- ---- a constant, inner variables after the outer one, a hidden variable, nested items and goals

abbrev hides : List ℕ
hides = codes "(define (domain h) (:types big - cell) (:constants c - big) (:predicates (at ?c) (by ?c ?e)) (:action a :parameters (?x) :effect (forall (?y - big ?x - cell) (when (and (not (= ?x ?y))) (not (by ?x c))))))"

abbrev nested : List ℕ
nested = codes "(define (problem h) (:domain h) (:objects b - cell c - cell) (:init (and (at b) (and (unknown (at c)))) (or (at c) (not (by b c)))) (:goal (and (at c) (and (not (at b))))))"

abbrev hides_by_number : Lifted
hides_by_number = record {
  objects = codes "c" ∷ codes "b" ∷ [];
  predicates = predicate (codes "at") 1 ∷ predicate (codes "by") 2 ∷ [];
  schemas = record {
    name = codes "a";
    params = over (0 ∷ 1 ∷ []) ∷ [];
    pre = Cond.all Conds.no_cond;
    effect = Eff.each (over (0 ∷ []) ∷ over (0 ∷ 1 ∷ []) ∷ []) (Eff.when (Cond.all (Conds.more_conds (Cond.same false (parameter 2) (parameter 1)) Conds.no_cond)) (Eff.makes false 1 (parameter 2 ∷ Term.Object 0 ∷ [])));
  } ∷ [];
  init = Item.One (ground true 0 (1 ∷ [])) ∷ Item.Unknown (ground true 0 (0 ∷ [])) ∷ Item.AnyOf (ground true 0 (0 ∷ []) ∷ ground false 1 (1 ∷ 0 ∷ []) ∷ []) ∷ [];
  goal = ground true 0 (0 ∷ []) ∷ ground false 0 (1 ∷ []) ∷ [];
}

numbered_hides : numbered_problem (domain_of hides) (problem_of nested) ≡ hides_by_number
unfolding cut_from class_of symbol_of some_at next_at
numbered_hides = refl

hides_problem : HasProblem hides nested
unfolding cut_from class_of symbol_of some_at next_at
hides_problem = has_problem hides nested (record { domain_cut = refl; problem_cut = refl; domain_read = refl; problem_read = refl; domain_faults = refl; problem_faults = refl })

-- ---- the laws' premises

-- no fault, and no equality in the goal
pub no_fault : HasNoFault (domain_of moves) (problem_of from_a_to_b)
unfolding cut_from class_of symbol_of some_at next_at
no_fault = record { domain = refl; problem = refl }

pub plain : is_plain_goal (problem_of from_a_to_b).goal ≡ true
unfolding cut_from class_of symbol_of some_at next_at
plain = refl

-- an initial state
initial : named_initial.IsInitial (problem_of from_a_to_b) (state_of (problem_of from_a_to_b) (λ h. true))
unfolding cut_from class_of symbol_of some_at next_at
initial = record { items = refl; absent = named_alone (problem_of from_a_to_b) (λ h. true) }

-- states that agree
all_true : Agree (domain_of moves) (problem_of from_a_to_b) (λ h os. true) (λ q os. true)
all_true q os below objs = refl

-- two variables by name and by number
two_variables : Matches (domain_of moves) (problem_of from_a_to_b) (codes "?y" ∷ codes "?x" ∷ []) (bind (codes "?x" ∷ codes "?y" ∷ []) (codes "a" ∷ codes "b" ∷ []) unbound) (0 ∷ 1 ∷ [])
unfolding cut_from class_of symbol_of some_at next_at
two_variables = matches_more (domain_of moves) (problem_of from_a_to_b) [] unbound [] (no_variables (domain_of moves) (problem_of from_a_to_b)) (codes "?x" ∷ codes "?y" ∷ []) (codes "a" ∷ codes "b" ∷ []) refl refl

-- ---- instances and plans by number

abbrev move_by_number : ℕ → ℕ → Instance
move_by_number x y = record { schema = 0; objects = x ∷ y ∷ [] }

an_instance : is_instance moves_by_number (move_by_number 0 1) ≡ true
an_instance = refl

no_object : is_instance moves_by_number (move_by_number 0 2) ≡ false
no_object = refl

no_schema : is_instance moves_by_number (record { schema = 1; objects = [] }) ≡ false
no_schema = refl

-- the add wins, so a step from a to a and then one from a to b is a plan
stay_and_go : IsPlan moves_by_number (move_by_number 0 0 ∷ move_by_number 0 1 ∷ [])
stay_and_go = record { instances = refl; reaches = λ s i. i.items }

-- the step from a to a alone leads to no goal
stay : IsPlan moves_by_number (move_by_number 0 0 ∷ []) → ⊥
stay plan = false≢true (plan.reaches (is_named moves_by_number) (record { items = refl; absent = λ q os e. e }))

names : map (named_step (domain_of moves) (problem_of from_a_to_b)) (move_by_number 0 0 ∷ move_by_number 0 1 ∷ []) ≡ move (codes "a") (codes "a") ∷ move (codes "a") (codes "b") ∷ []
unfolding cut_from class_of symbol_of some_at next_at
names = refl

-- with names put back it is one by name
by_name : Solves (domain_of moves) (problem_of from_a_to_b) (move (codes "a") (codes "a") ∷ move (codes "a") (codes "b") ∷ [])
by_name = (plan_numbered (domain_of moves) (problem_of from_a_to_b) no_fault plain (move (codes "a") (codes "a") ∷ move (codes "a") (codes "b") ∷ [])).1 (move_by_number 0 0 ∷ move_by_number 0 1 ∷ [], names, subst (λ l. IsPlan l (move_by_number 0 0 ∷ move_by_number 0 1 ∷ [])) (sym numbered_moves) stay_and_go)
