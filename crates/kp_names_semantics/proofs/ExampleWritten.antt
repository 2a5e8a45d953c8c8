-- Two written files with their one plan, and the step of the given files that it comes to.
use Rattle.std.proofs.Common.{◌≡◌, ℕ, Bool, true, false, List, [], ◌∷◌, refl, codes, Some}
use Rattle.std.proofs.lemmas.Bool.{false≢true}
use Rattle.kp_lex.specs.Bytes.{class_of}
use Rattle.kp_lex.specs.Scanning.{cut_from}
use Rattle.kp_tree_grammar.specs.Symbols.{symbol_of}
use Rattle.kp_tree_grammar.specs.Parsing.{some_at, next_at}
use Rattle.kp_names_semantics.specs.States.{State}
use Rattle.kp_names_semantics.specs.Initial.{IsInitial}
use Rattle.kp_names_semantics.specs.Plans.{HasProblem, succeeds, IsPlan}
use Rattle.kp_names_semantics.specs.Strip.{strip}
use Rattle.kp_names_semantics.proofs.Texts.{domain_of, problem_of, has_problem, solves_theirs}
use Rattle.kp_names_semantics.proofs.ExamplePlans.{step, state_of, named_alone}

abbrev written_domain : List ℕ
written_domain = codes "(define (domain kplan)\n(:requirements :strips :negative-preconditions :conditional-effects)\n(:predicates\n(kp_-p_-0)\n(kn_-p_-0)\n(kp_-q_-0)\n(kn_-q_-0)\n)\n(:action do_-a\n:parameters ()\n:precondition (and (kp_-p_-0))\n:effect (and\n(kp_-q_-0)\n(not (kn_-q_-0))\n(kn_-p_-0)\n(not (kp_-p_-0))\n)\n)\n)\n"

abbrev written_problem : List ℕ
written_problem = codes "(define (problem kplan)\n(:domain kplan)\n(:init\n(kp_-p_-0)\n(kn_-q_-0)\n)\n(:goal (and\n(kp_-q_-0)\n))\n)\n"

written : HasProblem written_domain written_problem
unfolding cut_from class_of symbol_of some_at next_at
written = has_problem written_domain written_problem (record { domain_cut = refl; problem_cut = refl; domain_read = refl; problem_read = refl; domain_faults = refl; problem_faults = refl })

-- the operator needs what the first state is said to have
initially : (s : State) (t u : Bool) → s (codes "kp_-p_-0") [] ≡ t → s (codes "kn_-q_-0") [] ≡ u → IsInitial (problem_of written_problem) s → succeeds (domain_of written_domain) (problem_of written_problem) (step (codes "do_-a") [] ∷ []) s ≡ true
unfolding cut_from class_of symbol_of some_at next_at
initially s true u e f i = rw e refl
initially s false u e f i = let h = i.items in absurd (false≢true (rw e at h))

-- the operator is a plan of the written files
one_operator : IsPlan written_domain written_problem (step (codes "do_-a") [] ∷ [])
unfolding cut_from class_of symbol_of some_at next_at written
one_operator = record { has = written; solves = record { instances = refl; reaches = λ s i. initially s (s (codes "kp_-p_-0") []) (s (codes "kn_-q_-0") []) refl refl i } }

-- no step is none
no_operator : IsPlan written_domain written_problem ([]) → ⊥
unfolding cut_from class_of symbol_of some_at next_at written
no_operator plan = false≢true ((solves_theirs written_domain written_problem written ([]) plan).reaches (state_of (problem_of written_problem) (λ h. true)) (record { items = refl; absent = named_alone (problem_of written_problem) (λ h. true) }))

-- it comes to the action
stripped : strip (step (codes "do_-a") [] ∷ []) ≡ Some (step (codes "a") [] ∷ [])
stripped = refl
