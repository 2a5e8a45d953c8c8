-- The problem of two texts that have trees, and the numbers of its actions.
use Rattle.std.proofs.Common.{◌≡◌, ℕ, List, [], ◌∷◌, Some, map, refl}
use Rattle.kp_base.specs.declared.ground.GroundName.{GroundName}
use Rattle.kp_tree_grammar.specs.declared.tree.Word.{Word}
use Rattle.kp_tree_grammar.specs.Trees.{Domain, Problem}
use Rattle.kp_names_semantics.specs.Faults.{HasNoFault}
use Rattle.kp_names_semantics.specs.Plans.{HasProblem}
use Rattle.kp_base.specs.ActionNames.{action_name}
use Rattle.kp_ground_semantics.proofs.Public.{actions_named_once}
use Rattle.kp_law_translation.specs.OfTrees.{ground_of}
use Rattle.kp_run_prepare.specs.Texts.{HaveTrees}

-- the problem of two texts that have these trees
abbrev pub problem_of : (domain problem : List ℕ) (d : Domain Word) (p : Problem Word) → HaveTrees domain problem d p → HasProblem domain problem
problem_of domain problem d p h = record {
  domain = d;
  problem = p;
  domain_reads = record { tokens = h.domain_reads.tokens; cut = h.domain_reads.cut; reads = h.domain_reads.reads.reads };
  problem_reads = record { tokens = h.problem_reads.tokens; cut = h.problem_reads.cut; reads = h.problem_reads.reads.reads };
  no_fault = h.no_fault;
}

-- names tell actions
pub numbers_once : (d : Domain Word) (p : Problem Word) → HasNoFault d p → (is : List GroundName) (ms ns : List ℕ) → map (action_name (ground_of d p)) ms ≡ map Some is → map (action_name (ground_of d p)) ns ≡ map Some is → ms ≡ ns
numbers_once d p h [] [] [] e f = refl
numbers_once d p h [] [] (n ∷ ns) e f = absurd cc
numbers_once d p h [] (m ∷ ms) ns e f = absurd cc
numbers_once d p h (i ∷ is) [] ns e f = absurd cc
numbers_once d p h (i ∷ is) (m ∷ ms) [] e f = absurd cc
numbers_once d p h (i ∷ is) (m ∷ ms) (n ∷ ns) e f =
    let first : action_name (ground_of d p) m ≡ Some i = cc in
    let also : action_name (ground_of d p) n ≡ Some i = cc in
    let rest : map (action_name (ground_of d p)) ms ≡ map Some is = cc in
    let more : map (action_name (ground_of d p)) ns ≡ map Some is = cc in
    cc (actions_named_once d p h m n i first also, numbers_once d p h is ms ns rest more)
