-- A plan for three initial states, of which exactly one atom is true.
use Rattle.std.proofs.Common.{◌≡◌, ℕ, Bool, true, false, List, [], ◌∷◌, Ok, refl, ap, codes}
use Rattle.std.proofs.lemmas.Bool.{false≢true}
use Rattle.kp_lex.specs.Bytes.{class_of}
use Rattle.kp_lex.specs.Scanning.{cut, cut_from}
use Rattle.kp_tree_grammar.specs.declared.tree.Word.{Word}
use Rattle.kp_tree_grammar.specs.Grammar as grammar
use Rattle.kp_tree_grammar.specs.Symbols.{symbol_of}
use Rattle.kp_tree_grammar.specs.Trees.{Atom, Cond, Conds, Eff, Effs, Lit, Item, Pred, Domain, Problem}
use Rattle.kp_tree_grammar.specs.Parsing.{some_at, next_at}
use Rattle.kp_tree_grammar.proofs.Public.{computed_outcome, reads_by_computing}
use Rattle.kp_names_semantics.specs.Names.{same}
use Rattle.kp_names_semantics.specs.States.{State}
use Rattle.kp_names_semantics.specs.Initial.{IsInitial}
use Rattle.kp_names_semantics.specs.Plans.{HasProblem, succeeds, IsPlan}
use Rattle.kp_names_semantics.proofs.Texts.{tokens, domain_in, problem_in, domain_of, problem_of, solves_theirs}
use Rattle.kp_names_semantics.proofs.ExamplePlans.{step, state_of, named_alone}

abbrev pub cells : List ℕ
cells = codes "(define (domain cells) (:predicates (x1) (x2) (x3)) (:action left :effect (and (when (x3) (and (x2) (not (x3)))) (when (x2) (and (x1) (not (x2)))))))"

abbrev pub one_of_three : List ℕ
one_of_three = codes "(define (problem c) (:domain cells) (:init (oneof (x1) (x2) (x3))) (:goal (x1)))"

abbrev word : List ℕ → ℕ → Word
word text byte = record { text = text; byte = byte }

-- an atom without terms
abbrev plain : List ℕ → ℕ → Atom Word
plain text byte = record { head = word text byte; terms = [] }

abbrev declared : List ℕ → ℕ → Pred Word
declared text byte = record { head = word text byte; params = [] }

abbrev stated : List ℕ → ℕ → Lit Word
stated text byte = record { positive = true; atom = plain text byte }

abbrev both_effs : Eff Word → Eff Word → Eff Word
both_effs e f = Eff.both (Effs.more_effs e (Effs.more_effs f Effs.no_eff))

-- where an atom is true, another one becomes true and it becomes false
abbrev shifts : Atom Word → Atom Word → Atom Word → Eff Word
shifts here there left = Eff.when (Cond.atom true here) (both_effs (Eff.makes true there) (Eff.makes false left))

-- the tree of each text, with the bytes at which its words begin
abbrev pub cells_tree : Domain Word
cells_tree = record {
  kinds = [];
  constants = [];
  predicates = declared (codes "x1") 37 ∷ declared (codes "x2") 42 ∷ declared (codes "x3") 47 ∷ [];
  schemas = record {
    name = word (codes "left") 61;
    params = [];
    pre = Cond.all Conds.no_cond;
    effect = both_effs (shifts (plain (codes "x3") 86) (plain (codes "x2") 96) (plain (codes "x3") 106)) (shifts (plain (codes "x2") 120) (plain (codes "x1") 130) (plain (codes "x2") 140));
  } ∷ [];
}

abbrev pub one_of_three_tree : Problem Word
one_of_three_tree = record {
  objects = [];
  init = Item.one_of (word (codes "oneof") 44) (stated (codes "x1") 51 ∷ stated (codes "x2") 56 ∷ stated (codes "x3") 61 ∷ []) ∷ [];
  goal = Cond.atom true (plain (codes "x1") 75);
}

-- each text is read once, by computing
cells_outcome : computed_outcome grammar.domain cells (tokens cells) ≡ Ok (cells_tree, [])
unfolding cut_from class_of symbol_of some_at next_at
cells_outcome = refl

one_of_three_outcome : computed_outcome grammar.problem one_of_three (tokens one_of_three) ≡ Ok (one_of_three_tree, [])
unfolding cut_from class_of symbol_of some_at next_at
one_of_three_outcome = refl

pub cells_read : domain_of cells ≡ cells_tree
cells_read = ap domain_in cells_outcome

pub one_of_three_read : problem_of one_of_three ≡ one_of_three_tree
one_of_three_read = ap problem_in one_of_three_outcome

cells_cut : cut 0 cells ≡ Ok (tokens cells)
unfolding cut_from class_of
cells_cut = refl

one_of_three_cut : cut 0 one_of_three ≡ Ok (tokens one_of_three)
unfolding cut_from class_of
one_of_three_cut = refl

pub cell_problem : HasProblem cells one_of_three
cell_problem = record {
  domain = cells_tree;
  problem = one_of_three_tree;
  domain_reads = reads_by_computing grammar.domain cells (tokens cells) cells_tree cells_cut cells_outcome;
  problem_reads = reads_by_computing grammar.problem one_of_three (tokens one_of_three) one_of_three_tree one_of_three_cut one_of_three_outcome;
  no_fault = record { domain = refl; problem = refl };
}

left_twice : (s : State) (t u v : Bool) → s (codes "x1") [] ≡ t → s (codes "x2") [] ≡ u → s (codes "x3") [] ≡ v → IsInitial one_of_three_tree s → succeeds cells_tree one_of_three_tree (step (codes "left") [] ∷ step (codes "left") [] ∷ []) s ≡ true
left_twice s true true true e f g i = rw (e, f, g) refl
left_twice s true true false e f g i = rw (e, f, g) refl
left_twice s true false true e f g i = rw (e, f, g) refl
left_twice s true false false e f g i = rw (e, f, g) refl
left_twice s false true true e f g i = rw (e, f, g) refl
left_twice s false true false e f g i = rw (e, f, g) refl
left_twice s false false true e f g i = rw (e, f, g) refl
left_twice s false false false e f g i = let h = i.items in absurd (false≢true (rw (e, f, g) at h))

-- two steps to the left lead from each cell to the first
left_left : IsPlan cells one_of_three (step (codes "left") [] ∷ step (codes "left") [] ∷ [])
unfolding cell_problem
left_left = record { has = cell_problem; solves = record { instances = refl; reaches = λ s i. left_twice s (s (codes "x1") []) (s (codes "x2") []) (s (codes "x3") []) refl refl refl i } }

-- one step doesn't, from the third
left_once : IsPlan cells one_of_three (step (codes "left") [] ∷ []) → ⊥
unfolding cell_problem
left_once plan = false≢true ((solves_theirs cells one_of_three cell_problem (step (codes "left") [] ∷ []) plan).reaches (state_of one_of_three_tree (λ h. same h (codes "x3"))) (record { items = refl; absent = named_alone one_of_three_tree (λ h. same h (codes "x3")) }))
