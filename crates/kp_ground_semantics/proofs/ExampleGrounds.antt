-- Ground problems computed from texts: static predicates, quantifiers, nested conditions, repeats and idle deletes.
use Rattle.std.proofs.Common.{◌≡◌, ℕ, true, false, List, [], ◌∷◌, refl, map, codes}
use Rattle.kp_base.specs.Atoms.{atom}
use Rattle.kp_base.specs.declared.lit.Lit.{Lit}
use Rattle.kp_base.specs.declared.ground.GroundName.{GroundName}
use Rattle.kp_base.specs.declared.ground.Effect.{Effect}
use Rattle.kp_base.specs.declared.ground.Ground.{Ground}
use Rattle.kp_base.specs.Lit.{positive, negative}
use Rattle.kp_lex.specs.Bytes.{class_of}
use Rattle.kp_lex.specs.Scanning.{cut_from}
use Rattle.kp_tree_grammar.specs.Symbols.{symbol_of}
use Rattle.kp_tree_grammar.specs.Parsing.{some_at, next_at}
use Rattle.kp_names_semantics.specs.Problems.{Name, Lifted, HasNoFault, numbered_problem}
pub use Rattle.kp_tree_grammar.proofs.Public.{exchange_text as exchange, from_p_to_q_text as from_p_to_q}
use Rattle.kp_names_semantics.proofs.Public.{domain_of_text, problem_of_text, cells_domain, one_cell_problem}
use Rattle.kp_ground_semantics.specs.Static.{is_static}
use Rattle.kp_ground_semantics.specs.Ground.{ground_of}
use Rattle.kp_ground_semantics.specs.Weights.{binding_count, weight, total_weight}

abbrev pub lifted : List ℕ → List ℕ → Lifted
lifted d p = numbered_problem (domain_of_text d) (problem_of_text p)

abbrev pub named : Name → List Name → GroundName
named head objects = record { head = head; objects = objects }

abbrev pub effect : List Lit → Lit → Effect
effect cond result = record { cond = cond; result = result }

-- ---- roads are static: they decide which instances are kept, and stay out of conditions

abbrev pub roads : List ℕ
roads = codes "(define (domain g) (:types t u) (:predicates (road ?x ?y) (at ?x) (seen ?x) (lit) (z)) (:action go :parameters (?x ?y - t) :precondition (and (road ?x ?y) (at ?x) (not (= ?x ?y))) :effect (and (at ?y) (not (at ?x)) (when (and (lit) (road ?y ?x)) (seen ?x)) (when (lit) (forall (?z - t) (when (not (= ?z ?y)) (not (seen ?z))))) (forall (?z - u) (z)) (when (z) ()) (at ?y))))"

abbrev pub three_towns : List ℕ
three_towns = codes "(define (problem g) (:domain g) (:objects a b c - t) (:init (road a b) (road b c) (at a) (unknown (lit))) (:goal (and (at c) (road a b))))"

pub no_fault : HasNoFault (domain_of_text roads) (problem_of_text three_towns)
unfolding cut_from class_of symbol_of some_at next_at
no_fault = record { domain = refl; problem = refl }

-- no effect may name it, not even one that never fires, and `unknown` may not
statics : map (is_static (lifted roads three_towns)) (0 ∷ 1 ∷ 2 ∷ 3 ∷ 4 ∷ []) ≡ true ∷ false ∷ false ∷ false ∷ false ∷ []
unfolding cut_from class_of symbol_of some_at next_at
statics = refl

-- a static atom of the goal counts; a condition under which nothing stands doesn't; a repeat is left out; each object of an inner variable gives an effect of its own
abbrev ground_roads : Ground
ground_roads = record {
  atoms =
      named (codes "road") (codes "a" ∷ codes "b" ∷ [])
      ∷ named (codes "at") (codes "a" ∷ []) ∷ named (codes "at") (codes "b" ∷ []) ∷ named (codes "at") (codes "c" ∷ [])
      ∷ named (codes "seen") (codes "a" ∷ []) ∷ named (codes "seen") (codes "b" ∷ []) ∷ named (codes "seen") (codes "c" ∷ [])
      ∷ named (codes "lit") []
      ∷ [];
  table = atom 0 (0 ∷ 1 ∷ []) ∷ atom 1 (0 ∷ []) ∷ atom 1 (1 ∷ []) ∷ atom 1 (2 ∷ []) ∷ atom 2 (0 ∷ []) ∷ atom 2 (1 ∷ []) ∷ atom 2 (2 ∷ []) ∷ atom 3 [] ∷ [];
  actions =
      record { name = named (codes "go") (codes "a" ∷ codes "b" ∷ []); pre = positive 1 ∷ []; effects = effect [] (positive 2) ∷ effect [] (negative 1) ∷ effect (positive 7 ∷ []) (negative 4) ∷ effect (positive 7 ∷ []) (negative 6) ∷ [] }
      ∷ record { name = named (codes "go") (codes "b" ∷ codes "c" ∷ []); pre = positive 2 ∷ []; effects = effect [] (positive 3) ∷ effect [] (negative 2) ∷ effect (positive 7 ∷ []) (negative 4) ∷ effect (positive 7 ∷ []) (negative 5) ∷ [] }
      ∷ [];
  goal = positive 0 ∷ positive 3 ∷ [];
}

roads_are_ground : ground_of (lifted roads three_towns) ≡ ground_roads
unfolding cut_from class_of symbol_of some_at next_at
roads_are_ground = refl

-- three for the precondition; the leaves weigh 1, 1, 3, three times 3, 1, 2 and 1
weights : map weight (lifted roads three_towns).schemas ≡ 21 ∷ []
unfolding cut_from class_of symbol_of some_at next_at
weights = refl

bindings : binding_count (lifted roads three_towns) ≡ 9
unfolding cut_from class_of symbol_of some_at next_at
bindings = refl

two_kept : total_weight (lifted roads three_towns) ≡ 42
unfolding cut_from class_of symbol_of some_at next_at
two_kept = refl

-- ---- deletes that an add makes idle

-- the condition of the add is within that of the delete and the precondition; the delete of s has no such add; the last effect repeats the second
abbrev idles : List ℕ
idles = codes "(define (domain i) (:predicates (p) (q) (r) (s)) (:action b :precondition (p) :effect (and (when (q) (not (r))) (when (and (q) (p)) (r)) (when (q) (not (s))) (when (r) (s)) (when (and (p) (q)) (r)))))"

abbrev both_unknown : List ℕ
both_unknown = codes "(define (problem i) (:domain i) (:init (unknown (p)) (unknown (q))) (:goal (and (s) (r) (s))))"

ground_idles : ground_of (lifted idles both_unknown) ≡ record {
  atoms = named (codes "p") [] ∷ named (codes "q") [] ∷ named (codes "r") [] ∷ named (codes "s") [] ∷ [];
  table = atom 0 [] ∷ atom 1 [] ∷ atom 2 [] ∷ atom 3 [] ∷ [];
  actions = record { name = named (codes "b") []; pre = positive 0 ∷ []; effects = effect (positive 0 ∷ positive 1 ∷ []) (positive 2) ∷ effect (positive 1 ∷ []) (negative 3) ∷ effect (positive 2 ∷ []) (positive 3) ∷ [] } ∷ [];
  goal = positive 2 ∷ positive 3 ∷ [];
}
unfolding cut_from class_of symbol_of some_at next_at
ground_idles = refl

-- ---- the condition of an idle delete still gives its atom; an instance that isn't kept gives none

abbrev never : List ℕ
never = codes "(define (domain k) (:predicates (r) (t) (no) (u)) (:action c :precondition (no) :effect (and (t) (u))) (:action d :effect (and (r) (when (t) (not (r))))))"

abbrev nothing_known : List ℕ
nothing_known = codes "(define (problem k) (:domain k) (:init) (:goal ()))"

ground_never : ground_of (lifted never nothing_known) ≡ record {
  atoms = named (codes "r") [] ∷ named (codes "t") [] ∷ [];
  table = atom 0 [] ∷ atom 1 [] ∷ [];
  actions = record { name = named (codes "d") []; pre = []; effects = effect [] (positive 0) ∷ [] } ∷ [];
  goal = [];
}
unfolding cut_from class_of symbol_of some_at next_at
ground_never = refl

-- ---- cells: conditional effects without objects

abbrev pub ground_cells : Ground
ground_cells = record {
  atoms = named (codes "x1") [] ∷ named (codes "x2") [] ∷ named (codes "x3") [] ∷ [];
  table = atom 0 [] ∷ atom 1 [] ∷ atom 2 [] ∷ [];
  actions = record { name = named (codes "left") []; pre = []; effects = effect (positive 2 ∷ []) (positive 1) ∷ effect (positive 2 ∷ []) (negative 2) ∷ effect (positive 1 ∷ []) (positive 0) ∷ effect (positive 1 ∷ []) (negative 1) ∷ [] } ∷ [];
  goal = positive 0 ∷ [];
}

pub cells_are_ground : ground_of (lifted cells_domain one_cell_problem) ≡ ground_cells
unfolding cut_from class_of symbol_of some_at next_at
cells_are_ground = refl

-- ---- one action without conditional effects

exchange_is_ground : ground_of (lifted exchange from_p_to_q) ≡ record {
  atoms = named (codes "p") [] ∷ named (codes "q") [] ∷ [];
  table = atom 0 [] ∷ atom 1 [] ∷ [];
  actions = record { name = named (codes "a") []; pre = positive 0 ∷ []; effects = effect [] (positive 1) ∷ effect [] (negative 0) ∷ [] } ∷ [];
  goal = positive 1 ∷ [];
}
unfolding cut_from class_of symbol_of some_at next_at
exchange_is_ground = refl
