-- The ground problem and the initial formula of two trees, and what is known at the start.
use Rattle.std.specs.Prelude.{List, [], length}
use Rattle.kp_base.specs.declared.lit.Lit.{Lit}
use Rattle.kp_base.specs.declared.ground.Ground.{Ground}
use Rattle.kp_base.specs.declared.ground.Initial.{Initial}
use Rattle.kp_tree_grammar.specs.declared.tree.Word.{Word}
use Rattle.kp_tree_grammar.specs.Trees.{Domain, Problem}
use Rattle.kp_names_semantics.specs.Numbering.{numbered_problem}
use Rattle.kp_ground_semantics.specs.Ground as ground
use Rattle.kp_init.specs.Initial as init
use Rattle.kp_base.specs.Closure.{closure}

-- the ground problem of two trees
abbrev pub ground_of : Domain Word → Problem Word → Ground
ground_of d p = ground.ground_of (numbered_problem d p)

-- their initial formula
abbrev pub initial_of : Domain Word → Problem Word → Initial
initial_of d p = init.initial_of (numbered_problem d p)

-- the literals that are known at the start: those of the closure of the empty tag
abbrev pub start_of : Domain Word → Problem Word → List Lit
start_of d p = closure (initial_of d p) (length (ground_of d p).atoms) []
