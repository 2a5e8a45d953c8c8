-- The trees that the written files are meant to have, without places.
use Rattle.std.specs.Prelude.{ℕ, List, [], ◌∷◌, map, true}
use Rattle.kp_tree_grammar.specs.Trees.{Atom, Cond, Eff, Item, Pred, Schema, Domain, Problem, conds_of, effs_of}
use Rattle.kp_write.specs.Operators.{Signed, Effect, Op}

-- the atom of a fact, which has no terms
abbrev pub atom_of : List ℕ → Atom (List ℕ)
atom_of n = record { head = n; terms = [] }

-- that a fact holds
abbrev pub fact_holds : List ℕ → Cond (List ℕ)
fact_holds n = Cond.atom true (atom_of n)

-- that a fact holds, or doesn't
abbrev pub signed_holds : Signed → Cond (List ℕ)
signed_holds s = Cond.atom s.holds (atom_of s.fact)

-- all of some facts
abbrev pub all_facts : List (List ℕ) → Cond (List ℕ)
all_facts ns = Cond.all (conds_of (map fact_holds ns))

-- an add or a delete of a fact
abbrev pub made : Signed → Eff (List ℕ)
made s = Eff.makes s.holds (atom_of s.fact)

-- the same, under a `when` where there are conditions
abbrev pub made_where : List Signed → Signed → Eff (List ℕ)
made_where [] result = made result
made_where (c ∷ cs) result = Eff.when (Cond.all (conds_of (map signed_holds (c ∷ cs)))) (made result)

-- an effect
abbrev pub effect_of : Effect → Eff (List ℕ)
effect_of e = made_where e.conds e.result

-- an operator, as a schema without parameters
abbrev pub schema_of : Op → Schema (List ℕ)
schema_of o = record { name = o.name; params = []; pre = all_facts o.pre; effect = Eff.both (effs_of (map effect_of o.effects)) }

-- a fact, as a predicate without parameters
abbrev pub predicate_of : List ℕ → Pred (List ℕ)
predicate_of n = record { head = n; params = [] }

-- a fact that holds at the start
abbrev pub item_of : List ℕ → Item (List ℕ)
item_of n = Item.fact true (atom_of n)

-- the domain of these facts and operators
abbrev pub written_domain : List (List ℕ) → List Op → Domain (List ℕ)
written_domain facts ops = record { kinds = []; constants = []; predicates = map predicate_of facts; schemas = map schema_of ops }

-- the problem with these facts at the start and these as its goal
abbrev pub written_problem : List (List ℕ) → List (List ℕ) → Problem (List ℕ)
written_problem start goal = record { objects = []; init = map item_of start; goal = all_facts goal }
