-- Problems by number whose ground atoms are told apart by their names.
use Rattle.std.specs.Prelude.{◌≡◌, Bool, true, ◌&&◌, List, map, length, nat_lt}
use Rattle.std.specs.List.{list_all}
use Rattle.kp_names_semantics.specs.Names.{Name, distinct}
use Rattle.kp_names_semantics.specs.Numbered.{Lifted}
use Rattle.kp_base.specs.Atoms.{Atom}
use Rattle.kp_ground_semantics.specs.Ground.{ground_atoms}

-- the names of the predicates
abbrev pub predicate_names : Lifted → List Name
predicate_names l = map (λ q. q.name) l.predicates

-- the atom is of a declared predicate and of objects
abbrev pub is_declared : Lifted → Atom → Bool
is_declared l a = nat_lt a.pred (length l.predicates) && list_all (λ o. nat_lt o (length l.objects)) a.objects

-- no two predicates and no two objects have one name: each list is that of its different names. Each ground atom is of a declared predicate and of objects
pub record HasNamedAtoms (l : Lifted) : Type 0 where
  pub predicates : distinct (predicate_names l) ≡ predicate_names l
  pub objects : distinct l.objects ≡ l.objects
  pub declared : list_all (is_declared l) (ground_atoms l) ≡ true
