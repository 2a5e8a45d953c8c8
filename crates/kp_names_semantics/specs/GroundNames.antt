-- Names of ground atoms and actions: a head and objects.
use Rattle.std.specs.Prelude.{Bool, ◌&&◌}
use Rattle.std.specs.List.{AllByRecursion}
use Rattle.kp_base.specs.declared.ground.GroundName.{GroundName}
use Rattle.kp_tree_grammar.specs.Words.{IsName}
use Rattle.kp_names_semantics.specs.Names.{same, all_same}

-- the head and the objects are Names in lower case
pub record IsGroundName (n : GroundName) : Type 0 where
  pub head : IsName n.head
  pub objects : AllByRecursion IsName n.objects

-- whether two names are one: the same head and the same objects
abbrev pub same_name : GroundName → GroundName → Bool
same_name a b = same a.head b.head && all_same a.objects b.objects
