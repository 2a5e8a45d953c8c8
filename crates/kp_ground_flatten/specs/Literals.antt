-- A literal that a sink takes, whose objects lie in a tree, as a literal of a problem by number.
use Rattle.kp_names_semantics.specs.declared.lifted.GroundLit.{GroundLit}
use Rattle.kp_names_semantics.specs.Lifted.{ground}
use Rattle.kp_ground_flatten.specs.declared.literal.BoundLit.{BoundLit}

-- the same sign, predicate and objects
abbrev pub lit_view : BoundLit → GroundLit
lit_view l = ground l.positive l.pred l.objects.now
