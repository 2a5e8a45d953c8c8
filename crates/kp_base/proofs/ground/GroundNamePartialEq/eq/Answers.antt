use Rattle.std.proofs.Common.{◌≡◌, ap}
use Rattle.std.proofs.lemmas.Slice.Eq.{slice_eq-Decides, bytes_eq-Decides}
use Rattle.kp_base.specs.declared.ground.GroundName.{GroundName}
use Rattle.kp_base.proofs.ground.GroundNamePartialEq.eq.Goals as goal

-- names with one head and the same objects are one name
name_is : (a b : GroundName) → a.head ≡ b.head → a.objects ≡ b.objects → a ≡ b
name_is a b heads objects = λ i. record { head = heads i; objects = objects i }

-- where the heads are the same, the objects decide
pub returns-then-eq-clause-same : goal.returns-then-eq-clause-same
returns-then-eq-clause-same c =
    let heads = c.eq.ensures.same.0 c.if-eq.true in
    let objects = slice_eq-Decides bytes_eq-Decides c.args.self.now.objects c.args.other.now.objects _ c.eq-then-eq.ensures in
    (λ all. name_is _ _ heads (objects.0 all), λ same. objects.1 (ap (λ name. name.objects) same))
