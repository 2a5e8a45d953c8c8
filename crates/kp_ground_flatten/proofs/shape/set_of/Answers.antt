use Rattle.std.proofs.Common.{map, subst}
use Rattle.std.proofs.lemmas.List.Filters.{dedup_is}
use Rattle.std.specs.List.{dedup}
use Rattle.kp_ground_flatten.specs.Literals.{lit_view}
use Rattle.kp_ground_flatten.specs.Shapes.{IsSetOf}
use Rattle.kp_ground_flatten.proofs.Sorting.{same_lit, set_made}
use Rattle.kp_ground_flatten.proofs.shape.set_of.Goals as goal

pub returns : goal.returns
returns c =
    let is = dedup_is same_lit c.sort_unstable.new.self.items c.dedup.new.self.items c.dedup.ensures.filtered in
    let made = set_made c.in_ok-set.set.items c.sort_unstable.new.self.items c.sort_unstable.ensures.permutation c.sort_unstable.ensures.sorted in
    rw is (subst (λ z. IsSetOf (map lit_view (dedup same_lit c.sort_unstable.new.self.items)) (map lit_view z)) c.in_ok-set.ensures.items made)
