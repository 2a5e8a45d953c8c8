use Rattle.std.proofs.Common.{◌≡◌, drop, filter}
use Rattle.std.specs.List.{flat_map}
use Rattle.kp_names_semantics.specs.Lifted.{item_literals}
use Rattle.kp_ground.specs.Gathered.{gather}
use Rattle.kp_names.specs.View.{lifted_view}
use Rattle.kp_ground.specs.Passes.{is_open}
use Rattle.kp_ground.proofs.gathering.add_items.Given as goal

-- with the items that are left come all
abbrev pub invariant-loop-item : goal.invariant-loop-item
invariant-loop-item l = gather l.limit l.atoms (filter (is_open (lifted_view l.statics)) (flat_map item_literals (drop l.item-index l.items))) ≡ gather l.limit l.fn.atoms (filter (is_open (lifted_view l.statics)) (flat_map item_literals l.items))
