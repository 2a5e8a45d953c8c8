use Rattle.std.proofs.Common.{◌≡◌, [], map, drop, fold, flat_map}
use Rattle.kp_names_declared.specs.Steps.{with_name, under}
use Rattle.kp_names_declared.proofs.objects.names_under.Given as goal

-- with what stands under the types that are left come all
abbrev pub invariant-loop-name : goal.invariant-loop-name
invariant-loop-name l = fold with_name l.found (flat_map (under l.lines) (map (λ n. n.now) (drop l.name-index l.name-items))) ≡ fold with_name [] (flat_map (under l.lines) (map (λ n. n.now) l.name-items))
