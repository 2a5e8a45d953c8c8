use Rattle.std.proofs.Common.{◌≡◌, map, ap, subst, ◌∙◌}
use Rattle.kp_ground_semantics.specs.Ground.{atom_name, numbered_set}
use Rattle.kp_names.specs.View.{lifted_view}
use Rattle.kp_ground.specs.Passes.{action_at}
use Rattle.kp_ground.proofs.Kept.{ground_is}
use Rattle.kp_ground.proofs.grounding.over_atoms.Goals as goal

pub returns : goal.returns
returns c =
    let l = lifted_view c.args.statics.now in
    let atoms = c.args.atoms in
    let named = c.in_ok-named.named in
    let names = subst (λ m. named.0 ≡ map (atom_name (lifted_view m)) atoms) c.lifted.ensures c.in_ok-named.ensures.names in
    let goals = subst (λ m. named.1 ≡ numbered_set atoms (lifted_view m).goal) c.lifted.ensures c.in_ok-named.ensures.goal in
    ground_is l atoms _ _ _ names (c.in_ok-actions.ensures ∙ ap (map (action_at l atoms)) c.requires.kept) goals
