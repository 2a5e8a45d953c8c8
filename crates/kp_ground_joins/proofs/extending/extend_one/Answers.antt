use Rattle.std.proofs.Common.{◌≡◌, ◌<◌, ◌+◌, ◌∷◌, ◌++◌, [], drop, flat_map, get_or, length, sym, ap, subst, ◌∙◌}
use Rattle.kp_names.specs.View.{cond_view, lifted_view}
use Rattle.kp_ground_instances.specs.StaticTables.{Gathers}
use Rattle.kp_ground_instances.proofs.Public.{too_many}
use Rattle.kp_ground_joins.specs.Joining.{unless_refuted, tried}
use Rattle.kp_ground_joins.proofs.Levels.{flat_next_at}
use Rattle.kp_ground_joins.proofs.extending.extend_one.Goals as goal

-- this one is one too many, and so are all
pub returns-then-not-branch : goal.returns-then-not-branch
returns-then-not-branch c =
    let l = lifted_view c.args.statics.now in
    let pre = cond_view c.args.pre.now in
    let f = tried l pre c.args.binding.now in
    let i = c.loop-object.object-index in
    let o = get_or c.args.range.now i 0 in
    let old = c.loop-object.more in
    let longer : c.deref.result.now ≡ c.args.binding.now ++ o ∷ [] =
    c.deref.ensures.value ∙ (c.in_ok-push.ensures.items ∙ ap (λ b. b ++ o ∷ []) (c.truncate.ensures.items ∙ c.loop-object.invariant.front)) in
    let over : c.args.most < length old + length (unless_refuted l pre c.deref.result.now) = subst (Gathers c.args.most old (unless_refuted l pre c.deref.result.now) c.add_unrefuted.new.more) c.if-not-branch.true c.in_ok-add_unrefuted.ensures in
    too_many c.args.most old (f o) (flat_map f (drop (i + 1) c.args.range.now)) c.args.more.now (flat_map f c.args.range.now)
    (subst (λ b. c.args.most < length old + length (unless_refuted l pre b)) longer over)
    (ap (λ r. old ++ r) (sym (flat_next_at f c.args.range.now i c.loop-object-test.true)) ∙ c.loop-object.invariant.so_far)
