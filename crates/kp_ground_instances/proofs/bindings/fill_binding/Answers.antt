use Rattle.std.proofs.Common.{◌≡◌, ◌<◌, ◌/◌, ◌%◌, ◌-◌, ◌∷◌, [], ◌∙◌, ap, sym, subst, length, reverse, get_or, slice_get, Some, arith}
use Rattle.std.proofs.lemmas.List.{reverse-append}
use Rattle.kp_ground_instances.proofs.Digits.{IsLeft, objects, is_left_none, last_has_objects, last_is_known}
use Rattle.kp_ground_instances.proofs.bindings.fill_binding.Goals as goal

-- the range has objects
pub nonzero_rem-rest : goal.nonzero_rem-rest
nonzero_rem-rest c =
    let r = c.index-ranges-left.result in
    let some = last_has_objects c.args.ranges.now c.args.number c.loop-left.left c.loop-left.rest (reverse c.loop-left.objects.items) r c.requires c.loop-left-test.true c.loop-left.invariant c.index-ranges-left.is in
    let len : c.len.result ≡ length r.objects = c.len.ensures ∙ ap (λ x. length (objects x)) (sym c.index-ranges-left.is) in
    omega arith

pub at-requires : goal.at-requires
at-requires c =
    let r = c.index-ranges-left.result in
    let some = last_has_objects c.args.ranges.now c.args.number c.loop-left.left c.loop-left.rest (reverse c.loop-left.objects.items) r c.requires c.loop-left-test.true c.loop-left.invariant c.index-ranges-left.is in
    let len : c.len.result ≡ length r.objects = c.len.ensures ∙ ap (λ x. length (objects x)) (sym c.index-ranges-left.is) in
    let lt : c.loop-left.rest % c.len.result < c.len.result = omega arith in
    omega (arith, c.len.ensures)

-- its object is known, and the others are left
pub loop-left-preserved : goal.loop-left-preserved
loop-left-preserved c =
    let rs = c.args.ranges.now in
    let r = c.index-ranges-left.result in
    let known : reverse c.push.new.self.items ≡ c.at.result.now ∷ reverse c.loop-left.objects.items = ap reverse c.in_ok-push.ensures.items ∙ reverse-append c.loop-left.objects.items (c.at.result.now ∷ []) in
    let len : c.len.result ≡ length r.objects = c.len.ensures ∙ ap (λ x. length (objects x)) (sym c.index-ranges-left.is) in
    let len-rest : c.len-rest.result ≡ length r.objects = c.len-rest.ensures ∙ ap (λ x. length (objects x)) (sym c.index-ranges-left.is) in
    let at : slice_get r.objects (c.loop-left.rest % length r.objects) ≡ Some c.at.result.now =
    ap (λ x. slice_get (objects x) (c.loop-left.rest % length r.objects)) c.index-ranges-left.is ∙ (ap (λ n. slice_get (get_or rs (c.loop-left.left - 1) r).objects (c.loop-left.rest % n)) (sym len) ∙ c.at.ensures) in
    subst (IsLeft rs c.args.number (c.loop-left.left - 1) (c.loop-left.rest / c.len-rest.result)) (sym known)
    (subst (λ n. IsLeft rs c.args.number (c.loop-left.left - 1) (c.loop-left.rest / n) (c.at.result.now ∷ reverse c.loop-left.objects.items)) (sym len-rest)
    (last_is_known rs c.args.number c.loop-left.left c.loop-left.rest (reverse c.loop-left.objects.items) r c.at.result.now c.loop-left-test.true c.loop-left.invariant c.index-ranges-left.is at))

pub returns : goal.returns
returns c =
    let left : c.loop-left.left ≡ 0 = omega arith in
    is_left_none c.args.ranges.now c.args.number c.loop-left.rest (reverse c.loop-left.objects.items) c.requires (subst (λ n. IsLeft c.args.ranges.now c.args.number n c.loop-left.rest (reverse c.loop-left.objects.items)) left c.loop-left.invariant)
    ∙ ap Some (sym c.reverse.ensures.items)
