use Rattle.std.proofs.Common.{◌≡◌, ◌∙◌, ◌*◌, length, refl, ap, arith}
use Rattle.std.specs.Vec.{with_items}
use Rattle.std.proofs.lemmas.List.{with_items_is}
use Rattle.kp_relevance.proofs.Exact.{rows_tell}
use Rattle.kp_relevance.proofs.relevance.Relevance.of.Goals as goal

pub returns : goal.returns
returns c =
    let ground = c.args.ground.now in
    let a = c.len-atoms.result in
    let v0 = c.in_ok-rows.rows in
    let v1 = with_items v0 c.mark_own.new.rows in
    let v2 = with_items v1 c.mark_actions.new.rows in
    let v3 = with_items v2 c.close.new.rows in
    let long0 : length v0.items ≡ 2 * a = c.in_ok-rows.ensures.square.many in
    let e1 : v1.items ≡ c.mark_own.new.rows = with_items_is v0 c.mark_own.new.rows (omega (arith, c.mark_own.ensures.square.many, long0, v0.ok.0)) in
    let long1 : length v1.items ≡ 2 * a = ap length e1 ∙ c.mark_own.ensures.square.many in
    let long2 : length c.mark_actions.new.rows ≡ 2 * a = c.mark_actions.ensures.square.many ∙ (ap length c.deref_mut-2.ensures.value ∙ long1) in
    let e2 : v2.items ≡ c.mark_actions.new.rows = with_items_is v1 c.mark_actions.new.rows (omega (arith, long2, long0, v0.ok.0)) in
    let e3 : v3.items ≡ c.close.new.rows = with_items_is v2 c.close.new.rows (omega (arith, c.in_ok-close.ensures.square.many, long0, v0.ok.0)) in
    rows_tell ground a a (2 * a) v0.items c.deref_mut.result.now c.mark_own.new.rows c.deref_mut-2.result.now c.mark_actions.new.rows c.deref_mut-3.result.now c.close.new.rows v3.items
    c.requires c.len-atoms.ensures refl refl
    c.in_ok-rows.ensures.clear c.deref_mut.ensures.value c.mark_own.ensures (c.deref_mut-2.ensures.value ∙ e1)
    (length c.deref_mut-2.result.now) (ap length c.deref_mut-2.ensures.value ∙ long1) (rw c.slice.ensures at c.mark_actions.ensures) (c.deref_mut-3.ensures.value ∙ e2) c.in_ok-close.ensures e3
