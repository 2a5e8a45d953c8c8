use Rattle.std.proofs.Common.{◌≡◌, ◌⊎◌, ◌≤◌, ◌<◌, ◌++◌, ◌&&◌, length, inl, inr, sym, ap, ◌∙◌, arith}
use Rattle.kp_base.specs.Implicates.{is_within}
use Rattle.kp_base.specs.Lit.{negative, same_lit}
use Rattle.kp_clash_exclusive.proofs.Spans.{none_more, deletes_at, deletes_nowhere}
use Rattle.kp_clash_exclusive.proofs.between.deletes_between.Goals as goal
use Rattle.kp_clash_exclusive.proofs.between.deletes_between.Goals.{then-to-effects, else-to-effects}

pub loop-place-preserved : goal.loop-place-preserved
loop-place-preserved c = none_more (λ d. same_lit d.result (negative c.args.q.0) && is_within d.cond (c.args.pre.now ++ (c.args.cond.now ++ c.args.other.now))) c.args.action.now.effects c.args.from c.loop-place.place c.index-effects-place.result (rw c.slice-effects.ensures at c.index-effects-place.is) (sym c.deletes_by.ensures ∙ c.if-deletes_by.false) c.loop-place.invariant

pub returns-then-deletes_by : goal.returns-then-deletes_by
returns-then-deletes_by c =
    let lt = c.loop-place-test.true in
    let same : length c.slice-effects.result.now ≡ length c.args.action.now.effects = ap length c.slice-effects.ensures in
    let below : c.loop-place.place < length c.args.action.now.effects = elim c.if-to-effects.branch [
      | then-to-effects w ↦ (let is = w.end-is in let less = w.if-to-effects.true in omega (arith, lt, is, less, same))
      | else-to-effects w ↦ (let is = w.end-is in omega (arith, lt, is, same))
    ] in
    sym (deletes_at c.args.action.now c.args.q.0 (c.args.pre.now ++ (c.args.cond.now ++ c.args.other.now)) c.loop-place.place c.index-effects-place.result below (rw c.slice-effects.ensures at c.index-effects-place.is) (sym c.deletes_by.ensures ∙ c.if-deletes_by.true))

pub returns : goal.returns
returns c =
    let past = c.loop-place-test.false in
    let same : length c.slice-effects.result.now ≡ length c.args.action.now.effects = ap length c.slice-effects.ensures in
    let end : (c.args.to ≤ c.loop-place.place) ⊎ (length c.args.action.now.effects ≤ c.loop-place.place) = elim c.if-to-effects.branch [
      | then-to-effects w ↦ (let is = w.end-is in inl (omega (arith, is, past)))
      | else-to-effects w ↦ (let is = w.end-is in inr (omega (arith, is, past, same)))
    ] in
    sym (deletes_nowhere c.args.action.now c.args.q.0 (c.args.pre.now ++ (c.args.cond.now ++ c.args.other.now)) c.args.from c.args.to c.loop-place.place c.requires end c.loop-place.invariant)
