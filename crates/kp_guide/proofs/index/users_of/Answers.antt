use Rattle.std.proofs.Common.{◌≡◌, ◌∙◌, ◌+◌, ap, sym, subst, length, get_or}
use Rattle.std.specs.Vec.{with_items}
use Rattle.std.proofs.lemmas.List.{with_items_is}
use Rattle.std.proofs.lemmas.Option.{slice_get-get_or}
use Rattle.kp_guide.specs.Waiting.{AreUsers, Notes}
use Rattle.kp_guide.proofs.Noting.{users_on}
use Rattle.kp_guide.proofs.index.users_of.Goals as goal

-- one rule more
pub loop-number-preserved : goal.loop-number-preserved
loop-number-preserved c =
    let rules = c.args.rules.now in
    let old = c.loop-number.users.items in
    let new = c.note_all.new.users in
    let number = c.loop-number.number in
    let r = get_or rules number c.index-rules-number.result in
    let same : c.deref_mut.result.now ≡ old = c.deref_mut.ensures.value in
    let notes : Notes r.needs number old new = subst (λ fs. Notes fs number old new) c.slice.ensures (subst (λ us. Notes c.slice.result.now number us new) same c.in_ok-note_all.ensures) in
    let written : (with_items c.loop-number.users new).items ≡ new = with_items_is c.loop-number.users new (c.in_ok-note_all.ensures.long ∙ c.deref_mut.ensures.len) in (
      ap length written ∙ (notes.long ∙ c.loop-number.invariant.0),
      subst (AreUsers rules (number + 1)) (sym written) (users_on rules number r old new c.loop-number-test.true (slice_get-get_or rules number c.index-rules-number.result c.loop-number-test.true) c.loop-number.invariant.1 notes),
    )
