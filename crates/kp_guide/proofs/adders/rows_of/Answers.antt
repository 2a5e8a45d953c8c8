use Rattle.std.proofs.Common.{◌≡◌, ◌<◌, ◌∙◌, ◌+◌, [], ◌∷◌, ◌++◌, true, nat_lt, ap, sym, subst, set, length, length-set, get_or}
use Rattle.std.specs.Vec.{with_items}
use Rattle.std.proofs.lemmas.Bool.{and_parts, ltb-true}
use Rattle.std.proofs.lemmas.List.{with_items_is}
use Rattle.std.proofs.lemmas.Option.{slice_get-get_or}
use Rattle.kp_base.proofs.Lists.{all_member, member_at}
use Rattle.kp_classic.specs.Fits.{are_below}
use Rattle.kp_guide.specs.Placing.{AreAdders}
use Rattle.kp_guide.specs.CostTables.{fits_rule}
use Rattle.kp_guide.specs.Waiting.{row}
use Rattle.kp_guide.proofs.Listed.{adders_on}
use Rattle.kp_guide.proofs.adders.rows_of.Goals as goal

-- one rule more
pub loop-number-preserved : goal.loop-number-preserved
loop-number-preserved c =
    let rules = c.args.rules.now in
    let old = c.loop-number.rows.items in
    let new = c.put.new.rows in
    let number = c.loop-number.number in
    let r = get_or rules number c.index-rules-number.result in
    let there = slice_get-get_or rules number c.index-rules-number.result c.loop-number-test.true in
    let same : c.deref_mut.result.now ≡ old = c.deref_mut.ensures.value in
    let is : new ≡ set old r.fact (row old r.fact ++ number ∷ []) = subst (λ xs. new ≡ set xs r.fact (row xs r.fact ++ number ∷ [])) same c.in_ok-put.ensures in
    let long : length new ≡ length old = ap length is ∙ length-set old r.fact (row old r.fact ++ number ∷ []) in
    let written : (with_items c.loop-number.rows new).items ≡ new = with_items_is c.loop-number.rows new (long ∙ (ap length (sym same) ∙ c.deref_mut.ensures.len)) in
    let fits = all_member (fits_rule c.args.facts) rules r (member_at rules number r there) c.requires in
    let inside : r.fact < length old = subst (λ n. r.fact < n) (sym c.loop-number.invariant.0) (ltb-true r.fact c.args.facts (and_parts (nat_lt r.fact c.args.facts) (are_below c.args.facts r.needs) fits).0) in (
      ap length written ∙ (long ∙ c.loop-number.invariant.0),
      subst (AreAdders rules (number + 1)) (sym (written ∙ is)) (adders_on rules number r old inside there c.loop-number.invariant.1),
    )
