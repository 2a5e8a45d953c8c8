use Rattle.std.proofs.Common.{◌≡◌, ◌∙◌, slice_index_or, sym, subst, arith}
use Rattle.std.proofs.lemmas.List.{take_all}
use Rattle.std.proofs.lemmas.Option.{slice_get-get_or, slice_get_within}
use Rattle.kp_base.specs.Lists.{Member}
use Rattle.kp_base.proofs.Lists.{member_at}
use Rattle.kp_guide.specs.Waiting.{row}
use Rattle.kp_guide.proofs.Listed.{row_adds, at_place}
use Rattle.kp_guide.proofs.Noting.{row_read}
use Rattle.kp_guide.proofs.Placing.{adds_one, adds_still, grows_on, have_on}
use Rattle.kp_guide.proofs.adders.Adders.place_adders.Goals as goal

pub place_rule-requires-clause-number : goal.place_rule-requires-clause-number
place_rule-requires-clause-number c =
    let rows = c.args.self.now.rows.items in
    let items = c.slice-number-items.result.now in
    let j = c.loop-number.number-index in
    let is : items ≡ row rows c.args.fact = c.slice-number-items.ensures ∙ (c.index.ensures ∙ row_read rows c.args.fact c.index.result.now c.requires.fact) in
    c.args.self.now.listed.below c.args.fact (slice_index_or items j 0) (subst (λ xs. Member xs (slice_index_or items j 0)) is (member_at items j (slice_index_or items j 0) (slice_get-get_or items j 0 c.loop-number-test.true)))

pub place_rule-requires-clause-adds : goal.place_rule-requires-clause-adds
place_rule-requires-clause-adds c =
    let all = c.args.self.now.rules.items in
    let rows = c.args.self.now.rows.items in
    let items = c.slice-number-items.result.now in
    let j = c.loop-number.number-index in
    let old = c.args.facts.now.keys in
    let now = c.loop-number.facts.keys in
    let grows = c.loop-number.invariant.0 in
    let is : items ≡ row rows c.args.fact = c.slice-number-items.ensures ∙ (c.index.ensures ∙ row_read rows c.args.fact c.index.result.now c.requires.fact) in
    let k = slice_index_or items j 0 in
    let member = subst (λ xs. Member xs k) is (member_at items j k (slice_get-get_or items j 0 c.loop-number-test.true)) in
    let inside = slice_get_within old c.args.place c.args.fact c.requires.there in
    adds_one all (row rows c.args.fact) now c.args.place k member
    (adds_still all (row rows c.args.fact) old now c.args.place grows.more grows.grows (row_adds all rows c.args.fact old c.args.place c.args.self.now.listed inside (at_place old c.args.place c.args.fact c.requires.there)))

-- one more is placed
pub loop-number-preserved : goal.loop-number-preserved
loop-number-preserved c =
    let all = c.args.self.now.rules.items in
    let items = c.slice-number-items.result.now in
    let now = c.loop-number.facts.keys in
    let new = c.place_rule.new.facts.keys in
    let rules = c.loop-number.rules.items in
    let rules_new = c.place_rule.new.rules.items in
    let more = c.in_ok-place_rule.ensures in (
      grows_on all c.args.facts.now.keys now new c.args.rules.now.items rules rules_new c.loop-number.invariant.0 more.grows,
      have_on all items c.loop-number.number-index c.args.place now new rules rules_new c.loop-number-test.true more.grows c.loop-number.invariant.1 more.has,
    )

-- all are placed
pub returns-clause-has : goal.returns-clause-has
returns-clause-has c k r member =
    let rows = c.args.self.now.rows.items in
    let items = c.slice-number-items.result.now in
    let j = c.loop-number.number-index in
    let is : items ≡ row rows c.args.fact = c.slice-number-items.ensures ∙ (c.index.ensures ∙ row_read rows c.args.fact c.index.result.now c.requires.fact) in
    let end = c.loop-number-test.false in
    c.loop-number.invariant.1 k r (subst (λ xs. Member xs k) (sym (take_all j items (omega (arith, end)))) (subst (λ xs. Member xs k) (sym is) member))
