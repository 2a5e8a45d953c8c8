use Rattle.std.proofs.Common.{◌≡◌, ◌<◌, ◌∙◌, [], length, slice_index_or, sym, ap, subst, arith}
use Rattle.kp_base.specs.Lists.{Member}
use Rattle.kp_guide.specs.Relaxed.{at}
use Rattle.kp_guide.specs.Waiting.{row}
use Rattle.kp_guide.proofs.Listed.{in_row}
use Rattle.kp_guide.proofs.Placing.{few_facts, grows_on, longer, placed_on}
use Rattle.kp_guide.proofs.adders.Adders.place_all.Goals as goal

pub overflow_add-place : goal.overflow_add-place
overflow_add-place c =
    let n = length c.args.self.now.rows.items in
    let few = few_facts n c.places.facts.keys c.len.ensures.unique c.places.invariant.2 in
    let lt = c.places-test.true in let len = c.len.ensures.len in let small = c.requires.few in
    omega (arith, few, lt, len, small)

-- fewer facts are left
pub places-smaller : goal.places-smaller
places-smaller c =
    let n = length c.args.self.now.rows.items in
    let few = few_facts n c.places.facts.keys c.len.ensures.unique c.places.invariant.2 in
    let lt = c.places-test.true in let len = c.len.ensures.len in
    omega (arith, few, lt, len)

-- the rules for one more fact are placed
pub places-preserved : goal.places-preserved
places-preserved c =
    let self = c.args.self.now in
    let all = self.rules.items in
    let rows = self.rows.items in
    let p = c.places.place in
    let old = c.places.facts.keys in
    let new = c.place_adders.new.facts.keys in
    let rules = c.places.rules.items in
    let rules_new = c.place_adders.new.rules.items in
    let lt : p < length old = subst (λ m. p < m) c.len.ensures.len c.places-test.true in
    let grows = c.in_ok-place_adders.ensures.grows in
    let fact : slice_index_or c.as_slice.result.now p 0 ≡ at old p = ap (λ xs. at xs p) c.as_slice.ensures.keys in
    let le = longer old new grows.more grows.grows in (
      grows_on all c.args.facts.now.keys old new [] rules rules_new c.places.invariant.0 grows,
      placed_on all p old new rules rules_new lt grows c.places.invariant.1
          (λ r there is. let k = in_row all rows r self.listed there in c.in_ok-place_adders.ensures.has k.0 r (subst (λ f. Member (row rows f) k.0) (is ∙ sym fact) k.1) k.2),
      grows.below (length rows) c.places.invariant.2 self.fit,
      omega (arith, lt, le),
    )
