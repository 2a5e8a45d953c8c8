use Rattle.std.proofs.Common.{◌≡◌, ◌∙◌, length, set, false, sym, subst, refl}
use Rattle.std.proofs.lemmas.Bool.{false≢true}
use Rattle.kp_base.specs.Lists.{only_if}
use Rattle.kp_base.proofs.AtomKeys.{got}
use Rattle.kp_guide.specs.Waiting.{AreEnough, CountsDown, Waits, row, unreached}
use Rattle.kp_guide.proofs.Noting.{enough_told, row_read}
use Rattle.kp_guide.proofs.Waiting.{rule_in, tries}
use Rattle.kp_guide.proofs.settle.try_rule.Goals as goal

-- where its fact had no cost, the rules that need it count it still
pub tell-requires-clause-enough : goal.tell-requires-clause-enough
tell-requires-clause-enough c =
    let index = c.args.index.now in
    let rules = index.rules.items in
    let users = index.users.items in
    let costs = c.args.costs.now in
    let r = c.index-rule.result.now in
    let at = got rules c.args.number r c.requires.number c.index-rule.ensures in
    let more : c.slice.result.now ≡ row users r.fact = c.slice.ensures ∙ (c.index.ensures ∙ row_read users r.fact c.index.result.now (rule_in rules (length users) c.args.number r index.fit at)) in
    subst (λ ks. AreEnough (only_if (unreached costs r.fact) ks) c.args.counts.now) (sym more) (enough_told rules costs users c.args.counts.now r.fact index.listed c.requires.work.counted)

-- its fact's cost fell, and those that need it wait
pub returns-in_ok-tell : goal.returns-in_ok-tell
returns-in_ok-tell c =
    let index = c.args.index.now in
    let rules = index.rules.items in
    let users = index.users.items in
    let costs = c.args.costs.now in
    let r = c.index-rule.result.now in
    let at = got rules c.args.number r c.requires.number c.index-rule.ensures in
    let more : c.slice.result.now ≡ row users r.fact = c.slice.ensures ∙ (c.index.ensures ∙ row_read users r.fact c.index.result.now (rule_in rules (length users) c.args.number r index.fit at)) in
    tries rules (length users) users index.listed index.fit c.args.number r at costs c.args.counts.now c.args.waits.now c.args.next.now.items c.requires.work
    c.relax.result c.relax.new.costs c.tell.new.counts c.tell.new.waits c.tell.new.next.items c.relax.ensures
    (λ fell. (
      subst (λ ks. CountsDown (only_if (unreached costs r.fact) ks) c.args.counts.now c.tell.new.counts) more c.in_ok-tell.ensures.counted,
      subst (λ ks. Waits c.tell.new.counts ks (set c.args.waits.now c.args.number false) c.args.next.now.items c.tell.new.waits c.tell.new.next.items) more c.in_ok-tell.ensures.waiting,
    ))
    (λ same. absurd (false≢true (sym same ∙ c.if-relax.true)))

-- it lowers no cost
pub returns-else-relax : goal.returns-else-relax
returns-else-relax c =
    let index = c.args.index.now in
    let rules = index.rules.items in
    let users = index.users.items in
    let r = c.index-rule.result.now in
    let at = got rules c.args.number r c.requires.number c.index-rule.ensures in
    tries rules (length users) users index.listed index.fit c.args.number r at c.args.costs.now c.args.counts.now c.args.waits.now c.args.next.now.items c.requires.work
    c.relax.result c.relax.new.costs c.args.counts.now (set c.args.waits.now c.args.number false) c.args.next.now.items c.relax.ensures
    (λ fell. absurd (false≢true (sym c.if-relax.false ∙ fell)))
    (λ same. (refl, refl, refl))
