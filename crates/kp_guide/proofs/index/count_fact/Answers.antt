use Rattle.std.proofs.Common.{◌≡◌, ◌<◌, ◌∙◌, length, sym, subst}
use Rattle.std.proofs.lemmas.Bool.{le-ltb, lt-ltb}
use Rattle.kp_guide.specs.CostTables.{value}
use Rattle.kp_guide.specs.Waiting.{AreEnough, CountsDown, row, unreached_before}
use Rattle.kp_guide.proofs.Noting.{counts_reached, counts_unreached, enough_for, itself_before, row_read}
use Rattle.kp_guide.proofs.index.count_fact.Goals as goal

-- the rules that need it count it still
pub count_down-requires-clause-enough : goal.count_down-requires-clause-enough
count_down-requires-clause-enough c =
    let index = c.args.index.now in
    let users = index.users.items in
    let costs = c.args.costs.now in
    let fact = c.args.fact in
    let within : fact < length users = subst (λ n. fact < n) c.requires.long c.requires.fact in
    let more : c.slice.result.now ≡ row users fact = c.slice.ensures ∙ (c.index.ensures ∙ row_read users fact c.index.result.now within) in
    subst (λ ks. AreEnough ks c.args.counts.now) (sym more) (enough_for index.rules.items (unreached_before costs fact) users c.args.counts.now fact index.listed c.requires.counts (itself_before index.rules.items costs fact))

-- the fact has a cost
pub returns-then-costs-fact-le-CAP : goal.returns-then-costs-fact-le-CAP
returns-then-costs-fact-le-CAP c =
    let index = c.args.index.now in
    let users = index.users.items in
    let costs = c.args.costs.now in
    let fact = c.args.fact in
    let within : fact < length users = subst (λ n. fact < n) c.requires.long c.requires.fact in
    let more : c.slice.result.now ≡ row users fact = c.slice.ensures ∙ (c.index.ensures ∙ row_read users fact c.index.result.now within) in
    counts_reached index.rules.items costs fact users index.listed (le-ltb 1000000000 (value costs fact) c.if-costs-fact-le-CAP.true) c.args.counts.now c.count_down.new.counts
    (subst (λ ks. CountsDown ks c.args.counts.now c.count_down.new.counts) more c.count_down.ensures) c.requires.counts

-- it has none
pub returns-else-costs-fact-le-CAP : goal.returns-else-costs-fact-le-CAP
returns-else-costs-fact-le-CAP c = counts_unreached c.args.index.now.rules.items c.args.costs.now c.args.fact (lt-ltb 1000000000 (value c.args.costs.now c.args.fact) c.if-costs-fact-le-CAP.false) c.args.counts.now c.requires.counts
