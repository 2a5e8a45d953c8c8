use Rattle.std.proofs.Common.{sym, ◌∙◌}
use Rattle.std.proofs.lemmas.Bool.{false_from_ne_true}
use Rattle.kp_clash_exclusive.proofs.Marked.{is_pair_marked, pair_in}
use Rattle.kp_clash_exclusive.proofs.pairs.Pairs.has.Goals as goal

pub returns-clause-pair : goal.returns-clause-pair
returns-clause-pair c = rw (← c.self.view_is) (c.is_marked.ensures ∙ sym (is_pair_marked c.self.inside.atoms c.self.inside.table c.self.invariant c.args.p.0 c.args.q.0))

pub returns-clause-different : goal.returns-clause-different
returns-clause-different c = λ same. false_from_ne_true _ (λ on. (pair_in c.self.inside.atoms c.self.inside.table c.self.invariant c.args.p.0 c.args.q.0 (is_pair_marked c.self.inside.atoms c.self.inside.table c.self.invariant c.args.p.0 c.args.q.0 ∙ (sym c.is_marked.ensures ∙ on))).0 same)
