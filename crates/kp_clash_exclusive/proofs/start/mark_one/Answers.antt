use Rattle.std.proofs.Common.{[], ◌∷◌, not, sym, ap, ◌∙◌}
use Rattle.std.proofs.lemmas.Bool.{false≢true, not-true}
use Rattle.kp_clash_exclusive.specs.Starting.{denies, all_with}
use Rattle.kp_clash_exclusive.proofs.Starting.{marked_none, marked_alike, one_denies, denies_one}
use Rattle.kp_clash_exclusive.proofs.start.mark_one.Goals as goal

pub returns-then-not-lit : goal.returns-then-not-lit
returns-then-not-lit c = marked_alike c.args.atoms (all_with c.args.lit.atom.0) (denies (c.args.lit ∷ [])) c.args.table.now c.mark_all.new.table (one_denies c.args.lit (not-true c.args.lit.positive c.if-not-lit.true)) (λ r s _ h _ _. (denies_one c.args.lit r s h).1) c.mark_all.ensures

pub returns-else-not-lit : goal.returns-else-not-lit
returns-else-not-lit c = marked_none c.args.atoms (denies (c.args.lit ∷ [])) c.args.table.now c.requires.square (λ r s _ h. false≢true (sym c.if-not-lit.false ∙ ap not (denies_one c.args.lit r s h).0))
