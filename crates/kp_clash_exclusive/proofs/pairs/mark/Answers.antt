use Rattle.std.proofs.Common.{◌≡◌, Bool, true, List, set, sym, ap, ap₂, subst, ◌∙◌}
use Rattle.kp_clash_exclusive.specs.Paired.{IsWritten}
use Rattle.kp_clash_exclusive.proofs.Written.{both_set, written}
use Rattle.kp_clash_exclusive.proofs.pairs.mark.Goals as goal

pub returns : goal.returns
returns c =
    let table : c.set-2.new.self ≡ both_set c.args.atoms c.args.table.now c.args.p c.args.q true = c.set-2.ensures ∙ ap₂ (λ t i. set t i true) (c.set.ensures ∙ ap (λ i. set c.args.table.now i true) c.place.ensures) c.place-2.ensures in
    subst (λ (t : List Bool). IsWritten c.args.atoms c.args.table.now t c.args.p c.args.q true) (sym table) (written c.args.atoms c.args.table.now c.requires.square c.args.p c.args.q c.requires.different c.requires.first c.requires.second true)
