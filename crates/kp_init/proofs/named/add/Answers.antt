use Rattle.std.proofs.Common.{◌||◌, ap, ◌∙◌}
use Rattle.kp_base.specs.Atoms.{same_atom}
use Rattle.kp_init.specs.NamedAtoms.{is_kept}
use Rattle.kp_init.proofs.NamedAtoms.{one_more}
use Rattle.kp_init.proofs.named.add.Goals as goal

pub returns : goal.returns
returns c a =
    let old = c.args.atoms.now.keys in
    let lit = c.args.lit.now in
    ap (λ ks. is_kept ks a) c.in_ok-insert.ensures.keys
    ∙ (one_more old (lit.pred, c.slice.result) a
    ∙ ap (λ os. is_kept old a || same_atom a (record { pred = lit.pred; objects = os })) c.slice.ensures)
