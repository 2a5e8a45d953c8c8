use Rattle.std.proofs.Common.{[], ◌∷◌, ◌++◌, sym, ap, ◌∙◌}
use Rattle.kp_base.specs.declared.lit.AtomId.{AtomId}
use Rattle.kp_base.specs.Atoms.{number_of, kept_atom}
use Rattle.kp_names_semantics.specs.Lifted.{is_named}
use Rattle.kp_names.specs.View.{lifted_view}
use Rattle.kp_init.proofs.NamedAtoms.{one_closed}
use Rattle.kp_init.proofs.closed.add_closed.Goals as goal

pub returns-in_ok-push : goal.returns-in_ok-push
returns-in_ok-push c =
    let l = lifted_view c.args.named.now in
    let atoms = c.args.atoms.now in
    let atom = kept_atom c.args.key.now in
    let old = c.args.closed.now in
    c.in_ok-push.ensures.ok
    ∙ (ap (λ n. old ++ (let p : AtomId = record { 0 = n } in p) ∷ []) (c.place.ensures ∙ ap (λ os. number_of atoms (record { pred = atom.pred; objects = os })) c.as_slice-then-not-has.ensures.value)
    ∙ ap (λ ps. old ++ ps) (sym (one_closed l atoms atom (sym (ap (is_named l atom.pred) c.as_slice.ensures.value) ∙ (sym c.has.ensures ∙ c.if-not-has.true)))))
