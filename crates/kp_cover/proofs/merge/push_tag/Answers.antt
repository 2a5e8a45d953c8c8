use Rattle.std.proofs.Common.{◌∙◌, ◌++◌, sym, ap, append-nil, slice_get}
use Rattle.std.proofs.lemmas.Option.{slice_get_past}
use Rattle.kp_cover.specs.Covered.{found}
use Rattle.kp_cover.proofs.merge.push_tag.Goals as goal

-- there is no such tag
pub returns-in-None : goal.returns-in-None
returns-in-None c =
    let none = slice_get_past c.slice.result.now c.args.tag c.in-None.ensures.lookup.3 in
    sym (append-nil c.args.tags.now) ∙ ap (λ o. c.args.tags.now ++ found o) (sym none ∙ ap (λ ts. slice_get ts c.args.tag) c.slice.ensures)
