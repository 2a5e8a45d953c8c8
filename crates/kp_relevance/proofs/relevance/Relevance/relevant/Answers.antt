use Rattle.std.proofs.Common.{◌∙◌, sym, ap}
use Rattle.kp_relevance.specs.Tabled.{is_marked}
use Rattle.kp_relevance.proofs.Exact.{is_pair_marked}
use Rattle.kp_relevance.proofs.relevance.Relevance.relevant.Goals as goal

pub returns : goal.returns
returns c =
    let r = c.self.inside in
    rw (← c.self.view_is) (c.is_marked.ensures ∙ (ap (λ rows. is_marked r.atoms rows c.args.from c.args.to) c.deref.ensures.value ∙ sym (is_pair_marked r.atoms r.rows.items c.args.from c.args.to)))
