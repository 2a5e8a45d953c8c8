use Rattle.std.proofs.Common.{ap, map, ◌∙◌}
use Rattle.kp_plans.specs.WordTables.{number_under}
use Rattle.kp_plans.proofs.Tabled.{told_is}
use Rattle.kp_plans.proofs.table.NameTable.find.Goals as goal

pub returns : goal.returns
returns c =
    rw (← c.self.view_is)
    (c.copied.ensures ∙ (c.get.ensures.value ∙ (told_is (λ k. k.items) c.self.inside.first.entries c.as_slice.result.now
    ∙ ap (number_under (map (λ e. (e.0.items, e.1)) c.self.inside.first.entries)) (c.as_slice.ensures.value ∙ c.in_ok-word.ensures))))
