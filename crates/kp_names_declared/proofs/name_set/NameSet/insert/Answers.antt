use Rattle.std.proofs.Common.{◌∙◌, sym, ap, not, nat_eq, map, refl}
use Rattle.std.specs.Cmp.Lexicographic.{pointwise}
use Rattle.kp_base.proofs.Lists.{any_map, gathered}
use Rattle.kp_names_declared.proofs.name_set.NameSet.insert.Goals as goal

pub returns-clause-new : goal.returns-clause-new
returns-clause-new c = rw (← c.self.view_is) (c.in_ok-insert.ensures.added ∙ ap not (sym (any_map (λ k. k.now) (λ known. pointwise nat_eq c.args.name.now known) (λ k. pointwise nat_eq c.args.name.now k.now) c.self.inside.set.keys (λ k. refl))))

-- the set's keys are what the names point from
pub returns-clause-names : goal.returns-clause-names
returns-clause-names c = rw (← c.self.view_is) (ap (map (λ k. k.now)) c.in_ok-insert.ensures.keys ∙ gathered (λ name known. pointwise nat_eq name known) (λ k. k.now) c.self.inside.set.keys c.args.name)
