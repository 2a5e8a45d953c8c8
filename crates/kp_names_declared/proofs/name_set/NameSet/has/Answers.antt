use Rattle.std.proofs.Common.{◌∙◌, sym, nat_eq, refl}
use Rattle.std.specs.Cmp.Lexicographic.{pointwise}
use Rattle.kp_base.proofs.Lists.{any_map}
use Rattle.kp_names_declared.proofs.name_set.NameSet.has.Goals as goal

pub returns : goal.returns
returns c = rw (← c.self.view_is) (c.contains.ensures ∙ sym (any_map (λ k. k.now) (λ known. pointwise nat_eq c.args.name.now known) (λ k. pointwise nat_eq c.args.name.now k.now) c.self.inside.set.keys (λ k. refl)))
