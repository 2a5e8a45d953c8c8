use Rattle.std.proofs.Common.{Vec, Global}
use Rattle.kp_base.specs.declared.lit.Lit.{Lit}
use Rattle.kp_cover.proofs.Growing.{key_told, key_added}
use Rattle.kp_cover.proofs.distinct.Tags.insert.Goals as goal

pub returns-clause-told : goal.returns-clause-told
returns-clause-told c = rw (← c.self.view_is) (key_told (λ (k : Vec Lit Global). k.items) c.self.inside.set.keys c.in_ok-literals.field-0 c.args.tag.now c.in_ok-literals.ensures c.in_ok-insert.field-0 c.in_ok-insert.ensures.added)

pub returns-clause-value : goal.returns-clause-value
returns-clause-value c = rw (← c.self.view_is) (key_added (λ (k : Vec Lit Global). k.items) c.self.inside.set.keys c.insert.new.self.keys c.in_ok-literals.field-0 c.args.tag.now c.in_ok-literals.ensures c.in_ok-insert.ensures.keys)
