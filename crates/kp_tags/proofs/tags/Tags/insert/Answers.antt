use Rattle.kp_tags.proofs.Gathered.{key_added, sets_added}
use Rattle.kp_tags.proofs.tags.Tags.insert.Goals as goal

pub returns : goal.returns
returns c = rw (← c.self.view_is) (key_added (λ k. k.items) c.self.inside.set.keys c.insert.new.self.keys c.in_ok-literals.field-0 c.args.tag.now c.in_ok-literals.ensures.value c.in_ok-insert.ensures.keys)

pub invariant_of-self-2 : goal.invariant_of-self-2
invariant_of-self-2 c = sets_added (λ k. k.items) c.self.inside.set.keys c.insert.new.self.keys c.in_ok-literals.field-0 c.args.tag.now c.in_ok-literals.ensures.value c.in_ok-insert.ensures.keys c.self.invariant c.literals.ensures.ascending
