use Rattle.std.proofs.Common.{◌≡◌, ◌<◌, ℕ, true, Some, length, slice_get, subst}
use Rattle.kp_base.specs.Lists.{Member}
use Rattle.kp_classic.specs.States.{has}
use Rattle.kp_search.specs.Watched.{row}
use Rattle.kp_search.proofs.Watching.{found}
use Rattle.kp_search.proofs.watch.Watch.ready.Goals as goal

pub returns-clause-found : goal.returns-clause-found
returns-clause-found c =
    found c.args.task.now c.args.self.now.rows.items c.args.state.now c.find.new.bits c.requires.fit c.requires.watched
    (subst (λ rows. (f k : ℕ) → f < length c.args.task.now.facts → has c.args.state.now.hold f ≡ true → Member (row rows f) k → slice_get c.find.new.bits k ≡ Some true) c.deref.ensures.value c.find.ensures.facts)
    (subst (λ rows. (k : ℕ) → Member (row rows (length c.args.task.now.facts)) k → slice_get c.find.new.bits k ≡ Some true) c.deref.ensures.value c.find.ensures.last)
