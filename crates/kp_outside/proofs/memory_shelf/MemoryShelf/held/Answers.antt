use Rattle.kp_outside.proofs.Files.{get_files}
use Rattle.std.proofs.Common.{◌∙◌}
use Rattle.kp_outside.proofs.memory_shelf.MemoryShelf.held.Goals as goal

pub returns : goal.returns
returns c = rw (← c.self.view_is) (c.get.ensures.value ∙ get_files c.self.inside.contents c.args.name.now)
