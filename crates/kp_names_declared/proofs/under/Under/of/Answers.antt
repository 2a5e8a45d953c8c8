use Rattle.kp_names_declared.proofs.ChainsOfNames.{none_chained}
use Rattle.kp_names_declared.proofs.under.Under.of.Goals as goal

pub add_lines-requires : goal.add_lines-requires
add_lines-requires c = rw c.new-links.ensures.items (rw c.new-last.ensures.empty none_chained)
