use Rattle.kp_names_declared.proofs.ChainsOfNames.{none_chained}
use Rattle.kp_names_declared.proofs.under.Under.over.Goals as goal

pub add_lines_over-requires : goal.add_lines_over-requires
add_lines_over-requires c = rw c.new-links.ensures.items (rw c.new-last.ensures.empty none_chained)
