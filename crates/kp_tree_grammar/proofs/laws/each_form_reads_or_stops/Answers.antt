use Rattle.kp_tree_grammar.proofs.Exact.{always_one}
use Rattle.kp_tree_grammar.proofs.laws.each_form_reads_or_stops.Goals as goal

pub returns : goal.returns
returns c = always_one
