use Rattle.kp_tree_grammar.proofs.Onward.{reads_onward, stops_onward}
use Rattle.kp_tree_grammar.proofs.laws.what_is_left_does_not_matter.Goals as goal

pub returns : goal.returns
returns c = record { reads = reads_onward; stops = stops_onward }
