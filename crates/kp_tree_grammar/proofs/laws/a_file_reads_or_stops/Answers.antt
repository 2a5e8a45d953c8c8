use Rattle.kp_tree_grammar.proofs.Wholes.{whole_read_once, whole_stopped_once, whole_never_both, whole_always_one}
use Rattle.kp_tree_grammar.proofs.laws.a_file_reads_or_stops.Goals as goal

pub returns : goal.returns
returns c = record { one_tree = whole_read_once; one_offending_token = whole_stopped_once; never_both = whole_never_both; always_one = whole_always_one }
