use Rattle.kp_tags.proofs.Complete.{made_complete}
use Rattle.kp_tags.proofs.laws.made_tables_are_complete.Goals as goal

pub returns : goal.returns
returns c = made_complete
