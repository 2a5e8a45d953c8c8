use Rattle.kp_law_translation.proofs.Tables.{tables_written, empty_tag_is_table}
use Rattle.kp_law_translation.proofs.given.tables_can_be_written.Goals as goal

pub returns : goal.returns
returns c = record { tables = tables_written; empty_tag = empty_tag_is_table }
