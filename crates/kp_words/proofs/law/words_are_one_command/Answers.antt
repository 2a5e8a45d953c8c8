use Rattle.kp_words.proofs.OneCommand.{one_command}
use Rattle.kp_words.proofs.law.words_are_one_command.Goals as goal

pub returns : goal.returns
returns c = one_command
