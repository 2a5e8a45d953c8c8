use Rattle.kp_words.proofs.Decided.{words_decided}
use Rattle.kp_words.proofs.law.words_are_decided.Goals as goal

pub returns : goal.returns
returns c = words_decided
