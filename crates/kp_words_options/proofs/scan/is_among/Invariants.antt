use Rattle.std.proofs.Common.{◌≡◌, drop}
use Rattle.kp_words_options.specs.Words.{has_text}
use Rattle.kp_words_options.specs.Texts.{texts}
use Rattle.kp_words_options.proofs.scan.is_among.Given as goal

abbrev pub invariant-loop-one : goal.invariant-loop-one
invariant-loop-one l = has_text (texts (drop l.one-index l.all)) l.text ≡ has_text (texts l.all) l.text
