use Rattle.std.proofs.Common.{◌≡◌, ◌≤◌, drop}
use Rattle.kp_words_options.specs.Texts.{texts}
use Rattle.kp_words_options.specs.Scan.{scan, reader_state, at_first}
use Rattle.kp_words_options.proofs.scan.count_places.Given as goal

abbrev pub invariant-loop-word : goal.invariant-loop-word
invariant-loop-word l = (scan (texts l.options) (reader_state l.reader) (texts (drop l.word-index l.words)) ≡ scan (texts l.options) at_first (texts l.words)) × (l.reader.places ≤ l.word-index)
