use Rattle.std.proofs.Common.{◌≡◌, Some, map, drop}
use Rattle.kp_words_options.specs.Texts.{texts}
use Rattle.kp_words.specs.Forms.{value_at}
use Rattle.kp_words.proofs.lookup.word_at.Given as goal

-- what is left has what is sought
abbrev pub invariant-loop-number : goal.invariant-loop-number
invariant-loop-number l = value_at (texts (drop l.number l.names)) (map Some (texts (drop l.number l.words))) l.name ≡ value_at (texts l.names) (map Some (texts l.words)) l.name
