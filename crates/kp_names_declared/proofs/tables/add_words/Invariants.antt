use Rattle.std.proofs.Common.{◌≡◌, drop, fold}
use Rattle.kp_names_semantics.specs.Types.{names}
use Rattle.kp_names_declared.specs.Steps.{with_name}
use Rattle.kp_names_declared.proofs.tables.add_words.Given as goal

-- with the words that are left come all
abbrev pub invariant-loop-word : goal.invariant-loop-word
invariant-loop-word l = fold with_name l.known (names (drop l.word-index l.words)) ≡ fold with_name l.fn.known (names l.words)
