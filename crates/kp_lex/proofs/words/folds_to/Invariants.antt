use Rattle.std.proofs.Common.{◌≡◌, drop}
use Rattle.std.specs.Str.{bytes_eq, str_to_ascii_lowercase}
use Rattle.kp_lex.proofs.words.folds_to.Given as goal

-- what is left decides
abbrev pub invariant-loop-i : goal.invariant-loop-i
invariant-loop-i l = bytes_eq (str_to_ascii_lowercase (drop l.i l.bytes)) (drop l.i l.text) ≡ bytes_eq (str_to_ascii_lowercase l.bytes) l.text
