-- What a stop is told as. This file serves proofs alone.
use Rattle.std.specs.Prelude.{◌≡◌, List, ℕ, drop}
use Rattle.kp_base.specs.declared.refused.Part.{Part}
use Rattle.kp_base.specs.declared.refused.Stop.{Stop}
use Rattle.kp_base.specs.declared.refused.Stop.TheVariants as causes
use Rattle.kp_lex.specs.declared.token.Token.{Token}
use Rattle.kp_tree_grammar.specs.Symbols.{all_seen_in}
use Rattle.kp_tree_grammar.specs.Reading.{stop}
use Rattle.kp_tree_cursor.specs.declared.halt.Halt.{Halt}
use Rattle.kp_tree_cursor.specs.declared.halt.Halt.TheVariants as halts
use Rattle.kp_tree.specs.Files.{refusal_at}
use Rattle.kp_tree_parts.specs.Readers.{unsupported}

abbrev pub IsTold : Part → List ℕ → List Token → Halt → Stop → Type 0
IsTold part text tokens halts.Memory s = s ≡ causes.Memory
IsTold part text tokens (halts.Syntax i) s = s ≡ causes.Refused (refusal_at part text (stop (all_seen_in text (drop i tokens))))
IsTold part text tokens (halts.Unsupported i) s = s ≡ causes.Refused (refusal_at part text (unsupported (all_seen_in text (drop i tokens))))
