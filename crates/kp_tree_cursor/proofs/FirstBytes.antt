-- A token of a text begins in it.
use Rattle.std.proofs.Common.{◌≡◌, ℕ, ◌≤◌, ◌<◌, List, length, slice_index_or, ap, arith}
use Rattle.std.proofs.lemmas.Option.{slice_get-get_or}
use Rattle.kp_lex.specs.declared.token.Token.{Token}
use Rattle.kp_lex.specs.Cutting.{Cut}
use Rattle.kp_lex.proofs.Public.{each_span_is_a_token}

pub byte_within : (text : List ℕ) (ts : List Token) (i : ℕ) (t : Token) → Cut 0 text ts → i < length ts → t ≡ slice_index_or ts i t → t.from ≤ length text
byte_within text ts i t cut less is =
    let h = each_span_is_a_token ts i (slice_index_or ts i t) cut (slice_get-get_or ts i t less) in
    omega (arith, ap (λ (u : Token). u.from) is, h.not_empty, h.within)
