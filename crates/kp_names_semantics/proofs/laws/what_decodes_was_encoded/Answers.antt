use Rattle.kp_names_semantics.proofs.Encoding.{decoded_is_encoding}
use Rattle.kp_names_semantics.proofs.laws.what_decodes_was_encoded.Goals as goal

pub returns : goal.returns
returns c = decoded_is_encoding
