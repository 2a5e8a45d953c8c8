use Rattle.std.proofs.Common.{◌≡◌, rules, ◌∙◌, ap}
use Rattle.kp_names_semantics.specs.Encoding.{decoded, encoded}
use Rattle.kp_names_semantics.proofs.Public.{what_was_encoded_decodes}
use Rattle.kp_plans.proofs.encoding.encode_name.Goals as goal

-- what was encoded is decoded
pub returns-clause-decodes : goal.returns-clause-decodes
returns-clause-decodes c = let e : c.in_ok-from_slice.field-0 ≡ encoded c.args.name.now = search rules in ap decoded e ∙ what_was_encoded_decodes c.args.name.now c.requires
