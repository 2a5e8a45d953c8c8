use Rattle.std.proofs.Common.{◌∙◌, ℕ, List, refl, subst}
use Rattle.kp_base.specs.declared.refused.Part.TheVariants as parts
use Rattle.kp_base.specs.Files.{most_bytes}
use Rattle.kp_tree_grammar.specs.Grammar as grammar
use Rattle.kp_tree_grammar.specs.View.{domain_view}
use Rattle.kp_tree.specs.Files.{AnswersFile}
use Rattle.kp_run_prepare.proofs.Reading.{too_long, whole, where_ok}
use Rattle.kp_run_prepare.proofs.files.domain_of.Goals as goal

-- there are more bytes than may be
pub returns-then-got-clause-front : goal.returns-then-got-clause-front
returns-then-got-clause-front c text front = too_long parts.Domain grammar.domain most_bytes text c.args.got.now.more refl front.1 c.if-got.true

pub returns-clause-whole : goal.returns-clause-whole
returns-clause-whole c text front = where_ok c.read_domain.result (whole most_bytes text c.args.got.now.bytes c.args.got.now.more front.0 front.1 c.if-got.false)

pub returns-clause-front : goal.returns-clause-front
returns-clause-front c text front =
    let P = λ (bytes : List ℕ). AnswersFile parts.Domain grammar.domain domain_view bytes c.read_domain.result in
    subst P (c.slice.ensures ∙ whole most_bytes text c.args.got.now.bytes c.args.got.now.more front.0 front.1 c.if-got.false) c.read_domain.ensures
