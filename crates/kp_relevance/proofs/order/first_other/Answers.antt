use Rattle.std.proofs.Common.{◌∙◌, length, ap, sym}
use Rattle.std.proofs.lemmas.Option.{IfSome_then}
use Rattle.kp_bits.specs.Rows.{either}
use Rattle.kp_relevance.proofs.Tables.{length-either}
use Rattle.kp_relevance.proofs.Searching.{other_found}
use Rattle.kp_relevance.proofs.order.first_other.Goals as goal

pub first_difference-requires : goal.first_difference-requires
first_difference-requires c =
    ap length (c.or_with.ensures ∙ ap (λ xs. either xs c.args.row.now) c.copy_from.ensures) ∙ length-either c.args.these.now c.args.row.now (sym c.requires.row)

pub returns-clause-below : goal.returns-clause-below
returns-clause-below c =
    let both = c.or_with.ensures ∙ ap (λ xs. either xs c.args.row.now) c.copy_from.ensures in
    IfSome_then c.first_difference.result c.first_difference.ensures.some (λ k h. (other_found c.args.these.now c.args.row.now c.or_with.new.self k both c.requires.row h).0)

pub returns-clause-other : goal.returns-clause-other
returns-clause-other c =
    let both = c.or_with.ensures ∙ ap (λ xs. either xs c.args.row.now) c.copy_from.ensures in
    IfSome_then c.first_difference.result c.first_difference.ensures.some (λ k h. (other_found c.args.these.now c.args.row.now c.or_with.new.self k both c.requires.row h).1)

pub returns-clause-spare : goal.returns-clause-spare
returns-clause-spare c =
    ap length (c.or_with.ensures ∙ ap (λ xs. either xs c.args.row.now) c.copy_from.ensures) ∙ length-either c.args.these.now c.args.row.now (sym c.requires.row)
