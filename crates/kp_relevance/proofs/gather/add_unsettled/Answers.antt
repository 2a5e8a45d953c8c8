use Rattle.std.proofs.Common.{◌∙◌, ◌++◌, ◌∷◌, [], Bool, List, filter, sym, ap, arith}
use Rattle.std.proofs.lemmas.List.{append_assoc}
use Rattle.std.proofs.lemmas.List.FromFn.{filter_of_map_range_with_len_more}
use Rattle.kp_base.specs.declared.lit.Lit.{Lit}
use Rattle.kp_base.specs.Relevance.{either_value}
use Rattle.kp_relevance.specs.Gathered.{is_unsettled, unsettled_below}
use Rattle.kp_relevance.proofs.gather.add_unsettled.Goals as goal

-- the clause of one atom more is put behind
pub loop-p-preserved : goal.loop-p-preserved
loop-p-preserved c =
    let test : List Lit → Bool = is_unsettled c.args.relevance.now c.args.known.now c.args.target in
    let p = c.loop-p.p in
    let old = c.args.found.now in
    let before = unsettled_below c.args.relevance.now c.args.known.now c.args.target p in
    let one = filter test (either_value p ∷ []) in
    c.in_ok-add_if_unsettled.ensures ∙ (ap (λ xs. xs ++ one) c.loop-p.invariant ∙ (append_assoc old before one ∙ ap (λ xs. old ++ xs) (sym (filter_of_map_range_with_len_more test either_value 0 p p (omega arith)))))
