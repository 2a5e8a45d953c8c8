use Rattle.std.proofs.Common.{◌∙◌, ◌++◌, [], ◌∷◌, take, sym, ap, subst}
use Rattle.kp_tree_grammar.specs.View.{domain_view, problem_view}
use Rattle.kp_names_semantics.specs.Types.{names}
use Rattle.kp_names_numbered.specs.Alike.{HaveSame}
use Rattle.kp_names_numbered.proofs.SameRanges.{names_more}
use Rattle.kp_names_numbered.proofs.ranges.Ranges.lasts.Goals as goal

-- one more type on either side
pub loop-word-preserved : goal.loop-word-preserved
loop-word-preserved c =
    let self = c.args.self.now in
    let so_far = names (take c.loop-word.word-index c.args.words.now) in
    let kept = c.loop-word.invariant.kept in
    record {
      kept = c.add_last.ensures.kept ∙ kept;
      so_far = subst (HaveSame (domain_view self.names.domain) (problem_view self.names.problem) c.add_last.new.tops)
          (ap (λ z. so_far ++ z ∷ []) c.slice.ensures ∙ sym (names_more c.args.words.now c.loop-word.word-index c.word-item.result c.loop-word-test.true c.word-item.is))
          (subst (λ n. HaveSame (domain_view n.domain) (problem_view n.problem) c.add_last.new.tops (so_far ++ c.slice.result.now ∷ [])) kept
          (c.in_ok-add_last.ensures.tops so_far (subst (λ n. HaveSame (domain_view n.domain) (problem_view n.problem) c.loop-word.tops so_far) (sym kept) c.loop-word.invariant.so_far)));
    }
