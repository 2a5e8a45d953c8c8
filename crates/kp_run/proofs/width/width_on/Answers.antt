use Rattle.std.proofs.Common.{ap, subst, IfOk}
use Rattle.kp_law_translation.specs.OfTrees.{initial_of}
use Rattle.kp_run_prepare.specs.Prepared.{AnswersPrepared}
use Rattle.kp_words.specs.Asked.{Asked}
use Rattle.kp_run_inputs.proofs.Public.{prepared_goes_on, prepared_ends}
use Rattle.kp_run.specs.Width.{WidthGround, WidthTrees}
use Rattle.kp_run.proofs.width.width_on.Goals as goal

-- the command goes on
pub returns-in-Ok : goal.returns-in-Ok
returns-in-Ok c x y front second =
    let n = c.args.asked.now.implicates in
    let w = subst (AnswersPrepared n x y) c.in-Ok.is (subst (λ k. AnswersPrepared k x y c.prepare.result) (ap (λ (k : Asked). k.implicates) c.asked.view_is) (c.prepare.ensures x y front second)) in
    prepared_goes_on n x y (WidthTrees c.args.asked.now) c.in-Ok.prepared w c.measure.result
    (subst (λ g. IfOk c.measure.result (WidthGround c.args.asked.now.bound g (initial_of w.first w.second))) w.ground
    (subst (λ b. IfOk c.measure.result (WidthGround b c.in-Ok.prepared.ground (initial_of w.first w.second))) (ap (λ (k : Asked). k.bound) c.asked.view_is) (c.measure.ensures (initial_of w.first w.second) w.primes.same_models)))

-- it ends early
pub returns-in-Err : goal.returns-in-Err
returns-in-Err c x y front second =
    let n = c.args.asked.now.implicates in
    prepared_ends n x y (WidthTrees c.args.asked.now) c.in-Err.early c.settle.result (subst (AnswersPrepared n x y) c.in-Err.is (subst (λ k. AnswersPrepared k x y c.prepare.result) (ap (λ (k : Asked). k.implicates) c.asked.view_is) (c.prepare.ensures x y front second))) c.settle.ensures
