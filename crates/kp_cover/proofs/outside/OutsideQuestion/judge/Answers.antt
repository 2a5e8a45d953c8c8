use Rattle.std.proofs.lemmas.Option.{IfSome_then}
use Rattle.kp_cover.proofs.Inside.{judged_at, left_asks}
use Rattle.kp_cover.proofs.outside.OutsideQuestion.judge.Goals as goal

pub returns-clause-truth : goal.returns-clause-truth
returns-clause-truth c =
    let q = c.args.self.now in
    rw (c.negated.ensures, c.any_truth-any.ensures, c.slice.ensures) (judged_at q.atoms c.args.known.now q.tags.now q.left c.requires.ready c.args._number c.requires.in_range)

pub returns-clause-same_atoms : goal.returns-clause-same_atoms
returns-clause-same_atoms c = IfSome_then c.in_ok-less.less c.in_ok-less.ensures (λ less is. is.0)

pub returns-clause-still_ready : goal.returns-clause-still_ready
returns-clause-still_ready c = IfSome_then c.in_ok-less.less c.in_ok-less.ensures (λ less is. rw (is.0, is.1.0) c.requires.ready)

-- the tags that aren't left are false
pub returns-clause-same : goal.returns-clause-same
returns-clause-same c =
    let q = c.args.self.now in
    IfSome_then c.in_ok-less.less c.in_ok-less.ensures (λ less is. rw (is.1.0, is.1.1) (left_asks c.args.known.now q.tags.now q.left))
