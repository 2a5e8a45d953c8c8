use Rattle.kp_tree_cursor.proofs.Seen.{seen_at}
use Rattle.kp_tree_cursor.proofs.KindTests.{told, shown}
use Rattle.kp_tree_cursor.proofs.tokens.is_kind.Goals as goal

pub returns-in-Some-clause-test : goal.returns-in-Some-clause-test
returns-in-Some-clause-test c =
    let l = c.in-Some.ensures.lookup in
    rw (← c.tokens.view_is) (told c.args.kind _ _ _ _ _ (seen_at c.tokens.inside.lower.now c.tokens.inside.spans.now c.args.at _ l.3.0 l.1) c.is_same.ensures.same c.is_same.ensures.different)

pub returns-in-Some-clause-shown : goal.returns-in-Some-clause-shown
returns-in-Some-clause-shown c =
    let l = c.in-Some.ensures.lookup in
    rw (← c.tokens.view_is) (shown c.args.kind _ _ _ _ _ (seen_at c.tokens.inside.lower.now c.tokens.inside.spans.now c.args.at _ l.3.0 l.1) c.is_same.ensures.same)
