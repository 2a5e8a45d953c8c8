use Rattle.std.proofs.Common.{◌+◌, ◌-◌, ◌/◌, arith, subst}
use Rattle.kp_search.specs.Sorted.{StandsAt}
use Rattle.kp_search.proofs.Ordered.{stands, all_before, before_all}
use Rattle.kp_search.proofs.sorted.place_in.Goals as goal

-- the state in the middle is before it, and so are those below
pub halves-preserved-in-Less : goal.halves-preserved-in-Less
halves-preserved-in-Less c =
    let i = c.halves.invariant in
    let test = c.halves-test.true in
    let x = c.index-states-order.result in
    let m = c.halves.low + (c.halves.high - c.halves.low) / 2 in
    let here = stands c.args.states.now c.args.order.now c.requires.order m x (omega (arith, test, i.0)) c.index-states-order.is in
    (i.0, omega (arith, test), all_before c.args.states.now c.args.order.now c.requires.order m x c.args.state.now here (c.order.ensures.less.0 c.in-Less.is), i.3)

-- it is the one in the middle
pub returns-in-Equal : goal.returns-in-Equal
returns-in-Equal c =
    let i = c.halves.invariant in
    let test = c.halves-test.true in
    let m = c.halves.low + (c.halves.high - c.halves.low) / 2 in
    subst (StandsAt c.args.states.now c.args.order.now m) (c.order.ensures.equal.0 c.in-Equal.is)
    (stands c.args.states.now c.args.order.now c.requires.order m c.index-states-order.result (omega (arith, test, i.0)) c.index-states-order.is)

-- it is before the one in the middle, and so before those above
pub halves-preserved : goal.halves-preserved
halves-preserved c =
    let i = c.halves.invariant in
    let test = c.halves-test.true in
    let x = c.index-states-order.result in
    let m = c.halves.low + (c.halves.high - c.halves.low) / 2 in
    let here = stands c.args.states.now c.args.order.now c.requires.order m x (omega (arith, test, i.0)) c.index-states-order.is in
    (omega (arith, test, i.0), omega arith, i.2, before_all c.args.states.now c.args.order.now c.requires.order m x c.args.state.now here (c.order.ensures.greater.0 c.in-Greater.is))

-- the halves met
pub returns : goal.returns
returns c =
    let i = c.halves.invariant in
    let test = c.halves-test.false in
    record { in_range = omega (arith, i.0, i.1); below = i.2; above = λ at a ge p. i.3 at a (omega (arith, ge, test)) p }
