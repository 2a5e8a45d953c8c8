use Rattle.std.proofs.Common.{◌≡◌, ◌∙◌, [], Option, None, sym, subst, arith}
use Rattle.kp_primes.specs.Held.{formula}
use Rattle.kp_tags_modes.specs.declared.way.Way.{Way}
use Rattle.kp_tags_modes.specs.Modes.{way_of, AreMergesInTurn, AreMergesOf}
use Rattle.kp_tags_modes.proofs.InTurn.{at_itself, next_turn, ended_so, place_below, done_turns}
use Rattle.kp_tags_modes.proofs.modes.merges_of.Goals as goal

-- no merges at all
pub returns-in-None : goal.returns-in-None
returns-in-None c =
    let is : way_of c.args.mode ≡ None = sym c.way_of.ensures ∙ c.in-None.is in
    subst (λ (w : Option Way). AreMergesOf c.args.limits.now.sets c.args.ground.now (formula c.args.primes.now) w c.new.result) (sym is)
    (subst (AreMergesOf c.args.limits.now.sets c.args.ground.now (formula c.args.primes.now) None) (sym c.new.ensures) AreMergesOf.none)

-- no target so far
pub loop-target-init : goal.loop-target-init
loop-target-init c = subst (AreMergesInTurn c.in-Some.way c.args.limits.now.sets c.args.ground.now (formula c.args.primes.now) []) (sym c.new-merges.ensures) AreMergesInTurn.done

pub add_for-requires-clause-target : goal.add_for-requires-clause-target
add_for-requires-clause-target c =
    let ts = c.slice-target-items.result.now in
    let k = c.loop-target.target-index in
    place_below c.args.ground.now c.in_ok-targets.targets ts k c.args.primes.now.atoms _ c.requires.of_atoms c.in_ok-targets.ensures c.slice-target-items.ensures c.requires.atoms c.loop-target-test.true

pub loop-target-preserved : goal.loop-target-preserved
loop-target-preserved c =
    let ts = c.slice-target-items.result.now in
    let k = c.loop-target.target-index in
    next_turn c.in-Some.way c.args.limits.now.sets c.args.ground.now c.args.relevance.now c.args.primes.now c.requires.relevance c.requires.atoms ts k _ c.loop-target.merges c.add_for.new.merges
    c.loop-target-test.true (at_itself ts k _ c.loop-target-test.true) c.loop-target.invariant c.in_ok-add_for.ensures

-- the target is refused
pub returns-in_err-add_for : goal.returns-in_err-add_for
returns-in_err-add_for c =
    let ts = c.slice-target-items.result.now in
    let k = c.loop-target.target-index in
    ended_so c.in-Some.way c.args.limits.now.sets c.args.ground.now c.args.relevance.now c.args.primes.now c.requires.relevance c.requires.atoms c.args.mode c.in_ok-targets.targets ts k _ c.loop-target.merges c.add_for.new.merges c.in_err-add_for.field-0.0 c.from_residual-in_err-add_for.result
    (sym c.way_of.ensures ∙ c.in-Some.is) c.in_ok-targets.ensures c.slice-target-items.ensures c.loop-target-test.true (at_itself ts k _ c.loop-target-test.true) c.loop-target.invariant c.in_err-add_for.ensures c.from_residual-in_err-add_for.ensures.1

pub returns : goal.returns
returns c =
    let ts = c.slice-target-items.result.now in
    done_turns c.in-Some.way c.args.limits.now.sets c.args.ground.now c.args.relevance.now c.args.primes.now c.requires.relevance c.requires.atoms c.args.mode c.in_ok-targets.targets ts c.loop-target.target-index c.loop-target.merges
    (sym c.way_of.ensures ∙ c.in-Some.is) c.in_ok-targets.ensures c.slice-target-items.ensures (omega (arith, c.loop-target-test.false, c.loop-target.auto.target-index-end)) c.loop-target.invariant
