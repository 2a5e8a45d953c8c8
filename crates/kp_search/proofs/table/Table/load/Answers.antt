use Rattle.std.proofs.Common.{◌≡◌, ◌∙◌, ap, sym, subst, arith, length, Some, slice_get}
use Rattle.kp_search.proofs.Slices.{read_at}
use Rattle.kp_search.proofs.Ordered.{alike_at}
use Rattle.kp_search.proofs.table.Table.load.Goals as goal

pub copy_from-requires : goal.copy_from-requires
copy_from-requires c =
    let long = ap length c.states.ensures.states in
    let lt = c.requires.in_range in
    c.requires.same ∙ sym (alike_at _ c.states.result.now c.args.place c.index-states-place.result c.states.ensures.alike (omega (arith, long, lt)) c.index-states-place.is)

pub returns-clause-facts : goal.returns-clause-facts
returns-clause-facts c =
    let long = ap length c.states.ensures.states in
    let lt = c.requires.in_range in
    ap (λ s. s.facts) c.copy_from.ensures
    ∙ (alike_at _ c.states.result.now c.args.place c.index-states-place.result c.states.ensures.alike (omega (arith, long, lt)) c.index-states-place.is ∙ sym c.requires.same)

pub returns-clause-state : goal.returns-clause-state
returns-clause-state c =
    let long = ap length c.states.ensures.states in
    let lt = c.requires.in_range in
    subst (λ xs. slice_get xs c.args.place ≡ Some c.copy_from.new.self) c.states.ensures.states
    (read_at c.states.result.now c.args.place c.index-states-place.result c.copy_from.new.self (omega (arith, long, lt)) c.index-states-place.is (sym c.copy_from.ensures))
