use Rattle.std.proofs.Common.{◌∙◌, is_ok, sym, refl, ap}
use Rattle.std.proofs.lemmas.Bool.{false≢true}
use Rattle.kp_search.specs.StateTables.{StateList}
use Rattle.kp_search.proofs.Ordered.{tells_read}
use Rattle.kp_search.proofs.table.Table.place_of.Goals as goal

-- it fits into a gap
pub returns-in-Err-clause-none : goal.returns-in-Err-clause-none
returns-in-Err-clause-none c =
    rw (← c.self.view_is) (λ m. false≢true (sym (ap is_ok c.in-Err.is)
    ∙ (tells_read _ _ _ _ c.self.invariant.sorted (c.states.ensures.states ∙ sym (ap (λ (t : StateList). t.states) c.self.view_is)) c.deref.ensures.value c.args.state.now c.place_in.result _ refl c.place_in.ensures).1 m))
