use Rattle.std.proofs.Common.{◌≡◌, ◌∙◌, is_ok, length, take, refl, sym, ap}
use Rattle.std.specs.Vec.{with_items}
use Rattle.std.proofs.lemmas.List.{with_items_is}
use Rattle.std.proofs.lemmas.Bool.{false≢true}
use Rattle.kp_search.specs.StateTables.{StateList}
use Rattle.kp_search.proofs.Ordered.{tells_read, view_put}
use Rattle.kp_search.proofs.table.Table.insert.Goals as goal

-- it stands in the order
pub returns-in-Ok : goal.returns-in-Ok
returns-in-Ok c =
    rw (← c.self.view_is) (
      (tells_read _ _ _ _ c.self.invariant.sorted (c.states.ensures.states ∙ sym (ap (λ (t : StateList). t.states) c.self.view_is)) c.deref.ensures.value c.args.state.now c.place_in.result _ refl c.place_in.ensures).0
          (ap is_ok c.in-Ok.is),
      refl,
    )

-- it fits into a gap
pub returns-in-Err : goal.returns-in-Err
returns-in-Err c =
    let written : (with_items c.self.inside.rows c.put.new.rows).items ≡ c.put.new.rows = with_items_is c.self.inside.rows c.put.new.rows (c.put.ensures.rows ∙ c.deref_mut.ensures.len) in
    rw (← c.self.view_is) (
      (λ m. false≢true (sym (ap is_ok c.in-Err.is)
          ∙ (tells_read _ _ _ _ c.self.invariant.sorted (c.states.ensures.states ∙ sym (ap (λ (t : StateList). t.states) c.self.view_is)) c.deref.ensures.value c.args.state.now c.place_in.result _ refl c.place_in.ensures).1 m)),
      view_put c.self.inside.facts c.self.inside.rows.items c.deref_mut.result.now (with_items c.self.inside.rows c.put.new.rows).items c.self.inside.order.items c.put.new.order.items c.args.state.now c.deref_mut.ensures.value
          (ap (take (length c.put.new.order.items)) written ∙ c.put.ensures.states) (ap length written ∙ c.put.ensures.rows),
    )
