use Rattle.std.proofs.Common.{◌∙◌, sym, subst}
use Rattle.std.specs.Option.{option_map}
use Rattle.kp_names_numbered.specs.Alike.{AreAlike}
use Rattle.kp_names_numbered.proofs.SameObjects.{one_without, one_with}
use Rattle.kp_names_numbered.proofs.alike.Alike.common.Goals.{then-has+in_ok-last+else-not-fits, else-has}
use Rattle.kp_names_numbered.proofs.alike.Alike.common.Goals as goal

-- one more type leads where those before it lead, or has no objects
pub loop-name-preserved : goal.loop-name-preserved
loop-name-preserved c = elim c.if-has.branch [
  | then-has+in_ok-last+else-not-fits w ↦ record {
    kept = λ f h. subst (AreAlike f) (sym w.self-is) (w.last.ensures.kept f (c.loop-name.invariant.kept f h));
    so_far = λ f h none. rw w.found-is (one_with (λ n. n.now) f c.names-name-items.result.now c.loop-name.name-index _ (option_map (λ n. n.now) c.loop-name.found) c.loop-name-test.true (c.loop-name.invariant.so_far f h none)
        w.in_ok-last.last.now (sym w.fits.ensures ∙ w.if-not-fits.false) (w.in_ok-last.ensures.alike f (c.loop-name.invariant.kept f h)));
  }
  | else-has w ↦ record {
    kept = λ f h. subst (AreAlike f) (sym w.self-is) (c.loop-name.invariant.kept f h);
    so_far = λ f h none. rw w.found-is (one_without (λ n. n.now) f c.names-name-items.result.now c.loop-name.name-index _ (option_map (λ n. n.now) c.loop-name.found) c.loop-name-test.true (c.loop-name.invariant.so_far f h none)
        (none _ (sym c.has.ensures ∙ w.if-has.false)));
  }
]
