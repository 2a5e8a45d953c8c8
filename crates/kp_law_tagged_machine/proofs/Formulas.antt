-- Formulas with the same models say the same.
use Rattle.std.proofs.Common.{ℕ, List, length, sym, ◌∙◌}
use Rattle.kp_base.specs.declared.lit.Lit.{Lit}
use Rattle.kp_base.specs.declared.ground.Initial.{Initial}
use Rattle.kp_base.specs.Entailed.{IsClosure, HaveSameModels}
use Rattle.kp_law_tagged_machine.specs.Formulas.{SameModelsSayTheSame}
use Rattle.kp_law_tagged_machine.proofs.Exclusive.{by_models, first_by_models, free_by_models}

closure_by_models : (i j : Initial) → HaveSameModels i j → (atoms : ℕ) (tag closure : List Lit) → IsClosure atoms i tag closure → IsClosure atoms j tag closure
closure_by_models i j same atoms tag closure h = record {
  of_atoms = h.of_atoms;
  entailed = λ l m s is all. h.entailed l m s (same s ∙ is) all;
  whole = λ l below e. h.whole l below (λ s is all. e s (sym (same s) ∙ is) all);
}

pub same_models : SameModelsSayTheSame
same_models g i j same = record {
  closures = closure_by_models i j same;
  consistent = λ tag h. record { state = h.state; model = sym (same h.state) ∙ h.model; all_true = h.all_true };
  valid = λ table m h s is. h s (same s ∙ is);
  tables = λ table h. record { first = h.first; tags = h.tags; closures = λ row m. closure_by_models i j same (length g.atoms) row.lits row.closure (h.closures row m) };
  exclusive = λ pairs. by_models g i j (length g.atoms) pairs same;
  first_clash = λ c. first_by_models g i j c same;
  clash_free = free_by_models g i j same;
}
