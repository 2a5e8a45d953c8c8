-- The exclusive pairs, the union of all inductive sets, are an inductive set.
use Rattle.std.proofs.Common.{ℕ, ◌++◌, sym, ◌∙◌}
use Rattle.std.proofs.lemmas.Bool.{false≢true, false_from_ne_true}
use Rattle.kp_base.specs.Clashes.{are_compatible}
use Rattle.kp_base.specs.Exclusive.{IsPart, IsExclusive, firing_with}
use Rattle.kp_base.proofs.Exclusive.{compatible_under_fewer}
use Rattle.kp_law_tagged_machine.specs.Laws.{ExclusivePairsAreInductive}

pub union_inductive : ExclusivePairsAreInductive
union_inductive g i atoms pairs are = record {
  are_pairs = record {
    of_atoms = λ p q pair. let x = are.each p q pair in x.inductive.are_pairs.of_atoms p q x.has_pair;
    different = λ p q pair. let x = are.each p q pair in x.inductive.are_pairs.different p q x.has_pair;
    either_order = λ p q pair. let x = are.each p q pair in are.all q p (record { pairs = x.pairs; inductive = x.inductive; has_pair = x.inductive.are_pairs.either_order p q x.has_pair });
  };
  never_at_the_start = λ p q pair. let x = are.each p q pair in x.inductive.never_at_the_start p q x.has_pair;
  never_both_added = λ p q pair a e f in-a in-e in-f adds-e adds-f.
      let x = are.each p q pair in
      false_from_ne_true (are_compatible pairs (a.pre ++ (e.cond ++ f.cond))) (λ h.
      false≢true (sym (x.inductive.never_both_added p q x.has_pair a e f in-a in-e in-f adds-e adds-f) ∙ compatible_under_fewer x.pairs pairs (part x) (a.pre ++ (e.cond ++ f.cond)) h));
  other_deleted = λ p q pair a e in-a in-e adds h.
      let x = are.each p q pair in
      x.inductive.other_deleted p q x.has_pair a e in-a in-e adds (compatible_under_fewer x.pairs pairs (part x) (firing_with a e q) h);
}
  where
    part : {p q : ℕ} (x : IsExclusive g i atoms p q) → IsPart x.pairs pairs
    part x u v h = are.all u v (record { pairs = x.pairs; inductive = x.inductive; has_pair = h })
