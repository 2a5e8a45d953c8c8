-- The table of the empty tag alone.
use Rattle.std.proofs.Common.{◌≡◌, zero, suc, true, List, [], ◌∷◌, map, slice_get, length, refl, ap, subst, inl, inr}
use Rattle.std.proofs.lemmas.Bool.{and_parts, false≢true}
use Rattle.kp_base.specs.declared.lit.Lit.{Lit}
use Rattle.kp_base.specs.declared.ground.Ground.{Ground}
use Rattle.kp_base.specs.declared.ground.TagRow.{TagRow}
use Rattle.kp_base.specs.Lists.{Member}
use Rattle.kp_base.specs.Entailed.{IsClosure}
use Rattle.kp_base.specs.Machine.{MachineStep, Known, start, may_act, after_act, accepts_from, stripped, one_tag_table}
use Rattle.kp_law_tagged_machine.specs.Laws.{OneTagIsTable, OneTagHasNoMerges}

pub is_table : OneTagIsTable
is_table g i closure right = (
  record {
    first = (record { lits = []; closure = closure }, refl, refl);
    tags = λ m t in-m in-t. absurd in-m;
    closures = λ row in-row. closed row in-row;
  },
  record { each = λ m in-m. absurd in-m },
)
  where
    closed : (row : TagRow) → Member (one_tag_table closure).tags row → IsClosure (length g.atoms) i row.lits row.closure
    closed row (inl e) = subst (λ (r : TagRow). IsClosure (length g.atoms) i r.lits r.closure) e right
    closed row (inr m) = absurd m

only_acts : (g : Ground) (closure : List Lit) (steps : List MachineStep) (k : Known) → accepts_from g (one_tag_table closure) k steps ≡ true → steps ≡ map MachineStep.act (stripped steps)
only_acts g closure [] k h = refl
only_acts g closure (MachineStep.act n ∷ steps) k h = ap (λ rest. MachineStep.act n ∷ rest) (only_acts g closure steps (after_act (slice_get g.actions n) k) (and_parts (may_act (slice_get g.actions n) k) (accepts_from g (one_tag_table closure) (after_act (slice_get g.actions n) k) steps) h).1)
only_acts g closure (MachineStep.merge zero ∷ steps) k h = absurd (false≢true h)
only_acts g closure (MachineStep.merge (suc n) ∷ steps) k h = absurd (false≢true h)

pub has_no_merges : OneTagHasNoMerges
has_no_merges g closure steps h = only_acts g closure steps (start (one_tag_table closure)) h
