-- Three cells, something in just one of them: the merge of three tags has the table with which the machine goes there.
use Rattle.std.proofs.Common.{◌≡◌, ◌≤◌, ℕ, Bool, true, false, not, List, [], ◌∷◌, nat_eq, eqb-true, refl, sym, ap, subst, ◌∙◌, inl, inr, arith}
use Rattle.std.specs.List.{list_all}
use Rattle.std.proofs.lemmas.Bool.{and_parts, or_cases, false≢true, false_from_ne_true}
use Rattle.kp_base.specs.declared.lit.Lit.{Lit}
use Rattle.kp_base.specs.declared.lit.AtomId.{AtomId}
use Rattle.kp_base.specs.declared.ground.TagRow.{TagRow}
use Rattle.kp_base.specs.declared.refused.Refused.TheVariants as refusals
use Rattle.kp_base.specs.Planning.{Member, positive, IsAscending, State, holds, is_model, ComesBefore, IsConsistent, AreValid, IsTable}
use Rattle.kp_law_tagged_machine.proofs.Public.{cells_ground, one_cell_is_full, cells_table, cells_table_is_right as right, cells_merges_are_valid as valid}
use Rattle.kp_primes.specs.Held.{Held}
use Rattle.kp_primes_first_model.specs.Ordered.{state_of_atoms, AreFirst}
use Rattle.kp_cover.specs.Valid.{satisfies_one, AreValidTags, is_outside}
use Rattle.kp_tags_files.specs.declared.merge.FileMerge.{FileMerge}
use Rattle.kp_tags.specs.MergeTables.{IsTableOf}
use Rattle.kp_tags.specs.Answers.{AreConsistent, AreAcceptable, AreAllAcceptable, RefusesMerge, Accepts, RefusesTable}
use Rattle.kp_tags.proofs.Right as tables

abbrev held : Held
held = record { atoms = 3; clauses = one_cell_is_full.clauses }

-- the first cell is full, or the second, or the third
abbrev tags : List (List Lit)
tags = (positive 0 ∷ []) ∷ (positive 1 ∷ []) ∷ (positive 2 ∷ []) ∷ []

abbrev file : List FileMerge
file = record { target = positive 0; tags = tags } ∷ []

-- ---- accepted

-- one cell alone
abbrev alone : ℕ → State
alone p q = nat_eq p q

consistent : AreConsistent one_cell_is_full tags
consistent = record { each = each }
  where
    each : (t : List Lit) → Member tags t → IsConsistent one_cell_is_full t
    each t (inl e) = subst (IsConsistent one_cell_is_full) e (record { state = alone 0; model = refl; all_true = refl })
    each t (inr (inl e)) = subst (IsConsistent one_cell_is_full) e (record { state = alone 1; model = refl; all_true = refl })
    each t (inr (inr (inl e))) = subst (IsConsistent one_cell_is_full) e (record { state = alone 2; model = refl; all_true = refl })
    each t (inr (inr (inr none))) = absurd none

valid_tags : AreValidTags one_cell_is_full tags
valid_tags s model = valid.each (record { target = positive 0; tags = 1 ∷ 2 ∷ 3 ∷ [] }) (inl refl) s model

no_fault : AreAllAcceptable one_cell_is_full file
no_fault = record { each = each }
  where
    each : (m : FileMerge) → Member file m → AreAcceptable one_cell_is_full m.tags
    each m (inl e) = subst (λ (x : FileMerge). AreAcceptable one_cell_is_full x.tags) e (record { consistent = consistent; valid = valid_tags })
    each m (inr none) = absurd none

is_table : IsTableOf 3 one_cell_is_full file cells_table
is_table = record { tags = refl; closures = λ row m. record { closure = right.closures row m; ascending = ascends row m }; merges = refl }
  where
    ascends : (row : TagRow) → Member cells_table.tags row → IsAscending row.closure
    ascends row (inl e) = subst (λ (r : TagRow). IsAscending r.closure) e tt
    ascends row (inr (inl e)) = subst (λ (r : TagRow). IsAscending r.closure) e (omega arith, (omega arith, tt))
    ascends row (inr (inr (inl e))) = subst (λ (r : TagRow). IsAscending r.closure) e (omega arith, (omega arith, tt))
    ascends row (inr (inr (inr (inl e)))) = subst (λ (r : TagRow). IsAscending r.closure) e (omega arith, (omega arith, tt))
    ascends row (inr (inr (inr (inr none)))) = absurd none

-- four tags, the empty one included, are within four
accepted : Accepts 3 one_cell_is_full file 4 cells_table
accepted = record { acceptable = no_fault; within_limit = omega arith; is_table = is_table }

-- and so the table is right
is_right : IsTable cells_ground one_cell_is_full cells_table × AreValid one_cell_is_full cells_table
is_right = tables.right cells_ground one_cell_is_full file cells_table no_fault is_table

-- ---- refused

-- but not within three
too_many : RefusesTable 3 one_cell_is_full file 3 refusals.TagsOver
too_many = RefusesTable.tags_over no_fault (omega arith)

-- the first and the second cell aren't both full
abbrev both : List Lit
both = positive 0 ∷ positive 1 ∷ []

both_full : IsConsistent one_cell_is_full both → ⊥
both_full c = by c.state (c.state 0) (c.state 1) refl refl c.model c.all_true
  where
    by : (s : State) (a b : Bool) → s 0 ≡ a → s 1 ≡ b → is_model one_cell_is_full s ≡ true → list_all (holds s) both ≡ true → ⊥
    by s true true e f m t = false≢true (rw (e, f) at m)
    by s true false e f m t = false≢true (rw (e, f) at t)
    by s false b e f m t = false≢true (rw e at t)

abbrev with_both : FileMerge
with_both = record { target = positive 0; tags = (positive 2 ∷ []) ∷ both ∷ [] }

second_tag_refused : RefusesTable 3 one_cell_is_full (with_both ∷ []) 4 (refusals.TagInconsistent 0 1)
second_tag_refused = RefusesTable.at_fault (refusals.TagInconsistent 0 1) (record {
  number = 0;
  merge = with_both;
  merge_at = refl;
  before = record { each = λ m none. absurd none };
  fault = RefusesMerge.inconsistent 1 (record {
    tag = both;
    tag_at = refl;
    inconsistent = both_full;
    before = record { each = λ t m. elim m [ inl e ↦ subst (IsConsistent one_cell_is_full) e (record { state = alone 2; model = refl; all_true = refl }) | inr none ↦ absurd none ] };
  });
})

-- with two tags alone, the state with the third cell full is outside
abbrev two : List (List Lit)
two = (positive 0 ∷ []) ∷ (positive 1 ∷ []) ∷ []

third_outside : (t : State) → is_outside one_cell_is_full two t ≡ true → t 2 ≡ true
third_outside t h = by (t 0) (t 1) (t 2) refl refl refl (and_parts (is_model one_cell_is_full t) (not (satisfies_one two t)) h)
  where
    by : (a b c : Bool) → t 0 ≡ a → t 1 ≡ b → t 2 ≡ c → (is_model one_cell_is_full t ≡ true) × (not (satisfies_one two t) ≡ true) → t 2 ≡ true
    by true b c e f g parts = absurd (false≢true (rw e at parts.1))
    by false true c e f g parts = absurd (false≢true (rw (e, f) at parts.1))
    by false false true e f g parts = g
    by false false false e f g parts = absurd (false≢true (rw (e, f, g) at parts.0))

abbrev third_cell : List AtomId
third_cell = record { 0 = 2 } ∷ []

its_atom : (p : ℕ) → state_of_atoms third_cell p ≡ true → p ≡ 2
its_atom p h = elim (or_cases (nat_eq 2 p) false h) [ inl e ↦ sym (eqb-true 2 p e) | inr e ↦ absurd (false≢true e) ]

past_three : (p : ℕ) → 3 ≤ p → state_of_atoms third_cell p ≡ false
past_three p h = false_from_ne_true (state_of_atoms third_cell p) (λ t. let e = its_atom p t in omega arith)

none_before : (t : State) → is_outside one_cell_is_full two t ≡ true → ComesBefore t (state_of_atoms third_cell) → ⊥
none_before t h b = false≢true (sym b.absent ∙ (ap t (its_atom b.at b.present) ∙ third_outside t h))

third_is_first : AreFirst 3 (is_outside one_cell_is_full two) third_cell
third_is_first = (record { bounded = record { none_past = past_three }; passed = refl; first = none_before }, tt)

abbrev of_two : FileMerge
of_two = record { target = positive 0; tags = two }

third_cell_refused : RefusesTable 3 one_cell_is_full (of_two ∷ []) 4 (refusals.MergeInvalid 0 third_cell)
third_cell_refused = RefusesTable.at_fault (refusals.MergeInvalid 0 third_cell) (record {
  number = 0;
  merge = of_two;
  merge_at = refl;
  before = record { each = λ m none. absurd none };
  fault = RefusesMerge.invalid third_cell (record { each = λ t m. consistent.each t (elim m [ inl e ↦ inl e | inr later ↦ inr (elim later [ inl e ↦ inl e | inr none ↦ absurd none ]) ]) }) third_is_first;
})
