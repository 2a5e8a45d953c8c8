-- Formulas with the same models have the same answers on merges.
use Rattle.std.proofs.Common.{◌&&◌, ◌∙◌, ℕ, List, Some, Ok, Err, take, not, sym, ap}
use Rattle.kp_base.specs.declared.lit.Lit.{Lit}
use Rattle.kp_base.specs.declared.lit.AtomId.{AtomId}
use Rattle.kp_base.specs.declared.ground.Initial.{Initial}
use Rattle.kp_base.specs.declared.ground.TagTable.{TagTable}
use Rattle.kp_base.specs.declared.refused.Refused.{Refused}
use Rattle.kp_base.specs.declared.refused.Stop.TheVariants as stops
use Rattle.kp_base.specs.Entailed.{IsConsistent, IsClosure, HaveSameModels}
use Rattle.kp_primes_first_model.specs.Ordered.{AreFirst}
use Rattle.kp_primes_first_model.proofs.Public.{first_by_passing}
use Rattle.kp_cover.specs.Valid.{satisfies_one, is_outside}
use Rattle.kp_tags_files.specs.declared.merge.FileMerge.{FileMerge}
use Rattle.kp_tags.specs.MergeTables.{IsTableOf}
use Rattle.kp_tags.specs.Answers.{AreConsistent, IsFirstInconsistent, AreAcceptable, RefusesMerge, inconsistent, invalid, AreAllAcceptable, RefusesTable, at_fault, tags_over}
use Rattle.kp_tags.specs.Laws.{TablesGoByModels}

back : (i j : Initial) → HaveSameModels i j → HaveSameModels j i
back i j same s = sym (same s)

consistent_by : (i j : Initial) → HaveSameModels i j → (t : List Lit) → IsConsistent i t → IsConsistent j t
consistent_by i j same t c = record { state = c.state; model = sym (same c.state) ∙ c.model; all_true = c.all_true }

closure_by : (atoms : ℕ) (i j : Initial) → HaveSameModels i j → (t ls : List Lit) → IsClosure atoms i t ls → IsClosure atoms j t ls
closure_by atoms i j same t ls c = record {
  of_atoms = c.of_atoms;
  entailed = λ l m s model. c.entailed l m s (same s ∙ model);
  whole = λ l below e. c.whole l below (λ s model. e s (sym (same s) ∙ model));
}

module _ (i j : Initial) (same : HaveSameModels i j) where
  all_consistent : (tags : List (List Lit)) → AreConsistent i tags → AreConsistent j tags
  all_consistent tags h = record { each = λ t m. consistent_by i j same t (h.each t m) }

  first_inconsistent : (tags : List (List Lit)) (place : ℕ) → IsFirstInconsistent i tags place → IsFirstInconsistent j tags place
  first_inconsistent tags place h = record { tag = h.tag; tag_at = h.tag_at; inconsistent = λ c. h.inconsistent (consistent_by j i (back i j same) h.tag c); before = all_consistent (take place tags) h.before }

  acceptable : (tags : List (List Lit)) → AreAcceptable i tags → AreAcceptable j tags
  acceptable tags h = record { consistent = all_consistent tags h.consistent; valid = λ s model. h.valid s (same s ∙ model) }

  first_outside : (atoms : ℕ) (tags : List (List Lit)) (state : List AtomId) → AreFirst atoms (is_outside i tags) state → AreFirst atoms (is_outside j tags) state
  first_outside atoms tags state = first_by_passing atoms (is_outside i tags) (is_outside j tags) (Some state) (λ s. ap (λ b. b && not (satisfies_one tags s)) (same s))

  merge_refused : (atoms number : ℕ) (tags : List (List Lit)) (r : Refused) → RefusesMerge atoms i number tags r → RefusesMerge atoms j number tags r
  merge_refused atoms number tags _ (inconsistent place h) = inconsistent place (first_inconsistent tags place h)
  merge_refused atoms number tags _ (invalid state h first) = invalid state (all_consistent tags h) (first_outside atoms tags state first)

  all_acceptable : (ms : List FileMerge) → AreAllAcceptable i ms → AreAllAcceptable j ms
  all_acceptable ms h = record { each = λ m at. acceptable m.tags (h.each m at) }

  pub table_of : (atoms : ℕ) (ms : List FileMerge) (table : TagTable) → IsTableOf atoms i ms table → IsTableOf atoms j ms table
  table_of atoms ms table h = record {
    tags = h.tags;
    closures = λ row m. record { closure = closure_by atoms i j same row.lits row.closure (h.closures row m).closure; ascending = (h.closures row m).ascending };
    merges = h.merges;
  }

  table_refused : (atoms : ℕ) (ms : List FileMerge) (limit : ℕ) (r : Refused) → RefusesTable atoms i ms limit r → RefusesTable atoms j ms limit r
  table_refused atoms ms limit r (at_fault _ h) = at_fault r (record { number = h.number; merge = h.merge; merge_at = h.merge_at; before = all_acceptable (take h.number ms) h.before; fault = merge_refused atoms h.number h.merge.tags r h.fault })
  table_refused atoms ms limit _ (tags_over h more) = tags_over (all_acceptable ms h) more

pub by_models : TablesGoByModels
by_models atoms i j ms limit (Ok table) same h = record { acceptable = all_acceptable i j same ms h.acceptable; within_limit = h.within_limit; is_table = table_of i j same atoms ms table h.is_table }
by_models atoms i j ms limit (Err (stops.Refused r)) same h = table_refused i j same atoms ms limit r h
by_models atoms i j ms limit (Err stops.Memory) same h = tt
