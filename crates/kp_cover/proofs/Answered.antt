-- A table has one answer on its coverage; relevant clauses are of the atoms; what the empty tag meets.
use Rattle.std.proofs.Common.{◌≡◌, ◌↔◌, Bool, IsTrue, List, [], ◌∷◌, nat_lt, refl, sym, ap₂, subst, ◌∙◌, inl, inr}
use Rattle.std.proofs.lemmas.Bool.{lt-ltb}
use Rattle.kp_base.specs.declared.lit.Lit.{Lit}
use Rattle.kp_base.specs.Implicates.{are_below}
use Rattle.kp_base.specs.Covering.{Meets, AllMeet}
use Rattle.kp_base.proofs.Lists.{bool_same, all_from, contains_member, member_contains}
use Rattle.kp_base.proofs.Ascending.{same_members}
use Rattle.kp_primes.specs.Held.{Held, formula, AreWhole}
use Rattle.kp_cover.specs.declared.answer.Coverage.{Coverage}
use Rattle.kp_cover.specs.Tested.{meets}
use Rattle.kp_cover.specs.Laws.{AreUncoveredOnce, IsCoverageOnce, NoneAreUncoveredIfComplete, RelevantClausesAreOfAtoms}
use Rattle.kp_cover.proofs.Deciding.{candidate_below, no_member}
use Rattle.kp_cover.proofs.Telling.{met_of, of_met}

-- ---- one answer

pub one_uncovered : AreUncoveredOnce
one_uncovered g i table a b is also = same_members a b is.ascending also.ascending
    (λ l m. member_contains b l ((also.exact l).1 ((is.exact l).0 (contains_member a l m))))
    (λ l m. member_contains a l ((is.exact l).1 ((also.exact l).0 (contains_member b l m))))

pub one_coverage : IsCoverageOnce
one_coverage g i table c d is also =
    ap₂ (λ complete uncovered. let answer : Coverage = record { complete = complete; uncovered = uncovered } in answer)
    (bool_same c.complete d.complete (λ e. also.complete.1 (is.complete.0 e)) (λ e. is.complete.1 (also.complete.0 e)))
    (one_uncovered g i table c.uncovered d.uncovered is.uncovered also.uncovered)

pub none_uncovered : NoneAreUncoveredIfComplete
none_uncovered g i table ls are complete = no_member ls (λ l m. let u = (are.exact l).0 m in u.1 (complete.each l u.0))

-- ---- relevant clauses

pub relevant_below : RelevantClausesAreOfAtoms
relevant_below h whole acts target cs are = all_from (are_below h.atoms) cs (λ c m. all_from (λ (l : Lit). nat_lt l.atom.0 h.atoms) c (λ l k. lt-ltb l.atom.0 h.atoms (candidate_below h whole c ((are.exact c).0 m).candidate l k)))

-- ---- the empty tag

pub empty_told : (h : Held) → AreWhole h → (cs : List (List Lit)) (b : Bool) → b ≡ meets h.clauses cs [] → IsTrue b ↔ AllMeet (formula h) ([] ∷ []) cs
empty_told h whole cs b is = (
  λ e tag c m k. elim m [
    | inl same ↦ subst (λ (t : List Lit). Meets (formula h) t c) same (met_of h whole cs [] [] (sym is ∙ e) c k)
    | inr none ↦ absurd none
  ],
  λ f. is ∙ of_met h whole cs [] [] (λ c k. f [] c (inl refl) k),
)
