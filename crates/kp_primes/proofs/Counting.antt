-- Counting the prime implicates of the first clauses.
use Rattle.std.proofs.Common.{◌≡◌, ℕ, ◌<◌, ◌≤◌, ◌+◌, List, [], ◌∷◌, ◌++◌, refl, sym, ◌∙◌, ap, subst, inl, inr, take, length, get_or, arith}
use Rattle.std.proofs.lemmas.Bool.{cases_eq}
use Rattle.std.proofs.lemmas.List.{take_more}
use Rattle.kp_base.specs.declared.lit.Lit.{Lit}
use Rattle.kp_base.specs.LitSet.{IsAscending}
use Rattle.kp_base.proofs.Lists.{append_member}
use Rattle.kp_primes.specs.Included.{included, all_included, AreSets, AreCounted, IsPassedAt}

pub all_included_more : (ps cs : List (List Lit)) (c : List Lit) → all_included ps (cs ++ c ∷ []) ≡ included (all_included ps cs) c
all_included_more ps [] c = refl
all_included_more ps (d ∷ cs) c = all_included_more (included ps d) cs c

next : (cs ps : List (List Lit)) (i : ℕ) (c : List Lit) → i < length cs → c ≡ get_or cs i c → ps ≡ all_included [] (take i cs) → included ps c ≡ all_included [] (take (i + 1) cs)
next cs ps i c lt is so =
    ap (λ z. included z c) so ∙ (sym (all_included_more [] (take i cs) c) ∙ ap (all_included []) (ap (λ z. take i cs ++ z ∷ []) is ∙ sym (take_more cs i c lt)))

sets_more : (cs : List (List Lit)) (i : ℕ) (c : List Lit) → i < length cs → c ≡ get_or cs i c → AreSets (take i cs) → IsAscending c → AreSets (take (i + 1) cs)
sets_more cs i c lt is sets asc =
    subst AreSets (sym (take_more cs i c lt)) (λ d m. elim (append_member (take i cs) (get_or cs i c ∷ []) d m) [
      | inl r ↦ sets d r
      | inr r ↦ elim r [ inl e ↦ subst IsAscending (is ∙ e) asc | inr bad ↦ absurd bad ]
    ])

pub counted_more : (cs ps : List (List Lit)) (limit i : ℕ) (c : List Lit) → i < length cs → c ≡ get_or cs i c → IsAscending c → AreCounted cs limit i ps → length (included ps c) ≤ limit → AreCounted cs limit (i + 1) (included ps c)
counted_more cs ps limit i c lt is asc counted le =
    let so = next cs ps i c lt is counted.so_far in
    record {
      so_far = so;
      sets = sets_more cs i c lt is counted.sets asc;
      within_limit = λ j h. elim (cases_eq j (i + 1)) [
        | inl e ↦ subst (λ z. length (all_included [] (take z cs)) ≤ limit) (sym e) (subst (λ (z : List (List Lit)). length z ≤ limit) so le)
        | inr ne ↦ counted.within_limit j (omega arith)
      ];
    }

pub passed_at : (cs ps : List (List Lit)) (limit i : ℕ) (c : List Lit) → i < length cs → c ≡ get_or cs i c → IsAscending c → AreCounted cs limit i ps → limit < length (included ps c) → IsPassedAt cs limit (i + 1)
passed_at cs ps limit i c lt is asc counted more = record {
  there = omega arith;
  sets = sets_more cs i c lt is counted.sets asc;
  over = subst (λ (z : List (List Lit)). limit < length z) (next cs ps i c lt is counted.so_far) more;
  before = λ j h. counted.within_limit j (omega arith);
}
