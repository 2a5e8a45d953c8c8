-- Two texts have one pair of trees, or one refusal.
use Rattle.std.proofs.Common.{◌≡◌, ℕ, List, [], Some, ap, subst}
use Rattle.kp_tree_grammar.specs.declared.tree.Word.{Word}
use Rattle.kp_tree_grammar.specs.Trees.{Domain, Problem}
use Rattle.kp_tree_grammar.specs.Grammar as grammar
use Rattle.kp_base.specs.declared.refused.Part.TheVariants as parts
use Rattle.kp_base.specs.declared.refused.Refused.{Refused}
use Rattle.kp_names_semantics.specs.Faults.{Fault, domain_faults, problem_faults, HasNoFault}
use Rattle.kp_tree.proofs.Public.{files_read_once, files_refuse_once, files_never_both}
use Rattle.kp_names.specs.Resolved.{first_fault, refusal_of, RefusesNames, in_domain, in_problem}
use Rattle.kp_run_prepare.specs.Texts.{HaveTrees, RefusesTexts, of_domain, of_problem, of_names}

pub same_domain : (x y : List ℕ) (d e : Domain Word) (p q : Problem Word) → HaveTrees x y d p → HaveTrees x y e q → d ≡ e
same_domain x y d e p q h k = files_read_once _ _ grammar.domain x d e h.domain_reads k.domain_reads

pub same_problem : (x y : List ℕ) (d e : Domain Word) (p q : Problem Word) → HaveTrees x y d p → HaveTrees x y e q → p ≡ q
same_problem x y d e p q h k = files_read_once _ _ grammar.problem y p q h.problem_reads k.problem_reads

-- what has no fault has no first fault
no_first : (fs : List Fault) (f : Fault) → fs ≡ [] → first_fault fs ≡ Some f → ⊥
no_first fs f none is = absurd (cc (ap first_fault none, is))

names_once : (x y : List ℕ) (d : Domain Word) (p : Problem Word) (r s : Refused) → RefusesNames x y d p r → RefusesNames x y d p s → r ≡ s
names_once x y d p _ _ (in_domain f h) (in_domain g k) = let same : f ≡ g = cc in ap (refusal_of parts.Domain x) same
names_once x y d p _ _ (in_domain f h) (in_problem g none k) = absurd (no_first (domain_faults d p) f none h)
names_once x y d p _ _ (in_problem f none h) (in_domain g k) = absurd (no_first (domain_faults d p) g none k)
names_once x y d p _ _ (in_problem f none h) (in_problem g empty k) = let same : f ≡ g = cc in ap (refusal_of parts.Problem y) same

names_or_none : (x y : List ℕ) (d : Domain Word) (p : Problem Word) (r : Refused) → RefusesNames x y d p r → HasNoFault d p → ⊥
names_or_none x y d p _ (in_domain f h) none = no_first (domain_faults d p) f none.domain h
names_or_none x y d p _ (in_problem f empty h) none = no_first (problem_faults d p) f none.problem h

pub refused_once : (x y : List ℕ) (r s : Refused) → RefusesTexts x y r → RefusesTexts x y s → r ≡ s
refused_once x y _ _ (of_domain r a) (of_domain s b) = files_refuse_once parts.Domain _ _ grammar.domain x r s a b
refused_once x y _ _ (of_domain r a) (of_problem e s k b) = absurd (files_never_both parts.Domain _ _ grammar.domain x e r k a)
refused_once x y _ _ (of_domain r a) (of_names e q s k l b) = absurd (files_never_both parts.Domain _ _ grammar.domain x e r k a)
refused_once x y _ _ (of_problem d r h a) (of_domain s b) = absurd (files_never_both parts.Domain _ _ grammar.domain x d s h b)
refused_once x y _ _ (of_problem d r h a) (of_problem e s k b) = files_refuse_once parts.Problem _ _ grammar.problem y r s a b
refused_once x y _ _ (of_problem d r h a) (of_names e q s k l b) = absurd (files_never_both parts.Problem _ _ grammar.problem y q r l a)
refused_once x y _ _ (of_names d p r h i a) (of_domain s b) = absurd (files_never_both parts.Domain _ _ grammar.domain x d s h b)
refused_once x y _ _ (of_names d p r h i a) (of_problem e s k b) = absurd (files_never_both parts.Problem _ _ grammar.problem y p s i b)
refused_once x y _ _ (of_names d p r h i a) (of_names e q s k l b) =
    let domains = files_read_once _ _ grammar.domain x d e h k in
    let problems = files_read_once _ _ grammar.problem y p q i l in
    names_once x y e q r s (subst (λ z. RefusesNames x y e z r) problems (subst (λ z. RefusesNames x y z p r) domains a)) b

pub refused_or_read : (x y : List ℕ) (r : Refused) (d : Domain Word) (p : Problem Word) → RefusesTexts x y r → HaveTrees x y d p → ⊥
refused_or_read x y _ d p (of_domain r a) h = files_never_both parts.Domain _ _ grammar.domain x d r h.domain_reads a
refused_or_read x y _ d p (of_problem e r k a) h = files_never_both parts.Problem _ _ grammar.problem y p r h.problem_reads a
refused_or_read x y _ d p (of_names e q r k l a) h =
    let domains = files_read_once _ _ grammar.domain x e d k h.domain_reads in
    let problems = files_read_once _ _ grammar.problem y q p l h.problem_reads in
    names_or_none x y d p r (subst (λ z. RefusesNames x y d z r) problems (subst (λ z. RefusesNames x y z q r) domains a)) h.no_fault
