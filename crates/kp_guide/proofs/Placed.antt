-- What places cost is what their facts cost.
use Rattle.std.proofs.Common.{◌≡◌, ◌<◌, ◌+◌, ℕ, Bool, true, false, List, [], ◌∷◌, Option, Some, None, length, map, nat_lt, sym, ap, subst, ◌∙◌}
use Rattle.std.proofs.lemmas.Bool.{and_parts, ltb-true, false≢true}
use Rattle.kp_base.specs.Lists.{Member}
use Rattle.kp_base.proofs.Lists.{all_member}
use Rattle.kp_classic.specs.declared.task.Task.{Task}
use Rattle.kp_classic.specs.Fits.{are_below}
use Rattle.kp_classic.specs.States.{FactSet, has}
use Rattle.kp_classic.specs.Steps.{Holding}
use Rattle.kp_guide.specs.declared.relaxation.Relaxation.{Relaxation}
use Rattle.kp_guide.specs.declared.rule.Rule.{Rule}
use Rattle.kp_guide.specs.Added.{Costs, IsLeast, IsAdded, rules_of, goal_of}
use Rattle.kp_guide.specs.Added.Costs.{none, given, by_rule}
use Rattle.kp_guide.specs.Relaxed.{at, read, held, AreRead, HasPlaced, IsRelaxationOf}
use Rattle.kp_guide.specs.CostTables.{fits_rule}

abbrev first_of : List ℕ → ℕ
first_of [] = 0
first_of (x ∷ xs) = x

abbrev rest_of : List ℕ → List ℕ
rest_of [] = []
rest_of (x ∷ xs) = xs

abbrev is_empty : List ℕ → Bool
is_empty [] = true
is_empty (x ∷ xs) = false

module _ (all : List Rule) (facts : List ℕ) (rules : List Rule) (s : Holding) (sound : AreRead all facts rules) where
  -- a chain on places is one on facts
  to_facts : (ns : List ℕ) (n : ℕ) → Costs rules (λ i. s (at facts i)) ns n → Costs all s (map (at facts) ns) n
  to_facts ns n none = none
  to_facts ns n (given i ms m h rest) = given (at facts i) (map (at facts) ms) m h (to_facts ms m rest)
  to_facts ns n (by_rule q m ms j there needs rest) = by_rule (read facts q) m (map (at facts) ms) j (sound.known q there) (to_facts q.needs m needs) (to_facts ms j rest)

  module _ (each : (i : ℕ) (r : Rule) → i < length facts → Member all r → r.fact ≡ at facts i → HasPlaced facts rules i r) where
    -- and a chain on facts that have places is one on these
    to_places : (fs : List ℕ) (n : ℕ) → Costs all s fs n → (ns : List ℕ) → map (at facts) ns ≡ fs → are_below (length facts) ns ≡ true → Costs rules (λ i. s (at facts i)) ns n
    to_places fs n none [] e b = none
    to_places fs n none (i ∷ ns) e b = let no : false ≡ true = ap is_empty e in absurd (false≢true no)
    to_places fs n (given f gs m h rest) [] e b = let no : true ≡ false = ap is_empty e in absurd (false≢true (sym no))
    to_places fs n (given f gs m h rest) (i ∷ ns) e b =
        let parts = and_parts (nat_lt i (length facts)) (are_below (length facts) ns) b in
        given i ns m (ap s (ap first_of e) ∙ h) (to_places gs m rest ns (ap rest_of e) parts.1)
    to_places fs n (by_rule r m gs j there needs rest) [] e b = let no : true ≡ false = ap is_empty e in absurd (false≢true (sym no))
    to_places fs n (by_rule r m gs j there needs rest) (i ∷ ns) e b =
        let parts = and_parts (nat_lt i (length facts)) (are_below (length facts) ns) b in
        let c = each i r (ltb-true i (length facts) parts.0) there (sym (ap first_of e)) in
        let fits = and_parts (nat_lt c.placed.fact (length facts)) (are_below (length facts) c.placed.needs) (all_member (fits_rule (length facts)) rules c.placed c.there sound.inside) in
        subst (λ f. Costs rules (λ k. s (at facts k)) (f ∷ ns) (1 + m + j)) c.fact_is
        (by_rule c.placed m ns j c.there (to_places r.needs m needs c.placed.needs c.needs_are fits.1) (to_places gs j rest ns (ap rest_of e) parts.1))

    least_of : (ns fs : List ℕ) → map (at facts) ns ≡ fs → are_below (length facts) ns ≡ true → (h : Option ℕ) → IsLeast rules (λ i. s (at facts i)) ns h → IsLeast all s fs h
    least_of ns fs e b None l = λ n d. l n (to_places fs n d ns e b)
    least_of ns fs e b (Some h) l = ((l.0.0, subst (λ gs. Costs all s gs l.0.0) e (to_facts ns l.0.0 l.0.1), l.0.2), λ n d. l.1 n (to_places fs n d ns e b))

-- the estimate of a relaxation is that of its task
pub added_of : (t : Task) (r : Relaxation) (s : FactSet) (h : Option ℕ) → IsRelaxationOf t r → IsLeast r.index.rules.items (held r s) r.goal h → IsAdded t (has s.hold) h
added_of t r s h is l = least_of (rules_of t) r.facts.keys r.index.rules.items (has s.hold) is.rules_are is.each r.goal (goal_of t) is.goal_is r.inside h l
