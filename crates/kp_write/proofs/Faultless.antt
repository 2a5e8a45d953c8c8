-- The written texts of a task have a problem: no name in them is at fault.
use Rattle.std.proofs.Common.{◌≡◌, ℕ, Bool, true, false, ◌||◌, List, [], ◌∷◌, map, find, inl, inr, refl, sym, ap, subst, ◌∙◌}
use Rattle.std.proofs.lemmas.Bool.{false≢true}
use Rattle.std.specs.List.{AllByRecursion, IsDistinct, flat_map}
use Rattle.kp_tree_grammar.specs.declared.tree.Word.{Word}
use Rattle.kp_tree_grammar.specs.Trees.{Cond, conds_of, effs_of, Pred, Domain, Problem}
use Rattle.kp_tree_grammar.specs.Words.{IsHead}
use Rattle.kp_tree_grammar.specs.TreeMaps.{atom_map, cond_map, conds_map, eff_map, effs_map, item_map, pred_map, schema_map, domain_map, problem_map}
use Rattle.kp_base.specs.Lists.{Member}
use Rattle.kp_base.proofs.Each.{each_member, each_weaker}
use Rattle.kp_base.proofs.Lists.{same-refl}
use Rattle.kp_names_semantics.specs.Names.{Name, same, is_among}
use Rattle.kp_names_semantics.specs.Faults.{repeated, twice_in, words, head_faults, atom_faults, cond_faults, conds_faults, eff_faults, effs_faults, schema_faults, item_faults, HasNoFault}
use Rattle.kp_names_semantics.proofs.Public.{places_mean_nothing}
use Rattle.kp_write.specs.Operators.{Signed, Effect, Op}
use Rattle.kp_write.specs.Names.{IsEffect, IsOp, AreHeads}
use Rattle.kp_write.specs.Trees.{atom_of, fact_holds, signed_holds, made_where, effect_of, schema_of, predicate_of, item_of, written_domain, written_problem}
use Rattle.kp_write.specs.Problems.{AreAmong, IsEffectOn, IsOpOn, IsTask, WrittenTextsHaveProblem}
use Rattle.kp_write.proofs.Placed.{at_start, placed_domain, placed_problem, moved, domain_moved, problem_moved, same_no}
use Rattle.kp_write.proofs.Whole.{written_domains_read, written_problems_read}

-- ---- what is used can be written

module _ (facts : List (List ℕ)) (heads : AreHeads facts) where
  head_is : (n : List ℕ) → Member facts n → IsHead n
  head_is n m = each_member IsHead facts n heads m

  heads_are : (ns : List (List ℕ)) → AreAmong facts ns → AreHeads ns
  heads_are ns all = each_weaker (Member facts) IsHead head_is ns all

  effect_is : (e : Effect) → IsEffectOn facts e → IsEffect e
  effect_is e h = record { conds = each_weaker (λ s. Member facts s.fact) (λ s. IsHead s.fact) (λ s m. head_is s.fact m) e.conds h.conds; result = head_is e.result.fact h.result }

  op_is : (o : Op) → IsOpOn facts o → IsOp o
  op_is o h = record { name = h.name; pre = heads_are o.pre h.pre; effects = each_weaker (IsEffectOn facts) IsEffect effect_is o.effects h.effects }

-- ---- no declaration twice

neither : (a b : Bool) → a ≡ false → b ≡ false → a || b ≡ false
neither false false e h = refl
neither true b e h = absurd cc
neither false true e h = absurd cc

none_among : (x : Name) (earlier ys : List Name) → AllByRecursion (λ y. same x y ≡ false) ys → AllByRecursion (λ y. is_among earlier y ≡ false) ys → AllByRecursion (λ y. is_among (x ∷ earlier) y ≡ false) ys
none_among x earlier [] a b = tt
none_among x earlier (y ∷ ys) a b = (neither (same y x) (is_among earlier y) (same_no x y a.0) b.0, none_among x earlier ys a.1 b.1)

none_twice : (earlier ns : List Name) → IsDistinct same ns → AllByRecursion (λ y. is_among earlier y ≡ false) ns → repeated earlier (map at_start ns) ≡ []
unfolding IsDistinct
none_twice earlier [] d a = refl
none_twice earlier (n ∷ ns) d a = rw (a.0) (none_twice (n ∷ earlier) ns d.1 (none_among n earlier ns d.0 a.1))

none_yet : (ns : List Name) → AllByRecursion (λ y. is_among [] y ≡ false) ns
none_yet [] = tt
none_yet (n ∷ ns) = (refl, none_yet ns)

no_repeats : (ns : List Name) → IsDistinct same ns → twice_in (map at_start ns) ≡ []
no_repeats ns d = none_twice [] ns d (none_yet ns)

-- ---- no name at fault

-- the declarations of the facts
abbrev predicates : List (List ℕ) → List (Pred Word)
predicates facts = map (pred_map at_start) (map predicate_of facts)

declared_fact : (facts : List (List ℕ)) (n : List ℕ) → Member facts n → head_faults (find (λ q. same q.head.text n) (predicates facts)) (atom_map at_start (atom_of n)) ≡ []
declared_fact [] n m = absurd m
declared_fact (x ∷ xs) n m = go (declared_fact xs n) (same x n) refl m where
  go : (Member xs n → head_faults (find (λ q. same q.head.text n) (predicates xs)) (atom_map at_start (atom_of n)) ≡ []) → (b : Bool) → same x n ≡ b → Member (x ∷ xs) n → head_faults (find (λ q. same q.head.text n) (predicates (x ∷ xs))) (atom_map at_start (atom_of n)) ≡ []
  go later true e m = rw e refl
  go later false e (inl k) = absurd (false≢true (sym e ∙ ap (λ y. same y n) k ∙ same-refl n))
  go later false e (inr k) = rw e (later k)

module _ (facts : List (List ℕ)) (ops : List Op) (start goal : List (List ℕ)) where
  abbrev d : Domain Word
  d = placed_domain facts ops

  abbrev p : Problem Word
  p = placed_problem start goal

  atom_ok : (scope : List Name) (n : List ℕ) → Member facts n → atom_faults d p scope (atom_map at_start (atom_of n)) ≡ []
  atom_ok scope n m = rw (declared_fact facts n m) refl

  conds_ok : {T : Type 0} (scope : List Name) (tree : T → Cond (List ℕ)) (P : T → Type 0) → ((x : T) → P x → cond_faults d p scope (cond_map at_start (tree x)) ≡ []) → (xs : List T) → AllByRecursion P xs
      → conds_faults d p scope (conds_map at_start (conds_of (map tree xs))) ≡ []
  conds_ok scope tree P e [] all = refl
  conds_ok scope tree P e (x ∷ xs) all = rw (e x all.0, conds_ok scope tree P e xs all.1) refl

  facts_ok : (scope : List Name) (ns : List (List ℕ)) → AreAmong facts ns → conds_faults d p scope (conds_map at_start (conds_of (map fact_holds ns))) ≡ []
  facts_ok scope ns all = conds_ok scope fact_holds (Member facts) (atom_ok scope) ns all

  made_ok : (scope : List Name) (cs : List Signed) (s : Signed) → AllByRecursion (λ s. Member facts s.fact) cs → Member facts s.fact → eff_faults d p scope (eff_map at_start (made_where cs s)) ≡ []
  made_ok scope [] s all m = atom_ok scope s.fact m
  made_ok scope (c ∷ cs) s all m = rw (conds_ok scope signed_holds (λ t. Member facts t.fact) (λ t k. atom_ok scope t.fact k) (c ∷ cs) all, atom_ok scope s.fact m) refl

  effects_ok : (scope : List Name) (es : List Effect) → AllByRecursion (IsEffectOn facts) es → effs_faults d p scope (effs_map at_start (effs_of (map effect_of es))) ≡ []
  effects_ok scope [] all = refl
  effects_ok scope (e ∷ es) all = rw (made_ok scope e.conds e.result all.0.conds all.0.result, effects_ok scope es all.1) refl

  op_ok : (o : Op) → IsOpOn facts o → schema_faults d p (schema_map at_start (schema_of o)) ≡ []
  op_ok o h = rw (facts_ok [] o.pre h.pre, effects_ok [] o.effects h.effects) refl

  ops_ok : (os : List Op) → AllByRecursion (IsOpOn facts) os → flat_map (schema_faults d p) (map (schema_map at_start) (map schema_of os)) ≡ []
  ops_ok [] all = refl
  ops_ok (o ∷ os) all = rw (op_ok o all.0, ops_ok os all.1) refl

  no_params : (ns : List (List ℕ)) → flat_map (λ q. twice_in (words q.params)) (predicates ns) ≡ []
  no_params [] = refl
  no_params (n ∷ ns) = no_params ns

  start_ok : (ns : List (List ℕ)) → AreAmong facts ns → flat_map (item_faults d p) (map (item_map at_start) (map item_of ns)) ≡ []
  start_ok [] all = refl
  start_ok (n ∷ ns) all = rw (atom_ok [] n all.0, start_ok ns all.1) refl

  no_fault : IsTask facts ops start goal → HasNoFault d p
  no_fault t =
      let facts_once : twice_in (map (λ q. q.head) (predicates facts)) ≡ [] = ap twice_in (heads facts) ∙ no_repeats facts t.facts_differ in
      let ops_once : twice_in (map (λ a. a.name) d.schemas) ≡ [] = ap twice_in (names ops) ∙ no_repeats (map (λ o. o.name) ops) t.operators_differ in
      record {
        domain = rw (facts_once, no_params facts, ops_once, ops_ok ops t.operators) refl;
        problem = rw (start_ok start t.start_among, facts_ok [] goal t.goal_among) refl;
      }
    where
      heads : (ns : List (List ℕ)) → map (λ q. q.head) (predicates ns) ≡ map at_start ns
      heads [] = refl
      heads (n ∷ ns) = ap (λ ws. at_start n ∷ ws) (heads ns)

      names : (os : List Op) → map (λ a. a.name) (map (schema_map at_start) (map schema_of os)) ≡ map at_start (map (λ o. o.name) os)
      names [] = refl
      names (o ∷ os) = ap (λ ws. at_start o.name ∷ ws) (names os)

-- ---- the problem of the texts

pub written_texts_have_problem : WrittenTextsHaveProblem
written_texts_have_problem facts ops start goal t =
    let a = written_domains_read facts ops t.heads (each_weaker (IsOpOn facts) IsOp (op_is facts t.heads) ops t.operators) in
    let b = written_problems_read start goal (heads_are facts t.heads start t.start_among) (heads_are facts t.heads goal t.goal_among) in
    let clean : HasNoFault (domain_map moved a.tree) (problem_map moved b.tree) = subst (λ x. HasNoFault x (problem_map moved b.tree)) (domain_moved a.tree (written_domain facts ops) a.is) (subst (λ y. HasNoFault (placed_domain facts ops) y) (problem_moved b.tree (written_problem start goal) b.is) (no_fault facts ops start goal t)) in
    record {
      has = record { domain = a.tree; problem = b.tree; domain_reads = a.reads; problem_reads = b.reads; no_fault = (places_mean_nothing moved (λ w. refl) a.tree b.tree).faults.1 clean };
      domain = a.is;
      problem = b.is;
    }
