-- The empty tag alone is the table of no merges, as `k0` has none, and its task is within the limits. Where no effect has a condition, it covers each target, and is the table of each mode.
use Rattle.std.proofs.Common.{◌≡◌, ℕ, List, [], ◌∷◌, Some, length, inl, inr, refl, sym, ap, subst, ◌∙◌, arith}
use Rattle.std.proofs.lemmas.Bool.{false≢true}
use Rattle.std.proofs.lemmas.List.{length-map}
use Rattle.kp_base.specs.declared.lit.Lit.{Lit}
use Rattle.kp_base.specs.declared.ground.Action.{Action}
use Rattle.kp_base.specs.declared.ground.Effect.{Effect}
use Rattle.kp_base.specs.declared.ground.Ground.{Ground}
use Rattle.kp_base.specs.declared.ground.Initial.{Initial}
use Rattle.kp_base.specs.declared.ground.TagTable.{TagTable}
use Rattle.kp_base.specs.declared.limits.Mode.TheVariants as modes
use Rattle.kp_base.specs.Planning.{Member, code_of, positive, negative, negated, IsRelevant, IsCandidate, AreRelevant, IsCovered, AreUncovered}
use Rattle.kp_tree_grammar.specs.declared.tree.Word.{Word}
use Rattle.kp_tree_grammar.specs.Trees.{Domain, Problem}
use Rattle.kp_base.specs.declared.limits.Mode.{Mode}
use Rattle.kp_cover.specs.Targets.{AreTargets}
use Rattle.kp_tags_modes.specs.declared.way.Way.{Way}
use Rattle.kp_tags_modes.specs.Modes.{way_of, AreMergesBy, AreMergesInTurn, AreMergesOf}
use Rattle.kp_tags.specs.MergeTables.{HasClosure, IsTableOf}
use Rattle.kp_tags.specs.Made.{IsMade}
use Rattle.kp_base.proofs.Closures.{closure_over_first_atoms}
use Rattle.kp_law_translation.specs.OfTrees.{ground_of, initial_of}
use Rattle.kp_law_translation.specs.Tables.{empty_tag}
use Rattle.kp_law_translation.proofs.Public.{formulas_speak_of_ground_atoms, empty_tags_are_light}
use Rattle.kp_names_semantics.specs.Numbering.{numbered_problem}
use Rattle.kp_ground_semantics.specs.Ground.{ground_atoms, atom_name}
use Rattle.kp_law_ktask.proofs.Public.{facts_are_counted}
use Rattle.kp_run_prepare.specs.Prepared.{usual}
use Rattle.kp_run_inputs.specs.Laws.{EmptyTagsFit}

-- ---- the table of no merges

pub table_of_none : (d : Domain Word) (p : Problem Word) → IsTableOf (length (ground_of d p).atoms) (initial_of d p) [] (empty_tag d p)
table_of_none d p =
    let exact = closure_over_first_atoms (initial_of d p) (length (ground_of d p).atoms) (formulas_speak_of_ground_atoms d p) [] refl in
    record {
      tags = refl;
      closures = λ row m. elim m [
        | inl same ↦ subst (HasClosure (length (ground_of d p).atoms) (initial_of d p)) same (record { closure = exact.closure; ascending = exact.ascending })
        | inr none ↦ absurd none
      ];
      merges = refl;
    }

pub empty_tag_made : (d : Domain Word) (p : Problem Word) → IsMade modes.K0 usual (ground_of d p) (initial_of d p) (empty_tag d p)
empty_tag_made d p = record { merges = []; of_mode = AreMergesOf.none; within_limit = omega arith; is_table = table_of_none d p }

-- ---- no conditions

-- no effect of the actions has a condition
abbrev pub HaveNoConditions : List Action → Type 0
HaveNoConditions acts = (a : Action) (e : Effect) → Member acts a → Member a.effects e → e.cond ≡ []

module _ (g : Ground) (i : Initial) (none : HaveNoConditions g.actions) where
  -- then each literal is relevant to itself alone
  itself_alone : (l m : Lit) → IsRelevant g.actions l m → l ≡ m
  itself_alone l _ (IsRelevant.itself _) = refl
  itself_alone l m (IsRelevant.condition _ _ h) = absurd (subst (λ (c : List Lit). Member c l) (none h.action h.effect h.action_in h.effect_in) h.condition)
  itself_alone l n (IsRelevant.onward _ m _ h k) = itself_alone l m h ∙ itself_alone m n k
  itself_alone _ _ (IsRelevant.negation l m h) = ap negated (itself_alone l m h)

  no_clause : (target : Lit) (c : List Lit) → IsCandidate (length g.atoms) i c → AreRelevant g.actions target c → ⊥
  no_clause target _ (IsCandidate.unsettled p below differ) each =
      let same : positive p ≡ negative p = itself_alone (positive p) target (each (positive p) (inl refl)) ∙ sym (itself_alone (negative p) target (each (negative p) (inr (inl refl)))) in
      false≢true (sym (ap (λ (l : Lit). l.positive) same))
  no_clause target _ (IsCandidate.implicate [] is long) each = absurd (omega (arith, long))
  no_clause target _ (IsCandidate.implicate (x ∷ []) is long) each = absurd (omega (arith, long))
  no_clause target _ (IsCandidate.implicate (x ∷ y ∷ ls) is long) each =
      let same : x ≡ y = itself_alone x target (each x (inl refl)) ∙ sym (itself_alone y target (each y (inr (inl refl)))) in
      let rises = is.ascending.0 in
      let codes = ap code_of same in
      absurd (omega (arith, rises, codes))

  -- so the empty tag covers each target
  pub nothing_uncovered : (table : TagTable) → AreUncovered g i table []
  nothing_uncovered table = record {
    exact = λ l. (λ m. absurd m, λ u. absurd (u.1 (IsCovered.by_empty_tag (λ tag c m is. absurd (no_clause l c is.candidate is.relevant)))));
    ascending = tt;
  }

  -- no merge is made for a target
  none_in_turn : (way : Way) (limit : ℕ) (targets : List Lit) → AreMergesInTurn way limit g i targets []
  none_in_turn way limit [] = AreMergesInTurn.done
  none_in_turn way limit (target ∷ targets) =
      AreMergesInTurn.more target targets [] []
      (record { clauses = []; are_clauses = record { exact = λ c. (λ m. absurd m, λ is. absurd (no_clause target c is.candidate is.relevant)); once = tt; in_order = λ k d low less. absurd (omega (arith, less)) }; by_clauses = AreMergesBy.empty_tag (λ tag c m k. absurd k) })
      (none_in_turn way limit targets)

-- so it is the table of each mode
pub empty_tag_made_in_modes : (d : Domain Word) (p : Problem Word) (mode : Mode) (way : Way) (targets : List Lit) → HaveNoConditions (ground_of d p).actions → way_of mode ≡ Some way → AreTargets (ground_of d p) targets → IsMade mode usual (ground_of d p) (initial_of d p) (empty_tag d p)
empty_tag_made_in_modes d p mode way targets none is are = record {
  merges = [];
  of_mode = subst (λ w. AreMergesOf usual.sets (ground_of d p) (initial_of d p) w []) (sym is) (AreMergesOf.of_targets way targets [] are (none_in_turn (ground_of d p) (initial_of d p) none way usual.sets targets));
  within_limit = omega arith;
  is_table = table_of_none d p;
}

-- ---- its task

-- there are at most two facts for each of 4,096 atoms
pub empty_tags_fit : EmptyTagsFit
empty_tags_fit d p w = record {
  facts = (let a = facts_are_counted (ground_of d p) (empty_tag d p) in let b = length-map (ground_atoms (numbered_problem d p)) (atom_name (numbered_problem d p)) in let c = w.atoms in omega (arith, a, b, c));
  weight = (let a = empty_tags_are_light d p in let b = w.counts.weight in omega (arith, a, b));
}
