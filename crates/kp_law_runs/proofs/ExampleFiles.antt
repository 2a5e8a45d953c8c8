-- Three pairs of files, computed: from p to q; from p to both, which nothing does; and from nothing to q, which takes two turns.
use Rattle.std.proofs.Common.{◌≡◌, ◌≤◌, ◌==◌, ◌||◌, ℕ, Bool, true, false, not, List, [], ◌∷◌, length, codes, inl, inr, refl, sym, ap, ◌∙◌, subst, arith}
use Rattle.std.specs.List.{list_all}
use Rattle.std.proofs.lemmas.Bool.{false≢true}
use Rattle.std.proofs.lemmas.Bool.Decides.{nat_tests}
use Rattle.kp_base.specs.declared.limits.Limits.{Limits}
use Rattle.kp_base.specs.declared.lit.Lit.{Lit}
use Rattle.kp_base.specs.declared.ground.Action.{Action}
use Rattle.kp_base.specs.declared.ground.Effect.{Effect}
use Rattle.kp_base.specs.Planning.{positive, negative, State, is_model, Pairs, Clashes, IsClashFree}
use Rattle.kp_base.proofs.Lists.{all_member, member_at}
use Rattle.kp_lex.specs.Bytes.{class_of}
use Rattle.kp_lex.specs.Scanning.{cut_from}
use Rattle.kp_tree_grammar.specs.Symbols.{symbol_of}
use Rattle.kp_tree_grammar.specs.Parsing.{some_at, next_at}
use Rattle.kp_tree_grammar.specs.declared.tree.Word.{Word}
use Rattle.kp_tree_grammar.specs.Trees.{Cond, conds_of, Eff, effs_of, Item, Schema, Domain, Problem}
use Rattle.kp_tree_grammar.specs.Grammar as grammar
use Rattle.kp_tree_grammar.proofs.Public.{example_word_at, example_atom_at, example_pred_at, exchange_text, exchange_tree, from_p_to_q_text, from_p_to_q_tree, tokens_of_text}
use Rattle.kp_names_semantics.specs.Numbered.{Lifted}
use Rattle.kp_names_semantics.specs.Numbering.{numbered_problem}
use Rattle.kp_ground_semantics.specs.Ground.{kept_instances, ground_atoms}
use Rattle.kp_ground_semantics.specs.Ground as by_number
use Rattle.kp_ground_semantics.specs.Weights.{binding_count, total_weight}
use Rattle.kp_ground.specs.Grounded.{IsGrounded}
use Rattle.kp_tree.specs.Files.{HasTree}
use Rattle.kp_law_decidable.proofs.Public.{clash_or_none}
use Rattle.kp_law_translation.specs.OfTrees.{ground_of, initial_of}
use Rattle.kp_law_translation.proofs.Public.{formulas_speak_of_ground_atoms}
use Rattle.kp_run_prepare.specs.Texts.{HaveTrees}
use Rattle.kp_run_prepare.specs.Prepared.{usual, IsPrepared}
use Rattle.kp_run_classical.specs.Classical.{classical, IsClassicalProblem}
use Rattle.kp_law_runs.proofs.Computed.{reads_file as file_reads_by_computing}
use Rattle.kp_law_runs.proofs.ExampleOutcomes.{domain_reads, problem_reads, only_p, has_state as example_has_state, few_primes as example_few_primes}

-- ---- no clash

-- an add and a delete are of different atoms
abbrev pub are_apart : Lit → Lit → Bool
are_apart add delete = not add.positive || (delete.positive || not (add.atom.0 == delete.atom.0))

-- so it is with all adds and deletes of an action
abbrev pub adds_apart : Action → Bool
adds_apart a = list_all (λ (e : Effect). list_all (λ (f : Effect). are_apart e.result f.result) a.effects) a.effects

apart_is_free : (pairs : Pairs) (a : Action) (atom k j : ℕ) → adds_apart a ≡ true → Clashes pairs a atom k j → ⊥
apart_is_free pairs a atom k j apart x =
    let beside = all_member (λ (e : Effect). list_all (λ (f : Effect). are_apart e.result f.result) a.effects) a.effects x.adding (member_at a.effects k x.adding x.add_at) apart in
    let here = all_member (λ (f : Effect). are_apart x.adding.result f.result) a.effects x.deleting (member_at a.effects j x.deleting x.delete_at) beside in
    let differ : are_apart (positive atom) (negative atom) ≡ true = subst (λ l. are_apart l (negative atom) ≡ true) x.adds (subst (λ l. are_apart x.adding.result l ≡ true) x.deletes here) in
    let same : (atom == atom) ≡ true = grind (arith, nat_tests) in
    false≢true (sym (ap not same) ∙ differ)

-- where the adds and deletes of each action are of different atoms, none clashes
pub never_clashing : (d : Domain Word) (p : Problem Word) → list_all adds_apart (ground_of d p).actions ≡ true → IsClashFree (ground_of d p) (initial_of d p)
never_clashing d p apart = elim (clash_or_none (ground_of d p) (initial_of d p) (formulas_speak_of_ground_atoms d p)) [
  | inl first ↦ absurd (let x = first.1.first.clash in apart_is_free first.1.pairs x.action first.0.atom.0 first.0.add first.0.delete (all_member adds_apart (ground_of d p).actions x.action (member_at (ground_of d p).actions first.0.action x.action x.action_at) apart) x.clashes)
  | inr free ↦ free
]

-- ---- limits

-- few of each
pub within : (l : Lifted) (m : Limits) (weight atoms : ℕ) → 1 ≤ m.bindings → 1 ≤ m.actions → weight ≤ m.weight → atoms ≤ m.atoms → binding_count l ≡ 1 → length (kept_instances l) ≡ 1 → total_weight l ≡ weight → length (ground_atoms l) ≡ atoms → IsGrounded l m (by_number.ground_of l)
within l m weight atoms a b c d e f g h = record { counts = record { bindings = omega (arith, a, e); actions = omega (arith, b, f); weight = omega (arith, c, g) }; atoms = omega (arith, d, h); ground = refl }

-- ---- from p to q

pub trees : HaveTrees exchange_text from_p_to_q_text exchange_tree from_p_to_q_tree
trees = record { domain_reads = domain_reads; problem_reads = problem_reads; no_fault = record { domain = refl; problem = refl } }

only_p_is : is_model (initial_of exchange_tree from_p_to_q_tree) only_p ≡ true
unfolding only_p
only_p_is = refl

pub prepared : IsPrepared 20000 exchange_tree from_p_to_q_tree
prepared = record {
  started = record {
    small = within (numbered_problem exchange_tree from_p_to_q_tree) usual 3 2 (omega arith) (omega arith) (omega arith) (omega arith) refl refl refl refl;
    counted = example_few_primes (initial_of exchange_tree from_p_to_q_tree) (positive 0) refl (omega arith);
    initial = example_has_state exchange_tree from_p_to_q_tree trees.no_fault only_p only_p_is;
  };
  clash_free = never_clashing exchange_tree from_p_to_q_tree refl;
}

pub is_classical : IsClassicalProblem exchange_tree from_p_to_q_tree
is_classical = record { certain = refl; small = within (numbered_problem exchange_tree from_p_to_q_tree) classical 3 2 (omega arith) (omega arith) (omega arith) (omega arith) refl refl refl refl; initial = prepared.started.initial }

-- ---- from p to both

abbrev pub to_both : List ℕ
to_both = codes "(define (problem e) (:domain d) (:init (p)) (:goal (and (p) (q))))\n"

abbrev pub to_both_tree : Problem Word
to_both_tree = record { objects = []; init = Item.fact true (example_atom_at (codes "p") 40) ∷ []; goal = Cond.all (conds_of (Cond.atom true (example_atom_at (codes "p") 57) ∷ Cond.atom true (example_atom_at (codes "q") 61) ∷ [])) }

to_both_reads : HasTree grammar.problem to_both to_both_tree
unfolding cut_from class_of symbol_of some_at next_at
to_both_reads = file_reads_by_computing grammar.problem to_both (tokens_of_text to_both) to_both_tree (omega arith) refl refl refl

pub both_trees : HaveTrees exchange_text to_both exchange_tree to_both_tree
both_trees = record { domain_reads = domain_reads; problem_reads = to_both_reads; no_fault = record { domain = refl; problem = refl } }

both_start : is_model (initial_of exchange_tree to_both_tree) only_p ≡ true
unfolding only_p
both_start = refl

pub both_prepared : IsPrepared 20000 exchange_tree to_both_tree
both_prepared = record {
  started = record {
    small = within (numbered_problem exchange_tree to_both_tree) usual 3 2 (omega arith) (omega arith) (omega arith) (omega arith) refl refl refl refl;
    counted = example_few_primes (initial_of exchange_tree to_both_tree) (positive 0) refl (omega arith);
    initial = example_has_state exchange_tree to_both_tree both_trees.no_fault only_p both_start;
  };
  clash_free = never_clashing exchange_tree to_both_tree refl;
}

pub both_classical : IsClassicalProblem exchange_tree to_both_tree
both_classical = record { certain = refl; small = within (numbered_problem exchange_tree to_both_tree) classical 3 2 (omega arith) (omega arith) (omega arith) (omega arith) refl refl refl refl; initial = both_prepared.started.initial }

-- ---- p comes, and where p holds q comes

abbrev pub chain : List ℕ
chain = codes "(define (domain d) (:predicates (p) (q)) (:action a :effect (and (p) (when (p) (q)))))\n"

abbrev chain_schema : Schema Word
chain_schema = record {
  name = example_word_at (codes "a") 50;
  params = [];
  pre = Cond.all (conds_of []);
  effect = Eff.both (effs_of (Eff.makes true (example_atom_at (codes "p") 66) ∷ Eff.when (Cond.atom true (example_atom_at (codes "p") 76)) (Eff.makes true (example_atom_at (codes "q") 80)) ∷ []));
}

abbrev pub chain_tree : Domain Word
chain_tree = record { kinds = []; constants = []; predicates = example_pred_at (codes "p") 33 ∷ example_pred_at (codes "q") 37 ∷ []; schemas = chain_schema ∷ [] }

pub chain_reads : HasTree grammar.domain chain chain_tree
unfolding cut_from class_of symbol_of some_at next_at
chain_reads = file_reads_by_computing grammar.domain chain (tokens_of_text chain) chain_tree (omega arith) refl refl refl

abbrev pub to_q : List ℕ
to_q = codes "(define (problem e) (:domain d) (:init (not (p))) (:goal (q)))\n"

abbrev pub to_q_tree : Problem Word
to_q_tree = record { objects = []; init = Item.fact false (example_atom_at (codes "p") 45) ∷ []; goal = Cond.atom true (example_atom_at (codes "q") 58) }

to_q_reads : HasTree grammar.problem to_q to_q_tree
unfolding cut_from class_of symbol_of some_at next_at
to_q_reads = file_reads_by_computing grammar.problem to_q (tokens_of_text to_q) to_q_tree (omega arith) refl refl refl

pub chain_trees : HaveTrees chain to_q chain_tree to_q_tree
chain_trees = record { domain_reads = chain_reads; problem_reads = to_q_reads; no_fault = record { domain = refl; problem = refl } }

abbrev pub turn : Action
turn = record { name = record { head = codes "a"; objects = [] }; pre = []; effects = record { cond = []; result = positive 0 } ∷ record { cond = positive 0 ∷ []; result = positive 1 } ∷ [] }

unfoldable pub no_atom : State
no_atom n = false

chain_start : is_model (initial_of chain_tree to_q_tree) no_atom ≡ true
unfolding no_atom
chain_start = refl

pub chain_prepared : IsPrepared 20000 chain_tree to_q_tree
chain_prepared = record {
  started = record {
    small = within (numbered_problem chain_tree to_q_tree) usual 3 2 (omega arith) (omega arith) (omega arith) (omega arith) refl refl refl refl;
    counted = example_few_primes (initial_of chain_tree to_q_tree) (negative 0) refl (omega arith);
    initial = example_has_state chain_tree to_q_tree chain_trees.no_fault no_atom chain_start;
  };
  clash_free = never_clashing chain_tree to_q_tree refl;
}

pub chain_classical : IsClassicalProblem chain_tree to_q_tree
chain_classical = record { certain = refl; small = within (numbered_problem chain_tree to_q_tree) classical 3 2 (omega arith) (omega arith) (omega arith) (omega arith) refl refl refl refl; initial = chain_prepared.started.initial }
