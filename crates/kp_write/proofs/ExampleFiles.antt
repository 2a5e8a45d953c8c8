-- A task whose premises are met, the bytes of its two files, and a plan of them.
use Rattle.std.proofs.Common.{◌≡◌, ℕ, Bool, true, false, List, [], ◌∷◌, map, codes, inl, inr, refl, sym, subst}
use Rattle.std.proofs.lemmas.Bool.{false≢true}
use Rattle.std.specs.List.{AllByRecursion, IsDistinct}
use Rattle.kp_lex.specs.Bytes.{class_of}
use Rattle.kp_lex.specs.declared.token.TokenKind.TheVariants as kinds
use Rattle.kp_tree_grammar.specs.Symbols.{symbol_of, is_head}
use Rattle.kp_tree_grammar.specs.Words.{IsLow, IsHead}
use Rattle.kp_base.specs.Lists.{Member}
use Rattle.kp_names_semantics.specs.Names.{is_among}
use Rattle.kp_names_semantics.specs.Plans.{IsPlan}
use Rattle.kp_law_texts.specs.Pieces.{spelling}
use Rattle.kp_write.specs.Operators.{Effect, Op}
use Rattle.kp_write.specs.Written.{op, domain_pieces, problem_pieces, domain_text, problem_text}
use Rattle.kp_lex.specs.Cutting.{IsToken}
use Rattle.kp_write.specs.Problems.{IsEffectOn, IsTask, HasMeantProblem}
use Rattle.kp_write.specs.Runs.{runs, step_of}
use Rattle.kp_law_texts.proofs.Public.{spelled_name_is_token}
use Rattle.kp_write.proofs.Faultless.{written_texts_have_problem}
use Rattle.kp_write.proofs.Runs.{plans_are_runs}

-- ---- that p is known, that not p is known, and the same of q

abbrev pub p : List ℕ
p = codes "kp_-p_-0"

abbrev pub not_p : List ℕ
not_p = codes "kn_-p_-0"

abbrev pub q : List ℕ
q = codes "kp_-q_-0"

abbrev pub not_q : List ℕ
not_q = codes "kn_-q_-0"

abbrev pub facts : List (List ℕ)
facts = p ∷ not_p ∷ q ∷ not_q ∷ []

-- an add or a delete without conditions
abbrev always : Bool → List ℕ → Effect
always b n = record { conds = []; result = record { holds = b; fact = n } }

-- needs p, makes q, and makes p false
abbrev pub a : Op
a = record { name = codes "do_-a"; pre = p ∷ []; effects = always true q ∷ always false not_q ∷ always true not_p ∷ always false p ∷ [] }

can_be_written : (n : List ℕ) → IsToken kinds.Name n → IsLow n → is_head (symbol_of kinds.Name n) ≡ true → IsHead n
can_be_written n t low h = record { token = t; low = low; head = h }

-- an effect without conditions, of one of the facts
unconditional : (e : Effect) → e.conds ≡ [] → Member facts e.result.fact → IsEffectOn facts e
unconditional e none m = record { conds = subst (λ cs. AllByRecursion (λ s. Member facts s.fact) cs) (sym none) tt; result = m }

task : IsTask facts (a ∷ []) (p ∷ not_q ∷ []) (q ∷ [])
unfolding symbol_of class_of IsDistinct
task = record {
  heads = (can_be_written p (spelled_name_is_token p refl) refl refl, (can_be_written not_p (spelled_name_is_token not_p refl) refl refl, (can_be_written q (spelled_name_is_token q refl) refl refl, (can_be_written not_q (spelled_name_is_token not_q refl) refl refl, tt))));
  facts_differ = ((refl, (refl, (refl, tt))), ((refl, (refl, tt)), ((refl, tt), (tt, tt))));
  operators = (
    record {
      name = record { token = spelled_name_is_token (codes "do_-a") refl; low = refl };
      pre = (inl refl, tt);
      effects = (unconditional (always true q) refl (inr (inr (inl refl))), (unconditional (always false not_q) refl (inr (inr (inr (inl refl)))), (unconditional (always true not_p) refl (inr (inl refl)), (unconditional (always false p) refl (inl refl), tt))));
    },
    tt,
  );
  operators_differ = (tt, tt);
  start_among = (inl refl, (inr (inr (inr (inl refl))), tt));
  goal_among = (inr (inr (inl refl)), tt);
}

domain_bytes : domain_text facts (a ∷ []) ≡ codes "(define (domain kplan)\n(:requirements :strips :negative-preconditions :conditional-effects)\n(:predicates\n(kp_-p_-0)\n(kn_-p_-0)\n(kp_-q_-0)\n(kn_-q_-0)\n)\n(:action do_-a\n:parameters ()\n:precondition (and (kp_-p_-0))\n:effect (and\n(kp_-q_-0)\n(not (kn_-q_-0))\n(kn_-p_-0)\n(not (kp_-p_-0))\n)\n)\n)\n"
unfolding domain_pieces op
domain_bytes = refl

problem_bytes : problem_text (p ∷ not_q ∷ []) (q ∷ []) ≡ codes "(define (problem kplan)\n(:domain kplan)\n(:init\n(kp_-p_-0)\n(kn_-q_-0)\n)\n(:goal (and\n(kp_-q_-0)\n))\n)\n"
unfolding problem_pieces
problem_bytes = refl

-- so these files have the problem of the task
its_problem : HasMeantProblem facts (a ∷ []) (p ∷ not_q ∷ []) (q ∷ [])
its_problem = written_texts_have_problem facts (a ∷ []) (p ∷ not_q ∷ []) (q ∷ []) task

-- ---- its plans

-- the operator alone is a plan
pub one_operator : IsPlan (domain_text facts (a ∷ [])) (problem_text (p ∷ not_q ∷ []) (q ∷ [])) (step_of a ∷ [])
one_operator = (plans_are_runs facts (a ∷ []) (p ∷ not_q ∷ []) (q ∷ []) task (step_of a ∷ [])).1 (record { taken = a ∷ []; among = (inl refl, tt); steps_are = refl; succeeds = refl })

fails_at_once : (taken : List Op) → map step_of taken ≡ [] → runs (q ∷ []) taken (is_among (p ∷ not_q ∷ [])) ≡ true → ⊥
fails_at_once [] e h = false≢true h
fails_at_once (o ∷ os) e h = absurd cc

-- no step is none
pub no_operator : IsPlan (domain_text facts (a ∷ [])) (problem_text (p ∷ not_q ∷ []) (q ∷ [])) ([]) → ⊥
no_operator plan = let r = (plans_are_runs facts (a ∷ []) (p ∷ not_q ∷ []) (q ∷ []) task ([])).0 plan in fails_at_once r.taken r.steps_are r.succeeds

-- ---- conditional effects

-- makes q known where p is, and not q known no longer where not p isn't
abbrev b : Op
b = record { name = codes "do_-b"; pre = []; effects = record { conds = record { holds = true; fact = p } ∷ []; result = record { holds = true; fact = q } } ∷ record { conds = record { holds = false; fact = not_p } ∷ []; result = record { holds = false; fact = not_q } } ∷ [] }

operator_bytes : spelling (op b []) ≡ codes "(:action do_-b\n:parameters ()\n:effect (and\n(when (and (kp_-p_-0)) (kp_-q_-0))\n(when (and (not (kn_-p_-0))) (not (kn_-q_-0)))\n)\n)\n"
unfolding op
operator_bytes = refl
