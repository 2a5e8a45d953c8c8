-- What an answer to `classical` says of its files.
use Rattle.std.proofs.Common.{◌≡◌, ℕ, List, Some, None, Vec, sym, ◌∙◌, subst}
use Rattle.std.specs.FinMap.{get}
use Rattle.std.specs.declared.alloc.Global.{Global}
use Rattle.std.proofs.lemmas.Bool.{false≢true}
use Rattle.kp_base.specs.declared.refused.Refused.{Refused}
use Rattle.kp_tree_grammar.specs.declared.tree.Word.{Word}
use Rattle.kp_tree_grammar.specs.Trees.{Domain, Problem}
use Rattle.kp_classic.specs.Fits.{IsFit}
use Rattle.kp_search.specs.declared.found.Found.{Found}
use Rattle.kp_search.specs.declared.found.Found.TheVariants.{Plan, NoPlan, Spent}
use Rattle.kp_law_translation.specs.OfTrees.{ground_of}
use Rattle.kp_law_translation.proofs.Public.{grounds_written}
use Rattle.kp_outside.specs.Outside.{FileMap}
use Rattle.kp_run_outcome.specs.declared.outcome.Outcome.{Outcome}
use Rattle.kp_run_outcome.specs.declared.status.Status.{Status}
use Rattle.kp_run_outcome.specs.declared.status.Status.TheVariants as status
use Rattle.kp_run_outcome.specs.Ends.{Outside, IsAnswer}
use Rattle.kp_run_outcome.specs.Printing.{denies}
use Rattle.kp_words.specs.Asked.{Asked}
use Rattle.kp_words.specs.declared.verb.Verb.TheVariants as verbs
use Rattle.kp_words.specs.Command.{IsCall}
use Rattle.kp_run_classical.specs.Classical.{by_texts, by_trees, early, later, task_of}
use Rattle.kp_run_classical.proofs.Public.{classical_successes_are_plans, classical_plans_are_successes, classical_task_fits as classical_fit}
use Rattle.kp_run_messages.specs.Refusals.{nothing}
use Rattle.kp_run_messages.specs.Searches.{no_plan_line}
use Rattle.kp_run_solve.specs.Solving.{Finds, solves, spends, TellsClassical}
use Rattle.kp_run_solve.proofs.Public.{ends_are_true, action_lines_read as actions_read}
use Rattle.kp_run.specs.Classical.{ClassicalTexts}
use Rattle.kp_run.specs.Outcomes.{IsDue}
use Rattle.kp_run.specs.Ends.{Ends}
use Rattle.kp_run_prepare.proofs.Public.{problem_of_trees}
use Rattle.kp_run.specs.Solved.{IsHeldClassical, IsPosedClassical, IsSolvedClassical, HasNoClassicalPlan, IsSpentClassical, ClassicalIsTrue}
use Rattle.kp_run.proofs.Reading.{content_held}
use Rattle.kp_run.proofs.Comes.{due_makes}
use Rattle.kp_run.proofs.Whole.{IsCarriedOut, did, IsNoRefusal, not_refused}

-- ---- what such a run came to

-- what it was about, and what its search found
record HasSearched (m : FileMap) (c : Asked) (o : Outcome) : Type 0 where
  posed : IsPosedClassical m c
  found : Found
  finds : Finds (task_of posed.domain_tree posed.problem_tree) c.budget found
  tells : TellsClassical (ground_of posed.domain_tree posed.problem_tree) found o

of_texts : (m : FileMap) (c : Asked) (domain problem : List ℕ) → get m c.domain ≡ Some domain → get m c.problem ≡ Some problem → (o : Outcome) → IsNoRefusal o → ClassicalTexts c domain problem o → HasSearched m c o
of_texts m c domain problem domain_held problem_held o answers (early (by_texts r why is)) = absurd (not_refused o nothing r is answers)
of_texts m c domain problem domain_held problem_held o answers (early (by_trees d p r trees why is)) = absurd (not_refused o nothing r is answers)
of_texts m c domain problem domain_held problem_held o answers (later d p trees classical goes) = record {
  posed = record {
    domain_tree = d;
    problem_tree = p;
    given = record { domain = domain; problem = problem; domain_held = domain_held; problem_held = problem_held; trees = trees; classical = classical };
  };
  found = goes.found;
  finds = goes.finds;
  tells = goes.tells;
}

has_searched : (words : List (Vec ℕ Global)) (m : FileMap) (c : Asked) (o : Outcome) → IsCall verbs.Classical words c → IsDue words (Some m) o → IsNoRefusal o → HasSearched m c o
has_searched words m c o is due answers =
    let it = due_makes words (Some m) verbs.Classical c o is due in
    of_texts m c it.contents.domain it.contents.problem (content_held m c.domain _ it.are.domain) (content_held m c.problem _ it.are.problem) o answers it.makes

-- ---- what its answer says

module _ (m : FileMap) (c : Asked) (o : Outcome) (x : HasSearched m c o) (old new : Outside) (s : Status) (a : IsCarriedOut o old new s) where
  abbrev d : Domain Word
  d = x.posed.domain_tree

  abbrev p : Problem Word
  p = x.posed.problem_tree

  abbrev g : IsHeldClassical m c.domain c.problem d p
  g = x.posed.given

  fit : IsFit (task_of d p)
  fit = classical_fit d p g.classical

  answered : (u : Outcome) → o ≡ u → IsCarriedOut u old new s
  answered u is = subst (λ z. IsCarriedOut z old new s) is a

  is_solved : s ≡ status.Done → IsSolvedClassical m c old new
  is_solved done = by x.found x.finds x.tells
    where
      by : (found : Found) → Finds (task_of d p) c.budget found → TellsClassical (ground_of d p) found o → IsSolvedClassical m c old new
      by (Plan ops n) finds (plan, named, is) =
          let b = answered (solves None plan plan) is in
          let succeed = (ends_are_true (task_of d p) c.budget (Plan ops n) fit finds).1 in
          record { posed = x.posed; plan = plan; is_plan = (classical_successes_are_plans g.domain g.problem d p g.trees g.classical ops plan named).0 succeed; told = b.text_is; told_reads = actions_read (ground_of d p) (grounds_written g.domain g.problem (problem_of_trees g.domain g.problem d p g.trees)) ops plan named; put = b.puts_are }
      by NoPlan finds is = absurd (let b = answered (denies no_plan_line) is in let not_done = sym b.status_is ∙ done in cc)
      by (Spent n) finds is = absurd (let b = answered (spends n) is in let not_done = sym b.status_is ∙ done in cc)

  has_none : s ≡ status.Negative → HasNoClassicalPlan m c old new
  has_none negative = by x.found x.finds x.tells
    where
      by : (found : Found) → Finds (task_of d p) c.budget found → TellsClassical (ground_of d p) found o → HasNoClassicalPlan m c old new
      by (Plan ops n) finds (plan, named, is) = absurd (let b = answered (solves None plan plan) is in let not_no = sym b.status_is ∙ negative in cc)
      by NoPlan finds is =
          let b = answered (denies no_plan_line) is in
          let none = ends_are_true (task_of d p) c.budget NoPlan fit finds in
          record {
            posed = x.posed;
            none = λ steps plan. let run = classical_plans_are_successes g.domain g.problem d p g.trees g.classical steps plan in false≢true (sym (none run.0) ∙ run.2);
            told = b.text_is;
            put = b.puts_are;
          }
      by (Spent n) finds is = absurd (let b = answered (spends n) is in let not_no = sym b.status_is ∙ negative in cc)

  is_spent : s ≡ status.Spent → IsSpentClassical m c old new
  is_spent spent = by x.found x.finds x.tells
    where
      by : (found : Found) → Finds (task_of d p) c.budget found → TellsClassical (ground_of d p) found o → IsSpentClassical m c old new
      by (Plan ops n) finds (plan, named, is) = absurd (let b = answered (solves None plan plan) is in let not_spent = sym b.status_is ∙ spent in cc)
      by NoPlan finds is = absurd (let b = answered (denies no_plan_line) is in let not_spent = sym b.status_is ∙ spent in cc)
      by (Spent n) finds is =
          let b = subst (λ k. IsCarriedOut (spends k) old new s) finds.expanded_are (answered (spends n) is) in
          record { posed = x.posed; ended = subst (λ k. Finds (task_of d p) c.budget (Spent k)) finds.expanded_are finds; more = ends_are_true (task_of d p) c.budget (Spent n) fit finds; told = b.text_is; put = b.puts_are }

-- ---- what it says of a run

-- it came to an answer that is no refusal
of_answer : (words : List (Vec ℕ Global)) (old new : Outside) (s : Status) → Ends words old new s → (m : FileMap) (c : Asked) → old.held ≡ Some m → IsCall verbs.Classical words c → IsAnswer s → ((r : Refused) → s ≡ status.Refused r → ⊥) → (o : Outcome) × HasSearched m c o × IsCarriedOut o old new s
of_answer words old new s ends m c held is answer other =
    let w = did words old new s ends m held answer in
    (w.outcome, has_searched words m c w.outcome is w.due (λ r e. other r (w.carried_out.status_is ∙ e)), w.carried_out)

pub classical_true : (words : List (Vec ℕ Global)) (old new : Outside) (s : Status) → Ends words old new s → (m : FileMap) (c : Asked) → old.held ≡ Some m → IsCall verbs.Classical words c → ClassicalIsTrue m c old new s
classical_true words old new s ends m c held is = record {
  done = λ done. let x = of_answer words old new s ends m c held is (subst IsAnswer (sym done) tt) (λ r e. absurd (let f = sym done ∙ e in cc)) in is_solved m c x.0 x.1 old new s x.2 done;
  negative = λ negative. let x = of_answer words old new s ends m c held is (subst IsAnswer (sym negative) tt) (λ r e. absurd (let f = sym negative ∙ e in cc)) in has_none m c x.0 x.1 old new s x.2 negative;
  spent = λ spent. let x = of_answer words old new s ends m c held is (subst IsAnswer (sym spent) tt) (λ r e. absurd (let f = sym spent ∙ e in cc)) in is_spent m c x.0 x.1 old new s x.2 spent;
}
