-- Each command puts files under its own output names.
use Rattle.std.proofs.Common.{◌≡◌, ◌≢◌, ℕ, List, [], ◌∷◌, Option, Some, None, map, filter_map, length, inl, inr, refl, sym, ap, ◌∙◌, subst}
use Rattle.kp_base.specs.Lists.{Member}
use Rattle.kp_tree_grammar.specs.declared.tree.Word.{Word}
use Rattle.kp_tree_grammar.specs.Trees.{Domain, Problem}
use Rattle.kp_run_outcome.specs.declared.outcome.FilePut.{FilePut}
use Rattle.kp_run_outcome.specs.declared.outcome.Outcome.{Outcome}
use Rattle.kp_run_outcome.specs.declared.status.Status.TheVariants as status
use Rattle.kp_words.specs.Asked.{Source, Asked}
use Rattle.kp_words.specs.Forms.{form}
use Rattle.kp_words.specs.Command.{if_named, file_under}
use Rattle.kp_words.specs.declared.verb.Verb.{Verb}
use Rattle.kp_width.specs.declared.report.WidthReport.{WidthReport}
use Rattle.kp_width.specs.declared.report.WidthReport.TheVariants.{Within, Over}
use Rattle.kp_run_prepare.specs.Refusing.{refuses, named_in}
use Rattle.kp_run_prepare.specs.Prepared.{by_texts, by_trees, Comes, early, later}
use Rattle.kp_base.specs.declared.refused.Refused.{Refused}
use Rattle.kp_run_messages.specs.Refusals.{Nameable, nothing}
use Rattle.kp_base.specs.declared.ground.Ground.{Ground}
use Rattle.kp_base.specs.declared.ground.Initial.{Initial}
use Rattle.kp_base.specs.declared.ground.TagTable.{TagTable}
use Rattle.kp_check.specs.declared.answer.Judged.{Judged}
use Rattle.kp_check.specs.declared.answer.Judged.TheVariants.{Yes, No}
use Rattle.kp_run_inputs.specs.SourceTables.{ComesByTable, no_table, with_table}
use Rattle.kp_run_inputs.specs.Actions.{ComesByPlan, no_actions, with_actions}
use Rattle.kp_run_inputs.specs.Tasks.{no_task, with_task}
use Rattle.kp_run.specs.Translate.{translates, TranslatesGround}
use Rattle.kp_run.specs.Strip.{StripsText, too_long, no_plan, no_strip, strips}
use Rattle.kp_run.specs.Lift.{LiftsActions, lifts, fails, LiftsPlan}
use Rattle.kp_run.specs.Check.{tells}
use Rattle.kp_run.specs.Width.{tells_width, WidthGround, no_report, with_report}
use Rattle.kp_names_semantics.specs.Steps.{Step}
use Rattle.kp_search.specs.declared.found.Found.{Found}
use Rattle.kp_search.specs.declared.found.Found.TheVariants.{Plan, NoPlan, Spent}
use Rattle.kp_run_classical.specs.Classical.{ComesClassical, by_texts as no_texts, by_trees as no_trees, early as at_once, later as goes_on}
use Rattle.kp_run_solve.specs.Solving.{solves, TellsSolved, SolvesGround, TellsClassical}
use Rattle.kp_run_bench.specs.Bench.{TellsBench, BenchesGround}
use Rattle.kp_base.specs.declared.lit.Lit.{Lit}
use Rattle.kp_words.specs.declared.verb.Verb.TheVariants as verbs

-- the names of the files that a command of a verb writes
abbrev pub outputs_by : Verb → Asked → List (List ℕ)
outputs_by verb c = filter_map (file_under c) (form verb).writes

-- what an outcome puts is under these names
pub record PutsUnder (outputs : List (List ℕ)) (o : Outcome) : Type 0 where
  pub done : o.status ≡ status.Done → map (λ (f : FilePut). f.name) o.puts ≡ outputs
  pub nothing : o.status ≢ status.Done → o.puts ≡ []
  pub names : (file : FilePut) → Member o.puts file → Member outputs file.name

pub under_none : (outputs : List (List ℕ)) (o : Outcome) → o.puts ≡ [] → (o.status ≡ status.Done → outputs ≡ []) → PutsUnder outputs o
under_none outputs o e d = record { done = λ n. ap (map (λ (f : FilePut). f.name)) e ∙ sym (d n); nothing = λ n. e; names = λ file m. absurd (subst (λ (fs : List FilePut). Member fs file) e m) }

pub refusal_under : (outputs : List (List ℕ)) (o : Outcome) (n : Nameable) (r : Refused) → o ≡ refuses n r → PutsUnder outputs o
refusal_under outputs o n r is = under_none outputs o (ap (λ (z : Outcome). z.puts) is) (λ e. absurd (let f : status.Refused r ≡ status.Done = sym (ap (λ (z : Outcome). z.status) is) ∙ e in cc))

pub translation_under : (c : Asked) (g : Ground) (table : TagTable) (ls : List Lit) (o : Outcome) → o ≡ translates c g table ls → PutsUnder (outputs_by verbs.Translate c) o
translation_under c g table ls o is = record {
  done = λ n. ap (λ (z : Outcome). map (λ (f : FilePut). f.name) z.puts) is;
  nothing = λ n. absurd (n (ap (λ (z : Outcome). z.status) is));
  names = λ file m. by file (subst (λ (z : Outcome). Member z.puts file) is m);
}
  where
    by : (file : FilePut) → Member (translates c g table ls).puts file → Member (outputs_by verbs.Translate c) file.name
    by file (inl e) = inl (ap (λ (f : FilePut). f.name) e)
    by file (inr (inl e)) = inr (inl (ap (λ (f : FilePut). f.name) e))
    by file (inr (inr e)) = absurd e

-- a command that goes on so
pub comes_of : (e : List (List ℕ)) (limit : ℕ) (x y : List ℕ) (P : Domain Word → Problem Word → Outcome → Type 0) (o : Outcome) → ((d : Domain Word) (p : Problem Word) → P d p o → PutsUnder e o) → Comes limit x y P o → PutsUnder e o
comes_of e limit x y P o under (early (by_texts r a is)) = refusal_under e o nothing r is
comes_of e limit x y P o under (early (by_trees d p names r h a is)) = refusal_under e o names r is
comes_of e limit x y P o under (later d p h w goes) = under d p goes

pub ground_under : (c : Asked) (g : Ground) (i : Initial) (table : TagTable) (o : Outcome) → TranslatesGround c g i table o → PutsUnder (outputs_by verbs.Translate c) o
ground_under c g i table o (no_task r t e) = refusal_under (outputs_by verbs.Translate c) o nothing r e
ground_under c g i table o (with_task fits put) = translation_under c g table put.uncovered o put.outcome

pub table_under : (e : List (List ℕ)) (g : Ground) (i : Initial) (source : Source) (merges : List (List ℕ)) (P : TagTable → Outcome → Type 0) (o : Outcome) → ((table : TagTable) → P table o → PutsUnder e o) → ComesByTable g i source merges P o → PutsUnder e o
table_under e g i source merges P o under (no_table names r a is) = refusal_under e o names r is
table_under e g i source merges P o under (with_table table has h) = under table h

pub plan_under : (e : List (List ℕ)) (g : Ground) (text : List ℕ) (P : List ℕ → Outcome → Type 0) (o : Outcome) → ((ns : List ℕ) → P ns o → PutsUnder e o) → ComesByPlan g text P o → PutsUnder e o
plan_under e g text P o under (no_actions named r a is) = refusal_under e o named r is
plan_under e g text P o under (with_actions ss ns has h) = under ns h

pub strip_under : (c : Asked) (x : List ℕ) (o : Outcome) → StripsText x o → PutsUnder (outputs_by verbs.Strip c) o
strip_under c x o (too_long a e) = refusal_under (outputs_by verbs.Strip c) o nothing _ e
strip_under c x o (no_plan r a h e) = refusal_under (outputs_by verbs.Strip c) o nothing r e
strip_under c x o (no_strip ss s a h n e) = refusal_under (outputs_by verbs.Strip c) o nothing _ e
strip_under c x o (strips ss as' a h n e) = under_none (outputs_by verbs.Strip c) o (ap (λ (z : Outcome). z.puts) e) (λ d. refl)

pub judged_under : (c : Asked) (g : Ground) (ns : List ℕ) (v : Judged) (o : Outcome) → o ≡ tells g (length ns) v → PutsUnder (outputs_by verbs.Check c) o
judged_under c g ns Yes o e = under_none (outputs_by verbs.Check c) o (ap (λ (z : Outcome). z.puts) e) (λ d. refl)
judged_under c g ns (No ps k l) o e = under_none (outputs_by verbs.Check c) o (ap (λ (z : Outcome). z.puts) e) (λ d. refl)

pub actions_under : (c : Asked) (g : Ground) (table : TagTable) (ns : List ℕ) (o : Outcome) → LiftsActions g table ns o → PutsUnder (outputs_by verbs.Lift c) o
actions_under c g table ns o (lifts steps h e) = under_none (outputs_by verbs.Lift c) o (ap (λ (z : Outcome). z.puts) e) (λ d. refl)
actions_under c g table ns o (fails k l h e) = under_none (outputs_by verbs.Lift c) o (ap (λ (z : Outcome). z.puts) e) (λ d. refl)

pub lift_under : (c : Asked) (g : Ground) (plan : List ℕ) (table : TagTable) (o : Outcome) → LiftsPlan g plan table o → PutsUnder (outputs_by verbs.Lift c) o
lift_under c g plan table o (no_task r a e) = refusal_under (outputs_by verbs.Lift c) o nothing r e
lift_under c g plan table o (with_task fits h) = plan_under (outputs_by verbs.Lift c) g plan (LiftsActions g table) o (λ ns. actions_under c g table ns o) h

-- a plan is put under the name that is given for it
pub solution_under : (c : Asked) (written plan : List Step) (o : Outcome) → o ≡ solves c.classical written plan → PutsUnder (outputs_by verbs.Solve c) o
solution_under c written plan o is = by c.classical refl
  where
    by : (name : Option (List ℕ)) → c.classical ≡ name → PutsUnder (outputs_by verbs.Solve c) o
    by None e =
        let same = ap (λ z. solves z written plan) e in
        record {
          done = λ d. ap (λ (z : Outcome). map (λ (f : FilePut). f.name) z.puts) (is ∙ same) ∙ sym (ap if_named e);
          nothing = λ n. absurd (n (ap (λ (z : Outcome). z.status) is));
          names = λ file m. absurd (subst (λ (z : Outcome). Member z.puts file) (is ∙ same) m);
        }
    by (Some name) e =
        let same = ap (λ z. solves z written plan) e in
        record {
          done = λ d. ap (λ (z : Outcome). map (λ (f : FilePut). f.name) z.puts) (is ∙ same) ∙ sym (ap if_named e);
          nothing = λ n. absurd (n (ap (λ (z : Outcome). z.status) is));
          names = λ file m. subst (λ names. Member names file.name) (sym (ap if_named e)) (one file name (subst (λ (z : Outcome). Member z.puts file) (is ∙ same) m));
        }
      where
        one : (file : FilePut) (name : List ℕ) → Member (solves (Some name) written plan).puts file → Member (name ∷ []) file.name
        one file name (inl f) = inl (ap (λ (x : FilePut). x.name) f)
        one file name (inr f) = absurd f

pub told_under : (c : Asked) (g : Ground) (i : Initial) (table : TagTable) (o : Outcome) (found : Found) → TellsSolved c.classical g i table found o → PutsUnder (outputs_by verbs.Solve c) o
told_under c g i table o (Plan ops n) t = solution_under c t.0 t.1 o t.3
told_under c g i table o NoPlan t = under_none (outputs_by verbs.Solve c) o (ap (λ (z : Outcome). z.puts) t.2) (λ d. absurd (let f = sym (ap (λ (z : Outcome). z.status) t.2) ∙ d in cc))
told_under c g i table o (Spent n) t = under_none (outputs_by verbs.Solve c) o (ap (λ (z : Outcome). z.puts) t) (λ d. absurd (let f = sym (ap (λ (z : Outcome). z.status) t) ∙ d in cc))

pub solved_under : (c : Asked) (g : Ground) (i : Initial) (table : TagTable) (o : Outcome) → SolvesGround c.classical c.budget g i table o → PutsUnder (outputs_by verbs.Solve c) o
solved_under c g i table o (no_task r a e) = refusal_under (outputs_by verbs.Solve c) o nothing r e
solved_under c g i table o (with_task fits s) = told_under c g i table o s.found s.tells

pub classical_under : (c : Asked) (g : Ground) (o : Outcome) (found : Found) → TellsClassical g found o → PutsUnder (outputs_by verbs.Classical c) o
classical_under c g o (Plan ops n) t = under_none (outputs_by verbs.Classical c) o (ap (λ (z : Outcome). z.puts) t.2) (λ d. refl)
classical_under c g o NoPlan t = under_none (outputs_by verbs.Classical c) o (ap (λ (z : Outcome). z.puts) t) (λ d. refl)
classical_under c g o (Spent n) t = under_none (outputs_by verbs.Classical c) o (ap (λ (z : Outcome). z.puts) t) (λ d. refl)

pub comes_classical_under : (c : Asked) (x y : List ℕ) (P : Domain Word → Problem Word → Outcome → Type 0) (o : Outcome) → ((d : Domain Word) (p : Problem Word) → P d p o → PutsUnder (outputs_by verbs.Classical c) o) → ComesClassical x y P o → PutsUnder (outputs_by verbs.Classical c) o
comes_classical_under c x y P o under (at_once (no_texts r a is)) = refusal_under (outputs_by verbs.Classical c) o nothing r is
comes_classical_under c x y P o under (at_once (no_trees d p r h a is)) = refusal_under (outputs_by verbs.Classical c) o nothing r is
comes_classical_under c x y P o under (goes_on d p h w on) = under d p on

pub width_under : (c : Asked) (g : Ground) (i : Initial) (o : Outcome) → WidthGround c.bound g i o → PutsUnder (outputs_by verbs.Width c) o
width_under c g i o (no_report r a e) = refusal_under (outputs_by verbs.Width c) o (named_in g) r e
width_under c g i o (with_report report a e) = by report e
  where
    by : (report : WidthReport) → o ≡ tells_width g c.bound report → PutsUnder (outputs_by verbs.Width c) o
    by (Within rows) e = under_none (outputs_by verbs.Width c) o (ap (λ (z : Outcome). z.puts) e) (λ d. refl)
    by (Over target) e = under_none (outputs_by verbs.Width c) o (ap (λ (z : Outcome). z.puts) e) (λ d. refl)

pub summary_under : (c : Asked) (g : Ground) (i : Initial) (table : TagTable) (o : Outcome) (found : Found) → TellsBench c g i table found o → PutsUnder (outputs_by verbs.Bench c) o
summary_under c g i table o (Plan ops n) t = under_none (outputs_by verbs.Bench c) o (ap (λ (z : Outcome). z.puts) t.told) (λ d. refl)
summary_under c g i table o NoPlan t = under_none (outputs_by verbs.Bench c) o (ap (λ (z : Outcome). z.puts) t.2) (λ d. refl)
summary_under c g i table o (Spent n) t = under_none (outputs_by verbs.Bench c) o (ap (λ (z : Outcome). z.puts) t) (λ d. refl)

pub bench_under : (c : Asked) (g : Ground) (i : Initial) (table : TagTable) (o : Outcome) → BenchesGround c g i table o → PutsUnder (outputs_by verbs.Bench c) o
bench_under c g i table o (no_task r a e) = refusal_under (outputs_by verbs.Bench c) o nothing r e
bench_under c g i table o (with_task fits s) = summary_under c g i table o s.found s.tells
