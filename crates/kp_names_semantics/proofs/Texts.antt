-- Texts that are cut and read by computing, and that a text has one tree.
use Rattle.std.proofs.Common.{◌≡◌, ℕ, Bool, List, [], Ok, Err, subst}
use Rattle.kp_lex.specs.Scanning.{cut}
use Rattle.kp_lex.proofs.Public.{one_cutting}
use Rattle.kp_tree_grammar.specs.declared.tree.Word.{Word}
use Rattle.kp_tree_grammar.specs.Language.{all_seen_in, Domain, Problem, Cond, no_cond, Sort, El, Form, ReadBy, Outcome, ReadsAs}
use Rattle.kp_tree_grammar.specs.Grammar as grammar
use Rattle.kp_tree_grammar.proofs.Public.{a_form_reads_once, computed_outcome, reads_by_computing}
pub use Rattle.kp_tree_grammar.proofs.Public.{tokens_of_text as tokens}
use Rattle.kp_names_semantics.specs.Faults.{domain_faults, problem_faults}
use Rattle.kp_names_semantics.specs.Steps.{Step}
use Rattle.kp_names_semantics.specs.Plans.{HasProblem, HasOneProblem, Solves, IsPlan}

-- the trees of texts that read
abbrev pub domain_in : Outcome Word (Domain Word) → Domain Word
domain_in (Ok x) = x.0
domain_in (Err at) = record { kinds = []; constants = []; predicates = []; schemas = [] }

abbrev pub problem_in : Outcome Word (Problem Word) → Problem Word
problem_in (Ok x) = x.0
problem_in (Err at) = record { objects = []; init = []; goal = Cond.all no_cond }

abbrev pub domain_of : List ℕ → Domain Word
domain_of text = domain_in (computed_outcome grammar.domain text (tokens text))

abbrev pub problem_of : List ℕ → Problem Word
problem_of text = problem_in (computed_outcome grammar.problem text (tokens text))

-- what computing has to show of two texts that have a problem
pub record Computes (a b : List ℕ) : Type 0 where
  pub domain_cut : cut 0 a ≡ Ok (tokens a)
  pub problem_cut : cut 0 b ≡ Ok (tokens b)
  pub domain_read : computed_outcome grammar.domain a (tokens a) ≡ Ok (domain_of a, [])
  pub problem_read : computed_outcome grammar.problem b (tokens b) ≡ Ok (problem_of b, [])
  pub domain_faults : domain_faults (domain_of a) (problem_of b) ≡ []
  pub problem_faults : problem_faults (domain_of a) (problem_of b) ≡ []

abbrev pub has_problem : (a b : List ℕ) → Computes a b → HasProblem a b
has_problem a b c = record {
  domain = domain_of a;
  problem = problem_of b;
  domain_reads = reads_by_computing grammar.domain a (tokens a) (domain_of a) c.domain_cut c.domain_read;
  problem_reads = reads_by_computing grammar.problem b (tokens b) (problem_of b) c.problem_cut c.problem_read;
  no_fault = record { domain = c.domain_faults; problem = c.problem_faults };
}

-- ---- the trees of two texts are the only ones

pub reads_once : {b : Bool} {c : Sort} (X : Form b c) (text : List ℕ) (x y : El Word c) → ReadsAs X text x → ReadsAs X text y → x ≡ y
reads_once {b} {c} X text x y r s =
    let same : r.tokens ≡ s.tokens = one_cutting _ _ r.cut s.cut in
    let reads : ReadBy b c X (all_seen_in text s.tokens) x [] = subst (λ ts. ReadBy b c X (all_seen_in text ts) x []) same r.reads in
    (a_form_reads_once b c X (all_seen_in text s.tokens) [] [] x y reads s.reads).0

pub one_problem : HasOneProblem
one_problem a b x y = (reads_once grammar.domain a x.domain y.domain x.domain_reads y.domain_reads, reads_once grammar.problem b x.problem y.problem x.problem_reads y.problem_reads)

-- a plan of two texts solves the problem that they have
pub solves_theirs : (a b : List ℕ) (h : HasProblem a b) (steps : List Step) → IsPlan a b steps → Solves h.domain h.problem steps
solves_theirs a b h steps x =
    let e = one_problem a b x.has h in
    subst (λ d. Solves d h.problem steps) e.0 (subst (λ p. Solves x.has.domain p steps) e.1 x.solves)
