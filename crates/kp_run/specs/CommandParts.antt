-- What is printed of operators, and what was read of the files of a command. This file serves the crate's own functions and proofs alone.
use Rattle.std.specs.Prelude.{◌≡◌, ◌∷◌, [], ℕ, List, Option, Some, None, map, filter_map, codes, bytes_eq, if◌then◌else◌}
use Rattle.kp_base.specs.declared.ground.GroundName.{GroundName}
use Rattle.kp_classic.specs.declared.task.Task.{Task}
use Rattle.kp_law_ktask.specs.Accepted.{operator_step}
use Rattle.kp_plans.specs.Printed.{plan_text}
use Rattle.kp_run_outcome.specs.declared.outcome.Outcome.{Outcome}
use Rattle.kp_run_outcome.specs.Printing.{prints}
use Rattle.kp_words.specs.Asked.{Asked}
use Rattle.kp_words.specs.Command.{file_under, file_among, if_named}
use Rattle.kp_outside.specs.declared.outside.Got.{Got}
use Rattle.kp_outside.specs.Outside.{FileMap, IsFront}
use Rattle.kp_base.specs.Files.{most_bytes}
use Rattle.kp_run_outcome.specs.Ends.{AreHeld}
use Rattle.kp_run.specs.declared.inputs.Inputs.{Inputs}
use Rattle.kp_run.specs.Contents.{Contents, IsContent}

-- the names of these operators of a task are printed
pub record PrintsOperators (task : Task) (ops : List ℕ) (o : Outcome) : Type 0 where
  pub steps : List GroundName
  pub are : map (operator_step task) ops ≡ map Some steps
  pub printed : o ≡ prints (plan_text steps)

-- ---- what was read

-- of the files of merges, of which there is one at most
abbrev pub AreMerges : List (List ℕ) → Option Got → Type 0
AreMerges [] None = Unit {0}
AreMerges (text ∷ []) (Some got) = IsFront (Some text) most_bytes got
AreMerges texts got = ⊥

-- this was read of files that hold these contents
pub record AreInputs (t : Contents) (r : Inputs) : Type 0 where
  pub domain : IsFront (Some t.domain) most_bytes r.domain
  pub problem : IsFront (Some t.problem) most_bytes r.problem
  pub merges : AreMerges t.merges r.merges
  pub plan : IsFront (Some t.plan) most_bytes r.plan
  pub written : IsFront (Some t.written) most_bytes r.written

-- this was read of a file, if there is one
pub record IsReadOf (held : Option FileMap) (name : Option (List ℕ)) (got : Got) : Type 0 where
  pub text : List ℕ
  pub is : IsContent held name text
  pub front : IsFront (Some text) most_bytes got

-- and of one of merges
pub record AreReadOf (held : Option FileMap) (name : Option (List ℕ)) (got : Option Got) : Type 0 where
  pub texts : List (List ℕ)
  pub are : AreHeld held (if_named name) texts
  pub fronts : AreMerges texts got

-- this was read of the files of a command that stand under these names
pub record AreReadUnder (held : Option FileMap) (names : List (List ℕ)) (c : Asked) (r : Inputs) : Type 0 where
  pub domain : IsReadOf held (file_among names c (codes "D")) r.domain
  pub problem : IsReadOf held (file_among names c (codes "P")) r.problem
  pub merges : AreReadOf held (file_among names c (codes "merges")) r.merges
  pub plan : IsReadOf held (file_among names c (codes "PLAN")) r.plan
  pub written : IsReadOf held (file_among names c (codes "T")) r.written
  -- all of them hold something
  pub texts : List (List ℕ)
  pub all_held : AreHeld held (filter_map (file_under c) names) texts

-- what was read, once this is read under a name
abbrev pub with_read : List ℕ → Got → Inputs → Inputs
with_read name got r = record {
  domain = if bytes_eq name (codes "D") then got else r.domain;
  problem = if bytes_eq name (codes "P") then got else r.problem;
  merges = if bytes_eq name (codes "merges") then Some got else r.merges;
  plan = if bytes_eq name (codes "PLAN") then got else r.plan;
  written = if bytes_eq name (codes "T") then got else r.written;
}
