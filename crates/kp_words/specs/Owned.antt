-- What a command that owns its names asks for.
use Rattle.std.specs.Prelude.{List, ℕ, [], Option, Some, None, codes, if◌then◌else◌}
use Rattle.kp_base.specs.declared.limits.Mode.{Mode}
use Rattle.kp_words.specs.declared.source.Source.{Source as Owned}
use Rattle.kp_words.specs.declared.source.Source.TheVariants as sources
use Rattle.kp_words.specs.declared.verb.Verb.{Verb}
use Rattle.kp_words.specs.declared.verb.Verb.TheVariants as verbs
use Rattle.kp_words.specs.declared.commands.Command.{Command}
use Rattle.kp_words.specs.declared.commands.Command.TheVariants as owned
use Rattle.kp_words_options.specs.Words.{has_text}
use Rattle.kp_words.specs.Asked.{Asked}
use Rattle.kp_words.specs.Forms.{form}
use Rattle.kp_words.specs.Options.{usual_limit, usual_budget, usual_bound, usual_mode, no_family, no_size}

-- a command of which nothing is said
abbrev pub bare : Verb → Asked
bare verb = record { verb = verb; domain = []; problem = []; plan = []; written = []; domain_out = []; problem_out = []; mode = usual_mode; merges = None; implicates = usual_limit; budget = usual_budget; bound = usual_bound; classical = None; family = no_family; size = no_size }

-- the mode of a source; it is the usual one where a file is named
abbrev pub mode_in : Owned → Mode
mode_in (sources.Mode mode) = mode
mode_in (sources.File name) = usual_mode

-- the file of merges that it names
abbrev pub merges_in : Owned → Option (List ℕ)
merges_in (sources.Mode mode) = None
merges_in (sources.File name) = Some name

-- what each asks for
abbrev pub command_view : Command → Asked
command_view (owned.Translate domain problem to_domain to_problem source implicates) =
    record (bare verbs.Translate) { domain = domain; problem = problem; domain_out = to_domain; problem_out = to_problem; mode = mode_in source; merges = merges_in source; implicates = implicates }
command_view (owned.Solve domain problem source implicates budget classical) =
    record (bare verbs.Solve) { domain = domain; problem = problem; mode = mode_in source; merges = merges_in source; implicates = implicates; budget = budget; classical = classical }
command_view (owned.Classical domain problem budget) = record (bare verbs.Classical) { domain = domain; problem = problem; budget = budget }
command_view (owned.Strip plan) = record (bare verbs.Strip) { written = plan }
command_view (owned.Lift domain problem plan source implicates) =
    record (bare verbs.Lift) { domain = domain; problem = problem; plan = plan; mode = mode_in source; merges = merges_in source; implicates = implicates }
command_view (owned.Check domain problem plan implicates) = record (bare verbs.Check) { domain = domain; problem = problem; plan = plan; implicates = implicates }
command_view (owned.Width domain problem bound implicates) = record (bare verbs.Width) { domain = domain; problem = problem; bound = bound; implicates = implicates }
command_view (owned.Merges domain problem mode implicates) = record (bare verbs.Merges) { domain = domain; problem = problem; mode = mode; implicates = implicates }
command_view (owned.Bench family n mode budget) = record (bare verbs.Bench) { family = family; size = n; mode = mode; budget = budget }

-- ---- for contracts and proofs alone

-- the mode of a command: the usual one where it names a file of merges
abbrev pub mode_beside : Option (List ℕ) → Mode → Mode
mode_beside None mode = mode
mode_beside (Some name) mode = usual_mode

-- a command with what a verb has words for; of all else nothing is said
abbrev pub kept : Verb → Asked → Asked
kept verb c = record {
  verb = verb;
  domain = if has_text (form verb).places (codes "D") then c.domain else [];
  problem = if has_text (form verb).places (codes "P") then c.problem else [];
  plan = if has_text (form verb).places (codes "PLAN") then c.plan else [];
  written = if has_text (form verb).places (codes "T") then c.written else [];
  domain_out = if has_text (form verb).places (codes "OD") then c.domain_out else [];
  problem_out = if has_text (form verb).places (codes "OP") then c.problem_out else [];
  mode = if has_text (form verb).options (codes "mode") then c.mode else usual_mode;
  merges = if has_text (form verb).options (codes "merges") then c.merges else None;
  implicates = if has_text (form verb).options (codes "implicates") then c.implicates else usual_limit;
  budget = if has_text (form verb).options (codes "budget") then c.budget else usual_budget;
  bound = if has_text (form verb).options (codes "bound") then c.bound else usual_bound;
  classical = if has_text (form verb).options (codes "classical") then c.classical else None;
  family = if has_text (form verb).places (codes "FAMILY") then c.family else no_family;
  size = if has_text (form verb).places (codes "N") then c.size else no_size;
}
