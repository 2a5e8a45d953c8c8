-- The plans of what is written for two trees, or two texts, and a table strip to plans of these.
use Rattle.kp_names_semantics.proofs.Public.{goals_are_plain}
use Rattle.kp_init.proofs.Public.{named_runs_are_plans}
use Rattle.kp_base.specs.Machine.{stripped}
use Rattle.kp_law_ktask.proofs.Public.{tagged_plans_are_sound}
use Rattle.kp_law_translation.specs.OfTrees.{ground_of, initial_of}
use Rattle.kp_law_translation.proofs.Tables.{tables_written as tables_can_be_written}
use Rattle.kp_law_translation.specs.Laws.{WrittenPlansStripToSolutions, TranslationsAreSound}

pub plans_solve : WrittenPlansStripToSolutions
plans_solve d p table no_fault plain safe steps plan =
    let r = tagged_plans_are_sound (ground_of d p) (initial_of d p) table safe.writable safe.table_for.right safe.table_for.valid safe.no_clash steps plan in
    record {
      stripped = r.stripped_to.names;
      strips = r.stripped_to.strips;
      solves = named_runs_are_plans d p no_fault plain r.stripped_to.names (stripped r.machine) (record { names = r.stripped_to.are_names; plan = r.plan });
    }

pub translations_sound : TranslationsAreSound
translations_sound domain problem x table h never steps plan =
    let r = plans_solve x.domain x.problem table x.no_fault (goals_are_plain problem x.problem x.problem_reads) (record { writable = tables_can_be_written domain problem x table h; table_for = h; no_clash = never }) steps plan in
    record { stripped = r.stripped; strips = r.strips; is_plan = record { has = x; solves = r.solves } }
