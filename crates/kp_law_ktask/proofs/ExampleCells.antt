-- Three cells of which one is full, with a tag for each and a merge: they can be written, and the texts have a plan with the merge.
use Rattle.std.proofs.Common.{◌≡◌, ℕ, ◌∷◌, [], List, length, map, codes, decimal, refl, arith}
use Rattle.std.proofs.lemmas.Fmt.{decimal_digit}
use Rattle.std.specs.List.{IsDistinct}
use Rattle.kp_base.specs.declared.ground.Merge.{Merge}
use Rattle.kp_base.specs.Lit.{positive}
use Rattle.kp_lex.specs.declared.token.TokenKind.TheVariants as kinds
use Rattle.kp_lex.specs.Bytes.{class_of}
use Rattle.kp_lex.specs.Cutting.{IsToken}
use Rattle.kp_tree_grammar.specs.Words.{IsLow}
use Rattle.kp_names_semantics.specs.Steps.{Step}
use Rattle.kp_names_semantics.specs.Plans.{IsPlan}
use Rattle.kp_names_semantics.specs.GroundNames.{IsGroundName}
use Rattle.kp_law_texts.specs.Pieces.{spelling, each}
use Rattle.kp_write.specs.Written.{op, effect_line}
use Rattle.kp_write.specs.Grounds.{IsWritable}
use Rattle.kp_write.specs.Named.{named_op, named_effect, domain_of, problem_of}
use Rattle.kp_law_texts.proofs.Public.{spelled_name_is_token}
use Rattle.kp_law_tagged_machine.proofs.Public.{cells_ground, one_cell_is_full, cells_table, cells_accepted, cells_table_is_right, cells_merges_are_valid, cells_never_clash, cells_effect}
use Rattle.kp_law_ktask.specs.Task.{facts_of, effects_under, merge_op, task_of}
use Rattle.kp_law_ktask.specs.Weight.{weight_of}
use Rattle.kp_law_ktask.specs.Writable.{IsWritableTask}
use Rattle.kp_law_ktask.specs.Accepted.{StripsToGroundPlan}
use Rattle.kp_law_ktask.proofs.Plans.{plans_are_accepted, plans_sound}

-- a word that is a Name, as a name without objects
nullary_name : (w : List ℕ) → IsToken kinds.Name w → IsLow w → IsGroundName (record { head = w; objects = [] })
nullary_name w t low = record { head = record { token = t; low = low }; objects = tt }

ground_writable : IsWritable cells_ground
unfolding class_of IsDistinct
ground_writable = record {
  atoms = (nullary_name (codes "x1") (spelled_name_is_token (codes "x1") refl) refl, (nullary_name (codes "x2") (spelled_name_is_token (codes "x2") refl) refl, (nullary_name (codes "x3") (spelled_name_is_token (codes "x3") refl) refl, tt)));
  atoms_differ = ((refl, (refl, tt)), ((refl, tt), (tt, tt)));
  actions = (
    record {
      name = nullary_name (codes "left") (spelled_name_is_token (codes "left") refl) refl;
      pre = tt;
      effects = (record { conds = (omega arith, tt); result = omega arith }, (record { conds = (omega arith, tt); result = omega arith }, (record { conds = (omega arith, tt); result = omega arith }, (record { conds = (omega arith, tt); result = omega arith }, tt))));
    },
    tt,
  );
  actions_differ = (tt, tt);
  goal_of_atoms = (omega arith, tt);
}

pub writable : IsWritableTask cells_ground cells_table
writable = record {
  ground = ground_writable;
  some_tag = omega arith;
  tags_fit = omega arith;
  rows = (
    record { closure = tt },
    (record { closure = (omega arith, (omega arith, (omega arith, tt))) }, (record { closure = (omega arith, (omega arith, (omega arith, tt))) }, (record { closure = (omega arith, (omega arith, (omega arith, tt))) }, tt))),
  );
  merges = (record { target = omega arith; tags_are = (record { below = omega arith }, (record { below = omega arith }, (record { below = omega arith }, tt))) }, tt);
  merges_fit = omega arith;
}

-- ---- its task

how_many_facts : length (facts_of cells_ground cells_table) ≡ 24
how_many_facts = refl

how_heavy : weight_of (task_of cells_ground cells_table) ≡ 68
how_heavy = refl

zeroth : decimal 0 ≡ codes "0"
zeroth = decimal_digit 0 (omega arith)

first_tag : decimal 1 ≡ codes "1"
first_tag = decimal_digit 1 (omega arith)

second_tag : decimal 2 ≡ codes "2"
second_tag = decimal_digit 2 (omega arith)

third_tag : decimal 3 ≡ codes "3"
third_tag = decimal_digit 3 (omega arith)

-- the first effect's support and cancellation
effect_bytes : spelling (each effect_line (map (named_effect (task_of cells_ground cells_table).facts) (effects_under 3 0 (cells_effect 2 (positive 1)))) []) ≡ codes "(when (and (kp_-x3_-0)) (kp_-x2_-0))\n(when (and (not (kn_-x3_-0))) (not (kn_-x2_-0)))\n"
effect_bytes = rw zeroth refl

abbrev merge : Merge
merge = record { target = positive 0; tags = 1 ∷ 2 ∷ 3 ∷ [] }

merge_bytes : spelling (op (named_op (task_of cells_ground cells_table).facts (merge_op 3 0 merge)) []) ≡ codes "(:action merge_-0\n:parameters ()\n:precondition (and (kp_-x1_-1) (kp_-x1_-2) (kp_-x1_-3))\n:effect (and\n(kp_-x1_-0)\n)\n)\n"
unfolding op
merge_bytes = rw (zeroth, first_tag, second_tag, third_tag) refl

-- ---- a plan of its texts

abbrev pub steps : List Step
steps = record { head = codes "do_-left"; objects = [] } ∷ record { head = codes "do_-left"; objects = [] } ∷ record { head = codes "merge_-0"; objects = [] } ∷ []

pub a_plan : IsPlan (domain_of (task_of cells_ground cells_table)) (problem_of (task_of cells_ground cells_table)) steps
a_plan = (plans_are_accepted cells_ground cells_table writable steps).1 (cells_accepted, record { steps_are = rw zeroth refl; accepted = refl })

it_strips : StripsToGroundPlan cells_ground one_cell_is_full steps
it_strips = plans_sound cells_ground one_cell_is_full cells_table writable cells_table_is_right cells_merges_are_valid cells_never_clash steps a_plan

-- ---- what is refused

-- a merge of a tag that isn't there
no_such_tag : IsWritableTask cells_ground (record { tags = cells_table.tags; merges = record { target = positive 0; tags = 4 ∷ [] } ∷ [] }) → ⊥
no_such_tag w = let below = w.merges.0.tags_are.0.below in absurd (omega (arith, below))
