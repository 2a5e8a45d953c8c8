-- What problems, states, steps and plans are, by name and by number. Each word is passed on from the file that says what it is.
pub use Rattle.kp_names_semantics.specs.Names.{Name, all_same, distinct, is_among, same}
pub use Rattle.kp_names_semantics.specs.GroundNames.{IsGroundName, same_name}
pub use Rattle.kp_names_semantics.specs.Types.{declared, is_of_type, names, object_lines, objects, range, types_of}
pub use Rattle.kp_names_semantics.specs.Faults.{HasNoFault, atom_faults, cond_faults, conds_faults, eff_faults, effs_faults, inside, item_faults, items_faults, lit_faults, term_faults, variable_faults}
pub use Rattle.kp_names_semantics.specs.States.{Literal, bind, unbound}
pub use Rattle.kp_names_semantics.specs.Steps.{Step, after, object_lists, parameters}
pub use Rattle.kp_names_semantics.specs.Initial.{HasInitialState, by_name, items_literals}
pub use Rattle.kp_names_semantics.specs.Plans.{HasProblem, Solves}
pub use Rattle.kp_names_semantics.specs.Encoding.{decoded, encoded}
pub use Rattle.kp_names_semantics.specs.Strip.{PlansStrip, StripsToPlan, StripsToSolution, do_front, strip}
pub use Rattle.kp_names_semantics.specs.Numbered.{Cond, Eff, Lifted, Schema}
pub use Rattle.kp_names_semantics.specs.Lifted.{Instance, bindings, ground, holds, literal_holds}
pub use Rattle.kp_names_semantics.specs.Numbering.{Agree, AreObjects, heads, index_of, name_at, named_literal, named_objects, named_step, numbered_cond, numbered_conds, numbered_eff, numbered_effs, numbered_goal, numbered_goals, numbered_head, numbered_item, numbered_items, numbered_literal, numbered_pred, numbered_problem, numbered_range, numbered_schema, numbered_terms, object_number}
pub use Rattle.kp_names_semantics.specs.NumberLaws.{Matches, is_plain_goal}
