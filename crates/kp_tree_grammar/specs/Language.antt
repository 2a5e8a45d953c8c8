-- What texts and their trees are. Each word is passed on from the file that says what it is.
pub use Rattle.kp_tree_grammar.specs.Trees.{Atom, Cond, Conds, Domain, Eff, Effs, Given, Item, Items, Lit, Pred, Problem, Schema, Section, Term, Typed, conds_of, effs_of, given_items, given_objects, goal_of, items_of, no_cond, section_constants, section_predicates, section_schemas, section_types}
pub use Rattle.kp_tree_grammar.specs.TreeMaps.{atom_map, cond_map, conds_map, domain_map, eff_map, effs_map, item_map, items_map, lit_map, pred_map, problem_map, schema_map, term_map, typed_map}
pub use Rattle.kp_tree_grammar.specs.Symbols.{Tok, all_seen_in, first_is, is_dash, is_define, is_domain, is_effect, is_either, is_equal, is_goal, is_head, is_init, is_keyword, is_left, is_merge, is_name, is_not, is_of_domain, is_parameters, is_precondition, is_problem, is_right, is_term, is_variable, seen_in}
unfoldable pub use Rattle.kp_tree_grammar.specs.Symbols.{symbol_of}
pub use Rattle.kp_tree_grammar.specs.Unsupported.{not_cond, not_effect, not_goal, not_item, not_lit}
pub use Rattle.kp_tree_grammar.specs.Sorts.{El, Maker, Seen, Sort, apply, m_action, m_all, m_any_of, m_atom, m_both, m_constants, m_domain, m_drop, m_each, m_fact, m_goal, m_holds, m_idle, m_init, m_items, m_joined, m_kind, m_kinds, m_lit, m_makes, m_name, m_needs, m_no_params, m_objects, m_of_domain, m_one_of, m_pred, m_predicates, m_problem, m_requires, m_same, m_saw, m_schema, m_true, m_typed, m_types, m_unknown, m_untyped, m_variable, m_when, m_word, s_atom, s_cond, s_domain, s_eff, s_given, s_item, s_list, s_lit, s_none, s_pair, s_pred, s_problem, s_schema, s_section, s_seen, s_term, s_typed, s_word, with_kinds}
pub use Rattle.kp_tree_grammar.specs.Forms.{Form, Named, bracket, choose, hits, loose, make, many, maybe, n_cond, n_eff, n_goal, n_item, none, refuse, run, token, within, ◌▸◌, ◌▹◌}
pub use Rattle.kp_tree_grammar.specs.Grammar.{atom_body, cond, cond_case, domain, eff, eff_case, equality, fact, fact_body, given, given_case, goal, goal_case, goal_lit_case, has_stood, item, item_case, kind, kind_case, lit, lit_case, once, parts_end_case, pred, problem, rule, schema, section, section_case, skip, some, term, term_maker, test_case, title, typed, word, words_of_requirements}
pub use Rattle.kp_tree_grammar.specs.Reading.{At, ReadBy, Reads, ReadsWhole, Reason, StopBy, Stops, StopsWhole, Syntax, Unsupported, after_form, r_absent, r_after, r_both, r_bracket, r_choice, r_end, r_last, r_loose, r_make, r_more, r_next, r_none, r_present, r_token, r_within, reason_of, s_after, s_at, s_before, s_choice, s_first, s_here, s_inside, s_lacks, s_later, s_loose, s_make, s_next, s_none_there, s_nothing, s_present, s_second, s_token, s_unclosed, s_unopened, s_within, stop, stop_by, within_form}
pub use Rattle.kp_tree_grammar.specs.Texts.{ReadsAs}
pub use Rattle.kp_tree_grammar.specs.Depth.{deep, levels}
pub use Rattle.kp_tree_grammar.specs.Parsing.{Outcome, closed, ended, go, level, read, ◌>>=◌}
unfoldable pub use Rattle.kp_tree_grammar.specs.Parsing.{next_at, some_at}
pub use Rattle.kp_tree_grammar.specs.Laws.{followed}
pub use Rattle.kp_tree_grammar.specs.Words.{IsHead, IsName}
