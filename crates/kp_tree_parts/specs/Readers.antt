-- What the calls of this crate give, by the forms of `kp_tree_grammar`. What is promised of whole files doesn't speak of it.
use Rattle.std.specs.Prelude.{ℕ, List, Bool, true, false}
use Rattle.kp_tree_grammar.specs.declared.tree.Word.{Word}
use Rattle.kp_tree_grammar.specs.declared.symbol.Symbol.{Symbol}
use Rattle.kp_tree_grammar.specs.Language.{Typed, Term, Atom, Cond, Eff, Lit, Item, Pred, Schema, is_left, is_head, is_name, is_variable, is_either, is_dash, is_parameters, is_precondition, is_effect, Sort, El, Maker, s_word, s_term, s_list, s_typed, s_atom, s_cond, m_name, m_kinds, m_untyped, m_typed, m_atom, m_when, m_each, m_no_params, m_items, m_true, m_idle, m_pred, Form, token, many, make, maybe, bracket, ◌▸◌, ◌▹◌, choose, within, Named, n_cond, n_goal, n_eff, n_item, word, some, skip, term, term_maker, kind, typed, equality, test_case, goal_lit_case, rule, lit, lit_case, pred, cond, eff, parts_end_case, schema, title, read, ended, ◌>>=◌, levels}
use Rattle.kp_tree_cursor.specs.declared.cursor.Class.{Class}
use Rattle.kp_tree_cursor.specs.declared.cursor.Class.TheVariants as classes
use Rattle.kp_tree_parts.specs.declared.conds.Role.{Role}
use Rattle.kp_tree_parts.specs.declared.conds.Role.TheVariants as roles
use Rattle.kp_tree_cursor.specs.declared.cursor.Lead.{Lead}
pub use Rattle.kp_tree_cursor.specs.Readers.{unsupported, Fails, Gives, Passes, GivesAll, Closed, Opened, Reader, class_test, is_of, lead_test, Led, word_at, name_at, some_at, Words, keywords_at}

-- all tokens, with none left
unfoldable pub whole_at : {b : Bool} {c : Sort} → Form b c → Reader (El Word c)
whole_at X ts = read levels X ts >>= λ x. ended x.0 x.1

-- what is made of a term that is a token of the class
abbrev pub maker_of : Class → Symbol → Maker s_word s_term
maker_of classes.Name = λ _. m_name
maker_of _ = term_maker

-- a term that is a token of the class
abbrev pub term_form : Class → Form true s_term
term_form c = token (class_test c) (maker_of c)

-- terms
unfoldable pub terms_at : Class → Reader (List (Term Word))
terms_at c = read 0 (many (class_test c) (term_form c))

-- ---- typed lists; the number says how many levels of brackets are left

-- the types in an `either`
unfoldable pub names_at : Reader (List Word)
names_at = read 0 (make m_kinds (some is_name))

unfoldable pub either_names_at : Reader (List Word)
either_names_at = read 0 (is_either ▸ make m_kinds (some is_name))

unfoldable pub either_at : ℕ → Reader (List Word)
either_at d = read d (bracket (is_either ▸ make m_kinds (some is_name)))

unfoldable pub kind_at : ℕ → Reader (List Word)
kind_at d = read d kind

unfoldable pub kind_part_at : ℕ → Reader (List Word)
kind_part_at d = read d (maybe is_dash m_untyped (is_dash ▸ kind))

-- words of the class, and their kind
abbrev pub group_form : Class → Form true (s_list s_typed)
group_form c = make m_typed (some (class_test c) ▹ maybe is_dash m_untyped (is_dash ▸ kind))

unfoldable pub group_at : Class → ℕ → Reader (List (Typed Word))
group_at c d = read d (group_form c)

unfoldable pub typed_at : Class → ℕ → Reader (List (Typed Word))
typed_at c d = read d (typed (class_test c))

unfoldable pub typed_bracket_at : ℕ → Reader (List (Typed Word))
typed_bracket_at d = read d (bracket (typed is_variable))

-- ---- atoms

-- a head and its terms
abbrev pub body_form : Class → Form true s_atom
body_form c = make m_atom (word is_head ▹ many (class_test c) (term_form c))

unfoldable pub body_at : Class → Reader (Atom Word)
body_at c = read 0 (body_form c)

unfoldable pub atom_at : Class → ℕ → Reader (Atom Word)
atom_at c d = read d (bracket (body_form c))

unfoldable pub equality_at : Reader (Term Word × Term Word)
equality_at = read 0 equality

unfoldable pub term_at : Reader (Term Word)
term_at = read 0 term

-- ---- conditions and goals

-- what the terms of an atom may be
abbrev pub terms_class : Role → Class
terms_class roles.Condition = classes.Term
terms_class roles.Goal = classes.Name

-- the rule
abbrev pub named_of : Role → Named s_cond
named_of roles.Condition = n_cond
named_of roles.Goal = n_goal

-- a test between its brackets
abbrev pub test_form : Role → Bool → Symbol → Form true s_cond
test_form roles.Condition = test_case
test_form roles.Goal = goal_lit_case

unfoldable pub test_at : Role → Bool → ℕ → Reader (Cond Word)
test_at role positive d = read d (choose (test_form role positive))

-- a test under a negation
unfoldable pub denied_at : Role → ℕ → Reader (Cond Word)
denied_at role d = read d (bracket (choose (test_form role false)))

unfoldable pub cond_at : Role → ℕ → Reader (Cond Word)
cond_at role d = read d (within (named_of role))

unfoldable pub cond_inside_at : Role → ℕ → Reader (Cond Word)
cond_inside_at role d = read d (rule (named_of role))

unfoldable pub conds_at : Role → ℕ → Reader (List (Cond Word))
conds_at role d = read d (many is_left (within (named_of role)))

-- ---- effects

unfoldable pub eff_at : ℕ → Reader (Eff Word)
eff_at d = read d (within n_eff)

unfoldable pub eff_inside_at : ℕ → Reader (Eff Word)
eff_inside_at d = read d (rule n_eff)

-- behind `when`
unfoldable pub when_at : ℕ → Reader (Eff Word)
when_at d = read d (make m_when (within n_cond ▹ within n_eff))

-- behind `forall`
unfoldable pub each_at : ℕ → Reader (Eff Word)
each_at d = read d (make m_each (bracket (typed is_variable) ▹ within n_eff))

unfoldable pub effs_at : ℕ → Reader (List (Eff Word))
effs_at d = read d (many is_left (within n_eff))

-- ---- items of `:init`

unfoldable pub lit_at : ℕ → Reader (Lit Word)
lit_at d = read d lit

unfoldable pub lit_inside_at : ℕ → Reader (Lit Word)
lit_inside_at d = read d (choose lit_case)

unfoldable pub lits_at : ℕ → Reader (List (Lit Word))
lits_at d = read d (many is_left lit)

unfoldable pub item_at : ℕ → Reader (Item Word)
item_at d = read d (within n_item)

unfoldable pub item_inside_at : ℕ → Reader (Item Word)
item_inside_at d = read d (rule n_item)

-- behind `and`
unfoldable pub all_at : ℕ → Reader (Item Word)
all_at d = read d (make m_items (many is_left (within n_item)))

unfoldable pub items_at : ℕ → Reader (List (Item Word))
items_at d = read d (many is_left (within n_item))

-- ---- sections of a domain

unfoldable pub pred_at : ℕ → Reader (Pred Word)
pred_at d = read d pred

unfoldable pub pred_inside_at : ℕ → Reader (Pred Word)
pred_inside_at d = read d (make m_pred (word is_head ▹ typed is_variable))

unfoldable pub preds_at : ℕ → Reader (List (Pred Word))
preds_at d = read d (many is_left pred)

unfoldable pub params_at : ℕ → Reader (List (Typed Word))
params_at d = read d (maybe is_parameters m_no_params (is_parameters ▸ bracket (typed is_variable)))

unfoldable pub precondition_at : ℕ → Reader (Cond Word)
precondition_at d = read d (maybe is_precondition m_true (is_precondition ▸ cond))

unfoldable pub effect_at : ℕ → Reader (Eff Word)
effect_at d = read d (maybe is_effect m_idle (is_effect ▸ eff))

unfoldable pub parts_end_at : Reader (Unit {0})
parts_end_at = read 0 (choose parts_end_case)

unfoldable pub schema_at : ℕ → Reader (Schema Word)
schema_at d = read d schema

-- the word and a name
unfoldable pub title_inside_at : Lead → Reader (Unit {0})
title_inside_at lead = read 0 (lead_test lead ▸ skip is_name)

unfoldable pub title_at : Lead → ℕ → Reader (Unit {0})
title_at lead d = read d (title (lead_test lead))
