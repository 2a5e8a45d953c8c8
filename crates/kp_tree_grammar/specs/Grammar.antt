-- The grammar of domains and problems, as data: each line is a form of the language.
use Rattle.std.specs.Prelude.{Bool, true, false, if◌then◌else◌, [], ◌∷◌}
use Rattle.std.specs.List.{list_any}
use Rattle.kp_tree_grammar.specs.declared.symbol.Symbol.{Symbol}
use Rattle.kp_tree_grammar.specs.declared.symbol.Symbol.TheVariants as symbols
use Rattle.kp_tree_grammar.specs.Symbols.{no_symbol, is_left, is_dash, is_equal, is_variable, is_and, is_or, is_not, is_when, is_forall, is_one_of, is_unknown, is_define, is_domain, is_problem, is_either, is_requirements, is_types, is_constants, is_predicates, is_action, is_parameters, is_precondition, is_effect, is_of_domain, is_objects, is_init, is_goal, is_head, is_name, is_term, is_keyword}
use Rattle.kp_tree_grammar.specs.Unsupported.{not_section, not_given, not_part, not_cond, not_goal, not_effect, not_item, not_lit}
use Rattle.kp_tree_grammar.specs.Sorts.{Sort, s_none, s_word, s_pair, s_list, s_typed, s_term, s_atom, s_cond, s_eff, s_lit, s_item, s_pred, s_schema, s_section, s_domain, s_seen, Seen, s_given, s_problem, Maker, m_word, m_drop, m_name, m_variable, m_atom, m_untyped, m_kind, m_kinds, m_typed, m_joined, m_all, m_true, m_holds, m_same, m_both, m_idle, m_when, m_each, m_makes, m_lit, m_items, m_fact, m_one_of, m_any_of, m_unknown, m_pred, m_no_params, m_schema, m_requires, m_types, m_constants, m_predicates, m_action, m_domain, m_of_domain, m_needs, m_objects, m_init, m_goal, m_saw, m_problem}
use Rattle.kp_tree_grammar.specs.Forms.{Named, n_cond, n_goal, n_eff, n_item, Form, token, none, refuse, ◌▹◌, ◌▸◌, many, run, maybe, make, choose, loose, bracket, within}

-- ---- words

-- a token that passes the test, as a word
abbrev pub word : (Symbol → Bool) → Form true s_word
word p = token p (λ _. m_word)

-- a token that is read and not kept
abbrev pub skip : (Symbol → Bool) → Form true s_none
skip p = token p (λ _. m_drop)

-- Name+ and the like
abbrev pub some : (Symbol → Bool) → Form true (s_pair s_word (s_list s_word))
some p = word p ▹ many p (word p)

-- ---- typed lists

-- Name, or ( either Name+ )
abbrev pub kind_case : Symbol → Form true (s_list s_word)
kind_case symbols.Left = bracket (is_either ▸ make m_kinds (some is_name))
kind_case _ = make m_kind (word is_name)

-- the kind after a dash
abbrev pub kind : Form true (s_list s_word)
kind = choose kind_case

-- any number of groups X+ or X+ - kind
abbrev pub typed : (Symbol → Bool) → Form false (s_list s_typed)
typed p = make m_joined (many p (make m_typed (some p ▹ maybe is_dash m_untyped (is_dash ▸ kind))))

-- ---- atoms

-- a name or a variable
abbrev pub term_maker : Symbol → Maker s_word s_term
term_maker symbols.Variable = m_variable
term_maker _ = m_name

-- a term
abbrev pub term : Form true s_term
term = token is_term term_maker

-- Head term*
abbrev pub atom_body : Form true s_atom
atom_body = make m_atom (word is_head ▹ many is_term term)

-- Head Name*
abbrev pub fact_body : Form true s_atom
fact_body = make m_atom (word is_head ▹ many is_name (token is_name (λ _. m_name)))

-- ( Head term* )
abbrev pub atom : Form true s_atom
atom = bracket atom_body

-- ( Head Name* )
abbrev pub fact : Form true s_atom
fact = bracket fact_body

-- = term term
abbrev pub equality : Form true (s_pair s_term s_term)
equality = is_equal ▸ (term ▹ term)

-- ---- conditions: ( ), ( and cond* ), test, ( not test ), where a test is ( Head term* ) or ( = term term )

-- a test between its brackets, or the same under a negation
abbrev pub test_case : Bool → Symbol → Form true s_cond
test_case b symbols.Equal = make (m_same b) equality
test_case b s = if is_head s then make (m_holds b) atom_body else refuse not_cond

-- a condition between its brackets, by the token there
abbrev pub cond_case : Symbol → Form false s_cond
cond_case symbols.Right = none m_true
cond_case symbols.And = loose (is_and ▸ make m_all (many is_left (within n_cond)))
cond_case symbols.Not = loose (is_not ▸ bracket (choose (test_case false)))
cond_case s = loose (test_case true s)

-- a condition
abbrev pub cond : Form true s_cond
cond = within n_cond

-- ---- goals: ( ), ( and goal* ), fact, ( not fact )

-- a fact of a goal between its brackets, or the same under a negation
abbrev pub goal_lit_case : Bool → Symbol → Form true s_cond
goal_lit_case b s = if is_head s then make (m_holds b) fact_body else refuse not_goal

-- a goal between its brackets, by the token there
abbrev pub goal_case : Symbol → Form false s_cond
goal_case symbols.Right = none m_true
goal_case symbols.And = loose (is_and ▸ make m_all (many is_left (within n_goal)))
goal_case symbols.Not = loose (is_not ▸ bracket (choose (goal_lit_case false)))
goal_case s = loose (goal_lit_case true s)

-- a goal
abbrev pub goal : Form true s_cond
goal = within n_goal

-- ---- effects: ( ), ( and eff* ), ( when cond eff ), ( forall ( typed variables ) eff ), atom, ( not atom )

-- an effect between its brackets, by the token there
abbrev pub eff_case : Symbol → Form false s_eff
eff_case symbols.Right = none m_idle
eff_case symbols.And = loose (is_and ▸ make m_both (many is_left (within n_eff)))
eff_case symbols.When = loose (is_when ▸ make m_when (cond ▹ within n_eff))
eff_case symbols.Forall = loose (is_forall ▸ make m_each (bracket (typed is_variable) ▹ within n_eff))
eff_case symbols.Not = loose (is_not ▸ make (m_makes false) atom)
eff_case s = loose (if is_head s then make (m_makes true) atom_body else refuse not_effect)

-- an effect
abbrev pub eff : Form true s_eff
eff = within n_eff

-- ---- items of `:init`: ( and item* ), fact, ( not fact ), ( oneof lit* ), ( or lit* ), ( unknown fact )

-- a literal of `oneof` or `or`: fact, or ( not fact )
abbrev pub lit_case : Symbol → Form true s_lit
lit_case symbols.Not = is_not ▸ make (m_lit false) fact
lit_case s = if is_head s then make (m_lit true) fact_body else refuse not_lit

-- such a literal in its brackets
abbrev pub lit : Form true s_lit
lit = bracket (choose lit_case)

-- an item between its brackets, by the token there
abbrev pub item_case : Symbol → Form false s_item
item_case symbols.And = loose (is_and ▸ make m_items (many is_left (within n_item)))
item_case symbols.Not = loose (is_not ▸ make (m_fact false) fact)
item_case symbols.OneOf = loose (make m_one_of (word is_one_of ▹ many is_left lit))
item_case symbols.Or = loose (make m_any_of (word is_or ▹ many is_left lit))
item_case symbols.Unknown = loose (make m_unknown (word is_unknown ▹ fact))
item_case s = loose (if is_head s then make (m_fact true) fact_body else refuse not_item)

-- an item of `:init`
abbrev pub item : Form true s_item
item = within n_item

-- what stands between the brackets of a rule
abbrev pub rule : {c : Sort} → Named c → Form false c
rule n_cond = choose cond_case
rule n_goal = choose goal_case
rule n_eff = choose eff_case
rule n_item = choose item_case

-- ---- domains

-- ( Head typed variables )
abbrev pub pred : Form true s_pred
pred = bracket (make m_pred (word is_head ▹ typed is_variable))

-- behind the parts of an action nothing stands
abbrev pub parts_end_case : Symbol → Form false s_none
parts_end_case s = if not_part s then refuse not_part else none m_drop

-- Name [:parameters ( typed variables )] [:precondition cond] [:effect eff]
abbrev pub schema : Form true s_schema
schema =
    make m_schema
    (word is_name
    ▹ maybe is_parameters m_no_params (is_parameters ▸ bracket (typed is_variable))
    ▹ maybe is_precondition m_true (is_precondition ▸ cond)
    ▹ maybe is_effect m_idle (is_effect ▸ eff)
    ▹ choose parts_end_case)

-- Keyword*
abbrev pub words_of_requirements : Form false s_none
words_of_requirements = make m_drop (many is_keyword (skip is_keyword))

-- a section of a domain between its brackets, by its keyword
abbrev pub section_case : Symbol → Form true s_section
section_case symbols.Requirements = is_requirements ▸ make m_requires words_of_requirements
section_case symbols.Types = is_types ▸ make m_types (typed is_name)
section_case symbols.Constants = is_constants ▸ make m_constants (typed is_name)
section_case symbols.Predicates = is_predicates ▸ make m_predicates (many is_left pred)
section_case symbols.Action = is_action ▸ make m_action schema
section_case _ = refuse not_section

-- a section of a domain
abbrev pub section : Form true s_section
section = bracket (choose section_case)

-- ( domain Name ) and ( problem Name )
abbrev pub title : (Symbol → Bool) → Form true s_none
title p = bracket (p ▸ skip is_name)

-- ( define ( domain Name ) section* )
abbrev pub domain : Form true s_domain
domain = bracket (is_define ▸ make m_domain (title is_domain ▹ many is_left section))

-- ---- problems: `:domain` and `:init` at most once, `:goal` exactly once, the others any number of times

-- a section that may stand once, if it has not stood
abbrev pub once : {c : Sort} → Bool → Form true c → Form true c
once true X = refuse no_symbol
once false X = X

-- the section with this keyword has stood
abbrev pub has_stood : (Symbol → Bool) → Seen → Bool
has_stood p seen = list_any p seen

-- a section of a problem between its brackets, by its keyword; where it restricts later ones, its keyword is kept
abbrev pub given_case : Seen → Symbol → Form true (s_pair s_seen s_given)
given_case seen symbols.OfDomain = once (has_stood is_of_domain seen) (is_of_domain ▸ make (m_saw (symbols.OfDomain ∷ seen)) (make m_of_domain (skip is_name)))
given_case seen symbols.Requirements = is_requirements ▸ make (m_saw seen) (make m_needs words_of_requirements)
given_case seen symbols.Objects = is_objects ▸ make (m_saw seen) (make m_objects (typed is_name))
given_case seen symbols.Init = once (has_stood is_init seen) (is_init ▸ make (m_saw (symbols.Init ∷ seen)) (make m_init (many is_left item)))
given_case seen symbols.Goal = once (has_stood is_goal seen) (is_goal ▸ make (m_saw (symbols.Goal ∷ seen)) (make m_goal goal))
given_case seen _ = refuse not_given

-- a section of a problem
abbrev pub given : Seen → Form true (s_pair s_seen s_given)
given seen = bracket (choose (given_case seen))

-- ( define ( problem Name ) psection* )
abbrev pub problem : Form true s_problem
problem = bracket (is_define ▸ make m_problem (title is_problem ▹ run is_left given (has_stood is_goal) []))
