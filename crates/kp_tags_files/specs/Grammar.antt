-- The grammar of files of merges.
use Rattle.std.specs.Prelude.{ℕ, List, map, true, false}
use Rattle.kp_base.specs.declared.ground.GroundName.{GroundName}
use Rattle.kp_tree_grammar.specs.declared.tree.Word.{Word}
use Rattle.kp_tree_grammar.specs.Language.{Term, Atom, Lit, is_left, is_merge, s_lit, s_pair, s_list, Form, ◌▹◌, ◌▸◌, many, bracket, lit}

-- ( lit* )
abbrev pub tag : Form true (s_list s_lit)
tag = bracket (many is_left lit)

-- lit tag*
abbrev pub merge_body : Form true (s_pair s_lit (s_list (s_list s_lit)))
merge_body = lit ▹ many is_left tag

-- ( merge lit tag* )
abbrev pub merge : Form true (s_pair s_lit (s_list (s_list s_lit)))
merge = bracket (is_merge ▸ merge_body)

-- merge*
abbrev pub merges : Form false (s_list (s_pair s_lit (s_list (s_list s_lit))))
merges = many is_left merge

-- a merge that was read: its target and its tags
abbrev pub MergeTree : Type 0
MergeTree = Lit Word × List (List (Lit Word))

-- the text of a term
abbrev pub term_text : Term Word → List ℕ
term_text (Term.name w) = w.text
term_text (Term.variable w) = w.text

-- the name of an atom that was read
abbrev pub name_of_atom : Atom Word → GroundName
name_of_atom a = record { head = a.head.text; objects = map term_text a.terms }
