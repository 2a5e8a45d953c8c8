-- The grammar of plan files, and the steps of one that reads.
use Rattle.std.specs.Prelude.{List, map, true, false}
use Rattle.kp_base.specs.declared.ground.GroundName.{GroundName}
use Rattle.kp_tree_grammar.specs.declared.tree.Word.{Word}
use Rattle.kp_tree_grammar.specs.Language.{is_left, is_name, s_word, s_pair, s_list, Form, many, bracket, some}

-- ( Name Name* )
abbrev pub step : Form true (s_pair s_word (s_list s_word))
step = bracket (some is_name)

-- step*
abbrev pub plan : Form false (s_list (s_pair s_word (s_list s_word)))
plan = many is_left step

-- the name of a step that was read: its first word is the head, the others are objects
abbrev pub step_name : Word × List Word → GroundName
step_name x = record { head = x.0.text; objects = map (λ w. w.text) x.1 }
