-- Files that are shown to read by computing.
use Rattle.std.proofs.Common.{◌≡◌, ◌≤◌, ℕ, Bool, List, [], length, None, Ok, subst}
use Rattle.kp_base.specs.Files.{most_bytes}
use Rattle.kp_lex.specs.declared.token.Token.{Token}
use Rattle.kp_lex.specs.Cutting.{Cut}
use Rattle.kp_lex.specs.Scanning.{cut}
use Rattle.kp_lex.proofs.Public.{TellsCutting, cut_tells}
use Rattle.kp_tree_grammar.specs.declared.tree.Word.{Word}
use Rattle.kp_tree_grammar.specs.Language.{all_seen_in, Sort, El, Form, deep}
use Rattle.kp_tree_grammar.proofs.Public.{computed_outcome, answered_is_read}
use Rattle.kp_tree.specs.Files.{HasTree}

pub is_cut : (text : List ℕ) (ts : List Token) → cut 0 text ≡ Ok ts → Cut 0 text ts
is_cut text ts e = subst (TellsCutting 0 text) e (cut_tells 0 text)

pub reads_file : {b : Bool} {c : Sort} (X : Form b c) (text : List ℕ) (ts : List Token) (x : El Word c) → length text ≤ most_bytes → cut 0 text ≡ Ok ts → computed_outcome X text ts ≡ Ok (x, []) → deep 64 (all_seen_in text ts) ≡ None → HasTree X text x
reads_file {b} {c} X text ts x short e r shallow = record { short = short; tokens = ts; cut = is_cut text ts e; reads = record { reads = answered_is_read 8 b c X (all_seen_in text ts) x [] r; shallow = shallow } }
