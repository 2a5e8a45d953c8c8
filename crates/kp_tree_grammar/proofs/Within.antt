-- What stops, stops within what is read.
use Rattle.std.proofs.Common.{◌≤◌, Bool, List, length, arith}
use Rattle.kp_tree_grammar.specs.Sorts.{Sort}
use Rattle.kp_tree_grammar.specs.Forms.{Form}
use Rattle.kp_tree_grammar.specs.Reading.{At, StopBy, s_token, s_nothing, s_first, s_second, s_before, s_after, s_here, s_later, s_lacks, s_at, s_next, s_present, s_make, s_none_there, s_choice, s_loose, s_unopened, s_inside, s_unclosed, s_within}
use Rattle.kp_tree_grammar.specs.Symbols.{Tok}
use Rattle.kp_tree_grammar.proofs.Exact.{fewer}

pub stops_within : {W : Type 0} {b : Bool} {c : Sort} {X : Form b c} {ts : List (Tok W)} {at : At W} → StopBy b c X ts at → length at.tokens ≤ length ts
stops_within (s_token e) = omega arith
stops_within s_nothing = omega arith
stops_within (s_first h) = stops_within h
stops_within (s_second {ts = ts} {mid = mid} h k) = omega (arith, fewer ts mid h, stops_within k)
stops_within (s_before e) = omega arith
stops_within (s_after e h) = omega (arith, stops_within h)
stops_within (s_here e h) = stops_within h
stops_within (s_later {ts = ts} {mid = mid} e h k) = omega (arith, fewer ts mid h, stops_within k)
stops_within (s_lacks e h) = omega arith
stops_within (s_at e h) = stops_within h
stops_within (s_next {ts = ts} {mid = mid} e h k) = omega (arith, fewer ts mid h, stops_within k)
stops_within (s_present e h) = stops_within h
stops_within (s_make h) = stops_within h
stops_within s_none_there = omega arith
stops_within (s_choice h) = stops_within h
stops_within (s_loose h) = stops_within h
stops_within (s_unopened e) = omega arith
stops_within (s_inside e h) = omega (arith, stops_within h)
stops_within (s_unclosed {ts = ts} {rest = rest} e h k) = omega (arith, fewer ts rest h)
stops_within (s_within h) = stops_within h
