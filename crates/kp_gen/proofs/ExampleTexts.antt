-- The texts with two cells, and with two packages.
use Rattle.std.proofs.Common.{◌≡◌, codes, refl}
use Rattle.std.specs.Fmt.{digits}
use Rattle.kp_gen.specs.Lines.{text}
use Rattle.kp_gen.specs.Line as line
use Rattle.kp_gen.specs.Bombs as bombs

two_cells : text (line.problem_lines 2) ≡ codes "(define (problem line)\n(:domain line)\n(:objects\nc1\nc2\n- cell)\n(:init\n(oneof\n(at c1)\n(at c2)\n)\n(next c2 c1)\n)\n(:goal (at c1))\n)\n"
unfolding digits
two_cells = refl

-- numbers are decimal
ten_and_nine : line.next_cell 10 ≡ codes "(next c10 c9)"
unfolding digits
ten_and_nine = refl

two_packages : text (bombs.problem_lines 2) ≡ codes "(define (problem bombs)\n(:domain bombs)\n(:objects\np1\np2\n- package t1 t2 - toilet)\n(:init\n(oneof\n(armed p1)\n(armed p2)\n)\n)\n(:goal (and\n(not (armed p1))\n(not (armed p2))\n))\n)\n"
unfolding digits
two_packages = refl
