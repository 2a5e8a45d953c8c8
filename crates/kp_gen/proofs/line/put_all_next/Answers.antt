use Rattle.std.proofs.Common.{◌≡◌, ◌+◌, ◌-◌, ◌++◌, ℕ, List, codes, ap, sym, ◌∙◌, arith, append-nil}
use Rattle.std.specs.List.{flat_map, range_with_len}
use Rattle.std.proofs.lemmas.List.Folds.{flat_map-map}
use Rattle.kp_gen.specs.Line.{next_cell}
use Rattle.kp_gen.proofs.Turns.{turn}
use Rattle.kp_gen.proofs.line.put_all_next.Goals as goal

abbrev line : ℕ → List ℕ
line i = next_cell i ++ codes "\n"

-- all cells but the first are left
pub loop-i-init : goal.loop-i-init
loop-i-init c =
    let same : c.args.n + 1 - 2 ≡ c.args.n - 1 = omega arith in
    ap (λ z. c.args.out.now.items ++ z) (ap (λ m. flat_map line (range_with_len 2 m)) same ∙ sym (flat_map-map (λ (l : List ℕ). l ++ codes "\n") next_cell (range_with_len 2 (c.args.n - 1))))

pub loop-i-preserved : goal.loop-i-preserved
loop-i-preserved c = turn line c.loop-i.out.items c.put_next.new.out.items _ c.loop-i.i (c.args.n + 1) c.loop-i-test.true c.loop-i.invariant (c.in_ok-put_next.ensures ∙ ap (λ z. c.loop-i.out.items ++ z) (append-nil (line c.loop-i.i)))
