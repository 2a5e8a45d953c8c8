use Rattle.std.proofs.Common.{◌≡◌, List, ℕ, drop}
use Rattle.kp_run_outcome.proofs.Fronts.{ArePut}
use Rattle.kp_run_outcome.proofs.carry.put_all.Given as goal

-- the files before this one are put, and nothing failed
abbrev pub invariant-loop-file : goal.invariant-loop-file
invariant-loop-file g l =
    ArePut (g.S.Shelf.contents l.fn.shelf) (g.S.Shelf.contents l.shelf) l.fn.puts (drop l.file-index l.puts)
    × ((q : List ℕ) → g.S.Shelf.put_faults l.shelf q ≡ g.S.Shelf.put_faults l.fn.shelf q)
    × ((q : List ℕ) → g.S.Shelf.get_faults l.shelf q ≡ g.S.Shelf.get_faults l.fn.shelf q)
