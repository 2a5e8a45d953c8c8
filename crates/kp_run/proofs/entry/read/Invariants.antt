use Rattle.std.proofs.Common.{◌≡◌, List, ℕ, take}
use Rattle.kp_words_options.specs.Texts.{texts}
use Rattle.kp_run.specs.CommandParts.{AreReadUnder}
use Rattle.kp_run.proofs.entry.read.Given as goal

-- the files under the names before this one are read, and nothing failed
abbrev pub invariant-loop-name : goal.invariant-loop-name
invariant-loop-name g l =
    AreReadUnder (g.S.Shelf.contents l.fn.shelf) (texts (take l.name-index l.reads)) l.asked l.inputs
    × (g.S.Shelf.contents l.shelf ≡ g.S.Shelf.contents l.fn.shelf)
    × ((q : List ℕ) → g.S.Shelf.get_faults l.shelf q ≡ g.S.Shelf.get_faults l.fn.shelf q)
    × ((q : List ℕ) → g.S.Shelf.put_faults l.shelf q ≡ g.S.Shelf.put_faults l.fn.shelf q)
