use Rattle.kp_clash_exclusive.proofs.tables.Tables.of.Goals as goal

pub returns : goal.returns
returns c = record {
  deletes = rw c.slice.ensures at c.spans_of.ensures;
  asks = rw c.slice-3.ensures.value at c.atoms_asked.ensures;
  adds = rw c.slice-2.ensures at c.atoms_added-added.ensures;
  deletes_surely = c.atoms_deleted.ensures;
}
