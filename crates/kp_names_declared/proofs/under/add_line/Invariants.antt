use Rattle.std.proofs.Common.{◌≡◌, ◌∷◌, map, drop, fold}
use Rattle.kp_names_declared.specs.Chains.{AreChained, pairs_of}
use Rattle.kp_names_declared.proofs.under.add_line.Given as goal

-- with the types that are left come all
abbrev pub invariant-loop-kind : goal.invariant-loop-kind
invariant-loop-kind l = record {
  chained : AreChained l.links.items (map (λ e. (e.0.now, e.1)) l.last.entries);
  so_far : fold (λ qs k. (k.text, l.line.word.text) ∷ qs) (pairs_of l.links.items) (drop l.kind-index l.kind-items) ≡ fold (λ qs k. (k.text, l.line.word.text) ∷ qs) (pairs_of l.fn.links.items) l.kind-items;
}
