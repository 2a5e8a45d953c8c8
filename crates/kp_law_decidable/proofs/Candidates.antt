-- Some list of clauses is that of a target.
use Rattle.std.proofs.Common.{◌≡◌, ◌<◌, List, [], length, refl, sym, subst, arith}
use Rattle.std.specs.List.Sorted.{IsPermutation, IsSorted}
use Rattle.kp_base.specs.declared.lit.Lit.{Lit}
use Rattle.kp_base.specs.declared.ground.Ground.{Ground}
use Rattle.kp_base.specs.LitSet.{lits_cmp}
use Rattle.kp_base.specs.Relevance.{AreClausesFor}
use Rattle.kp_primes.specs.Held.{Held, formula, AreWhole}
use Rattle.kp_relevance.specs.Relevant.{ArePairsOf}
use Rattle.kp_relevance.specs.Gathered.{gathered}
use Rattle.kp_relevance.proofs.Public.{candidates_in_order_are_clauses_for}
use Rattle.kp_tags_modes.proofs.Public.{clauses_for_by_models as clauses}
use Rattle.kp_base.specs.Closure.{closure}
use Rattle.kp_base.proofs.Closures.{closure_over_first_atoms}
use Rattle.kp_law_decidable.specs.Laws.{ClausesAreDecided}
use Rattle.kp_law_decidable.proofs.InOrder.{in_order}
use Rattle.kp_law_decidable.proofs.Holding.{Holding, holding}
use Rattle.kp_law_decidable.proofs.Relevant.{relevance_decided}

by_held : (g : Ground) (pairs : List (Lit × Lit)) (h : Held) (target : Lit) → ArePairsOf g pairs → AreWhole h → length g.atoms ≡ h.atoms → target.atom.0 < h.atoms → (cs : List (List Lit)) × AreClausesFor g.actions h.atoms (formula h) target cs
by_held g pairs h target of_ground whole many below = go (in_order (gathered pairs h.clauses known target h.atoms))
  where
    known : List Lit
    known = closure (formula h) h.atoms []

    go : ((ds : List (List Lit)) × IsPermutation (gathered pairs h.clauses known target h.atoms) ds × IsSorted lits_cmp ds) → (cs : List (List Lit)) × AreClausesFor g.actions h.atoms (formula h) target cs
    go (ds, perm, order) = (ds, candidates_in_order_are_clauses_for h known whole (closure_over_first_atoms (formula h) h.atoms whole.of_atoms [] refl).closure g pairs target of_ground many below ds perm order)

pub clauses_decided : ClausesAreDecided
clauses_decided g i target proper below = go (relevance_decided g proper.own_atoms) (holding (length g.atoms) i proper.over proper.ascending proper.model)
  where
    go : ((pairs : List (Lit × Lit)) × ArePairsOf g pairs) → Holding (length g.atoms) i → (cs : List (List Lit)) × AreClausesFor g.actions (length g.atoms) i target cs
    go (pairs, of_ground) h =
        let e = h.atoms_are in
        let r = by_held g pairs h.held target of_ground h.whole (sym e) (omega (arith, below, e)) in
        (r.0, clauses (formula h.held) i h.same g.actions (length g.atoms) target r.0 (subst (λ m. AreClausesFor g.actions m (formula h.held) target r.0) e r.1))
