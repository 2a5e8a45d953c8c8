-- Whole lists of prime implicates answer the questions of tags exactly.
use Rattle.std.proofs.Common.{◌≡◌, ◌↔◌, ℕ, true, false, not, IsTrue, List, [], fold, refl, sym, subst, ap}
use Rattle.std.proofs.lemmas.Bool.{and_from, not-true, false_from_ne_true}
use Rattle.std.specs.List.{list_any, list_all}
use Rattle.kp_base.specs.declared.lit.Lit.{Lit}
use Rattle.kp_base.specs.Planning.{Member, holds, is_model, Entails, IsConsistent, IsClosure, IsPrime}
use Rattle.kp_primes.specs.Asked.{inconsistent, entailed_by, with_left}
use Rattle.kp_primes.specs.Held.{Held, formula, AreWhole}
use Rattle.kp_primes.specs.Placed.{AreHolders, AreReady}
use Rattle.kp_primes.proofs.Closing.{always_is}
use Rattle.kp_primes.proofs.Cover.{IsCover}
use Rattle.kp_primes.proofs.Asking.{met_somewhere, met_nowhere, entailed_exact}

-- they are a cover of their own models
own_cover : (h : Held) → AreWhole h → IsCover (is_model (formula h)) h.clauses
own_cover h whole = record {
  each = λ c m. let p = prime c m in record { proper = p.implicate.proper; set = p.ascending; sound = p.implicate.holds_always };
  covers = λ d proper follows. whole.covers d (record { proper = proper; holds_always = follows });
}
  where
    prime : (c : List Lit) → Member h.clauses c → IsPrime (formula h) c
    prime c m = (whole.primes.primes.exact c).0 m

-- a consistent tag isn't found to be inconsistent
pub consistent_free : (h : Held) → AreWhole h → (tag : List Lit) → IsConsistent (formula h) tag → inconsistent h.clauses tag ≡ false
consistent_free h whole tag met = false_from_ne_true (inconsistent h.clauses tag) (λ none. met_nowhere (is_model (formula h)) h.clauses (own_cover h whole) tag none met.state met.model met.all_true)

pub consistent_exact : (h : Held) → AreWhole h → (tag : List Lit) → IsTrue (not (inconsistent h.clauses tag)) ↔ IsConsistent (formula h) tag
consistent_exact h whole tag = (
  λ yes.
      let found = met_somewhere (is_model (formula h)) h.clauses (own_cover h whole) h.atoms whole.of_atoms.clauses tag (not-true (inconsistent h.clauses tag) yes) in
      record { state = found.0; model = and_from (list_all (list_any (holds found.0)) h.clauses) true found.1 refl; all_true = found.2 },
  λ met. ap not (consistent_free h whole tag met),
)

pub entails_exact : (h : Held) → AreWhole h → (tag : List Lit) (l : Lit) → IsTrue (entailed_by h.clauses tag l) ↔ Entails (formula h) tag l
entails_exact h whole tag l = entailed_exact (is_model (formula h)) h.clauses (own_cover h whole) tag l

-- what stands beside whole lists
pub ready_is : (h : Held) (lists : List (List ℕ)) (set : List Lit) → AreWhole h → AreHolders lists h.clauses → set ≡ fold (with_left []) [] h.clauses → AreReady h lists set
ready_is h lists set whole holders is = record {
  whole = whole;
  holders = holders;
  always = subst (IsClosure h.atoms (formula h) []) (sym is) (always_is h.atoms (formula h) h.clauses whole.of_atoms.clauses (consistent_free h whole [] whole.has_model) (entails_exact h whole []));
}
