-- One more name under a type, and the next name that is met.
use Rattle.std.proofs.Common.{◌≡◌, ◌≤◌, ◌+◌, ◌-◌, ℕ, suc, Bool, true, false, cond, List, [], ◌∷◌, ◌++◌, length, map, reverse, Some, refl, sym, ap, subst, ◌∙◌, arith}
use Rattle.std.proofs.lemmas.Grind.{common_steps}
use Rattle.std.proofs.lemmas.List.{map-append, reverse-append}
use Rattle.std.specs.Prelude.{unwrap_or, fold}
use Rattle.std.specs.Map.{lookup}
use Rattle.indexmap.specs.IndexMap.{insert_entry}
use Rattle.kp_names_semantics.specs.Names.{Name, same}
use Rattle.kp_base.proofs.Lists.{same-true}
use Rattle.kp_names_semantics.proofs.Public.{same_name-sym}
use Rattle.kp_names_declared.specs.Steps.{under, with_name}
use Rattle.kp_names_declared.specs.Chains.{pairs_of, IsChain, ends, leads, AreChained}
use Rattle.kp_names_declared.specs.declared.under.Link.{Link}
use Rattle.kp_names_declared.proofs.Entries.{found}
use Rattle.kp_names_declared.proofs.InnermostVariables.{inserted}

-- a chain stays where links come
longer : (links : List Link) (more : Link) (k : Name) (at : ℕ) (ns : List Name) → IsChain links k at ns → IsChain (links ++ more ∷ []) k at ns
longer links more k at ns ends = ends
longer links more k at ns (leads i l ms lt is low rest) = leads i l ms (grind (arith, common_steps)) (grind (arith, common_steps)) low (longer links more k l.before ms rest)

pub pairs_more : (links : List Link) (l : Link) → pairs_of (links ++ l ∷ []) ≡ (l.kind.now, l.name.now) ∷ pairs_of links
pairs_more links l =
    ap reverse (map-append (λ (l : Link). (l.kind.now, l.name.now)) links (l ∷ []))
    ∙ reverse-append (map (λ (l : Link). (l.kind.now, l.name.now)) links) ((l.kind.now, l.name.now) ∷ [])

module _ {K : Type 0} (now : K → Name) where
  place : List (K × ℕ) → Name → ℕ
  place es n = unwrap_or (lookup (same n) (map (λ e. (now e.0, e.1)) es)) 0

  placed : (es : List (K × ℕ)) (k : K) (v : ℕ) (n : Name)
      → unwrap_or (lookup (same n) (map (λ e. (now e.0, e.1)) (insert_entry (λ i j. same (now i) (now j)) es k v))) 0 ≡ cond (same n (now k)) v (unwrap_or (lookup (same n) (map (λ e. (now e.0, e.1)) es)) 0)
  placed es k v n =
      ap (λ o. unwrap_or o 0) (sym (found now n (insert_entry (λ i j. same (now i) (now j)) es k v)) ∙ (inserted now n es k v ∙ ap (cond (same n (now k)) (Some v)) (found now n es)))
      ∙ by (same n (now k))
    where
      by : (b : Bool) → unwrap_or (cond b (Some v) (lookup (same n) (map (λ e. (now e.0, e.1)) es))) 0 ≡ cond b v (unwrap_or (lookup (same n) (map (λ e. (now e.0, e.1)) es)) 0)
      by true = refl
      by false = refl

  -- a name comes under a type
  pub chained_more : (links : List Link) (es : List (K × ℕ)) (k : K) (l : Link) → now k ≡ l.kind.now
      → l.before ≡ unwrap_or (lookup (λ j. same (now k) (now j)) es) 0
      → AreChained links (map (λ e. (now e.0, e.1)) es)
      → AreChained (links ++ l ∷ []) (map (λ e. (now e.0, e.1)) (insert_entry (λ i j. same (now i) (now j)) es k (length links + 1)))
  chained_more links es k l is before h = record {
    within = λ n. subst (λ z. z ≤ length (links ++ l ∷ [])) (sym (placed es k (length links + 1) n)) (low n (same n (now k)));
    each = λ n. subst (λ z. IsChain (links ++ l ∷ []) n z (under (pairs_of (links ++ l ∷ [])) n)) (sym (placed es k (length links + 1) n))
        (subst (IsChain (links ++ l ∷ []) n (cond (same n (now k)) (length links + 1) (unwrap_or (lookup (same n) (map (λ e. (now e.0, e.1)) es)) 0))) (ap (λ ps. under ps n) (sym (pairs_more links l)))
        (by n (same n (now k)) (same l.kind.now n) (ap (same n) is ∙ same_name-sym n l.kind.now) refl));
  }
    where
      low : (n : Name) (b : Bool) → cond b (length links + 1) (unwrap_or (lookup (same n) (map (λ e. (now e.0, e.1)) es)) 0) ≤ length (links ++ l ∷ [])
      low n true = grind (arith, common_steps)
      low n false = let le = h.within n in grind (arith, common_steps)

      place_before : l.before ≡ unwrap_or (lookup (same l.kind.now) (map (λ e. (now e.0, e.1)) es)) 0
      place_before = before ∙ ap (λ o. unwrap_or o 0) (found now (now k) es) ∙ ap (λ z. unwrap_or (lookup (same z) (map (λ e. (now e.0, e.1)) es)) 0) is

      chain : IsChain (links ++ l ∷ []) l.kind.now l.before (under (pairs_of links) l.kind.now)
      chain = longer links l l.kind.now l.before (under (pairs_of links) l.kind.now) (subst (λ z. IsChain links l.kind.now z (under (pairs_of links) l.kind.now)) (sym place_before) (h.each l.kind.now))

      last : suc (length links) ≡ length links + 1
      last = omega arith

      here : IsChain (links ++ l ∷ []) l.kind.now (length links + 1) (l.name.now ∷ under (pairs_of links) l.kind.now)
      here =
          subst (λ z. IsChain (links ++ l ∷ []) l.kind.now z (l.name.now ∷ under (pairs_of links) l.kind.now)) last
          (leads (length links) l (under (pairs_of links) l.kind.now) (grind (arith, common_steps)) (grind (arith, common_steps)) (subst (λ z. z ≤ length links) (sym place_before) (h.within l.kind.now)) chain)

      by : (n : Name) (a b : Bool) → a ≡ b → same l.kind.now n ≡ b
          → IsChain (links ++ l ∷ []) n (cond a (length links + 1) (unwrap_or (lookup (same n) (map (λ e. (now e.0, e.1)) es)) 0)) (cond b (l.name.now ∷ under (pairs_of links) n) (under (pairs_of links) n))
      by n true true e s = subst (λ z. IsChain (links ++ l ∷ []) z (length links + 1) (l.name.now ∷ under (pairs_of links) z)) (same-true l.kind.now n s) here
      by n false false e s = longer links l n (unwrap_or (lookup (same n) (map (λ e. (now e.0, e.1)) es)) 0) (under (pairs_of links) n) (h.each n)
      by n true false e s = cc
      by n false true e s = cc

-- what is met from a place on, and what comes of it
pub record IsMet (links : List Link) (k : Name) (at : ℕ) (names all : List Name) : Type 0 where
  pub left : List Name
  pub chain : IsChain links k at left
  pub so_far : fold with_name names left ≡ all

-- no names at all
pub none_chained : AreChained [] []
none_chained = record { within = λ k. omega arith; each = λ k. ends }
