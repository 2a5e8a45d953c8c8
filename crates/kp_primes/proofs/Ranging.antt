-- Resolution brings in no literal that no clause has.
use Rattle.std.proofs.Common.{◌≡◌, Bool, true, false, not, cond, List, [], ◌∷◌, ◌++◌, refl, ◌∙◌, subst, inl, inr}
use Rattle.std.specs.List.{list_all}
use Rattle.kp_base.specs.declared.lit.Lit.{Lit}
use Rattle.kp_base.specs.Lists.{Member}
use Rattle.kp_base.specs.Lit.{negated, same_lit}
use Rattle.kp_base.proofs.Lists.{all_from, all_member, append_member, filter_member}
use Rattle.kp_base.proofs.Sets.{all-set_of}
use Rattle.kp_clauses.specs.Resolved.{without, resolved}
use Rattle.kp_clauses.specs.Stored.{with_all}
use Rattle.kp_clauses.proofs.Public.{with_all_member}
use Rattle.kp_primes.specs.Included.{stepped, walked, idle, included, all_included}
use Rattle.kp_primes.proofs.Spreading.{stepped_keeps}

module _ (t : Lit → Bool) where
  -- each literal of each clause passes the test
  abbrev pub AllPass : List (List Lit) → Type 0
  AllPass cs = (c : List Lit) → Member cs c → list_all t c ≡ true

  resolved_passes : (c d : List Lit) (l : Lit) → list_all t c ≡ true → list_all t d ≡ true → list_all t (resolved c d l) ≡ true
  resolved_passes c d l hc hd =
      all-set_of t (without l c ++ without (negated l) d)
      ∙ all_from t (without l c ++ without (negated l) d) (λ x m. elim (append_member (without l c) (without (negated l) d) x m) [
        | inl r ↦ all_member t c x (filter_member (λ x. not (same_lit x l)) c x r).0 hc
        | inr r ↦ all_member t d x (filter_member (λ x. not (same_lit x (negated l))) d x r).0 hd
      ])

  stepped_passes : (ps : List (List Lit)) (l : Lit) (es : List (List Lit)) → AllPass ps → AllPass es → AllPass (stepped ps l es)
  stepped_passes ps l es hp he = stepped_keeps ps l (λ c. list_all t c ≡ true) es (λ e p in-e in-p _. resolved_passes e p l (he e in-e) (hp p in-p)) he

  walked_passes : (ps : List (List Lit)) (ls : List Lit) (es : List (List Lit)) → AllPass ps → AllPass es → AllPass (walked ps ls es)
  walked_passes ps [] es hp he = he
  walked_passes ps (l ∷ ls) es hp he = walked_passes ps ls (stepped ps l es) hp (stepped_passes ps l es hp he)

  included_passes : (ps : List (List Lit)) (c : List Lit) → AllPass ps → list_all t c ≡ true → AllPass (included ps c)
  included_passes ps c hp hc = go (idle ps c)
    where
      one : AllPass (c ∷ [])
      one x m = elim m [ inl e ↦ subst (λ y. list_all t y ≡ true) e hc | inr bad ↦ absurd bad ]

      go : (b : Bool) → AllPass (cond b ps (with_all ps (walked ps c (c ∷ []))))
      go true = hp
      go false = λ x m. elim (with_all_member ps (walked ps c (c ∷ [])) x m) [
        | inl r ↦ hp x r
        | inr r ↦ walked_passes ps c (c ∷ []) hp one x r
      ]

  pub all_included_passes : (ps cs : List (List Lit)) → AllPass ps → AllPass cs → AllPass (all_included ps cs)
  all_included_passes ps [] hp hc = hp
  all_included_passes ps (c ∷ cs) hp hc = all_included_passes (included ps c) cs (included_passes ps c hp (hc c (inl refl))) (λ x m. hc x (inr m))
