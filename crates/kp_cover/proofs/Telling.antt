-- Going on literal by literal tells whether the tags of a set of clauses cover.
use Rattle.std.proofs.Common.{◌≡◌, Bool, true, List, [], filter, map, refl, sym, ap, ◌∙◌}
use Rattle.std.specs.List.{list_any, list_all}
use Rattle.kp_base.specs.declared.lit.Lit.{Lit}
use Rattle.kp_base.specs.Lists.{Member, choices, each_once}
use Rattle.kp_base.specs.LitSet.{set_of, same_set}
use Rattle.kp_base.specs.Covering.{Meets}
use Rattle.kp_base.proofs.Lists.{all_from, all_member, any_member, any_from, member_filter, filter_member}
use Rattle.kp_base.proofs.Once.{all-each_once}
use Rattle.kp_base.proofs.Sets.{same_set-true}
use Rattle.kp_primes.specs.Asked.{entailed_by}
use Rattle.kp_primes.specs.Held.{Held, formula, AreWhole}
use Rattle.kp_primes.proofs.Public.{consistent_exact, entails_exact}
use Rattle.kp_cover.specs.Covering.{pick, IsCover}
use Rattle.kp_cover.specs.Laws.{CoversAreTold}
use Rattle.kp_cover.specs.Grown.{is_fine}
use Rattle.kp_cover.specs.Tested.{meets, all_meet}
use Rattle.kp_cover.proofs.Growing.{all_meet_is, fine_less}

module _ (h : Held) (whole : AreWhole h) (cs set : List (List Lit)) where
  abbrev sets : List (List Lit)
  sets = map set_of (choices set)

  abbrev covers_all : List (List Lit) → Bool
  covers_all = list_all (meets h.clauses cs)

  told : all_meet h.clauses cs [] set ≡ covers_all (filter (is_fine h.clauses) sets)
  told = all_meet_is h.clauses cs (fine_less h whole) set [] ((consistent_exact h whole []).1 whole.has_model)

  once-same : (xs : List (List Lit)) → covers_all (each_once same_set xs) ≡ covers_all xs
  once-same xs = all-each_once same_set (meets h.clauses cs) (λ a b e. ap (meets h.clauses cs) (same_set-true a b e)) xs

  -- a tag that meets each clause
  pub met_of : (tag : List Lit) → meets h.clauses cs tag ≡ true → (c : List Lit) → Member cs c → Meets (formula h) tag c
  met_of tag e c m =
      let l = any_member (entailed_by h.clauses tag) c (all_member (list_any (entailed_by h.clauses tag)) cs c m e) in
      record { lit = l.0; of_clause = l.1; entailed = (entails_exact h whole tag l.0).0 l.2 }

  pub of_met : (tag : List Lit) → ((c : List Lit) → Member cs c → Meets (formula h) tag c) → meets h.clauses cs tag ≡ true
  of_met tag f = all_from (list_any (entailed_by h.clauses tag)) cs (λ c m. let l = f c m in any_from (entailed_by h.clauses tag) c l.lit l.of_clause ((entails_exact h whole tag l.lit).1 l.entailed))

  abbrev taken : List (List Lit)
  taken = each_once same_set (filter (is_fine h.clauses) sets)

  there : all_meet h.clauses cs [] set ≡ true → (tags : List (List Lit)) × IsCover (formula h) cs set tags
  there e = (
    taken,
    record {
      are = record { test = is_fine h.clauses; tells = consistent_exact h whole; are = refl };
      cover = λ tag c m k. met_of tag (all_member (meets h.clauses cs) taken tag m (once-same (filter (is_fine h.clauses) sets) ∙ (sym told ∙ e))) c k;
    },
  )

  back : ((tags : List (List Lit)) × IsCover (formula h) cs set tags) → all_meet h.clauses cs [] set ≡ true
  back r =
      let all-of : covers_all (filter r.1.are.test sets) ≡ true = sym (once-same (filter r.1.are.test sets)) ∙ (ap covers_all (sym r.1.are.are) ∙ all_from (meets h.clauses cs) r.0 (λ tag m. of_met tag (λ c k. r.1.cover tag c m k))) in
      told ∙ all_from (meets h.clauses cs) (filter (is_fine h.clauses) sets) (λ tag m.
      let f = filter_member (is_fine h.clauses) sets tag m in
      all_member (meets h.clauses cs) (filter r.1.are.test sets) tag (member_filter r.1.are.test sets tag f.0 ((r.1.are.tells tag).1 ((consistent_exact h whole tag).0 f.1))) all-of)

pub covers_are_told : CoversAreTold
covers_are_told h whole cs places = (there h whole cs (pick cs places), back h whole cs (pick cs places))
