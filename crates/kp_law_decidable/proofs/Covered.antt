-- Whether tags cover a target is decided, so which targets a table leaves uncovered.
use Rattle.std.proofs.Common.{◌≡◌, ◌↔◌, ◌⊎◌, ◌<◌, ◌≤◌, ◌&&◌, ℕ, Bool, true, false, not, List, [], ◌∷◌, Option, Some, None, slice_get, length, refl, sym, ap, ap₂, subst, ◌∙◌, inl, inr, arith}
use Rattle.std.proofs.lemmas.Bool.{and_parts, and_from, false≢true, not-true}
use Rattle.std.specs.List.{list_any, list_all}
use Rattle.kp_base.specs.declared.lit.Lit.{Lit}
use Rattle.kp_base.specs.declared.lit.AtomId.{AtomId}
use Rattle.kp_base.specs.declared.ground.Ground.{Ground}
use Rattle.kp_base.specs.declared.ground.Initial.{Initial}
use Rattle.kp_base.specs.declared.ground.Merge.{Merge}
use Rattle.kp_base.specs.declared.ground.TagRow.{TagRow}
use Rattle.kp_base.specs.declared.ground.TagTable.{TagTable}
use Rattle.kp_base.specs.Planning.{Member, same_lit, set_of, State, holds, is_model, tag_holds, IsValid, AllMeet, Covers, tags_of, IsCovered, AreUncovered, are_below, IsOfAtoms, AreClausesFor}
use Rattle.kp_base.proofs.Lists.{any_alike, all_member, all_weaker, member_at}
use Rattle.kp_base.proofs.Lits.{same_lit-true, same_lit-refl}
use Rattle.kp_base.proofs.Sets.{set_ascends}
use Rattle.kp_primes_first_model.specs.Ordered.{state_of_atoms, AnswersFirst}
use Rattle.kp_primes_first_model.proofs.Public.{literals_read_first_atoms, models_read_first_atoms}
use Rattle.kp_cover.specs.Targets.{AreTargets}
use Rattle.kp_law_decidable.specs.Laws.{AreProper, CoversAreDecided, CoveragesAreDecided, TablesWithNoneAreComplete}
use Rattle.kp_law_decidable.proofs.Firsts.{first_or_none}
use Rattle.kp_law_decidable.proofs.Either.{IsEither, both, denied, as_well, some_or_none, kept}
use Rattle.kp_law_decidable.proofs.Tags.{below_more, over_more, room, all_meet}
use Rattle.kp_law_decidable.proofs.Candidates.{clauses_decided}
use Rattle.kp_cover.proofs.Public.{target_is_below}
use Rattle.kp_law_decidable.proofs.Needed.{set_member, member_set, targets_decided}

-- ---- covers

-- what tags do to the clauses of a target
pub covers_by : (g : Ground) (i : Initial) (tags : List (List Lit)) (target : Lit) (cs : List (List Lit)) → IsOfAtoms (length g.atoms) i → AreClausesFor g.actions (length g.atoms) i target cs → IsEither (Covers g i tags target)
covers_by g i tags target cs over are =
    as_well (λ (f : AllMeet i tags cs) tag c m r. f tag c m ((are.exact c).1 r)) (λ f tag c m r. f tag c m ((are.exact c).0 r))
    (all_meet (length g.atoms) i over tags cs)

pub covers_decided : CoversAreDecided
covers_decided g i tags target proper below = let r = clauses_decided g i target proper below in covers_by g i tags target r.0 proper.over r.1

-- ---- valid merges

-- at least n atoms, and those of each tag
record Rooms (n : ℕ) (rows : List TagRow) : Type 0 where
  atoms : ℕ
  more : n ≤ atoms
  below : list_all (λ (row : TagRow). are_below atoms row.lits) rows ≡ true

rooms : (n : ℕ) (rows : List TagRow) → Rooms n rows
rooms n [] = record { atoms = n; more = omega arith; below = refl }
rooms n (row ∷ rows) = go (rooms n rows)
  where
    go : Rooms n rows → Rooms n (row ∷ rows)
    go r =
        let own = room r.atoms row.lits in
        record {
          atoms = own.atoms;
          more = let a = r.more in let b = own.more in omega (arith, a, b);
          below = and_from (are_below own.atoms row.lits) (list_all (λ (x : TagRow). are_below own.atoms x.lits) rows) own.below
              (all_weaker (λ (x : TagRow). are_below r.atoms x.lits) (λ (x : TagRow). are_below own.atoms x.lits) rows (λ x _. below_more r.atoms own.atoms own.more x.lits) r.below);
        }

module _ (n : ℕ) (i : Initial) (over : IsOfAtoms n i) (table : TagTable) where
  abbrev inside : Merge → State → Bool
  inside m s = list_any (λ t. tag_holds (slice_get table.tags t) s) m.tags

  abbrev outside : Merge → State → Bool
  outside m s = is_model i s && not (inside m s)

  valid : (m : Merge) → IsEither (IsValid i table m)
  valid m = by (rooms n table.tags)
    where
      by : Rooms n table.tags → IsEither (IsValid i table m)
      by r = go (first_or_none r.atoms (outside m) (record {
        alike = λ s t same. ap₂ (λ a b. a && b) (models_read_first_atoms r.atoms s t same i (over_more n r.atoms r.more i over)) (ap not
            (any_alike (λ k. tag_holds (slice_get table.tags k) s) (λ k. tag_holds (slice_get table.tags k) t) m.tags (λ k _.
            one s t k (slice_get table.tags k) refl (λ row is. literals_read_first_atoms r.atoms s t same row.lits (all_member (λ (x : TagRow). are_below r.atoms x.lits) table.tags row (member_at table.tags k row is) r.below)))));
      }))
        where
          one : (s t : State) (k : ℕ) (o : Option TagRow) → slice_get table.tags k ≡ o → ((row : TagRow) → slice_get table.tags k ≡ Some row → list_all (holds s) row.lits ≡ list_all (holds t) row.lits) → tag_holds (slice_get table.tags k) s ≡ tag_holds (slice_get table.tags k) t
          one s t k None is f = ap (λ o. tag_holds o s) is ∙ sym (ap (λ o. tag_holds o t) is)
          one s t k (Some row) is f = ap (λ o. tag_holds o s) is ∙ (f row is ∙ sym (ap (λ o. tag_holds o t) is))

          in_or_out : (s : State) → outside m s ≡ false → is_model i s ≡ true → (b : Bool) → inside m s ≡ b → inside m s ≡ true
          in_or_out s out model true is = is
          in_or_out s out model false is = absurd (false≢true (sym out ∙ and_from (is_model i s) (not (inside m s)) model (ap not is)))

          go : ((o : Option (List AtomId)) × AnswersFirst r.atoms (outside m) o) → IsEither (IsValid i table m)
          go (None, none) = inl (λ s model. in_or_out s (none s) model (inside m s) refl)
          go (Some ps, first) =
              let parts = and_parts (is_model i (state_of_atoms ps)) (not (inside m (state_of_atoms ps))) first.0.passed in
              inr (λ all. false≢true (sym (not-true (inside m (state_of_atoms ps)) parts.1) ∙ all (state_of_atoms ps) parts.0))

-- ---- covered targets

same_or_not : (l m : Lit) → IsEither (l ≡ m)
same_or_not l m = by (same_lit l m) refl
  where
    by : (b : Bool) → same_lit l m ≡ b → IsEither (l ≡ m)
    by true is = inl (same_lit-true l m is)
    by false is = inr (λ e. false≢true (sym is ∙ subst (λ x. same_lit l x ≡ true) e (same_lit-refl l)))

module _ (g : Ground) (i : Initial) (table : TagTable) (proper : AreProper g i) (target : Lit) (below : target.atom.0 < length g.atoms) where
  -- the merge covers the target
  record CoveredBy (m : Merge) : Type 0 where
    same : m.target ≡ target
    valid : IsValid i table m
    covers : Covers g i (tags_of table m) target

  merge_covers : (m : Merge) → IsEither (CoveredBy m)
  merge_covers m =
      as_well (λ r. record { same = r.0; valid = r.1.0; covers = r.1.1 }) (λ c. (c.same, (c.valid, c.covers)))
      (both (same_or_not m.target target) (both (valid (length g.atoms) i proper.over table m) (covers_decided g i (tags_of table m) target proper below)))

  covered : IsEither (IsCovered g i table target)
  covered = go (covers_decided g i ([] ∷ []) target proper below) (some_or_none CoveredBy table.merges (λ m _. merge_covers m))
    where
      go : IsEither (Covers g i ([] ∷ []) target) → ((m : Merge) × Member table.merges m × CoveredBy m) ⊎ ((m : Merge) → Member table.merges m → CoveredBy m → ⊥) → IsEither (IsCovered g i table target)
      go (inl c) found = inl (IsCovered.by_empty_tag c)
      go (inr bare) (inl (m, in_table, c)) = inl (IsCovered.by_merge m in_table c.same c.valid c.covers)
      go (inr bare) (inr none) = inr never
        where
          never : IsCovered g i table target → ⊥
          never (IsCovered.by_empty_tag c) = bare c
          never (IsCovered.by_merge m in_table same ok c) = none m in_table (record { same = same; valid = ok; covers = c })

pub coverages_decided : CoveragesAreDecided
coverages_decided g i table proper = go (targets_decided g)
  where
    go : ((ts : List Lit) × AreTargets g ts) → (ls : List Lit) × AreUncovered g i table ls
    go (ts, are) = by (kept (λ l. IsCovered g i table l → ⊥) ts (λ l m. denied (covered g i table proper l (target_is_below g proper.own_atoms l ((are.exact l).0 m)))))
      where
        by : ((ks : List Lit) × ((l : Lit) → Member ks l ↔ (Member ts l × (IsCovered g i table l → ⊥)))) → (ls : List Lit) × AreUncovered g i table ls
        by (ks, left) = (
          set_of ks,
          record {
            exact = λ l. (
              λ m. let h = (left l).0 (set_member ks l m) in ((are.exact l).0 h.0, h.1),
              λ r. member_set ks l ((left l).1 ((are.exact l).1 r.0, r.1)),
            );
            ascending = set_ascends ks;
          },
        )

-- ---- complete tables

pub complete_with_none : TablesWithNoneAreComplete
complete_with_none g i table proper are = record {
  each = λ l is_target. elim (covered g i table proper l (target_is_below g proper.own_atoms l is_target)) [
    | inl c ↦ c
    | inr never ↦ absurd ((are.exact l).1 (is_target, never))
  ];
}
