-- The clauses of a row are as many as the width of its target.
use Rattle.std.proofs.Common.{◌≤◌, ℕ, List, ◌∷◌, length, refl, sym, subst, inl, inr, arith}
use Rattle.std.proofs.lemmas.Bool.{cases_lt}
use Rattle.kp_base.specs.declared.lit.Lit.{Lit}
use Rattle.kp_base.specs.declared.ground.Ground.{Ground}
use Rattle.kp_base.specs.declared.ground.Initial.{Initial}
use Rattle.kp_base.specs.Lists.{Member}
use Rattle.kp_base.specs.Relevance.{AreClausesFor}
use Rattle.kp_base.proofs.Lists.{member_right}
use Rattle.kp_cover_subsets.specs.Subsets.{subsets}
use Rattle.kp_cover_subsets.specs.Laws.{IsSublist}
use Rattle.kp_relevance.proofs.Public.{one_clauses_for}
use Rattle.kp_cover.specs.Covering.{IsCover}
use Rattle.kp_width.specs.declared.report.WidthRow.{WidthRow}
use Rattle.kp_width.specs.Width.{CoversTarget}
use Rattle.kp_width.specs.Rows.{IsFirstCover, IsRowOf}
use Rattle.kp_width.specs.Laws.{RowsHaveTheWidth, CoversOverAreMoreThanBound}
use Rattle.kp_width.proofs.Places.{some_of, of_some}

-- the first of some sets that covers is one of them
pub it_is_there : (i : Initial) (cs : List (List Lit)) (sets : List (List (List Lit))) (set tags : List (List Lit)) → IsFirstCover i cs sets set tags → Member sets set
it_is_there i cs sets set tags f = subst (λ (z : List (List (List Lit))). Member z set) (sym f.among) (member_right f.earlier (set ∷ f.later) set (inl refl))

-- clauses that cover a target are a set of their size, and cover all that are relevant
module _ (g : Ground) (i : Initial) (target : Lit) (cs : List (List Lit)) (are : AreClausesFor g.actions (length g.atoms) i target cs) where
  pub there : (set tags : List (List Lit)) → CoversTarget g i target set tags → Member (subsets (length set) cs) set
  there set tags h = of_some cs set (subst (IsSublist set) (one_clauses_for g.actions (length g.atoms) i target h.relevant cs h.are_relevant are) h.some)

  pub covers_them : (set tags : List (List Lit)) → CoversTarget g i target set tags → IsCover i cs set tags
  covers_them set tags h = record { are = h.its_tags; cover = λ tag c m k. h.cover tag c m ((are.exact c).0 k) }

  -- and a set of one size that covers all that are relevant covers the target
  pub covers_target : (size : ℕ) (set tags : List (List Lit)) → Member (subsets size cs) set → IsCover i cs set tags → CoversTarget g i target set tags
  covers_target size set tags m c = record {
    relevant = cs;
    are_relevant = are;
    some = some_of cs size set m;
    its_tags = c.are;
    cover = λ tag d k r. c.cover tag d k ((are.exact d).1 r);
  }

module _ (limit bound : ℕ) (g : Ground) (i : Initial) (target : Lit) (row : WidthRow) (r : IsRowOf limit bound g i target row) where
  covers : CoversTarget g i target row.clauses row.tags
  covers =
      let l = r.least_cover in
      covers_target g i target r.relevant r.are_relevant (length row.clauses) row.clauses row.tags (it_is_there i r.relevant (subsets (length row.clauses) r.relevant) row.clauses row.tags l.first) l.first.covers

  least : (others more : List (List Lit)) → CoversTarget g i target others more → length row.clauses ≤ length others
  least others more h = elim (cases_lt (length others) (length row.clauses)) [
    | inr le ↦ le
    | inl lt ↦ absurd (r.least_cover.passed.none_covers (length others) lt others more (there g i target r.relevant r.are_relevant others more h) (covers_them g i target r.relevant r.are_relevant others more h))
  ]

pub rows_right : RowsHaveTheWidth
rows_right limit bound g i target row r = record {
  covers = covers limit bound g i target row r;
  width = record {
    clauses = row.clauses;
    tags = row.tags;
    covers = covers limit bound g i target row r;
    as_many = refl;
    least = least limit bound g i target row r;
  };
}

-- clauses that cover a target without a cover within the bound are more than the bound
pub more_than : CoversOverAreMoreThanBound
more_than limit bound g i target set tags o h = elim (cases_lt bound (length set)) [
  | inl lt ↦ lt
  | inr le ↦ absurd (o.no_cover.none_covers (length set) (omega (arith, le)) set tags (there g i target o.relevant o.are_relevant set tags h) (covers_them g i target o.relevant o.are_relevant set tags h))
]
