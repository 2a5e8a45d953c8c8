-- Tags that grow clause by clause are the choices of literals.
use Rattle.std.proofs.Common.{◌≡◌, ◌&&◌, ◌||◌, ◌++◌, Bool, true, false, not, cond, if◌then◌else◌, List, [], ◌∷◌, filter, map, fold, refl, sym, ap, ◌∙◌, append-nil}
use Rattle.std.proofs.lemmas.Bool.{false≢true, and_parts, and_from}
use Rattle.std.specs.List.{flat_map, list_any, list_all}
use Rattle.kp_base.specs.declared.lit.Lit.{Lit}
use Rattle.kp_base.specs.Planning.{choices, each_once, with_lit, set_of, same_set, AreTagsOfClauses, holds}
use Rattle.kp_base.proofs.Once.{once_by_one}
use Rattle.kp_base.proofs.Lists.{gathered, any_map, map_map, all_alike, flat_alike, flat_member, filter_member, all_from}
use Rattle.std.proofs.lemmas.List.{map-append}
use Rattle.kp_base.proofs.Sets.{all-with_lit, same_sets}
use Rattle.kp_primes.specs.Held.{Held, formula, AreWhole}
use Rattle.kp_primes.proofs.Public.{consistent_exact}
use Rattle.kp_cover.specs.Grown.{is_fine, with_each, grown, all_grown, added}
use Rattle.kp_cover.specs.Tested.{meets, all_meet}
use Rattle.std.proofs.lemmas.List.Folds.{list_all-append}
use Rattle.std.proofs.lemmas.List.Concat.{flat_map-append}

-- tags that come one by one, unless they are there
pub once_is : (tags kept : List (List Lit)) → kept ≡ fold added [] tags → kept ≡ each_once same_set tags
once_is tags kept h = h ∙ once_by_one same_set same_sets tags

-- ---- the keys of a set

module _ {K : Type 0} (seen : K → List Lit) (ks : List K) where
  -- with a key more, where it is new, they are the tags with its tag
  pub key_added : (ls : List K) (k : K) (t : List Lit) → seen k ≡ t → ls ≡ (if list_any (λ x. same_set (seen k) (seen x)) ks then ks else ks ++ k ∷ []) → map seen ls ≡ added (map seen ks) t
  key_added ls k t is grown = ap (map seen) grown ∙ (gathered same_set seen ks k ∙ ap (added (map seen ks)) is)

  -- it is new where its tag is
  pub key_told : (k : K) (t : List Lit) → seen k ≡ t → (b : Bool) → b ≡ not (list_any (λ x. same_set (seen k) (seen x)) ks) → b ≡ not (list_any (same_set t) (map seen ks))
  key_told k t is b told = told ∙ ap not (sym (any_map seen (same_set (seen k)) (λ x. same_set (seen k) (seen x)) ks (λ x. refl)) ∙ ap (λ u. list_any (same_set u) (map seen ks)) is)

-- ---- lists

filter-both : {X : Type 0} (p : X → Bool) (xs ys : List X) → filter p (xs ++ ys) ≡ filter p xs ++ filter p ys
filter-both p [] ys = refl
filter-both p (x ∷ xs) ys = go (p x) (filter-both p xs ys)
  where
    go : (b : Bool) → filter p (xs ++ ys) ≡ filter p xs ++ filter p ys → cond b (x ∷ filter p (xs ++ ys)) (filter p (xs ++ ys)) ≡ cond b (x ∷ filter p xs) (filter p xs) ++ filter p ys
    go true e = ap (λ z. x ∷ z) e
    go false e = e

flat-flat : {X Y Z : Type 0} (f : X → List Y) (g : Y → List Z) (xs : List X) → flat_map g (flat_map f xs) ≡ flat_map (λ x. flat_map g (f x)) xs
flat-flat f g [] = refl
flat-flat f g (x ∷ xs) = flat_map-append g (f x) (flat_map f xs) ∙ ap (λ z. flat_map g (f x) ++ z) (flat-flat f g xs)

filter-flat : {X Y : Type 0} (p : Y → Bool) (f : X → List Y) (xs : List X) → filter p (flat_map f xs) ≡ flat_map (λ x. filter p (f x)) xs
filter-flat p f [] = refl
filter-flat p f (x ∷ xs) = filter-both p (f x) (flat_map f xs) ∙ ap (λ z. filter p (f x) ++ z) (filter-flat p f xs)

-- elements that fail may go first, where all that comes of them fails
filter-first : {X Y : Type 0} (p : X → Bool) (q : Y → Bool) (f : X → List Y) → ((x : X) → p x ≡ false → filter q (f x) ≡ []) → (xs : List X) → filter q (flat_map f (filter p xs)) ≡ filter q (flat_map f xs)
filter-first p q f none [] = refl
filter-first p q f none (x ∷ xs) = go (p x) refl (filter-first p q f none xs)
  where
    go : (b : Bool) → p x ≡ b → filter q (flat_map f (filter p xs)) ≡ filter q (flat_map f xs) → filter q (flat_map f (cond b (x ∷ filter p xs) (filter p xs))) ≡ filter q (f x ++ flat_map f xs)
    go true is e = filter-both q (f x) (flat_map f (filter p xs)) ∙ (ap (λ z. filter q (f x) ++ z) e ∙ sym (filter-both q (f x) (flat_map f xs)))
    go false is e = e ∙ sym (filter-both q (f x) (flat_map f xs) ∙ ap (λ z. z ++ filter q (flat_map f xs)) (none x is))

-- ---- choices

-- a tag with literals in turn
abbrev with_lits : List Lit → List Lit → List Lit
with_lits tag ls = fold (λ set l. with_lit l set) tag ls

-- a tag with each choice of literals
abbrev with_choices : List (List Lit) → List Lit → List (List Lit)
with_choices ks tag = map (with_lits tag) ks

choices-of : (ks : List (List Lit)) (tag c : List Lit) → flat_map (with_choices ks) (map (λ l. with_lit l tag) c) ≡ with_choices (flat_map (λ l. map (λ rest. l ∷ rest) ks) c) tag
choices-of ks tag [] = refl
choices-of ks tag (l ∷ ls) =
    ap (λ z. with_choices ks (with_lit l tag) ++ z) (choices-of ks tag ls)
    ∙ (ap (λ z. z ++ with_choices (flat_map (λ l. map (λ rest. l ∷ rest) ks) ls) tag) (sym (map_map (λ rest. l ∷ rest) (with_lits tag) (with_lits (with_lit l tag)) ks (λ rest. refl)))
    ∙ sym (map-append (with_lits tag) (map (λ rest. l ∷ rest) ks) (flat_map (λ l. map (λ rest. l ∷ rest) ks) ls)))

module _ (ps : List (List Lit)) (less : (l : Lit) (tag : List Lit) → is_fine ps (with_lit l tag) ≡ true → is_fine ps tag ≡ true) where
  less-all : (ls tag : List Lit) → is_fine ps (with_lits tag ls) ≡ true → is_fine ps tag ≡ true
  less-all [] tag h = h
  less-all (l ∷ ls) tag h = less l tag (less-all ls (with_lit l tag) h)

  none-of : (ks : List (List Lit)) (tag : List Lit) → is_fine ps tag ≡ false → filter (is_fine ps) (with_choices ks tag) ≡ []
  none-of [] tag no-good = refl
  none-of (k ∷ ks) tag no-good = go (none-of ks tag no-good) (is_fine ps (with_lits tag k)) refl
    where
      go : filter (is_fine ps) (with_choices ks tag) ≡ [] → (b : Bool) → is_fine ps (with_lits tag k) ≡ b → cond b (with_lits tag k ∷ filter (is_fine ps) (with_choices ks tag)) (filter (is_fine ps) (with_choices ks tag)) ≡ []
      go rest true is = absurd (false≢true (sym no-good ∙ less-all k tag is))
      go rest false is = rest

  all-fine : (tags : List (List Lit)) → list_all (is_fine ps) tags ≡ true → filter (is_fine ps) (flat_map (with_choices ([] ∷ [])) tags) ≡ tags
  all-fine [] h = refl
  all-fine (t ∷ tags) h = let q = and_parts (is_fine ps t) (list_all (is_fine ps) tags) h in rw q.0 (ap (λ z. t ∷ z) (all-fine tags q.1))

  grown-fine : (tags : List (List Lit)) (c : List Lit) → list_all (is_fine ps) (grown ps tags c) ≡ true
  grown-fine tags c = all_from (is_fine ps) (grown ps tags c) (λ t m. let r = flat_member (with_each ps c) tags t m in (filter_member (is_fine ps) (map (λ l. with_lit l r.0) c) t r.2).1)

  pub all_grown_is : (cs tags : List (List Lit)) → list_all (is_fine ps) tags ≡ true → all_grown ps tags cs ≡ filter (is_fine ps) (flat_map (with_choices (choices cs)) tags)
  all_grown_is [] tags h = sym (all-fine tags h)
  all_grown_is (c ∷ cs) tags h =
      all_grown_is cs (grown ps tags c) (grown-fine tags c)
      ∙ (ap (filter (is_fine ps)) (flat-flat (with_each ps c) (with_choices (choices cs)) tags)
      ∙ (filter-flat (is_fine ps) (λ t. flat_map (with_choices (choices cs)) (with_each ps c t)) tags
      ∙ (flat_alike (λ t. filter (is_fine ps) (flat_map (with_choices (choices cs)) (with_each ps c t))) (λ t. filter (is_fine ps) (with_choices (choices (c ∷ cs)) t)) tags (λ t _. one t)
      ∙ sym (filter-flat (is_fine ps) (with_choices (choices (c ∷ cs))) tags))))
    where
      one : (t : List Lit) → filter (is_fine ps) (flat_map (with_choices (choices cs)) (with_each ps c t)) ≡ filter (is_fine ps) (with_choices (choices (c ∷ cs)) t)
      one t =
          filter-first (is_fine ps) (is_fine ps) (with_choices (choices cs)) (none-of (choices cs)) (map (λ l. with_lit l t) c)
          ∙ ap (filter (is_fine ps)) (choices-of (choices cs) t c)

-- ---- whole lists of prime implicates

module _ (h : Held) (whole : AreWhole h) where
  pub fine_less : (l : Lit) (tag : List Lit) → is_fine h.clauses (with_lit l tag) ≡ true → is_fine h.clauses tag ≡ true
  fine_less l tag f =
      let met = (consistent_exact h whole (with_lit l tag)).0 f in
      (consistent_exact h whole tag).1 (record { state = met.state; model = met.model; all_true = (and_parts (list_all (holds met.state) tag) (holds met.state l) (sym (all-with_lit (holds met.state) l tag) ∙ met.all_true)).0 })

  pub is_cov : (clauses grown tags : List (List Lit)) → grown ≡ all_grown h.clauses ([] ∷ []) clauses → tags ≡ each_once same_set grown → AreTagsOfClauses (formula h) clauses tags
  is_cov clauses grown tags e f = record {
    test = is_fine h.clauses;
    tells = consistent_exact h whole;
    are = f ∙ ap (each_once same_set) (e
        ∙ (all_grown_is h.clauses fine_less clauses ([] ∷ []) (and_from (is_fine h.clauses []) true ((consistent_exact h whole []).1 whole.has_model) refl)
        ∙ ap (filter (is_fine h.clauses)) (append-nil (map set_of (choices clauses)))));
  }

-- ---- going on with an end at the first tag that doesn't cover

module _ (ps cs : List (List Lit)) (less : (l : Lit) (tag : List Lit) → is_fine ps (with_lit l tag) ≡ true → is_fine ps tag ≡ true) where
  all_flat : {X Y : Type 0} (p : Y → Bool) (f : X → List Y) (xs : List X) → list_all p (flat_map f xs) ≡ list_all (λ x. list_all p (f x)) xs
  all_flat p f [] = refl
  all_flat p f (x ∷ xs) = list_all-append p (f x) (flat_map f xs) ∙ ap (λ t. list_all p (f x) && t) (all_flat p f xs)

  all_map : {X Y : Type 0} (p : Y → Bool) (f : X → Y) (xs : List X) → list_all p (map f xs) ≡ list_all (λ x. p (f x)) xs
  all_map p f [] = refl
  all_map p f (x ∷ xs) = ap (λ t. p (f x) && t) (all_map p f xs)

  pub all_meet_is : (set : List (List Lit)) (tag : List Lit) → is_fine ps tag ≡ true → all_meet ps cs tag set ≡ list_all (meets ps cs) (filter (is_fine ps) (with_choices (choices set) tag))
  all_meet_is [] tag fine = sym (ap (λ t. list_all (meets ps cs) (cond t (tag ∷ []) [])) fine ∙ and-true (meets ps cs tag))
    where
      and-true : (b : Bool) → (b && true) ≡ b
      and-true true = refl
      and-true false = refl
  all_meet_is (c ∷ set) tag fine =
      all_alike (λ l. not (is_fine ps (with_lit l tag)) || all_meet ps cs (with_lit l tag) set) (λ l. list_all (meets ps cs) (filter (is_fine ps) (with_choices (choices set) (with_lit l tag)))) c (λ l _. one l (all_meet_is set (with_lit l tag)) (is_fine ps (with_lit l tag)) refl)
      ∙ sym (ap (list_all (meets ps cs)) (ap (filter (is_fine ps)) (sym (choices-of (choices set) tag c)) ∙ filter-flat (is_fine ps) (with_choices (choices set)) (map (λ l. with_lit l tag) c))
      ∙ (all_flat (meets ps cs) (λ t. filter (is_fine ps) (with_choices (choices set) t)) (map (λ l. with_lit l tag) c)
      ∙ all_map (λ t. list_all (meets ps cs) (filter (is_fine ps) (with_choices (choices set) t))) (λ l. with_lit l tag) c))
    where
      one : (l : Lit) → (is_fine ps (with_lit l tag) ≡ true → all_meet ps cs (with_lit l tag) set ≡ list_all (meets ps cs) (filter (is_fine ps) (with_choices (choices set) (with_lit l tag)))) → (b : Bool) → is_fine ps (with_lit l tag) ≡ b → (not b || all_meet ps cs (with_lit l tag) set) ≡ list_all (meets ps cs) (filter (is_fine ps) (with_choices (choices set) (with_lit l tag)))
      one l more true is = more is
      one l more false is = sym (ap (list_all (meets ps cs)) (none-of ps less (choices set) (with_lit l tag) is))
