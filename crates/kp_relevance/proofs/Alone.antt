-- Rows in which no other number is marked.
use Rattle.std.proofs.Common.{◌≡◌, ◌<◌, ◌&&◌, ℕ, Bool, true, false, List, [], Some, length, get_or, slice_get, sym, ap, subst, ◌∙◌, inl, inr, arith}
use Rattle.std.proofs.lemmas.Bool.{and_parts, cases_eq, cases_lt, false≢true}
use Rattle.std.proofs.lemmas.List.{length-map, get_or-map, get_or_past}
use Rattle.std.proofs.lemmas.Option.{slice_get-get_or}
use Rattle.std.proofs.lemmas.Slice.Zip.{length-zip, get_or-zip}
use Rattle.std.specs.List.{zip}
use Rattle.kp_bits.specs.Rows.{both}
use Rattle.kp_relevance.specs.Tabled.{marked, Linked, LeadsTo, IsFollowed, ClosesRow, AreLone}

-- ---- bits

length-both : (xs ys : List Bool) → length xs ≡ length ys → length (both xs ys) ≡ length xs
length-both xs ys e = length-map (zip xs ys) (λ (p : Bool × Bool). p.0 && p.1) ∙ omega (arith, length-zip xs ys, e)

both_at : (xs ys : List Bool) (i : ℕ) → i < length xs → i < length ys → get_or (both xs ys) i false ≡ (get_or xs i false && get_or ys i false)
both_at xs ys i lt lt2 =
    get_or-map (λ (p : Bool × Bool). p.0 && p.1) (zip xs ys) i (false, false) false (omega (arith, length-zip xs ys, lt, lt2))
    ∙ ap (λ (p : Bool × Bool). p.0 && p.1) (get_or-zip xs ys i (false, false) lt lt2)

pub bit_there : (row : List Bool) (i : ℕ) → get_or row i false ≡ true → slice_get row i ≡ Some true
bit_there row i h = elim (cases_lt i (length row)) [
  | inl lt ↦ slice_get-get_or row i false lt ∙ ap Some h
  | inr ge ↦ absurd (false≢true (sym (get_or_past row i false ge) ∙ h))
]

-- ---- rows

-- from such a row marks lead nowhere else
lone_links : (n : ℕ) (rows : List (List Bool)) (lone : List Bool) → AreLone n rows lone → (j i : ℕ) → Linked n (marked rows) j i → get_or lone j false ≡ true → j ≡ i
lone_links n rows lone are _ _ (Linked.link j i hj hi h) l = are j i hj hi l h
lone_links n rows lone are _ _ (Linked.chain j k i p q) l =
    let e = lone_links n rows lone are j k p l in
    e ∙ lone_links n rows lone are k i q (subst (λ x. get_or lone x false ≡ true) e l)

-- so closing a row leaves them as they are
pub still_lone : (n j : ℕ) (old new : List (List Bool)) (lone : List Bool) → j < n → AreLone n old lone → ClosesRow n j old new → AreLone n new lone
still_lone n j old new lone lt are c m i hm hi h g = elim (cases_eq m j) [
  | inl e ↦ e ∙ leads i (subst (λ x. get_or lone x false ≡ true) e h) hi (c.grows.only i hi (subst (λ x. marked new x i ≡ true) e g))
  | inr ne ↦ are m i hm hi h (sym (ap (λ xs. get_or xs i false) (c.others m ne)) ∙ g)
]
  where
    leads : (i : ℕ) → get_or lone j false ≡ true → i < n → LeadsTo n old (get_or old j []) i → j ≡ i
    leads _ l hi (LeadsTo.there i h) = are j i lt hi l h
    leads _ l hi (LeadsTo.linked m i hm h p) =
        let e = are j m lt hm l h in
        e ∙ lone_links n old lone are m i p (subst (λ x. get_or lone x false ≡ true) e l)

-- those of them that are in a row are done from the start
pub followed_lone : (n : ℕ) (rows : List (List Bool)) (row lone : List Bool) → length row ≡ n → length lone ≡ n → AreLone n rows lone → IsFollowed n rows row (both lone row)
followed_lone n rows row lone wide wide_lone are = record {
  wide = wide;
  wide_done = length-both lone row (wide_lone ∙ sym wide) ∙ wide_lone;
  within = λ i hi h. (parts i hi h).1;
  followed = λ m i hm hi h g. subst (λ x. get_or row x false ≡ true) (are m i hm hi (parts m hm h).0 g) (parts m hm h).1;
}
  where
    parts : (i : ℕ) → i < n → get_or (both lone row) i false ≡ true → (get_or lone i false ≡ true) × (get_or row i false ≡ true)
    parts i hi h = and_parts (get_or lone i false) (get_or row i false) (sym (both_at lone row i (omega (arith, hi, wide_lone)) (omega (arith, hi, wide))) ∙ h)
