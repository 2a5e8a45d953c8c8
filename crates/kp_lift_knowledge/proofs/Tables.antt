-- Rows that are combined, and a table with one row changed.
use Rattle.std.proofs.Common.{◌≡◌, ◌<◌, ◌*◌, ◌&&◌, ◌||◌, ℕ, Bool, true, false, not, cond, List, [], length, map, get_or, set, refl, sym, ap, ap₂, subst, ◌∙◌, arith, inl, inr, length-set, get_or-set_same, get_or-set_other}
use Rattle.std.proofs.lemmas.Bool.{cases_eq}
use Rattle.std.proofs.lemmas.List.{length-map, get_or-map, get_or_default}
use Rattle.std.proofs.lemmas.Slice.Zip.{length-zip, get_or-zip}
use Rattle.std.specs.List.{zip}
use Rattle.kp_base.specs.declared.lit.Lit.{Lit}
use Rattle.kp_base.specs.Lit.{code_of, same_lit}
use Rattle.kp_base.proofs.Ascending.{code_of-injective}
use Rattle.kp_base.proofs.Lits.{same_lit-true, same_lit-refl}
use Rattle.kp_lift_knowledge.specs.Known.{Table, known}
use Rattle.kp_lift_knowledge.specs.Tabled.{Tells, IsWhole, Turns}

-- ---- rows

-- two rows, bit by bit
abbrev pub combined : (Bool → Bool → Bool) → List Bool → List Bool → List Bool
combined f xs ys = map (λ (p : Bool × Bool). f p.0 p.1) (zip xs ys)

length-combined : (f : Bool → Bool → Bool) (xs ys : List Bool) → length xs ≡ length ys → length (combined f xs ys) ≡ length xs
length-combined f xs ys e = length-map (zip xs ys) (λ (p : Bool × Bool). f p.0 p.1) ∙ omega (arith, length-zip xs ys, e)

combined_at : (f : Bool → Bool → Bool) (xs ys : List Bool) (i : ℕ) → i < length xs → i < length ys → get_or (combined f xs ys) i false ≡ f (get_or xs i false) (get_or ys i false)
combined_at f xs ys i lt lt2 =
    get_or-map (λ (p : Bool × Bool). f p.0 p.1) (zip xs ys) i (false, false) false (omega (arith, length-zip xs ys, lt, lt2))
    ∙ ap (λ (p : Bool × Bool). f p.0 p.1) (get_or-zip xs ys i (false, false) lt lt2)

-- a row that is combined with another: it has as many bits, and tells of both
module _ (f : Bool → Bool → Bool) (n : ℕ) (row more new : List Bool) (g : ℕ → Bool) (wide : length row ≡ n) (tells : Tells n more g) (is : new ≡ combined f row more) where
  pub as_wide : length new ≡ length row
  as_wide = ap length is ∙ length-combined f row more (wide ∙ sym tells.wide)

  pub tells_both : Tells n new (λ t. f (get_or row t false) (g t))
  tells_both = record {
    wide = as_wide ∙ wide;
    each = λ t h. ap (λ r. get_or r t false) is ∙ (combined_at f row more t (omega (arith, wide, h)) (let w = tells.wide in omega (arith, w, h)) ∙ ap (f (get_or row t false)) (tells.each t h));
  }

-- ---- tables

other_lit : (a b : Lit) → (code_of b ≡ code_of a → ⊥) → same_lit a b ≡ false
other_lit a b ne = by (same_lit a b) refl
  where
    by : (s : Bool) → same_lit a b ≡ s → s ≡ false
    by false h = refl
    by true h = absurd (ne (ap code_of (sym (same_lit-true a b h))))

-- the table with another row for this literal
abbrev with_row : Table → Lit → List Bool → Table
with_row table lit row = record { tags = table.tags; atoms = table.atoms; rows = set table.rows (code_of lit) row }

module _ (table : Table) (whole : IsWhole table) (lit : Lit) (lt : lit.atom.0 < table.atoms) where
  code_below : (l : Lit) → l.atom.0 < table.atoms → code_of l < 2 * table.atoms
  code_below l h = sign l.positive
    where
      sign : (b : Bool) → code_of (record { atom = l.atom; positive = b }) < 2 * table.atoms
      sign true = omega (arith, h)
      sign false = omega (arith, h)

  whole-with_row : (row : List Bool) → length row ≡ table.tags → IsWhole (with_row table lit row)
  whole-with_row row e = record {
    many = length-set table.rows (code_of lit) row ∙ whole.many;
    wide = λ j h. elim (cases_eq j (code_of lit)) [
      | inl same ↦ ap length (ap (λ m. get_or (set table.rows (code_of lit) row) m []) same ∙ get_or-set_same table.rows (code_of lit) row [] (omega (arith, code_below lit lt, whole.many))) ∙ e
      | inr ne ↦ ap length (get_or-set_other table.rows (code_of lit) j row [] ne) ∙ whole.wide j h
    ];
  }

  known-with_row : (row : List Bool) (t : ℕ) (l : Lit) → known (with_row table lit row) t l ≡ cond (same_lit lit l) (get_or row t false) (known table t l)
  known-with_row row t l = elim (cases_eq (code_of l) (code_of lit)) [
    | inl same ↦
        ap (λ m. get_or (get_or (set table.rows (code_of lit) row) m []) t false) same
        ∙ (ap (λ r. get_or r t false) (get_or-set_same table.rows (code_of lit) row [] (omega (arith, code_below lit lt, whole.many)))
        ∙ sym (ap (λ b. cond b (get_or row t false) (known table t l)) (subst (λ m. same_lit lit m ≡ true) (code_of-injective lit l (sym same)) (same_lit-refl lit))))
    | inr ne ↦
        ap (λ r. get_or r t false) (get_or-set_other table.rows (code_of lit) (code_of l) row [] ne)
        ∙ sym (ap (λ b. cond b (get_or row t false) (known table t l)) (other_lit lit l ne))
  ]

  known-combined : (f : Bool → Bool → Bool) (more : List Bool) → length more ≡ table.tags → (t : ℕ) (l : Lit) → t < table.tags → known (with_row table lit (combined f (get_or table.rows (code_of lit) []) more)) t l ≡ cond (same_lit lit l) (f (known table t l) (get_or more t false)) (known table t l)
  known-combined f more e t l h = known-with_row (combined f (get_or table.rows (code_of lit) []) more) t l ∙ by (same_lit lit l) refl
    where
      by : (b : Bool) → same_lit lit l ≡ b → cond b (get_or (combined f (get_or table.rows (code_of lit) []) more) t false) (known table t l) ≡ cond b (f (known table t l) (get_or more t false)) (known table t l)
      by false s = refl
      by true s =
          let w = whole.wide (code_of lit) (code_below lit lt) in
          combined_at f (get_or table.rows (code_of lit) []) more t (omega (arith, w, h)) (omega (arith, e, h))
          ∙ ap (λ m. f (known table t m) (get_or more t false)) (same_lit-true lit l s)

  whole-combined : (f : Bool → Bool → Bool) (more : List Bool) → length more ≡ table.tags → IsWhole (with_row table lit (combined f (get_or table.rows (code_of lit) []) more))
  whole-combined f more e =
      let w = whole.wide (code_of lit) (code_below lit lt) in
      whole-with_row _ (length-combined f (get_or table.rows (code_of lit) []) more (w ∙ sym e) ∙ w)

-- ---- a row that was read, and changed

-- the row that was read at a place of the table is the literal's
read_row : (table : Table) → IsWhole table → (lit : Lit) → lit.atom.0 < table.atoms → (code : ℕ) → code ≡ code_of lit → (row : List Bool) → row ≡ get_or table.rows code row → row ≡ get_or table.rows (code_of lit) []
read_row table whole lit lt code e row is =
    is ∙ (get_or_default table.rows code row [] (let h = code_below table whole lit lt lit lt in omega (arith, whole.many, e, h)) ∙ ap (λ m. get_or table.rows m []) e)

-- what becomes of a table, where the literal's row becomes that row and others
module _ (f : Bool → Bool → Bool) (k : Bool → Bool → Bool → Bool) (is : (s a b : Bool) → cond s (f a b) a ≡ k s a b) where
  pub row_changed :
      (table seen : Table) → table ≡ seen → IsWhole table → (lit : Lit) → lit.atom.0 < seen.atoms → (more : List Bool) → length more ≡ seen.tags → (code : ℕ) → code ≡ code_of lit → (row : List Bool) → row ≡ get_or table.rows code row → (new : List Bool) → new ≡ combined f row more →
      IsWhole (record { tags = table.tags; atoms = table.atoms; rows = set table.rows code new }) × Turns seen (record { tags = table.tags; atoms = table.atoms; rows = set table.rows code new }) (λ t l. k (same_lit lit l) (known seen t l) (get_or more t false))
  row_changed table seen e whole lit lt more wide code at row read new made =
      let lt2 : lit.atom.0 < table.atoms = omega (arith, lt, ap (λ x. x.atoms) e) in
      let wide2 : length more ≡ table.tags = wide ∙ sym (ap (λ x. x.tags) e) in
      let ends : new ≡ combined f (get_or table.rows (code_of lit) []) more = made ∙ ap (λ r. combined f r more) (read_row table whole lit lt2 code at row read) in
      let same : with_row table lit (combined f (get_or table.rows (code_of lit) []) more) ≡ record { tags = table.tags; atoms = table.atoms; rows = set table.rows code new } = ap₂ (λ i r. record { tags = table.tags; atoms = table.atoms; rows = set table.rows i r }) (sym at) (sym ends) in (
        subst IsWhole same (whole-combined table whole lit lt2 f more wide2),
        subst (λ x. Turns x (record { tags = table.tags; atoms = table.atoms; rows = set table.rows code new }) (λ t l. k (same_lit lit l) (known x t l) (get_or more t false))) e
            (subst (λ x. Turns table x (λ t l. k (same_lit lit l) (known table t l) (get_or more t false))) same (record {
              like = record { tags = refl; atoms = refl };
              says = record { each = λ t l h g. known-combined table whole lit lt2 f more wide2 t l h ∙ is (same_lit lit l) (known table t l) (get_or more t false) };
            })),
      )

pub joins_row : (s a b : Bool) → cond s (a || b) a ≡ (a || (s && b))
joins_row true a b = refl
joins_row false true b = refl
joins_row false false b = refl

pub keeps_row : (s a b : Bool) → cond s (a && b) a ≡ (a && (not s || b))
keeps_row true a b = refl
keeps_row false true b = refl
keeps_row false false b = refl
