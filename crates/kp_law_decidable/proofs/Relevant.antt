-- Some list of pairs is that of a ground problem: rows of marks, closed number by number.
use Rattle.std.proofs.Common.{◌≡◌, ◌<◌, ◌≤◌, ◌*◌, ◌+◌, ◌||◌, ◌&&◌, ℕ, zero, suc, Bool, false, List, [], length, map, get_or, nat_eq, refl, sym, ap, ap₂, subst, ◌∙◌, arith}
use Rattle.std.proofs.lemmas.List.FromFn.{length-map-range_with_len, get_or-map-range_with_len}
use Rattle.std.specs.List.{range_with_len}
use Rattle.kp_relevance.specs.Tabled.{Marks, marked, IsSquare, AddsMarks, through, Closes, marks_of_all, pairs_of}
use Rattle.kp_relevance.proofs.Public.{closes_none, closes_more, rows_tell_relevance}
use Rattle.kp_law_decidable.specs.Laws.{RelevanceIsDecided}

-- ---- rows of a test

module _ (n : ℕ) where
  abbrev row_of : Marks → ℕ → List Bool
  row_of f j = map (f j) (range_with_len 0 n)

  abbrev tabled : Marks → List (List Bool)
  tabled f = map (row_of f) (range_with_len 0 n)

  row_at : (f : Marks) (j : ℕ) → j < n → get_or (tabled f) j [] ≡ row_of f j
  row_at f j lt = get_or-map-range_with_len (row_of f) 0 n j j [] lt (omega arith)

  marked_at : (f : Marks) (j i : ℕ) → j < n → i < n → marked (tabled f) j i ≡ f j i
  marked_at f j i hj hi = ap (λ xs. get_or xs i false) (row_at f j hj) ∙ get_or-map-range_with_len (f j) 0 n i i false hi (omega arith)

  is_square : (f : Marks) → IsSquare n (tabled f)
  is_square f = record {
    many = length-map-range_with_len (row_of f) 0 n;
    bits = λ j lt. ap length (row_at f j lt) ∙ length-map-range_with_len (f j) 0 n;
  }

  -- ---- what is added

  adds_to_none : (f : Marks) → AddsMarks n f [] (tabled f)
  adds_to_none f = record { square = is_square f; each = marked_at f }

  adds_to : (f g : Marks) → AddsMarks n g (tabled f) (tabled (λ j i. f j i || g j i))
  adds_to f g = record {
    square = is_square (λ j i. f j i || g j i);
    each = λ j i hj hi. marked_at (λ j i. f j i || g j i) j i hj hi ∙ ap (λ t. t || g j i) (sym (marked_at f j i hj hi));
  }

  -- ---- closed number by number

  -- the marks, and those through k
  abbrev with_number : ℕ → Marks → Marks
  with_number k f j i = f j i || (f j k && f k i)

  abbrev closed_below : ℕ → Marks → Marks
  closed_below zero f = f
  closed_below (suc k) f = with_number k (closed_below k f)

  adds_through : (k : ℕ) (f : Marks) → k < n → AddsMarks n (through k (tabled f)) (tabled f) (tabled (with_number k f))
  adds_through k f lt = record {
    square = is_square (with_number k f);
    each = λ j i hj hi.
        marked_at (with_number k f) j i hj hi
        ∙ sym (ap₂ (λ a b. a || b) (marked_at f j i hj hi) (ap₂ (λ a b. a && b) (marked_at f j k hj lt) (marked_at f k i lt hi)));
  }

  closes : (f : Marks) (k : ℕ) → k ≤ n → Closes n k (tabled f) (tabled (closed_below k f))
  closes f zero le = closes_none n (tabled f) (is_square f)
  closes f (suc k) le =
      let next : k + 1 ≡ suc k = omega arith in
      subst (λ m. Closes n m (tabled f) (tabled (closed_below (suc k) f))) next
      (closes_more n k (tabled f) (tabled (closed_below k f)) (tabled (closed_below (suc k) f)) (omega (arith, le)) (closes f k (omega (arith, le))) (adds_through k (closed_below k f) (omega (arith, le))))

-- ---- the pairs

none_marked : (j i : ℕ) → marked [] j i ≡ false
none_marked j i = refl

pub relevance_decided : RelevanceIsDecided
relevance_decided g fine = (
  pairs_of n rows,
  rows_tell_relevance g n n size [] [] own own filled filled rows rows fine refl refl refl none_marked refl (adds_to_none size nat_eq) refl size refl (adds_to size nat_eq (marks_of_all g.actions)) refl (closes size marks size (omega arith)) refl,
)
  where
    n : ℕ
    n = length g.atoms

    size : ℕ
    size = 2 * n

    marks : Marks
    marks j i = nat_eq j i || marks_of_all g.actions j i

    own : List (List Bool)
    own = tabled size nat_eq

    filled : List (List Bool)
    filled = tabled size marks

    rows : List (List Bool)
    rows = tabled size (closed_below size size marks)
