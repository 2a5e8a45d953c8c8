-- What a loop over numbers adds, number by number.
use Rattle.std.proofs.Common.{◌≡◌, ◌++◌, ◌+◌, ◌-◌, ◌<◌, ◌≤◌, ℕ, suc, List, ap, sym, ◌∙◌, append_assoc, append-nil, arith}
use Rattle.std.specs.List.{flat_map, range_with_len}

-- one number less is left
pub turn : (f : ℕ → List ℕ) (now out whole : List ℕ) (i end : ℕ) → i < end → now ++ flat_map f (range_with_len i (end - i)) ≡ whole → out ≡ now ++ f i → out ++ flat_map f (range_with_len (i + 1) (end - (i + 1))) ≡ whole
turn f now out whole i end lt goes more =
    let e : end - i ≡ suc (end - (i + 1)) = omega arith in
    let rest = flat_map f (range_with_len (i + 1) (end - (i + 1))) in
    ap (λ z. z ++ rest) more ∙ (append_assoc now (f i) rest ∙ (ap (λ m. now ++ flat_map f (range_with_len i m)) (sym e) ∙ goes))

-- none is left
pub done : (f : ℕ → List ℕ) (now whole : List ℕ) (i end : ℕ) → end ≤ i → now ++ flat_map f (range_with_len i (end - i)) ≡ whole → now ≡ whole
done f now whole i end ge goes =
    let e : end - i ≡ 0 = omega arith in
    sym (append-nil now) ∙ (ap (λ m. now ++ flat_map f (range_with_len i m)) (sym e) ∙ goes)
