-- The rows of what was said.
use Rattle.std.proofs.Common.{◌≡◌, ◌∙◌, ◌||◌, ℕ, Bool, true, false, not, List, [], ◌∷◌, ◌++◌, refl, ap, sym, map, cond, true≢false}
use Rattle.std.specs.Str.{bytes_eq}
use Rattle.std.proofs.lemmas.Slice.Eq.{bytes_eq-Decides}
use Rattle.std.proofs.lemmas.Bool.{not-true}
use Rattle.clap.proofs.WalkLemmas.{both}
use Rattle.clap.specs.Walk.{Rule, Row, at_row, has_row, more_values, used}
use Rattle.clap.specs.Takes.{use_passes}
use Rattle.clap.specs.declared.parser.matches.ValueSource.TheVariants.{CommandLine}
use Rattle.kp_words_options.specs.Words.{has_text, differ}
use Rattle.kp_words_options.specs.Clap.{built_rule, ids_of, row_of_pair}

pub other_way : (x y : List ℕ) → bytes_eq x y ≡ false → bytes_eq y x ≡ false
other_way x y e = go (bytes_eq y x) refl
  where
    go : (t : Bool) → bytes_eq y x ≡ t → t ≡ false
    go false f = refl
    go true f = absurd (true≢false (sym ((bytes_eq-Decides x y).1 (sym ((bytes_eq-Decides y x).0 f))) ∙ e))

among_at : (xs ys : List (List ℕ)) (x t : List ℕ) → has_text (xs ++ x ∷ ys) t ≡ false → bytes_eq x t ≡ false
among_at [] ys x t e = go (bytes_eq x t) e
  where
    go : (b : Bool) → (b || has_text ys t) ≡ false → b ≡ false
    go true e = e
    go false e = refl
among_at (u ∷ xs) ys x t e = among_at xs ys x t (go (bytes_eq u t) e)
  where
    go : (b : Bool) → (b || has_text (xs ++ x ∷ ys) t) ≡ false → has_text (xs ++ x ∷ ys) t ≡ false
    go true e = absurd (true≢false e)
    go false e = e

-- of texts that differ, none stands before itself
pub not_before : (xs ys : List (List ℕ)) (x : List ℕ) → differ (xs ++ x ∷ ys) ≡ true → has_text xs x ≡ false
not_before [] ys x e = refl
not_before (t ∷ xs) ys x e =
    let parts = both (not (has_text (xs ++ x ∷ ys) t)) (differ (xs ++ x ∷ ys)) e in
    let head = other_way x t (among_at xs ys x t (not-true (has_text (xs ++ x ∷ ys) t) parts.0)) in
    rw head (not_before xs ys x parts.1)

pub has_row-pairs : (ps : List (List ℕ × List ℕ)) (id : List ℕ) → has_row id (map row_of_pair ps) ≡ has_text (ids_of ps) id
has_row-pairs [] id = refl
has_row-pairs (p ∷ ps) id = ap (λ b. bytes_eq p.0 id || b) (has_row-pairs ps id)

-- a name that has no row gets one at the end
at_row-new : (ps : List (List ℕ × List ℕ)) (id : List ℕ) (change : Row → List Row) (missing : List Row) → has_text (ids_of ps) id ≡ false
    → at_row id change missing (map row_of_pair ps) ≡ map row_of_pair ps ++ missing
at_row-new [] id change missing e = refl
at_row-new (p ∷ ps) id change missing e = go (bytes_eq p.0 id) e (at_row-new ps id change missing)
  where
    go : (b : Bool) → (b || has_text (ids_of ps) id) ≡ false → (has_text (ids_of ps) id ≡ false → at_row id change missing (map row_of_pair ps) ≡ map row_of_pair ps ++ missing)
        → cond b (change (row_of_pair p) ++ map row_of_pair ps) (row_of_pair p ∷ at_row id change missing (map row_of_pair ps)) ≡ row_of_pair p ∷ (map row_of_pair ps ++ missing)
    go true e next = absurd (true≢false e)
    go false e next = ap (λ rows. row_of_pair p ∷ rows) (next e)

no_more : {X : Type 0} (xs : List X) → xs ++ [] ≡ xs
no_more [] = refl
no_more (x ∷ xs) = ap (λ rest. x ∷ rest) (no_more xs)

map_push : (ps : List (List ℕ × List ℕ)) (p : List ℕ × List ℕ) → map row_of_pair ps ++ row_of_pair p ∷ [] ≡ map row_of_pair (ps ++ p ∷ [])
map_push [] p = refl
map_push (q ∷ ps) p = ap (λ rows. row_of_pair q ∷ rows) (map_push ps p)

-- a first use of an argument adds its row
pub used_new : (r : Rule) (ps : List (List ℕ × List ℕ)) (w : List ℕ) → has_text (ids_of ps) r.id ≡ false
    → used (built_rule r) (w ∷ []) (map row_of_pair ps) ≡ map row_of_pair (ps ++ (r.id, w) ∷ [])
used_new r ps w new =
    rw (at_row-new ps r.id (λ _. []) [] new, no_more (map row_of_pair ps)) (at_row-new ps r.id (more_values CommandLine (w ∷ [])) (row_of_pair (r.id, w) ∷ []) new ∙ map_push ps (r.id, w))

-- and passes
pub use_new : (r : Rule) (ps : List (List ℕ × List ℕ)) (w : List ℕ) → r.ignore_case ≡ false → has_text (ids_of ps) r.id ≡ false
    → use_passes false (built_rule r) (w ∷ []) (map row_of_pair ps) ≡ true
use_new r ps w case new = rw (has_row-pairs ps r.id, new) refl
