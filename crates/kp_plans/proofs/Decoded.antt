-- A word is read byte by byte as it is read whole.
use Rattle.std.proofs.Common.{◌≡◌, ℕ, Bool, true, false, List, [], ◌∷◌, ◌++◌, refl, sym, ap, ◌∙◌, Some, None, Option, option_map, ◌==◌, append_assoc}
use Rattle.kp_names_semantics.specs.Names.{Name}
use Rattle.kp_base.specs.declared.ground.GroundName.{GroundName}
use Rattle.kp_names_semantics.specs.Encoding.{underscore, dash, with_byte, split, decoded}
use Rattle.kp_names_semantics.proofs.Public.{plain_byte_stands_for_itself, what_was_encoded_decodes, decoded_is_encoding}
use Rattle.kp_plans.specs.declared.decoding.Parts.{Parts}
use Rattle.kp_plans.specs.Decoding.{with_bytes, components, Decodes}
use Rattle.kp_plans.specs.Names.{IsNameOf}

map_map : {X Y Z : Type 0} (f : X → Y) (g : Y → Z) (h : X → Z) (o : Option X) → ((x : X) → g (f x) ≡ h x) → option_map g (option_map f o) ≡ option_map h o
map_map f g h None e = refl
map_map f g h (Some x) e = ap Some (e x)

-- one more byte at the end of those in front
with_more : (bs : List ℕ) (b : ℕ) (xs : List Name) → with_bytes bs (with_byte b xs) ≡ with_bytes (bs ++ b ∷ []) xs
with_more [] b xs = refl
with_more (c ∷ bs) b xs = ap (with_byte c) (with_more bs b xs)

with_none : (bs : List ℕ) (xs : List Name) → with_bytes bs ([] ∷ xs) ≡ bs ∷ xs
with_none [] xs = refl
with_none (b ∷ bs) xs = ap (with_byte b) (with_none bs xs)

-- the parts, one by one
abbrev parts : List Name → Name → Bool → Parts
parts ended last escaped = record { ended = ended; last = last; escaped = escaped }

goes_on : (ended : List Name) (last : Name) (b : ℕ) (rest others : List ℕ) → split others ≡ option_map (with_byte b) (split rest) → option_map (λ xs. ended ++ with_bytes (last ++ b ∷ []) xs) (split rest) ≡ option_map (λ xs. ended ++ with_bytes last xs) (split others)
goes_on ended last b rest others e =
    sym (ap (option_map (λ xs. ended ++ with_bytes last xs)) e ∙ map_map (with_byte b) (λ xs. ended ++ with_bytes last xs) (λ xs. ended ++ with_bytes (last ++ b ∷ []) xs) (split rest) (λ xs. ap (λ (ys : List Name). ended ++ ys) (with_more last b xs)))

pub opens : (p q : Parts) (b : ℕ) → b ≡ underscore → p.escaped ≡ false → q.ended ≡ p.ended → q.last ≡ p.last → q.escaped ≡ true → Decodes p q b
opens p q b is e h k i = record { reads = λ rest. rw (is, e, h, k, i) refl }

pub stands : (p q : Parts) (b : ℕ) → p.escaped ≡ false → (b == underscore) ≡ false → q.ended ≡ p.ended → q.last ≡ p.last ++ b ∷ [] → q.escaped ≡ false → Decodes p q b
stands p q b e n h k i = record { reads = λ rest. rw (e, h, k, i) (goes_on p.ended p.last b rest (b ∷ rest) (plain_byte_stands_for_itself b rest n)) }

pub doubles : (p q : Parts) (b : ℕ) → b ≡ underscore → p.escaped ≡ true → q.ended ≡ p.ended → q.last ≡ p.last ++ b ∷ [] → q.escaped ≡ false → Decodes p q b
doubles p q b is e h k i = record { reads = λ rest. rw (is, e, h, k, i, is) (goes_on p.ended p.last underscore rest (underscore ∷ underscore ∷ rest) refl) }

pub ends : (p q : Parts) (b : ℕ) → b ≡ dash → p.escaped ≡ true → q.ended ≡ p.ended ++ p.last ∷ [] → q.last ≡ [] → q.escaped ≡ false → Decodes p q b
ends p q b is e h k i = record {
  reads = λ rest. rw (is, e, h, k, i)
      (sym (map_map (λ xs. [] ∷ xs) (λ xs. p.ended ++ with_bytes p.last xs) (λ xs. (p.ended ++ p.last ∷ []) ++ xs) (split rest)
      (λ xs. ap (λ (ys : List Name). p.ended ++ ys) (with_none p.last xs) ∙ sym (append_assoc p.ended (p.last ∷ []) xs))));
}

-- at the end
pub at_end : (p : Parts) → p.escaped ≡ false → components p [] ≡ Some (p.ended ++ p.last ∷ [])
at_end p e = rw e (ap (λ (ys : List Name). Some (p.ended ++ ys)) (with_none p.last []))

-- at the start
same_option : {X : Type 0} (f : X → X) (o : Option X) → ((x : X) → f x ≡ x) → option_map f o ≡ o
same_option f None e = refl
same_option f (Some x) e = ap Some (e x)

pub starts : (p : Parts) (word : List ℕ) → p.ended ≡ [] → p.last ≡ [] → p.escaped ≡ false → components p word ≡ split word
starts p word e h k = rw (e, h, k) (same_option (λ xs. xs) (split word) (λ xs. refl))

-- ---- the name

-- a name that is read is written so, and what is no name's encoding isn't read
pub is_name : (word : List ℕ) (o : Option GroundName) → o ≡ decoded word → IsNameOf word o
is_name word (Some n) e = let h = decoded_is_encoding word n (sym e) in record { parts = h.0; spelled = h.1 }
is_name word None e = λ n h. absurd (none_is_none n (e ∙ ap decoded (sym h.spelled) ∙ what_was_encoded_decodes n h.parts)) where
  none_is_none : (n : GroundName) → None ≡ Some n → ⊥
  none_is_none n e = cc
