-- Lines that differ in one number, as they are spelled.
use Rattle.std.proofs.Common.{◌≡◌, ◌++◌, ℕ, List, [], ◌∷◌, codes, map, refl, sym, ap, ap₂, ◌∙◌, append_assoc}
use Rattle.std.specs.List.{flat_map}
use Rattle.std.proofs.lemmas.Grind.{flat_map-append}
use Rattle.kp_gen.specs.Lines.{text}
use Rattle.kp_gen.specs.Numbered.{numbered}
use Rattle.kp_gen.specs.Line.{cell, at_cell}
use Rattle.kp_gen.specs.Bombs.{package_name, armed, disarmed}

-- lines of which each is a number with the same in front and behind
each_line : (line : ℕ → List ℕ) (front behind : List ℕ) → ((i : ℕ) → numbered front behind i ≡ line i ++ codes "\n") → (ns : List ℕ) → flat_map (numbered front behind) ns ≡ text (map line ns)
each_line line front behind is [] = refl
each_line line front behind is (n ∷ ns) = ap₂ (λ a b. a ++ b) (is n) (each_line line front behind is ns)

pub cells : (ns : List ℕ) → flat_map (numbered (codes "c") (codes "\n")) ns ≡ text (map cell ns)
cells ns = each_line cell (codes "c") (codes "\n") (λ i. refl) ns

pub at_cells : (ns : List ℕ) → flat_map (numbered (codes "(at c") (codes ")\n")) ns ≡ text (map at_cell ns)
at_cells ns = each_line at_cell (codes "(at c") (codes ")\n") (λ i. simp append_assoc) ns

pub packages : (ns : List ℕ) → flat_map (numbered (codes "p") (codes "\n")) ns ≡ text (map package_name ns)
packages ns = each_line package_name (codes "p") (codes "\n") (λ i. refl) ns

pub all_armed : (ns : List ℕ) → flat_map (numbered (codes "(armed p") (codes ")\n")) ns ≡ text (map armed ns)
all_armed ns = each_line armed (codes "(armed p") (codes ")\n") (λ i. simp append_assoc) ns

pub all_disarmed : (ns : List ℕ) → flat_map (numbered (codes "(not (armed p") (codes "))\n")) ns ≡ text (map disarmed ns)
all_disarmed ns = each_line disarmed (codes "(not (armed p") (codes "))\n") (λ i. simp append_assoc) ns

-- more lines behind those that were added
pub more : (old now new : List ℕ) (ls ms : List (List ℕ)) → now ≡ old ++ text ls → new ≡ now ++ text ms → new ≡ old ++ text (ls ++ ms)
more old now new ls ms a b = b ∙ (ap (λ z. z ++ text ms) a ∙ (append_assoc old (text ls) (text ms) ∙ ap (λ z. old ++ z) (sym (flat_map-append (λ line. line ++ codes "\n") ls ms))))
