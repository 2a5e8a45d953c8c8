-- Faults don't depend on how the names round a place are kept, but on which there are.
use Rattle.std.proofs.Common.{◌≡◌, Bool, true, false, not, ◌||◌, List, [], ◌∷◌, ◌++◌, fold, filter, take, length, Option, refl, sym, ap, ap₂, ◌∙◌}
use Rattle.std.proofs.Math.Bool.{or_comm}
use Rattle.std.proofs.Math.Seq.{take-append_seam}
use Rattle.std.proofs.lemmas.List.Sums.{fold-append}
use Rattle.kp_base.specs.Lists.{only_if}
use Rattle.kp_base.proofs.Lists.{flat_alike}
use Rattle.kp_tree_grammar.specs.declared.tree.Word.{Word}
use Rattle.kp_tree_grammar.specs.Trees.{Typed, Term, Atom, Cond, Conds, Eff, Effs, Schema, Domain, Problem}
use Rattle.kp_names_semantics.specs.Names.{Name, same, is_among, distinct}
use Rattle.kp_names_semantics.specs.Types.{declared}
use Rattle.kp_names_semantics.specs.Faults.{Fault, unknown_name, declared_twice, repeated, inside, variable_faults, head_faults, predicate_of, term_faults, atom_faults, cond_faults, conds_faults, eff_faults, effs_faults, schema_faults}
use Rattle.kp_names.specs.Noted.{noted, sooner}
use Rattle.kp_names_declared.specs.Steps.{with_name}
use Rattle.kp_names_declared.proofs.Public.{among_one_more, among_gathered, gathered_behind}

-- the same names, in whichever order
pub record Alike (xs ys : List Name) : Type 0 where
  pub each : (x : Name) → is_among xs x ≡ is_among ys x

-- ---- names that came before

one_more : (xs ys : List Name) (x : Name) → Alike xs ys → Alike (x ∷ xs) (x ∷ ys)
one_more xs ys x h = record { each = λ y. ap (λ b. same y x || b) (h.each y) }

repeated_alike : (xs ys : List Name) (ws : List Word) → Alike xs ys → repeated xs ws ≡ repeated ys ws
repeated_alike xs ys [] h = refl
repeated_alike xs ys (w ∷ ws) h =
    ap₂ (λ b rest. only_if b (declared_twice w.byte ∷ []) ++ rest) (h.each w.text) (repeated_alike (w.text ∷ xs) (w.text ∷ ys) ws (one_more xs ys w.text h))

-- a name is put behind the others, or in front of them
repeated_with : (xs : List Name) (x : Name) (ws : List Word) → repeated (with_name xs x) ws ≡ repeated (x ∷ xs) ws
repeated_with xs x ws = repeated_alike (with_name xs x) (x ∷ xs) ws (record { each = λ y. among_one_more xs x y ∙ or_comm (is_among xs y) (same y x) })

-- one word is judged, and then the others
pub noted_repeat : (o : Option Fault) (xs : List Name) (w : Word) (ws : List Word)
    → noted (noted o (only_if (is_among xs w.text) (declared_twice w.byte ∷ []))) (repeated (with_name xs w.text) ws) ≡ noted o (repeated xs (w ∷ ws))
noted_repeat o xs w ws =
    let this : List Fault = only_if (is_among xs w.text) (declared_twice w.byte ∷ []) in
    ap (noted (noted o this)) (repeated_with xs w.text ws) ∙ sym (fold-append sooner o this (repeated (w.text ∷ xs) ws))

-- ---- scopes

swap_or : (a b c : Bool) → ((a || b) || c) ≡ (b || (a || c))
swap_or true true c = refl
swap_or true false c = refl
swap_or false true c = refl
swap_or false false c = refl

among_inside : (vs scope : List Name) (x : Name) → is_among (inside vs scope) x ≡ (is_among scope x || is_among vs x)
among_inside [] scope x = or_comm false (is_among scope x)
among_inside (v ∷ vs) scope x = among_inside vs (v ∷ scope) x ∙ swap_or (same x v) (is_among scope x) (is_among vs x)

pub inside_alike : (vs s t : List Name) → Alike s t → Alike (inside vs s) (inside vs t)
inside_alike vs s t h = record { each = λ x. among_inside vs s x ∙ (ap (λ b. b || is_among vs x) (h.each x) ∙ sym (among_inside vs t x)) }

pub gathered_alike : (vs s : List Name) → Alike (fold with_name s vs) (inside vs s)
gathered_alike vs s = record { each = λ x. among_gathered s vs x ∙ sym (among_inside vs s x) }

module _ (d : Domain Word) (p : Problem Word) where
  term_alike : (s t : List Name) → Alike s t → (x : Term Word) → term_faults d p s x ≡ term_faults d p t x
  term_alike s t h (Term.name w) = refl
  term_alike s t h (Term.variable w) = ap (λ b. only_if (not b) (unknown_name w.byte ∷ [])) (h.each w.text)

  atom_alike : (s t : List Name) → Alike s t → (a : Atom Word) → atom_faults d p s a ≡ atom_faults d p t a
  atom_alike s t h a = ap (λ fs. head_faults (predicate_of d a) a ++ fs) (flat_alike (term_faults d p s) (term_faults d p t) a.terms (λ x m. term_alike s t h x))

  mutual
    pub cond_alike : (s t : List Name) → Alike s t → (c : Cond Word) → cond_faults d p s c ≡ cond_faults d p t c
    cond_alike s t h (Cond.all cs) = conds_alike s t h cs
    cond_alike s t h (Cond.atom positive a) = atom_alike s t h a
    cond_alike s t h (Cond.same positive left right) = ap₂ (λ fs gs. fs ++ gs) (term_alike s t h left) (term_alike s t h right)

    conds_alike : (s t : List Name) → Alike s t → (cs : Conds Word) → conds_faults d p s cs ≡ conds_faults d p t cs
    conds_alike s t h Conds.no_cond = refl
    conds_alike s t h (Conds.more_conds c cs) = ap₂ (λ fs gs. fs ++ gs) (cond_alike s t h c) (conds_alike s t h cs)

  mutual
    pub eff_alike : (s t : List Name) → Alike s t → (e : Eff Word) → eff_faults d p s e ≡ eff_faults d p t e
    eff_alike s t h (Eff.both es) = effs_alike s t h es
    eff_alike s t h (Eff.when c e) = ap₂ (λ fs gs. fs ++ gs) (cond_alike s t h c) (eff_alike s t h e)
    eff_alike s t h (Eff.each xs e) = ap (λ fs. variable_faults d xs ++ fs) (eff_alike (inside (declared xs) s) (inside (declared xs) t) (inside_alike (declared xs) s t h) e)
    eff_alike s t h (Eff.makes positive a) = atom_alike s t h a

    effs_alike : (s t : List Name) → Alike s t → (es : Effs Word) → effs_faults d p s es ≡ effs_faults d p t es
    effs_alike s t h Effs.no_eff = refl
    effs_alike s t h (Effs.more_effs e es) = ap₂ (λ fs gs. fs ++ gs) (eff_alike s t h e) (effs_alike s t h es)

  -- the variables of a list are put to the others each once
  pub eff_gathered : (s : List Name) (xs : List (Typed Word)) (e : Eff Word) → eff_faults d p (fold with_name s (declared xs)) e ≡ eff_faults d p (inside (declared xs) s) e
  eff_gathered s xs e = eff_alike (fold with_name s (declared xs)) (inside (declared xs) s) (gathered_alike (declared xs) s) e

  pub cond_gathered : (s : List Name) (xs : List (Typed Word)) (c : Cond Word) → cond_faults d p (fold with_name s (declared xs)) c ≡ cond_faults d p (inside (declared xs) s) c
  cond_gathered s xs c = cond_alike (fold with_name s (declared xs)) (inside (declared xs) s) (gathered_alike (declared xs) s) c

  -- ---- what is noted of forms with variables

  pub noted_each : (o : Option Fault) (s : List Name) (xs : List (Typed Word)) (e : Eff Word)
      → noted (noted o (variable_faults d xs)) (eff_faults d p (fold with_name s (declared xs)) e) ≡ noted o (eff_faults d p s (Eff.each xs e))
  noted_each o s xs e = ap (noted (noted o (variable_faults d xs))) (eff_gathered s xs e) ∙ sym (fold-append sooner o (variable_faults d xs) (eff_faults d p (inside (declared xs) s) e))

  pub noted_schema : (o : Option Fault) (a : Schema Word)
      → noted (noted (noted o (variable_faults d a.params)) (cond_faults d p (fold with_name [] (declared a.params)) a.pre)) (eff_faults d p (fold with_name [] (declared a.params)) a.effect) ≡ noted o (schema_faults d p a)
  noted_schema o a =
      let variables : List Fault = variable_faults d a.params in
      let pre : List Fault = cond_faults d p (inside (declared a.params) []) a.pre in
      let effect : List Fault = eff_faults d p (inside (declared a.params) []) a.effect in
      ap₂ (λ fs gs. noted (noted (noted o variables) fs) gs) (cond_gathered [] a.params a.pre) (eff_gathered [] a.params a.effect)
      ∙ (sym (fold-append sooner (noted o variables) pre effect) ∙ sym (fold-append sooner o variables (pre ++ effect)))

-- the names that were there stand first
pub take_first : (s vs : List Name) → take (length s) (fold with_name s vs) ≡ s
take_first s vs = ap (take (length s)) (gathered_behind s vs) ∙ take-append_seam s (filter (λ y. not (is_among s y)) (distinct vs))
